use Rattle.std.proofs.Common.{◌≡◌, None, Some, ap, sym, ◌∙◌}
use Rattle.protocol.specs.declared.events.Reaction.{Reaction}
use Rattle.coord_process.proofs.Begun.{begin_names}
use Rattle.coord_process.proofs.coordinator.Coordinator.begin.Goals as goal

pub unreachable-requires : goal.unreachable-requires
unreachable-requires g c =
    let named = begin_names _ _ c.args.presumption c.in_ok-reaction.reaction c.in_ok-reaction.ensures.ok in
    let clash : None ≡ Some named.0 = sym c.in-None.is ∙ ap (λ (r : Reaction). r.begun) named.1 in
    absurd (cc)
