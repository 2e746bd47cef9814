use Rattle.std.proofs.Common.{◌≡◌, ◌∙◌, ◌⊎◌, inr, ap, sym, subst, List, [], ◌∷◌, ◌++◌, drop, take, ◌+◌}
use Rattle.std.proofs.lemmas.List.{at_drop_more}
use Rattle.protocol.specs.declared.events.Event.{Event}
use Rattle.tree_state.specs.Worlds.{WorldState}
use Rattle.report_io.specs.declared.streams.Failure.TheVariants.{Memory}
use Rattle.tree_engine.specs.Failures.{CannotMake}
use Rattle.tree_engine.specs.Runs.{HasCome}
use Rattle.tree_world.proofs.Handling.{passed_on}
use Rattle.tree_engine.proofs.Going.{cannot_all}
use Rattle.tree_engine.proofs.drawn.make_turns.Goals as goal

pub returns-in_err-make-clause-err : goal.returns-in_err-make-clause-err
returns-in_err-make-clause-err c =
    let events = c.args.events.now in
    let k = c.loop-event.event-index in
    let rest = drop (k + 1) events in
    let next : drop k events ≡ c.event-item.result ∷ rest =
    at_drop_more (λ es. es) events k c.event-item.result c.loop-event-test.true
    ∙ ap (λ e. e ∷ rest) (sym c.event-item.is) in
    let why = c.in_err-make.field-0.0 in
    passed_on c.from_residual-in_err-make.result why
    (λ why. (why ≡ Memory) ⊎ ((start : WorldState) (given : List Event)
    → HasCome start given c.args.run.now → CannotMake start (given ++ events) why))
    c.from_residual-in_err-make.ensures.1
    (inr (λ start given h. cannot_all start given events k c.event-item.result rest why next
    (subst (λ e. CannotMake start ((given ++ take k events) ++ e ∷ []) why) c.in_ok-copied.ensures
    (c.in_err-make.ensures.err start (given ++ take k events) (c.loop-event.invariant.0 start given h)))))
