use Rattle.coord_case.proofs.Children.{undecided_of-cast}
use Rattle.std.proofs.Common.{◌≡◌, IfOk, filter, subst, ap, sym, ◌∙◌}
use Rattle.protocol.specs.Memory.{undecided_of}
use Rattle.coord_case.specs.Lives.{accepted_in, is_undecided, votes_in}
use Rattle.coord_case.proofs.live.Live.undecided.Goals as goal

pub returns : goal.returns
returns c =
    let e : undecided_of (accepted_in c.self.inside.children.items) (votes_in c.self.inside.children.items)
    ≡ accepted_in (filter (λ d. is_undecided d.vote) c.as_slice.result.now) =
    undecided_of-cast c.self.inside.children.items c.self.invariant.distinct
    ∙ ap (λ cs. accepted_in (filter (λ d. is_undecided d.vote) cs)) (sym c.as_slice.ensures) in
    rw (← c.self.view_is) (subst (λ ts. IfOk c.undecided_of.result (λ v. v.items ≡ ts))
    (sym e) c.undecided_of.ensures)
