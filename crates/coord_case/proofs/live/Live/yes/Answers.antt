use Rattle.coord_case.proofs.Children.{yes_of-cast}
use Rattle.std.proofs.Common.{◌≡◌, IfOk, filter, subst, ap, sym, ◌∙◌}
use Rattle.protocol.specs.Memory.{yes_of}
use Rattle.protocol.specs.declared.standings.Vote.TheVariants.{Yes}
use Rattle.coord_case.specs.Lives.{accepted_in, is_vote, votes_in}
use Rattle.coord_case.proofs.live.Live.yes.Goals as goal

pub returns : goal.returns
returns c =
    let e : yes_of (accepted_in c.self.inside.children.items) (votes_in c.self.inside.children.items)
    ≡ accepted_in (filter (λ d. is_vote Yes d.vote) c.as_slice.result.now) =
    yes_of-cast c.self.inside.children.items c.self.invariant.distinct
    ∙ ap (λ cs. accepted_in (filter (λ d. is_vote Yes d.vote) cs)) (sym c.as_slice.ensures) in
    rw (← c.self.view_is) (subst (λ ts. IfOk c.yes_of.result (λ v. v.items ≡ ts)) (sym e) c.yes_of.ensures)
