use Rattle.std.proofs.Common.{◌≡◌, ◌∙◌, ◌+◌, ap, sym, length, rules}
use Rattle.tree_journal.specs.Kept.{StepsState, parts_of}
use Rattle.tree_journal.specs.Steps.{first_starts, placed_steps}
use Rattle.tree_journal.proofs.Placed.{placed_length}
use Rattle.tree_journal.proofs.Steps.{as_many_last, as_many_placed}
use Rattle.tree_journal.proofs.short_steps.ShortSteps.len.Goals as goal

pub returns-in-None : goal.returns-in-None
returns-in-None c =
    let steps : c.len.result ≡ length c.self.inside.steps.items = search rules in
    steps ∙ sym (placed_length first_starts c.self.inside.steps.items)
    ∙ sym (as_many_placed (parts_of c.self.inside.parts) (placed_steps c.self.inside.steps.items)
    c.self.inside.last c.self.invariant.whole c.in-None.is)
    ∙ ap (λ (j : StepsState). length j.entries) c.self.view_is

pub returns-in-Some : goal.returns-in-Some
returns-in-Some c =
    let steps : c.len-in-Some.result ≡ length c.self.inside.steps.items = search rules in
    ap (λ n. n + 1) (steps ∙ sym (placed_length first_starts c.self.inside.steps.items))
    ∙ sym (as_many_last (parts_of c.self.inside.parts) (placed_steps c.self.inside.steps.items)
    c.self.inside.last _ c.self.invariant.whole c.in-Some.is)
    ∙ ap (λ (j : StepsState). length j.entries) c.self.view_is
