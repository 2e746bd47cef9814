use Rattle.std.proofs.Common.{◌≡◌, ◌≤◌, ◌∙◌, ap, sym, subst, length, IfOk, rules}
use Rattle.std.specs.Prelude.{slice_get}
use Rattle.tree_journal.specs.Kept.{StepsState, parts_of}
use Rattle.tree_journal.specs.Steps.{entry_of_part, first_starts, happening_in, placed_steps}
use Rattle.tree_journal.proofs.Placed.{none_found, placed_length}
use Rattle.tree_journal.proofs.Steps.{entry_found, entry_past, entry_past_last, last_entry_found}
use Rattle.tree_journal.proofs.short_steps.ShortSteps.entry.Goals as goal

pub returns-in-Some : goal.returns-in-Some
returns-in-Some c =
    subst (λ o. IfOk c.entry.result (λ f. f ≡ o))
    (ap (entry_of_part (happening_in (parts_of c.self.inside.parts) c.in-Some.step.cause)) c.shown.ensures
    ∙ entry_found (parts_of c.self.inside.parts) (placed_steps c.self.inside.steps.items)
    c.self.inside.last c.args.place c.in-Some.step c.self.invariant.whole (search rules)
    ∙ ap (λ (j : StepsState). slice_get j.entries c.args.place) c.self.view_is) c.entry.ensures

pub returns-in-None-last : goal.returns-in-None-last
returns-in-None-last c =
    let past : length (placed_steps c.self.inside.steps.items) ≤ c.args.place =
    none_found (placed_steps c.self.inside.steps.items) c.args.place (search rules) in
    sym
    (ap (λ (j : StepsState). slice_get j.entries c.args.place) (sym c.self.view_is)
    ∙ entry_past (parts_of c.self.inside.parts) (placed_steps c.self.inside.steps.items)
    c.self.inside.last c.args.place c.self.invariant.whole c.in-None-last.is past)

pub returns-then-place-len : goal.returns-then-place-len
returns-then-place-len c =
    let last : c.args.place ≡ length (placed_steps c.self.inside.steps.items) =
    search (rules, placed_length first_starts c.self.inside.steps.items) in
    subst (λ o. IfOk c.entry-then-place-len.result (λ f. f ≡ o))
    (ap (entry_of_part (happening_in (parts_of c.self.inside.parts) c.in-Some-last.last.cause))
    c.last_shown.ensures
    ∙ last_entry_found (parts_of c.self.inside.parts) (placed_steps c.self.inside.steps.items)
    c.self.inside.last
    c.in-Some-last.last c.args.place c.self.invariant.whole c.in-Some-last.is last
    ∙ ap (λ (j : StepsState). slice_get j.entries c.args.place) c.self.view_is) c.entry-then-place-len.ensures

pub returns-else-place-len : goal.returns-else-place-len
returns-else-place-len c =
    let past : length (placed_steps c.self.inside.steps.items) ≤ c.args.place =
    none_found (placed_steps c.self.inside.steps.items) c.args.place (search rules) in
    let many = placed_length first_starts c.self.inside.steps.items in
    sym
    (ap (λ (j : StepsState). slice_get j.entries c.args.place) (sym c.self.view_is)
    ∙ entry_past_last (parts_of c.self.inside.parts) (placed_steps c.self.inside.steps.items)
    c.self.inside.last
    c.in-Some-last.last c.args.place c.self.invariant.whole c.in-Some-last.is past (search (rules, many)))
