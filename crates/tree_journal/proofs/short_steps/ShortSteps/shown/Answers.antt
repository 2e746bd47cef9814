use Rattle.std.proofs.Common.{◌≡◌, ◌≤◌, ◌∙◌, ap, sym, length, rules}
use Rattle.std.specs.Prelude.{option_map, slice_get}
use Rattle.tree_journal.specs.Kept.{StepsState, parts_of}
use Rattle.tree_journal.specs.Shown.{entry_part}
use Rattle.tree_journal.specs.Steps.{first_starts, placed_steps}
use Rattle.tree_journal.proofs.Placed.{none_found, placed_length}
use Rattle.tree_journal.proofs.Steps.{entry_past, entry_past_last, last_part_found, part_found}
use Rattle.tree_journal.proofs.short_steps.ShortSteps.shown.Goals as goal

pub returns-in-Some : goal.returns-in-Some
returns-in-Some c =
    c.shown.ensures
    ∙ part_found (parts_of c.self.inside.parts) (placed_steps c.self.inside.steps.items)
    c.self.inside.last c.args.place c.in-Some.step c.self.invariant.whole (search rules)
    ∙ ap (λ (j : StepsState). option_map entry_part (slice_get j.entries c.args.place)) c.self.view_is

pub returns-in-None-last : goal.returns-in-None-last
returns-in-None-last c =
    let past : length (placed_steps c.self.inside.steps.items) ≤ c.args.place =
    none_found (placed_steps c.self.inside.steps.items) c.args.place (search rules) in
    sym
    (ap (λ (j : StepsState). option_map entry_part (slice_get j.entries c.args.place)) (sym c.self.view_is)
    ∙ ap (option_map entry_part)
    (entry_past (parts_of c.self.inside.parts) (placed_steps c.self.inside.steps.items)
    c.self.inside.last c.args.place c.self.invariant.whole c.in-None-last.is past))

pub returns-then-place-len : goal.returns-then-place-len
returns-then-place-len c =
    let last : c.args.place ≡ length (placed_steps c.self.inside.steps.items) =
    search (rules, placed_length first_starts c.self.inside.steps.items) in
    c.last_shown.ensures
    ∙ last_part_found (parts_of c.self.inside.parts) (placed_steps c.self.inside.steps.items)
    c.self.inside.last
    c.in-Some-last.last c.args.place c.self.invariant.whole c.in-Some-last.is last
    ∙ ap (λ (j : StepsState). option_map entry_part (slice_get j.entries c.args.place)) c.self.view_is

pub returns-else-place-len : goal.returns-else-place-len
returns-else-place-len c =
    let past : length (placed_steps c.self.inside.steps.items) ≤ c.args.place =
    none_found (placed_steps c.self.inside.steps.items) c.args.place (search rules) in
    let many = placed_length first_starts c.self.inside.steps.items in
    sym
    (ap (λ (j : StepsState). option_map entry_part (slice_get j.entries c.args.place)) (sym c.self.view_is)
    ∙ ap (option_map entry_part)
    (entry_past_last (parts_of c.self.inside.parts) (placed_steps c.self.inside.steps.items)
    c.self.inside.last
    c.in-Some-last.last c.args.place c.self.invariant.whole c.in-Some-last.is past (search (rules, many))))
