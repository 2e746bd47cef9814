use Rattle.std.proofs.Common.{◌≡◌, ◌∙◌, ap, sym, option_map, take, None, Some, rules}
use Rattle.std.specs.Prelude.{slice_get}
use Rattle.std.proofs.lemmas.Option.{slice_get_past, slice_get_read}
use Rattle.tree_journal.specs.Steps.{ends_after, first_starts, placed_step}
use Rattle.tree_journal.proofs.Placed.{placed_at}
use Rattle.tree_journal.proofs.placed_step.step_at.Goals as goal

pub returns-in_err-step : goal.returns-in_err-step
returns-in_err-step c =
    let none : slice_get c.args.steps.now c.args.place ≡ None = search (rules, slice_get_past) in
    c.from_residual.ensures
    ∙ sym (placed_at first_starts c.args.steps.now c.args.place
    ∙ ap (option_map (placed_step (ends_after first_starts (take c.args.place c.args.steps.now)))) none)

pub returns : goal.returns
returns c =
    let some : slice_get c.args.steps.now c.args.place ≡ Some c.in_ok-step.step.now =
    search (rules, slice_get_read) in
    sym (placed_at first_starts c.args.steps.now c.args.place
    ∙ ap (option_map (placed_step (ends_after first_starts (take c.args.place c.args.steps.now)))) some
    ∙ ap (λ e. Some (placed_step e c.in_ok-step.step.now)) (sym c.starts_at-starts.ensures))
