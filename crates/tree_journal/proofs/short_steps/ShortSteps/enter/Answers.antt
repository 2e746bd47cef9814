use Rattle.std.proofs.Common.{◌≡◌, ◌∙◌, ap, sym, true, ◌++◌, ◌∷◌, [], Some, rules}
use Rattle.tree_state.specs.Worlds.{step_entry}
use Rattle.tree_journal.specs.Kept.{StepsState, is_placed, parts_of}
use Rattle.tree_journal.specs.Steps.{ends_of, entries_of, parts_begun, placed_steps}
use Rattle.tree_journal.proofs.Steps.{begun_behind}
use Rattle.tree_journal.proofs.short_steps.ShortSteps.enter.Goals as goal

pub invariant_of-self : goal.invariant_of-self
invariant_of-self c =
    let placed : is_placed c.self.inside.last ≡ true =
    ap (λ (j : StepsState). j.room.is_placed) c.self.view_is ∙ c.requires.room.placed in
    record {
      whole = rw (c.begin.ensures.parts, c.begin.ensures.last)
          (begun_behind (parts_of c.self.inside.parts) (placed_steps c.self.inside.steps.items)
          c.self.inside.last c.args.process
          c.args.happening c.args.reaction placed c.self.invariant.whole (search rules)).1;
      ends = c.self.invariant.ends ∙ sym (ap ends_of c.begin.ensures.parts);
    }

pub returns-clause-entries : goal.returns-clause-entries
returns-clause-entries c =
    let placed : is_placed c.self.inside.last ≡ true =
    ap (λ (j : StepsState). j.room.is_placed) c.self.view_is ∙ c.requires.room.placed in
    let entries : entries_of (parts_of c.begin.new.self) (placed_steps c.self.inside.steps.items)
    (Some c.begin.result)
    ≡ entries_of (parts_of c.self.inside.parts) (placed_steps c.self.inside.steps.items) c.self.inside.last
    ++ step_entry c.args.process c.args.happening c.args.reaction ∷ [] =
    ap (λ ps. entries_of ps (placed_steps c.self.inside.steps.items) (Some c.begin.result))
    c.begin.ensures.parts
    ∙ ap (λ l. entries_of (parts_begun (parts_of c.self.inside.parts) c.args.happening c.args.reaction)
    (placed_steps c.self.inside.steps.items) (Some l)) c.begin.ensures.last
    ∙ (begun_behind (parts_of c.self.inside.parts) (placed_steps c.self.inside.steps.items)
    c.self.inside.last c.args.process
    c.args.happening c.args.reaction placed c.self.invariant.whole (search rules)).0 in
    entries
    ∙ ap (λ (j : StepsState). j.entries ++ step_entry c.args.process c.args.happening c.args.reaction ∷ [])
    c.self.view_is
