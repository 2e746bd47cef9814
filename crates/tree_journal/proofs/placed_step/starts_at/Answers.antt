use Rattle.tree_journal.specs.Steps.{first_starts}
use Rattle.tree_journal.proofs.Placed.{starts_found}
use Rattle.tree_journal.proofs.placed_step.starts_at.Goals as goal

pub returns : goal.returns
returns c = starts_found first_starts c.args.steps.now c.args.place _ c.if-place-eq0.false c.requires
