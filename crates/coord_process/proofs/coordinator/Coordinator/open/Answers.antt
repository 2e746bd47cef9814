use Rattle.coord_process.proofs.Kept.{opened_keeps}
use Rattle.coord_process.proofs.Opened.{opened}
use Rattle.coord_process.proofs.coordinator.Coordinator.open.Goals as goal

pub returns-in-Ok-clause-ok : goal.returns-in-Ok-clause-ok
returns-in-Ok-clause-ok g c =
    opened c.args.me c.args.parent c.args.tree c.args.log c.write_opened.new.log c.new.result c.requires.form
    c.requires.empty
    c.requires.works c.in-Ok.ensures.ok c.new.ensures

pub invariant_of-result : goal.invariant_of-result
invariant_of-result g c = (
  opened_keeps c.args.me c.args.parent c.args.tree c.args.log c.write_opened.new.log
      c.new.result c.requires.form
      c.in-Ok.ensures.ok c.new.ensures,
  tt,
)
