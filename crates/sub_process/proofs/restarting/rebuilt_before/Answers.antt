use Rattle.std.proofs.Common.{◌∙◌, [], subst}
use Rattle.protocol.specs.Views.{leaf_place}
use Rattle.sub_branches.specs.Rebuilt.{BranchesNotRebuilt, RebuildsBranches}
use Rattle.sub_process.proofs.restarting.rebuilt_before.Goals as goal

pub rebuild-requires : goal.rebuild-requires
rebuild-requires g c = (
  [],
  c.nothing.ensures
      (leaf_place c.args.me c.args.parent c.args.tree.now) c.args.parent,
)

pub returns-in-Ok-clause-ok : goal.returns-in-Ok-clause-ok
returns-in-Ok-clause-ok g c =
    subst (λ ls. RebuildsBranches (leaf_place c.args.me c.args.parent c.args.tree.now) c.args.parent ls
    c.in-Ok.rebuilt)
    (c.deref.ensures.value ∙ c.in_ok-records.ensures)
    (c.in-Ok.ensures.ok [] (c.nothing.ensures
    (leaf_place c.args.me c.args.parent c.args.tree.now) c.args.parent))

pub returns-clause-err : goal.returns-clause-err
returns-clause-err g c =
    subst (λ ls. BranchesNotRebuilt (leaf_place c.args.me c.args.parent c.args.tree.now) ls c.in-Err.error)
    (c.deref.ensures.value ∙ c.in_ok-records.ensures)
    (c.in-Err.ensures.err [] (c.nothing.ensures
    (leaf_place c.args.me c.args.parent c.args.tree.now) c.args.parent))
