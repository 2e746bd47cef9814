use Rattle.std.proofs.Common.{take}
use Rattle.protocol.specs.Views.{leaf_place}
use Rattle.sub_branches.proofs.Remembering.{ReadsTo}
use Rattle.sub_branches.proofs.rebuilt.read.Given as goal

abbrev pub invariant-loop-next : goal.invariant-loop-next
invariant-loop-next l = ReadsTo (leaf_place l.fn.me l.fn.parent l.fn.tree) l.fn.parent l.fn.cases
    (take l.next-index l.fn.records) l.cases
