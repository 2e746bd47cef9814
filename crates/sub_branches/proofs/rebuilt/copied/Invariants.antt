use Rattle.std.proofs.Common.{drop}
use Rattle.sub_branches.proofs.Remembering.{IsCopying}
use Rattle.sub_branches.proofs.rebuilt.copied.Given as goal

abbrev pub invariant-loop-case : goal.invariant-loop-case
invariant-loop-case l = IsCopying l.fn.branches (drop l.case-index l.fn.cases) l.copy
