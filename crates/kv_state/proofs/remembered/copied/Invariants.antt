use Rattle.std.proofs.Common.{drop}
use Rattle.xa_branch.specs.Cases.{open_cases}
use Rattle.kv_state.proofs.Remembering.{IsCopying}
use Rattle.kv_state.proofs.remembered.copied.Given as goal

abbrev pub invariant-loop-xid : goal.invariant-loop-xid
invariant-loop-xid l = IsCopying l.fn.decisions (drop l.xid-index (open_cases l.fn.decisions)) l.copy
