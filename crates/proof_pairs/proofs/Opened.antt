-- The invariant holds if nothing has happened.
use Rattle.std.proofs.Common.{Bool, arith}
use Rattle.proof_pairs.specs.Invariant.{PresumedAbort, PresumedCommit}
use Rattle.proof_pairs.specs.Opened.{opened}

pub opened_abort : (root manager : Bool) → PresumedAbort (opened root manager)
opened_abort root manager = grind arith

pub opened_commit : (root manager : Bool) → PresumedCommit (opened root manager)
opened_commit root manager = grind arith
