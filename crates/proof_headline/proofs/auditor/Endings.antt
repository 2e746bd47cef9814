-- A parent's case that ended leaves no child in doubt.
use Rattle.std.proofs.Common.{◌≡◌, false, arith}
use Rattle.protocol.specs.declared.names.Presumption.{Presumption}
use Rattle.protocol.specs.declared.names.Presumption.TheVariants.{PresumeAbort, PresumeCommit}
use Rattle.proof_pairs.specs.Invariant.{PresumedAbort, PresumedCommit}
use Rattle.proof_pairs.specs.Reading.{Reading}
use Rattle.proof_pairs.specs.Standing.{IsInDoubt}
use Rattle.proof_processes.specs.WorldHolds.{InvariantOf}

under_abort : (r : Reading) → PresumedAbort r → IsInDoubt r → r.end_kept ≡ false
under_abort r h d = grind arith

under_commit : (r : Reading) → PresumedCommit r → IsInDoubt r → r.end_kept ≡ false
under_commit r h d = grind arith

pub none_ended : (p : Presumption) (r : Reading) → InvariantOf p r → IsInDoubt r → r.end_kept ≡ false
none_ended PresumeAbort r h d = under_abort r h d
none_ended PresumeCommit r h d = under_commit r h d
