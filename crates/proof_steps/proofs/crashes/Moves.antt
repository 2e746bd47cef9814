-- A parent's moves of its log and its crashes keep the invariant under either presumption.
use Rattle.std.proofs.Common.{◌≡◌, false}
use Rattle.protocol.specs.declared.names.Presumption.{Presumption}
use Rattle.protocol.specs.declared.names.Presumption.TheVariants.{PresumeAbort, PresumeCommit}
use Rattle.proof_pairs.specs.Reading.{Reading}
use Rattle.proof_pairs.specs.ParentMoves
use Rattle.proof_pairs.specs.ParentCrash
use Rattle.proof_pairs.specs.ParentCrash.{ParentFront}
use Rattle.proof_pairs.specs.Standing.{IsUnknownUnderAbort, IsUnknownUnderCommit}
use Rattle.proof_pairs.proofs.ParentAbort
use Rattle.proof_pairs.proofs.ParentCommit
use Rattle.proof_pairs.proofs.ParentCrashAbort
use Rattle.proof_pairs.proofs.ParentCrashCommit
use Rattle.proof_processes.specs.WorldHolds.{InvariantOf}
use Rattle.proof_steps.proofs.children.Moves.{Fits}

pub hardens : (pr : Presumption) (r : Reading) → InvariantOf pr r → r.failed ≡ false
    → Fits pr r (ParentMoves.hardens_parent r)
hardens PresumeAbort r h up = ParentAbort.hardens_parent r h (record { up = up })
hardens PresumeCommit r h up = ParentCommit.hardens_parent r h (record { up = up })

-- what a trim asks: the case is unknown
abbrev pub MayTrim : Presumption → Reading → Type 0
MayTrim PresumeAbort r = IsUnknownUnderAbort r
MayTrim PresumeCommit r = IsUnknownUnderCommit r

pub trims : (pr : Presumption) (r : Reading) → InvariantOf pr r → MayTrim pr r
    → Fits pr r (ParentMoves.trims_parent r)
trims PresumeAbort r h g = ParentAbort.trims_parent r h g
trims PresumeCommit r h g = ParentCommit.trims_parent r h g

pub fails : (pr : Presumption) (r : Reading) → InvariantOf pr r → r.failed ≡ false
    → Fits pr r (ParentCrash.parent_fails r)
fails PresumeAbort r h up = ParentCrashAbort.parent_fails r h (record { up = up })
fails PresumeCommit r h up = ParentCrashCommit.parent_fails r h (record { up = up })

pub hardens_failed : (pr : Presumption) (front : ParentFront) (r : Reading) → InvariantOf pr r
    → ParentCrash.MayHardenFailedParent front r → Fits pr r (ParentCrash.hardens_failed_parent front r)
hardens_failed PresumeAbort front r h g = ParentCrashAbort.hardens_failed_parent front r h g
hardens_failed PresumeCommit front r h g = ParentCrashCommit.hardens_failed_parent front r h g

pub loses : (pr : Presumption) (front : ParentFront) (r : Reading) → InvariantOf pr r
    → ParentCrash.IsParentFront front r
    → Fits pr r (ParentCrash.parent_loses front r)
loses PresumeAbort front r h g = ParentCrashAbort.parent_loses front r h g
loses PresumeCommit front r h g = ParentCrashCommit.parent_loses front r h g
