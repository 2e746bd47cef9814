-- A child's faults keep the invariant under either presumption.
use Rattle.std.proofs.Common.{Bool}
use Rattle.protocol.specs.declared.names.Presumption.{Presumption}
use Rattle.protocol.specs.declared.names.Presumption.TheVariants.{PresumeAbort, PresumeCommit}
use Rattle.proof_pairs.specs.Reading.{Reading}
use Rattle.proof_pairs.specs.ChildCrash
use Rattle.proof_pairs.specs.ChildCrash.{ChildFront}
use Rattle.proof_pairs.proofs.ChildCrashAbort
use Rattle.proof_pairs.proofs.ChildCrashCommit
use Rattle.proof_processes.specs.WorldHolds.{InvariantOf}
use Rattle.proof_steps.proofs.children.Moves.{Fits}

pub child_fails : (pr : Presumption) (r : Reading) → InvariantOf pr r → ChildCrash.MayFailChild r
    → Fits pr r (ChildCrash.child_fails r)
child_fails PresumeAbort r h g = ChildCrashAbort.child_fails r h g
child_fails PresumeCommit r h g = ChildCrashCommit.child_fails r h g

pub fails_to_promise : (pr : Presumption) (r : Reading) → InvariantOf pr r → ChildCrash.MayFailToPromise r
    → Fits pr r (ChildCrash.fails_to_promise r)
fails_to_promise PresumeAbort r h g = ChildCrashAbort.fails_to_promise r h g
fails_to_promise PresumeCommit r h g = ChildCrashCommit.fails_to_promise r h g

pub fails_to_commit : (pr : Presumption) (r : Reading) → InvariantOf pr r → ChildCrash.MayFailToLearnCommit r
    → Fits pr r (ChildCrash.fails_to_commit r)
fails_to_commit PresumeAbort r h g = ChildCrashAbort.fails_to_commit r h g
fails_to_commit PresumeCommit r h g = ChildCrashCommit.fails_to_commit r h g

pub fails_to_roll_back : (pr : Presumption) (r : Reading) → InvariantOf pr r
    → ChildCrash.MayFailToLearnAbort r → Fits pr r (ChildCrash.fails_to_roll_back r)
fails_to_roll_back PresumeAbort r h g = ChildCrashAbort.fails_to_roll_back r h g
fails_to_roll_back PresumeCommit r h g = ChildCrashCommit.fails_to_roll_back r h g

pub fails_to_decide_alone : (pr : Presumption) (o : Bool) (r : Reading) → InvariantOf pr r
    → ChildCrash.MayFailToDecideAlone r → Fits pr r (ChildCrash.fails_to_decide_alone o r)
fails_to_decide_alone PresumeAbort o r h g = ChildCrashAbort.fails_to_decide_alone o r h g
fails_to_decide_alone PresumeCommit o r h g = ChildCrashCommit.fails_to_decide_alone o r h g

pub fails_to_forget : (pr : Presumption) (r : Reading) → InvariantOf pr r → ChildCrash.MayFailToForget r
    → Fits pr r (ChildCrash.fails_to_forget r)
fails_to_forget PresumeAbort r h g = ChildCrashAbort.fails_to_forget r h g
fails_to_forget PresumeCommit r h g = ChildCrashCommit.fails_to_forget r h g

pub hardens_failed : (pr : Presumption) (front : ChildFront) (r : Reading) → InvariantOf pr r
    → ChildCrash.MayHardenFailedChild front r → Fits pr r (ChildCrash.hardens_failed_child front r)
hardens_failed PresumeAbort front r h g = ChildCrashAbort.hardens_failed_child front r h g
hardens_failed PresumeCommit front r h g = ChildCrashCommit.hardens_failed_child front r h g

pub loses : (pr : Presumption) (front : ChildFront) (r : Reading) → InvariantOf pr r
    → ChildCrash.IsChildFront front r → Fits pr r (ChildCrash.child_loses front r)
loses PresumeAbort front r h g = ChildCrashAbort.child_loses front r h g
loses PresumeCommit front r h g = ChildCrashCommit.child_loses front r h g

pub restarts : (pr : Presumption) (front : ChildFront) (r : Reading) → InvariantOf pr r
    → ChildCrash.IsChildFront front r → Fits pr r (ChildCrash.child_restarts front r)
restarts PresumeAbort front r h g = ChildCrashAbort.child_restarts front r h g
restarts PresumeCommit front r h g = ChildCrashCommit.child_restarts front r h g
