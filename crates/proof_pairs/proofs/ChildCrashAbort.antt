-- Each fault and restart of a child keeps the invariant, under Presumed Abort.
use Rattle.std.proofs.Common.{refl, Bool, arith}
use Rattle.proof_pairs.specs.Invariant.{PresumedAbort}
use Rattle.proof_pairs.specs.Keeps.{KeepsInvariant}
use Rattle.proof_pairs.proofs.Later.{later-later}
use Rattle.proof_pairs.specs.ChildCrash
use Rattle.proof_pairs.specs.ChildCrash.{ChildFront}

pub child_fails : KeepsInvariant PresumedAbort ChildCrash.MayFailChild ChildCrash.child_fails
child_fails r h g = grind arith

pub fails_to_promise : KeepsInvariant PresumedAbort ChildCrash.MayFailToPromise ChildCrash.fails_to_promise
fails_to_promise r h g = grind arith

pub fails_to_commit : KeepsInvariant PresumedAbort ChildCrash.MayFailToLearnCommit ChildCrash.fails_to_commit
fails_to_commit r h g = grind arith

pub fails_to_roll_back : KeepsInvariant PresumedAbort ChildCrash.MayFailToLearnAbort
    ChildCrash.fails_to_roll_back
fails_to_roll_back r h g = grind arith

pub fails_to_decide_alone : (commit : Bool)
    → KeepsInvariant PresumedAbort ChildCrash.MayFailToDecideAlone (ChildCrash.fails_to_decide_alone commit)
fails_to_decide_alone commit r h g = grind arith

pub fails_to_forget : KeepsInvariant PresumedAbort ChildCrash.MayFailToForget ChildCrash.fails_to_forget
fails_to_forget r h g = grind arith

pub hardens_failed_child : (front : ChildFront)
    → KeepsInvariant PresumedAbort (ChildCrash.MayHardenFailedChild front)
    (ChildCrash.hardens_failed_child front)
hardens_failed_child front r h g = record {
  invariant = record {
    common = grind arith;
    never_collects = grind arith;
    commit_is_forced = grind arith;
    learnt_commit_is_forced = grind arith;
    abort_is_refused = grind arith;
    commit_means_commit = grind arith;
    commit_owes = grind arith;
    owed_stands = grind arith;
    end_stands_behind_commit = grind arith;
    ended_is_settled = grind arith;
    forgotten = grind arith;
  };
  later = grind arith;
}

pub child_loses : (front : ChildFront) → KeepsInvariant PresumedAbort (ChildCrash.IsChildFront front)
    (ChildCrash.child_loses front)
child_loses front r h g = grind arith

pub child_reopens : KeepsInvariant PresumedAbort ChildCrash.MayReopenChild ChildCrash.child_reopens
child_reopens r h g = grind arith

pub child_restarts : (front : ChildFront)
    → KeepsInvariant PresumedAbort (ChildCrash.IsChildFront front) (ChildCrash.child_restarts front)
child_restarts front r h g =
    let lost = child_loses front r h g in
    let back = child_reopens (ChildCrash.child_loses front r) lost.invariant (record { failed = refl }) in
    record { invariant = back.invariant; later = later-later _ _ _ lost.later back.later }
