-- Each fault and restart of a child keeps the invariant, under Presumed Commit.
use Rattle.std.proofs.Common.{refl, Bool, arith}
use Rattle.proof_pairs.specs.Invariant.{PresumedCommit}
use Rattle.proof_pairs.specs.Keeps.{KeepsInvariant}
use Rattle.proof_pairs.proofs.Later.{later-later}
use Rattle.proof_pairs.specs.ChildCrash
use Rattle.proof_pairs.specs.ChildCrash.{ChildFront}

pub child_fails : KeepsInvariant PresumedCommit ChildCrash.MayFailChild ChildCrash.child_fails
child_fails r h g = grind arith

pub fails_to_promise : KeepsInvariant PresumedCommit ChildCrash.MayFailToPromise ChildCrash.fails_to_promise
fails_to_promise r h g = grind arith

pub fails_to_commit : KeepsInvariant PresumedCommit ChildCrash.MayFailToLearnCommit ChildCrash.fails_to_commit
fails_to_commit r h g = grind arith

pub fails_to_roll_back : KeepsInvariant PresumedCommit ChildCrash.MayFailToLearnAbort
    ChildCrash.fails_to_roll_back
fails_to_roll_back r h g = grind arith

pub fails_to_decide_alone : (commit : Bool)
    → KeepsInvariant PresumedCommit ChildCrash.MayFailToDecideAlone (ChildCrash.fails_to_decide_alone commit)
fails_to_decide_alone commit r h g = grind arith

pub fails_to_forget : KeepsInvariant PresumedCommit ChildCrash.MayFailToForget ChildCrash.fails_to_forget
fails_to_forget r h g = grind arith

pub hardens_failed_child : (front : ChildFront)
    → KeepsInvariant PresumedCommit (ChildCrash.MayHardenFailedChild front)
    (ChildCrash.hardens_failed_child front)
hardens_failed_child front r h g = record {
  invariant = record {
    common = grind arith;
    learnt_abort_is_forced = grind arith;
    abort_is_refused = grind arith;
    collects_all = grind arith;
    collects_stands = grind arith;
    collected_is_decided = grind arith;
    abort_owes = grind arith;
    owed_stands = grind arith;
    ended_is_settled = grind arith;
    commit_is_the_outcome = grind arith;
    no_means_settled = grind arith;
    forgotten = grind arith;
  };
  later = grind arith;
}

pub child_loses : (front : ChildFront) → KeepsInvariant PresumedCommit (ChildCrash.IsChildFront front)
    (ChildCrash.child_loses front)
child_loses front r h g = grind arith

pub child_reopens : KeepsInvariant PresumedCommit ChildCrash.MayReopenChild ChildCrash.child_reopens
child_reopens r h g = grind arith

pub child_restarts : (front : ChildFront)
    → KeepsInvariant PresumedCommit (ChildCrash.IsChildFront front) (ChildCrash.child_restarts front)
child_restarts front r h g =
    let lost = child_loses front r h g in
    let back = child_reopens (ChildCrash.child_loses front r) lost.invariant (record { failed = refl }) in
    record { invariant = back.invariant; later = later-later _ _ _ lost.later back.later }
