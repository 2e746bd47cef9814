-- The auditor's lemma, read off the invariant of one reading.
use Rattle.std.proofs.Common.{◌≡◌, ◌⊎◌, true, false, arith}
use Rattle.proof_pairs.specs.Reading.{Reading}
use Rattle.proof_pairs.specs.Standing.{IsInDoubt, Waits}
use Rattle.proof_pairs.specs.Invariant.{PresumedAbort, PresumedCommit}
use Rattle.proof_pairs.specs.Promises.{AuditedOutcome, kept_case_says, SaysCommit, SaysAbort, AsksAbove, Presumes}

pub abort_says_commit : (r : Reading) → PresumedAbort r → r.failed ≡ false → r.child_failed ≡ false
    → IsInDoubt r → kept_case_says r ≡ SaysCommit → r.outcome ≡ true
abort_says_commit r h f c d e = grind arith

pub abort_says_abort : (r : Reading) → PresumedAbort r → r.failed ≡ false → r.child_failed ≡ false
    → IsInDoubt r → kept_case_says r ≡ SaysAbort → r.outcome ≡ false
abort_says_abort r h f c d e = grind arith

pub abort_asks_above : (r : Reading) → PresumedAbort r → r.failed ≡ false → r.child_failed ≡ false
    → IsInDoubt r → kept_case_says r ≡ AsksAbove → Waits r
abort_asks_above r h f c d e = grind arith

pub abort_presumes : (r : Reading) → PresumedAbort r → r.failed ≡ false → r.child_failed ≡ false
    → IsInDoubt r → kept_case_says r ≡ Presumes → r.outcome ≡ false
abort_presumes r h f c d e = grind arith

pub abort_own_abort : (r : Reading) → PresumedAbort r → r.learnt_abort_kept ≡ true → r.outcome ≡ false
abort_own_abort r h e = grind arith

pub abort_root_commit : (r : Reading) → PresumedAbort r → r.failed ≡ false → r.parent_is_root ≡ true
    → r.commit_kept ≡ true → r.outcome ≡ true
abort_root_commit r h f p c = grind arith

pub abort_root_other : (r : Reading) → PresumedAbort r → r.failed ≡ false → r.parent_is_root ≡ true
    → r.commit_kept ≡ false → (r.abort_kept ≡ true) ⊎ (r.collecting_kept ≡ true) → r.outcome ≡ false
abort_root_other r h f p c a = grind arith

pub abort_audited : AuditedOutcome PresumedAbort false
abort_audited = record {
  commit = abort_says_commit;
  abort = abort_says_abort;
  above = abort_asks_above;
  presumption = abort_presumes;
  own_commit = λ r h e. (h.common.learnt_commit_stands_behind e).1;
  own_abort = abort_own_abort;
  root_commit = abort_root_commit;
  root_other = abort_root_other;
}

pub commit_says_commit : (r : Reading) → PresumedCommit r → r.failed ≡ false → r.child_failed ≡ false
    → IsInDoubt r → kept_case_says r ≡ SaysCommit → r.outcome ≡ true
commit_says_commit r h f c d e = grind arith

pub commit_says_abort : (r : Reading) → PresumedCommit r → r.failed ≡ false → r.child_failed ≡ false
    → IsInDoubt r → kept_case_says r ≡ SaysAbort → r.outcome ≡ false
commit_says_abort r h f c d e = grind arith

pub commit_asks_above : (r : Reading) → PresumedCommit r → r.failed ≡ false → r.child_failed ≡ false
    → IsInDoubt r → kept_case_says r ≡ AsksAbove → Waits r
commit_asks_above r h f c d e = grind arith

pub commit_presumes : (r : Reading) → PresumedCommit r → r.failed ≡ false → r.child_failed ≡ false
    → IsInDoubt r → kept_case_says r ≡ Presumes → r.outcome ≡ true
commit_presumes r h f c d e = grind arith

pub commit_own_abort : (r : Reading) → PresumedCommit r → r.learnt_abort_kept ≡ true → r.outcome ≡ false
commit_own_abort r h e = grind arith

pub commit_root_commit : (r : Reading) → PresumedCommit r → r.failed ≡ false → r.parent_is_root ≡ true
    → r.commit_kept ≡ true → r.outcome ≡ true
commit_root_commit r h f p c = grind arith

pub commit_root_other : (r : Reading) → PresumedCommit r → r.failed ≡ false → r.parent_is_root ≡ true
    → r.commit_kept ≡ false → (r.abort_kept ≡ true) ⊎ (r.collecting_kept ≡ true) → r.outcome ≡ false
commit_root_other r h f p c a = grind arith

pub commit_audited : AuditedOutcome PresumedCommit true
commit_audited = record {
  commit = commit_says_commit;
  abort = commit_says_abort;
  above = commit_asks_above;
  presumption = commit_presumes;
  own_commit = λ r h e. (h.common.learnt_commit_stands_behind e).1;
  own_abort = commit_own_abort;
  root_commit = commit_root_commit;
  root_other = commit_root_other;
}
