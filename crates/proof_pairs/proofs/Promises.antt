-- The promises, read off the invariant of one reading.
use Rattle.std.proofs.Common.{◌≡◌, ◌⊎◌, refl, inl, inr, true, false, arith}
use Rattle.proof_pairs.specs.Reading.{Reading}
use Rattle.proof_pairs.specs.Standing.{IsInDoubt}
use Rattle.proof_pairs.specs.Invariant.{PresumedAbort, PresumedCommit, Common}
use Rattle.proof_pairs.specs.Promises.{PairAgreement, PairCommitRule, PairAnswers, PairMismatches}

-- A participant that ended without a commit, or whose parent did: the outcome is not commit.
pub refused_child : (r : Reading) → Common r → r.child_refused ≡ true → r.took_part ≡ true
    → r.took_part_up ≡ true → r.outcome ≡ false
refused_child r h c t u = grind arith

pub refused_parent : (r : Reading) → Common r → r.refused ≡ true → r.took_part_up ≡ true → r.outcome ≡ false
refused_parent r h c u = grind arith

pub true_commit : (r : Reading) → Common r → r.sent_commit ≡ true → IsInDoubt r → r.outcome ≡ true
true_commit r h c d = grind arith

-- ABORT finds in doubt only a child whose parent has refused, and takes part.
pub abort_refuses : (r : Reading) → Common r → r.sent_abort ≡ true → IsInDoubt r → (r.refused ≡ true)
    × (r.took_part_up ≡ true)
abort_refuses r h a d = grind arith

pub root_part : (r : Reading) → Common r → r.parent_is_root ≡ true → r.refused ≡ true
    → r.took_part_up ≡ true
root_part r h p e = grind arith

pub voted : (r : Reading) → Common r → r.outcome ≡ true → r.took_part_up ≡ true → r.took_part ≡ true
    → (r.first_yes ≡ true) ⊎ (r.first_read ≡ true)
voted r h o u t = grind arith

pub stands_or_forgot : (r : Reading) → Common r → r.heuristic_ever ≡ true → (r.heuristic_forced ≡ true)
    ⊎ (r.forgot_ever ≡ true)
stands_or_forgot r h e = h.heuristic_stays e

pub abort_agreement : PairAgreement PresumedAbort
abort_agreement = record {
  commit_end = λ r s h l k e. l.outcome (h.common.child_commit_is_the_outcome e);
  abort_end = λ r s h l k e t u. refused_child s k.common (l.child_refused e) (l.took_part t)
      (l.took_part_up u);
  told_commit = λ r s h l k e. l.outcome (h.common.told_commit_is_the_outcome e);
  told_abort = λ r s h l k e. let both = h.common.told_abort_is_refused e in refused_parent s k.common
      (l.refused both.0) (l.took_part_up both.1);
  root_commit = λ r s h l k p c. l.outcome (h.common.root_commit_is_the_outcome p c);
  root_abort = λ r s h l k p e. refused_parent s k.common (l.refused e)
      (l.took_part_up (root_part r h.common p e));
}

pub abort_commit_rule : PairCommitRule PresumedAbort
abort_commit_rule = record {
  participant_voted = λ r h o u t. voted r h.common o u t;
  vote_was_sent = λ r h v. grind arith;
  yes_is_backed = λ r h m. h.common.child_promise_is_forced m.promised m.up;
  first_yes_is_backed = λ r. refl;
  yes_was_backed = λ r h y. (h.common.yes_means y).0;
}

pub abort_true_answers : PairAnswers PresumedAbort
abort_true_answers = record {
  commit_is_true = λ r s h l k c d. l.outcome (true_commit r h.common c d);
  abort_is_true = λ r s h l k a d. let both = abort_refuses r h.common a d in refused_parent s k.common
      (l.refused both.0) (l.took_part_up both.1);
}

pub abort_standing_mismatches : PairMismatches PresumedAbort
abort_standing_mismatches = record {
  stands = λ r s h l k e. elim (stands_or_forgot s k.common (l.heuristic_ever e))
      [ inl f ↦ inl (f, l.heuristic_commits e) | inr g ↦ inr g ];
  shows = λ r h u p. h.common.heuristic_is_forced p u;
}

pub commit_agreement : PairAgreement PresumedCommit
commit_agreement = record {
  commit_end = λ r s h l k e. l.outcome (h.common.child_commit_is_the_outcome e);
  abort_end = λ r s h l k e t u. refused_child s k.common (l.child_refused e) (l.took_part t)
      (l.took_part_up u);
  told_commit = λ r s h l k e. l.outcome (h.common.told_commit_is_the_outcome e);
  told_abort = λ r s h l k e. let both = h.common.told_abort_is_refused e in refused_parent s k.common
      (l.refused both.0) (l.took_part_up both.1);
  root_commit = λ r s h l k p c. l.outcome (h.common.root_commit_is_the_outcome p c);
  root_abort = λ r s h l k p e. refused_parent s k.common (l.refused e)
      (l.took_part_up (root_part r h.common p e));
}

pub commit_commit_rule : PairCommitRule PresumedCommit
commit_commit_rule = record {
  participant_voted = λ r h o u t. voted r h.common o u t;
  vote_was_sent = λ r h v. grind arith;
  yes_is_backed = λ r h m. h.common.child_promise_is_forced m.promised m.up;
  first_yes_is_backed = λ r. refl;
  yes_was_backed = λ r h y. (h.common.yes_means y).0;
}

pub commit_true_answers : PairAnswers PresumedCommit
commit_true_answers = record {
  commit_is_true = λ r s h l k c d. l.outcome (true_commit r h.common c d);
  abort_is_true = λ r s h l k a d. let both = abort_refuses r h.common a d in refused_parent s k.common
      (l.refused both.0) (l.took_part_up both.1);
}

pub commit_standing_mismatches : PairMismatches PresumedCommit
commit_standing_mismatches = record {
  stands = λ r s h l k e. elim (stands_or_forgot s k.common (l.heuristic_ever e))
      [ inl f ↦ inl (f, l.heuristic_commits e) | inr g ↦ inr g ];
  shows = λ r h u p. h.common.heuristic_is_forced p u;
}
