-- A front of a coordinator's log that holds the forced one, as the parent's half of a pair has it.
use Rattle.std.proofs.Common.{◌≡◌, ◌∙◌, Bool, true, List, [], ◌++◌, sym}
use Rattle.protocol.specs.declared.names.Case.{Case}
use Rattle.protocol.specs.declared.records.Record.{Record}
use Rattle.protocol.specs.Records.{has, is_collecting, is_prepare, is_commit, is_abort, is_end}
use Rattle.proof_pairs.specs.Reading.{Reading}
use Rattle.proof_pairs.specs.ParentCrash.{ParentFront, IsParentFront}
use Rattle.proof_processes.proofs.Tests.{in_first}
use Rattle.proof_processes.proofs.CaseOrders.{AllFit}
use Rattle.proof_processes.proofs.CaseFronts

-- which records of the case the list holds
abbrev pub parent_front : Case → List Record → ParentFront
parent_front c rs = record {
  collecting = has (is_collecting c) rs;
  own_prepare = has (is_prepare c) rs;
  commit = has (is_commit c) rs;
  abort = has (is_abort c) rs;
  end = has (is_end c) rs;
}

-- the reading's parent keeps these records of the case, and has no more forced than those of the first list
pub record ReadsLog (c : Case) (forced kept : List Record) (r : Reading) : Type 0 where
  pub collecting : r.collecting_kept ≡ has (is_collecting c) kept
  pub own_prepare : r.own_prepare_kept ≡ has (is_prepare c) kept
  pub commit : r.commit_kept ≡ has (is_commit c) kept
  pub abort : r.abort_kept ≡ has (is_abort c) kept
  pub end : r.end_kept ≡ has (is_end c) kept
  pub collecting_before : r.collecting_forced ≡ true → has (is_collecting c) forced ≡ true
  pub own_prepare_before : r.own_prepare_forced ≡ true → has (is_prepare c) forced ≡ true
  pub commit_before : r.commit_forced ≡ true → has (is_commit c) forced ≡ true

module _ (c : Case) (xs ys forced : List Record) (fit : AllFit [] (xs ++ ys))
    (holds : (q : Record → Bool) → has q forced ≡ true → has q xs ≡ true)
    (r : Reading) (log : ReadsLog c forced (xs ++ ys) r)
  where
    had : (q : Record → Bool) → has q xs ≡ true → has q (xs ++ ys) ≡ true
    had q e = in_first q xs ys e

    pub is_front : IsParentFront (parent_front c xs) r
    is_front = record {
      holds_collecting = λ e. holds (is_collecting c) (log.collecting_before e);
      holds_own_prepare = λ e. holds (is_prepare c) (log.own_prepare_before e);
      holds_commit = λ e. holds (is_commit c) (log.commit_before e);
      had_collecting = λ e. log.collecting ∙ had (is_collecting c) e;
      had_own_prepare = λ e. log.own_prepare ∙ had (is_prepare c) e;
      had_commit = λ e. log.commit ∙ had (is_commit c) e;
      had_abort = λ e. log.abort ∙ had (is_abort c) e;
      had_end = λ e. log.end ∙ had (is_end c) e;
      promise_behind_collecting = λ e f.
          CaseFronts.promise_behind_collecting c xs ys fit e (sym log.collecting ∙ f);
      commit_behind_collecting = λ e f.
          CaseFronts.commit_behind_collecting c xs ys fit e (sym log.collecting ∙ f);
      commit_behind_promise = λ e f. CaseFronts.commit_behind_promise c xs ys fit e (sym log.own_prepare ∙ f);
      abort_behind_collecting = λ e f.
          CaseFronts.abort_behind_collecting c xs ys fit e (sym log.collecting ∙ f);
      abort_behind_promise = λ e f. CaseFronts.abort_behind_promise c xs ys fit e (sym log.own_prepare ∙ f);
      end_behind_collecting = λ e f. CaseFronts.end_behind_collecting c xs ys fit e (sym log.collecting ∙ f);
      end_behind_commit = λ e f. CaseFronts.end_behind_commit c xs ys fit e (sym log.commit ∙ f);
      end_behind_abort = λ e f. CaseFronts.end_behind_abort c xs ys fit e (sym log.abort ∙ f);
    }
