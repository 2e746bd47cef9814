-- What a trim keeps of operators' decisions.
use Rattle.std.proofs.Common.{◌≡◌, ◌∙◌, Bool, true, false, not, ◌&&◌, ◌||◌, cond, Option, Some, None, List, [], ◌∷◌, map, fold, refl, sym, ap}
use Rattle.std.specs.List.{list_any}
use Rattle.xa_xid.specs.declared.xid.Xid.{Xid}
use Rattle.xa_branch.specs.declared.decision.Decision.{Decision}
use Rattle.xa_branch.specs.Decisions.{decided_as, decision_after}
use Rattle.protocol_words.specs.Variants.{AbortedOutcome, CommittedOutcome}
use Rattle.protocol.specs.declared.names.ProcessId.{ProcessId}
use Rattle.protocol.specs.declared.records.BranchName.{BranchName}
use Rattle.protocol.specs.declared.records.BranchName.TheVariants.{Foreign}
use Rattle.protocol.specs.declared.records.LogRecord.{LogRecord}
use Rattle.protocol.specs.declared.records.Record.{Record}
use Rattle.protocol.specs.declared.records.Record.TheVariants.{Opened, Collecting, Prepare, Commit, Abort, End, Prepared, Committed, RolledBack, Direct, HeurCommit, HeurRollback, Told, Forgot, Base, Pair, Cleared}
use Rattle.protocol.specs.LogNames.{name_xid, by_xid}
use Rattle.protocol.specs.Records.{branch_case, record_branch, record_case, same_branch}
use Rattle.log_rules.specs.trim.Tables.{is_live, is_prepared, log_name}
use Rattle.log_rules.specs.trim.Trims.{is_name, is_of, prepares, said_of, staying, stays, stays_by}
use Rattle.kv_state.proofs.Lookups.{same_is, true_is_false}
use Rattle.kv_state.proofs.Promised.{branch_same, of_name}

-- one record of a manager's log: of another branch it says nothing, and after a promise of this one nothing
-- is known
pub record Says (x : Xid) (l : LogRecord) : Type 0 where
  pub skips : is_of x l ≡ false → (d : Decision) → decision_after (Foreign x) d (by_xid l) ≡ d
  pub begins : prepares x l ≡ true → (d e : Decision)
      → decision_after (Foreign x) d (by_xid l) ≡ decision_after (Foreign x) e (by_xid l)

both : (s t : Bool) → t ≡ false → (s && t) ≡ false
both true t h = h
both false t h = refl

first : (s t : Bool) → (s && t) ≡ true → s ≡ true
first true t h = refl
first false t h = absurd (cc)

module _ (x : Xid) where
  plain : (q : Option ProcessId) (r : Record)
      → ((d : Decision) → decision_after (Foreign x) d (by_xid (record { entry = r; parent = q })) ≡ d)
      → is_prepared r ≡ false → Says x (record { entry = r; parent = q })
  plain q r silent unprepared = record {
    skips = λ off d. silent d;
    begins = λ some d e. true_is_false (sym some
        ∙ both (is_of x (record { entry = r; parent = q })) (is_prepared r) unprepared);
  }

  of_branch : (q : Option ProcessId) (r : BranchName → Record) (b : BranchName) (v : Decision → Decision)
      → ((c : BranchName) → record_case (r c) ≡ branch_case c)
      → ((c : BranchName) → record_branch (r c) ≡ Some c)
      → by_xid (record { entry = r b; parent = q }) ≡ r (Foreign (name_xid q b))
      → ((c : BranchName) (d : Decision) → decision_after (Foreign x) d (r c)
      ≡ cond (same_branch c (Foreign x)) (v d) d)
      → (is_prepared (r b) ≡ true → (d e : Decision) → v d ≡ v e)
      → Says x (record { entry = r b; parent = q })
  of_branch q r b v case branch read says one = record {
    skips = λ off d. is d ∙ ap (λ t. cond t (v d) d) off;
    begins = λ some d e.
        let here : is_of x (record { entry = r b; parent = q }) ≡ true =
        first (is_of x (record { entry = r b; parent = q })) (is_prepared (r b)) some in
        is d ∙ ap (λ t. cond t (v d) d) here ∙ one
        (second (is_of x (record { entry = r b; parent = q })) (is_prepared (r b)) some) d e
        ∙ sym (is e ∙ ap (λ t. cond t (v e) e) here);
  }
    where
      second : (s t : Bool) → (s && t) ≡ true → t ≡ true
      second true t h = h
      second false t h = absurd (cc)

      is : (d : Decision) → decision_after (Foreign x) d (by_xid (record { entry = r b; parent = q }))
          ≡ cond (is_of x (record { entry = r b; parent = q })) (v d) d
      is d = ap (decision_after (Foreign x) d) read ∙ says (Foreign (name_xid q b)) d
          ∙ ap (λ t. cond t (v d) d) (branch_same (name_xid q b) x ∙ sym (of_name x q r b case branch))

  pub says : (r : Record) (q : Option ProcessId) → Says x (record { entry = r; parent = q })
  says (Opened n) q = plain q (Opened n) (λ d. refl) refl
  says (Base n) q = plain q (Base n) (λ d. refl) refl
  says (Pair k v) q = plain q (Pair k v) (λ d. refl) refl
  says (Collecting c ts) q = plain q (Collecting c ts) (λ d. refl) refl
  says (Prepare c ts) q = plain q (Prepare c ts) (λ d. refl) refl
  says (Commit c ts) q = plain q (Commit c ts) (λ d. refl) refl
  says (Abort c ts) q = plain q (Abort c ts) (λ d. refl) refl
  says (End c rep) q = plain q (End c rep) (λ d. refl) refl
  says (Cleared c) q = plain q (Cleared c) (λ d. refl) refl
  says (Committed b) q = plain q (Committed b) (λ d. refl) refl
  says (RolledBack b) q = plain q (RolledBack b) (λ d. refl) refl
  says (Direct b ws) q = plain q (Direct b ws) (λ d. refl) refl
  says (Prepared b ws) q =
      of_branch q (λ c. Prepared c ws) b (λ d. decided_as AbortedOutcome) (λ c. refl) (λ c. refl) refl
      (λ c d. refl) (λ h d e. refl)
  says (HeurCommit b) q =
      of_branch q HeurCommit b (λ d. decided_as CommittedOutcome) (λ c. refl) (λ c. refl) refl
      (λ c d. refl) (λ h d e. refl)
  says (HeurRollback b) q =
      of_branch q HeurRollback b (λ d. decided_as AbortedOutcome) (λ c. refl) (λ c. refl) refl
      (λ c d. refl) (λ h d e. refl)
  says (Told b o) q =
      of_branch q (λ c. Told c o) b (λ d. record { outcome = d.outcome; told = Some o }) (λ c. refl)
      (λ c. refl) refl (λ c d. refl)
      (λ h d e. true_is_false (sym h))
  says (Forgot b) q =
      of_branch q Forgot b (λ d. decided_as AbortedOutcome) (λ c. refl) (λ c. refl) refl
      (λ c d. refl) (λ h d e. refl)

  module _ (ls : List LogRecord) (stands : is_live (said_of x ls) ≡ true) where
    -- a record of the branch stays that no promise of it is after
    last_stays : (l : LogRecord) (behind : List LogRecord) → is_of x l ≡ true
        → list_any (prepares x) behind ≡ false → stays ls behind l ≡ true
    last_stays l behind of last = by_name (log_name l) of
      where
        by_name : (o : Option Xid) → is_name x o ≡ true → stays_by ls behind o ≡ true
        by_name None f = absurd (cc)
        by_name (Some y) f =
            ap (λ z. is_live (said_of z ls) && not (list_any (prepares z) behind)) (sym (same_is x y f))
            ∙ ap (λ b. b && not (list_any (prepares x) behind)) stands ∙ ap not last

    abbrev decided_from : Decision → List LogRecord → Decision
    decided_from d rest = fold (decision_after (Foreign x)) d (map by_xid rest)

    both_take : (l : LogRecord) (d e : Decision) → (prepares x l ≡ false → d ≡ e)
        → decision_after (Foreign x) d (by_xid l) ≡ decision_after (Foreign x) e (by_xid l)
    both_take l d e same = by_test (prepares x l) refl
      where
        by_test : (t : Bool) → prepares x l ≡ t
            → decision_after (Foreign x) d (by_xid l) ≡ decision_after (Foreign x) e (by_xid l)
        by_test true f = (says l.entry l.parent).begins f d e
        by_test false f = ap (λ k. decision_after (Foreign x) k (by_xid l)) (same f)

    one_takes : (l : LogRecord) (behind : List LogRecord) (d e : Decision) → stays ls behind l ≡ false
        → list_any (prepares x) behind ≡ false
        → (prepares x l ≡ false → d ≡ e) → d ≡ decision_after (Foreign x) e (by_xid l)
    one_takes l behind d e gone last same = by_test (is_of x l) refl
      where
        by_test : (t : Bool) → is_of x l ≡ t → d ≡ decision_after (Foreign x) e (by_xid l)
        by_test true f = true_is_false (sym (last_stays l behind f last) ∙ gone)
        by_test false f = same (ap (λ t. t && is_prepared l.entry) f)
            ∙ sym ((says l.entry l.parent).skips f e)

    -- of a branch that is live what stays says as much as all
    pub decisions_from : (rest : List LogRecord) (d e : Decision)
        → (list_any (prepares x) rest ≡ false → d ≡ e)
        → decided_from d (staying ls rest) ≡ decided_from e rest
    unfolding staying
    decisions_from [] d e same = same refl
    decisions_from (l ∷ rest) d e same = by_stay (stays ls rest l) refl (decisions_from rest)
      where
        by_stay : (t : Bool) → stays ls rest l ≡ t
            → ((d e : Decision) → (list_any (prepares x) rest ≡ false → d ≡ e)
            → decided_from d (staying ls rest) ≡ decided_from e rest)
            → decided_from d (cond t (l ∷ staying ls rest) (staying ls rest))
            ≡ decided_from (decision_after (Foreign x) e (by_xid l)) rest
        by_stay true f more =
            more (decision_after (Foreign x) d (by_xid l)) (decision_after (Foreign x) e (by_xid l))
            (λ none. both_take l d e (λ g. same (ap (λ b. b || list_any (prepares x) rest) g ∙ none)))
        by_stay false f more =
            more d (decision_after (Foreign x) e (by_xid l))
            (λ none. one_takes l rest d e f none
            (λ g. same (ap (λ b. b || list_any (prepares x) rest) g ∙ none)))
