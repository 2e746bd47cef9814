-- What the records of a log say of operators' decisions, one by one.
use Rattle.std.proofs.Common.{◌≡◌, ◌∙◌, Bool, true, false, cond, Option, Some, None, List, [], ◌∷◌, ◌++◌, map, fold, refl, sym, ap}
use Rattle.std.proofs.lemmas.Grind.{fold-append}
use Rattle.std.proofs.lemmas.List.{map-append}
use Rattle.std.specs.Prelude.{is_some}
use Rattle.xa_xid.specs.declared.xid.Xid.{Xid}
use Rattle.xa_branch.specs.declared.decision.Decision.{Decision}
use Rattle.xa_branch.specs.Decisions.{decided_as, decision_after, decision_of}
use Rattle.xa_branch.specs.Cases.{DecisionTable, NotesDecision, decision_in, decision_or}
use Rattle.protocol_words.specs.Variants.{AbortedOutcome, CommittedOutcome}
use Rattle.protocol.specs.declared.records.BranchName.{BranchName}
use Rattle.protocol.specs.declared.records.BranchName.TheVariants.{Foreign}
use Rattle.protocol.specs.declared.records.LogRecord.{LogRecord}
use Rattle.protocol.specs.declared.records.Record.{Record}
use Rattle.protocol.specs.declared.records.Record.TheVariants.{Opened, Collecting, Prepare, Commit, Abort, End, Prepared, Committed, RolledBack, Direct, HeurCommit, HeurRollback, Told, Forgot, Base, Pair, Cleared}
use Rattle.protocol.specs.Records.{same_branch, same_xid}
use Rattle.protocol.specs.Standings.{Decided, Finished, Mark, Promised, ToldOf, Unmarked, mark_after, mark_of}
use Rattle.protocol.specs.LogNames.{name_xid, by_xid}
use Rattle.log_rules.specs.order.Orders.{same}
use Rattle.log_text.proofs.NameReading.{same_xid_is, same_xid_refl}
use Rattle.kv_state.specs.Decisions.{KnowDecided, NotesRecord, known_after, says_decided}
use Rattle.kv_state.proofs.Lookups.{same_is, same_itself, true_is_false}

pub branch_same : (k x : Xid) → same_branch (Foreign k) (Foreign x) ≡ same k x
unfolding same_branch
branch_same k x = by_test (same k x) refl
  where
    by_test : (t : Bool) → same k x ≡ t → same_xid k x ≡ t
    by_test true e = ap (same_xid k) (sym (same_is k x e)) ∙ same_xid_refl k
    by_test false e = other (same_xid k x) refl
      where
        other : (t : Bool) → same_xid k x ≡ t → t ≡ false
        other false f = refl
        other true f = true_is_false (sym (same_itself k) ∙ ap (same k) (same_xid_is k x f) ∙ e)

-- what is noted of a branch, as it is known of each
pub noted : (f : Option Decision → Option Decision) (old new : DecisionTable) (k : Xid)
    → NotesDecision old new k (f (decision_in old k)) → (x : Xid)
    → decision_in new x ≡ cond (same_branch (Foreign k) (Foreign x))
    (f (decision_in old x)) (decision_in old x)
noted f old new k made x = by_test (same k x) refl
    ∙ ap (λ t. cond t (f (decision_in old x)) (decision_in old x)) (sym (branch_same k x))
  where
    by_test : (t : Bool) → same k x ≡ t → decision_in new x
        ≡ cond t (f (decision_in old x)) (decision_in old x)
    by_test true e =
        let one : k ≡ x = same_is k x e in
        ap (decision_in new) (sym one) ∙ made.own ∙ ap (λ z. f (decision_in old z)) one
    by_test false e = made.others x e

-- a record of a branch, which sets what is known of it
pub noted_record : (old new : DecisionTable) (l : LogRecord) (k : Xid) (b : BranchName)
    (f : Option Decision → Option Decision) → k ≡ name_xid l.parent b
    → ((x : Xid) (o : Option Decision) → known_after (Foreign x) o (by_xid l)
    ≡ cond (same_branch (Foreign (name_xid l.parent b)) (Foreign x)) (f o) o)
    → NotesDecision old new k (f (decision_in old k)) → NotesRecord old new l
noted_record old new l k b f is says made x =
    noted f old new k made x ∙ ap (λ z. cond (same_branch (Foreign z) (Foreign x))
    (f (decision_in old x)) (decision_in old x)) is
    ∙ sym (says x (decision_in old x))

-- A record, as the fold reads it.

or_cond : (t : Bool) (v o : Option Decision) → decision_or (cond t v o)
    ≡ cond t (decision_or v) (decision_or o)
or_cond true v o = refl
or_cond false v o = refl

known_as : (b : BranchName) (o : Option Decision) (r : Record)
    → decision_or (known_after b o r) ≡ decision_after b (decision_or o) r
known_as b o (Prepared a ws) = or_cond (same_branch a b) None o
known_as b o (HeurCommit a) = or_cond (same_branch a b) (Some (decided_as CommittedOutcome)) o
known_as b o (HeurRollback a) = or_cond (same_branch a b) (Some (decided_as AbortedOutcome)) o
known_as b o (Told a out) = or_cond (same_branch a b)
    (Some (record { outcome = (decision_or o).outcome; told = Some out })) o
known_as b o (Forgot a) = or_cond (same_branch a b) None o
known_as b o (Opened n) = refl
known_as b o (Collecting c ts) = refl
known_as b o (Prepare c ts) = refl
known_as b o (Commit c ts) = refl
known_as b o (Abort c ts) = refl
known_as b o (End c rep) = refl
known_as b o (Cleared c) = refl
known_as b o (Committed a) = refl
known_as b o (RolledBack a) = refl
known_as b o (Direct a ws) = refl
known_as b o (Base n) = refl
known_as b o (Pair k v) = refl

-- it is known how a branch was decided whose mark says so
abbrev pub IsKnown : Mark → Option Decision → Type 0
IsKnown m o = says_decided m ≡ true → is_some o ≡ true

sets : (t : Bool) (w m : Mark) (v o : Option Decision) → IsKnown w v → IsKnown m o
    → IsKnown (cond t w m) (cond t v o)
sets true w m v o own other = own
sets false w m v o own other = other

ends : (t : Bool) (m : Mark) (o : Option Decision) → IsKnown m o → IsKnown (cond t Finished m) o
ends true m o known = λ says. true_is_false (sym says)
ends false m o known = known

still_known : (b : BranchName) (m : Mark) (o : Option Decision) (r : Record) → IsKnown m o
    → IsKnown (mark_after b m r) (known_after b o r)
still_known b m o (Prepared a ws) known = sets (same_branch a b) Promised m None o
    (λ says. true_is_false (sym says)) known
still_known b m o (HeurCommit a) known = sets (same_branch a b) Decided m
    (Some (decided_as CommittedOutcome)) o (λ says. refl) known
still_known b m o (HeurRollback a) known = sets (same_branch a b) Decided m
    (Some (decided_as AbortedOutcome)) o (λ says. refl) known
still_known b m o (Told a out) known =
    sets (same_branch a b) (ToldOf out) m (Some
    (record { outcome = (decision_or o).outcome; told = Some out })) o (λ says. refl) known
still_known b m o (Forgot a) known = sets (same_branch a b) Finished m None o
    (λ says. true_is_false (sym says)) known
still_known b m o (Committed a) known = ends (same_branch a b) m o known
still_known b m o (RolledBack a) known = ends (same_branch a b) m o known
still_known b m o (Direct a ws) known = ends (same_branch a b) m o known
still_known b m o (Opened n) known = known
still_known b m o (Collecting c ts) known = known
still_known b m o (Prepare c ts) known = known
still_known b m o (Commit c ts) known = known
still_known b m o (Abort c ts) known = known
still_known b m o (End c rep) known = known
still_known b m o (Cleared c) known = known
still_known b m o (Base n) known = known
still_known b m o (Pair k v) known = known

-- The pass.

-- with these records still to be noted, of all of them
pub record IsNoting (all rest : List LogRecord) (t : DecisionTable) : Type 0 where
  pub mark : Xid → Mark
  pub marks : (x : Xid) → fold (mark_after (Foreign x)) (mark x) (map by_xid rest)
      ≡ mark_of (Foreign x) (map by_xid all)
  pub each : (x : Xid) → fold (decision_after (Foreign x)) (decision_or (decision_in t x)) (map by_xid rest)
      ≡ decision_of (Foreign x) (map by_xid all)
  pub known : (x : Xid) → IsKnown (mark x) (decision_in t x)

pub noting_starts : (ls : List LogRecord) (t : DecisionTable) → t.decisions ≡ [] → IsNoting ls ls t
unfolding decision_of mark_of
noting_starts ls t none = record {
  mark = λ x. Unmarked;
  marks = λ x. refl;
  each = λ x. ap (λ (ds : List (Xid × Decision)). fold (decision_after (Foreign x))
      (decision_or (decision_in (record t { decisions = ds }) x)) (map by_xid ls)) none;
  known = λ x says. true_is_false (sym says);
}

-- those after some records by which operators decided this
pub noting_on : (ls rs : List LogRecord) (t : DecisionTable) → KnowDecided ls t → IsNoting (ls ++ rs) rs t
unfolding decision_of mark_of
noting_on ls rs t know = record {
  mark = λ x. mark_of (Foreign x) (map by_xid ls);
  marks = λ x. sym (ap (mark_of (Foreign x)) (map-append by_xid ls rs)
      ∙ fold-append (mark_after (Foreign x)) Unmarked (map by_xid ls) (map by_xid rs));
  each = λ x. ap (λ d. fold (decision_after (Foreign x)) d (map by_xid rs)) (know.each x)
      ∙ sym (ap (decision_of (Foreign x)) (map-append by_xid ls rs)
      ∙ fold-append (decision_after (Foreign x)) (decided_as AbortedOutcome) (map by_xid ls) (map by_xid rs));
  known = know.known;
}

pub noting_goes_on : (all rest : List LogRecord) (l : LogRecord) (t u : DecisionTable)
    → IsNoting all (l ∷ rest) t → NotesRecord t u l
    → IsNoting all rest u
noting_goes_on all rest l t u noting notes = record {
  mark = λ x. mark_after (Foreign x) (noting.mark x) (by_xid l);
  marks = noting.marks;
  each = λ x. ap (λ d. fold (decision_after (Foreign x)) d (map by_xid rest))
      (ap decision_or (notes x) ∙ known_as (Foreign x) (decision_in t x) (by_xid l)) ∙ noting.each x;
  known = λ x says. ap is_some (notes x) ∙ still_known (Foreign x) (noting.mark x) (decision_in t x)
      (by_xid l) (noting.known x) says;
}

pub noting_ends : (all : List LogRecord) (t : DecisionTable) → IsNoting all [] t → KnowDecided all t
noting_ends all t noting = record {
  each = noting.each;
  known = λ x says. noting.known x (ap says_decided (noting.marks x) ∙ says);
}

-- no record says that an operator decided
pub nothing_decided : (t : DecisionTable) → t.decisions ≡ [] → KnowDecided [] t
nothing_decided t none = noting_ends [] t (noting_starts [] t none)
