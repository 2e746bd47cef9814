-- What one more record adds to what the records of a case say, and the view that they leave.
use Rattle.std.proofs.Common.{◌≡◌, ◌∙◌, Bool, true, false, ◌||◌, if◌then◌else◌, List, [], ◌∷◌, ◌++◌, Option, Some, None, refl, ap}
use Rattle.std.proofs.lemmas.Grind.{flat_map-append}
use Rattle.std.proofs.lemmas.List.{append-nil}
use Rattle.std.proofs.lemmas.List.Folds.{list_any-append}
use Rattle.std.specs.List.{flat_map}
use Rattle.protocol.specs.declared.names.Case.{Case}
use Rattle.protocol.specs.declared.names.Outcome.{Outcome}
use Rattle.protocol.specs.declared.names.Presumption.{Presumption}
use Rattle.protocol.specs.declared.names.Presumption.TheVariants.{PresumeAbort, PresumeCommit}
use Rattle.protocol.specs.declared.names.Ticket.{Ticket}
use Rattle.protocol.specs.declared.records.Record.{Record}
use Rattle.protocol.specs.declared.records.Record.TheVariants.{Opened, Collecting, Prepare, Commit, Abort, End, Prepared, Committed, RolledBack, Direct, HeurCommit, HeurRollback, Told, Forgot, Base, Pair, Cleared}
use Rattle.protocol.specs.declared.standings.Standing.TheVariants.{Unknown}
use Rattle.protocol.specs.Memory.{Idle, found_of, fresh_memory, has_acked}
use Rattle.protocol.specs.Names.{same_case}
use Rattle.protocol.specs.Records.{has, is_abort, is_collecting, is_commit, is_end, is_prepare, named_by, named_in, none_of, owing_by, owing_in, promised_by, promised_in, record_case}
use Rattle.protocol.specs.Standings.{coordinator_standing, decided_outcome, known_view, phase_standing, standing_by, still_owed, view_at}
use Rattle.protocol.specs.Restarts.{recorded_view}
use Rattle.coord_records.specs.declared.recorded.CaseStage.TheVariants as stage
use Rattle.coord_records.specs.Summaries.{Summary, furthest, no_records, restored_view, stage_by, standing_at, standing_of, summary_after, summary_of, view_of}
use Rattle.protocol.specs.declared.records.Reports.{Reports}

-- One more record.

-- the case is this one, if there is one
abbrev pub is_case : Case → Option Case → Bool
is_case c None = false
is_case c (Some d) = same_case d c

-- the record is of the case
abbrev pub is_of : Case → Record → Bool
is_of c r = is_case c (record_case r)

or_none : (b : Bool) → (b || false) ≡ b
or_none true = refl
or_none false = refl

has_more : (q : Record → Bool) (rs : List Record) (r : Record) → has q (rs ++ r ∷ []) ≡ (has q rs || q r)
unfolding has
has_more q rs r = list_any-append q rs (r ∷ []) ∙ ap (λ b. has q rs || b) (or_none (q r))

all_more : (f : Record → List Ticket) (rs : List Record) (r : Record)
    → flat_map f (rs ++ r ∷ []) ≡ flat_map f rs ++ f r
all_more f rs r = flat_map-append f rs (r ∷ []) ∙ ap (λ ts. flat_map f rs ++ ts) (append-nil (f r))

promised_more : (c : Case) (rs : List Record) (r : Record)
    → promised_by c (rs ++ r ∷ []) ≡ promised_by c rs ++ promised_in c r
unfolding promised_by
promised_more c rs r = all_more (promised_in c) rs r

named_more : (c : Case) (rs : List Record) (r : Record)
    → named_by c (rs ++ r ∷ []) ≡ named_by c rs ++ named_in c r
unfolding named_by
named_more c rs r = all_more (named_in c) rs r

owing_more : (c : Case) (rs : List Record) (r : Record)
    → owing_by c (rs ++ r ∷ []) ≡ owing_by c rs ++ owing_in c r
unfolding owing_by
owing_more c rs r = all_more (owing_in c) rs r

-- Stages.

stage_same : (e co a p col : Bool) → stage_by (e || false) (co || false) (a || false) (p || false)
    (col || false) ≡ stage_by e co a p col
stage_same true co a p col = refl
stage_same false true a p col = refl
stage_same false false true p col = refl
stage_same false false false true col = refl
stage_same false false false false true = refl
stage_same false false false false false = refl

stage_collecting : (e co a p col : Bool) → stage_by (e || false) (co || false) (a || false) (p || false)
    (col || true) ≡ furthest (stage_by e co a p col) stage.Collecting
stage_collecting true co a p col = refl
stage_collecting false true a p col = refl
stage_collecting false false true p col = refl
stage_collecting false false false true col = refl
stage_collecting false false false false true = refl
stage_collecting false false false false false = refl

stage_prepared : (e co a p col : Bool) → stage_by (e || false) (co || false) (a || false) (p || true)
    (col || false) ≡ furthest (stage_by e co a p col) stage.Prepared
stage_prepared true co a p col = refl
stage_prepared false true a p col = refl
stage_prepared false false true p col = refl
stage_prepared false false false true col = refl
stage_prepared false false false false true = refl
stage_prepared false false false false false = refl

stage_aborted : (e co a p col : Bool) → stage_by (e || false) (co || false) (a || true) (p || false)
    (col || false) ≡ furthest (stage_by e co a p col) stage.Aborted
stage_aborted true co a p col = refl
stage_aborted false true a p col = refl
stage_aborted false false true p col = refl
stage_aborted false false false true col = refl
stage_aborted false false false false true = refl
stage_aborted false false false false false = refl

stage_committed : (e co a p col : Bool) → stage_by (e || false) (co || true) (a || false) (p || false)
    (col || false) ≡ furthest (stage_by e co a p col) stage.Committed
stage_committed true co a p col = refl
stage_committed false true a p col = refl
stage_committed false false true p col = refl
stage_committed false false false true col = refl
stage_committed false false false false true = refl
stage_committed false false false false false = refl

stage_ended : (e co a p col : Bool) → stage_by (e || true) (co || false) (a || false) (p || false)
    (col || false) ≡ furthest (stage_by e co a p col) stage.Ended
stage_ended true co a p col = refl
stage_ended false true a p col = refl
stage_ended false false true p col = refl
stage_ended false false false true col = refl
stage_ended false false false false true = refl
stage_ended false false false false false = refl

module _ (e co a p col : Bool) (ps ns os : List Ticket) where
  -- what was said before
  before : Summary
  before = record { stage = stage_by e co a p col; promised = ps; named = ns; owing = os }

  -- what is said after one more record
  behind : Case → Record → Summary
  behind c r =
      record {
        stage = stage_by (e || is_end c r) (co || is_commit c r) (a || is_abort c r)
            (p || is_prepare c r) (col || is_collecting c r);
        promised = ps ++ promised_in c r;
        named = ns ++ named_in c r;
        owing = os ++ owing_in c r;
      }

  nothing_more : record {
    stage = stage_by (e || false) (co || false) (a || false) (p || false)
        (col || false);
    promised = ps ++ [];
    named = ns ++ [];
    owing = os ++ [];
  } ≡ before
  unfolding before
  nothing_more = λ i. record {
    stage = stage_same e co a p col i;
    promised = append-nil ps i;
    named = append-nil ns i;
    owing = append-nil os i;
  }

  collecting_more : (c : Case) (ts : List Ticket) (b : Bool)
      → record {
        stage = stage_by (e || false) (co || false) (a || false) (p || false) (col || b);
        promised = ps ++ [];
        named = ns ++ (if b then ts else []);
        owing = os ++ [];
      }
      ≡ (if b then summary_after before (Collecting c ts) else before)
  unfolding before
  collecting_more c ts true = λ i. record {
    stage = stage_collecting e co a p col i;
    promised = append-nil ps
        i;
    named = ns ++ ts;
    owing = append-nil os i;
  }
  collecting_more c ts false = nothing_more

  prepare_more : (c : Case) (ts : List Ticket) (b : Bool)
      → record {
        stage = stage_by (e || false) (co || false) (a || false) (p || b) (col || false);
        promised = ps ++ (if b then ts else []);
        named = ns ++ (if b then ts else []);
        owing = os ++ [];
      }
      ≡ (if b then summary_after before (Prepare c ts) else before)
  unfolding before
  prepare_more c ts true = λ i. record {
    stage = stage_prepared e co a p col i;
    promised = ps
        ++ ts;
    named = ns ++ ts;
    owing = append-nil os i;
  }
  prepare_more c ts false = nothing_more

  commit_more : (c : Case) (ts : List Ticket) (b : Bool)
      → record {
        stage = stage_by (e || false) (co || b) (a || false) (p || false) (col || false);
        promised = ps ++ [];
        named = ns ++ (if b then ts else []);
        owing = os ++ (if b then ts else []);
      }
      ≡ (if b then summary_after before (Commit c ts) else before)
  unfolding before
  commit_more c ts true = λ i. record {
    stage = stage_committed e co a p col i;
    promised = append-nil ps i;
    named = ns ++ ts;
    owing = os ++ ts;
  }
  commit_more c ts false = nothing_more

  abort_more : (c : Case) (ts : List Ticket) (b : Bool)
      → record {
        stage = stage_by (e || false) (co || false) (a || b) (p || false) (col || false);
        promised = ps ++ [];
        named = ns ++ (if b then ts else []);
        owing = os ++ (if b then ts else []);
      }
      ≡ (if b then summary_after before (Abort c ts) else before)
  unfolding before
  abort_more c ts true = λ i. record {
    stage = stage_aborted e co a p col i;
    promised = append-nil ps i;
    named = ns ++ ts;
    owing = os ++ ts;
  }
  abort_more c ts false = nothing_more

  end_more : (c : Case) (rep : Option Reports) (b : Bool)
      → record {
        stage = stage_by (e || b) (co || false) (a || false) (p || false) (col || false);
        promised = ps ++ [];
        named = ns ++ [];
        owing = os ++ [];
      }
      ≡ (if b then summary_after before (End c rep) else before)
  unfolding before
  end_more c rep true = λ i. record {
    stage = stage_ended e co a p col i;
    promised = append-nil ps i;
    named = append-nil ns i;
    owing = append-nil os i;
  }
  end_more c rep false = nothing_more

  -- a record that says nothing of the case's stage
  silent : (b : Bool)
      → record {
        stage = stage_by (e || false) (co || false) (a || false) (p || false) (col || false);
        promised = ps ++ [];
        named = ns ++ [];
        owing = os ++ [];
      }
      ≡ (if b then before else before)
  silent true = nothing_more
  silent false = nothing_more

  by_record : (c : Case) (r : Record) → behind c r ≡ (if is_of c r then summary_after before r else before)
  unfolding behind
  by_record c (Opened n) = nothing_more
  by_record c (Collecting d ts) = collecting_more d ts (same_case d c)
  by_record c (Prepare d ts) = prepare_more d ts (same_case d c)
  by_record c (Commit d ts) = commit_more d ts (same_case d c)
  by_record c (Abort d ts) = abort_more d ts (same_case d c)
  by_record c (End d rep) = end_more d rep (same_case d c)
  by_record c (Cleared d) = silent (same_case d c)
  by_record c (Prepared b ws) = silent (is_of c (Prepared b ws))
  by_record c (Committed b) = silent (is_of c (Committed b))
  by_record c (RolledBack b) = silent (is_of c (RolledBack b))
  by_record c (Direct b ws) = silent (is_of c (Direct b ws))
  by_record c (HeurCommit b) = silent (is_of c (HeurCommit b))
  by_record c (HeurRollback b) = silent (is_of c (HeurRollback b))
  by_record c (Told b o) = silent (is_of c (Told b o))
  by_record c (Forgot b) = silent (is_of c (Forgot b))
  by_record c (Base n) = nothing_more
  by_record c (Pair k v) = nothing_more

-- what the records of a case say after one more
pub summary_more : (rs : List Record) (c : Case) (r : Record)
    → summary_of (rs ++ r ∷ []) c ≡ (if is_of c r then summary_after (summary_of rs c) r else summary_of rs c)
unfolding before behind
summary_more rs c r =
    (λ i. record {
      stage = stage_by (has_more (is_end c) rs r i) (has_more (is_commit c) rs r i)
          (has_more (is_abort c) rs r i) (has_more (is_prepare c) rs r i)
          (has_more (is_collecting c) rs r i);
      promised = promised_more c rs r i;
      named = named_more c rs r i;
      owing = owing_more c rs r i;
    })
    ∙ by_record (has (is_end c) rs) (has (is_commit c) rs) (has (is_abort c) rs)
    (has (is_prepare c) rs) (has (is_collecting c) rs)
    (promised_by c rs) (named_by c rs) (owing_by c rs) c r

pub summary_nothing : (c : Case) → summary_of [] c ≡ no_records
unfolding has promised_by named_by owing_by
summary_nothing c = refl

-- The view.

none_acked : (o : Outcome) (ts : List Ticket) → still_owed [] o ts ≡ ts
unfolding still_owed has_acked
none_acked o [] = refl
none_acked o (t ∷ ts) = ap (λ us. t ∷ us) (none_acked o ts)

idle : (p : Presumption) → phase_standing p Idle ≡ Unknown
idle PresumeAbort = refl
idle PresumeCommit = refl

standing_is : (e co a p col none : Bool) → standing_by e co a p col none Unknown
    ≡ standing_at (stage_by e co a p col) none
standing_is true co a p col none = refl
standing_is false true a p col none = refl
standing_is false false true p col none = refl
standing_is false false false true col none = refl
standing_is false false false false true none = refl
standing_is false false false false false none = refl

standing_recorded : (rs : List Record) (c : Case)
    → coordinator_standing rs c fresh_memory ≡ standing_of (summary_of rs c)
standing_recorded rs c =
    ap (standing_by (has (is_end c) rs) (has (is_commit c) rs) (has (is_abort c) rs) (has (is_prepare c) rs)
    (has (is_collecting c) rs) (none_of (owing_by c rs)))
    (idle c.txn.presumption)
    ∙ standing_is (has (is_end c) rs) (has (is_commit c) rs) (has (is_abort c) rs) (has (is_prepare c) rs)
    (has (is_collecting c) rs) (none_of (owing_by c rs))

-- how a case stands by records alone
pub view_recorded : (rs : List Record) (c : Case) → recorded_view rs c ≡ view_of (summary_of rs c)
unfolding recorded_view found_of
view_recorded rs c =
    ap (λ s. view_at s rs c fresh_memory) (standing_recorded rs c)
    ∙ ap (λ ts. known_view (standing_of (summary_of rs c))
    (record (restored_view (standing_of (summary_of rs c)) (summary_of rs c)) { owed = ts }))
    (none_acked (decided_outcome (standing_of (summary_of rs c))) (owing_by c rs))
