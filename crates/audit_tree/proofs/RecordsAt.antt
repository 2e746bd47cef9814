-- The log of a process holds what a process of its kind writes.
use Rattle.std.proofs.Common.{◌≡◌, ◌+◌, ◌==◌, ◌||◌, ℕ, zero, suc, Bool, true, false, if◌then◌else◌, Option, Some, None, option_map, List, [], ◌∷◌, length, map, refl, subst, sym}
use Rattle.protocol.specs.declared.names.Kind.{Kind}
use Rattle.protocol.specs.declared.names.Kind.TheVariants.{Coordinator, Manager}
use Rattle.protocol_words.specs.Variants.{AbortedOutcome, CommittedOutcome}
use Rattle.protocol.specs.declared.records.BranchName.{BranchName}
use Rattle.protocol.specs.declared.records.LogRecord.{LogRecord}
use Rattle.protocol.specs.declared.records.Record.{Record}
use Rattle.protocol.specs.declared.records.Record.TheVariants.{Opened, Prepared, Committed, RolledBack, Direct, HeurCommit, HeurRollback, Told, Forgot, Base, Pair}
use Rattle.protocol.specs.declared.records.Write.{Write}
use Rattle.log_text.specs.declared.form.LogForm.{LogForm}
use Rattle.log_text.specs.Forms.{size_bytes}
use Rattle.log_text.specs.Frames.{Cut, first_frame}
use Rattle.log_text.specs.Parts.{Front, Name, key_at, name_at, value_at, writes_of}
use Rattle.log_text.specs.Reading.{bare, below, branch_record, manager_record, of_branch, kind_record, named, opened_boot, pair_by, pair_of, read_record, told, writing}
use Rattle.protocol.specs.LogNames.{unnamed}
use Rattle.log_rules.specs.order.Logs.{Whole, read_log}
use Rattle.log_script.specs.Places.{Placed, and_placed, placed_by, placed_in}
use Rattle.log_script.proofs.PlaceLaws.{places_tell}
use Rattle.audit_cases.specs.Notes.{IsRecordAt, is_coordinators}

-- a manager's record, if there is one
Fine : Option Record → Type 0
Fine None = Unit {0}
Fine (Some r) = is_coordinators r ≡ false

-- a manager's record in a log, if there is one
FineLog : Option LogRecord → Type 0
FineLog None = Unit {0}
FineLog (Some l) = is_coordinators l.entry ≡ false

fine_if : (b : Bool) (x y : Option Record) → Fine x → Fine y → Fine (if b then x else y)
fine_if true x y h k = h
fine_if false x y h k = k

log_if : (b : Bool) (x y : Option LogRecord) → FineLog x → FineLog y → FineLog (if b then x else y)
log_if true x y h k = h
log_if false x y h k = k

fine_map : {A : Type 0} (f : A → Record) (o : Option A)
    → ((a : A) → is_coordinators (f a) ≡ false) → Fine (option_map f o)
unfolding Fine
fine_map f None all = tt
fine_map f (Some a) all = all a

log_map : {A : Type 0} (f : A → LogRecord) (o : Option A) → ((a : A) → is_coordinators (f a).entry ≡ false)
    → FineLog (option_map f o)
unfolding FineLog
log_map f None all = tt
log_map f (Some a) all = all a

writing_fine : (kind : ℕ) (b : BranchName) (ws : List Write) → is_coordinators (writing kind b ws) ≡ false
writing_fine kind b ws = by_test (kind == 17)
  where
    by_test : (t : Bool) → is_coordinators (if t then Prepared b ws else Direct b ws) ≡ false
    by_test true = refl
    by_test false = refl

told_fine : (b : BranchName) (rest : List ℕ) → Fine (told b rest)
unfolding Fine
told_fine b [] = tt
told_fine b (o ∷ []) =
    fine_if (o == 1) (Some (Told b CommittedOutcome))
    (if o == 0 then Some (Told b AbortedOutcome) else None) refl
    (fine_if (o == 0) (Some (Told b AbortedOutcome)) None refl tt)
told_fine b (o ∷ p ∷ rest) = tt

bare_fine : (kind : ℕ) (b : BranchName) → Fine (bare kind b)
unfolding Fine
bare_fine kind b =
    fine_if (kind == 18) (Some (Committed b)) _ refl
    (fine_if (kind == 19) (Some (RolledBack b)) _ refl
    (fine_if (kind == 21) (Some (HeurCommit b)) _ refl
    (fine_if (kind == 22) (Some (HeurRollback b)) _ refl
    (fine_if (kind == 24) (Some (Forgot b)) None refl tt))))

branch_fine : (kind : ℕ) (b : BranchName) (rest : List ℕ) → Fine (branch_record kind b rest)
unfolding Fine
branch_fine kind b rest =
    fine_if ((kind == 17) || (kind == 20)) (option_map (writing kind b) (writes_of rest)) _
    (fine_map (writing kind b) (writes_of rest) (writing_fine kind b))
    (fine_if (kind == 23) (told b rest) _ (told_fine b rest)
    (fine_if (length rest == 0) (bare kind b) None (bare_fine kind b) tt))

named_fine : (kind : ℕ) (n : Front Name) → FineLog (of_branch kind n)
unfolding Fine FineLog
named_fine kind None = tt
named_fine kind (Some n) = by_record (branch_record kind n.0.1 n.1) (branch_fine kind n.0.1 n.1)
  where
    by_record : (o : Option Record) → Fine o → FineLog (option_map (named n.0.0) o)
    by_record None h = tt
    by_record (Some r) h = h

pair_fine : (k : Front (List ℕ)) → FineLog (pair_by k)
unfolding FineLog
pair_fine None = tt
pair_fine (Some k) = by_value (value_at k.1)
  where
    by_value : (v : Front (List ℕ)) → FineLog (pair_of k.0 v)
    by_value None = tt
    by_value (Some v) = log_if (length v.1 == 0) (Some (unnamed (Pair k.0 v.0))) None refl tt

manager_fine : (kind : ℕ) (payload : List ℕ) → FineLog (manager_record kind payload)
unfolding manager_record
manager_fine kind payload =
    log_if (kind == 25) (option_map (λ n. unnamed (Base n)) (below payload)) _
    (log_map (λ n. unnamed (Base n)) (below payload) (λ n. refl))
    (log_if (kind == 26) (pair_by (key_at payload)) (of_branch kind (name_at payload))
    (pair_fine (key_at payload))
    (named_fine kind (name_at payload)))

read_fine : (f : LogForm) (kind : ℕ) (payload : List ℕ) → f.kind ≡ Manager
    → FineLog (read_record f kind payload)
unfolding read_record
read_fine f kind payload is =
    log_if (kind == 1) (option_map (λ n. unnamed (Opened n)) (opened_boot f payload))
    (kind_record f.kind kind payload)
    (log_map (λ n. unnamed (Opened n)) (opened_boot f payload) (λ n. refl))
    (subst (λ k. FineLog (kind_record k kind payload)) (sym is) (manager_fine kind payload))

-- the record of a frame is one that a process of the log's kind writes
pub record_at : (f : LogForm) (kind : ℕ) (payload : List ℕ) (l : LogRecord)
    → read_record f kind payload ≡ Some l
    → IsRecordAt f.kind l.entry
unfolding FineLog
record_at f kind payload l is = by_kind f.kind refl
  where
    fine_some : FineLog (Some l) → is_coordinators l.entry ≡ false
    fine_some h = h

    by_kind : (k : Kind) → f.kind ≡ k → IsRecordAt k l.entry
    by_kind Coordinator e = tt
    by_kind Manager e = fine_some (subst FineLog is (read_fine f kind payload e))

-- these are records that a process of this kind writes
unfoldable pub AllAt : Kind → List LogRecord → Type 0
AllAt p [] = Unit {0}
AllAt p (l ∷ ls) = IsRecordAt p l.entry × AllAt p ls

abbrev reads : List Placed → List LogRecord
reads xs = map (λ x. x.read) xs

by_record : (p : Kind) (at : ℕ) (o : Option LogRecord) (more : List Placed)
    → ((l : LogRecord) → o ≡ Some l → IsRecordAt p l.entry) → AllAt p (reads more)
    → AllAt p (reads (and_placed at o more))
unfolding AllAt
by_record p at None more is rest = tt
by_record p at (Some l) more is rest = (is l refl, rest)

by_frame : (p : LogForm) (at : ℕ) (o : Option Cut) (more : ℕ → ℕ → List Placed)
    → ((a k : ℕ) → AllAt p.kind (reads (more a k)))
    → AllAt p.kind (reads (placed_by p at o more))
unfolding AllAt
by_frame p at None more rest = tt
by_frame p at (Some c) more rest =
    by_record p.kind at (read_record p c.0 c.1)
    (more (at + suc (size_bytes p.format) + length c.1) (size_bytes p.format + length c.1))
    (λ l is. record_at p c.0 c.1 l is)
    (rest (at + suc (size_bytes p.format) + length c.1) (size_bytes p.format + length c.1))

all_placed : (p : LogForm) (at k : ℕ) (bytes : List ℕ) → AllAt p.kind (reads (placed_in p at k bytes))
unfolding AllAt placed_in
all_placed p at k [] = tt
all_placed p at (suc k) (b ∷ bs) = all_placed p at k bs
all_placed p at zero (b ∷ bs) =
    by_frame p at (first_frame p.format (b ∷ bs)) (λ a k. placed_in p a k bs) (λ a k. all_placed p a k bs)

-- the records of a sound log are ones that a process of its kind writes
pub all_at : (p : LogForm) (bytes : List ℕ) (ls : List LogRecord) (torn : ℕ)
    → read_log p bytes ≡ Whole ls torn → AllAt p.kind ls
all_at p bytes ls torn is = subst (AllAt p.kind) (places_tell p bytes ls torn is) (all_placed p 5 0 _)
