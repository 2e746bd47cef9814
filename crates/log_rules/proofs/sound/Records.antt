-- The payload of a sound record reads as this record.
use Rattle.std.proofs.Common.{◌≡◌, ◌<◌, ◌^◌, ℕ, true, bytes_eq, nat_lt, if◌then◌else◌, List, [], ◌∷◌, ◌++◌, Option, Some, None, option_map, refl, sym, ap, ◌∙◌, arith, append-nil}
use Rattle.std.proofs.lemmas.Bool.Decides.{nat_tests}
use Rattle.std.proofs.lemmas.Slice.Eq.{bytes_eq-Decides}
use Rattle.byteorder.specs.Endian.{big_bytes}
use Rattle.protocol.specs.declared.names.Kind.{Kind}
use Rattle.protocol.specs.declared.names.Kind.TheVariants.{Coordinator, Manager}
use Rattle.protocol_words.specs.Variants.{AbortedOutcome, CaseBranch, CommittedOutcome}
use Rattle.protocol.specs.declared.names.ProcessId.{ProcessId}
use Rattle.protocol.specs.declared.records.BranchName.{BranchName}
use Rattle.protocol.specs.declared.records.LogRecord.{LogRecord}
use Rattle.protocol.specs.declared.records.Record.{Record}
use Rattle.protocol.specs.declared.records.Record.TheVariants.{Opened, Collecting, Prepare, Commit, Abort, End, Prepared, Committed, RolledBack, Direct, HeurCommit, HeurRollback, Told, Forgot, Base, Pair, Cleared}
use Rattle.log_text.specs.declared.form.LogForm.{LogForm}
use Rattle.log_text.specs.declared.form.LogFormat.{LogFormat}
use Rattle.log_text.specs.declared.form.LogFormat.TheVariants.{First, Second}
use Rattle.log_text.specs.Parts.{name_at, value_at}
use Rattle.log_text.specs.Payloads.{kind_byte, name_text, opened_text, owner_text, payload_text, reports_text, tickets_text, value_text, writes_text}
use Rattle.log_text.specs.Reading.{below, coordinator_record, listing, manager_record, named, of_branch, of_name, opened_boot, pair_by, pair_of, read_record, writing}
use Rattle.protocol.specs.LogNames.{unnamed}
use Rattle.log_rules.specs.sound.Sound.{IsSoundEntry, IsSoundName, RecordsReadBack}
use Rattle.log_rules.proofs.sound.Names.{name_back}
use Rattle.log_rules.proofs.sound.Parts.{key_back, number_back, reports_back, tickets_back, value_back, writes_back}

-- a record without a name has no parent
without_parent : (p : Option ProcessId) (r : Record) → p ≡ None
    → ◌≡◌ {A = Option LogRecord} (Some (unnamed r)) (Some (named p r))
without_parent p r e = ap (λ q. Some (named q r)) (sym e)

below_back : (n : ℕ) → n < 2 ^ 63 → below (big_bytes 8 n) ≡ Some n
below_back n h =
    let e = number_back n h in
    ap (λ m. if nat_lt m (2 ^ 63) then Some m else None) e ∙ ap (λ b. if b then Some n else None) (limit n h)
  where
    limit : (n : ℕ) → n < 2 ^ 63 → nat_lt n (2 ^ 63) ≡ true
    limit n h = grind (arith, nat_tests)

-- what is after the name of a case
case_back : (kind : ℕ) (p : Option ProcessId) (b : BranchName) (rest payload : List ℕ) → IsSoundName p b
    → payload ≡ name_text p b ++ rest
    → coordinator_record kind payload ≡ of_name kind (Some ((p, b), rest))
unfolding coordinator_record
case_back kind p b rest payload s e = ap (λ t. of_name kind (name_at t)) e
    ∙ ap (of_name kind) (name_back p b rest s)

branch_back : (kind : ℕ) (p : Option ProcessId) (b : BranchName) (rest payload : List ℕ) → IsSoundName p b
    → payload ≡ name_text p b ++ rest
    → of_branch kind (name_at payload) ≡ of_branch kind (Some ((p, b), rest))
branch_back kind p b rest payload s e = ap (λ t. of_branch kind (name_at t)) e
    ∙ ap (of_branch kind) (name_back p b rest s)

bare_name : (p : Option ProcessId) (b : BranchName) → name_text p b ≡ name_text p b ++ []
bare_name p b = sym (append-nil (name_text p b))

abbrev form_of : LogFormat → ProcessId → Kind → LogForm
form_of f q k = record { format = f; process = q; kind = k }

boot_back : (f : LogFormat) (q : ProcessId) (k : Kind) (n : ℕ) → n < 2 ^ 63
    → opened_boot (form_of f q k) (opened_text (form_of f q k) n) ≡ Some n
boot_back First q k n h = below_back n h
boot_back Second q k n h =
    let owner = owner_text (form_of Second q k) in
    ap (λ b. if b then below (big_bytes 8 n) else None) (same_itself owner) ∙ below_back n h
  where
    same_itself : (xs : List ℕ) → bytes_eq xs xs ≡ true
    same_itself xs = (bytes_eq-Decides xs xs).1 refl

record_back : (f : LogFormat) (q : ProcessId) (k : Kind) (p : Option ProcessId) (r : Record)
    → IsSoundEntry k p r
    → read_record (form_of f q k) (kind_byte r) (payload_text (form_of f q k) p r) ≡ Some (named p r)
unfolding read_record manager_record
record_back f q Coordinator p (Opened n) h = ap (option_map (λ m. unnamed (Opened m)))
    (boot_back f q Coordinator n h.1)
    ∙ without_parent p (Opened n) h.0
record_back f q Manager p (Opened n) h = ap (option_map (λ m. unnamed (Opened m)))
    (boot_back f q Manager n h.1)
    ∙ without_parent p (Opened n) h.0
record_back f q Coordinator p (Collecting c ts) h =
    case_back 2 p (CaseBranch c) (tickets_text ts) _ h.0 refl
    ∙ ap (option_map (λ us. named p (listing 2 c us))) (tickets_back ts h.1)
record_back f q Coordinator p (Prepare c ts) h =
    case_back 3 p (CaseBranch c) (tickets_text ts) _ h.0 refl
    ∙ ap (option_map (λ us. named p (listing 3 c us))) (tickets_back ts h.1)
record_back f q Coordinator p (Commit c ts) h =
    case_back 4 p (CaseBranch c) (tickets_text ts) _ h.0 refl
    ∙ ap (option_map (λ us. named p (listing 4 c us))) (tickets_back ts h.1)
record_back f q Coordinator p (Abort c ts) h =
    case_back 5 p (CaseBranch c) (tickets_text ts) _ h.0 refl
    ∙ ap (option_map (λ us. named p (listing 5 c us))) (tickets_back ts h.1)
record_back f q Coordinator p (End c None) h = case_back 6 p (CaseBranch c) [] _ h
    (bare_name p (CaseBranch c))
record_back f q Coordinator p (End c (Some r)) h =
    case_back 7 p (CaseBranch c) (reports_text r) _ h.0 refl
    ∙ ap (option_map (λ q. named p (End c (Some q)))) (reports_back r h.1)
record_back f q Coordinator p (Cleared c) h = case_back 8 p (CaseBranch c) [] _ h (bare_name p (CaseBranch c))
record_back f q Manager p (Prepared b ws) h =
    branch_back 17 p b (writes_text ws) _ h.0 refl
    ∙ ap (λ o. option_map (named p) (option_map (writing 17 b) o)) (writes_back ws h.1)
record_back f q Manager p (Direct b ws) h =
    branch_back 20 p b (writes_text ws) _ h.0 refl
    ∙ ap (λ o. option_map (named p) (option_map (writing 20 b) o)) (writes_back ws h.1)
record_back f q Manager p (Committed b) h = branch_back 18 p b [] _ h (bare_name p b)
record_back f q Manager p (RolledBack b) h = branch_back 19 p b [] _ h (bare_name p b)
record_back f q Manager p (HeurCommit b) h = branch_back 21 p b [] _ h (bare_name p b)
record_back f q Manager p (HeurRollback b) h = branch_back 22 p b [] _ h (bare_name p b)
record_back f q Manager p (Told b CommittedOutcome) h = branch_back 23 p b (1 ∷ []) _ h refl
record_back f q Manager p (Told b AbortedOutcome) h = branch_back 23 p b (0 ∷ []) _ h refl
record_back f q Manager p (Forgot b) h = branch_back 24 p b [] _ h (bare_name p b)
record_back f q Manager p (Base n) h = ap (option_map (λ m. unnamed (Base m))) (below_back n h.1)
    ∙ without_parent p (Base n) h.0
record_back f q Manager p (Pair k v) h =
    ap pair_by (key_back k (value_text v) h.1.0)
    ∙ ap (λ t. pair_of k (value_at t)) (sym (append-nil (value_text v)))
    ∙ ap (pair_of k) (value_back v [] h.1.1) ∙ without_parent p (Pair k v) h.0
record_back f q Coordinator p (Prepared b ws) h = absurd h.1
record_back f q Coordinator p (Committed b) h = absurd h.1
record_back f q Coordinator p (RolledBack b) h = absurd h.1
record_back f q Coordinator p (Direct b ws) h = absurd h.1
record_back f q Coordinator p (HeurCommit b) h = absurd h.1
record_back f q Coordinator p (HeurRollback b) h = absurd h.1
record_back f q Coordinator p (Told b o) h = absurd h.1
record_back f q Coordinator p (Forgot b) h = absurd h.1
record_back f q Coordinator p (Base n) h = absurd h.1
record_back f q Coordinator p (Pair k v) h = absurd h.1
record_back f q Manager p (Collecting c ts) h = absurd h.1
record_back f q Manager p (Prepare c ts) h = absurd h.1
record_back f q Manager p (Commit c ts) h = absurd h.1
record_back f q Manager p (Abort c ts) h = absurd h.1
record_back f q Manager p (End c rep) h = absurd h.1
record_back f q Manager p (Cleared c) h = absurd h.1

pub records_read_back : RecordsReadBack
records_read_back f l h = record_back f.format f.process f.kind l.parent l.entry h
