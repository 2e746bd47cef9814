-- The pass over each log, record by record, and over the logs.
use Rattle.std.proofs.Common.{◌≡◌, ◌∙◌, ◌||◌, ◌<◌, ◌≤◌, ◌+◌, ℕ, Bool, true, false, if◌then◌else◌, Some, None, List, [], ◌∷◌, ◌++◌, fold, map, take, drop, find, get_or, length, refl, sym, ap, subst, arith}
use Rattle.std.proofs.lemmas.List.{take_all, take_more}
use Rattle.std.proofs.lemmas.List.Sums.{fold-append}
use Rattle.std.specs.List.{flat_map, list_all, list_any}
use Rattle.std.specs.Map.{lookup}
use Rattle.indexmap.specs.IndexMap.{insert_entry}
use Rattle.protocol.specs.declared.names.ProcessId.{ProcessId}
use Rattle.protocol.specs.declared.records.LogRecord.{LogRecord}
use Rattle.protocol.specs.declared.trees.TreeProcess.{TreeProcess}
use Rattle.protocol.specs.LogNames.{own_by, own_records}
use Rattle.protocol.specs.Names.{same_process}
use Rattle.protocol.specs.Nodes.{Role, is_listed, place_of}
use Rattle.protocol.specs.Records.{record_case}
use Rattle.protocol.specs.Trees.{IsTree}
use Rattle.protocol.specs.contracts.names.ProcessIdPartialEq.TheImpl as processes
use Rattle.log_text.specs.declared.form.LogForm.{LogForm}
use Rattle.log_text.specs.Forms.{form_in}
use Rattle.log_rules.specs.order.Logs.{LogReading, Whole, Damaged, read_as, read_log}
use Rattle.log_script.specs.Faults.{damage_or, first_damage}
use Rattle.log_script.specs.Places.{Placed, placed, placed_in}
use Rattle.log_script.proofs.PlaceLaws.{places_tell}
use Rattle.log_script.specs.declared.line.ProcessLog.{ProcessLog}
use Rattle.log_script.specs.Logs.{bytes_of}
use Rattle.log_records.specs.Openings.{IsLogFound, IsNoLog}
use Rattle.log_records.specs.declared.opening.StoreText.{StoreText}
use Rattle.log_records.specs.declared.opening.StoreText.TheVariants.{Empty, Sound}
use Rattle.log_records.specs.declared.opening.LogOpenError.{LogOpenError}
use Rattle.log_records.specs.declared.opening.LogOpenError.TheVariants.{Memory, Device, Damaged as DamagedError, OldFormat}
use Rattle.protocol.specs.Audits.{is_case_at}
use Rattle.audit_cases.specs.Notes.{LogNotes, listed_cases, log_notes_of, no_notes, noted, place_at}
use Rattle.audit_cases.proofs.NoteLaws.{noted_all}
use Rattle.audit_tree.specs.declared.report.AuditError.{AuditError}
use Rattle.audit_tree.specs.declared.report.AuditError.TheVariants as error
use Rattle.audit_tree.specs.Reports.{IsNoReport, entry_kind, kept_lists, whole_records}
use Rattle.audit_tree.specs.Tables.{AreNotes, IsDamage, NotesLog, TreeTables, frames_notes, same_id}
use Rattle.audit_tree.proofs.OwnCases.{own_cases}
use Rattle.audit_tree.proofs.RecordsAt.{AllAt, all_at}
use Rattle.audit_tree.proofs.TreePlaces.{Each, IsFound, each_at, each_found, is_one, itself, listed_entry, named_so, role_if, true_not_false}

-- Record by record.

abbrev reads : List Placed → List LogRecord
reads xs = map (λ x. x.read) xs

pub noted_ends : (tree : List TreeProcess) (e : TreeProcess) (t total : LogNotes) (xs : List Placed) → xs ≡ []
    → fold noted t (own_records (place_at tree e) (reads xs)) ≡ total → t ≡ total
unfolding own_records
noted_ends tree e t total xs is h =
    ap (λ ys. fold noted t (own_records (place_at tree e) (reads ys))) (sym is) ∙ h

pub noted_goes_on : (tree : List TreeProcess) (e : TreeProcess) (t new total : LogNotes)
    (at : ℕ) (l : LogRecord)
    (xs more : List Placed) → new ≡ fold noted t (own_by (place_at tree e) l (record_case l.entry))
    → xs ≡ placed at l ∷ more → fold noted t (own_records (place_at tree e) (reads xs)) ≡ total
    → fold noted new (own_records (place_at tree e) (reads more)) ≡ total
unfolding own_records
noted_goes_on tree e t new total at l xs more n is h =
    ap (λ s. fold noted s (own_records (place_at tree e) (reads more))) n
    ∙ sym (fold-append noted t (own_by (place_at tree e) l (record_case l.entry))
    (flat_map (λ m. own_by (place_at tree e) m (record_case m.entry)) (reads more)))
    ∙ sym (ap (λ ys. fold noted t (own_records (place_at tree e) (reads ys))) is) ∙ h

pub is_frames_notes : (f : LogForm) (tree : List TreeProcess) (e : TreeProcess) (frames : List ℕ)
    → fold noted no_notes (own_records (place_at tree e) (reads (placed_in f 5 0 frames)))
    ≡ frames_notes f tree e frames
unfolding frames_notes
is_frames_notes f tree e frames = refl

-- A log.

pub empty_notes : (tree : List TreeProcess) (e : TreeProcess) (bytes : List ℕ) (found : StoreText)
    → IsLogFound (form_in bytes e.id e.kind) bytes found
    → found ≡ Empty → NotesLog tree e bytes no_notes
unfolding own_records
empty_notes tree e bytes Empty h is = record { records = []; torn = 0; read = h.1; notes = noted_all [] }
empty_notes tree e bytes (Sound torn) h is = absurd (cc)

pub sound_notes : (tree : List TreeProcess) (e : TreeProcess) (bytes : List ℕ)
    (found : StoreText) (torn : ℕ) (t : LogNotes)
    → IsLogFound (form_in bytes e.id e.kind) bytes found → found ≡ Sound torn
    → t ≡ frames_notes (form_in bytes e.id e.kind) tree e (drop 5 bytes)
    → NotesLog tree e bytes t
unfolding frames_notes
sound_notes tree e bytes Empty torn t h is table = absurd (cc)
sound_notes tree e bytes (Sound size) torn t h is table = record {
  records = _;
  torn = size;
  read = h.3 ∙ h.2.read;
  notes = table
      ∙ ap (λ ls. fold noted no_notes (own_records (place_at tree e) ls))
      (places_tell (form_in bytes e.id e.kind) bytes _ size (h.3 ∙ h.2.read))
      ∙ noted_all _;
}

same_place : (a b : ℕ) → DamagedError a ≡ DamagedError b → a ≡ b
same_place a b e = cc

pub no_log : (p : LogForm) (bytes : List ℕ) (error : LogOpenError) (place : ℕ) → IsNoLog p bytes error
    → error ≡ DamagedError place → read_log p bytes ≡ Damaged place
no_log p bytes Memory place h e = absurd (cc)
no_log p bytes Device place h e = absurd (cc)
no_log p bytes OldFormat place h e = absurd (cc)
no_log p bytes (DamagedError at) place h e = h ∙ ap (λ n. Damaged n) (same_place at place e)

-- The logs.

pub sound_more : (e : TreeProcess) (es : List TreeProcess) (logs : List ProcessLog)
    (ls : List LogRecord) (torn : ℕ)
    → read_as e.id e.kind (bytes_of logs e.id) ≡ Whole ls torn
    → first_damage (e ∷ es) logs ≡ first_damage es logs
unfolding first_damage
sound_more e es logs ls torn is = ap (λ r. damage_or e.id r (first_damage es logs)) is

pub damaged_here : (e : TreeProcess) (es : List TreeProcess) (logs : List ProcessLog) (place : ℕ)
    → read_as e.id e.kind (bytes_of logs e.id) ≡ Damaged place
    → first_damage (e ∷ es) logs ≡ Some (e.id, place)
unfolding first_damage
damaged_here e es logs place is = ap (λ r. damage_or e.id r (first_damage es logs)) is

pub none_damaged : (logs : List ProcessLog) → first_damage [] logs ≡ None
unfolding first_damage
none_damaged logs = refl

-- what a process keeps is what it reads in its log
pub kept_is : (tree : List TreeProcess) (logs : List ProcessLog) (e : TreeProcess)
    (ls : List LogRecord) (torn : ℕ)
    → IsFound tree e → read_as e.id e.kind (bytes_of logs e.id) ≡ Whole ls torn
    → kept_lists tree logs e.id ≡ own_records (place_at tree e) ls
unfolding kept_lists
kept_is tree logs e ls torn found is =
    ap (λ o. own_records (place_of tree e.id)
    (whole_records (read_as e.id (entry_kind o) (bytes_of logs e.id)))) found
    ∙ ap (λ r. own_records (record { me = e.id; role = r; tree = tree })
    (whole_records (read_as e.id e.kind (bytes_of logs e.id))))
    (role_if tree e.id e found)
    ∙ ap (λ r. own_records (place_at tree e) (whole_records r)) is

whole_at : (p : LogForm) (bytes : List ℕ) (r : LogReading) → read_log p bytes ≡ r
    → AllAt p.kind (whole_records r)
unfolding AllAt
whole_at p bytes (Whole ls torn) is = all_at p bytes ls torn is
whole_at p bytes (Damaged place) is = tt

-- the cases of what a process keeps are its own
pub kept_own : (tree : List TreeProcess) (logs : List ProcessLog) → IsTree tree
    → (q : ProcessId) → is_listed tree q ≡ true → (role : Role)
    → list_all (is_case_at tree q) (listed_cases role (kept_lists tree logs q)) ≡ true
unfolding kept_lists
kept_own tree logs t q listed role =
    let found = listed_entry tree q listed in
    let here : found.0.id ≡ q = named_so tree q found.0 found.1 in
    let at : IsFound tree found.0 = subst (λ p. find (λ x. same_process x.id p) tree
    ≡ Some found.0) (sym here) found.1 in
    subst (λ p. list_all (is_case_at tree p) (listed_cases role (kept_lists tree logs p)) ≡ true) here
    (ap (λ rs. list_all (is_case_at tree found.0.id) (listed_cases role rs))
    (ap (λ o. own_records (place_of tree found.0.id)
    (whole_records (read_as found.0.id (entry_kind o) (bytes_of logs found.0.id)))) at
    ∙ ap (λ r. own_records (record { me = found.0.id; role = r; tree = tree })
    (whole_records (read_as found.0.id found.0.kind (bytes_of logs found.0.id))))
    (role_if tree found.0.id found.0 at))
    ∙ own_cases tree t found.0 at (whole_records (read_as found.0.id found.0.kind (bytes_of logs found.0.id)))
    (whole_at (form_in (bytes_of logs found.0.id) found.0.id found.0.kind) (bytes_of logs found.0.id)
    (read_as found.0.id found.0.kind (bytes_of logs found.0.id)) refl) role)

-- Maps of processes.

process_equality : (p q : ProcessId) → processes.ghosts.eq p q ≡ same_process p q
unfolding same_process
process_equality p q = grind arith

pub same_is : (p q : ProcessId) → same_id p q ≡ true → p ≡ q
same_is p q h = is_one p q (sym (process_equality p q) ∙ h)

pub same_self : (p : ProcessId) → same_id p p ≡ true
same_self p = process_equality p p ∙ itself p

-- what is found of a process after an entry that is put there
pub lookup_inserted : {A : Type 0} (ts : List (ProcessId × A)) (p q : ProcessId) (v : A)
    → lookup (same_id q) (insert_entry same_id ts p v)
    ≡ (if same_id q p then Some v else lookup (same_id q) ts)
lookup_inserted [] p q v = refl
lookup_inserted (x ∷ ts) p q v = by_place (same_id p x.0) refl (lookup_inserted ts p q v)
  where
    here : (b : Bool) → (if b then Some v else lookup (same_id q) ts)
        ≡ (if b then Some v else (if b then Some x.1 else lookup (same_id q) ts))
    here true = refl
    here false = refl

    there : (b c : Bool) → (b ≡ true → c ≡ true → ⊥)
        → (if b then Some x.1 else (if c then Some v else lookup (same_id q) ts))
        ≡ (if c then Some v else (if b then Some x.1 else lookup (same_id q) ts))
    there true true apart = absurd (apart refl refl)
    there true false apart = refl
    there false c apart = refl

    by_place : (b : Bool) → same_id p x.0 ≡ b
        → lookup (same_id q) (insert_entry same_id ts p v)
        ≡ (if same_id q p then Some v else lookup (same_id q) ts)
        → lookup (same_id q) (if b then (x.0, v) ∷ ts else x ∷ insert_entry same_id ts p v)
        ≡ (if same_id q p then Some v else (if same_id q x.0 then Some x.1 else lookup (same_id q) ts))
    by_place true is rest =
        here (same_id q x.0)
        ∙ ap (λ y. if same_id q y then Some v
        else (if same_id q x.0 then Some x.1 else lookup (same_id q) ts))
        (sym (same_is p x.0 is))
    by_place false is rest =
        ap (λ o. if same_id q x.0 then Some x.1 else o) rest
        ∙ there (same_id q x.0) (same_id q p)
        (λ one other. true_not_false (sym (ap (λ y. same_id y x.0) (sym (same_is q p other)) ∙ one) ∙ is))

pub apart_of : (b : Bool) → (b ≡ true → ⊥) → b ≡ false
apart_of true n = absurd (n refl)
apart_of false n = refl

-- what is noted of the processes of these entries
unfoldable pub NotedTo : List TreeProcess → List ProcessLog → List TreeProcess → TreeTables → Type 0
NotedTo tree logs es ts =
    (q : ProcessId) → is_listed es q ≡ true → lookup (same_id q) ts
    ≡ Some (log_notes_of (kept_lists tree logs q))

pub none_noted : (tree : List TreeProcess) (logs : List ProcessLog) (ts : TreeTables)
    → NotedTo tree logs [] ts
unfolding NotedTo is_listed
none_noted tree logs ts = λ q h. absurd (true_not_false (sym h))

pub listed_more : (es : List TreeProcess) (e : TreeProcess) (q : ProcessId)
    → is_listed (es ++ e ∷ []) q ≡ true
    → same_process e.id q ≡ false → is_listed es q ≡ true
unfolding is_listed
listed_more [] e q h apart = absurd (true_not_false (sym h ∙ ap (λ b. b || false) apart))
listed_more (x ∷ es) e q h apart = by_first (same_process x.id q) h (λ k. listed_more es e q k apart)
  where
    by_first : (b : Bool) → (b || list_any (λ y. same_process y.id q) (es ++ e ∷ [])) ≡ true
        → (list_any (λ y. same_process y.id q) (es ++ e ∷ []) ≡ true
        → list_any (λ y. same_process y.id q) es ≡ true)
        → (b || list_any (λ y. same_process y.id q) es) ≡ true
    by_first true k rest = refl
    by_first false k rest = rest k

pub noted_more : (tree : List TreeProcess) (logs : List ProcessLog) (es : List TreeProcess)
    (ts new : TreeTables) (e : TreeProcess)
    (t : LogNotes) → IsFound tree e → NotesLog tree e (bytes_of logs e.id) t
    → new ≡ insert_entry same_id ts e.id t
    → NotedTo tree logs es ts → NotedTo tree logs (es ++ e ∷ []) new
unfolding NotedTo
noted_more tree logs es ts new e t found notes is before = λ q h.
    ap (lookup (same_id q)) is ∙ lookup_inserted ts e.id q t ∙ by_name q h (same_id q e.id) refl
  where
    by_name : (q : ProcessId) → is_listed (es ++ e ∷ []) q ≡ true → (b : Bool) → same_id q e.id ≡ b
        → (if b then Some t else lookup (same_id q) ts) ≡ Some (log_notes_of (kept_lists tree logs q))
    by_name q h true here =
        ap Some
        (notes.notes ∙ ap log_notes_of (sym (kept_is tree logs e notes.records notes.torn found notes.read)))
        ∙ ap (λ p. Some (log_notes_of (kept_lists tree logs p))) (sym (same_is q e.id here))
    by_name q h false apart =
        before q (listed_more es e q h
        (apart_of (same_process e.id q)
        (λ one. true_not_false (sym (same_self q) ∙ ap (same_id q) (sym (is_one e.id q one)) ∙ apart))))

-- the next process
pub noted_next : (tree : List TreeProcess) (logs : List ProcessLog) → IsTree tree
    → (es : List TreeProcess) (i : ℕ)
    (ts new : TreeTables) (e : TreeProcess) (t : LogNotes) → es ≡ tree → i < length es → e ≡ get_or es i e
    → NotesLog tree e (bytes_of logs e.id) t → new ≡ insert_entry same_id ts e.id t
    → NotedTo tree logs (take i es) ts
    → NotedTo tree logs (take (i + 1) es) new
noted_next tree logs is_tree es i ts new e t same lt at notes is before =
    rw (take_more es i e lt, ← at) (noted_more tree logs (take i es) ts new e t
    (each_at (IsFound tree) es i e (subst (Each (IsFound tree)) (sym same) (each_found tree is_tree)) lt at)
    notes is before)

-- all processes
pub noted_all_of : (tree : List TreeProcess) (logs : List ProcessLog) → IsTree tree
    → (es : List TreeProcess) (i : ℕ)
    (ts : TreeTables) → es ≡ tree → length es ≤ i → NotedTo tree logs (take i es) ts
    → AreNotes tree (kept_lists tree logs) ts
unfolding NotedTo
noted_all_of tree logs is_tree es i ts same enough noted = record {
  tables = λ q listed. noted q (ap (λ xs. is_listed xs q) (take_all i es enough ∙ same) ∙ listed);
  own = kept_own tree logs is_tree;
}

-- the first log that is damaged, or no memory
pub first_damaged : (tree : List TreeProcess) (logs : List ProcessLog)
    (e : TreeProcess) (es rest : List TreeProcess)
    (error : AuditError) → IsDamage e (bytes_of logs e.id) error → rest ≡ e ∷ es
    → first_damage rest logs ≡ first_damage tree logs → IsNoReport tree logs error
first_damaged tree logs e es rest error.Memory damage is first = tt
first_damaged tree logs e es rest (error.Damaged q place) damage is first =
    sym first ∙ ap (λ xs. first_damage xs logs) is ∙ damaged_here e es logs place damage.1
    ∙ ap (λ p. Some (p, place)) (sym damage.0)
