-- What a manager reads of its log once it was trimmed.
use Rattle.std.proofs.Common.{◌≡◌, Bool, true, false, not, ◌&&◌, if◌then◌else◌, ℕ, List, [], ◌∷◌, ◌++◌, Option, Some, None, fold, refl, sym, ap, ◌∙◌}
use Rattle.std.specs.List.{AllByRecursion, list_any}
use Rattle.std.specs.Prelude.{option_map}
use Rattle.protocol.specs.declared.names.Kind.TheVariants.{Manager}
use Rattle.protocol.specs.declared.names.ProcessId.{ProcessId}
use Rattle.protocol.specs.declared.records.BranchName.{BranchName}
use Rattle.protocol.specs.declared.records.BranchName.TheVariants.{Foreign}
use Rattle.protocol_words.specs.Variants.{CaseBranch}
use Rattle.protocol.specs.declared.records.LogRecord.{LogRecord}
use Rattle.protocol.specs.declared.records.Record.{Record}
use Rattle.protocol.specs.declared.records.Record.TheVariants.{Opened, Collecting, Prepare, Commit, Abort, End, Prepared, Committed, RolledBack, Direct, HeurCommit, HeurRollback, Told, Forgot, Base, Pair, Cleared}
use Rattle.protocol.specs.LogNames.{name_by, name_xid, own_by, own_records, renamed}
use Rattle.protocol.specs.Nodes.{AtLeaf, Place, Role}
use Rattle.protocol.specs.Records.{boot_after, boot_of, branch_case, is_opened, record_branch, record_case}
use Rattle.protocol.specs.Restarts.{branch_stays, data_records, is_open, trimmed, stays as model_stays, staying as model_staying}
use Rattle.protocol.specs.Standings.{Unmarked, mark_of}
use Rattle.log_rules.specs.trim.Tables.{is_live, log_name}
use Rattle.log_rules.specs.trim.Trims.{front_of_trim, last_opened, opened_after, prepares, said_of, stays, stays_by, staying}
use Rattle.log_rules.specs.sound.Sound.{IsSound, IsSoundName}
use Rattle.log_rules.specs.reads.ReadTrims.{ManagersReadTrims}
use Rattle.log_rules.proofs.reads.Branches.{live_is_open, promises_alike, read_as, read_name, says_mark}
use Rattle.log_rules.proofs.reads.LastOpened.{ReadsBoot, opened_last, own_append}

model_branch_stays : (role : Role) (s : ProcessId) (rs after : List Record) (r : Record) → role ≡ AtLeaf s
    → model_stays role rs after r ≡ branch_stays rs after (record_branch r)
model_branch_stays role s rs after r is = ap (λ z. model_stays z rs after r) is

named_so : (r : BranchName → Record) (q : Option ProcessId) (b : BranchName)
    → ((c : BranchName) → record_case (r c)
    ≡ branch_case c) → ((c : BranchName) → record_branch (r c) ≡ Some c)
    → log_name (record { entry = r b; parent = q }) ≡ Some (name_xid q b)
named_so r q (CaseBranch d) case named = ap (λ o. option_map (name_xid q) (name_by o (record_branch (r
    (CaseBranch d))))) (case (CaseBranch d))
named_so r q (Foreign y) case named =
    ap (λ o. option_map (name_xid q) (name_by o (record_branch (r (Foreign y))))) (case (Foreign y))
    ∙ ap (λ o. option_map (name_xid q) o) (named (Foreign y))

module _ (place : Place) (s : ProcessId) (role : place.role
    ≡ AtLeaf s) (ls : List LogRecord) (sound : AllByRecursion (IsSound Manager) ls) where
  abbrev pub read : List Record
  read = own_records place ls

  -- a record of a branch stays where the branch that is read is open and was not promised again
  branch_as_model : (q : Option ProcessId) (b : BranchName) (rest : List LogRecord) → IsSoundName q b
      → AllByRecursion (IsSound Manager) rest
      → stays_by ls rest (Some (name_xid q b))
      ≡ branch_stays read (own_records place rest) (Some (read_name place q b))
  unfolding said_of mark_of
  branch_as_model q b rest name h =
      ap (λ z. is_live z && not (list_any (prepares (name_xid q b)) rest)) (says_mark place s role q b name
      ls Unmarked sound)
      ∙ ap (λ z. z && not (list_any (prepares (name_xid q b)) rest)) (live_is_open (mark_of (read_name place
      q b) read))
      ∙ ap (λ z. is_open (mark_of (read_name place q b) read) && not z)
      (promises_alike place s role q b name rest h)

  abbrev pub StaysAlike : LogRecord → List LogRecord → Type 0
  StaysAlike l rest =
      own_records place (if stays ls rest l then l ∷ staying ls rest else staying ls rest)
      ≡ model_staying place.role read (own_by place l (record_case l.entry) ++ own_records place rest)

  one_stays : (l : LogRecord) (rest : List LogRecord) (r : Record) (b : Bool)
      → own_by place l (record_case l.entry) ≡ r ∷ []
      → stays ls rest l ≡ b → model_stays place.role read (own_records place rest) r ≡ b
      → own_records place (staying ls rest) ≡ model_staying place.role read (own_records place rest)
      → StaysAlike l rest
  unfolding own_records
  one_stays l rest r b own is model behind =
      ap (λ k. own_records place (if k then l ∷ staying ls rest else staying ls rest)) is ∙ by_test b
      ∙ ap (λ k. if k then r ∷ model_staying place.role read (own_records place rest) else model_staying
      place.role read (own_records place rest)) (sym model)
      ∙ ap (λ t. model_staying place.role read (t ++ own_records place rest)) (sym own)
    where
      by_test : (k : Bool) → own_records place (if k then l ∷ staying ls rest else staying ls rest)
          ≡ (if k then r ∷ model_staying place.role read (own_records place rest) else model_staying
          place.role read (own_records place rest))
      by_test true = ap (λ t. t ++ own_records place (staying ls rest)) own ∙ ap (λ t. r ∷ t) behind
      by_test false = behind

  branch_stays_alike : (r : BranchName → Record) (q : Option ProcessId) (b : BranchName)
      (rest : List LogRecord)
      → IsSoundName q b → AllByRecursion (IsSound Manager) rest
      → ((c d : BranchName) → renamed d (r c) ≡ r d) → ((c : BranchName) → record_case (r c) ≡ branch_case c)
      → ((c : BranchName) → record_branch (r c) ≡ Some c)
      → own_records place (staying ls rest) ≡ model_staying place.role read (own_records place rest)
      → StaysAlike (record { entry = r b; parent = q }) rest
  branch_stays_alike r q b rest name h renames case named behind =
      let own = read_as place s role r q b renames case in
      one_stays (record { entry = r b; parent = q }) rest (r (read_name place q b)) (branch_stays read
      (own_records place rest) (Some (read_name place q b))) own
      (ap (stays_by ls rest) (named_so r q b case named) ∙ branch_as_model q b rest name h)
      (model_branch_stays place.role s read (own_records place rest) (r (read_name place q b)) role
      ∙ ap (branch_stays read (own_records place rest)) (named (read_name place q b)))
      behind

  unnamed_stays : (r : Record) (q : Option ProcessId) (rest : List LogRecord)
      → own_by place (record { entry = r; parent = q }) (record_case r) ≡ r ∷ []
      → stays ls rest (record { entry = r; parent = q }) ≡ false → record_branch r ≡ None
      → own_records place (staying ls rest) ≡ model_staying place.role read (own_records place rest)
      → StaysAlike (record { entry = r; parent = q }) rest
  unnamed_stays r q rest own is none behind =
      one_stays (record { entry = r; parent = q }) rest r false own is
      (model_branch_stays place.role s read (own_records place rest) r role
      ∙ ap (branch_stays read (own_records place rest)) none) behind

  record_stays : (r : Record) (q : Option ProcessId) (rest : List LogRecord)
      → IsSound Manager (record { entry = r; parent = q }) → AllByRecursion (IsSound Manager) rest
      → own_records place (staying ls rest) ≡ model_staying place.role read (own_records place rest)
      → StaysAlike (record { entry = r; parent = q }) rest
  record_stays (Opened n) q rest k h behind = unnamed_stays (Opened n) q rest refl refl refl behind
  record_stays (Base n) q rest k h behind = unnamed_stays (Base n) q rest refl refl refl behind
  record_stays (Pair x v) q rest k h behind = unnamed_stays (Pair x v) q rest refl refl refl behind
  record_stays (Prepared b ws) q rest k h behind = branch_stays_alike (λ c. Prepared c ws) q b rest k.0 h (λ
      c d. refl) (λ c. refl) (λ c. refl) behind
  record_stays (Committed b) q rest k h behind = branch_stays_alike Committed q b rest k h (λ c d. refl) (λ
      c. refl) (λ c. refl) behind
  record_stays (RolledBack b) q rest k h behind = branch_stays_alike RolledBack q b rest k h (λ c d. refl) (λ
      c. refl) (λ c. refl) behind
  record_stays (Direct b ws) q rest k h behind = branch_stays_alike (λ c. Direct c ws) q b rest k.0 h (λ c d.
      refl) (λ c. refl) (λ c. refl) behind
  record_stays (HeurCommit b) q rest k h behind = branch_stays_alike HeurCommit q b rest k h (λ c d. refl) (λ
      c. refl) (λ c. refl) behind
  record_stays (HeurRollback b) q rest k h behind = branch_stays_alike HeurRollback q b rest k h (λ c d.
      refl) (λ c. refl) (λ c. refl) behind
  record_stays (Told b o) q rest k h behind = branch_stays_alike (λ c. Told c o) q b rest k h (λ c d. refl)
      (λ c. refl) (λ c. refl) behind
  record_stays (Forgot b) q rest k h behind = branch_stays_alike Forgot q b rest k h (λ c d. refl) (λ c.
      refl) (λ c. refl) behind
  record_stays (Collecting d ts) q rest k h behind = absurd k.1
  record_stays (Prepare d ts) q rest k h behind = absurd k.1
  record_stays (Commit d ts) q rest k h behind = absurd k.1
  record_stays (Abort d ts) q rest k h behind = absurd k.1
  record_stays (End d rep) q rest k h behind = absurd k.1
  record_stays (Cleared d) q rest k h behind = absurd k.1

  pub staying_alike : (rest : List LogRecord) → AllByRecursion (IsSound Manager) rest
      → own_records place (staying ls rest) ≡ model_staying place.role read (own_records place rest)
  unfolding own_records staying
  staying_alike [] h = refl
  staying_alike (l ∷ rest) h = record_stays l.entry l.parent rest h.0 h.1 (staying_alike rest h.1)

module _ (place : Place) (s : ProcessId) (role : place.role ≡ AtLeaf s) where
  other_boot : (r : BranchName → Record) (q : Option ProcessId) (b : BranchName) → ((c d : BranchName)
      → renamed d (r c) ≡ r d) → ((c : BranchName) → record_case (r c) ≡ branch_case c)
      → ((c : BranchName) (n : ℕ) → boot_after n (r c) ≡ n) → is_opened (r b) ≡ false
      → ReadsBoot place (record { entry = r b; parent = q })
  other_boot r q b renames case leaves none = record {
    opened = λ is. absurd (cc);
    other = λ is n. ap (fold boot_after n) (read_as place s role r q b renames case)
        ∙ leaves (read_name place q b) n;
  }

  boot_read : (r : Record) (q : Option ProcessId) → IsSound Manager (record { entry = r; parent = q })
      → ReadsBoot place (record { entry = r; parent = q })
  boot_read (Opened n) q k = record { opened = λ is b. refl; other = λ is. absurd (cc) }
  boot_read (Base n) q k = record { opened = λ is. absurd (cc); other = λ is b. refl }
  boot_read (Pair x v) q k = record { opened = λ is. absurd (cc); other = λ is b. refl }
  boot_read (Prepared b ws) q k = other_boot (λ c. Prepared c ws) q b (λ c d. refl) (λ c. refl)
      (λ c n. refl) refl
  boot_read (Committed b) q k = other_boot Committed q b (λ c d. refl) (λ c. refl) (λ c n. refl) refl
  boot_read (RolledBack b) q k = other_boot RolledBack q b (λ c d. refl) (λ c. refl) (λ c n. refl) refl
  boot_read (Direct b ws) q k = other_boot (λ c. Direct c ws) q b (λ c d. refl) (λ c. refl) (λ c n. refl) refl
  boot_read (HeurCommit b) q k = other_boot HeurCommit q b (λ c d. refl) (λ c. refl) (λ c n. refl) refl
  boot_read (HeurRollback b) q k = other_boot HeurRollback q b (λ c d. refl) (λ c. refl) (λ c n. refl) refl
  boot_read (Told b o) q k = other_boot (λ c. Told c o) q b (λ c d. refl) (λ c. refl) (λ c n. refl) refl
  boot_read (Forgot b) q k = other_boot Forgot q b (λ c d. refl) (λ c. refl) (λ c n. refl) refl
  boot_read (Collecting d ts) q k = absurd k.1
  boot_read (Prepare d ts) q k = absurd k.1
  boot_read (Commit d ts) q k = absurd k.1
  boot_read (Abort d ts) q k = absurd k.1
  boot_read (End d rep) q k = absurd k.1
  boot_read (Cleared d) q k = absurd k.1

  boots_read : (ls : List LogRecord) → AllByRecursion (IsSound Manager) ls
      → AllByRecursion (ReadsBoot place) ls
  boots_read [] h = tt
  boots_read (l ∷ ls) h = (boot_read l.entry l.parent h.0, boots_read ls h.1)

pub managers_read_trims : ManagersReadTrims
unfolding front_of_trim last_opened trimmed boot_of
managers_read_trims place s ls role sound opened =
    let rs = own_records place ls in
    ap (λ t. t ++ data_records place.role rs) (
    own_append place (fold opened_after [] ls) (staying ls ls)
    ∙ ap (λ t. t ++ own_records place (staying ls ls)) (opened_last place ls 0 (boots_read place s role ls
    sound) opened)
    ∙ ap (λ t. Opened (fold boot_after 0 rs) ∷ t) (staying_alike place s role ls sound ls sound))
