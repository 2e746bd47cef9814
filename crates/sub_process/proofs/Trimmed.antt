-- A subordinate after a trim of its manager's log.
use Rattle.std.proofs.Common.{◌≡◌, ◌∙◌, inl, inr, ◌+◌, ◌++◌, ◌∷◌, [], ℕ, Bool, true, false, if◌then◌else◌, List, Option, Some, map, fold, length, refl, sym, ap, subst}
use Rattle.std.proofs.lemmas.Grind.{fold-append}
use Rattle.std.specs.List.{AllByRecursion}
use Rattle.xa_xid.specs.declared.xid.Xid.{Xid}
use Rattle.xa_tables.specs.declared.states.BranchState.{BranchState}
use Rattle.xa_branch.specs.Branches.{state_in}
use Rattle.log_text.specs.Forms.{log_form}
use Rattle.protocol.specs.declared.events.StepError.{StepError}
use Rattle.protocol.specs.declared.events.StepError.TheVariants as error
use Rattle.protocol.specs.declared.names.Kind.TheVariants.{Manager}
use Rattle.protocol.specs.declared.names.ProcessId.{ProcessId}
use Rattle.protocol.specs.declared.records.BranchName.{BranchName}
use Rattle.protocol.specs.declared.records.BranchName.TheVariants.{Foreign}
use Rattle.protocol.specs.declared.records.LogRecord.{LogRecord}
use Rattle.protocol.specs.declared.records.Record.{Record}
use Rattle.protocol.specs.declared.records.Record.TheVariants.{Opened, Collecting, Prepare, Commit, Abort, End, Prepared, Committed, RolledBack, Direct, HeurCommit, HeurRollback, Told, Forgot, Base, Pair, Cleared}
use Rattle.protocol.specs.declared.records.Write.{Write}
use Rattle.protocol.specs.declared.trees.TreeProcess.{TreeProcess}
use Rattle.protocol.specs.LogNames.{in_log, name_xid, own_by, own_records, renamed, by_xid, unnamed}
use Rattle.protocol.specs.Records.{branch_case, record_case, same_branch, same_xid}
use Rattle.protocol.specs.Standings.{unknown_view}
use Rattle.protocol.specs.Store.{Data, applied, base_records, no_data, pair_record, stored, stored_after, with_pair, writes_of, data_of}
use Rattle.log_text.proofs.NameReading.{same_xid_is, same_xid_refl}
use Rattle.log_rules.specs.trim.Tables.{same}
use Rattle.log_rules.specs.trim.Trims.{front_of_trim}
use Rattle.log_rules.proofs.trim.Names.{same_by_parts}
use Rattle.log_rules.specs.sound.Sound.{IsSound, IsSoundName}
use Rattle.log_rules.proofs.reads.Branches.{alike, read_as, read_name}
use Rattle.log_records.specs.Sights.{LogSight, records_of}
use Rattle.process_state.specs.Restarting.{ProcessNotTrimmed, ProcessTrims, trimmed_log}
use Rattle.process_state.specs.States.{SameCore, forced_sight}
use Rattle.process_state.proofs.Alike.{same_view}
use Rattle.resource_manager.specs.Orders.{AreInOrder}
use Rattle.resource_manager.specs.Sights.{ManagerSight, SameManager}
use Rattle.resource_manager.specs.declared.errors.TrimError.{TrimError}
use Rattle.resource_manager.specs.declared.errors.TrimError.TheVariants as trim_error
use Rattle.resource_manager.specs.Trimming.{ManagerNotTrimmed, ManagerTrimFails, ManagerTrims, trimmed}
use Rattle.protocol.specs.Views.{leaf_place}
use Rattle.sub_branches.specs.Tables.{branch_in}
use Rattle.sub_process.specs.Fronts.{IsHeader}
use Rattle.sub_process.specs.declared.subordinate.Front.{Front}
use Rattle.sub_process.specs.Subordinates.{IsTied, SubState, core_of, place_of}
use Rattle.sub_work.proofs.Quiet.{same_idle}
use Rattle.sub_process.proofs.Rows.{same_decided}
use Rattle.sub_process.proofs.Reached.{trim_broke_reached, trimmed_reached}
use Rattle.sub_process.proofs.Ties.{behind, same_tied, still_tied}

-- A manager's data are those of its log's records by their XIDs.

-- two tests of the same XIDs, whichever comes first
xid_test : (x y : Xid) → same_xid x y ≡ same y x
xid_test x y = by_test (same_xid x y) (same y x) refl refl
  where
    by_test : (a b : Bool) → same_xid x y ≡ a → same y x ≡ b → same_xid x y ≡ same y x
    by_test true true e f = e ∙ sym f
    by_test false false e f = e ∙ sym f
    by_test true false e f = absurd (let g : same y x
        ≡ true = (same_by_parts y x).1 (sym (same_xid_is x y e)) in cc)
    by_test false true e f =
        absurd (let g : same_xid x y ≡ true = ap (same_xid x)
        ((same_by_parts y x).0 f) ∙ same_xid_refl x in cc)

module _ (me p : ProcessId) (tree : List TreeProcess) where
  -- the same data; each branch has promised the same, as the process reads its name and by its XID
  record Alike (d e : Data) : Type 0 where
    count : d.count ≡ e.count
    pairs : d.pairs ≡ e.pairs
    promised : (q : Option ProcessId) (b : BranchName) → IsSoundName q b
        → writes_of (read_name (leaf_place me p tree) q b) d.promised
        ≡ writes_of (Foreign (name_xid q b)) e.promised

  branch_test : (q r : Option ProcessId) (a b : BranchName) → IsSoundName q a → IsSoundName r b
      → same_branch (read_name (leaf_place me p tree) q a) (read_name (leaf_place me p tree) r b)
      ≡ same_branch (Foreign (name_xid q a)) (Foreign (name_xid r b))
  unfolding same_branch
  branch_test q r a b h k = sym (alike (leaf_place me p tree) r q b a k h)
      ∙ sym (xid_test (name_xid q a) (name_xid r b))

  abbrev behind_one : Data → Record → Option ProcessId → Data
  behind_one d r q = fold stored_after d (own_by (leaf_place me p tree)
      (record { entry = r; parent = q }) (record_case r))

  promised_one : (d e : Data) (q : Option ProcessId) (b : BranchName) (ws : List Write)
      → IsSoundName q b → Alike d e
      → Alike (stored_after d (Prepared (read_name (leaf_place me p tree) q b) ws))
      (stored_after e (Prepared (Foreign (name_xid q b)) ws))
  unfolding writes_of
  promised_one d e q b ws h same_data = record {
    count = same_data.count;
    pairs = same_data.pairs;
    promised = λ r c k i. if branch_test q r b c h k i then ws else same_data.promised r c k i;
  }

  committed_one : (d e : Data) (v w : List Write) → v ≡ w → Alike d e
      → Alike (record d { count = d.count + 1; pairs = applied v d.pairs })
      (record e { count = e.count + 1; pairs = applied w e.pairs })
  committed_one d e v w is same_data = record {
    count = ap (λ n. n + 1) same_data.count;
    pairs = λ i. applied (is i) (same_data.pairs i);
    promised = same_data.promised;
  }

  -- a record of a branch, as the process reads it
  read_one : (r : BranchName → Record) (d e : Data) (q : Option ProcessId) (b : BranchName)
      → ((c a : BranchName) → renamed a (r c) ≡ r a) → ((c : BranchName) → record_case (r c) ≡ branch_case c)
      → Alike (stored_after d (r (read_name (leaf_place me p tree) q b))) e → Alike (behind_one d (r b) q) e
  read_one r d e q b names case h =
      subst (λ rs. Alike (fold stored_after d rs) e)
      (sym (read_as (leaf_place me p tree) p refl r q b names case)) h

  stored_one : (d e : Data) (r : Record) (q : Option ProcessId)
      → IsSound Manager (record { entry = r; parent = q }) → Alike d e
      → Alike (behind_one d r q) (stored_after e (by_xid (record { entry = r; parent = q })))
  stored_one d e (Opened n) q h k = k
  stored_one d e (Base n) q h k = record { count = refl; pairs = refl; promised = k.promised }
  stored_one d e (Pair x v) q h k =
      record { count = k.count; pairs = ap (with_pair x v) k.pairs; promised = k.promised }
  stored_one d e (Prepared b ws) q h k =
      read_one (λ c. Prepared c ws) d _ q b (λ c a. refl) (λ c. refl) (promised_one d e q b ws h.0 k)
  stored_one d e (Committed b) q h k =
      read_one Committed d _ q b (λ c a. refl) (λ c. refl) (committed_one d e _ _ (k.promised q b h) k)
  stored_one d e (RolledBack b) q h k = read_one RolledBack d _ q b (λ c a. refl) (λ c. refl) k
  stored_one d e (Direct b ws) q h k =
      read_one (λ c. Direct c ws) d _ q b (λ c a. refl) (λ c. refl) (committed_one d e ws ws refl k)
  stored_one d e (HeurCommit b) q h k =
      read_one HeurCommit d _ q b (λ c a. refl) (λ c. refl) (committed_one d e _ _ (k.promised q b h) k)
  stored_one d e (HeurRollback b) q h k = read_one HeurRollback d _ q b (λ c a. refl) (λ c. refl) k
  stored_one d e (Told b o) q h k = read_one (λ c. Told c o) d _ q b (λ c a. refl) (λ c. refl) k
  stored_one d e (Forgot b) q h k = read_one Forgot d _ q b (λ c a. refl) (λ c. refl) k
  stored_one d e (Collecting c ts) q h k = absurd h.1
  stored_one d e (Prepare c ts) q h k = absurd h.1
  stored_one d e (Commit c ts) q h k = absurd h.1
  stored_one d e (Abort c ts) q h k = absurd h.1
  stored_one d e (End c rep) q h k = absurd h.1
  stored_one d e (Cleared c) q h k = absurd h.1

  stored_from : (d e : Data) (ls : List LogRecord) → AllByRecursion (IsSound Manager) ls → Alike d e
      → Alike (fold stored_after d (own_records (leaf_place me p tree) ls))
      (fold stored_after e (map by_xid ls))
  unfolding own_records
  stored_from d e [] h k = k
  stored_from d e (l ∷ ls) h k =
      subst (λ v. Alike v (fold stored_after e (map by_xid (l ∷ ls))))
      (sym (fold-append stored_after d (own_by (leaf_place me p tree) l (record_case l.entry))
      (own_records (leaf_place me p tree) ls)))
      (stored_from (behind_one d l.entry l.parent) (stored_after e (by_xid l)) ls h.1
      (stored_one d e l.entry l.parent h.0 k))

  all_alike : (ls : List LogRecord) → AllByRecursion (IsSound Manager) ls
      → Alike (stored (own_records (leaf_place me p tree) ls)) (data_of ls)
  unfolding stored writes_of
  all_alike ls h = stored_from no_data no_data ls h
      (record { count = refl; pairs = refl; promised = λ q b k. refl })

  base_alike : (ls : List LogRecord) → AllByRecursion (IsSound Manager) ls
      → base_records (stored (own_records (leaf_place me p tree) ls)) ≡ base_records (data_of ls)
  base_alike ls h = let k = all_alike ls h in λ i. Base (k.count i) ∷ map pair_record (k.pairs i)

-- a base and its pairs have no name
pairs_unnamed : (q : Option ProcessId) (ps : List (List ℕ × List ℕ))
    → map (in_log q) (map pair_record ps) ≡ map unnamed (map pair_record ps)
pairs_unnamed q [] = refl
pairs_unnamed q (x ∷ ps) = ap (λ ls. unnamed (pair_record x) ∷ ls) (pairs_unnamed q ps)

base_unnamed : (q : Option ProcessId) (d : Data)
    → map (in_log q) (base_records d) ≡ map unnamed (base_records d)
base_unnamed q d = ap (λ ls. unnamed (Base d.count) ∷ ls) (pairs_unnamed q d.pairs)

-- the log that a trim leaves is the manager's
trims_alike : (s : SubState) → AllByRecursion (IsSound Manager) (records_of s.manager.log.kept)
    → trimmed s.manager.log ≡ trimmed_log (core_of s)
trims_alike s sound =
    let ls = records_of s.manager.log.kept in
    ap (λ ks. front_of_trim ls ++ ks) (sym (base_unnamed (Some s.parent) (data_of ls))
    ∙ ap (map (in_log (Some s.parent))) (sym (base_alike s.me s.parent s.tree ls sound)))

-- What a trim leaves.

module _ (s : SubState) (m : ManagerSight) (sound : AllByRecursion (IsSound Manager)
    (records_of s.manager.log.kept)) (own : s.manager.log.form ≡ log_form s.me Manager) where
  pub trims : (remain : ℕ) → ManagerTrims s.manager m remain
      → ProcessTrims (core_of s) (core_of (behind s s.table m)) remain
  trims remain h = record {
    log = h.log ∙ ap (λ ls. forced_sight s.manager.log.form ls s.manager.log.failures) (trims_alike s sound)
        ∙ ap (λ f. forced_sight f (trimmed_log (core_of s)) s.manager.log.failures) own;
    counts = h.counts ∙ ap length (trims_alike s sound);
    rest = record {
      place = refl;
      boot = h.boot;
      begun = refl;
      given = refl;
      tickets = λ d. refl;
      views = λ c. same_view unknown_view;
      branches = λ c. refl;
      decided = λ c. same_decided s m h.rest.decided (branch_in s.table c);
      spent = h.spent;
    };
  }

  -- The device failed.

  breaks : ManagerTrimFails s.manager m → ProcessNotTrimmed (core_of s)
      (core_of (behind s s.table m)) error.Device
  breaks h = record {
    either = elim h.either [
      | inl stands ↦ inl stands
      | inr one ↦ inr (one ∙ ap (λ ls. record { forced = ls; unforced = [] }) (trims_alike s sound))
    ];
    failed = h.failed;
    cause = h.cause;
    place = refl;
  }

  -- nothing changed
  stays : SameManager s.manager m → SameCore (core_of s) (core_of (behind s s.table m))
  stays same = record {
    log = same.log;
    rest = record {
      place = refl;
      boot = same.boot;
      begun = refl;
      given = refl;
      tickets = λ d. refl;
      views = λ c. same_view unknown_view;
      branches = λ c. refl;
      decided = λ c. same_decided s m same.rest.decided (branch_in s.table c);
      spent = same.spent;
    };
  }

  -- the error of a step for that of a trim
  abbrev pub step_error : TrimError → StepError
  step_error trim_error.Memory = error.Memory
  step_error trim_error.Device = error.Device
  step_error trim_error.Failed = error.Failed

  pub not_trimmed : (e : TrimError) → ManagerNotTrimmed s.manager m e
      → ProcessNotTrimmed (core_of s) (core_of (behind s s.table m)) (step_error e)
  not_trimmed trim_error.Memory h = stays h
  not_trimmed trim_error.Device h = breaks h
  not_trimmed trim_error.Failed h = (stays h.0, h.1)

-- The tie.

module _ {f : Front} (s : SubState) (m : ManagerSight) (order : AreInOrder (records_of s.manager.log.kept))
    (tied : IsTied f s) where
  pub trimmed_tied : IsHeader f → (remain : ℕ) → ManagerTrims s.manager m remain
      → IsTied f (behind s s.table m)
  trimmed_tied header remain h =
      still_tied s m tied (same_idle s.manager m h.tables tied.idle)
      (λ y. ap (λ (bs : List (Xid × BranchState)). state_in bs y) h.tables.branches.branches)
      h.rest.decided h.boot (ap (λ (l : LogSight). l.form) h.log)
      (trimmed_reached (place_of s) s.manager m tied.reached order h.boot h.log header)

  pub untrimmed_tied : IsHeader f → (e : TrimError) → ManagerNotTrimmed s.manager m e
      → IsTied f (behind s s.table m)
  untrimmed_tied header trim_error.Memory h = same_tied s m tied h
  untrimmed_tied header trim_error.Failed h = same_tied s m tied h.0
  untrimmed_tied header trim_error.Device h =
      still_tied s m tied (same_idle s.manager m h.tables tied.idle)
      (λ y. ap (λ (bs : List (Xid × BranchState)). state_in bs y) h.tables.branches.branches)
      h.decided h.boot h.form (trim_broke_reached (place_of s) s.manager m tied.reached order h header)
