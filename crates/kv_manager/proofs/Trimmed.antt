-- A manager after a trim of its log.
use Rattle.std.proofs.Common.{◌≡◌, ◌∙◌, ℕ, Bool, true, false, Option, Some, None, is_some, Result, Ok, Err, OnOk, IfErr, List, [], ◌∷◌, ◌++◌, map, refl, sym, ap, subst, inl, inr}
use Rattle.std.proofs.lemmas.List.{append-nil}
use Rattle.std.specs.List.{AllByRecursion}
use Rattle.xa_xid.specs.declared.xid.Xid.{Xid}
use Rattle.protocol.specs.declared.names.Kind.TheVariants.{Manager}
use Rattle.protocol.specs.declared.names.ProcessId.{ProcessId}
use Rattle.protocol.specs.declared.records.BranchName.TheVariants.{Foreign}
use Rattle.protocol.specs.declared.records.LogRecord.{LogRecord}
use Rattle.protocol.specs.declared.records.Record.{Record}
use Rattle.protocol.specs.declared.records.Record.TheVariants.{Opened, Collecting, Prepare, Commit, Abort, End, Prepared, Committed, RolledBack, Direct, HeurCommit, HeurRollback, Told, Forgot, Base, Pair, Cleared}
use Rattle.protocol.specs.Restarts.{is_open}
use Rattle.protocol.specs.Store.{Data, base_records, pair_record, writes_of, data_of}
use Rattle.log_rules.specs.sound.Sound.{IsSound, IsSoundEntry}
use Rattle.log_records.specs.Sights.{Kept, LogSight, LogState, NotRewritten, Rewritten, records_of}
use Rattle.log_records.proofs.Trims.{settled_trimmed, settled_untrimmed}
use Rattle.log_records.specs.declared.log.LogError.{LogError}
use Rattle.log_records.specs.declared.log.LogError.TheVariants.{Device, Memory}
use Rattle.kv_manager.proofs.Restoring.{kept_alike}
use Rattle.log_records.specs.Trimming.{StaysTrimmed, LogTrimmed, data_by, own_data}
use Rattle.log_records.specs.Trimming
use Rattle.kv_store.specs.Pairs.{ArePairsOf, keys_rise}
use Rattle.kv_store.proofs.Pairs.{same_pairs}
use Rattle.kv_store.specs.Versions.{VersionTable}
use Rattle.protocol.specs.Standings.{Decided, Finished, Mark, Promised, ToldOf, Unmarked, mark_at}
use Rattle.kv_state.specs.Ends.{known_of}
use Rattle.kv_state.specs.Decisions.{says_decided}
use Rattle.kv_state.specs.Folds.{AreData}
use Rattle.kv_state.specs.Keeping.{KeepsData, is_managers}
use Rattle.log_rules.specs.trim.Trims.{front_of_trim, trim_of}
use Rattle.protocol.specs.LogNames.{unnamed}
use Rattle.kv_state.proofs.Trims.{trims_keep_data}
use Rattle.kv_manager.specs.Sights.{IsKvManager, IsLogged, KvSight, SaysDecided, are_ordered, has_records, logged}
use Rattle.log_rules.specs.declared.order.seen.Promise.{Promise}
use Rattle.log_rules.specs.order.Orders.{SeenLog, found}
use Rattle.kv_state.specs.Replays.{AreCountedCommits, seen_of}
use Rattle.resource_manager.specs.Restarting.{marked_state}
use Rattle.xa_tables.specs.declared.states.BranchState.TheVariants.{S0}
use Rattle.kv_manager.proofs.Follows.{off_by}
use Rattle.kv_manager.proofs.Fronts.{seen_where}
use Rattle.kv_manager.proofs.Marks.{agrees_of, state_by}
use Rattle.kv_manager.proofs.TrimCounts.{trim_counts}
use Rattle.kv_manager.proofs.TrimOrder.{TrimFollows, trim_follows}
use Rattle.kv_manager.proofs.Turns.{same_data}

-- The records of a manager's log are of no coordinator's case.

of_manager : (q : Option ProcessId) (r : Record) → IsSoundEntry Manager q r → is_managers r ≡ true
of_manager q (Collecting c ts) h = absurd h.1
of_manager q (Prepare c ts) h = absurd h.1
of_manager q (Commit c ts) h = absurd h.1
of_manager q (Abort c ts) h = absurd h.1
of_manager q (End c rep) h = absurd h.1
of_manager q (Cleared c) h = absurd h.1
of_manager q (Opened n) h = refl
of_manager q (Prepared b ws) h = refl
of_manager q (Committed b) h = refl
of_manager q (RolledBack b) h = refl
of_manager q (Direct b ws) h = refl
of_manager q (HeurCommit b) h = refl
of_manager q (HeurRollback b) h = refl
of_manager q (Told b o) h = refl
of_manager q (Forgot b) h = refl
of_manager q (Base n) h = refl
of_manager q (Pair k v) h = refl

all_of_manager : (ls : List LogRecord) → AllByRecursion (IsSound Manager) ls
    → AllByRecursion (λ l. is_managers l.entry ≡ true) ls
all_of_manager [] h = tt
all_of_manager (l ∷ ls) h = (of_manager l.parent l.entry h.0, all_of_manager ls h.1)

-- The log.

-- the frames after what stays are those of the data
abbrev pub AreOfData : KvSight → List LogRecord → Type 0
AreOfData s rs = rs ≡ map unnamed (base_records (logged s))

pairs_unnamed : (ps : List (List ℕ × List ℕ))
    → map (λ p. unnamed (pair_record p)) ps ≡ map unnamed (map pair_record ps)
pairs_unnamed [] = refl
pairs_unnamed (p ∷ ps) = ap (λ rs. unnamed (pair_record p) ∷ rs) (pairs_unnamed ps)

-- what a base and its pairs spell are the data, where their parts are
pub of_data : (ls rs : List LogRecord) (v : VersionTable) (count : ℕ)
    (ps : List (List ℕ × List ℕ)) → AreData v (data_of ls)
    → count ≡ v.count → ps ≡ (data_of ls).pairs
    → rs ≡ unnamed (Base count) ∷ map (λ p. unnamed (pair_record p)) ps
    → rs ≡ map unnamed (base_records (data_of ls))
of_data ls rs v count ps are counted is made =
    made ∙ (λ i. unnamed (Base ((counted ∙ are.count) i)) ∷ map (λ p. unnamed (pair_record p)) (is i))
    ∙ ap (λ ks. unnamed (Base (data_of ls).count) ∷ ks) (pairs_unnamed (data_of ls).pairs)

-- the pairs of the versions are those of the data that the versions are, where the keys of both rise
pub pairs_are_data : (v : VersionTable) (d : Data) (ps : List (List ℕ × List ℕ)) → AreData v d
    → keys_rise d.pairs ≡ true → ArePairsOf v ps → ps ≡ d.pairs
pairs_are_data v d ps are rise of =
    same_pairs ps d.pairs of.rise rise (λ k. of.values k ∙ are.values k)

records_behind : (s : KvSight) (log : LogState) (rs : List LogRecord) (n : ℕ)
    → AreOfData s rs → LogTrimmed s.log log rs n
    → records_of log.sight.kept ≡ trim_of (records_of s.log.sight.kept)
records_behind s log rs n of made =
    ap (λ us. log.sight.kept.forced ++ us) made.log.unforced
    ∙ append-nil log.sight.kept.forced ∙ made.log.forced
    ∙ ap (Trimming.trim_of s.log) of

-- a branch that an operator decided is open
decided_open : (m : Mark) → says_decided m ≡ true → is_open m ≡ true
decided_open Unmarked h = absurd (cc)
decided_open Promised h = refl
decided_open Decided h = refl
decided_open (ToldOf o) h = refl
decided_open Finished h = absurd (cc)

shut_state : (m : Mark) → is_open m ≡ false → marked_state m ≡ S0
shut_state Unmarked h = refl
shut_state Promised h = absurd (cc)
shut_state Decided h = absurd (cc)
shut_state (ToldOf o) h = absurd (cc)
shut_state Finished h = refl

none_state : (o : Option Promise) → is_some o ≡ false → state_by o ≡ S0
none_state None h = refl
none_state (Some p) h = absurd (cc)

-- a trim leaves records
some_trimmed : (ls : List LogRecord) → has_records (trim_of ls) ≡ true
some_trimmed ls = some_behind (front_of_trim ls)
  where
    some_behind : (ks : List LogRecord) → has_records (ks ++ map unnamed (base_records (data_of ls))) ≡ true
    some_behind [] = refl
    some_behind (k ∷ ks) = refl

-- the data of the log are after a trim, and so do the branches that are prepared or that operators decided
pub kept_trimmed : (s : KvSight) (log : LogState) (rs : List LogRecord) (n : ℕ) → IsKvManager s
    → s.log.sight.failed ≡ false
    → AllByRecursion (IsSound Manager) (records_of s.log.sight.kept) → AreOfData s rs
    → LogTrimmed s.log log rs n
    → IsKvManager (record s { log = log })
kept_trimmed s log rs n kept works sound of made = record {
  kind = ap (λ f. f.kind) made.log.form ∙ kept.kind;
  ordered = ap are_ordered is ∙ ap is_some follows.read;
  counted = subst AreCountedCommits (sym is)
      (trim_counts ls seen.0 (all_of_manager ls sound) stands.begun seen.1 kept.counted);
  stands = λ _. record {
    doubts = λ x. stands.doubts x ∙ by_mark x (is_open (mark_at ls x)) refl
        ∙ sym (ap (λ ks. marked_state (mark_at ks x)) is);
    begun = ap has_records is ∙ some_trimmed ls;
    are_data = subst (λ ks. AreData s.store.versions (data_of ks)) (sym is)
        (same_data s.store.versions (data_of ls) (data_of (trim_of ls)) keeps.count
        keeps.pairs stands.are_data);
    rise = ap (λ ks. keys_rise (data_of ks).pairs) is ∙ ap keys_rise keeps.pairs ∙ stands.rise;
    promises = λ x here. stands.promises x here ∙ sym (keeps.promises x (ap is_open (stands.marked x here)))
        ∙ sym (ap (λ ks. writes_of (Foreign x) (data_of ks).promised) is);
    marked = λ x here. ap (λ ks. mark_at ks x) is
        ∙ keeps.marks x (ap is_open (stands.marked x here)) ∙ stands.marked x here;
    decided = λ x here.
        let before = stands.decided x here in
        let still : is_open (mark_at ls x) ≡ true = decided_open (mark_at ls x) before.says in
        subst (λ ks. SaysDecided ks x (known_of s.store x)) (sym is) (record {
          says = ap says_decided (keeps.marks x still) ∙ before.says;
          how = before.how ∙ sym (keeps.decisions x still);
        });
  };
}
  where
    ls : List LogRecord
    ls = records_of s.log.sight.kept

    is : records_of log.sight.kept ≡ trim_of ls
    is = records_behind s log rs n of made

    stands : IsLogged s
    stands = kept.stands works

    seen : (u : SeenLog) × (seen_of ls ≡ Some u)
    seen = seen_where ls kept.ordered

    follows : TrimFollows ls seen.0
    follows = trim_follows ls seen.0 (all_of_manager ls sound) stands.begun seen.1

    keeps : KeepsData ls (trim_of ls)
    keeps = trims_keep_data ls (all_of_manager ls sound) stands.rise

    by_mark : (x : Xid) (b : Bool) → is_open (mark_at ls x) ≡ b
        → marked_state (mark_at ls x) ≡ marked_state (mark_at (trim_of ls) x)
    by_mark x true stays = sym (ap marked_state (keeps.marks x stays))
    by_mark x false gone =
        let before : marked_state (mark_at ls x) ≡ S0 = shut_state (mark_at ls x) gone in
        let off = off_by (found seen.0 x) ((agrees_of ls seen.0 seen.1).states x ∙ before) in
        before ∙ sym (none_state (found follows.seen x) (follows.known x off))
        ∙ (agrees_of (trim_of ls) follows.seen follows.read).states x

-- what a trim leaves may follow one another
trimmed_ordered : (s : KvSight) → IsKvManager s → s.log.sight.failed ≡ false
    → AllByRecursion (IsSound Manager) (records_of s.log.sight.kept)
    → are_ordered (trim_of (records_of s.log.sight.kept)) ≡ true
trimmed_ordered s kept works sound =
    let ls = records_of s.log.sight.kept in
    let seen = seen_where ls kept.ordered in
    ap is_some (trim_follows ls seen.0 (all_of_manager ls sound) (kept.stands works).begun seen.1).read

-- and its commits can be counted
trimmed_counted : (s : KvSight) → IsKvManager s → s.log.sight.failed ≡ false
    → AllByRecursion (IsSound Manager) (records_of s.log.sight.kept)
    → AreCountedCommits (trim_of (records_of s.log.sight.kept))
trimmed_counted s kept works sound =
    let ls = records_of s.log.sight.kept in
    let seen = seen_where ls kept.ordered in
    trim_counts ls seen.0 (all_of_manager ls sound) (kept.stands works).begun seen.1 kept.counted

-- a log that was not trimmed leaves a manager that stands, or that has failed
pub kept_untrimmed : (s : KvSight) (log : LogState) (rs : List LogRecord) (e : LogError) → IsKvManager s
    → s.log.sight.failed ≡ false → AllByRecursion (IsSound Manager) (records_of s.log.sight.kept)
    → AreOfData s rs → NotRewritten s.log log (Trimming.trim_of s.log rs) e
    → IsKvManager (record s { log = log })
kept_untrimmed s log rs Memory kept works sound of stays = kept_alike s log kept stays
kept_untrimmed s log rs Device kept works sound of broke = record {
  kind = ap (λ f. f.kind) broke.form ∙ kept.kind;
  ordered = elim broke.either [
    | inl same ↦ (ap (λ (k : Kept). are_ordered (records_of k)) same ∙ kept.ordered)
    | inr trimmed ↦ (ap (λ (k : Kept). are_ordered (records_of k)) trimmed
        ∙ ap are_ordered (append-nil (Trimming.trim_of s.log rs))
        ∙ ap (λ ks. are_ordered (Trimming.trim_of s.log ks)) of ∙ trimmed_ordered s kept works sound)
  ];
  counted = elim broke.either [
    | inl same ↦ subst (λ (k : Kept). AreCountedCommits (records_of k)) (sym same) kept.counted
    | inr trimmed ↦ subst AreCountedCommits
        (sym (ap (λ (k : Kept). records_of k) trimmed ∙ append-nil (Trimming.trim_of s.log rs)
        ∙ ap (Trimming.trim_of s.log) of)) (trimmed_counted s kept works sound)
  ];
  stands = λ no_more. absurd (let never : true ≡ false = sym broke.failed ∙ no_more in cc);
}

-- A trim that leaves the log as it is.

-- the data of a manager's log
abbrev pub data_in : LogSight → List LogRecord
data_in s = map unnamed (base_records (data_of (records_of s.kept)))

pub own_is_data : (s : LogSight) → s.form.kind ≡ Manager → own_data s ≡ data_in s
own_is_data s kind = ap (λ k. data_by k (records_of s.kept)) kind

pub trimmed_again : (old new : LogState) (count : ℕ) → old.sight.form.kind ≡ Manager → StaysTrimmed old count
    → Rewritten old new (records_of old.sight.kept) → LogTrimmed old new (data_in old.sight) count
trimmed_again old new count kind s r =
    subst (λ rs. LogTrimmed old new rs count) (own_is_data old.sight kind) (settled_trimmed old new count s r)

pub untrimmed_again : (old new : LogState) (count : ℕ) (e : LogError) → old.sight.form.kind ≡ Manager
    → StaysTrimmed old count → NotRewritten old new (records_of old.sight.kept) e
    → NotRewritten old new (Trimming.trim_of old (data_in old.sight)) e
untrimmed_again old new count e kind s r =
    subst (λ rs. NotRewritten old new (Trimming.trim_of old rs) e) (own_is_data old.sight kind)
    (settled_untrimmed old new count e s r)

-- whichever the answer is, the manager stands, or has failed
pub kept_again : {A : Type 0} (r : Result A LogError) (s : KvSight) (log : LogState) (n : ℕ) → IsKvManager s
    → s.log.sight.failed ≡ false → AllByRecursion (IsSound Manager) (records_of s.log.sight.kept)
    → OnOk r (LogTrimmed s.log log (data_in s.log.sight) n)
    → IfErr r (λ e. NotRewritten s.log log (Trimming.trim_of s.log (data_in s.log.sight)) e)
    → IsKvManager (record s { log = log })
kept_again (Ok a) s log n kept works sound made why =
    kept_trimmed s log (data_in s.log.sight) n kept works sound refl made
kept_again (Err e) s log n kept works sound made why =
    kept_untrimmed s log (data_in s.log.sight) e kept works sound refl why
