-- What each record makes of the data, in versions and in the fold.
use Rattle.std.proofs.Common.{◌≡◌, ◌+◌, ◌≤◌, ◌<◌, arith, ◌⊎◌, ⊎_elim, ℕ, Bool, true, false, ◌||◌, cond, List, [], ◌∷◌, Some, None, refl, sym, ap, subst, ◌∙◌, is_some}
use Rattle.xa_xid.specs.declared.xid.Xid.{Xid}
use Rattle.protocol.specs.declared.records.BranchName.{BranchName}
use Rattle.protocol.specs.declared.records.BranchName.TheVariants.{Foreign}
use Rattle.protocol.specs.declared.records.LogRecord.{LogRecord}
use Rattle.protocol.specs.declared.records.Record.{Record}
use Rattle.protocol.specs.declared.records.Record.TheVariants.{Committed, Direct, HeurCommit, Base, Pair}
use Rattle.protocol.specs.declared.records.Write.{Write}
use Rattle.protocol.specs.LogNames.{name_xid, renamed_by}
use Rattle.protocol.specs.Records.{record_branch, is_opened}
use Rattle.protocol.specs.Store.{Data, applied, commits, stored_after, with_pair, writes_of}
use Rattle.log_rules.specs.order.Orders.{SeenLog, after, followed, found, is_open, promised, with_promise, without_promise}
use Rattle.log_rules.specs.declared.order.seen.DoubtMark.TheVariants.{Decided}
use Rattle.kv_store.specs.Pairs.{keys_rise}
use Rattle.kv_store.specs.Versions.{AppliesCommit, Sets, VersionTable, pair_write, value_at, value_by, written}
use Rattle.kv_store.proofs.Pairs.{writes_pairs}
use Rattle.kv_state.specs.Folds.{AreData, base_after}
use Rattle.kv_state.specs.Replays.{IsTied, KeepsBefore, DataTake}

-- a commit
pub applies_data : (old new : VersionTable) (d : Data) (ws : List Write) → keys_rise d.pairs ≡ true
    → AreData old d
    → AppliesCommit old new ws → AreData new (commits ws d)
applies_data old new d ws rise are made = record {
  count = made.count ∙ ap (λ n. n + 1) are.count;
  unstaged = made.is_staged;
  values = λ k. made.next k ∙ ap (written ws k) (are.values k)
      ∙ sym ((writes_pairs d.pairs ws rise).values k);
}

-- a commit of what an open branch promised
pub promise_data : (s : SeenLog) (x : Xid) (old new : VersionTable) (d : Data) → is_open (found s x) ≡ true
    → AppliesCommit old new (promised s x) → IsTied s d → AreData old d
    → AreData new (commits (writes_of (Foreign x) d.promised) d)
promise_data s x old new d is made tied are = subst (λ ws. AreData new (commits ws d)) (sym (tied.tied x is))
    (applies_data old new d (promised s x) tied.rise are made)

-- a pair
pub set_data : (old new : VersionTable) (d : Data) (k v : List ℕ) → keys_rise d.pairs ≡ true → AreData old d
    → Sets old new (pair_write (k, v)) → AreData new (record d { pairs = with_pair k v d.pairs })
unfolding applied
set_data old new d k v rise are made = record {
  count = made.count ∙ are.count;
  unstaged = made.is_staged;
  values = λ l. ap (λ n. value_at new n l) made.count ∙ made.now l
      ∙ ap (written (pair_write (k, v) ∷ []) l) (are.values l)
      ∙ sym ((writes_pairs d.pairs (pair_write (k, v) ∷ []) rise).values l);
}

-- a base
pub base_data : (d : Data) (n : ℕ) → AreData (record {
  base = n;
  count = n;
  is_staged = false;
  versions =
      [];
}) (record d { count = n; pairs = [] })
unfolding value_by
base_data d n = record { count = refl; unstaged = refl; values = λ k. refl }

-- a record that does not settle an open branch may not follow
pub never_after : (s : SeenLog) (l : LogRecord) → followed s l.parent l.entry ≡ None → after s l ≡ None
unfolding after
never_after s l none = by_test (is_some s.boot) (is_opened l.entry)
  where
    by_test : (a b : Bool) → cond (a || b) (followed s l.parent l.entry) None ≡ None
    by_test true b = none
    by_test false true = none
    by_test false false = refl

-- A record is taken.

pub takes_promise : (s : SeenLog) (l : LogRecord) (x : Xid) (b : BranchName) (old new : VersionTable)
    → (l.entry ≡ Committed b) ⊎ (l.entry ≡ HeurCommit b) → x ≡ name_xid l.parent b
    → is_open (found s x) ≡ true
    → AppliesCommit old new (promised s x) → DataTake s l old new
takes_promise s l x b old new entry name is made = ⊎_elim (λ h. subst Made (sym h) own)
    (λ h. subst Made (sym h) own) entry
  where
    Made : Record → Type 0
    Made r = (d : Data) → IsTied s d → AreData old d
        → AreData new (stored_after d (renamed_by l.parent (record_branch r) r))

    own : (d : Data) → IsTied s d → AreData old d → AreData new
        (commits (writes_of (Foreign (name_xid l.parent b)) d.promised) d)
    own d tied are = subst (λ y. AreData new (commits (writes_of (Foreign y) d.promised) d)) name
        (promise_data s x old new d is made tied are)

pub takes_direct : (s : SeenLog) (l : LogRecord) (b : BranchName) (ws : List Write) (old new : VersionTable)
    → l.entry ≡ Direct b ws → AppliesCommit old new ws → DataTake s l old new
takes_direct s l b ws old new entry made =
    subst (λ r. (d : Data) → IsTied s d → AreData old d
    → AreData new (stored_after d (renamed_by l.parent (record_branch r) r))) (sym entry)
    (λ d tied are. applies_data old new d ws tied.rise are made)

pub takes_base : (s : SeenLog) (l : LogRecord) (n : ℕ) (old new : VersionTable) → l.entry ≡ Base n
    → new ≡ record { base = n; count = n; is_staged = false; versions = [] } → DataTake s l old new
takes_base s l n old new entry made =
    subst (λ r. (d : Data) → IsTied s d → AreData old d
    → AreData new (stored_after d (renamed_by l.parent (record_branch r) r))) (sym entry)
    (λ d tied are. subst (λ t. AreData t (record d { count = n; pairs = [] })) (sym made) (base_data d n))

pub takes_pair : (s : SeenLog) (l : LogRecord) (k v : List ℕ) (old new : VersionTable) → l.entry ≡ Pair k v
    → Sets old new (pair_write (k, v)) → DataTake s l old new
takes_pair s l k v old new entry made =
    subst (λ r. (d : Data) → IsTied s d → AreData old d
    → AreData new (stored_after d (renamed_by l.parent (record_branch r) r))) (sym entry)
    (λ d tied are. set_data old new d k v tied.rise are made)

-- a commit of a branch that is not open may not follow
pub never_settles : (s : SeenLog) (l : LogRecord) (x : Xid) (b : BranchName)
    → (l.entry ≡ Committed b) ⊎ (l.entry ≡ HeurCommit b) → x ≡ name_xid l.parent b
    → is_open (found s x) ≡ false
    → after s l ≡ None
never_settles s l x b entry name is = never_after s l
    (⊎_elim (λ h. ap (followed s l.parent) h ∙ none (without_promise s (name_xid l.parent b)))
    (λ h. ap (followed s l.parent) h ∙ none (with_promise s (name_xid l.parent b)
    (record { mark = Decided; writes = [] }))) entry)
  where
    none : (t : SeenLog) → cond (is_open (found s (name_xid l.parent b))) (Some t) None ≡ None
    none t = ap (λ a. cond a (Some t) None) (ap (λ y. is_open (found s y)) (sym name) ∙ is)

-- What was before stays.

pub keeps_commit : (old new : VersionTable) (ws : List Write) (r : Record) → base_after old.base r ≡ old.base
    → AppliesCommit old new ws → KeepsBefore old new r
keeps_commit old new ws r stays made = record {
  base = made.base ∙ sym stays;
  before = λ n low high.
      let base = made.base in
      let count = made.count in
      let within : n ≤ old.count = omega arith in
      (omega arith, within, λ k. made.before n k within);
}

pub keeps_set : (old new : VersionTable) (w : Write) (r : Record) → base_after old.base r ≡ old.base
    → Sets old new w → KeepsBefore old new r
keeps_set old new w r stays made = record {
  base = made.base ∙ sym stays;
  before = λ n low high.
      let base = made.base in
      let count = made.count in
      let within : n < old.count = omega arith in
      (omega arith, omega arith, λ k. made.before n k within);
}

pub keeps_base : (old new : VersionTable) (n : ℕ) (r : Record) → r ≡ Base n
    → new ≡ record { base = n; count = n; is_staged = false; versions = [] } → KeepsBefore old new r
keeps_base old new n r is made = record {
  base = ap (λ v. v.base) made ∙ ap (base_after old.base) (sym is);
  before = λ m low high.
      let base : new.base ≡ n = ap (λ v. v.base) made in
      let count : new.count ≡ n = ap (λ v. v.count) made in
      absurd (omega arith);
}

pub keeps_same : (old : VersionTable) (r : Record) → base_after old.base r ≡ old.base → KeepsBefore old old r
keeps_same old r stays = record {
  base = sym stays;
  before = λ n low high. (low, omega arith, λ k. refl);
}

keeps_entry : (old new : VersionTable) (l : LogRecord) (r : Record) → l.entry ≡ r → KeepsBefore old new r
    → KeepsBefore old new l.entry
keeps_entry old new l r is keeps = subst (KeepsBefore old new) (sym is) keeps

pub keeps_promise : (l : LogRecord) (b : BranchName) (ws : List Write) (old new : VersionTable)
    → (l.entry ≡ Committed b) ⊎ (l.entry ≡ HeurCommit b) → AppliesCommit old new ws
    → KeepsBefore old new l.entry
keeps_promise l b ws old new entry made = ⊎_elim
    (λ h. keeps_entry old new l (Committed b) h (keeps_commit old new ws (Committed b) refl made))
    (λ h. keeps_entry old new l (HeurCommit b) h (keeps_commit old new ws (HeurCommit b) refl made)) entry

pub keeps_direct : (l : LogRecord) (b : BranchName) (vs ws : List Write) (old new : VersionTable)
    → l.entry ≡ Direct b vs
    → AppliesCommit old new ws → KeepsBefore old new l.entry
keeps_direct l b vs ws old new is made = keeps_entry old new l (Direct b vs) is
    (keeps_commit old new ws (Direct b vs) refl made)

pub keeps_pair : (l : LogRecord) (k v : List ℕ) (old new : VersionTable) → l.entry ≡ Pair k v
    → Sets old new (pair_write (k, v)) → KeepsBefore old new l.entry
keeps_pair l k v old new is made = keeps_entry old new l (Pair k v) is
    (keeps_set old new (pair_write (k, v)) (Pair k v) refl made)
