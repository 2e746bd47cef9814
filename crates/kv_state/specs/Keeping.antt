-- What a trim keeps of a manager's data.
use Rattle.std.specs.Prelude.{◌≡◌, Bool, true, false, List}
use Rattle.std.specs.List.{AllByRecursion}
use Rattle.xa_xid.specs.declared.xid.Xid.{Xid}
use Rattle.protocol.specs.declared.records.BranchName.TheVariants.{Foreign}
use Rattle.protocol.specs.declared.records.LogRecord.{LogRecord}
use Rattle.protocol.specs.declared.records.Record.{Record}
use Rattle.protocol.specs.declared.records.Record.TheVariants.{Collecting, Prepare, Commit, Abort, End, Cleared}
use Rattle.protocol.specs.Restarts.{is_open}
use Rattle.protocol.specs.Standings.{mark_at}
use Rattle.protocol.specs.Store.{writes_of, data_of}
use Rattle.log_rules.specs.trim.Trims.{trim_of}
use Rattle.kv_store.specs.Pairs.{keys_rise}
use Rattle.xa_branch.specs.Decisions.{decided_in}

-- a record that can be in a manager's log: it is of no coordinator's case
abbrev pub is_managers : Record → Bool
is_managers (Collecting c ts) = false
is_managers (Prepare c ts) = false
is_managers (Commit c ts) = false
is_managers (Abort c ts) = false
is_managers (End c rep) = false
is_managers (Cleared c) = false
is_managers _ = true

-- these records make the same data; each branch that is open by the first has the same writes, its last
-- record says the same, and so do its records of an operator's decision
pub record KeepsData (ls ks : List LogRecord) : Type 0 where
  pub count : (data_of ks).count ≡ (data_of ls).count
  pub pairs : (data_of ks).pairs ≡ (data_of ls).pairs
  pub promises : (x : Xid) → is_open (mark_at ls x) ≡ true
      → writes_of (Foreign x) (data_of ks).promised ≡ writes_of (Foreign x) (data_of ls).promised
  pub marks : (x : Xid) → is_open (mark_at ls x) ≡ true → mark_at ks x ≡ mark_at ls x
  pub decisions : (x : Xid) → is_open (mark_at ls x) ≡ true → decided_in ks x ≡ decided_in ls x

-- a trim of a manager's log keeps its data and its open branches
abbrev pub TrimsKeepData : Type 0
TrimsKeepData = (ls : List LogRecord) → AllByRecursion (λ l. is_managers l.entry ≡ true) ls
    → keys_rise (data_of ls).pairs ≡ true → KeepsData ls (trim_of ls)
