-- The data of replayed records, as pairs.
use Rattle.std.proofs.Common.{◌≡◌, ◌∙◌, ℕ, Bool, Option, List, ap, sym}
use Rattle.xa_xid.specs.declared.xid.Xid.{Xid}
use Rattle.protocol.specs.declared.records.LogRecord.{LogRecord}
use Rattle.protocol.specs.Store.{data_of}
use Rattle.kv_locks.specs.Locks.{LockTable}
use Rattle.kv_store.specs.Pairs.{ArePairsOf}
use Rattle.kv_store.specs.Versions.{VersionTable}
use Rattle.kv_store.specs.writes.Writes.{WriteTable}
use Rattle.kv_store.proofs.Pairs.{same_pairs}
use Rattle.xa_branch.specs.Cases.{DecisionTable}
use Rattle.kv_state.specs.Replays.{ReplayLeaves}
use Rattle.kv_state.proofs.Lawful.{lawful_of}

-- the pairs of what records leave are those that the records make
pub pairs_are : (ls : List LogRecord) (boot : Option ℕ) (left : List (Xid × Bool)) (versions : VersionTable)
    (writes : WriteTable) (locks : LockTable) (decisions : DecisionTable) (ps : List (List ℕ × List ℕ))
    → ReplayLeaves ls boot left versions writes locks decisions → ArePairsOf versions ps
    → ps ≡ (data_of ls).pairs
pairs_are ls boot left versions writes locks decisions ps h are =
    same_pairs ps (data_of ls).pairs are.rise (lawful_of ls h.seen h.read).tied.rise
    (λ k. are.values k ∙ h.stored.values k)
