-- In which order the records of a manager are in its log, by the marks that those before them leave.
use Rattle.std.specs.Prelude.{◌≡◌, ◌≤◌, ⊤, ℕ, Option, Some, None, List, ◌∷◌, ◌++◌, map}
use Rattle.xa_tables.specs.declared.states.BranchState.TheVariants.{S0, S3, S5}
use Rattle.protocol.specs.declared.names.ProcessId.{ProcessId}
use Rattle.protocol.specs.declared.records.BranchName.{BranchName}
use Rattle.protocol.specs.declared.records.LogRecord.{LogRecord}
use Rattle.protocol.specs.declared.records.Record.{Record}
use Rattle.protocol.specs.declared.records.Record.TheVariants.{Opened, Prepared, HeurCommit, HeurRollback, Told}
use Rattle.protocol.specs.LogNames.{name_xid}
use Rattle.protocol.specs.Records.{boot_of, record_branch}
use Rattle.protocol.specs.Standings.{Mark, Unmarked, mark_at}
use Rattle.resource_manager.specs.Restarting.{marked_state}

-- a record may be after this boot, where its branch is marked so: boots never fall; a branch promises that is
-- neither prepared nor decided by an operator; he decides one that is prepared; and one that he decided is
-- told an outcome
abbrev pub MayStand : ℕ → Mark → Record → Type 0
MayStand boot m (Opened n) = boot ≤ n
MayStand boot m (Prepared b ws) = marked_state m ≡ S0
MayStand boot m (HeurCommit b) = marked_state m ≡ S3
MayStand boot m (HeurRollback b) = marked_state m ≡ S3
MayStand boot m (Told b o) = marked_state m ≡ S5
MayStand boot m _ = ⊤

-- how these records mark the branch of this name, if there is one
abbrev pub mark_before : List LogRecord → Option ProcessId → Option BranchName → Mark
mark_before ls p None = Unmarked
mark_before ls p (Some b) = mark_at ls (name_xid p b)

-- a record may be after these
abbrev pub MayFollow : List LogRecord → LogRecord → Type 0
MayFollow ls l =
    MayStand (boot_of (map (λ k. k.entry) ls)) (mark_before ls l.parent (record_branch l.entry)) l.entry

-- each of these records may be after those before it
abbrev pub AreInOrder : List LogRecord → Type 0
AreInOrder ls = (front : List LogRecord) (l : LogRecord) (rest : List LogRecord) → ls ≡ front ++ l ∷ rest
    → MayFollow front l
