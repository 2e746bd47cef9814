-- What a call that finishes a branch makes of it at a key store (C193, chapter 3; the forces of R*).
use Rattle.std.specs.Prelude.{◌≤◌, ⊤, Bool, true, false, Option, Some, None, List, length}
use Rattle.xa_codes.specs.declared.code.Code.{Code}
use Rattle.xa_codes.specs.declared.code.Code.TheVariants as code
use Rattle.xa_tables.specs.declared.call.Call.{Call}
use Rattle.xa_words.specs.call
use Rattle.xa_tables.specs.declared.states.BranchState.{BranchState}
use Rattle.xa_tables.specs.declared.states.BranchState.TheVariants.{S0, S3, S5}
use Rattle.xa_xid.specs.Xids.{XidParts}
use Rattle.protocol.specs.declared.names.Outcome.{Outcome}
use Rattle.protocol_words.specs.Variants.{AbortedOutcome, CommittedOutcome}
use Rattle.protocol.specs.declared.records.BranchName.{BranchName}
use Rattle.protocol.specs.declared.records.LogRecord.{LogRecord}
use Rattle.protocol.specs.declared.records.Record.{Record}
use Rattle.protocol_words.specs.record_of
use Rattle.protocol.specs.declared.records.Write.{Write}
use Rattle.protocol.specs.ManagerRows.{is_acknowledged, is_told_forced, presumption_of}
use Rattle.xa_branch.specs.declared.decision.Decision.{Decision}
use Rattle.xa_branch.specs.Decisions.{heur_code}
use Rattle.log_text.specs.Parts.{name_in}
use Rattle.kv_store.specs.writes.Writes.{AreWrites}
use Rattle.kv_calls.specs.declared.entries.BranchRecord.{BranchRecord}
use Rattle.kv_calls.specs.declared.entries.BranchRecord.TheVariants.{Prepared, Committed, RolledBack, Direct, HeurCommit, HeurRollback, Told, Forgot}
use Rattle.kv_calls.specs.declared.turns.CallRow.{CallRow}

-- Turns.

-- the branch reaches a state, and nothing is written
abbrev pub silent : Code → BranchState → CallRow
silent a s = record { code = a; to = s; entry = None; is_forced = false }

-- the answer is XA_OK, a record is written, and the branch reaches a state
abbrev pub writes : BranchRecord → Bool → BranchState → CallRow
writes e is_forced s = record { code = code.Ok; to = s; entry = Some e; is_forced = is_forced }

-- a branch that wrote nothing is ended by its prepare, and another promises
abbrev pub prepare_turn : Bool → CallRow
prepare_turn false = silent code.RdOnly S0
prepare_turn true = writes Prepared true S3

-- an outcome comes to a branch that an operator decided, which was told this: it answers by the decision, and
-- the first outcome is noted
abbrev pub tell_turn : BranchName → Outcome → Decision → Option Outcome → CallRow
tell_turn b o d None =
    record { code = heur_code d.outcome; to = S5; entry = Some (Told o); is_forced = is_told_forced b o }
tell_turn b o d (Some told) = silent (heur_code d.outcome) S5

-- a prepared branch commits: forced, unless the presumption covers it; one that an operator decided is told
abbrev pub commit_turn : BranchState → BranchName → Decision → CallRow
commit_turn S5 b d = tell_turn b CommittedOutcome d d.told
commit_turn _ b d = writes Committed (is_acknowledged (presumption_of b) CommittedOutcome) S0

-- a branch commits in one phase
abbrev pub direct_turn : Bool → CallRow
direct_turn false = silent code.Ok S0
direct_turn true = writes Direct true S0

-- a prepared branch rolls back: forced, unless the presumption covers it; one that an operator decided is
-- told; of any other nothing is written
abbrev pub rollback_turn : BranchState → BranchName → Decision → CallRow
rollback_turn S3 b d = writes RolledBack (is_acknowledged (presumption_of b) AbortedOutcome) S0
rollback_turn S5 b d = tell_turn b AbortedOutcome d d.told
rollback_turn _ b d = silent code.Ok S0

-- what a call makes of a branch in a state that wrote something or nothing; in S5 an operator decided it so
abbrev pub turn_of : BranchState → Call → Bool → BranchName → Decision → CallRow
turn_of s call.Prepare wrote b d = prepare_turn wrote
turn_of s call.Commit wrote b d = commit_turn s b d
turn_of s call.CommitOnePhase wrote b d = direct_turn wrote
turn_of s call.Rollback wrote b d = rollback_turn s b d
turn_of s _ wrote b d = writes Forgot true S0

-- the record of an operator's decision
abbrev pub heur_entry : Outcome → BranchRecord
heur_entry CommittedOutcome = HeurCommit
heur_entry AbortedOutcome = HeurRollback

-- what an operator's decision makes of a prepared branch
abbrev pub decide_turn : Outcome → CallRow
decide_turn o = record { code = heur_code o; to = S5; entry = Some (heur_entry o); is_forced = true }

-- Records.

-- a record makes the branch's writes data
abbrev pub applies : BranchRecord → Bool
applies Committed = true
applies Direct = true
applies HeurCommit = true
applies _ = false

-- a record has the branch's writes
abbrev pub has_writes : BranchRecord → Bool
has_writes Prepared = true
has_writes Direct = true
has_writes _ = false

-- the record under a name
abbrev pub entry_of : BranchRecord → BranchName → List Write → Record
entry_of Prepared b ws = record_of.Prepared b ws
entry_of Committed b ws = record_of.Committed b
entry_of RolledBack b ws = record_of.RolledBack b
entry_of Direct b ws = record_of.Direct b ws
entry_of HeurCommit b ws = record_of.HeurCommit b
entry_of HeurRollback b ws = record_of.HeurRollback b
entry_of (Told o) b ws = record_of.Told b o
entry_of Forgot b ws = record_of.Forgot b

-- the record in a log, under the whole name of an XID
abbrev pub entry_record : BranchRecord → XidParts → List Write → LogRecord
entry_record e x ws = record { entry = entry_of e (name_in x).1 ws; parent = (name_in x).0 }

-- some writes, within their limits
abbrev pub AreSome : List Write → Type 0
AreSome ws = AreWrites ws × (1 ≤ length ws)

-- the record can be written of a branch that has written this
abbrev pub IsEntry : BranchRecord → List Write → Type 0
IsEntry Prepared ws = AreSome ws
IsEntry Direct ws = AreSome ws
IsEntry _ ws = ⊤
