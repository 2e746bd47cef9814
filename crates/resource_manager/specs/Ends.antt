-- The calls that finish a branch, and what they write (C193, chapter 3; the forces of R*).
use Rattle.std.specs.Prelude.{◌≡◌, ℕ, Bool, true, false, Option, Some, None, List, [], ◌∷◌, map, Ok, Err, Contains}
use Rattle.xa_codes.specs.declared.code.Code.{Code}
use Rattle.xa_words.specs.code
use Rattle.xa_tables.specs.Calls.{legal}
use Rattle.xa_tables.specs.Tables.{branch_rows}
use Rattle.xa_tables.specs.declared.call.Call.{Call}
use Rattle.xa_words.specs.call
use Rattle.xa_tables.specs.declared.call.Verb.{Verb}
use Rattle.xa_words.specs.verb
use Rattle.xa_tables.specs.declared.states.BranchState.{BranchState}
use Rattle.xa_tables.specs.declared.states.BranchState.TheVariants.{S0, S2, S3, S5}
use Rattle.xa_xid.specs.declared.xid.Xid.{Xid}
use Rattle.xa_branch.specs.Names.{same}
use Rattle.xa_assoc.specs.Answers.{SameStates, TakesTableRow, state_at}
use Rattle.xa_assoc.specs.Ready.{leaves, ready}
use Rattle.xa_branch.specs.declared.decision.Decision.{Decision}
use Rattle.xa_branch.specs.Decisions.{heur_code, told_behind}
use Rattle.protocol.specs.declared.names.Outcome.{Outcome}
use Rattle.protocol_words.specs.Variants.{AbortedOutcome, CommittedOutcome}
use Rattle.protocol.specs.declared.records.BranchName.{BranchName}
use Rattle.protocol.specs.declared.records.LogRecord.{LogRecord}
use Rattle.protocol.specs.declared.records.Record.{Record}
use Rattle.protocol.specs.declared.records.Record.TheVariants.{Prepared, Committed, RolledBack, Direct, Told, Forgot}
use Rattle.protocol.specs.declared.records.Write.{Write}
use Rattle.protocol.specs.ManagerRows.{is_acknowledged, is_told_forced, presumption_of}
use Rattle.protocol.specs.Nodes.{Written}
use Rattle.protocol.specs.CoordinatorRows.{forced}
use Rattle.log_text.specs.Parts.{name_in}
use Rattle.log_records.specs.Sights.{Breaks, LogSight, LogState}
use Rattle.process_state.specs.States.{wrote}
use Rattle.resource_manager.specs.Data.{held_with}
use Rattle.resource_manager.specs.Sights.{ManagerSight, SameManager}

-- an end by its flags takes no memory: of work that is done, or that failed
abbrev pub is_left : ℕ → Bool
is_left flags = leaves (legal verb.End flags)

-- The rows.

-- a branch that wrote nothing is ended by its prepare, and another promises
abbrev pub prepare_row : List Write → Code × BranchState
prepare_row [] = (code.RdOnly, S0)
prepare_row (w ∷ ws) = (code.Ok, S3)

-- what an outcome meets at a branch in a state, of which an operator decided this: in S5 the decision
abbrev pub outcome_row : BranchState → Decision → Code × BranchState
outcome_row S5 d = (heur_code d.outcome, S5)
outcome_row _ d = (code.Ok, S0)

-- what a call answers that finishes a branch in a state, with these writes and this decision, and the state
-- after it
abbrev pub row_of : Call → BranchState → List Write → Decision → Code × BranchState
row_of call.Prepare s ws d = prepare_row ws
row_of call.Commit s ws d = outcome_row s d
row_of call.Rollback s ws d = outcome_row s d
row_of _ s ws d = (code.Ok, S0)

-- what a call answers that finishes a branch as it is, and the state after it
abbrev pub row_for : ManagerSight → Xid → Call → Code × BranchState
row_for m x c = row_of c (state_at m.tables x) (m.writes x) (m.decided x)

-- The records.

-- the writes of a branch as a record of this sort, forced; a branch without writes has none
abbrev pub unless_empty : (List Write → Record) → List Write → List Written
unless_empty entry [] = []
unless_empty entry (w ∷ ws) = forced (entry (w ∷ ws))

-- the record of the outcome that a decided branch is told; the first one counts
abbrev pub tells : BranchName → Outcome → Option Outcome → List Written
tells b o None = record { entry = Told b o; is_forced = is_told_forced b o } ∷ []
tells b o (Some told) = []

-- what a call writes that finishes a branch in a state, under this name: an outcome is forced unless the
-- presumption covers it, one that comes after an operator's decision is noted, and nothing is written of a
-- branch that wrote nothing or promised nothing
abbrev pub written_by : Call → BranchState → BranchName → List Write → Decision → List Written
written_by call.Prepare S2 b ws d = unless_empty (Prepared b) ws
written_by call.CommitOnePhase S2 b ws d = unless_empty (Direct b) ws
written_by call.Commit S3 b ws d =
    record { entry = Committed b; is_forced = is_acknowledged (presumption_of b) CommittedOutcome } ∷ []
written_by call.Rollback S3 b ws d =
    record { entry = RolledBack b; is_forced = is_acknowledged (presumption_of b) AbortedOutcome } ∷ []
written_by call.Commit S5 b ws d = tells b CommittedOutcome d.told
written_by call.Rollback S5 b ws d = tells b AbortedOutcome d.told
written_by call.Forget S5 b ws d = forced (Forgot b)
written_by _ s b ws d = []

-- what a call that finishes a branch as it is writes of it
abbrev pub written_for : ManagerSight → Xid → Call → List Written
written_for m x c = written_by c (state_at m.tables x) (name_in x).1 (m.writes x) (m.decided x)

-- the records as a manager's log holds them, under the whole name of an XID
abbrev pub logged_under : Xid → List Written → List LogRecord
logged_under x ws = map (λ w. record { entry = w.entry; parent = (name_in x).0 }) ws

-- a manager's log as `log_records` sees it; how much room there is does not matter
abbrev pub state_of : LogSight → LogState
state_of s = record { sight = s; room = 0 }

-- The calls.

-- what a branch has written that is in this state: nothing once it is ended or decided by an operator
abbrev pub left_with : BranchState → List Write → List Write
left_with S0 ws = []
left_with S5 ws = []
left_with _ ws = ws

-- what is known of an operator's decision after a call: an outcome is noted
abbrev pub decided_behind : Call → Decision → Decision
decided_behind call.Commit d = told_behind CommittedOutcome d
decided_behind call.Rollback d = told_behind AbortedOutcome d
decided_behind _ d = d

-- what operators decided of every branch but this one stays
abbrev pub OthersStayDecided : ManagerSight → ManagerSight → Xid → Type 0
OthersStayDecided old new x = (y : Xid) → same x y ≡ false → new.decided y ≡ old.decided y

-- a branch made its row, and its record was written
pub record BranchMakes (old new : ManagerSight) (x : Xid) (c : Call) (row : Code × BranchState) : Type 0 where
  pub listed : Contains (branch_rows (state_at old.tables x) c) row
  pub tables : TakesTableRow old.tables new.tables x row.1
  pub log : new.log ≡ wrote old.log (written_for old x c) (logged_under x (written_for old x c))
  pub own : new.writes x ≡ left_with row.1 (old.writes x)
  pub others : (y : Xid) → same x y ≡ false → new.writes y ≡ old.writes y
  pub held : (k : List ℕ) → new.holders k ≡ held_with row.1 x (old.holders k)
  pub decided : row.1 ≡ S5 → new.decided x ≡ decided_behind c (old.decided x)
  pub others_decided : OthersStayDecided old new x
  pub boot : new.boot ≡ old.boot

-- the device failed under the record, and the branch stays
pub record BranchFails (old new : ManagerSight) (x : Xid) (c : Call) : Type 0 where
  pub log : Breaks (state_of old.log) (state_of new.log) (logged_under x (written_for old x c))
  pub tables : SameStates old.tables new.tables
  pub writes : (y : Xid) → new.writes y ≡ old.writes y
  pub decided : (y : Xid) → new.decided y ≡ old.decided y
  pub boot : new.boot ≡ old.boot

-- what a prepare, commit, rollback or forget answers and does: a failed manager refuses it, then the first
-- check, then a limit of the manager's own; else its row is made, or the device fails. A row that the table
-- does not have is not made
pub data ManagerFinishes (old new : ManagerSight) (v : Verb) (x : Xid) (flags : ℕ)
    (answer : Code) : Type 0 where
  Failed : old.log.failed ≡ true → answer ≡ code.RmFail → SameManager old new
      → ManagerFinishes old new v x flags answer
  Refused : old.log.failed ≡ false → ready old.tables v x flags ≡ Err answer → SameManager old new
      → ManagerFinishes old new v x flags answer
  Limited : old.log.failed ≡ false → old.spent ≡ true → answer ≡ code.RmErr → SameManager old new
      → ManagerFinishes old new v x flags answer
  Unlisted : old.log.failed ≡ false → (c : Call) → ready old.tables v x flags ≡ Ok c
      → (Contains (branch_rows (state_at old.tables x) c) (row_for old x c) → ⊥) → answer ≡ code.Proto
      → SameManager old new → ManagerFinishes old new v x flags answer
  Made : old.log.failed ≡ false → (c : Call) → ready old.tables v x flags ≡ Ok c
      → answer ≡ (row_for old x c).0 → BranchMakes old new x c (row_for old x c)
      → ManagerFinishes old new v x flags answer
  Broke : old.log.failed ≡ false → (c : Call) → ready old.tables v x flags ≡ Ok c → answer ≡ code.RmFail
      → BranchFails old new x c → ManagerFinishes old new v x flags answer
