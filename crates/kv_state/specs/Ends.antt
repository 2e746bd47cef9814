-- The calls that finish a branch.
use Rattle.std.specs.Prelude.{◌≡◌, ◌≤◌, ⊤, ℕ, Bool, true, false, is_some, Option, Some, None, List, [], ◌∷◌, Ok, Err, Contains, MatchBool}
use Rattle.xa_codes.specs.declared.code.Code.{Code}
use Rattle.xa_tables.specs.declared.call.Call.{Call}
use Rattle.xa_tables.specs.declared.call.Verb.{Verb}
use Rattle.xa_tables.specs.declared.states.BranchState.{BranchState}
use Rattle.xa_tables.specs.declared.states.BranchState.TheVariants.{S3}
use Rattle.xa_tables.specs.Tables.{branch_rows}
use Rattle.xa_xid.specs.declared.xid.Xid.{Xid}
use Rattle.xa_branch.specs.Branches.{off_row}
use Rattle.xa_assoc.specs.Answers.{TakesTableRow}
use Rattle.xa_assoc.specs.Ready.{ready}
use Rattle.xa_branch.specs.declared.decision.Decision.{Decision}
use Rattle.xa_branch.specs.Decisions.{decided_as, told_behind}
use Rattle.xa_branch.specs.Cases.{DecisionTable, NotesDecision, decision_in, decision_or}
use Rattle.log_text.specs.Parts.{name_in}
use Rattle.protocol.specs.declared.names.Outcome.{Outcome}
use Rattle.protocol_words.specs.outcome
use Rattle.protocol.specs.declared.records.Write.{Write}
use Rattle.kv_locks.specs.Locks.{ReleasesLocks}
use Rattle.kv_store.specs.Versions.{Publishes, SameData, Stages}
use Rattle.kv_store.specs.writes.Writes.{LeavesWrites, writes_of}
use Rattle.kv_calls.specs.declared.turns.CallRow.{CallRow}
use Rattle.kv_calls.specs.declared.entries.BranchRecord.{BranchRecord}
use Rattle.kv_calls.specs.declared.entries.BranchRecord.TheVariants.{HeurCommit, HeurRollback, Told, Forgot}
use Rattle.kv_calls.specs.Turns.{decide_turn, turn_of}
use Rattle.kv_state.specs.Stores.{KeySight, is_let_go, state_of}

-- a branch has written something
abbrev pub wrote_some : List Write → Bool
wrote_some [] = false
wrote_some (w ∷ ws) = true

-- what an operator decided of a branch; if none did, this says nothing
abbrev pub known_of : KeySight → Xid → Decision
known_of s x = decision_or (decision_in s.decisions x)

-- what a call makes of a branch of this store
abbrev pub turn_for : KeySight → Xid → Call → CallRow
turn_for s x c = turn_of (state_of s x) c (wrote_some (writes_of s.writes x)) (name_in x).1 (known_of s x)

-- the table of branches has the turn's row
abbrev pub IsRowListed : KeySight → Xid → Call → CallRow → Type 0
IsRowListed s x c turn = Contains (branch_rows (state_of s x) c) (turn.code, turn.to)

-- a turn that a branch can take: that of a call, or of an operator's decision of a prepared branch, for which
-- there is room
pub data IsTurn (s : KeySight) (x : Xid) (c : Call) (turn : CallRow) : Type 0 where
  OfCall : turn ≡ turn_for s x c → IsTurn s x c turn
  OfOperator : (o : Outcome) → state_of s x ≡ S3 → 1 ≤ s.decisions.room → turn ≡ decide_turn o
      → IsTurn s x c turn

-- a call that no check refuses, and its turn, which is a row of the table
pub record IsDue (s : KeySight) (v : Verb) (x : Xid) (flags : ℕ) (due : Call × CallRow) : Type 0 where
  pub checked : ready s.tables v x flags ≡ Ok due.0
  pub turn : due.1 ≡ turn_for s x due.0
  pub listed : IsRowListed s x due.0 due.1

-- a call is refused: by the first check that applies; or no row of the table is the turn
pub data IsOff (s : KeySight) (v : Verb) (x : Xid) (flags : ℕ) (answer : Code) : Type 0 where
  Refused : ready s.tables v x flags ≡ Err answer → IsOff s v x flags answer
  Unlisted : (c : Call) → ready s.tables v x flags ≡ Ok c → (IsRowListed s x c (turn_for s x c) → ⊥)
      → answer ≡ off_row c
      → IsOff s v x flags answer

-- the branch's writes are staged, and nothing else changes
pub record StagesWrites (old new : KeySight) (x : Xid) : Type 0 where
  pub versions : Stages old.versions new.versions (writes_of old.writes x)
  pub tables : new.tables ≡ old.tables
  pub writes : new.writes ≡ old.writes
  pub locks : new.locks ≡ old.locks
  pub decisions : new.decisions ≡ old.decisions

-- nothing of the data changes, nor anything else
pub record SameButData (old new : KeySight) : Type 0 where
  pub versions : SameData old.versions new.versions
  pub tables : new.tables ≡ old.tables
  pub writes : new.writes ≡ old.writes
  pub locks : new.locks ≡ old.locks
  pub decisions : new.decisions ≡ old.decisions

-- the staged writes are data now, and nothing else changes
pub record PublishesWrites (old new : KeySight) : Type 0 where
  pub versions : Publishes old.versions new.versions
  pub tables : new.tables ≡ old.tables
  pub writes : new.writes ≡ old.writes
  pub locks : new.locks ≡ old.locks
  pub decisions : new.decisions ≡ old.decisions

-- nothing changes but the room for operators' decisions
pub record Reserves (old new : KeySight) : Type 0 where
  pub tables : new.tables ≡ old.tables
  pub writes : new.writes ≡ old.writes
  pub locks : new.locks ≡ old.locks
  pub versions : new.versions ≡ old.versions
  pub decisions : new.decisions.decisions ≡ old.decisions.decisions

-- a branch that is ended or that an operator decided lets its writes and its locks go, and one that promises
-- keeps them
abbrev pub LetsBranchGo : KeySight → KeySight → Xid → BranchState → Type 0
LetsBranchGo old new x to = MatchBool (is_let_go to)
    (LeavesWrites old.writes new.writes x [] × ReleasesLocks old.locks new.locks x)
    ((new.writes ≡ old.writes) × (new.locks ≡ old.locks))

-- what is known of an operator's decision after a record of a branch, of which this was known
abbrev pub known_behind : Option BranchRecord → Option Decision → Option Decision
known_behind (Some HeurCommit) known = Some (decided_as outcome.Committed)
known_behind (Some HeurRollback) known = Some (decided_as outcome.Aborted)
known_behind (Some (Told o)) known = Some (told_behind o (decision_or known))
known_behind (Some Forgot) known = None
known_behind _ known = known

-- what a record says of an operator's decision can be noted: there is room, or it is known
abbrev pub CanNote : Option BranchRecord → DecisionTable → Xid → Type 0
CanNote (Some HeurCommit) t x = 1 ≤ t.room
CanNote (Some HeurRollback) t x = 1 ≤ t.room
CanNote (Some (Told o)) t x = is_some (decision_in t x) ≡ true
CanNote _ t x = ⊤

-- a branch took a turn; the data are not part of it
pub record TakesTurn (old new : KeySight) (x : Xid) (turn : CallRow) : Type 0 where
  pub tables : TakesTableRow old.tables new.tables x turn.to
  pub keeps : LetsBranchGo old new x turn.to
  pub versions : new.versions ≡ old.versions
  pub decisions : NotesDecision old.decisions new.decisions x
      (known_behind turn.entry (decision_in old.decisions x))
