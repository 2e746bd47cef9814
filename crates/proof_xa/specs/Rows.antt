-- The turns of a key store as rows of the table of branches.
use Rattle.std.specs.Prelude.{◌≡◌, ℕ, Bool, false, Err}
use Rattle.xa_codes.specs.declared.code.Code.{Code}
use Rattle.xa_tables.specs.declared.call.Verb.{Verb}
use Rattle.xa_tables.specs.declared.states.BranchState.{BranchState}
use Rattle.xa_xid.specs.declared.xid.Xid.{Xid}
use Rattle.xa_assoc.specs.Answers.{Wanted}
use Rattle.xa_assoc.specs.Ready.{is_work_verb, ready}
use Rattle.proof_xa.specs.Moves.{FitsRows}
use Rattle.xa_branch.specs.declared.decision.Decision.{Decision}
use Rattle.protocol.specs.declared.records.BranchName.{BranchName}
use Rattle.kv_calls.specs.declared.turns.CallRow.{CallRow}
use Rattle.kv_calls.specs.Turns.{turn_of}
use Rattle.kv_state.specs.Stores.{KeySight}
use Rattle.kv_state.specs.Ends.{IsOff}

-- the row of a turn: what it answers, and the state after it
abbrev pub row_of : CallRow → Code × BranchState
row_of turn = (turn.code, turn.to)

-- the rows that a key store takes of a branch in a state, which wrote something or nothing; in S5 an operator
-- decided it so
abbrev pub rows_of : BranchState → Bool → BranchName → Decision → Wanted
rows_of s wrote b d c = row_of (turn_of s c wrote b d)

-- the table has the row of each turn wherever it has any
abbrev pub TurnsAreRows : Type 0
TurnsAreRows = (s : BranchState) (wrote : Bool) (b : BranchName) (d : Decision)
    → FitsRows (rows_of s wrote b d) s

-- a call that finishes a branch is refused by a check alone
abbrev pub RefusalsAreChecks : Type 0
RefusalsAreChecks = (s : KeySight) (v : Verb) (x : Xid) (flags : ℕ) (answer : Code) → is_work_verb v ≡ false
    → IsOff s v x flags answer → ready s.tables v x flags ≡ Err answer
