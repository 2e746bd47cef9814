-- What happens at a resource manager, as far as its tables of states show it.
use Rattle.std.specs.Prelude.{◌≡◌, ◌⊎◌, ℕ, Bool, true, false, List, [], ◌∷◌, Result, IsErrAnd, Contains}
use Rattle.xa_codes.specs.declared.code.Code.{Code}
use Rattle.xa_words.specs.code
use Rattle.xa_codes.specs.Codes.{is_own}
use Rattle.xa_tables.specs.Tables.{branch_rows}
use Rattle.xa_tables.specs.declared.call.Call.{Call}
use Rattle.xa_tables.specs.declared.call.Verb.{Verb}
use Rattle.xa_tables.specs.declared.states.BranchState.{BranchState}
use Rattle.xa_tables.specs.declared.states.BranchState.TheVariants.{S3, S5}
use Rattle.xa_xid.specs.declared.xid.Xid.{Xid}
use Rattle.xa_assoc.specs.declared.states.States.{States}
use Rattle.xa_assoc.specs.Answers.{AnswersCall, Closes, OpensManager, Recovers, SameStates, TakesTableRow, Wanted, state_at}
use Rattle.xa_assoc.specs.Ready.{has_rows, is_work}
use Rattle.xa_assoc.specs.Restored.{Restored}

-- a call with its answer; or a move without a call: an operator decides a branch, or the manager restarts
-- with these branches in doubt, each decided or not. Work is whatever leaves the tables alone, as a thread's
-- reads and writes do
pub data XaMove : Type 0 where
  Open : ℕ → Bool → Code → XaMove
  Close : ℕ → Code → XaMove
  Branch : Verb → ℕ → Xid → ℕ → Code → XaMove
  Recover : ℕ → ℕ → ℕ → Result (List Xid) Code → XaMove
  Work : XaMove
  Decide : Xid → XaMove
  Restart : List (Xid × Bool) → XaMove

-- the rows that a manager takes are in the table: for each call that finishes a branch in a state, where
-- there are any
abbrev pub FitsRows : Wanted → BranchState → Type 0
FitsRows wanted s = (c : Call) → is_work c ≡ false → has_rows (branch_rows s c) ≡ true
    → Contains (branch_rows s c) (wanted c)

-- a manager refuses a call by such an answer, and changes nothing
abbrev pub Declines : States → States → Code → Type 0
Declines old new answer = (is_own answer ≡ true) × SameStates old new

-- a call on a branch is answered as the tables say, the manager choosing among the rows of those that finish
-- it
abbrev pub Answered : States → States → Verb → ℕ → Xid → ℕ → Code → Type 0
Answered old new v t x flags answer =
    (wanted : Wanted) × FitsRows wanted (state_at old x) × AnswersCall wanted old new v t x flags answer

-- a move takes the tables of a manager from one state to another
abbrev pub MakesMove : States → States → XaMove → Type 0
MakesMove old new (Open flags migrates answer) = Declines old new answer
    ⊎ OpensManager old new flags migrates answer
MakesMove old new (Close flags answer) = Declines old new answer ⊎ Closes old new flags answer
MakesMove old new (Branch v t x flags answer) = Declines old new answer ⊎ Answered old new v t x flags answer
MakesMove old new (Recover t count flags answer) =
    IsErrAnd answer (Declines old new) ⊎ Recovers old new t count flags answer
MakesMove old new Work = SameStates old new
MakesMove old new (Decide x) = (state_at old x ≡ S3) × TakesTableRow old new x S5
MakesMove old new (Restart left) = Restored left new

-- moves take a manager from one state to another
abbrev pub MovesLead : States → List XaMove → States → Type 0
MovesLead m [] n = m ≡ n
MovesLead m (move ∷ moves) n = (k : States) × MakesMove m k move × MovesLead k moves n
