-- Legal histories of a resource manager: which rows of the tables any list of moves walks, and what each call
-- answers.
use Rattle.std.specs.Prelude.{◌≡◌, ℕ, ◌+◌, Bool, false, not, ◌&&◌, List, [], ◌∷◌, Contains, Result, Ok, Err, IsOkAnd, MatchBool, nat_eq}
use Rattle.xa_codes.specs.declared.code.Code.{Code}
use Rattle.xa_tables.specs.Calls.{legal}
use Rattle.xa_tables.specs.Tables.{init_rows, assoc_rows, branch_rows}
use Rattle.xa_tables.specs.declared.call.Call.{Call}
use Rattle.xa_tables.specs.declared.call.Verb.{Verb}
use Rattle.xa_words.specs.verb
use Rattle.xa_tables.specs.declared.states.InitState.{InitState}
use Rattle.xa_tables.specs.declared.states.InitState.TheVariants.{R0}
use Rattle.xa_tables.specs.declared.states.AssocState.{AssocState}
use Rattle.xa_tables.specs.declared.states.AssocState.TheVariants.{T0, T1}
use Rattle.xa_tables.specs.declared.states.BranchState.{BranchState}
use Rattle.xa_tables.specs.declared.states.BranchState.TheVariants.{S3, S5}
use Rattle.xa_xid.specs.declared.xid.Xid.{Xid}
use Rattle.xa_assoc.specs.Associations.{moved_of, own_part, own_state, counts}
use Rattle.xa_branch.specs.Branches.{state_in}
use Rattle.xa_branch.specs.Names.{same}
use Rattle.xa_assoc.specs.declared.states.States.{States}
use Rattle.xa_assoc.specs.Answers.{state_at}
use Rattle.xa_assoc.specs.Ready.{is_work}
use Rattle.xa_assoc.specs.Restored.{states_left}
use Rattle.proof_xa.specs.Moves.{XaMove, Open, Close, Branch, Decide, Restart}
use Rattle.proof_xa.specs.Refusals.{AnswersFirst, is_refusal}

-- What one move does to one manager's state, one branch, one association, and the migrations of one branch.

-- a row of the table of the initialisation
abbrev pub HasInitRow : InitState → Verb → ℕ → Code → InitState → Type 0
HasInitRow s v flags answer k = IsOkAnd (legal v flags) (λ c. Contains (init_rows s c) (answer, k))

-- an open or a close that is not refused makes a row, a restart leaves the manager closed, and nothing else
-- moves it
abbrev pub InitStep : InitState → XaMove → InitState → Type 0
InitStep s (Open flags migrates answer) k =
    MatchBool (is_refusal answer) (k ≡ s) (HasInitRow s verb.Open flags answer k)
InitStep s (Close flags answer) k =
    MatchBool (is_refusal answer) (k ≡ s) (HasInitRow s verb.Close flags answer k)
InitStep s (Restart left) k = k ≡ R0
InitStep s _ k = k ≡ s

-- a row of the table of branches
abbrev pub HasBranchRow : BranchState → Verb → ℕ → Code → BranchState → Type 0
HasBranchRow s v flags answer k = IsOkAnd (legal v flags) (λ c. Contains (branch_rows s c) (answer, k))

-- a call on a branch that is not refused makes a row, an operator's decision leads it from prepared to
-- decided, a restart leaves what it says, and nothing else moves the branch
abbrev pub BranchStep : Xid → BranchState → XaMove → BranchState → Type 0
BranchStep x s (Branch v t y flags answer) k =
    MatchBool (same y x && not (is_refusal answer)) (HasBranchRow s v flags answer k) (k ≡ s)
BranchStep x s (Decide y) k = MatchBool (same y x) ((s ≡ S3) × (k ≡ S5)) (k ≡ s)
BranchStep x s (Restart left) k = k ≡ state_in (states_left left) x
BranchStep x s _ k = k ≡ s

-- the call, where its flags are legal, is a start or an end
abbrev pub is_work_call : Result Call Code → Bool
is_work_call (Ok c) = is_work c
is_work_call (Err refusal) = false

-- a call with these flags is a start or an end, and its branch is this one
abbrev pub is_work_on : Xid → Verb → ℕ → Xid → Bool
is_work_on x v flags y = is_work_call (legal v flags) && same y x

-- a row of the table of associations, from the thread's own one or from one that is suspended for migration
pub record OwnRow (s : AssocState) (c : Call) (a : Code) (k : AssocState) : Type 0 where
  pub from : AssocState
  pub to : AssocState
  pub listed : Contains (assoc_rows from c) (a, to)
  pub leaves : own_part from ≡ s
  pub leads : own_part to ≡ k

-- a call walks a row of the thread's own association with the branch
abbrev pub HasOwnRow : AssocState → Verb → ℕ → Code → AssocState → Type 0
HasOwnRow s v flags answer k = IsOkAnd (legal v flags) (λ c. OwnRow s c answer k)

-- a start or an end by this thread on this branch that is not refused makes a row, a restart leaves no
-- association, and nothing else moves the association
abbrev pub OwnStep : ℕ → Xid → AssocState → XaMove → AssocState → Type 0
OwnStep t x s (Branch v u y flags answer) k =
    MatchBool ((is_work_on x v flags y && nat_eq t u)
    && not (is_refusal answer)) (HasOwnRow s v flags answer k) (k ≡ s)
OwnStep t x s (Restart left) k = k ≡ T0
OwnStep t x s _ k = k ≡ s

-- a row of the table of associations, by how many are suspended for migration before and after it
pub record MigrationRow (n : ℕ) (c : Call) (a : Code) (k : ℕ) : Type 0 where
  pub from : AssocState
  pub to : AssocState
  pub listed : Contains (assoc_rows from c) (a, to)
  pub counted : k + counts from ≡ n + counts to

-- a call walks a row of the migrations of the branch
abbrev pub HasMigrationRow : ℕ → Verb → ℕ → Code → ℕ → Type 0
HasMigrationRow n v flags answer k = IsOkAnd (legal v flags) (λ c. MigrationRow n c answer k)

-- a start or an end on this branch that is not refused makes a row, a restart leaves none, and nothing else
-- migrates it
abbrev pub MigrationStep : Xid → ℕ → XaMove → ℕ → Type 0
MigrationStep x n (Branch v u y flags answer) k =
    MatchBool (is_work_on x v flags y && not (is_refusal answer)) (HasMigrationRow n v flags answer k) (k ≡ n)
MigrationStep x n (Restart left) k = k ≡ 0
MigrationStep x n _ k = k ≡ n

-- Whole histories.

-- moves lead from a state to another, each by such a step
abbrev pub WalksBy : {S : Type 0} → (S → XaMove → S → Type 0) → S → List XaMove → S → Type 0
WalksBy step s [] e = s ≡ e
WalksBy {S} step s (m ∷ moves) e = (k : S) × step s m k × WalksBy step k moves e

-- a history is legal: its projections on the manager, on each branch, on each thread's association with each
-- branch and on the migrations of each branch walk rows of the tables and the moves without a call, a thread
-- is active in one branch at most, and each call answers by the first check that refuses it
pub record IsLegalHistory (m : States) (moves : List XaMove) (n : States) : Type 0 where
  pub manager : WalksBy InitStep m.init moves n.init
  pub branches : (x : Xid) → WalksBy (BranchStep x) (state_at m x) moves (state_at n x)
  pub associations : (t : ℕ) (x : Xid)
      → WalksBy (OwnStep t x) (own_state m.associations t x) moves (own_state n.associations t x)
  pub migrations : (x : Xid)
      → WalksBy (MigrationStep x) (moved_of m.associations x) moves (moved_of n.associations x)
  pub one_active : (t : ℕ) (x y : Xid)
      → own_state n.associations t x ≡ T1 → own_state n.associations t y ≡ T1 → x ≡ y
  pub answers_first : WalksBy AnswersFirst m moves n
