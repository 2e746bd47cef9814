-- The tables after a restart.
use Rattle.std.specs.Prelude.{◌≡◌, Bool, false, ◌||◌, List, [], ◌∷◌, Option, Some, None, length, map, nat_lt, if◌then◌else◌}
use Rattle.std.specs.List.{list_any}
use Rattle.xa_codes.specs.declared.code.Code.{Code}
use Rattle.xa_words.specs.code
use Rattle.xa_tables.specs.declared.states.InitState.TheVariants.{R0}
use Rattle.xa_tables.specs.declared.states.BranchState.{BranchState}
use Rattle.xa_tables.specs.declared.states.BranchState.TheVariants.{S3, S5}
use Rattle.xa_xid.specs.declared.xid.Xid.{Xid}
use Rattle.xa_assoc.specs.Associations.{IsBare}
use Rattle.xa_branch.specs.Names.{same}
use Rattle.xa_assoc.specs.declared.states.States.{States}

-- the state of a branch that a restart finds in doubt: decided by an operator, or prepared
abbrev pub state_left : Bool → BranchState
state_left decided = if decided then S5 else S3

-- the branches that a restart finds in doubt, each in its state, in this order
abbrev pub states_left : List (Xid × Bool) → List (Xid × BranchState)
states_left left = map (λ e. (e.0, state_left e.1)) left

-- a branch stands twice in a list
abbrev pub has_twice : List (Xid × Bool) → Bool
has_twice [] = false
has_twice (e ∷ es) = list_any (λ f. same f.0 e.0) es || has_twice es

-- why branches cannot be restored: more than 1,024, or one of them twice
abbrev pub restore_refusal : List (Xid × Bool) → Option Code
restore_refusal left =
    if nat_lt 1024 (length left) then Some code.RmErr
    else if has_twice left then Some code.DupId
    else None

-- a restart leaves a manager that is not open, without associations and scans, and these branches in doubt
pub record Restored (left : List (Xid × Bool)) (m : States) : Type 0 where
  pub init : m.init ≡ R0
  pub branches : m.branches.branches ≡ states_left left
  pub scans : m.branches.scans ≡ []
  pub associations : IsBare m.associations
  pub seats : m.associations.seats ≡ []
