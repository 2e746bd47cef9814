-- The branches that a resource manager knows.
use Rattle.std.specs.Prelude.{◌≡◌, ◌≢◌, ℕ, ◌≤◌, ◌<◌, Bool, true, false, not, List, [], Option, Some, None, unwrap_or, is_some, length, position, take, drop, map, filter, nat_lt, nat_le, if◌then◌else◌}
use Rattle.std.specs.Map.{keys_of, lookup, remove_entry}
use Rattle.std.specs.List.{AllByRecursion, IsDistinct}
use Rattle.indexmap.specs.IndexMap.{insert_entry}
use Rattle.xa_codes.specs.declared.code.Code.{Code}
use Rattle.xa_words.specs.code
use Rattle.xa_tables.specs.declared.call.Call.{Call}
use Rattle.xa_tables.specs.declared.call.Call.TheVariants as call
use Rattle.xa_tables.specs.declared.states.BranchState.{BranchState}
use Rattle.xa_tables.specs.declared.states.BranchState.TheVariants.{S0}
use Rattle.xa_tables.specs.Tables.{is_in_doubt}
use Rattle.xa_xid.specs.declared.xid.Xid.{Xid}
use Rattle.xa_branch.specs.Names.{same}
use Rattle.xa_branch.specs.Scans.{ScanList, scan_of, has_scan, SetsScan}

-- the known branches in order of beginning, how many more fit without a growth, and the open scans
pub record BranchList : Type 0 where
  pub branches : List (Xid × BranchState)
  pub room : ℕ
  pub scans : ScanList

-- a branch is known
abbrev pub is_known : List (Xid × BranchState) → Xid → Bool
is_known bs x = is_some (lookup (same x) bs)

-- the state of a branch: S0 where it is not known
abbrev pub state_in : List (Xid × BranchState) → Xid → BranchState
state_in bs x = unwrap_or (lookup (same x) bs) S0

-- the branches after a move of one to a state: in S0 it is no longer known, a new one goes last
abbrev pub placed : List (Xid × BranchState) → Xid → BranchState → List (Xid × BranchState)
placed bs x S0 = remove_entry (same x) bs
placed bs x s = insert_entry same bs x s

-- each branch is listed once, and none that is in S0
pub record AreBranchesListedOnce (bs : List (Xid × BranchState)) : Type 0 where
  pub once : IsDistinct same (keys_of bs)
  pub begun : AllByRecursion (λ e. e.1 ≢ S0) bs

-- a known branch is at this place among them
pub record BranchStandsAt (bs : List (Xid × BranchState)) (x : Xid) (place : ℕ) : Type 0 where
  pub within : place < length bs
  pub stands : position (same x) (keys_of bs) ≡ Some place

-- where a branch stands and its state, if it is known
abbrev pub FindsBranchAt : List (Xid × BranchState) → Xid → Option (ℕ × BranchState) → Type 0
FindsBranchAt bs x None = is_known bs x ≡ false
FindsBranchAt bs x (Some found) = BranchStandsAt bs x found.0 × (lookup (same x) bs ≡ Some found.1)

-- branches and scans stay as they are
pub record Stays (old new : BranchList) : Type 0 where
  pub branches : new.branches ≡ old.branches
  pub scans : new.scans ≡ old.scans
  pub room : old.room ≤ new.room

-- one branch moves to a state, and nothing else changes
pub record BranchMoves (old new : BranchList) (x : Xid) (s : BranchState) : Type 0 where
  pub order : new.branches ≡ placed old.branches x s
  pub own : state_in new.branches x ≡ s
  pub others : (y : Xid) → same x y ≡ false → state_in new.branches y ≡ state_in old.branches y
  pub scans : new.scans ≡ old.scans

-- what a begin answers: the first that applies
abbrev pub begin_answer : List (Xid × BranchState) → Xid → Code
begin_answer bs x = if is_known bs x then code.DupId else if nat_lt (length bs) 1024 then code.Ok
    else code.RmErr

-- a begin of a branch in a state made this answer, and changes nothing where it is refused
pub record BeginsState (old new : BranchList) (x : Xid) (s : BranchState) (answer : Code) : Type 0 where
  pub first : answer ≡ begin_answer old.branches x
  pub made : answer ≡ code.Ok → BranchMoves old new x s
  pub refused : (answer ≡ code.Ok → ⊥) → new ≡ old

-- what a known branch answers to a call that has no row
abbrev pub off_row : Call → Code
off_row call.Start = code.DupId
off_row _ = code.Proto

-- a recover begins a scan
abbrev pub starts_scan : Call → Bool
starts_scan call.RecoverStart = true
starts_scan call.RecoverWhole = true
starts_scan _ = false

-- a recover ends a scan
abbrev pub ends_scan : Call → Bool
ends_scan call.RecoverEnd = true
ends_scan call.RecoverWhole = true
ends_scan _ = false

-- the branches in doubt, in order of beginning
abbrev pub in_doubt : List (Xid × BranchState) → List Xid
in_doubt bs = map (λ e. e.0) (filter (λ e. is_in_doubt e.1) bs)

-- why a recover is refused: the first that applies
abbrev pub scan_refusal : ScanList → ℕ → Call → Option Code
scan_refusal scans thread call =
    if has_scan scans thread then None
    else if not (starts_scan call) then Some code.Inval
    else if nat_le 256 (length scans) then Some code.RmErr
    else None

-- what a recover gives from: the branches in doubt where it begins a scan, else what the open scan has left
abbrev pub scanned : BranchList → ℕ → Call → List Xid
scanned b thread call = if starts_scan call then in_doubt b.branches
    else unwrap_or (scan_of b.scans thread) []

-- a recover was not refused and gave these
pub record ScansBranches (old new : BranchList) (thread count : ℕ) (call : Call)
    (given : List Xid) : Type 0 where
  pub made : scan_refusal old.scans thread call ≡ None
  pub next : given ≡ take count (scanned old thread call)
  pub left : SetsScan old.scans new.scans thread (if ends_scan call then None
      else Some (drop count (scanned old thread call)))
  pub branches : new.branches ≡ old.branches
  pub room : new.room ≡ old.room
