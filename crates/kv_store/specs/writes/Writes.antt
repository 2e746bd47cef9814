-- What each branch at work has written.
use Rattle.std.specs.Prelude.{◌≡◌, ◌≤◌, ◌-◌, ℕ, Bool, true, false, ◌||◌, nat_lt, Option, Some, None, List, [], length, map, position}
use Rattle.std.specs.Global.{Vec}
use Rattle.std.specs.Vec.{vec_capacity, vec_len}
use Rattle.std.specs.List.{AllByRecursion}
use Rattle.std.specs.Map.{keys_of, lookup}
use Rattle.xa_xid.specs.declared.xid.Xid.{Xid}
use Rattle.xa_xid.specs.contracts.xid.XidPartialEq.TheImpl as names
use Rattle.protocol.specs.declared.records.Write.{Write}
use Rattle.protocol.specs.Records.{same_bytes}
use Rattle.log_rules.specs.order.Orders.{keys_once, names_key}
use Rattle.log_rules.specs.sound.Sound.{IsSoundWrite}

-- two names of branches are one
abbrev pub same : Xid → Xid → Bool
same = names.ghosts.eq

-- what a branch has written, in order of each key's first write, and how many more writes fit without a
-- growth
pub record Workspace : Type 0 where
  pub writes : List Write
  pub room : ℕ

-- the branches at work
abbrev pub WriteTable : Type 0
WriteTable = List (Xid × Workspace)

-- the writes in a workspace: none if there is none
abbrev pub writes_in : Option Workspace → List Write
writes_in None = []
writes_in (Some s) = s.writes

-- the room in a workspace: none if there is none
abbrev pub room_in : Option Workspace → ℕ
room_in None = 0
room_in (Some s) = s.room

-- what a branch has written
abbrev pub writes_of : WriteTable → Xid → List Write
writes_of t x = writes_in (lookup (same x) t)

-- how many more writes of a branch fit
abbrev pub room_of : WriteTable → Xid → ℕ
room_of t x = room_in (lookup (same x) t)

-- a write is of this key
abbrev pub is_of : List ℕ → Write → Bool
is_of k w = same_bytes w.key k

-- a branch that has written these may write this key: it has, or it has written fewer than 64
abbrev pub is_within_limit : List Write → List ℕ → Bool
is_within_limit ws k = names_key ws k || nat_lt (length ws) 64

-- where the list of a branch stands, if it has one
abbrev pub ListedAt : WriteTable → Xid → Option ℕ → Type 0
ListedAt t x place = position (same x) (keys_of t) ≡ place

-- the list of a branch is at this place, and one write more of it fits
pub record HasRoomAt (t : WriteTable) (x : Xid) (place : ℕ) : Type 0 where
  pub stands : position (same x) (keys_of t) ≡ Some place
  pub room : 1 ≤ room_of t x

-- where a branch has room for a write of this key, or that it may not write it
abbrev pub HasRoomFor : WriteTable → Xid → List ℕ → Option ℕ → Type 0
HasRoomFor t x k None = is_within_limit (writes_of t x) k ≡ false
HasRoomFor t x k (Some place) = (is_within_limit (writes_of t x) k ≡ true) × HasRoomAt t x place

-- one branch is left with these writes, and the others with theirs
pub record LeavesWrites (old new : WriteTable) (x : Xid) (ws : List Write) : Type 0 where
  pub own : writes_of new x ≡ ws
  pub others : (y : Xid) → same x y ≡ false → writes_of new y ≡ writes_of old y

-- each branch is left with its writes
abbrev pub SameWrites : WriteTable → WriteTable → Type 0
SameWrites old new = (x : Xid) → writes_of new x ≡ writes_of old x

-- what a branch can have written: at most 64 different keys, each write within its limits
pub record AreWrites (ws : List Write) : Type 0 where
  pub few : length ws ≤ 64
  pub each : AllByRecursion IsSoundWrite ws
  pub once : keys_once ws ≡ true

-- What the code keeps.

-- the workspace that a list is
abbrev pub workspace_of : Vec Write → Workspace
workspace_of v = record { writes = v.items; room = vec_capacity v - vec_len v }

-- the workspaces in the map
abbrev pub table_of : List (Xid × Vec Write) → WriteTable
table_of es = map (λ e. (e.0, workspace_of e.1)) es

-- each branch has what a branch can have written
abbrev pub AreKept : WriteTable → Type 0
AreKept t = (x : Xid) → AreWrites (writes_of t x)
