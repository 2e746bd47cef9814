-- Where crashes are tried.
use Rattle.std.specs.Prelude.{ℕ, ◌+◌, ◌≤◌, ◌^◌, Option, None, Some, List, [], ◌∷◌, map, sum, Contains}
use Rattle.std.specs.List.{flat_map}
use Rattle.protocol.specs.declared.names.ProcessId.{ProcessId}
use Rattle.protocol.specs.declared.events.Event.{Event}
use Rattle.protocol.specs.declared.events.Event.TheVariants.{Restart, Settle}
use Rattle.protocol.specs.declared.trees.TreeProcess.{TreeProcess}
use Rattle.log_records.specs.Sights.{record_size}
use Rattle.tree_state.specs.Worlds.{WorldState}
use Rattle.tree_world.specs.Unforced.{unforced_by}
use Rattle.crash_engine.specs.declared.points.Point.{Point}

-- N bytes after the forced front are kept of a process's log
abbrev pub point_at : ProcessId → ℕ → Point
point_at q keep = record { process = q; keep = keep }

-- where records of these sizes begin and end, the first of them at this byte
abbrev pub bounds : ℕ → List ℕ → List ℕ
bounds at [] = at ∷ []
bounds at (n ∷ ns) = at ∷ bounds (at + n) ns

-- the points of a process whose unforced records have these sizes: it keeps none of them, or the first, and
-- so on to all
abbrev pub points_at : ProcessId → List ℕ → List Point
points_at q sizes = map (point_at q) (bounds 0 sizes)

-- how many bytes each unforced record of a process takes
abbrev pub sizes_at : WorldState → ProcessId → List ℕ
sizes_at w q = map record_size (unforced_by (w.node_at q))

-- the unforced records of a process of the tree take 2^64 bytes or more
pub record AreTooLong (w : WorldState) : Type 0 where
  pub entry : TreeProcess
  pub listed : Contains w.tree entry
  pub long : 2 ^ 64 ≤ sum (sizes_at w entry.id)

-- the points of a tree as it is, process by process in the order of the tree
unfoldable pub points_in : WorldState → List Point
points_in w = flat_map (λ e. points_at e.id (sizes_at w e.id)) w.tree

-- the events of a crash: the restart, and all that comes of it; without one, all that comes
abbrev pub crash_of : Option Point → List Event
crash_of None = Settle ∷ []
crash_of (Some p) = Restart p.process (Some p.keep) ∷ Settle ∷ []
