-- A tree whose processes have restarted over the logs that an earlier run left.
use Rattle.std.specs.Prelude.{◌≡◌, ℕ, true, is_some, Some, List, ◌++◌, map}
use Rattle.std.specs.List.{flat_map}
use Rattle.protocol.specs.declared.names.ProcessId.{ProcessId}
use Rattle.protocol.specs.declared.events.Happening.TheVariants.{Restart}
use Rattle.protocol.specs.declared.events.Reaction.{Reaction}
use Rattle.protocol.specs.declared.records.LogRecord.{LogRecord}
use Rattle.protocol.specs.declared.trees.TreeProcess.{TreeProcess}
use Rattle.protocol.specs.LogNames.{in_log, parent_of}
use Rattle.protocol.specs.Nodes.{is_listed, place_of, role_of}
use Rattle.protocol.specs.Restarts.{left_of}
use Rattle.protocol.specs.World.{Continues, Made, World}
use Rattle.log_records.specs.Sights.{left_by}
use Rattle.process_state.specs.States.{CoreState}
use Rattle.process_state.specs.Restarting.{LeftSo, ProcessRestarts}
use Rattle.tree_state.specs.Worlds.{RestartsData, WorldState, step_entry, undelivered}
use Rattle.resource_manager.specs.Data.{ManagerData}
use Rattle.proof_reopened.specs.Since.{FollowsSince}

-- The process is the restart, with what it shows, of every process that sat there and of whose log a crash
-- left these records; a manager's branches in doubt have the writes that they promised.
pub record RestartsOver (tree : List TreeProcess) (q : ProcessId) (ls : List LogRecord)
    (failures : ℕ) (c : CoreState)
    (values : ManagerData) (reaction : Reaction) : Type 0 where
  pub restarts : (old : CoreState) → LeftSo old (place_of tree q) failures
      → (keep : ℕ) → left_by old.log keep ≡ ls → ProcessRestarts old keep c reaction
  pub holdings : RestartsData (place_of tree q).role ls values

-- Each process of the tree restarted over a log of these records, one after another in the order of the tree:
-- the journal has just these restarts, and the messages are those that they sent.
pub record IsReopened (tree : List TreeProcess) (logs : ProcessId → List LogRecord)
    (s : WorldState) : Type 0 where
  pub tree_is : s.tree ≡ tree
  pub failures : ProcessId → ℕ
  pub opening : ProcessId → Reaction
  pub nodes : (q : ProcessId) (c : CoreState) → s.node_at q ≡ Some c
      → RestartsOver tree q (logs q) (failures q) c (s.data_at q) (opening q)
  pub listed : (q : ProcessId) → is_some (s.node_at q) ≡ is_listed tree q
  pub net : s.net ≡ flat_map (λ e. (opening e.id).messages) tree
  pub delivered : s.delivered ≡ undelivered s.net
  pub entries : s.entries ≡ map (λ e. step_entry e.id (Restart 0) (opening e.id)) tree

-- The logs are what a crash of every process leaves after a run that came to this world: of each the forced
-- records, and a front of the others.
pub record AreLogsLeft (tree : List TreeProcess) (w : World)
    (logs : ProcessId → List LogRecord) : Type 0 where
  pub keep : ProcessId → ℕ
  pub left : (q : ProcessId) → is_listed tree q ≡ true
      → logs q ≡ map (in_log (parent_of (role_of tree q))) (left_of (w.at q) (keep q))

-- the state stands for a run that goes on from these moves: first every process goes down by a crash, and
-- then each restarts
pub record GoesOnReopened (es : List Made) (w : World) (s : WorldState) : Type 0 where
  pub crashes : List Made
  pub world : World
  pub leads : Continues s.tree w crashes world
  pub restarts : List Made
  pub reached : World
  pub follows : FollowsSince (record { moves = crashes ++ es; world = world }) restarts reached s
