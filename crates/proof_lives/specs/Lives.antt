-- Lives of the processes of a tree. Each is a program of its own, over a log that outlives it: it starts,
-- makes steps, and ends in one of them or between two; then another starts over what it left.
use Rattle.std.specs.Prelude.{◌≡◌, ◌≢◌, ℕ, Bool, true, if◌then◌else◌, Option, Some, option_map, List}
use Rattle.protocol.specs.declared.names.Case.{Case}
use Rattle.protocol.specs.declared.names.Outcome.{Outcome}
use Rattle.protocol.specs.declared.names.ProcessId.{ProcessId}
use Rattle.protocol.specs.declared.events.Input.{Input}
use Rattle.protocol.specs.declared.standings.Standing.TheVariants.{Heuristic}
use Rattle.protocol.specs.declared.trees.TreeProcess.{TreeProcess}
use Rattle.protocol.specs.Names.{same_process}
use Rattle.protocol.specs.Trees.{IsTree}
use Rattle.protocol.specs.World.{InputStands, Made, World}
use Rattle.log_records.specs.Sights.{LogSight}
use Rattle.process_state.specs.States.{CoreState}
use Rattle.tree_state.specs.Worlds.{DeviceFails, RestartFails, RestartsAt, SameTree, SameNode, TreeSteps, TrimFails, TrimsAt, WorldState}
use Rattle.tree_state.specs.Runs.{IsOpenedTree}
use Rattle.proof_runs.specs.worlds.Follows.{FollowsBehindFaults, GoesOnBehindFaults}
use Rattle.proof_runs.specs.worlds.Modelled.{KeepsHeadline}

-- the log over a device of which N failures were counted
abbrev pub counted_log : LogSight → ℕ → LogSight
counted_log l n = record l { failures = n }

-- the process over such a device
abbrev pub counted : CoreState → ℕ → CoreState
counted s n = record s { log = counted_log s.log n }

-- the tree with this process over such a device: a program counts the failures of its own life
abbrev pub counted_at : ProcessId → ℕ → WorldState → WorldState
counted_at q n s = record s {
  node_at = λ p. if same_process q p then option_map (λ c. counted c n) (s.node_at p) else s.node_at p;
}

-- the process, where this is said of what operators decided, which counts only of a branch that one decided,
-- and of whether it has met a limit of its own
abbrev pub saying : CoreState → (Case → Option Outcome) → Bool → CoreState
saying s said spent = record s { decided_of = said; spent = spent }

-- the tree with this process over such a device, which says this of what operators decided and of its limits
abbrev pub anew_at : ProcessId → ℕ → (Case → Option Outcome) → Bool → WorldState → WorldState
anew_at q n said spent s = record s {
  node_at = λ p.
      if same_process q p then option_map (λ c. saying (counted c n) said spent) (s.node_at p)
      else s.node_at p;
}

-- A program starts over a log that is as it was made, where the process has opened and heard nothing: but for
-- the count of failures, what is said of branches that no operator decided, and whether it has met a limit of
-- its own, nothing is otherwise. Of a manager's data nothing is said.
pub record BeginsAnew (s t : WorldState) (q : ProcessId) (n : ℕ) : Type 0 where
  pub tree : t.tree ≡ s.tree
  pub undecided : (p : ProcessId) (c : CoreState) → same_process q p ≡ true → s.node_at p ≡ Some c
      → (d : Case) → (c.branch_of d).standing ≢ Heuristic
  pub said : Case → Option Outcome
  pub spent : Bool
  pub nodes : (p : ProcessId) → SameNode ((anew_at q n said spent s).node_at p) (t.node_at p)
  pub net : t.net ≡ s.net
  pub delivered : t.delivered ≡ s.delivered
  pub entries : t.entries ≡ s.entries

-- A step of one of the programs. A message that a program hears was sent, under whatever number it comes. An
-- end within a step leaves what a failure of the device in it leaves: a front of what it appended, of which
-- some is forced. What a program says as it ends is lost, or is not.
pub data LifeStep (s t : WorldState) : Type 0 where
  -- nothing is otherwise: an input was refused, or something was asked
  rests : SameTree s t → LifeStep s t
  -- a process makes an input
  makes : (q : ProcessId) (i : Input) (marked : List Bool) → InputStands s.net q i → TreeSteps s t q i marked
      → LifeStep s t
  -- its device fails in it, or its program ends
  breaks : (q : ProcessId) (i : Input) → InputStands s.net q i → DeviceFails s t q i → LifeStep s t
  -- a process trims its log
  trims : (q : ProcessId) → TrimsAt s t q → LifeStep s t
  -- its device fails in that, or its program ends
  trim_breaks : (q : ProcessId) → TrimFails s t q → LifeStep s t
  -- a program starts over what the last one left of its log, N bytes after the forced front
  begins : (q : ProcessId) (n keep : ℕ) → RestartsAt (counted_at q n s) t q (Some keep) → LifeStep s t
  -- its device fails in that, or it ends
  begin_breaks : (q : ProcessId) (n keep : ℕ) → RestartFails (counted_at q n s) t q (Some keep) → LifeStep s t
  -- a program starts over a log that is as it was made
  begins_anew : (q : ProcessId) (n : ℕ) → BeginsAnew s t q n → LifeStep s t

-- such steps, one after another
pub data Lives (start : WorldState) : WorldState → Type 0 where
  none : Lives start start
  more : (s t : WorldState) → Lives start s → LifeStep s t → Lives start t

-- what a step makes of a state that stands for a run stands for one that goes on
abbrev pub StepsGoOn : Type 0
StepsGoOn = (s t : WorldState) (es : List Made) (w : World) → IsTree s.tree → FollowsBehindFaults es w s
    → LifeStep s t → GoesOnBehindFaults es w t

-- whatever programs of a tree come and go, it makes a run of the model; the headline holds of it, and
-- mismatches are reported in it
abbrev pub LivesAreRuns : Type 0
LivesAreRuns = (tree : List TreeProcess) (s t : WorldState) → IsTree tree → IsOpenedTree s tree → Lives s t
    → KeepsHeadline t
