-- Worked runs, event by event and line by line.
use Rattle.std.specs.Prelude.{◌≡◌, ℕ, Option, Some, None, List, [], ◌∷◌}
use Rattle.protocol.specs.declared.names.ProcessId.{ProcessId}
use Rattle.protocol.specs.declared.names.Kind.{Kind}
use Rattle.protocol.specs.declared.names.Kind.TheVariants.{Coordinator, Manager}
use Rattle.protocol.specs.declared.names.Ticket.{Ticket}
use Rattle.protocol.specs.declared.names.Txn.{Txn}
use Rattle.protocol.specs.declared.names.Presumption.{Presumption}
use Rattle.protocol.specs.declared.trees.TreeProcess.{TreeProcess}
use Rattle.protocol.specs.Plays.{Play, plays_all, played_lines}

-- the process of a number
abbrev pub process : ℕ → ProcessId
process n = record { 0 = n }

-- an entry of a tree, without an information text
abbrev pub listed : ℕ → Kind → Option ProcessId → TreeProcess
listed n kind parent = record { id = process n; kind = kind; parent = parent; info = None }

-- a transaction of root 1
abbrev pub txn : ℕ → ℕ → Presumption → Txn
txn boot sequence p = record { root = process 1; boot = boot; sequence = sequence; presumption = p }

-- a ticket by its three numbers
abbrev pub ticket : ℕ → ℕ → ℕ → Ticket
ticket child boot number = record { child = process child; boot = boot; number = number }

-- a tree, events, and the lines of the run
pub record WorkedRun : Type 0 where
  pub tree : List TreeProcess
  pub events : List Play
  pub lines : List (List ℕ)

-- the events lead to the lines; every tree has process 1 as its root
abbrev pub Runs : WorkedRun → Type 0
Runs w = played_lines (plays_all w.tree (process 1) w.events) ≡ w.lines

-- root 1 with managers 2 and 3
abbrev pub tree_a : List TreeProcess
tree_a = listed 1 Coordinator None ∷ listed 2 Manager (Some (process 1)) ∷ listed 3 Manager (Some (process 1))
    ∷ []

-- root 1, coordinator 2 under it, manager 3 under 2
abbrev pub tree_b : List TreeProcess
tree_b = listed 1 Coordinator None ∷ listed 2 Coordinator (Some (process 1))
    ∷ listed 3 Manager (Some (process 2)) ∷ []

-- the same with manager 4 under the root
abbrev pub tree_c : List TreeProcess
tree_c = listed 1 Coordinator None ∷ listed 2 Coordinator (Some (process 1))
    ∷ listed 3 Manager (Some (process 2)) ∷ listed 4 Manager (Some (process 1)) ∷ []
