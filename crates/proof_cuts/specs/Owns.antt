-- What lies under a process's lock, what it makes there alone, and what all of them come to at the end.
use Rattle.std.specs.Prelude.{◌≡◌, ℕ, true, false, Some, is_some, List, [], ◌∷◌, ◌++◌}
use Rattle.protocol.specs.declared.names.ProcessId.{ProcessId}
use Rattle.protocol.specs.declared.events.JournalEntry.{JournalEntry}
use Rattle.protocol.specs.declared.events.Happening.TheVariants.{Trim}
use Rattle.protocol.specs.declared.events.Input.{Input}
use Rattle.protocol.specs.declared.events.Reaction.{Reaction}
use Rattle.protocol.specs.declared.trees.TreeProcess.{TreeProcess}
use Rattle.protocol.specs.Nodes.{Node, is_listed, place_of}
use Rattle.protocol.specs.Outcomes.{Headline}
use Rattle.protocol.specs.Trees.{IsTree}
use Rattle.protocol.specs.World.{IsRun, Made, World, entries_of, journal_of, made_by}
use Rattle.protocol.specs.World.{AllBy}
use Rattle.proof_reports.specs.SecondRuns.{EndsReported}
use Rattle.process_state.specs.Turns.{this_version}
use Rattle.process_state.specs.States.{CoreState, SameCore}
use Rattle.process_state.specs.Opening.{IsOpenedProcess}
use Rattle.process_state.specs.Restarting.{ProcessRestarts, ProcessTrims}
use Rattle.resource_manager.specs.Data.{ManagerData}
use Rattle.tree_state.specs.StandsFor.{StandsFor}
use Rattle.tree_state.specs.Steps.{KeepsSoundLog, restart_of, trim_reaction}
use Rattle.tree_state.specs.Worlds.{HandlesInput, WorldState, entry_at, step_entry}
use Rattle.proof_runs.specs.worlds.Follows.{IsModelled}
use Rattle.tree_state.specs.Cuts.{AreGiven, IsCut, MakesOne, net_of}

-- In some run the process has just these entries, and what it keeps stands for what that run leaves of it.
pub record OwnRun (tree : List TreeProcess) (q : ProcessId) (own : List JournalEntry)
    (s : CoreState) : Type 0 where
  pub moves : List Made
  pub world : World
  pub is_run : IsRun tree moves world
  pub by_this : AllBy this_version moves
  pub shown : journal_of (made_by q moves) ≡ own
  pub place : s.place ≡ place_of tree q
  pub stands : StandsFor (world.at q) s

-- After these entries of its own the process made one more, and stands for what that leaves.
pub record OwnMakes (tree : List TreeProcess) (q : ProcessId) (own : List JournalEntry) (new : CoreState)
    (x : JournalEntry) : Type 0 where
  pub node : Node
  pub makes : MakesOne tree q own x node
  pub place : new.place ≡ place_of tree q
  pub stands : StandsFor node new

-- a process that has opened has made nothing
abbrev pub OpensOwn : Type 0
OpensOwn = (tree : List TreeProcess) (q : ProcessId) (s : CoreState) (failures : ℕ)
    → IsOpenedProcess s (place_of tree q) failures → OwnRun tree q [] s

-- what a process makes of an input, alone
abbrev pub InputsAreMade : Type 0
InputsAreMade = (tree : List TreeProcess) (q : ProcessId) (own : List JournalEntry) (old new : CoreState)
    (before behind : ManagerData) (i : Input) (reaction : Reaction) → is_listed tree q ≡ true
    → OwnRun tree q own old → HandlesInput old new before behind i reaction
    → OwnMakes tree q own new (entry_at q i reaction)

-- its restart, alone
abbrev pub RestartsAreMade : Type 0
RestartsAreMade = (tree : List TreeProcess) (q : ProcessId) (own : List JournalEntry)
    (old new : CoreState) (keep : ℕ)
    (reaction : Reaction) → IsTree tree → is_listed tree q ≡ true → OwnRun tree q own old
    → ProcessRestarts old keep new reaction → OwnMakes tree q own new
    (step_entry q (restart_of old keep) reaction)

-- its trim, alone
abbrev pub TrimsAreMade : Type 0
TrimsAreMade = (tree : List TreeProcess) (q : ProcessId) (own : List JournalEntry)
    (old new : CoreState) (remain : ℕ)
    → IsTree tree → is_listed tree q ≡ true → OwnRun tree q own old
    → old.log.failed ≡ false → KeepsSoundLog old → ProcessTrims old new remain
    → OwnMakes tree q own new (step_entry q Trim (trim_reaction remain))

-- if nothing is otherwise it stands as before
abbrev pub SameStays : Type 0
SameStays = (tree : List TreeProcess) (q : ProcessId) (own : List JournalEntry) (old new : CoreState)
    → OwnRun tree q own old → SameCore old new → OwnRun tree q own new

-- Once it is entered, the process's entries in the journal are its own again.
abbrev pub EntersOwn : Type 0
EntersOwn = (tree : List TreeProcess) (xs : List JournalEntry) (x : JournalEntry)
    (q : ProcessId) (s : CoreState)
    (left : ProcessId → Node) (node : Node) → IsCut tree (xs ++ x ∷ []) left → left q ≡ node
    → s.place ≡ place_of tree q → StandsFor node s
    → OwnRun tree q (entries_of q (xs ++ x ∷ [])) s

-- a journal that is cut so is a run, in which each message that is delivered was sent before, under its
-- number; the headline holds of it, and mismatches are reported in it
pub record CutHolds (tree : List TreeProcess) (xs : List JournalEntry) : Type 0 where
  pub moves : List Made
  pub world : World
  pub is_run : IsRun tree moves world
  pub by_this : AllBy this_version moves
  pub are_entries : journal_of moves ≡ xs
  pub given : AreGiven tree xs
  pub headline : Headline tree moves world
  pub mismatches_are_reported : EndsReported tree moves world is_run

abbrev pub CutsHold : Type 0
CutsHold = (tree : List TreeProcess) (xs : List JournalEntry) (left : ProcessId → Node) → IsTree tree
    → IsCut tree xs left → CutHolds tree xs

-- Of some run the journal is this one, and it leaves the process as what that keeps stands for; the
-- headline holds of it, and mismatches are reported in it.
pub record StandsInRun (tree : List TreeProcess) (xs : List JournalEntry) (q : ProcessId)
    (s : CoreState) : Type 0 where
  pub moves : List Made
  pub world : World
  pub is_run : IsRun tree moves world
  pub are_entries : journal_of moves ≡ xs
  pub headline : Headline tree moves world
  pub mismatches_are_reported : EndsReported tree moves world is_run
  pub place : s.place ≡ place_of tree q
  pub stands : StandsFor (world.at q) s

-- Where a journal is cut so, and a process's own entries are the journal's of it, the process stands where
-- the journal leaves it.
abbrev pub OneStands : Type 0
OneStands = (tree : List TreeProcess) (xs : List JournalEntry) (left : ProcessId → Node) (q : ProcessId)
    (s : CoreState) → IsTree tree → IsCut tree xs left → OwnRun tree q (entries_of q xs) s
    → StandsInRun tree xs q s

-- At the end: each process has its entries of the journal, and the state of the tree has them all.
pub record IsAtEnd (s : WorldState) (left : ProcessId → Node) : Type 0 where
  pub cut : IsCut s.tree s.entries left
  pub net : s.net ≡ net_of s.entries
  pub listed : (q : ProcessId) → is_some (s.node_at q) ≡ is_listed s.tree q
  pub own : (q : ProcessId) (c : CoreState) → s.node_at q ≡ Some c
      → OwnRun s.tree q (entries_of q s.entries) c

-- the state stands for one run, whose journal it has, of which the headline holds, and in which mismatches
-- are reported
abbrev pub EndsModelled : Type 0
EndsModelled = (s : WorldState) (left : ProcessId → Node) → IsTree s.tree → IsAtEnd s left → IsModelled s
