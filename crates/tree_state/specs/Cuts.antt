-- A journal cut by process.
use Rattle.std.specs.Prelude.{◌≡◌, true, false, None, List, [], ◌∷◌, ◌++◌}
use Rattle.protocol.specs.declared.names.ProcessId.{ProcessId}
use Rattle.protocol.specs.declared.messages.Envelope.{Envelope}
use Rattle.protocol.specs.declared.events.JournalEntry.{JournalEntry}
use Rattle.protocol.specs.declared.events.Happening.{Happening}
use Rattle.protocol.specs.declared.trees.TreeProcess.{TreeProcess}
use Rattle.protocol.specs.Names.{same_process}
use Rattle.protocol.specs.Nodes.{Effect, Node, Place, is_listed, opened_node, place_of}
use Rattle.protocol.specs.World.{IsNewInNet, IsRun, Made, Makes, Move, World, entries_of, entry_of, journal_of, made_by, node_makes}
use Rattle.protocol.specs.World.{AllBy}
use Rattle.process_state.specs.Turns.{this_version}

-- the messages that entries sent, one after another
abbrev pub net_of : List JournalEntry → List Envelope
net_of [] = []
net_of (x ∷ xs) = x.reaction.messages ++ net_of xs

-- The moves, the newest first, lead the process that sits there from its opening to what it is.
pub data IsNodeRun (place : Place) : List Made → Node → Type 0 where
  begins : IsNodeRun place [] opened_node
  steps : (ms : List Made) (n : Node) (m : Move) (e : Effect) (n' : Node)
      → IsNodeRun place ms n
      → m.step.process ≡ place.me
      → node_makes place n m ≡ Makes e n'
      → IsNodeRun place (record { move = m; effect = e } ∷ ms) n'

-- what happens at a process finds its message: where it delivers one, that is in the net for the process,
-- under the number that is named
abbrev pub FindsMessage : List Envelope → ProcessId → Happening → Type 0
FindsMessage net q h = IsNewInNet net 0 q h

-- an entry may come after this net: its process is listed, what it delivers was sent to it, and no device
-- failed in it
pub record IsGivenEntry (tree : List TreeProcess) (net : List Envelope) (x : JournalEntry) : Type 0 where
  pub listed : is_listed tree x.step.process ≡ true
  pub finds : FindsMessage net x.step.process x.step.happening
  pub unfailed : x.step.fault ≡ None

-- each entry may come after those before it
pub data AreGiven (tree : List TreeProcess) : List JournalEntry → Type 0 where
  none_given : AreGiven tree []
  one_more : (xs : List JournalEntry) (x : JournalEntry)
      → AreGiven tree xs
      → IsGivenEntry tree (net_of xs) x
      → AreGiven tree (xs ++ x ∷ [])

-- The entries of each process are those of moves that it made, alone and by the version that processes have,
-- which leave it so; and each entry may come where it does.
pub record IsCut (tree : List TreeProcess) (xs : List JournalEntry) (left : ProcessId → Node) : Type 0 where
  pub moves : ProcessId → List Made
  pub made : (q : ProcessId) → IsNodeRun (place_of tree q) (moves q) (left q)
  pub by_this : (q : ProcessId) → AllBy this_version (moves q)
  pub shown : (q : ProcessId) → journal_of (moves q) ≡ entries_of q xs
  pub given : AreGiven tree xs

-- the entries are those of a run, which leaves each process so
pub record IsOneRun (tree : List TreeProcess) (xs : List JournalEntry)
    (left : ProcessId → Node) : Type 0 where
  pub moves : List Made
  pub world : World
  pub is_run : IsRun tree moves world
  pub by_this : AllBy this_version moves
  pub are_entries : journal_of moves ≡ xs
  pub nodes : (q : ProcessId) → world.at q ≡ left q
  pub net : world.net ≡ net_of xs

-- A journal that is cut so is a run.
abbrev pub CutsAreRuns : Type 0
CutsAreRuns = (tree : List TreeProcess) (xs : List JournalEntry) (left : ProcessId → Node)
    → IsCut tree xs left
    → IsOneRun tree xs left

-- What a process made after these entries of its own: one entry more.
pub record MakesOne (tree : List TreeProcess) (q : ProcessId) (own : List JournalEntry) (x : JournalEntry)
    (n' : Node) : Type 0 where
  pub moves : List Made
  pub node : Node
  pub move : Move
  pub effect : Effect
  pub made : IsNodeRun (place_of tree q) moves node
  pub shown : journal_of moves ≡ own
  pub mine : move.step.process ≡ q
  pub by_this : AllBy this_version (record { move = move; effect = effect } ∷ moves)
  pub makes : node_makes (place_of tree q) node move ≡ Makes effect n'
  pub is : entry_of (record { move = move; effect = effect }) ≡ x

-- The process of such a step is left so, and the others as they were.
pub record LeavesOne (q : ProcessId) (n' : Node) (old new : ProcessId → Node) : Type 0 where
  pub own : new q ≡ n'
  pub others : (r : ProcessId) → same_process q r ≡ false → new r ≡ old r

-- What a process made after its entries in the journal may be entered there, whatever the others have
-- entered meanwhile: the journal is cut as before.
abbrev pub CutsGrow : Type 0
CutsGrow = (tree : List TreeProcess) (xs : List JournalEntry) (old : ProcessId → Node) (q : ProcessId)
    (x : JournalEntry)
    (n' : Node) → IsCut tree xs old
    → MakesOne tree q (entries_of q xs) x n' → IsGivenEntry tree (net_of xs) x
    → (new : ProcessId → Node) × IsCut tree (xs ++ x ∷ []) new × LeavesOne q n' old new

-- Of a run each process made its moves alone, and its entries are theirs.
abbrev pub RunsAreCut : Type 0
RunsAreCut = (tree : List TreeProcess) (es : List Made) (w : World) → IsRun tree es w → (q : ProcessId)
    → IsNodeRun (place_of tree q) (made_by q es) (w.at q)
    × (journal_of (made_by q es) ≡ entries_of q (journal_of es))
