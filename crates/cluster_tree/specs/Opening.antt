-- A cluster that opens.
use Rattle.std.specs.Prelude.{◌≡◌, ◌<◌, ℕ, List, [], map}
use Rattle.atomic_table.specs.Seated.{TableId}
use Rattle.atomic_table.specs.declared.shared.Seat.{Seat}
use Rattle.protocol.specs.declared.names.ProcessId.{ProcessId}
use Rattle.protocol.specs.declared.events.JournalEntry.{JournalEntry}
use Rattle.protocol.specs.declared.trees.TreeProcess.{TreeProcess}
use Rattle.protocol.specs.Trees.{IsTree}
use Rattle.cluster_ties.specs.declared.views.View.{View}
use Rattle.cluster_ties.specs.Views.{keeper}

-- the names of the processes, in the order of the tree
abbrev pub names_of : List TreeProcess → List ProcessId
names_of tree = map (λ e. e.id) tree

-- The table, of which these are the number and the names, is the one that is meant; its names are those of a
-- tree's processes, and the tree is the one that is meant.
pub record SeatsTree (table : TableId) (meant tree : List TreeProcess) (id : TableId)
    (names : List ProcessId) : Type 0 where
  pub is_tree : IsTree tree
  pub tree_is : tree ≡ meant
  pub here : id ≡ table
  pub names_are : names ≡ names_of tree

-- the table is this one, and has the names of the tree's processes
pub record IsTableOf (table : TableId) (tree : List TreeProcess) (id : TableId)
    (names : List ProcessId) : Type 0 where
  pub here : id ≡ table
  pub names_are : names ≡ names_of tree
  pub words : 0 < table.words

-- the journal's seat, where M processes have a seat, and N passes were given; nothing is entered
pub record KeepsSeats (table : TableId) (tree : List TreeProcess) (opened given : ℕ)
    (seat : Seat (List (ℕ × JournalEntry)) View) : Type 0 where
  pub here : seat.table_id ≡ table
  pub keeps : seat.me ≡ (keeper (names_of tree) opened given [], [])
