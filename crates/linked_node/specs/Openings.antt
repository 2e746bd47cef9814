-- What an opening makes of the texts that it is given.
use Rattle.std.specs.Prelude.{◌≡◌, ◌++◌, ℕ, List, [], length, Option, Some, ◌==◌, true, false, Bool, codes, find}
use Rattle.protocol.specs.declared.events.Reaction.{Reaction}
use Rattle.protocol.specs.declared.trees.TreeProcess.{TreeProcess}
use Rattle.protocol.specs.Names.{same_process}
use Rattle.tree_script.specs.Inputs.{IsTreeFront}
use Rattle.file_blocks.specs.Files.{Holds}
use Rattle.log_file.specs.declared.store.FileStore.{FileStore}
use Rattle.log_file.specs.Stores.{file_bytes, file_failures, file_forced}
use Rattle.file_calls.specs.declared.file.CalledFile.{CalledFile}
use Rattle.node_engine.specs.declared.serving.Serving.{Serving}
use Rattle.node_engine.specs.Answers.{Shows, state_of}
use Rattle.node_engine.specs.Starts.{IsStart}
use Rattle.linked_node.specs.Numbers.{IsRefusalNumber, IsAnswerNumber}
use Rattle.linked_node.specs.declared.kept.Kept.{Kept}
use Rattle.linked_node.specs.declared.kept.KeptLife.{KeptLife}
use Rattle.linked_node.specs.declared.kept.KeptLife.TheVariants.{Serves}

-- the tree that a text is
abbrev pub IsTreeOf : List ℕ → List TreeProcess → Type 0
IsTreeOf text tree = (rule : ℕ) × (lines : List (List ℕ))
    × IsTreeFront (text ++ codes "\n---\n") tree rule lines

-- the bytes of the log that a file holds; a new one holds none
abbrev pub FoundIn : Bool → List ℕ → List ℕ → Type 0
FoundIn true file log = log ≡ []
FoundIn false file log = (number : ℕ) × Holds file number log

-- this node serves, and this is its answer
abbrev pub BoxesIn : Serving (FileStore CalledFile) → KeptLife → Type 0
BoxesIn node (Serves kept) = kept.value ≡ node
BoxesIn node _ = ⊥

pub record Boxes (node : Serving (FileStore CalledFile)) (answer : List ℕ) (kept : Kept) : Type 0 where
  pub serves : BoxesIn node kept.life
  pub answers : kept.answer.items ≡ answer

-- a node that serves, whose answer is what it did as it opened
abbrev pub ServesAfter : Serving (FileStore CalledFile) → Reaction → Kept → KeptLife → Type 0
ServesAfter first opening kept (Serves node) = Shows (state_of first) (state_of node.value) opening
    kept.answer.items
ServesAfter first opening kept _ = ⊥

-- a node of a process of the tree that the text is, over the log in the file, that was just started
pub record Opened (text : List ℕ) (process : ℕ) (file : List ℕ) (is_new : Bool) (kept : Kept) : Type 0 where
  pub tree : List TreeProcess
  pub reads : IsTreeOf text tree
  pub entry : TreeProcess
  pub listed : find (λ e. same_process e.id (record { 0 = process })) tree ≡ Some entry
  pub store : FileStore CalledFile
  pub found : FoundIn is_new file (file_bytes store)
  pub forced : file_forced store ≡ length (file_bytes store)
  pub works : file_failures store ≡ 0
  pub first : Serving (FileStore CalledFile)
  pub opening : Reaction
  pub starts : IsStart tree entry (file_bytes store) (file_forced store) (file_failures store) first opening
  pub serves : ServesAfter first opening kept kept.life

-- how 1 says that the log is new, and 0 that it is not
abbrev pub is_new_by : ℕ → Bool
is_new_by how = how == 1

-- a node was opened, and its answer is told or waits; or why not, and the handle is as it was
pub data OpensAt (text : List ℕ) (process : ℕ) (file : List ℕ) (how : ℕ) (old new : Option Kept)
    (status : ℕ) : Type 0 where
  opens : (kept : Kept) → new ≡ Some kept → IsAnswerNumber status
      → Opened text process file (is_new_by how) kept
      → OpensAt text process file how old new status
  refuses : IsRefusalNumber status → new ≡ old → OpensAt text process file how old new status
