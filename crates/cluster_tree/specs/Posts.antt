-- What was posted to a cluster.
use Rattle.std.specs.Prelude.{◌≡◌, ◌+◌, ⊤, ℕ, Option, List}
use Rattle.protocol.specs.declared.names.ProcessId.{ProcessId}
use Rattle.protocol.specs.declared.names.Txn.{Txn}
use Rattle.protocol.specs.declared.events.Event.{Event}
use Rattle.protocol.specs.declared.events.Event.TheVariants.{Deliver, Settle, Restart, Trim}
use Rattle.protocol_words.specs.Variants.{ActOf}
use Rattle.protocol.specs.declared.trees.TreeProcess.{TreeProcess}
use Rattle.protocol.specs.Plays.{process_of_act}
use Rattle.protocol.specs.Trees.{root_of}
use Rattle.cluster_process.specs.Passes.{PassState}
use Rattle.cluster_process.specs.Posts.{PostsOne}

-- the event is of this process, where the tree has this root; a message may be of any
abbrev pub IsOf : ProcessId → ProcessId → Event → Type 0
IsOf root q (ActOf a) = q ≡ process_of_act root a
IsOf root q (Deliver k) = ⊤
IsOf root q Settle = ⊥
IsOf root q (Restart p bytes) = q ≡ p
IsOf root q (Trim p) = q ≡ p

-- The event was posted at its process in this tree: the pass has one pair more, of an entry of this event and
-- its place, which is answered from 1.
pub record Posts (tree : List TreeProcess) (event : Event) (old new : PassState) (number : ℕ)
    (begun : Option Txn) : Type 0 where
  pub process : ProcessId
  pub place : ℕ
  pub number_is : number ≡ place + 1
  pub is_of : IsOf (root_of tree) process event
  pub posts : PostsOne tree process event old new place begun
