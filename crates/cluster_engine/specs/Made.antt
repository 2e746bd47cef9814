-- What the caller who leads a run has made.
use Rattle.std.specs.Prelude.{◌≡◌, ◌⊎◌, ℕ, Option, Some, List, [], ◌∷◌, slice_get, take}
use Rattle.protocol.specs.declared.names.Txn.{Txn}
use Rattle.protocol.specs.declared.events.Event.{Event}
use Rattle.protocol.specs.declared.events.Event.TheVariants.{Settle}
use Rattle.protocol.specs.declared.trees.TreeProcess.{TreeProcess}
use Rattle.cluster_process.specs.declared.errors.PostError.{PostError}
use Rattle.cluster_process.specs.Passes.{PassState}
use Rattle.cluster_tree.specs.Passes.{IsLonger}
use Rattle.cluster_tree.specs.Posts.{Posts}
use Rattle.cluster_tree.specs.Refusals.{IsRefusedPost, NotSettled}
use Rattle.cluster_tree.specs.Settling.{IsSettledPass}

-- the event was posted in this tree: the pass has one pair more, of an entry of it
abbrev pub IsPosted : List TreeProcess → Event → PassState → PassState → Type 0
IsPosted tree event old new = (number : ℕ) × (begun : Option Txn) × Posts tree event old new number begun

-- the event was posted, or it was a settle, in which messages were delivered, until none of the journal was
-- left
abbrev pub IsMade : List TreeProcess → Event → PassState → PassState → Type 0
IsMade tree event old new = ((event ≡ Settle) × IsLonger old new × IsSettledPass tree new)
    ⊎ IsPosted tree event old new

-- these events were made, one after another
abbrev pub AreMade : List TreeProcess → List Event → PassState → PassState → Type 0
AreMade tree [] old new = new ≡ old
AreMade tree (e ∷ es) old new = (mid : PassState) × IsMade tree e old mid × AreMade tree es mid new

-- with each of these passes messages were delivered, and nothing else was done
abbrev pub AreLonger : List PassState → List PassState → Type 0
AreLonger [] [] = Unit {0}
AreLonger [] (q ∷ qs) = ⊥
AreLonger (p ∷ ps) [] = ⊥
AreLonger (p ∷ ps) (q ∷ qs) = IsLonger p q × AreLonger ps qs

-- whoever has the first of these passes made these events, and those with the others delivered
abbrev pub FirstMade : List TreeProcess → List Event → List PassState → List PassState → Type 0
FirstMade tree es [] new = ⊥
FirstMade tree es (p ∷ ps) [] = ⊥
FirstMade tree es (p ∷ ps) (q ∷ qs) = AreMade tree es p q × AreLonger ps qs

-- Refusals.

-- why the event was not made with this pass: a settle went no further, or the event was refused
abbrev pub NotMade : List TreeProcess → Event → PassState → PostError → Type 0
NotMade tree Settle pass e = NotSettled tree e
NotMade tree event pass e = IsRefusedPost tree event pass e

-- N of these events were made with a pass, and the next was not, for this reason
pub record StopsAt (tree : List TreeProcess) (events : List Event) (old : PassState)
    (made : ℕ) (e : PostError)
    : Type 0 where
  pub event : Event
  pub next : slice_get events made ≡ Some event
  pub before : PassState
  pub made_before : AreMade tree (take made events) old before
  pub not_made : NotMade tree event before e

-- so it was with the first of these passes
abbrev pub FirstStops : List TreeProcess → List Event → List PassState → ℕ → PostError → Type 0
FirstStops tree es [] made e = ⊥
FirstStops tree es (p ∷ ps) made e = StopsAt tree es p made e
