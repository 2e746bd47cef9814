-- A tree over empty stores whose devices do not fail, one for each process, is refused for memory alone.
use Rattle.std.proofs.Common.{◌≡◌, ◌||◌, if◌then◌else◌, ℕ, Bool, true, false, All, Option, Some, None, IsSomeAnd, List, [], ◌∷◌, length, refl, arith}
use Rattle.std.specs.List.{AllByRecursion, list_any}
use Rattle.std.proofs.lemmas.List.Elements.{recursion_from_All}
use Rattle.protocol.specs.declared.names.ProcessId.{ProcessId}
use Rattle.protocol.specs.declared.trees.TreeProcess.{TreeProcess}
use Rattle.protocol.specs.Names.{same_process}
use Rattle.protocol.specs.Nodes.{is_listed}
use Rattle.tree_process.specs.declared.opening.ProcessOpenError.{ProcessOpenError}
use Rattle.tree_process.specs.declared.opening.ProcessOpenError.TheVariants.{Memory, Device, Store}
use Rattle.tree_process.specs.Openings.{DeviceFailed, IsNoEmptyStore}
use Rattle.tree_world.specs.Openings.{TreeNotOpened, store_of}

never_failed : {L : Type 0} (bytes : L → List ℕ) (failures : L → ℕ) (o : Option L)
    → ((s : L) → failures s ≡ 0)
    → IsSomeAnd o (DeviceFailed bytes failures) → ⊥
never_failed bytes failures None never h = absurd h
never_failed bytes failures (Some s) never h = absurd (omega (arith, never s, never h.left, h.more))

-- a listed process has a store, which is empty
has_one : {L : Type 0} (bytes : L → List ℕ) (es : List TreeProcess) (ss : List L) (q : ProcessId)
    → is_listed es q ≡ true → length ss ≡ length es
    → AllByRecursion (λ s. bytes s ≡ []) ss → IsNoEmptyStore bytes (store_of es ss q) → ⊥
unfolding is_listed
has_one bytes [] ss q listed long empty h = absurd (cc)
has_one bytes (e ∷ es) [] q listed long empty h = absurd (omega (arith, long))
has_one {L} bytes (e ∷ es) (s ∷ ss) q listed long empty h =
    by_test (same_process e.id q) listed
    (λ later. has_one bytes es ss q later (omega (arith, long)) empty.1) h
  where
    by_test : (b : Bool) → (b || list_any (λ y. same_process y.id q) es) ≡ true
        → (list_any (λ y. same_process y.id q) es ≡ true → IsNoEmptyStore bytes (store_of es ss q) → ⊥)
        → IsNoEmptyStore bytes (if b then Some s else store_of es ss q) → ⊥
    by_test true found later h = h empty.0
    by_test false found later h = later found h

pub memory_alone : {L : Type 0} (bytes : L → List ℕ) (failures : L → ℕ) (tree : List TreeProcess)
    (stores : List L) (e : ProcessOpenError)
    → ((s : L) → failures s ≡ 0) → length stores ≡ length tree → All (λ s. bytes s ≡ []) stores
    → TreeNotOpened bytes failures tree stores e → e ≡ Memory
memory_alone bytes failures tree stores Memory never long empty h = refl
memory_alone bytes failures tree stores (Device q) never long empty h =
    absurd (never_failed bytes failures (store_of tree stores h.process) never h.why.1)
memory_alone bytes failures tree stores (Store q) never long empty h =
    absurd (has_one bytes tree stores h.process h.listed long
    (recursion_from_All (λ s. bytes s ≡ []) stores empty) h.why.1)
