-- The stores that are handed back where a tree does not open.
use Rattle.std.proofs.Common.{◌≡◌, ◌∙◌, sym, ap, refl, ℕ, inl, inr, Option, Some, None, List, [], ◌∷◌, ◌++◌, reverse}
use Rattle.std.proofs.lemmas.List.{reverse-append}
use Rattle.protocol.specs.declared.names.Kind.{Kind}
use Rattle.protocol.specs.declared.names.Kind.TheVariants.{Coordinator, Manager}
use Rattle.protocol.specs.declared.names.ProcessId.{ProcessId}
use Rattle.protocol.specs.declared.trees.TreeProcess.{TreeProcess}
use Rattle.protocol.specs.Nodes.{role_by}
use Rattle.log_text.specs.Forms.{log_form}
use Rattle.log_records.specs.Sights.{LogSight, kept_of}
use Rattle.process_state.specs.States.{CoreState, form_of, kind_of_role}
use Rattle.tree_process.specs.Nodes.{HoldsLog}
use Rattle.tree_process.specs.Openings.{HandsStoreBack, OpenedAs}
use Rattle.tree_process.specs.Reopenings.{kind_by}
use Rattle.tree_process.specs.declared.opening.ProcessOpenError.{ProcessOpenError}
use Rattle.tree_process.specs.declared.opening.ProcessOpenError.TheVariants.{Memory}
use Rattle.tree_world.specs.Openings.{AreHandedBack, HoldsFirst}

-- the role of an entry's process is of its kind
pub kind_of : (k : Kind) (parent : Option ProcessId) → kind_of_role (role_by k parent) ≡ kind_by k parent
kind_of Coordinator None = refl
kind_of Coordinator (Some p) = refl
kind_of Manager None = refl
kind_of Manager (Some p) = refl

-- the store of a process that has just opened holds its first record
pub holds_first : {L : Type 0} (bytes : L → List ℕ) (forced failures : L → ℕ) (tree : List TreeProcess)
    (e : TreeProcess) (s : CoreState) (store : L) → OpenedAs tree e s → HoldsLog bytes forced failures s store
    → HoldsFirst bytes forced e store
holds_first bytes forced failures tree e s store opened holds =
    ap (λ k. kept_of k (bytes store) (forced store))
    (sym (ap form_of opened.opened.place_is ∙ ap (log_form e.id) (kind_of e.kind e.parent)))
    ∙ ap (λ (l : LogSight). l.kept) (holds ∙ opened.opened.log)

-- the last store of a list is the first of the list from its end
pub from_end : {L : Type 0} (items : List L) (s : L) → reverse (items ++ s ∷ []) ≡ s ∷ reverse items
from_end items s = reverse-append items (s ∷ [])

-- the store of the process that did not open was put back
pub handed_back_here : {L : Type 0} (bytes : L → List ℕ) (forced failures : L → ℕ) (e : TreeProcess)
    (es : List TreeProcess) (items : List L) (s l : L) (why : ProcessOpenError)
    → HandsStoreBack failures s l why
    → AreHandedBack bytes forced failures (e ∷ es) (reverse (items ++ s ∷ [])) (reverse (items ++ l ∷ [])) why
handed_back_here bytes forced failures e es items s l why h =
    rw (from_end items s, from_end items l) (inl (h, refl))

-- the store of one that had opened was put back
pub handed_back_behind : {L : Type 0} (bytes : L → List ℕ) (forced failures : L → ℕ) (e : TreeProcess)
    (es : List TreeProcess) (items left : List L) (s l : L) (why : ProcessOpenError)
    → HoldsFirst bytes forced e l
    → AreHandedBack bytes forced failures es (reverse items) (reverse left) why
    → AreHandedBack bytes forced failures (e ∷ es) (reverse (items ++ s ∷ [])) (reverse (left ++ l ∷ [])) why
handed_back_behind bytes forced failures e es items left s l why first h =
    rw (from_end items s, from_end left l) (inr (first, h))

-- all stores are as they were
pub handed_back_all : {L : Type 0} (bytes : L → List ℕ) (forced failures : L → ℕ) (es : List TreeProcess)
    (stores : List L) → AreHandedBack bytes forced failures es stores stores Memory
handed_back_all bytes forced failures [] stores = refl
handed_back_all bytes forced failures (e ∷ es) [] = refl
handed_back_all bytes forced failures (e ∷ es) (s ∷ ss) = inl (refl, refl)
