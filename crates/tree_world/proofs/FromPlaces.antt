-- The processes of a tree from a place on: what the one at the place adds to those after it.
use Rattle.std.proofs.Common.{Bor, ◌≡◌, ap, subst, refl, false, ℕ, ◌+◌, ◌<◌, ◌≤◌, Some, List, [], ◌∷◌, ◌++◌, IsSomeAnd, option_map, length, get_or, drop, reverse}
use Rattle.std.specs.Map.{lookup}
use Rattle.std.specs.Slice.{IsItemAt}
use Rattle.std.proofs.lemmas.List.{drop_all}
use Rattle.protocol.specs.declared.names.ProcessId.{ProcessId}
use Rattle.protocol.specs.contracts.names.ProcessIdPartialEq.TheImpl as processes
use Rattle.protocol.specs.declared.trees.TreeProcess.{TreeProcess}
use Rattle.protocol.specs.Names.{same_process}
use Rattle.protocol.specs.Trees.{IsTree}
use Rattle.tree_state.specs.Runs.{IsOpenedTree}
use Rattle.tree_journal.specs.Journals.{JournalState}
use Rattle.resource_manager.specs.Data.{DataRests, no_data}
use Rattle.tree_process.specs.declared.node.Process.{Process}
use Rattle.tree_process.specs.declared.opening.ProcessOpenError.{ProcessOpenError}
use Rattle.tree_process.specs.declared.opening.ProcessOpenError.TheVariants.{Store}
use Rattle.tree_process.specs.Nodes.{HoldsLog, core_of, data_of}
use Rattle.tree_process.specs.Openings.{HandsStoreBack, OpenedAs, ProcessNotOpened}
use Rattle.tree_world.specs.Nodes.{NodesSight, data_in, kept_at}
use Rattle.tree_world.specs.Openings.{AreHandedBack, AreOpened, TreeNotOpened}
use Rattle.tree_world.proofs.Handling.{world}
use Rattle.tree_world.proofs.HandedBack.{from_end, handed_back_behind, handed_back_here, holds_first}
use Rattle.tree_world.proofs.OpenNodes.{drop_at, none, opened_tree, opens_more}
use Rattle.tree_world.proofs.StorePlaces.{new_at, no_store, not_again, refused_behind, refused_here}

-- the entry that is found at a place
pub found_at : (tree : List TreeProcess) (i : ℕ) (x : Bor TreeProcess) → IsItemAt tree i (Some x)
    → (i < length tree) × (x.now ≡ get_or tree i x.now)
found_at tree i x h = (h.3.0, h.1)

-- after the last process none is open
pub none_from : {L : Type 0} (tree : List TreeProcess) (i : ℕ) (entries : List (ProcessId × Process L))
    → length tree ≤ i → entries ≡ [] → AreOpened tree (drop i tree) (kept_at entries)
none_from tree i entries past empty = rw (drop_all i tree past, empty) (none tree _ (λ q. refl) (λ q. refl))

module _ {L : Type 0} (bytes : L → List ℕ) (forced failures : L → ℕ) (tree : List TreeProcess) (i : ℕ)
    (e : TreeProcess) (lt : i < length tree) (is : e ≡ get_or tree i e) where
  -- there is no store for the process
  pub no_store_at : (items : List L) → items ≡ [] → TreeNotOpened bytes failures (drop i tree) (reverse items)
      (Store e.id)
  no_store_at items empty = rw (drop_at tree i e lt is, empty) (no_store bytes failures e (drop (i + 1) tree))

  pub none_handed_back_at : (old new : List L) (why : ProcessOpenError) → old ≡ [] → new ≡ []
      → AreHandedBack bytes forced failures (drop i tree) (reverse old) (reverse new) why
  none_handed_back_at old new why empty left = rw (drop_at tree i e lt is, empty, left) refl

  -- the process did not open over its store
  pub refused_at : (items behind : List L) (s : L) (why : ProcessOpenError) → items ≡ behind ++ s ∷ []
      → ProcessNotOpened bytes failures e.id (Some s) why
      → TreeNotOpened bytes failures (drop i tree) (reverse items) why
  refused_at items behind s why taken h =
      rw (drop_at tree i e lt is, taken, from_end behind s)
      (refused_here bytes failures e (drop (i + 1) tree) s (reverse behind) why h)

  pub handed_back_at : (items behind left : List L) (s l : L) (why : ProcessOpenError)
      → items ≡ behind ++ s ∷ []
      → left ≡ behind ++ l ∷ [] → HandsStoreBack failures s l why
      → AreHandedBack bytes forced failures (drop i tree) (reverse items) (reverse left) why
  handed_back_at items behind left s l why taken put h =
      rw (drop_at tree i e lt is, taken, put)
      (handed_back_here bytes forced failures e (drop (i + 1) tree) behind s l why h)

  -- one after it did not
  pub refused_from : (items behind : List L) (s : L) (why : ProcessOpenError) → IsTree tree
      → items ≡ behind ++ s ∷ []
      → TreeNotOpened bytes failures (drop (i + 1) tree) (reverse behind) why
      → TreeNotOpened bytes failures (drop i tree) (reverse items) why
  refused_from items behind s why t taken h =
      rw (drop_at tree i e lt is, taken, from_end behind s)
      (refused_behind bytes failures e (drop (i + 1) tree) s (reverse behind) why
      (λ q listed. not_again tree i e q t lt is listed) h)

  pub handed_back_from : (items behind left all : List L) (s l : L) (n : Process L) (why : ProcessOpenError)
      → items ≡ behind ++ s ∷ [] → all ≡ left ++ l ∷ [] → OpenedAs tree e (core_of n)
      → HoldsLog bytes forced failures (core_of n) l
      → AreHandedBack bytes forced failures (drop (i + 1) tree) (reverse behind) (reverse left) why
      → AreHandedBack bytes forced failures (drop i tree) (reverse items) (reverse all) why
  handed_back_from items behind left all s l n why taken put opened holds h =
      rw (drop_at tree i e lt is, taken, put)
      (handed_back_behind bytes forced failures e (drop (i + 1) tree) behind left s l why
      (holds_first bytes forced failures tree e (core_of n) l opened holds) h)

-- the process at the place is open beside those after it
pub opened_from : {L : Type 0} (tree : List TreeProcess) (i : ℕ) (e : TreeProcess)
    (old new : List (ProcessId × Process L))
    (n : Process L) → IsTree tree → i < length tree → e ≡ get_or tree i e → OpenedAs tree e (core_of n)
    → DataRests no_data (data_of n) → lookup (processes.ghosts.eq e.id) new ≡ Some n
    → ((q : ProcessId) → same_process e.id q ≡ false
    → lookup (processes.ghosts.eq q) new ≡ lookup (processes.ghosts.eq q) old)
    → AreOpened tree (drop (i + 1) tree) (kept_at old) → AreOpened tree (drop i tree) (kept_at new)
opened_from {L} tree i e old new n t lt is opened bare own others h =
    opens_more tree i e (kept_at old) (kept_at new) lt is (new_at tree i e t lt is)
    (rw own opened) (rw own bare)
    (λ q apart. ap (option_map core_of) (others q apart)) (λ q apart. ap (data_in {L = L}) (others q apart)) h

-- from the first place on they are all the tree's: the tree has opened
pub all_opened : (tree entries : List TreeProcess) (ns : NodesSight) (j : JournalState) → entries ≡ tree
    → AreOpened entries (drop 0 entries) ns → j.net ≡ [] → j.delivered ≡ [] → j.entries ≡ []
    → IsOpenedTree (world tree ns j) tree
all_opened tree entries ns j is h net delivered entered =
    opened_tree tree ns j
    (subst (λ es. AreOpened es es ns) is (subst (λ es. AreOpened entries es ns) (from_first entries) h))
    net delivered entered
  where
    from_first : (es : List TreeProcess) → drop 0 es ≡ es
    from_first [] = refl
    from_first (e ∷ es) = refl
