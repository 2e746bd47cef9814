-- The stores of a tree's processes from a place on, as they are made ready one after another.
use Rattle.std.proofs.Common.{Bor, ◌≡◌, ◌∙◌, ap, sym, subst, refl, inr, false, true, Bool, if◌then◌else◌, is_none, ◌&&◌, ◌||◌, ℕ, ◌+◌, ◌<◌, ◌≤◌, Option, Some, None, List, [], ◌∷◌, ◌++◌, length, get_or, drop, reverse}
use Rattle.std.specs.List.{list_any}
use Rattle.std.specs.Slice.{IsItemAt}
use Rattle.std.proofs.lemmas.List.{drop_all}
use Rattle.std.proofs.lemmas.List.Folds.{list_any_at}
use Rattle.protocol.specs.declared.names.Kind.{Kind}
use Rattle.protocol.specs.declared.names.Kind.TheVariants.{Coordinator, Manager}
use Rattle.protocol.specs.declared.names.ProcessId.{ProcessId}
use Rattle.protocol.specs.declared.trees.TreeProcess.{TreeProcess}
use Rattle.protocol.specs.Names.{same_process}
use Rattle.protocol.specs.Nodes.{is_listed}
use Rattle.protocol.specs.Trees.{IsTree, has_wrong_roots, is_manager_kind, is_top}
use Rattle.tree_process.specs.Reopenings.{kind_by}
use Rattle.tree_world.specs.Openings.{store_of}
use Rattle.tree_world.specs.OwnNames.{fault_of}
use Rattle.tree_world.specs.Readied.{AreNotReadied, AreReadied, IsReadied, NotReadied}
use Rattle.tree_world.specs.Reopenings.{AreReturned, FailsIn, IsReturned, fault_or, faults_from}
use Rattle.tree_world.specs.declared.reopening.TreeReopenError.{TreeReopenError}
use Rattle.tree_world.specs.declared.reopening.TreeReopenError.TheVariants.{Memory, Device, Damaged as DamagedError}
use Rattle.tree_world.proofs.FromPlaces.{found_at}
use Rattle.tree_world.proofs.HandedBack.{from_end}
use Rattle.tree_world.proofs.OpenNodes.{drop_at}
use Rattle.tree_world.proofs.Processes.{itself}
use Rattle.tree_world.proofs.ReadyLogs.{as_it_was, ready_holds, returned_by}
use Rattle.tree_world.proofs.StorePlaces.{not_again}

-- the entry that is found at a place of the tree's entries
pub found_in : (es tree : List TreeProcess) (i : ℕ) (x : Bor TreeProcess) → es ≡ tree → IsItemAt es i (Some x)
    → (i < length tree) × (x.now ≡ get_or tree i x.now)
found_in es tree i x same h = found_at tree i x
    (subst (λ (ts : List TreeProcess). IsItemAt ts i (Some x)) same h)

pub past_in : (es tree : List TreeProcess) (i : ℕ) → es ≡ tree → length es ≤ i → length tree ≤ i
past_in es tree i same h = subst (λ (ts : List TreeProcess). length ts ≤ i) same h

-- Kinds.

few : (b : Bool) → (b ≡ true → true ≡ false) → b ≡ false
few true h = h refl
few false h = refl

second_false : (a b : Bool) → (a || b) ≡ false → b ≡ false
second_false true b h = absurd (cc)
second_false false b h = h

-- a process of a tree without a parent is a coordinator, so the log of each is of its kind
pub own_kind : (tree : List TreeProcess) (i : ℕ) (e : TreeProcess) → IsTree tree → i < length tree
    → e ≡ get_or tree i e
    → kind_by e.kind e.parent ≡ e.kind
unfolding has_wrong_roots
own_kind tree i e t lt is = by_kind e.kind e.parent refl refl
  where
    none_wrong : (is_top e && is_manager_kind e.kind) ≡ false
    none_wrong = few (is_top e && is_manager_kind e.kind)
        (λ wrong. sym (list_any_at (λ x. is_top x && is_manager_kind x.kind) tree i e lt
        (ap (λ (x : TreeProcess). is_top x && is_manager_kind x.kind) (sym is) ∙ wrong))
        ∙ second_false _ (list_any (λ x. is_top x && is_manager_kind x.kind) tree) t.one_coordinator_on_top)

    by_kind : (k : Kind) (p : Option ProcessId) → e.kind ≡ k → e.parent ≡ p → kind_by k p ≡ k
    by_kind Coordinator p kind parent = refl
    by_kind Manager (Some p) kind parent = refl
    by_kind Manager None kind parent = absurd (let never : true ≡ false =
        ap (λ (o : Option ProcessId). is_none o && is_manager_kind Manager) (sym parent)
        ∙ ap (λ (k : Kind). is_none e.parent && is_manager_kind k) (sym kind) ∙ none_wrong in cc)

-- One process and those after it.

pub listed_first : (e : TreeProcess) (es : List TreeProcess) → is_listed (e ∷ es) e.id ≡ true
unfolding is_listed
listed_first e es = ap (λ b. b || list_any (λ (y : TreeProcess). same_process y.id e.id) es) (itself e.id)

or_true : (b c : Bool) → c ≡ true → (b || c) ≡ true
or_true true c h = refl
or_true false c h = h

pub listed_behind : (e : TreeProcess) (es : List TreeProcess) (p : ProcessId) → is_listed es p ≡ true
    → is_listed (e ∷ es) p ≡ true
unfolding is_listed
listed_behind e es p h = or_true (same_process e.id p) _ h

-- Failing devices.

module _ {L : Type 0} (failures : L → ℕ) (e : TreeProcess) (es : List TreeProcess) (s : L) (ss : List L) where
  pub fails_first : FailsIn failures (Some s) → FailsIn failures (store_of (e ∷ es) (s ∷ ss) e.id)
  fails_first h = subst (FailsIn failures)
      (ap (λ b. if b then Some s else store_of es ss e.id) (sym (itself e.id))) h

  pub fails_behind : (p : ProcessId) → same_process e.id p ≡ false → FailsIn failures (store_of es ss p)
      → FailsIn failures (store_of (e ∷ es) (s ∷ ss) p)
  fails_behind p apart h = subst (FailsIn failures)
      (ap (λ b. if b then Some s else store_of es ss p) (sym apart)) h

-- the stores that were not come to are as they were
pub all_returned : {L : Type 0} (bytes : L → List ℕ) (forced failures : L → ℕ)
    (es : List TreeProcess) (ss : List L)
    (why : TreeReopenError) → AreReturned bytes forced failures es ss ss why
all_returned bytes forced failures [] ss why = refl
all_returned bytes forced failures (e ∷ es) [] why = refl
all_returned bytes forced failures (e ∷ es) (s ∷ ss) why = (
  returned_by bytes forced failures [] e s s why (as_it_was bytes forced failures [] e s s refl),
  all_returned bytes forced failures es ss why,
)

module _ {L : Type 0} (bytes : L → List ℕ) (failures : L → ℕ) (tree : List TreeProcess) (e : TreeProcess)
    (es : List TreeProcess) (s : L) (ss : List L) where
  -- why the store of the process was not made ready
  not_readied_first : (why : TreeReopenError) → NotReadied bytes failures tree e s why
      → AreNotReadied bytes failures tree (e ∷ es) (s ∷ ss) why
  not_readied_first Memory h = tt
  not_readied_first (Device p) h =
      subst (λ q. (is_listed (e ∷ es) q ≡ true) × FailsIn failures (store_of (e ∷ es) (s ∷ ss) q)) (sym h.0)
      (listed_first e es, fails_first failures e es s ss h.1)
  not_readied_first (DamagedError p place) h =
      ap (λ o. fault_or e.id o (faults_from bytes tree es ss)) h.1 ∙ ap (λ q. Some (q, place)) (sym h.0)

  -- and why one after it was not
  not_readied_later : (why : TreeReopenError)
      → ((q : ProcessId) → is_listed es q ≡ true → same_process e.id q ≡ false)
      → fault_of tree e (bytes s) ≡ None → AreNotReadied bytes failures tree es ss why
      → AreNotReadied bytes failures tree (e ∷ es) (s ∷ ss) why
  not_readied_later Memory apart sound h = tt
  not_readied_later (Device p) apart sound h =
      (listed_behind e es p h.0, fails_behind failures e es s ss p (apart p h.0) h.1)
  not_readied_later (DamagedError p place) apart sound h =
      ap (λ o. fault_or e.id o (faults_from bytes tree es ss)) sound ∙ h

-- From a place on.

pub none_readied : {L : Type 0} (bytes : L → List ℕ) (failures : L → ℕ) (tree : List TreeProcess) (i : ℕ)
    (items : List L)
    → length tree ≤ i → AreReadied bytes failures tree (drop i tree) (reverse items) (reverse items)
none_readied bytes failures tree i items past = rw (drop_all i tree past) refl

module _ {L : Type 0} (bytes : L → List ℕ) (forced failures : L → ℕ) (tree : List TreeProcess) (i : ℕ)
    (e : TreeProcess) (lt : i < length tree) (is : e ≡ get_or tree i e) where
  -- there is no store for the process
  pub no_store_readied : (items : List L) → items ≡ []
      → AreNotReadied bytes failures tree (drop i tree) (reverse items) (Device e.id)
  no_store_readied items empty =
      rw (drop_at tree i e lt is, empty) (listed_first e (drop (i + 1) tree), tt)

  pub no_store_returned : (old new : List L) (why : TreeReopenError) → old ≡ [] → new ≡ []
      → AreReturned bytes forced failures (drop i tree) (reverse old) (reverse new) why
  no_store_returned old new why empty left = rw (drop_at tree i e lt is, empty, left) refl

  -- the store of the process was not made ready
  pub not_readied_at : (items behind : List L) (s : L) (why : TreeReopenError) → items ≡ behind ++ s ∷ []
      → NotReadied bytes failures tree e s why
      → AreNotReadied bytes failures tree (drop i tree) (reverse items) why
  not_readied_at items behind s why taken h =
      rw (drop_at tree i e lt is, taken, from_end behind s)
      (not_readied_first bytes failures tree e (drop (i + 1) tree) s (reverse behind) why h)

  pub returned_at : (items behind left : List L) (s l : L) (why : TreeReopenError) → items ≡ behind ++ s ∷ []
      → left ≡ behind ++ l ∷ [] → IsReturned bytes forced failures e s l why
      → AreReturned bytes forced failures (drop i tree) (reverse items) (reverse left) why
  returned_at items behind left s l why taken put h =
      rw (drop_at tree i e lt is, taken, put, from_end behind s, from_end behind l)
      (h, all_returned bytes forced failures (drop (i + 1) tree) (reverse behind) why)

  -- it was made ready, and those after it too
  pub readied_from : (items behind left all : List L) (s l : L) → items ≡ behind ++ s ∷ []
      → all ≡ left ++ l ∷ []
      → IsReadied bytes failures tree e s l
      → AreReadied bytes failures tree (drop (i + 1) tree) (reverse behind) (reverse left)
      → AreReadied bytes failures tree (drop i tree) (reverse items) (reverse all)
  readied_from items behind left all s l taken put h hs =
      rw (drop_at tree i e lt is, taken, put, from_end behind s, from_end left l) (h, hs)

  -- it was, and one after it was not
  pub not_readied_from : (items behind : List L) (s l : L) (why : TreeReopenError) → IsTree tree
      → items ≡ behind ++ s ∷ []
      → IsReadied bytes failures tree e s l
      → AreNotReadied bytes failures tree (drop (i + 1) tree) (reverse behind) why
      → AreNotReadied bytes failures tree (drop i tree) (reverse items) why
  not_readied_from items behind s l why t taken ready h =
      rw (drop_at tree i e lt is, taken, from_end behind s)
      (not_readied_later bytes failures tree e (drop (i + 1) tree) s (reverse behind) why
      (λ q listed. not_again tree i e q t lt is listed) ready.sound h)

  pub returned_from : (items behind left all : List L) (s l : L) (why : TreeReopenError)
      → items ≡ behind ++ s ∷ []
      → all ≡ left ++ l ∷ [] → IsReadied bytes failures tree e s l
      → AreReturned bytes forced failures (drop (i + 1) tree) (reverse behind) (reverse left) why
      → AreReturned bytes forced failures (drop i tree) (reverse items) (reverse all) why
  returned_from items behind left all s l why taken put ready h =
      rw (drop_at tree i e lt is, taken, put, from_end behind s, from_end left l) (
        returned_by bytes forced failures tree e s l why
            (inr (ready_holds bytes forced failures tree e s l ready)),
        h,
      )
