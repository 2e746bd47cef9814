-- The stores of a tree's processes, taken one after another.
use Rattle.std.proofs.Common.{◌≡◌, ◌≢◌, ◌∙◌, sym, ap, subst, refl, ℕ, ◌+◌, ◌<◌, ◌≤◌, ◌⊎◌, inl, inr, Bool, true, false, cond, if◌then◌else◌, ◌||◌, nat_lt, Some, List, [], ◌∷◌, ◌++◌, length, get_or, take, drop, arith}
use Rattle.std.specs.List.{count_by, list_any}
use Rattle.std.proofs.lemmas.List.Folds.{list_any_at}
use Rattle.std.proofs.lemmas.List.{take-append-drop}
use Rattle.std.proofs.lemmas.Bool.Decides.{nat_tests}
use Rattle.std.proofs.lemmas.List.Sums.{count_by_more_yes, sum_by-append, sum_by-take-le}
use Rattle.protocol.specs.declared.names.ProcessId.{ProcessId}
use Rattle.protocol.specs.declared.trees.TreeProcess.{TreeProcess}
use Rattle.protocol.specs.Names.{same_process}
use Rattle.protocol.specs.NameLaws.{same_process_tells}
use Rattle.protocol.specs.Nodes.{is_listed}
use Rattle.protocol.specs.Trees.{IsTree, lists_twice, times_listed}
use Rattle.tree_process.specs.declared.opening.ProcessOpenError.{ProcessOpenError}
use Rattle.tree_process.specs.declared.opening.ProcessOpenError.TheVariants.{Memory, Store}
use Rattle.tree_process.specs.Openings.{ProcessNotOpened}
use Rattle.tree_world.specs.Openings.{TreeNotOpened, store_of}
use Rattle.tree_world.proofs.Processes.{itself}

-- Each process once.

none_counted : (p : TreeProcess → Bool) (es : List TreeProcess) → count_by p es ≡ 0 → list_any p es ≡ false
none_counted p [] z = refl
none_counted p (x ∷ es) z =
    by_test (p x) (sym (sum_by-append (λ y. cond (p y) 1 0) (x ∷ []) es) ∙ z) (none_counted p es)
  where
    by_test : (b : Bool) → (0 + cond b 1 0) + count_by p es ≡ 0
        → (count_by p es ≡ 0 → list_any p es ≡ false) → (b || list_any p es) ≡ false
    by_test true z rest = absurd (omega (arith, z))
    by_test false z rest = rest (omega (arith, z))

none_before : (before with_it all : ℕ) → nat_lt 1 all ≡ false → with_it ≡ before + 1 → with_it ≤ all
    → before ≡ 0
none_before before with_it all once more within = grind (arith, nat_tests)

none_behind : (before with_it behind all : ℕ) → nat_lt 1 all ≡ false → with_it ≡ before + 1
    → all ≡ with_it + behind → behind ≡ 0
none_behind before with_it behind all once more whole = grind (arith, nat_tests)

not_both : (b : Bool) → b ≡ false → b ≡ true → ⊥
not_both b isnt is = absurd (cc)

few : (b : Bool) → (b ≡ true → true ≡ false) → b ≡ false
few true h = h refl
few false h = refl

-- a process of a tree is not listed before its place
pub new_at : (tree : List TreeProcess) (i : ℕ) (e : TreeProcess) → IsTree tree → i < length tree
    → e ≡ get_or tree i e → is_listed (take i tree) e.id ≡ false
unfolding is_listed lists_twice times_listed
new_at tree i e t lt is =
    let test = λ (y : TreeProcess). same_process y.id e.id in
    let once : nat_lt 1 (count_by test tree) ≡ false = few (nat_lt 1 (count_by test tree))
    (λ twice. sym (list_any_at (λ x. nat_lt 1 (times_listed tree x.id)) tree i e lt
    (ap (λ (x : TreeProcess). nat_lt 1 (times_listed tree x.id)) (sym is) ∙ twice)) ∙ t.listed_once) in
    none_counted test (take i tree)
    (none_before (count_by test (take i tree)) (count_by test (take (i + 1) tree)) (count_by test tree) once
    (count_by_more_yes test tree i e lt (ap test (sym is) ∙ itself e.id))
    (sum_by-take-le (λ y. cond (test y) 1 0) tree (i + 1)))

-- a process that is listed after a place of a tree is not the one that is listed there
pub not_again : (tree : List TreeProcess) (i : ℕ) (e : TreeProcess) (q : ProcessId) → IsTree tree
    → i < length tree
    → e ≡ get_or tree i e → is_listed (drop (i + 1) tree) q ≡ true → same_process e.id q ≡ false
unfolding is_listed lists_twice times_listed
not_again tree i e q t lt is listed = by_case (same_process_tells e.id q)
  where
    test : TreeProcess → Bool
    test y = same_process y.id e.id

    once : nat_lt 1 (count_by test tree) ≡ false
    once = few (nat_lt 1 (count_by test tree))
        (λ twice. sym (list_any_at (λ x. nat_lt 1 (times_listed tree x.id)) tree i e lt
        (ap (λ (x : TreeProcess). nat_lt 1 (times_listed tree x.id)) (sym is) ∙ twice)) ∙ t.listed_once)

    here : count_by test (take (i + 1) tree) ≡ count_by test (take i tree) + 1
    here = count_by_more_yes test tree i e lt (ap test (sym is) ∙ itself e.id)

    whole : count_by test tree ≡ count_by test (take (i + 1) tree) + count_by test (drop (i + 1) tree)
    whole = ap (count_by test) (sym (take-append-drop (i + 1) tree))
        ∙ sum_by-append (λ y. cond (test y) 1 0) (take (i + 1) tree) (drop (i + 1) tree)

    none : list_any test (drop (i + 1) tree) ≡ false
    none = none_counted test (drop (i + 1) tree)
        (none_behind (count_by test (take i tree)) (count_by test (take (i + 1) tree))
        (count_by test (drop (i + 1) tree)) (count_by test tree) once here whole)

    by_case : ((same_process e.id q ≡ true) × (e.id ≡ q)) ⊎ ((same_process e.id q ≡ false) × (e.id ≢ q))
        → same_process e.id q ≡ false
    by_case (inl same) =
        let there : list_any test (drop (i + 1) tree) ≡ true
        = ap (λ p. list_any (λ (y : TreeProcess). same_process y.id p) (drop (i + 1) tree)) same.1 ∙ listed in
        absurd (not_both (list_any test (drop (i + 1) tree)) none there)
    by_case (inr other) = other.0

-- Why a tree did not open from a place on.

-- there is no store for the process at the place
pub no_store : {L : Type 0} (bytes : L → List ℕ) (failures : L → ℕ) (e : TreeProcess) (es : List TreeProcess)
    → TreeNotOpened bytes failures (e ∷ es) [] (Store e.id)
unfolding is_listed
no_store bytes failures e es = record {
  process = e.id;
  listed = ap (λ b. b || list_any (λ (y : TreeProcess). same_process y.id e.id) es) (itself e.id);
  why = (refl, tt);
}

-- the process at the place did not open over its store
pub refused_here : {L : Type 0} (bytes : L → List ℕ) (failures : L → ℕ) (e : TreeProcess)
    (es : List TreeProcess)
    (s : L) (ss : List L) (why : ProcessOpenError) → ProcessNotOpened bytes failures e.id (Some s) why
    → TreeNotOpened bytes failures (e ∷ es) (s ∷ ss) why
unfolding is_listed
refused_here bytes failures e es s ss why h = record {
  process = e.id;
  listed = ap (λ b. b || list_any (λ (y : TreeProcess). same_process y.id e.id) es) (itself e.id);
  why = subst (λ o. ProcessNotOpened bytes failures e.id o why)
      (ap (λ b. if b then Some s else store_of es ss e.id) (sym (itself e.id))) h;
}

-- a process after it did not open
pub refused_behind : {L : Type 0} (bytes : L → List ℕ) (failures : L → ℕ) (e : TreeProcess)
    (es : List TreeProcess)
    (s : L) (ss : List L) (why : ProcessOpenError)
    → ((q : ProcessId) → is_listed es q ≡ true → same_process e.id q ≡ false)
    → TreeNotOpened bytes failures es ss why → TreeNotOpened bytes failures (e ∷ es) (s ∷ ss) why
unfolding is_listed
refused_behind bytes failures e es s ss why apart h = record {
  process = h.process;
  listed = or_true (same_process e.id h.process) _ h.listed;
  why = subst (λ o. ProcessNotOpened bytes failures h.process o why)
      (ap (λ b. if b then Some s else store_of es ss h.process) (sym (apart h.process h.listed))) h.why;
}
  where
    or_true : (b c : Bool) → c ≡ true → (b || c) ≡ true
    or_true true c h = refl
    or_true false c h = h

-- before any process opened, want of memory is why the tree did not
pub none_open : {L : Type 0} (bytes : L → List ℕ) (failures : L → ℕ) (tree : List TreeProcess)
    (stores : List L)
    → IsTree tree → TreeNotOpened bytes failures tree stores Memory
unfolding is_listed
none_open bytes failures [] stores t = absurd (let no = t.not_empty in cc)
none_open bytes failures (e ∷ es) stores t = record {
  process = e.id;
  listed = ap (λ b. b || list_any (λ (y : TreeProcess). same_process y.id e.id) es) (itself e.id);
  why = tt;
}
