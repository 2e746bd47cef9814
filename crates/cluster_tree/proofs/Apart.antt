-- Each process of a tree is listed once.
use Rattle.std.proofs.Common.{◌≡◌, ◌∙◌, sym, ap, refl, ℕ, zero, suc, ◌+◌, ◌<◌, ◌≤◌, Bool, true, false, cond, if◌then◌else◌, ◌||◌, nat_lt, inl, inr, Some, List, [], ◌∷◌, length, map, get_or, slice_get, arith}
use Rattle.std.specs.List.{count_by, list_any}
use Rattle.std.proofs.lemmas.Bool.Decides.{nat_tests}
use Rattle.std.proofs.lemmas.List.Folds.{list_any_at}
use Rattle.std.proofs.lemmas.List.Sums.{sum_by-append}
use Rattle.protocol.specs.declared.names.ProcessId.{ProcessId}
use Rattle.protocol.specs.declared.trees.TreeProcess.{TreeProcess}
use Rattle.protocol.specs.Names.{same_process}
use Rattle.protocol.specs.NameLaws.{same_process_tells}
use Rattle.protocol.specs.Nodes.{is_listed, role_by, role_of}
use Rattle.protocol.specs.Trees.{IsTree, lists_twice, times_listed}
use Rattle.proof_cuts.proofs.Cuts.{self}
use Rattle.cluster_ties.specs.Rule.{AreApartProcesses}

-- none of these processes is listed after its own place
abbrev pub Apart : List TreeProcess → Type 0
Apart [] = Unit {0}
Apart (e ∷ es) = (is_listed es e.id ≡ false) × Apart es

-- a process is listed at its place
pub listed_at : (tree : List TreeProcess) (i : ℕ) (e : TreeProcess) → i < length tree
    → e ≡ get_or tree i e → is_listed tree e.id ≡ true
unfolding is_listed
listed_at tree i e lt is =
    list_any_at (λ y. same_process y.id e.id) tree i e lt
    (ap (λ (y : TreeProcess). same_process y.id e.id) (sym is) ∙ self e.id)

one_more : (p : TreeProcess → Bool) (x : TreeProcess) (es : List TreeProcess)
    → count_by p (x ∷ es) ≡ (0 + cond (p x) 1 0) + count_by p es
one_more p x es = sum_by-append (λ y. cond (p y) 1 0) (x ∷ []) es

none_counted : (p : TreeProcess → Bool) (es : List TreeProcess) → count_by p es ≡ 0 → list_any p es ≡ false
none_counted p [] z = refl
none_counted p (x ∷ es) z = by_test (p x) (sym (one_more p x es) ∙ z) (none_counted p es)
  where
    by_test : (b : Bool) → (0 + cond b 1 0) + count_by p es ≡ 0
        → (count_by p es ≡ 0 → list_any p es ≡ false) → (b || list_any p es) ≡ false
    by_test true z rest = absurd (omega (arith, z))
    by_test false z rest = rest (omega (arith, z))

first_false : (b c : Bool) → (b || c) ≡ false → b ≡ false
first_false true c h = h
first_false false c h = refl

second_false : (b c : Bool) → (b || c) ≡ false → c ≡ false
second_false true c h = absurd (cc)
second_false false c h = h

no_other : (with_it rest all : ℕ) → nat_lt 1 all ≡ false → with_it ≡ (0 + 1) + rest → with_it ≤ all → rest ≡ 0
no_other with_it rest all once is within = grind (arith, nat_tests)

apart_in : (tree es : List TreeProcess) → ((p : TreeProcess → Bool) → count_by p es ≤ count_by p tree)
    → list_any (λ e. nat_lt 1 (times_listed tree e.id)) es ≡ false → Apart es
unfolding is_listed times_listed
apart_in tree [] few once = tt
apart_in tree (e ∷ es) few once =
    let test = λ (y : TreeProcess). same_process y.id e.id in (
      none_counted test es
          (no_other (count_by test (e ∷ es)) (count_by test es) (count_by test tree)
          (first_false _ _ once)
          (one_more test e es ∙ ap (λ b. (0 + cond b 1 0) + count_by test es) (self e.id))
          (few test)),
      apart_in tree es
          (λ p. let more = one_more p e es in let most = few p in omega (arith, more, most))
          (second_false _ _ once),
    )

-- each process of a tree is listed once
pub tree_apart : (tree : List TreeProcess) → IsTree tree → Apart tree
unfolding lists_twice
tree_apart tree t = apart_in tree tree (λ p. omega arith) t.listed_once

-- the role of a process is that of its entry
pub role_at : (es : List TreeProcess) (i : ℕ) (e : TreeProcess) → i < length es → e ≡ get_or es i e → Apart es
    → role_of es e.id ≡ role_by e.kind e.parent
unfolding role_of
role_at [] i e lt is apart = absurd (omega (arith, lt))
role_at (x ∷ es) zero e lt is apart =
    ap (λ (y : TreeProcess). role_of (y ∷ es) e.id) (sym is)
    ∙ ap (λ b. if b then role_by e.kind e.parent else role_of es e.id) (self e.id)
role_at (x ∷ es) (suc i) e lt is apart =
    let low : i < length es = omega (arith, lt) in
    elim (same_process_tells x.id e.id) [
      | inl t ↦ absurd (unlisted (listed_at es i e low is) (ap (is_listed es) (sym t.1) ∙ apart.0))
      | inr z ↦ rw z.0 (role_at es i e low is apart.1)
    ]
  where
    unlisted : {b : Bool} → b ≡ true → b ≡ false → ⊥
    unlisted h k = cc

listed_name : (es : List TreeProcess) (i : ℕ) (d : ProcessId) → slice_get (map (λ e. e.id) es) i ≡ Some d
    → is_listed es d ≡ true
unfolding is_listed
listed_name [] i d at = absurd (cc)
listed_name (x ∷ es) zero d at =
    let same : x.id ≡ d = cc in ap (λ q. same_process q d || is_listed es d) same
    ∙ ap (λ b. b || is_listed es d) (self d)
listed_name (x ∷ es) (suc i) d at = or_true (same_process x.id d) (is_listed es d) (listed_name es i d at)
  where
    or_true : (b c : Bool) → c ≡ true → (b || c) ≡ true
    or_true true c h = refl
    or_true false c h = h

-- the names of a tree's processes are all different
pub names_apart : (es : List TreeProcess) → Apart es → AreApartProcesses (map (λ e. e.id) es)
names_apart [] apart p q d at to = absurd (cc)
names_apart (x ∷ es) apart zero zero d at to = refl
names_apart (x ∷ es) apart zero (suc q) d at to =
    let same : x.id ≡ d = cc in
    absurd (unlisted (listed_name es q d to) (ap (is_listed es) (sym same) ∙ apart.0))
  where
    unlisted : {b : Bool} → b ≡ true → b ≡ false → ⊥
    unlisted h k = cc
names_apart (x ∷ es) apart (suc p) zero d at to =
    let same : x.id ≡ d = cc in
    absurd (unlisted (listed_name es p d at) (ap (is_listed es) (sym same) ∙ apart.0))
  where
    unlisted : {b : Bool} → b ≡ true → b ≡ false → ⊥
    unlisted h k = cc
names_apart (x ∷ es) apart (suc p) (suc q) d at to = ap suc (names_apart es apart.1 p q d at to)
