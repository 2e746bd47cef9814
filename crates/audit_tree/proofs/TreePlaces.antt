-- Where the processes of a tree stand: each is listed once, its parent is listed, and one coordinator is on
-- top.
use Rattle.std.proofs.Common.{◌≡◌, ◌∙◌, ◌<◌, ◌+◌, ◌||◌, ◌==◌, ℕ, zero, suc, not, nat_lt, Bool, true, false, if◌then◌else◌, is_none, Option, Some, None, List, [], ◌∷◌, ◌++◌, length, get_or, find, count_by, refl, sym, ap, subst, inl, inr, arith, append_assoc}
use Rattle.std.proofs.lemmas.Bool.Decides.{nat_tests}
use Rattle.std.proofs.lemmas.List.Recursion.{is_count_by}
use Rattle.std.specs.List.{list_any}
use Rattle.protocol.specs.declared.names.Kind.{Kind}
use Rattle.protocol.specs.declared.names.Kind.TheVariants.{Coordinator, Manager}
use Rattle.protocol.specs.declared.names.ProcessId.{ProcessId}
use Rattle.protocol.specs.declared.trees.TreeProcess.{TreeProcess}
use Rattle.protocol.specs.Names.{same_process}
use Rattle.protocol.specs.NameLaws.{same_process_tells}
use Rattle.protocol.specs.Nodes.{AtRoot, is_listed, role_by, role_of}
use Rattle.protocol.specs.Trees.{IsTree, entry_id, entry_parent, has_unknown_parent, is_top, is_unlisted, level_within, levels_above, lists_twice, one_more, parent_of, root_of, times_listed}
use Rattle.proof_processes.proofs.Levels.{climbs}

pub true_not_false : true ≡ false → ⊥
true_not_false q = absurd (cc)

pub itself : (p : ProcessId) → same_process p p ≡ true
itself p = grind (arith, same_process_tells)

pub is_one : (p q : ProcessId) → same_process p q ≡ true → p ≡ q
is_one p q h = elim (same_process_tells p q) [ inl t ↦ t.1 | inr g ↦ absurd (let k = g.0 in cc) ]

first_false : (a b : Bool) → (a || b) ≡ false → a ≡ false
first_false true b h = absurd (true_not_false h)
first_false false b h = refl

second_false : (a b : Bool) → (a || b) ≡ false → b ≡ false
second_false true b h = absurd (true_not_false h)
second_false false b h = h

-- Entries.

-- each of the entries is so
unfoldable pub Each : (TreeProcess → Type 0) → List TreeProcess → Type 0
Each P [] = Unit {0}
Each P (e ∷ es) = P e × Each P es

-- the entry is the one that has its name
abbrev pub IsFound : List TreeProcess → TreeProcess → Type 0
IsFound tree e = find (λ x. same_process x.id e.id) tree ≡ Some e

some_one : (a b : TreeProcess) → Some a ≡ Some b → a ≡ b
some_one a b e = cc

no_some : (e : TreeProcess) {A : Type 0} → None ≡ Some e → A
no_some e h = absurd (cc)

-- what holds of no entry does not hold of one that is found
pub not_found : (f g : TreeProcess → Bool) (es : List TreeProcess) (e : TreeProcess) → list_any f es ≡ false
    → find g es ≡ Some e → f e ≡ false
not_found f g [] e none h = no_some e h
not_found f g (x ∷ es) e none h =
    by_test (g x) h (not_found f g es e (second_false (f x) (list_any f es) none))
  where
    by_test : (b : Bool) → (if b then Some x else find g es) ≡ Some e → (find g es ≡ Some e → f e ≡ false)
        → f e ≡ false
    by_test true here rest = ap f (sym (some_one x e here)) ∙ first_false (f x) (list_any f es) none
    by_test false here rest = rest here

-- an entry that is found passes
passes : (g : TreeProcess → Bool) (es : List TreeProcess) (e : TreeProcess) → find g es ≡ Some e → g e ≡ true
passes g [] e h = no_some e h
passes g (x ∷ es) e h = by_test (g x) refl h (passes g es e)
  where
    by_test : (b : Bool) → g x ≡ b → (if b then Some x else find g es) ≡ Some e
        → (find g es ≡ Some e → g e ≡ true)
        → g e ≡ true
    by_test true is here rest = ap g (sym (some_one x e here)) ∙ is
    by_test false is here rest = rest here

-- what is so of each is so of one that is found
found_of : (P : TreeProcess → Type 0) (g : TreeProcess → Bool) (es : List TreeProcess) (e : TreeProcess)
    → Each P es
    → find g es ≡ Some e → P e
unfolding Each
found_of P g [] e all h = no_some e h
found_of P g (x ∷ es) e all h = by_test (g x) h (found_of P g es e all.1)
  where
    by_test : (b : Bool) → (if b then Some x else find g es) ≡ Some e → (find g es ≡ Some e → P e) → P e
    by_test true here rest = subst P (some_one x e here) all.0
    by_test false here rest = rest here

pub each_at : (P : TreeProcess → Type 0) (es : List TreeProcess) (i : ℕ)
    (e : TreeProcess) → Each P es → i < length es
    → e ≡ get_or es i e → P e
unfolding Each
each_at P [] i e all lt is = absurd (omega (arith, lt))
each_at P (x ∷ es) zero e all lt is = subst P (sym is) all.0
each_at P (x ∷ es) (suc i) e all lt is = each_at P es i e all.1 (omega (arith, lt)) is

pub listed_if : (es : List TreeProcess) (q : ProcessId) (e : TreeProcess)
    → find (λ x. same_process x.id q) es ≡ Some e
    → is_listed es q ≡ true
unfolding is_listed
listed_if [] q e h = no_some e h
listed_if (x ∷ es) q e h = by_test (same_process x.id q) h (listed_if es q e)
  where
    by_test : (b : Bool) → (if b then Some x else find (λ x. same_process x.id q) es) ≡ Some e
        → (find (λ x. same_process x.id q) es ≡ Some e → list_any (λ x. same_process x.id q) es ≡ true)
        → (b || list_any (λ x. same_process x.id q) es) ≡ true
    by_test true here rest = refl
    by_test false here rest = rest here

pub role_if : (es : List TreeProcess) (q : ProcessId) (e : TreeProcess)
    → find (λ x. same_process x.id q) es ≡ Some e
    → role_of es q ≡ role_by e.kind e.parent
unfolding role_of
role_if [] q e h = no_some e h
role_if (x ∷ es) q e h = by_test (same_process x.id q) h (role_if es q e)
  where
    by_test : (b : Bool) → (if b then Some x else find (λ x. same_process x.id q) es) ≡ Some e
        → (find (λ x. same_process x.id q) es ≡ Some e → role_of es q ≡ role_by e.kind e.parent)
        → (if b then role_by x.kind x.parent else role_of es q) ≡ role_by e.kind e.parent
    by_test true here rest = ap (λ (y : TreeProcess). role_by y.kind y.parent) (some_one x e here)
    by_test false here rest = rest here

-- a process that is listed has an entry
pub listed_entry : (es : List TreeProcess) (q : ProcessId) → is_listed es q ≡ true
    → (e : TreeProcess) × (find (λ x. same_process x.id q) es ≡ Some e)
unfolding is_listed
listed_entry [] q h = absurd (cc)
listed_entry (x ∷ es) q h = by_test (same_process x.id q) h (listed_entry es q)
  where
    by_test : (b : Bool) → (b || list_any (λ x. same_process x.id q) es) ≡ true
        → (list_any (λ x. same_process x.id q) es ≡ true
        → (e : TreeProcess) × (find (λ x. same_process x.id q) es ≡ Some e))
        → (e : TreeProcess) × ((if b then Some x else find (λ x. same_process x.id q) es) ≡ Some e)
    by_test true here rest = (x, refl)
    by_test false here rest = rest here

pub named_so : (es : List TreeProcess) (q : ProcessId) (e : TreeProcess)
    → find (λ x. same_process x.id q) es ≡ Some e
    → e.id ≡ q
named_so es q e h = is_one e.id q (passes (λ x. same_process x.id q) es e h)

-- Each process once.

-- how many entries pass
unfoldable pub how_many : (TreeProcess → Bool) → List TreeProcess → ℕ
how_many p [] = 0
how_many p (x ∷ es) = if p x then 1 + how_many p es else how_many p es

pub counted : (p : TreeProcess → Bool) (es : List TreeProcess) → how_many p es ≡ count_by p es
unfolding how_many
counted p es = is_count_by (how_many p) p refl (λ x xs. refl) es

pub times_both : (p : TreeProcess → Bool) (fs es : List TreeProcess)
    → how_many p (fs ++ es) ≡ how_many p fs + how_many p es
unfolding how_many
times_both p [] es = omega arith
times_both p (x ∷ fs) es = by_test (p x) (how_many p (fs ++ es)) (how_many p fs)
    (how_many p es) (times_both p fs es)
  where
    by_test : (b : Bool) (m n k : ℕ) → m ≡ n + k → (if b then 1 + m else m) ≡ (if b then 1 + n else n) + k
    by_test true m n k h = omega (arith, h)
    by_test false m n k h = h

found_past : (fs es : List TreeProcess) (e : TreeProcess) → how_many (λ x. same_process x.id e.id) fs ≡ 0
    → find (λ x. same_process x.id e.id) (fs ++ e ∷ es) ≡ Some e
unfolding how_many
found_past [] es e h =
    ap (λ b. if b then Some e else find (λ x. same_process x.id e.id) es) (itself e.id)
found_past (x ∷ fs) es e h =
    by_test (same_process x.id e.id) (how_many (λ x. same_process x.id e.id) fs) h (found_past fs es e)
  where
    by_test : (b : Bool) (n : ℕ) → (if b then 1 + n else n) ≡ 0
        → (n ≡ 0 → find (λ x. same_process x.id e.id) (fs ++ e ∷ es) ≡ Some e)
        → (if b then Some x else find (λ x. same_process x.id e.id) (fs ++ e ∷ es)) ≡ Some e
    by_test true n z rest = absurd (omega (arith, z))
    by_test false n z rest = rest z

pub no_more : (a b m n : ℕ) → nat_lt 1 n ≡ false → n ≡ a + m → m ≡ 1 + b → a ≡ 0
no_more a b m n few sum one = grind (arith, nat_tests)

pub here_once : (e : TreeProcess) (es : List TreeProcess)
    → how_many (λ x. same_process x.id e.id) (e ∷ es) ≡ 1 + how_many (λ x. same_process x.id e.id) es
unfolding how_many
here_once e es =
    ap (λ b. if b then 1 + how_many (λ x. same_process x.id e.id) es else how_many
    (λ x. same_process x.id e.id) es)
    (itself e.id)

once_from : (fs es : List TreeProcess) → list_any (λ e. nat_lt 1 (times_listed (fs ++ es) e.id)) es ≡ false
    → Each (IsFound (fs ++ es)) es
unfolding Each times_listed
once_from fs [] h = tt
once_from fs (e ∷ es) h = (
  found_past fs es e
      (no_more (how_many (λ x. same_process x.id e.id) fs) (how_many (λ x. same_process x.id e.id) es) _ _
      (ap (nat_lt 1) (counted (λ x. same_process x.id e.id) (fs ++ e ∷ es)) ∙ first_false _ _ h)
      (times_both (λ x. same_process x.id e.id) fs (e ∷ es)) (here_once e es)),
  subst (λ tree. Each (IsFound tree) es) (append_assoc fs (e ∷ []) es)
      (once_from (fs ++ e ∷ []) es
      (subst (λ tree. list_any (λ x. nat_lt 1 (times_listed tree x.id)) es ≡ false)
      (sym (append_assoc fs (e ∷ []) es))
      (second_false _ _ h))),
)

-- each entry of a tree is the one that has its name
pub each_found : (tree : List TreeProcess) → IsTree tree → Each (IsFound tree) tree
unfolding lists_twice
each_found tree t = once_from [] tree t.listed_once

-- Parents.

listed_not : (b : Bool) → not b ≡ false → b ≡ true
listed_not true h = refl
listed_not false h = absurd (true_not_false h)

-- the parent of an entry is listed
pub parent_listed : (tree : List TreeProcess) → IsTree tree → (q p : ProcessId) (e : TreeProcess)
    → find (λ x. same_process x.id q) tree ≡ Some e → e.parent ≡ Some p → is_listed tree p ≡ true
unfolding has_unknown_parent
parent_listed tree t q p e found is =
    listed_not (is_listed tree p)
    (sym (ap (is_unlisted tree) is)
    ∙ not_found (λ x. is_unlisted tree x.parent) (λ x. same_process x.id q) tree e t.parents_listed found)

-- The top.

has_parent : (o : Option ProcessId) → is_none o ≡ false → (p : ProcessId) × (o ≡ Some p)
has_parent None h = absurd (true_not_false h)
has_parent (Some p) h = (p, refl)

no_parent : (o : Option ProcessId) → is_none o ≡ true → o ≡ None
no_parent None h = refl
no_parent (Some p) h = absurd (true_not_false (sym h))

none_passes : (g : TreeProcess → Bool) (es : List TreeProcess) → find g es ≡ None → list_any g es ≡ false
none_passes g [] h = refl
none_passes g (x ∷ es) h = by_test (g x) h (none_passes g es)
  where
    by_test : (b : Bool) → (if b then Some x else find g es) ≡ None
        → (find g es ≡ None → list_any g es ≡ false)
        → (b || list_any g es) ≡ false
    by_test true here rest = absurd (cc)
    by_test false here rest = rest here

module _ (tree : List TreeProcess) (t : IsTree tree) where
  -- if no process is on top, no climb ends
  never_ends : list_any is_top tree ≡ false → (k : ℕ) (q : ProcessId) → is_listed tree q ≡ true
      → level_within k tree q ≡ None
  unfolding parent_of
  never_ends none zero q listed = refl
  never_ends none (suc k) q listed =
      let found = listed_entry tree q listed in
      let up = has_parent found.0.parent (not_found is_top (λ x. same_process x.id q)
      tree found.0 none found.1) in
      ap (λ o. levels_above (level_within k tree) (entry_parent o)) found.1
      ∙ ap (levels_above (level_within k tree)) up.1
      ∙ ap one_more (never_ends none k up.0 (parent_listed tree t q up.0 found.0 found.1 up.1))

  one_listed : (es : List TreeProcess) → (length es == 0) ≡ false → (q : ProcessId) × (is_listed es q ≡ true)
  unfolding is_listed
  one_listed [] h = absurd (cc)
  one_listed (e ∷ es) h =
      (e.id, ap (λ b. b || list_any (λ x. same_process x.id e.id) es) (itself e.id))

  is_on_top : (k : Kind) (o : Option ProcessId) → o ≡ None → role_by k o ≡ AtRoot
  is_on_top Coordinator None h = refl
  is_on_top Manager None h = refl
  is_on_top k (Some p) h = absurd (cc)

  -- the root is listed, and on top
  pub root_on_top : (is_listed tree (root_of tree) ≡ true) × (role_of tree (root_of tree) ≡ AtRoot)
  unfolding root_of
  root_on_top = by_find (find is_top tree) refl
    where
      by_find : (o : Option TreeProcess) → find is_top tree ≡ o
          → (is_listed tree (entry_id o) ≡ true) × (role_of tree (entry_id o) ≡ AtRoot)
      by_find None is =
          let some = one_listed tree t.not_empty in
          absurd (true_not_false
          (sym (ap is_none (never_ends (none_passes is_top tree is) (length tree) some.0 some.1))
          ∙ climbs tree t some.0 some.1))
      by_find (Some e) is =
          let found = found_of (IsFound tree) is_top tree e (each_found tree t) is in (
            listed_if tree e.id e found,
            role_if tree e.id e found ∙ is_on_top e.kind e.parent
                (no_parent e.parent (passes is_top tree e is)),
          )
