-- The process at the top of a tree is the one that has no parent.
use Rattle.std.proofs.Common.{◌≡◌, ◌≤◌, ◌+◌, ℕ, Bool, true, false, ◌||◌, if◌then◌else◌, Option, Some, None, List, [], ◌∷◌, find, refl, sym, inl, inr, ◌∙◌, cond, arith}
use Rattle.std.proofs.lemmas.Grind.{common_steps}
use Rattle.std.proofs.lemmas.List.Sums.{sum_by-cons}
use Rattle.std.specs.List.{list_any}
use Rattle.std.specs.Prelude.{count_by, nat_lt}
use Rattle.protocol.specs.declared.names.Kind.{Kind}
use Rattle.protocol.specs.declared.names.Kind.TheVariants.{Coordinator, Manager}
use Rattle.protocol.specs.declared.names.ProcessId.{ProcessId}
use Rattle.protocol.specs.declared.trees.TreeProcess.{TreeProcess}
use Rattle.protocol.specs.NameLaws.{same_process_tells}
use Rattle.protocol.specs.Names.{same_process}
use Rattle.protocol.specs.Nodes.{AtRoot, is_listed, role_by, role_of}
use Rattle.protocol.specs.Trees.{IsTree, entry_id, has_wrong_roots, is_top, root_of}
use Rattle.proof_processes.proofs.Tests.{first_false}

process_is : (a b : ProcessId) → same_process a b ≡ true → a ≡ b
process_is a b e = elim (same_process_tells a b) [ inl t ↦ t.1 | inr f ↦ absurd (let g = f.0 in cc) ]

-- an entry at the root has no parent
on_top : (k : Kind) (o : Option ProcessId) → role_by k o ≡ AtRoot → o ≡ None
on_top k None e = refl
on_top Coordinator (Some p) e = absurd (cc)
on_top Manager (Some p) e = absurd (cc)

is_on_top : (x : TreeProcess) → x.parent ≡ None → is_top x ≡ true
is_on_top x e = rw e refl

one_more : (x : TreeProcess) (xs : List TreeProcess)
    → count_by is_top (x ∷ xs) ≡ cond (is_top x) 1 0 + count_by is_top xs
one_more x xs = sum_by-cons (λ y. cond (is_top y) 1 0) x xs

counted : (b : Bool) (m k : ℕ) → m ≡ cond b 1 0 + k → b ≡ true → 1 ≤ m
counted true m k e f = omega (arith, e)
counted false m k e f = absurd (cc)

counts_more : (b : Bool) (m k : ℕ) → m ≡ cond b 1 0 + k → 1 ≤ k → 1 ≤ m
counts_more true m k e f = omega (arith, e, f)
counts_more false m k e f = omega (arith, e, f)

two_counted : {A : Type 0} (b : Bool) (m k : ℕ) → m ≡ cond b 1 0 + k → b ≡ true → 1 ≤ k → m ≤ 1 → A
two_counted true m k e f g h = absurd (omega (arith, e, g, h))
two_counted false m k e f g h = absurd (cc)

still_few : (b : Bool) (m k : ℕ) → m ≡ cond b 1 0 + k → m ≤ 1 → k ≤ 1
still_few true m k e f = omega (arith, e, f)
still_few false m k e f = omega (arith, e, f)

-- a listed process without a parent is counted among those
top_counted : (xs : List TreeProcess) (q : ProcessId) → is_listed xs q ≡ true → role_of xs q ≡ AtRoot
    → 1 ≤ count_by is_top xs
unfolding is_listed role_of
top_counted [] q listed role = absurd (cc)
top_counted (x ∷ xs) q listed role = by_test (same_process x.id q) refl listed role (top_counted xs q)
  where
    by_test : (b : Bool) → same_process x.id q ≡ b → (b || list_any (λ e. same_process e.id q) xs) ≡ true
        → (if b then role_by x.kind x.parent else role_of xs q) ≡ AtRoot
        → (list_any (λ e. same_process e.id q) xs ≡ true → role_of xs q ≡ AtRoot → 1 ≤ count_by is_top xs)
        → 1 ≤ count_by is_top (x ∷ xs)
    by_test true is listed role more =
        counted (is_top x) _ (count_by is_top xs) (one_more x xs) (is_on_top x (on_top x.kind x.parent role))
    by_test false is listed role more = counts_more (is_top x) _ (count_by is_top xs)
        (one_more x xs) (more listed role)

-- if there is one at most, it is the first
first_top : (xs : List TreeProcess) (q : ProcessId) → is_listed xs q ≡ true → role_of xs q ≡ AtRoot
    → count_by is_top xs ≤ 1 → entry_id (find is_top xs) ≡ q
unfolding is_listed role_of
first_top [] q listed role few = absurd (cc)
first_top (x ∷ xs) q listed role few =
    by_test (same_process x.id q) refl listed role (is_top x) refl (first_top xs q)
  where
    by_test : (b : Bool) → same_process x.id q ≡ b → (b || list_any (λ e. same_process e.id q) xs) ≡ true
        → (if b then role_by x.kind x.parent else role_of xs q) ≡ AtRoot → (t : Bool) → is_top x ≡ t
        → (list_any (λ e. same_process e.id q) xs ≡ true → role_of xs q ≡ AtRoot → count_by is_top xs ≤ 1
        → entry_id (find is_top xs) ≡ q)
        → entry_id (if t then Some x else find is_top xs) ≡ q
    by_test true is listed role true top more = process_is x.id q is
    by_test true is listed role false top more =
        absurd (let e = is_on_top x (on_top x.kind x.parent role) in let f = sym top ∙ e in cc)
    by_test false is listed role true top more =
        two_counted (is_top x) _ (count_by is_top xs) (one_more x xs) top (top_counted xs q listed role) few
    by_test false is listed role false top more =
        more listed role (still_few (is_top x) _ (count_by is_top xs) (one_more x xs) few)

few_if : (m : ℕ) → nat_lt 1 m ≡ false → m ≤ 1
few_if m e = grind (arith, common_steps)

pub top_is_root : (tree : List TreeProcess) → IsTree tree → (q : ProcessId) → is_listed tree q ≡ true
    → role_of tree q ≡ AtRoot → q ≡ root_of tree
unfolding root_of has_wrong_roots
top_is_root tree is q listed role =
    sym (first_top tree q listed role (few_if (count_by is_top tree)
    (first_false _ _ is.one_coordinator_on_top)))
