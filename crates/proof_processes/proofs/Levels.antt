-- Where the processes of a tree stand: a child's parent, and the climb to the root.
use Rattle.std.proofs.Common.{◌≡◌, inl, inr, ◌||◌, ℕ, zero, suc, Bool, true, false, Option, Some, None, is_none, List, [], ◌∷◌, length, find, refl, sym, ap, subst, arith, if◌then◌else◌}
use Rattle.std.specs.List.{list_any}
use Rattle.protocol.specs.declared.names.ProcessId.{ProcessId}
use Rattle.protocol.specs.declared.names.Kind.{Kind}
use Rattle.protocol.specs.declared.names.Kind.TheVariants.{Coordinator, Manager}
use Rattle.protocol.specs.declared.trees.TreeProcess.{TreeProcess}
use Rattle.protocol.specs.Names.{same_process}
use Rattle.protocol.specs.NameLaws.{same_process_tells}
use Rattle.protocol.specs.Nodes.{role_of, role_by, is_listed}
use Rattle.protocol.specs.Trees.{IsTree, parent_of, entry_parent, level_within, levels_above, one_more, has_cycle}
use Rattle.proof_processes.specs.WorldHolds.{IsChildRole}
use Rattle.proof_processes.proofs.Tests.{either}

-- A child's parent.

parent_by : (k : Kind) (o : Option ProcessId) (p : ProcessId) → IsChildRole (role_by k o) p → o ≡ Some p
parent_by Coordinator None p h = absurd (h)
parent_by Coordinator (Some q) p h = ap Some h
parent_by Manager None p h = absurd (h)
parent_by Manager (Some q) p h = ap Some h

pub parent_is : (tree : List TreeProcess) (q p : ProcessId) → IsChildRole (role_of tree q) p
    → parent_of tree q ≡ Some p
unfolding role_of parent_of
parent_is [] q p h = absurd (h)
parent_is (e ∷ es) q p h = by_id (same_process e.id q) (parent_is es q p) h
  where
    by_id : (b : Bool)
        → (IsChildRole (role_of es q) p → entry_parent (find (λ x. same_process x.id q) es) ≡ Some p)
        → IsChildRole (if b then role_by e.kind e.parent else role_of es q) p
        → entry_parent (if b then Some e else find (λ x. same_process x.id q) es) ≡ Some p
    by_id true rest h = parent_by e.kind e.parent p h
    by_id false rest h = rest h

-- The climb to the root ends.

not_any : (es : List TreeProcess) (f : ProcessId → Bool) (q : ProcessId) → list_any (λ e. f e.id) es ≡ false
    → is_listed es q ≡ true → f q ≡ false
unfolding is_listed
not_any [] f q e l = absurd (cc)
not_any (x ∷ xs) f q e l = elim (either (same_process x.id q) (list_any (λ y. same_process y.id q) xs) l) [
  | inl now ↦ subst (λ (p : ProcessId). f p
      ≡ false) (same x.id q now) (first_false (f x.id) (list_any (λ y. f y.id) xs) e)
  | inr rest ↦ not_any xs f q (second_false (f x.id) (list_any (λ y. f y.id) xs) e) rest
]
  where
    first_false : (a b : Bool) → (a || b) ≡ false → a ≡ false
    first_false a b e = grind arith

    second_false : (a b : Bool) → (a || b) ≡ false → b ≡ false
    second_false a b e = grind arith

    same : (a b : ProcessId) → same_process a b ≡ true → a ≡ b
    same a b e = elim (same_process_tells a b) [ inl t ↦ t.1 | inr g ↦ absurd (let k = g.0 in cc) ]

pub climbs : (tree : List TreeProcess) → IsTree tree → (q : ProcessId) → is_listed tree q ≡ true
    → is_none (level_within (length tree) tree q) ≡ false
unfolding has_cycle
climbs tree t q listed = not_any tree (λ p. is_none (level_within (length tree) tree p)) q t.climbs_end listed

-- one level less is enough for the parent
pub parent_climbs : (tree : List TreeProcess) (k : ℕ) (q p : ProcessId) → IsChildRole (role_of tree q) p
    → is_none (level_within (suc k) tree q) ≡ false → is_none (level_within k tree p) ≡ false
parent_climbs tree k q p h e =
    none_less (level_within k tree p)
    (subst (λ (o : Option ProcessId). is_none (levels_above (level_within k tree) o)
    ≡ false) (parent_is tree q p h) e)
  where
    none_less : (o : Option ℕ) → is_none (one_more o) ≡ false → is_none o ≡ false
    none_less None e = absurd (cc)
    none_less (Some n) e = refl

-- no process is its own parent
never_climbs : (tree : List TreeProcess) (q : ProcessId) → IsChildRole (role_of tree q) q → (k : ℕ)
    → is_none (level_within k tree q) ≡ false → {A : Type 0} → A
never_climbs tree q h zero e = absurd (cc)
never_climbs tree q h (suc k) e = never_climbs tree q h k (parent_climbs tree k q q h e)

pub parent_elsewhere : {A : Type 0} (tree : List TreeProcess) → IsTree tree → (q p : ProcessId)
    → is_listed tree q ≡ true
    → IsChildRole (role_of tree q) p → q ≡ p → A
parent_elsewhere tree t q p listed h same =
    never_climbs tree q (subst (λ (x : ProcessId). IsChildRole (role_of tree q) x) (sym same) h) (length tree)
    (climbs tree t q listed)

-- a tree has an entry
pub has_entry : (tree : List TreeProcess) (q : ProcessId) → is_listed tree q ≡ true
    → (k : ℕ) × (length tree ≡ suc k)
unfolding is_listed
has_entry [] q l = absurd (cc)
has_entry (e ∷ es) q l = (length es, refl)
