-- The name of a process that is not among those of a tree.
use Rattle.std.proofs.Common.{◌≡◌, ◌∙◌, ◌+◌, ◌<◌, ap, refl, ℕ, Bool, true, false, ◌||◌, inl, inr, List, [], ◌∷◌, ◌++◌, length, get_or, take}
use Rattle.std.proofs.lemmas.List.{take_more}
use Rattle.protocol.specs.declared.names.ProcessId.{ProcessId}
use Rattle.protocol.specs.declared.trees.TreeProcess.{TreeProcess}
use Rattle.protocol.specs.Names.{same_process}
use Rattle.protocol.specs.NameLaws.{same_process_tells}
use Rattle.protocol.specs.Nodes.{is_listed}

or_false : (b c : Bool) → (b || c) ≡ false → (b ≡ false) × (c ≡ false)
or_false true c h = absurd (cc)
or_false false c h = (refl, h)

pub not_true : false ≡ true → ⊥
not_true h = cc

pub none_listed : (q : ProcessId) → is_listed [] q ≡ false
unfolding is_listed
none_listed q = refl

unlisted_last : (es : List TreeProcess) (e : TreeProcess) (q : ProcessId) → is_listed es q ≡ false
    → same_process e.id q ≡ false → is_listed (es ++ e ∷ []) q ≡ false
unfolding is_listed
unlisted_last [] e q none other = ap (λ b. b || false) other
unlisted_last (x ∷ es) e q none other =
    let both = or_false (same_process x.id q) (is_listed es q) none in
    ap (λ b. b || is_listed (es ++ e ∷ []) q) both.0 ∙ unlisted_last es e q both.1 other

-- one that is not the next either
pub unlisted_next : (es : List TreeProcess) (i : ℕ) (e : TreeProcess) (q : ProcessId) → i < length es
    → e ≡ get_or es i e → (e.id ≡ q → ⊥) → is_listed (take i es) q ≡ false
    → is_listed (take (i + 1) es) q ≡ false
unlisted_next es i e q lt is other none =
    rw (take_more es i e lt, ← is) (unlisted_last (take i es) e q none not_it)
  where
    not_it : same_process e.id q ≡ false
    not_it = elim (same_process_tells e.id q) [
      | inl t ↦ absurd (other t.1)
      | inr z ↦ z.0
    ]
