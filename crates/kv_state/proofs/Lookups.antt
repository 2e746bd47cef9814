-- What the map of branches says of one branch after a change of another.
use Rattle.std.proofs.Common.{rules, ◌≡◌, Bool, true, false, cond, List, [], ◌∷◌, Option, Some, None, refl, sym, ap, ◌∙◌}
use Rattle.std.proofs.lemmas.Map.{lookup-remove_entry}
use Rattle.std.specs.Cmp.{IsEquivalence}
use Rattle.std.specs.List.{AllByRecursion, IsDistinct}
use Rattle.std.specs.Map.{keys_of, lookup, remove_entry}
use Rattle.indexmap.specs.IndexMap.{insert_entry}
use Rattle.xa_xid.specs.declared.xid.Xid.{Xid}
use Rattle.log_rules.specs.declared.order.seen.Promise.{Promise}
use Rattle.log_rules.specs.order.Orders.{same}

pub same_is : (a b : Xid) → same a b ≡ true → a ≡ b
same_is a b h = search rules

pub same_itself : (a : Xid) → same a a ≡ true
same_itself a = search rules

pub true_is_false : {A : Type 0} → true ≡ false → A
true_is_false q = absurd (cc)

same_turns : (a b : Xid) → same a b ≡ same b a
same_turns a b = by_test (same a b) (same b a) refl refl
  where
    by_test : (s t : Bool) → same a b ≡ s → same b a ≡ t → same a b ≡ same b a
    by_test true t e f = ap (λ u. same u b) (same_is a b e) ∙ ap (same b) (sym (same_is a b e))
    by_test false true e f = ap (same a) (same_is b a f) ∙ ap (λ u. same u a) (sym (same_is b a f))
    by_test false false e f = e ∙ sym f

pub same_laws : IsEquivalence same
same_laws = record {
  refl = same_itself;
  symm = same_turns;
  congr = λ x y z h. ap (λ u. same u z) (same_is x y h);
}

pub apart_turns : (a b : Xid) → same a b ≡ false → same b a ≡ false
apart_turns a b h = by_test (same b a) refl
  where
    by_test : (t : Bool) → same b a ≡ t → t ≡ false
    by_test false e = refl
    by_test true e = true_is_false (sym (same_itself a) ∙ ap (same a) (sym (same_is b a e)) ∙ h)

abbrev pub Live : Type 0
Live = List (Xid × Promise)

-- an entry is put in

put_twice : (b : Bool) (v w o : Option Promise) → cond b v o ≡ cond b v (cond b w o)
put_twice true v w o = refl
put_twice false v w o = refl

put_in_turn : (a b : Bool) (v w o : Option Promise) → (a ≡ true → b ≡ true → ⊥)
    → cond b w (cond a v o) ≡ cond a v (cond b w o)
put_in_turn true true v w o h = absurd (h refl refl)
put_in_turn true false v w o h = refl
put_in_turn false true v w o h = refl
put_in_turn false false v w o h = refl

put_by : (x y : Xid) (p : Promise) (e : Xid × Promise) (es more : Live) (b : Bool) → same x e.0 ≡ b
    → lookup (same y) more ≡ cond (same y x) (Some p) (lookup (same y) es)
    → lookup (same y) (cond b ((e.0, p) ∷ es) (e ∷ more)) ≡ cond (same y x) (Some p)
    (lookup (same y) (e ∷ es))
put_by x y p e es more true s h =
    let is : e.0 ≡ x = sym (same_is x e.0 s) in
    ap (λ z. cond (same y z) (Some p) (lookup (same y) es)) is
    ∙ put_twice (same y x) (Some p) (Some e.1) (lookup (same y) es)
    ∙ ap (λ z. cond (same y x) (Some p) (cond (same y z) (Some e.1) (lookup (same y) es))) (sym is)
put_by x y p e es more false s h =
    ap (λ o. cond (same y e.0) (Some e.1) o) h
    ∙ put_in_turn (same y x) (same y e.0) (Some p) (Some e.1) (lookup (same y) es)
    (λ a c. true_is_false (sym (same_itself x) ∙ ap (same x) (sym (same_is y x a) ∙ same_is y e.0 c) ∙ s))

pub found_put : (x y : Xid) (p : Promise) (es : Live)
    → lookup (same y) (insert_entry same es x p) ≡ cond (same y x) (Some p) (lookup (same y) es)
found_put x y p [] = refl
found_put x y p (e ∷ es) = put_by x y p e es (insert_entry same es x p) (same x e.0) refl (found_put x y p es)

all_put : (P : Xid → Type 0) (x : Xid) (p : Promise) (es : Live) → P x → AllByRecursion P (keys_of es)
    → AllByRecursion P (keys_of (insert_entry same es x p))
all_put P x p [] own all = (own, tt)
all_put P x p (e ∷ es) own all = by_test (same x e.0) (all_put P x p es own all.1)
  where
    by_test : (b : Bool) → AllByRecursion P (keys_of (insert_entry same es x p))
        → AllByRecursion P (keys_of (cond b ((e.0, p) ∷ es) (e ∷ insert_entry same es x p)))
    by_test true h = all
    by_test false h = (all.0, h)

pub distinct_put : (x : Xid) (p : Promise) (es : Live) → IsDistinct same (keys_of es)
    → IsDistinct same (keys_of (insert_entry same es x p))
unfolding IsDistinct
distinct_put x p [] d = (tt, tt)
distinct_put x p (e ∷ es) d = by_test (same x e.0) refl (distinct_put x p es d.1)
  where
    by_test : (b : Bool) → same x e.0 ≡ b → IsDistinct same (keys_of (insert_entry same es x p))
        → IsDistinct same (keys_of (cond b ((e.0, p) ∷ es) (e ∷ insert_entry same es x p)))
    by_test true s h = d
    by_test false s h = (all_put (λ y. same e.0 y ≡ false) x p es (apart_turns x e.0 s) d.0, h)

-- an entry is taken out

pub found_out : (x y : Xid) (es : Live) → IsDistinct same (keys_of es)
    → lookup (same y) (remove_entry (same x) es) ≡ cond (same x y) None (lookup (same y) es)
found_out x y es d = lookup-remove_entry same_laws (same x)
    (λ a b h. ap (λ z. same z b) (same_is x a h)) y es d

all_out : (P : Xid → Type 0) (x : Xid) (es : Live) → AllByRecursion P (keys_of es)
    → AllByRecursion P (keys_of (remove_entry (same x) es))
all_out P x [] all = tt
all_out P x (e ∷ es) all = by_test (same x e.0) (all_out P x es all.1)
  where
    by_test : (b : Bool) → AllByRecursion P (keys_of (remove_entry (same x) es))
        → AllByRecursion P (keys_of (cond b es (e ∷ remove_entry (same x) es)))
    by_test true h = all.1
    by_test false h = (all.0, h)

pub distinct_out : (x : Xid) (es : Live) → IsDistinct same (keys_of es)
    → IsDistinct same (keys_of (remove_entry (same x) es))
unfolding IsDistinct
distinct_out x [] d = tt
distinct_out x (e ∷ es) d = by_test (same x e.0) (distinct_out x es d.1)
  where
    by_test : (b : Bool) → IsDistinct same (keys_of (remove_entry (same x) es))
        → IsDistinct same (keys_of (cond b es (e ∷ remove_entry (same x) es)))
    by_test true h = d.1
    by_test false h = (all_out (λ y. same e.0 y ≡ false) x es d.0, h)
