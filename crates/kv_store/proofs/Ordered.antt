-- Pairs of keys that do not fall.
use Rattle.std.proofs.Common.{◌≡◌, ◌∙◌, ℕ, Bool, true, false, not, ◌&&◌, ◌||◌, cond, Option, None, Some, List, [], ◌∷◌, ◌++◌, refl, sym, ap, subst}
use Rattle.std.proofs.lemmas.List.{append_assoc}
use Rattle.std.specs.List.{list_any}
use Rattle.protocol.specs.Records.{same_bytes}
use Rattle.protocol.specs.Store.{key_below}
use Rattle.kv_store.specs.Versions.{VersionTable, value_at}
use Rattle.kv_store.proofs.Order.{below_both, below_either, same_is}
use Rattle.kv_store.specs.Pairs.{found_in, is_behind, is_next, keys_rise, pair_if, pairs_at}

abbrev Keys : Type 0
Keys = List (List ℕ)

both : (a b : Bool) → (a && b) ≡ true → (a ≡ true) × (b ≡ true)
both true true h = (refl, refl)
both true false h = absurd (cc)
both false b h = absurd (cc)

pub joined : (a b : Bool) → a ≡ true → b ≡ true → (a && b) ≡ true
joined true true h k = refl
joined true false h k = absurd (cc)
joined false b h k = absurd (cc)

was_not : (b : Bool) → not b ≡ true → b ≡ false
was_not true h = absurd (cc)
was_not false h = refl

-- the first of these keys does not come before this one
abbrev pub goes_on : List ℕ → Keys → Bool
goes_on k [] = true
goes_on k (l ∷ ls) = not (key_below l k)

-- no key comes before the one in front of it
unfoldable pub keys_stay : Keys → Bool
keys_stay [] = true
keys_stay (k ∷ ks) = goes_on k ks && keys_stay ks

-- this key comes before the first of these
abbrev leads : List ℕ → Keys → Bool
leads j [] = true
leads j (k ∷ ks) = key_below j k

-- a key is before the next one, unless it is the same
leads_next : (k : List ℕ) (ks : Keys) → goes_on k ks ≡ true → is_next k ks ≡ false → leads k ks ≡ true
leads_next k [] on other = refl
leads_next k (l ∷ ls) on other = below_either l k other (was_not (key_below l k) on)

leads_on : (j k : List ℕ) (ks : Keys) → key_below j k ≡ true → leads k ks ≡ true → leads j ks ≡ true
leads_on j k [] h on = refl
leads_on j k (l ∷ ls) h on = below_both j k l h on

leads_same : (j k : List ℕ) (ks : Keys) → key_below j k ≡ true → is_next k ks ≡ true → leads j ks ≡ true
leads_same j k [] h same = refl
leads_same j k (l ∷ ls) h same = subst (λ i. key_below j i ≡ true) (sym (same_is l k same)) h

behind_pairs : (s : VersionTable) (j : List ℕ) (ks : Keys) → keys_stay ks ≡ true → leads j ks ≡ true
    → is_behind j (pairs_at s ks) ≡ true
unfolding pairs_at keys_stay
behind_pairs s j [] stay h = refl
behind_pairs s j (k ∷ ks) stay h =
    let parts = both (goes_on k ks) (keys_stay ks) stay in
    by_next (is_next k ks) refl (value_at s s.count k) parts.0 (behind_pairs s j ks parts.1)
  where
    by_next : (b : Bool) → is_next k ks ≡ b → (v : Option (List ℕ)) → goes_on k ks ≡ true
        → (leads j ks ≡ true → is_behind j (pairs_at s ks) ≡ true)
        → is_behind j (cond b [] (pair_if k v) ++ pairs_at s ks) ≡ true
    by_next true e v on rest = rest (leads_same j k ks h e)
    by_next false e None on rest = rest (leads_on j k ks h (leads_next k ks on e))
    by_next false e (Some v) on rest = h

-- the keys of the pairs rise
pub pairs_rise : (s : VersionTable) (ks : Keys) → keys_stay ks ≡ true → keys_rise (pairs_at s ks) ≡ true
unfolding pairs_at keys_stay keys_rise
pairs_rise s [] stay = refl
pairs_rise s (k ∷ ks) stay =
    let parts = both (goes_on k ks) (keys_stay ks) stay in
    by_next (is_next k ks) refl (value_at s s.count k) parts.0 parts.1 (pairs_rise s ks parts.1)
  where
    by_next : (b : Bool) → is_next k ks ≡ b → (v : Option (List ℕ))
        → goes_on k ks ≡ true → keys_stay ks ≡ true
        → keys_rise (pairs_at s ks) ≡ true → keys_rise (cond b [] (pair_if k v) ++ pairs_at s ks) ≡ true
    by_next true e v on stays rest = rest
    by_next false e None on stays rest = rest
    by_next false e (Some v) on stays rest =
        joined (is_behind k (pairs_at s ks)) (keys_rise (pairs_at s ks))
        (behind_pairs s k ks stays (leads_next k ks on e)) rest

-- a key without a value has none among the pairs
pub none_at : (s : VersionTable) (ks : Keys) (j : List ℕ) → value_at s s.count j ≡ None
    → found_in (pairs_at s ks) j ≡ None
unfolding pairs_at
none_at s [] j h = refl
none_at s (k ∷ ks) j h = by_next (is_next k ks) (value_at s s.count k) refl (none_at s ks j h)
  where
    other : (v : List ℕ) → value_at s s.count k ≡ Some v → (b : Bool) → same_bytes j k ≡ b → b ≡ false
    other v e false same = refl
    other v e true same =
        let clash : Some v ≡ None = sym e ∙ ap (value_at s s.count) (sym (same_is j k same)) ∙ h in
        absurd (cc)

    by_next : (b : Bool) (v : Option (List ℕ)) → value_at s s.count k ≡ v → found_in (pairs_at s ks) j ≡ None
        → found_in (cond b [] (pair_if k v) ++ pairs_at s ks) j ≡ None
    by_next true v e rest = rest
    by_next false None e rest = rest
    by_next false (Some v) e rest =
        ap (λ b. cond b (Some v) (found_in (pairs_at s ks) j)) (other v e (same_bytes j k) refl) ∙ rest

-- a key of these has its value among the pairs
pub found_at : (s : VersionTable) (ks : Keys) (j : List ℕ) → list_any (same_bytes j) ks ≡ true
    → found_in (pairs_at s ks) j ≡ value_at s s.count j
unfolding pairs_at
found_at s [] j h = absurd (cc)
found_at s (k ∷ ks) j h = by_same (same_bytes j k) refl (found_at s ks j)
  where
    goal_of : Bool → Option (List ℕ) → Type 0
    goal_of b v = found_in (cond b [] (pair_if k v) ++ pairs_at s ks) j ≡ value_at s s.count j

    elsewhere : same_bytes j k ≡ false → list_any (same_bytes j) ks ≡ true
    elsewhere e = ap (λ b. b || list_any (same_bytes j) ks) (sym e) ∙ h

    next_is : (ls : Keys) → is_next k ls ≡ true → same_bytes j k ≡ true → list_any (same_bytes j) ls ≡ true
    next_is [] e same = absurd (cc)
    next_is (l ∷ ls) e same = ap (λ b. b || list_any (same_bytes j) ls)
        (ap (same_bytes j) (same_is l k e) ∙ same)

    by_own : same_bytes j k ≡ true → (b : Bool) → is_next k ks ≡ b
        → (v : Option (List ℕ)) → value_at s s.count k ≡ v
        → (list_any (same_bytes j) ks ≡ true → found_in (pairs_at s ks) j
        ≡ value_at s s.count j) → goal_of b v
    by_own same true e v is rest = rest (next_is ks e same)
    by_own same false e None is rest =
        let none : value_at s s.count j ≡ None = ap (value_at s s.count) (same_is j k same) ∙ is in
        none_at s ks j none ∙ sym none
    by_own same false e (Some v) is rest =
        ap (λ b. cond b (Some v) (found_in (pairs_at s ks) j)) same
        ∙ sym (ap (value_at s s.count) (same_is j k same) ∙ is)

    by_other : same_bytes j k ≡ false → (b : Bool) (v : Option (List ℕ))
        → (list_any (same_bytes j) ks ≡ true → found_in (pairs_at s ks) j
        ≡ value_at s s.count j) → goal_of b v
    by_other other true v rest = rest (elsewhere other)
    by_other other false None rest = rest (elsewhere other)
    by_other other false (Some v) rest =
        ap (λ b. cond b (Some v) (found_in (pairs_at s ks) j)) other ∙ rest (elsewhere other)

    by_same : (b : Bool) → same_bytes j k ≡ b
        → (list_any (same_bytes j) ks ≡ true → found_in (pairs_at s ks) j ≡ value_at s s.count j)
        → goal_of (is_next k ks) (value_at s s.count k)
    by_same true e rest = by_own e (is_next k ks) refl (value_at s s.count k) refl rest
    by_same false e rest = by_other e (is_next k ks) (value_at s s.count k) rest

-- the pairs of one key more
pub pairs_on : (s : VersionTable) (done more now : List (List ℕ × List ℕ)) (k : List ℕ) (ks : Keys)
    → more ≡ cond (is_next k ks) [] (pair_if k (value_at s s.count k)) → now ≡ done ++ more
    → now ++ pairs_at s ks ≡ done ++ pairs_at s (k ∷ ks)
unfolding pairs_at
pairs_on s done more now k ks is grown =
    ap (λ ps. ps ++ pairs_at s ks) grown ∙ append_assoc done more (pairs_at s ks)
    ∙ ap (λ ps. done ++ (ps ++ pairs_at s ks)) is
