-- What writes leave of pairs whose keys rise.
use Rattle.std.proofs.Common.{◌≡◌, ℕ, Bool, true, false, ◌&&◌, cond, Option, None, Some, List, [], ◌∷◌, refl, sym, ap, ◌∙◌, subst, arith}
use Rattle.std.proofs.lemmas.Grind.{common_steps}
use Rattle.std.specs.Prelude.{unwrap_or}
use Rattle.protocol.specs.declared.records.Write.{Write}
use Rattle.protocol.specs.Records.{same_bytes}
use Rattle.protocol.specs.Store.{applied, key_below, set_key, with_pair, without_key}
use Rattle.kv_store.specs.Pairs.{WritesPairs, found_in, is_behind, keys_rise}
use Rattle.kv_store.specs.Versions.{written}
use Rattle.kv_store.proofs.Order.{below_both, below_either, below_itself, bytes_are_same, same_is, same_itself, same_other_way}

abbrev pub Pairs : Type 0
Pairs = List (List ℕ × List ℕ)

both : (a b : Bool) → (a && b) ≡ true → (a ≡ true) × (b ≡ true)
both true true h = (refl, refl)
both true false h = absurd (cc)
both false b h = absurd (cc)

joined : {a b : Bool} → a ≡ true → b ≡ true → (a && b) ≡ true
joined h k = grind (arith, common_steps)

-- a key before all others is not among them
behind_all : (k : List ℕ) (p : List ℕ × List ℕ) (ps : Pairs) → key_below k p.0 ≡ true
    → is_behind p.0 ps ≡ true → is_behind k ps ≡ true
behind_all k p [] h r = refl
behind_all k p (q ∷ ps) h r = below_both k p.0 q.0 h r

apart : (k j : List ℕ) → key_below k j ≡ true → same_bytes k j ≡ false
apart k j h = by_test (same_bytes k j) refl
  where
    by_test : (b : Bool) → same_bytes k j ≡ b → b ≡ false
    by_test false e = refl
    by_test true e =
        let itself : key_below k k ≡ true = subst (λ i. key_below k i ≡ true) (sym (same_is k j e)) h in
        let never : key_below k k ≡ false = below_itself k in
        absurd (cc)

pub not_among : (k : List ℕ) (ps : Pairs) → is_behind k ps ≡ true → keys_rise ps ≡ true → found_in ps k ≡ None
unfolding keys_rise
not_among k [] behind rise = refl
not_among k (p ∷ ps) behind rise =
    let parts = both (is_behind p.0 ps) (keys_rise ps) rise in
    ap (λ b. cond b (Some p.1) (found_in ps k)) (apart k p.0 behind)
    ∙ not_among k ps (behind_all k p ps behind parts.0) parts.1

-- A pair is put in.

behind_with : (j k v : List ℕ) (ps : Pairs) → is_behind j ps ≡ true → key_below j k ≡ true
    → is_behind j (with_pair k v ps) ≡ true
unfolding with_pair
behind_with j k v [] behind before = before
behind_with j k v (p ∷ ps) behind before = by_tests (same_bytes k p.0) (key_below k p.0)
  where
    by_tests : (a b : Bool)
        → is_behind j (cond a ((k, v) ∷ ps) (cond b ((k, v) ∷ (p ∷ ps)) (p ∷ with_pair k v ps))) ≡ true
    by_tests true b = before
    by_tests false true = before
    by_tests false false = behind

rise_with : (k v : List ℕ) (ps : Pairs) → keys_rise ps ≡ true → keys_rise (with_pair k v ps) ≡ true
unfolding with_pair keys_rise
rise_with k v [] rise = refl
rise_with k v (p ∷ ps) rise =
    by_tests (same_bytes k p.0) (key_below k p.0) refl refl
    (rise_with k v ps (both (is_behind p.0 ps) (keys_rise ps) rise).1)
  where
    by_tests : (a b : Bool) → same_bytes k p.0 ≡ a → key_below k p.0 ≡ b → keys_rise (with_pair k v ps) ≡ true
        → keys_rise (cond a ((k, v) ∷ ps) (cond b ((k, v) ∷ (p ∷ ps)) (p ∷ with_pair k v ps))) ≡ true
    by_tests true b e f rest = subst (λ j. (is_behind j ps && keys_rise ps) ≡ true)
        (sym (same_is k p.0 e)) rise
    by_tests false true e f rest = joined f rise
    by_tests false false e f rest = joined (behind_with p.0 k v ps
        (both (is_behind p.0 ps) (keys_rise ps) rise).0 (below_either k p.0 e f)) rest

found_with : (k v : List ℕ) (ps : Pairs) (l : List ℕ)
    → found_in (with_pair k v ps) l ≡ cond (same_bytes l k) (Some v) (found_in ps l)
unfolding with_pair
found_with k v [] l = refl
found_with k v (p ∷ ps) l = by_tests (same_bytes k p.0) (key_below k p.0) refl (found_with k v ps l)
  where
    by_tests : (a b : Bool) → same_bytes k p.0 ≡ a
        → found_in (with_pair k v ps) l ≡ cond (same_bytes l k) (Some v) (found_in ps l)
        → found_in (cond a ((k, v) ∷ ps) (cond b ((k, v) ∷ (p ∷ ps)) (p ∷ with_pair k v ps))) l
        ≡ cond (same_bytes l k) (Some v) (cond (same_bytes l p.0) (Some p.1) (found_in ps l))
    by_tests true b e rest = by_own (same_bytes l k) refl
      where
        by_own : (c : Bool) → same_bytes l k ≡ c
            → cond c (Some v) (found_in ps l)
            ≡ cond c (Some v) (cond (same_bytes l p.0) (Some p.1) (found_in ps l))
        by_own true f = refl
        by_own false f = ap (λ c. cond c (Some p.1) (found_in ps l))
            (sym (ap (same_bytes l) (sym (same_is k p.0 e)) ∙ f))
    by_tests false true e rest = refl
    by_tests false false e rest = by_own (same_bytes l p.0) refl
      where
        by_own : (c : Bool) → same_bytes l p.0 ≡ c
            → cond c (Some p.1) (found_in (with_pair k v ps) l)
            ≡ cond (same_bytes l k) (Some v) (cond c (Some p.1) (found_in ps l))
        by_own true f =
            let other : same_bytes l k ≡ false = ap (λ j. same_bytes j k) (same_is l p.0 f)
            ∙ same_other_way p.0 k ∙ e in
            ap (λ c. cond c (Some v) (Some p.1)) (sym other)
        by_own false f = rest

-- A key is taken out.

behind_without : (j k : List ℕ) (ps : Pairs) → is_behind j ps ≡ true → keys_rise ps ≡ true
    → is_behind j (without_key k ps) ≡ true
unfolding without_key keys_rise
behind_without j k [] behind rise = refl
behind_without j k (p ∷ ps) behind rise = by_test (same_bytes k p.0)
  where
    by_test : (a : Bool) → is_behind j (cond a ps (p ∷ without_key k ps)) ≡ true
    by_test true = behind_all j p ps behind (both (is_behind p.0 ps) (keys_rise ps) rise).0
    by_test false = behind

rise_without : (k : List ℕ) (ps : Pairs) → keys_rise ps ≡ true → keys_rise (without_key k ps) ≡ true
unfolding without_key keys_rise
rise_without k [] rise = refl
rise_without k (p ∷ ps) rise =
    let parts = both (is_behind p.0 ps) (keys_rise ps) rise in
    by_test (same_bytes k p.0) parts.1 (behind_without p.0 k ps parts.0 parts.1) (rise_without k ps parts.1)
  where
    by_test : (a : Bool) → keys_rise ps ≡ true → is_behind p.0 (without_key k ps) ≡ true
        → keys_rise (without_key k ps) ≡ true
        → keys_rise (cond a ps (p ∷ without_key k ps)) ≡ true
    by_test true after behind rest = after
    by_test false after behind rest = joined behind rest

none_either : {A : Type 0} (c : Bool) → ◌≡◌ {A = Option A} None (cond c None None)
none_either true = refl
none_either false = refl

found_without : (k : List ℕ) (ps : Pairs) (l : List ℕ) → keys_rise ps ≡ true
    → found_in (without_key k ps) l ≡ cond (same_bytes l k) None (found_in ps l)
unfolding without_key keys_rise
found_without k [] l rise = none_either (same_bytes l k)
found_without k (p ∷ ps) l rise =
    let parts = both (is_behind p.0 ps) (keys_rise ps) rise in
    by_test (same_bytes k p.0) refl (not_among p.0 ps parts.0 parts.1) (found_without k ps l parts.1)
  where
    by_test : (a : Bool) → same_bytes k p.0 ≡ a → found_in ps p.0 ≡ None
        → found_in (without_key k ps) l ≡ cond (same_bytes l k) None (found_in ps l)
        → found_in (cond a ps (p ∷ without_key k ps)) l
        ≡ cond (same_bytes l k) None (cond (same_bytes l p.0) (Some p.1) (found_in ps l))
    by_test true e none rest = by_own (same_bytes l k) refl
      where
        by_own : (c : Bool) → same_bytes l k ≡ c
            → found_in ps l ≡ cond c None (cond (same_bytes l p.0) (Some p.1) (found_in ps l))
        by_own true f = ap (found_in ps) (same_is l k f ∙ same_is k p.0 e) ∙ none
        by_own false f = ap (λ c. cond c (Some p.1) (found_in ps l))
            (sym (ap (same_bytes l) (sym (same_is k p.0 e)) ∙ f))
    by_test false e none rest = by_own (same_bytes l p.0) refl
      where
        by_own : (c : Bool) → same_bytes l p.0 ≡ c
            → cond c (Some p.1) (found_in (without_key k ps) l)
            ≡ cond (same_bytes l k) None (cond c (Some p.1) (found_in ps l))
        by_own true f =
            let other : same_bytes l k ≡ false = ap (λ j. same_bytes j k) (same_is l p.0 f)
            ∙ same_other_way p.0 k ∙ e in
            ap (λ c. cond c None (Some p.1)) (sym other)
        by_own false f = rest

-- Writes.

rise_set : (k : List ℕ) (v : Option (List ℕ)) (ps : Pairs) → keys_rise ps ≡ true
    → keys_rise (set_key k v ps) ≡ true
rise_set k (Some v) ps rise = rise_with k v ps rise
rise_set k None ps rise = rise_without k ps rise

found_set : (k : List ℕ) (v : Option (List ℕ)) (ps : Pairs) (l : List ℕ) → keys_rise ps ≡ true
    → found_in (set_key k v ps) l ≡ cond (same_bytes l k) v (found_in ps l)
found_set k (Some v) ps l rise = found_with k v ps l
found_set k None ps l rise = found_without k ps l rise

pub writes_pairs : (ps : Pairs) (ws : List Write) → keys_rise ps ≡ true → WritesPairs ps ws
unfolding applied written
writes_pairs ps [] rise = record { rise = rise; values = λ k. refl }
writes_pairs ps (w ∷ ws) rise =
    let rest : WritesPairs (set_key w.key w.value ps) ws =
    writes_pairs (set_key w.key w.value ps) ws (rise_set w.key w.value ps rise) in
    record {
      rise = rest.rise;
      values = λ k. rest.values k ∙ ap (written ws k) (found_set w.key w.value ps k rise
          ∙ ap (λ c. cond c w.value (found_in ps k)) (same_other_way k w.key ∙ sym (bytes_are_same w.key k)));
    }

-- The same values are the same pairs.

some_is : {A : Type 0} (a b : A) → Some a ≡ Some b → a ≡ b
some_is {A} a b h = ap (λ o. unwrap_or o a) h

found_here : (p : List ℕ × List ℕ) (ps : Pairs) → found_in (p ∷ ps) p.0 ≡ Some p.1
found_here p ps = ap (λ c. cond c (Some p.1) (found_in ps p.0)) (same_itself p.0)

some_none : {A : Type 0} (a : A) → Some a ≡ None → ⊥
some_none a h = absurd (cc)

first_is_one : (p q : List ℕ × List ℕ) (ps qs : Pairs) → keys_rise (p ∷ ps) ≡ true → keys_rise (q ∷ qs) ≡ true
    → ((k : List ℕ) → found_in (p ∷ ps) k ≡ found_in (q ∷ qs) k) → same_bytes p.0 q.0 ≡ true
first_is_one p q ps qs rise rise' same = by_tests (same_bytes p.0 q.0) (key_below p.0 q.0) refl refl
  where
    by_tests : (a b : Bool) → same_bytes p.0 q.0 ≡ a → key_below p.0 q.0 ≡ b → a ≡ true
    by_tests true b e f = refl
    by_tests false true e f =
        absurd (some_none p.1 (sym (found_here p ps) ∙ same p.0 ∙ not_among p.0 (q ∷ qs) f rise'))
    by_tests false false e f =
        absurd (some_none q.1 (sym (found_here q qs) ∙ sym (same q.0)
        ∙ not_among q.0 (p ∷ ps) (below_either p.0 q.0 e f) rise))

found_behind : (p q : List ℕ × List ℕ) (ps qs : Pairs) (k : List ℕ) → p.0 ≡ q.0 → is_behind p.0 ps ≡ true
    → keys_rise ps ≡ true
    → is_behind q.0 qs ≡ true → keys_rise qs ≡ true → found_in (p ∷ ps) k ≡ found_in (q ∷ qs) k
    → (c : Bool) → same_bytes k p.0 ≡ c → found_in ps k ≡ found_in qs k
found_behind p q ps qs k key behind rise behind' rise' same true e =
    let here : k ≡ p.0 = same_is k p.0 e in
    ap (found_in ps) here ∙ not_among p.0 ps behind rise ∙ sym (not_among q.0 qs behind' rise')
    ∙ ap (found_in qs) (sym (here ∙ key))
found_behind p q ps qs k key behind rise behind' rise' same false e =
    sym (ap (λ c. cond c (Some p.1) (found_in ps k)) e) ∙ same
    ∙ ap (λ c. cond c (Some q.1) (found_in qs k)) (ap (same_bytes k) (sym key) ∙ e)

pub same_pairs : (ps qs : Pairs) → keys_rise ps ≡ true → keys_rise qs ≡ true
    → ((k : List ℕ) → found_in ps k ≡ found_in qs k) → ps ≡ qs
unfolding keys_rise
same_pairs [] [] rise rise' same = refl
same_pairs [] (q ∷ qs) rise rise' same = absurd (some_none q.1 (sym (found_here q qs) ∙ sym (same q.0)))
same_pairs (p ∷ ps) [] rise rise' same = absurd (some_none p.1 (sym (found_here p ps) ∙ same p.0))
same_pairs (p ∷ ps) (q ∷ qs) rise rise' same =
    let parts = both (is_behind p.0 ps) (keys_rise ps) rise in
    let parts' = both (is_behind q.0 qs) (keys_rise qs) rise' in
    let one : same_bytes p.0 q.0 ≡ true = first_is_one p q ps qs rise rise' same in
    let key : p.0 ≡ q.0 = same_is p.0 q.0 one in
    let value : p.1 ≡ q.1 = some_is p.1 q.1
    (sym (found_here p ps) ∙ same p.0 ∙ ap (found_in (q ∷ qs)) key ∙ found_here q qs) in
    let rest : (k : List ℕ) → found_in ps k ≡ found_in qs k =
    λ k. found_behind p q ps qs k key parts.0 parts.1 parts'.0 parts'.1 (same k) (same_bytes k p.0) refl in
    let tails : ps ≡ qs = same_pairs ps qs parts.1 parts'.1 rest in
    λ i. (key i, value i) ∷ tails i
