-- Data that are written as a base and its pairs are read as they were.
use Rattle.std.proofs.Common.{◌≡◌, ◌∙◌, ℕ, Bool, true, false, ◌&&◌, cond, List, [], ◌∷◌, ◌++◌, map, fold, refl, sym, ap}
use Rattle.std.proofs.lemmas.List.{append-nil, append_assoc}
use Rattle.std.specs.List.{AllByRecursion}
use Rattle.protocol.specs.declared.records.Record.TheVariants.{Base}
use Rattle.protocol.specs.Records.{same_bytes}
use Rattle.protocol.specs.Store.{Data, base_records, key_below, pair_record, stored_after, with_pair}
use Rattle.kv_store.specs.Pairs.{is_behind, keys_rise}
use Rattle.kv_store.proofs.Order.{below_both, below_itself, same_is}
use Rattle.protocol.specs.LogNames.{by_xid, unnamed}

abbrev pub Pairs : Type 0
Pairs = List (List ℕ × List ℕ)

true_false : {A : Type 0} → true ≡ false → A
true_false e = absurd (cc)

both : (a b : Bool) → (a && b) ≡ true → (a ≡ true) × (b ≡ true)
both true true h = (refl, refl)
both true false h = absurd (cc)
both false b h = absurd (cc)

-- a key before another is not it, nor comes it before this one
not_same : (j k : List ℕ) → key_below j k ≡ true → same_bytes k j ≡ false
not_same j k h = by_test (same_bytes k j) refl
  where
    by_test : (b : Bool) → same_bytes k j ≡ b → b ≡ false
    by_test false e = refl
    by_test true e = true_false (sym h ∙ ap (key_below j) (same_is k j e) ∙ below_itself j)

not_before : (j k : List ℕ) → key_below j k ≡ true → key_below k j ≡ false
not_before j k h = by_test (key_below k j) refl
  where
    by_test : (b : Bool) → key_below k j ≡ b → b ≡ false
    by_test false e = refl
    by_test true e = true_false (sym (below_both j k j h e) ∙ below_itself j)

-- all keys of these pairs come before this one
abbrev AllBelow : List ℕ → Pairs → Type 0
AllBelow k qs = AllByRecursion (λ q. key_below q.0 k ≡ true) qs

put_last : (k v : List ℕ) (qs : Pairs) → AllBelow k qs → with_pair k v qs ≡ qs ++ (k, v) ∷ []
unfolding with_pair
put_last k v [] h = refl
put_last k v (q ∷ qs) h =
    ap (λ b. cond b ((k, v) ∷ qs) (cond (key_below k q.0) ((k, v) ∷ (q ∷ qs)) (q ∷ with_pair k v qs)))
    (not_same q.0 k h.0)
    ∙ ap (λ b. cond b ((k, v) ∷ (q ∷ qs)) (q ∷ with_pair k v qs)) (not_before q.0 k h.0)
    ∙ ap (λ ps. q ∷ ps) (put_last k v qs h.1)

more_below : (k j v : List ℕ) (qs : Pairs) → AllBelow k qs → key_below k j ≡ true
    → AllBelow j (qs ++ (k, v) ∷ [])
more_below k j v [] h below = (below, tt)
more_below k j v (q ∷ qs) h below = (below_both q.0 k j h.0 below, more_below k j v qs h.1 below)

-- the first of the pairs comes after all of these
abbrev HeadBehind : Pairs → Pairs → Type 0
HeadBehind qs [] = Unit {0}
HeadBehind qs (p ∷ ps) = AllBelow p.0 qs

rebuilt : (ps qs : Pairs) (d : Data) → keys_rise ps ≡ true → HeadBehind qs ps
    → fold stored_after (record d { pairs = qs }) (map pair_record ps) ≡ record d { pairs = qs ++ ps }
unfolding keys_rise
rebuilt [] qs d rise behind = ap (λ zs. record d { pairs = zs }) (sym (append-nil qs))
rebuilt (p ∷ ps) qs d rise behind =
    let parts = both (is_behind p.0 ps) (keys_rise ps) rise in
    ap (λ zs. fold stored_after (record d { pairs = zs }) (map pair_record ps)) (put_last p.0 p.1 qs behind)
    ∙ rebuilt ps (qs ++ p ∷ []) d parts.1 (next ps parts.0)
    ∙ ap (λ zs. record d { pairs = zs }) (append_assoc qs (p ∷ []) ps)
  where
    next : (ps : Pairs) → is_behind p.0 ps ≡ true → HeadBehind (qs ++ p ∷ []) ps
    next [] h = tt
    next (r ∷ rs) h = more_below p.0 r.0 p.1 qs behind h

-- the base and its pairs make these data, and leave the promises
pub rebased : (d e : Data) → keys_rise d.pairs ≡ true
    → fold stored_after e (base_records d) ≡ record {
      count = d.count;
      pairs = d.pairs;
      promised = e.promised;
    }
rebased d e rise =
    rebuilt d.pairs [] (record { count = d.count; pairs = []; promised = e.promised }) rise (first d.pairs)
  where
    first : (ps : Pairs) → HeadBehind [] ps
    first [] = tt
    first (p ∷ ps) = tt

same_pair_records : (ps : Pairs) → map by_xid (map unnamed (map pair_record ps)) ≡ map pair_record ps
same_pair_records [] = refl
same_pair_records (p ∷ ps) = ap (λ rs. pair_record p ∷ rs) (same_pair_records ps)

-- a log reads them so
pub bases_read : (d : Data) → map by_xid (map unnamed (base_records d)) ≡ base_records d
bases_read d = ap (λ rs. Base d.count ∷ rs) (same_pair_records d.pairs)
