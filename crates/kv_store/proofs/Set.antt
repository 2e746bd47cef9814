-- What pairs set.
use Rattle.std.proofs.Common.{◌≡◌, ◌∙◌, ◌+◌, ◌<◌, ◌&&◌, ◌++◌, ℕ, Bool, true, false, cond, None, Some, Option, List, [], ◌∷◌, map, length, take, get_or, refl, sym, ap}
use Rattle.std.specs.Prelude.{is_some}
use Rattle.std.proofs.lemmas.List.{map-append, take_more}
use Rattle.protocol.specs.declared.records.Write.{Write}
use Rattle.protocol.specs.Records.{same_bytes}
use Rattle.kv_store.specs.Pairs.{ArePairsOf, AreSet, found_in, is_behind, keys_rise}
use Rattle.kv_store.specs.Versions.{Sets, VersionTable, pair_write, value_at, value_by, written}
use Rattle.kv_store.proofs.Order.{bytes_are_same, same_is, same_other_way}
use Rattle.kv_store.proofs.Pairs.{Pairs, not_among}

-- one write more
written_last : (ws : List Write) (w : Write) (k : List ℕ) (b : Option (List ℕ))
    → written (ws ++ w ∷ []) k b ≡ written (w ∷ []) k (written ws k b)
unfolding written
written_last [] w k b = refl
written_last (v ∷ ws) w k b = written_last ws w k _

pub set_none : (n : ℕ) → AreSet (record { base = n; count = n; is_staged = false; versions = [] }) n []
unfolding value_by written
set_none n = record { base = refl; count = refl; unstaged = refl; values = λ k. refl }

pub set_next : (old new : VersionTable) (n : ℕ) (ps : Pairs) (i : ℕ) (p : List ℕ × List ℕ) → i < length ps
    → p ≡ get_or ps i p → AreSet old n (take i ps) → Sets old new (pair_write p)
    → AreSet new n (take (i + 1) ps)
set_next old new n ps i p within at before made = record {
  base = made.base ∙ before.base;
  count = made.count ∙ before.count;
  unstaged = made.is_staged;
  values = λ k. ap (λ m. value_at new m k) made.count ∙ made.now k
      ∙ ap (written (pair_write p ∷ []) k) (before.values k)
      ∙ sym (written_last (map pair_write (take i ps)) (pair_write p) k None)
      ∙ sym (ap (λ ws. written ws k None) more);
}
  where
    more : map pair_write (take (i + 1) ps) ≡ map pair_write (take i ps) ++ pair_write p ∷ []
    more = ap (map pair_write) (take_more ps i p within ∙ ap (λ q. take i ps ++ q ∷ []) (sym at))
        ∙ map-append pair_write (take i ps) (p ∷ [])

both : (a b : Bool) → (a && b) ≡ true → (a ≡ true) × (b ≡ true)
both true true h = (refl, refl)
both true false h = absurd (cc)
both false b h = absurd (cc)

-- what pairs write whose keys rise is what is found in them
written_rise : (ps : Pairs) (k : List ℕ) (b : Option (List ℕ)) → keys_rise ps ≡ true
    → written (map pair_write ps) k b ≡ cond (is_some (found_in ps k)) (found_in ps k) b
unfolding written keys_rise
written_rise [] k b rise = refl
written_rise (p ∷ ps) k b rise =
    let parts = both (is_behind p.0 ps) (keys_rise ps) rise in
    ap (λ c. written (map pair_write ps) k (cond c (Some p.1) b))
    (bytes_are_same p.0 k ∙ same_other_way p.0 k)
    ∙ by_test (same_bytes k p.0) refl (not_among p.0 ps parts.0 parts.1)
    (written_rise ps k (Some p.1) parts.1)
    (written_rise ps k b parts.1)
  where
    by_test : (c : Bool) → same_bytes k p.0 ≡ c → found_in ps p.0 ≡ None
        → written (map pair_write ps) k (Some p.1) ≡ cond (is_some (found_in ps k)) (found_in ps k) (Some p.1)
        → written (map pair_write ps) k b ≡ cond (is_some (found_in ps k)) (found_in ps k) b
        → written (map pair_write ps) k (cond c (Some p.1) b)
        ≡ cond (is_some (cond c (Some p.1) (found_in ps k))) (cond c (Some p.1) (found_in ps k)) b
    by_test true is none own other =
        own ∙ ap (λ o. cond (is_some o) o (Some p.1)) (ap (found_in ps) (same_is k p.0 is) ∙ none)
    by_test false is none own other = other

some_or : (o : Option (List ℕ)) → cond (is_some o) o None ≡ o
some_or None = refl
some_or (Some v) = refl

pub set_pairs : (s : VersionTable) (n : ℕ) (ps : Pairs) → AreSet s n ps → keys_rise ps ≡ true
    → ArePairsOf s ps
set_pairs s n ps are rise = record {
  rise = rise;
  values = λ k. sym (are.values k ∙ written_rise ps k None rise ∙ some_or (found_in ps k));
}
