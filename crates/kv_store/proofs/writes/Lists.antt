-- The writes of one branch.
use Rattle.std.proofs.Common.{◌≡◌, ℕ, ◌+◌, ◌<◌, ◌≤◌, Bool, true, false, cond, ◌||◌, Option, Some, None, List, [], ◌∷◌, ◌++◌, length, nat_lt, slice_set, refl, sym, ap, ◌∙◌, arith, is_some, find, position}
use Rattle.std.proofs.lemmas.Grind.{common_steps}
use Rattle.std.proofs.lemmas.Bool.Decides.{nat_tests}
use Rattle.std.specs.List.{AllByRecursion, position_or_len}
use Rattle.protocol.specs.declared.records.Write.{Write}
use Rattle.protocol.specs.Records.{same_bytes}
use Rattle.protocol.specs.Plays.{with_write}
use Rattle.log_rules.specs.order.Orders.{keys_once, names_key}
use Rattle.log_rules.specs.sound.Sound.{IsSoundWrite}
use Rattle.kv_store.proofs.Order.{same_is, same_other_way}
use Rattle.kv_store.specs.writes.Writes.{AreWrites, is_of, is_within_limit}

-- a branch's write of a key is found exactly if it has one
pub found_is_named : (ws : List Write) (k : List ℕ) → is_some (find (is_of k) ws) ≡ names_key ws k
unfolding names_key
found_is_named [] k = refl
found_is_named (w ∷ ws) k = by_test (same_bytes w.key k) (found_is_named ws k)
  where
    by_test : (b : Bool) → is_some (find (is_of k) ws) ≡ names_key ws k
        → is_some (cond b (Some w) (find (is_of k) ws)) ≡ (b || names_key ws k)
    by_test true h = refl
    by_test false h = h

-- the write in its place, and after the others
pub put_there : (ws : List Write) (k : List ℕ) (v : Option (List ℕ))
    → position_or_len (is_of k) ws < length ws
    → slice_set ws (position_or_len (is_of k) ws) (record { key = k; value = v }) ≡ with_write ws k v
put_there [] k v few = absurd (omega arith)
put_there (w ∷ ws) k v few = by_test (same_bytes w.key k) refl (put_there ws k v)
  where
    by_test : (b : Bool) → same_bytes w.key k ≡ b
        → (position_or_len (is_of k) ws < length ws
        → slice_set ws (position_or_len (is_of k) ws) (record { key = k; value = v }) ≡ with_write ws k v)
        → slice_set (w ∷ ws) (position_or_len (is_of k) (w ∷ ws))
        (record { key = k; value = v }) ≡ with_write (w ∷ ws) k v
    by_test true e h = grind (arith, common_steps)
    by_test false e h = grind (arith, common_steps, h)

pub put_last : (ws : List Write) (k : List ℕ) (v : Option (List ℕ)) → length ws ≤ position_or_len (is_of k) ws
    → ws ++ record { key = k; value = v } ∷ [] ≡ with_write ws k v
put_last [] k v none = refl
put_last (w ∷ ws) k v none = by_test (same_bytes w.key k) refl (put_last ws k v)
  where
    by_test : (b : Bool) → same_bytes w.key k ≡ b
        → (length ws ≤ position_or_len (is_of k) ws
        → ws ++ record { key = k; value = v } ∷ [] ≡ with_write ws k v)
        → w ∷ (ws ++ record { key = k; value = v } ∷ []) ≡ with_write (w ∷ ws) k v
    by_test true e h = grind (arith, common_steps)
    by_test false e h = grind (arith, common_steps, h)

-- one write more: a branch's writes keep within their limits

with_write_length : (ws : List Write) (k : List ℕ) (v : Option (List ℕ))
    → length (with_write ws k v) ≡ cond (names_key ws k) (length ws) (length ws + 1)
unfolding names_key
with_write_length [] k v = refl
with_write_length (w ∷ ws) k v = by_test (same_bytes w.key k) (with_write_length ws k v)
  where
    by_test : (b : Bool) → length (with_write ws k v) ≡ cond (names_key ws k) (length ws) (length ws + 1)
        → length (cond b (record { key = k; value = v } ∷ ws) (w ∷ with_write ws k v))
        ≡ cond (b || names_key ws k) (length (w ∷ ws)) (length (w ∷ ws) + 1)
    by_test true h = refl
    by_test false h = grind (arith, common_steps, h)

with_write_each : (ws : List Write) (k : List ℕ) (v : Option (List ℕ))
    → IsSoundWrite (record { key = k; value = v })
    → AllByRecursion IsSoundWrite ws → AllByRecursion IsSoundWrite (with_write ws k v)
with_write_each [] k v sound all = (sound, tt)
with_write_each (w ∷ ws) k v sound all = by_test (same_bytes w.key k) (with_write_each ws k v sound all.1)
  where
    by_test : (b : Bool) → AllByRecursion IsSoundWrite (with_write ws k v)
        → AllByRecursion IsSoundWrite (cond b (record { key = k; value = v } ∷ ws) (w ∷ with_write ws k v))
    by_test true h = (sound, all.1)
    by_test false h = (all.0, h)

pub with_write_names : (ws : List Write) (k l : List ℕ) (v : Option (List ℕ))
    → names_key ws l ≡ false → same_bytes k l ≡ false
    → names_key (with_write ws k v) l ≡ false
unfolding names_key
with_write_names [] k l v none other = grind (arith, common_steps)
with_write_names (w ∷ ws) k l v none other = by_test (same_bytes w.key k) (with_write_names ws k l v)
  where
    by_test : (b : Bool) → (names_key ws l ≡ false → same_bytes k l ≡ false
        → names_key (with_write ws k v) l ≡ false)
        → names_key (cond b (record { key = k; value = v } ∷ ws) (w ∷ with_write ws k v)) l ≡ false
    by_test true h = grind (arith, common_steps)
    by_test false h = grind (arith, common_steps, h)

with_write_once : (ws : List Write) (k : List ℕ) (v : Option (List ℕ)) → keys_once ws ≡ true
    → keys_once (with_write ws k v) ≡ true
unfolding keys_once names_key
with_write_once [] k v once = refl
with_write_once (w ∷ ws) k v once = by_test (same_bytes w.key k) refl (with_write_once ws k v)
  where
    by_test : (b : Bool) → same_bytes w.key k ≡ b
        → (keys_once ws ≡ true → keys_once (with_write ws k v) ≡ true)
        → keys_once (cond b (record { key = k; value = v } ∷ ws) (w ∷ with_write ws k v)) ≡ true
    by_test true e h =
        let one : w.key ≡ k = same_is w.key k e in
        grind (arith, common_steps)
    by_test false e h =
        let other : same_bytes k w.key ≡ false = same_other_way k w.key ∙ e in
        grind (arith, common_steps, h, with_write_names ws k w.key v)

pub with_write_kept : (ws : List Write) (k : List ℕ) (v : Option (List ℕ)) → AreWrites ws
    → is_within_limit ws k ≡ true
    → IsSoundWrite (record { key = k; value = v }) → AreWrites (with_write ws k v)
with_write_kept ws k v kept within sound = record {
  few = by_test (names_key ws k) (with_write_length ws k v) within;
  each = with_write_each ws k v sound kept.each;
  once = with_write_once ws k v kept.once;
}
  where
    by_test : (b : Bool) → length (with_write ws k v) ≡ cond b (length ws) (length ws + 1)
        → (b || nat_lt (length ws) 64) ≡ true
        → length (with_write ws k v) ≤ 64
    by_test true e h = let few = kept.few in omega arith
    by_test false e h = grind (arith, common_steps, nat_tests)

-- no writes keep within their limits
pub none_kept : AreWrites []
unfolding keys_once
none_kept = record { few = omega arith; each = tt; once = refl }

pub put_at : (ws : List Write) (k : List ℕ) (v : Option (List ℕ)) (i : ℕ) → position (is_of k) ws ≡ Some i
    → slice_set ws i (record { key = k; value = v }) ≡ with_write ws k v
put_at ws k v i at = by_test (nat_lt (position_or_len (is_of k) ws) (length ws)) refl at
  where
    by_test : (b : Bool) → nat_lt (position_or_len (is_of k) ws) (length ws) ≡ b
        → cond b (Some (position_or_len (is_of k) ws)) None ≡ Some i
        → slice_set ws i (record { key = k; value = v }) ≡ with_write ws k v
    by_test true e h =
        let below : position_or_len (is_of k) ws < length ws = grind (arith, common_steps, nat_tests) in
        let here : position_or_len (is_of k) ws ≡ i = cc in
        ap (λ j. slice_set ws j (record { key = k; value = v })) (sym here) ∙ put_there ws k v below
    by_test false e h = absurd (cc)

pub put_behind : (ws : List Write) (k : List ℕ) (v : Option (List ℕ)) → position (is_of k) ws ≡ None
    → ws ++ record { key = k; value = v } ∷ [] ≡ with_write ws k v
put_behind ws k v none = by_test (nat_lt (position_or_len (is_of k) ws) (length ws)) refl none
  where
    by_test : (b : Bool) → nat_lt (position_or_len (is_of k) ws) (length ws) ≡ b
        → cond b (Some (position_or_len (is_of k) ws)) None ≡ None
        → ws ++ record { key = k; value = v } ∷ [] ≡ with_write ws k v
    by_test true e h = absurd (cc)
    by_test false e h =
        let above : length ws ≤ position_or_len (is_of k) ws = grind (arith, common_steps, nat_tests) in
        put_last ws k v above
