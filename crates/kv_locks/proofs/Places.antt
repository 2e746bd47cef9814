-- A key's holders change where they are in the map.
use Rattle.std.proofs.Common.{◌≡◌, ◌<◌, ℕ, Bool, true, Option, Some, None, List, [], ◌∷◌, refl, sym, ap, subst, ◌∙◌, arith, rules, get_or, length, position, slice_get}
use Rattle.std.specs.Prelude.{IfSome}
use Rattle.std.specs.Cmp.{IsEquivalence}
use Rattle.std.specs.Global.{Vec}
use Rattle.std.specs.Map.{keys_of, values_of}
use Rattle.std.proofs.Math.ListN.{get_or-map}
use Rattle.std.proofs.lemmas.List.Quantifiers.{position-Some}
use Rattle.std.proofs.lemmas.Map.Entries.{length-keys_of}
use Rattle.std.proofs.lemmas.Option.{slice_get-get_or}
use Rattle.indexmap.specs.IndexMap.{IndexMap, IsUnique, Updates, keys, set_value_at, with_value_at}
use Rattle.indexmap.proofs.CallerLemmas.{keys-with_value_at, updates-with_value_at}
use Rattle.indexmap.proofs.MapLemmas.{Found-position}
use Rattle.xa_xid.specs.declared.xid.Xid.{Xid}
use Rattle.key_lists.specs.declared.holders.Holder.{Holder}
use Rattle.key_lists.specs.declared.holders.Mode.{Mode}
use Rattle.key_lists.specs.Holders.{given, without}
use Rattle.key_lists.specs.Tables.{Becomes, same_key, table_of}
use Rattle.key_lists.proofs.Tables.{becomes, becomes_then, items_in, key_test, list_at_key}
use Rattle.kv_locks.specs.Locks.{LetsKeyGo, TakesKey, holders_of}

-- two keys of the map are one
abbrev pub alike : Vec ℕ → Vec ℕ → Bool
alike q r = same_key q.items r.items

alike_laws : IsEquivalence alike
alike_laws = search rules

-- the entry at the place of a key is the key's own
entry_at : (es : List (Vec ℕ × Vec Holder)) (k : List ℕ) (i : ℕ) → position (key_test k) (keys_of es) ≡ Some i
    → (e : Vec ℕ × Vec Holder) × (slice_get es i ≡ Some e) × (k ≡ e.0.items)
entry_at [] k i at = absurd cc
entry_at (e ∷ es) k i at =
    let there = position-Some (key_test k) (keys_of (e ∷ es)) i e.0 at in
    let within : i < length (e ∷ es) = omega (arith, there.0, length-keys_of (e ∷ es)) in (
      get_or (e ∷ es) i e,
      slice_get-get_or (e ∷ es) i e within,
      key_is (get_or (e ∷ es) i e).0
          (ap (key_test k) (sym (get_or-map (λ (q : Vec ℕ × Vec Holder). q.0) (e ∷ es) i e)) ∙ there.1),
    )
  where
    key_is : (q : Vec ℕ) → key_test k q ≡ true → k ≡ q.items
    key_is q is = search rules

module _ {H : Type 0} (m : IndexMap (Vec ℕ) (Vec Holder) H) (k : List ℕ) (i : ℕ) (w v : Vec Holder) (x : Xid)
    (unique : IsUnique alike m) (at : position (key_test k) (keys m) ≡ Some i)
    (had : slice_get (values_of m.entries) i ≡ Some w) where
  -- the holders of a key are the list at its place
  pub held_here : holders_of (table_of m.entries) k ≡ w.items
  held_here = list_at_key m.entries k
      ∙ ap items_in ((Found-position (key_test k) m.entries i at).value ∙ had)

  -- another list is there
  becomes_here : (xs : List Holder) → v.items ≡ xs
      → Becomes (table_of m.entries) (table_of (set_value_at m.entries i v)) k xs
  becomes_here xs is =
      let entry = entry_at m.entries k i at in
      let u = updates-with_value_at m i v alike_laws unique entry.0.0 entry.0.1 entry.1 in
      subst (λ l. Becomes (table_of m.entries) (table_of (set_value_at m.entries i v)) l xs) (sym entry.2)
      (becomes m.entries (set_value_at m.entries i v) entry.0.0.items (Some v) xs u.3 u.1 is)

  -- a branch that holds the key gets it in a mode
  pub takes_here : (mode : Mode) → v.items ≡ given w.items x mode
      → TakesKey (table_of m.entries) (table_of (set_value_at m.entries i v)) x k mode
  takes_here mode is = becomes_here _ (is ∙ ap (λ hs. given hs x mode) (sym held_here))

  -- a branch lets the key go
  pub lets_go : v.items ≡ without w.items x
      → LetsKeyGo (table_of m.entries) (table_of (set_value_at m.entries i v)) x k
  lets_go out = becomes_here _ (out ∙ ap (λ hs. without hs x) (sym held_here))

  -- and nobody is left there, so the key goes too
  pub lets_key_go : v.items ≡ without w.items x → (n : IndexMap (Vec ℕ) (Vec Holder) H)
      (r : Option (Vec ℕ × Vec Holder)) → v.items ≡ [] → r ≡ slice_get (set_value_at m.entries i v) i
      → IfSome r (λ p. Updates alike (with_value_at m i v) n p.0 None)
      → LetsKeyGo (table_of m.entries) (table_of n.entries) x k
  lets_key_go out n r empty is removed =
      let still : position (key_test k) (keys (with_value_at m i v)) ≡ Some i =
      ap (position (key_test k)) (keys-with_value_at m i v) ∙ at in
      let entry = entry_at (set_value_at m.entries i v) k i still in
      let u : Updates alike (with_value_at m i v) n entry.0.0 None =
      subst (λ o. IfSome o (λ p. Updates alike (with_value_at m i v) n p.0 None)) (is ∙ entry.1) removed in
      let gone : Becomes (table_of (set_value_at m.entries i v)) (table_of n.entries) k [] =
      subst (λ l. Becomes (table_of (set_value_at m.entries i v)) (table_of n.entries) l []) (sym entry.2)
      (becomes (set_value_at m.entries i v) n.entries entry.0.0.items None [] u.3 u.1 refl) in
      becomes_then (table_of m.entries) (table_of (set_value_at m.entries i v)) (table_of n.entries) k _ []
      (lets_go out) gone (sym empty ∙ out ∙ ap (λ hs. without hs x) (sym held_here))
