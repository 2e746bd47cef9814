-- A transaction's list changes where it is in the map.
use Rattle.std.proofs.Common.{◌≡◌, ◌<◌, ◌==◌, ◌&&◌, ◌||◌, not, cond, ℕ, Bool, true, false, Option, Some, None, List, [], ◌∷◌, ◌++◌, refl, sym, ap, subst, ◌∙◌, arith, get_or, length, position, slice_get}
use Rattle.std.specs.Prelude.{IfSome}
use Rattle.std.specs.Cmp.{IsEquivalence}
use Rattle.std.specs.Map.{keys_of, lookup, values_of}
use Rattle.std.proofs.Math.ListN.{get_or-map}
use Rattle.std.proofs.lemmas.List.Quantifiers.{position-Some}
use Rattle.std.proofs.lemmas.Map.Entries.{length-keys_of}
use Rattle.std.proofs.lemmas.Option.{slice_get-get_or}
use Rattle.indexmap.specs.IndexMap.{IndexMap, Updates, set_value_at, with_value_at}
use Rattle.indexmap.proofs.CallerLemmas.{keys-with_value_at, updates-with_value_at}
use Rattle.indexmap.proofs.MapLemmas.{Found-position, Missing-position}
use Rattle.smallvec.specs.SmallVec.{SmallVec}
use Rattle.protocol.specs.declared.names.Txn.{Txn}
use Rattle.protocol.specs.Names.{same_txn}
use Rattle.protocol.proofs.Equality.{txn_equality}
use Rattle.protocol.proofs.NameTests.{txn_tells}
use Rattle.protocol.specs.contracts.names.TxnPartialEq.TheImpl as txns
use Rattle.case_table.specs.Tables.{AreListedOnce, Drops, Lists, SameLists, is_key, listed, listed_for, place_in}
use Rattle.case_table.proofs.Keys.{Writes, is_key-empty, is_key-push, listed-added, listed-dropped}

name_is : (a b : Txn) → txns.ghosts.eq a b ≡ true → a ≡ b
name_is a b is = (txn_tells a b).0 (sym (txn_equality a b) ∙ is)

same_turns : (a b : Txn) → txns.ghosts.eq a b ≡ txns.ghosts.eq b a
same_turns a b = by_test (txns.ghosts.eq a b) (txns.ghosts.eq b a) refl refl
  where
    by_test : (s t : Bool) → txns.ghosts.eq a b ≡ s → txns.ghosts.eq b a ≡ t
        → txns.ghosts.eq a b ≡ txns.ghosts.eq b a
    by_test true t e f = ap (λ u. txns.ghosts.eq u b) (name_is a b e)
        ∙ ap (txns.ghosts.eq b) (sym (name_is a b e))
    by_test false true e f = ap (txns.ghosts.eq a) (name_is b a f)
        ∙ ap (λ u. txns.ghosts.eq u a) (sym (name_is b a f))
    by_test false false e f = e ∙ sym f

same_laws : IsEquivalence txns.ghosts.eq
same_laws = record {
  refl = λ a. txn_equality a a ∙ (txn_tells a a).1 refl;
  symm = same_turns;
  congr = λ a b d is. ap (λ u. txns.ghosts.eq u d) (name_is a b is);
}

-- the entry at the place of a transaction is the transaction's own
entry_at : (es : List (Txn × SmallVec ℕ)) (t : Txn) (i : ℕ) → place_in es t ≡ Some i
    → (e : Txn × SmallVec ℕ) × (slice_get es i ≡ Some e) × (t ≡ e.0)
entry_at [] t i at = absurd cc
entry_at (e ∷ es) t i at =
    let there = position-Some (txns.ghosts.eq t) (keys_of (e ∷ es)) i e.0 at in
    let within : i < length (e ∷ es) = omega (arith, there.0, length-keys_of (e ∷ es)) in (
      get_or (e ∷ es) i e,
      slice_get-get_or (e ∷ es) i e within,
      name_is t (get_or (e ∷ es) i e).0
          (ap (txns.ghosts.eq t) (sym (get_or-map (λ (q : Txn × SmallVec ℕ). q.0) (e ∷ es) i e)) ∙ there.1),
    )

-- a transaction that has no place has no list
pub unlisted : (es : List (Txn × SmallVec ℕ)) (t : Txn) → place_in es t ≡ None
    → lookup (txns.ghosts.eq t) es ≡ None
unlisted es t none = (Missing-position (txns.ghosts.eq t) es none).value

-- the list at a transaction's place is its own
pub list_at : (es : List (Txn × SmallVec ℕ)) (t : Txn) (i : ℕ) (ls : SmallVec ℕ) → place_in es t ≡ Some i
    → slice_get (values_of es) i ≡ Some ls → lookup (txns.ghosts.eq t) es ≡ Some ls
list_at es t i ls at is = (Found-position (txns.ghosts.eq t) es i at).value ∙ is

module _ {H : Type 0} (m : IndexMap Txn (SmallVec ℕ) H) (t : Txn) (i : ℕ) (ls new : SmallVec ℕ) (key : ℕ)
    (once : AreListedOnce m.entries) (at : place_in m.entries t ≡ Some i)
    (had : slice_get (values_of m.entries) i ≡ Some ls) where
  -- another list is there
  writes_here : Writes t m.entries (set_value_at m.entries i new) new
  writes_here =
      let entry = entry_at m.entries t i at in
      subst (λ x. Writes x m.entries (set_value_at m.entries i new) new) (sym entry.2)
      (updates-with_value_at m i new same_laws once entry.0.0 entry.0.1 entry.1).0

  -- the same list is there
  pub same_here : new ≡ ls → SameLists m.entries (set_value_at m.entries i new)
  same_here is y k = by_test (txns.ghosts.eq t y) refl
    where
      by_test : (b : Bool) → txns.ghosts.eq t y ≡ b
          → listed_for y (set_value_at m.entries i new) k ≡ listed_for y m.entries k
      by_test true e =
          ap (λ found. listed found k) (writes_here y
          ∙ ap (λ b. cond b (Some new) (lookup (txns.ghosts.eq y) m.entries)) e ∙ ap Some is
          ∙ sym (list_at m.entries t i ls at had))
          ∙ ap (λ x. listed_for x m.entries k) (name_is t y e)
      by_test false e =
          ap (λ found. listed found k) (writes_here y
          ∙ ap (λ b. cond b (Some new) (lookup (txns.ghosts.eq y) m.entries)) e)

  -- with a key more
  pub adds_here : new.items ≡ ls.items ++ key ∷ [] → Lists m.entries (set_value_at m.entries i new) t key
  adds_here is = listed-added t m.entries (set_value_at m.entries i new) new key writes_here (λ k.
      ap (λ ks. is_key ks k) is ∙ is_key-push ls.items key k
      ∙ sym (ap (λ found. listed found k || (key == k)) (list_at m.entries t i ls at had)))

  -- without a key
  pub drops_here : ((k : ℕ) → is_key new.items k ≡ (is_key ls.items k && not (key == k)))
      → Drops m.entries (set_value_at m.entries i new) t key
  drops_here is = listed-dropped t m.entries (set_value_at m.entries i new) new key writes_here (λ k.
      is k ∙ sym (ap (λ found. listed found k && not (key == k)) (list_at m.entries t i ls at had)))

  -- and none is left there, so the list goes
  pub drops_list : ((k : ℕ) → is_key new.items k ≡ (is_key ls.items k && not (key == k)))
      → (n : IndexMap Txn (SmallVec ℕ) H) (out : Option (Txn × SmallVec ℕ)) → length new.items ≡ 0
      → out ≡ slice_get (set_value_at m.entries i new) i
      → IfSome out (λ p. Updates txns.ghosts.eq (with_value_at m i new) n p.0 None)
      → Drops m.entries n.entries t key
  drops_list is n out empty taken removed y k = by_test (txns.ghosts.eq t y) refl
    where
      still : place_in (set_value_at m.entries i new) t ≡ Some i
      still = ap (position (txns.ghosts.eq t)) (keys-with_value_at m i new) ∙ at

      left : lookup (txns.ghosts.eq y) n.entries
          ≡ cond (txns.ghosts.eq t y) None (lookup (txns.ghosts.eq y) (set_value_at m.entries i new))
      left =
          let entry = entry_at (set_value_at m.entries i new) t i still in
          let u : Updates txns.ghosts.eq (with_value_at m i new) n entry.0.0 None =
          subst (λ o. IfSome o (λ p. Updates txns.ghosts.eq (with_value_at m i new) n p.0 None))
          (taken ∙ entry.1) removed in
          subst (λ x. lookup (txns.ghosts.eq y) n.entries
          ≡ cond (txns.ghosts.eq x y) None (lookup (txns.ghosts.eq y) (set_value_at m.entries i new)))
          (sym entry.2) (u.0 y)

      same : (b : Bool) → txns.ghosts.eq t y ≡ b
          → listed_for y n.entries k ≡ listed_for y (set_value_at m.entries i new) k
      same true e =
          ap (λ found. listed found k) (left ∙ ap (λ b. cond b None (lookup (txns.ghosts.eq y)
          (set_value_at m.entries i new))) e)
          ∙ sym (ap (λ found. listed found k) (writes_here y ∙ ap (λ b. cond b (Some new)
          (lookup (txns.ghosts.eq y) m.entries)) e) ∙ is_key-empty new.items k empty)
      same false e = ap (λ found. listed found k) (left ∙ ap (λ b. cond b None (lookup (txns.ghosts.eq y)
          (set_value_at m.entries i new))) e)

      by_test : (b : Bool) → txns.ghosts.eq t y ≡ b
          → listed_for y n.entries k ≡ (listed_for y m.entries k && not (same_txn t y && (key == k)))
      by_test b e = same b e ∙ drops_here is y k
