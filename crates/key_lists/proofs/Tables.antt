-- What a change of a map at one key is to its table.
use Rattle.std.proofs.Common.{◌≡◌, ℕ, Bool, true, false, cond, Option, None, Some, List, [], ◌∷◌, subst, refl, sym, ap, ◌∙◌, rules}
use Rattle.std.specs.Global.{Vec}
use Rattle.std.specs.Map.{KeepsOthers, lookup}
use Rattle.std.specs.Prelude.{unwrap_or}
use Rattle.key_lists.specs.Tables.{Becomes, list_at, same_key, table_of}

-- the test of a key by which a map is looked up
abbrev pub key_test : List ℕ → Vec ℕ → Bool
key_test k q = same_key k q.items

pub tests_key : (l : List ℕ) (q r : Vec ℕ) → key_test l q ≡ true → key_test l r ≡ same_key q.items r.items
tests_key l q r e = let one : l ≡ q.items = search rules in ap (λ j. same_key j r.items) one

pub apart_keys : (k l : List ℕ) → same_key k l ≡ false → (q : Vec ℕ)
    → key_test k q ≡ true → key_test l q ≡ false
apart_keys k l differs q e = by_test (key_test l q) refl
  where
    by_test : (b : Bool) → key_test l q ≡ b → b ≡ false
    by_test false f = refl
    by_test true f =
        let one : k ≡ q.items = search rules in
        let other : l ≡ q.items = search rules in
        let alike : same_key k l ≡ true = search rules in
        absurd (cc)

module _ {X : Type 0} where
  -- the items of a list, if there is one
  abbrev pub items_in : Option (Vec X) → List X
  items_in None = []
  items_in (Some v) = v.items

  -- what a map holds at a key
  abbrev pub found : List (Vec ℕ × Vec X) → List ℕ → Option (Vec X)
  found es k = lookup (key_test k) es

  pub list_at_key : (es : List (Vec ℕ × Vec X)) (k : List ℕ) → list_at (table_of es) k ≡ items_in (found es k)
  list_at_key [] k = refl
  list_at_key (e ∷ es) k = by_test (same_key k e.0.items) (list_at_key es k)
    where
      by_test : (b : Bool) → list_at (table_of es) k ≡ items_in (found es k)
          → unwrap_or (cond b (Some e.1.items) (lookup (same_key k) (table_of es))) []
          ≡ items_in (cond b (Some e.1) (found es k))
      by_test true h = refl
      by_test false h = h

  -- where the map changes at one key, so does the table
  pub becomes : (es fs : List (Vec ℕ × Vec X)) (k : List ℕ) (w : Option (Vec X)) (xs : List X)
      → KeepsOthers (λ q r. same_key q.items r.items) (key_test k) es fs
      → found fs k ≡ w → items_in w ≡ xs
      → Becomes (table_of es) (table_of fs) k xs
  unfolding KeepsOthers
  becomes es fs k w xs keeps own now = record {
    own = list_at_key fs k ∙ ap items_in own ∙ now;
    others = λ l differs. list_at_key fs l ∙ ap items_in
        (keeps (key_test l) (tests_key l) (apart_keys k l differs)) ∙ sym (list_at_key es l);
  }

  -- where the map does not change and has nothing at a key, the list there is what any change makes of an
  -- empty one
  pub becomes_idle : (es fs : List (Vec ℕ × Vec X)) (k : List ℕ) (change : List X → List X) → fs ≡ es
      → found es k ≡ None → change [] ≡ []
      → Becomes (table_of es) (table_of fs) k (change (list_at (table_of es) k))
  becomes_idle es fs k change stays none idle =
      let nothing : list_at (table_of es) k ≡ [] = list_at_key es k ∙ ap items_in none in
      subst (λ gs. Becomes (table_of es) (table_of gs) k
      (change (list_at (table_of es) k))) (sym stays) (record {
        own = nothing ∙ sym idle ∙ ap change (sym nothing);
        others = λ l apart. refl;
      })

  -- one change of a key after another
  pub becomes_then : (t u v : List (List ℕ × List X)) (k : List ℕ) (xs ys : List X) → Becomes t u k xs
      → Becomes u v k ys → ys ≡ xs → Becomes t v k xs
  becomes_then t u v k xs ys first next one = record {
    own = next.own ∙ one;
    others = λ l apart. next.others l apart ∙ first.others l apart;
  }
