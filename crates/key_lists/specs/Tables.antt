-- Lists by keys of bytes, as a map holds them.
use Rattle.std.specs.Prelude.{◌≡◌, ℕ, Bool, false, unwrap_or, List, [], map}
use Rattle.std.specs.Global.{Vec}
use Rattle.std.specs.Map.{lookup}
use Rattle.std.specs.Str.{bytes_eq}

-- two keys are one
abbrev pub same_key : List ℕ → List ℕ → Bool
same_key = bytes_eq

module _ {X : Type 0} where
  -- what a map of keys to lists holds
  abbrev pub table_of : List (Vec ℕ × Vec X) → List (List ℕ × List X)
  table_of es = map (λ e. (e.0.items, e.1.items)) es

  -- the list at a key: empty where the table has none
  abbrev pub list_at : List (List ℕ × List X) → List ℕ → List X
  list_at t k = unwrap_or (lookup (same_key k) t) []

  -- one key has this list, and the others have those that they had
  pub record Becomes (old new : List (List ℕ × List X)) (k : List ℕ) (xs : List X) : Type 0 where
    pub own : list_at new k ≡ xs
    pub others : (l : List ℕ) → same_key k l ≡ false → list_at new l ≡ list_at old l

  -- each key has the list that it had
  abbrev pub SameLists : List (List ℕ × List X) → List (List ℕ × List X) → Type 0
  SameLists old new = (k : List ℕ) → list_at new k ≡ list_at old k
