-- The data as pairs of a key and its value, keys rising.
use Rattle.std.specs.Prelude.{◌≡◌, ℕ, Bool, true, false, ◌&&◌, if◌then◌else◌, Option, Some, None, List, [], ◌∷◌, ◌++◌, map}
use Rattle.std.specs.List.{list_any}
use Rattle.std.specs.Map.{lookup}
use Rattle.protocol.specs.declared.records.Write.{Write}
use Rattle.protocol.specs.Records.{same_bytes}
use Rattle.protocol.specs.Store.{applied, key_below}
use Rattle.kv_store.specs.Versions.{VersionTable, pair_write, value_at, written}

-- the value of a key
abbrev pub found_in : List (List ℕ × List ℕ) → List ℕ → Option (List ℕ)
found_in ps k = lookup (same_bytes k) ps

-- the first key comes after this one
abbrev pub is_behind : List ℕ → List (List ℕ × List ℕ) → Bool
is_behind k [] = true
is_behind k (p ∷ ps) = key_below k p.0

-- the keys rise
unfoldable pub keys_rise : List (List ℕ × List ℕ) → Bool
keys_rise [] = true
keys_rise (p ∷ ps) = is_behind p.0 ps && keys_rise ps

-- what writes leave of the pairs: the keys rise still, and each key has what the writes leave it
pub record WritesPairs (ps : List (List ℕ × List ℕ)) (ws : List Write) : Type 0 where
  pub rise : keys_rise (applied ws ps) ≡ true
  pub values : (k : List ℕ) → found_in (applied ws ps) k ≡ written ws k (found_in ps k)

-- two lists of pairs whose keys rise, and in which each key has the same value, are one
abbrev pub ArePairsOfValues : Type 0
ArePairsOfValues = (ps qs : List (List ℕ × List ℕ)) → keys_rise ps ≡ true → keys_rise qs ≡ true
    → ((k : List ℕ) → found_in ps k ≡ found_in qs k) → ps ≡ qs

-- the pairs are these data: their keys rise, and each key has its value
pub record ArePairsOf (s : VersionTable) (ps : List (List ℕ × List ℕ)) : Type 0 where
  pub rise : keys_rise ps ≡ true
  pub values : (k : List ℕ) → found_in ps k ≡ value_at s s.count k

-- the data are what these pairs set, the last pair of a key counting, after N commits, of which none is known
pub record AreSet (s : VersionTable) (n : ℕ) (ps : List (List ℕ × List ℕ)) : Type 0 where
  pub base : s.base ≡ n
  pub count : s.count ≡ n
  pub unstaged : s.is_staged ≡ false
  pub values : (k : List ℕ) → value_at s s.count k ≡ written (map pair_write ps) k None

-- each key that has a value is one of these
abbrev pub AreKeysOf : VersionTable → List (List ℕ) → Type 0
AreKeysOf s ks = (k : List ℕ) → list_any (same_bytes k) ks ≡ false → value_at s s.count k ≡ None

-- the key is the first of these
abbrev pub is_next : List ℕ → List (List ℕ) → Bool
is_next k [] = false
is_next k (l ∷ ls) = same_bytes l k

-- the pair of a key with its value, if it has one
abbrev pub pair_if : List ℕ → Option (List ℕ) → List (List ℕ × List ℕ)
pair_if k None = []
pair_if k (Some v) = (k, v) ∷ []

-- the pairs of these keys that have a value; of a key that is beside itself one
unfoldable pub pairs_at : VersionTable → List (List ℕ) → List (List ℕ × List ℕ)
pairs_at s [] = []
pairs_at s (k ∷ ks) = (if is_next k ks then [] else pair_if k (value_at s s.count k)) ++ pairs_at s ks
