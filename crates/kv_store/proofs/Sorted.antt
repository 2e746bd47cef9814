-- Sorted keys, and the pairs of their values.
use Rattle.std.proofs.Common.{◌≡◌, ◌∙◌, ◌+◌, ◌-◌, ◌<◌, ◌≤◌, ◌++◌, ℕ, suc, Bool, true, false, not, cond, Bor, None, Some, Ordering, List, [], ◌∷◌, map, length, take, drop, get_or, bytes_eq, refl, sym, ap, subst, arith}
use Rattle.std.proofs.lemmas.Bool.Decides.{nat_tests}
use Rattle.std.proofs.lemmas.Cmp.{same_from_slice_cmp}
use Rattle.std.proofs.lemmas.List.{append-nil, drop_all, length-drop, take_all}
use Rattle.std.proofs.Math.Seq.{drop-cons}
use Rattle.std.proofs.lemmas.List.Sorted.{IsPermutation-map, list_any-IsPermutation}
use Rattle.std.specs.Cmp.Lexicographic.{slice_cmp}
use Rattle.std.specs.List.{list_any}
use Rattle.std.specs.List.Sorted.{IsPermutation, IsSorted}
use Rattle.std.specs.Ordering.{is_lt, nat_cmp}
use Rattle.protocol.specs.Records.{same_bytes}
use Rattle.protocol.specs.Store.{key_below}
use Rattle.key_lists.specs.Tables.{list_at, same_key, table_of}
use Rattle.std.specs.Global.{Vec}
use Rattle.std.specs.Map.{lookup}
use Rattle.std.specs.Prelude.{unwrap_or, ◌||◌, IfOk, Result, Ok, Err}
use Rattle.kv_store.specs.declared.version.Version.{Version}
use Rattle.kv_store.specs.Versions.{VersionTable, value_at, value_by}
use Rattle.kv_store.proofs.Order.{bytes_are_same}
use Rattle.kv_store.specs.Pairs.{AreKeysOf, ArePairsOf, found_in, is_next, pair_if, pairs_at}
use Rattle.kv_store.proofs.Ordered.{found_at, goes_on, joined, keys_stay, none_at, pairs_on, pairs_rise}

-- a key where it stands
abbrev pub Held : Type 0
Held = Bor (List ℕ)

-- the keys themselves
abbrev pub keys : List Held → List (List ℕ)
keys ks = map (λ (k : Held). k.now) ks

-- the order in which they are sorted
abbrev pub order : Held → Held → Ordering
order a b = slice_cmp nat_cmp a.now b.now

-- the test whether a key is the first of these
pub tests_next : (b : Bool) (key : List ℕ) (x : Held) (xs : List Held) → b ≡ bytes_eq x.now key
    → 0 < length xs → x ≡ get_or xs 0 x
    → b ≡ is_next key (keys xs)
tests_next b key x [] is some at = absurd (omega (arith, some))
tests_next b key x (y ∷ ys) is some at = is ∙ bytes_are_same x.now key
    ∙ ap (λ (z : Held). same_bytes z.now key) at

-- the key at an index
abbrev pub key_at : List Held → ℕ → List ℕ
key_at xs i = (get_or xs i (record { ref_ptr = (0, 0); now = [] })).now

-- the pairs of one key more, where these are after it
pub pairs_walk : (s : VersionTable) (xs : List Held) (i : ℕ) (b : Bool)
    (done now : List (List ℕ × List ℕ)) → i < length xs
    → b ≡ is_next (key_at xs i) (keys (take (length xs - (i + 1)) (drop (i + 1) xs)))
    → now ≡ done ++ cond b [] (pair_if (key_at xs i) (value_at s s.count (key_at xs i)))
    → done ++ pairs_at s (keys (drop i xs)) ≡ pairs_at s (keys xs)
    → now ++ pairs_at s (keys (drop (i + 1) xs)) ≡ pairs_at s (keys xs)
pairs_walk s xs i b done now within is grown walked =
    let blank : Held = record { ref_ptr = (0, 0); now = [] } in
    let count : length (drop (i + 1) xs) ≡ length xs - (i + 1) = length-drop (i + 1) xs in
    let all : take (length xs - (i + 1)) (drop (i + 1) xs) ≡ drop (i + 1) xs =
    take_all (length xs - (i + 1)) (drop (i + 1) xs) (omega (arith, count)) in
    let next : suc i ≡ i + 1 = omega arith in
    pairs_on s done (cond b [] (pair_if (key_at xs i) (value_at s s.count (key_at xs i)))) now
    (key_at xs i) (keys (drop (i + 1) xs))
    (ap (λ t. cond t [] (pair_if (key_at xs i) (value_at s s.count (key_at xs i))))
    (is ∙ ap (λ ys. is_next (key_at xs i) (keys ys)) all)) grown
    ∙ ap (λ ys. done ++ pairs_at s (keys ys))
    (sym (drop-cons xs i blank within ∙ ap (λ n. get_or xs i blank ∷ drop n xs) next)) ∙ walked

pub pairs_all : (s : VersionTable) (xs : List Held) (i : ℕ) (done : List (List ℕ × List ℕ)) → length xs ≤ i
    → done ++ pairs_at s (keys (drop i xs)) ≡ pairs_at s (keys xs) → done ≡ pairs_at s (keys xs)
unfolding pairs_at
pairs_all s xs i done past walked =
    sym (append-nil done) ∙ ap (λ ys. done ++ pairs_at s (keys ys)) (sym (drop_all i xs past)) ∙ walked

less_as : (a b : List ℕ) (o : Ordering) → o ≡ slice_cmp nat_cmp a b → is_lt o ≡ key_below a b
unfolding key_below
less_as = same_from_slice_cmp nat_cmp is_lt key_below refl (λ _ _. refl) (λ _ _. refl)
    (λ x y xs ys o h. grind (arith, nat_tests))

sorted_behind : (x : Held) (xs : List Held) → IsSorted order (x ∷ xs) → IsSorted order xs
sorted_behind x xs h = λ k d low below.
    let next : suc k + 1 ≡ suc (k + 1) = omega arith in
    let within : suc k + 1 < length (x ∷ xs) = omega arith in
    subst (λ n. is_lt (order (get_or (x ∷ xs) n d) (get_or xs k d)) ≡ false) next
    (h (suc k) d (omega arith) within)

-- sorted keys do not fall
sorted_stay : (xs : List Held) → IsSorted order xs → keys_stay (keys xs) ≡ true
unfolding keys_stay
sorted_stay [] h = refl
sorted_stay (x ∷ xs) h = joined (goes_on x.now (keys xs)) (keys_stay (keys xs)) (first xs h)
    (sorted_stay xs (sorted_behind x xs h))
  where
    first : (ys : List Held) → IsSorted order (x ∷ ys) → goes_on x.now (keys ys) ≡ true
    first [] g = refl
    first (y ∷ ys) g = ap not (sym (less_as y.now x.now (order y x) refl) ∙ g 0 x (omega arith) (omega arith))

-- what follows of a value that is there
pub map_ok : {A E : Type 0} (P Q : A → Type 0) (r : Result A E) → IfOk r P → ((a : A) → P a → Q a) → IfOk r Q
map_ok P Q (Ok a) ok each = each a ok
map_ok P Q (Err e) ok each = tt

-- the pairs of sorted keys, of which each key with a value is one, are those of the data
pub sorted_pairs : (s : VersionTable) (ks : List (List ℕ)) (old new : List Held) → AreKeysOf s ks
    → keys old ≡ ks → IsPermutation old new → IsSorted order new
    → ArePairsOf s (pairs_at s (keys new))
sorted_pairs s ks old new all named moved sorted = record {
  rise = pairs_rise s (keys new) (sorted_stay new sorted);
  values = λ k. by_name k (list_any (same_bytes k) ks) refl;
}
  where
    stands : (k : List ℕ) (b : Bool) → list_any (same_bytes k) ks ≡ b
        → list_any (same_bytes k) (keys new) ≡ b
    stands k b is =
        sym (list_any-IsPermutation (same_bytes k) (keys old) (keys new)
        (IsPermutation-map (λ (j : Held). j.now) old new moved))
        ∙ ap (list_any (same_bytes k)) named ∙ is

    by_name : (k : List ℕ) (b : Bool) → list_any (same_bytes k) ks ≡ b
        → found_in (pairs_at s (keys new)) k ≡ value_at s s.count k
    by_name k true is = found_at s (keys new) k (stands k true is)
    by_name k false is = none_at s (keys new) k (all k is) ∙ sym (all k is)

-- a table of versions has a value only of its keys
pub keys_of_table : (es : List (Vec ℕ × Vec Version)) (ks : List (Vec ℕ)) (n : ℕ) (k : List ℕ)
    → ks ≡ map (λ (e : Vec ℕ × Vec Version). e.0) es
    → list_any (same_bytes k) (map (λ (q : Vec ℕ). q.items) ks) ≡ false
    → value_by n None (list_at (table_of es) k) ≡ None
unfolding value_by
keys_of_table es ks n k is none = ap (value_by n None) (empty es
    (ap (λ (qs : List (Vec ℕ)). list_any (same_bytes k) (map (λ (q : Vec ℕ). q.items) qs)) (sym is) ∙ none))
  where
    empty : (es : List (Vec ℕ × Vec Version))
        → list_any (same_bytes k) (map (λ (q : Vec ℕ). q.items) (map (λ (e : Vec ℕ × Vec Version). e.0) es))
        ≡ false
        → list_at (table_of es) k ≡ []
    empty [] h = refl
    empty (e ∷ es) h = by_test (same_bytes k e.0.items) refl h (empty es)
      where
        by_test : (b : Bool) → same_bytes k e.0.items ≡ b
            → (b || list_any (same_bytes k)
            (map (λ (q : Vec ℕ). q.items) (map (λ (e : Vec ℕ × Vec Version). e.0) es))) ≡ false
            → (list_any (same_bytes k)
            (map (λ (q : Vec ℕ). q.items) (map (λ (e : Vec ℕ × Vec Version). e.0) es)) ≡ false
            → list_at (table_of es) k ≡ [])
            → list_at (table_of (e ∷ es)) k ≡ []
        by_test true is h rest = absurd (cc)
        by_test false is h rest =
            ap (λ b. unwrap_or (cond b (Some e.1.items) (lookup (same_key k) (table_of es))) [])
            (bytes_are_same k e.0.items ∙ is) ∙ rest h
