-- What the versions of one key say, when some more are after them.
use Rattle.std.proofs.Common.{◌≡◌, ℕ, zero, suc, ◌+◌, ◌-◌, ◌≤◌, ◌<◌, true, false, Option, List, [], ◌∷◌, ◌++◌, length, slice_index_or, refl, sym, ap, ◌∙◌, arith}
use Rattle.std.proofs.lemmas.Grind.{common_steps}
use Rattle.std.proofs.lemmas.Bool.Decides.{nat_tests}
use Rattle.std.specs.List.Sorted.{IsPartitionedBy}
use Rattle.protocol.specs.declared.records.Write.{Write}
use Rattle.kv_store.specs.declared.version.Version.{Version}
use Rattle.kv_store.specs.Versions.{IsPlace, is_up_to, made, names_key, none_above, rises_from, up_to, value_by, written}

-- of versions none of which is above, all stay
pub all_stay : (n : ℕ) (vs : List Version) → none_above n vs ≡ true → up_to n vs ≡ vs
all_stay n [] h = refl
all_stay n (v ∷ vs) h = grind (arith, common_steps, nat_tests, all_stay n vs)

-- those made at a later count go, and no other
pub made_go : (n : ℕ) (vs : List Version) (ws : List Write) (k : List ℕ) → none_above n vs ≡ true
    → up_to n (vs ++ made (n + 1) ws k) ≡ vs
unfolding made
made_go n [] [] k h = refl
made_go n [] (w ∷ ws) k h = grind (arith, common_steps, nat_tests, made_go n [] ws k)
made_go n (v ∷ vs) ws k h = grind (arith, common_steps, nat_tests, made_go n vs ws k)

-- if none is above, the last version counts, also with others after it that are above
pub value_front : (n : ℕ) (b : Option (List ℕ)) (vs : List Version) (ws : List Write) (k : List ℕ) (m : ℕ)
    → m < n
    → value_by m b (vs ++ made n ws k) ≡ value_by m b vs
unfolding made value_by
value_front n b [] [] k m below = refl
value_front n b [] (w ∷ ws) k m below = grind (arith, common_steps, nat_tests, value_front n b [] ws k m)
value_front n b (v ∷ vs) ws k m below = grind
    (arith, common_steps, nat_tests, value_front n v.value vs ws k m)

-- the value after versions none of which is above is that of the last of those after them
pub value_behind : (n : ℕ) (b : Option (List ℕ)) (vs us : List Version) → none_above n vs ≡ true
    → value_by n b (vs ++ us) ≡ value_by n (value_by n b vs) us
unfolding value_by
value_behind n b [] us h = refl
value_behind n b (v ∷ vs) us h = grind (arith, common_steps, nat_tests, value_behind n v.value vs us)

-- the value of the versions that writes make is what the writes leave
pub value_made : (n : ℕ) (b : Option (List ℕ)) (ws : List Write) (k : List ℕ)
    → value_by n b (made n ws k) ≡ written ws k b
unfolding made written value_by
value_made n b [] k = refl
value_made n b (w ∷ ws) k = grind (
  arith,
  common_steps,
  nat_tests,
  value_made n b ws
      k,
  value_made n w.value ws k,
)

-- a value does not change where more commits are counted of which there is no version
pub value_later : (n m : ℕ) (b : Option (List ℕ)) (vs : List Version) → none_above n vs ≡ true → n ≤ m
    → value_by m b vs ≡ value_by n b vs
unfolding value_by
value_later n m b [] h le = refl
value_later n m b (v ∷ vs) h le = grind (arith, common_steps, nat_tests, value_later n m v.value vs)

pub rises_made : (n m : ℕ) (vs : List Version) (ws : List Write) (k : List ℕ) → rises_from m vs ≡ true
    → none_above n vs ≡ true → m ≤ n
    → rises_from m (vs ++ made n ws k) ≡ true
unfolding rises_from made
rises_made n m [] [] k h all le = refl
rises_made n m [] (w ∷ ws) k h all le = grind
    (arith, common_steps, nat_tests, rises_made n m [] ws k, rises_made n n [] ws k)
rises_made n m (v ∷ vs) ws k h all le = grind (arith, common_steps, nat_tests, rises_made n v.count vs ws k)

pub none_above_made : (n : ℕ) (vs : List Version) (ws : List Write) (k : List ℕ) → none_above n vs ≡ true
    → none_above n (vs ++ made n ws k) ≡ true
unfolding made
none_above_made n [] [] k all = refl
none_above_made n [] (w ∷ ws) k all = grind (arith, common_steps, nat_tests, none_above_made n [] ws k)
none_above_made n (v ∷ vs) ws k all = grind (arith, common_steps, nat_tests, none_above_made n vs ws k)

pub none_above_later : (n : ℕ) (vs : List Version) → none_above n vs ≡ true → none_above (n + 1) vs ≡ true
none_above_later n [] h = refl
none_above_later n (v ∷ vs) h = grind (arith, common_steps, nat_tests, none_above_later n vs)

pub made_none : (n : ℕ) (ws : List Write) (k : List ℕ) → names_key ws k ≡ false → made n ws k ≡ []
unfolding made
made_none n [] k h = refl
made_none n (w ∷ ws) k h = grind (arith, common_steps, made_none n ws k)

-- The place that halving finds.

rises_down : (m n : ℕ) (vs : List Version) → m ≤ n → rises_from n vs ≡ true → rises_from m vs ≡ true
unfolding rises_from
rises_down m n [] le h = refl
rises_down m n (v ∷ vs) le h = grind (arith, common_steps, nat_tests)

all_from : (m : ℕ) (vs : List Version) (j : ℕ) (d : Version) → rises_from m vs ≡ true → j < length vs
    → m ≤ (slice_index_or vs j d).count
unfolding rises_from
all_from m [] j d h within = absurd (omega arith)
all_from m (v ∷ vs) zero d h within = grind (arith, common_steps, nat_tests)
all_from m (v ∷ vs) (suc j) d h within = all_from m vs j d (rises_down m v.count vs
    (grind (arith, common_steps, nat_tests)) (grind (arith, common_steps, nat_tests))) (omega arith)

pub rising_is_partitioned : (n m : ℕ) (vs : List Version) → rises_from m vs ≡ true
    → IsPartitionedBy (is_up_to n) vs
unfolding rises_from
rising_is_partitioned n m [] h i j d le within up = absurd (omega arith)
rising_is_partitioned n m (v ∷ vs) h zero zero d le within up = up
rising_is_partitioned n m (v ∷ vs) h zero (suc j) d le within up =
    let least : v.count ≤ (slice_index_or vs j d).count =
    all_from v.count vs j d (grind (arith, common_steps, nat_tests)) (omega arith) in
    grind (arith, common_steps, nat_tests)
rising_is_partitioned n m (v ∷ vs) h (suc i) zero d le within up = absurd (omega arith)
rising_is_partitioned n m (v ∷ vs) h (suc i) (suc j) d le within up =
    rising_is_partitioned n v.count vs (grind (arith, common_steps, nat_tests)) i j d
    (omega arith) (omega arith) up

-- the value of the version before a place, or what was before all
abbrev pub before_place : Option (List ℕ) → List Version → ℕ → Version → Option (List ℕ)
before_place b vs zero d = b
before_place b vs (suc j) d = (slice_index_or vs j d).value

pub value_at_place : (n : ℕ) (b : Option (List ℕ)) (vs : List Version) (i : ℕ) (d : Version) → IsPlace n vs i
    → value_by n b vs ≡ before_place b vs i d
unfolding value_by
value_at_place n b [] zero d h = refl
value_at_place n b [] (suc i) d h = absurd (let le = h.0 in omega arith)
value_at_place n b (v ∷ vs) zero d h =
    let above : is_up_to n v ≡ false = h.1.1 0 d (omega arith) (omega arith) in
    grind (arith, common_steps, nat_tests)
value_at_place n b (v ∷ vs) (suc i) d h =
    let within : is_up_to n v ≡ true = h.1.0 0 d (omega arith) (omega arith) in
    let le : suc i ≤ length (v ∷ vs) = h.0 in
    let rest : IsPlace n vs i = (
      omega arith,
      (
        (λ k e low high. h.1.0 (suc k) e (omega arith) (omega arith)),
        (λ k e low high. h.1.1 (suc k) e (omega arith) (omega arith)),
      ),
    ) in
    let here : value_by n b (v ∷ vs) ≡ value_by n v.value vs = grind (arith, common_steps, nat_tests) in
    here ∙ value_at_place n v.value vs i d rest ∙ by_place i
  where
    by_place : (i : ℕ) → before_place v.value vs i d ≡ (slice_index_or (v ∷ vs) i d).value
    by_place zero = refl
    by_place (suc j) = refl

pub value_past : (n : ℕ) (b : Option (List ℕ)) (vs : List Version) (i : ℕ) (d : Version) → IsPlace n vs i
    → 0 < i
    → value_by n b vs ≡ (slice_index_or vs (i - 1) d).value
value_past n b vs zero d h some = absurd (omega arith)
value_past n b vs (suc j) d h some =
    let one_less : suc j - 1 ≡ j = omega arith in
    value_at_place n b vs (suc j) d h ∙ ap (λ m. (slice_index_or vs m d).value) (sym one_less)
