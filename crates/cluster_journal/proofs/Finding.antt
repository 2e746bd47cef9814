-- A message is found where its spot says.
use Rattle.std.proofs.Common.{◌≡◌, ◌⊎◌, ◌∙◌, ap, sym, refl, inl, inr, ℕ, zero, suc, ◌+◌, ◌-◌, ◌<◌, ◌≤◌, Option, Some, None, List, [], ◌∷◌, ◌++◌, length, length-append, append_assoc, append-nil, drop, get_or, subst, take, arith}
use Rattle.std.proofs.Common.{add-one}
use Rattle.std.proofs.Math.Seq.{drop-cons}
use Rattle.std.specs.Prelude.{slice_get}
use Rattle.std.specs.Global.{Vec}
use Rattle.protocol.specs.declared.events.JournalEntry.{JournalEntry}
use Rattle.protocol.specs.declared.messages.Envelope.{Envelope}
use Rattle.protocol.specs.Plays.{sent_as}
use Rattle.tree_state.specs.Cuts.{net_of}
use Rattle.cluster_journal.specs.declared.spots.Spot.{Spot}
use Rattle.cluster_journal.specs.Journals.{entries_of}
use Rattle.cluster_turns.specs.Turns.{all_of}
use Rattle.cluster_turns.proofs.Gathered.{all_more}
use Rattle.cluster_journal.specs.Spots.{AreFound, entry_of, first_of, message_in, message_of, spots_at, spots_in, spots_of}

-- Lists.

get_left : {A : Type 0} (xs ys : List A) (i : ℕ) → i < length xs → slice_get (xs ++ ys) i ≡ slice_get xs i
get_left [] ys i lt = absurd (omega arith)
get_left (x ∷ xs) ys zero lt = refl
get_left (x ∷ xs) ys (suc i) lt = get_left xs ys i (omega arith)

get_right : {A : Type 0} (xs ys : List A) (i : ℕ) → slice_get (xs ++ ys) (length xs + i) ≡ slice_get ys i
get_right [] ys i = ap (λ k. slice_get ys k) (let z : 0 + i ≡ i = omega arith in z)
get_right (x ∷ xs) ys i =
    let next : length (x ∷ xs) + i ≡ suc (length xs + i) = omega arith in
    ap (λ k. slice_get (x ∷ xs ++ ys) k) next ∙ get_right xs ys i

-- a list of no values
pub empty : {A : Type 0} (xs : List A) → length xs ≡ 0 → xs ≡ []
empty [] h = refl
empty (x ∷ xs) h = absurd (omega (arith, h))

-- a number that is not 0
pub positive : (n : ℕ) → (n ≡ 0 → ⊥) → 0 < n
positive zero h = absurd (h refl)
positive (suc k) h = omega arith

-- what is looked up first is what comes first
pub same_first : {A : Type 0} (all rest : List A) (a b : A) → all ≡ b ∷ rest → a ≡ get_or all 0 a → a ≡ b
same_first all rest a b is at = at ∙ ap (λ l. get_or l 0 a) is

-- Spots of one entry.

-- one spot more
pub spots_more : (t n m : ℕ) → spots_at t n m ++ record { turn = t; entry = n; message = m } ∷ []
    ≡ spots_at t n (m + 1)
spots_more t n m = ap (λ k. spots_at t n k) (let s : suc m ≡ m + 1 = omega arith in s)

pub length_spots : (t n m : ℕ) → length (spots_at t n m) ≡ m
length_spots t n zero = refl
length_spots t n (suc m) =
    length-append (spots_at t n m) (record { turn = t; entry = n; message = m } ∷ [])
    ∙ (let l = length_spots t n m in omega arith)

spot_at : (t n m k : ℕ) → k < m → slice_get (spots_at t n m) k
    ≡ Some (record { turn = t; entry = n; message = k })
spot_at t n zero k lt = absurd (omega arith)
spot_at t n (suc m) k lt =
    let long = length_spots t n m in
    let one : Spot = record { turn = t; entry = n; message = m } in
    elim (le_or k m lt) [
      | inl less ↦ get_left (spots_at t n m) (one ∷ []) k (omega (arith, less, long)) ∙ spot_at t n m k less
      | inr same ↦
          let at : k ≡ length (spots_at t n m) + 0 = omega (arith, same, long) in
          ap (λ j. slice_get (spots_at t n m ++ one ∷ []) j) at ∙ get_right (spots_at t n m) (one ∷ []) 0
          ∙ ap (λ j. Some (record { turn = t; entry = n; message = j })) (sym same)
    ]
  where
    le_or : (k m : ℕ) → k < suc m → (k < m) ⊎ (k ≡ m)
    le_or k m lt = grind arith

less_or : (k m : ℕ) → (k < m) ⊎ (m ≤ k)
less_or k m = grind arith

-- Spots of one turn.

-- the message by its spot in a turn, if there is one
abbrev pub by_spot : ℕ → List (ℕ × JournalEntry) → Option Spot → Option Envelope
by_spot n xs None = None
by_spot n xs (Some s) = message_of (slice_get xs (s.entry - n)) s.message

-- each spot names the turn, and no earlier entry
record StandsIn (t n : ℕ) (s : Spot) : Type 0 where
  pub turn : s.turn ≡ t
  pub later : n ≤ s.entry

stands_in : (t n : ℕ) (xs : List (ℕ × JournalEntry)) (k : ℕ) (s : Spot)
    → slice_get (spots_in t n xs) k ≡ Some s
    → StandsIn t n s
stands_in t n [] k s h = absurd (cc)
stands_in t n (x ∷ xs) k s h =
    let m = length x.1.reaction.messages in
    let long = length_spots t n m in
    elim (less_or k m) [
      | inl less ↦
          let at = sym (spot_at t n m k less)
          ∙ (sym (get_left (spots_at t n m) (spots_in t (suc n) xs) k (omega (arith, less, long))) ∙ h) in
          let same : n ≡ s.entry = some_entry (record { turn = t; entry = n; message = k }) s at in
          record {
            turn = sym (some_turn (record { turn = t; entry = n; message = k }) s at);
            later = omega (arith, same);
          }
      | inr more ↦
          let j = k - m in
          let at : k ≡ length (spots_at t n m) + j = omega (arith, more, long) in
          let there = sym (get_right (spots_at t n m) (spots_in t (suc n) xs) j)
          ∙ (ap (λ i. slice_get (spots_at t n m ++ spots_in t (suc n) xs) i) (sym at) ∙ h) in
          let rest = stands_in t (suc n) xs j s there in
          let low = rest.later in
          record { turn = rest.turn; later = omega (arith, low) }
    ]
  where
    some_entry : (a b : Spot) → Some a ≡ Some b → a.entry ≡ b.entry
    some_entry a b e = cc

    some_turn : (a b : Spot) → Some a ≡ Some b → a.turn ≡ b.turn
    some_turn a b e = cc

-- an entry more at the front
shifted : (n : ℕ) (x : ℕ × JournalEntry) (xs : List (ℕ × JournalEntry)) (o : Option Spot)
    → ((s : Spot) → o ≡ Some s → suc n ≤ s.entry) → by_spot (suc n) xs o ≡ by_spot n (x ∷ xs) o
shifted n x xs None low = refl
shifted n x xs (Some s) low =
    let up = low s refl in
    let at : s.entry - n ≡ suc (s.entry - suc n) = omega (arith, up) in
    ap (λ i. message_of (slice_get (x ∷ xs) i) s.message) (sym at)

-- a message of a turn is found by its spot
found_in : (t n : ℕ) (xs : List (ℕ × JournalEntry)) (k : ℕ)
    → slice_get (net_of (entries_of xs)) k ≡ by_spot n xs (slice_get (spots_in t n xs) k)
found_in t n [] k = refl
found_in t n (x ∷ xs) k =
    let ls = x.1.reaction.messages in
    let m = length ls in
    let long = length_spots t n m in
    elim (less_or k m) [
      | inl less ↦
          let spot = get_left (spots_at t n m) (spots_in t (suc n) xs) k (omega (arith, less, long))
          ∙ spot_at t n m k less in
          let none : n - n ≡ 0 = omega arith in
          get_left ls (net_of (entries_of xs)) k less
          ∙ ap (λ i. message_of (slice_get (x ∷ xs) i) k) (sym none)
          ∙ ap (λ o. by_spot n (x ∷ xs) o) (sym spot)
      | inr more ↦
          let j = k - m in
          let at : k ≡ m + j = omega (arith, more) in
          let over : k ≡ length (spots_at t n m) + j = omega (arith, more, long) in
          let spot : slice_get (spots_in t n (x ∷ xs)) k ≡ slice_get (spots_in t (suc n) xs) j =
          ap (λ i. slice_get (spots_in t n (x ∷ xs)) i) over
          ∙ get_right (spots_at t n m) (spots_in t (suc n) xs) j in
          ap (λ i. slice_get (ls ++ net_of (entries_of xs)) i) at ∙ get_right ls (net_of (entries_of xs)) j
          ∙ found_in t (suc n) xs j
          ∙ shifted n x xs (slice_get (spots_in t (suc n) xs) j) (λ s h. (stands_in t (suc n) xs j s h).later)
          ∙ ap (λ o. by_spot n (x ∷ xs) o) (sym spot)
    ]

-- a turn has as many spots as messages
length_in : (t n : ℕ) (xs : List (ℕ × JournalEntry))
    → length (spots_in t n xs) ≡ length (net_of (entries_of xs))
length_in t n [] = refl
length_in t n (x ∷ xs) =
    let m = length x.1.reaction.messages in
    let here = length-append (spots_at t n m) (spots_in t (suc n) xs) in
    let there = length-append x.1.reaction.messages (net_of (entries_of xs)) in
    let long = length_spots t n m in
    let rest = length_in t (suc n) xs in
    omega (arith, here, there, long, rest)

-- Spots of turns.

-- the message by its spot, if there is one
abbrev pub by_turn : ℕ → List (Vec (ℕ × JournalEntry)) → Option Spot → Option Envelope
by_turn t es None = None
by_turn t es (Some s) = message_of (entry_of (slice_get es (s.turn - t)) s.entry) s.message

-- the messages of more entries
pub net_both : (xs ys : List (ℕ × JournalEntry))
    → net_of (entries_of (xs ++ ys)) ≡ net_of (entries_of xs) ++ net_of (entries_of ys)
net_both [] ys = refl
net_both (x ∷ xs) ys =
    ap (λ l. x.1.reaction.messages ++ l) (net_both xs ys)
    ∙ sym (append_assoc x.1.reaction.messages (net_of (entries_of xs)) (net_of (entries_of ys)))

-- no spot of later turns names an earlier one
later_turn : (t : ℕ) (es : List (Vec (ℕ × JournalEntry))) (k : ℕ) (s : Spot)
    → slice_get (spots_of t es) k ≡ Some s
    → t ≤ s.turn
later_turn t [] k s h = absurd (cc)
later_turn t (e ∷ es) k s h =
    let here = spots_in t 0 e.items in
    elim (less_or k (length here)) [
      | inl less ↦
          let same = (stands_in t 0 e.items k s (sym (get_left here (spots_of (suc t) es) k less) ∙ h)).turn
          in
          omega (arith, same)
      | inr more ↦
          let j = k - length here in
          let at : k ≡ length here + j = omega (arith, more) in
          let low = later_turn (suc t) es j s (sym (get_right here (spots_of (suc t) es) j)
          ∙ (ap (λ i. slice_get (here ++ spots_of (suc t) es) i) (sym at) ∙ h)) in
          omega (arith, low)
    ]

-- a turn more at the front
turn_shifted : (t : ℕ) (e : Vec (ℕ × JournalEntry)) (es : List (Vec (ℕ × JournalEntry))) (o : Option Spot)
    → ((s : Spot) → o ≡ Some s → suc t ≤ s.turn) → by_turn (suc t) es o ≡ by_turn t (e ∷ es) o
turn_shifted t e es None low = refl
turn_shifted t e es (Some s) low =
    let up = low s refl in
    let at : s.turn - t ≡ suc (s.turn - suc t) = omega (arith, up) in
    ap (λ i. message_of (entry_of (slice_get (e ∷ es) i) s.entry) s.message) (sym at)

-- the spot is of the first turn
in_first : (t : ℕ) (e : Vec (ℕ × JournalEntry)) (es : List (Vec (ℕ × JournalEntry))) (o : Option Spot)
    → ((s : Spot) → o ≡ Some s → s.turn ≡ t) → by_spot 0 e.items o ≡ by_turn t (e ∷ es) o
in_first t e es None is = refl
in_first t e es (Some s) is =
    let same = is s refl in
    let none : s.turn - t ≡ 0 = omega (arith, same) in
    let z : s.entry - 0 ≡ s.entry = omega arith in
    ap (λ i. message_of (slice_get e.items i) s.message) z
    ∙ ap (λ i. message_of (entry_of (slice_get (e ∷ es) i) s.entry) s.message) (sym none)

-- a message of the net is found by its spot
found_by : (t : ℕ) (es : List (Vec (ℕ × JournalEntry))) (k : ℕ)
    → slice_get (net_of (entries_of (all_of es))) k ≡ by_turn t es (slice_get (spots_of t es) k)
found_by t [] k = refl
found_by t (e ∷ es) k =
    let ls = net_of (entries_of e.items) in
    let rest = net_of (entries_of (all_of es)) in
    let here = spots_in t 0 e.items in
    let long = length_in t 0 e.items in
    let both = net_both e.items (all_of es) in
    elim (less_or k (length ls)) [
      | inl less ↦
          ap (λ l. slice_get l k) both ∙ get_left ls rest k less ∙ found_in t 0 e.items k
          ∙ in_first t e es (slice_get here k) (λ s h. (stands_in t 0 e.items k s h).turn)
          ∙ ap (λ o. by_turn t (e ∷ es) o) (sym (get_left here (spots_of (suc t) es) k
          (omega (arith, less, long))))
      | inr more ↦
          let j = k - length ls in
          let at : k ≡ length ls + j = omega (arith, more) in
          let over : k ≡ length here + j = omega (arith, more, long) in
          let spot : slice_get (spots_of t (e ∷ es)) k ≡ slice_get (spots_of (suc t) es) j =
          ap (λ i. slice_get (spots_of t (e ∷ es)) i) over ∙ get_right here (spots_of (suc t) es) j in
          ap (λ l. slice_get l k) both ∙ ap (λ i. slice_get (ls ++ rest) i) at ∙ get_right ls rest j
          ∙ found_by (suc t) es j
          ∙ turn_shifted t e es (slice_get (spots_of (suc t) es) j) (λ s h. later_turn (suc t) es j s h)
          ∙ ap (λ o. by_turn t (e ∷ es) o) (sym spot)
    ]

-- the message with a number, by the spot before it
abbrev pub message_by : List (Vec (ℕ × JournalEntry)) → Option Spot → Option Envelope
message_by es None = None
message_by es (Some s) = message_in es s

zeroed : (es : List (Vec (ℕ × JournalEntry))) (o : Option Spot) → by_turn 0 es o ≡ message_by es o
zeroed es None = refl
zeroed es (Some s) =
    let z : s.turn - 0 ≡ s.turn = omega arith in
    ap (λ i. message_of (entry_of (slice_get es i) s.entry) s.message) z

pub found : (es : List (Vec (ℕ × JournalEntry))) (number : ℕ) → 0 < number
    → sent_as (net_of (entries_of (all_of es))) number
    ≡ message_by es (slice_get (spots_of 0 es) (number - 1))
found es zero lt = absurd (omega arith)
found es (suc k) lt =
    let one : suc k - 1 ≡ k = omega arith in
    found_by 0 es k ∙ zeroed es (slice_get (spots_of 0 es) k)
    ∙ ap (λ i. message_by es (slice_get (spots_of 0 es) i)) (sym one)

-- there are as many spots as messages
pub spots_sent : (t : ℕ) (es : List (Vec (ℕ × JournalEntry)))
    → length (spots_of t es) ≡ length (net_of (entries_of (all_of es)))
spots_sent t [] = refl
spots_sent t (e ∷ es) =
    let here = length-append (spots_in t 0 e.items) (spots_of (suc t) es) in
    let there = ap length (net_both e.items (all_of es))
    ∙ length-append (net_of (entries_of e.items)) (net_of (entries_of (all_of es))) in
    let long = length_in t 0 e.items in
    let rest = spots_sent (suc t) es in
    omega (arith, here, there, long, rest)

-- One turn more.

more_turns : (t : ℕ) (es : List (Vec (ℕ × JournalEntry))) (e : Vec (ℕ × JournalEntry))
    → spots_of t es ++ spots_in (t + length es) 0 e.items ≡ spots_of t (es ++ e ∷ [])
more_turns t [] e =
    ap (λ k. spots_in k 0 e.items) (let z : t + 0 ≡ t = omega arith in z)
    ∙ sym (append-nil (spots_in t 0 e.items))
more_turns t (f ∷ es) e =
    let mine = spots_in t 0 f.items in
    append_assoc mine (spots_of (suc t) es) (spots_in (t + length (f ∷ es)) 0 e.items)
    ∙ ap (λ l. mine ++ l)
    (ap (λ k. spots_of (suc t) es ++ spots_in k 0 e.items)
    (let s : t + length (f ∷ es) ≡ suc t + length es = omega arith in s) ∙ more_turns (suc t) es e)

-- the spots of one turn more
last_turn : (es : List (Vec (ℕ × JournalEntry))) (e : Vec (ℕ × JournalEntry))
    → spots_of 0 es ++ spots_in (length es) 0 e.items ≡ spots_of 0 (es ++ e ∷ [])
last_turn es e =
    let z : length es ≡ 0 + length es = omega arith in
    ap (λ k. spots_of 0 es ++ spots_in k 0 e.items) z ∙ more_turns 0 es e

drop_none : {A : Type 0} (xs : List A) (n : ℕ) → xs ≡ [] → drop n xs ≡ []
drop_none [] zero h = refl
drop_none [] (suc n) h = refl
drop_none (x ∷ xs) n h = absurd (cc)

-- if no turn is late all are found
none_late : (placed late : List (Vec (ℕ × JournalEntry))) (n : ℕ) (spots : List Spot)
    → AreFound placed late n spots
    → first_of late ≡ [] → take 1 late ≡ [] → spots ≡ spots_of 0 placed
none_late placed late n spots h none front =
    sym (append-nil spots)
    ∙ ap (λ l. spots ++ spots_in (length placed) n l) (sym (drop_none (first_of late) n none))
    ∙ h.all ∙ ap (λ l. spots_of 0 (placed ++ l)) front ∙ ap (spots_of 0) (append-nil placed)

pub all_found : (placed late : List (Vec (ℕ × JournalEntry))) (n : ℕ) (spots : List Spot)
    → AreFound placed late n spots → late ≡ [] → spots ≡ spots_of 0 placed
all_found placed late n spots h none = none_late placed late n spots h (ap first_of none) (ap (take 1) none)

-- the next turn is found whole, and placed
pub turn_found : (placed rest : List (Vec (ℕ × JournalEntry))) (e : Vec (ℕ × JournalEntry))
    (xs : List (ℕ × JournalEntry)) (found : ℕ)
    (spots : List Spot) → xs ≡ e.items → found ≡ length xs
    → spots ++ spots_in (length placed) found (drop found xs) ≡ spots_of 0 (placed ++ e ∷ [])
    → AreFound (placed ++ e ∷ []) rest 0 spots
turn_found placed rest e xs found spots same is all =
    let past : drop found xs ≡ [] = drop_all xs found is in
    let are : spots ≡ spots_of 0 (placed ++ e ∷ []) =
    sym (append-nil spots) ∙ ap (λ l. spots ++ spots_in (length placed) found l) (sym past) ∙ all in
    next rest are
  where
    drop_all : (ys : List (ℕ × JournalEntry)) (n : ℕ) → n ≡ length ys → drop n ys ≡ []
    drop_all [] zero h = refl
    drop_all [] (suc n) h = refl
    drop_all (y ∷ ys) zero h = absurd (omega (arith, h))
    drop_all (y ∷ ys) (suc n) h = drop_all ys n (omega (arith, h))

    next : (rest : List (Vec (ℕ × JournalEntry))) → spots ≡ spots_of 0 (placed ++ e ∷ [])
        → AreFound (placed ++ e ∷ []) rest 0 spots
    next [] are = record {
      within = omega arith;
      all = append-nil spots ∙ are ∙ ap (spots_of 0) (sym (append-nil (placed ++ e ∷ [])));
    }
    next (f ∷ fs) are = record {
      within = omega arith;
      all = ap (λ l. l ++ spots_in (length (placed ++ e ∷ [])) 0 f.items) are
          ∙ last_turn (placed ++ e ∷ []) f;
    }

-- so it is once the first late turn's entries are found
pub next_turn : (placed late rest : List (Vec (ℕ × JournalEntry))) (e : Vec (ℕ × JournalEntry))
    (xs : List (ℕ × JournalEntry)) (n m : ℕ)
    (old new : List Spot) → late ≡ e ∷ rest → xs ≡ e.items → AreFound placed late n old → m ≡ length xs
    → new ++ spots_in (length placed) m (drop m xs) ≡ old ++ spots_in (length placed) n (drop n xs)
    → AreFound (placed ++ e ∷ []) rest 0 new
next_turn placed late rest e xs n m old new late_is same h whole all =
    turn_found placed rest e xs m new same whole
    (all ∙ ap (λ l. old ++ spots_in (length placed) n (drop n l)) same
    ∙ (subst (λ l. AreFound placed l n old) late_is h).all)

-- a turn more is late
pub still_found : (placed late : List (Vec (ℕ × JournalEntry))) (e : Vec (ℕ × JournalEntry)) (found : ℕ)
    (spots : List Spot)
    → AreFound placed late found spots → AreFound placed (late ++ e ∷ []) found spots
still_found placed [] e found spots h =
    let low = h.within in
    let zero_is : found ≡ 0 = omega (arith, low) in
    let are = all_found placed [] found spots h refl in
    subst (λ n. AreFound placed (e ∷ []) n spots) (sym zero_is) (record {
      within = omega arith;
      all = ap (λ l. l ++ spots_in (length placed) 0 e.items) are ∙ last_turn placed e;
    })
still_found placed (f ∷ fs) e found spots h = record { within = h.within; all = h.all }

-- One entry more is found.

dropped_at : (xs : List (ℕ × JournalEntry)) (i : ℕ) (d : ℕ × JournalEntry) → i < length xs
    → drop i xs ≡ get_or xs i d ∷ drop (i + 1) xs
dropped_at xs i d within = rw add-one (drop-cons xs i d within)

pub found_more : (t : ℕ) (old new total : List Spot) (xs : List (ℕ × JournalEntry)) (i m : ℕ)
    (d : ℕ × JournalEntry)
    → i < length xs → m ≡ length (get_or xs i d).1.reaction.messages → new ≡ old ++ spots_at t i m
    → old ++ spots_in t i (drop i xs) ≡ total → new ++ spots_in t (i + 1) (drop (i + 1) xs) ≡ total
found_more t old new total xs i m d lt count added all =
    let rest = drop (i + 1) xs in
    let next : i + 1 ≡ suc i = omega arith in
    ap (λ l. l ++ spots_in t (i + 1) rest) added
    ∙ append_assoc old (spots_at t i m) (spots_in t (i + 1) rest)
    ∙ ap (λ n. old ++ (spots_at t i m ++ spots_in t n rest)) next
    ∙ ap (λ n. old ++ (spots_at t i n ++ spots_in t (suc i) rest)) count
    ∙ ap (λ l. old ++ spots_in t i l) (sym (dropped_at xs i d lt))
    ∙ all

-- the entries stay where the next turn is placed
pub all_moved : (placed rest : List (Vec (ℕ × JournalEntry))) (e : Vec (ℕ × JournalEntry))
    → all_of (placed ++ e ∷ []) ++ all_of rest ≡ all_of placed ++ all_of (e ∷ rest)
all_moved placed rest e =
    ap (λ l. l ++ all_of rest) (all_more placed e) ∙ append_assoc (all_of placed) e.items (all_of rest)
