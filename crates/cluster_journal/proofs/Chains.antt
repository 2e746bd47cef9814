-- The messages to one process, by their places.
use Rattle.std.proofs.Common.{◌≡◌, ◌≢◌, ◌⊎◌, ◌∙◌, ap, sym, subst, refl, inl, inr, ℕ, zero, suc, ◌+◌, ◌-◌, ◌<◌, ◌≤◌, Bool, true, false, if◌then◌else◌, Option, Some, None, List, [], ◌∷◌, ◌++◌, length, slice_set, arith}
use Rattle.std.specs.Prelude.{slice_get}
use Rattle.std.proofs.lemmas.List.{length-append, length-set}
use Rattle.std.proofs.lemmas.Option.{slice_get_within}
use Rattle.protocol.specs.declared.names.ProcessId.{ProcessId}
use Rattle.protocol.specs.Names.{same_process}
use Rattle.cluster_journal.specs.declared.marks.MarkedMessage.{MarkedMessage}
use Rattle.cluster_journal.specs.Marks.{IsNextTo, NoneOpen, NoneTo, first_open, is_open, is_open_by, is_open_to, is_to}
use Rattle.cluster_journal.proofs.Counts.{and_false, both_right, is_the_one}

-- Lists.

some_is : {A : Type 0} (a b : A) → Some a ≡ Some b → a ≡ b
some_is a b h = cc

pub three : (k p : ℕ) → (k < p) ⊎ ((k ≡ p) ⊎ (p < k))
three k p = grind arith

pub get_left : {A : Type 0} (xs ys : List A) (i : ℕ) → i < length xs → slice_get (xs ++ ys) i ≡ slice_get xs i
get_left [] ys i lt = absurd (omega (arith, lt))
get_left (x ∷ xs) ys zero lt = refl
get_left (x ∷ xs) ys (suc i) lt = get_left xs ys i (omega (arith, lt))

pub get_last : {A : Type 0} (xs : List A) (x : A) → slice_get (xs ++ x ∷ []) (length xs) ≡ Some x
get_last [] x = refl
get_last (y ∷ xs) x = get_last xs x

pub get_other : {A : Type 0} (xs : List A) (p k : ℕ) (y : A) → k ≢ p
    → slice_get (slice_set xs p y) k ≡ slice_get xs k
get_other [] p k y other = refl
get_other (x ∷ xs) zero zero y other = absurd (other refl)
get_other (x ∷ xs) zero (suc k) y other = refl
get_other (x ∷ xs) (suc p) zero y other = refl
get_other (x ∷ xs) (suc p) (suc k) y other = get_other xs p k y (λ e. other (ap suc e))

-- Tests.

pub within : (q : ProcessId) (ms : List MarkedMessage) (p : ℕ) → is_to q (slice_get ms p) ≡ true
    → p < length ms
within q ms p h = by (slice_get ms p) refl
  where
    by : (o : Option MarkedMessage) → slice_get ms p ≡ o → p < length ms
    by None e = absurd (let h2 = ap (is_to q) e in cc)
    by (Some m) e = slice_get_within ms p m e

-- what is sent to another process is no open message to this one
pub not_open : (q : ProcessId) (o : Option MarkedMessage) → is_to q o ≡ false → is_open_by q o ≡ false
not_open q None h = refl
not_open q (Some m) h = and_false (is_open m.mark) (same_process q m.to) h

-- Along a chain.

-- a walk along a chain has come so far: none from the lowest place on, and before this one, is open; None:
-- none is
abbrev pub IsReached : ProcessId → List MarkedMessage → ℕ → Option ℕ → Type 0
IsReached q ms lowest None = NoneOpen q ms lowest (length ms)
IsReached q ms lowest (Some p) = (is_to q (slice_get ms p) ≡ true) × NoneOpen q ms lowest p

none_past : (q : ProcessId) (ms : List MarkedMessage) (lowest p high : ℕ) → NoneOpen q ms lowest p
    → (lowest ≤ p → is_open_by q (slice_get ms p) ≡ false) → NoneTo q ms (suc p) high
    → NoneOpen q ms lowest high
none_past q ms lowest p high none here past k low less = elim (three k p) [
  | inl before ↦ none k low before
  | inr (inl same) ↦ subst (λ i. is_open_by q (slice_get ms i) ≡ false) (sym same)
      (here (omega (arith, low, same)))
  | inr (inr after) ↦ not_open q (slice_get ms k) (past k (omega (arith, after)) less)
]

-- where the message at a place is not the one that is looked for, the next one to its receiver may be
pub passes : (q : ProcessId) (ms : List MarkedMessage) (lowest p : ℕ) (m : MarkedMessage) (next : Option ℕ)
    → slice_get ms p ≡ Some m
    → is_to q (slice_get ms p) ≡ true → NoneOpen q ms lowest p → (lowest ≤ p → is_open_to q m ≡ false)
    → IsNextTo m.to ms p next → IsReached q ms lowest next
passes q ms lowest p m next at mine none closed after =
    by next (subst (λ t. IsNextTo t ms p next) (sym (is_the_one q m.to (sym (ap (is_to q) at) ∙ mine))) after)
  where
    here : lowest ≤ p → is_open_by q (slice_get ms p) ≡ false
    here low = ap (is_open_by q) at ∙ closed low

    by : (o : Option ℕ) → IsNextTo q ms p o → IsReached q ms lowest o
    by None h = none_past q ms lowest p (length ms) none here h
    by (Some n) h = (h.1, none_past q ms lowest p n none here h.2)

-- N messages are left at most
abbrev pub left : ℕ → Option ℕ → ℕ
left n None = 0
left n (Some p) = suc n - p

pub fewer : (q : ProcessId) (ms : List MarkedMessage) (p : ℕ) (next : Option ℕ) → p < length ms
    → IsNextTo q ms p next
    → left (length ms) next < left (length ms) (Some p)
fewer q ms p None lt h = omega (arith, lt)
fewer q ms p (Some n) lt h = let less = h.0 in omega (arith, lt, less)

-- What is found.

is_first : (b : Bool) (k : ℕ) (o : Option ℕ) → b ≡ true → (if b then Some k else o) ≡ Some k
is_first true k o h = refl
is_first false k o h = absurd (cc)

is_later : (b : Bool) (k : ℕ) (o : Option ℕ) → b ≡ false → (if b then Some k else o) ≡ o
is_later true k o h = absurd (cc)
is_later false k o h = refl

pub first_at : (q : ProcessId) (k : ℕ) (ms : List MarkedMessage) (p : ℕ)
    → is_open_by q (slice_get ms p) ≡ true
    → NoneOpen q ms 0 p → first_open q k ms ≡ Some (p + k)
first_at q k [] p opened none = absurd (cc)
first_at q k (m ∷ ms) zero opened none =
    is_first (is_open_to q m) k (first_open q (k + 1) ms) opened
    ∙ ap Some (let e : k ≡ zero + k = omega arith in e)
first_at q k (m ∷ ms) (suc p) opened none =
    is_later (is_open_to q m) k (first_open q (k + 1) ms) (none 0 (omega arith) (omega arith))
    ∙ first_at q (k + 1) ms p opened (λ i low less. none (suc i) (omega arith) (omega (arith, less)))
    ∙ ap Some (let e : p + (k + 1) ≡ suc p + k = omega arith in e)

pub first_is_none : (q : ProcessId) (k : ℕ) (ms : List MarkedMessage) → NoneOpen q ms 0 (length ms)
    → first_open q k ms ≡ None
first_is_none q k [] none = refl
first_is_none q k (m ∷ ms) none =
    is_later (is_open_to q m) k (first_open q (k + 1) ms) (none 0 (omega arith) (omega arith))
    ∙ first_is_none q (k + 1) ms (λ i low less. none (suc i) (omega arith) (omega (arith, less)))

-- A mark that is set.

pub to_set : (q : ProcessId) (ms : List MarkedMessage) (p k : ℕ) (m y : MarkedMessage)
    → slice_get ms p ≡ Some m → y.to ≡ m.to
    → is_to q (slice_get (slice_set ms p y) k) ≡ is_to q (slice_get ms k)
to_set q [] p k m y at same = refl
to_set q (x ∷ ms) zero zero m y at same =
    ap (same_process q) (same ∙ ap (λ z. z.to) (sym (some_is x m at)))
to_set q (x ∷ ms) zero (suc k) m y at same = refl
to_set q (x ∷ ms) (suc p) zero m y at same = refl
to_set q (x ∷ ms) (suc p) (suc k) m y at same = to_set q ms p k m y at same

pub none_to_set : (q : ProcessId) (ms : List MarkedMessage) (p low high : ℕ) (m y : MarkedMessage)
    → slice_get ms p ≡ Some m
    → y.to ≡ m.to → NoneTo q ms low high → NoneTo q (slice_set ms p y) low high
none_to_set q ms p low high m y at same none k more less = to_set q ms p k m y at same ∙ none k more less

pub next_set : (q : ProcessId) (ms : List MarkedMessage) (p k : ℕ) (m y : MarkedMessage) (next : Option ℕ)
    → slice_get ms p ≡ Some m
    → y.to ≡ m.to → IsNextTo q ms k next → IsNextTo q (slice_set ms p y) k next
next_set q ms p k m y None at same h =
    subst (λ n. NoneTo q (slice_set ms p y) (suc k) n) (sym (length-set ms p y))
    (none_to_set q ms p (suc k) (length ms) m y at same h)
next_set q ms p k m y (Some n) at same h =
    (h.0, to_set q ms p n m y at same ∙ h.1, none_to_set q ms p (suc k) n m y at same h.2)

-- a message that is not open to this process opens nothing to it
pub closed_set : (q : ProcessId) (ms : List MarkedMessage) (p low high : ℕ) (y : MarkedMessage)
    → is_open_to q y ≡ false
    → NoneOpen q ms low high → NoneOpen q (slice_set ms p y) low high
closed_set q ms p low high y closed none k more less = at ms p k (none k more less)
  where
    at : (xs : List MarkedMessage) (i j : ℕ) → is_open_by q (slice_get xs j) ≡ false
        → is_open_by q (slice_get (slice_set xs i y) j) ≡ false
    at [] i j h = h
    at (x ∷ xs) zero zero h = closed
    at (x ∷ xs) zero (suc j) h = h
    at (x ∷ xs) (suc i) zero h = h
    at (x ∷ xs) (suc i) (suc j) h = at xs i j h

-- nothing before a place is changed there
pub before_set : (q : ProcessId) (ms : List MarkedMessage) (p low high : ℕ) (y : MarkedMessage) → high ≤ p
    → NoneOpen q ms low high → NoneOpen q (slice_set ms p y) low high
before_set q ms p low high y le none k more less =
    ap (is_open_by q) (get_other ms p k y (λ e. absurd (omega (arith, e, less, le)))) ∙ none k more less

-- A message more.

pub to_push : (q : ProcessId) (ms : List MarkedMessage) (y : MarkedMessage) (k : ℕ)
    → is_to q (slice_get ms k) ≡ true
    → is_to q (slice_get (ms ++ y ∷ []) k) ≡ true
to_push q ms y k h = ap (is_to q) (get_left ms (y ∷ []) k (within q ms k h)) ∙ h

pub none_open_push : (q : ProcessId) (ms : List MarkedMessage) (y : MarkedMessage) (low high : ℕ)
    → high ≤ length ms
    → NoneOpen q ms low high → NoneOpen q (ms ++ y ∷ []) low high
none_open_push q ms y low high le none k more less =
    ap (is_open_by q) (get_left ms (y ∷ []) k (omega (arith, le, less))) ∙ none k more less

none_to_push : (q : ProcessId) (ms : List MarkedMessage) (y : MarkedMessage) (low high : ℕ) → high ≤ length ms
    → NoneTo q ms low high → NoneTo q (ms ++ y ∷ []) low high
none_to_push q ms y low high le none k more less =
    ap (is_to q) (get_left ms (y ∷ []) k (omega (arith, le, less))) ∙ none k more less

-- a message to another is none to this process
pub none_to_other : (q : ProcessId) (ms : List MarkedMessage) (y : MarkedMessage) (low : ℕ)
    → same_process q y.to ≡ false
    → NoneTo q ms low (length ms) → NoneTo q (ms ++ y ∷ []) low (length (ms ++ y ∷ []))
none_to_other q ms y low other none k more less = elim (three k (length ms)) [
  | inl before ↦ none_to_push q ms y low (length ms) (omega arith) none k more before
  | inr (inl same) ↦ ap (λ i. is_to q (slice_get (ms ++ y ∷ []) i)) same ∙ ap (is_to q) (get_last ms y)
      ∙ other
  | inr (inr after) ↦ let long = length-append ms (y ∷ []) in absurd (omega (arith, long, less, after))
]

-- the next message stays the next one, unless there was none and this one is it
pub next_push : (q : ProcessId) (ms : List MarkedMessage) (y : MarkedMessage) (k : ℕ) (next : Option ℕ)
    → IsNextTo q ms k next
    → (next ≡ None → same_process q y.to ≡ false) → IsNextTo q (ms ++ y ∷ []) k next
next_push q ms y k None h other = none_to_other q ms y (suc k) (other refl) h
next_push q ms y k (Some n) h other =
    let lt = within q ms n h.1 in
    (h.0, to_push q ms y n h.1, none_to_push q ms y (suc k) n (omega (arith, lt)) h.2)

-- after the last message to its receiver the new one is the next
pub next_last : (q : ProcessId) (ms : List MarkedMessage) (y : MarkedMessage) (k : ℕ) → k < length ms
    → same_process q y.to ≡ true
    → NoneTo q ms (suc k) (length ms) → IsNextTo q (ms ++ y ∷ []) k (Some (length ms))
next_last q ms y k lt mine none =
    (lt, ap (is_to q) (get_last ms y) ∙ mine, none_to_push q ms y (suc k) (length ms) (omega arith) none)

-- after the new one there is none
pub next_new : (q : ProcessId) (ms : List MarkedMessage) (y : MarkedMessage)
    → IsNextTo q (ms ++ y ∷ []) (length ms) None
next_new q ms y k more less = let long = length-append ms (y ∷ []) in absurd (omega (arith, long, more, less))

-- a message to this process that is not the last one has a next one
pub has_next : (q : ProcessId) (ms : List MarkedMessage) (k last : ℕ) (next : Option ℕ)
    → is_to q (slice_get ms k) ≡ true
    → is_to q (slice_get ms last) ≡ true → NoneTo q ms (suc last) (length ms) → k ≢ last
    → IsNextTo q ms k next
    → next ≡ None → ⊥
has_next q ms k last next mine ends none other h is = elim (three k last) [
  | inl before ↦
      let not_so = subst (λ o. IsNextTo q ms k o) is h last (omega (arith, before)) (within q ms last ends) in
      absurd (cc)
  | inr (inl same) ↦ absurd (other same)
  | inr (inr after) ↦ let not_so = none k (omega (arith, after)) (within q ms k mine) in absurd (cc)
]

-- an open message to a process is one to it
pub is_to_open : (q : ProcessId) (o : Option MarkedMessage) → is_open_by q o ≡ true → is_to q o ≡ true
is_to_open q None h = absurd (cc)
is_to_open q (Some m) h = both_right (is_open m.mark) (same_process q m.to) h
