-- The active tickets, key by key.
use Rattle.std.proofs.Common.{◌≡◌, ◌≢◌, ◌⊎◌, ℕ, zero, suc, Bool, true, false, Option, None, Some, [], ◌∷◌, refl, sym, ap, ◌∙◌, arith, inl, inr, if◌then◌else◌}
use Rattle.std.proofs.lemmas.Bool.{cases_eq}
use Rattle.protocol.specs.declared.names.Case.{Case}
use Rattle.case_table.specs.Tables.{Updates, entry_at}
use Rattle.coord_cases.specs.declared.held.Held.{Held}
use Rattle.coord_cases.specs.Cases.{Slots, entry_ticket, is_for, is_given, ticket_if, ticket_in}

-- no two keys were given for the parent's case
abbrev pub One : Slots → Case → Type 0
One slots d = (j k : ℕ) → is_given d (entry_at slots j) ≡ true → is_given d (entry_at slots k) ≡ true → j ≡ k

one_behind : (slot : Option (Case × Held)) (slots : Slots) (d : Case) → One (slot ∷ slots) d → One slots d
one_behind slot slots d one j k here there = let same : suc j ≡ suc k =
    one (suc j) (suc k) here there in omega (arith, same)

-- what a key was given for is active
pub ticket_is : (slots : Slots) (d : Case) (k : ℕ) → One slots d → is_given d (entry_at slots k) ≡ true
    → ticket_in slots d ≡ entry_ticket (entry_at slots k)
unfolding ticket_in
ticket_is [] d k one given = absurd (cc)
ticket_is (slot ∷ slots) d zero one given = by_slot slot given
  where
    by_slot : (s : Option (Case × Held)) → is_given d s ≡ true
        → ticket_if d s (ticket_in slots d) ≡ entry_ticket s
    by_slot None given = absurd (cc)
    by_slot (Some p) given = rw given refl
ticket_is (slot ∷ slots) d (suc k) one given =
    by_slot slot one (ticket_is slots d k (one_behind slot slots d one) given)
  where
    by_slot : (s : Option (Case × Held)) → One (s ∷ slots) d → ticket_in slots d ≡ entry_ticket
        (entry_at slots k) → ticket_if d s (ticket_in slots d) ≡ entry_ticket (entry_at slots k)
    by_slot None one later = later
    by_slot (Some p) one later = by_test (is_for d p.1.given_for) refl
      where
        by_test : (b : Bool) → is_for d p.1.given_for ≡ b
            → (if b then p.0.ticket else ticket_in slots d) ≡ entry_ticket (entry_at slots k)
        by_test true here = let clash : 0 ≡ suc k = one 0 (suc k) here given in absurd (omega (arith, clash))
        by_test false here = later

-- if no key was given for it there is no active ticket
pub ticket_none : (slots : Slots) (d : Case) → ((k : ℕ)
    → is_given d (entry_at slots k) ≡ false) → ticket_in slots d ≡ None
unfolding ticket_in
ticket_none [] d none = refl
ticket_none (slot ∷ slots) d none = by_slot slot (none 0) (ticket_none slots d (λ k. none (suc k)))
  where
    by_slot : (s : Option (Case × Held)) → is_given d s ≡ false → ticket_in slots d ≡ None
        → ticket_if d s (ticket_in slots d) ≡ None
    by_slot None here later = later
    by_slot (Some p) here later = rw here later

-- some key was given for it, or none
pub given_or_none : (slots : Slots) (d : Case)
    → ((k : ℕ) × (is_given d (entry_at slots k) ≡ true)) ⊎ ((k : ℕ) → is_given d (entry_at slots k) ≡ false)
given_or_none [] d = inr (λ k. refl)
given_or_none (slot ∷ slots) d = by_slot (is_given d slot) refl (given_or_none slots d)
  where
    by_slot : (b : Bool) → is_given d slot ≡ b → ((k : ℕ) × (is_given d (entry_at slots k) ≡ true)) ⊎
        ((k : ℕ) → is_given d (entry_at slots k) ≡ false)
        → ((k : ℕ) × (is_given d (entry_at (slot ∷ slots) k) ≡ true)) ⊎
        ((k : ℕ) → is_given d (entry_at (slot ∷ slots) k) ≡ false)
    by_slot true e later = inl (0, e)
    by_slot false e (inl there) = inl (suc there.0, there.1)
    by_slot false e (inr none) = inr behind
      where
        behind : (k : ℕ) → is_given d (entry_at (slot ∷ slots) k) ≡ false
        behind zero = e
        behind (suc k) = none k

-- a change of one key that was not given for it and is not now leaves the active ticket
pub ticket_stays : (old new : Slots) (key : ℕ) (slot : Option (Case × Held)) (d : Case) → One old d
    → One new d → Updates old new key slot
    → is_given d (entry_at old key) ≡ false → is_given d slot ≡ false → ticket_in new d ≡ ticket_in old d
ticket_stays old new key slot d one one' updates before behind =
    elim (given_or_none old d) [
      | inl there ↦
          let differs : there.0 ≢ key = λ same. absurd (let not_here : is_given d (entry_at old there.0)
          ≡ false = ap (λ k. is_given d (entry_at old k)) same ∙ before in cc) in
          let stays = updates.others there.0 differs in
          ticket_is new d there.0 one' (ap (is_given d) stays ∙ there.1) ∙ ap entry_ticket stays
          ∙ sym (ticket_is old d there.0 one there.1)
      | inr none ↦
          ticket_none new d (λ k.
          elim (cases_eq k key) [
            | inl same ↦ ap (λ j. is_given d (entry_at new j)) same ∙ ap (is_given d) updates.changed ∙ behind
            | inr differs ↦ ap (is_given d) (updates.others k differs) ∙ none k
          ]) ∙ sym (ticket_none old d none)
    ]

-- a change of one key that is not given for it keeps the others apart
pub one_stays : (old new : Slots) (key : ℕ) (slot : Option (Case × Held)) (d : Case)
    → One old d → Updates old new key slot
    → is_given d slot ≡ false → One new d
one_stays old new key slot d one updates behind j k here there = one j k (stood j here) (stood k there)
  where
    stood : (i : ℕ) → is_given d (entry_at new i) ≡ true → is_given d (entry_at old i) ≡ true
    stood i is =
        elim (cases_eq i key) [
          | inl same ↦
              let gone : is_given d (entry_at new i) ≡ false = ap (λ j. is_given d (entry_at new j)) same
              ∙ ap (is_given d) updates.changed ∙ behind in
              absurd (cc)
          | inr differs ↦ sym (ap (is_given d) (updates.others i differs)) ∙ is
        ]

-- the first key that is given for it is the only one
pub one_given : (old new : Slots) (key : ℕ) (slot : Option (Case × Held)) (d : Case)
    → ((k : ℕ) → is_given d (entry_at old k) ≡ false) → Updates old new key slot → One new d
one_given old new key slot d none updates j k here there = at j here ∙ sym (at k there)
  where
    at : (i : ℕ) → is_given d (entry_at new i) ≡ true → i ≡ key
    at i is =
        elim (cases_eq i key) [
          | inl same ↦ same
          | inr differs ↦
              let nothing : is_given d (entry_at new i) ≡ false =
              ap (is_given d) (updates.others i differs) ∙ none i in
              absurd (cc)
        ]
