-- A write to one key.
use Rattle.std.proofs.Common.{◌≡◌, ◌≢◌, ◌+◌, ℕ, zero, suc, ◌<◌, cond, Bool, true, false, Option, None, Some, IsSome, is_some, List, [], ◌∷◌, length, set, refl, subst, sym, ap, ◌∙◌, arith, inl, inr}
use Rattle.std.proofs.lemmas.Bool.{cases_eq}
use Rattle.std.proofs.lemmas.List.Sums.{sum_by-cons}
use Rattle.std.proofs.lemmas.List.{get_or-set_same, get_or-set_other, get_or_past}
use Rattle.protocol.specs.declared.names.Case.{Case}
use Rattle.protocol.specs.Names.{same_case}
use Rattle.protocol.proofs.NameTests.{case_tells}
use Rattle.case_table.specs.Tables.{AreApart, Changes, MovesValue, Updates, entry_at, if_of_case, is_of_case, live_count, live_value, value_at, value_of}
use Rattle.case_table.specs.Lends.{rewritten, with_value}

-- two cases that are one are of the same values
pub same_case-itself : (c : Case) → same_case c c ≡ true
same_case-itself c = (case_tells c c).1 refl

module _ {V : Type 0} where
  -- a live value is at some key
  pub live_found : (slots : List (Option (Case × V))) (c : Case) (v : V) → live_value slots c ≡ Some v
      → (k : ℕ) × (d : Case) × (entry_at slots k ≡ Some (d, v)) × (same_case d c ≡ true)
  unfolding live_value
  live_found [] c v e = absurd (cc)
  live_found (None ∷ slots) c v e =
      let rest = live_found slots c v e in (suc rest.0, rest.1, rest.2, rest.3)
  live_found (Some p ∷ slots) c v e = by_test (same_case p.0 c) refl (live_found slots c v) e
    where
      by_test : (b : Bool) → same_case p.0 c ≡ b → (live_value slots c ≡ Some v → (k : ℕ) × (d : Case)
          × (entry_at slots k ≡ Some (d, v)) × (same_case d c ≡ true))
          → if_of_case c (Some p) (live_value slots c) ≡ Some v
          → (k : ℕ) × (d : Case) × (entry_at (Some p ∷ slots) k ≡ Some (d, v)) × (same_case d c ≡ true)
      by_test true is again e =
          let found : Some p.1 ≡ Some v = sym (rw is refl) ∙ e in
          let value : p.1 ≡ v = cc in
          (0, p.0, ap (λ w. Some (p.0, w)) value, is)
      by_test false is again e =
          let rest = again (sym (rw is refl) ∙ e) in (suc rest.0, rest.1, rest.2, rest.3)

  -- where there is a value, there is an entry of some case
  pub entry_of : (slots : List (Option (Case × V))) (k : ℕ) (v : V) → value_at slots k ≡ Some v → (d : Case)
      × (entry_at slots k ≡ Some (d, v))
  entry_of slots k v e = by_entry (entry_at slots k) refl e
    where
      by_entry : (slot : Option (Case × V)) → entry_at slots k ≡ slot → value_of slot ≡ Some v → (d : Case)
          × (entry_at slots k ≡ Some (d, v))
      by_entry None at e = absurd (cc)
      by_entry (Some p) at e = let same : p.1 ≡ v = cc in (p.0, at ∙ ap (λ w. Some (p.0, w)) same)

  pub apart_behind : (slot : Option (Case × V)) (slots : List (Option (Case × V)))
      → AreApart (slot ∷ slots) → AreApart slots
  apart_behind slot slots apart c j k here there = let same : suc j ≡ suc k =
      apart c (suc j) (suc k) here there in omega (arith, same)

  -- what is at a key is live
  pub live_at : (slots : List (Option (Case × V))) (c : Case) (k : ℕ) (p : Case × V)
      → AreApart slots → entry_at slots k ≡ Some p
      → same_case p.0 c ≡ true → live_value slots c ≡ Some p.1
  unfolding live_value
  live_at [] c k p apart e is = absurd (cc)
  live_at (slot ∷ slots) c zero p apart e is = ap (λ s. if_of_case c s (live_value slots c)) e ∙ rw is refl
  live_at (slot ∷ slots) c (suc k) p apart e is =
      by_slot slot apart (live_at slots c k p (apart_behind slot slots apart) e is)
    where
      by_slot : (s : Option (Case × V)) → AreApart (s ∷ slots) → live_value slots c ≡ Some p.1
          → if_of_case c s (live_value slots c) ≡ Some p.1
      by_slot None apart later = later
      by_slot (Some q) apart later = by_test (same_case q.0 c) refl
        where
          by_test : (b : Bool) → same_case q.0 c ≡ b → if_of_case c (Some q) (live_value slots c) ≡ Some p.1
          by_test true here =
              let there : is_of_case c (entry_at slots k) ≡ true = ap (is_of_case c) e ∙ is in
              let one : 0 ≡ suc k = apart c 0 (suc k) here there in
              absurd (omega (arith, one))
          by_test false here = rw here later

  -- if no key has it, a case is not live
  pub live_nowhere : (slots : List (Option (Case × V))) (c : Case)
      → ((k : ℕ) → is_of_case c (entry_at slots k) ≡ false) → live_value slots c ≡ None
  unfolding live_value
  live_nowhere [] c none = refl
  live_nowhere (slot ∷ slots) c none = by_slot slot (none 0) (live_nowhere slots c (λ k. none (suc k)))
    where
      by_slot : (s : Option (Case × V)) → is_of_case c s ≡ false → live_value slots c ≡ None
          → if_of_case c s (live_value slots c) ≡ None
      by_slot None here later = later
      by_slot (Some p) here later = rw here later

  -- a case that is not live is under no key
  pub nowhere_live : (slots : List (Option (Case × V))) (c : Case) → AreApart slots
      → live_value slots c ≡ None → (k : ℕ) → is_of_case c (entry_at slots k) ≡ false
  nowhere_live slots c apart none k = by_entry (entry_at slots k) refl
    where
      by_entry : (found : Option (Case × V)) → entry_at slots k ≡ found → is_of_case c found ≡ false
      by_entry None e = refl
      by_entry (Some p) e = by_test (same_case p.0 c) refl
        where
          by_test : (b : Bool) → same_case p.0 c ≡ b → same_case p.0 c ≡ false
          by_test true is = let live : live_value slots c ≡ Some p.1 =
              live_at slots c k p apart e is in absurd (cc)
          by_test false is = is

  -- a change at one key moves no case that is neither before nor after it there
  pub live_elsewhere : (old new : List (Option (Case × V))) (key : ℕ) (slot : Option (Case × V)) (d : Case)
      → AreApart old → AreApart new
      → Updates old new key slot → is_of_case d (entry_at old key) ≡ false → is_of_case d slot ≡ false
      → live_value new d ≡ live_value old d
  live_elsewhere old new key slot d apart apart' updates before behind = by_value (live_value old d) refl
    where
      by_value : (found : Option V) → live_value old d ≡ found → live_value new d ≡ found
      by_value None e = live_nowhere new d (λ k.
          elim (cases_eq k key) [
            | inl same ↦ ap (λ j. is_of_case d (entry_at new j)) same
                ∙ ap (is_of_case d) updates.changed ∙ behind
            | inr differs ↦ ap (is_of_case d) (updates.others k differs) ∙ nowhere_live old d apart e k
          ])
      by_value (Some v) e =
          let found = live_found old d v e in
          let here : is_of_case d (entry_at old found.0) ≡ true = ap (is_of_case d) found.2 ∙ found.3 in
          let differs : found.0 ≢ key = λ same. absurd (let not_here : is_of_case d (entry_at old found.0)
          ≡ false = ap (λ j. is_of_case d (entry_at old j)) same ∙ before in cc) in
          live_at new d found.0 (found.1, v) apart' (updates.others found.0 differs ∙ found.2) found.3

  pub Updates-set : (slots : List (Option (Case × V))) (key : ℕ) (slot : Option (Case × V))
      → IsSome (entry_at slots key)
      → Updates slots (set slots key slot) key slot
  Updates-set slots key slot there =
      let within : key < length slots = grind (arith, get_or_past) in
      record {
        changed = get_or-set_same slots key slot None within;
        others = λ k differs. get_or-set_other slots key k slot None differs;
      }

  -- with the same cases at the same keys they stay apart
  apart_same : (old new : List (Option (Case × V)))
      → ((d : Case) (k : ℕ) → is_of_case d (entry_at new k) ≡ is_of_case d (entry_at old k))
      → AreApart old → AreApart new
  apart_same old new same apart d j k here there =
      apart d j k (sym (same d j) ∙ here) (sym (same d k) ∙ there)

  -- a new value of the same case moves it alone
  pub apart_changed : (old new : List (Option (Case × V))) (key : ℕ) (c : Case) (before behind : V)
      → entry_at old key ≡ Some (c, before)
      → Updates old new key (Some (c, behind)) → AreApart old → AreApart new
  apart_changed old new key c before behind was updates apart = apart_same old new (λ d k.
      elim (cases_eq k key) [
        | inl same ↦
            ap (λ j. is_of_case d (entry_at new j)) same ∙ ap (is_of_case d) updates.changed
            ∙ sym (ap (is_of_case d) was)
            ∙ sym (ap (λ j. is_of_case d (entry_at old j)) same)
        | inr differs ↦ ap (is_of_case d) (updates.others k differs)
      ]) apart

  pub Moves-changed : (old new : List (Option (Case × V))) (key : ℕ) (c : Case) (before behind : V)
      → entry_at old key ≡ Some (c, before)
      → Updates old new key (Some (c, behind)) → AreApart old → MovesValue old new c (Some behind)
  Moves-changed old new key c before behind was updates apart =
      let apart' = apart_changed old new key c before behind was updates apart in
      record {
        own = live_at new c key (c, behind) apart' updates.changed (same_case-itself c);
        others = λ d differs. live_elsewhere old new key (Some (c, behind)) d apart apart' updates
            (ap (is_of_case d) was ∙ differs) differs;
      }

  -- 1 for an entry, as it is counted
  abbrev one_for : Option (Case × V) → ℕ
  one_for slot = cond (is_some slot) 1 0

  pub counted : (slot : Option (Case × V)) (slots : List (Option (Case × V)))
      → live_count (slot ∷ slots) ≡ one_for slot + live_count slots
  counted slot slots = sum_by-cons one_for slot slots

  -- where values are at the same keys, as many cases are live
  count_same : (old new : List (Option (Case × V)))
      → ((k : ℕ) → is_some (entry_at new k) ≡ is_some (entry_at old k)) → live_count new ≡ live_count old
  count_same [] [] same = refl
  count_same [] (b ∷ new) same =
      let here : one_for b ≡ 0 = ap (λ t. cond t 1 0) (same 0) in
      let rest : live_count new ≡ 0 = count_same [] new (λ k. same (suc k)) in
      omega (arith, counted b new, here, rest)
  count_same (a ∷ old) [] same =
      let here : one_for a ≡ 0 = sym (ap (λ t. cond t 1 0) (same 0)) in
      let rest : live_count old ≡ 0 = sym (count_same old [] (λ k. same (suc k))) in
      omega (arith, counted a old, here, rest)
  count_same (a ∷ old) (b ∷ new) same =
      let here : one_for b ≡ one_for a = ap (λ t. cond t 1 0) (same 0) in
      let rest : live_count new ≡ live_count old = count_same old new (λ k. same (suc k)) in
      omega (arith, counted a old, counted b new, here, rest)

  -- with a new value of the same case as many cases are live
  pub live_count-changed : (old new : List (Option (Case × V))) (key : ℕ) (c : Case) (before behind : V)
      → entry_at old key ≡ Some (c, before)
      → Updates old new key (Some (c, behind)) → live_count new ≡ live_count old
  live_count-changed old new key c before behind was updates = count_same old new (λ k.
      elim (cases_eq k key) [
        | inl same ↦
            ap (λ j. is_some (entry_at new j)) same ∙ ap is_some updates.changed
            ∙ sym (ap is_some was)
            ∙ sym (ap (λ j. is_some (entry_at old j)) same)
        | inr differs ↦ ap is_some (updates.others k differs)
      ])

  -- a value that goes moves its case alone
  pub apart_removed : (old new : List (Option (Case × V))) (key : ℕ) → Updates old new key None
      → AreApart old → AreApart new
  apart_removed old new key updates apart d j k here there = apart d j k (stood j here) (stood k there)
    where
      stood : (i : ℕ) → is_of_case d (entry_at new i) ≡ true → is_of_case d (entry_at old i) ≡ true
      stood i is =
          elim (cases_eq i key) [
            | inl same ↦
                let gone : is_of_case d (entry_at new i) ≡ false =
                ap (λ j. is_of_case d (entry_at new j)) same ∙ ap (is_of_case d) updates.changed in
                absurd (cc)
            | inr differs ↦ sym (ap (is_of_case d) (updates.others i differs)) ∙ is
          ]

  pub Moves-removed : (old new : List (Option (Case × V))) (key : ℕ) (c : Case) (value : V)
      → entry_at old key ≡ Some (c, value)
      → Updates old new key None → AreApart old → MovesValue old new c None
  Moves-removed old new key c value was updates apart =
      let apart' = apart_removed old new key updates apart in
      record {
        own = live_nowhere new c (λ k.
            elim (cases_eq k key) [
              | inl same ↦ ap (λ j. is_of_case c (entry_at new j)) same ∙ ap (is_of_case c) updates.changed
              | inr differs ↦ elsewhere k differs (is_of_case c (entry_at new k)) refl
            ]);
        others = λ d differs. live_elsewhere old new key None d apart apart' updates
            (ap (is_of_case d) was ∙ differs) refl;
      }
    where
      elsewhere : (k : ℕ) → k ≢ key → (b : Bool) → is_of_case c (entry_at new k) ≡ b → b ≡ false
      elsewhere k differs false is = refl
      elsewhere k differs true is =
          let here : is_of_case c (entry_at old key) ≡ true = ap (is_of_case c) was ∙ same_case-itself c in
          let there : is_of_case c (entry_at old k) ≡ true =
          sym (ap (is_of_case c) (updates.others k differs)) ∙ is in
          absurd (differs (apart c k key there here))

  -- a new value of a case that was not live moves that case alone
  pub apart_inserted : (old new : List (Option (Case × V))) (key : ℕ) (c : Case)
      (value : V) → live_value old c ≡ None
      → Updates old new key (Some (c, value)) → AreApart old → AreApart new
  apart_inserted old new key c value none updates apart d j k here there =
      elim (cases_eq j key) [
        | inl same ↦ elim (cases_eq k key) [
          | inl same' ↦ same
              ∙ sym same'
          | inr differs ↦ absurd (clash j k same differs here there)
        ]
        | inr differs ↦ elim (cases_eq k key) [
          | inl same ↦ absurd (clash k j same differs there here)
          | inr differs' ↦ apart d j k (sym (ap (is_of_case d) (updates.others j differs)) ∙ here)
              (sym (ap (is_of_case d) (updates.others k differs')) ∙ there)
        ]
      ]
    where
      clash : (i m : ℕ) → i ≡ key → m ≢ key → is_of_case d (entry_at new i) ≡ true
          → is_of_case d (entry_at new m) ≡ true → ⊥
      clash i m same differs at_key elsewhere =
          let is : same_case c d ≡ true = sym
          (ap (λ i. is_of_case d (entry_at new i)) same ∙ ap (is_of_case d) updates.changed) ∙ at_key in
          let one : c ≡ d = (case_tells c d).0 is in
          let stood : is_of_case d (entry_at old m) ≡ true =
          sym (ap (is_of_case d) (updates.others m differs)) ∙ elsewhere in
          let nowhere : is_of_case d (entry_at old m) ≡ false =
          ap (λ e. is_of_case e (entry_at old m)) (sym one) ∙ nowhere_live old c apart none m in
          cc

  pub Moves-inserted : (old new : List (Option (Case × V))) (key : ℕ) (c : Case) (value : V)
      → live_value old c ≡ None → entry_at old key ≡ None
      → Updates old new key (Some (c, value)) → AreApart old → MovesValue old new c (Some value)
  Moves-inserted old new key c value none vacant updates apart =
      let apart' = apart_inserted old new key c value none updates apart in
      record {
        own = live_at new c key (c, value) apart' updates.changed (same_case-itself c);
        others = λ d differs. live_elsewhere old new key (Some (c, value)) d apart apart' updates
            (ap (is_of_case d) vacant) differs;
      }

  -- what is lent at a key is a value of the same case
  pub Changes-with_value : (slots : List (Option (Case × V))) (key : ℕ) (before w : V) (c : Case)
      → entry_at slots key ≡ Some (c, before) → AreApart slots
      → Changes slots (with_value slots key w) key before w
  Changes-with_value slots key before w c was apart =
      let there : IsSome (entry_at slots key) = rw was refl in
      let updates : Updates slots (with_value slots key w) key (Some (c, w)) =
      subst (λ e. Updates slots (with_value slots key w) key (rewritten e w)) was
      (Updates-set slots key (rewritten (entry_at slots key) w) there) in
      record {
        owner = c;
        was = was;
        updates = updates;
        moves = Moves-changed slots (with_value slots key w)
            key c before w was updates apart;
      }
