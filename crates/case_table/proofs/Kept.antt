-- What a table keeps stays kept.
use Rattle.std.proofs.Common.{◌≡◌, ◌==◌, ◌&&◌, ◌||◌, not, ◌+◌, ◌++◌, ◌<◌, ◌⊎◌, ℕ, zero, suc, Bool, true, false, Option, None, Some, List, [], ◌∷◌, find, length, get_or, take, set, cond, refl, sym, ap, ◌∙◌, arith, inl, inr}
use Rattle.std.proofs.lemmas.Bool.{cases_eq}
use Rattle.std.proofs.lemmas.Grind.{common_steps}
use Rattle.smallvec.specs.SmallVec.{SmallVec}
use Rattle.protocol.specs.declared.names.Case.{Case}
use Rattle.protocol.specs.declared.names.Txn.{Txn}
use Rattle.protocol.specs.Names.{same_txn}
use Rattle.protocol.proofs.NameTests.{case_tells, txn_tells}
use Rattle.case_table.specs.Tables.{Agrees, AreApart, FindsKey, FindsBy, Inserts, IsLiveTable, Removes, Updates, entry_at, is_key, is_of_case, is_of_txn, listed_for, live_count, live_value}
use Rattle.case_table.proofs.Keys.{Agrees-inserted, Agrees-removed, is_key-push}
use Rattle.case_table.proofs.Writes.{Moves-inserted, Moves-removed, Updates-set, apart_changed, apart_inserted, apart_removed, live_at, live_found, live_nowhere, same_case-itself}

-- what is found among the keys passes the test
found_passes : (test : ℕ → Bool) (ks : List ℕ) (k : ℕ) → find test ks ≡ Some k → test k ≡ true
found_passes test [] k e = absurd (cc)
found_passes test (j ∷ ks) k e = by_test (test j) refl e (found_passes test ks k)
  where
    by_test : (b : Bool) → test j ≡ b → cond b (Some j) (find test ks) ≡ Some k
        → (find test ks ≡ Some k → test k ≡ true) → test k ≡ true
    by_test true is e rest = let same : j ≡ k = cc in ap test (sym same) ∙ is
    by_test false is e rest = rest e

-- if nothing is found no key passes the test
pub none_passes : (test : ℕ → Bool) (ks : List ℕ) → find test ks ≡ None → (k : ℕ)
    → is_key ks k ≡ true → test k ≡ false
unfolding is_key
none_passes test [] e k is = absurd (cc)
none_passes test (j ∷ ks) e k is = by_test (test j) refl e (none_passes test ks)
  where
    by_test : (b : Bool) → test j ≡ b → cond b (Some j) (find test ks) ≡ None
        → (find test ks ≡ None → (k : ℕ) → is_key ks k ≡ true → test k ≡ false) → test k ≡ false
    by_test true at e rest = absurd (cc)
    by_test false at e rest = elim (cases_eq k j) [
      | inl same ↦ ap test same ∙ at
      | inr differs ↦ rest e k (grind (arith, common_steps))
    ]

pub is_key-at : (ks : List ℕ) (i : ℕ) → i < length ks → is_key ks (get_or ks i 0) ≡ true
unfolding is_key
is_key-at [] i within = absurd (omega (arith, within))
is_key-at (j ∷ ks) zero within = grind (arith, common_steps)
is_key-at (j ∷ ks) (suc i) within = let later : is_key ks (get_or ks i 0) ≡ true =
    is_key-at ks i (omega (arith, within)) in grind (arith, common_steps, later)

-- a key among the first ones is the last of these or is before it
pub is_key-more : (ks : List ℕ) (i k : ℕ) → i < length ks → is_key (take (i + 1) ks) k ≡ true
    → (k ≡ get_or ks i 0) ⊎ (is_key (take i ks) k ≡ true)
is_key-more ks i k within is =
    let more : take (i + 1) ks ≡ take i ks ++ get_or ks i 0 ∷ [] = grind (arith, common_steps) in
    let parts : (is_key (take i ks) k || (get_or ks i 0 == k)) ≡ true =
    sym (is_key-push (take i ks) (get_or ks i 0) k) ∙ sym (ap (λ l. is_key l k) more) ∙ is in
    by_bool (is_key (take i ks) k) refl parts
  where
    by_bool : (b : Bool) → is_key (take i ks) k ≡ b → (b || (get_or ks i 0 == k)) ≡ true
        → (k ≡ get_or ks i 0) ⊎ (is_key (take i ks) k ≡ true)
    by_bool true e parts = inr e
    by_bool false e parts = inl (grind (arith, common_steps, parts))

module _ {V : Type 0} where
  -- the list of keys is right where each key has the same case
  agrees_changed : (old new : List (Option (Case × V))) (keys : List (Txn × SmallVec ℕ)) (key : ℕ)
      (c : Case) (before behind : V)
      → entry_at old key ≡ Some (c, before) → Updates old new key (Some (c, behind))
      → Agrees old keys → Agrees new keys
  agrees_changed old new keys key c before behind was updates agrees x k =
      agrees x k ∙ elim (cases_eq k key) [
        | inl same ↦
            ap (λ j. is_of_txn x (entry_at old j)) same ∙ ap (is_of_txn x) was
            ∙ sym (ap (is_of_txn x) updates.changed)
            ∙ sym (ap (λ j. is_of_txn x (entry_at new j)) same)
        | inr differs ↦ sym (ap (is_of_txn x) (updates.others k differs))
      ]

  pub IsKept-lent : (slots : List (Option (Case × V))) (keys : List (Txn × SmallVec ℕ))
      (key : ℕ) (p : Case × V) (w : V)
      → IsLiveTable slots keys → entry_at slots key ≡ Some p
      → IsLiveTable (set slots key (Some (p.0, w))) keys
  IsKept-lent slots keys key p w kept was =
      let updates = Updates-set slots key (Some (p.0, w)) (rw was refl) in
      record {
        agrees = agrees_changed slots (set slots key (Some (p.0, w))) keys key p.0
            p.1 w was updates kept.agrees;
        apart = apart_changed slots (set slots key (Some (p.0, w))) key p.0 p.1 w was updates kept.apart;
      }

  pub IsKept-inserted : (old new : List (Option (Case × V))) (keys keys' : List (Txn × SmallVec ℕ))
      (c : Case) (value : V) (key : ℕ)
      → IsLiveTable old keys → live_value old c ≡ None → entry_at old key ≡ None
      → Updates old new key (Some (c, value))
      → ((x : Txn) (k : ℕ) → listed_for x keys' k ≡ (listed_for x keys k || (same_txn c.txn x && (key == k))))
      → IsLiveTable new keys'
  IsKept-inserted old new keys keys' c value key kept none vacant updates added =
      record {
        agrees = Agrees-inserted old new keys keys' c value key kept.agrees vacant
            updates.changed updates.others added;
        apart = apart_inserted old new key c value none updates kept.apart;
      }

  pub Inserts-insert : (old new : List (Option (Case × V))) (keys : List (Txn × SmallVec ℕ))
      (c : Case) (value : V) (key : ℕ)
      → IsLiveTable old keys → live_value old c ≡ None → entry_at old key ≡ None
      → Updates old new key (Some (c, value))
      → live_count new ≡ live_count old + 1 → Inserts old new c value key
  Inserts-insert old new keys c value key kept none vacant updates counts =
      record {
        vacant = vacant;
        updates = updates;
        moves = Moves-inserted old new key c value none vacant
            updates kept.apart;
        counts = counts;
      }

  pub IsKept-removed : (old new : List (Option (Case × V))) (keys keys' : List (Txn × SmallVec ℕ))
      (c : Case) (value : V) (key : ℕ)
      → IsLiveTable old keys → entry_at old key ≡ Some (c, value) → Updates old new key None
      → ((x : Txn) (k : ℕ) → listed_for x keys' k
      ≡ (listed_for x keys k && not (same_txn c.txn x && (key == k))))
      → IsLiveTable new keys'
  IsKept-removed old new keys keys' c value key kept was updates dropped =
      record {
        agrees = Agrees-removed old new keys keys' c value key kept.agrees was
            updates.changed updates.others dropped;
        apart = apart_removed old new key updates kept.apart;
      }

  pub Removes-remove : (old new : List (Option (Case × V))) (keys : List (Txn × SmallVec ℕ))
      (c : Case) (value : V) (key : ℕ)
      → IsLiveTable old keys → entry_at old key ≡ Some (c, value) → Updates old new key None
      → live_count new + 1 ≡ live_count old → Removes old new key value
  Removes-remove old new keys c value key kept was updates counts =
      record {
        owner = c;
        was = was;
        updates = updates;
        moves = Moves-removed old new key c value was updates
            kept.apart;
        counts = counts;
      }

  -- an entry of a case is one of its transaction
  of_its_txn : (c : Case) (slot : Option (Case × V)) → is_of_case c slot ≡ true → is_of_txn c.txn slot ≡ true
  of_its_txn c None is = is
  of_its_txn c (Some p) is = let one : p.0 ≡ c = (case_tells p.0 c).0 is in rw one (itself c.txn)
    where
      itself : (x : Txn) → same_txn x x ≡ true
      itself x = (txn_tells x x).1 refl

  pub Finds-found : (slots : List (Option (Case × V))) (c : Case) (ks : List ℕ)
      (found : Option ℕ) → AreApart slots
      → ((k : ℕ) → is_key ks k ≡ is_of_txn c.txn (entry_at slots k))
      → found ≡ find (λ k. is_of_case c (entry_at slots k)) ks
      → FindsKey slots c found
  Finds-found slots c ks None apart keys e = live_nowhere slots c
      (λ k. by_bool k (is_of_case c (entry_at slots k)) refl)
    where
      by_bool : (k : ℕ) (b : Bool) → is_of_case c (entry_at slots k) ≡ b → b ≡ false
      by_bool k false is = refl
      by_bool k true is =
          let listed : is_key ks k ≡ true = keys k ∙ of_its_txn c (entry_at slots k) is in
          let not_there : is_of_case c (entry_at slots k) ≡ false =
          none_passes (λ k. is_of_case c (entry_at slots k)) ks (sym e) k listed in
          cc
  Finds-found slots c ks (Some k) apart keys e =
      by_entry (entry_at slots k) refl (found_passes (λ k. is_of_case c (entry_at slots k)) ks k (sym e))
    where
      by_entry : (slot : Option (Case × V)) → entry_at slots k ≡ slot → is_of_case c slot ≡ true
          → (v : V) × (entry_at slots k ≡ Some (c, v)) × (live_value slots c ≡ Some v)
      by_entry None at is = absurd (cc)
      by_entry (Some p) at is =
          let one : p.0 ≡ c = (case_tells p.0 c).0 is in
          (p.1, at ∙ ap (λ d. Some (d, p.1)) one, live_at slots c k p apart at is)

  pub FindsBy-none : (answers : V → Bool → Type 0) (slots : List (Option (Case × V))) (x : Txn) (ks : List ℕ)
      → ((k : ℕ) → is_key ks k ≡ is_of_txn x (entry_at slots k))
      → ((k : ℕ) (p : Case × V) → is_key ks k ≡ true → entry_at slots k ≡ Some p → answers p.1 false)
      → FindsBy answers slots x None
  FindsBy-none answers slots x ks keys fails = record { key = none }
    where
      none : (c : Case) (v : V) → live_value slots c ≡ Some v → same_txn c.txn x ≡ true → answers v false
      none c v live of_txn =
          let found = live_found slots c v live in
          let one : found.1 ≡ c = (case_tells found.1 c).0 found.3 in
          let listed : is_key ks found.0 ≡ true = keys found.0 ∙ ap (is_of_txn x) found.2
          ∙ ap (λ d. same_txn d.txn x) one ∙ of_txn in
          fails found.0 (found.1, v) listed found.2

  pub FindsBy-some : (answers : V → Bool → Type 0) (slots : List (Option (Case × V))) (x : Txn)
      (ks : List ℕ) (k : ℕ) (p : Case × V)
      → AreApart slots → ((k : ℕ) → is_key ks k ≡ is_of_txn x (entry_at slots k))
      → is_key ks k ≡ true → entry_at slots k ≡ Some p
      → answers p.1 true → FindsBy answers slots x (Some k)
  FindsBy-some answers slots x ks k p apart keys listed at passes =
      record {
        key = (
          p,
          at,
          live_at slots p.0 k p apart at (same_case-itself p.0),
          sym (ap (is_of_txn x) at)
              ∙ sym (keys k) ∙ listed,
          passes,
        );
      }
