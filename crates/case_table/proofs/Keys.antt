-- Lists of keys, and what a map of them says of each transaction.
use Rattle.std.proofs.Common.{◌≡◌, ℕ, ◌==◌, Bool, true, false, not, ◌&&◌, ◌||◌, cond, Option, None, Some, List, [], ◌∷◌, ◌++◌, filter, length, subst, refl, sym, ap, ◌∙◌, arith, ◌≢◌, inl, inr}
use Rattle.std.proofs.lemmas.Grind.{common_steps}
use Rattle.std.proofs.lemmas.Bool.{cases_eq}
use Rattle.std.proofs.lemmas.List.Folds.{list_any-append}
use Rattle.std.specs.List.Retain.{RetainsInTurn}
use Rattle.std.specs.Map.{lookup}
use Rattle.smallvec.specs.SmallVec.{SmallVec}
use Rattle.protocol.specs.declared.names.Txn.{Txn}
use Rattle.protocol.specs.Names.{same_txn}
use Rattle.protocol.proofs.Equality.{txn_equality}
use Rattle.protocol.proofs.NameTests.{txn_tells}
use Rattle.protocol.specs.contracts.names.TxnPartialEq.TheImpl as txns
use Rattle.protocol.specs.declared.names.Case.{Case}
use Rattle.case_table.specs.Tables.{Agrees, entry_at, is_key, is_of_txn, listed, listed_for}

pub ruleset keys_and_names = (list_any-append, txn_equality)

-- where no call changes the closure or the element, `retain` leaves what passes the test
pub filter-from_retain : {X F : Type 0} (R : F → X → Bool → F → X → Type 0) (test : X → Bool) (f : F)
    → ((x : X) (b : Bool) (f' : F) (y : X) → R f x b f' y → (b ≡ test x) × (f' ≡ f) × (y ≡ x))
    → (xs ys : List X) → RetainsInTurn R f xs ys → ys ≡ filter test xs
filter-from_retain R test f says [] ys h = h
filter-from_retain R test f says (x ∷ xs) ys h =
    let said = says x h.0 h.1 h.2 h.3 in
    let later = subst (λ g. RetainsInTurn R g xs h.4) said.1 h.5 in
    let rest = filter-from_retain R test f says xs h.4 later in
    h.6 ∙ (λ i. cond (said.0 i) (said.2 i ∷ rest i) (rest i))

pub is_key-without : (ks : List ℕ) (key k : ℕ)
    → is_key (filter (λ j. not (j == key)) ks) k ≡ (is_key ks k && not (key == k))
unfolding is_key
is_key-without [] key k = refl
is_key-without (j ∷ ks) key k = grind (arith, common_steps, is_key-without ks key k)

pub is_key-push : (ks : List ℕ) (key k : ℕ) → is_key (ks ++ key ∷ []) k ≡ (is_key ks k || (key == k))
unfolding is_key
is_key-push [] key k = grind (arith, common_steps)
is_key-push (j ∷ ks) key k = grind (arith, common_steps, is_key-push ks key k)

-- each transaction has the list that it had, and this one the list ls
abbrev pub Writes : Txn → List (Txn × SmallVec ℕ) → List (Txn × SmallVec ℕ) → SmallVec ℕ → Type 0
Writes t es fs ls = (q : Txn) → lookup (txns.ghosts.eq q) fs
    ≡ cond (txns.ghosts.eq t q) (Some ls) (lookup (txns.ghosts.eq q) es)

written_at : (t x : Txn) (es fs : List (Txn × SmallVec ℕ)) (ls : SmallVec ℕ) (k : ℕ) → Writes t es fs ls
    → listed_for x fs k ≡ cond (same_txn t x) (is_key ls.items k) (listed_for x es k)
written_at t x es fs ls k writes = by_test (same_txn t x) (txn_equality t x)
  where
    by_test : (b : Bool) → txns.ghosts.eq t x ≡ b
        → listed_for x fs k ≡ cond b (is_key ls.items k) (listed_for x es k)
    by_test true e = rw (writes x, e) refl
    by_test false e = rw (writes x, e) refl

-- a list of no keys
pub is_key-empty : (ks : List ℕ) (k : ℕ) → length ks ≡ 0 → is_key ks k ≡ false
unfolding is_key
is_key-empty [] k empty = refl
is_key-empty (j ∷ ks) k empty = grind (arith, common_steps, empty)

-- the same transaction has the same list
listed_same : (t x : Txn) (es : List (Txn × SmallVec ℕ)) (k : ℕ) → same_txn t x ≡ true
    → listed_for t es k ≡ listed_for x es k
listed_same t x es k e = ap (λ y. listed_for y es k) ((txn_tells t x).0 e)

pub listed-added : (t : Txn) (es fs : List (Txn × SmallVec ℕ)) (ls : SmallVec ℕ) (key : ℕ) → Writes t es fs ls
    → ((k : ℕ) → is_key ls.items k ≡ (listed_for t es k || (key == k)))
    → (x : Txn) (k : ℕ) → listed_for x fs k ≡ (listed_for x es k || (same_txn t x && (key == k)))
listed-added t es fs ls key writes held x k = by_test (same_txn t x) refl
  where
    by_test : (b : Bool) → same_txn t x ≡ b → listed_for x fs k ≡ (listed_for x es k || (b && (key == k)))
    by_test true e = written_at t x es fs ls k writes ∙ rw (e, held k, listed_same t x es k e) refl
    by_test false e = written_at t x es fs ls k writes ∙ rw e (grind (arith, common_steps))

pub listed-dropped : (t : Txn) (es fs : List (Txn × SmallVec ℕ)) (ls : SmallVec ℕ)
    (key : ℕ) → Writes t es fs ls
    → ((k : ℕ) → is_key ls.items k ≡ (listed_for t es k && not (key == k)))
    → (x : Txn) (k : ℕ) → listed_for x fs k ≡ (listed_for x es k && not (same_txn t x && (key == k)))
listed-dropped t es fs ls key writes held x k = by_test (same_txn t x) refl
  where
    by_test : (b : Bool) → same_txn t x ≡ b → listed_for x fs k ≡ (listed_for x es k && not (b && (key == k)))
    by_test true e = written_at t x es fs ls k writes ∙ rw (e, held k, listed_same t x es k e) refl
    by_test false e = written_at t x es fs ls k writes ∙ rw e (grind (arith, common_steps))

only_now : (b : Bool) → (false || (b && true)) ≡ b
only_now true = refl
only_now false = refl

not_added : (b c : Bool) → (b || (c && false)) ≡ b
not_added true c = refl
not_added false true = refl
not_added false false = refl

no_longer : (b : Bool) → (b && not (b && true)) ≡ false
no_longer true = refl
no_longer false = refl

not_taken : (b c : Bool) → (b && not (c && false)) ≡ b
not_taken true true = refl
not_taken true false = refl
not_taken false c = refl

-- from a transaction that has no list no key is dropped
pub listed-absent : (t : Txn) (es : List (Txn × SmallVec ℕ)) (key : ℕ) → lookup (txns.ghosts.eq t) es ≡ None
    → (x : Txn) (k : ℕ) → listed_for x es k ≡ (listed_for x es k && not (same_txn t x && (key == k)))
listed-absent t es key none x k = by_test (same_txn t x) refl
  where
    by_test : (b : Bool) → same_txn t x ≡ b → listed_for x es k ≡ (listed_for x es k && not (b && (key == k)))
    by_test true e =
        let gone : listed_for x es k ≡ false = sym (listed_same t x es k e)
        ∙ ap (λ found. listed found k) none in
        rw gone refl
    by_test false e = sym (not_taken (listed_for x es k) false)

pub Agrees-inserted : {V : Type 0} (slots slots' : List (Option (Case × V)))
    (keys keys' : List (Txn × SmallVec ℕ)) (c : Case) (value : V) (key : ℕ)
    → Agrees slots keys → entry_at slots key ≡ None → entry_at slots' key ≡ Some (c, value)
    → ((k : ℕ) → k ≢ key → entry_at slots' k ≡ entry_at slots k)
    → ((x : Txn) (k : ℕ) → listed_for x keys' k ≡ (listed_for x keys k || (same_txn c.txn x && (key == k))))
    → Agrees slots' keys'
Agrees-inserted slots slots' keys keys' c value key agrees vacant filled others added x k =
    elim (cases_eq k key) [
      | inl same ↦
          let here : (key == k) ≡ true = grind (arith, common_steps) in
          let before : listed_for x keys k ≡ false = agrees x k
          ∙ ap (is_of_txn x) (ap (entry_at slots) same ∙ vacant) in
          let behind : is_of_txn x (entry_at slots' k) ≡ same_txn c.txn x =
          ap (is_of_txn x) (ap (entry_at slots') same ∙ filled) in
          added x k ∙ rw (before, here, behind) (only_now (same_txn c.txn x))
      | inr differs ↦
          let there : (key == k) ≡ false = grind (arith, common_steps) in
          added x k ∙ rw (there, others k differs)
          (not_added (listed_for x keys k) (same_txn c.txn x) ∙ agrees x k)
    ]

pub Agrees-removed : {V : Type 0} (slots slots' : List (Option (Case × V)))
    (keys keys' : List (Txn × SmallVec ℕ)) (c : Case) (value : V) (key : ℕ)
    → Agrees slots keys → entry_at slots key ≡ Some (c, value) → entry_at slots' key ≡ None
    → ((k : ℕ) → k ≢ key → entry_at slots' k ≡ entry_at slots k)
    → ((x : Txn) (k : ℕ) → listed_for x keys' k
    ≡ (listed_for x keys k && not (same_txn c.txn x && (key == k))))
    → Agrees slots' keys'
Agrees-removed slots slots' keys keys' c value key agrees was gone others dropped x k =
    elim (cases_eq k key) [
      | inl same ↦
          let here : (key == k) ≡ true = grind (arith, common_steps) in
          let before : listed_for x keys k ≡ same_txn c.txn x = agrees x k
          ∙ ap (is_of_txn x) (ap (entry_at slots) same ∙ was) in
          let behind : is_of_txn x (entry_at slots' k) ≡ false =
          ap (is_of_txn x) (ap (entry_at slots') same ∙ gone) in
          dropped x k ∙ rw (before, here, behind) (no_longer (same_txn c.txn x))
      | inr differs ↦
          let there : (key == k) ≡ false = grind (arith, common_steps) in
          dropped x k ∙ rw (there, others k differs)
          (not_taken (listed_for x keys k) (same_txn c.txn x) ∙ agrees x k)
    ]
