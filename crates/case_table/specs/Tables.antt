-- What a table of live values holds: at each key nothing, or a value and its case.
use Rattle.std.specs.Prelude.{◌≡◌, ◌≢◌, ◌+◌, ◌==◌, ◌&&◌, ◌||◌, not, ℕ, Bool, true, false, if◌then◌else◌, Option, Some, None, is_some, List, [], ◌∷◌, count_by, position, slice_index_or}
use Rattle.std.specs.List.{IsDistinct, list_any}
use Rattle.std.specs.Map.{keys_of, lookup}
use Rattle.smallvec.specs.SmallVec.{SmallVec}
use Rattle.protocol.specs.declared.names.Case.{Case}
use Rattle.protocol.specs.declared.names.Txn.{Txn}
use Rattle.protocol.specs.Names.{same_case, same_txn}
use Rattle.protocol.specs.contracts.names.TxnPartialEq.TheImpl as txns

module _ {V : Type 0} where
  -- what is at a key
  abbrev pub entry_at : List (Option (Case × V)) → ℕ → Option (Case × V)
  entry_at slots k = slice_index_or slots k None

  -- the value of an entry
  abbrev pub value_of : Option (Case × V) → Option V
  value_of None = None
  value_of (Some p) = Some p.1

  -- the case of an entry
  abbrev pub case_of : Option (Case × V) → Option Case
  case_of None = None
  case_of (Some p) = Some p.0

  -- the value at a key
  abbrev pub value_at : List (Option (Case × V)) → ℕ → Option V
  value_at slots k = value_of (entry_at slots k)

  -- there is a value of the transaction
  abbrev pub is_of_txn : Txn → Option (Case × V) → Bool
  is_of_txn x None = false
  is_of_txn x (Some p) = same_txn p.0.txn x

  -- there is a value of the case
  abbrev pub is_of_case : Case → Option (Case × V) → Bool
  is_of_case c None = false
  is_of_case c (Some p) = same_case p.0 c

  -- how many values there are
  abbrev pub live_count : List (Option (Case × V)) → ℕ
  live_count slots = count_by is_some slots

  -- a value that counts only where its entry is of the case
  abbrev pub if_of_case : Case → Option (Case × V) → Option V → Option V
  if_of_case c None other = other
  if_of_case c (Some p) other = if same_case p.0 c then Some p.1 else other

  -- the value of a case, if it is live
  unfoldable pub live_value : List (Option (Case × V)) → Case → Option V
  live_value [] c = None
  live_value (slot ∷ slots) c = if_of_case c slot (live_value slots c)

  -- each case has one key at most
  abbrev pub AreApart : List (Option (Case × V)) → Type 0
  AreApart slots = (c : Case) (j k : ℕ) → is_of_case c (entry_at slots j) ≡ true
      → is_of_case c (entry_at slots k) ≡ true → j ≡ k

  -- one key changes, and no other
  pub record Updates (old new : List (Option (Case × V))) (key : ℕ) (slot : Option (Case × V)) : Type 0 where
    pub changed : entry_at new key ≡ slot
    pub others : (k : ℕ) → k ≢ key → entry_at new k ≡ entry_at old k

  -- one case changes, and no other
  pub record MovesValue (old new : List (Option (Case × V))) (c : Case) (value : Option V) : Type 0 where
    pub own : live_value new c ≡ value
    pub others : (d : Case) → same_case c d ≡ false → live_value new d ≡ live_value old d

  -- the case is live under this key, or it is not live
  abbrev pub FindsKey : List (Option (Case × V)) → Case → Option ℕ → Type 0
  FindsKey slots c None = live_value slots c ≡ None
  FindsKey slots c (Some k) = (v : V) × (entry_at slots k ≡ Some (c, v)) × (live_value slots c ≡ Some v)

  -- the case is live now, under a key that was free
  pub record Inserts (old new : List (Option (Case × V))) (c : Case) (value : V) (key : ℕ) : Type 0 where
    pub vacant : entry_at old key ≡ None
    pub updates : Updates old new key (Some (c, value))
    pub moves : MovesValue old new c (Some value)
    pub counts : live_count new ≡ live_count old + 1

  -- the case of the key is no longer live; this was its value
  pub record Removes (old new : List (Option (Case × V))) (key : ℕ) (value : V) : Type 0 where
    pub owner : Case
    pub was : entry_at old key ≡ Some (owner, value)
    pub updates : Updates old new key None
    pub moves : MovesValue old new owner None
    pub counts : live_count new + 1 ≡ live_count old

  -- the case of the key has this value in place of that one, and no other case moves
  pub record Changes (old new : List (Option (Case × V))) (key : ℕ) (before behind : V) : Type 0 where
    pub owner : Case
    pub was : entry_at old key ≡ Some (owner, before)
    pub updates : Updates old new key (Some (owner, behind))
    pub moves : MovesValue old new owner (Some behind)

  -- A live case of a transaction whose value passes a test, under its key; or there is none. The relation
  -- says what the test may answer of a value.
  abbrev pub FindsIn : (V → Bool → Type 0) → List (Option (Case × V)) → Txn → Option ℕ → Type 0
  FindsIn answers slots x None = (c : Case) (v : V) → live_value slots c ≡ Some v → same_txn c.txn x ≡ true
      → answers v false
  FindsIn answers slots x (Some k) =
      (p : Case × V) × (entry_at slots k ≡ Some p) × (live_value slots p.0 ≡ Some p.1)
      × (same_txn p.0.txn x ≡ true) × answers p.1 true

  -- the key found is that of a live case of the transaction whose value passes a test; none, if none passes
  pub record FindsBy (answers : V → Bool
      → Type 0) (slots : List (Option (Case × V))) (x : Txn) (found : Option ℕ) : Type 0 where
    pub key : FindsIn answers slots x found

-- the key is in the list
unfoldable pub is_key : List ℕ → ℕ → Bool
is_key ks k = list_any (λ j. j == k) ks

-- the key is in the list, if there is one
abbrev pub listed : Option (SmallVec ℕ) → ℕ → Bool
listed None k = false
listed (Some ks) k = is_key ks.items k

-- the key is listed for the transaction
abbrev pub listed_for : Txn → List (Txn × SmallVec ℕ) → ℕ → Bool
listed_for x keys k = listed (lookup (txns.ghosts.eq x) keys) k

-- the place of the transaction's list
abbrev pub place_in : List (Txn × SmallVec ℕ) → Txn → Option ℕ
place_in keys x = position (txns.ghosts.eq x) (keys_of keys)

-- each transaction has one list at most
abbrev pub AreListedOnce : List (Txn × SmallVec ℕ) → Type 0
AreListedOnce keys = IsDistinct txns.ghosts.eq (keys_of keys)

-- the key is listed for the transaction, and nothing else moves
abbrev pub Lists : List (Txn × SmallVec ℕ) → List (Txn × SmallVec ℕ) → Txn → ℕ → Type 0
Lists old new x key = (y : Txn) (k : ℕ)
    → listed_for y new k ≡ (listed_for y old k || (same_txn x y && (key == k)))

-- the key is listed no longer for the transaction, and nothing else moves
abbrev pub Drops : List (Txn × SmallVec ℕ) → List (Txn × SmallVec ℕ) → Txn → ℕ → Type 0
Drops old new x key = (y : Txn) (k : ℕ)
    → listed_for y new k ≡ (listed_for y old k && not (same_txn x y && (key == k)))

-- the same keys are listed
abbrev pub SameLists : List (Txn × SmallVec ℕ) → List (Txn × SmallVec ℕ) → Type 0
SameLists old new = (y : Txn) (k : ℕ) → listed_for y new k ≡ listed_for y old k

-- the keys listed for a transaction are those of its values
abbrev pub Agrees : {V : Type 0} → List (Option (Case × V)) → List (Txn × SmallVec ℕ) → Type 0
Agrees slots keys = (x : Txn) (k : ℕ) → listed_for x keys k ≡ is_of_txn x (entry_at slots k)

-- what a table keeps: its lists of keys are right, and each case has one key at most
pub record IsLiveTable {V : Type 0} (slots : List (Option (Case × V)))
    (keys : List (Txn × SmallVec ℕ)) : Type 0 where
  pub agrees : Agrees slots keys
  pub apart : AreApart slots
