-- A manager's data: the fold over its kept records.
use Rattle.std.specs.Prelude.{◌+◌, ℕ, Bool, true, false, ◌==◌, nat_lt, if◌then◌else◌, Option, Some, None, List, [], ◌∷◌, fold, map}
use Rattle.protocol.specs.declared.records.BranchName.{BranchName}
use Rattle.protocol.specs.declared.records.Record.{Record}
use Rattle.protocol.specs.declared.records.Record.TheVariants.{Prepared, Committed, Direct, HeurCommit, Base, Pair}
use Rattle.protocol.specs.declared.records.Write.{Write}
use Rattle.protocol.specs.Records.{same_bytes, same_branch}
use Rattle.protocol.specs.LogNames.{by_xid}
use Rattle.protocol.specs.declared.records.LogRecord.{LogRecord}

-- Keys, in the order of their bytes.

-- the first key comes before the second
unfoldable pub key_below : List ℕ → List ℕ → Bool
key_below _ [] = false
key_below [] (b ∷ bs) = true
key_below (a ∷ as') (b ∷ bs) = if a == b then key_below as' bs else nat_lt a b

-- pairs of a key and its value, keys rising
unfoldable pub with_pair : List ℕ → List ℕ → List (List ℕ × List ℕ) → List (List ℕ × List ℕ)
with_pair k v [] = (k, v) ∷ []
with_pair k v (p ∷ ps) =
    if same_bytes k p.0 then (k, v) ∷ ps else if key_below k p.0 then (k, v) ∷ (p ∷ ps)
    else p ∷ with_pair k v ps

-- the pairs without the first of this key
unfoldable pub without_key : List ℕ → List (List ℕ × List ℕ) → List (List ℕ × List ℕ)
without_key k [] = []
without_key k (p ∷ ps) = if same_bytes k p.0 then ps else p ∷ without_key k ps

-- the pairs with the key at this value, or without it if there is none
abbrev pub set_key : List ℕ → Option (List ℕ) → List (List ℕ × List ℕ) → List (List ℕ × List ℕ)
set_key k (Some v) ps = with_pair k v ps
set_key k None ps = without_key k ps

-- the pairs after a branch's writes
unfoldable pub applied : List Write → List (List ℕ × List ℕ) → List (List ℕ × List ℕ)
applied [] ps = ps
applied (w ∷ ws) ps = applied ws (set_key w.key w.value ps)

-- The fold.

-- how many commits were made, the pairs, and the writes of each branch that promised
pub record Data : Type 0 where
  pub count : ℕ
  pub pairs : List (List ℕ × List ℕ)
  pub promised : List (BranchName × List Write)

-- the data of an empty log
abbrev pub no_data : Data
no_data = record { count = 0; pairs = []; promised = [] }

-- the last writes that the branch promised
unfoldable pub writes_of : BranchName → List (BranchName × List Write) → List Write
writes_of b [] = []
writes_of b (p ∷ ps) = if same_branch p.0 b then p.1 else writes_of b ps

-- the data after a commit of these writes
abbrev pub commits : List Write → Data → Data
commits ws d = record d { count = d.count + 1; pairs = applied ws d.pairs }

-- Base empties the data and sets the count, Pair sets a key; Committed, Direct and an operator's commit apply
-- the branch's writes and add 1
abbrev pub stored_after : Data → Record → Data
stored_after d (Prepared b ws) = record d { promised = (b, ws) ∷ d.promised }
stored_after d (Committed b) = commits (writes_of b d.promised) d
stored_after d (HeurCommit b) = commits (writes_of b d.promised) d
stored_after d (Direct b ws) = commits ws d
stored_after d (Base n) = record d { count = n; pairs = [] }
stored_after d (Pair k v) = record d { pairs = with_pair k v d.pairs }
stored_after d _ = d

-- the data that these records make
unfoldable pub stored : List Record → Data
stored rs = fold stored_after no_data rs

-- the data that the records of a log make
abbrev pub data_of : List LogRecord → Data
data_of ls = stored (map by_xid ls)

-- a pair as a record
abbrev pub pair_record : List ℕ × List ℕ → Record
pair_record p = Pair p.0 p.1

-- the data as a trim writes them
abbrev pub base_records : Data → List Record
base_records d = Base d.count ∷ map pair_record d.pairs
