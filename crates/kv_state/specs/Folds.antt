-- The data of a key store: the fold over the records of its log.
use Rattle.std.specs.Prelude.{◌≡◌, ◌≤◌, ℕ, false, if◌then◌else◌, nat_le, List, [], ◌∷◌, fold, map}
use Rattle.protocol.specs.declared.records.LogRecord.{LogRecord}
use Rattle.protocol.specs.declared.records.Record.{Record}
use Rattle.protocol.specs.declared.records.Record.TheVariants.{Base}
use Rattle.protocol.specs.LogNames.{by_xid}
use Rattle.protocol.specs.Store.{Data, no_data, stored_after}
use Rattle.kv_store.specs.Pairs.{found_in}
use Rattle.kv_store.specs.Versions.{VersionTable, value_at}

-- the base of versions after a record: a Base sets it
abbrev pub base_after : ℕ → Record → ℕ
base_after n (Base m) = m
base_after n _ = n

-- the count of the last Base: 0 if there is none
abbrev pub base_of : List LogRecord → ℕ
base_of ls = fold base_after 0 (map (λ l. l.entry) ls)

-- the later of two data, where it counts at most N commits
abbrev pub latest : ℕ → Data → Data → Data
latest n before d = if nat_le d.count n then d else before

-- the last data that count at most N commits, of these and those that some more records make
unfoldable pub last_within : ℕ → Data → Data → List Record → Data
last_within n before d [] = before
last_within n before d (r ∷ rs) = last_within n (latest n before (stored_after d r)) (stored_after d r) rs

-- the data after N commits: those of the longest front of the records that counts at most as many
abbrev pub data_behind : ℕ → List LogRecord → Data
data_behind n ls = last_within n no_data no_data (map by_xid ls)

-- the versions go back to the last Base, and each key has the value that it had after each commit since
pub record GoBack (s : VersionTable) (ls : List LogRecord) : Type 0 where
  pub base : s.base ≡ base_of ls
  pub values : (n : ℕ) (k : List ℕ) → s.base ≤ n → n ≤ s.count
      → value_at s n k ≡ found_in (data_behind n ls).pairs k

-- the versions are these data: as many commits, none staged, and each key has its value
pub record AreData (s : VersionTable) (d : Data) : Type 0 where
  pub count : s.count ≡ d.count
  pub unstaged : s.is_staged ≡ false
  pub values : (k : List ℕ) → value_at s s.count k ≡ found_in d.pairs k
