-- The data of a key store, with what each key was after each commit since the base.
use Rattle.std.specs.Prelude.{◌≡◌, ◌≤◌, ◌<◌, ◌+◌, ℕ, Bool, true, false, ◌&&◌, if◌then◌else◌, nat_le, nat_lt, Option, Some, None, is_some, List, [], ◌∷◌, ◌++◌, length, filter}
use Rattle.std.specs.Global.{Vec}
use Rattle.std.specs.List.{IsDistinct, list_any, list_all}
use Rattle.std.specs.Map.{keys_of}
use Rattle.std.specs.List.Sorted.{IsPartitionPoint}
use Rattle.key_lists.specs.Tables.{Becomes, list_at, same_key}
use Rattle.protocol.specs.declared.records.Write.{Write}
use Rattle.kv_store.specs.declared.version.Version.{Version}

-- the count of the base and of the last commit, whether writes are staged, and each key's versions, rising by
-- count
pub record VersionTable : Type 0 where
  pub base : ℕ
  pub count : ℕ
  pub is_staged : Bool
  pub versions : List (List ℕ × List Version)

-- the value of the last of the versions that is not above a count: none if there is no such version
unfoldable pub value_by : ℕ → Option (List ℕ) → List Version → Option (List ℕ)
value_by n before [] = before
value_by n before (v ∷ vs) = if nat_lt n v.count then before else value_by n v.value vs

-- the value of a key after N commits
abbrev pub value_at : VersionTable → ℕ → List ℕ → Option (List ℕ)
value_at s n k = value_by n None (list_at s.versions k)

-- the value of a key after these writes: the last of them counts
unfoldable pub written : List Write → List ℕ → Option (List ℕ) → Option (List ℕ)
written [] k before = before
written (w ∷ ws) k before = written ws k (if same_key w.key k then w.value else before)

-- what is found at a key is what it was after N commits, and that is kept
pub record ReadsAt (s : VersionTable) (n : ℕ) (k : List ℕ) (found : Option (List ℕ)) : Type 0 where
  pub value : found ≡ value_at s n k
  pub since_base : s.base ≤ n
  pub made : n ≤ s.count

-- the data do not change
pub record SameData (old new : VersionTable) : Type 0 where
  pub base : new.base ≡ old.base
  pub count : new.count ≡ old.count
  pub is_staged : new.is_staged ≡ old.is_staged
  pub values : (n : ℕ) (k : List ℕ) → value_at new n k ≡ value_at old n k

-- writes are staged: nothing of the data changes, and after the next commit each key has what they leave it
pub record Stages (old new : VersionTable) (ws : List Write) : Type 0 where
  pub base : new.base ≡ old.base
  pub count : new.count ≡ old.count
  pub is_staged : new.is_staged ≡ true
  pub before : (n : ℕ) (k : List ℕ) → n ≤ old.count → value_at new n k ≡ value_at old n k
  pub next : (k : List ℕ) → value_at new (old.count + 1) k ≡ written ws k (value_at old old.count k)

-- the staged writes are data now
pub record Publishes (old new : VersionTable) : Type 0 where
  pub base : new.base ≡ old.base
  pub count : new.count ≡ old.count + 1
  pub is_staged : new.is_staged ≡ false
  pub values : (n : ℕ) (k : List ℕ) → value_at new n k ≡ value_at old n k

-- a commit: each key has what the writes leave it, and what it was after each commit before
pub record AppliesCommit (old new : VersionTable) (ws : List Write) : Type 0 where
  pub base : new.base ≡ old.base
  pub count : new.count ≡ old.count + 1
  pub is_staged : new.is_staged ≡ false
  pub before : (n : ℕ) (k : List ℕ) → n ≤ old.count → value_at new n k ≡ value_at old n k
  pub next : (k : List ℕ) → value_at new new.count k ≡ written ws k (value_at old old.count k)

-- a key is set after the last commit: what it was after each commit before stays
pub record Sets (old new : VersionTable) (w : Write) : Type 0 where
  pub base : new.base ≡ old.base
  pub count : new.count ≡ old.count
  pub is_staged : new.is_staged ≡ false
  pub before : (n : ℕ) (k : List ℕ) → n < old.count → value_at new n k ≡ value_at old n k
  pub now : (k : List ℕ) → value_at new old.count k ≡ written (w ∷ []) k (value_at old old.count k)

-- what was before the last commit is forgotten: what each key is now stays, and the base is the last commit
pub record Rebases (old new : VersionTable) : Type 0 where
  pub base : new.base ≡ old.count
  pub count : new.count ≡ old.count
  pub is_staged : new.is_staged ≡ false
  pub values : (k : List ℕ) → value_at new new.count k ≡ value_at old old.count k

-- a pair of a key and its value, as a write
abbrev pub pair_write : List ℕ × List ℕ → Write
pair_write p = record { key = p.0; value = Some p.1 }

-- What the code keeps.

-- the versions' counts rise, from this one on
unfoldable pub rises_from : ℕ → List Version → Bool
rises_from n [] = true
rises_from n (v ∷ vs) = nat_le n v.count && rises_from v.count vs

-- the versions are of commits up to this one
abbrev pub is_up_to : ℕ → Version → Bool
is_up_to n v = nat_le v.count n

-- no version is of a later commit
abbrev pub none_above : ℕ → List Version → Bool
none_above n vs = list_all (is_up_to n) vs

-- the versions of commits up to this one
abbrev pub up_to : ℕ → List Version → List Version
up_to n vs = filter (is_up_to n) vs

-- the versions of a key that these writes make at a count
unfoldable pub made : ℕ → List Write → List ℕ → List Version
made n [] k = []
made n (w ∷ ws) k =
    if same_key w.key k then record { count = n; value = w.value } ∷ made n ws k else made n ws k

-- a write of this key is in the list
abbrev pub names_key : List Write → List ℕ → Bool
names_key ws k = list_any (λ w. same_key w.key k) ws

-- what the map of keys is: the versions of each
abbrev pub KeyTable : Type 0
KeyTable = List (List ℕ × List Version)

-- no key stands twice in the map
abbrev pub AreListedOnce : List (Vec ℕ × Vec Version) → Type 0
AreListedOnce es = IsDistinct (λ q r. same_key q.items r.items) (keys_of es)

-- a key has one version more
abbrev pub AddsVersion : KeyTable → KeyTable → List ℕ → Version → Type 0
AddsVersion old new k v = Becomes old new k (list_at old k ++ v ∷ [])

-- a key loses its versions of later commits
abbrev pub KeepsUpTo : KeyTable → KeyTable → ℕ → List ℕ → Type 0
KeepsUpTo old new n k = Becomes old new k (up_to n (list_at old k))

-- each key has one version more of each of its writes
abbrev pub Adds : KeyTable → KeyTable → ℕ → List Write → Type 0
Adds old new n ws = (k : List ℕ) → list_at new k ≡ list_at old k ++ made n ws k

-- each key has one version more of each of its writes in a front of these
pub record AddsFront (old new : KeyTable) (n : ℕ) (ws : List Write) : Type 0 where
  pub done : List Write
  pub behind : List Write
  pub front : ws ≡ done ++ behind
  pub adds : Adds old new n done

-- the keys of these writes lose the versions of later commits, and the others lose none
pub record TakesBack (old new : KeyTable) (n : ℕ) (ws : List Write) : Type 0 where
  pub own : (k : List ℕ) → names_key ws k ≡ true → list_at new k ≡ up_to n (list_at old k)
  pub others : (k : List ℕ) → names_key ws k ≡ false → list_at new k ≡ list_at old k

-- the versions rise, and none is of a later commit than the last, or the next where its writes are staged
pub record IsVersions (base count : ℕ) (is_staged : Bool) (t : KeyTable) : Type 0 where
  pub starts : base ≤ count
  pub rises : (k : List ℕ) → rises_from 0 (list_at t k) ≡ true
  pub settled : is_staged ≡ false → (k : List ℕ) → none_above count (list_at t k) ≡ true
  pub next : (k : List ℕ) → none_above (count + 1) (list_at t k) ≡ true

-- the last of these versions
abbrev pub last_after : Version → List Version → Version
last_after v [] = v
last_after v (w ∷ vs) = last_after w vs

-- what a key keeps of its versions: the last one, if that has a value
abbrev pub kept_of : List Version → List Version
kept_of [] = []
kept_of (v ∷ vs) = if is_some (last_after v vs).value then last_after v vs ∷ [] else []

-- there are versions
abbrev pub has_any : List Version → Bool
has_any [] = false
has_any (v ∷ vs) = true

-- each key that has a value keeps the last of its versions, and every other key goes
unfoldable pub kept_in : KeyTable → KeyTable
kept_in [] = []
kept_in (e ∷ t) = if has_any (kept_of e.1) then (e.0, kept_of e.1) ∷ kept_in t else kept_in t

-- N versions are of commits up to this one, and the others of later ones
abbrev pub IsPlace : ℕ → List Version → ℕ → Type 0
IsPlace n vs i =
    (i ≤ length vs) × IsPartitionPoint (λ v. is_up_to n v ≡ true) (λ v. is_up_to n v ≡ false) vs i
