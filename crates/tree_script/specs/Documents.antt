-- The texts of a tree of processes (TOML).
use Rattle.std.specs.Prelude.{◌≡◌, ℕ, ◌≤◌, ◌<◌, ◌^◌, List, [], ◌∷◌, length, All, Option, Some, None, pos, codes, ◌⊎◌}
use Rattle.std.specs.Char.{IsAsciiAlphabetic}
use Rattle.toml.specs.Data.{Data, Items, no_items, item, Members, no_members, member, get, integer, string, table, array}
use Rattle.toml.specs.Parse.{parse_document}
use Rattle.protocol.specs.declared.names.ProcessId.{ProcessId}
use Rattle.protocol.specs.declared.names.Kind.{Kind}
use Rattle.protocol.specs.declared.names.Kind.TheVariants.{Coordinator, Manager}
use Rattle.protocol.specs.declared.trees.TreeProcess.{TreeProcess}

-- how a kind of process is written
abbrev pub kind_text : Kind → List ℕ
kind_text Coordinator = codes "coordinator"
kind_text Manager = codes "manager"

-- a process is a number from 1 on, below 2^32
abbrev pub IsId : Data → ProcessId → Type 0
IsId d p = (d ≡ integer (pos p.0)) × (1 ≤ p.0) × (p.0 < 2 ^ 32)

-- a manager may have an info, a coordinator has none
abbrev pub MayHaveInfo : Kind → Option (List ℕ) → Type 0
MayHaveInfo Manager info = Unit {0}
MayHaveInfo Coordinator info = info ≡ None

-- an info is up to 32 letters
abbrev pub IsInfo : Data → List ℕ → Type 0
IsInfo d info = (d ≡ string info) × (length info ≤ 32) × All IsAsciiAlphabetic info

-- a table of a process has these keys
abbrev pub IsKnownKey : List ℕ → Type 0
IsKnownKey k = (k ≡ codes "id") ⊎ ((k ≡ codes "kind") ⊎ ((k ≡ codes "parent") ⊎ (k ≡ codes "info")))

-- each member of a table has such a key
abbrev pub KeysAreKnown : Members → Type 0
KeysAreKnown no_members = Unit {0}
KeysAreKnown (member k d ms) = IsKnownKey k × KeysAreKnown ms

-- a table has no key but those
abbrev pub HasKnownKeys : Data → Type 0
HasKnownKeys (table ms) = KeysAreKnown ms
HasKnownKeys d = Unit {0}

-- a key that must be there
abbrev pub At : {A : Type 0} → (Data → A → Type 0) → Option Data → A → Type 0
At Is None x = ⊥
At Is (Some d) x = Is d x

-- a key that may be absent
abbrev pub May : {A : Type 0} → (Data → A → Type 0) → Option Data → Option A → Type 0
May Is None None = Unit {0}
May Is None (Some x) = ⊥
May Is (Some d) None = ⊥
May Is (Some d) (Some x) = Is d x

-- the value is a table that describes this process
pub record DescribesProcess (d : Data) (e : TreeProcess) : Type 0 where
  pub known : HasKnownKeys d
  pub id : At IsId (get (codes "id") d) e.id
  pub kind : get (codes "kind") d ≡ Some (string (kind_text e.kind))
  pub parent : May IsId (get (codes "parent") d) e.parent
  pub info : May IsInfo (get (codes "info") d) e.info
  pub info_kind : MayHaveInfo e.kind e.info

-- the tables of a list are these processes, one for one, in order
abbrev pub AreProcesses : Items → List TreeProcess → Type 0
AreProcesses no_items [] = Unit {0}
AreProcesses no_items (e ∷ es) = ⊥
AreProcesses (item d ds) [] = ⊥
AreProcesses (item d ds) (e ∷ es) = DescribesProcess d e × AreProcesses ds es

-- a table with one key, the processes; without a process the key may be absent
abbrev pub IsTable : Members → List TreeProcess → Type 0
IsTable no_members es = es ≡ []
IsTable (member k d ms) es = (ds : Items)
    × (member k d ms ≡ member (codes "process") (array ds) no_members) × AreProcesses ds es

-- the text is a document of such a table
abbrev pub IsTreeText : List ℕ → List TreeProcess → Type 0
IsTreeText text es = (ms : Members) × (parse_document text ≡ Some ms) × IsTable ms es
