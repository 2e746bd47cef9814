-- The cases that names are of.
use Rattle.std.specs.Prelude.{◌≡◌, ◌⊎◌, ◌&&◌, ℕ, pos, Bool, true, false, List, Option, Some, None, is_some, if◌then◌else◌, ⊤}
use Rattle.std.specs.Ordering.{int_eq}
use Rattle.std.specs.Str.{IsUtf8}
use Rattle.spellings.specs.Words.{cut_at}
use Rattle.script_words.specs.Steps.{same, ◌>>=◌}
use Rattle.tree_script.specs.Names.{case_at, ticket_at, txn_at}
use Rattle.protocol.specs.declared.names.Case.{Case}
use Rattle.protocol.specs.declared.names.ProcessId.{ProcessId}
use Rattle.protocol.specs.declared.names.Ticket.{Ticket}
use Rattle.protocol.specs.declared.names.Txn.{Txn}
use Rattle.protocol.specs.declared.trees.TreeProcess.{TreeProcess}
use Rattle.protocol.specs.Branches.{FitsBelow, FitsTxn, branch_parts}
use Rattle.protocol.specs.Names.{process_of, same_process}
use Rattle.protocol.specs.Nodes.{is_listed}
use Rattle.protocol.specs.Trees.{parent_of, root_of}
use Rattle.xa_xid.specs.Xids.{XidParts}
use Rattle.branch_names.specs.declared.cases.Naming.{Naming}
use Rattle.branch_names.specs.declared.cases.Naming.TheVariants.{Case as OfCase, OtherTree, Foreign}
use Rattle.branch_names.specs.Forms.{IsXidOf}

-- Places.

-- there is no ticket, or it is of a process below the root
abbrev pub has_seat : List TreeProcess → Option Ticket → Bool
has_seat tree None = true
has_seat tree (Some t) = is_some (parent_of tree t.child)

-- the case is of a transaction of the tree's root and of a process of the tree, and has no ticket, or one of
-- a process below the root
abbrev pub has_place : List TreeProcess → Case → Bool
has_place tree c =
    is_listed tree (process_of c) && (same_process c.txn.root (root_of tree) && has_seat tree c.ticket)

-- the case, if it has its place in the tree
abbrev pub placed : List TreeProcess → Option Case → Naming
placed tree None = Foreign
placed tree (Some c) = if has_place tree c then OfCase c else Foreign

-- the process of a case that a name is of is listed
abbrev pub IsPlaced : List TreeProcess → Naming → Type 0
IsPlaced tree (OfCase c) = is_listed tree (process_of c) ≡ true
IsPlaced tree OtherTree = ⊤
IsPlaced tree Foreign = ⊤

-- Names with the name of a tree.

-- what a name is of, where this tree has this name, if it has one, and that tree has that
abbrev pub of_tree : Option (List ℕ) → List ℕ → Naming → Naming
of_tree None of n = OtherTree
of_tree (Some name) of n = if same name of then n else OtherTree

-- the name of a tree, and the case after it
abbrev pub named_case_at : ProcessId → List ℕ → Option (List ℕ × Case)
named_case_at root w = do
  p ← cut_at 58 w
  c ← case_at root p.1
  Some (p.0, c)

-- what a case of a tree of that name is of
abbrev pub of_named : List TreeProcess → Option (List ℕ) → Option (List ℕ × Case) → Naming
of_named tree name None = Foreign
of_named tree name (Some p) = of_tree name p.0 (placed tree (Some p.1))

-- what a name without an XID is of: a case alone, if it has no colon, or the name of a tree and a case
abbrev pub alone_by : List TreeProcess → Option (List ℕ) → List ℕ → Option (List ℕ × List ℕ) → Naming
alone_by tree name w None = placed tree (case_at (root_of tree) w)
alone_by tree name w (Some p) = of_named tree name (named_case_at (root_of tree) w)

-- what a name that is no XID is of
abbrev pub naming_alone : List TreeProcess → Option (List ℕ) → List ℕ → Naming
naming_alone tree name w = alone_by tree name w (cut_at 58 w)

-- XIDs.

-- the name of a tree, and the case of a transaction and a ticket in words
abbrev pub words_at : ProcessId → List ℕ → List ℕ → Option (List ℕ × Case)
words_at root gtrid bqual = do
  p ← cut_at 58 gtrid
  x ← txn_at root p.1
  t ← ticket_at bqual
  Some (p.0, record { txn = x; ticket = Some t })

-- what an XID in words is of, if its parts are text
abbrev pub IsInWords : List TreeProcess → Option (List ℕ) → XidParts → Naming → Type 0
IsInWords tree name x n =
    ((IsUtf8 x.gtrid × IsUtf8 x.bqual)
    × (n ≡ of_named tree name (words_at (root_of tree) x.gtrid x.bqual)))
    ⊎ (((IsUtf8 x.gtrid × IsUtf8 x.bqual) → ⊥) × (n ≡ Foreign))

-- the process has this parent
abbrev pub is_parent : Option ProcessId → ProcessId → Bool
is_parent None p = false
is_parent (Some q) p = same_process q p

-- the case of a transaction, and below the root of a ticket, where the parent is that of the ticket's process
abbrev pub case_below : List TreeProcess → Txn → Option (ProcessId × Ticket) → Option Case
case_below tree x None = Some (record { txn = x; ticket = None })
case_below tree x (Some b) =
    if is_parent (parent_of tree b.1.child) b.0 then Some (record { txn = x; ticket = Some b.1 }) else None

-- what an XID in bytes is of: the case of which it is the XID
abbrev pub IsInBytes : List TreeProcess → XidParts → Naming → Type 0
IsInBytes tree x n =
    ((y : Txn) × (b : Option (ProcessId × Ticket)) × (branch_parts y b ≡ x)
    × (n ≡ placed tree (case_below tree y b)))
    ⊎ (((y : Txn) (b : Option (ProcessId × Ticket)) → FitsTxn y → FitsBelow b → branch_parts y b ≡ x → ⊥)
    × (n ≡ Foreign))

-- what an XID is of, by whether it is in words
abbrev pub OfXid : Bool → List TreeProcess → Option (List ℕ) → XidParts → Naming → Type 0
OfXid true tree name x n = IsInWords tree name x n
OfXid false tree name x n = IsInBytes tree x n

-- what a name is of, by the XID that it is, if it is one
abbrev pub NamedBy : List TreeProcess → Option (List ℕ) → List ℕ → Option XidParts → Naming → Type 0
NamedBy tree name line None n = n ≡ naming_alone tree name line
NamedBy tree name line (Some x) n = OfXid (int_eq x.format (pos 4003)) tree name x n

-- what a name is of, in a tree of this name, if it has one
abbrev pub IsNaming : List TreeProcess → Option (List ℕ) → List ℕ → Naming → Type 0
IsNaming tree name line n = (x : Option XidParts) × IsXidOf line x × NamedBy tree name line x n
