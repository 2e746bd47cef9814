-- What a manager holds, and what it tells of the works and of the questions for a vote that come to it.
use Rattle.std.specs.Prelude.{ℕ, ◌+◌, Bool, true, false, not, ◌&&◌, ◌||◌, ◌==◌, nat_lt, nat_le, if◌then◌else◌, is_none, is_some, Option, Some, None, option_map, List, [], ◌∷◌, length, slice_get}
use Rattle.std.specs.Global.{Vec}
use Rattle.std.specs.Map.{lookup}
use Rattle.std.specs.Str.{bytes_eq}
use Rattle.xa_xid.specs.declared.xid.Xid.{Xid}
use Rattle.xa_xid.specs.contracts.xid.XidPartialEq.TheImpl as names
use Rattle.protocol.specs.declared.names.Case.{Case}
use Rattle.protocol.specs.declared.messages.Op.{Op}
use Rattle.protocol.specs.declared.messages.Op.TheVariants.{Put, Get, Delete}
use Rattle.protocol_words.specs.Variants.{CaseBranch}
use Rattle.protocol.specs.LogNames.{name_xid}
use Rattle.run_notes.specs.declared.branch.Branch.{Branch}
use Rattle.run_notes.specs.declared.branch.Spoiled.{Spoiled}
use Rattle.run_notes.specs.declared.locks.Holders.{Holders}
use Rattle.run_notes.specs.declared.manager.Manager.{Manager}
use Rattle.run_notes.specs.Words.{count_text, no_text, read_text, spoiled_text, unknown_text}

-- two XIDs are one
abbrev pub same : Xid → Xid → Bool
same = names.ghosts.eq

-- what is kept at a key of bytes
abbrev pub at_key : {X : Type 0} → List (Vec ℕ × X) → List ℕ → Option X
at_key es k = lookup (λ q. bytes_eq k q.items) es

-- the XID of a case at a manager
abbrev pub xid_of : Manager → Case → Xid
xid_of m c = name_xid m.parent (CaseBranch c)

-- the branch with an XID, if it has not ended
abbrev pub branch_at : Manager → Xid → Option Branch
branch_at m x = lookup (same x) m.branches.entries

-- the key of an operation
abbrev pub op_key : Op → List ℕ
op_key (Put k v) = k
op_key (Get k) = k
op_key (Delete k) = k

-- an operation writes
abbrev pub op_writes : Op → Bool
op_writes (Get k) = false
op_writes (Put k v) = true
op_writes (Delete k) = true

-- no store does an operation with this key, by its length
abbrev pub is_bad_key : List ℕ → Bool
is_bad_key k = length k == 0 || nat_lt 64 (length k)

-- no store does this operation, by the length of its key or of its value
abbrev pub is_bad_op : Op → Bool
is_bad_op (Put k v) = nat_lt 256 (length v) || is_bad_key k
is_bad_op (Get k) = is_bad_key k
is_bad_op (Delete k) = is_bad_key k

-- a branch does the work with this number, unless that is refused
abbrev pub takes : Branch → ℕ → Bool
takes b i = not b.has_promised && is_none b.spoiled && i == b.done + 1

-- this XID, if it is another one
abbrev pub other : Xid → Option Xid → Option Xid
other x None = None
other x (Some y) = if same y x then None else Some y

-- an XID of these other than this one
abbrev pub other_of : Xid → List Xid → Option Xid
other_of x [] = None
other_of x (y ∷ ys) = if same y x then slice_get ys 0 else Some y

-- who has a key that another branch holds: its writer, and for a write also a reader
abbrev pub holder_else : Xid → Bool → Option Xid → List Xid → Option Xid
holder_else x w None readers = if w then other_of x readers else None
holder_else x w (Some y) readers = if same y x then (if w then other_of x readers else None) else Some y

-- who keeps a branch from what these hold
abbrev pub blocker_by : Xid → Bool → Option Holders → Option Xid
blocker_by x w None = None
blocker_by x w (Some h) = holder_else x w h.writer h.readers.keys

-- who keeps a branch from a key
abbrev pub blocker_at : Manager → Xid → List ℕ → Bool → Option Xid
blocker_at m x k w = blocker_by x w (at_key m.locks.keys.entries k)

-- a branch that has not ended is this one
abbrev pub is_open : Manager → Option Xid → Bool
is_open m None = false
is_open m (Some x) = is_some (branch_at m x)

-- a branch may not write a key, having written 64 others
abbrev pub is_full_for : Branch → List ℕ → Bool
is_full_for b k = nat_le 64 (length b.writes.entries) && not (is_some (at_key b.writes.entries k))

-- a branch is refused an operation: no store does it, another branch holds the key, or it would write too
-- many
abbrev pub is_refused : Manager → Xid → Branch → Op → Bool
is_refused m x b op =
    is_bad_op op
    || is_open m (blocker_at m x (op_key op) (op_writes op))
    || (op_writes op && is_full_for b (op_key op))

-- a value as its bytes, if there is one
abbrev pub bytes_in : Option (Vec ℕ) → Option (List ℕ)
bytes_in v = option_map (λ bs. bs.items) v

-- what a branch finds: its own write, or else what is committed
abbrev pub found_by : Option (Option (Vec ℕ)) → Option (Vec ℕ) → Option (List ℕ)
found_by None pair = bytes_in pair
found_by (Some own) pair = bytes_in own

-- what a branch finds at a key
abbrev pub found_at : Manager → Branch → List ℕ → Option (List ℕ)
found_at m b k = found_by (at_key b.writes.entries k) (at_key m.pairs.entries k)

-- what is told of an operation that a branch does: of a get, what it reads
abbrev pub told_of_op : Manager → Case → Branch → Op → Option (List ℕ)
told_of_op m c b (Get k) = Some (read_text c k (found_at m b k))
told_of_op m c b (Put k v) = None
told_of_op m c b (Delete k) = None

-- what is told of a work that comes to a case with this branch, if it has one
abbrev pub told_of_branch : Manager → Case → ℕ → Op → Option Branch → Option (List ℕ)
told_of_branch m c i op None = None
told_of_branch m c i op (Some b) =
    if takes b i && not (is_refused m (xid_of m c) b op) then told_of_op m c b op else None

-- what is told of a work that comes to a case
abbrev pub told_of_work : Manager → Case → ℕ → Op → Option (List ℕ)
told_of_work m c i op = told_of_branch m c i op (branch_at m (xid_of m c))

-- why a case votes NO that has done this number of works, and may have been refused one
abbrev pub done_text : Case → ℕ → ℕ → Option Spoiled → List ℕ
done_text c works done None = count_text c works done
done_text c works done (Some s) = no_text c (spoiled_text s)

-- why a case votes NO with this branch, if it has one
abbrev pub refusal_text : Case → ℕ → Option Branch → List ℕ
refusal_text c works None = unknown_text c
refusal_text c works (Some b) = done_text c works b.done b.spoiled

-- why a case votes NO after this number of works
abbrev pub why_no : Manager → Case → ℕ → List ℕ
why_no m c works = refusal_text c works (branch_at m (xid_of m c))
