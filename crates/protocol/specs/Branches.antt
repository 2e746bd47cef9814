-- How a case is named as a branch at a resource manager: its XID.
use Rattle.std.specs.Prelude.{◌<◌, ◌^◌, ◌++◌, ℕ, ℤ, pos, Option, Some, None, List, [], ⊤}
use Rattle.byteorder.specs.Endian.{big_bytes}
use Rattle.xa_xid.specs.Xids.{XidParts}
use Rattle.protocol.specs.declared.names.ProcessId.{ProcessId}
use Rattle.protocol.specs.declared.names.Presumption.{Presumption}
use Rattle.protocol.specs.declared.names.Presumption.TheVariants.{PresumeAbort, PresumeCommit}
use Rattle.protocol.specs.declared.names.Ticket.{Ticket}
use Rattle.protocol.specs.declared.names.Txn.{Txn}

-- the XID's format: 4001 is Presumed Abort, 4002 Presumed Commit
abbrev pub branch_format : Presumption → ℤ
branch_format PresumeAbort = pos 4001
branch_format PresumeCommit = pos 4002

-- the global transaction's name: the root, its boot and the sequence number, big-endian
unfoldable pub txn_bytes : Txn → List ℕ
txn_bytes x = big_bytes 4 x.root.0 ++ (big_bytes 8 x.boot ++ big_bytes 8 x.sequence)

-- the parent, and the ticket's child, boot and number, big-endian
unfoldable pub ticket_bytes : ProcessId × Ticket → List ℕ
ticket_bytes b = big_bytes 4 b.0.0 ++ (big_bytes 4 b.1.child.0
    ++ (big_bytes 8 b.1.boot ++ big_bytes 8 b.1.number))

-- the branch's name: the parent, the child, its boot and the ticket's number; none at the root
abbrev pub below_bytes : Option (ProcessId × Ticket) → List ℕ
below_bytes None = []
below_bytes (Some b) = ticket_bytes b

-- the XID of a case
abbrev pub branch_parts : Txn → Option (ProcessId × Ticket) → XidParts
branch_parts x below = record {
  format = branch_format x.presumption;
  gtrid = txn_bytes x;
  bqual = below_bytes below;
}

-- numbers that a transaction's fields can be
pub record FitsTxn (x : Txn) : Type 0 where
  pub root : x.root.0 < 2 ^ 32
  pub boot : x.boot < 2 ^ 64
  pub sequence : x.sequence < 2 ^ 64

-- numbers that a parent and a ticket can be
pub record FitsBranchName (b : ProcessId × Ticket) : Type 0 where
  pub parent : b.0.0 < 2 ^ 32
  pub child : b.1.child.0 < 2 ^ 32
  pub boot : b.1.boot < 2 ^ 64
  pub number : b.1.number < 2 ^ 64

-- a parent and a ticket fit, if there are any
abbrev pub FitsBelow : Option (ProcessId × Ticket) → Type 0
FitsBelow None = ⊤
FitsBelow (Some b) = FitsBranchName b
