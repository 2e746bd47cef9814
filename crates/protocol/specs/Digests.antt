-- The numbers that stand for names in a hash.
use Rattle.std.specs.Prelude.{ℕ}
use Rattle.xa_xid.specs.Digests.{mixed}
use Rattle.protocol.specs.declared.names.Presumption.{Presumption}
use Rattle.protocol.specs.declared.names.Presumption.TheVariants.{PresumeAbort, PresumeCommit}
use Rattle.protocol.specs.declared.names.Ticket.{Ticket}
use Rattle.protocol.specs.declared.names.Txn.{Txn}

-- a presumption as a number
abbrev pub presumption_digest : Presumption → ℕ
presumption_digest PresumeAbort = 0
presumption_digest PresumeCommit = 1

-- the digest of a transaction: its presumption, its root, boot and sequence number
unfoldable pub txn_digest : Txn → ℕ
txn_digest x = mixed (mixed (mixed (presumption_digest x.presumption) x.root.0) x.boot) x.sequence

-- the digest of a ticket: its child, boot and number
unfoldable pub ticket_digest : Ticket → ℕ
ticket_digest t = mixed (mixed t.child.0 t.boot) t.number
