-- The transactions that a root began.
use Rattle.std.specs.Prelude.{◌≡◌, ◌≢◌, ◌≤◌, true, false, None}
use Rattle.protocol.specs.declared.names.Case.{Case}
use Rattle.protocol.specs.declared.names.Ticket.{Ticket}
use Rattle.protocol.specs.declared.names.Txn.{Txn}
use Rattle.protocol.specs.Names.{process_of}
use Rattle.protocol.specs.Records.{has, boot_of}
use Rattle.protocol.specs.Nodes.{Place, Node, kept}
use Rattle.protocol.specs.Memory.{Idle, memory_of}
use Rattle.protocol.specs.Standings.{some_case}
use Rattle.protocol.specs.Outcomes.{has_accepted}
use Rattle.proof_processes.specs.WorldHolds.{IsGivenOut, is_record_of, has_begun}

-- A transaction that the root has begun is its own, with a number that it gave out, in a boot that is in the
-- forced front; and each case that it recorded, remembers, or accepted a ticket into, is of such a
-- transaction.
pub record OwnTransactions (place : Place) (n : Node) : Type 0 where
  pub begun_once : n.failed ≡ false → (x : Txn) → has_begun place n x ≡ true
      → (x.root ≡ place.me) × IsGivenOut x.boot x.sequence (boot_of (kept n))
      (memory_of place n (some_case place)).begun
  pub begun_before : (x : Txn) → has_begun place n x ≡ true → x.boot ≤ boot_of n.forced
  pub own_records : (d : Case) → has (is_record_of d) n.life ≡ true
      → (d.ticket ≡ None) × ((process_of d ≡ place.me) × (has_begun place n d.txn ≡ true))
  pub accepted_is_begun : (d : Case) (t : Ticket) → has_accepted n d t ≡ true
      → (d.ticket ≡ None) × (has_begun place n d.txn ≡ true)
  pub own_memory : (d : Case) → (memory_of place n d).phase ≢ Idle
      → (d.ticket ≡ None) × (process_of d ≡ place.me)
