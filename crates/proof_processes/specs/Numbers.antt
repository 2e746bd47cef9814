-- The numbers of a process's tickets, before and after its restarts.
use Rattle.std.specs.Prelude.{◌≡◌, ◌≤◌, true, false, Some, List}
use Rattle.protocol.specs.declared.names.Case.{Case}
use Rattle.protocol.specs.declared.names.Ticket.{Ticket}
use Rattle.protocol.specs.declared.messages.Envelope.{Envelope}
use Rattle.protocol.specs.Records.{boot_of}
use Rattle.protocol.specs.Nodes.{Role, AtRoot, Below, AtLeaf, Place, Node, kept}
use Rattle.protocol.specs.Memory.{memory_of, active_ticket}
use Rattle.protocol.specs.Standings.{some_case}
use Rattle.protocol.specs.Outcomes.{sent, is_joined_message}
use Rattle.proof_processes.specs.WorldHolds.{IsGivenOut}

-- a process that gives tickets
abbrev pub IsIssuer : Role → Type 0
IsIssuer AtRoot = ⊥
IsIssuer (Below p) = Unit {0}
IsIssuer (AtLeaf p) = Unit {0}

-- Each ticket of the process that JOINED told of has a number that it gave out; its boot is no later than
-- that of the forced front, also where the process failed; and each active ticket was told of.
pub record TicketNumbers (place : Place) (net : List Envelope) (n : Node) : Type 0 where
  pub given_once : n.failed ≡ false → (d : Case) (t : Ticket) → t.child ≡ place.me
      → sent (is_joined_message d t) net ≡ true
      → IsGivenOut t.boot t.number (boot_of (kept n)) (memory_of place n (some_case place)).given
  pub given_before : (d : Case) (t : Ticket) → t.child ≡ place.me
      → sent (is_joined_message d t) net ≡ true → t.boot ≤ boot_of n.forced
  pub active_was_joined : n.failed ≡ false → (d e : Case) (t : Ticket)
      → active_ticket (memory_of place n e).active d ≡ Some t
      → (t.child ≡ place.me) × (sent (is_joined_message d t) net ≡ true)
