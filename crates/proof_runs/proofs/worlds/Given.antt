-- A process that gives tickets: a child belongs to one of its cases, and no record is of the ticket that is
-- given next.
use Rattle.std.proofs.Common.{◌≡◌, inl, inr, ◌+◌, Bool, true, false, List, refl, ap}
use Rattle.protocol.specs.declared.names.Case.{Case}
use Rattle.protocol.specs.declared.names.Ticket.{Ticket}
use Rattle.protocol.specs.declared.messages.Envelope.{Envelope}
use Rattle.protocol.specs.Records.{boot_of, has}
use Rattle.protocol.specs.Nodes.{Node, Place, kept}
use Rattle.protocol.specs.Memory.{memory_of, next_ticket}
use Rattle.protocol.specs.Standings.{belongs, some_case}
use Rattle.protocol.specs.Views.{fresh_case}
use Rattle.protocol.specs.Outcomes.{is_joined_message, sent}
use Rattle.proof_processes.specs.Lasts.{Nested, logs_of}
use Rattle.proof_processes.specs.WorldHolds.{Coordinates, Issues, JoinedOnce, is_record_of}
use Rattle.protocol.specs.Audits.{is_naming}
use Rattle.proof_processes.proofs.Naming.{records_name}
use Rattle.proof_processes.proofs.PairOf.{given}
use Rattle.proof_processes.proofs.Selves.{Self, self_same}
use Rattle.proof_processes.proofs.Tests.{case_is, either}
use Rattle.proof_runs.proofs.worlds.Cases.{not_given}

module _ (place : Place) (net : List Envelope) (n : Node) (nested : Nested (logs_of n))
    (up : n.failed ≡ false) where
  pub fresh_unrecorded : Issues place net n → (d : Case)
      → has (is_record_of (fresh_case place n d)) (kept n) ≡ false
  fresh_unrecorded issues d = by_test (has (is_record_of (fresh_case place n d)) (kept n)) refl
    where
      by_test : (b : Bool) → has (is_record_of (fresh_case place n d)) (kept n) ≡ b
          → has (is_record_of (fresh_case place n d)) (kept n) ≡ false
      by_test false e = e
      by_test true e =
          let t = next_ticket place.me (boot_of (kept n)) (memory_of place n d) in
          let own = issues.recorded_is_given (fresh_case place n d)
          (nested.kept_was_written (is_record_of (fresh_case place n d)) (λ k. refl) e) in
          let parent = given net d.txn t own.1 in
          not_given (boot_of (kept n)) (memory_of place n (some_case place)).given t.number
          (ap (λ (s : Self). s.given + 1) (self_same place n d (some_case place)))
          (issues.given_once up parent.of t refl parent.joined)

  -- a child belongs to a case that accepted it, and JOINED gave its ticket to that
  accepts : Coordinates place net n → (c : Case) (t : Ticket)
      → belongs (memory_of place n c) (kept n) c t ≡ true
      → sent (is_joined_message c t) net ≡ true
  accepts coordinates c t its = (coordinates.accepted_was_joined c t (elim (either _ _ its) [
    | inl accepted ↦ coordinates.remembered_accepted c t accepted
    | inr named ↦
        coordinates.named_accepted c t
        (nested.kept_was_written (is_naming c t) (λ k. refl) (records_name c t (kept n) named))
  ])).1

  pub one_case : Coordinates place net n → JoinedOnce net → (t : Ticket) (c d : Case)
      → belongs (memory_of place n c) (kept n) c t ≡ true
      → belongs (memory_of place n d) (kept n) d t ≡ true → c ≡ d
  one_case coordinates once t c d its other =
      case_is c d (once c d t (accepts coordinates c t its) (accepts coordinates d t other))
