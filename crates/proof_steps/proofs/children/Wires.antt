-- What one message to the parent leaves of the net's part of a reading.
use Rattle.std.proofs.Common.{◌≡◌, true, false, List, [], ◌∷◌, ◌++◌}
use Rattle.protocol.specs.declared.names.Case.{Case}
use Rattle.protocol.specs.declared.names.Outcome.{Outcome}
use Rattle.protocol.specs.declared.names.ProcessId.{ProcessId}
use Rattle.protocol.specs.declared.names.Ticket.{Ticket}
use Rattle.protocol.specs.declared.messages.Envelope.{Envelope}
use Rattle.protocol.specs.declared.messages.Message.TheVariants.{Yes, No, Read, Ack, Inquire}
use Rattle.protocol.specs.Names.{child_case, same_case}
use Rattle.protocol.specs.NameLaws.{same_case-refl}
use Rattle.protocol.specs.CoordinatorRows.{post}
use Rattle.proof_pairs.specs.readings.ReadingOf.{wire}
use Rattle.proof_pairs.proofs.readings.Lists.{sent-push, sent-nil}
use Rattle.protocol.specs.declared.messages.Finding.{Finding}

module _ (c : Case) (t : Ticket) (q p : ProcessId) (net : List Envelope) where
  pub wire-none : wire c t (net ++ []) ≡ wire c t net
  wire-none = simp (sent-nil)

  pub wire-yes : wire c t (net ++ post q p (Yes (child_case c.txn t)) ∷ []) ≡ record (wire c t net)
      { yes = true }
  wire-yes = simp (sent-push, same_case-refl)

  pub wire-no : wire c t (net ++ post q p (No (child_case c.txn t)) ∷ []) ≡ record (wire c t net)
      { no = true }
  wire-no = simp (sent-push, same_case-refl)

  pub wire-read : same_case (child_case c.txn t) c ≡ false
      → wire c t (net ++ post q p (Read (child_case c.txn t)) ∷ []) ≡ record (wire c t net) { read = true }
  wire-read e = simp (sent-push, same_case-refl, e)

  pub wire-ack : (o : Outcome) (fs : List Finding)
      → wire c t (net ++ post q p (Ack (child_case c.txn t) o fs) ∷ []) ≡ record (wire c t net) { ack = true }
  wire-ack o fs = simp (sent-push, same_case-refl)

  pub wire-inquire : wire c t (net ++ post q p (Inquire (child_case c.txn t)) ∷ []) ≡ record (wire c t net)
      { inquire = true }
  wire-inquire = simp (sent-push, same_case-refl)

  module _ (d : Case) (other : same_case d (child_case c.txn t) ≡ false) where
    pub other-yes : wire c t (net ++ post q p (Yes d) ∷ []) ≡ wire c t net
    other-yes = simp (sent-push, other)

    pub other-no : wire c t (net ++ post q p (No d) ∷ []) ≡ wire c t net
    other-no = simp (sent-push, other)

    pub other-read : same_case d c ≡ false → wire c t (net ++ post q p (Read d) ∷ []) ≡ wire c t net
    other-read e = simp (sent-push, other, e)

    pub other-ack : (o : Outcome) (fs : List Finding)
        → wire c t (net ++ post q p (Ack d o fs) ∷ []) ≡ wire c t net
    other-ack o fs = simp (sent-push, other)

    pub other-inquire : wire c t (net ++ post q p (Inquire d) ∷ []) ≡ wire c t net
    other-inquire = simp (sent-push, other)
