-- What a cascaded coordinator records, remembers and accepts into is of cases that it gave: the statement.
use Rattle.std.proofs.Common.{◌≡◌, ◌≢◌, ◌∙◌, inl, inr, true, false, None, Some, List, [], ◌∷◌, ◌++◌, ap}
use Rattle.protocol.specs.declared.names.Case.{Case}
use Rattle.protocol.specs.declared.names.Ticket.{Ticket}
use Rattle.protocol.specs.declared.names.Txn.{Txn}
use Rattle.protocol.specs.declared.messages.Message.{Message}
use Rattle.protocol.specs.declared.messages.Message.TheVariants.{Join, Joined, Work, Prepare, Yes, No, Read, Commit, Abort, Ack, Inquire}
use Rattle.protocol.specs.declared.messages.Envelope.{Envelope}
use Rattle.protocol.specs.Names.{root_case, child_case}
use Rattle.protocol.specs.Records.{has, is_collecting}
use Rattle.protocol.specs.Nodes.{Place, Node}
use Rattle.protocol.specs.Memory.{Idle, Asked, memory_of}
use Rattle.protocol.specs.Outcomes.{sent, has_accepted}
use Rattle.proof_pairs.specs.readings.ReadingOf.{gives_case, is_prepare_message}
use Rattle.protocol.specs.Audits.{is_promise}
use Rattle.proof_pairs.proofs.readings.Lists.{sent-append}
use Rattle.proof_processes.specs.WorldHolds.{is_record_of}
use Rattle.proof_processes.proofs.Tests.{either, right, case_is}
use Rattle.proof_processes.proofs.GivenCases.{IsGiven, given_still}

pub record Gives (place : Place) (net : List Envelope) (n : Node) : Type 0 where
  pub recorded_is_given : (d : Case) → has (is_record_of d) n.life ≡ true → IsGiven place.me net d
  pub remembered_is_given : n.failed ≡ false → (d : Case) → (memory_of place n d).phase ≢ Idle
      → IsGiven place.me net d
  pub accepted_is_given : (d : Case) (t : Ticket) → has_accepted n d t ≡ true → IsGiven place.me net d
  pub asked_was_prepared : n.failed ≡ false → (d : Case) → (memory_of place n d).phase ≡ Asked
      → sent (is_prepare_message d) net ≡ true
  pub collected_was_prepared : (d : Case) → has (is_collecting d) n.life ≡ true
      → sent (is_prepare_message d) net ≡ true
  pub promised_was_asked : (d : Case) → has (is_promise d) n.life ≡ true → sent (is_prepare_message d) net
      ≡ true

pub prepared_still : (net ls : List Envelope) (d : Case) → sent (is_prepare_message d) net ≡ true
    → sent (is_prepare_message d) (net ++ ls) ≡ true
prepared_still net ls d e = sent-append (is_prepare_message d) net ls ∙ right _ _ e

-- A step of another process.
pub gives_elsewhere : (place : Place) (net ls : List Envelope) (n : Node) → Gives place net n
    → Gives place (net ++ ls) n
gives_elsewhere place net ls n h = record {
  recorded_is_given = λ d e. given_still place.me net ls d (h.recorded_is_given d e);
  remembered_is_given = λ up d e. given_still place.me net ls d (h.remembered_is_given up d e);
  accepted_is_given = λ d t e. given_still place.me net ls d (h.accepted_is_given d t e);
  asked_was_prepared = λ up d e. prepared_still net ls d (h.asked_was_prepared up d e);
  collected_was_prepared = λ d e. prepared_still net ls d (h.collected_was_prepared d e);
  promised_was_asked = λ d e. prepared_still net ls d (h.promised_was_asked d e);
}

-- a case without a ticket is never given
pub never_given : (x : Txn) (ls : List Envelope) → sent (gives_case (root_case x)) ls ≡ true → ⊥
unfolding sent
never_given x [] e = cc
never_given x (l ∷ ls) e =
    elim (either (gives_case (root_case x) l.message) (sent (gives_case (root_case x)) ls) e) [
      | inl now ↦ not_by l.message now
      | inr rest ↦ never_given x ls rest
    ]
  where
    not_by : (m : Message) → gives_case (root_case x) m ≡ true → ⊥
    not_by (Joined d u) f =
        let g : Some u ≡ None =
        ap (λ (c : Case). c.ticket) (case_is (child_case d.txn u) (root_case x) f) in absurd (cc)
    not_by (Join d) f = cc
    not_by (Work d i op) f = cc
    not_by (Prepare d k) f = cc
    not_by (Yes d) f = cc
    not_by (No d) f = cc
    not_by (Read d) f = cc
    not_by (Commit d) f = cc
    not_by (Abort d) f = cc
    not_by (Ack d o fs) f = cc
    not_by (Inquire d) f = cc
