-- What a pair says of a ticket's case at its own process: what is settled, and what was ever decided.
use Rattle.std.proofs.Common.{◌≡◌, ◌&&◌, ◌||◌, ◌⊎◌, Bool, true, false, Option, Some, None, List, subst, arith}
use Rattle.protocol.specs.declared.names.Case.{Case}
use Rattle.protocol.specs.declared.names.ProcessId.{ProcessId}
use Rattle.protocol.specs.declared.names.Ticket.{Ticket}
use Rattle.protocol.specs.declared.names.Txn.{Txn}
use Rattle.protocol.specs.declared.messages.Message.{Message}
use Rattle.protocol.specs.declared.trees.TreeProcess.{TreeProcess}
use Rattle.protocol.specs.Names.{child_case, process_of}
use Rattle.protocol.specs.Records.{has, is_abort, is_forgot, is_heuristic, is_prepare}
use Rattle.protocol.specs.Nodes.{Node, Place, kept, place_of}
use Rattle.protocol.specs.Outcomes.{is_joined_message, sent}
use Rattle.protocol.specs.Standings.{standing_of}
use Rattle.protocol.specs.World.{World}
use Rattle.proof_pairs.specs.Invariant.{Common}
use Rattle.proof_pairs.specs.Reading.{is_live}
use Rattle.proof_pairs.specs.readings.ReadingOf.{gives_case, is_ack_message, phase_by}
use Rattle.protocol.specs.Audits.{is_learnt_abort, is_learnt_commit, is_promise}
use Rattle.proof_processes.specs.WorldHolds.{WorldHolds, is_about, pair_reading}
use Rattle.proof_processes.proofs.GivenCases.{sent_other}
use Rattle.proof_processes.proofs.PairOf.{given, pair_of}
use Rattle.proof_processes.proofs.Tests.{and}
use Rattle.proof_headline.proofs.runs.MessagesHold.{none_gives}

-- an open case was never decided by an operator; a decision that was ever forced is forced, or was forgotten;
-- and one that was forgotten stays so while its promise is kept
pub record CaseFacts (place : Place) (n : Node) (d : Case) : Type 0 where
  pub open_undecided : is_live (phase_by n.failed (standing_of place n d)) ≡ true
      → has (is_heuristic d) n.durable ≡ false
  pub decision_stays : has (is_heuristic d) n.durable ≡ true
      → (has (is_heuristic d) n.forced ≡ true) ⊎ (has (is_forgot d) n.durable ≡ true)
  pub forgot_stays : has (is_forgot d) n.durable ≡ true → has (is_promise d) (kept n) ≡ true
      → has (is_forgot d) (kept n) ≡ true

-- the case is over: it is not open, and it keeps no promise, or its outcome, or a Forgot, is in the forced
-- front
pub record IsOver (place : Place) (n : Node) (d : Case) : Type 0 where
  pub closed : is_live (phase_by n.failed (standing_of place n d)) ≡ false
  pub decided : (has (is_promise d) (kept n) ≡ false)
      ⊎ ((has (is_learnt_commit d) n.forced ≡ true)
      ⊎ (((has (is_learnt_abort d) n.forced || (has (is_abort d) n.forced && has (is_prepare d) n.forced))
      ≡ true)
      ⊎ (has (is_forgot d) n.forced ≡ true)))

not_open : (a b : Bool) → a ≡ true → (a && b) ≡ false → b ≡ false
not_open a b e f = grind arith

module _ (tree : List TreeProcess) (w : World) (c : Case) (t : Ticket)
    (joined : sent (is_joined_message c t) w.net ≡ true) (common : Common (pair_reading tree w c t))
  where
    facts_of : CaseFacts (place_of tree t.child) (w.at t.child) (child_case c.txn t)
    facts_of = record {
      open_undecided = λ e. (common.not_voted (and _ _ joined e)).no_heuristic;
      decision_stays = common.heuristic_stays;
      forgot_stays = common.forgot_stays;
    }

    over_of : sent (is_ack_message (child_case c.txn t)) w.net ≡ true
        → IsOver (place_of tree t.child) (w.at t.child) (child_case c.txn t)
    over_of e =
        let s = common.ack_means e in record { closed = not_open _ _ joined s.closed; decided = s.decided }

ack_about : (d : Case) (m : Message) → is_ack_message d m ≡ true → is_about d m ≡ true
ack_about d m e = grind arith

module _ (tree : List TreeProcess) (w : World) (h : WorldHolds tree w) (x : Txn) (t : Ticket) where
  pub given_facts : sent (gives_case (child_case x t)) w.net ≡ true
      → CaseFacts (place_of tree t.child) (w.at t.child) (child_case x t)
  given_facts e =
      let g = given w.net x t e in
      subst (λ (y : Txn). CaseFacts (place_of tree t.child) (w.at t.child) (child_case y t)) g.same
      (facts_of tree w g.of t g.joined (pair_of tree w h x t g).1)

  pub acked_over : sent (is_ack_message (child_case x t)) w.net ≡ true
      → IsOver (place_of tree t.child) (w.at t.child) (child_case x t)
  acked_over e =
      let g = given w.net x t (h.about_given (child_case x t)
      (sent_other (is_ack_message (child_case x t)) (is_about (child_case x t)) w.net
      (ack_about (child_case x t)) e)) in
      subst (λ (y : Txn). sent (is_ack_message (child_case y t)) w.net ≡ true
      → IsOver (place_of tree t.child) (w.at t.child) (child_case y t)) g.same
      (over_of tree w g.of t g.joined (pair_of tree w h x t g).1) e

-- the same, of any case that was given and is at the process
pub facts_at : (tree : List TreeProcess) (w : World) → WorldHolds tree w → (q : ProcessId) (d : Case)
    → process_of d ≡ q → sent (gives_case d) w.net ≡ true → CaseFacts (place_of tree q) (w.at q) d
facts_at tree w h q d own e = by_ticket d.txn d.ticket own e
  where
    by_ticket : (x : Txn) (o : Option Ticket) → process_of (record { txn = x; ticket = o }) ≡ q
        → sent (gives_case (record { txn = x; ticket = o })) w.net ≡ true
        → CaseFacts (place_of tree q) (w.at q) (record { txn = x; ticket = o })
    by_ticket x None f g = absurd (none_gives x w.net g)
    by_ticket x (Some t) f g =
        subst (λ (r : ProcessId). CaseFacts (place_of tree r) (w.at r) (child_case x t)) f
        (given_facts tree w h x t g)
