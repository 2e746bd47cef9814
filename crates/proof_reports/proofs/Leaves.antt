-- What a manager's acknowledgement says is true.
use Rattle.std.proofs.Common.{◌≡◌, Bool, true, false, not, Option, Some, None, List, [], ◌∷◌, refl, sym, subst, if◌then◌else◌}
use Rattle.std.specs.List.{flat_map}
use Rattle.protocol.specs.declared.names.Case.{Case}
use Rattle.protocol.specs.declared.names.ProcessId.{ProcessId}
use Rattle.protocol.specs.declared.names.Ticket.{Ticket}
use Rattle.protocol.specs.declared.names.Txn.{Txn}
use Rattle.protocol.specs.declared.names.Outcome.{Outcome}
use Rattle.protocol_words.specs.Variants.{AbortedOutcome, CaseBranch, CommittedOutcome}
use Rattle.protocol.specs.declared.messages.Finding.{Finding}
use Rattle.protocol.specs.declared.messages.Finding.TheVariants.{Mixed, Unreported}
use Rattle.protocol.specs.declared.messages.Message.TheVariants.{Ack}
use Rattle.protocol.specs.declared.records.Record.{Record}
use Rattle.protocol.specs.declared.trees.TreeProcess.{TreeProcess}
use Rattle.protocol.specs.Names.{child_case, process_of, same_outcome}
use Rattle.protocol.specs.Records.{decision_of, has, is_decided}
use Rattle.protocol.specs.Nodes.{Effect, First, Heard, Node, Place, Second, Version, kept}
use Rattle.protocol.specs.CoordinatorRows.{post}
use Rattle.protocol.specs.ManagerRows.{is_acknowledged}
use Rattle.protocol.specs.Memory.{fresh_memory}
use Rattle.protocol.specs.Restarts.{inquires_by, manager_resumes, recorded_branch}
use Rattle.protocol.specs.Standings.{Decided, Finished, Mark, Promised, ToldOf, Unmarked, decided_against, decided_findings, mark_of, marked_branch, other_outcome, own_finding, unknown_findings}
use Rattle.proof_pairs.specs.turns.LeafTurns.{LeafTurn, does_nothing, gives_again, gives_fresh, votes_yes, votes_read, votes_no, repeats_yes, refuses, obeys, notes, acknowledges_told, acknowledges, drops, asks, decides, forgets}
use Rattle.proof_processes.specs.WorldHolds.{AllGo}
use Rattle.proof_reports.specs.Findings.{AllSayTrue, AreTrue}
use Rattle.proof_reports.proofs.LastDecisions.{decision_stands}
use Rattle.proof_reports.proofs.Later.{flat_says}

-- who is unreported is no claim
pub unknown_so : (at : ProcessId → Node) (v : Version) (c : Case) (o : Outcome)
    → AreTrue at c.txn o (unknown_findings v c)
unknown_so at First c o = tt
unknown_so at Second c o = by_ticket c.ticket
  where
    by_ticket : (u : Option Ticket) → AreTrue at c.txn o (own_finding Unreported u)
    by_ticket None = tt
    by_ticket (Some t) = (tt, tt)

module _ (at : ProcessId → Node) (tree : List TreeProcess) (place : Place) (p : ProcessId) (n : Node)
    (known : (d : Case) (o : Outcome) → has (is_decided d o) (kept n) ≡ true
    → has (is_decided d o) (at place.me).durable ≡ true)
  where
    by_ticket : (x : Txn) (u : Option Ticket) (o : Outcome)
        → process_of (record { txn = x; ticket = u }) ≡ place.me
        → has (is_decided (record { txn = x; ticket = u }) (other_outcome o)) (kept n) ≡ true
        → AreTrue at x o (own_finding Mixed u)
    by_ticket x None o own e = tt
    by_ticket x (Some t) o own e = (
      subst (λ (q : ProcessId). has (is_decided (child_case x t) (other_outcome o)) (at q).durable ≡ true)
          (sym own) (known (child_case x t) (other_outcome o) e),
      tt,
    )

    by_outcomes : (d : Case) (o b : Outcome) → process_of d ≡ place.me → has (is_decided d b) (kept n) ≡ true
        → AreTrue at d.txn o (if not (same_outcome b o) then own_finding Mixed d.ticket else [])
    unfolding same_outcome
    by_outcomes d CommittedOutcome CommittedOutcome own e = tt
    by_outcomes d AbortedOutcome AbortedOutcome own e = tt
    by_outcomes d CommittedOutcome AbortedOutcome own e = by_ticket d.txn d.ticket CommittedOutcome own e
    by_outcomes d AbortedOutcome CommittedOutcome own e = by_ticket d.txn d.ticket AbortedOutcome own e

    decided_so : (v : Version) (d : Case) (o : Outcome) → process_of d ≡ place.me
        → AreTrue at d.txn o (decided_findings v (kept n) d o)
    decided_so First d o own = tt
    decided_so Second d o own = by_decision (decision_of (kept n) d) refl
      where
        by_decision : (k : Option Outcome) → decision_of (kept n) d ≡ k
            → AreTrue at d.txn o (if decided_against k o then own_finding Mixed d.ticket else [])
        by_decision None e = tt
        by_decision (Some b) e = by_outcomes d o b own (decision_stands d b (kept n) e)

    acknowledged : (d : Case) (o : Outcome) (fs : List Finding)
        → (process_of d ≡ place.me → AreTrue at d.txn o fs)
        → (b : Bool) → AllGo tree (if b then post place.me p (Ack d o fs) ∷ [] else [])
        → AllSayTrue at (if b then post place.me p (Ack d o fs) ∷ [] else [])
    acknowledged d o fs f true g = (f g.0.0, tt)
    acknowledged d o fs f false g = tt

    pub leaf_says : (h : Heard) (e : Effect) → LeafTurn place p n h e → AllGo tree e.messages
        → AllSayTrue at e.messages
    leaf_says h _ (obeys d o i e) g = acknowledged d o [] (λ own. tt) (is_acknowledged d.txn.presumption o) g
    leaf_says h _ (notes d o i e) g =
        acknowledged d o (decided_findings h.version (kept n) d o) (decided_so h.version d o)
        (is_acknowledged d.txn.presumption o) g
    leaf_says h _ (acknowledges_told d o i k) g =
        acknowledged d o (decided_findings h.version (kept n) d o) (decided_so h.version d o)
        (is_acknowledged d.txn.presumption o) g
    leaf_says h _ (acknowledges d o i k) g =
        acknowledged d o (unknown_findings h.version d) (λ own. unknown_so at h.version d o)
        (is_acknowledged d.txn.presumption o) g
    leaf_says h _ (drops d i a) g =
        acknowledged d AbortedOutcome [] (λ own. tt) (is_acknowledged d.txn.presumption AbortedOutcome) g
    leaf_says h _ does_nothing g = tt
    leaf_says h _ (gives_again d t i a) g = (tt, tt)
    leaf_says h _ (gives_fresh d i a s) g = (tt, tt)
    leaf_says h _ (votes_yes d k ws i a) g = (tt, tt)
    leaf_says h _ (votes_read d k i a) g = (tt, tt)
    leaf_says h _ (votes_no d k i a) g = (tt, tt)
    leaf_says h _ (repeats_yes d k i a) g = (tt, tt)
    leaf_says h _ (refuses d k i a) g = (tt, tt)
    leaf_says h _ (asks d i k) g = (tt, tt)
    leaf_says h _ (decides d o i e) g = tt
    leaf_says h _ (forgets d i e) g = tt

-- a restart acknowledges nothing
module _ (at : ProcessId → Node) (me p : ProcessId) (rs : List Record) where
  asks_says : (d : Case) (m : Mark)
      → AllSayTrue at (inquires_by me p d (marked_branch fresh_memory m)
      (marked_branch fresh_memory m).standing)
  asks_says d Unmarked = tt
  asks_says d Promised = (tt, tt)
  asks_says d Decided = (tt, tt)
  asks_says d (ToldOf o) = tt
  asks_says d Finished = tt

  resumed_says : (d : Case) → AllSayTrue at (manager_resumes me p rs d)
  unfolding recorded_branch
  resumed_says d = asks_says d (mark_of (CaseBranch d) rs)

  pub resumes_says : (cs : List Case) → AllSayTrue at (flat_map (manager_resumes me p rs) cs)
  resumes_says cs = flat_says at (manager_resumes me p rs) resumed_says cs
