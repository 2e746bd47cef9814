-- In every run whom an End of the root reports as mixed has had a mismatch.
use Rattle.std.proofs.Common.{◌≡◌, ◌≢◌, ◌||◌, Bool, true, Some, List, [], ◌∷◌, ◌++◌, sym, subst, arith}
use Rattle.protocol.specs.declared.names.Case.{Case}
use Rattle.protocol.specs.declared.names.ProcessId.{ProcessId}
use Rattle.protocol.specs.declared.names.Ticket.{Ticket}
use Rattle.protocol.specs.declared.names.Txn.{Txn}
use Rattle.protocol.specs.declared.names.Outcome.{Outcome}
use Rattle.protocol_words.specs.Variants.{AbortedOutcome, CommittedOutcome}
use Rattle.protocol.specs.declared.records.Record.TheVariants.{Opened}
use Rattle.protocol.specs.declared.events.Happening.{Happening}
use Rattle.protocol.specs.declared.trees.TreeProcess.{TreeProcess}
use Rattle.protocol.specs.Names.{root_case}
use Rattle.protocol.specs.Records.{has}
use Rattle.protocol.specs.Nodes.{AtRoot, Effect, Node, Place, Role, place_of, role_of}
use Rattle.protocol.specs.Outcomes.{outcome_of, root_ends}
use Rattle.protocol.specs.Standings.{other_outcome}
use Rattle.protocol.specs.Trees.{IsTree}
use Rattle.protocol.specs.World.{IsRun, Made, Move, MayHappen, World, makes, opens, put_at, world_makes}
use Rattle.protocol.proofs.RunLaws.{makes_at}
use Rattle.proof_pairs.specs.turns.Steps.{StepOf}
use Rattle.proof_processes.specs.WorldHolds.{NodeHolds}
use Rattle.proof_processes.proofs.RootsHold.{nodes_hold}
use Rattle.proof_processes.proofs.Tests.{has-nil}
use Rattle.proof_headline.proofs.runs.Headline
use Rattle.proof_reports.specs.Findings.{MixedHadMismatch, reports_mixed}
use Rattle.proof_reports.proofs.Commits.{CommitsForced, commits_forced}
use Rattle.proof_reports.proofs.Reports.{IsReported, ended_still, has_ended, reported_then}
use Rattle.proof_reports.proofs.Runs.{FindingsHold, findings_hold, input_so}
use Rattle.proof_reports.proofs.Runs

-- the root's commits are forced, and its reports are of tickets that were decided against
pub record ReportsHold (tree : List TreeProcess) (w : World) : Type 0 where
  pub forced : (q : ProcessId) → role_of tree q ≡ AtRoot → CommitsForced (w.at q)
  pub reported : (q : ProcessId) → role_of tree q ≡ AtRoot → (c : Case) (t : Ticket)
      → has (reports_mixed c t) (w.at q).life ≡ true → IsReported w.at (w.at q) c t

module _ (tree : List TreeProcess) (es : List Made) (w : World) (run : IsRun tree es w)
    (found : FindingsHold tree w)
    (h : ReportsHold tree w) (m : Move) (e : Effect) (w' : World)
    (stands : MayHappen w.net m.step.process m.step.happening) (made : world_makes tree w m ≡ Some (e, w'))
  where
    abbrev q : ProcessId
    q = m.step.process

    abbrev at : Role → Place
    at r = record { me = q; role = r; tree = tree }

    step_at : role_of tree q ≡ AtRoot → StepOf (at AtRoot) (w.at q) m e (makes_at tree w m e w' made).node
    step_at f =
        subst (λ r. StepOf (at r) (w.at q) m e (makes_at tree w m e w' made).node) f
        (Runs.step tree es w run found m e w' stands made)

    node : NodeHolds (place_of tree q) w.net (w.at q)
    node = nodes_hold tree es w run q

    here : role_of tree q ≡ AtRoot → (c : Case) (t : Ticket)
        → has (reports_mixed c t) (makes_at tree w m e w' made).node.life ≡ true
        → IsReported w.at (makes_at tree w m e w' made).node c t
    here role c t f =
        let s = reported_then w.at q tree m (w.at q) (found.heard q) (h.forced q role) node.lasts.nested c t
        (h.reported q role c t)
        (λ i hp. input_so tree w.at w.net found.net q i
        (subst (λ (y : Happening). MayHappen w.net q y) hp stands)) e
        (makes_at tree w m e w' made).node (step_at role) f in
        record {
          outcome = s.outcome;
          against = s.against;
          ended = ended_still (at AtRoot) m (w.at q) e (makes_at tree w m e w' made).node
              (step_at role) c s.outcome
              s.ended;
        }

    later : (r : ProcessId) → (n : Node) (c : Case) (t : Ticket) → IsReported w.at n c t
        → IsReported (put_at q (makes_at tree w m e w' made).node w.at) n c t
    later r n c t s = record {
      outcome = s.outcome;
      against = Runs.grows tree es w run found m e w' stands made t.child _ s.against;
      ended = s.ended;
    }

    keeps : ReportsHold tree (record {
      at = put_at q (makes_at tree w m e w' made).node w.at;
      net = w.net ++ e.messages;
    })
    keeps = record {
      forced = Runs.by_process tree es w run found m e w' stands made
          (λ r n. role_of tree r ≡ AtRoot → CommitsForced n)
          (λ role. commits_forced q tree m (w.at q) e (makes_at tree w m e w' made).node (step_at role)
          (h.forced q role)) h.forced;
      reported = λ r role c t f. later r (put_at q (makes_at tree w m e w' made).node w.at r) c t
          (Runs.by_process tree es w run found m e w' stands made
          (λ r n. role_of tree r ≡ AtRoot → (c : Case) (t : Ticket) → has (reports_mixed c t) n.life ≡ true
          → IsReported w.at n c t) here h.reported r role c t f);
    }

opened_none : {A : Type 0} (c : Case) (t : Ticket) → has (reports_mixed c t) (Opened 1 ∷ []) ≡ true → A
unfolding has
opened_none c t e = absurd (cc)

pub reports_hold : (tree : List TreeProcess) (es : List Made) (w : World) → IsRun tree es w
    → ReportsHold tree w
reports_hold tree _ _ opens =
    record { forced = λ q role up c. has-nil _; reported = λ q role c t e. opened_none c t e }
reports_hold tree _ _ (makes es w m e w' run stands made) =
    subst (λ (x : World). ReportsHold tree x) (sym (makes_at tree w m e w' made).world)
    (keeps tree es w run (findings_hold tree es w run) (reports_hold tree es w run) m e w' stands made)

-- The mismatch.

first_of_three : (a b c : Bool) → a ≡ true → (a || b || c) ≡ true
first_of_three a b c e = grind arith

ends_so : (n : Node) (x : Txn) (o : Outcome) → has_ended n (root_case x) o ≡ true → root_ends n x o ≡ true
ends_so n x CommittedOutcome e = e
ends_so n x AbortedOutcome e = first_of_three _ _ _ e

other_differs : (o u : Outcome) → o ≡ u → other_outcome o ≢ u
other_differs CommittedOutcome u e f = cc
other_differs AbortedOutcome u e f = cc

pub reported_had_mismatch : (tree : List TreeProcess) → IsTree tree → (es : List Made) (w : World)
    → IsRun tree es w
    → MixedHadMismatch tree w
reported_had_mismatch tree is_tree es w run x t role e =
    let s = (reports_hold tree es w run).reported x.root role (root_case x) t e in
    let agrees = (Headline.headline tree is_tree es w run).agreement.root_agrees x s.outcome role
    (ends_so (w.at x.root) x s.outcome s.ended) in (
      other_outcome s.outcome,
      record { decided = s.against; differs = other_differs s.outcome (outcome_of w x) agrees },
    )
