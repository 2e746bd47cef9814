-- In every run no branch of a manager is decided in both ways.
use Rattle.std.proofs.Common.{◌≡◌, ◌∙◌, Bool, true, false, List, [], ◌∷◌, refl, sym, subst, arith}
use Rattle.protocol.specs.declared.names.Case.{Case}
use Rattle.protocol_words.specs.Variants.{AbortedOutcome, CommittedOutcome}
use Rattle.protocol.specs.declared.names.ProcessId.{ProcessId}
use Rattle.protocol.specs.declared.records.Record.{Record}
use Rattle.protocol.specs.declared.records.Record.TheVariants.{Opened}
use Rattle.protocol.specs.declared.trees.TreeProcess.{TreeProcess}
use Rattle.protocol.specs.Names.{process_of}
use Rattle.protocol.specs.Records.{has, is_decided, is_heuristic}
use Rattle.protocol.specs.Nodes.{AtLeaf, Node, Place, Role, opened_node, place_of, role_of}
use Rattle.protocol.specs.Outcomes.{sent}
use Rattle.protocol.specs.Standings.{Promised}
use Rattle.protocol.specs.Trees.{IsTree}
use Rattle.protocol.specs.World.{IsRun, Made, World, makes, opens}
use Rattle.protocol.proofs.RunLaws.{makes_at}
use Rattle.proof_pairs.specs.readings.ReadingOf.{gives_case}
use Rattle.protocol.specs.Audits.{is_promise}
use Rattle.proof_pairs.specs.turns.LeafTurns.{IsOpenBranch, mark_at, waits}
use Rattle.proof_pairs.specs.turns.Steps.{StepOf}
use Rattle.proof_pairs.proofs.turns.Steps.{step_of}
use Rattle.proof_processes.specs.WorldHolds.{NodeHolds, is_record_of}
use Rattle.proof_processes.proofs.RootsHold.{nodes_hold}
use Rattle.proof_processes.proofs.Tests.{has-cons, has-nil, in_none, neither}
use Rattle.proof_processes.proofs.Worlds.{has_other, put}
use Rattle.proof_steps.proofs.children.Doubts.{promised_so}
use Rattle.proof_headline.proofs.runs.Headline.{the_world_holds}
use Rattle.proof_reports.specs.SinceOpened.{ever}
use Rattle.proof_reports.proofs.Facts.{CaseFacts, facts_at}
use Rattle.proof_reports.proofs.ManagerAcks.{OneDecision, promised_never}
use Rattle.proof_reports.proofs.Naming.{never}
use Rattle.proof_reports.proofs.Operators.{still_one}

promise_recorded : (d : Case) (r : Record) → is_promise d r ≡ true → is_record_of d r ≡ true
promise_recorded d r e = grind arith

opened_lacks : (q : Record → Bool) → q (Opened 1) ≡ false → has q (ever opened_node) ≡ false
opened_lacks q e =
    in_none q (Opened 1 ∷ []) (Opened 1 ∷ []) (has-cons q (Opened 1) [] ∙ neither _ _ e (has-nil q))
    (has-cons q (Opened 1) [] ∙ neither _ _ e (has-nil q))

opened_one : OneDecision opened_node
opened_one d CommittedOutcome a b = never _ a (opened_lacks (is_decided d CommittedOutcome) refl)
opened_one d AbortedOutcome a b = never _ a (opened_lacks (is_decided d AbortedOutcome) refl)

module _ (tree : List TreeProcess) (is_tree : IsTree tree) where
  abbrev at : ProcessId → Role → Place
  at q r = record { me = q; role = r; tree = tree }

  pub leaf_node : (es : List Made) (w : World) → IsRun tree es w → (q p : ProcessId)
      → role_of tree q ≡ AtLeaf p
      → NodeHolds (record { me = q; role = AtLeaf p; tree = tree }) w.net (w.at q)
  leaf_node es w run q p leaf = subst (λ (r : Role). NodeHolds (at q r) w.net (w.at q)) leaf
      (nodes_hold tree es w run q)

  pub leaf_facts : (es : List Made) (w : World) → IsRun tree es w → (q p : ProcessId)
      → role_of tree q ≡ AtLeaf p
      → (d : Case) → process_of d ≡ q → sent (gives_case d) w.net ≡ true
      → CaseFacts (record { me = q; role = AtLeaf p; tree = tree }) (w.at q) d
  leaf_facts es w run q p leaf d own given =
      subst (λ (r : Role). CaseFacts (at q r) (w.at q) d) leaf
      (facts_at tree w (the_world_holds tree is_tree es w run) q d own given)

  -- a branch that has promised was never decided
  pub promised_undecided : (es : List Made) (w : World) → IsRun tree es w → (q p : ProcessId)
      → role_of tree q ≡ AtLeaf p → OneDecision (w.at q) → (d : Case) → mark_at (w.at q) d ≡ Promised
      → has (is_heuristic d) (ever (w.at q)) ≡ false
  promised_undecided es w run q p leaf one d e =
      let node = leaf_node es w run q p leaf in
      let g = node.role.1.recorded_is_given d
      (has_other (is_promise d) (is_record_of d) (w.at q).life (promise_recorded d)
      (node.lasts.nested.kept_was_written (is_promise d) (λ k. refl)
      (promised_so (w.at q) node.lasts.nested node.lasts.by_role d (subst IsOpenBranch (sym e) waits)))) in
      promised_never w.net (at q (AtLeaf p)) p refl (w.at q) node.lasts.nested node.lasts.by_role one
      (the_world_holds tree is_tree es w run).about_given (leaf_facts es w run q p leaf) d
      (leaf_facts es w run q p leaf d g.0 g.1) e

  pub all_one : (es : List Made) (w : World) → IsRun tree es w → (q p : ProcessId) → role_of tree q ≡ AtLeaf p
      → OneDecision (w.at q)
  all_one _ _ opens q = λ p leaf. opened_one
  all_one _ _ (makes es w m e w' run stands step) q =
      let now = makes_at tree w m e w' step in
      let x = m.step.process in
      let s = step_of (place_of tree x) (w.at x) m e now.node now.made in
      let P : ProcessId → Node → Type 0 = λ y k. (p : ProcessId) → role_of tree y ≡ AtLeaf p → OneDecision k
      in
      subst (λ (y : World). P q (y.at q)) (sym now.world)
      (put P x q now.node w.at
      (λ p leaf. let old = all_one es w run x p leaf in
      still_one x p tree m (w.at x) old (promised_undecided es w run x p leaf old) e now.node
      (subst (λ (r : Role). StepOf (at x r) (w.at x) m e now.node) leaf s))
      (all_one es w run q))
