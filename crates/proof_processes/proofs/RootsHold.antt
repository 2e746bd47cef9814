-- All that the world's invariant says of a root, over every run.
use Rattle.std.proofs.Common.{◌≡◌, ◌∙◌, Bool, true, false, None, List, refl, sym, subst}
use Rattle.protocol.specs.declared.names.Case.{Case}
use Rattle.protocol.specs.declared.names.ProcessId.{ProcessId}
use Rattle.protocol.specs.declared.names.Txn.{Txn}
use Rattle.protocol.specs.declared.standings.Standing.{Standing}
use Rattle.protocol.specs.declared.standings.Standing.TheVariants.{Unknown, Active, Collecting, Prepared, Committing, Aborting, Heuristic}
use Rattle.protocol.specs.declared.trees.TreeProcess.{TreeProcess}
use Rattle.protocol.specs.Names.{root_case}
use Rattle.protocol.specs.Records.{has, none_of, is_end, is_commit, is_abort, is_prepare, is_collecting, owing_by}
use Rattle.protocol.specs.Nodes.{Role, AtRoot, Below, AtLeaf, Place, place_of, role_of, Node, kept, opened_node}
use Rattle.protocol.specs.Memory.{Open, Asked, memory_of}
use Rattle.protocol.specs.Standings.{coordinator_view, phase_standing}
use Rattle.protocol.specs.World.{World, Made, IsRun, opens, makes}
use Rattle.protocol.proofs.RunLaws.{makes_at}
use Rattle.proof_model.proofs.StandingLaws.{active_facts, phase_active}
use Rattle.proof_pairs.specs.Reading.{is_live}
use Rattle.proof_pairs.specs.readings.ReadingOf.{phase_by}
use Rattle.proof_pairs.specs.turns.Steps.{StepOf}
use Rattle.proof_pairs.proofs.turns.Steps.{step_of}
use Rattle.proof_processes.specs.Lasts.{logs_of, Lasts}
use Rattle.proof_processes.specs.RootBegins.{OwnTransactions}
use Rattle.proof_processes.specs.WorldHolds.{RootHolds, NeverCommits, NodeHolds}
use Rattle.proof_processes.proofs.BootsHold.{all_booted, boots_of}
use Rattle.proof_processes.proofs.Cases.{viewed}
use Rattle.proof_processes.proofs.CoordinatorKept.{IsLive}
use Rattle.proof_processes.proofs.CoordinatorRestarts.{coordinated_last}
use Rattle.proof_processes.proofs.CoordinatorsHold.{all_coordinated, cascaded_nodes_hold, coordinates, premises}
use Rattle.proof_processes.proofs.ManagersHold.{same_self, managers_hold}
use Rattle.proof_processes.proofs.Remembering.{coordinator_place}
use Rattle.proof_processes.proofs.RootBegins.{all_begun, leaves_trace, own_transactions}
use Rattle.proof_processes.proofs.Ended.{IsEnded, by_telling, by_abort, by_finding, Dead, Never, ended_history}
use Rattle.proof_processes.proofs.RootNeverLasts.{never_last}
use Rattle.proof_processes.proofs.RootNumbered.{all_root_cases}
use Rattle.proof_processes.proofs.Worlds.{all_last, put}

opened_never : (me : ProcessId) (tree : List TreeProcess) → Never (coordinator_place me None tree) opened_node
unfolding has
opened_never me tree = record {
  stand = λ c e. absurd (cc);
  dead = λ c d. absurd (none c d);
}
  where
    none : (c : Case) → IsEnded opened_node c → ⊥
    none c (by_telling x e f) = cc
    none c (by_abort f) = cc
    none c (by_finding x e f) = cc

module _ (tree : List TreeProcess) where
  abbrev at : ProcessId → Role → Place
  at q r = record { me = q; role = r; tree = tree }

  pub all_never : (es : List Made) (w : World) → IsRun tree es w → (q : ProcessId) → role_of tree q ≡ AtRoot
      → Never (coordinator_place q None tree) (w.at q)
  all_never _ _ opens q = λ e. opened_never q tree
  all_never _ _ (makes es w m e w' run stands step) q =
      let now = makes_at tree w m e w' step in
      let x = m.step.process in
      let s = step_of (place_of tree x) (w.at x) m e now.node now.made in
      let P : ProcessId → Node → Type 0 = λ y k. role_of tree y ≡ AtRoot
      → Never (coordinator_place y None tree) k in
      subst (λ (y : World). P q (y.at q)) (sym now.world)
      (put P x q now.node w.at
      (λ role.
      let kept_so = all_coordinated tree es w run x None role in
      let did = subst (λ (r : Role). StepOf (at x r) (w.at x) m e now.node) role s in
      never_last x tree (w.at x) (all_last tree es w run x).nested
      (all_root_cases tree es w run x role) kept_so
      (all_never es w run x role) m e now.node did
      (coordinated_last x None tree (w.at x) (premises tree es w run x None role kept_so) kept_so m e now.node
      did))
      (all_never es w run q))

  -- What is stated of it.

  module _ (es : List Made) (w : World) (run : IsRun tree es w) (q : ProcessId)
      (e : role_of tree q ≡ AtRoot) where
    abbrev place : Place
    place = coordinator_place q None tree

    abbrev n : Node
    n = w.at q

    -- a case that takes no votes is not live
    closed_so : (c : Case) → Dead (coordinator_place q None tree) (w.at q) c
        → is_live (phase_by (w.at q).failed (coordinator_view (coordinator_place q None tree)
        (w.at q) c).standing)
        ≡ false
    closed_so c d = by_failed (w.at q).failed refl
      where
        by_standing : n.failed ≡ false → (st : Standing) → (coordinator_view place n c).standing ≡ st
            → is_live (phase_by false st) ≡ false
        by_standing up Active s =
            let ph = (memory_of place n c).phase in
            let was : ph ≡ Open =
            phase_active c.txn.presumption ph
            (active_facts (has (is_end c) (kept n)) (has (is_commit c) (kept n)) (has (is_abort c) (kept n))
            (has (is_prepare c) (kept n)) (has (is_collecting c) (kept n)) (none_of (owing_by c (kept n)))
            (phase_standing c.txn.presumption ph) (sym (viewed place n c) ∙ s)).heard in
            absurd (d.closed up (subst IsLive (sym was) tt))
        by_standing up Collecting s =
            let was : (memory_of place n c).phase ≡ Asked =
            ((all_coordinated tree es w run q None e).together up c).collecting_is_asked
            (sym (viewed place n c) ∙ s) in
            absurd (d.closed up (subst IsLive (sym was) tt))
        by_standing up Unknown s = refl
        by_standing up Prepared s = refl
        by_standing up Committing s = refl
        by_standing up Aborting s = refl
        by_standing up Heuristic s = refl

        by_failed : (b : Bool) → (w.at q).failed ≡ b
            → is_live (phase_by b (coordinator_view place n c).standing) ≡ false
        by_failed true up = refl
        by_failed false up = by_standing up (coordinator_view place n c).standing refl

    never : (x : Txn) → IsEnded (w.at q) (root_case x)
        → NeverCommits (coordinator_place q None tree) (w.at q) x
    never x d =
        let dead = (all_never es w run q e).dead (root_case x) d in
        record {
          begun = leaves_trace q tree n (all_root_cases tree es w run q e) (all_begun tree es w run q e)
              (root_case x)
              (ended_history n (root_case x) d);
          closed = closed_so (root_case x) dead;
          none_kept = dead.none_kept;
          none_ever = dead.none_ever;
        }

    begins_so : RootHolds (coordinator_place q None tree) (w.at q)
    begins_so =
        let o = subst (λ (r : Role). OwnTransactions (at q r) n) e (own_transactions tree es w run q e) in
        record {
          begun_once = o.begun_once;
          begun_before = o.begun_before;
          own_records = o.own_records;
          accepted_is_begun = o.accepted_is_begun;
          own_memory = o.own_memory;
          told_never_commits = λ x f. never x (by_telling x refl f);
          aborted_never_commits = λ x f. never x (by_abort f);
          found_undecided_never_commits = λ x f. never x (by_finding x refl f);
        }

    pub roots_begin : RootHolds (place_of tree q) (w.at q)
    roots_begin = subst (λ (r : Role). RootHolds (at q r) (w.at q)) (sym e) begins_so

    pub root_nodes_hold : NodeHolds (place_of tree q) w.net (w.at q)
    root_nodes_hold =
        subst (λ (r : Role). NodeHolds (at q r) w.net (w.at q)) (sym e) (record {
          lasts = subst (λ (r : Role). Lasts r (logs_of (w.at q))) e (all_last tree es w run q);
          boots = boots_of (w.at q) (all_booted tree es w run q);
          self = same_self (at q AtRoot) (w.at q);
          role = (coordinates tree es w run q None e, begins_so);
        })

  -- Any process.
  pub nodes_hold : (es : List Made) (w : World) → IsRun tree es w → (q : ProcessId)
      → NodeHolds (place_of tree q) w.net (w.at q)
  nodes_hold es w run q = by_role (role_of tree q) refl
    where
      by_role : (r : Role) → role_of tree q ≡ r → NodeHolds (place_of tree q) w.net (w.at q)
      by_role AtRoot e = root_nodes_hold es w run q e
      by_role (Below p) e = cascaded_nodes_hold tree es w run q p e
      by_role (AtLeaf p) e = managers_hold tree es w run q p e
