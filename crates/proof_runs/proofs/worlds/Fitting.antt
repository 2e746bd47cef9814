-- What each process keeps of its cases, over every run.
use Rattle.std.proofs.Common.{◌≡◌, ◌∙◌, ℕ, zero, suc, Bool, true, false, List, refl, sym, subst}
use Rattle.protocol.specs.declared.names.Case.{Case}
use Rattle.protocol.specs.declared.names.Outcome.{Outcome}
use Rattle.protocol.specs.declared.names.ProcessId.{ProcessId}
use Rattle.protocol.specs.declared.names.Ticket.{Ticket}
use Rattle.protocol.specs.declared.messages.Envelope.{Envelope}
use Rattle.protocol_words.specs.standing
use Rattle.protocol.specs.declared.trees.TreeProcess.{TreeProcess}
use Rattle.protocol.specs.Records.{has, in_list, is_abort, is_collecting, is_commit, is_end, is_prepare, none_of, owing_by, promised_by}
use Rattle.protocol.specs.Restarts.{trim_fails}
use Rattle.protocol.specs.Nodes.{AtLeaf, AtRoot, Below, after, Effect, Node, Place, Role, kept, place_of, role_of}
use Rattle.protocol.specs.Memory.{has_acked, memory_of}
use Rattle.protocol.specs.Standings.{coordinator_view, phase_standing}
use Rattle.protocol.specs.Views.{fresh_case}
use Rattle.protocol.specs.World.{IsRun, Made, Move, World, makes, opens}
use Rattle.protocol.proofs.RunLaws.{makes_at}
use Rattle.proof_model.proofs.StandingLaws.{phase_unprepared}
use Rattle.proof_pairs.specs.turns.Steps.{StepOf, failed_in, failed_passing, failed_reopening, failed_trimming, handled, heard_in, passed, reopened, trims_log}
use Rattle.proof_pairs.proofs.turns.Steps.{step_of}
use Rattle.proof_processes.specs.WorldHolds.{JoinedOnce, NodeHolds}
use Rattle.proof_processes.proofs.Cases.{viewed}
use Rattle.proof_processes.proofs.JoinedOnce.{tickets_have_one_case}
use Rattle.proof_processes.proofs.RootsHold.{nodes_hold}
use Rattle.proof_processes.proofs.Worlds.{put}
use Rattle.tree_state.specs.Fits.{CascadeFits, NodeFits}
use Rattle.proof_runs.proofs.CascadeQuiet.{cascaded_place}
use Rattle.proof_runs.proofs.Records.{failed-after}
use Rattle.proof_runs.proofs.worlds.Cascades.{cascade_children, coordinates, issues, ticketed}
use Rattle.proof_runs.proofs.worlds.Cases.{unrecorded}
use Rattle.proof_runs.proofs.worlds.Early.{NoneEarly, opened_none_early, prepared_undecided, promised_so, restarted_none_early, still_none_early, trims_none_early}
use Rattle.proof_runs.proofs.worlds.Given.{fresh_unrecorded}
use Rattle.proof_runs.proofs.worlds.Leaves.{leaf_fits}
use Rattle.proof_runs.proofs.worlds.Roots.{root_fits}

-- what a failed device leaves is failed
not_up : {A : Type 0} (b : Bool) → b ≡ true → b ≡ false → A
not_up b e f = absurd (cc)

module _ (tree : List TreeProcess) where
  -- a process of this role in the tree
  abbrev at : ProcessId → Role → Place
  at q role = record { me = q; role = role; tree = tree }

  holds_at : (es : List Made) (w : World) → IsRun tree es w
      → (q : ProcessId) (role : Role) → role_of tree q ≡ role
      → NodeHolds (at q role) w.net (w.at q)
  holds_at es w run q role e = subst (λ (r : Role). NodeHolds (at q r) w.net (w.at q)) e
      (nodes_hold tree es w run q)

  -- what an acknowledgement may have left, at a coordinator below the root that is up
  abbrev Early : ProcessId → Node → Type 0
  Early q n = (p : ProcessId) → role_of tree q ≡ Below p → n.failed ≡ false → NoneEarly q p tree n

  step_early : (net : List Envelope) (q p : ProcessId) (n : Node) → NodeHolds (cascaded_place q p tree) net n
      → JoinedOnce net
      → (n.failed ≡ false → NoneEarly q p tree n) → (m : Move) (e : Effect) (k : Node)
      → StepOf (cascaded_place q p tree) n m e k → k.failed ≡ false → NoneEarly q p tree k
  step_early net q p n holds once old m _ _ (handled i g happens heard does) up = by_failed n.failed refl
    where
      by_failed : (b : Bool) → n.failed ≡ b → NoneEarly q p tree (after n (heard_in m i) g)
      by_failed false was = still_none_early q p tree net n holds once was
          (old was) (heard_in m i) g heard does
      by_failed true was = not_up _ (failed-after n (heard_in m i) g ∙ was) up
  step_early net q p n holds once old m _ _ (passed i happens heard) up = old up
  step_early net q p n holds once old m _ _ (reopened k happens) up = restarted_none_early q p tree n k
  step_early net q p n holds once old m _ _ (trims_log happens was) up = trims_none_early q p tree n (old was)
  step_early net q p n holds once old m _ _ (failed_in i f g fault happens heard does) up = absurd (cc)
  step_early net q p n holds once old m _ _ (failed_passing i f fault happens heard) up = absurd (cc)
  step_early net q p n holds once old m _ _ (failed_reopening k f fault happens) up = absurd (cc)
  step_early net q p n holds once old m _ _ (failed_trimming f fault happens was) up = fails f.appended up
    where
      fails : {A : Type 0} (a : ℕ) → (trim_fails (cascaded_place q p tree) n a).failed ≡ false → A
      fails zero g = absurd (cc)
      fails (suc a) g = absurd (cc)

  all_early : (es : List Made) (w : World) → IsRun tree es w → (q : ProcessId) → Early q (w.at q)
  all_early _ _ opens q = λ p role up. opened_none_early q p tree
  all_early _ _ (makes es w m e w' run stands step) q =
      let now = makes_at tree w m e w' step in
      let x = m.step.process in
      subst (λ (z : World). Early q (z.at q)) (sym now.world)
      (put Early x q now.node w.at
      (λ p role up. step_early w.net x p (w.at x) (holds_at es w run x (Below p) role)
      (tickets_have_one_case tree es w run)
      (λ was. all_early es w run x p role was) m e now.node
      (subst (λ (r : Role). StepOf (at x r) (w.at x) m e now.node) role
      (step_of (at x (role_of tree x)) (w.at x) m e now.node now.made)) up)
      (all_early es w run q))

  none_early : (q p : ProcessId) (n : Node) → NoneEarly q p tree n → (c : Case) (t : Ticket) (o : Outcome)
      → (coordinator_view (cascaded_place q p tree) n c).standing ≡ standing.Prepared
      → in_list (promised_by c (kept n)) t ≡ true
      → has_acked (memory_of (cascaded_place q p tree) n c).acks o t ≡ false
  none_early q p n early c t o prepared named =
      let place = cascaded_place q p tree in
      let rs = kept n in
      let open_so = prepared_undecided (has (is_end c) rs) (has (is_commit c) rs) (has (is_abort c) rs)
      (has (is_prepare c) rs) (has (is_collecting c) rs)
      (none_of (owing_by c rs)) (phase_standing c.txn.presumption (memory_of place n c).phase)
      (phase_unprepared c.txn.presumption (memory_of place n c).phase)
      (sym (viewed place n c) ∙ prepared) in
      early c t o (sym (promised_so c t rs) ∙ named)
      (record { no_end = open_so.0; no_commit = open_so.1; no_abort = open_so.2 })

  cascade_fits : (net : List Envelope) (q p : ProcessId) (n : Node)
      → NodeHolds (cascaded_place q p tree) net n
      → JoinedOnce net → n.failed ≡ false
      → NoneEarly q p tree n → CascadeFits (cascaded_place q p tree) n
  cascade_fits net q p n holds once up early =
      record {
        children = cascade_children q p tree net n holds up once;
        alike = (coordinates q p tree net n holds up).alike up;
        fresh = λ d. unrecorded (fresh_case (cascaded_place q p tree) n d) (kept n)
            (fresh_unrecorded (cascaded_place q p tree) net n holds.lasts.nested up
            (issues q p tree net n holds up) d);
        ticketed = ticketed q p tree net n holds up;
        none_early = none_early q p n early;
      }

  pub runs_fit : (es : List Made) (w : World) → IsRun tree es w → (q : ProcessId) → (w.at q).failed ≡ false
      → NodeFits (role_of tree q) (place_of tree q) (w.at q)
  runs_fit es w run q up = by_role (role_of tree q) refl
    where
      by_role : (role : Role) → role_of tree q ≡ role
          → NodeFits (role_of tree q) (at q (role_of tree q)) (w.at q)
      by_role AtRoot e = subst (λ (r : Role). NodeFits r (at q r) (w.at q)) (sym e)
          (root_fits q tree w.net (w.at q) (holds_at es w run q AtRoot e) up)
      by_role (Below p) e =
          subst (λ (r : Role). NodeFits r (at q r) (w.at q)) (sym e)
          (cascade_fits w.net q p (w.at q) (holds_at es w run q (Below p) e)
          (tickets_have_one_case tree es w run) up
          (all_early es w run q p e up))
      by_role (AtLeaf p) e = subst (λ (r : Role). NodeFits r (at q r) (w.at q)) (sym e)
          (leaf_fits q p tree w.net (w.at q) (holds_at es w run q (AtLeaf p) e) up)
