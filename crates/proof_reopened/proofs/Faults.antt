-- What a tree comes to where a device fails stands for a run that goes on by a move with a fault in it.
use Rattle.std.proofs.Common.{◌≡◌, ◌∙◌, ap, sym, subst, refl, ℕ, Bool, true, false, Option, Some, List, [], ◌++◌, if◌then◌else◌}
use Rattle.std.proofs.lemmas.List.{append-nil}
use Rattle.protocol.specs.declared.names.Case.{Case}
use Rattle.protocol.specs.declared.names.ProcessId.{ProcessId}
use Rattle.protocol.specs.declared.events.Act.TheVariants.{Ask}
use Rattle.protocol.specs.declared.events.Fault.{Fault}
use Rattle.protocol.specs.declared.events.Happening.{Happening}
use Rattle.protocol_words.specs.Variants.{ActInput, Handles, Restarting, Trimming}
use Rattle.protocol.specs.declared.events.Input.{Input}
use Rattle.protocol.specs.declared.events.StepError.TheVariants.{Failed}
use Rattle.protocol.specs.declared.trees.TreeProcess.{TreeProcess}
use Rattle.protocol.specs.Nodes.{AtLeaf, AtRoot, Below, DataAnswer, Effect, Node, Place, Role, fails_in, is_listed, no_effect, place_of}
use Rattle.protocol.specs.CoordinatorRows.{prepared_ask}
use Rattle.protocol.specs.Reactions.{Does, Reacts, Refused, is_passed_over, passes_at, reacts, row_effect, seat_of}
use Rattle.protocol.specs.Restarts.{restart_effect, trim_effect}
use Rattle.protocol.specs.Standings.{coordinator_view}
use Rattle.protocol.specs.Trees.{IsTree}
use Rattle.protocol.specs.World.{InputStands, IsRun, Made, World, fault_effect, input_makes, node_makes, passes_over, trim_makes, world_makes}
use Rattle.protocol.specs.World.{Makes, Refuses}
use Rattle.protocol.specs.World.{MayHappen}
use Rattle.protocol.proofs.RunLaws.{makes_at}
use Rattle.process_state.specs.States.{CoreState}
use Rattle.process_state.specs.Turns.{heard_now, no_answer}
use Rattle.tree_state.specs.Fits.{NodeFits}
use Rattle.tree_state.specs.Steps.{restart_of}
use Rattle.tree_state.specs.StandsFor.{ChildrenFit, StandsFor}
use Rattle.proof_runs.proofs.CascadeSteps.{is_cascaded_place}
use Rattle.proof_runs.proofs.Faults.{breaks_so}
use Rattle.proof_runs.proofs.worlds.Faults.{ask_fails, input_quiet, stands_asking}
use Rattle.proof_runs.proofs.worlds.Fitting.{runs_fit}
use Rattle.proof_runs.proofs.worlds.Journals.{entered_hides}
use Rattle.proof_runs.proofs.worlds.Kept.{all_opened, keeps_own}
use Rattle.proof_runs.proofs.worlds.Moves.{faults_move}
use Rattle.proof_runs.proofs.worlds.RunRestarts.{restart_faults_move, trim_faults_move}
use Rattle.proof_runs.proofs.worlds.Steps.{made_at, move_with, world_after}
use Rattle.tree_state.specs.Worlds.{DeviceFails, MovesNode, RestartFails, TrimFails, WorldState}
use Rattle.proof_reopened.specs.Earlier.{Earlier}
use Rattle.proof_reopened.specs.Since.{FollowsSince, GoesOnSince}
use Rattle.proof_reopened.proofs.Moves.{MovesOne, listed_since, move_since, run_of}

pub moves_one : (s t : WorldState) (q : ProcessId) (before behind : CoreState) → MovesNode s t q before behind
    → MovesOne s t q before behind
moves_one s t q before behind h =
    record { tree = h.tree; stood = h.stood; stands = h.stands; others = h.others }

-- Nothing is sent in a move in which a device fails.

same_effect : (a b : Effect) (m n : Node) → Makes a m ≡ Makes b n → a ≡ b
same_effect a b m n h = cc

unsent : (d e : Effect) (m n : Node) → Makes d m ≡ Makes e n → d.messages ≡ [] → e.messages ≡ []
unsent d e m n same none = ap (λ (x : Effect). x.messages) (sym (same_effect d e m n same)) ∙ none

module _ (place : Place) (n : Node) (q : ProcessId) (f : Fault) (a : DataAnswer) (e : Effect)
    (left : Node) where
  input_unsent : (i : Input) (b : Bool) (r : Reacts)
      → (if b then passes_over n (Some f) else input_makes n (heard_now a i) (Some f) r) ≡ Makes e left
      → e.messages ≡ []
  input_unsent i true r h = unsent no_effect e _ left h refl
  input_unsent i false (Refused x) h = absurd (cc)
  input_unsent i false (Does d) h = unsent (fault_effect d f.appended) e _ left h refl

  trim_unsent : (b : Bool) → (if b then Refuses Failed else trim_makes place n (Some f)) ≡ Makes e left
      → e.messages ≡ []
  trim_unsent true h = absurd (cc)
  trim_unsent false h = unsent (fault_effect (trim_effect place n) 0) e _ left h refl

  nothing_sent : (h : Happening) → node_makes place n (move_with q h (Some f) a) ≡ Makes e left
      → e.messages ≡ []
  unfolding node_makes
  nothing_sent (Handles i) made = input_unsent i (is_passed_over place n i)
      (reacts place n (heard_now a i)) made
  nothing_sent (Restarting k) made = unsent (fault_effect (restart_effect place n k) f.appended) e
      _ left made refl
  nothing_sent Trimming made = trim_unsent n.failed made

-- what a case in doubt asks
abbrev asked : Node → ProcessId → ProcessId → List TreeProcess → Case → Effect
asked n me p tree c =
    row_effect c (prepared_ask (seat_of (record { me = me; role = Below p; tree = tree }) (Some p) c)
    (coordinator_view (record { me = me; role = Below p; tree = tree }) n c))

module _ (o : Earlier) (es : List Made) (w : World) (s s' : WorldState) (f : FollowsSince o es w s)
    (q : ProcessId) where
  run : IsRun s.tree (es ++ o.moves) w
  run = run_of o es w s f

  fault_since : (h : Happening) (a : DataAnswer) (before behind : CoreState) → MayHappen s.net q h
      → MovesNode s s' q before behind → s'.net ≡ s.net → s'.entries ≡ s.entries → behind.place ≡ before.place
      → (fault : Fault) (e : Effect) (n : Node)
      → world_makes s.tree w (move_with q h (Some fault) a) ≡ Some (e, world_after w q n e)
      → StandsFor n behind → GoesOnSince o es w s'
  fault_since h a before behind happens moves net entries place fault e n step stands =
      let at = makes_at s.tree w (move_with q h (Some fault) a) e (world_after w q n e) step in
      let none = nothing_sent (place_of s.tree q) (w.at q) q fault a e at.node h at.made in
      move_since o es w s s' f q h a before behind happens (moves_one s s' q before behind moves)
      (Some fault) e n step
      (net ∙ sym (ap (λ xs. s.net ++ xs) none ∙ append-nil s.net))
      (entered_hides es q h fault a e ∙ f.shown ∙ sym entries)
      (place ∙ (f.nodes q before moves.stood).place) stands

  -- in an input
  module _ (i : Input) (happens : InputStands s.net q i) (h : DeviceFails s s' q i) where
    sits : h.before.place ≡ place_of s.tree q
    sits = (f.nodes q h.before h.moves.stood).place

    stands : StandsFor (w.at q) h.before
    stands = (f.nodes q h.before h.moves.stood).stands

    listed : is_listed s.tree q ≡ true
    listed = listed_since o es w s q h.before f h.moves.stood

    heard_on : is_passed_over h.before.place (w.at q) i ≡ false → GoesOnSince o es w s'
    heard_on late =
        let broken = faults_move s.tree (es ++ o.moves) w run q h.before h.behind
        h.answer i sits stands listed
        (λ over. absurd (let clash : true ≡ false = sym over ∙ late in cc)) h.broken in
        fault_since (Handles i) h.answer h.before h.behind happens h.moves h.net
        h.entries h.broken.breaks.2.place
        broken.fault broken.effect broken.left broken.makes broken.stands

    -- The model lets nothing be forced in an input that it passes over; so the run goes on by a fault in an
    -- ask of the case that is in doubt, which comes to the same.
    passed_on : is_passed_over h.before.place (w.at q) i ≡ true → GoesOnSince o es w s'
    passed_on over = by_role h.before.place.role refl
      where
        not_passed : (r : Role) → h.before.place.role ≡ r → passes_at r h.before.place (w.at q) i ≡ true
        not_passed r is = ap (λ x. passes_at x h.before.place (w.at q) i) (sym is) ∙ over

        fits : (r : Role) → h.before.place.role ≡ r → (w.at q).failed ≡ false
            → NodeFits r h.before.place (w.at q)
        fits r is up = subst (λ x. NodeFits x h.before.place (w.at q)) is
            (subst (λ (x : Place). NodeFits x.role x (w.at q)) (sym sits)
            (runs_fit s.tree (es ++ o.moves) w run q up))

        children : (p : ProcessId) → h.before.place.role ≡ Below p → (w.at q).failed ≡ false
            → ChildrenFit h.before.place (w.at q)
        children p is up = (fits (Below p) is up).children

        by_role : (r : Role) → h.before.place.role ≡ r → GoesOnSince o es w s'
        by_role AtRoot is = absurd (let never : passes_at AtRoot h.before.place (w.at q) i
            ≡ true = not_passed AtRoot is in cc)
        by_role (AtLeaf p) is = absurd (let never : passes_at (AtLeaf p) h.before.place (w.at q) i
            ≡ true = not_passed (AtLeaf p) is in cc)
        by_role (Below p) is =
            let n = w.at q in
            let me = h.before.place.me in
            let tree = h.before.place.tree in
            let here = is_cascaded_place h.before.place p is in
            let so = breaks_so n h.before h.behind h.answer i stands h.broken (children p is) in
            let quiet = input_quiet me p tree n h.answer i
            (subst (λ x. is_passed_over x n i ≡ true) here over) so.effect
            (subst (λ x. reacts x n (heard_now h.answer i)
            ≡ Does so.effect) here so.does) in
            let c = quiet.1.own in
            let e = asked n me p tree c in
            let left = fails_in n (heard_now h.answer (ActInput (Ask c))) e 0 so.forced in
            let fault : Fault = record { appended = 0; forced = so.forced } in
            let made = subst (λ (x : Place). node_makes x n
            (move_with x.me (Handles (ActInput (Ask c))) (Some fault) h.answer)
            ≡ Makes (fault_effect e 0) left) (sym here ∙ sits)
            (ask_fails me p tree n h.answer c quiet.0 quiet.1.prepared so.forced) in
            fault_since (Handles (ActInput (Ask c))) h.answer h.before h.behind tt h.moves h.net
            h.entries h.broken.breaks.2.place
            fault (fault_effect e 0) left
            (made_at s.tree w (move_with q (Handles (ActInput (Ask c))) (Some fault) h.answer)
            (fault_effect e 0) left listed made)
            (stands_asking me p tree n h.answer c (heard_now h.answer i)
            so.effect so.appended so.forced
            h.behind quiet.1.unwritten so.stands)

    pub input_fails_since : GoesOnSince o es w s'
    input_fails_since = by_over (is_passed_over h.before.place (w.at q) i) refl
      where
        by_over : (b : Bool) → is_passed_over h.before.place (w.at q) i ≡ b → GoesOnSince o es w s'
        by_over false late = heard_on late
        by_over true over = passed_on over

  -- in a restart, and in a trim
  module _ (is_tree : IsTree s.tree) where
    pub restart_fails_since : (bytes : Option ℕ) → RestartFails s s' q bytes → GoesOnSince o es w s'
    restart_fails_since bytes h =
        let here = f.nodes q h.before h.moves.stood in
        let listed = listed_since o es w s q h.before f h.moves.stood in
        let broken = restart_faults_move s.tree w q h.before h.behind here.place here.stands listed
        (keeps_own s.tree (es ++ o.moves) w is_tree run q listed) h.keep h.broken in
        fault_since (restart_of h.before h.keep) no_answer h.before h.behind tt
        h.moves h.net h.entries h.broken.1
        broken.fault broken.effect broken.left broken.makes broken.stands

    pub trim_fails_since : TrimFails s s' q → GoesOnSince o es w s'
    trim_fails_since h =
        let here = f.nodes q h.before h.moves.stood in
        let listed = listed_since o es w s q h.before f h.moves.stood in
        let up : (w.at q).failed ≡ false = sym here.stands.failed ∙ h.works in
        let broken = trim_faults_move s.tree w q h.before h.behind here.place here.stands listed
        (keeps_own s.tree (es ++ o.moves) w is_tree run q listed) up
        (all_opened s.tree (es ++ o.moves) w run q) h.sound h.broken in
        fault_since Trimming no_answer h.before h.behind tt h.moves h.net h.entries h.broken.place
        broken.fault broken.effect broken.left broken.makes broken.stands
