-- In every run, each input of a coordinator keeps the pairs below it, also where the device fails in it.
use Rattle.std.proofs.Common.{◌≡◌, ◌∙◌, ℕ, Bool, true, false, ◌&&◌, not, List, [], ◌++◌, refl, sym, ap, subst}
use Rattle.protocol.specs.declared.names.Case.{Case}
use Rattle.protocol.specs.declared.names.ProcessId.{ProcessId}
use Rattle.protocol.specs.declared.names.Ticket.{Ticket}
use Rattle.protocol.specs.declared.messages.Envelope.{Envelope}
use Rattle.protocol.specs.declared.events.Happening.{Happening}
use Rattle.protocol_words.specs.Variants.{ActInput, Handles, MessageInput}
use Rattle.protocol.specs.declared.events.Input.{Input}
use Rattle.protocol.specs.declared.trees.TreeProcess.{TreeProcess}
use Rattle.protocol.specs.Nodes.{Place, Role, AtRoot, Below, AtLeaf, Node, Heard, Effect, fails_in, is_listed, place_of, role_of, IsCoordinator}
use Rattle.protocol.specs.Memory.{memory_of}
use Rattle.protocol.specs.Reactions.{is_early_ack, passes_at}
use Rattle.protocol.specs.World.{World, Made, Move, IsRun, MayHappen, InputStands}
use Rattle.protocol.proofs.RunLaws.{makes_at}
use Rattle.proof_pairs.specs.readings.ReadingOf.{ChildHalf, ParentHalf, Wire, is_root_ticket, parent_half, reading_from, wire}
use Rattle.proof_pairs.specs.turns.Steps.{StepOf, heard_in, handled, failed_in, passed, failed_passing, reopened, failed_reopening, trims_log, failed_trimming}
use Rattle.proof_pairs.proofs.turns.Steps.{step_of, turn_of}
use Rattle.proof_pairs.proofs.turns.CoordinatorReactions.{CoordinatorTurnAt, coordinator_turn_of}
use Rattle.proof_processes.specs.ProcessSteps.{outcome_in, ParentStep}
use Rattle.proof_processes.specs.WorldHolds.{Coordinates, WorldHolds}
use Rattle.proof_processes.proofs.Unlisted.{makes_listed}
use Rattle.proof_steps.proofs.children.Moves.{Fits}
use Rattle.proof_steps.specs.parents.ParentRows.{CoordinatorInputs, JoinedAreBorn, NoOwnParent}
use Rattle.proof_steps.proofs.parents.FaultHears.{fails_still}
use Rattle.proof_steps.proofs.parents.FaultSteps.{turn_fails}
use Rattle.proof_steps.proofs.parents.Faults.{down}
use Rattle.proof_steps.proofs.parents.Halves.{half_is_down, remembered_half}
use Rattle.proof_steps.proofs.parents.Steps.{free_before, half_now, handles_fit, here, put_self, same_step, still_up, turn_by, turn_here}
use Rattle.proof_steps.proofs.parents.Wires.{wire-nothing}

-- a step that sends nothing
nothing_sent : (place : Place) (n k : Node) (c : Case) (t : Ticket) (net : List Envelope)
    (manager outcome above : Bool) (h : ChildHalf)
    → Fits c.txn.presumption
    (reading_from (is_root_ticket c.ticket) manager (outcome_in place.role n c outcome) above
    (parent_half place n c t) h (wire c t net))
    (reading_from (is_root_ticket c.ticket) manager (outcome_in place.role k c outcome) above
    (parent_half place k c t) h (wire c t net))
    → Fits c.txn.presumption
    (reading_from (is_root_ticket c.ticket) manager (outcome_in place.role n c outcome) above
    (parent_half place n c t) h (wire c t net))
    (reading_from (is_root_ticket c.ticket) manager (outcome_in place.role k c outcome) above
    (parent_half place k c t) h (wire c t (net ++ [])))
nothing_sent place n k c t net manager outcome above h f =
    subst (λ (x : Wire). Fits c.txn.presumption
    (reading_from (is_root_ticket c.ticket) manager (outcome_in place.role n c outcome) above
    (parent_half place n c t) h (wire c t net))
    (reading_from (is_root_ticket c.ticket) manager (outcome_in place.role k c outcome) above
    (parent_half place k c t) h x))
    (sym (wire-nothing c t net)) f

-- a process that passes over an input is up
passes_up : (role : Role) (place : Place) (n : Node) (i : Input) → passes_at role place n i ≡ true
    → n.failed ≡ false
passes_up AtRoot place n i e = absurd (cc)
passes_up (AtLeaf p) place n i e = absurd (cc)
passes_up (Below p) place n (ActInput a) e = absurd (cc)
passes_up (Below p) place n (MessageInput j x) e = second (is_early_ack place n x) n.failed e
  where
    second : (a b : Bool) → (a && not b) ≡ true → b ≡ false
    second true false g = refl
    second true true g = absurd (cc)
    second false b g = absurd (cc)

-- a process that failed as it passed an input over
left_down : (place : Place) (n : Node) (c : Case) (t : Ticket)
    → parent_half place (record n { failed = true }) c t
    ≡ (let p = remembered_half (memory_of place n c) n c t in down p.accepted p.acked p.begun p)
unfolding memory_of
left_down place n c t = half_is_down place (record n { failed = true }) c t refl

outcome_left : (role : Role) (n : Node) (c : Case) (o : Bool)
    → outcome_in role (record n { failed = true }) c o ≡ outcome_in role n c o
outcome_left AtRoot n c o = refl
outcome_left (Below p) n c o = refl
outcome_left (AtLeaf p) n c o = refl

module _ (tree : List TreeProcess) (es : List Made) (w : World) (apart : NoOwnParent tree)
    (run : IsRun tree es w)
    (holds : WorldHolds tree w) (known : JoinedAreBorn tree w) (q : ProcessId)
    (listed : is_listed tree q ≡ true)
    (i : IsCoordinator (role_of tree q)) (h : Heard) (stands : InputStands w.net q h.input)
    (up : (w.at q).failed ≡ false) where
  abbrev place : Place
  place = place_of tree q

  abbrev n : Node
  n = w.at q

  pub faults_fit : (e : Effect) → CoordinatorTurnAt (role_of tree q) place n h e → (x f : ℕ)
      → Coordinates place (w.net ++ []) (fails_in n h e x f)
      → ParentStep place w.net [] n (fails_in n h e x f)
  faults_fit e turn x f then = record {
    follows = λ c t pair mine free manager outcome above k from inv.
        let free_now = free_before w.net [] c t free in
        let own = turn_here tree es w apart run holds known q listed i h stands up c t pair mine free_now
        manager outcome above k from inv in
        let seat = here tree es w apart run holds known q listed i h stands up in
        nothing_sent place n (fails_in n h e x f) c t w.net manager outcome above k
        (subst (λ (p : ParentHalf). Fits c.txn.presumption
        (reading_from (is_root_ticket c.ticket) manager (outcome_in place.role n c outcome) above p k
        (wire c t w.net))
        (reading_from (is_root_ticket c.ticket) manager
        (outcome_in place.role (fails_in n h e x f) c outcome) above
        (parent_half place (fails_in n h e x f) c t) k (wire c t w.net)))
        (sym (half_now tree es w apart run holds known q listed i h stands up c t pair mine free_now
        manager outcome above k from inv))
        (turn_fails own e (turn_by (role_of tree q) seat.parent seat.seat place n h e turn) x f
        (then.in_order c)));
  }

  pub passing_fits : ParentStep place w.net [] n (record n { failed = true })
  passing_fits = record {
    follows = λ c t pair mine free manager outcome above k from inv.
        let free_now = free_before w.net [] c t free in
        let own = turn_here tree es w apart run holds known q listed i h stands up c t pair mine free_now
        manager outcome above k from inv in
        nothing_sent place n (record n { failed = true }) c t w.net manager outcome above k
        (subst (λ (p : ParentHalf). Fits c.txn.presumption
        (reading_from (is_root_ticket c.ticket) manager (outcome_in place.role n c outcome) above p k
        (wire c t w.net))
        (reading_from (is_root_ticket c.ticket) manager
        (outcome_in place.role (record n { failed = true }) c outcome) above
        (parent_half place (record n { failed = true }) c t) k (wire c t w.net)))
        (sym (half_now tree es w apart run holds known q listed i h stands up c t pair mine free_now
        manager outcome above k from inv))
        (subst (λ (p : ParentHalf). Fits c.txn.presumption
        (reading_from (is_root_ticket c.ticket) manager (outcome_in place.role n c outcome) above
        (remembered_half (memory_of place n c) n c t) k (wire c t w.net))
        (reading_from (is_root_ticket c.ticket) manager
        (outcome_in place.role (record n { failed = true }) c outcome) above
        p k (wire c t w.net)))
        (sym (left_down place n c t))
        (subst (λ (o : Bool). Fits c.txn.presumption
        (reading_from (is_root_ticket c.ticket) manager (outcome_in place.role n c outcome) above
        (remembered_half (memory_of place n c) n c t) k (wire c t w.net))
        (reading_from (is_root_ticket c.ticket) manager o above
        (let p = remembered_half (memory_of place n c) n c t in down p.accepted p.acked p.begun p) k
        (wire c t w.net)))
        (sym (outcome_left place.role n c outcome)) (fails_still own))));
  }

inputs_step : (tree : List TreeProcess) (es : List Made) (w : World) → NoOwnParent tree → IsRun tree es w
    → WorldHolds tree w
    → JoinedAreBorn tree w → (m : Move) → is_listed tree m.step.process ≡ true
    → IsCoordinator (role_of tree m.step.process)
    → MayHappen w.net m.step.process m.step.happening → (i : Input) → m.step.happening ≡ Handles i
    → (e : Effect) (k : Node) → StepOf (place_of tree m.step.process) (w.at m.step.process) m e k
    → Coordinates (place_of tree m.step.process) (w.net ++ e.messages) k
    → ParentStep (place_of tree m.step.process) w.net e.messages (w.at m.step.process) k
inputs_step tree es w apart run holds known m listed role stands j handles _ _ (handled i g hp np r) then =
    let q = m.step.process in
    let h = heard_in m i in
    let turn = turn_of (place_of tree q) (w.at q) h g r in
    handles_fit tree es w apart run holds known q listed role h
    (subst (λ (x : Happening). MayHappen w.net q x) hp stands) turn.up g
    (coordinator_turn_of (place_of tree q) (w.at q) h g r) then (still_up (w.at q) h g turn.up)
inputs_step tree es w apart run holds known m listed role stands j handles _ _
    (failed_in i f g fl hp np r) then =
    let q = m.step.process in
    let h = heard_in m i in
    let turn = turn_of (place_of tree q) (w.at q) h g r in
    faults_fit tree es w apart run holds known q listed role h
    (subst (λ (x : Happening). MayHappen w.net q x) hp stands) turn.up g
    (coordinator_turn_of (place_of tree q) (w.at q) h g r) f.appended f.forced then
inputs_step tree es w apart run holds known m listed role stands j handles _ _ (passed i hp r) then =
    same_step (place_of tree m.step.process) w.net (w.at m.step.process)
inputs_step tree es w apart run holds known m listed role stands j handles _ _
    (failed_passing i f fl hp r) then =
    let q = m.step.process in
    passing_fits tree es w apart run holds known q listed role (heard_in m i)
    (subst (λ (x : Happening). MayHappen w.net q x) hp stands)
    (passes_up (role_of tree q) (place_of tree q) (w.at q) i r)
inputs_step tree es w apart run holds known m listed role stands j handles _ _ (reopened k hp) then =
    absurd (let z = sym handles ∙ hp in cc)
inputs_step tree es w apart run holds known m listed role stands j handles _ _
    (failed_reopening k f fl hp) then =
    absurd (let z = sym handles ∙ hp in cc)
inputs_step tree es w apart run holds known m listed role stands j handles _ _ (trims_log hp up) then =
    absurd (let z = sym handles ∙ hp in cc)
inputs_step tree es w apart run holds known m listed role stands j handles _ _
    (failed_trimming f fl hp up) then =
    absurd (let z = sym handles ∙ hp in cc)

pub coordinator_inputs : CoordinatorInputs
coordinator_inputs tree es w apart run holds known m e w' role stands made i handles then =
    let q = m.step.process in
    let at = makes_at tree w m e w' made in
    let there : w'.at q ≡ at.node = ap (λ (x : World). x.at q) at.world ∙ put_self q at.node w.at in
    subst (λ (x : Node). ParentStep (place_of tree q) w.net e.messages (w.at q) x) (sym there)
    (inputs_step tree es w apart run holds known m (makes_listed tree w m e w' made) role stands i handles
    e at.node
    (step_of (place_of tree q) (w.at q) m e at.node at.made)
    (subst (λ (x : Node). Coordinates (place_of tree q) (w.net ++ e.messages) x) there then))
