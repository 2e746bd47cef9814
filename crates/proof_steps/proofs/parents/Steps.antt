-- In every run, each input that a coordinator handles keeps the pairs below it.
use Rattle.std.proofs.Common.{◌≡◌, ◌≢◌, ◌∙◌, ◌⊎◌, inl, inr, Bool, true, false, ◌||◌, Option, Some, None, List, [], ◌++◌, refl, sym, ap, subst}
use Rattle.protocol.specs.declared.names.Case.{Case}
use Rattle.protocol.specs.declared.names.ProcessId.{ProcessId}
use Rattle.protocol.specs.declared.names.Ticket.{Ticket}
use Rattle.protocol.specs.declared.messages.Envelope.{Envelope}
use Rattle.protocol.specs.declared.events.Happening.{Happening}
use Rattle.protocol_words.specs.Variants.{Handles}
use Rattle.protocol.specs.declared.events.Input.{Input}
use Rattle.protocol.specs.declared.trees.TreeProcess.{TreeProcess}
use Rattle.protocol.specs.Names.{process_of, same_case}
use Rattle.protocol.specs.NameLaws.{same_case_tells}
use Rattle.protocol.specs.Nodes.{Place, Role, AtRoot, Below, AtLeaf, Node, Heard, Effect, after, entries_written, is_any_forced, is_listed, place_of, role_of, IsCoordinator}
use Rattle.protocol.specs.Memory.{memory_of}
use Rattle.protocol.specs.Outcomes.{sent}
use Rattle.protocol.specs.Reactions.{row_effect}
use Rattle.protocol.specs.Standings.{coordinator_view}
use Rattle.protocol.specs.Views.{IsOpenAlike}
use Rattle.protocol.specs.World.{World, Made, Move, IsRun, MayHappen, InputStands, put_at}
use Rattle.protocol.proofs.RunLaws.{makes_at}
use Rattle.proof_pairs.specs.readings.ReadingOf.{ChildHalf, ParentHalf, Wire, gives_case, is_born, is_root_ticket, parent_half, reading_from, wire}
use Rattle.proof_pairs.specs.turns.CoordinatorTurns.{CaseTurn, CoordinatorTurn}
use Rattle.proof_pairs.specs.turns.CoordinatorTurns
use Rattle.proof_pairs.specs.turns.Steps.{StepOf, heard_in, handled, failed_in, passed, failed_passing, reopened, failed_reopening, trims_log, failed_trimming}
use Rattle.proof_pairs.proofs.turns.Steps.{step_of, turn_of}
use Rattle.proof_pairs.proofs.turns.CoordinatorReactions.{CoordinatorTurnAt, coordinator_turn_of}
use Rattle.proof_processes.specs.ProcessSteps.{Above, outcome_in, ParentStep}
use Rattle.proof_processes.specs.WorldHolds.{Coordinates, InvariantOf, IsChildRole, IsFree, IsPair, IsParentRole, NodeHolds, RoleHolds, WorldHolds, gives_other}
use Rattle.proof_processes.specs.Lasts.{Logs}
use Rattle.proof_processes.proofs.Appends.{either_logs}
use Rattle.proof_processes.proofs.Unlisted.{makes_listed}
use Rattle.proof_processes.proofs.Worlds.{all_last}
use Rattle.proof_processes.proofs.Yesses.{nets_go}
use Rattle.proof_pairs.proofs.readings.ReadingSteps.{same_process-refl}
use Rattle.proof_pairs.proofs.readings.Lists.{sent-append}
use Rattle.proof_steps.proofs.children.Moves.{Fits, unmoved}
use Rattle.proof_steps.specs.parents.ParentRows.{CoordinatorRows, JoinedAreBorn, NoOwnParent}
use Rattle.proof_steps.proofs.parents.Born
use Rattle.proof_steps.proofs.parents.ElsewhereRows
use Rattle.proof_steps.proofs.parents.Halves.{half_is, remembered_half}
use Rattle.proof_steps.proofs.parents.NoCase
use Rattle.proof_steps.proofs.parents.OwnTurns.{own_turn}
use Rattle.proof_steps.proofs.parents.Turns.{Turn, Fine, IsSeat, is_top, top, under}
use Rattle.proof_steps.proofs.parents.Wires.{wire-nothing}

-- Each turn keeps the pair.
pub turn_fits : (turn : Turn) (e : Effect) → CoordinatorTurn turn.place turn.parent turn.n turn.h e
    → IsOpenAlike turn.place (after turn.n turn.h e) turn.c → Fine turn e
turn_fits turn _ (CoordinatorTurns.does_nothing i) later = NoCase.does_nothing turn i later
turn_fits turn _ (CoordinatorTurns.of_case d row r) later = by_case (same_case_tells d turn.c)
  where
    by_case : ((same_case d turn.c ≡ true) × (d ≡ turn.c)) ⊎ ((same_case d turn.c ≡ false) × (d ≢ turn.c))
        → Fine turn (row_effect d row)
    by_case (inl same) =
        subst (λ (x : Case). CaseTurn turn.place turn.parent turn.n turn.h x row
        → IsOpenAlike turn.place (after turn.n turn.h (row_effect x row)) turn.c
        → Fine turn (row_effect x row)) (sym same.1)
        (λ s l. own_turn turn row s (record { alike = l })) r later
    by_case (inr other) = ElsewhereRows.turn_elsewhere turn d other.0 row r (record { alike = later })
turn_fits turn _ (CoordinatorTurns.begins q s i) later = Born.begins turn q s i later
turn_fits turn _ (CoordinatorTurns.gives_again p d u s i e) later = Born.gives_again turn p d u s i e later
turn_fits turn _ (CoordinatorTurns.gives_fresh p d s i e) later = Born.gives_fresh turn p d s i e later
turn_fits turn _ (CoordinatorTurns.presumes x u i none) later = NoCase.presumes turn x u i none later

-- A coordinator's seat.
pub record Seated (role : Role) : Type 0 where
  pub parent : Option ProcessId
  pub seat : IsSeat role parent

abbrev pub seated : (role : Role) → IsCoordinator role → Seated role
seated AtRoot i = record { parent = None; seat = top }
seated (Below p) i = record { parent = Some p; seat = under p }
seated (AtLeaf p) i = absurd i

pub turn_by : (role : Role) (o : Option ProcessId) → IsSeat role o
    → (place : Place) (n : Node) (h : Heard) (e : Effect)
    → CoordinatorTurnAt role place n h e → CoordinatorTurn place o n h e
turn_by _ _ top place n h e t = t
turn_by _ _ (under p) place n h e t = t

pub root_ticket : (role : Role) (o : Option Ticket) → IsCoordinator role → IsParentRole role o
    → is_root_ticket o ≡ is_top role
root_ticket AtRoot None i x = refl
root_ticket AtRoot (Some u) i x = absurd x
root_ticket (Below p) (Some u) i x = refl
root_ticket (Below p) None i x = absurd x
root_ticket (AtLeaf p) o i x = absurd i

pub coordinates_of : (role : Role) → IsCoordinator role → (place : Place) (net : List Envelope) (n : Node)
    → RoleHolds role place net n → Coordinates place net n
coordinates_of AtRoot i place net n h = h.0
coordinates_of (Below p) i place net n h = h.0
coordinates_of (AtLeaf p) i place net n h = absurd i

pub free_before : (net ls : List Envelope) (c : Case) (t : Ticket) → IsFree (net ++ ls) c t → IsFree net c t
free_before net ls c t f = second _ _ _ (sent-append (gives_other c t) net ls) f
  where
    second : (a b x : Bool) → x ≡ (a || b) → x ≡ false → b ≡ false
    second true b x e g = absurd (let z = sym g ∙ e in cc)
    second false b x e g = sym e ∙ g

-- The turn of an input in a world that a run has led to, on one pair.
module _ (tree : List TreeProcess) (es : List Made) (w : World) (apart : NoOwnParent tree)
    (run : IsRun tree es w)
    (holds : WorldHolds tree w) (known : JoinedAreBorn tree w) (q : ProcessId)
    (listed : is_listed tree q ≡ true)
    (i : IsCoordinator (role_of tree q)) (h : Heard) (stands : InputStands w.net q h.input)
    (up : (w.at q).failed ≡ false) where
  abbrev place : Place
  place = place_of tree q

  abbrev n : Node
  n = w.at q

  abbrev pub here : Seated (role_of tree q)
  here = seated (role_of tree q) i

  pub here_holds : NodeHolds place w.net n
  here_holds = holds.nodes q listed

  pub coordinates : Coordinates place w.net n
  coordinates = coordinates_of (role_of tree q) i place w.net n here_holds.role

  module _ (c : Case) (t : Ticket) (pair : IsPair tree c t) (mine : process_of c ≡ q)
      (free : IsFree w.net c t)
      (manager outcome above : Bool) (k : ChildHalf)
      (from_above : Above place.role w.net c (coordinator_view place n c).standing outcome above)
      (inv : InvariantOf c.txn.presumption
      (reading_from (is_root_ticket c.ticket) manager (outcome_in place.role n c outcome) above
      (parent_half place n c t) k (wire c t w.net))) where
    pub half_now : parent_half place n c t ≡ remembered_half (memory_of place n c) n c t
    half_now = half_is place n c t up i (coordinates.alike up c)

    pub not_own_child : t.child ≡ q → ⊥
    not_own_child e =
        apart t.child pair.listed
        (subst (λ (x : ProcessId). IsChildRole (role_of tree t.child) x) (mine ∙ sym e) pair.child)

    abbrev pub turn_here : Turn
    turn_here = record {
      place = place;
      parent = here.parent;
      seat = here.seat;
      n = n;
      h = h;
      net = w.net;
      c = c;
      t = t;
      manager = manager;
      outcome = outcome;
      above = above;
      k = k;
      up = up;
      nested = (all_last tree es w run q).nested;
      holds = coordinates;
      by_role = here_holds.role;
      joined_once = holds.joined_once;
      goes = nets_go tree es w run;
      self = here_holds.self;
      stands = stands;
      pair = pair;
      mine = mine;
      free = free;
      apart = not_own_child;
      rooted = root_ticket (role_of tree q) c.ticket i
          (subst (λ (x : ProcessId). IsParentRole (role_of tree x) c.ticket) mine pair.parent.role);
      joined_is_born = λ e. subst (λ (x : ProcessId). is_born (is_root_ticket c.ticket)
          (parent_half (place_of tree x) (w.at x) c t).begun (sent (gives_case c) w.net) ≡ true) mine
          (known c t pair e);
      from_above = from_above;
      inv = subst (λ (p : ParentHalf). InvariantOf c.txn.presumption
          (reading_from (is_root_ticket c.ticket) manager (outcome_in place.role n c outcome) above p k
          (wire c t w.net)))
          half_now inv;
    }

  -- An input that is handled.
  pub handles_fit : (e : Effect) → CoordinatorTurnAt (role_of tree q) place n h e
      → Coordinates place (w.net ++ e.messages) (after n h e)
      → (after n h e).failed ≡ false
      → ParentStep place w.net e.messages n (after n h e)
  handles_fit e turn then still_up = record {
    follows = λ c t pair mine free manager outcome above k from inv.
        let own = turn_here c t pair mine (free_before w.net e.messages c t free) manager outcome above k
        from inv in
        subst (λ (p : ParentHalf). Fits c.txn.presumption
        (reading_from (is_root_ticket c.ticket) manager (outcome_in place.role n c outcome) above p k
        (wire c t w.net))
        (reading_from (is_root_ticket c.ticket) manager (outcome_in place.role (after n h e) c outcome) above
        (parent_half place (after n h e) c t) k (wire c t (w.net ++ e.messages))))
        (sym (half_now c t pair mine (free_before w.net e.messages c t free) manager outcome above k from
        inv))
        (turn_fits own e (turn_by (role_of tree q) here.parent here.seat place n h e turn)
        (then.alike still_up c));
  }

-- An input that is passed over, or nothing is done.
pub same_step : (place : Place) (net : List Envelope) (n : Node) → ParentStep place net [] n n
same_step place net n = record {
  follows = λ c t pair mine free manager outcome above k from inv.
      subst (λ (x : Wire). Fits c.txn.presumption
      (reading_from (is_root_ticket c.ticket) manager (outcome_in place.role n c outcome) above
      (parent_half place n c t) k (wire c t net))
      (reading_from (is_root_ticket c.ticket) manager (outcome_in place.role n c outcome) above
      (parent_half place n c t) k x))
      (sym (wire-nothing c t net)) (unmoved c.txn.presumption _ inv);
}

pub still_up : (n : Node) (h : Heard) (e : Effect) → n.failed ≡ false → (after n h e).failed ≡ false
still_up n h e up =
    either_logs n (entries_written e.written) (is_any_forced e.written) (λ (l : Logs). l.failed ≡ false)
    (λ b. up) (λ b. up)

rows_step : (tree : List TreeProcess) (es : List Made) (w : World) → NoOwnParent tree → IsRun tree es w
    → WorldHolds tree w
    → JoinedAreBorn tree w → (m : Move) → is_listed tree m.step.process ≡ true
    → IsCoordinator (role_of tree m.step.process)
    → MayHappen w.net m.step.process m.step.happening → (i : Input) → m.step.happening ≡ Handles i
    → m.step.fault ≡ None
    → (e : Effect) (k : Node) → StepOf (place_of tree m.step.process) (w.at m.step.process) m e k
    → Coordinates (place_of tree m.step.process) (w.net ++ e.messages) k
    → ParentStep (place_of tree m.step.process) w.net e.messages (w.at m.step.process) k
rows_step tree es w apart run holds known m listed role stands j handles whole _ _ (handled i g hp np r)
    then =
    let q = m.step.process in
    let h = heard_in m i in
    let turn = turn_of (place_of tree q) (w.at q) h g r in
    handles_fit tree es w apart run holds known q listed role h
    (subst (λ (x : Happening). MayHappen w.net q x) hp stands) turn.up g
    (coordinator_turn_of (place_of tree q) (w.at q) h g r) then (still_up (w.at q) h g turn.up)
rows_step tree es w apart run holds known m listed role stands j handles whole _ _
    (failed_in i f g fl hp np r) then =
    absurd (let z = sym whole ∙ fl in cc)
rows_step tree es w apart run holds known m listed role stands j handles whole _ _ (passed i hp r) then =
    same_step (place_of tree m.step.process) w.net (w.at m.step.process)
rows_step tree es w apart run holds known m listed role stands j handles whole _ _
    (failed_passing i f fl hp r) then =
    absurd (let z = sym whole ∙ fl in cc)
rows_step tree es w apart run holds known m listed role stands j handles whole _ _ (reopened k hp) then =
    absurd (let z = sym handles ∙ hp in cc)
rows_step tree es w apart run holds known m listed role stands j handles whole _ _
    (failed_reopening k f fl hp) then =
    absurd (let z = sym handles ∙ hp in cc)
rows_step tree es w apart run holds known m listed role stands j handles whole _ _ (trims_log hp up) then =
    absurd (let z = sym handles ∙ hp in cc)
rows_step tree es w apart run holds known m listed role stands j handles whole _ _
    (failed_trimming f fl hp up) then =
    absurd (let z = sym handles ∙ hp in cc)

pub put_self : (q : ProcessId) (k : Node) (at : ProcessId → Node) → put_at q k at q ≡ k
put_self q k at = rw (same_process-refl q) refl

pub coordinator_rows : CoordinatorRows
coordinator_rows tree es w apart run holds known m e w' role stands made i handles whole then =
    let q = m.step.process in
    let at = makes_at tree w m e w' made in
    let there : w'.at q ≡ at.node = ap (λ (x : World). x.at q) at.world ∙ put_self q at.node w.at in
    subst (λ (x : Node). ParentStep (place_of tree q) w.net e.messages (w.at q) x) (sym there)
    (rows_step tree es w apart run holds known m (makes_listed tree w m e w' made) role stands i handles
    whole e at.node
    (step_of (place_of tree q) (w.at q) m e at.node at.made)
    (subst (λ (x : Node). Coordinates (place_of tree q) (w.net ++ e.messages) x) there then))
