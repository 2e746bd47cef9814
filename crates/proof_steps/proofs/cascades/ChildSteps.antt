-- In every run, each step of a cascaded coordinator keeps the pairs above it.
use Rattle.std.proofs.Common.{◌≡◌, ◌∙◌, inl, inr, ◌||◌, ℕ, zero, suc, Bool, true, false, List, [], ◌∷◌, ◌++◌, refl, sym, ap, subst, arith}
use Rattle.std.specs.Prelude.{not}
use Rattle.protocol.specs.declared.names.Case.{Case}
use Rattle.protocol.specs.declared.names.Presumption.{Presumption}
use Rattle.protocol.specs.declared.names.ProcessId.{ProcessId}
use Rattle.protocol.specs.declared.names.Ticket.{Ticket}
use Rattle.protocol.specs.declared.messages.Envelope.{Envelope}
use Rattle.protocol.specs.declared.events.Happening.{Happening}
use Rattle.protocol.specs.declared.events.Input.{Input}
use Rattle.protocol_words.specs.Variants.{ActInput, MessageInput}
use Rattle.protocol.specs.declared.records.Record.{Record}
use Rattle.protocol.specs.declared.trees.TreeProcess.{TreeProcess}
use Rattle.protocol.specs.Names.{child_case}
use Rattle.protocol.specs.Records.{has, is_abort, is_commit, is_prepare}
use Rattle.protocol.specs.Memory.{Asked, memory_of}
use Rattle.protocol.specs.Nodes.{Below, Effect, Heard, Node, Place, Role, after, entries_written, fails_in, is_any_forced, kept, place_of, role_of, IsCoordinator}
use Rattle.protocol.specs.Outcomes.{is_joined_message, sent}
use Rattle.protocol.specs.Reactions.{is_early_ack, passes_at}
use Rattle.protocol.specs.Restarts.{restart_fails, trim_fails, trims}
use Rattle.protocol.specs.Standings.{coordinator_view}
use Rattle.protocol.specs.Views.{IsOpenAlike}
use Rattle.protocol.specs.World.{InputStands, IsRun, Move, MayHappen, World, makes, put_at}
use Rattle.protocol.proofs.RunLaws.{makes_at}
use Rattle.proof_pairs.specs.Reading.{Reading}
use Rattle.proof_pairs.specs.readings.ReadingOf.{ChildHalf, ParentHalf, Wire, child_half, is_prepare_message, is_root_ticket, reading_from, wire}
use Rattle.proof_pairs.specs.turns.Steps.{StepOf, failed_in, failed_passing, failed_reopening, failed_trimming, handled, heard_in, passed, reopened, trims_log}
use Rattle.proof_pairs.proofs.turns.CoordinatorReactions.{coordinator_turn_of}
use Rattle.proof_pairs.proofs.turns.Steps.{step_of, turn_of}
use Rattle.proof_processes.specs.CaseOrder.{CaseInOrder}
use Rattle.proof_processes.specs.Lasts.{Coordinates, Lasts, Logs, Nested, logs_of}
use Rattle.proof_processes.specs.Numbers.{IsIssuer, TicketNumbers}
use Rattle.proof_processes.specs.ProcessSteps.{ChildStep, seen_above}
use Rattle.proof_processes.specs.WorldHolds.{AllGo, InvariantOf, IsChildRole, IsFree, IsPair, RoleHolds, gives_other, is_record_of}
use Rattle.proof_processes.proofs.Appends.{either_logs}
use Rattle.proof_processes.proofs.CaseOrders.{AllFit}
use Rattle.proof_processes.proofs.ChildOf.{NoBranch, no_branch}
use Rattle.proof_processes.proofs.PairOf.{given}
use Rattle.proof_processes.proofs.Worlds.{has_other}
use Rattle.proof_processes.proofs.CoordinatorLogs.{all_fit, cases_in_order}
use Rattle.proof_processes.proofs.CoordinatorsHold.{cascaded_nodes_hold}
use Rattle.proof_processes.proofs.Levels.{parent_elsewhere}
use Rattle.proof_processes.proofs.ManagersHold.{numbers_are_given_once}
use Rattle.proof_processes.proofs.Tests.{both}
use Rattle.proof_processes.proofs.Unlisted.{makes_listed}
use Rattle.proof_processes.proofs.Worlds.{all_last}
use Rattle.proof_pairs.proofs.readings.Lists.{sent-append}
use Rattle.proof_pairs.proofs.readings.ReadingSteps.{same_process-refl}
use Rattle.proof_steps.proofs.children.Moves
use Rattle.proof_steps.proofs.children.Moves.{Fits}
use Rattle.proof_steps.proofs.children.Wires.{wire-none}
use Rattle.proof_steps.specs.cascades.CascadedSteps.{CascadedChildSteps}
use Rattle.proof_steps.specs.cascades.Messages.{AllSentBy}
use Rattle.proof_steps.proofs.cascades.Ends.{EndsDecided}
use Rattle.proof_steps.proofs.cascades.EndsHold.{all_end}
use Rattle.proof_steps.proofs.cascades.Fails.{own_breaks}
use Rattle.proof_steps.proofs.cascades.Faults
use Rattle.proof_steps.proofs.cascades.FaultRows
use Rattle.proof_steps.proofs.cascades.Halves.{OwnHalf, as_child, half_above, own_half_at}
use Rattle.proof_steps.proofs.cascades.Joins.{join_fits, joined_silent}
use Rattle.proof_steps.proofs.cascades.Opens.{IsRow, input_is}
use Rattle.proof_steps.proofs.cascades.AllRead.{all_read}
use Rattle.proof_steps.proofs.cascades.ReadCases.{Reads}
use Rattle.proof_steps.proofs.cascades.ReadSteps.{Keeps}
use Rattle.proof_steps.proofs.cascades.Restarts
use Rattle.proof_steps.proofs.cascades.Rows.{turn_fits}
use Rattle.proof_steps.proofs.cascades.Senders.{step_sent}
use Rattle.proof_steps.proofs.cascades.Trims
use Rattle.proof_steps.proofs.cascades.Turns.{Turn, opens}

-- What is known of the process.
pub record Known (tree : List TreeProcess) (net : List Envelope) (me p : ProcessId) (n : Node) : Type 0 where
  pub below : role_of tree me ≡ Below p
  pub apart : p ≡ me → ⊥
  pub nested : Nested (logs_of n)
  pub logs : Coordinates (logs_of n)
  pub alike : n.failed ≡ false → (c : Case) → IsOpenAlike
      (record { me = me; role = Below p; tree = tree }) n c
  pub asked : n.failed ≡ false → (c : Case)
      → (memory_of (record { me = me; role = Below p; tree = tree }) n c).phase ≡ Asked
      → sent (is_prepare_message c) net ≡ true
  pub numbers : TicketNumbers (record { me = me; role = Below p; tree = tree }) net n
  pub fit : AllFit [] (kept n)
  pub order : (c : Case) → CaseInOrder c (kept n)
  pub ends : EndsDecided (kept n)
  pub keeps : Keeps me p tree net n
  pub reads : Reads (record { me = me; role = Below p; tree = tree }) net n
  pub went : AllGo tree net

-- and of what a step leaves of it
pub record Behind (tree : List TreeProcess) (me p : ProcessId) (e : Effect) (k : Node) : Type 0 where
  pub nested : Nested (logs_of k)
  pub logs : Coordinates (logs_of k)
  pub alike : k.failed ≡ false → (c : Case) → IsOpenAlike
      (record { me = me; role = Below p; tree = tree }) k c
  pub fit : AllFit [] (kept k)
  pub sent_here : AllSentBy me e.messages
  pub go : AllGo tree e.messages

early_up : (place : Place) (n : Node) (i : Input) (p : ProcessId)
    → passes_at (Below p) place n i ≡ true → n.failed ≡ false
early_up place n (MessageInput k m) p e = is_up n.failed ((both (is_early_ack place n m) (not n.failed) e).1)
  where
    is_up : (b : Bool) → not b ≡ true → b ≡ false
    is_up true f = absurd (cc)
    is_up false f = refl
early_up place n (ActInput a) p e = absurd (cc)

module _ (c : Case) (t : Ticket) (p : ProcessId) (tree : List TreeProcess) (n : Node) (net : List Envelope)
    (pair : IsPair tree c t) (free : IsFree net c t) (known : Known tree net t.child p n)
    (outcome above : Bool)
    (half : ParentHalf) where
  abbrev d : Case
  d = child_case c.txn t

  abbrev place : Place
  place = record { me = t.child; role = Below p; tree = tree }

  abbrev root : Bool
  root = is_root_ticket c.ticket

  abbrev R : OwnHalf → Wire → Reading
  R x w = reading_from root false outcome above half (as_child x) w

  abbrev v : Wire
  v = wire c t net

  abbrev q : OwnHalf
  q = own_half_at (opens place n d) n d

  abbrev pr : Presumption
  pr = c.txn.presumption

  abbrev Fine : Node → List Envelope → Type 0
  Fine k ls = Fits pr (R q v) (R (own_half_at (opens place k d) k d) (wire c t (net ++ ls)))

  -- a step that sends nothing
  silent : (k : Node) → Fits pr (R q v) (R (own_half_at (opens place k d) k d) (wire c t net)) → Fine k []
  silent k f =
      subst (λ (z : Wire). Fits pr (R q v) (R (own_half_at (opens place k d) k d) z))
      (sym (wire-none c t t.child p net)) f

  up_after : (h : Heard) (e : Effect) → n.failed ≡ false → (after n h e).failed ≡ false
  up_after h e up =
      either_logs n (entries_written e.written) (is_any_forced e.written) (λ (l : Logs). l.failed ≡ false)
      (λ b. up) (λ b. up)

  recorded_issued : (f : Record → Bool) → ((r : Record) → f r ≡ true → is_record_of d r ≡ true)
      → has f (kept n) ≡ true → v.issued ≡ true
  recorded_issued f g e =
      let a = known.keeps.issues.recorded_is_given d
      (known.nested.kept_was_written (is_record_of d) (λ k. refl)
      (has_other f (is_record_of d) (kept n) g e)) in
      let y = given net c.txn t a.1 in
      subst (λ (x : Case). sent (is_joined_message x t) net ≡ true)
      (Restarts.joined_to net c y.of t free y.joined) y.joined

  commit_of : (r : Record) → is_commit d r ≡ true → is_record_of d r ≡ true
  commit_of r e = grind arith

  abort_of : (r : Record) → is_abort d r ≡ true → is_record_of d r ≡ true
  abort_of r e = grind arith

  abbrev row_turn : InvariantOf pr (R q v) → (h : Heard) → n.failed ≡ false
      → InputStands net t.child h.input → IsRow h.input
      → Turn
  row_turn inv h up here row = record {
    c = c;
    t = t;
    p = p;
    tree = tree;
    n = n;
    h = h;
    net = net;
    below = known.below;
    apart = known.apart;
    pair = pair;
    up = up;
    promise_written = known.nested.kept_was_written (is_prepare d) (λ k. refl);
    alike = known.alike up d;
    order = known.order d;
    end_decided = known.ends d;
    commit_given = recorded_issued (is_commit d) commit_of;
    abort_given = recorded_issued (is_abort d) abort_of;
    asked = known.asked up d;
    stands = here;
    row = row;
    pr = pr;
    of = refl;
    root = root;
    outcome = outcome;
    above = above;
    half = half;
    inv = inv;
  }

  own_steps : InvariantOf pr (R q v) → (m : Move) → MayHappen net t.child m.step.happening
      → (e : Effect) (k : Node) → StepOf place n m e k
      → Behind tree t.child p e k → Fine k e.messages
  own_steps inv m stands _ _ (handled i g hp np r) b =
      let h = heard_in m i in
      let turn = turn_of place n h g r in
      let up = turn.up in
      let here : InputStands net t.child i = subst (λ (x : Happening). MayHappen net t.child x) hp stands in
      elim (input_is i) [
        | inl join ↦ join_fits c t p tree n h net known.below known.apart pair up (known.alike up d)
            known.numbers pr root outcome above half inv join.number join.parents join.is g r
            (b.alike (up_after h g up) d) b.sent_here b.go
        | inr row ↦ turn_fits (row_turn inv h up here row) g (coordinator_turn_of place n h g r)
            (record { alike_then = b.alike (up_after h g up) d; sent_here = b.sent_here; go = b.go })
      ]
  own_steps inv m stands _ _ (failed_in i f g fl hp np r) b =
      let h = heard_in m i in
      let up = (turn_of place n h g r).up in
      let here : InputStands net t.child i = subst (λ (x : Happening). MayHappen net t.child x) hp stands in
      silent (fails_in n h g f.appended f.forced) (elim (input_is i) [
        | inl join ↦ FaultRows.writes_none d n h v pr root outcome above half (opens place n d) inv up g
            (joined_silent t.child p tree n h up join.number join.parents join.is g r) f.appended
            f.forced b.fit
        | inr row ↦ FaultRows.turn_fails (row_turn inv h up here row) g (coordinator_turn_of place n h g r)
            f.appended f.forced b.fit
      ])
  own_steps inv m stands _ _ (passed i hp r) b = silent n (Moves.unmoved pr (R q v) inv)
  own_steps inv m stands _ _ (failed_passing i f fl hp r) b =
      silent (record n { failed = true })
      (Faults.fails_quietly d n v pr root outcome above half (opens place n d) inv
      (record n { failed = true }) b.fit
      (λ x y. y) (early_up place n i p r)
      (own_breaks (opens place n d) n d (λ x. ((Moves.common_of pr (R q v) inv).child_forced_promise x).1)))
  own_steps inv m stands _ _ (reopened j hp) b =
      Restarts.restart_fits c t p tree n net known.fit known.ends known.keeps known.reads known.went free
      pr root outcome
      above half (opens place n d) j inv known.below known.apart pair (b.alike refl d) b.sent_here b.go
  own_steps inv m stands _ _ (failed_reopening j f fl hp) b =
      silent (restart_fails place n j f.appended f.forced)
      (Restarts.restart_breaks c t p tree n net known.fit known.ends known.keeps known.reads known.went
      free pr root
      outcome above half (opens place n d) j inv f.appended f.forced b.fit)
  own_steps inv m stands _ _ (trims_log hp up) b =
      silent (trims place n)
      (Trims.trim_fits t.child p tree n d v up (known.alike up d) known.ends pr root outcome above half inv
      (b.alike up d))
  own_steps inv m stands _ _ (failed_trimming f fl hp up) b =
      silent (trim_fails place n f.appended) (by_log f.appended b.fit)
    where
      by_log : (a : ℕ) → AllFit [] (kept (trim_fails place n a))
          → Fits pr (R q v) (R (own_half_at (opens place (trim_fails place n a) d)
          (trim_fails place n a) d) v)
      by_log zero fit = Trims.trim_breaks t.child p tree n d v up
          (known.alike up d) known.ends pr root outcome above
          half inv zero fit
      by_log (suc a) fit = Trims.trim_breaks t.child p tree n d v up
          (known.alike up d) known.ends pr root outcome
          above half inv (suc a) fit

  branchless : (k : Node) → Nested (logs_of k) → Coordinates (logs_of k) → NoBranch (child_case c.txn t) k
  branchless k h l = no_branch d k h l

  seen : (k : Node) (w : Wire) → Nested (logs_of k) → Coordinates (logs_of k)
      → reading_from root false outcome above half (child_half place k d) w
      ≡ R (own_half_at (opens place k d) k d) w
  seen k w h l =
      ap (λ (z : ChildHalf). reading_from root false outcome above half z w)
      (half_above (coordinator_view place k d).standing k d (branchless k h l))

  pub step_fits : (m : Move) → MayHappen net t.child m.step.happening
      → (e : Effect) (k : Node) → StepOf place n m e k → Behind tree t.child p e k
      → InvariantOf pr (seen_above place net n c t outcome above half)
      → Fits pr (seen_above place net n c t outcome above half)
      (seen_above place (net ++ e.messages) k c t outcome above half)
  step_fits m stands e k s b inv =
      let old = seen n v known.nested known.logs in
      subst (λ (z : Reading). Fits pr z (seen_above place (net ++ e.messages) k c t outcome above half))
      (sym old)
      (subst (λ (z : Reading). Fits pr (R q v) z)
      (sym (seen k (wire c t (net ++ e.messages)) b.nested b.logs))
      (own_steps (subst (λ (z : Reading). InvariantOf pr z) old inv) m stands e k s b))

free_before : (net ls : List Envelope) (c : Case) (t : Ticket) → IsFree (net ++ ls) c t → IsFree net c t
free_before net ls c t e = second_false _ _ (sym (sent-append (gives_other c t) net ls) ∙ e)
  where
    second_false : (a b : Bool) → (a || b) ≡ false → b ≡ false
    second_false a b e = grind arith

put_self : (q : ProcessId) (k : Node) (at : ProcessId → Node) → put_at q k at q ≡ k
put_self q k at = rw (same_process-refl q) refl

pub cascaded_child_steps : CascadedChildSteps
cascaded_child_steps tree is_tree es w run went m e w' p below stands made go =
    let q = m.step.process in
    let listed = makes_listed tree w m e w' made in
    let at = makes_at tree w m e w' made in
    let there : w'.at q ≡ at.node = ap (λ (x : World). x.at q) at.world ∙ put_self q at.node w.at in
    let place : (r : Role) → Place = λ r. record { me = q; role = r; tree = tree } in
    let run_then : IsRun tree (record { move = m; effect = e } ∷ es) w' = makes es w m e w' run stands made in
    let s = subst (λ (r : Role). StepOf (place r) (w.at q) m e at.node) below
    (step_of (place_of tree q) (w.at q) m e at.node at.made) in
    let before = cascaded_nodes_hold tree es w run q p below in
    let after_it = cascaded_nodes_hold tree (record { move = m; effect = e } ∷ es) w' run_then q p below in
    let parts : RoleHolds (Below p) (place (Below p)) w.net (w.at q) =
    subst (λ (r : Role). RoleHolds r (place r) w.net (w.at q)) below before.role in
    let last : Lasts (Below p) (logs_of (w.at q)) = subst
    (λ (r : Role). Lasts r (logs_of (w.at q))) below before.lasts in
    let last_then : Lasts (Below p) (logs_of at.node) =
    subst (λ (k : Node). Lasts (Below p) (logs_of k)) there
    (subst (λ (r : Role). Lasts r (logs_of (w'.at q))) below
    (all_last tree (record { move = m; effect = e } ∷ es) w' run_then q)) in
    let is : IsCoordinator (role_of tree q) = subst IsCoordinator (sym below) tt in
    let known : Known tree w.net q p (w.at q) = record {
      below = below;
      apart = λ x. parent_elsewhere tree is_tree q p listed
          (subst (λ (r : Role). IsChildRole r p) (sym below) refl) (sym x);
      nested = last.nested;
      logs = last.by_role;
      alike = parts.0.alike;
      asked = parts.1.0.asked_was_prepared;
      numbers = subst (λ (r : Role). TicketNumbers (place r) w.net (w.at q)) below
          (numbers_are_given_once tree es w run q (subst IsIssuer (sym below) tt));
      fit = all_fit tree es w run q is;
      order = cases_in_order tree es w run q is;
      ends = all_end tree es w run q p below;
      keeps = record { nested = last.nested; alike = parts.0.alike; issues = parts.1.1 };
      reads = all_read tree es w run q p below;
      went = went;
    } in
    let parts_then : RoleHolds (Below p) (place (Below p)) w'.net at.node =
    subst (λ (k : Node). RoleHolds (Below p) (place (Below p)) w'.net k) there
    (subst (λ (r : Role). RoleHolds r (place r) w'.net (w'.at q)) below after_it.role) in
    let behind : Behind tree q p e at.node = record {
      nested = last_then.nested;
      logs = last_then.by_role;
      alike = parts_then.0.alike;
      fit = subst (λ (k : Node). AllFit [] (kept k)) there
          (all_fit tree (record { move = m; effect = e } ∷ es) w' run_then q is);
      sent_here = step_sent (place (Below p)) (w.at q) m e at.node s;
      go = go;
    } in
    subst (λ (k : Node). ChildStep (place_of tree q) w.net e.messages (w.at q) k) (sym there)
    (subst (λ (r : Role). ChildStep (place r) w.net e.messages (w.at q) at.node) (sym below)
    (record {
      follows = λ c t pair same free outcome above half inv.
          subst (λ (x : ProcessId). Known tree w.net x p (w.at q) → Behind tree x p e at.node
          → MayHappen w.net x m.step.happening
          → StepOf (record { me = x; role = Below p; tree = tree }) (w.at q) m e at.node
          → InvariantOf c.txn.presumption
          (seen_above (record { me = x; role = Below p; tree = tree }) w.net (w.at q) c t outcome above half)
          → Fits c.txn.presumption
          (seen_above (record { me = x; role = Below p; tree = tree }) w.net (w.at q) c t outcome above half)
          (seen_above (record { me = x; role = Below p; tree = tree })
          (w.net ++ e.messages) at.node c t outcome above
          half)) same
          (λ known' behind' stands' s' inv'. step_fits c t p tree (w.at q) w.net pair
          (free_before w.net e.messages c t free) known' outcome above half m stands' e at.node s'
          behind' inv')
          known behind stands s inv;
    }))
