-- In every run what a coordinator sends goes to where the message belongs, and is of a case that was given.
use Rattle.std.proofs.Common.{◌≡◌, ◌≢◌, ◌∙◌, inl, inr, ℕ, true, false, Option, Some, None, List, [], ◌∷◌, ◌++◌, sym, ap, subst}
use Rattle.std.specs.List.{flat_map}
use Rattle.protocol.specs.declared.names.Case.{Case}
use Rattle.protocol.specs.declared.names.ProcessId.{ProcessId}
use Rattle.protocol.specs.declared.names.Ticket.{Ticket}
use Rattle.protocol.specs.declared.names.Txn.{Txn}
use Rattle.protocol.specs.declared.messages.Envelope.{Envelope}
use Rattle.protocol.specs.declared.messages.Message.{Message}
use Rattle.protocol.specs.declared.messages.Message.TheVariants.{Join, Joined, Work, Prepare, Yes, No, Read, Commit, Abort, Ack, Inquire}
use Rattle.protocol.specs.declared.events.Happening.{Happening}
use Rattle.protocol.specs.declared.trees.TreeProcess.{TreeProcess}
use Rattle.protocol.specs.Names.{child_case, process_of}
use Rattle.protocol.specs.Records.{cases_in, has}
use Rattle.protocol.specs.Nodes.{AtRoot, Below, Effect, Heard, Node, Place, Role, is_listed, place_of, role_of}
use Rattle.protocol.specs.Memory.{Idle, memory_of}
use Rattle.protocol.specs.Outcomes.{sent}
use Rattle.protocol.specs.Restarts.{coordinator_reopens, coordinator_resumes, left_of, restart_effect}
use Rattle.protocol.specs.World.{IsRun, Made, Move, MayHappen, World, world_makes}
use Rattle.protocol.proofs.RunLaws.{makes_at}
use Rattle.proof_pairs.specs.readings.ReadingOf.{gives_case}
use Rattle.proof_pairs.specs.turns.CoordinatorTurns.{CoordinatorTurn}
use Rattle.proof_pairs.specs.turns.Steps.{StepOf, heard_in, handled, failed_in, passed, failed_passing, reopened, failed_reopening, trims_log, failed_trimming}
use Rattle.proof_pairs.proofs.turns.CoordinatorReactions.{CoordinatorTurnAt, coordinator_turn_of}
use Rattle.proof_pairs.proofs.turns.Steps.{step_of, turn_of}
use Rattle.proof_processes.specs.Lasts.{Nested, logs_of}
use Rattle.proof_processes.specs.WorldHolds.{AboutGiven, AllGo, Coordinates, IsParent, IsParentRole, RoleHolds, WorldHolds, is_record_of}
use Rattle.proof_processes.proofs.PairOf.{given, is_pair}
use Rattle.proof_processes.proofs.Remembering.{coordinator_place, role_below}
use Rattle.proof_processes.proofs.Tests.{case_is, either}
use Rattle.proof_processes.proofs.Unlisted.{makes_listed}
use Rattle.proof_headline.specs.CoordinatorLaws.{SendsWell}
use Rattle.proof_headline.proofs.runs.CoordinatorMessages.{AllWell, Own, all_given, all_go}
use Rattle.proof_headline.proofs.runs.TurnMessages

-- a case without a ticket is given by no JOINED
none_gives_now : (x : Txn) (m : Message) → gives_case (record { txn = x; ticket = None }) m ≡ true → ⊥
none_gives_now x (Joined d u) e =
    differ (ap (λ (c : Case). c.ticket) (case_is (child_case d.txn u) (record { txn = x; ticket = None }) e))
  where
    differ : Some u ≡ None → ⊥
    differ z = cc
none_gives_now x (Join d) e = cc
none_gives_now x (Work d k op) e = cc
none_gives_now x (Prepare d k) e = cc
none_gives_now x (Yes d) e = cc
none_gives_now x (No d) e = cc
none_gives_now x (Read d) e = cc
none_gives_now x (Commit d) e = cc
none_gives_now x (Abort d) e = cc
none_gives_now x (Ack d o fs) e = cc
none_gives_now x (Inquire d) e = cc

pub none_gives : (x : Txn) (net : List Envelope)
    → sent (gives_case (record { txn = x; ticket = None })) net ≡ true → ⊥
unfolding sent
none_gives x [] e = cc
none_gives x (l ∷ ls) e = elim (either (gives_case (record { txn = x; ticket = None }) l.message) _ e) [
  | inl now ↦ none_gives_now x l.message now
  | inr rest ↦ none_gives x ls rest
]

-- a case that was given, of a cascaded coordinator, is a parent's case of the tree
given_parent : (tree : List TreeProcess) (net : List Envelope) (me p : ProcessId) → AllGo tree net
    → is_listed tree me ≡ true
    → role_of tree me ≡ Below p → (c : Case) → process_of c ≡ me → sent (gives_case c) net ≡ true
    → IsParent tree c
given_parent tree net me p goes listed below c own g = by_ticket c.txn c.ticket own g
  where
    by_ticket : (x : Txn) (o : Option Ticket) → process_of (record { txn = x; ticket = o }) ≡ me
        → sent (gives_case (record { txn = x; ticket = o })) net ≡ true
        → IsParent tree (record { txn = x; ticket = o })
    by_ticket x None f e = absurd (none_gives x net e)
    by_ticket x (Some t) f e =
        let k = given net x t e in
        let pair = is_pair tree net k.of t goes k.joined in
        record {
          listed = ap (is_listed tree) f ∙ listed;
          role = subst (λ r. IsParentRole r (Some t)) (sym (ap (role_of tree) f ∙ below)) tt;
          top_listed = subst (λ (y : Txn). is_listed tree y.root ≡ true) k.same pair.parent.top_listed;
          top = subst (λ (y : Txn). role_of tree y.root ≡ AtRoot) k.same pair.parent.top;
        }

module _ (me : ProcessId) (parent : Option ProcessId) (tree : List TreeProcess) (n : Node)
    (net : List Envelope)
    (role : role_of tree me ≡ role_below parent) (listed : is_listed tree me ≡ true) (goes : AllGo tree net)
    (given_before : AboutGiven net) (nested : Nested (logs_of n))
    (holds : RoleHolds (role_below parent) (coordinator_place me parent tree) net n)
  where
    abbrev place : Place
    place = coordinator_place me parent tree

    abbrev Is : Option ProcessId → Type 0
    Is o = RoleHolds (role_below o) (coordinator_place me o tree) net n

    coordinates : (o : Option ProcessId) → Is o → Coordinates (coordinator_place me o tree) net n
    coordinates None h = h.0
    coordinates (Some p) h = h.0

    remembered : (o : Option ProcessId) → Is o → (p : ProcessId) → o ≡ Some p → n.failed ≡ false → (c : Case)
        → (memory_of (coordinator_place me o tree) n c).phase ≢ Idle → Own tree me net goes c
    remembered None h p e up c f = absurd (cc)
    remembered (Some r) h p e up c f =
        let g = h.1.1.remembered_is_given up c f in record { own = g.0; given = g.1 }

    recorded : (o : Option ProcessId) → Is o → (p : ProcessId) → o ≡ Some p → (c : Case)
        → has (is_record_of c) n.life ≡ true → Own tree me net goes c
    recorded None h p e c f = absurd (cc)
    recorded (Some r) h p e c f = let g = h.1.1.recorded_is_given c f in record { own = g.0; given = g.1 }

    root_parent : (c : Case) → role_of tree me ≡ AtRoot → c.ticket ≡ None → process_of c ≡ me
        → IsParent tree c
    root_parent c top none own = record {
      listed = ap (is_listed tree) own ∙ listed;
      role = subst (λ r. IsParentRole r c.ticket) (sym (ap (role_of tree) own ∙ top))
          (subst (λ o. IsParentRole AtRoot o) (sym none) tt);
      top_listed = ap (is_listed tree) (of_root c.ticket none own) ∙ listed;
      top = ap (role_of tree) (of_root c.ticket none own) ∙ top;
    }
      where
        of_root : (o : Option Ticket) → o ≡ None → process_of (record { txn = c.txn; ticket = o }) ≡ me
            → c.txn.root ≡ me
        of_root None e f = f
        of_root (Some t) e f = absurd (cc)

    invited : (o : Option ProcessId) → role_of tree me ≡ role_below o → Is o → n.failed ≡ false → (c : Case)
        → (memory_of (coordinator_place me o tree) n c).phase ≢ Idle → (process_of c ≡ me) × IsParent tree c
    invited None r h up c f = let g = h.1.own_memory c f in (g.1, root_parent c r g.0 g.1)
    invited (Some p) r h up c f =
        let g = h.1.1.remembered_is_given up c f in (g.0, given_parent tree net me p goes listed r c g.0 g.1)

    turn_of_it : (o : Option ProcessId) (h : Heard) (e : Effect)
        → CoordinatorTurnAt (role_below o) (coordinator_place me o tree) n h e
        → CoordinatorTurn (coordinator_place me o tree) o n h e
    turn_of_it None h e t = t
    turn_of_it (Some p) h e t = t

    resumed : (o : Option ProcessId) (j : ℕ)
        → AllWell tree me net (flat_map
        (coordinator_resumes me o (left_of n j ++ coordinator_reopens (left_of n j)))
        (cases_in (left_of n j ++ coordinator_reopens (left_of n j))))
        → AllWell tree me net (restart_effect (coordinator_place me o tree) n j).messages
    resumed None j a = a
    resumed (Some p) j a = a

    pub step_sends : (m : Move) → MayHappen net me m.step.happening → (e : Effect) (k : Node)
        → StepOf place n m e k
        → AllWell tree me net e.messages
    step_sends m stands _ _ (handled i g hp np r) =
        TurnMessages.effect_sends me parent tree n net role listed goes given_before nested
        (coordinates parent holds)
        (remembered parent holds) (recorded parent holds) (invited parent role holds)
        (turn_of place n (heard_in m i) g r).up (heard_in m i)
        (subst (λ (x : Happening). MayHappen net me x) hp stands) g
        (turn_of_it parent (heard_in m i) g (coordinator_turn_of place n (heard_in m i) g r))
    step_sends m stands _ _ (failed_in i f g fl hp np r) = tt
    step_sends m stands _ _ (passed i hp r) = tt
    step_sends m stands _ _ (failed_passing i f fl hp r) = tt
    step_sends m stands _ _ (reopened j hp) =
        resumed parent j
        (TurnMessages.resumes_well me parent tree n net role listed goes given_before nested
        (coordinates parent holds)
        (remembered parent holds) (recorded parent holds) (invited parent role holds) j
        (cases_in (left_of n j ++ coordinator_reopens (left_of n j))))
    step_sends m stands _ _ (failed_reopening j f fl hp) = tt
    step_sends m stands _ _ (trims_log hp up) = tt
    step_sends m stands _ _ (failed_trimming f fl hp up) = tt

pub messages_hold : (tree : List TreeProcess) (es : List Made) (w : World) → IsRun tree es w
    → WorldHolds tree w
    → (m : Move) (e : Effect) (w' : World) (parent : Option ProcessId)
    → role_of tree m.step.process ≡ role_below parent
    → MayHappen w.net m.step.process m.step.happening → world_makes tree w m ≡ Some (e, w')
    → SendsWell (place_of tree m.step.process) w.net e.messages
messages_hold tree es w run h m e w' parent role stands made =
    let q = m.step.process in
    let n = w.at q in
    let listed = makes_listed tree w m e w' made in
    let node = h.nodes q listed in
    let here = makes_at tree w m e w' made in
    let at : Role → Place = λ r. record { me = q; role = r; tree = tree } in
    let s = subst (λ r. StepOf (at r) n m e here.node) role
    (step_of (place_of tree q) n m e here.node here.made) in
    let holds = subst (λ r. RoleHolds r (at r) w.net n) role node.role in
    let well = step_sends q parent tree n w.net role listed h.net h.about_given node.lasts.nested holds m
    stands e
    here.node s in
    record {
      go = all_go tree q w.net e.messages well;
      about_given = all_given tree q w.net e.messages
          well h.about_given;
    }
