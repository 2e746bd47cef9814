-- In every run each restart and each trim of a coordinator keeps the pairs below it.
use Rattle.std.proofs.Common.{◌≡◌, ◌∙◌, ℕ, zero, suc, Bool, true, false, Some, List, ◌∷◌, ◌++◌, refl, sym, ap, subst}
use Rattle.protocol.specs.declared.names.Case.{Case}
use Rattle.protocol.specs.declared.names.ProcessId.{ProcessId}
use Rattle.protocol.specs.declared.names.Ticket.{Ticket}
use Rattle.protocol.specs.declared.names.Txn.{Txn}
use Rattle.protocol_words.specs.Variants.{VoteYes}
use Rattle.protocol.specs.declared.trees.TreeProcess.{TreeProcess}
use Rattle.protocol.specs.Names.{process_of}
use Rattle.protocol.specs.Records.{has, is_prepare}
use Rattle.protocol.specs.Nodes.{AtLeaf, AtRoot, Below, Effect, Node, Place, Role, place_of, role_of, IsCoordinator}
use Rattle.protocol.specs.Outcomes.{has_accepted, has_heard_vote, is_read_message, sent}
use Rattle.protocol.specs.Restarts.{trim_fails}
use Rattle.protocol.specs.Trees.{IsTree}
use Rattle.protocol.specs.Views.{root_place}
use Rattle.protocol.specs.World.{IsRun, Made, Move, MayHappen, World, makes, put_at, world_makes}
use Rattle.protocol.proofs.RunLaws.{makes_at}
use Rattle.protocol.specs.Memory.{same_vote}
use Rattle.proof_pairs.proofs.readings.ReadingSteps.{same_process-refl}
use Rattle.proof_pairs.specs.turns.Steps.{StepOf, handled, failed_in, passed, failed_passing, reopened, failed_reopening, trims_log, failed_trimming}
use Rattle.proof_pairs.proofs.turns.Steps.{step_of}
use Rattle.proof_processes.specs.ProcessSteps.{ParentStep}
use Rattle.proof_processes.specs.WorldHolds.{Coordinates, RoleHolds, WorldHolds, has_begun, pair_reading}
use Rattle.proof_processes.proofs.CoordinatorLogs.{all_fit}
use Rattle.proof_processes.proofs.CoordinatorsHold.{coordinators_hold}
use Rattle.proof_processes.proofs.Levels.{parent_elsewhere}
use Rattle.proof_processes.proofs.PairOf.{common_of, is_free, is_pair}
use Rattle.proof_processes.proofs.RootBegins.{all_begun}
use Rattle.proof_processes.proofs.RootNumbered.{all_root_cases}
use Rattle.proof_processes.proofs.Unlisted.{makes_listed}
use Rattle.proof_processes.proofs.Worlds.{all_last}
use Rattle.proof_steps.specs.crashes.CoordinatorCrashes.{CoordinatorCrashes, IsCrash}
use Rattle.proof_steps.proofs.crashes.CrashPairs.{NodeFacts, cascaded_crashes, root_crashes}
use Rattle.proof_steps.proofs.crashes.Promised.{VotedYes, promises_voted}
use Rattle.proof_steps.proofs.crashes.RootListed.{begun_stay}

ends : {A : Type 0} → true ≡ false → A
ends z = absurd (cc)

-- A case that said READ has promised nothing: whoever it would have promised for said YES.

reads_not : (tree : List TreeProcess) (w : World) → WorldHolds tree w → (me : ProcessId)
    → Coordinates (place_of tree me) w.net (w.at me)
    → ((c : Case) → has (is_prepare c) (w.at me).life ≡ true → VotedYes c (w.at me).voted)
    → (c : Case) → sent (is_read_message c) w.net ≡ true → has (is_prepare c) (w.at me).life ≡ false
reads_not tree w h me co voted c read = by_test (has (is_prepare c) (w.at me).life) refl
  where
    contradicts : (t : Ticket) → has_heard_vote (w.at me) c t (same_vote VoteYes) ≡ true
        → has (is_prepare c) (w.at me).life ≡ false
    contradicts t yes' =
        let accepted = co.voted_accepted c t VoteYes yes' in
        let joined = co.accepted_was_joined c t accepted in
        let pair = is_pair tree w.net c t h.net joined.1 in
        let common = common_of c.txn.presumption (pair_reading tree w c t)
        (h.pairs c t pair (is_free w.net w.net c t (λ d f. f) h.joined_once joined.1)) in
        let here = λ (P : Node → Type 0) (p : P (w.at me)). subst (λ (x : ProcessId). P (w.at x))
        (sym joined.0) p in
        let first = common.read_has_reads read (here (λ n. has_accepted n c t ≡ true) accepted) in
        ends (sym first ∙ (common.yes_was_sent
        (here (λ n. has_heard_vote n c t (same_vote VoteYes) ≡ true) yes')).1)

    by_test : (b : Bool) → has (is_prepare c) (w.at me).life ≡ b → has (is_prepare c) (w.at me).life ≡ false
    by_test true e = let v = voted c e in contradicts v.ticket v.heard
    by_test false e = e

put_here : (q : ProcessId) (k : Node) (at : ProcessId → Node) → put_at q k at q ≡ k
put_here q k at = rw (same_process-refl q) refl

-- a crash begins nothing
begins_nothing : (place : Place) (n : Node) (m : Move) (e : Effect) (k : Node) → IsCrash m.step.happening
    → StepOf place n m e k → k.begun ≡ n.begun
begins_nothing place n m _ _ crash (reopened j hp) = refl
begins_nothing place n m _ _ crash (failed_reopening j f fl hp) = refl
begins_nothing place n m _ _ crash (trims_log hp up) = refl
begins_nothing place n m _ _ crash (failed_trimming f fl hp up) = by_part f.appended
  where
    by_part : (a : ℕ) → (trim_fails place n a).begun ≡ n.begun
    by_part zero = refl
    by_part (suc a) = refl
begins_nothing place n m _ _ crash (handled i g hp np r) = absurd (subst IsCrash hp crash)
begins_nothing place n m _ _ crash (failed_in i f g fl hp np r) = absurd (subst IsCrash hp crash)
begins_nothing place n m _ _ crash (passed i hp r) = absurd (subst IsCrash hp crash)
begins_nothing place n m _ _ crash (failed_passing i f fl hp r) = absurd (subst IsCrash hp crash)

module _ (tree : List TreeProcess) (is_tree : IsTree tree) (es : List Made) (w : World)
    (run : IsRun tree es w)
    (h : WorldHolds tree w) (m : Move) (e : Effect) (w' : World) (crash : IsCrash m.step.happening)
    (stands : MayHappen w.net m.step.process m.step.happening) (made : world_makes tree w m ≡ Some (e, w'))
  where
    abbrev q : ProcessId
    q = m.step.process

    abbrev n : Node
    n = w.at q

    abbrev es' : List Made
    es' = record { move = m; effect = e } ∷ es

    run' : IsRun tree (record { move = m; effect = e } ∷ es) w'
    run' = makes es w m e w' run stands made

    abbrev node : Node
    node = (makes_at tree w m e w' made).node

    step : StepOf (place_of tree q) n m e node
    step = step_of (place_of tree q) n m e node (makes_at tree w m e w' made).made

    there : w'.at q ≡ node
    there = ap (λ (x : World). x.at q) (makes_at tree w m e w' made).world ∙ put_here q node w.at

    net_then : w'.net ≡ w.net ++ e.messages
    net_then = ap (λ (x : World). x.net) (makes_at tree w m e w' made).world

    facts : IsCoordinator (role_of tree q) → NodeFacts (place_of tree q) w.net n
    facts i = record {
      coordinates = coordinators_hold tree es w run q i;
      nested = (all_last tree es w run q).nested;
      fit = all_fit tree es w run q i;
    }

    facts' : IsCoordinator (role_of tree q) → NodeFacts (place_of tree q) (w.net ++ e.messages) (w'.at q)
    facts' i = record {
      coordinates = subst (λ ls. Coordinates (place_of tree q) ls (w'.at q)) net_then
          (coordinators_hold tree es' w' run' q i);
      nested = (all_last tree es' w' run' q).nested;
      fit = all_fit tree es' w' run' q i;
    }

    of_role : (r : Role) → role_of tree q ≡ r → RoleHolds r (place_of tree q) w.net n
    of_role r f =
        subst (λ (x : Role). RoleHolds x (place_of tree q) w.net n) f
        (h.nodes q (makes_listed tree w m e w' made)).role

    abbrev at : Role → Place
    at r = record { me = q; role = r; tree = tree }

    at_top : role_of tree q ≡ AtRoot → ParentStep (place_of tree q) w.net e.messages n (w'.at q)
    at_top top =
        let i : IsCoordinator (role_of tree q) = subst IsCoordinator (sym top) tt in
        let now : NodeFacts (at AtRoot) w.net n = subst (λ r. NodeFacts (at r) w.net n) top (facts i) in
        let then : NodeFacts (at AtRoot) (w.net ++ e.messages) node =
        subst (λ k. NodeFacts (at AtRoot) (w.net ++ e.messages) k) there
        (subst (λ r. NodeFacts (at r) (w.net ++ e.messages) (w'.at q)) top (facts' i)) in
        let own = (of_role AtRoot top).1.own_records in
        let begun = λ (x : Txn). subst
        (λ k. has_begun (root_place q tree) k x ≡ has_begun (root_place q tree) n x) there
        (begun_stay q tree n (w'.at q) (all_root_cases tree es w run q top) (all_begun tree es w run q top)
        (all_root_cases tree es' w' run' q top) (all_begun tree es' w' run' q top)
        (ap (λ (k : Node). k.begun) there ∙ begins_nothing (place_of tree q) n m e node crash step) x) in
        subst (λ r. ParentStep (at r) w.net e.messages n (w'.at q)) (sym top)
        (subst (λ k. ParentStep (at AtRoot) w.net e.messages n k) (sym there)
        (root_crashes q tree n w.net top now (λ d f. (own d f).0) m crash e node
        (subst (λ r. StepOf (at r) n m e node) top step) then begun))

    below_it : (p : ProcessId) → role_of tree q ≡ Below p
        → ParentStep (place_of tree q) w.net e.messages n (w'.at q)
    below_it p below =
        let i : IsCoordinator (role_of tree q) = subst IsCoordinator (sym below) tt in
        let now : NodeFacts (at (Below p)) w.net n = subst (λ r. NodeFacts (at r) w.net n) below (facts i) in
        let then : NodeFacts (at (Below p)) (w.net ++ e.messages) node =
        subst (λ k. NodeFacts (at (Below p)) (w.net ++ e.messages) k) there
        (subst (λ r. NodeFacts (at r) (w.net ++ e.messages) (w'.at q)) below (facts' i)) in
        let own = (of_role (Below p) below).1.1.recorded_is_given in
        subst (λ r. ParentStep (at r) w.net e.messages n (w'.at q)) (sym below)
        (subst (λ k. ParentStep (at (Below p)) w.net e.messages n k) (sym there)
        (cascaded_crashes q p tree n w.net below now (λ d f. (own d f).0)
        (λ c t pair same child. parent_elsewhere tree is_tree t.child (process_of c) pair.listed pair.child
        (child ∙ sym same))
        (reads_not tree w h q (coordinators_hold tree es w run q i) (promises_voted tree es w run q i))
        m crash e node (subst (λ r. StepOf (at r) n m e node) below step) then))

    crashes_keep : (r : Role) → role_of tree q ≡ r → IsCoordinator r
        → ParentStep (place_of tree q) w.net e.messages n (w'.at q)
    crashes_keep AtRoot f i = at_top f
    crashes_keep (Below p) f i = below_it p f
    crashes_keep (AtLeaf p) f i = absurd i

pub coordinator_crashes : CoordinatorCrashes
coordinator_crashes tree is_tree es w run h m e w' i crash stands made =
    crashes_keep tree is_tree es w run h m e w' crash stands made (role_of tree m.step.process) refl i
