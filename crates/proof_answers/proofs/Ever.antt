-- What stays of an outcome, however a run goes on.
use Rattle.std.proofs.Common.{◌≡◌, ◌∙◌, inl, inr, Bool, true, false, Some, None, List, [], ◌∷◌, ◌++◌, refl, sym, ap, subst}
use Rattle.protocol.specs.declared.names.ProcessId.{ProcessId}
use Rattle.protocol.specs.declared.names.Txn.{Txn}
use Rattle.protocol.specs.declared.trees.TreeProcess.{TreeProcess}
use Rattle.protocol.specs.NameLaws.{same_process_tells}
use Rattle.protocol.specs.Names.{root_case, same_process}
use Rattle.protocol.specs.Nodes.{Role, AtRoot, Effect, Node, Place, kept, place_of, role_of}
use Rattle.protocol.specs.Outcomes.{is_commit_outcome, is_joined_message}
use Rattle.protocol.specs.Records.{has, is_commit}
use Rattle.protocol.specs.Trees.{IsTree}
use Rattle.protocol.specs.World.{Continues, IsRun, Made, Move, World, goes_on, made_by, makes, put_at, stays, world_makes}
use Rattle.protocol.proofs.RunLaws.{makes_at}
use Rattle.proof_pairs.specs.Invariant.{Common}
use Rattle.proof_pairs.specs.Keeps.{Later}
use Rattle.proof_pairs.specs.Reading.{Reading}
use Rattle.proof_pairs.specs.turns.Steps.{StepOf, failed_in, failed_passing, failed_reopening, failed_trimming, handled, passed, reopened, trims_log}
use Rattle.proof_pairs.proofs.readings.ReadingSteps.{same_process-refl}
use Rattle.proof_pairs.proofs.turns.Steps.{step_of}
use Rattle.proof_processes.specs.WorldHolds.{pair_reading}
use Rattle.proof_processes.proofs.CoordinatorsHold.{all_coordinated}
use Rattle.proof_processes.proofs.PairOf.{common_of, is_free}
use Rattle.proof_processes.proofs.Remembering.{coordinator_place}
use Rattle.proof_processes.proofs.RootHistories.{among}
use Rattle.proof_processes.proofs.RootNumbered.{all_root_cases}
use Rattle.proof_processes.proofs.Worlds.{put}
use Rattle.proof_headline.specs.ProcessLaws.{ProcessLaws}
use Rattle.proof_headline.proofs.Coordinators.{coordinators_keep}
use Rattle.proof_headline.proofs.Grows.{durable_still}
use Rattle.proof_headline.proofs.Managers.{coordinators_are_enough}
use Rattle.proof_headline.proofs.Pairs.{joined_pair}
use Rattle.proof_headline.proofs.Steps.{onward_holds}
use Rattle.proof_headline.proofs.runs.Headline.{cascaded_laws, root_laws, the_world_holds}
use Rattle.proof_answers.specs.Lasting.{is_restart, restarts_by, restarts_first}
use Rattle.proof_answers.proofs.Refusals.{Refused}
use Rattle.proof_answers.proofs.Shut.{Shut, reopened_shut, reopening_shut, shut_last}

process_laws : (tree : List TreeProcess) → IsTree tree → ProcessLaws tree
process_laws tree t = coordinators_are_enough tree
    (coordinators_keep tree (root_laws tree t) (cascaded_laws tree t))

abbrev at : ProcessId → List TreeProcess → Role → Place
at q tree r = record { me = q; role = r; tree = tree }

-- what went on is a run
record Onward (tree : List TreeProcess) (w : World) : Type 0 where
  moves : List Made
  run : IsRun tree moves w

onward : (tree : List TreeProcess) (es : List Made) (w : World) → IsRun tree es w
    → (fs : List Made) (later : World)
    → Continues tree w fs later → Onward tree later
onward tree es w run _ _ stays = record { moves = es; run = run }
onward tree es w run _ _ (goes_on fs v m e v' before stands made) =
    let old = onward tree es w run fs v before in
    record {
      moves = record { move = m; effect = e } ∷ old.moves;
      run = makes old.moves v m e v' old.run stands made;
    }

-- A commit stays.

module _ (tree : List TreeProcess) (x : Txn) where
  abbrev q : ProcessId
  q = x.root

  commit_step : (v : World) (m : Move) (e : Effect) (v' : World) → world_makes tree v m ≡ Some (e, v')
      → has (is_commit (root_case x)) (v.at x.root).durable ≡ true
      → has (is_commit (root_case x)) (v'.at x.root).durable ≡ true
  commit_step v m e v' made =
      let now = makes_at tree v m e v' made in
      let p = m.step.process in
      let s = step_of (place_of tree p) (v.at p) m e now.node now.made in
      let P : ProcessId → Node → Type 0 = λ y k. has (is_commit (root_case x)) (v.at y).durable ≡ true
      → has (is_commit (root_case x)) k.durable ≡ true in
      subst (λ (y : World). P q (y.at q)) (sym now.world)
      (put P p q now.node v.at (durable_still (place_of tree p) m (is_commit (root_case x)) (v.at p) e
      now.node s) (λ f. f))

  pub commit_stays : (w : World) (fs : List Made) (later : World) → Continues tree w fs later
      → is_commit_outcome w x ≡ true → is_commit_outcome later x ≡ true
  unfolding is_commit_outcome
  commit_stays w _ _ stays f = f
  commit_stays w _ _ (goes_on fs v m e v' before stands made) f =
      commit_step v m e v' made (commit_stays w fs v before f)

-- Where a case that takes part has refused, there is never a commit.

never_both : (r : Reading) → Common r → r.refused ≡ true → r.took_part_up ≡ true → r.outcome ≡ false
never_both r k e f = by_test r.outcome refl
  where
    by_test : (b : Bool) → r.outcome ≡ b → r.outcome ≡ false
    by_test false g = g
    by_test true g = absurd (let y = sym (k.participant_consented g f).0 ∙ e in cc)

pub refused_stays : (tree : List TreeProcess) → IsTree tree → (es : List Made) (w : World) → IsRun tree es w
    → (x : Txn) → Refused tree w x → (fs : List Made) (later : World) → Continues tree w fs later
    → is_commit_outcome later x ≡ false
refused_stays tree t es w run x r fs later on =
    let h = the_world_holds tree t es w run in
    let f = onward_holds tree t (process_laws tree t) es w run h fs later on in
    let joined = f.net (is_joined_message r.of r.ticket) r.joined in
    let pair = joined_pair tree w h r.of r.ticket r.joined in
    let free = is_free later.net later.net r.of r.ticket (λ d k. k) f.holds.joined_once joined in
    let still : Later (pair_reading tree w r.of r.ticket) (pair_reading tree later r.of r.ticket) =
    f.later r.of r.ticket pair.0 free in
    subst (λ (y : Txn). is_commit_outcome later y ≡ false) r.same
    (never_both (pair_reading tree later r.of r.ticket)
    (common_of r.of.txn.presumption (pair_reading tree later r.of r.ticket)
    (joined_pair tree later f.holds r.of r.ticket joined).1)
    (still.refused r.refused) (still.took_part_up r.part))

-- A transaction that is shut at its root stays so.

module _ (tree : List TreeProcess) (x : Txn) where
  abbrev root : ProcessId
  root = x.root

  shut_step : (es : List Made) (v : World) → IsRun tree es v → (m : Move) (e : Effect) (v' : World)
      → world_makes tree v m ≡ Some (e, v') → role_of tree x.root ≡ AtRoot
      → Shut (coordinator_place x.root None tree) (v.at x.root) x
      → Shut (coordinator_place x.root None tree) (v'.at x.root) x
  shut_step es v run m e v' made =
      let now = makes_at tree v m e v' made in
      let p = m.step.process in
      let s = step_of (place_of tree p) (v.at p) m e now.node now.made in
      let P : ProcessId → Node → Type 0 = λ y k. role_of tree y ≡ AtRoot
      → Shut (coordinator_place y None tree) (v.at y) x → Shut (coordinator_place y None tree) k x in
      subst (λ (y : World). P root (y.at root)) (sym now.world)
      (put P p root now.node v.at
      (λ role old. shut_last p tree (v.at p) x (all_root_cases tree es v run p role)
      (all_coordinated tree es v run p None role) old m e now.node
      (subst (λ (r : Role). StepOf (at p tree r) (v.at p) m e now.node) role s))
      (λ role old. old))

  pub shut_stays : (es : List Made) (w : World) → IsRun tree es w → role_of tree x.root ≡ AtRoot
      → Shut (coordinator_place x.root None tree) (w.at x.root) x → (fs : List Made) (later : World)
      → Continues tree w fs later → Shut (coordinator_place x.root None tree) (later.at x.root) x
  shut_stays es w run role old _ _ stays = old
  shut_stays es w run role old _ _ (goes_on fs v m e v' before stands made) =
      let on = onward tree es w run fs v before in
      shut_step on.moves v on.run m e v' made role (shut_stays es w run role old fs v before)

  -- A root that makes no move before its restart.

  module _ (es : List Made) (w : World) (run : IsRun tree es w) (role : role_of tree x.root ≡ AtRoot)
      (known : among x (w.at x.root).begun ≡ true)
      (none_kept : has (is_commit (root_case x)) (kept (w.at x.root)) ≡ false)
      (none_ever : has (is_commit (root_case x)) (w.at x.root).durable ≡ false)
    where
      -- it has made no move yet, or the transaction is shut there
      data Now (fs : List Made) (v : World) : Type 0 where
        untouched : v.at x.root ≡ w.at x.root → made_by x.root fs ≡ [] → Now fs v
        shut : Shut (coordinator_place x.root None tree) (v.at x.root) x → Now fs v

      first_restart : (m : Move) (e : Effect) (k : Node)
          → StepOf (coordinator_place x.root None tree) (w.at x.root) m e k
          → is_restart m.step.happening ≡ true
          → Shut (coordinator_place x.root None tree) k x
      first_restart m _ _ (reopened j hp) r = reopened_shut root tree (w.at root) x known
          none_kept none_ever j
      first_restart m _ _ (failed_reopening j f fl hp) r =
          reopening_shut root tree (w.at root) x known none_kept none_ever j f.appended f.forced
      first_restart m _ _ (handled i g hp np s) r = absurd (let y = sym (ap is_restart hp) ∙ r in cc)
      first_restart m _ _ (failed_in i f g fl hp np s) r = absurd (let y = sym (ap is_restart hp) ∙ r in cc)
      first_restart m _ _ (passed i hp s) r = absurd (let y = sym (ap is_restart hp) ∙ r in cc)
      first_restart m _ _ (failed_passing i f fl hp s) r = absurd (let y = sym (ap is_restart hp) ∙ r in cc)
      first_restart m _ _ (trims_log hp up) r = absurd (let y = sym (ap is_restart hp) ∙ r in cc)
      first_restart m _ _ (failed_trimming f fl hp up) r = absurd (let y = sym (ap is_restart hp) ∙ r in cc)

      module _ (fs : List Made) (v : World) (before : Continues tree w fs v) (m : Move)
          (e : Effect) (v' : World)
          (made : world_makes tree v m ≡ Some (e, v')) where
        abbrev last : Made
        last = record { move = m; effect = e }

        still_shut : Shut (coordinator_place x.root None tree) (v.at x.root) x
            → Shut (coordinator_place x.root None tree) (v'.at x.root) x
        still_shut old =
            let on = onward tree es w run fs v before in
            shut_step on.moves v on.run m e v' made role old

        restarted_now : m.step.process ≡ x.root → v.at x.root ≡ w.at x.root
            → is_restart m.step.happening ≡ true
            → Shut (coordinator_place x.root None tree) (v'.at x.root) x
        restarted_now here same r =
            let now = makes_at tree v m e v' made in
            let p = m.step.process in
            let s = step_of (place_of tree p) (v.at p) m e now.node now.made in
            let stepped : StepOf (place_of tree root) (v.at root) m e (v'.at root) =
            step_here now.node (sym here) s now.world in
            first_restart m e (v'.at root)
            (subst (λ (n : Node). StepOf (coordinator_place root None tree) n m e (v'.at root)) same
            (subst (λ (r : Role). StepOf (at root tree r) (v.at root) m e (v'.at root)) role stepped)) r
          where
            step_here : (k : Node) → x.root ≡ m.step.process
                → StepOf (place_of tree m.step.process) (v.at m.step.process) m e k
                → v' ≡ record { at = put_at m.step.process k v.at; net = v.net ++ e.messages }
                → StepOf (place_of tree x.root) (v.at x.root) m e (v'.at x.root)
            step_here k there s world =
                subst (λ (y : ProcessId). StepOf (place_of tree y) (v.at y) m e (v'.at y)) (sym there)
                (subst (λ (n : Node). StepOf (place_of tree m.step.process) (v.at m.step.process) m e n)
                (sym (ap (λ (y : World). y.at m.step.process) world
                ∙ rw (same_process-refl m.step.process) refl)) s)

        elsewhere : same_process m.step.process x.root ≡ false → v'.at x.root ≡ v.at x.root
        elsewhere f =
            ap (λ (y : World). y.at root) (makes_at tree v m e v' made).world ∙ rw f refl

        by_moves : m.step.process ≡ x.root → (gs : List Made) → made_by x.root fs ≡ gs → Now fs v
            → restarts_by (record { move = m; effect = e }) gs (restarts_first gs) ≡ true
            → Shut (coordinator_place x.root None tree) (v'.at x.root) x
        by_moves here gs is (shut old) r = still_shut old
        by_moves here [] is (untouched same none) r = restarted_now here same r
        by_moves here (g ∷ gs) is (untouched same none) r = absurd (let y = sym none ∙ is in cc)

        next : (restarts_first (made_by x.root fs) ≡ true → Now fs v)
            → restarts_first (made_by x.root (record { move = m; effect = e } ∷ fs)) ≡ true
            → Now (record { move = m; effect = e } ∷ fs) v'
        unfolding made_by restarts_first
        next old r = elim (same_process_tells m.step.process x.root) [
          | inl f ↦ shut (by_moves f.1 (made_by root fs) refl
              (old (earlier (made_by root fs) (sym (taken f.0) ∙ r))) (sym (taken f.0) ∙ r))
          | inr f ↦ elsewhere_now f.0 (old (sym (ap restarts_first (left_out f.0)) ∙ r))
        ]
          where
            taken : same_process m.step.process x.root ≡ true
                → restarts_first (made_by x.root (last ∷ fs))
                ≡ restarts_by last (made_by x.root fs) (restarts_first (made_by x.root fs))
            taken f = rw f refl

            left_out : same_process m.step.process x.root ≡ false
                → made_by x.root (last ∷ fs) ≡ made_by x.root fs
            left_out f = rw f refl

            -- what is said of the first move, is said of the moves before
            earlier : (gs : List Made) → restarts_by last gs (restarts_first gs) ≡ true
                → restarts_first gs ≡ true
            earlier [] y = refl
            earlier (g ∷ gs) y = y

            elsewhere_now : same_process m.step.process x.root ≡ false → Now fs v → Now (last ∷ fs) v'
            elsewhere_now f (untouched same none) = untouched (elsewhere f ∙ same) (left_out f ∙ none)
            elsewhere_now f (shut s) = shut (still_shut s)

      now_so : (fs : List Made) (later : World) → Continues tree w fs later
          → restarts_first (made_by x.root fs) ≡ true → Now fs later
      unfolding made_by
      now_so _ _ stays r = untouched refl refl
      now_so _ _ (goes_on fs v m e v' before stands made) r =
          next fs v before m e v' made (now_so fs v before) r

      pub never_after_restart : (fs : List Made) (later : World) → Continues tree w fs later
          → restarts_first (made_by x.root fs) ≡ true → is_commit_outcome later x ≡ false
      unfolding is_commit_outcome
      never_after_restart fs later on r = by_now (now_so fs later on r)
        where
          by_now : Now fs later → has (is_commit (root_case x)) (later.at x.root).durable ≡ false
          by_now (untouched same none) = ap (λ (n : Node). has (is_commit (root_case x)) n.durable) same
              ∙ none_ever
          by_now (shut s) = s.dead.none_ever
