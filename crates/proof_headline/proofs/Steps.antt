-- The steps of a run keep the world's invariant, from the laws of the processes.
use Rattle.std.proofs.Common.{◌≡◌, ◌∙◌, inl, inr, Bool, true, Some, List, ◌∷◌, ◌++◌, refl, sym, ap, subst}
use Rattle.protocol.specs.declared.names.Case.{Case}
use Rattle.protocol.specs.declared.names.ProcessId.{ProcessId}
use Rattle.protocol.specs.declared.names.Ticket.{Ticket}
use Rattle.protocol.specs.declared.names.Txn.{Txn}
use Rattle.protocol.specs.declared.messages.Envelope.{Envelope}
use Rattle.protocol.specs.declared.messages.Message.{Message}
use Rattle.protocol.specs.declared.trees.TreeProcess.{TreeProcess}
use Rattle.protocol.specs.Names.{root_case}
use Rattle.protocol.specs.NameLaws.{same_process_tells}
use Rattle.protocol.specs.Records.{has, is_commit}
use Rattle.protocol.specs.Nodes.{Effect, Node, place_of}
use Rattle.protocol.specs.Outcomes.{has_accepted, is_commit_outcome, sent}
use Rattle.protocol.specs.Trees.{IsTree}
use Rattle.protocol.specs.World.{Continues, IsRun, Made, Move, MayHappen, World, goes_on, makes, opened_world, opens, put_at, stays, world_makes}
use Rattle.protocol.proofs.RunLaws.{makes_at}
use Rattle.proof_pairs.proofs.readings.ReadingSteps.{same_process-refl}
use Rattle.proof_pairs.specs.turns.Steps.{StepOf}
use Rattle.proof_pairs.proofs.turns.Steps.{step_of}
use Rattle.proof_pairs.proofs.Later.{later-later, later-now}
use Rattle.proof_processes.specs.WorldHolds.{AllLater, IsFree, JoinedOnce, WorldHolds, pair_reading}
use Rattle.proof_processes.proofs.JoinedOnce.{tickets_have_one_case}
use Rattle.proof_processes.proofs.Unlisted.{unlisted_stay}
use Rattle.proof_headline.specs.ProcessLaws.{ProcessLaws}
use Rattle.proof_headline.proofs.Grows.{accepted_still, durable_still, free_before, sent_still}
use Rattle.proof_headline.proofs.OutcomeSteps.{pair_follows, world_holds}
use Rattle.proof_headline.proofs.PartSteps.{OneStep}

module _ (tree : List TreeProcess) (is_tree : IsTree tree) (laws : ProcessLaws tree) where
  -- One step.
  module _ (es : List Made) (w : World) (run : IsRun tree es w) (h : WorldHolds tree w) (m : Move) (e :
      Effect) (w' : World)
      (stands : MayHappen w.net m.step.process m.step.happening) (made : world_makes tree w m ≡ Some (e, w'))
    where
      abbrev q : ProcessId
      q = m.step.process

      node : Node
      node = (makes_at tree w m e w' made).node

      left_as : w' ≡ record {
        at = put_at m.step.process (makes_at tree w m e w' made).node w.at;
        net = w.net
            ++ e.messages;
      }
      left_as = (makes_at tree w m e w' made).world

      net_then : w'.net ≡ w.net ++ e.messages
      net_then = ap (λ (x : World). x.net) left_as

      others : (p : ProcessId) → (p ≡ m.step.process → ⊥) → w'.at p ≡ w.at p
      others p other = ap (λ (x : World). x.at p) left_as ∙ elim (same_process_tells m.step.process p) [
        | inl same ↦ absurd (other (sym same.1))
        | inr apart ↦ rw apart.0 refl
      ]

      step : StepOf (place_of tree m.step.process) (w.at m.step.process) m e (w'.at m.step.process)
      step =
          let at = makes_at tree w m e w' made in
          let here : w'.at q ≡ at.node = ap (λ (x : World). x.at q) at.world
          ∙ rw (same_process-refl q) refl in
          subst (λ (n : Node). StepOf (place_of tree q) (w.at q) m e n) (sym here)
          (step_of (place_of tree q) (w.at q) m e at.node at.made)

      by_process : (P : Node → Node → Type 0) → ((n : Node) → P n n)
          → P (w.at m.step.process) (w'.at m.step.process)
          → (p : ProcessId) → P (w.at p) (w'.at p)
      by_process P same here p = elim (same_process_tells p m.step.process) [
        | inl f ↦ subst (λ (x : ProcessId). P (w.at x) (w'.at x)) (sym f.1) here
        | inr f ↦ subst (λ (n : Node). P (w.at p) n) (sym (others p f.1)) (same (w.at p))
      ]

      accepts_still : (p : ProcessId) (c : Case) (t : Ticket) → has_accepted (w.at p) c t ≡ true
          → has_accepted (w'.at p) c t ≡ true
      accepts_still p c t = by_process (λ n k. has_accepted n c t ≡ true → has_accepted k c t ≡ true)
          (λ n f. f)
          (accepted_still (place_of tree q) m c t (w.at q) e (w'.at q) step) p

      commits_still : (x : Txn) → is_commit_outcome w x ≡ true → is_commit_outcome w' x ≡ true
      unfolding is_commit_outcome
      commits_still x = by_process (λ n k. has (is_commit (root_case x)) n.durable ≡ true
          → has (is_commit (root_case x)) k.durable ≡ true) (λ n f. f)
          (durable_still (place_of tree q) m (is_commit (root_case x)) (w.at q) e (w'.at q) step) x.root

      run_then : IsRun tree (record { move = m; effect = e } ∷ es) w'
      run_then = makes es w m e w' run stands made

      same_world : record { at = w'.at; net = w.net ++ e.messages } ≡ w'
      same_world = ap (λ (n : List Envelope). record { at = w'.at; net = n }) (sym net_then)

      one_step : OneStep tree w m.step.process w'.at e.messages
      one_step = record {
        others = others;
        keeps = laws es w run h m e w' stands made;
        unlisted = unlisted_stay tree (record { move = m; effect = e } ∷ es) w' run_then;
        joined_once = subst JoinedOnce net_then
            (tickets_have_one_case tree (record { move = m; effect = e } ∷ es) w' run_then);
        accepts_still = accepts_still;
        commits_still = λ x f. ap (λ (v : World). is_commit_outcome v x) same_world ∙ commits_still x f;
      }

      pub step_holds : WorldHolds tree w'
      step_holds = subst (WorldHolds tree) same_world
          (world_holds tree is_tree w h q w'.at e.messages one_step)

      pub step_later : AllLater tree w w'
      step_later = subst (AllLater tree w) same_world
          (λ c t pair free. (pair_follows tree is_tree w h q w'.at e.messages one_step c t pair free).later)

      pub step_net : (test : Message → Bool) → sent test w.net ≡ true → sent test w'.net ≡ true
      step_net test f = ap (sent test) net_then ∙ sent_still test w.net e.messages f

      pub step_free : (c : Case) (t : Ticket) → IsFree w'.net c t → IsFree w.net c t
      step_free c t free =
          free_before w.net e.messages c t (subst (λ (n : List Envelope). IsFree n c t) net_then free)

  -- Later worlds.
  pub record LaterHolds (w w' : World) : Type 0 where
    pub holds : WorldHolds tree w'
    pub later : AllLater tree w w'
    pub net : (test : Message → Bool) → sent test w.net ≡ true → sent test w'.net ≡ true
    pub moves : List Made
    pub run : IsRun tree moves w'

  later_step : (start w : World) → LaterHolds start w → (m : Move) (e : Effect) (w' : World)
      → MayHappen w.net m.step.process m.step.happening → world_makes tree w m ≡ Some (e, w')
      → LaterHolds start w'
  later_step start w f m e w' stands made = record {
    holds = step_holds f.moves w f.run f.holds m e w' stands made;
    later = λ c t pair free. later-later (pair_reading tree start c t) (pair_reading tree w c t)
        (pair_reading tree w' c t)
        (f.later c t pair (step_free f.moves w f.run f.holds m e w' stands made c t free))
        (step_later f.moves w f.run f.holds m e w' stands made c t pair free);
    net = λ test g. step_net f.moves w f.run f.holds m e w' stands made test (f.net test g);
    moves = record { move = m; effect = e } ∷ f.moves;
    run = makes f.moves w m e w' f.run stands made;
  }

  pub onward_holds : (es : List Made) (w : World) → IsRun tree es w → WorldHolds tree w
      → (fs : List Made) (w' : World)
      → Continues tree w fs w' → LaterHolds w w'
  onward_holds es w run h _ _ stays = record {
    holds = h;
    later = λ c t pair free. later-now (pair_reading tree w c t);
    net = λ test f. f;
    moves = es;
    run = run;
  }
  onward_holds es w run h _ _ (goes_on fs v m e v' before stands made) =
      later_step w v (onward_holds es w run h fs v before) m e v' stands made

  pub run_holds : WorldHolds tree opened_world → (es : List Made) (w : World) → IsRun tree es w
      → WorldHolds tree w
  run_holds start _ _ opens = start
  run_holds start _ _ (makes es w m e w' run stands made) =
      step_holds es w run (run_holds start es w run) m e w' stands made
