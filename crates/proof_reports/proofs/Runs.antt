-- In every run what acknowledgements say that was found is true.
use Rattle.std.proofs.Common.{◌≡◌, ℕ, zero, suc, Bool, true, false, Some, None, List, [], ◌∷◌, ◌++◌, refl, sym, ap, subst, if◌then◌else◌, inl, inr}
use Rattle.protocol.specs.declared.names.Case.{Case}
use Rattle.protocol.specs.declared.names.Outcome.{Outcome}
use Rattle.protocol.specs.declared.names.ProcessId.{ProcessId}
use Rattle.protocol.specs.declared.messages.Envelope.{Envelope}
use Rattle.protocol.specs.declared.records.Record.{Record}
use Rattle.protocol.specs.declared.events.Happening.{Happening}
use Rattle.protocol.specs.declared.events.Input.{Input}
use Rattle.protocol_words.specs.Variants.{ActInput, MessageInput}
use Rattle.protocol.specs.declared.trees.TreeProcess.{TreeProcess}
use Rattle.protocol.specs.Names.{same_process}
use Rattle.protocol.specs.NameLaws.{same_process_tells}
use Rattle.protocol.specs.Records.{cases_in, has, is_decided}
use Rattle.protocol.specs.Nodes.{AtLeaf, AtRoot, Below, Effect, Node, Place, Role, kept, place_of, role_of}
use Rattle.protocol.specs.Restarts.{left_of, reopens, trim_fails}
use Rattle.protocol.specs.World.{InputStands, IsRun, Made, Move, MayHappen, World, makes, opens, put_at, world_makes}
use Rattle.protocol.proofs.RunLaws.{makes_at}
use Rattle.proof_pairs.specs.turns.Steps.{StepOf, heard_in, handled, failed_in, passed, failed_passing, reopened, failed_reopening, trims_log, failed_trimming}
use Rattle.proof_pairs.proofs.turns.CoordinatorReactions.{coordinator_turn_of}
use Rattle.proof_pairs.proofs.turns.Steps.{step_of, turn_of}
use Rattle.proof_processes.specs.WorldHolds.{AllGo, NodeHolds}
use Rattle.proof_processes.proofs.RootsHold.{nodes_hold}
use Rattle.proof_processes.proofs.Tests.{has-nil}
use Rattle.proof_headline.proofs.Grows.{durable_still}
use Rattle.proof_headline.proofs.runs.NetsHold.{nets_hold}
use Rattle.proof_reports.specs.Findings.{AllSayTrue}
use Rattle.proof_reports.proofs.Decisions.{DecisionsForced, decisions_forced, kept_is_old}
use Rattle.proof_reports.proofs.Later.{AllHeardTrue, InputTrue, all_say_still, heard_one, heard_still, say_both, says_at}
use Rattle.proof_reports.proofs.Leaves.{leaf_says, resumes_says}
use Rattle.proof_reports.proofs.Turns.{coordinator_resumes_says, turn_says}

-- what was said, and what was heard, is true; and managers' decisions are forced
pub record FindingsHold (tree : List TreeProcess) (w : World) : Type 0 where
  pub net : AllSayTrue w.at w.net
  pub heard : (q : ProcessId) → AllHeardTrue w.at (w.at q).heard
  pub forced : (q p : ProcessId) → role_of tree q ≡ AtLeaf p → DecisionsForced (w.at q)

last_go : (tree : List TreeProcess) (xs ys : List Envelope) → AllGo tree (xs ++ ys) → AllGo tree ys
last_go tree [] ys g = g
last_go tree (x ∷ xs) ys g = last_go tree xs ys g.1

module _ (tree : List TreeProcess) (at : ProcessId → Node) (net : List Envelope)
    (said : AllSayTrue at net) where
  pub input_so : (q : ProcessId) (i : Input) → InputStands net q i → InputTrue at i
  input_so q (ActInput a) s = tt
  input_so q (MessageInput k m) s = says_at at net s.place _ said s.stands

  module _ (q : ProcessId) (n : Node) (heard : AllHeardTrue at n.heard) (m : Move)
      (stands : MayHappen net q m.step.happening)
    where
      heard_then : (place : Place) (e : Effect) (k : Node) → StepOf place n m e k → AllHeardTrue at k.heard
      heard_then place _ _ (handled i g hp np r) =
          heard_one at n.heard (heard_in m i) heard
          (input_so q i (subst (λ (y : Happening). MayHappen net q y) hp stands))
      heard_then place _ _ (failed_in i f g fl hp np r) =
          heard_one at n.heard (heard_in m i) heard
          (input_so q i (subst (λ (y : Happening). MayHappen net q y) hp stands))
      heard_then place _ _ (passed i hp r) = heard
      heard_then place _ _ (failed_passing i f fl hp r) = heard
      heard_then place _ _ (reopened j hp) = tt
      heard_then place _ _ (failed_reopening j f fl hp) = tt
      heard_then place _ _ (trims_log hp up) = heard
      heard_then place _ _ (failed_trimming f fl hp up) = by_front f.appended
        where
          by_front : (j : ℕ) → AllHeardTrue at (trim_fails place n j).heard
          by_front zero = heard
          by_front (suc j) = heard

      -- what it sends, by its role
      sends_so : (r : Role) → (node : n.failed ≡ false → (d : Case) (o : Outcome)
          → has (is_decided d o) (kept n) ≡ true → (p : ProcessId) → r ≡ AtLeaf p
          → has (is_decided d o) (at q).durable ≡ true)
          → (e : Effect) (k : Node) → StepOf (record { me = q; role = r; tree = tree }) n m e k
          → AllGo tree e.messages → AllSayTrue at e.messages
      sends_so AtRoot node _ _ (handled i g hp np r) go =
          turn_says at q None tree n heard (heard_in m i)
          (input_so q i (subst (λ (y : Happening). MayHappen net q y) hp stands)) g
          (coordinator_turn_of (record { me = q; role = AtRoot; tree = tree }) n (heard_in m i) g r)
      sends_so (Below p) node _ _ (handled i g hp np r) go =
          turn_says at q (Some p) tree n heard (heard_in m i)
          (input_so q i (subst (λ (y : Happening). MayHappen net q y) hp stands)) g
          (coordinator_turn_of (record { me = q; role = Below p; tree = tree }) n (heard_in m i) g r)
      sends_so (AtLeaf p) node _ _ (handled i g hp np r) go =
          let place : Place = record { me = q; role = AtLeaf p; tree = tree } in
          let t = turn_of place n (heard_in m i) g r in
          leaf_says at tree place p n (λ d o e. node t.up d o e p refl) (heard_in m i) g t.turn go
      sends_so AtRoot node _ _ (reopened j hp) go =
          coordinator_resumes_says at q None (left_of n j ++ reopens AtRoot (left_of n j))
          (cases_in (left_of n j ++ reopens AtRoot (left_of n j)))
      sends_so (Below p) node _ _ (reopened j hp) go =
          coordinator_resumes_says at q (Some p) (left_of n j ++ reopens (Below p) (left_of n j))
          (cases_in (left_of n j ++ reopens (Below p) (left_of n j)))
      sends_so (AtLeaf p) node _ _ (reopened j hp) go =
          resumes_says at q p (left_of n j ++ reopens (AtLeaf p) (left_of n j))
          (cases_in (left_of n j ++ reopens (AtLeaf p) (left_of n j)))
      sends_so r node _ _ (failed_in i f g fl hp np z) go = tt
      sends_so r node _ _ (passed i hp z) go = tt
      sends_so r node _ _ (failed_passing i f fl hp z) go = tt
      sends_so r node _ _ (failed_reopening j f fl hp) go = tt
      sends_so r node _ _ (trims_log hp up) go = tt
      sends_so r node _ _ (failed_trimming f fl hp up) go = tt

module _ (tree : List TreeProcess) (es : List Made) (w : World) (run : IsRun tree es w)
    (h : FindingsHold tree w)
    (m : Move) (e : Effect) (w' : World) (stands : MayHappen w.net m.step.process m.step.happening)
    (made : world_makes tree w m ≡ Some (e, w'))
  where
    abbrev q : ProcessId
    q = m.step.process

    pub step : StepOf (place_of tree q) (w.at q) m e (makes_at tree w m e w' made).node
    step = step_of (place_of tree q) (w.at q) m e (makes_at tree w m e w' made).node
        (makes_at tree w m e w' made).made

    -- what holds of the process after the step, and of each other before it, holds of all
    pub by_process : (P : ProcessId → Node → Type 0) → P q (makes_at tree w m e w' made).node
        → ((r : ProcessId) → P r (w.at r)) → (r : ProcessId)
        → P r (put_at q (makes_at tree w m e w' made).node w.at r)
    by_process P here old r = by_test (same_process q r) refl
      where
        by_test : (b : Bool) → same_process q r ≡ b
            → P r (if b then (makes_at tree w m e w' made).node else w.at r)
        by_test true f = elim (same_process_tells q r) [
          | inl t ↦ subst (λ (x : ProcessId). P x (makes_at tree w m e w' made).node) t.1 here
          | inr g ↦ absurd (let z = g.0 in cc)
        ]
        by_test false f = old r

    pub grows : (r : ProcessId) (t : Record → Bool) → has t (w.at r).durable ≡ true
        → has t (put_at q (makes_at tree w m e w' made).node w.at r).durable ≡ true
    grows = by_process
        (λ r n. (t : Record → Bool) → has t (w.at r).durable ≡ true → has t n.durable ≡ true)
        (λ t f. durable_still (place_of tree q) m t (w.at q) e (makes_at tree w m e w' made).node step f)
        (λ r t f. f)

    goes : AllGo tree e.messages
    goes =
        last_go tree w.net e.messages
        (subst (λ ls. AllGo tree ls) (ap (λ (x : World). x.net) (makes_at tree w m e w' made).world)
        (nets_hold tree (record { move = m; effect = e } ∷ es) w' (makes es w m e w' run stands made)).go)

    node : NodeHolds (place_of tree q) w.net (w.at q)
    node = nodes_hold tree es w run q

    says : AllSayTrue w.at e.messages
    says =
        sends_so tree w.at w.net h.net q (w.at q) (h.heard q) m stands (role_of tree q)
        (λ up d o f p leaf. kept_is_old (w.at q) (h.forced q p leaf up) node.lasts.nested d o f) e
        (makes_at tree w m e w' made).node step goes

    keeps : FindingsHold tree (record {
      at = put_at q (makes_at tree w m e w' made).node w.at;
      net = w.net ++ e.messages;
    })
    keeps = record {
      net = all_say_still w.at (put_at q (makes_at tree w m e w' made).node w.at) grows (w.net ++ e.messages)
          (say_both w.at w.net e.messages h.net says);
      heard = λ r. heard_still w.at (put_at q (makes_at tree w m e w' made).node w.at) grows
          (put_at q (makes_at tree w m e w' made).node w.at r).heard
          (by_process (λ r n. AllHeardTrue w.at n.heard)
          (heard_then tree w.at w.net h.net q (w.at q) (h.heard q) m stands (place_of tree q) e
          (makes_at tree w m e w' made).node step) h.heard r);
      forced = λ r p. by_process (λ r n. role_of tree r ≡ AtLeaf p → DecisionsForced n)
          (λ leaf. decisions_forced q p (place_of tree q) leaf m (w.at q) e (makes_at tree w m e w' made).node
          step (h.forced q p leaf))
          (λ r leaf. h.forced r p leaf) r;
    }

pub findings_hold : (tree : List TreeProcess) (es : List Made) (w : World) → IsRun tree es w
    → FindingsHold tree w
findings_hold tree _ _ opens =
    record { net = tt; heard = λ q. tt; forced = λ q p leaf up d o. has-nil (is_decided d o) }
findings_hold tree _ _ (makes es w m e w' run stands made) =
    subst (λ (x : World). FindingsHold tree x) (sym (makes_at tree w m e w' made).world)
    (keeps tree es w run (findings_hold tree es w run) m e w' stands made)
