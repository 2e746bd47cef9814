-- What holds of a process and its moves, from move to move over a run.
use Rattle.std.proofs.Common.{◌≡◌, inl, inr, List, [], ◌∷◌, sym, subst}
use Rattle.protocol.specs.declared.names.ProcessId.{ProcessId}
use Rattle.protocol.specs.declared.trees.TreeProcess.{TreeProcess}
use Rattle.protocol.specs.NameLaws.{same_process_tells}
use Rattle.protocol.specs.Nodes.{Effect, Node, opened_node, place_of}
use Rattle.protocol.specs.World.{IsRun, Made, Move, World, made_by, makes, node_by, opens}
use Rattle.protocol.proofs.RunLaws.{makes_at, node_by_run}
use Rattle.proof_pairs.specs.turns.Steps.{StepOf}
use Rattle.proof_pairs.proofs.turns.Steps.{step_of}

module _ (tree : List TreeProcess) (P : ProcessId → Node → List Made → Type 0)
    (first : (p : ProcessId) → P p opened_node [])
    (goes_on : (es : List Made) (w : World) → IsRun tree es w
    → (p : ProcessId) (m : Move) (e : Effect) (k : Node)
    → w.at p ≡ node_by (place_of tree p) (made_by p es) → StepOf (place_of tree p) (w.at p) m e k
    → P p (w.at p) (made_by p es) → P p k (record { move = m; effect = e } ∷ made_by p es))
  where
    pub over_run : (es : List Made) (w : World) → IsRun tree es w → (p : ProcessId)
        → P p (w.at p) (made_by p es)
    unfolding made_by
    over_run _ _ opens p = first p
    over_run _ _ (makes es w m e w' run stands step) p =
        let now = makes_at tree w m e w' step in
        let q = m.step.process in
        let made : Made = record { move = m; effect = e } in
        subst (λ (x : World). P p (x.at p) (made_by p (made ∷ es))) (sym now.world)
        (elim (same_process_tells q p) [
          | inl t ↦
              let Q : ProcessId → Type 0 = λ x. P x now.node (made ∷ made_by x es) in
              rw t.0 (subst Q t.1 (goes_on es w run q m e now.node (node_by_run tree es w run q)
              (step_of (place_of tree q) (w.at q) m e now.node now.made) (over_run es w run q)))
          | inr f ↦ rw f.0 (over_run es w run p)
        ])
