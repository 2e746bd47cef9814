-- Over every run a process that is not listed stays as it opened.
use Rattle.std.proofs.Common.{◌≡◌, ◌∙◌, inl, inr, Bool, true, false, Some, None, List, refl, sym, ap, if◌then◌else◌}
use Rattle.protocol.specs.declared.names.ProcessId.{ProcessId}
use Rattle.protocol.specs.declared.trees.TreeProcess.{TreeProcess}
use Rattle.protocol.specs.NameLaws.{same_process_tells}
use Rattle.protocol.specs.Nodes.{is_listed, place_of, Effect, opened_node}
use Rattle.protocol.specs.World.{World, Move, Made, IsRun, opens, makes, world_makes, world_stepped, node_makes}
use Rattle.protocol.proofs.RunLaws.{makes_at}

-- who makes a move is listed
pub makes_listed : (tree : List TreeProcess) (w : World) (m : Move) (e : Effect) (w' : World)
    → world_makes tree w m ≡ Some (e, w') → is_listed tree m.step.process ≡ true
unfolding world_makes
makes_listed tree w m e w' made = by_listed (is_listed tree m.step.process) refl made
  where
    by_listed : (b : Bool) → is_listed tree m.step.process ≡ b
        → (if b then world_stepped w m.step.process
        (node_makes (place_of tree m.step.process) (w.at m.step.process) m)
        else None) ≡ Some (e, w') → is_listed tree m.step.process ≡ true
    by_listed true f g = f
    by_listed false f g = absurd (cc)

pub unlisted_stay : (tree : List TreeProcess) (es : List Made) (w : World) → IsRun tree es w → (q : ProcessId)
    → is_listed tree q ≡ false → w.at q ≡ opened_node
unlisted_stay tree _ _ opens q none = refl
unlisted_stay tree _ _ (makes es w m e w' run stands step) q none =
    let at = makes_at tree w m e w' step in
    let listed = makes_listed tree w m e w' step in
    ap (λ (x : World). x.at q) at.world
    ∙ elim (same_process_tells m.step.process q) [
      | inl same ↦ absurd (let f = sym listed ∙ (ap (is_listed tree) same.1 ∙ none) in cc)
      | inr other ↦ rw other.0 (unlisted_stay tree es w run q none)
    ]
