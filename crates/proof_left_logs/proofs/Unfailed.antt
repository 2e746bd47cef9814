-- In a run in whose moves no device failed no process is failed.
use Rattle.std.proofs.Common.{◌≡◌, ◌∙◌, Bool, true, false, if◌then◌else◌, None, Some, List, [], ◌∷◌, ◌++◌, refl, sym, subst}
use Rattle.std.specs.Prelude.{reverse}
use Rattle.protocol.specs.declared.events.Fault.{Fault}
use Rattle.protocol.specs.declared.records.Record.{Record}
use Rattle.protocol.specs.declared.names.ProcessId.{ProcessId}
use Rattle.protocol.specs.declared.trees.TreeProcess.{TreeProcess}
use Rattle.protocol.specs.Nodes.{Effect, Node, Place, entries_written, is_any_forced, kept, place_of}
use Rattle.protocol.specs.World.{IsRun, Made, Move, World, makes, opens}
use Rattle.protocol.proofs.RunLaws.{makes_at}
use Rattle.proof_pairs.specs.turns.Steps.{StepOf, failed_in, failed_passing, failed_reopening, failed_trimming, handled, passed, reopened, trims_log}
use Rattle.proof_pairs.proofs.turns.Steps.{step_of}
use Rattle.proof_processes.proofs.Worlds.{put}

-- in none of these moves a device failed
unfoldable pub NoneFailed : List Made → Type 0
NoneFailed [] = Unit {0}
NoneFailed (e ∷ es) = (e.move.step.fault ≡ None) × NoneFailed es

no_fault : {A : Type 0} (m : Move) (f : Fault) → m.step.fault ≡ None → m.step.fault ≡ Some f → A
no_fault m f none some = absurd (let both = sym none ∙ some in cc)

up_behind : (n : Node) (new : List Record) (b : Bool) → n.failed ≡ false
    → (if b then record n {
      forced = kept n ++ new;
      unforced = [];
      life = reverse new ++ n.life;
      durable = new ++ (kept n ++ n.durable);
    } else record n { unforced = n.unforced ++ new; life = reverse new ++ n.life }).failed ≡ false
up_behind n new true up = up
up_behind n new false up = up

stays_up : (place : Place) (n : Node) (m : Move) (e : Effect) (k : Node)
    → n.failed ≡ false → m.step.fault ≡ None
    → StepOf place n m e k → k.failed ≡ false
stays_up place n m _ _ up none (handled i g happens heard does) =
    up_behind n (entries_written g.written) (is_any_forced g.written) up
stays_up place n m _ _ up none (failed_in i f g fault happens heard does) = no_fault m f none fault
stays_up place n m _ _ up none (passed i happens heard) = up
stays_up place n m _ _ up none (failed_passing i f fault happens heard) = no_fault m f none fault
stays_up place n m _ _ up none (reopened k happens) = refl
stays_up place n m _ _ up none (failed_reopening k f fault happens) = no_fault m f none fault
stays_up place n m _ _ up none (trims_log happens was) = was
stays_up place n m _ _ up none (failed_trimming f fault happens was) = no_fault m f none fault

pub all_up : (tree : List TreeProcess) (es : List Made) (w : World) → IsRun tree es w
    → NoneFailed es → (q : ProcessId)
    → (w.at q).failed ≡ false
unfolding NoneFailed
all_up tree _ _ opens none q = refl
all_up tree _ _ (makes es w m e w' run stands step) none q =
    let now = makes_at tree w m e w' step in
    let x = m.step.process in
    subst (λ (z : World). (z.at q).failed ≡ false) (sym now.world)
    (put (λ (y : ProcessId) (k : Node). k.failed ≡ false) x q now.node w.at
    (stays_up (place_of tree x) (w.at x) m e now.node (all_up tree es w run none.1 x) none.0
    (step_of (place_of tree x) (w.at x) m e now.node now.made))
    (all_up tree es w run none.1 q))
