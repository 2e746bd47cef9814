-- The boots of a process's log rise, over every run.
use Rattle.std.proofs.Common.{List, refl, sym, subst, arith}
use Rattle.protocol.specs.declared.names.ProcessId.{ProcessId}
use Rattle.protocol.specs.declared.trees.TreeProcess.{TreeProcess}
use Rattle.protocol.specs.Nodes.{place_of, Node, opened_node}
use Rattle.protocol.specs.World.{World, Made, IsRun, opens, makes}
use Rattle.protocol.proofs.RunLaws.{makes_at}
use Rattle.proof_pairs.proofs.turns.Steps.{step_of}
use Rattle.proof_processes.specs.Lasts.{logs_of}
use Rattle.proof_processes.specs.WorldHolds.{Boots}
use Rattle.proof_processes.proofs.Boots.{Booted, still_booted, forced_below}
use Rattle.proof_processes.proofs.Worlds.{put}

opened_booted : Booted (logs_of opened_node)
opened_booted = record { rises = (omega arith, tt); boot_is_forced = λ up. refl }

pub all_booted : (tree : List TreeProcess) (es : List Made) (w : World) → IsRun tree es w → (p : ProcessId)
    → Booted (logs_of (w.at p))
all_booted tree _ _ opens p = opened_booted
all_booted tree _ _ (makes es w m e w' run stands step) p =
    let at = makes_at tree w m e w' step in
    let q = m.step.process in
    let s = step_of (place_of tree q) (w.at q) m e at.node at.made in
    subst (λ (x : World). Booted (logs_of (x.at p))) (sym at.world)
    (put (λ x k. Booted (logs_of k)) q p at.node w.at
    (still_booted (place_of tree q) (w.at q) (all_booted tree es w run q) m e at.node s)
    (all_booted tree es w run p))

pub boots_of : (n : Node) → Booted (logs_of n) → Boots n
boots_of n h = record { boot_is_forced = h.boot_is_forced; boot_only_rises = forced_below (logs_of n) h }

pub boots_hold : (tree : List TreeProcess) (es : List Made) (w : World) → IsRun tree es w → (p : ProcessId)
    → Boots (w.at p)
boots_hold tree es w run p = boots_of (w.at p) (all_booted tree es w run p)
