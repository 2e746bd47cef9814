-- The headline, from the laws of the processes.
use Rattle.std.proofs.Common.{List}
use Rattle.protocol.specs.declared.trees.TreeProcess.{TreeProcess}
use Rattle.protocol.specs.Outcomes.{Headline}
use Rattle.protocol.specs.Trees.{IsTree}
use Rattle.protocol.specs.World.{IsRun, Made, World}
use Rattle.proof_pairs.proofs.turns.Operators.{by_operator_alone}
use Rattle.proof_processes.specs.WorldHolds.{WorldHolds}
use Rattle.proof_processes.proofs.Worlds.{mismatches_stand}
use Rattle.proof_headline.specs.ProcessLaws.{ProcessLaws}
use Rattle.proof_headline.proofs.Clauses.{agreement, commit_rule}
use Rattle.proof_headline.proofs.Doubts.{true_answers}
use Rattle.proof_headline.proofs.Opened.{opened_world_holds}
use Rattle.proof_headline.proofs.Steps.{run_holds}

pub runs_hold : (tree : List TreeProcess) → IsTree tree → ProcessLaws tree → (es : List Made) (w : World)
    → IsRun tree es w → WorldHolds tree w
runs_hold tree is_tree laws = run_holds tree is_tree laws (opened_world_holds tree)

pub headline : (tree : List TreeProcess) → IsTree tree → ProcessLaws tree → (es : List Made) (w : World)
    → IsRun tree es w → Headline tree es w
headline tree is_tree laws es w run =
    let h = runs_hold tree is_tree laws es w run in
    record {
      agreement = agreement tree is_tree w h;
      commit_rule = commit_rule tree es w is_tree run h;
      true_answers = true_answers tree is_tree laws es w run h;
      standing_mismatches = mismatches_stand tree es w run;
      by_operator_alone = by_operator_alone tree es w run;
    }
