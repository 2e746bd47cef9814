use Rattle.std.proofs.Common.{◌∙◌, sym}
use Rattle.proof_runs.proofs.worlds.Kept.{all_opened, keeps_own}
use Rattle.proof_runs.proofs.worlds.RunRestarts.{trim_faults_move}
use Rattle.proof_runs.proofs.worlds.runs.trim_faults_move_runs.Goals as goal

pub returns : goal.returns
returns c = λ tree es w is_tree run q listed old new at stands runs sound broken. trim_faults_move
    tree w q old new at stands listed (keeps_own tree es w is_tree run q listed) (sym stands.failed ∙ runs)
    (all_opened tree es w run q) sound broken
