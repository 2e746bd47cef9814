use Rattle.std.proofs.Common.{◌∙◌, sym}
use Rattle.proof_runs.proofs.worlds.Kept.{all_opened, keeps_own, open_fits}
use Rattle.proof_runs.proofs.worlds.RunRestarts.{trims_move}
use Rattle.proof_runs.proofs.worlds.runs.trims_move_runs.Goals as goal

pub returns : goal.returns
returns c = λ tree es w is_tree run q listed old new remain at stands runs sound made. trims_move
    tree w q old new at stands listed (keeps_own tree es w is_tree run q listed) (sym stands.failed ∙ runs)
    (all_opened tree es w run q) sound (open_fits tree es w run q (sym stands.failed ∙ runs)) remain made
