use Rattle.proof_runs.proofs.worlds.Kept.{all_opened, keeps_own, open_fits}
use Rattle.proof_runs.proofs.worlds.runs.runs_keep_their_records.Goals as goal

pub returns-clause-own : goal.returns-clause-own
returns-clause-own c = λ tree es w is_tree run q listed. keeps_own tree es w is_tree run q listed

pub returns-clause-opened : goal.returns-clause-opened
returns-clause-opened c = λ tree es w run q. all_opened tree es w run q

pub returns-clause-open : goal.returns-clause-open
returns-clause-open c = λ tree es w run q up. open_fits tree es w run q up
