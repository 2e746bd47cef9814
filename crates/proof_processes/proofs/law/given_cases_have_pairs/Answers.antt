use Rattle.proof_processes.proofs.PairOf.{given, pair_of, cascaded_commits}
use Rattle.proof_processes.proofs.law.given_cases_have_pairs.Goals as goal

pub returns-clause-pair : goal.returns-clause-pair
returns-clause-pair c = λ tree w h x t e.
    let g = given w.net x t e in let both = pair_of tree w h x t g in (g.of, (g.same, (both.0, both.1)))

pub returns-clause-commits : goal.returns-clause-commits
returns-clause-commits c = cascaded_commits
