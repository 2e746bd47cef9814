use Rattle.proof_lives.proofs.Lives.{lives_so, steps_so}
use Rattle.proof_lives.proofs.law.lives_are_runs.Goals as goal

pub returns-clause-step : goal.returns-clause-step
returns-clause-step c = steps_so

pub returns-clause-lives : goal.returns-clause-lives
returns-clause-lives c = lives_so
