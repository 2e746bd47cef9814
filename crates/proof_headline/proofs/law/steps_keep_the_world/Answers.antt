use Rattle.proof_headline.proofs.Headline
use Rattle.proof_headline.proofs.Steps.{step_holds, step_later}
use Rattle.proof_headline.proofs.law.steps_keep_the_world.Goals as goal

pub returns-clause-step : goal.returns-clause-step
returns-clause-step c = λ tree is_tree laws es w run h m e later stands made. (
  step_holds tree is_tree laws es w run h m e later stands made,
  step_later tree is_tree laws es w run h m
      e later stands made,
)

pub returns-clause-run : goal.returns-clause-run
returns-clause-run c = Headline.runs_hold
