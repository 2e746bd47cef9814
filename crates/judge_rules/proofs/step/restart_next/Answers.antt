use Rattle.std.proofs.Common.{◌≡◌, List, rules, subst}
use Rattle.std.specs.Prelude.{IfErr}
use Rattle.judge_state.specs.Sights.{Sight}
use Rattle.judge_rules.specs.declared.errors.JudgeError.TheVariants.{TooMany}
use Rattle.judge_rules.specs.Falls.{after_restart}
use Rattle.judge_rules.specs.Sets.{AreTooManyStates}
use Rattle.judge_rules.specs.Steps.{restart_next}
use Rattle.judge_rules.proofs.step.restart_next.Goals as goal

pub returns-then-is_answered-clause-too_many : goal.returns-then-is_answered-clause-too_many
returns-then-is_answered-clause-too_many c =
    let is : after_restart c.args.rules c.args.cut c.args.state.now
    ≡ restart_next c.args.rules c.args.cut c.args.state.now c.args.answer.now = search rules in
    subst (λ (us : List Sight). IfErr c.after_restart.result (λ e. e ≡ TooMany → AreTooManyStates us)) is
    c.after_restart.ensures.too_many
