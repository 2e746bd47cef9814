use Rattle.std.proofs.Common.{◌≡◌, List, rules, subst}
use Rattle.std.specs.Prelude.{IfErr}
use Rattle.judge_state.specs.Sights.{Sight}
use Rattle.judge_rules.specs.declared.errors.JudgeError.TheVariants.{TooMany}
use Rattle.judge_rules.specs.Falls.{after_cut}
use Rattle.judge_rules.specs.Sets.{AreTooManyStates}
use Rattle.judge_rules.specs.Steps.{disconnect_next}
use Rattle.judge_rules.proofs.step.disconnect_next.Goals as goal

pub returns-then-is_answered-clause-too_many : goal.returns-then-is_answered-clause-too_many
returns-then-is_answered-clause-too_many c =
    let is : after_cut c.args.thread c.args.state.now
    ≡ disconnect_next c.args.thread c.args.state.now c.args.answer.now =
    search rules in
    subst (λ (us : List Sight). IfErr c.after_cut.result (λ e. e ≡ TooMany → AreTooManyStates us)) is
    c.after_cut.ensures.too_many
