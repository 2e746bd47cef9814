use Rattle.std.proofs.Common.{◌≡◌, List, rules, subst}
use Rattle.std.specs.Prelude.{IfErr, fold}
use Rattle.judge_state.specs.Sights.{Sight}
use Rattle.judge_rules.specs.declared.errors.JudgeError.TheVariants.{TooMany}
use Rattle.judge_rules.specs.Falls.{after_cut, maybe_gone}
use Rattle.judge_rules.specs.Sets.{AreTooManyStates}
use Rattle.judge_rules.proofs.falls.after_cut.Goals as goal

pub returns-clause-too_many : goal.returns-clause-too_many
returns-clause-too_many c =
    let is : fold maybe_gone c.in_ok-states.states.items c.deref.result.now
    ≡ after_cut c.args.thread c.args.state.now =
    search rules in
    subst (λ (us : List Sight). IfErr c.all_maybe_gone.result (λ e. e ≡ TooMany → AreTooManyStates us)) is
    c.all_maybe_gone.ensures.too_many
