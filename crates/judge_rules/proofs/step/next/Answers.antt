use Rattle.std.proofs.Common.{◌≡◌, List, rules, subst}
use Rattle.std.specs.Prelude.{IfErr}
use Rattle.judge_state.specs.Sights.{Sight}
use Rattle.judge_rules.specs.declared.errors.JudgeError.TheVariants.{TooMany}
use Rattle.judge_rules.specs.Sets.{AreTooManyStates}
use Rattle.judge_rules.specs.Steps.{disconnect_next, next, restart_next}
use Rattle.judge_rules.proofs.step.next.Goals as goal

pub returns-in_ok-states-in-Function-clause-too_many : goal.returns-in_ok-states-in-Function-clause-too_many
returns-in_ok-states-in-Function-clause-too_many c =
    let is : c.in_ok-states-in-Function.states.items
    ≡ next c.args.rules c.args.state.now c.args.call c.args.answer.now = search rules in
    subst (λ (us : List Sight). IfErr c.each_once.result (λ e. e ≡ TooMany → AreTooManyStates us)) is
    c.each_once.ensures.too_many

pub returns-in_ok-states-in-Get-clause-too_many : goal.returns-in_ok-states-in-Get-clause-too_many
returns-in_ok-states-in-Get-clause-too_many c =
    let is : c.in_ok-states-in-Get.states.items
    ≡ next c.args.rules c.args.state.now c.args.call c.args.answer.now = search rules in
    subst (λ (us : List Sight). IfErr c.each_once-in-Get.result (λ e. e ≡ TooMany → AreTooManyStates us)) is
    c.each_once-in-Get.ensures.too_many

pub returns-in_ok-states-in-Put-clause-too_many : goal.returns-in_ok-states-in-Put-clause-too_many
returns-in_ok-states-in-Put-clause-too_many c =
    let is : c.in_ok-states-in-Put.states.items
    ≡ next c.args.rules c.args.state.now c.args.call c.args.answer.now = search rules in
    subst (λ (us : List Sight). IfErr c.each_once-in-Put.result (λ e. e ≡ TooMany → AreTooManyStates us)) is
    c.each_once-in-Put.ensures.too_many

pub returns-in_ok-states-in-Decide-clause-too_many : goal.returns-in_ok-states-in-Decide-clause-too_many
returns-in_ok-states-in-Decide-clause-too_many c =
    let is : c.in_ok-states-in-Decide.states.items
    ≡ next c.args.rules c.args.state.now c.args.call c.args.answer.now = search rules in
    subst (λ (us : List Sight). IfErr c.each_once-in-Decide.result (λ e. e ≡ TooMany → AreTooManyStates us))
    is
    c.each_once-in-Decide.ensures.too_many

pub returns-in_ok-trim_next-in-Trim-clause-too_many : goal.returns-in_ok-trim_next-in-Trim-clause-too_many
returns-in_ok-trim_next-in-Trim-clause-too_many c =
    let is : c.in_ok-trim_next-in-Trim.field-0.items
    ≡ next c.args.rules c.args.state.now c.args.call c.args.answer.now = search rules in
    subst (λ (us : List Sight). IfErr c.each_once-in-Trim.result (λ e. e ≡ TooMany → AreTooManyStates us)) is
    c.each_once-in-Trim.ensures.too_many

pub returns-in-Restart-clause-too_many : goal.returns-in-Restart-clause-too_many
returns-in-Restart-clause-too_many c =
    let is : restart_next c.args.rules c.in-Restart.cut c.args.state.now c.args.answer.now
    ≡ next c.args.rules c.args.state.now c.args.call c.args.answer.now = search rules in
    subst (λ (us : List Sight). IfErr c.restart_next.result (λ e. e ≡ TooMany → AreTooManyStates us)) is
    c.restart_next.ensures.too_many

pub returns-in-Disconnect-clause-too_many : goal.returns-in-Disconnect-clause-too_many
returns-in-Disconnect-clause-too_many c =
    let is : disconnect_next c.in-Disconnect.thread c.args.state.now c.args.answer.now
    ≡ next c.args.rules c.args.state.now c.args.call c.args.answer.now = search rules in
    subst (λ (us : List Sight). IfErr c.disconnect_next.result (λ e. e ≡ TooMany → AreTooManyStates us)) is
    c.disconnect_next.ensures.too_many
