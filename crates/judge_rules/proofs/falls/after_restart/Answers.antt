use Rattle.std.proofs.Common.{◌≡◌, List, [], ◌∷◌, rules, subst}
use Rattle.std.specs.Prelude.{IfErr, IfOk, fold}
use Rattle.judge_state.specs.Moves.{restarted}
use Rattle.judge_state.specs.Sights.{Sight}
use Rattle.judge_rules.specs.declared.errors.JudgeError.TheVariants.{TooMany}
use Rattle.judge_rules.specs.Falls.{after_restart, maybe_back}
use Rattle.judge_rules.specs.Sets.{AreTooManyStates, IsSetOf}
use Rattle.judge_rules.proofs.Members.{set_of_one}
use Rattle.judge_rules.proofs.falls.after_restart.Goals as goal

pub returns-in_ok-states-clause-states : goal.returns-in_ok-states-clause-states
returns-in_ok-states-clause-states c =
    let is : fold (maybe_back c.lost_works.result.now) c.in_ok-states.states.items c.deref.result.now
    ≡ after_restart c.args.rules c.args.cut c.args.state.now = search rules in
    subst (λ (us : List Sight). IfOk c.all_maybe_back.result (λ v. IsSetOf us v.items)) is
    c.all_maybe_back.ensures.states

pub returns-in_ok-states-clause-too_many : goal.returns-in_ok-states-clause-too_many
returns-in_ok-states-clause-too_many c =
    let is : fold (maybe_back c.lost_works.result.now) c.in_ok-states.states.items c.deref.result.now
    ≡ after_restart c.args.rules c.args.cut c.args.state.now = search rules in
    subst (λ (us : List Sight). IfErr c.all_maybe_back.result (λ e. e ≡ TooMany → AreTooManyStates us)) is
    c.all_maybe_back.ensures.too_many

pub returns-in_ok-one-clause-states : goal.returns-in_ok-one-clause-states
returns-in_ok-one-clause-states c =
    let s = restarted c.args.state.now in
    let is : after_restart c.args.rules c.args.cut c.args.state.now ≡ s ∷ [] = search rules in
    let made : c.in_ok-one.field-0.items ≡ s ∷ [] = search rules in
    rw is (rw made (set_of_one s))
