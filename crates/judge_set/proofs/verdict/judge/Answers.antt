use Rattle.std.proofs.Common.{◌≡◌, List, subst}
use Rattle.std.specs.Prelude.{IfErr, IfOk}
use Rattle.judge_state.specs.Sights.{Sight}
use Rattle.judge_rules.specs.declared.errors.JudgeError.TheVariants.{TooMany}
use Rattle.judge_set.specs.Sets.{AreStatesLeft, IsTooMuch, IsWalk, followed}
use Rattle.judge_set.proofs.Members.{verdicts}
use Rattle.judge_set.proofs.verdict.judge.Goals as goal

pub returns : goal.returns
returns c =
    let r = c.args.rules in
    let es = c.args.events.now in
    let first = c.in_ok-start.ensures in
    record {
      verdict = verdicts r es c.follow_all.result
          (subst (λ (l : List Sight). IfOk c.follow_all.result (λ walk. IsWalk r l es walk.fault)) first
          c.follow_all.ensures.fault);
      states = subst (λ (l : List Sight). IfOk c.follow_all.result
          (λ walk. AreStatesLeft r l (followed es walk.fault)
          walk.states.items)) first c.follow_all.ensures.states;
      few = subst (λ (l : List Sight). IfOk c.follow_all.result (λ walk. IsTooMuch r l es → ⊥)) first
          c.follow_all.ensures.few;
      too_many = subst (λ (l : List Sight). IfErr c.follow_all.result (λ e. e ≡ TooMany → IsTooMuch r l es))
          first
          c.follow_all.ensures.too_many;
    }
