use Rattle.std.proofs.Common.{List, rules, subst, sym}
use Rattle.std.specs.Prelude.{Contains}
use Rattle.judge_state.specs.Sights.{Sight}
use Rattle.judge_rules.proofs.Members.{adds_one}
use Rattle.judge_rules.proofs.sets.add.Goals as goal

pub returns-in_ok-push : goal.returns-in_ok-push
returns-in_ok-push c =
    let old = c.args.states.now.items in
    let s = c.args.state in
    rw c.in_ok-push.ensures.items (adds_one old s (λ h.
    let found = c.is_found.ensures.1 (subst (λ (us : List Sight). Contains us s)
    (sym c.deref.ensures.value) h) in
    search rules))
