use Rattle.std.proofs.Common.{◌≡◌, ◌∙◌, List, subst, sym}
use Rattle.std.proofs.lemmas.List.{map-id}
use Rattle.std.proofs.lemmas.Iterator.Adapters.{YieldsList-from_vec}
use Rattle.std.proofs.lemmas.Iterator.Consumers.{YieldsList-end}
use Rattle.judge_state.specs.Sights.{Sight}
use Rattle.judge_rules.specs.Sets.{Adds}
use Rattle.judge_rules.proofs.Members.{adds_more, adds_none}
use Rattle.judge_rules.proofs.sets.add_all.Goals as goal

pub loop-state-init : goal.loop-state-init
loop-state-init c = adds_none c.args.states.now.items

pub loop-state-preserved : goal.loop-state-preserved
loop-state-preserved c = adds_more c.args.states.now.items c.loop-state.states.items c.add.new.states.items
    c.loop-state.yielded c.in-Some.state c.loop-state.invariant c.in_ok-add.ensures

pub returns : goal.returns
returns c =
    let made = c.into_iter-state-iterator.ensures.into_iter_gives in
    let t = YieldsList-end (YieldsList-from_vec {s = c.into_iter-state-iterator.result}
    c.args.more.items made.0
    (made.1 ∙ c.args.more.ok.0)) c.loop-state.yielded c.loop-state.state-iterator c.loop-state.yielded_by
    c.next.result c.next.new.self c.in-None.is
    c.next.ensures.steps in
    let all : c.loop-state.yielded ≡ c.args.more.items = sym (map-id c.loop-state.yielded) ∙ t.0 in
    subst (λ (m : List Sight). Adds c.args.states.now.items c.loop-state.states.items m) all
    c.loop-state.invariant
