use Rattle.std.proofs.Common.{◌≡◌, ◌∙◌, [], List, arith, length, subst, sym}
use Rattle.std.specs.Prelude.{Contains}
use Rattle.std.proofs.lemmas.List.{map-id}
use Rattle.std.proofs.lemmas.List.Elements.{Contains-get_or}
use Rattle.std.proofs.lemmas.Iterator.Adapters.{YieldsList-from_vec}
use Rattle.std.proofs.lemmas.Iterator.Consumers.{YieldsList-end, YieldsList-turn}
use Rattle.judge_state.specs.Sights.{Sight}
use Rattle.judge_rules.specs.Sets.{IsSetOf}
use Rattle.judge_rules.proofs.Members.{adds_all, adds_among, adds_more, adds_none, none_in}
use Rattle.judge_rules.proofs.sets.each_once.Goals as goal

pub loop-state-init : goal.loop-state-init
loop-state-init c = rw c.new-set.ensures.items
    (record { adds = adds_none []; among = λ t e. absurd (none_in t e) })

pub loop-state-preserved : goal.loop-state-preserved
loop-state-preserved c =
    let all = c.args.states.items in
    let x = c.in-Some.state in
    let made = c.into_iter-state-iterator.ensures.into_iter_gives in
    let t = YieldsList-turn (YieldsList-from_vec {s = c.into_iter-state-iterator.result} all made.0
    (made.1 ∙ c.args.states.ok.0)) c.loop-state.yielded c.loop-state.state-iterator c.loop-state.yielded_by
    c.next.result c.next.new.self x c.in-Some.is c.next.ensures.steps in
    let here : Contains all x =
    subst (λ (q : Sight). Contains all q) (sym t.1) (Contains-get_or all (length c.loop-state.yielded) x t.0)
    in
    record {
      adds = adds_more [] c.loop-state.set.items c.add.new.states.items c.loop-state.yielded x
          c.loop-state.invariant.adds c.in_ok-add.ensures;
      among = adds_among all c.loop-state.set.items c.add.new.states.items x c.loop-state.invariant.among here
          c.in_ok-add.ensures;
    }

pub returns-then-len-gt-MOST_STATES-clause-too_many : goal.returns-then-len-gt-MOST_STATES-clause-too_many
returns-then-len-gt-MOST_STATES-clause-too_many c =
    let all = c.args.states.items in
    let x = c.in-Some.state in
    let made = c.into_iter-state-iterator.ensures.into_iter_gives in
    let t = YieldsList-turn (YieldsList-from_vec {s = c.into_iter-state-iterator.result} all made.0
    (made.1 ∙ c.args.states.ok.0)) c.loop-state.yielded c.loop-state.state-iterator c.loop-state.yielded_by
    c.next.result c.next.new.self x c.in-Some.is c.next.ensures.steps in
    let here : Contains all x =
    subst (λ (q : Sight). Contains all q) (sym t.1) (Contains-get_or all (length c.loop-state.yielded) x t.0)
    in
    λ e. (
      c.add.new.states.items,
      c.in_ok-add.ensures.apart (c.loop-state.invariant.adds.apart tt),
      adds_among all c.loop-state.set.items c.add.new.states.items x c.loop-state.invariant.among here
          c.in_ok-add.ensures,
      omega (arith, c.add.new.states.ok.0, c.len.ensures, c.if-len-gt-MOST_STATES.true),
    )

pub returns-clause-states : goal.returns-clause-states
returns-clause-states c =
    let made = c.into_iter-state-iterator.ensures.into_iter_gives in
    let t = YieldsList-end (YieldsList-from_vec {s = c.into_iter-state-iterator.result}
    c.args.states.items made.0
    (made.1 ∙ c.args.states.ok.0)) c.loop-state.yielded c.loop-state.state-iterator c.loop-state.yielded_by
    c.next.result c.next.new.self c.in-None.is c.next.ensures.steps in
    let all : c.loop-state.yielded ≡ c.args.states.items = sym (map-id c.loop-state.yielded) ∙ t.0 in
    subst (λ (m : List Sight). IsSetOf m c.loop-state.set.items) all
    (adds_all c.loop-state.yielded c.loop-state.set.items c.loop-state.invariant.adds)
