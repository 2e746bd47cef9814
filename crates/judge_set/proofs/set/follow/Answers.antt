use Rattle.std.proofs.Common.{◌≡◌, ◌∙◌, ◌+◌, ◌<◌, ◌≤◌, ◌++◌, ◌∷◌, [], List, ap, arith, length, rules, subst, sym, take}
use Rattle.std.proofs.lemmas.List.{take_all, take_more}
use Rattle.judge_state.specs.Sights.{Sight}
use Rattle.judge_rules.specs.Sets.{AreMany}
use Rattle.judge_rules.proofs.Passing.{passed_on}
use Rattle.judge_set.specs.Sets.{Follows, MayFollow}
use Rattle.judge_set.proofs.Members.{follows_more, follows_none, many_follow, one_leads_many}
use Rattle.judge_set.proofs.set.follow.Goals as goal

pub loop-state-init : goal.loop-state-init
loop-state-init c = record {
  follows = rw c.new-after.ensures.items (follows_none c.args.rules c.args.event.now);
  apart = rw c.new-after.ensures.items tt;
  few = search rules;
}

pub loop-state-preserved : goal.loop-state-preserved
loop-state-preserved c =
    let all = c.args.states.now in
    let i = c.loop-state.state-index in
    let s = c.state-item.result in
    let within : i < length all = omega arith in
    let front : take (i + 1) all ≡ take i all ++ s ∷ [] =
    take_more all i s within ∙ ap (λ (q : Sight). take i all ++ q ∷ []) (sym c.state-item.is) in
    record {
      follows = subst (λ (l : List Sight). Follows c.args.rules l c.args.event.now c.add_all.new.states.items)
          (sym front)
          (follows_more c.args.rules c.args.event.now (take i all) c.loop-state.after.items
          c.add_all.new.states.items
          c.in_ok-more.more.items s c.loop-state.invariant.follows c.in_ok-add_all.ensures
          c.in_ok-more.ensures.states);
      apart = c.in_ok-add_all.ensures.apart c.loop-state.invariant.apart;
      few = search rules;
    }

pub returns-then-len-gt-MOST_STATES-clause-too_many : goal.returns-then-len-gt-MOST_STATES-clause-too_many
returns-then-len-gt-MOST_STATES-clause-too_many c =
    let all = c.args.states.now in
    let i = c.loop-state.state-index in
    let s = c.state-item.result in
    let within : i < length all = omega arith in
    let front : take (i + 1) all ≡ take i all ++ s ∷ [] =
    take_more all i s within ∙ ap (λ (q : Sight). take i all ++ q ∷ []) (sym c.state-item.is) in
    λ e. many_follow c.args.rules c.args.event.now all c.add_all.new.states.items (i + 1)
    (subst (λ (l : List Sight). Follows c.args.rules l c.args.event.now c.add_all.new.states.items)
    (sym front)
    (follows_more c.args.rules c.args.event.now (take i all) c.loop-state.after.items
    c.add_all.new.states.items
    c.in_ok-more.more.items s c.loop-state.invariant.follows c.in_ok-add_all.ensures
    c.in_ok-more.ensures.states))
    (c.in_ok-add_all.ensures.apart c.loop-state.invariant.apart)
    (omega (arith, c.add_all.new.states.ok.0, c.len.ensures, c.if-len-gt-MOST_STATES.true))

pub returns-in_err-more-clause-too_many : goal.returns-in_err-more-clause-too_many
returns-in_err-more-clause-too_many c =
    let all = c.args.states.now in
    let s = c.state-item.result in
    let within : c.loop-state.state-index < length all = omega arith in
    passed_on (AreMany (MayFollow c.args.rules all c.args.event.now)) c.from_residual.result
    c.in_err-more.field-0.0
    c.from_residual.ensures.1
    (λ many. one_leads_many c.args.rules c.args.event.now all c.loop-state.state-index s
    within c.state-item.is
    (c.in_err-more.ensures.too_many many))

pub returns : goal.returns
returns c =
    let past : length c.args.states.now ≤ c.loop-state.state-index = omega arith in record {
      states = subst (λ (l : List Sight). Follows c.args.rules l c.args.event.now c.loop-state.after.items)
          (take_all c.loop-state.state-index c.args.states.now past) c.loop-state.invariant.follows;
      apart = c.loop-state.invariant.apart;
      few = c.loop-state.invariant.few;
      too_many = tt;
    }
