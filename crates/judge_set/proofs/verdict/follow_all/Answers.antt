use Rattle.std.proofs.Common.{◌≡◌, ◌∙◌, ◌+◌, ◌<◌, ◌≤◌, ◌++◌, ◌∷◌, [], List, ap, arith, length, subst, sym, take, rules}
use Rattle.std.proofs.lemmas.List.{take_all, take_more}
use Rattle.judge_rules.specs.declared.calls.HistoryEvent.{HistoryEvent}
use Rattle.judge_state.specs.Sights.{Sight}
use Rattle.judge_rules.specs.Sets.{AreMany}
use Rattle.judge_rules.proofs.Passing.{passed_on}
use Rattle.judge_set.specs.Sets.{AreStatesLeft, Follows, IsTooMuch, MayFollow, MayLead}
use Rattle.judge_set.proofs.Members.{left_more, left_start, leads_nowhere, leads_on, many_more, not_next, not_past}
use Rattle.judge_set.proofs.verdict.follow_all.Goals as goal

pub loop-i-init : goal.loop-i-init
loop-i-init c = record {
  left = left_start c.args.rules c.args.starts.items;
  some = c.requires;
  few = λ j lt. absurd (omega (arith, lt));
}

pub loop-i-preserved : goal.loop-i-preserved
loop-i-preserved c =
    let all = c.args.events.now in
    let i = c.loop-i.i in
    let e = c.index-events-i.result in
    let within : i < length all = omega arith in
    let front : take (i + 1) all ≡ take i all ++ e ∷ [] =
    take_more all i e within ∙ ap (λ (q : HistoryEvent). take i all ++ q ∷ []) (sym c.index-events-i.is) in
    let left : AreStatesLeft c.args.rules c.args.starts.items (take (i + 1) all) c.in_ok-after.after.items =
    subst (λ (l : List HistoryEvent). AreStatesLeft c.args.rules c.args.starts.items l
    c.in_ok-after.after.items)
    (sym front) (left_more c.args.rules c.args.starts.items (take i all) e c.loop-i.states.items
    c.in_ok-after.after.items c.loop-i.invariant.left
    (subst (λ (l : List Sight). Follows c.args.rules l e c.in_ok-after.after.items) c.deref.ensures.value
    c.in_ok-after.ensures.states)) in
    record {
      left = left;
      some = search rules;
      few = not_next c.args.rules c.args.starts.items all i c.in_ok-after.after.items
          c.loop-i.invariant.few left
          (omega (arith, c.in_ok-after.ensures.few, c.in_ok-after.after.ok.0));
    }

pub returns-in_err-after-clause-too_many : goal.returns-in_err-after-clause-too_many
returns-in_err-after-clause-too_many c =
    let all = c.args.events.now in
    let i = c.loop-i.i in
    let e = c.index-events-i.result in
    let within : i < length all = omega arith in
    let front : take (i + 1) all ≡ take i all ++ e ∷ [] =
    take_more all i e within ∙ ap (λ (q : HistoryEvent). take i all ++ q ∷ []) (sym c.index-events-i.is) in
    passed_on (IsTooMuch c.args.rules c.args.starts.items all) c.from_residual.result c.in_err-after.field-0.0
    c.from_residual.ensures.1
    (λ many. (
      i,
      within,
      subst (λ (l : List HistoryEvent). AreMany (MayLead c.args.rules c.args.starts.items l)) (sym front)
          (many_more c.args.rules c.args.starts.items (take i all) e c.loop-i.states.items
          c.loop-i.invariant.left
          (subst (λ (l : List Sight). AreMany (MayFollow c.args.rules l e)) c.deref.ensures.value
          (c.in_err-after.ensures.too_many many))),
    ))

pub returns-then-is_empty : goal.returns-then-is_empty
returns-then-is_empty c =
    let all = c.args.events.now in
    let i = c.loop-i.i in
    let e = c.index-events-i.result in
    let within : i < length all = omega arith in
    let front : take (i + 1) all ≡ take i all ++ e ∷ [] =
    take_more all i e within ∙ ap (λ (q : HistoryEvent). take i all ++ q ∷ []) (sym c.index-events-i.is) in
    let none : length c.in_ok-after.after.items ≡ 0 = search rules in
    let stops = leads_nowhere c.args.rules c.args.starts.items (take (i + 1) all) c.in_ok-after.after.items
    (subst (λ (l : List HistoryEvent). AreStatesLeft c.args.rules c.args.starts.items l
    c.in_ok-after.after.items)
    (sym front) (left_more c.args.rules c.args.starts.items (take i all) e c.loop-i.states.items
    c.in_ok-after.after.items c.loop-i.invariant.left
    (subst (λ (l : List Sight). Follows c.args.rules l e c.in_ok-after.after.items) c.deref.ensures.value
    c.in_ok-after.ensures.states))) none in
    record {
      fault = record {
        within = within;
        before = leads_on c.args.rules c.args.starts.items (take i all) c.loop-i.states.items
            c.loop-i.invariant.left c.loop-i.invariant.some;
        stops = stops;
      };
      states = c.loop-i.invariant.left;
      few = not_past c.args.rules c.args.starts.items all i c.loop-i.invariant.few stops;
      too_many = tt;
    }

pub returns : goal.returns
returns c =
    let all = c.args.events.now in
    let past : length all ≤ c.loop-i.i = omega arith in
    let left = subst (λ (l : List HistoryEvent). AreStatesLeft c.args.rules c.args.starts.items l
    c.loop-i.states.items)
    (take_all c.loop-i.i all past) c.loop-i.invariant.left in
    record {
      fault = leads_on c.args.rules c.args.starts.items all c.loop-i.states.items left
          c.loop-i.invariant.some;
      states = left;
      few = λ (j, lt, many). c.loop-i.invariant.few j (omega (arith, lt, past)) many;
      too_many = tt;
    }
