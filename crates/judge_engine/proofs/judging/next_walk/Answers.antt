use Rattle.std.proofs.Common.{◌≡◌, ℕ, ◌+◌, ◌-◌, ◌<◌, List, Some, arith, drop, length, refl, subst, sym, take, true}
use Rattle.std.proofs.lemmas.List.{length-drop, take_all}
use Rattle.judge_rules.specs.declared.calls.HistoryEvent.{HistoryEvent}
use Rattle.std.specs.Prelude.{slice_get}
use Rattle.std.proofs.lemmas.Option.{slice_get_read}
use Rattle.judge_state.specs.Sights.{Sight}
use Rattle.judge_rules.specs.Steps.{is_answered}
use Rattle.judge_rules.proofs.Passing.{passed_on}
use Rattle.judge_set.specs.Sets.{IsTooMuch}
use Rattle.judge_engine.specs.Faults.{IsNextOver, Walks}
use Rattle.judge_engine.proofs.Faults.{not_hung, resumed_some}
use Rattle.judge_engine.proofs.judging.next_walk.Goals as goal

-- a slice of the rest is the rest
rest : (es : List HistoryEvent) (n : ℕ) → take (length es - n) (drop n es) ≡ drop n es
rest es n = take_all (length es - n) (drop n es) (omega (arith, length-drop n es))

pub follow_all-requires : goal.follow_all-requires
follow_all-requires c = subst (λ (l : List Sight). 0 < length l) (sym c.in_ok-starts.ensures)
    (resumed_some c.index-events-index.result c.args.states.now c.requires.some)

pub returns-in_err-follow_all-clause-too_many : goal.returns-in_err-follow_all-clause-too_many
returns-in_err-follow_all-clause-too_many c =
    let e = c.index-events-index.result in
    let es = c.args.events.now in
    let is : slice_get es c.args.index ≡ Some e =
    slice_get_read es (length es) c.args.index e refl c.requires.within c.index-events-index.is in
    let answered : is_answered e.answer ≡ true =
    not_hung c.is_hung.result (is_answered e.answer) c.is_hung.ensures c.if-is_hung.false in
    passed_on (IsNextOver c.args.rules es c.args.index c.args.states.now)
    c.from_residual-in_err-follow_all.result
    c.in_err-follow_all.field-0.0 c.from_residual-in_err-follow_all.ensures.1
    (λ many. (
      e,
      is,
      answered,
      subst (λ (l : List Sight). IsTooMuch c.args.rules l (drop (c.args.index + 1) es)) c.in_ok-starts.ensures
          (subst (λ (l : List HistoryEvent). IsTooMuch c.args.rules c.in_ok-starts.starts.items l)
          (rest es (c.args.index + 1))
          (c.in_err-follow_all.ensures.too_many many)),
    ))

pub returns-clause-next : goal.returns-clause-next
returns-clause-next c =
    let e = c.index-events-index.result in
    let es = c.args.events.now in
    let is : slice_get es c.args.index ≡ Some e =
    slice_get_read es (length es) c.args.index e refl c.requires.within c.index-events-index.is in
    let answered : is_answered e.answer ≡ true =
    not_hung c.is_hung.result (is_answered e.answer) c.is_hung.ensures c.if-is_hung.false in (
      e,
      is,
      answered,
      subst (λ (l : List Sight). Walks c.args.rules l (drop (c.args.index + 1) es) c.in_ok-follow_all.field-0)
          c.in_ok-starts.ensures
          (subst (λ (l : List HistoryEvent). Walks c.args.rules c.in_ok-starts.starts.items l
          c.in_ok-follow_all.field-0)
          (rest es (c.args.index + 1))
          (record {
            fault = c.in_ok-follow_all.ensures.fault;
            left = c.in_ok-follow_all.ensures.states;
            few = c.in_ok-follow_all.ensures.few;
          })),
    )
