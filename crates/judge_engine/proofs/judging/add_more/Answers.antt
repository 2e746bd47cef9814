use Rattle.std.proofs.Common.{◌≡◌, ◌∙◌, ℕ, ◌+◌, ◌++◌, ◌∷◌, [], List, Some, ap, arith, length, subst, sym}
use Rattle.std.proofs.lemmas.List.{length-append}
use Rattle.judge_engine.specs.Faults.{IsAt, IsOver, indices}
use Rattle.judge_engine.proofs.Faults.{ended, next_at, next_is, next_over, next_over_is, some_before}
use Rattle.judge_engine.proofs.Texts.{first_push, indices_push}
use Rattle.judge_rules.proofs.Passing.{passed_on}
use Rattle.judge_engine.proofs.judging.add_more.Goals as goal

pub next_walk-requires-clause-some : goal.next_walk-requires-clause-some
next_walk-requires-clause-some c = omega (
  arith,
  some_before c.args.transcript.now.rules c.args.transcript.now.events.items (indices c.loop-turn.found.items)
      c.loop-turn.at c.loop-turn.before.items c.loop-turn.invariant.here,
  ap length c.deref-in-loop-turn.ensures.value,
)

pub returns-in_err-walk-clause-too_many : goal.returns-in_err-walk-clause-too_many
returns-in_err-walk-clause-too_many c =
    let r = c.args.transcript.now.rules in
    let es = c.args.transcript.now.events.items in
    passed_on (IsOver r es) c.from_residual.result c.in_err-walk.field-0.0 c.from_residual.ensures.1
    (λ many. next_over r es (indices c.loop-turn.found.items) c.loop-turn.at c.loop-turn.before.items
    c.loop-turn.invariant.here
    (next_over_is r es c.deref.result.now c.loop-turn.at c.loop-turn.before.items
    c.deref-in-loop-turn.result.now
    c.deref.ensures.value c.deref-in-loop-turn.ensures.value (c.in_err-walk.ensures.too_many many)))

pub returns-in_default-fault-clause-all : goal.returns-in_default-fault-clause-all
returns-in_default-fault-clause-all c =
    let r = c.args.transcript.now.rules in
    let es = c.args.transcript.now.events.items in
    let w = c.in-Some.walk in
    ended r es (indices c.loop-turn.found.items) c.loop-turn.at c.loop-turn.before.items w
    c.loop-turn.invariant.here
    (next_is r es c.deref.result.now c.loop-turn.at c.loop-turn.before.items
    c.deref-in-loop-turn.result.now (Some w)
    c.in_ok-walk.field-0 c.deref.ensures.value c.deref-in-loop-turn.ensures.value c.in-Some.is
    c.in_ok-walk.ensures.next) c.in_default-fault.is

pub loop-turn-preserved : goal.loop-turn-preserved
loop-turn-preserved c =
    let r = c.args.transcript.now.rules in
    let es = c.args.transcript.now.events.items in
    let w = c.in-Some.walk in
    let old = c.loop-turn.found.items in
    let f = c.in_ok-fault_at.field-0 in
    let new = c.loop-turn.at + 1 + c.in-Some-fault.more in
    let kept = c.loop-turn.invariant in
    let next : IsAt r es (indices old ++ new ∷ []) new w.states.items =
    next_at r es (indices old) c.loop-turn.at c.loop-turn.before.items w c.in-Some-fault.more kept.here
    (next_is r es c.deref.result.now c.loop-turn.at c.loop-turn.before.items
    c.deref-in-loop-turn.result.now (Some w)
    c.in_ok-walk.field-0 c.deref.ensures.value c.deref-in-loop-turn.ensures.value c.in-Some.is
    c.in_ok-walk.ensures.next) c.in-Some-fault.is in
    let told : indices old ++ new ∷ [] ≡ indices (old ++ f ∷ []) =
    ap (λ (n : ℕ). indices old ++ n ∷ []) (sym c.in_ok-fault_at.ensures) ∙ sym (indices_push old f) in
    rw c.in_ok-push.ensures.items (record {
      some = omega (arith, length-append old (f ∷ []), kept.some);
      first = first_push old f kept.some ∙ kept.first;
      here = subst (λ (js : List ℕ). IsAt r es js new w.states.items) told next;
      past = omega (arith, kept.past);
    })
