use Rattle.std.proofs.Common.{◌∷◌, [], List, subst}
use Rattle.judge_rules.specs.declared.calls.HistoryEvent.{HistoryEvent}
use Rattle.judge_rules.proofs.Passing.{passed_on}
use Rattle.judge_state.specs.Sights.{first_sight}
use Rattle.judge_set.specs.Sets.{IsTooMuch}
use Rattle.judge_engine.specs.Faults.{IsOverFor}
use Rattle.judge_engine.proofs.Faults.{none_told, over_for, start_at}
use Rattle.judge_engine.proofs.judging.faults.Goals as goal

pub returns-in_err-walk-clause-too_many : goal.returns-in_err-walk-clause-too_many
returns-in_err-walk-clause-too_many c =
    let r = c.args.transcript.now.rules in
    let es = c.args.transcript.now.events.items in
    passed_on (IsOverFor c.args.extent r es) c.from_residual.result c.in_err-walk.field-0.0
    c.from_residual.ensures.1
    (λ many. over_for c.args.extent r es (subst (λ (l : List HistoryEvent). IsTooMuch r (first_sight ∷ []) l)
    c.deref.ensures.value (c.in_err-walk.ensures.too_many many)))

pub faults_from-requires : goal.faults_from-requires
faults_from-requires c = start_at c.args.transcript.now.rules c.args.transcript.now.events.items
    c.deref.result.now
    c.in_ok-walk.walk.fault c.in-Some.index c.in_ok-walk.walk.states.items c.deref.ensures.value c.in-Some.is
    c.in_ok-walk.ensures.verdict c.in_ok-walk.ensures.states c.in_ok-walk.ensures.few

pub returns-in-None-clause-told : goal.returns-in-None-clause-told
returns-in-None-clause-told c = rw c.new.ensures.items
    (none_told c.args.extent c.args.transcript.now.rules c.args.transcript.now.events.items c.deref.result.now
    c.in_ok-walk.walk.fault c.deref.ensures.value c.in-None.is c.in_ok-walk.ensures.verdict
    c.in_ok-walk.ensures.few)

pub returns-in-None-clause-few : goal.returns-in-None-clause-few
returns-in-None-clause-few c =
    subst (λ (l : List HistoryEvent). IsTooMuch c.args.transcript.now.rules (first_sight ∷ []) l → ⊥)
    c.deref.ensures.value
    c.in_ok-walk.ensures.few

pub returns-in_ok-found-in-Some-clause-few : goal.returns-in_ok-found-in-Some-clause-few
returns-in_ok-found-in-Some-clause-few c =
    subst (λ (l : List HistoryEvent). IsTooMuch c.args.transcript.now.rules (first_sight ∷ []) l → ⊥)
    c.deref.ensures.value
    c.in_ok-walk.ensures.few
