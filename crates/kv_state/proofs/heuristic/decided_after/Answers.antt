use Rattle.std.proofs.Common.{◌∷◌, ◌++◌, ◌+◌, ◌<◌, List, length, drop, subst, arith}
use Rattle.std.proofs.lemmas.List.{drop_all}
use Rattle.protocol.specs.declared.records.LogRecord.{LogRecord}
use Rattle.kv_state.proofs.Holding.{item_and_rest}
use Rattle.kv_state.proofs.Noting.{IsNoting, noting_ends, noting_goes_on, noting_on}
use Rattle.kv_state.proofs.heuristic.decided_after.Goals as goal

pub loop-record-init : goal.loop-record-init
loop-record-init c = λ ls know. noting_on ls c.args.records.now c.args.heuristics know

pub loop-record-preserved : goal.loop-record-preserved
loop-record-preserved c = λ ls know.
    let within : c.loop-record.record-index < length c.args.records.now = omega arith in
    let here = item_and_rest c.args.records.now c.loop-record.record-index
    c.record-item.result within c.record-item.is in
    let noting : IsNoting (ls ++ c.args.records.now) (c.record-item.result ∷ drop
    (c.loop-record.record-index + 1) c.args.records.now) c.loop-record.heuristics =
    subst (λ ks. IsNoting (ls ++ c.args.records.now) ks c.loop-record.heuristics) here
    (c.loop-record.invariant ls know) in
    noting_goes_on (ls ++ c.args.records.now) _ c.record-item.result _ _ noting c.in_ok-note.ensures

pub returns : goal.returns
returns c = λ ls know.
    let over = drop_all c.loop-record.record-index c.args.records.now
    (omega (arith, c.loop-record-test.false)) in
    noting_ends (ls ++ c.args.records.now) c.loop-record.heuristics
    (subst (λ ks. IsNoting (ls ++ c.args.records.now) ks c.loop-record.heuristics) over
    (c.loop-record.invariant ls know))
