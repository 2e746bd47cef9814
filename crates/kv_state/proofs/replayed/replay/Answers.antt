use Rattle.kv_state.proofs.Lawful.{lawful_of}
use Rattle.kv_state.specs.Replays.{ReplayFails}
use Rattle.kv_state.proofs.Passes.{passed_on}
use Rattle.kv_state.proofs.Holding.{restore_fails}
use Rattle.kv_state.proofs.replayed.replay.Goals as goal

pub in_doubt-requires : goal.in_doubt-requires
in_doubt-requires c = (lawful_of c.args.records.items c.in_ok-reading.reading.seen
    c.in_ok-reading.ensures.ok.read).orderly

pub returns-in_err-held-clause-err : goal.returns-in_err-held-clause-err
returns-in_err-held-clause-err c =
    passed_on c.from_residual-in_err-held.result c.in_err-held.field-0.0 (ReplayFails c.args.records.items)
    c.from_residual-in_err-held.ensures.1
    (restore_fails c.args.records.items c.in_ok-reading.reading.seen c.in_ok-reading.ensures.ok.read
    c.in_err-held.field-0.0 c.in_err-held.ensures.err)
