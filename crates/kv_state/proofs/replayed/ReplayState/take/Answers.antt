use Rattle.kv_state.specs.Replays.{TakeFails, error_of}
use Rattle.kv_state.proofs.Passes.{passed_on, refused_take}
use Rattle.kv_state.proofs.replayed.ReplayState.take.Goals as goal

pub returns-in_err-take-2-clause-err : goal.returns-in_err-take-2-clause-err
returns-in_err-take-2-clause-err c =
    passed_on c.from_residual-in_err-take-2.result (error_of c.in_err-take-2.field-0.0)
    (TakeFails c.args.self.now.seen c.args.next c.args.self.now.data) c.from_residual-in_err-take-2.ensures.1
    (refused_take c.args.self.now.seen c.args.next c.args.self.now.data c.in_err-take-2.field-0.0
    c.in_err-take-2.ensures.err)
