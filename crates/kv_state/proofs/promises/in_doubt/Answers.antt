use Rattle.kv_state.specs.declared.fault.ReplayError.TheVariants.{Memory}
use Rattle.kv_state.specs.Replays.{RestoreFails}
use Rattle.kv_state.proofs.Passes.{passed_on}
use Rattle.kv_state.proofs.promises.in_doubt.Goals as goal

pub returns-in_err-left-clause-err : goal.returns-in_err-left-clause-err
returns-in_err-left-clause-err c =
    passed_on c.from_residual.result Memory (RestoreFails c.args.seen.now) c.from_residual.ensures.1 tt
