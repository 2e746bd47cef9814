use Rattle.xa_engine.proofs.script.Spelled.{if_none, no_flags_recover}
use Rattle.xa_engine.proofs.script.request.recover_of.Goals as goal

pub returns-in_err-flags-clause-none : goal.returns-in_err-flags-clause-none
returns-in_err-flags-clause-none c = if_none _ _
    (no_flags_recover c.args.rest.now _ c.in_ok-thread.ensures c.in_err-flags.ensures.none)
