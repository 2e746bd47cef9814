use Rattle.xa_engine.proofs.script.Spelled.{if_none, no_flags_close}
use Rattle.xa_engine.proofs.script.request.call_of.Goals as goal

pub returns-in_err-flags-in-Close-clause-none : goal.returns-in_err-flags-in-Close-clause-none
returns-in_err-flags-in-Close-clause-none c = if_none _ _
    (no_flags_close c.args.call c.args.rest.now c.in-Close.is c.in_err-flags-in-Close.ensures.none)
