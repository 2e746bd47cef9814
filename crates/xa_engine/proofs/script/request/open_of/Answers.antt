use Rattle.xa_engine.proofs.script.Spelled.{if_none, no_flags_alone, no_flags_before}
use Rattle.xa_engine.proofs.script.request.open_of.Goals as goal

pub returns-in_err-flags-in-None-clause-none : goal.returns-in_err-flags-in-None-clause-none
returns-in_err-flags-in-None-clause-none c = if_none _ _
    (no_flags_alone c.args.rest.now c.in-None.ensures c.in_err-flags-in-None.ensures.none)

pub returns-in_err-flags-in-Some-clause-none : goal.returns-in_err-flags-in-Some-clause-none
returns-in_err-flags-in-Some-clause-none c = if_none _ _
    (no_flags_before c.args.rest.now _ c.in-Some.ensures c.in_err-flags-in-Some.ensures.none)
