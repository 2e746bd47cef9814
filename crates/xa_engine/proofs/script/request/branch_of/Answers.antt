use Rattle.xa_engine.proofs.script.Spelled.{if_none, no_flags_branch}
use Rattle.xa_engine.proofs.script.request.branch_of.Goals as goal

pub returns-in_err-flags-clause-none : goal.returns-in_err-flags-clause-none
returns-in_err-flags-clause-none c = if_none _ _
    (no_flags_branch c.args.rest.now _ c.in_ok-thread.ensures c.in_err-flags.ensures.none)
