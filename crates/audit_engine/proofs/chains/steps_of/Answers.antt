use Rattle.audit_engine.proofs.ChainLaws.{all_steps}
use Rattle.audit_engine.proofs.chains.steps_of.Goals as goal

pub returns : goal.returns
returns c =
    all_steps c.args.tree.now c.args.namings.now.entries c.args.case.now
    c.entries.result.now c.new-steps.result.items
    c.push_steps.new.steps.items c.entries.ensures c.new-steps.ensures.items c.in_ok-push_steps.ensures
