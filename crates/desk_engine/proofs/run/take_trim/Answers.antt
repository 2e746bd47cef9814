use Rattle.node_engine.specs.Answers.{state_of}
use Rattle.desk_engine.proofs.Weaving.{if_trim_held, if_trim_left, trim_made}
use Rattle.desk_engine.proofs.run.take_trim.Goals as goal

pub returns-in_err-trim-clause-breaks : goal.returns-in_err-trim-clause-breaks
returns-in_err-trim-clause-breaks g c =
    if_trim_left c.from_residual.result c.in_err-trim.field-0.0 c.args.watch.now.ways
    (state_of c.args.serving.now)
    (state_of c.trim.new.serving) c.from_residual.ensures.1 c.requires c.in_err-trim.ensures.err

pub returns-in_err-bring_up-clause-breaks : goal.returns-in_err-bring_up-clause-breaks
returns-in_err-bring_up-clause-breaks g c =
    if_trim_held c.from_residual-in_err-bring_up.result c.in_err-bring_up.field-0.0 c.args.watch.now.ways
    (state_of c.args.serving.now) (state_of c.trim.new.serving)
    c.from_residual-in_err-bring_up.ensures.1 c.requires
    c.in_ok-trim.ensures.ok.0 c.in_ok-trim.ensures.ok.1 c.in_err-bring_up.ensures.err

pub returns-clause-leads : goal.returns-clause-leads
returns-clause-leads g c = λ left held start opening h.
    trim_made c.args.watch.now.ways start opening left held (state_of c.args.serving.now)
    (state_of c.trim.new.serving)
    c.requires h c.in_ok-trim.ensures.ok.0 c.in_ok-trim.ensures.ok.1
