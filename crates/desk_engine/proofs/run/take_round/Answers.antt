use Rattle.node_engine.specs.Answers.{state_of}
use Rattle.desk_engine.proofs.Weaving.{if_round_broken, round_made}
use Rattle.desk_engine.proofs.run.take_round.Goals as goal

pub returns-in_err-ask_again-clause-breaks : goal.returns-in_err-ask_again-clause-breaks
returns-in_err-ask_again-clause-breaks g c =
    if_round_broken c.from_residual.result c.in_err-ask_again.field-0.0 c.args.ways
    (state_of c.args.serving.now)
    (state_of c.ask_again.new.serving) (g.W.Write.contents c.args.writer.now)
    (g.W.Write.contents c.ask_again.new.writer) c.from_residual.ensures.1 c.requires
    c.in_err-ask_again.ensures.err

pub returns-clause-leads : goal.returns-clause-leads
returns-clause-leads g c = λ left start opening h.
    round_made c.args.ways start opening left (state_of c.args.serving.now) (state_of c.ask_again.new.serving)
    (g.W.Write.contents c.args.writer.now) (g.W.Write.contents c.ask_again.new.writer) c.requires h
    c.in_ok-ask_again.ensures.ok
