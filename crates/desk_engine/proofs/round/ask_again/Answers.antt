use Rattle.node_engine.specs.Answers.{state_of}
use Rattle.desk_engine.proofs.Weaving.{if_round_unbegun}
use Rattle.desk_engine.proofs.round.ask_again.Goals as goal

pub returns-in_err-cases-clause-err : goal.returns-in_err-cases-clause-err
returns-in_err-cases-clause-err g c =
    if_round_unbegun c.from_residual.result (state_of c.args.serving.now)
    (g.W.Write.contents c.args.writer.now)
