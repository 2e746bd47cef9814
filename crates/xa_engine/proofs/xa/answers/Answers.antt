use Rattle.script_words.proofs.Texts.{texts}
use Rattle.xa_engine.proofs.Runs.{reports}
use Rattle.xa_engine.proofs.xa.answers.Goals as goal

pub returns : goal.returns
returns c = reports c.in_ok-manager.manager c.run.new.manager (texts c.args.lines.now) (λ text. text.items)
    c.run.result c.in_ok-manager.ensures c.run.ensures
