use Rattle.std.proofs.Common.{inr, refl}
use Rattle.node_lines.specs.declared.asked.NodeLine.TheVariants as asked
use Rattle.node_engine.specs.declared.failure.NodeFailure.TheVariants.{Memory}
use Rattle.node_engine.specs.Answers.{TakesLine, state_of}
use Rattle.node_engine.proofs.Answering.{passed_on}
use Rattle.node_engine.proofs.serving.Serving.answer.Goals as goal

pub returns-in_err-error_text-in-Err-clause-err : goal.returns-in_err-error_text-in-Err-clause-err
returns-in_err-error_text-in-Err-clause-err g c =
    passed_on c.from_residual.result Memory (TakesLine c.args.line.now (state_of c.args.self.now)
    (state_of c.args.self.now)) c.from_residual.ensures.1
    (record { asked = asked.NoText; asks = inr (c.in-Err.ensures.cases.0, refl); takes = (refl, refl) })

pub returns-in_ok-error_text-in-Err-clause-ok : goal.returns-in_ok-error_text-in-Err-clause-ok
returns-in_ok-error_text-in-Err-clause-ok g c = record {
  asked = asked.NoText;
  asks = inr (c.in-Err.ensures.cases.0, refl);
  answers = (refl, c.in_ok-error_text-in-Err.ensures);
}
