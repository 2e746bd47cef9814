use Rattle.std.proofs.Common.{◌∙◌, ap, inl, refl}
use Rattle.protocol.specs.declared.names.ProcessId.{ProcessId}
use Rattle.protocol.specs.Trees.{root_of}
use Rattle.node_lines.specs.Asked.{asked_at}
use Rattle.node_engine.specs.declared.failure.NodeFailure.TheVariants.{Memory}
use Rattle.node_engine.specs.Answers.{TakesLine, state_of}
use Rattle.node_engine.proofs.Answering.{line_answered, line_taken, passed_on, takes_nothing}
use Rattle.node_engine.proofs.serving.Serving.answer_text.Goals as goal

pub returns-in_err-asked-clause-err : goal.returns-in_err-asked-clause-err
returns-in_err-asked-clause-err g c =
    passed_on c.from_residual.result Memory (TakesLine c.args.line.now (state_of c.args.self.now)
    (state_of c.args.self.now)) c.from_residual.ensures.1
    (record {
      asked = asked_at (root_of c.args.self.now.tree) c.args.line.now;
      asks = inl (c.utf8.line, refl);
      takes = takes_nothing (asked_at (root_of c.args.self.now.tree) c.args.line.now)
          (state_of c.args.self.now);
    })

pub returns-clause-ok : goal.returns-clause-ok
returns-clause-ok g c =
    line_answered (λ text. text.items) c.args.line.now c.in_ok-asked.asked (state_of c.args.self.now)
    (state_of c.answer_asked.new.self) c.answer_asked.result c.utf8.line
    (c.in_ok-asked.ensures ∙ ap (λ (r : ProcessId). asked_at r c.args.line.now) c.root.ensures)
    c.answer_asked.ensures.ok

pub returns-clause-err : goal.returns-clause-err
returns-clause-err g c =
    line_taken c.args.line.now c.in_ok-asked.asked (state_of c.args.self.now)
    (state_of c.answer_asked.new.self) c.utf8.line
    (c.in_ok-asked.ensures ∙ ap (λ (r : ProcessId). asked_at r c.args.line.now) c.root.ensures)
    c.answer_asked.result
    c.answer_asked.ensures.err
