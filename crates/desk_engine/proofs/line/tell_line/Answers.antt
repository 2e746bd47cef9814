use Rattle.std.proofs.Common.{refl}
use Rattle.node_engine.specs.declared.failure.NodeFailure.TheVariants.{Memory}
use Rattle.node_engine.specs.Answers.{state_of}
use Rattle.desk_engine.specs.Turns.{LeavesLine, line_taken, line_untold, told_by}
use Rattle.desk_engine.proofs.Weaving.{passed_on}
use Rattle.desk_engine.proofs.line.tell_line.Goals as goal

pub returns-in_err-answer-clause-err : goal.returns-in_err-answer-clause-err
returns-in_err-answer-clause-err g c =
    passed_on c.from_residual-in_err-answer.result c.in_err-answer.field-0.0
    (LeavesLine c.args.ways c.args.line.now (state_of c.args.serving.now) (state_of c.answer.new.self))
    c.from_residual-in_err-answer.ensures.1
    (line_taken (state_of c.probe.new.serving) c.in_ok-joining.joining c.in_ok-joining.ensures.ok
    c.in_err-answer.ensures.err)

pub returns-in_err-told_of-clause-err : goal.returns-in_err-told_of-clause-err
returns-in_err-told_of-clause-err g c =
    passed_on c.from_residual-in_err-told_of.result Memory
    (LeavesLine c.args.ways c.args.line.now (state_of c.args.serving.now) (state_of c.answer.new.self))
    c.from_residual-in_err-told_of.ensures.1
    (line_untold (told_by c.in_ok-joining.joining c.in_ok-answer.answer.items)
    (record {
      mid = state_of c.probe.new.serving;
      joining = c.in_ok-joining.joining;
      probes = c.in_ok-joining.ensures.ok;
      text = c.in_ok-answer.answer.items;
      answers = c.in_ok-answer.ensures.ok;
      told_is = refl;
    }) refl)
