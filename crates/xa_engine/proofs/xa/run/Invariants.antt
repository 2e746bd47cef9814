use Rattle.std.proofs.Common.{◌≡◌, List, take, map}
use Rattle.std.specs.List.{flat_map}
use Rattle.xa_engine.specs.declared.answer.RequestAnswer.{RequestAnswer}
use Rattle.xa_engine.specs.declared.script.request.Request.{Request}
use Rattle.xa_engine.specs.Answers.{answer_text}
use Rattle.xa_engine.specs.Runs.{RequestsLead}
use Rattle.xa_engine.specs.script.Scripts.{call_lines, SpellEach}
use Rattle.xa_engine.proofs.xa.run.Given as goal

abbrev pub invariant-loop-i : goal.invariant-loop-i
invariant-loop-i l = (requests : List Request) × (given : List RequestAnswer)
    × SpellEach (call_lines (take l.i (map (λ s. s.now) l.lines))) requests
    × RequestsLead l.initial.manager requests given l.manager × (l.out.items ≡ flat_map answer_text given)
