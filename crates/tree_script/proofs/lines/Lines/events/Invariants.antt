use Rattle.tree_script.specs.Inputs.{LinesState}
use Rattle.tree_script.proofs.Reading.{HasRead}
use Rattle.tree_script.proofs.lines.Lines.events.Given as goal

abbrev pub invariant-loop-place : goal.invariant-loop-place
invariant-loop-place l = HasRead l.self l.place l.events.items
