use Rattle.tree_script.proofs.LineLaws.{op_takes, op_again, event_takes, event_again}
use Rattle.tree_script.proofs.law.lines_are_spelled_once.Goals as goal

pub returns : goal.returns
returns c = record {
  op_read = op_takes;
  op_spelled = op_again;
  event_read = event_takes;
  event_spelled = event_again;
}
