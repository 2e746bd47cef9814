use Rattle.node_lines.proofs.MessageLaws.{message_takes, message_again, line_takes, line_again}
use Rattle.node_lines.proofs.law.messages_are_spelled_once.Goals as goal

pub returns : goal.returns
returns c = record {
  message_read = message_takes;
  message_spelled = message_again;
  line_read = line_takes;
  line_spelled = line_again;
}
