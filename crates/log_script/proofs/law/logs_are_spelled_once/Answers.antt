use Rattle.log_script.proofs.LineLaws.{line_takes, line_again}
use Rattle.log_script.proofs.LogLaws.{lines_again}
use Rattle.log_script.proofs.law.logs_are_spelled_once.Goals as goal

pub returns : goal.returns
returns c = record { line_read = line_takes; line_spelled = line_again; lines_spelled = lines_again }
