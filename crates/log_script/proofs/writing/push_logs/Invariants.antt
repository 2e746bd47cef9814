use Rattle.std.proofs.Common.{◌≡◌, ◌++◌, drop}
use Rattle.log_script.specs.Lines.{log_lines}
use Rattle.log_script.proofs.writing.push_logs.Given as goal

abbrev pub invariant-loop-log : goal.invariant-loop-log
invariant-loop-log l = l.out.items ++ log_lines (drop l.log-index l.logs) ≡ l.initial.out.items
    ++ log_lines l.logs
