use Rattle.std.proofs.Common.{◌≡◌, ◌+◌, [], drop, map}
use Rattle.log_script.specs.Logs.{logs_behind}
use Rattle.log_script.proofs.reading.logs_behind.Given as goal

abbrev pub invariant-loop-i : goal.invariant-loop-i
invariant-loop-i l =
    logs_behind l.tree l.logs (l.rule + l.i + 1) (drop l.i (map (λ s. s.now) l.lines))
    ≡ logs_behind l.tree [] (l.rule + 1) (map (λ s. s.now) l.lines)
