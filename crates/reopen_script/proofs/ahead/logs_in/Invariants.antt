use Rattle.std.proofs.Common.{◌≡◌, ◌+◌, [], drop, map}
use Rattle.reopen_script.specs.Ahead.{logs_in}
use Rattle.reopen_script.proofs.ahead.logs_in.Given as goal

abbrev pub invariant-loop-i : goal.invariant-loop-i
invariant-loop-i l =
    logs_in l.logs (l.before + l.i + 1) (drop l.i (map (λ s. s.now) l.lines))
    ≡ logs_in [] (l.before + 1) (map (λ s. s.now) l.lines)
