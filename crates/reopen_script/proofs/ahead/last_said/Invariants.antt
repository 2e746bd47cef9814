use Rattle.std.proofs.Common.{◌≡◌, ◌+◌, drop, map}
use Rattle.reopen_script.specs.Ahead.{last_said}
use Rattle.reopen_script.proofs.ahead.last_said.Given as goal

abbrev pub invariant-loop-i : goal.invariant-loop-i
invariant-loop-i l =
    last_said l.last (l.before + l.i) (drop l.i (map (λ s. s.now) l.lines))
    ≡ last_said l.before l.before (map (λ s. s.now) l.lines)
