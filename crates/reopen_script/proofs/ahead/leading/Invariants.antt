use Rattle.std.proofs.Common.{◌≡◌, ◌+◌, drop, map}
use Rattle.std.specs.List.{prefix_len}
use Rattle.reopen_script.specs.Ahead.{is_ahead}
use Rattle.reopen_script.proofs.ahead.leading.Given as goal

abbrev pub invariant-loop-i : goal.invariant-loop-i
invariant-loop-i l =
    l.i + prefix_len is_ahead (drop l.i (map (λ s. s.now) l.lines))
    ≡ prefix_len is_ahead (map (λ s. s.now) l.lines)
