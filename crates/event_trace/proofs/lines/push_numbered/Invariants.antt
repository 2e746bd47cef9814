use Rattle.std.proofs.Common.{◌≡◌, ◌++◌, drop, true}
use Rattle.event_trace.specs.Numbered.{numbered_on}
use Rattle.event_trace.proofs.lines.push_numbered.Given as goal

abbrev pub invariant-loop-byte : goal.invariant-loop-byte
invariant-loop-byte l =
    l.out.items ++ numbered_on l.begins l.number (drop l.byte-index l.lines)
    ≡ l.initial.out.items ++ numbered_on true l.number l.lines
