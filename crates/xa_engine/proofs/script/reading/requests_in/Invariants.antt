use Rattle.std.proofs.Common.{take, map}
use Rattle.xa_engine.specs.script.Scripts.{call_lines, SpellEach}
use Rattle.xa_engine.proofs.script.reading.requests_in.Given as goal

abbrev pub invariant-loop-i : goal.invariant-loop-i
invariant-loop-i l = SpellEach (call_lines (take l.i (map (λ s. s.now) l.lines))) l.requests.items
