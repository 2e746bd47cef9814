use Rattle.std.proofs.Common.{◌-◌}
use Rattle.log_text.specs.Parts.{write_at}
use Rattle.log_text.proofs.Lists.{Goes}
use Rattle.log_text.proofs.parts.writes_in.Given as goal

abbrev pub invariant-loop : goal.invariant-loop
invariant-loop l = Goes write_at l.count l.fn.bytes l.writes.items (l.count - l.counter) l.rest
