use Rattle.std.proofs.Common.{length, take, ◌≤◌}
use Rattle.std.specs.Io.KnownBytes.{Appends}
use Rattle.report_io.proofs.streams.write_all.Given as goal

abbrev pub invariant-loop : goal.invariant-loop
invariant-loop g l = (l.at ≤ length l.text)
    × Appends (g.W.Write.contents l.initial.writer) (g.W.Write.contents l.writer) (take l.at l.text)
