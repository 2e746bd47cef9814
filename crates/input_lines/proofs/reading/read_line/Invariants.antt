-- No line feed was met, and the front of what was read is kept.
use Rattle.std.proofs.Common.{◌≡◌, ◌≢◌, ◌+◌, ℕ, List, All, take}
use Rattle.std.specs.Io.KnownBytes.{Consumes}
use Rattle.input_lines.specs.Lines.{longest}
use Rattle.input_lines.proofs.reading.read_line.Given as goal

abbrev pub invariant-loop : goal.invariant-loop
invariant-loop g l = (part : List ℕ) × All (λ x. x ≢ 10) part
    × Consumes (g.R.Read.remaining l.initial.reader) (g.R.Read.remaining l.reader) part
    × (l.kept.items ≡ take (longest + 1) part)
