use Rattle.std.proofs.Common.{◌≡◌, ℕ, List, ◌++◌, length}
use Rattle.std.specs.Str.{IsUtf8}
use Rattle.tree_script.specs.Rules.{pieces, around_rule}
use Rattle.trace_lines.specs.Trace.{lines_text}
use Rattle.tree_script.proofs.Rest.{with_fronts}
use Rattle.tree_script.proofs.lines.around.Given as goal

abbrev pub invariant-loop-line : goal.invariant-loop-line
invariant-loop-line l =
    (fronts : List (List ℕ)) × (l.text ≡ lines_text fronts ++ l.rest) × (l.number ≡ length fronts)
    × (with_fronts fronts (around_rule (pieces l.rest)) ≡ around_rule (pieces l.text)) × IsUtf8 l.rest

abbrev pub decreases-loop-line : goal.decreases-loop-line
decreases-loop-line l = length l.rest
