use Rattle.std.proofs.Common.{◌≡◌, ◌++◌, drop, map, Some}
use Rattle.script_words.specs.Steps.{◌>>=◌}
use Rattle.node_lines.specs.Findings.{tickets_at}
use Rattle.node_lines.proofs.findings.tickets_of.Given as goal

abbrev pub invariant-loop-word : goal.invariant-loop-word
invariant-loop-word l =
    (tickets_at (map (λ w. w.now) (drop l.word-index l.words)) >>= λ ts. Some (l.tickets.items ++ ts))
    ≡ tickets_at (map (λ w. w.now) l.words)
