use Rattle.std.proofs.Common.{subst, rules}
use Rattle.input_lines.specs.Steps.{ReadsOn}
use Rattle.input_lines.proofs.Parts.{ended, fed, goes_on}
use Rattle.input_lines.proofs.reading.read_line.Goals as goal

pub returns-in-Feed : goal.returns-in-Feed
returns-in-Feed g c =
    let i = c.loop.invariant in
    fed _ _ _ i.0 _ _ _ i.1 i.2 i.3 (search rules)
    (subst (ReadsOn _ _ _ _ _) c.in-Feed.is c.in_ok-read_on.ensures)

pub returns-in-End : goal.returns-in-End
returns-in-End g c =
    let i = c.loop.invariant in
    ended _ _ _ i.0 _ _ _ i.1 i.2 i.3 (search rules)
    (subst (ReadsOn _ _ _ _ _) c.in-End.is c.in_ok-read_on.ensures)

pub loop-preserved : goal.loop-preserved
loop-preserved g c =
    let i = c.loop.invariant in
    goes_on _ _ _ i.0 _ _ _ i.1 i.2 i.3 (search rules)
    (subst (ReadsOn _ _ _ _ _) c.in-Within.is c.in_ok-read_on.ensures)
