use Rattle.std.proofs.Common.{◌≢◌, rules}
use Rattle.std.proofs.lemmas.List.Elements.{All-more}
use Rattle.input_lines.proofs.reading.before_feed.Goals as goal

pub loop-at-preserved : goal.loop-at-preserved
loop-at-preserved c = (
  search rules,
  All-more (λ x. x ≢ 10) _ _ 0 (search rules)
      c.loop-at.invariant.1 (search rules),
)
