use Rattle.tree_journal.proofs.Spans.{part_found}
use Rattle.tree_journal.proofs.span.part_of.Goals as goal

pub returns : goal.returns
returns g c = part_found c.args.list.now c.args.span.start c.args.span.end c.get.result c.get.ensures.lookup
