use Rattle.std.proofs.Common.{rules}
use Rattle.log_rules.proofs.order.Holders.{key_kept}
use Rattle.log_rules.proofs.order.seen.list_key.Goals as goal

pub returns-clause-others : goal.returns-clause-others
returns-clause-others c = λ k apart. key_kept _ _ c.args.key.now k (search rules) apart
