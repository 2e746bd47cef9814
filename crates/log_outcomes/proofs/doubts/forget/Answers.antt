use Rattle.std.proofs.Common.{rules, not}
use Rattle.std.proofs.lemmas.Fn.{filter_same}
use Rattle.protocol.specs.Names.{same_case}
use Rattle.log_outcomes.proofs.doubts.forget.Goals as goal

pub returns : goal.returns
returns c = filter_same _ (λ d. not (same_case c.args.case d.case)) _ (λ x b f h. search rules)
    _ _ c.retain.ensures.filtered
