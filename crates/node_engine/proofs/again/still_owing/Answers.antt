use Rattle.std.proofs.Common.{◌∙◌, ap, filter, rules}
use Rattle.std.proofs.lemmas.Fn.{filter_same}
use Rattle.protocol.specs.Records.{in_list}
use Rattle.node_engine.proofs.again.still_owing.Goals as goal

pub returns : goal.returns
returns c =
    filter_same _ (in_list c.args.owed.now) _ (λ x b f h. search rules) _ _ c.retain.ensures.filtered
    ∙ ap (filter (in_list c.args.owed.now)) c.in_ok-owing.ensures.items
