use Rattle.std.proofs.Common.{◌∙◌}
use Rattle.protocol.specs.Standings.{unknown_view}
use Rattle.coord_process.proofs.saying.presumes.Goals as goal

pub returns : goal.returns
returns c = c.reaction.ensures ∙ (c.in_ok-unknown_inquiry.ensures {u = tt} unknown_view).reaction
