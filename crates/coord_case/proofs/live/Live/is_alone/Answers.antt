use Rattle.std.proofs.Common.{ap, ◌∙◌}
use Rattle.protocol.specs.Records.{none_of}
use Rattle.coord_case.specs.Lives.{accepted_in}
use Rattle.coord_case.proofs.live.Live.is_alone.Goals as goal

pub returns : goal.returns
returns c = rw (← c.self.view_is) (c.is_alone.ensures
    ∙ ap (λ cs. none_of (accepted_in cs)) c.as_slice.ensures)
