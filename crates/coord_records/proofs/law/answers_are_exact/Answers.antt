use Rattle.coord_records.proofs.Inquiries.{answers_are}
use Rattle.coord_records.proofs.law.answers_are_exact.Goals as goal

pub returns : goal.returns
returns c = λ s t v st. answers_are s t v st
