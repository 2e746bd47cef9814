use Rattle.coord_records.proofs.Readings.{standing_is, view_is}
use Rattle.coord_records.proofs.law.readings_are_exact.Goals as goal

pub returns : goal.returns
returns c = record {
  standing = λ rs c. standing_is rs c;
  view = λ rs c. view_is rs c;
}
