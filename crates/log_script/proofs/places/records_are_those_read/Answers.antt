use Rattle.log_script.proofs.PlaceLaws.{places_tell}
use Rattle.log_script.proofs.places.records_are_those_read.Goals as goal

pub returns : goal.returns
returns c = places_tell
