use Rattle.std.proofs.Common.{refl}
use Rattle.sub_process.proofs.subordinate.Front.header.Goals as goal

pub returns : goal.returns
returns c = record { size = refl; says = c.nothing.ensures }
