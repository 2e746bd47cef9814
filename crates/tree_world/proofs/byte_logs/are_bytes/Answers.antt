use Rattle.std.proofs.Common.{◌<◌}
use Rattle.std.specs.Int.{w8}
use Rattle.std.proofs.Math.Facts.{Fits-lt-pow}
use Rattle.std.proofs.lemmas.List.Elements.{All-from_get_or}
use Rattle.tree_world.proofs.byte_logs.are_bytes.Goals as goal

pub returns-clause-all : goal.returns-clause-all
returns-clause-all c = All-from_get_or (λ b. b < 256) c.args.bytes.now 0
    (λ i lt. Fits-lt-pow {w = w8} (c.type_inv.bytes i))

pub returns-clause-each : goal.returns-clause-each
returns-clause-each c = λ k. Fits-lt-pow {w = w8} (c.type_inv.bytes k)
