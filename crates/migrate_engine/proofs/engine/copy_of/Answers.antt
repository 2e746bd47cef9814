use Rattle.std.specs.Int.{w8}
use Rattle.std.proofs.Math.Facts.{Fits-lt-pow}
use Rattle.migrate_engine.proofs.engine.copy_of.Goals as goal

pub returns-in-Ok-clause-bytes : goal.returns-in-Ok-clause-bytes
returns-in-Ok-clause-bytes c = λ k. Fits-lt-pow {w = w8} (c.type_inv.bytes k)

pub returns-in-Err-clause-bytes : goal.returns-in-Err-clause-bytes
returns-in-Err-clause-bytes c = λ k. Fits-lt-pow {w = w8} (c.type_inv.bytes k)
