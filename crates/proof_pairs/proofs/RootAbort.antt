-- Each move of the root keeps the invariant, under Presumed Abort.
use Rattle.std.proofs.Common.{arith}
use Rattle.proof_pairs.specs.Invariant.{PresumedAbort}
use Rattle.proof_pairs.specs.Keeps.{KeepsInvariant}
use Rattle.proof_pairs.specs.RootMoves

pub begins : KeepsInvariant PresumedAbort RootMoves.MayBegin RootMoves.begins
begins r h g = grind arith

pub ends_empty : KeepsInvariant PresumedAbort RootMoves.MayEndEmpty RootMoves.ends_empty
ends_empty r h g = grind arith

pub ends_read_only : KeepsInvariant PresumedAbort RootMoves.MayEndReadOnly RootMoves.ends_read_only
ends_read_only r h g = grind arith

pub decides : KeepsInvariant PresumedAbort RootMoves.MayDecide RootMoves.decides_naming
decides r h g = grind arith
