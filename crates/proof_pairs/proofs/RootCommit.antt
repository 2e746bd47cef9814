-- Each move of the root keeps the invariant, under Presumed Commit.
use Rattle.std.proofs.Common.{arith}
use Rattle.proof_pairs.specs.Invariant.{PresumedCommit}
use Rattle.proof_pairs.specs.Keeps.{KeepsInvariant}
use Rattle.proof_pairs.specs.RootMoves

pub begins : KeepsInvariant PresumedCommit RootMoves.MayBegin RootMoves.begins
begins r h g = grind arith

pub ends_empty : KeepsInvariant PresumedCommit RootMoves.MayEndEmpty RootMoves.ends_empty
ends_empty r h g = grind arith

pub ends_read_only : KeepsInvariant PresumedCommit RootMoves.MayEndReadOnly RootMoves.ends_read_only_collected
ends_read_only r h g = grind arith

pub decides : KeepsInvariant PresumedCommit RootMoves.MayDecide RootMoves.decides
decides r h g = grind arith
