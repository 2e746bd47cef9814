-- Each move of a cascaded parent keeps the invariant, under Presumed Commit.
use Rattle.std.proofs.Common.{arith}
use Rattle.proof_pairs.specs.Invariant.{PresumedCommit}
use Rattle.proof_pairs.specs.Keeps.{KeepsInvariant}
use Rattle.proof_pairs.specs.CascadedMoves

pub is_born : KeepsInvariant PresumedCommit CascadedMoves.MayBeBorn CascadedMoves.is_born
is_born r h g = grind arith

pub takes_part : KeepsInvariant PresumedCommit CascadedMoves.MayTakePart CascadedMoves.takes_part
takes_part r h g = grind arith

pub commits_above : KeepsInvariant PresumedCommit CascadedMoves.MayCommitAbove CascadedMoves.commits_above
commits_above r h g = grind arith

pub reads_empty : KeepsInvariant PresumedCommit CascadedMoves.MayReadEmpty CascadedMoves.reads_empty
reads_empty r h g = grind arith

pub promises : KeepsInvariant PresumedCommit CascadedMoves.MayPromise CascadedMoves.promises
promises r h g = grind arith

pub reads_up : KeepsInvariant PresumedCommit CascadedMoves.MayReadUp CascadedMoves.reads_up_collected
reads_up r h g = grind arith

pub passes_commit : KeepsInvariant PresumedCommit CascadedMoves.MayPassCommit CascadedMoves.passes_commit
passes_commit r h g = grind arith

pub passes_abort : KeepsInvariant PresumedCommit CascadedMoves.MayPassAbort CascadedMoves.passes_abort_forced
passes_abort r h g = grind arith
