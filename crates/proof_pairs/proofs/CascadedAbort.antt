-- Each move of a cascaded parent keeps the invariant, under Presumed Abort.
use Rattle.std.proofs.Common.{arith}
use Rattle.proof_pairs.specs.Invariant.{PresumedAbort}
use Rattle.proof_pairs.specs.Keeps.{KeepsInvariant}
use Rattle.proof_pairs.specs.CascadedMoves

pub is_born : KeepsInvariant PresumedAbort CascadedMoves.MayBeBorn CascadedMoves.is_born
is_born r h g = grind arith

pub takes_part : KeepsInvariant PresumedAbort CascadedMoves.MayTakePart CascadedMoves.takes_part
takes_part r h g = grind arith

pub commits_above : KeepsInvariant PresumedAbort CascadedMoves.MayCommitAbove CascadedMoves.commits_above
commits_above r h g = grind arith

pub reads_empty : KeepsInvariant PresumedAbort CascadedMoves.MayReadEmpty CascadedMoves.reads_empty
reads_empty r h g = grind arith

pub promises : KeepsInvariant PresumedAbort CascadedMoves.MayPromise CascadedMoves.promises
promises r h g = grind arith

pub reads_up : KeepsInvariant PresumedAbort CascadedMoves.MayReadUp CascadedMoves.reads_up
reads_up r h g = grind arith

pub passes_commit : KeepsInvariant PresumedAbort CascadedMoves.MayPassCommit
    CascadedMoves.passes_commit_forced
passes_commit r h g = grind arith

pub passes_abort : KeepsInvariant PresumedAbort CascadedMoves.MayPassAbort CascadedMoves.passes_abort
passes_abort r h g = grind arith
