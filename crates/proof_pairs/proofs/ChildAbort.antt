-- Each move of a child keeps the invariant, under Presumed Abort.
use Rattle.std.proofs.Common.{Bool, arith}
use Rattle.proof_pairs.specs.Invariant.{PresumedAbort}
use Rattle.proof_pairs.specs.Keeps.{KeepsInvariant}
use Rattle.proof_pairs.specs.ChildMoves

pub issues : KeepsInvariant PresumedAbort ChildMoves.MayIssue ChildMoves.issues
issues r h g = grind arith

pub votes_yes : KeepsInvariant PresumedAbort ChildMoves.MayVote ChildMoves.votes_yes
votes_yes r h g = grind arith

pub votes_no : KeepsInvariant PresumedAbort ChildMoves.MayVote ChildMoves.votes_no
votes_no r h g = grind arith

pub votes_read : KeepsInvariant PresumedAbort ChildMoves.MayVote ChildMoves.votes_read
votes_read r h g = grind arith

pub drops : KeepsInvariant PresumedAbort ChildMoves.MayDrop ChildMoves.drops
drops r h g = grind arith

pub repeats_yes : KeepsInvariant PresumedAbort ChildMoves.MayRepeatYes ChildMoves.repeats_yes
repeats_yes r h g = grind arith

pub refuses : KeepsInvariant PresumedAbort ChildMoves.MayRefuse ChildMoves.refuses
refuses r h g = grind arith

pub asks : KeepsInvariant PresumedAbort ChildMoves.MayAsk ChildMoves.asks
asks r h g = grind arith

pub decides_alone : (commit : Bool) → KeepsInvariant PresumedAbort ChildMoves.MayDecideAlone
    (ChildMoves.decides_alone commit)
decides_alone commit r h g = grind arith

pub forgets : KeepsInvariant PresumedAbort ChildMoves.MayForget ChildMoves.forgets
forgets r h g = grind arith

pub hardens_child : KeepsInvariant PresumedAbort ChildMoves.MayHardenChild ChildMoves.hardens_child
hardens_child r h g = grind arith

pub trims_child : KeepsInvariant PresumedAbort ChildMoves.MayTrimChild ChildMoves.trims_child
trims_child r h g = grind arith

pub commits : KeepsInvariant PresumedAbort ChildMoves.MayLearnCommit ChildMoves.commits_forced
commits r h g = grind arith

pub rolls_back : KeepsInvariant PresumedAbort ChildMoves.MayLearnAbort ChildMoves.rolls_back
rolls_back r h g = grind arith

pub acknowledges : KeepsInvariant PresumedAbort ChildMoves.MayAcknowledgeCommit ChildMoves.acknowledges
acknowledges r h g = grind arith

pub learns_commit : KeepsInvariant PresumedAbort ChildMoves.MayLearnCommit ChildMoves.learns_commit_forced
learns_commit r h g = grind arith

pub acknowledges_settled : KeepsInvariant PresumedAbort ChildMoves.MayAcknowledge ChildMoves.acknowledges
acknowledges_settled r h g = grind arith
