-- Each move of a child keeps the invariant, under Presumed Commit.
use Rattle.std.proofs.Common.{Bool, arith}
use Rattle.proof_pairs.specs.Invariant.{PresumedCommit}
use Rattle.proof_pairs.specs.Keeps.{KeepsInvariant}
use Rattle.proof_pairs.specs.ChildMoves

pub issues : KeepsInvariant PresumedCommit ChildMoves.MayIssue ChildMoves.issues
issues r h g = grind arith

pub votes_yes : KeepsInvariant PresumedCommit ChildMoves.MayVote ChildMoves.votes_yes
votes_yes r h g = grind arith

pub votes_no : KeepsInvariant PresumedCommit ChildMoves.MayVote ChildMoves.votes_no
votes_no r h g = grind arith

pub votes_read : KeepsInvariant PresumedCommit ChildMoves.MayVote ChildMoves.votes_read
votes_read r h g = grind arith

pub drops : KeepsInvariant PresumedCommit ChildMoves.MayDrop ChildMoves.drops
drops r h g = grind arith

pub repeats_yes : KeepsInvariant PresumedCommit ChildMoves.MayRepeatYes ChildMoves.repeats_yes
repeats_yes r h g = grind arith

pub refuses : KeepsInvariant PresumedCommit ChildMoves.MayRefuse ChildMoves.refuses
refuses r h g = grind arith

pub asks : KeepsInvariant PresumedCommit ChildMoves.MayAsk ChildMoves.asks
asks r h g = grind arith

pub decides_alone : (commit : Bool) → KeepsInvariant PresumedCommit ChildMoves.MayDecideAlone
    (ChildMoves.decides_alone commit)
decides_alone commit r h g = grind arith

pub forgets : KeepsInvariant PresumedCommit ChildMoves.MayForget ChildMoves.forgets
forgets r h g = grind arith

pub hardens_child : KeepsInvariant PresumedCommit ChildMoves.MayHardenChild ChildMoves.hardens_child
hardens_child r h g = record {
  invariant = record {
    common = grind arith;
    learnt_abort_is_forced = grind arith;
    abort_is_refused = grind arith;
    collects_all = grind arith;
    collects_stands = grind arith;
    collected_is_decided = grind arith;
    abort_owes = grind arith;
    owed_stands = grind arith;
    ended_is_settled = grind arith;
    commit_is_the_outcome = grind arith;
    no_means_settled = grind arith;
    forgotten = grind arith;
  };
  later = grind arith;
}

pub trims_child : KeepsInvariant PresumedCommit ChildMoves.MayTrimChild ChildMoves.trims_child
trims_child r h g = grind arith

pub commits : KeepsInvariant PresumedCommit ChildMoves.MayLearnCommit ChildMoves.commits
commits r h g = grind arith

pub rolls_back : KeepsInvariant PresumedCommit ChildMoves.MayLearnAbort ChildMoves.rolls_back_forced
rolls_back r h g = grind arith

pub acknowledges : KeepsInvariant PresumedCommit ChildMoves.MayAcknowledgeAbort ChildMoves.acknowledges
acknowledges r h g = grind arith

pub drops_and_acknowledges : KeepsInvariant PresumedCommit ChildMoves.MayDropAndAcknowledge
    ChildMoves.drops_and_acknowledges
drops_and_acknowledges r h g = grind arith

pub learns_abort : KeepsInvariant PresumedCommit ChildMoves.MayLearnAbort ChildMoves.learns_abort_forced
learns_abort r h g = grind arith

pub acknowledges_settled : KeepsInvariant PresumedCommit ChildMoves.MayAcknowledge ChildMoves.acknowledges
acknowledges_settled r h g = grind arith
