-- Each move of a parent keeps the invariant, under Presumed Commit.
use Rattle.std.proofs.Common.{arith}
use Rattle.proof_pairs.specs.Invariant.{PresumedCommit}
use Rattle.proof_pairs.specs.Keeps.{KeepsInvariant}
use Rattle.proof_pairs.specs.ParentMoves
use Rattle.proof_pairs.specs.Standing

pub accepts : KeepsInvariant PresumedCommit ParentMoves.MayAccept ParentMoves.accepts
accepts r h g = grind arith

pub hears_yes : KeepsInvariant PresumedCommit ParentMoves.MayHearYes ParentMoves.hears_yes
hears_yes r h g = grind arith

pub hears_read : KeepsInvariant PresumedCommit ParentMoves.MayHearRead ParentMoves.hears_read
hears_read r h g = grind arith

pub gives_up : KeepsInvariant PresumedCommit ParentMoves.MayGiveUp ParentMoves.gives_up
gives_up r h g = grind arith

pub hears_ack : KeepsInvariant PresumedCommit ParentMoves.MayHearAck ParentMoves.hears_ack
hears_ack r h g = grind arith

pub hardens_parent : KeepsInvariant PresumedCommit ParentMoves.MayHardenParent ParentMoves.hardens_parent
hardens_parent r h g = grind arith

pub ends : KeepsInvariant PresumedCommit ParentMoves.MayEndAbort ParentMoves.ends
ends r h g = grind arith

pub answers_abort : KeepsInvariant PresumedCommit ParentMoves.MayAnswerAbort ParentMoves.answers_abort
answers_abort r h g = grind arith

pub asks_for_votes : KeepsInvariant PresumedCommit ParentMoves.MayAskForVotes ParentMoves.collects_votes
asks_for_votes r h g = grind arith

pub hears_no : KeepsInvariant PresumedCommit ParentMoves.MayHearNo ParentMoves.hears_no_forced
hears_no r h g = grind arith

pub aborts : KeepsInvariant PresumedCommit ParentMoves.MayAbort ParentMoves.aborts_forced
aborts r h g = grind arith

pub presumes : KeepsInvariant PresumedCommit ParentMoves.MayPresumeCommit ParentMoves.answers_commit
presumes r h g = grind arith

pub trims_parent : KeepsInvariant PresumedCommit Standing.IsUnknownUnderCommit ParentMoves.trims_parent
trims_parent r h g = grind arith
