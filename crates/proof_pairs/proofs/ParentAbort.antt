-- Each move of a parent keeps the invariant, under Presumed Abort.
use Rattle.std.proofs.Common.{arith}
use Rattle.proof_pairs.specs.Invariant.{PresumedAbort}
use Rattle.proof_pairs.specs.Keeps.{KeepsInvariant}
use Rattle.proof_pairs.specs.ParentMoves
use Rattle.proof_pairs.specs.Standing

pub accepts : KeepsInvariant PresumedAbort ParentMoves.MayAccept ParentMoves.accepts
accepts r h g = grind arith

pub hears_yes : KeepsInvariant PresumedAbort ParentMoves.MayHearYes ParentMoves.hears_yes
hears_yes r h g = grind arith

pub hears_read : KeepsInvariant PresumedAbort ParentMoves.MayHearRead ParentMoves.hears_read
hears_read r h g = grind arith

pub gives_up : KeepsInvariant PresumedAbort ParentMoves.MayGiveUp ParentMoves.gives_up
gives_up r h g = grind arith

pub hears_ack : KeepsInvariant PresumedAbort ParentMoves.MayHearAck ParentMoves.hears_ack
hears_ack r h g = grind arith

pub hardens_parent : KeepsInvariant PresumedAbort ParentMoves.MayHardenParent ParentMoves.hardens_parent
hardens_parent r h g = grind arith

pub ends : KeepsInvariant PresumedAbort ParentMoves.MayEndCommit ParentMoves.ends
ends r h g = grind arith

pub answers_commit : KeepsInvariant PresumedAbort ParentMoves.MayAnswerCommit ParentMoves.answers_commit
answers_commit r h g = grind arith

pub asks_for_votes : KeepsInvariant PresumedAbort ParentMoves.MayAskForVotes ParentMoves.asks_for_votes
asks_for_votes r h g = grind arith

pub hears_no : KeepsInvariant PresumedAbort ParentMoves.MayHearNo ParentMoves.hears_no
hears_no r h g = grind arith

pub aborts : KeepsInvariant PresumedAbort ParentMoves.MayAbort ParentMoves.aborts
aborts r h g = grind arith

pub presumes : KeepsInvariant PresumedAbort ParentMoves.MayPresumeAbort ParentMoves.answers_abort
presumes r h g = grind arith

pub trims_parent : KeepsInvariant PresumedAbort Standing.IsUnknownUnderAbort ParentMoves.trims_parent
trims_parent r h g = grind arith
