-- A child's moves keep the invariant under either presumption, one after another.
use Rattle.std.proofs.Common.{◌≡◌, ◌⊎◌, Bool, true, false, refl, arith}
use Rattle.protocol.specs.declared.names.Presumption.{Presumption}
use Rattle.protocol.specs.declared.names.Presumption.TheVariants.{PresumeAbort, PresumeCommit}
use Rattle.proof_pairs.specs.Reading.{Reading}
use Rattle.proof_pairs.specs.Invariant.{Common}
use Rattle.proof_pairs.specs.Keeps.{FollowsReading}
use Rattle.proof_pairs.specs.Standing.{IsInDoubt}
use Rattle.proof_pairs.specs.ChildMoves
use Rattle.proof_pairs.proofs.Later.{later-now, later-later}
use Rattle.proof_pairs.proofs.ChildAbort
use Rattle.proof_pairs.proofs.ChildCommit
use Rattle.proof_processes.specs.WorldHolds.{InvariantOf}

abbrev pub Fits : Presumption → Reading → Reading → Type 0
Fits pr r s = FollowsReading (InvariantOf pr) r s

pub unmoved : (pr : Presumption) (r : Reading) → InvariantOf pr r → Fits pr r r
unmoved pr r h = record { invariant = h; later = later-now r }

pub onward : (pr : Presumption) (r s u : Reading) → Fits pr r s → Fits pr s u → Fits pr r u
onward pr r s u f g = record { invariant = g.invariant; later = later-later r s u f.later g.later }

pub common_of : (pr : Presumption) (r : Reading) → InvariantOf pr r → Common r
common_of PresumeAbort r h = h.common
common_of PresumeCommit r h = h.common

pub issues : (pr : Presumption) (r : Reading) → InvariantOf pr r → ChildMoves.MayIssue r
    → Fits pr r (ChildMoves.issues r)
issues PresumeAbort r h g = ChildAbort.issues r h g
issues PresumeCommit r h g = ChildCommit.issues r h g

pub trims_child : (pr : Presumption) (r : Reading) → InvariantOf pr r → ChildMoves.MayTrimChild r
    → Fits pr r (ChildMoves.trims_child r)
trims_child PresumeAbort r h g = ChildAbort.trims_child r h g
trims_child PresumeCommit r h g = ChildCommit.trims_child r h g

pub votes_yes : (pr : Presumption) (r : Reading) → InvariantOf pr r → ChildMoves.MayVote r
    → Fits pr r (ChildMoves.votes_yes r)
votes_yes PresumeAbort r h g = ChildAbort.votes_yes r h g
votes_yes PresumeCommit r h g = ChildCommit.votes_yes r h g

pub votes_no : (pr : Presumption) (r : Reading) → InvariantOf pr r → ChildMoves.MayVote r
    → Fits pr r (ChildMoves.votes_no r)
votes_no PresumeAbort r h g = ChildAbort.votes_no r h g
votes_no PresumeCommit r h g = ChildCommit.votes_no r h g

pub votes_read : (pr : Presumption) (r : Reading) → InvariantOf pr r → ChildMoves.MayVote r
    → Fits pr r (ChildMoves.votes_read r)
votes_read PresumeAbort r h g = ChildAbort.votes_read r h g
votes_read PresumeCommit r h g = ChildCommit.votes_read r h g

pub drops : (pr : Presumption) (r : Reading) → InvariantOf pr r → ChildMoves.MayDrop r
    → Fits pr r (ChildMoves.drops r)
drops PresumeAbort r h g = ChildAbort.drops r h g
drops PresumeCommit r h g = ChildCommit.drops r h g

pub repeats_yes : (pr : Presumption) (r : Reading) → InvariantOf pr r → ChildMoves.MayRepeatYes r
    → Fits pr r (ChildMoves.repeats_yes r)
repeats_yes PresumeAbort r h g = ChildAbort.repeats_yes r h g
repeats_yes PresumeCommit r h g = ChildCommit.repeats_yes r h g

pub refuses : (pr : Presumption) (r : Reading) → InvariantOf pr r → ChildMoves.MayRefuse r
    → Fits pr r (ChildMoves.refuses r)
refuses PresumeAbort r h g = ChildAbort.refuses r h g
refuses PresumeCommit r h g = ChildCommit.refuses r h g

pub asks : (pr : Presumption) (r : Reading) → InvariantOf pr r → ChildMoves.MayAsk r
    → Fits pr r (ChildMoves.asks r)
asks PresumeAbort r h g = ChildAbort.asks r h g
asks PresumeCommit r h g = ChildCommit.asks r h g

pub decides_alone : (pr : Presumption) (o : Bool) (r : Reading) → InvariantOf pr r
    → ChildMoves.MayDecideAlone r
    → Fits pr r (ChildMoves.decides_alone o r)
decides_alone PresumeAbort o r h g = ChildAbort.decides_alone o r h g
decides_alone PresumeCommit o r h g = ChildCommit.decides_alone o r h g

pub forgets : (pr : Presumption) (r : Reading) → InvariantOf pr r → ChildMoves.MayForget r
    → Fits pr r (ChildMoves.forgets r)
forgets PresumeAbort r h g = ChildAbort.forgets r h g
forgets PresumeCommit r h g = ChildCommit.forgets r h g

pub hardens : (pr : Presumption) (r : Reading) → InvariantOf pr r → r.child_failed ≡ false
    → Fits pr r (ChildMoves.hardens_child r)
hardens PresumeAbort r h up = ChildAbort.hardens_child r h (record { up = up })
hardens PresumeCommit r h up = ChildCommit.hardens_child r h (record { up = up })

-- What the invariant says of a ticket that was asked, or told an outcome.

pub asked_is_issued : (r : Reading) → Common r → r.sent_prepare ≡ true → r.issued ≡ true
asked_is_issued r h e = h.acceptance_is_of_an_issued_ticket (h.asked_takes_part e).0

pub told_is_issued : (r : Reading) → Common r → (r.sent_commit ≡ true) ⊎ (r.sent_abort ≡ true)
    → r.issued ≡ true
told_is_issued r h e = by_issued r.issued refl
  where
    by_issued : (b : Bool) → r.issued ≡ b → r.issued ≡ true
    by_issued true f = f
    by_issued false f = absurd (let g = (h.unissued f).told_nothing in grind (arith, e, g))

pub commits_forced : (pr : Presumption) → pr ≡ PresumeAbort → (r : Reading) → InvariantOf pr r
    → ChildMoves.MayLearnCommit r
    → Fits pr r (ChildMoves.commits_forced r)
commits_forced PresumeAbort e r h g = ChildAbort.commits r h g
commits_forced PresumeCommit e r h g = absurd (cc)

pub commits : (pr : Presumption) → pr ≡ PresumeCommit → (r : Reading) → InvariantOf pr r
    → ChildMoves.MayLearnCommit r
    → Fits pr r (ChildMoves.commits r)
commits PresumeCommit e r h g = ChildCommit.commits r h g
commits PresumeAbort e r h g = absurd (cc)

pub rolls_back : (pr : Presumption) → pr ≡ PresumeAbort → (r : Reading) → InvariantOf pr r
    → ChildMoves.MayLearnAbort r
    → Fits pr r (ChildMoves.rolls_back r)
rolls_back PresumeAbort e r h g = ChildAbort.rolls_back r h g
rolls_back PresumeCommit e r h g = absurd (cc)

pub rolls_back_forced : (pr : Presumption) → pr ≡ PresumeCommit → (r : Reading) → InvariantOf pr r
    → ChildMoves.MayLearnAbort r
    → Fits pr r (ChildMoves.rolls_back_forced r)
rolls_back_forced PresumeCommit e r h g = ChildCommit.rolls_back r h g
rolls_back_forced PresumeAbort e r h g = absurd (cc)

pub acknowledges_commit : (pr : Presumption) → pr ≡ PresumeAbort → (r : Reading) → InvariantOf pr r
    → ChildMoves.MayAcknowledgeCommit r
    → Fits pr r (ChildMoves.acknowledges r)
acknowledges_commit PresumeAbort e r h g = ChildAbort.acknowledges r h g
acknowledges_commit PresumeCommit e r h g = absurd (cc)

pub acknowledges_abort : (pr : Presumption) → pr ≡ PresumeCommit → (r : Reading) → InvariantOf pr r
    → ChildMoves.MayAcknowledgeAbort r
    → Fits pr r (ChildMoves.acknowledges r)
acknowledges_abort PresumeCommit e r h g = ChildCommit.acknowledges r h g
acknowledges_abort PresumeAbort e r h g = absurd (cc)

pub drops_and_acknowledges : (pr : Presumption) → pr ≡ PresumeCommit → (r : Reading) → InvariantOf pr r
    → ChildMoves.MayDropAndAcknowledge r
    → Fits pr r (ChildMoves.drops_and_acknowledges r)
drops_and_acknowledges PresumeCommit e r h g = ChildCommit.drops_and_acknowledges r h g
drops_and_acknowledges PresumeAbort e r h g = absurd (cc)

-- a ticket in doubt whose branch no operator has decided never had a decision in the forced front
pub never_decided : (r : Reading) → Common r → r.heuristic_kept ≡ false → IsInDoubt r
    → r.heuristic_ever ≡ false
never_decided r h e g = grind (arith, h.heuristic_stays, h.forced_heuristic, h.forgot_stays)

pub learns_commit : (pr : Presumption) → pr ≡ PresumeAbort → (r : Reading) → InvariantOf pr r
    → ChildMoves.MayLearnCommit r
    → Fits pr r (ChildMoves.learns_commit_forced r)
learns_commit PresumeAbort e r h g = ChildAbort.learns_commit r h g
learns_commit PresumeCommit e r h g = absurd (cc)

pub learns_abort : (pr : Presumption) → pr ≡ PresumeCommit → (r : Reading) → InvariantOf pr r
    → ChildMoves.MayLearnAbort r
    → Fits pr r (ChildMoves.learns_abort_forced r)
learns_abort PresumeCommit e r h g = ChildCommit.learns_abort r h g
learns_abort PresumeAbort e r h g = absurd (cc)

pub acknowledges_settled : (pr : Presumption) (r : Reading) → InvariantOf pr r → ChildMoves.MayAcknowledge r
    → Fits pr r (ChildMoves.acknowledges r)
acknowledges_settled PresumeAbort r h g = ChildAbort.acknowledges_settled r h g
acknowledges_settled PresumeCommit r h g = ChildCommit.acknowledges_settled r h g
