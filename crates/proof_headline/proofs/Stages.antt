-- The stages of a step on one pair: the process's half, who takes part, and the outcome.
use Rattle.std.proofs.Common.{◌≡◌, Bool, true, false, refl, arith}
use Rattle.protocol.specs.declared.names.Presumption.{Presumption}
use Rattle.protocol.specs.declared.names.Presumption.TheVariants.{PresumeAbort, PresumeCommit}
use Rattle.proof_pairs.specs.CascadedMoves.{MayCommitAbove, MayTakePart, commits_above, takes_part}
use Rattle.proof_pairs.specs.Invariant.{Common}
use Rattle.proof_pairs.specs.Keeps.{FollowsReading, KeepsInvariant}
use Rattle.proof_pairs.specs.Reading.{Reading}
use Rattle.proof_pairs.specs.Standing.{Consents}
use Rattle.proof_pairs.proofs.CascadedAbort
use Rattle.proof_pairs.proofs.CascadedCommit
use Rattle.proof_pairs.proofs.Later.{later-later, later-now}
use Rattle.proof_pairs.specs.readings.ReadingOf.{ChildHalf, ParentHalf, Wire, reading_from}
use Rattle.proof_processes.specs.WorldHolds.{InvariantOf}

keeps_taking_part : (p : Presumption) → KeepsInvariant (InvariantOf p) MayTakePart takes_part
keeps_taking_part PresumeAbort = CascadedAbort.takes_part
keeps_taking_part PresumeCommit = CascadedCommit.takes_part

keeps_committing : (p : Presumption) → KeepsInvariant (InvariantOf p) MayCommitAbove commits_above
keeps_committing PresumeAbort = CascadedAbort.commits_above
keeps_committing PresumeCommit = CascadedCommit.commits_above

pub stays : (p : Presumption) (r : Reading) → InvariantOf p r → FollowsReading (InvariantOf p) r r
stays p r h = record { invariant = h; later = later-now r }

pub onward : (p : Presumption) (r s t : Reading) → FollowsReading (InvariantOf p) r s
    → FollowsReading (InvariantOf p) s t
    → FollowsReading (InvariantOf p) r t
onward p r s t f g = record { invariant = g.invariant; later = later-later r s t f.later g.later }

-- Another case may take part now, if it was given and its transaction is undecided.
pub part_stage : (p : Presumption) (root leaf o old new : Bool) (up : ParentHalf) (down : ChildHalf)
    (v : Wire)
    → InvariantOf p (reading_from root leaf o old up down v) → (old ≡ true → new ≡ true)
    → (root ≡ false → old ≡ false → new ≡ true → (o ≡ false) × (v.given ≡ true))
    → FollowsReading (InvariantOf p) (reading_from root leaf o old up down v)
    (reading_from root leaf o new up down v)
part_stage p true leaf o old new up down v h grows may = stays p (reading_from true leaf o old up down v) h
part_stage p false leaf o true true up down v h grows may = stays p
    (reading_from false leaf o true up down v) h
part_stage p false leaf o true false up down v h grows may = absurd (let x = grows refl in cc)
part_stage p false leaf o false false up down v h grows may = stays p
    (reading_from false leaf o false up down v) h
part_stage p false leaf o false true up down v h grows may =
    let m = may refl refl refl in
    keeps_taking_part p (reading_from false leaf o false up down v) h
    (record { cascaded = refl; known = m.1; undecided_above = m.0 })

-- Its transaction may be committed now, if the case has consented.
pub outcome_stage : (p : Presumption) (leaf old new part : Bool) (up : ParentHalf) (down : ChildHalf)
    (v : Wire)
    → InvariantOf p (reading_from false leaf old part up down v) → (old ≡ true → new ≡ true)
    → (new ≡ true → part ≡ true → ((reading_from false leaf old part up down v).refused ≡ false)
    × Consents (reading_from false leaf old part up down v))
    → FollowsReading (InvariantOf p) (reading_from false leaf old part up down v)
    (reading_from false leaf new part
    up down v)
outcome_stage p leaf true true part up down v h grows may = stays p
    (reading_from false leaf true part up down v) h
outcome_stage p leaf true false part up down v h grows may = absurd (let x = grows refl in cc)
outcome_stage p leaf false false part up down v h grows may = stays p
    (reading_from false leaf false part up down v) h
outcome_stage p leaf false true part up down v h grows may =
    keeps_committing p (reading_from false leaf false part up down v) h (record {
      cascaded = refl;
      consented
          = may refl;
    })

-- A case that accepts a ticket that has said nothing: its transaction is undecided.
pub accepting_is_undecided : (r : Reading) → Common r → r.took_part ≡ true → r.took_part_up ≡ true
    → r.sent_yes ≡ false
    → r.sent_read ≡ false → r.outcome ≡ false
accepting_is_undecided r h t u y d = grind arith

-- A ticket that no case accepted has said nothing.
pub not_accepted_is_silent : (r : Reading) → Common r → r.took_part ≡ false → (r.sent_yes
    ≡ false) × (r.sent_read ≡ false)
not_accepted_is_silent r h t = grind arith
