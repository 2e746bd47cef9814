-- The parent's half of a reading, by what its process remembers of the case.
use Rattle.std.proofs.Common.{◌≡◌, ◌∙◌, ◌||◌, Bool, true, false, refl, sym, ap}
use Rattle.std.specs.List.{list_any}
use Rattle.protocol.specs.declared.names.Case.{Case}
use Rattle.protocol.specs.declared.names.Ticket.{Ticket}
use Rattle.protocol.specs.declared.names.Presumption.{Presumption}
use Rattle.protocol.specs.declared.names.Presumption.TheVariants.{PresumeAbort, PresumeCommit}
use Rattle.protocol.specs.declared.standings.Standing.{Standing}
use Rattle.protocol.specs.declared.standings.Standing.TheVariants.{Unknown, Prepared, Committing, Aborting, Heuristic}
use Rattle.protocol_words.specs.Variants.{ActiveStanding, CollectingStanding, VoteNo, VoteRead, VoteYes}
use Rattle.protocol.specs.Names.{same_txn}
use Rattle.protocol.specs.Records.{has, in_list, is_collecting, is_prepare, is_commit, is_abort, is_end}
use Rattle.protocol.specs.Nodes.{Place, Role, AtRoot, Below, AtLeaf, Node, kept, IsCoordinator}
use Rattle.protocol.specs.Memory.{Memory, Phase, Idle, Open, Asked, Over, memory_of, has_acked, same_vote}
use Rattle.protocol.specs.Outcomes.{has_accepted, has_heard_vote, follows, is_told_aborted}
use Rattle.protocol.specs.Standings.{coordinator_view, standing_in, standing_of, phase_standing}
use Rattle.protocol.specs.Views.{IsOpenAlike}
use Rattle.proof_pairs.specs.Reading.{HeldPhase, Active, Collecting, Closed}
use Rattle.proof_pairs.specs.readings.ReadingOf.{ParentHalf, parent_half, parent_half_at, phase_by, is_begun, acknowledged, is_told_committed, is_told_of_txn}
use Rattle.protocol.specs.Audits.{is_collecting_naming, is_prepare_naming, is_decision_naming}
use Rattle.proof_processes.proofs.Cases.{viewed}
use Rattle.proof_processes.proofs.Phases.{standing_at, active_unrecorded, unrecorded_stands}

-- what a process that is up says of a case that it remembers so
abbrev pub live_phase : Phase → HeldPhase
live_phase Idle = Closed
live_phase Open = Active
live_phase Asked = Collecting
live_phase Over = Closed

abbrev pub phase_of : Bool → Phase → HeldPhase
phase_of true ph = Closed
phase_of false ph = live_phase ph

-- the half by the phase, whether the ticket is remembered as accepted, and whether its ACK is
abbrev pub half_of : Phase → Bool → Bool → Node → Case → Ticket → ParentHalf
half_of ph accepted acked n c t = record {
  failed = n.failed;
  phase = phase_of n.failed ph;
  accepted = accepted;
  acked = acked;
  took_part = has_accepted n c t;
  first_yes = has_heard_vote n c t (same_vote VoteYes);
  first_no = has_heard_vote n c t (same_vote VoteNo);
  first_read = has_heard_vote n c t (same_vote VoteRead);
  told_committed = list_any (is_told_committed c.txn) n.told;
  told_aborted = list_any (is_told_aborted c.txn) n.told;
  begun = is_begun ph || list_any (is_told_of_txn c.txn) n.told || list_any
      (λ y. same_txn y c.txn) n.found_undecided || has (is_commit c) n.life;
  obeyed_abort = follows (is_abort c) (is_prepare c) n.life;
  collecting_kept = has (is_collecting c) (kept n);
  collecting_forced = has (is_collecting c) n.forced;
  own_prepare_kept = has (is_prepare c) (kept n);
  own_prepare_forced = has (is_prepare c) n.forced;
  own_prepare_ever = has (is_prepare c) n.durable;
  commit_kept = has (is_commit c) (kept n);
  commit_forced = has (is_commit c) n.forced;
  abort_kept = has (is_abort c) (kept n);
  end_kept = has (is_end c) (kept n);
  collects = has (is_collecting_naming c t) (kept n);
  names = has (is_prepare_naming c t) (kept n);
  owed = has (is_decision_naming c t) (kept n);
}

abbrev pub acked_of : Memory → Case → Ticket → Bool
acked_of m c t = has_acked m.acks (acknowledged c.txn.presumption) t

-- the half as memory says
abbrev pub remembered_half : Memory → Node → Case → Ticket → ParentHalf
remembered_half m n c t = half_of m.phase (in_list m.accepted t) (acked_of m c t) n c t

by_phase : (s : Standing) (m : Memory) (n : Node) (c : Case) (t : Ticket)
    → phase_by n.failed s ≡ phase_of n.failed m.phase → parent_half_at s m n c t ≡ remembered_half m n c t
by_phase s m n c t e = rw e refl

-- an Active case is open
open_if_active : (p : Presumption) (ph : Phase) → phase_standing p ph ≡ ActiveStanding → ph ≡ Open
open_if_active p Open e = refl
open_if_active PresumeAbort Idle e = absurd (cc)
open_if_active PresumeCommit Idle e = absurd (cc)
open_if_active PresumeAbort Asked e = absurd (cc)
open_if_active PresumeCommit Asked e = absurd (cc)
open_if_active PresumeAbort Over e = absurd (cc)
open_if_active PresumeCommit Over e = absurd (cc)

pub active_is_open : (place : Place) (n : Node) (c : Case) → (coordinator_view place n c).standing
    ≡ ActiveStanding
    → (memory_of place n c).phase ≡ Open
active_is_open place n c e =
    let ph = (memory_of place n c).phase in
    let s : standing_at (kept n) c ph ≡ ActiveStanding = sym (viewed place n c) ∙ e in
    open_if_active c.txn.presumption ph
    (sym (unrecorded_stands (kept n) c ph (active_unrecorded (kept n) c ph s)) ∙ s)

-- a case that is neither open nor asked is closed
closed_so : (s : Standing) → (s ≡ ActiveStanding → ⊥) → (s ≡ CollectingStanding → ⊥) → phase_by false s
    ≡ Closed
closed_so ActiveStanding f g = absurd (f refl)
closed_so CollectingStanding f g = absurd (g refl)
closed_so Unknown f g = refl
closed_so Prepared f g = refl
closed_so Committing f g = refl
closed_so Aborting f g = refl
closed_so Heuristic f g = refl

phases : (s : Standing) (ph : Phase) → (s ≡ ActiveStanding → ph ≡ Open)
    → (ph ≡ Open → s ≡ ActiveStanding)
    → (ph ≡ Asked → s ≡ CollectingStanding) → (s ≡ CollectingStanding → ph ≡ Asked)
    → phase_by false s ≡ live_phase ph
phases s Open f g k l = rw (g refl) refl
phases s Asked f g k l = rw (k refl) refl
phases s Idle f g k l = closed_so s (λ e. absurd (let x = f e in cc)) (λ e. absurd (let x = l e in cc))
phases s Over f g k l = closed_so s (λ e. absurd (let x = f e in cc)) (λ e. absurd (let x = l e in cc))

stands_in : (role : Role) (place : Place) (n : Node) (c : Case) → IsCoordinator role
    → standing_in role place n c ≡ (coordinator_view place n c).standing
stands_in AtRoot place n c i = refl
stands_in (Below p) place n c i = refl
stands_in (AtLeaf p) place n c i = absurd i

at_failed : (b : Bool) (s : Standing) (ph : Phase) → b ≡ false → phase_by false s ≡ live_phase ph
    → phase_by b s ≡ phase_of b ph
at_failed false s ph e f = f
at_failed true s ph e f = absurd (cc)

-- of a process that is up
pub half_is : (place : Place) (n : Node) (c : Case) (t : Ticket) → n.failed ≡ false → IsCoordinator place.role
    → IsOpenAlike place n c
    → parent_half place n c t ≡ remembered_half (memory_of place n c) n c t
half_is place n c t up role alike =
    let m = memory_of place n c in
    let v = (coordinator_view place n c).standing in
    by_phase (standing_of place n c) m n c t
    (ap (λ s. phase_by n.failed s) (stands_in place.role place n c role)
    ∙ at_failed n.failed v m.phase up
    (phases v m.phase (active_is_open place n c) alike.open_is_active alike.asked_is_collecting
    alike.collecting_is_asked))

at_down : (b : Bool) (s : Standing) (ph : Phase) → b ≡ true → phase_by b s ≡ phase_of b ph
at_down true s ph e = refl
at_down false s ph e = absurd (cc)

-- and of one that failed
pub half_is_down : (place : Place) (n : Node) (c : Case) (t : Ticket) → n.failed ≡ true
    → parent_half place n c t ≡ remembered_half (memory_of place n c) n c t
half_is_down place n c t down =
    by_phase (standing_of place n c) (memory_of place n c) n c t (at_down n.failed _ _ down)
