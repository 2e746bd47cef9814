-- The reading of a pair, read off the world: the parent's process, the child's process and the net.
use Rattle.std.specs.Prelude.{Bool, true, false, ◌&&◌, ◌||◌, Option, Some, None, List}
use Rattle.std.specs.List.{list_any}
use Rattle.protocol.specs.declared.names.Case.{Case}
use Rattle.protocol.specs.declared.names.Ticket.{Ticket}
use Rattle.protocol.specs.declared.names.Txn.{Txn}
use Rattle.protocol.specs.declared.names.Outcome.{Outcome}
use Rattle.protocol_words.specs.Variants.{AbortRecord, AbortedOutcome, ActiveStanding, CollectingRecord, CollectingStanding, CommitRecord, CommittedOutcome, ConcludedCommitted, PrepareRecord, ToldRecord, VoteNo, VoteRead, VoteYes}
use Rattle.protocol.specs.declared.messages.Message.{Message}
use Rattle.protocol.specs.declared.messages.Message.TheVariants.{Joined, Prepare, No, Ack, Inquire}
use Rattle.protocol.specs.declared.messages.Envelope.{Envelope}
use Rattle.protocol.specs.declared.records.Record.{Record}
use Rattle.protocol.specs.declared.standings.Standing.{Standing}
use Rattle.protocol.specs.declared.standings.Standing.TheVariants.{Unknown, Prepared, Committing, Aborting, Heuristic}
use Rattle.protocol.specs.declared.events.Told.{Told}
use Rattle.protocol.specs.declared.events.Conclusion.{Conclusion}
use Rattle.protocol.specs.declared.names.Presumption.{Presumption}
use Rattle.protocol.specs.declared.names.Presumption.TheVariants.{PresumeAbort, PresumeCommit}
use Rattle.protocol.specs.declared.trees.TreeProcess.{TreeProcess}
use Rattle.protocol.specs.Names.{same_txn, same_case, child_case, process_of}
use Rattle.protocol.specs.Records.{has, in_list, is_branch, is_collecting, is_prepare, is_commit, is_abort, is_end, is_prepared, is_committed, is_rolled_back, is_heuristic, is_decided, is_forgot}
use Rattle.protocol.specs.Nodes.{Place, place_of, role_of, is_leaf, Node, kept}
use Rattle.protocol.specs.Memory.{Memory, Phase, Idle, Open, Asked, Over, memory_of, has_acked, same_vote}
use Rattle.protocol.specs.Standings.{standing_of}
use Rattle.protocol.specs.World.{World}
use Rattle.protocol.specs.Outcomes.{sent, has_accepted, has_heard_vote, is_commit_outcome, is_yes_message, is_read_message, is_outcome_message, is_joined_message, is_told_aborted, follows}
use Rattle.proof_pairs.specs.Reading.{Reading, HeldPhase, Active, Collecting, Closed, is_live}
use Rattle.protocol.specs.Audits.{is_promise, is_learnt_commit, is_learnt_abort, is_committing, is_collecting_naming, is_prepare_naming, is_decision_naming}

-- Tests of one record.

-- Tests of one message.

-- PREPARE of the case
abbrev pub is_prepare_message : Case → Message → Bool
is_prepare_message d (Prepare e n) = same_case e d
is_prepare_message d _ = false

-- NO of the case
abbrev pub is_no_message : Case → Message → Bool
is_no_message d (No e) = same_case e d
is_no_message d _ = false

-- an ACK of the case
abbrev pub is_ack_message : Case → Message → Bool
is_ack_message d (Ack e o fs) = same_case e d
is_ack_message d _ = false

-- INQUIRE of the case
abbrev pub is_inquiry_message : Case → Message → Bool
is_inquiry_message d (Inquire e) = same_case e d
is_inquiry_message d _ = false

-- JOINED gave the case its own ticket
abbrev pub gives_case : Case → Message → Bool
gives_case c (Joined d u) = same_case (child_case d.txn u) c
gives_case c _ = false

-- What a process says.

-- the case can still be decided there
abbrev pub phase_by : Bool → Standing → HeldPhase
phase_by true s = Closed
phase_by false ActiveStanding = Active
phase_by false CollectingStanding = Collecting
phase_by false Unknown = Closed
phase_by false Prepared = Closed
phase_by false Committing = Closed
phase_by false Aborting = Closed
phase_by false Heuristic = Closed

-- A case that kept no promise, never forced one, is closed, was known and did not say READ has died: it
-- never consents.
unfoldable pub is_dead : Bool → Bool → Bool → Bool → Bool
is_dead true live known read = false
is_dead false true known read = false
is_dead false false false read = false
is_dead false false true true = false
is_dead false false true false = true

-- the transaction was concluded as committed
abbrev pub is_committed_conclusion : Conclusion → Bool
is_committed_conclusion ConcludedCommitted = true
is_committed_conclusion _ = false

-- the outcome that is acknowledged
abbrev pub acknowledged : Presumption → Outcome
acknowledged PresumeAbort = CommittedOutcome
acknowledged PresumeCommit = AbortedOutcome

-- what the root told of the transaction
abbrev pub is_told_committed : Txn → Told → Bool
is_told_committed x a = same_txn a.txn x && is_committed_conclusion a.conclusion

-- the application was told of the transaction
abbrev pub is_told_of_txn : Txn → Told → Bool
is_told_of_txn x a = same_txn a.txn x

-- in memory the case was begun since the last restart
abbrev pub is_begun : Phase → Bool
is_begun Idle = false
is_begun Open = true
is_begun Asked = true
is_begun Over = true

-- The parent's half: what its process says of the case and of the ticket.
pub record ParentHalf : Type 0 where
  pub failed : Bool
  pub phase : HeldPhase
  pub accepted : Bool
  pub acked : Bool
  pub took_part : Bool
  pub first_yes : Bool
  pub first_no : Bool
  pub first_read : Bool
  pub told_committed : Bool
  pub told_aborted : Bool
  -- the root began the transaction, by all that is left of it
  pub begun : Bool
  -- an Abort was once appended after the promise
  pub obeyed_abort : Bool
  pub collecting_kept : Bool
  pub collecting_forced : Bool
  pub own_prepare_kept : Bool
  pub own_prepare_forced : Bool
  pub own_prepare_ever : Bool
  pub commit_kept : Bool
  pub commit_forced : Bool
  pub abort_kept : Bool
  pub end_kept : Bool
  pub collects : Bool
  pub names : Bool
  pub owed : Bool

-- by where the case stands, and what the process remembers of it
abbrev pub parent_half_at : Standing → Memory → Node → Case → Ticket → ParentHalf
parent_half_at s m n c t =
    record {
      failed = n.failed;
      phase = phase_by n.failed s;
      accepted = in_list m.accepted t;
      acked = has_acked m.acks (acknowledged c.txn.presumption) t;
      took_part = has_accepted n c t;
      first_yes = has_heard_vote n c t (same_vote VoteYes);
      first_no = has_heard_vote n c t (same_vote VoteNo);
      first_read = has_heard_vote n c t (same_vote VoteRead);
      told_committed = list_any (is_told_committed c.txn) n.told;
      told_aborted = list_any (is_told_aborted c.txn) n.told;
      begun = is_begun m.phase || list_any (is_told_of_txn c.txn) n.told || list_any
          (λ y. same_txn y c.txn) n.found_undecided || has (is_commit c) n.life;
      obeyed_abort = follows (is_abort c) (is_prepare c) n.life;
      collecting_kept = has (is_collecting c) (kept n);
      collecting_forced = has (is_collecting c) n.forced;
      own_prepare_kept = has (is_prepare c) (kept n);
      own_prepare_forced = has (is_prepare c) n.forced;
      own_prepare_ever = has (is_prepare c) n.durable;
      commit_kept = has (is_commit c) (kept n);
      commit_forced = has (is_commit c) n.forced;
      abort_kept = has (is_abort c) (kept n);
      end_kept = has (is_end c) (kept n);
      collects = has (is_collecting_naming c t) (kept n);
      names = has (is_prepare_naming c t) (kept n);
      owed = has (is_decision_naming c t) (kept n);
    }

-- what a process says of a pair as the parent
abbrev pub parent_half : Place → Node → Case → Ticket → ParentHalf
parent_half place n c t = parent_half_at (standing_of place n c) (memory_of place n c) n c t

-- The child's half: what its process says of the ticket's case.
pub record ChildHalf : Type 0 where
  pub failed : Bool
  pub is_open : Bool
  -- the outcome was once written: an abort, or a commit that ended the case
  pub obeyed_abort : Bool
  pub committed : Bool
  pub prepared_kept : Bool
  pub prepared_forced : Bool
  pub prepared_ever : Bool
  pub learnt_commit_kept : Bool
  pub learnt_commit_forced : Bool
  pub learnt_abort_kept : Bool
  pub learnt_abort_forced : Bool
  pub heuristic_kept : Bool
  pub heuristic_forced : Bool
  pub heuristic_ever : Bool
  pub heuristic_commits : Bool
  pub forgot_kept : Bool
  pub forgot_forced : Bool
  pub forgot_ever : Bool

-- by where the case stands
abbrev pub child_half_at : Standing → Node → Case → ChildHalf
child_half_at s k d =
    record {
      failed = k.failed;
      is_open = is_live (phase_by k.failed s);
      obeyed_abort = has (is_learnt_abort d) k.life || follows (is_abort d) (is_prepare d) k.life;
      committed = has (is_committing d) k.life;
      prepared_kept = has (is_promise d) (kept k);
      prepared_forced = has (is_promise d) k.forced;
      prepared_ever = has (is_promise d) k.durable;
      learnt_commit_kept = has (is_learnt_commit d) (kept k);
      learnt_commit_forced = has (is_learnt_commit d) k.forced;
      learnt_abort_kept = has (is_learnt_abort d) (kept k) ||
          (has (is_abort d) (kept k) && has (is_prepare d) (kept k));
      learnt_abort_forced = has (is_learnt_abort d) k.forced ||
          (has (is_abort d) k.forced && has (is_prepare d) k.forced);
      heuristic_kept = has (is_heuristic d) (kept k);
      heuristic_forced = has (is_heuristic d) k.forced;
      heuristic_ever = has (is_heuristic d) k.durable;
      heuristic_commits = has (is_decided d CommittedOutcome) (kept k) || has
          (is_decided d CommittedOutcome) k.durable;
      forgot_kept = has (is_forgot d) (kept k);
      forgot_forced = has (is_forgot d) k.forced;
      forgot_ever = has (is_forgot d) k.durable;
    }

-- what a process says of a pair as the child
abbrev pub child_half : Place → Node → Case → ChildHalf
child_half place k d = child_half_at (standing_of place k d) k d

-- The net's part: what was ever sent of the ticket's case d, of JOINED, and of the parent's own case c.
pub record Wire : Type 0 where
  pub issued : Bool
  pub given : Bool
  pub read_up : Bool
  pub prepare : Bool
  pub yes : Bool
  pub no : Bool
  pub read : Bool
  pub commit : Bool
  pub abort : Bool
  pub ack : Bool
  pub inquire : Bool

-- what was sent between the two of a pair, and up by its parent
abbrev pub wire : Case → Ticket → List Envelope → Wire
wire c t net =
    let d = child_case c.txn t in
    record {
      issued = sent (is_joined_message c t) net;
      given = sent (gives_case c) net;
      read_up = sent (is_read_message c) net;
      prepare = sent (is_prepare_message d) net;
      yes = sent (is_yes_message d) net;
      no = sent (is_no_message d) net;
      read = sent (is_read_message d) net;
      commit = sent (is_outcome_message CommittedOutcome d) net;
      abort = sent (is_outcome_message AbortedOutcome d) net;
      ack = sent (is_ack_message d) net;
      inquire = sent (is_inquiry_message d) net;
    }

-- The whole.

-- a case at the root is born as it is begun, another as its ticket is given; the root's case takes part
-- as it is born
abbrev pub is_born : Bool → Bool → Bool → Bool
is_born true begun given = begun
is_born false begun given = given

-- a root's case takes part once it is begun, another one where it was accepted by one that does
abbrev pub is_participant : Bool → Bool → Bool → Bool
is_participant true born above = born
is_participant false born above = above

-- The root's case has refused if it is dead: closed, with no Commit kept and none that was ever forced.
-- Another also if it obeyed an abort.
abbrev pub is_refused : Bool → Bool → Bool → Bool → Bool
is_refused true dead_at_root obeyed dead = dead_at_root
is_refused false dead_at_root obeyed dead = obeyed || dead

-- Of what the pair is, the outcome, whether the parent's case takes part (by the pair above), and the
-- three parts.
abbrev pub reading_from : Bool → Bool → Bool → Bool → ParentHalf → ChildHalf → Wire → Reading
reading_from root manager outcome above p k v =
    record {
      parent_is_root = root;
      child_is_manager = manager;
      outcome = outcome;
      failed = p.failed;
      born = is_born root p.begun v.given;
      phase = p.phase;
      accepted = p.accepted;
      acked = p.acked;
      took_part = p.took_part;
      first_yes = p.first_yes;
      first_no = p.first_no;
      first_read = p.first_read;
      told_committed = root && p.told_committed;
      told_aborted = root && p.told_aborted;
      refused = is_refused root (is_dead (p.commit_kept || outcome) (is_live p.phase) p.begun false)
          p.obeyed_abort (is_dead (p.own_prepare_kept || p.own_prepare_ever) (is_live p.phase) v.given
          v.read_up);
      took_part_up = is_participant root (is_born root p.begun v.given) above;
      read_up = v.read_up;
      collecting_kept = p.collecting_kept;
      collecting_forced = p.collecting_forced;
      own_prepare_kept = p.own_prepare_kept;
      own_prepare_forced = p.own_prepare_forced;
      own_prepare_ever = p.own_prepare_ever;
      commit_kept = p.commit_kept;
      commit_forced = p.commit_forced;
      abort_kept = p.abort_kept;
      end_kept = p.end_kept;
      collects = p.collects;
      names = p.names;
      owed = p.owed;
      child_failed = k.failed;
      issued = v.issued;
      ticket_open = v.issued && k.is_open;
      child_refused = k.obeyed_abort || is_dead (k.prepared_kept || k.prepared_ever) k.is_open v.issued
          v.read;
      child_committed = k.committed;
      prepared_kept = k.prepared_kept;
      prepared_forced = k.prepared_forced;
      prepared_ever = k.prepared_ever;
      learnt_commit_kept = k.learnt_commit_kept;
      learnt_commit_forced = k.learnt_commit_forced;
      learnt_abort_kept = k.learnt_abort_kept;
      learnt_abort_forced = k.learnt_abort_forced;
      heuristic_kept = k.heuristic_kept;
      heuristic_forced = k.heuristic_forced;
      heuristic_ever = k.heuristic_ever;
      heuristic_commits = k.heuristic_commits;
      forgot_kept = k.forgot_kept;
      forgot_forced = k.forgot_forced;
      forgot_ever = k.forgot_ever;
      sent_prepare = v.prepare;
      sent_yes = v.yes;
      sent_no = v.no;
      sent_read = v.read;
      sent_commit = v.commit;
      sent_abort = v.abort;
      sent_ack = v.ack;
      sent_inquire = v.inquire;
    }

-- the case is the root's: it has no ticket
abbrev pub is_root_ticket : Option Ticket → Bool
is_root_ticket None = true
is_root_ticket (Some u) = false

-- The reading of the parent's case c and the ticket t in a world; whether c takes part is what the pair
-- above says.
abbrev pub reading_of : List TreeProcess → World → Bool → Case → Ticket → Reading
reading_of tree w above c t =
    reading_from (is_root_ticket c.ticket) (is_leaf (role_of tree t.child)) (is_commit_outcome w c.txn) above
    (parent_half (place_of tree (process_of c)) (w.at (process_of c)) c t)
    (child_half (place_of tree t.child) (w.at t.child) (child_case c.txn t))
    (wire c t w.net)

-- no message of the pair
abbrev pub no_wire : Wire
no_wire = record {
  issued = false;
  given = false;
  read_up = false;
  prepare = false;
  yes = false;
  no = false;
  read = false;
  commit = false;
  abort = false;
  ack = false;
  inquire = false;
}
