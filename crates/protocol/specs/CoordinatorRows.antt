-- The reaction table of coordinators (R*): for each standing and input of a case what is written, told and
-- sent, and the new view. One row, one definition, named by standing and input.
use Rattle.std.specs.Prelude.{◌+◌, true, false, if◌then◌else◌, Option, Some, None, List, [], ◌∷◌, ◌++◌, map, filter, not, is_some}
use Rattle.protocol.specs.declared.names.Case.{Case}
use Rattle.protocol.specs.declared.names.ProcessId.{ProcessId}
use Rattle.protocol.specs.declared.names.Ticket.{Ticket}
use Rattle.protocol.specs.declared.names.Outcome.{Outcome}
use Rattle.protocol.specs.declared.names.Outcome.TheVariants.{Committed as CommittedOutcome, Aborted as AbortedOutcome}
use Rattle.protocol.specs.declared.names.Presumption.{Presumption}
use Rattle.protocol.specs.declared.names.Presumption.TheVariants.{PresumeAbort, PresumeCommit}
use Rattle.protocol.specs.declared.messages.Op.{Op}
use Rattle.protocol.specs.declared.messages.Finding.{Finding}
use Rattle.protocol.specs.declared.messages.Message.{Message}
use Rattle.protocol.specs.declared.messages.Message.TheVariants.{Join, Work, Prepare, Yes, No, Read, Commit, Abort, Ack, Inquire}
use Rattle.protocol.specs.declared.messages.Envelope.{Envelope}
use Rattle.protocol.specs.declared.records.Record.{Record}
use Rattle.protocol.specs.declared.records.Reports.{Reports}
use Rattle.protocol.specs.declared.records.Record.TheVariants.{Collecting as CollectingRecord, Prepare as PrepareRecord, Commit as CommitRecord, Abort as AbortRecord, End as EndRecord, Cleared as ClearedRecord}
use Rattle.protocol.specs.declared.standings.Standing.{Standing}
use Rattle.protocol.specs.declared.standings.Standing.TheVariants.{Unknown, Active, Collecting, Prepared, Committing, Aborting}
use Rattle.protocol.specs.declared.standings.Vote.{Vote}
use Rattle.protocol.specs.declared.standings.Vote.TheVariants.{No as VoteNo}
use Rattle.protocol.specs.declared.events.Conclusion.{Conclusion}
use Rattle.protocol.specs.declared.events.Conclusion.TheVariants.{Committed as ConcludedCommitted, Aborted as ConcludedAborted, ReadOnly}
use Rattle.protocol.specs.Names.{same_ticket, child_case, presumed}
use Rattle.protocol.specs.Records.{in_list, none_of, mixed_of, unreported_of, in_order}
use Rattle.protocol.specs.Nodes.{Written, Version, First, Second}
use Rattle.protocol.specs.Memory.{has_child, is_counted, all_voted, yes_of, undecided_of, works_of}
use Rattle.protocol.specs.Standings.{CoordinatorView, unknown_view, unknown_findings}

-- a coordinator in one of its cases; the root has no parent
pub record Seat : Type 0 where
  pub me : ProcessId
  pub parent : Option ProcessId
  pub own : Case

-- what a row does: at most one record, what is told, the messages, the ticket accepted, the first vote
-- counted
pub record Row : Type 0 where
  pub written : List Written
  pub told : Option Conclusion
  pub messages : List Envelope
  pub accepts : List Ticket
  pub counts : List (Ticket × Vote)
  pub view : CoordinatorView

-- Parts of rows.

-- one record, forced
abbrev pub forced : Record → List Written
forced r = record { entry = r; is_forced = true } ∷ []

-- one record, unforced
abbrev pub plain : Record → List Written
plain r = record { entry = r; is_forced = false } ∷ []

-- the message from the first process to the second
abbrev pub post : ProcessId → ProcessId → Message → Envelope
post me q m = record { from = me; to = q; message = m }

-- the message to the parent, if there is one
abbrev pub posted_up : ProcessId → Option ProcessId → Message → List Envelope
posted_up me None m = []
posted_up me (Some p) m = post me p m ∷ []

-- a message to the parent; the root has none
abbrev pub up : Seat → Message → List Envelope
up s m = posted_up s.me s.parent m

-- the message to the ticket's child, about the child's case
abbrev pub to_child : Seat → (Case → Message) → Ticket → Envelope
to_child s m t = post s.me t.child (m (child_case s.own.txn t))

-- the same message to each of the children, in order of acceptance
abbrev pub each : Seat → (Case → Message) → List Ticket → List Envelope
each s m ts = map (to_child s m) ts

-- this is told if there is no parent; else nothing is
abbrev pub told_by : Option ProcessId → Conclusion → Option Conclusion
told_by None a = Some a
told_by (Some p) a = None

-- what the root tells its application; others tell nothing
abbrev pub tells : Seat → Conclusion → Option Conclusion
tells s a = told_by s.parent a

-- a row that does nothing, and leaves this view
abbrev pub quiet : CoordinatorView → Row
quiet v = record { written = []; told = None; messages = []; accepts = []; counts = []; view = v }

-- a row that sends these messages and does nothing else, and leaves this view
abbrev pub sends : List Envelope → CoordinatorView → Row
sends ls v = record { written = []; told = None; messages = ls; accepts = []; counts = []; view = v }

-- the case waits for these, or is forgotten if there are none
abbrev pub awaits : Standing → List Ticket → CoordinatorView → CoordinatorView
awaits s ts v =
    if none_of ts then unknown_view else record v { standing = s; named = v.named ++ ts; owed = ts }

-- what an End of the root has of what was found: the mixed tickets, and the unreported ones
abbrev pub reports_of : List Finding → Reports
reports_of fs = record { mixed = mixed_of fs; unreported = unreported_of fs }

-- Active.

-- the join act: JOIN to the child, unless a ticket of it is accepted already
abbrev pub active_join : Seat → ProcessId → CoordinatorView → Row
active_join s q v = if has_child v.accepted q then quiet v else sends (post s.me q (Join s.own) ∷ []) v

-- JOINED: the ticket is accepted, unless one of its child is accepted already
abbrev pub active_joined : Ticket → CoordinatorView → Row
active_joined t v =
    if has_child v.accepted t.child then quiet v
    else record {
      written = [];
      told = None;
      messages = [];
      accepts = t ∷ [];
      counts = [];
      view = record v { accepted = v.accepted ++ t ∷ [] };
    }

-- the work act: WORK to the ticket's child, with the ticket's next number
abbrev pub active_work : Seat → Ticket → Op → CoordinatorView → Row
active_work s t op v =
    sends (post s.me t.child (Work (child_case s.own.txn t) (works_of v.works t + 1) op) ∷ [])
    (record v { works = v.works ++ t ∷ [] })

-- the commit act or PREPARE, where nobody takes part
abbrev pub active_commit_alone : Seat → Row
active_commit_alone s =
    record {
      written = [];
      told = tells s ReadOnly;
      messages = up s (Read s.own);
      accepts = [];
      counts = [];
      view = unknown_view;
    }

-- PREPARE to the child of each accepted ticket, with the number of works sent to it
abbrev pub prepares : Seat → CoordinatorView → List Envelope
prepares s v = map (λ t. post s.me t.child (Prepare (child_case s.own.txn t) (works_of v.works t))) v.accepted

-- where somebody takes part: PREPARE to all; under Presumed Commit a forced Collecting names them
abbrev pub active_commit_with : Seat → CoordinatorView → Presumption → Row
active_commit_with s v PresumeAbort = sends (prepares s v) (record v { standing = Collecting })
active_commit_with s v PresumeCommit =
    record {
      written = forced (CollectingRecord s.own v.accepted);
      told = None;
      messages = prepares s v;
      accepts = [];
      counts = [];
      view = record v { standing = Collecting; named = v.named ++ v.accepted };
    }

-- the commit act, or PREPARE
abbrev pub active_commit : Seat → CoordinatorView → Row
active_commit s v =
    if none_of v.accepted then active_commit_alone s else active_commit_with s v s.own.txn.presumption

-- an abort under Presumed Commit is acknowledged
abbrev pub acknowledges_abort : Seat → Presumption → List Envelope
acknowledges_abort s PresumeAbort = []
acknowledges_abort s PresumeCommit = up s (Ack s.own AbortedOutcome [])

-- the abort act, or ABORT
abbrev pub active_abort : Seat → CoordinatorView → Row
active_abort s v =
    record {
      written = [];
      told = tells s ConcludedAborted;
      messages = acknowledges_abort s s.own.txn.presumption ++ each s Abort v.accepted;
      accepts = [];
      counts = [];
      view = unknown_view;
    }

-- Collecting.

-- why a case that collects votes aborts
pub data Reason : Type 0 where
  ByVote : Reason
  ByAct : Reason
  ByAbort : Version → Reason

-- after ABORT: by the first version it is acknowledged at once, by the second where nobody owes an
-- acknowledgement
abbrev pub abort_answered : Seat → Version → List Ticket → List Envelope
abort_answered s First us = acknowledges_abort s s.own.txn.presumption
abort_answered s Second us = if none_of us then acknowledges_abort s s.own.txn.presumption else []

-- what the parent hears of the abort, which these tickets are told
abbrev pub abort_heard_above : Seat → Reason → List Ticket → List Envelope
abort_heard_above s ByVote us = up s (No s.own)
abort_heard_above s ByAct us = []
abort_heard_above s (ByAbort v) us = abort_answered s v us

-- ABORT to these tickets; under Presumed Commit the record is forced, and each of them owes
abbrev pub collecting_abort_by : Seat → Reason → CoordinatorView → List Ticket → Presumption → Row
collecting_abort_by s why v us PresumeAbort =
    record {
      written = plain (AbortRecord s.own []);
      told = tells s ConcludedAborted;
      messages = abort_heard_above s why us ++ each s Abort us;
      accepts = [];
      counts = [];
      view = unknown_view;
    }
collecting_abort_by s why v us PresumeCommit =
    record {
      written = forced (AbortRecord s.own us);
      told = tells s ConcludedAborted;
      messages = abort_heard_above s why us ++ each s Abort us;
      accepts = [];
      counts = [];
      view = awaits Aborting us v;
    }

-- the first vote NO, the abort act, or ABORT
abbrev pub collecting_abort : Seat → Reason → CoordinatorView → Row
collecting_abort s why v = collecting_abort_by s why v (undecided_of v.accepted v.votes) s.own.txn.presumption

-- the record of a case in which all read only: under Presumed Commit an unforced End, else none
abbrev pub read_only_end : Seat → Presumption → List Written
read_only_end s PresumeAbort = []
read_only_end s PresumeCommit = plain (EndRecord s.own None)

-- the last vote, where all read only
abbrev pub collecting_read_only : Seat → Row
collecting_read_only s =
    record {
      written = read_only_end s s.own.txn.presumption;
      told = tells s ReadOnly;
      messages = up s (Read s.own);
      accepts = [];
      counts = [];
      view = unknown_view;
    }

-- the root commits, forced: COMMIT to these tickets; under Presumed Abort each of them owes
abbrev pub root_commits : Seat → CoordinatorView → List Ticket → Presumption → Row
root_commits s v ys PresumeAbort =
    record {
      written = forced (CommitRecord s.own ys);
      told = Some ConcludedCommitted;
      messages = each s Commit ys;
      accepts = [];
      counts = [];
      view = awaits Committing ys v;
    }
root_commits s v ys PresumeCommit =
    record {
      written = forced (CommitRecord s.own []);
      told = Some ConcludedCommitted;
      messages = each s Commit ys;
      accepts = [];
      counts = [];
      view = unknown_view;
    }

-- the promise: a forced Prepare record that names these tickets, and YES to the parent
abbrev pub cascaded_prepares : Seat → CoordinatorView → List Ticket → Row
cascaded_prepares s v ys =
    record {
      written = forced (PrepareRecord s.own ys);
      told = None;
      messages = up s (Yes s.own);
      accepts = [];
      counts = [];
      view = record v { standing = Prepared; promised = v.promised ++ ys; named = v.named ++ ys };
    }

-- with these tickets' votes YES the root commits, and a coordinator below it promises
abbrev pub decides : Seat → CoordinatorView → List Ticket → Option ProcessId → Row
decides s v ys None = root_commits s v ys s.own.txn.presumption
decides s v ys (Some p) = cascaded_prepares s v ys

-- the last vote, and none was NO
abbrev pub collecting_full : Seat → CoordinatorView → Row
collecting_full s v =
    let ys = yes_of v.accepted v.votes in
    if none_of ys then collecting_read_only s else decides s v ys s.parent

-- after a vote that counts: NO aborts the case; else it goes on once all have voted
abbrev pub collecting_after : Seat → CoordinatorView → Vote → Row
collecting_after s v VoteNo = collecting_abort s ByVote v
collecting_after s v _ = if all_voted v.accepted v.votes then collecting_full s v else quiet v

-- a vote; the first of an accepted ticket counts
abbrev pub collecting_vote : Seat → Ticket → Vote → CoordinatorView → Row
collecting_vote s t w v =
    if is_counted v.accepted v.votes t
    then record (collecting_after s (record v { votes = v.votes ++ (t, w) ∷ [] }) w) { counts = (t, w) ∷ [] }
    else quiet v

-- Prepared, below the root.

-- by the first version a decision of the parent is acknowledged as it is obeyed
abbrev pub acknowledges_at_once : Version → Seat → Outcome → List Envelope
acknowledges_at_once First s o = up s (Ack s.own o [])
acknowledges_at_once Second s o = []

-- COMMIT to the promised; under Presumed Abort it is forced, and each of them owes
abbrev pub prepared_commit_by : Version → Seat → CoordinatorView → Presumption → Row
prepared_commit_by ver s v PresumeAbort =
    record {
      written = forced (CommitRecord s.own v.promised);
      told = None;
      messages = acknowledges_at_once ver s CommittedOutcome ++ each s Commit v.promised;
      accepts = [];
      counts = [];
      view = awaits Committing v.promised v;
    }
prepared_commit_by ver s v PresumeCommit =
    record {
      written = plain (CommitRecord s.own []);
      told = None;
      messages = each s Commit v.promised;
      accepts = [];
      counts = [];
      view = unknown_view;
    }

-- COMMIT of the parent, by the presumption of the transaction
abbrev pub prepared_commit : Version → Seat → CoordinatorView → Row
prepared_commit ver s v = prepared_commit_by ver s v s.own.txn.presumption

-- ABORT to the promised; under Presumed Commit it is forced and acknowledged, and each of them owes
abbrev pub prepared_abort_by : Version → Seat → CoordinatorView → Presumption → Row
prepared_abort_by ver s v PresumeAbort =
    record {
      written = plain (AbortRecord s.own []);
      told = None;
      messages = each s Abort v.promised;
      accepts = [];
      counts = [];
      view = unknown_view;
    }
prepared_abort_by ver s v PresumeCommit =
    record {
      written = forced (AbortRecord s.own v.promised);
      told = None;
      messages = acknowledges_at_once ver s AbortedOutcome ++ each s Abort v.promised;
      accepts = [];
      counts = [];
      view = awaits Aborting v.promised v;
    }

-- ABORT of the parent, by the presumption of the transaction
abbrev pub prepared_abort : Version → Seat → CoordinatorView → Row
prepared_abort ver s v = prepared_abort_by ver s v s.own.txn.presumption

-- PREPARE again: YES again
abbrev pub prepared_prepare : Seat → CoordinatorView → Row
prepared_prepare s v = sends (up s (Yes s.own)) v

-- a case in doubt asks its parent
abbrev pub prepared_ask : Seat → CoordinatorView → Row
prepared_ask s v = sends (up s (Inquire s.own)) v

-- Committing and Aborting.

-- COMMIT again: by the first version it is acknowledged again
abbrev pub committing_commit : Version → Seat → CoordinatorView → Row
committing_commit First s v = sends (up s (Ack s.own CommittedOutcome [])) v
committing_commit Second s v = quiet v

-- ABORT of a case that was aborted: likewise
abbrev pub aborting_abort : Version → Seat → CoordinatorView → Row
aborting_abort First s v = sends (up s (Ack s.own AbortedOutcome [])) v
aborting_abort Second s v = quiet v

-- PREPARE of a case that was aborted: NO
abbrev pub aborting_prepare : Seat → CoordinatorView → Row
aborting_prepare s v = sends (up s (No s.own)) v

-- the others that owe an acknowledgement
unfoldable pub other_tickets : Ticket → List Ticket → List Ticket
other_tickets t ts = filter (λ u. not (same_ticket t u)) ts

-- by the second version a decision is acknowledged after the last acknowledgement of it, with what was found
-- below
abbrev pub acknowledges_at_last : Version → Seat → Outcome → List Finding → List Envelope
acknowledges_at_last First s o fs = []
acknowledges_at_last Second s o fs = up s (Ack s.own o (in_order fs))

-- what an End reports: by the second version the root, which has nobody above it, writes down what was found
abbrev pub end_reports : Version → Option ProcessId → List Finding → Option Reports
end_reports First p fs = None
end_reports Second (Some p) fs = None
end_reports Second None [] = None
end_reports Second None (f ∷ fs) = Some (reports_of (f ∷ fs))

-- the End after the last acknowledgement: it is unforced, but a report is forced
abbrev pub ends_with : Version → Seat → List Finding → List Written
ends_with ver s fs =
    let reports = end_reports ver s.parent fs in
    record { entry = EndRecord s.own reports; is_forced = is_some reports } ∷ []

-- these still owe an acknowledgement, and so much was found by now; if there are none, an End record ends the
-- case
abbrev pub decided_ack_by : Version → Seat → Outcome → List Ticket → List Finding → CoordinatorView → Row
decided_ack_by ver s o left fs v =
    if none_of left
    then record {
      written = ends_with ver s fs;
      told = None;
      messages = acknowledges_at_last ver s o fs;
      accepts = [];
      counts = [];
      view = unknown_view;
    }
    else quiet (record v { owed = left; found = fs })

-- an acknowledgement that agrees with the decision; the last one that is owed ends the case, with all that
-- was found
abbrev pub decided_ack : Version → Seat → Outcome → Ticket → List Finding → CoordinatorView → Row
decided_ack ver s o t fs v =
    if in_list v.owed t then decided_ack_by ver s o (other_tickets t v.owed) fs v else quiet v

-- the message that tells an outcome
abbrev pub tells_outcome : Outcome → Case → Message
tells_outcome CommittedOutcome = Commit
tells_outcome AbortedOutcome = Abort

-- the child that asks is told the outcome
abbrev pub decided_inquiry : Seat → Outcome → Ticket → CoordinatorView → Row
decided_inquiry s o t v = sends (to_child s (tells_outcome o) t ∷ []) v

-- Unknown.

-- PREPARE of a case of which nothing is known: NO
abbrev pub unknown_prepare : Seat → CoordinatorView → Row
unknown_prepare s v = sends (up s (No s.own)) v

-- COMMIT of a case of which nothing is known: acknowledged under Presumed Abort, else nothing
abbrev pub unknown_commit_by : Version → Seat → CoordinatorView → Presumption → Row
unknown_commit_by ver s v PresumeAbort =
    sends (up s (Ack s.own CommittedOutcome (unknown_findings ver s.own))) v
unknown_commit_by ver s v PresumeCommit = quiet v

-- COMMIT of a case of which nothing is known, by the presumption of the transaction
abbrev pub unknown_commit : Version → Seat → CoordinatorView → Row
unknown_commit ver s v = unknown_commit_by ver s v s.own.txn.presumption

-- ABORT of a case of which nothing is known: acknowledged under Presumed Commit, else nothing
abbrev pub unknown_abort_by : Version → Seat → CoordinatorView → Presumption → Row
unknown_abort_by ver s v PresumeAbort = quiet v
unknown_abort_by ver s v PresumeCommit = sends
    (up s (Ack s.own AbortedOutcome (unknown_findings ver s.own))) v

-- ABORT of a case of which nothing is known, by the presumption of the transaction
abbrev pub unknown_abort : Version → Seat → CoordinatorView → Row
unknown_abort ver s v = unknown_abort_by ver s v s.own.txn.presumption

-- an inquiry without information gets what is presumed
abbrev pub unknown_inquiry : Seat → Ticket → CoordinatorView → Row
unknown_inquiry s t v = sends (to_child s (tells_outcome (presumed s.own.txn.presumption)) t ∷ []) v

-- an operator has seen to what the root reported of the case: it is cleared, forced
abbrev pub unknown_forget : Seat → CoordinatorView → Row
unknown_forget s v = record {
  written = forced (ClearedRecord s.own);
  told = None;
  messages = [];
  accepts = [];
  counts = [];
  view = v;
}

-- The table by messages.

-- a vote of a child
abbrev pub on_vote : Seat → Ticket → Vote → CoordinatorView → Standing → Row
on_vote s t w v Collecting = collecting_vote s t w v
on_vote s t w v _ = quiet v

-- an acknowledgement of a child, with what was found by then; it does something only where it agrees with the
-- decision
abbrev pub on_ack : Version → Seat → Ticket → Outcome → List Finding → CoordinatorView → Standing → Row
on_ack ver s t CommittedOutcome fs v Committing = decided_ack ver s CommittedOutcome t fs v
on_ack ver s t AbortedOutcome fs v Aborting = decided_ack ver s AbortedOutcome t fs v
on_ack ver s t _ fs v _ = quiet v

-- an inquiry of a child that belongs to the case
abbrev pub on_inquiry : Seat → Ticket → CoordinatorView → Standing → Row
on_inquiry s t v Committing = decided_inquiry s CommittedOutcome t v
on_inquiry s t v Aborting = decided_inquiry s AbortedOutcome t v
on_inquiry s t v Unknown = unknown_inquiry s t v
on_inquiry s t v _ = quiet v

-- JOINED of a child
abbrev pub on_joined : Ticket → CoordinatorView → Standing → Row
on_joined t v Active = active_joined t v
on_joined t v _ = quiet v

-- PREPARE of the parent
abbrev pub on_prepare : Seat → CoordinatorView → Standing → Row
on_prepare s v Active = active_commit s v
on_prepare s v Prepared = prepared_prepare s v
on_prepare s v Aborting = aborting_prepare s v
on_prepare s v Unknown = unknown_prepare s v
on_prepare s v _ = quiet v

-- COMMIT of the parent
abbrev pub on_commit : Version → Seat → CoordinatorView → Standing → Row
on_commit ver s v Prepared = prepared_commit ver s v
on_commit ver s v Committing = committing_commit ver s v
on_commit ver s v Unknown = unknown_commit ver s v
on_commit ver s v _ = quiet v

-- ABORT of the parent
abbrev pub on_abort : Version → Seat → CoordinatorView → Standing → Row
on_abort ver s v Active = active_abort s v
on_abort ver s v Collecting = collecting_abort s (ByAbort ver) v
on_abort ver s v Prepared = prepared_abort ver s v
on_abort ver s v Aborting = aborting_abort ver s v
on_abort ver s v Unknown = unknown_abort ver s v
on_abort ver s v _ = quiet v
