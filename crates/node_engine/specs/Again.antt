-- What is sent once more: a decision, to those who owe an acknowledgement of it by the log.
use Rattle.std.specs.Prelude.{Option, Some, None, List, filter, map}
use Rattle.protocol.specs.declared.names.Case.{Case}
use Rattle.protocol.specs.declared.names.Outcome.{Outcome}
use Rattle.protocol_words.specs.outcome
use Rattle.protocol.specs.declared.names.ProcessId.{ProcessId}
use Rattle.protocol.specs.declared.names.Ticket.{Ticket}
use Rattle.protocol.specs.declared.messages.Envelope.{Envelope}
use Rattle.protocol.specs.declared.records.LogRecord.{LogRecord}
use Rattle.protocol.specs.declared.standings.Standing.{Standing}
use Rattle.protocol.specs.declared.standings.Standing.TheVariants.{Committing, Aborting}
use Rattle.protocol.specs.CoordinatorRows.{post, tells_outcome}
use Rattle.protocol.specs.LogNames.{own_records}
use Rattle.protocol.specs.Names.{child_case}
use Rattle.protocol.specs.Nodes.{Place}
use Rattle.protocol.specs.Records.{in_list}
use Rattle.protocol.specs.Restarts.{recorded_view}
use Rattle.protocol.specs.Standings.{CoordinatorView}

-- the outcome of a case that waits for acknowledgements
abbrev pub decided_by : Standing → Option Outcome
decided_by Committing = Some outcome.Committed
decided_by Aborting = Some outcome.Aborted
decided_by _ = None

-- the message that tells a child of the case the outcome
abbrev pub telling : ProcessId → Case → Outcome → Ticket → Envelope
telling me c o t = post me t.child (tells_outcome o (child_case c.txn t))

-- the decision, told to those who owe an acknowledgement of it; none of a case that waits for none
abbrev pub tellings_for : ProcessId → Case → CoordinatorView → Option Outcome → Option (List Envelope)
tellings_for me c v None = None
tellings_for me c v (Some o) = Some (map (telling me c o) v.owed)

abbrev pub tellings_by : ProcessId → Case → CoordinatorView → Standing → Option (List Envelope)
tellings_by me c v s = tellings_for me c v (decided_by s)

-- of those who owe an acknowledgement by the log, those who owe it still
abbrev pub still_owing : List Ticket → CoordinatorView → CoordinatorView
still_owing owed v = record v { owed = filter (in_list owed) v.owed }

-- what a process sends once more of a case by the records of its log, while these owe an acknowledgement:
-- what a restart over them would send of it to these, but no inquiry
abbrev pub owed_again : Place → List LogRecord → List Ticket → Case → Option (List Envelope)
owed_again place ls owed c =
    let v = recorded_view (own_records place ls) c in tellings_by place.me c (still_owing owed v) v.standing
