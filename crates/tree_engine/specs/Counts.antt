-- What the processes of a run have written and sent, counted.
use Rattle.std.specs.Prelude.{ℕ, ◌+◌, ◌<◌, ◌^◌, Bool, if◌then◌else◌, List, [], length, map, count_by}
use Rattle.std.specs.List.{AllByRecursion, flat_map, fold}
use Rattle.protocol.specs.declared.names.ProcessId.{ProcessId}
use Rattle.protocol.specs.declared.messages.Envelope.{Envelope}
use Rattle.protocol.specs.declared.messages.Message.{Message}
use Rattle.protocol_words.specs.message
use Rattle.protocol.specs.declared.records.ShownRecord.{ShownRecord}
use Rattle.protocol.specs.declared.events.JournalEntry.{JournalEntry}
use Rattle.protocol.specs.declared.trees.TreeProcess.{TreeProcess}
use Rattle.protocol.specs.Names.{same_process}
use Rattle.tree_engine.specs.declared.kinds.MessageKind.{MessageKind}
use Rattle.tree_engine.specs.declared.kinds.MessageKind.TheVariants as kind
use Rattle.tree_engine.specs.contracts.kinds.MessageKindPartialEq.TheImpl as kinds
use Rattle.tree_engine.specs.declared.counts.Sent.{Sent}
use Rattle.tree_engine.specs.declared.counts.Counts.{Counts}
use Rattle.tree_engine.specs.declared.rows.ProcessCounts.{ProcessCounts}

-- what a message is
abbrev pub kind_of : Message → MessageKind
kind_of (message.Join c) = kind.Join
kind_of (message.Joined c t) = kind.Joined
kind_of (message.Work c i o) = kind.Work
kind_of (message.Prepare c n) = kind.Prepare
kind_of (message.Yes c) = kind.Yes
kind_of (message.No c) = kind.No
kind_of (message.Read c) = kind.Read
kind_of (message.Commit c) = kind.Commit
kind_of (message.Abort c) = kind.Abort
kind_of (message.Ack c o fs) = kind.Ack
kind_of (message.Inquire c) = kind.Inquire

-- a message is of this kind
abbrev pub is_of : MessageKind → Envelope → Bool
is_of k m = kinds.ghosts.eq (kind_of m.message) k

-- how many of these messages are of this kind
abbrev pub count_kind : MessageKind → List Envelope → ℕ
count_kind k ms = count_by (is_of k) ms

-- how many of these messages are of each kind
abbrev pub sent_of : List Envelope → Sent
sent_of ms = record {
  join = count_kind kind.Join ms;
  joined = count_kind kind.Joined ms;
  work = count_kind kind.Work ms;
  prepare = count_kind kind.Prepare ms;
  yes = count_kind kind.Yes ms;
  no = count_kind kind.No ms;
  read = count_kind kind.Read ms;
  commit = count_kind kind.Commit ms;
  abort = count_kind kind.Abort ms;
  ack = count_kind kind.Ack ms;
  inquire = count_kind kind.Inquire ms;
}

-- how many of these records are forced
abbrev pub count_forced : List ShownRecord → ℕ
count_forced ws = count_by (λ w. w.forced) ws

-- how many these records and these messages are
abbrev pub counts_of : List ShownRecord → List Envelope → Counts
counts_of ws ms = record {
  records = length ws;
  forced = count_forced ws;
  messages = length ms;
  sent = sent_of ms;
}

-- the records that a process wrote in these steps
abbrev pub written_by : ProcessId → List JournalEntry → List ShownRecord
written_by q es = flat_map (λ e. if same_process e.step.process q then e.reaction.written else []) es

-- the messages that a process sent in these steps
abbrev pub sent_by : ProcessId → List JournalEntry → List Envelope
sent_by q es = flat_map (λ e. if same_process e.step.process q then e.reaction.messages else []) es

-- the counts of a process in these steps
abbrev pub row_of : List JournalEntry → TreeProcess → ProcessCounts
row_of es p = record { process = p.id; counts = counts_of (written_by p.id es) (sent_by p.id es) }

-- the counts of all processes of a tree in these steps, in the order of the tree
unfoldable pub rows_of : List TreeProcess → List JournalEntry → List ProcessCounts
rows_of tree es = map (row_of es) tree

-- Sums.

-- messages of each kind, together
abbrev pub sent_together : Sent → Sent → Sent
sent_together a b = record {
  join = a.join + b.join;
  joined = a.joined + b.joined;
  work = a.work + b.work;
  prepare = a.prepare + b.prepare;
  yes = a.yes + b.yes;
  no = a.no + b.no;
  read = a.read + b.read;
  commit = a.commit + b.commit;
  abort = a.abort + b.abort;
  ack = a.ack + b.ack;
  inquire = a.inquire + b.inquire;
}

-- two counts, together
abbrev pub together : Counts → Counts → Counts
together a b = record {
  records = a.records + b.records;
  forced = a.forced + b.forced;
  messages = a.messages + b.messages;
  sent = sent_together a.sent b.sent;
}

-- the counts of all these processes, together
unfoldable pub total_of : List ProcessCounts → Counts
total_of rows = fold (λ sum r. together sum r.counts) (counts_of [] []) rows

-- a process's counts after a step, which counts where it is the process's own
abbrev pub row_behind : JournalEntry → ProcessCounts → ProcessCounts
row_behind e row =
    if same_process e.step.process row.process
    then record {
      process = row.process;
      counts = together row.counts
          (counts_of e.reaction.written e.reaction.messages);
    }
    else row

-- What can be counted.

-- messages of each kind are fewer than 2^64
pub record FitSent (s : Sent) : Type 0 where
  pub join : s.join < 2 ^ 64
  pub joined : s.joined < 2 ^ 64
  pub work : s.work < 2 ^ 64
  pub prepare : s.prepare < 2 ^ 64
  pub yes : s.yes < 2 ^ 64
  pub no : s.no < 2 ^ 64
  pub read : s.read < 2 ^ 64
  pub commit : s.commit < 2 ^ 64
  pub abort : s.abort < 2 ^ 64
  pub ack : s.ack < 2 ^ 64
  pub inquire : s.inquire < 2 ^ 64

-- records and messages are fewer than 2^64
pub record Fit (c : Counts) : Type 0 where
  pub records : c.records < 2 ^ 64
  pub forced : c.forced < 2 ^ 64
  pub messages : c.messages < 2 ^ 64
  pub sent : FitSent c.sent

-- those of each of these processes are
abbrev pub AllFit : List ProcessCounts → Type 0
AllFit rows = AllByRecursion (λ r. Fit r.counts) rows
