-- What a step shows: its process, and its reaction.
use Rattle.protocol.specs.declared.events.JournalEntry.{JournalEntry}
use Rattle.protocol.specs.declared.events.Reaction.{Reaction}
use Rattle.protocol.specs.declared.names.ProcessId.{ProcessId}
use Rattle.tree_journal.specs.declared.shown.ShownStep.{ShownStep}

-- the process and the reaction of an entry
abbrev pub entry_part : JournalEntry → ProcessId × Reaction
entry_part e = (e.step.process, e.reaction)

-- those that are shown
abbrev pub shown_part : ShownStep → ProcessId × Reaction
shown_part s = (
  s.process,
  record {
    begun = s.begun;
    written = s.written.now;
    told = s.told;
    messages = s.messages.now;
    kept = s.kept;
  },
)
