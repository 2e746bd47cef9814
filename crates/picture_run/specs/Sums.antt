-- What the head of a picture says of its run.
use Rattle.std.specs.Prelude.{ℕ, Bool, true, false, List, count_by, length}
use Rattle.protocol.specs.declared.events.JournalEntry.{JournalEntry}
use Rattle.protocol.specs.declared.events.Happening.{Happening}
use Rattle.protocol.specs.declared.events.Happening.TheVariants.{Restart}
use Rattle.picture_layout.specs.declared.drawn.Stub.{Stub}
use Rattle.picture_layout.specs.declared.seats.Column.{Column}
use Rattle.picture_layout.specs.Fates.{Leaving}
use Rattle.picture_layout.specs.Whole.{sent_in}
use Rattle.picture_shapes.specs.declared.head.Summary.{Summary}
use Rattle.picture_run.specs.declared.plan.Plan.{Plan}

-- a process crashes and restarts
abbrev pub is_restart : Happening → Bool
is_restart (Restart kept) = true
is_restart h = false

-- the crashes of these steps
abbrev pub crashes_in : List JournalEntry → ℕ
crashes_in entries = count_by (λ (e : JournalEntry). is_restart e.step.happening) entries

-- of a run of N events how many events, processes, messages, messages that no step delivers, and crashes it
-- has
abbrev pub summary_of : ℕ → List Column → List JournalEntry → List Leaving → Summary
summary_of events seats entries apart = record {
  events = events;
  processes = length seats;
  messages = length (sent_in entries);
  «open» = count_by (λ (l : Leaving). l.never) apart;
  crashes = crashes_in entries;
}

-- the numbers that a plan has of that
abbrev pub summary_by : ℕ → Plan → List JournalEntry → Summary
summary_by events p entries = record {
  events = events;
  processes = length p.seats.items;
  messages = length p.messages.items;
  «open» = count_by (λ (s : Stub). s.crossed) p.stubs.items;
  crashes = crashes_in entries;
}
