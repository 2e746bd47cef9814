-- A step as the journal keeps it, and the entry that it stands for.
use Rattle.std.specs.Prelude.{◌≡◌, ℕ, zero, suc, Bool, true, false, Option, Some, None, List, [], ◌∷◌, ◌++◌, length, map, option_map, slice_get, if◌then◌else◌}
use Rattle.protocol.specs.declared.names.ProcessId.{ProcessId}
use Rattle.protocol.specs.declared.names.Txn.{Txn}
use Rattle.protocol.specs.declared.messages.Envelope.{Envelope}
use Rattle.protocol.specs.declared.events.Act.{Act}
use Rattle.protocol.specs.declared.events.JournalEntry.{JournalEntry}
use Rattle.protocol.specs.declared.events.Happening.{Happening}
use Rattle.protocol_words.specs.Variants.{ActInput, Handles, MessageInput, Restarting, Trimming}
use Rattle.protocol.specs.declared.events.Reaction.{Reaction}
use Rattle.protocol.specs.declared.events.Told.{Told}
use Rattle.protocol.specs.declared.records.ShownRecord.{ShownRecord}
use Rattle.protocol.specs.Plays.{sent_as}
use Rattle.tree_state.specs.Worlds.{step_entry}
use Rattle.tree_journal.specs.declared.short_step.Aside.{Aside}
use Rattle.tree_journal.specs.declared.short_step.Cause.{Cause}
use Rattle.tree_journal.specs.declared.short_step.Cause.TheVariants.{Act as ActCause, Message as MessageCause, Restart as RestartCause, Trim as TrimCause}
use Rattle.tree_journal.specs.declared.short_step.Ends.{Ends}
use Rattle.tree_journal.specs.declared.short_step.ShortStep.{ShortStep}
use Rattle.tree_journal.specs.declared.short_step.LastStep.{LastStep}
use Rattle.tree_journal.specs.declared.placed_step.PlacedStep.{PlacedStep}
use Rattle.tree_journal.specs.Spans.{part_in}

-- The steps.

-- the lists in which the parts of all steps stand: the acts, what few reactions have, the records, and the
-- messages
pub record Parts : Type 0 where
  pub acts : List Act
  pub asides : List Aside
  pub records : List ShownRecord
  pub sent : List Envelope

-- where the records and the messages of all steps end
abbrev pub ends_of : Parts → Ends
ends_of ps = record { written = length ps.records; messages = length ps.sent }

-- where those of the first step start
abbrev pub first_starts : Ends
first_starts = record { written = 0; messages = 0 }

-- where those of these steps end, if they start there
abbrev pub ends_after : Ends → List ShortStep → Ends
ends_after starts [] = starts
ends_after starts (x ∷ xs) = ends_after x.ends xs

-- a step with the places of its parts, if its records and messages start there
abbrev pub placed_step : Ends → ShortStep → PlacedStep
placed_step starts x = record {
  cause = x.cause;
  written = record { start = starts.written; end = x.ends.written };
  messages = record { start = starts.messages; end = x.ends.messages };
  aside = x.aside;
}

-- likewise, of steps, where those of one start where those of the one before it end
abbrev pub placed_from : Ends → List ShortStep → List PlacedStep
placed_from starts [] = []
placed_from starts (x ∷ xs) = placed_step starts x ∷ placed_from x.ends xs

-- the steps that are kept, with the places of their parts
abbrev pub placed_steps : List ShortStep → List PlacedStep
placed_steps xs = placed_from first_starts xs

-- the process that made a step with this cause
abbrev pub process_of : Cause → ProcessId
process_of (ActCause q k) = q
process_of (MessageCause q k) = q
process_of (RestartCause q k) = q
process_of (TrimCause q) = q

-- what happened, of a step with this cause
abbrev pub happening_in : Parts → Cause → Option Happening
happening_in ps (ActCause q k) = option_map (λ a. Handles (ActInput a)) (slice_get ps.acts k)
happening_in ps (MessageCause q k) = option_map (λ l. Handles (MessageInput k l.message)) (sent_as ps.sent k)
happening_in ps (RestartCause q k) = Some (Restarting k)
happening_in ps (TrimCause q) = Some Trimming

-- a reaction has nothing of what few have
abbrev pub no_aside : Aside
no_aside = record { begun = None; told = None; kept = None }

-- what a step has of it, by its number
abbrev pub aside_in : List Aside → ℕ → Option Aside
aside_in asides zero = Some no_aside
aside_in asides (suc k) = slice_get asides k

-- the reaction with these records and messages, and with what few have
abbrev pub reaction_by : List ShownRecord → List Envelope → Aside → Reaction
reaction_by ws ls a =
    record { begun = a.begun; written = ws; told = a.told; messages = ls; kept = a.kept }

-- likewise, where all of it is there
abbrev pub reaction_with : Option (List ShownRecord) → Option (List Envelope) → Option Aside → Option Reaction
reaction_with None ls a = None
reaction_with (Some ws) None a = None
reaction_with (Some ws) (Some ls) a = option_map (reaction_by ws ls) a

-- the reaction of a step
abbrev pub reaction_in : Parts → PlacedStep → Option Reaction
reaction_in ps x =
    reaction_with (part_in ps.records x.written.start x.written.end)
    (part_in ps.sent x.messages.start x.messages.end) (aside_in ps.asides x.aside)

-- the reaction of the last step, whose records and messages it has itself
abbrev pub last_reaction : Parts → LastStep → Option Reaction
last_reaction ps l = option_map (reaction_by l.written l.messages) (aside_in ps.asides l.aside)

-- the journal's entry, where it is known what happened, and at which process with which reaction
abbrev pub entry_of_part : Option Happening → Option (ProcessId × Reaction) → Option JournalEntry
entry_of_part None p = None
entry_of_part (Some h) p = option_map (λ p. step_entry p.0 h p.1) p

-- the journal's entry of a step
abbrev pub entry_in : Parts → PlacedStep → Option JournalEntry
entry_in ps x =
    entry_of_part (happening_in ps x.cause) (option_map (λ r. (process_of x.cause, r)) (reaction_in ps x))

-- that of the last step
abbrev pub last_entry : Parts → LastStep → Option JournalEntry
last_entry ps l =
    entry_of_part (happening_in ps l.cause) (option_map (λ r. (process_of l.cause, r)) (last_reaction ps l))

-- likewise, if there is one
abbrev pub last_entries : Parts → Option LastStep → List (Option JournalEntry)
last_entries ps None = []
last_entries ps (Some l) = last_entry ps l ∷ []

-- the journal's entries of all steps, the last among them
abbrev pub all_entries : Parts → List PlacedStep → Option LastStep → List (Option JournalEntry)
all_entries ps xs l = map (entry_in ps) xs ++ last_entries ps l

-- those that are there
abbrev pub somes : {A : Type 0} → List (Option A) → List A
somes [] = []
somes (None ∷ os) = somes os
somes (Some a ∷ os) = a ∷ somes os

-- the journal's entries of all steps
abbrev pub entries_of : Parts → List PlacedStep → Option LastStep → List JournalEntry
entries_of ps xs l = somes (all_entries ps xs l)

-- each step has its entry: all that it names is there
pub record IsWhole (ps : Parts) (xs : List PlacedStep) (l : Option LastStep) : Type 0 where
  pub entries : List JournalEntry
  pub read : all_entries ps xs l ≡ map Some entries

-- One step more.

-- the message that was handled, if one was, was sent with this number
abbrev pub HandlesSent : List Envelope → Happening → Type 0
HandlesSent sent (Handles (MessageInput k m)) = option_map (λ l. l.message) (sent_as sent k) ≡ Some m
HandlesSent sent _ = Unit {0}

-- the cause of what happened at this process, where there are N acts
abbrev pub cause_by : ℕ → ProcessId → Happening → Cause
cause_by n q (Handles (ActInput a)) = ActCause q n
cause_by n q (Handles (MessageInput k m)) = MessageCause q k
cause_by n q (Restarting k) = RestartCause q k
cause_by n q Trimming = TrimCause q

-- the act, if it was one
abbrev pub act_by : Happening → List Act
act_by (Handles (ActInput a)) = a ∷ []
act_by _ = []

-- there is none of them
abbrev pub is_bare : Option Txn → Option Told → Option ℕ → Bool
is_bare None None None = true
is_bare _ _ _ = false

-- the number of what few reactions have, where there are N of them
abbrev pub aside_by : ℕ → Aside → ℕ
aside_by n a = if is_bare a.begun a.told a.kept then 0 else suc n

-- what is kept of it
abbrev pub asides_by : Aside → List Aside
asides_by a = if is_bare a.begun a.told a.kept then [] else a ∷ []

-- what few reactions have, of this one
abbrev pub aside_of : Reaction → Aside
aside_of r = record { begun = r.begun; told = r.told; kept = r.kept }

-- the parts once a step begins: what happened and what few reactions have is kept
abbrev pub parts_begun : Parts → Happening → Reaction → Parts
parts_begun ps h r =
    record ps { acts = ps.acts ++ act_by h; asides = ps.asides ++ asides_by (aside_of r) }

-- the step, with its records and its messages
abbrev pub last_step : Parts → ProcessId → Happening → Reaction → LastStep
last_step ps q h r = record {
  cause = cause_by (length ps.acts) q h;
  written = r.written;
  messages = r.messages;
  aside = aside_by (length ps.asides) (aside_of r);
}

-- the parts once the last step's records and messages are placed
abbrev pub parts_placed : Parts → LastStep → Parts
parts_placed ps l = record ps { records = ps.records ++ l.written; sent = ps.sent ++ l.messages }

-- what is kept of the step
abbrev pub short_step : Parts → LastStep → ShortStep
short_step ps l = record { cause = l.cause; ends = ends_of (parts_placed ps l); aside = l.aside }
