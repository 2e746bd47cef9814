-- The live cases as records leave them, and what a restart makes of a log.
use Rattle.std.specs.Prelude.{◌≡◌, ◌⊎◌, ⊤, ℕ, false, true, Option, Some, None, List, ◌++◌, map}
use Rattle.std.specs.List.{AllByRecursion, flat_map}
use Rattle.std.specs.Map.{lookup}
use Rattle.protocol.specs.declared.names.Case.{Case}
use Rattle.protocol.specs.declared.names.Kind.TheVariants.{Coordinator}
use Rattle.protocol.specs.declared.names.ProcessId.{ProcessId}
use Rattle.protocol.specs.declared.messages.Envelope.{Envelope}
use Rattle.protocol.specs.declared.records.LogRecord.{LogRecord}
use Rattle.protocol.specs.declared.records.Record.{Record}
use Rattle.protocol.specs.declared.events.StepError.{StepError}
use Rattle.protocol.specs.declared.events.StepError.TheVariants.{Exhausted, Memory}
use Rattle.protocol.specs.CoordinatorRows.{Seat}
use Rattle.protocol.specs.LogNames.{in_log, own_records, parent_of}
use Rattle.protocol.specs.Names.{same_case}
use Rattle.protocol.specs.Nodes.{Place, reaction_of}
use Rattle.protocol.specs.Records.{boot_of}
use Rattle.protocol.specs.Restarts.{is_known, reopens, resumes_by}
use Rattle.protocol.specs.Standings.{CoordinatorView, unknown_view}
use Rattle.case_table.specs.Tables.{entry_at, live_value}
use Rattle.log_rules.specs.sound.Sound.{IsSound}
use Rattle.log_text.specs.Made.{frame_record}
use Rattle.log_records.specs.Sights.{AreRecords}
use Rattle.process_state.specs.Restarting.{recorded_view_at, reopening}
use Rattle.coord_effects.specs.declared.seat.OwnCase.{OwnCase}
use Rattle.coord_effects.specs.Rows.{seat_meant}
use Rattle.coord_cases.specs.declared.held.Held.{Held}
use Rattle.coord_cases.specs.Cases.{Slots, ticket_in, view_in}
use Rattle.coord_records.specs.Summaries.{Summary, view_of}
use Rattle.coord_records.specs.Readings.{ReadLog, same}
use Rattle.coord_records.specs.Remembered.{RemembersCases}
use Rattle.coord_cases.specs.declared.rebuilding.RebuiltCases.{RebuiltCases}

-- Cases.

-- what a case sends again, of which the records say this
abbrev pub resumed_by : Seat → Summary → List Envelope
resumed_by s summary = resumes_by s (view_of summary) (view_of summary).standing

-- what an entry's case sends again
abbrev pub resumed_of : ProcessId → Option ProcessId → Case × Summary → List Envelope
resumed_of me parent e = resumed_by (record { me = me; parent = parent; own = e.0 }) e.1

-- the view of what was found of a case; if nothing was, it is Unknown
abbrev pub view_found : Option Summary → CoordinatorView
view_found None = unknown_view
view_found (Some s) = view_of s

-- what is held under a key was given for nobody, and something is known of its case
abbrev pub IsRestored : Case × Held → Type 0
IsRestored p = (p.1.given_for ≡ None) × (is_known p.1.live.standing ≡ true)

-- one case more stands as its records say, and what it sends again is sent
pub record RestoresNext (s : OwnCase) (summary : Summary) (old new : Slots)
    (sent now_sent : List Envelope) : Type 0 where
  pub messages : now_sent ≡ sent ++ resumed_by (seat_meant s) summary
  pub own : view_in new s.case ≡ view_of summary
  pub others : (d : Case) → same_case s.case d ≡ false → view_in new d ≡ view_in old d
  pub only : (d : Case) → same_case s.case d ≡ false → live_value old d ≡ None → live_value new d ≡ None
  pub tickets : (d : Case) → ticket_in new d ≡ ticket_in old d
  pub entries : (k : ℕ) (p : Case × Held) → entry_at new k ≡ Some p
      → (entry_at old k ≡ Some p) ⊎ IsRestored p

-- each case stands as its records say, no ticket is active, and what the cases send again is sent
pub record RestoresAll (me : ProcessId) (parent : Option ProcessId) (r : ReadLog) (slots : Slots)
    (sent : List Envelope) : Type 0 where
  pub messages : sent ≡ flat_map (resumed_of me parent) r.table
  pub views : (c : Case) → view_in slots c ≡ view_found (lookup (same c) r.table)
  pub tickets : (d : Case) → ticket_in slots d ≡ None
  pub entries : (k : ℕ) (p : Case × Held) → entry_at slots k ≡ Some p → IsRestored p

-- A restart.

-- the records that a restart appends to this log, as the log holds them
abbrev pub appended_to : Place → List LogRecord → List LogRecord
appended_to place ls = map (in_log (parent_of place.role)) (reopens place.role (own_records place ls))

-- the records of the restarted log, as its process reads them
abbrev pub read_again : Place → List LogRecord → List Record
read_again place ls = own_records place (ls ++ appended_to place ls)

-- what a restart makes of these records of a log: the boot, the frames that it appends, the live cases, what
-- it shows, and what it remembers of them and of those that it appends
pub record RebuildsCases (place : Place) (ls : List LogRecord) (r : RebuiltCases) : Type 0 where
  pub boot : r.boot ≡ boot_of (read_again place ls)
  pub frames : map frame_record r.frames.items ≡ appended_to place ls
  pub sound : AreRecords Coordinator (map frame_record r.frames.items)
  pub views : (c : Case) → view_in r.cases c ≡ recorded_view_at place.role (read_again place ls) c
  pub tickets : (d : Case) → ticket_in r.cases d ≡ None
  pub entries : (k : ℕ) (p : Case × Held) → entry_at r.cases k ≡ Some p → IsRestored p
  pub shown : r.reaction ≡ reaction_of (reopening place.role place.me (own_records place ls))
  pub remembers : RemembersCases (read_again place ls) r.remembered

-- why nothing is made of them: memory was refused, or a record that a restart appends can be in no log
abbrev pub CasesNotRebuilt : Place → List LogRecord → StepError → Type 0
CasesNotRebuilt place ls Memory = ⊤
CasesNotRebuilt place ls Exhausted = AllByRecursion (IsSound Coordinator) (appended_to place ls) → ⊥
CasesNotRebuilt place ls e = ⊥
