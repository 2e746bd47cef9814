-- Where arrows and marks are drawn: at the places of processes, and at the rows of steps.
use Rattle.std.specs.Prelude.{◌≡◌, ⊤, ℕ, ◌+◌, ◌-◌, ◌^◌, min, nat_lt, true, Option, None, Some, is_some, option_map, option_to_list, List, [], ◌∷◌, ◌++◌, find, get_or, length, replicate, slice_get}
use Rattle.protocol.specs.declared.names.ProcessId.{ProcessId}
use Rattle.protocol.specs.declared.records.ShownRecord.{ShownRecord}
use Rattle.protocol.specs.declared.events.JournalEntry.{JournalEntry}
use Rattle.protocol.specs.declared.events.Happening.{Happening}
use Rattle.protocol.specs.declared.trees.TreeProcess.{TreeProcess}
use Rattle.protocol.specs.declared.events.Happening.TheVariants.{Restart}
use Rattle.protocol.specs.Names.{same_process}
use Rattle.picture_layout.specs.declared.drawn.RecordMark.{RecordMark}
use Rattle.picture_layout.specs.declared.drawn.Way.{Way}
use Rattle.picture_layout.specs.declared.rows.StepRows.{StepRows}
use Rattle.picture_layout.specs.declared.seats.Column.{Column}
use Rattle.picture_layout.specs.Whole.{delivery}

-- the seats are in order: each has a place of its own, from this one on
abbrev pub SitFrom : ℕ → List Column → Type 0
SitFrom place [] = ⊤
SitFrom place (s ∷ ss) = (s.place ≡ place) × SitFrom (place + 1) ss

-- a process of the tree has one of these seats
abbrev pub HasSeat : List Column → TreeProcess → Type 0
HasSeat seats e = is_some (find (λ s. same_process s.process e.id) seats) ≡ true

-- the place of a seat; the root's, if there is none
abbrev pub place_or_root : Option Column → ℕ
place_or_root None = 0
place_or_root (Some s) = s.place

-- the place of a process; the root's, if it has no seat
abbrev pub place_in : List Column → ProcessId → ℕ
place_in seats p = place_or_root (find (λ s. same_process s.process p) seats)

-- the place of the process of a step; the root's, if there is no such step
abbrev pub place_of_step : List Column → Option JournalEntry → ℕ
place_of_step seats None = 0
place_of_step seats (Some e) = place_in seats e.step.process

-- no rows
abbrev pub no_rows : StepRows
no_rows = record { first = 0; last = 0; next = 0 }

-- the rows of a step, from 0
abbrev pub rows_in : List StepRows → ℕ → StepRows
rows_in rows step = get_or rows step no_rows

-- what each step adds, from this one on, in their order
unfoldable pub by_step : {A : Type 0} → (ℕ → JournalEntry → List A) → ℕ → List JournalEntry → List A
by_step adds step [] = []
by_step adds step (e ∷ es) = adds step e ++ by_step adds (step + 1) es

-- the step that sent each message, in the order of the messages' numbers
abbrev pub senders : List JournalEntry → List ℕ
senders es = by_step (λ step e. replicate (length e.reaction.messages) step) 0 es

-- the way of a message to the step that it made: from its sender's place, at the last row of the step that
-- sent it, to its receiver's, at the first row of that step; it is far if more than 24 steps were made
-- between
abbrev pub way_to : List Column → List StepRows → List ℕ → List JournalEntry → ℕ → JournalEntry → ℕ → Way
way_to seats rows sent es step e number = record {
  from = place_of_step seats (slice_get es (get_or sent (number - 1) 0));
  left = (rows_in rows (get_or sent (number - 1) 0)).last;
  to = place_in seats e.step.process;
  row = (rows_in rows step).first;
  far = nat_lt 24 (step - get_or sent (number - 1) 0);
}

-- the ways of the deliveries of the first steps, in their order, where these steps sent the messages of all
-- steps
abbrev pub ways_of : List Column → List StepRows → List ℕ → List JournalEntry → List JournalEntry → List Way
ways_of seats rows sent all es = by_step
    (λ step e. option_to_list (option_map (way_to seats rows sent all step e)
    (delivery (length sent) e))) 0 es

-- the ways of all deliveries, in the order of the steps
abbrev pub ways_in : List Column → List StepRows → List ℕ → List JournalEntry → List Way
ways_in seats rows sent es = ways_of seats rows sent es es

-- the row of the first record of a step: that of its cause, but below a crash
abbrev pub first_record : Happening → ℕ → ℕ
first_record (Restart k) row = min (row + 1) (2 ^ 32 - 1)
first_record other row = row

-- where a record is drawn, and which one it is
pub record Spot : Type 0 where
  pub place : ℕ
  pub row : ℕ
  pub logged : ShownRecord

-- records one below the other, from this row on
unfoldable pub spots_from : ℕ → ℕ → List ShownRecord → List Spot
spots_from place row [] = []
spots_from place row (l ∷ ls) =
    record { place = place; row = row; logged = l } ∷ spots_from place (min (row + 1) (2 ^ 32 - 1)) ls

-- where all records are drawn, in the order of the steps
abbrev pub spots_in : List Column → List StepRows → List JournalEntry → List Spot
spots_in seats rows es = by_step (λ step e. spots_from (place_in seats e.step.process)
    (first_record e.step.happening (rows_in rows step).first) e.reaction.written) 0 es

-- where a mark is drawn, and its record
abbrev pub spot_of : RecordMark → Spot
spot_of m = record { place = m.place; row = m.row; logged = m.logged }
