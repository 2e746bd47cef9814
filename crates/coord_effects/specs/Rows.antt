-- How the code's seats and effects stand for those of the reaction table.
use Rattle.std.specs.Prelude.{◌≡◌, ⊤, is_some, Option, Some, None, List, [], ◌∷◌}
use Rattle.protocol.specs.declared.names.ProcessId.{ProcessId}
use Rattle.protocol.specs.declared.names.Case.{Case}
use Rattle.protocol.specs.declared.names.Kind.TheVariants.{Coordinator}
use Rattle.protocol.specs.declared.names.Outcome.{Outcome}
use Rattle.protocol.specs.declared.names.Outcome.TheVariants.{Committed, Aborted}
use Rattle.protocol.specs.declared.names.Ticket.{Ticket}
use Rattle.protocol.specs.declared.messages.Envelope.{Envelope}
use Rattle.protocol.specs.declared.events.Reaction.{Reaction}
use Rattle.protocol.specs.declared.events.StepError.{StepError}
use Rattle.protocol.specs.declared.events.Told.{Told}
use Rattle.protocol.specs.declared.records.Record.{Record}
use Rattle.protocol_words.specs.Variants.{AbortRecord, CommitRecord, EndRecord}
use Rattle.protocol.specs.declared.records.Reports.{Reports}
use Rattle.protocol.specs.declared.standings.Standing.{Standing}
use Rattle.protocol.specs.declared.standings.Standing.TheVariants.{Committing, Aborting}
use Rattle.protocol.specs.LogNames.{in_log}
use Rattle.protocol.specs.Nodes.{Written, entries_written, logged_of, reaction_of}
use Rattle.protocol.specs.Standings.{CoordinatorView}
use Rattle.protocol.specs.CoordinatorRows.{Row, Seat, Reason as AnyReason, ByVote, ByAct, ByAbort}
use Rattle.protocol.specs.Reactions.{row_effect}
use Rattle.protocol.specs.SameViews.{SameView}
use Rattle.log_text.specs.Made.{frame_record}
use Rattle.log_records.specs.Sights.{IsRecord}
use Rattle.process_state.specs.Turns.{this_version}
use Rattle.log_writing.specs.Writes.{NotFramed}
use Rattle.coord_effects.specs.declared.seat.OwnCase.{OwnCase}
use Rattle.coord_effects.specs.declared.seat.Reason.{Reason}
use Rattle.coord_effects.specs.declared.seat.Reason.TheVariants.{Vote, Act, Abort}
use Rattle.coord_effects.specs.declared.effect.RowFrame.{RowFrame}
use Rattle.coord_effects.specs.declared.effect.RowRecord.{RowRecord}
use Rattle.coord_effects.specs.declared.effect.RowEffect.{RowEffect}

-- the coordinator in one of its cases
abbrev pub seat_meant : OwnCase → Seat
seat_meant s = record { me = s.me; parent = s.parent; own = s.case }

-- why a case that collects votes aborts
abbrev pub reason_meant : Reason → AnyReason
reason_meant Vote = ByVote
reason_meant Act = ByAct
reason_meant Abort = ByAbort this_version

-- the record of a decision that names these
abbrev pub decision : Case → Outcome → List Ticket → Record
decision c Committed ts = CommitRecord c ts
decision c Aborted ts = AbortRecord c ts

-- the tickets that the record of a decision names
abbrev pub decision_names : Record → List Ticket
decision_names (CommitRecord c ts) = ts
decision_names (AbortRecord c ts) = ts
decision_names _ = []

-- where a case stands that was decided so, and waits for acknowledgements
abbrev pub waits : Outcome → Standing
waits Committed = Committing
waits Aborted = Aborting

-- an End that reports this, forced where it reports something
abbrev pub end_written : Case → Option Reports → RowRecord
end_written c reports = record { entry = EndRecord c reports; forced = is_some reports }

-- a record with its force
abbrev pub meant : RowRecord → Written
meant w = record { entry = w.entry; is_forced = w.forced }

-- the record of a frame, with its force
abbrev pub written_by : RowFrame → Written
written_by w = record { entry = (frame_record w.frame).entry; is_forced = w.forced }

-- the record of an effect, if there is one
abbrev pub written_of : Option RowFrame → List Written
written_of None = []
written_of (Some w) = written_by w ∷ []

-- the frame can be in the log of a coordinator below this parent, and names its record whole
pub record IsFramed (parent : Option ProcessId) (w : RowFrame) : Type 0 where
  pub named : frame_record w.frame ≡ in_log parent (frame_record w.frame).entry
  pub sound : IsRecord Coordinator (frame_record w.frame)

-- so is the frame of an effect, if there is one
abbrev pub AreFramed : Option ProcessId → Option RowFrame → Type 0
AreFramed parent None = ⊤
AreFramed parent (Some w) = IsFramed parent w

-- the frame of this record, with its force
pub record Frames (parent : Option ProcessId) (framed : RowFrame) (w : RowRecord) : Type 0 where
  pub written : written_by framed ≡ meant w
  pub framed_so : IsFramed parent framed

-- why these records are not written at a coordinator below this parent
abbrev pub NotWritten : Option ProcessId → List Written → StepError → Type 0
NotWritten parent ws e = NotFramed parent (entries_written ws) e

-- the reaction that shows an effect
abbrev pub reaction_by : RowEffect → Reaction
reaction_by e = record {
  begun = None;
  written = e.shown;
  told = e.told;
  messages = e.messages;
  kept = None;
}

-- an effect writes nothing, and tells and sends this
pub record Shows (effect : RowEffect) (told : Option Told) (messages : List Envelope) : Type 0 where
  pub record_is : effect.written ≡ None
  pub reaction : reaction_by effect
      ≡ record { begun = None; written = []; told = told; messages = messages; kept = None }

-- an effect writes this record, as it is in the log of a coordinator below this parent, and tells and
-- sends this
pub record ShowsRecord (parent : Option ProcessId) (effect : RowEffect) (w : RowRecord) (told : Option Told)
    (messages : List Envelope) : Type 0 where
  pub record_is : written_of effect.written ≡ meant w ∷ []
  pub framed : AreFramed parent effect.written
  pub reaction : reaction_by effect
      ≡ record {
        begun = None;
        written = logged_of (meant w) ∷ [];
        told = told;
        messages = messages;
        kept = None;
      }

-- an effect does what this row of the case says, and the case is left with a view that says what the row's
-- says
pub record DoesRow (s : OwnCase) (row : Row) (effect : RowEffect) (view : CoordinatorView) : Type 0 where
  pub written : written_of effect.written ≡ row.written
  pub framed : AreFramed s.parent effect.written
  pub reaction : reaction_by effect ≡ reaction_of (row_effect s.case row)
  pub view_is : SameView view row.view
