-- The End after the last acknowledgement that is owed.
use Rattle.std.proofs.Common.{◌≡◌, ◌∙◌, true, false, if◌then◌else◌, None, Some, List, [], ◌∷◌, Result, Ok, Err, IfOk, OnOk, ap, refl, subst, sym}
use Rattle.protocol.specs.declared.names.Outcome.{Outcome}
use Rattle.protocol.specs.declared.names.ProcessId.{ProcessId}
use Rattle.protocol.specs.declared.names.Ticket.{Ticket}
use Rattle.protocol.specs.declared.messages.Envelope.{Envelope}
use Rattle.protocol.specs.declared.messages.Finding.{Finding}
use Rattle.protocol.specs.declared.messages.Message.TheVariants.{Ack}
use Rattle.protocol_words.specs.Variants.{EndRecord}
use Rattle.protocol.specs.Records.{in_list, in_order, none_of}
use Rattle.protocol.specs.Standings.{CoordinatorView, unknown_view}
use Rattle.protocol.specs.CoordinatorRows.{Row, Seat, decided_ack, decided_ack_by, end_reports, other_tickets, posted_up, quiet, up}
use Rattle.process_state.specs.Turns.{this_version}
use Rattle.process_state.proofs.Alike.{same_view}
use Rattle.coord_effects.specs.declared.effect.RowEffect.{RowEffect}
use Rattle.coord_effects.specs.declared.effect.RowRecord.{RowRecord}
use Rattle.coord_effects.specs.declared.seat.OwnCase.{OwnCase}
use Rattle.coord_effects.specs.Rows.{DoesRow, ShowsRecord, end_written, meant, seat_meant}

-- the row that writes this record, sends this, and leaves nothing of the case
abbrev pub ending : RowRecord → List Envelope → Row
ending w ms =
    record {
      written = meant w ∷ [];
      told = None;
      messages = ms;
      accepts = [];
      counts = [];
      view = unknown_view;
    }

does_shown : (s : OwnCase) (w : RowRecord) (ms : List Envelope) (effect : RowEffect) (view : CoordinatorView)
    → ShowsRecord s.parent effect w None ms → view ≡ unknown_view → DoesRow s (ending w ms) effect view
does_shown s w ms effect view shows gone =
    record {
      written = shows.record_is;
      framed = shows.framed;
      reaction = shows.reaction;
      view_is = rw gone (same_view unknown_view);
    }

-- what shows this record and leaves nothing of the case does the row that says so
pub does_ending : {E : Type 0} (s : OwnCase) (w : RowRecord) (ms : List Envelope) (row : Row)
    (view : CoordinatorView)
    (made : Result RowEffect E) → row ≡ ending w ms
    → IfOk made (λ effect. ShowsRecord s.parent effect w None ms) → OnOk made (view ≡ unknown_view)
    → IfOk made (λ effect. DoesRow s row effect view)
does_ending s w ms row view (Ok effect) is shows gone =
    subst (λ r. DoesRow s r effect view) (sym is) (does_shown s w ms effect view shows gone)
does_ending s w ms row view (Err e) is shows gone = shows

-- at the root the End reports what was found
pub root_ending : (s : OwnCase) (o : Outcome) (fs : List Finding) (v : CoordinatorView) → s.parent ≡ None
    → decided_ack_by this_version (seat_meant s) o [] fs v
    ≡ ending (end_written s.case (end_reports this_version None fs)) []
unfolding none_of
root_ending s o fs v root =
    ap (λ p. ending (end_written s.case (end_reports this_version p fs))
    (posted_up s.me p (Ack s.case o (in_order fs)))) root

-- below the root it reports nothing, and what was found goes up
pub ending_below : (s : OwnCase) (p : ProcessId) (o : Outcome) (fs : List Finding) (v : CoordinatorView)
    → s.parent ≡ Some p
    → decided_ack_by this_version (seat_meant s) o [] fs v
    ≡ ending (record { entry = EndRecord s.case None; forced = false })
    (up (seat_meant s) (Ack s.case o (in_order fs)))
unfolding none_of
ending_below s p o fs v below =
    ap (λ q. ending (end_written s.case (end_reports this_version q fs))
    (up (seat_meant s) (Ack s.case o (in_order fs)))) below

no_others : (s : Seat) (o : Outcome) (us : List Ticket) (fs : List Finding) (v : CoordinatorView)
    → none_of us ≡ true → decided_ack_by this_version s o us fs v ≡ decided_ack_by this_version s o [] fs v
unfolding none_of
no_others s o [] fs v none = refl
no_others s o (u ∷ us) fs v none = absurd (cc)

-- the last acknowledgement that is owed ends the case
pub last_ack : (s : Seat) (o : Outcome) (t : Ticket) (fs : List Finding) (v : CoordinatorView)
    → in_list v.owed t ≡ true → none_of (other_tickets t v.owed) ≡ true
    → decided_ack this_version s o t fs v ≡ decided_ack_by this_version s o [] fs v
last_ack s o t fs v owed last =
    ap (λ b. if b then decided_ack_by this_version s o (other_tickets t v.owed) fs v else quiet v) owed
    ∙ no_others s o (other_tickets t v.owed) fs v last
