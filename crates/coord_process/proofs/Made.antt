-- What each turn makes of a coordinator.
use Rattle.std.proofs.Common.{◌≡◌, ◌≢◌, is_some, ◌+◌, ◌∷◌, [], true, false, Option, None, Some, List, map, if◌then◌else◌, Result, Ok, Err, IfOk, IfErr, refl, subst, sym, ap, ◌∙◌}
use Rattle.std.proofs.lemmas.List.{append-nil}
use Rattle.protocol.specs.declared.names.Case.{Case}
use Rattle.protocol.specs.declared.names.Kind.TheVariants.{Coordinator}
use Rattle.protocol.specs.declared.names.Presumption.{Presumption}
use Rattle.protocol.specs.declared.names.Presumption.TheVariants.{PresumeAbort, PresumeCommit}
use Rattle.protocol.specs.declared.names.ProcessId.{ProcessId}
use Rattle.protocol.specs.declared.names.Ticket.{Ticket}
use Rattle.protocol.specs.declared.messages.Envelope.{Envelope}
use Rattle.protocol.specs.declared.events.Input.{Input}
use Rattle.protocol.specs.declared.events.Reaction.{Reaction}
use Rattle.protocol.specs.declared.standings.Standing.TheVariants.{Unknown, Heuristic}
use Rattle.protocol.specs.declared.events.StepError.{StepError}
use Rattle.protocol.specs.declared.events.StepError.TheVariants.{Memory, Device, UnknownTxn, NotAChild, Closed, Failed, NotInDoubt, NothingToForget, NoSuch, Exhausted}
use Rattle.protocol.specs.Names.{child_case, root_case}
use Rattle.protocol.specs.LogNames.{in_log, parent_of}
use Rattle.protocol.specs.Nodes.{Written, entries_written, reaction_of}
use Rattle.protocol.specs.Standings.{CoordinatorView, unknown_view}
use Rattle.protocol.specs.declared.messages.Message.TheVariants.{Joined as JoinedMessage}
use Rattle.protocol.specs.Records.{is_reported}
use Rattle.protocol.specs.CoordinatorRows.{Row, Seat, post, unknown_commit_by, unknown_abort_by, unknown_forget}
use Rattle.protocol.specs.Reactions.{row_effect, sends_only}
use Rattle.protocol.specs.Views.{begin_effect}
use Rattle.protocol.specs.SameViews.{SameView, open_view}
use Rattle.case_table.specs.Tables.{AreApart, live_value}
use Rattle.log_records.specs.Sights.{Breaks, LogSight, LogState}
use Rattle.process_state.specs.States.{CoreState, SameCore, kind_of_role, logged, wrote}
use Rattle.process_state.specs.Turns.{Says, Takes, clear_turn, is_refusal, kept_records, reacted, seat_in, no_answer, this_version}
use Rattle.process_state.specs.Bounds.{FitsBounds}
use Rattle.process_state.specs.Makes.{ProcessMakes, NotMade, OpensCase, Unbounded, retired_by}
use Rattle.process_state.proofs.Alike.{same_view}
use Rattle.coord_cases.specs.Cases.{BeginsCase, FitsGiven, GivesTicket, Slots, held_view, ticket_in, view_in}
use Rattle.coord_effects.specs.declared.seat.OwnCase.{OwnCase}
use Rattle.coord_effects.specs.declared.effect.RowFrame.{RowFrame}
use Rattle.coord_effects.specs.declared.effect.RowEffect.{RowEffect}
use Rattle.coord_effects.specs.Rows.{AreFramed, DoesRow, NotWritten, reaction_by, seat_meant, written_of}
use Rattle.coord_rows.specs.declared.asked.CaseInput.{CaseInput}
use Rattle.coord_rows.specs.declared.asked.CaseInput.TheVariants.{Join, Work, Commit, AbortActive, AbortCollecting, Ask, Joined, Vote, Ack, Inquire, Prepare, Commits, Aborts}
use Rattle.coord_rows.specs.Asks.{RowNotTaken, asked_row, is_for_any, is_retiring}
use Rattle.coord_cases.specs.Takes.{SameCases, TakesRowOf, retired_if}
use Rattle.coord_cases.proofs.Given.{gone_keeps}
use Rattle.coord_process.specs.declared.turn.Met.{Met}
use Rattle.coord_process.specs.declared.turn.Met.TheVariants.{Refuses, Begins as BeginsOne, Issues as IssuesOne, Clears}
use Rattle.coord_process.specs.States.{CoordinatorValue, own_ticket, own_txn, role_below, state}
use Rattle.coord_process.specs.Meets.{Meets, RetiresAs, RetiresNone, meant, met}
use Rattle.coord_process.specs.Turned.{BreaksUnder, IsBrokenUnder, Stopped, Turned, WritesDown, framed_of}

-- The step.

-- the turn that the input meets was made: so was the input
pub makes_of : (v : CoordinatorValue) (new : CoreState) (i : Input) (turn : Met)
    (reaction : Reaction) → Meets v i turn
    → Turned (state v) new i (meant v turn) reaction → ProcessMakes (state v) new no_answer i reaction
makes_of v new i turn reaction meets turned =
    record {
      found = meets.found;
      finds = meets.finds;
      moves = rw meets.is turned.moves;
      effect = turned.effect;
      does = ap reacted meets.is ∙ turned.does;
      shown = turned.shown;
    }

-- the turn was stopped: so the input was not made
pub not_made : (v : CoordinatorValue) (new : CoreState) (i : Input) (turn : Met)
    (e : StepError) → Meets v i turn
    → Stopped (state v) new (meant v turn) e → NotMade (state v) new no_answer i e
not_made v new i turn Memory meets stopped = stopped
not_made v new i turn Device meets stopped = record {
  found = meets.found;
  finds = meets.finds;
  breaks = rw meets.is stopped.breaks;
}
not_made v new i turn UnknownTxn meets stopped = record {
  same = stopped.0;
  found = meets.found;
  finds = meets.finds;
  refuses = meets.is ∙ stopped.1;
}
not_made v new i turn NotAChild meets stopped = record {
  same = stopped.0;
  found = meets.found;
  finds = meets.finds;
  refuses = meets.is ∙ stopped.1;
}
not_made v new i turn Closed meets stopped = record {
  same = stopped.0;
  found = meets.found;
  finds = meets.finds;
  refuses = meets.is ∙ stopped.1;
}
not_made v new i turn Failed meets stopped = record {
  same = stopped.0;
  found = meets.found;
  finds = meets.finds;
  refuses = meets.is ∙ stopped.1;
}
not_made v new i turn NotInDoubt meets stopped = record {
  same = stopped.0;
  found = meets.found;
  finds = meets.finds;
  refuses = meets.is ∙ stopped.1;
}
not_made v new i turn NothingToForget meets stopped = record {
  same = stopped.0;
  found = meets.found;
  finds = meets.finds;
  refuses = meets.is ∙ stopped.1;
}
not_made v new i turn NoSuch meets stopped = record {
  same = stopped.0;
  found = meets.found;
  finds = meets.finds;
  refuses = meets.is ∙ stopped.1;
}
not_made v new i turn Exhausted meets stopped = record {
  same = stopped.0;
  why = Unbounded meets.found meets.finds stopped.1.effect (ap reacted meets.is ∙ stopped.1.does)
      stopped.1.beyond;
}

pub same_core : (s : CoreState) → SameCore s s
same_core s =
    record {
      log = refl;
      rest = record {
        place = refl;
        boot = refl;
        begun = refl;
        given = refl;
        tickets = λ d. refl;
        views = λ c.
            same_view (s.view_of c);
        branches = λ c. refl;
        decided = λ c. refl;
        spent = refl;
      };
    }

-- the input meets a refusal
pub refused_by : (v : CoordinatorValue) (i : Input) (e : StepError) → Meets v i (Refuses e)
    → NotMade (state v) (state v) no_answer i e
refused_by v i Memory meets = same_core (state v)
refused_by v i Device meets = let clash : false ≡ true = meets.may in absurd (cc)
refused_by v i Exhausted meets = let clash : false ≡ true = meets.may in absurd (cc)
refused_by v i UnknownTxn meets = record {
  same = same_core (state v);
  found = meets.found;
  finds = meets.finds;
  refuses = meets.is;
}
refused_by v i NotAChild meets = record {
  same = same_core (state v);
  found = meets.found;
  finds = meets.finds;
  refuses = meets.is;
}
refused_by v i Closed meets = record {
  same = same_core (state v);
  found = meets.found;
  finds = meets.finds;
  refuses = meets.is;
}
refused_by v i Failed meets = record {
  same = same_core (state v);
  found = meets.found;
  finds = meets.finds;
  refuses = meets.is;
}
refused_by v i NotInDoubt meets = record {
  same = same_core (state v);
  found = meets.found;
  finds = meets.finds;
  refuses = meets.is;
}
refused_by v i NothingToForget meets = record {
  same = same_core (state v);
  found = meets.found;
  finds = meets.finds;
  refuses = meets.is;
}
refused_by v i NoSuch meets = record {
  same = same_core (state v);
  found = meets.found;
  finds = meets.finds;
  refuses = meets.is;
}

-- what stopped the turn, where the device failed
broken_under : (v : CoordinatorValue) (new : CoreState) (i : Input) (turn : Met) → Meets v i turn
    → BreaksUnder (state v) new (meant v turn) → IsBrokenUnder (state v) new i
broken_under v new i turn meets stopped =
    let under = subst (BreaksUnder (state v) new) (sym meets.is) stopped in
    record {
      broken = record { found = meets.found; finds = meets.finds; breaks = under.breaks };
      writes = under.writes;
    }

-- a row that frames a record has one
writes_some : (w : Option RowFrame) (ws : List Written) → is_some w ≡ true → written_of w ≡ ws → ws ≢ []
writes_some None ws some same = absurd (cc)
writes_some (Some w) ws some same = λ none. let clash : written_of (Some w) ≡ [] = same ∙ none in absurd (cc)

-- Results.

pub step_under : (v : CoordinatorValue) (new : CoreState) (i : Input) (turn : Met)
    (made : Result Reaction StepError) → Meets v i turn
    → IfErr made (Stopped (state v) new (meant v turn))
    → IfErr made (λ e. e ≡ Device → IsBrokenUnder (state v) new i)
step_under v new i turn (Ok reaction) meets stopped = stopped
step_under v new i turn (Err e) meets stopped = λ is. broken_under v new i turn meets
    (subst (Stopped (state v) new (meant v turn)) is stopped)

-- a refusal is none of the device
pub refuses_under : {A : Type 0} (v : CoordinatorValue) (i : Input) (e : StepError) → Meets v i (Refuses e)
    → e ≡ Device → A
refuses_under v i e meets is =
    let clash : false ≡ true = subst (λ x. is_refusal x ≡ true) is meets.may in absurd (cc)

pub step_ok : (v : CoordinatorValue) (new : CoreState) (i : Input) (turn : Met)
    (made : Result Reaction StepError) → Meets v i turn
    → IfOk made (Turned (state v) new i (meant v turn)) → IfOk made (ProcessMakes (state v) new no_answer i)
step_ok v new i turn (Ok reaction) meets turned = makes_of v new i turn reaction meets turned
step_ok v new i turn (Err e) meets turned = turned

pub step_err : (v : CoordinatorValue) (new : CoreState) (i : Input) (turn : Met)
    (made : Result Reaction StepError) → Meets v i turn
    → IfErr made (Stopped (state v) new (meant v turn)) → IfErr made (NotMade (state v) new no_answer i)
step_err v new i turn (Ok reaction) meets stopped = stopped
step_err v new i turn (Err e) meets stopped = not_made v new i turn e meets stopped

-- what is said for each input is said for this one
pub for_input : (P : Input → Type 0) (Q : Input → Reaction → Type 0) (made : Result Reaction StepError)
    → IfOk made (λ reaction. (i : Input) → P i → Q i reaction)
    → (i : Input) → P i → IfOk made (Q i)
for_input P Q (Ok reaction) all i is = all i is
for_input P Q (Err e) all i is = all

pub for_any : (Q : Input → Reaction → Type 0) (made : Result Reaction StepError)
    → IfOk made (λ reaction. (i : Input) → Q i reaction) → (i : Input) → IfOk made (Q i)
for_any Q (Ok reaction) all i = all i
for_any Q (Err e) all i = all

-- these messages go out, and nothing moves
pub said_turn : (v : CoordinatorValue) (ls : List Envelope) (reaction : Reaction)
    → reaction ≡ reaction_of (sends_only ls) → (i : Input)
    → Turned (state v) (state v) i (Says ls) reaction
said_turn v ls reaction shown i = record {
  moves = same_core (state v);
  effect = sends_only ls;
  does = refl;
  shown = shown;
}

-- Tickets and cases.

-- a coordinator has no branch that an operator decided
pub never_decided : {A : Type 0} → Unknown ≡ Heuristic → A
never_decided is = absurd (cc)

pub retired_none : (i : Input) (d : Case) (o : Option Ticket) → RetiresNone i → retired_by i d o ≡ o
retired_none i d None none = refl
retired_none i d (Some t) none = rw (none d t) refl

retired_as : (i : Input) (asked : CaseInput) (c d : Case) (o : Option Ticket) → RetiresAs i asked c
    → retired_if (is_retiring asked) c d o ≡ retired_by i d o
retired_as i asked c d None as' = refl
retired_as i asked c d (Some t) as' = ap (λ b. if b then None else Some t) (sym (as' d t))

same_of : (v w : CoordinatorView) → v ≡ w → SameView v w
same_of v w same = subst (λ u. SameView v u) same (same_view v)

-- Begin and JOIN.

module _ (v : CoordinatorValue) (slots : Slots) where
  -- a transaction began
  pub begun_turn : (p : Presumption) (reaction : Reaction)
      → BeginsCase v.slots slots (root_case (own_txn v p (v.begun + 1)))
      → reaction ≡ reaction_of (begin_effect (own_txn v p (v.begun + 1))) → (i : Input) → RetiresNone i
      → Turned (state v) (state (record v { begun = v.begun + 1; slots = slots })) i
      (meant v (BeginsOne p)) reaction
  begun_turn p reaction begins shown i none =
      record {
        moves = record {
          log = refl;
          own = same_of _ open_view begins.moves.own;
          others = λ d differs. same_of (view_in slots d) (view_in v.slots d) (begins.moves.others d differs);
          branches = λ d. refl;
          begun = refl;
          given = refl;
          stays = record {
            place = refl;
            boot = refl;
            tickets = λ d. begins.tickets d
                ∙ sym (retired_none i d (ticket_in v.slots d) none);
            decided = λ d is. never_decided is;
          };
        };
        effect = begin_effect (own_txn v p (v.begun + 1));
        does = refl;
        shown = shown;
      }

  opens_case : (role : Option ProcessId) (d : Case) (t : Ticket) → GivesTicket v.slots slots d t
      → OpensCase (role_below role) (state v)
      (state (record v { given = v.given + 1; slots = slots })) (child_case d.txn t)
  opens_case None d t gives = (
    same_of _ open_view gives.moves.own,
    λ e differs. same_of (view_in slots e) (view_in v.slots e)
        (gives.moves.others e differs),
    λ e. refl,
  )
  opens_case (Some p) d t gives = (
    same_of _ open_view gives.moves.own,
    λ e differs. same_of (view_in slots e) (view_in v.slots e)
        (gives.moves.others e differs),
    λ e. refl,
  )

  -- a ticket was given
  pub issued_turn : (p : ProcessId) (d : Case) (reaction : Reaction)
      → GivesTicket v.slots slots d (own_ticket v (v.given + 1))
      → reaction ≡ reaction_of (sends_only (post v.me p (JoinedMessage d (own_ticket v (v.given + 1))) ∷ []))
      → (i : Input)
      → Turned (state v) (state (record v { given = v.given + 1; slots = slots })) i
      (meant v (IssuesOne p d)) reaction
  issued_turn p d reaction gives shown i =
      record {
        moves = record {
          log = refl;
          cases = opens_case v.parent d (own_ticket v (v.given + 1)) gives;
          ticket = gives.ticket;
          tickets = λ e differs. gives.tickets e differs;
          decided = λ e is. refl;
          begun = refl;
          given = refl;
          place = refl;
          boot = refl;
        };
        effect = sends_only (post v.me p (JoinedMessage d (own_ticket v (v.given + 1))) ∷ []);
        does = refl;
        shown = shown;
      }

-- Rows.

parent_below : (p : Option ProcessId) → parent_of (role_below p) ≡ p
parent_below None = refl
parent_below (Some p) = refl

abbrev pub seat_for : CoordinatorValue → Case → OwnCase
seat_for v c = record { me = v.me; parent = v.parent; case = c }

seat_is : (v : CoordinatorValue) (c : Case) → seat_meant (seat_for v c) ≡ seat_in (state v) c
seat_is v c = ap (λ p. record { me = v.me; parent = p; own = c }) (sym (parent_below v.parent))

row_is : (v : CoordinatorValue) (c : Case) (asked : CaseInput)
    → asked_row (seat_meant (seat_for v c)) asked (view_in v.slots c) ≡ met v c asked
row_is v c asked = ap (λ s. asked_row s asked (view_in v.slots c)) (seat_is v c)

framed_is : (p : Option ProcessId) (w : Option RowFrame) → AreFramed p w
    → framed_of w ≡ map (in_log p) (entries_written (written_of w))
framed_is p None framed = refl
framed_is p (Some w) framed = ap (λ r. r ∷ []) framed.named

-- the frames of a row's record are its records as the log holds them
logged_is : (v : CoordinatorValue) (w : Option RowFrame) (ws : List Written)
    → AreFramed v.parent w → written_of w ≡ ws
    → framed_of w ≡ logged (state v) (entries_written ws)
logged_is v w ws framed same =
    framed_is v.parent w framed ∙ ap (λ rs. map (in_log v.parent) (entries_written rs)) same
    ∙ ap (λ p. map (in_log p) (entries_written ws)) (sym (parent_below v.parent))

module _ (v : CoordinatorValue) (log : LogState) (slots : Slots) (c : Case) (asked : CaseInput)
    (effect : RowEffect) (mid : LogState) (room : mid.sight ≡ v.log.sight)
    (takes : TakesRowOf v.slots slots (seat_for v c) asked effect) where
  does_met : DoesRow (seat_for v c) (met v c asked) effect (view_in slots c)
  does_met = subst (λ r. DoesRow (seat_for v c) r effect (view_in slots c)) (row_is v c asked) takes.does

  sight_is : WritesDown mid log effect.written → log.sight ≡ wrote v.log.sight (met v c asked).written
      (logged (state v) (entries_written (met v c asked).written))
  sight_is writes =
      writes.sight ∙ ap (λ s. wrote s (written_of effect.written) (framed_of effect.written)) room
      ∙ (λ j. wrote v.log.sight (does_met.written j)
      (logged_is v effect.written (met v c asked).written takes.does.framed does_met.written j))

  -- the row was taken and its record stands
  pub row_turn : WritesDown mid log effect.written → (i : Input) → RetiresAs i asked c
      → Turned (state v) (state (record v { log = log; slots = slots })) i
      (Takes c (met v c asked)) (reaction_by effect)
  row_turn writes i as' =
      record {
        moves = record {
          log = sight_is writes;
          own = does_met.view_is;
          others = λ d differs. same_of (view_in slots d) (view_in v.slots d) (takes.others d differs);
          branches = λ d. refl;
          begun = refl;
          given = refl;
          stays = record {
            place = refl;
            boot = refl;
            tickets = λ d. takes.tickets d
                ∙ retired_as i asked c d (ticket_in v.slots d) as';
            decided = λ d is. never_decided is;
          };
        };
        effect = row_effect c (met v c asked);
        does = refl;
        shown = does_met.reaction;
      }

  -- the device failed under the record
  pub row_breaks : is_some effect.written ≡ true → Breaks mid log (framed_of effect.written)
      → BreaksUnder (state v) (state (record v { log = log; slots = slots })) (Takes c (met v c asked))
  row_breaks some breaks =
      let records = logged_is v effect.written (met v c asked).written takes.does.framed does_met.written in
      let at : Breaks (record mid { sight = v.log.sight }) log
      (logged (state v) (entries_written (met v c asked).written)) =
      subst (λ s. Breaks (record mid { sight = s }) log (logged (state v)
      (entries_written (met v c asked).written))) room (subst (Breaks mid log) records breaks) in
      record {
        breaks = (
          row_effect c (met v c asked),
          refl,
          record {
            log = record {
              form = at.form;
              appended = at.appended;
              stand = at.stand;
              no_less = at.no_less;
              more = at.more;
              leaves = at.leaves;
              failed = at.failed;
              cause = at.cause;
            };
            place = refl;
          },
        );
        writes = writes_some effect.written (met v c asked).written some does_met.written;
      }

-- A report is cleared.

module _ (v : CoordinatorValue) (log : LogState) (c : Case) (effect : RowEffect) (mid : LogState)
    (room : mid.sight ≡ v.log.sight)
    (does : (view : CoordinatorView) → DoesRow (seat_for v c)
    (unknown_forget (seat_meant (seat_for v c)) view) effect view)
    (reported : is_reported (kept_records (state v)) c ≡ true) where
  abbrev cleared : Row
  cleared = unknown_forget (seat_in (state v) c) (view_in v.slots c)

  does_clear : DoesRow (seat_for v c) cleared effect (view_in v.slots c)
  does_clear = subst (λ s. DoesRow (seat_for v c) (unknown_forget s (view_in v.slots c)) effect
      (view_in v.slots c))
      (seat_is v c) (does (view_in v.slots c))

  is_clearing : Takes c cleared ≡ meant v (Clears c)
  is_clearing = ap (λ b. clear_turn (seat_in (state v) c) b (view_in v.slots c) Unknown) (sym reported)

  clear_records : framed_of effect.written ≡ logged (state v) (entries_written cleared.written)
  clear_records = logged_is v effect.written cleared.written does_clear.framed does_clear.written

  clear_sight : WritesDown mid log effect.written
      → log.sight ≡ wrote v.log.sight cleared.written (logged (state v) (entries_written cleared.written))
  clear_sight writes =
      writes.sight ∙ ap (λ s. wrote s (written_of effect.written) (framed_of effect.written)) room
      ∙ (λ j. wrote v.log.sight (does_clear.written j) (clear_records j))

  -- Cleared stands
  pub cleared_turn : WritesDown mid log effect.written → (i : Input) → RetiresNone i
      → Turned (state v) (state (record v { log = log })) i (meant v (Clears c)) (reaction_by effect)
  cleared_turn writes i none =
      subst (λ t. Turned (state v) (state (record v { log = log })) i t (reaction_by effect))
      is_clearing (record {
        moves = record {
          log = clear_sight writes;
          own = same_view (view_in v.slots c);
          others = λ d differs. same_view (view_in v.slots d);
          branches = λ d. refl;
          begun = refl;
          given = refl;
          stays = record {
            place = refl;
            boot = refl;
            tickets = λ d. sym (retired_none i d (ticket_in v.slots d) none);
            decided = λ d is. never_decided is;
          };
        };
        effect = row_effect c cleared;
        does = refl;
        shown = does_clear.reaction;
      })

  -- the device failed under it
  pub clear_breaks : is_some effect.written ≡ true → Breaks mid log (framed_of effect.written)
      → BreaksUnder (state v) (state (record v { log = log })) (meant v (Clears c))
  clear_breaks some breaks =
      let at : Breaks (record mid { sight = v.log.sight }) log
      (logged (state v) (entries_written cleared.written)) =
      subst (λ s. Breaks (record mid { sight = s }) log (logged (state v) (entries_written cleared.written)))
      room
      (subst (Breaks mid log) clear_records breaks) in
      subst (BreaksUnder (state v) (state (record v { log = log }))) is_clearing
      (record {
        breaks = (
          row_effect c cleared,
          refl,
          record {
            log = record {
              form = at.form;
              appended = at.appended;
              stand = at.stand;
              no_less = at.no_less;
              more = at.more;
              leaves = at.leaves;
              failed = at.failed;
              cause = at.cause;
            };
            place = refl;
          },
        );
        writes = writes_some effect.written cleared.written some does_clear.written;
      })

-- nothing is reported: so nothing changes
pub not_cleared : (v : CoordinatorValue) (c : Case) → is_reported (kept_records (state v)) c ≡ false
    → Stopped (state v) (state v) (meant v (Clears c)) UnknownTxn
not_cleared v c none = (
  same_core (state v),
  ap (λ b. clear_turn (seat_in (state v) c) b (view_in v.slots c) Unknown) none,
)

-- A row that was not taken.

-- its cases and its log as they were, but for room
pub same_cases : (v : CoordinatorValue) (log : LogState) (slots : Slots) → log.sight ≡ v.log.sight
    → SameCases v.slots slots → SameCore (state v) (state (record v { log = log; slots = slots }))
same_cases v log slots room same = record {
  log = room;
  rest = record {
    place = refl;
    boot = refl;
    begun = refl;
    given = refl;
    tickets = same.tickets;
    views = same.views;
    branches = λ c. refl;
    decided = λ c. refl;
    spent = refl;
  };
}

-- the bounds of a coordinator below this parent
coordinator_bounds : (p : Option ProcessId) (ws : List Written) (ls : List Envelope)
    → FitsBounds (kind_of_role (role_below p)) (parent_of (role_below p)) ws ls
    → FitsBounds Coordinator p ws ls
coordinator_bounds None ws ls fits = fits
coordinator_bounds (Some q) ws ls fits = fits

-- the row was not taken: so its turn was stopped
pub row_untaken : (v : CoordinatorValue) (new : CoreState) (c : Case) (asked : CaseInput) (e : StepError)
    → SameCore (state v) new → RowNotTaken (seat_for v c)
    (asked_row (seat_meant (seat_for v c)) asked (view_in v.slots c)) e
    → Stopped (state v) new (Takes c (met v c asked)) e
row_untaken v new c asked Memory same h = same
row_untaken v new c asked Exhausted same h = (
  same,
  record {
    effect = row_effect c (met v c asked);
    does = refl;
    beyond = λ fits. h (subst (λ (r : Row). FitsBounds Coordinator v.parent r.written r.messages)
        (sym (row_is v c asked))
        (coordinator_bounds v.parent (met v c asked).written (met v c asked).messages fits));
  },
)
row_untaken v new c asked e same h = absurd h

-- a report was not cleared
pub clear_untaken : (v : CoordinatorValue) (new : CoreState) (c : Case) (e : StepError)
    → SameCore (state v) new
    → is_reported (kept_records (state v)) c ≡ true
    → ((view : CoordinatorView)
    → NotWritten v.parent (unknown_forget (seat_meant (seat_for v c)) view).written e)
    → Stopped (state v) new (meant v (Clears c)) e
clear_untaken v new c Memory same reported h = same
clear_untaken v new c Exhausted same reported h = (
  same,
  record {
    effect = row_effect c (unknown_forget (seat_in (state v) c) (view_in v.slots c));
    does = ap (λ b. reacted (clear_turn (seat_in (state v) c) b (view_in v.slots c) Unknown)) reported;
    beyond = λ fits. h (view_in v.slots c)
        (coordinator_bounds v.parent (unknown_forget (seat_in (state v) c) (view_in v.slots c)).written
        (unknown_forget (seat_in (state v) c) (view_in v.slots c)).messages fits).records;
  },
)
clear_untaken v new c e same reported h = absurd (h (view_in v.slots c))

-- A case that is not live.

unwritten : (s : Seat) (asked : CaseInput) → is_for_any asked ≡ true
    → ((asked_row s asked unknown_view).written ≡ []) × ((asked_row s asked unknown_view).view ≡ unknown_view)
unwritten s (Joined t) any = (refl, refl)
unwritten s Prepare any = (refl, refl)
unwritten s Commits any = by_presumption s.own.txn.presumption
  where
    by_presumption : (p : Presumption) → ((unknown_commit_by this_version s unknown_view p).written ≡ [])
        × ((unknown_commit_by this_version s unknown_view p).view ≡ unknown_view)
    by_presumption PresumeAbort = (refl, refl)
    by_presumption PresumeCommit = (refl, refl)
unwritten s Aborts any = by_presumption s.own.txn.presumption
  where
    by_presumption : (p : Presumption) → ((unknown_abort_by this_version s unknown_view p).written ≡ [])
        × ((unknown_abort_by this_version s unknown_view p).view ≡ unknown_view)
    by_presumption PresumeAbort = (refl, refl)
    by_presumption PresumeCommit = (refl, refl)
unwritten s (Join q) any = absurd (cc)
unwritten s (Work t op) any = absurd (cc)
unwritten s Commit any = absurd (cc)
unwritten s AbortActive any = absurd (cc)
unwritten s AbortCollecting any = absurd (cc)
unwritten s Ask any = absurd (cc)
unwritten s (Vote t w) any = absurd (cc)
unwritten s (Ack t o fs) any = absurd (cc)
unwritten s (Inquire t) any = absurd (cc)

wrote_none : (l : LogSight) → wrote l [] [] ≡ l
wrote_none l = ap (λ rs. record l { kept = record { forced = l.kept.forced; unforced = rs } })
    (append-nil l.kept.unforced)

-- a case that is not live answered, and nothing moved
pub answered_turn : (v : CoordinatorValue) (c : Case) (asked : CaseInput) (effect : RowEffect)
    → is_for_any asked ≡ true → live_value v.slots c ≡ None → AreApart v.slots → FitsGiven v.slots
    → DoesRow (seat_for v c) (asked_row (seat_meant (seat_for v c)) asked unknown_view) effect unknown_view
    → (i : Input) → RetiresAs i asked c
    → Turned (state v) (state v) i (Takes c (met v c asked)) (reaction_by effect)
answered_turn v c asked effect any gone apart fits does i as' =
    let unknown : view_in v.slots c ≡ unknown_view = ap held_view gone in
    let row : asked_row (seat_meant (seat_for v c)) asked unknown_view ≡ met v c asked =
    ap (asked_row (seat_meant (seat_for v c)) asked) (sym unknown) ∙ row_is v c asked in
    let quiet = unwritten (seat_meant (seat_for v c)) asked any in
    let written : (met v c asked).written ≡ [] = sym (ap (λ (r : Row). r.written) row) ∙ quiet.0 in
    let view : (met v c asked).view ≡ unknown_view = sym (ap (λ (r : Row). r.view) row) ∙ quiet.1 in
    record {
      moves = record {
        log = sym (ap (λ ws. wrote v.log.sight ws (logged (state v) (entries_written ws)))
            written ∙ wrote_none v.log.sight);
        own = same_of (view_in v.slots c) (met v c asked).view (unknown ∙ sym view);
        others = λ d differs. same_view (view_in v.slots d);
        branches = λ d. refl;
        begun = refl;
        given = refl;
        stays = record {
          place = refl;
          boot = refl;
          tickets = λ d. sym (gone_keeps v.slots fits apart c gone (is_retiring asked) d)
              ∙ retired_as i asked c d (ticket_in v.slots d) as';
          decided = λ d is. never_decided is;
        };
      };
      effect = row_effect c (met v c asked);
      does = refl;
      shown = does.reaction ∙ ap (λ r. reaction_of (row_effect c r)) row;
    }
