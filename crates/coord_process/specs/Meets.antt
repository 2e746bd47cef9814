-- Which turn of the model the code's turn stands for, and what it may rest on.
use Rattle.std.specs.Prelude.{◌≡◌, ◌&&◌, ⊤, ℕ, Bool, true, false, Option, Some, None, [], ◌∷◌}
use Rattle.protocol.specs.declared.names.Case.{Case}
use Rattle.protocol.specs.declared.names.Ticket.{Ticket}
use Rattle.protocol.specs.declared.names.Txn.{Txn}
use Rattle.protocol.specs.declared.messages.Message.TheVariants.{Joined}
use Rattle.protocol.specs.declared.events.Act.{Act}
use Rattle.protocol.specs.declared.events.Input.{Input}
use Rattle.protocol_words.specs.Variants.{ActInput}
use Rattle.protocol.specs.declared.events.StepError.{StepError}
use Rattle.protocol.specs.declared.events.StepError.TheVariants.{Closed, UnknownTxn}
use Rattle.protocol.specs.declared.standings.Standing.{Standing}
use Rattle.protocol.specs.declared.standings.Standing.TheVariants.{Active, Unknown}
use Rattle.protocol.specs.Names.{child_case, presumed, same_case, same_txn}
use Rattle.protocol.specs.Records.{is_reported}
use Rattle.protocol.specs.CoordinatorRows.{Row, post, tells_outcome}
use Rattle.case_table.specs.Tables.{AreApart, live_value}
use Rattle.process_state.specs.Turns.{Turn, Refuses as RefusesTurn, Begins as BeginsTurn, Issues as IssuesTurn, Takes as TakesTurn, Says, FindsChildCase, asked_by, asked_of, clear_turn, coordinator_act, kept_records, next_begun, next_ticket, seat_in, turn_of, no_answer, is_refusal}
use Rattle.process_state.specs.Makes.{retires}
use Rattle.coord_cases.specs.Cases.{FitsGiven, Slots, has_child, ticket_in, view_in}
use Rattle.coord_rows.specs.declared.asked.CaseInput.{CaseInput}
use Rattle.coord_rows.specs.declared.asked.CaseInput.TheVariants.{Vote, Ack, Inquire}
use Rattle.coord_rows.specs.Asks.{Accepts, asked_row, is_for_any, is_of_root, is_retiring}
use Rattle.coord_cases.specs.Takes.{IsLiveAt}
use Rattle.coord_process.specs.declared.turn.Met.{Met}
use Rattle.coord_process.specs.declared.turn.Met.TheVariants.{Refuses, Begins, Issues, Takes, Clears, Answers, Repeats, Presumes, Nothing}
use Rattle.coord_process.specs.States.{CoordinatorValue, state}

-- the row that is met by what is asked of a case
abbrev pub met : CoordinatorValue → Case → CaseInput → Row
met v c asked = asked_row (seat_in (state v) c) asked (view_in v.slots c)

-- the turn of the model
abbrev pub meant : CoordinatorValue → Met → Turn
meant v (Refuses e) = RefusesTurn e
meant v (Begins p) = BeginsTurn (next_begun (state v) p)
meant v (Issues p d) = IssuesTurn d (next_ticket (state v)) (post v.me p (Joined d (next_ticket (state v))))
meant v (Takes k c asked) = TakesTurn c (met v c asked)
meant v (Clears c) =
    clear_turn (seat_in (state v) c) (is_reported (kept_records (state v)) c) (view_in v.slots c) Unknown
meant v (Answers c asked) = TakesTurn c (met v c asked)
meant v (Repeats p d t) = Says (post v.me p (Joined d t) ∷ [])
meant v (Presumes x t) =
    Says (post v.me t.child (tells_outcome (presumed x.presumption) (child_case x t)) ∷ [])
meant v Nothing = Says []

-- the input ends the time of a ticket just where what is asked of the case does
abbrev pub RetiresAs : Input → CaseInput → Case → Type 0
RetiresAs i asked c = (d : Case) (t : Ticket)
    → retires i d t ≡ (is_retiring asked && same_case (child_case d.txn t) c)

-- what is asked of the case under the key may be asked of it
pub record MayTake (v : CoordinatorValue) (i : Input) (key : ℕ) (c : Case) (asked : CaseInput) : Type 0 where
  pub at : IsLiveAt v.slots key c
  pub accepted : Accepts asked (view_in v.slots c)
  pub root : is_of_root asked ≡ true → c.ticket ≡ None
  pub up : v.log.sight.failed ≡ false
  pub retiring : RetiresAs i asked c

-- a report of the root's case may be cleared: nothing is known of the case
pub record MayClear (v : CoordinatorValue) (i : Input) (c : Case) : Type 0 where
  pub unknown : (view_in v.slots c).standing ≡ Unknown
  pub root : v.parent ≡ None
  pub up : v.log.sight.failed ≡ false
  pub retiring : (d : Case) (t : Ticket) → retires i d t ≡ false

-- what is asked of the case that is not live may be asked of it
pub record MayAnswer (v : CoordinatorValue) (i : Input) (c : Case) (asked : CaseInput) : Type 0 where
  pub gone : live_value v.slots c ≡ None
  pub any : is_for_any asked ≡ true
  pub apart : AreApart v.slots
  pub fits : FitsGiven v.slots
  pub retiring : RetiresAs i asked c

-- the input ends the time of no ticket
abbrev pub RetiresNone : Input → Type 0
RetiresNone i = (d : Case) (t : Ticket) → retires i d t ≡ false

-- what the turn rests on
abbrev pub May : CoordinatorValue → Input → Met → Type 0
May v i (Refuses e) = is_refusal e ≡ true
May v i (Begins p) = RetiresNone i
May v i (Issues p d) = ticket_in v.slots d ≡ None
May v i (Takes k c asked) = MayTake v i k c asked
May v i (Clears c) = MayClear v i c
May v i (Answers c asked) = MayAnswer v i c asked
May v i _ = ⊤

-- the turn is the one that the act meets at a coordinator that is up
pub record MeetsAct (v : CoordinatorValue) (a : Act) (turn : Met) : Type 0 where
  pub is : coordinator_act (state v) a ≡ meant v turn
  pub may : May v (ActInput a) turn

-- the turn is the one that the message meets, which says this for the case that was found for the child that
-- it is of
pub record Hears (v : CoordinatorValue) (i : Input) (says : Option Case → Turn)
    (turn : Met) : Type 0 where
  pub found : Option Case
  pub finds : FindsChildCase (state v) (asked_by i) found
  pub is : says found ≡ meant v turn
  pub may : May v i turn

-- what a child asks of its case
abbrev pub is_of_child : CaseInput → Bool
is_of_child (Vote t w) = true
is_of_child (Ack t o fs) = true
is_of_child (Inquire t) = true
is_of_child _ = false

-- what is met by what a child asks of the case that was found for it; if there is none, the other turn
abbrev pub met_by_child : CoordinatorValue → CaseInput → Met → Option Case → Turn
met_by_child v asked otherwise None = meant v otherwise
met_by_child v asked otherwise (Some c) = TakesTurn c (met v c asked)

-- the turn is the one that is met by what a child asks
pub record HearsOf (v : CoordinatorValue) (x : Txn) (t : Ticket) (asked : CaseInput) (otherwise : Met)
    (turn : Met) : Type 0 where
  pub found : Option Case
  pub finds : FindsChildCase (state v) (Some (x, t)) found
  pub is : met_by_child v asked otherwise found ≡ meant v turn
  pub may : (i : Input) → RetiresNone i → May v i turn

-- the turn is the one that is met by a message of a child, which says this for the case that was found for it
pub record HearsFrom (v : CoordinatorValue) (d : Case) (says : Option Case → Turn)
    (turn : Met) : Type 0 where
  pub found : Option Case
  pub finds : FindsChildCase (state v) (asked_of d) found
  pub is : says found ≡ meant v turn
  pub may : (i : Input) → RetiresNone i → May v i turn

-- what was found of a child: no live case of the transaction has it; or the key and the case that has it
abbrev pub FindsAt : Slots → Txn → Ticket → Option (ℕ × Case) → Type 0
FindsAt slots x t None = (c : Case) → same_txn c.txn x ≡ true → has_child (view_in slots c) t ≡ false
FindsAt slots x t (Some found) =
    IsLiveAt slots found.0 found.1 × (same_txn found.1.txn x ≡ true)
    × (has_child (view_in slots found.1) t ≡ true)

-- no live case is Active: the error says why
abbrev pub IsClosed : Standing → StepError → Type 0
IsClosed Unknown e = e ≡ UnknownTxn
IsClosed Active e = ⊥
IsClosed _ e = e ≡ Closed

-- the turn is the one that the input meets, with the case that was found for the child that it is of
pub record Meets (v : CoordinatorValue) (i : Input) (turn : Met) : Type 0 where
  pub found : Option Case
  pub finds : FindsChildCase (state v) (asked_by i) found
  pub is : turn_of (state v) no_answer found i ≡ meant v turn
  pub may : May v i turn

-- what was found of a case: it is not live; or its key, and where it stands
abbrev pub FindsLive : Slots → Case → Option (ℕ × Standing) → Type 0
FindsLive slots c None = live_value slots c ≡ None
FindsLive slots c (Some found) = IsLiveAt slots found.0 c × ((view_in slots c).standing ≡ found.1)
