-- What a turn makes of a process, and what a refusal and a fault leave of it.
use Rattle.std.specs.Prelude.{◌≡◌, ◌+◌, Bool, true, false, if◌then◌else◌, Option, Some, None, List}
use Rattle.protocol.specs.declared.names.Case.{Case}
use Rattle.protocol.specs.declared.names.Outcome.{Outcome}
use Rattle.protocol.specs.declared.names.Ticket.{Ticket}
use Rattle.protocol.specs.declared.names.Txn.{Txn}
use Rattle.protocol.specs.declared.names.Kind.{Kind}
use Rattle.protocol.specs.declared.names.Kind.TheVariants.{Coordinator, Manager}
use Rattle.protocol.specs.declared.messages.Message.TheVariants.{Prepare, Abort}
use Rattle.protocol.specs.declared.standings.Standing.TheVariants.{Active, Heuristic}
use Rattle.protocol.specs.declared.events.Act.TheVariants.{Decide}
use Rattle.protocol.specs.declared.events.Input.{Input}
use Rattle.protocol_words.specs.Variants.{ActInput, MessageInput}
use Rattle.protocol.specs.declared.events.Reaction.{Reaction}
use Rattle.protocol.specs.declared.events.StepError.{StepError}
use Rattle.protocol.specs.declared.events.StepError.TheVariants.{Memory, Device, Exhausted}
use Rattle.protocol.specs.declared.records.Record.{Record}
use Rattle.protocol.specs.Names.{same_case, child_case, root_case}
use Rattle.protocol.specs.Nodes.{Role, AtLeaf, DataAnswer, Effect, entries_written, reaction_of}
use Rattle.protocol.specs.Standings.{ManagerView}
use Rattle.protocol.specs.CoordinatorRows.{Row}
use Rattle.protocol.specs.ManagerRows.{LeafRow}
use Rattle.protocol.specs.Reactions.{Does}
use Rattle.protocol.specs.SameViews.{SameView, open_view}
use Rattle.log_records.specs.Sights.{LogSight, LogState, Breaks}
use Rattle.process_state.specs.States.{CoreState, HasNumbers, SameCore, kind_of_role, log_behind, logged, parent}
use Rattle.process_state.specs.Turns.{Turn, Refuses, Begins, Issues, Takes, Handles, Says, FindsChildCase, asked_by, reacted, turn_of}
use Rattle.process_state.specs.Bounds.{FitsBounds}

-- Tickets.

-- the input ends the ticket's time: PREPARE or ABORT of its case
abbrev pub retires : Input → Case → Ticket → Bool
retires (MessageInput k (Prepare c n)) d t = same_case (child_case d.txn t) c
retires (MessageInput k (Abort c)) d t = same_case (child_case d.txn t) c
retires _ d t = false

-- the active ticket of the parent's case d after an input
abbrev pub retired_by : Input → Case → Option Ticket → Option Ticket
retired_by i d None = None
retired_by i d (Some t) = if retires i d t then None else Some t

-- what an operator decided of the case after an input
abbrev pub decided_by : Input → Case → Option Outcome → Option Outcome
decided_by (ActInput (Decide c o)) d decided = if same_case c d then Some o else decided
decided_by _ d decided = decided

-- What stays in each turn: where the process sits, its boot, the tickets that the input does not retire, and
-- what operators decided of the branches that they decided.
pub record Stays (old new : CoreState) (i : Input) : Type 0 where
  pub place : new.place ≡ old.place
  pub boot : new.boot ≡ old.boot
  pub tickets : (d : Case) → new.ticket_for d ≡ retired_by i d (old.ticket_for d)
  pub decided : (d : Case) → (new.branch_of d).standing ≡ Heuristic
      → new.decided_of d ≡ decided_by i d (old.decided_of d)

-- a coordinator's row is taken: its records are appended, and its case stands as it says; no other moves
pub record TakesRow (old new : CoreState) (i : Input) (c : Case) (row : Row) : Type 0 where
  pub log : new.log ≡ log_behind old row.written
  pub own : SameView (new.view_of c) row.view
  pub others : (d : Case) → same_case c d ≡ false → SameView (new.view_of d) (old.view_of d)
  pub branches : (d : Case) → new.branch_of d ≡ old.branch_of d
  pub begun : new.begun ≡ old.begun
  pub given : new.given ≡ old.given
  pub stays : Stays old new i

-- a manager's row is taken: its records are appended, and its branch stands as it says; no other moves
pub record HandlesRow (old new : CoreState) (i : Input) (c : Case) (row : LeafRow) : Type 0 where
  pub log : new.log ≡ log_behind old row.written
  pub own : new.branch_of c ≡ row.view
  pub others : (d : Case) → same_case c d ≡ false → new.branch_of d ≡ old.branch_of d
  pub views : (d : Case) → SameView (new.view_of d) (old.view_of d)
  pub begun : new.begun ≡ old.begun
  pub given : new.given ≡ old.given
  pub stays : Stays old new i

-- a branch that was joined, and did no work
abbrev pub open_branch : ManagerView
open_branch = record { standing = Active; done = 0; spoiled = false; told = None }

-- one transaction more was begun
pub record OpensTxn (old new : CoreState) (i : Input) (x : Txn) : Type 0 where
  pub log : new.log ≡ old.log
  pub own : SameView (new.view_of (root_case x)) open_view
  pub others : (d : Case) → same_case (root_case x) d ≡ false → SameView (new.view_of d) (old.view_of d)
  pub branches : (d : Case) → new.branch_of d ≡ old.branch_of d
  pub begun : new.begun ≡ old.begun + 1
  pub given : new.given ≡ old.given
  pub stays : Stays old new i

-- the fresh case stands open, as a coordinator's or as a manager's, and no other case moves
abbrev pub OpensCase : Role → CoreState → CoreState → Case → Type 0
OpensCase (AtLeaf p) old new c =
    (new.branch_of c ≡ open_branch) × ((d : Case) → same_case c d ≡ false → new.branch_of d ≡ old.branch_of d)
    × ((d : Case) → SameView (new.view_of d) (old.view_of d))
OpensCase _ old new c =
    SameView (new.view_of c) open_view
    × ((d : Case) → same_case c d ≡ false → SameView (new.view_of d) (old.view_of d))
    × ((d : Case) → new.branch_of d ≡ old.branch_of d)

-- a fresh ticket was given for the parent's case d
pub record IssuesTicket (old new : CoreState) (d : Case) (t : Ticket) : Type 0 where
  pub log : new.log ≡ old.log
  pub cases : OpensCase old.place.role old new (child_case d.txn t)
  pub ticket : new.ticket_for d ≡ Some t
  pub tickets : (e : Case) → same_case d e ≡ false → new.ticket_for e ≡ old.ticket_for e
  pub decided : (e : Case) → (new.branch_of e).standing ≡ Heuristic → new.decided_of e ≡ old.decided_of e
  pub begun : new.begun ≡ old.begun
  pub given : new.given ≡ old.given + 1
  pub place : new.place ≡ old.place
  pub boot : new.boot ≡ old.boot

-- what a turn makes of the process; a refusal makes nothing
abbrev pub ProcessMoves : CoreState → CoreState → Input → Turn → Type 0
ProcessMoves old new i (Refuses e) = ⊥
ProcessMoves old new i (Begins x) = OpensTxn old new i x
ProcessMoves old new i (Issues d t l) = IssuesTicket old new d t
ProcessMoves old new i (Takes c row) = TakesRow old new i c row
ProcessMoves old new i (Handles c row) = HandlesRow old new i c row
ProcessMoves old new i (Says ls) = SameCore old new

-- an input was made, with what a manager's data answered to it, and this is the reaction to show
pub record ProcessMakes (old new : CoreState) (a : DataAnswer) (i : Input)
    (reaction : Reaction) : Type 0 where
  pub found : Option Case
  pub finds : FindsChildCase old (asked_by i) found
  pub moves : ProcessMoves old new i (turn_of old a found i)
  pub effect : Effect
  pub does : reacted (turn_of old a found i) ≡ Does effect
  pub shown : reaction ≡ reaction_of effect

-- Faults and refusals.

-- the process's log as its contracts see it; how much room there is does not matter
abbrev pub seen : LogSight → LogState
seen l = record { sight = l; room = 0 }

-- the device failed: a front of the records was appended, and some forced front was left; nothing is said of
-- the rest
pub record BreaksOff (old new : CoreState) (rs : List Record) : Type 0 where
  pub log : Breaks (seen old.log) (seen new.log) (logged old rs)
  pub place : new.place ≡ old.place

-- the device failed in this turn
abbrev pub BreaksIn : CoreState → CoreState → Turn → Type 0
BreaksIn old new turn = (e : Effect) × (reacted turn ≡ Does e) × BreaksOff old new (entries_written e.written)

-- the input met a refusal by this error, and nothing changed
pub record IsRefusedInput (old new : CoreState) (a : DataAnswer) (i : Input) (e : StepError) : Type 0 where
  pub same : SameCore old new
  pub found : Option Case
  pub finds : FindsChildCase old (asked_by i) found
  pub refuses : turn_of old a found i ≡ Refuses e

-- the device failed in the turn of the input
pub record IsBroken (old new : CoreState) (a : DataAnswer) (i : Input) : Type 0 where
  pub found : Option Case
  pub finds : FindsChildCase old (asked_by i) found
  pub breaks : BreaksIn old new (turn_of old a found i)

-- the effect fits the bounds of numbers at this process
abbrev pub IsWithinBounds : CoreState → Effect → Type 0
IsWithinBounds s e = FitsBounds (kind_of_role s.place.role) (parent s) e.written e.messages

-- Why an input wants numbers that are used up: none are left for a transaction and a ticket more; or a
-- manager has met a limit of its own; or the turn of the input does not fit the bounds.
pub data WantsNumbers (s : CoreState) (a : DataAnswer) (i : Input) : Type 0 where
  NoneLeft : (HasNumbers s → ⊥) → WantsNumbers s a i
  Limited : s.spent ≡ true → WantsNumbers s a i
  Unbounded : (found : Option Case) → FindsChildCase s (asked_by i) found → (e : Effect)
      → reacted (turn_of s a found i) ≡ Does e → (IsWithinBounds s e → ⊥) → WantsNumbers s a i

-- the input wants numbers that are used up, and nothing changed
pub record IsExhausted (old new : CoreState) (a : DataAnswer) (i : Input) : Type 0 where
  pub same : SameCore old new
  pub why : WantsNumbers old a i

-- why an input was not made, and what that leaves: Memory changes nothing, nor do numbers that are used up,
-- nor a refusal by the reaction table
abbrev pub NotMade : CoreState → CoreState → DataAnswer → Input → StepError → Type 0
NotMade old new a i Memory = SameCore old new
NotMade old new a i Device = IsBroken old new a i
NotMade old new a i Exhausted = IsExhausted old new a i
NotMade old new a i e = IsRefusedInput old new a i e
