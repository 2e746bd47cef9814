-- What a row leaves in the table of a coordinator's live cases.
use Rattle.std.specs.Prelude.{◌≡◌, ◌&&◌, ◌⊎◌, ℕ, Bool, true, false, if◌then◌else◌, Option, Some, None}
use Rattle.protocol.specs.declared.names.Case.{Case}
use Rattle.protocol.specs.declared.names.Ticket.{Ticket}
use Rattle.protocol.specs.declared.standings.Standing.TheVariants.{Active}
use Rattle.protocol.specs.Names.{child_case, same_case}
use Rattle.protocol.specs.Restarts.{is_known}
use Rattle.protocol.specs.Standings.{CoordinatorView, unknown_view}
use Rattle.protocol.specs.SameViews.{SameView}
use Rattle.case_table.specs.Tables.{AreApart, case_of, entry_at, live_value}
use Rattle.coord_cases.specs.declared.held.Held.{Held}
use Rattle.coord_cases.specs.Cases.{EndsCase, FitsGiven, Relives, Retires, Slots, is_for, live_at, ticket_in, view_in}
use Rattle.coord_effects.specs.declared.seat.OwnCase.{OwnCase}
use Rattle.coord_effects.specs.declared.effect.RowEffect.{RowEffect}
use Rattle.coord_effects.specs.Rows.{DoesRow, seat_meant}
use Rattle.coord_rows.specs.declared.asked.CaseInput.{CaseInput}
use Rattle.coord_rows.specs.Asks.{asked_row, is_retiring}

-- the case is live under the key
abbrev pub IsLiveAt : Slots → ℕ → Case → Type 0
IsLiveAt slots key c = case_of (entry_at slots key) ≡ Some c

-- a case whose ticket is active takes children and work
abbrev pub GivenAreActive : Slots → Type 0
GivenAreActive slots = (k : ℕ) (d : Case) (p : Case × Held) → entry_at slots k ≡ Some p
    → is_for d p.1.given_for ≡ true → p.1.live.standing ≡ Active

-- of each live case something is known
abbrev pub AreKnown : Slots → Type 0
AreKnown slots = (k : ℕ) (p : Case × Held) → entry_at slots k ≡ Some p → is_known p.1.live.standing ≡ true

-- no case is live that was not
abbrev pub AddsNone : Slots → Slots → Type 0
AddsNone old new = (k : ℕ) (p : Case × Held) → entry_at new k ≡ Some p → case_of (entry_at old k) ≡ Some p.0

-- the active ticket of the parent's case d, where the case c ends its ticket's time or does not
abbrev pub retired_if : Bool → Case → Case → Option Ticket → Option Ticket
retired_if b c d None = None
retired_if b c d (Some t) = if b && same_case (child_case d.txn t) c then None else Some t

-- nothing is otherwise among the cases
pub record SameCases (old new : Slots) : Type 0 where
  pub views : (c : Case) → SameView (view_in new c) (view_in old c)
  pub tickets : (d : Case) → ticket_in new d ≡ ticket_in old d
  pub given : GivenAreActive old → GivenAreActive new
  pub known : AreKnown old → AreKnown new
  pub cases : AddsNone old new

-- the key's live case takes the row that it meets
pub record TakesLive (old new : Slots) (key : ℕ) (s : OwnCase) (asked : CaseInput)
    (effect : RowEffect) : Type 0 where
  pub held : Held
  pub was : entry_at old key ≡ Some (s.case, held)
  pub fits : FitsGiven old
  pub apart : AreApart old
  pub behind : CoordinatorView
  pub relives : Relives old new key held.live behind
  pub does : DoesRow s (asked_row (seat_meant s) asked held.live) effect behind

-- the key's ticket is retired, if it is to be
abbrev pub RetiresIf : Bool → Slots → Slots → ℕ → Type 0
RetiresIf true old new key = Retires old new key
RetiresIf false old new key = new ≡ old

-- the key's case leaves the table where it is forgotten, else nothing changes
abbrev pub LetsCaseGo : Slots → Slots → ℕ → Type 0
LetsCaseGo old new key =
    (EndsCase old new key × (live_at old key ≡ Some unknown_view))
    ⊎ ((new ≡ old) × (live_at old key ≡ Some unknown_view → ⊥))

-- The case does what the row says, and its ticket is retired if it is to be; if nothing is left of it, it
-- leaves the table. No other case and no other ticket moves.
pub record TakesRowOf (old new : Slots) (s : OwnCase) (asked : CaseInput) (effect : RowEffect) : Type 0 where
  pub does : DoesRow s (asked_row (seat_meant s) asked (view_in old s.case)) effect (view_in new s.case)
  pub others : (d : Case) → same_case s.case d ≡ false → view_in new d ≡ view_in old d
  pub tickets : (d : Case) → ticket_in new d ≡ retired_if (is_retiring asked) s.case d (ticket_in old d)
  pub gone : view_in new s.case ≡ unknown_view → live_value new s.case ≡ None
  pub given : GivenAreActive new
  pub known : AreKnown old → AreKnown new
  pub cases : AddsNone old new
