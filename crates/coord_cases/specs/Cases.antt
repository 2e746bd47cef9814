-- What the live cases of a coordinator say: how each case stands, and which tickets are active.
use Rattle.std.specs.Prelude.{◌≡◌, ◌≢◌, ◌⊎◌, ◌+◌, ◌&&◌, ◌||◌, ℕ, Bool, true, false, if◌then◌else◌, Option, Some, None, is_some, List, [], ◌∷◌}
use Rattle.protocol.specs.declared.names.Case.{Case}
use Rattle.protocol.specs.declared.names.Ticket.{Ticket}
use Rattle.protocol.specs.declared.names.Txn.{Txn}
use Rattle.protocol.specs.Names.{child_case, same_case, same_txn}
use Rattle.protocol.specs.Records.{in_list}
use Rattle.protocol.specs.Standings.{CoordinatorView, unknown_view}
use Rattle.protocol.specs.Restarts.{is_known}
use Rattle.protocol.specs.SameViews.{open_view}
use Rattle.case_table.specs.Tables.{MovesValue, Updates, entry_at, live_count, live_value}
use Rattle.coord_cases.specs.declared.held.Held.{Held}

-- the slots of the table
abbrev pub Slots : Type 0
Slots = List (Option (Case × Held))

-- How a case stands.

-- the view of what is held of a case; if nothing is, it is Unknown
abbrev pub held_view : Option Held → CoordinatorView
held_view None = unknown_view
held_view (Some h) = h.live

-- how the case stands
abbrev pub view_in : Slots → Case → CoordinatorView
view_in slots c = held_view (live_value slots c)

-- the view is live, and the ticket is accepted in it, or a record names it
abbrev pub has_child : CoordinatorView → Ticket → Bool
has_child v t = is_known v.standing && (in_list v.accepted t || in_list v.named t)

-- Tickets.

-- the parent's case is this one
abbrev pub is_for : Case → Option Case → Bool
is_for d None = false
is_for d (Some e) = same_case e d

-- the case's ticket was given for the parent's case d, and is active
abbrev pub is_given : Case → Option (Case × Held) → Bool
is_given d None = false
is_given d (Some p) = is_for d p.1.given_for

-- the ticket of an entry, if it was given for d; else the other
abbrev pub ticket_if : Case → Option (Case × Held) → Option Ticket → Option Ticket
ticket_if d None other = other
ticket_if d (Some p) other = if is_for d p.1.given_for then p.0.ticket else other

-- the active ticket that was given for the parent's case
unfoldable pub ticket_in : Slots → Case → Option Ticket
ticket_in [] d = None
ticket_in (slot ∷ slots) d = ticket_if d slot (ticket_in slots d)

-- A case that was given for one of the parent's has a ticket and is of the same transaction, and no two were
-- given for one case of the parent.
pub record FitsGiven (slots : Slots) : Type 0 where
  pub ticketed : (k : ℕ) (d : Case) (p : Case × Held) → entry_at slots k ≡ Some p
      → is_for d p.1.given_for ≡ true → is_some p.0.ticket ≡ true
  pub txns : (k : ℕ) (d : Case) (p : Case × Held) → entry_at slots k ≡ Some p → is_for d p.1.given_for ≡ true
      → same_txn p.0.txn d.txn ≡ true
  pub one : (d : Case) (j k : ℕ) → is_given d (entry_at slots j) ≡ true → is_given d (entry_at slots k) ≡ true
      → j ≡ k

-- What changes.

-- the key is the case's, which stands so
pub record IsCase (slots : Slots) (c : Case) (key : ℕ) (h : Held) : Type 0 where
  pub entry : entry_at slots key ≡ Some (c, h)
  pub view : view_in slots c ≡ h.live

-- the case is live under this key, or it is not live
abbrev pub FindsCase : Slots → Case → Option ℕ → Type 0
FindsCase slots c None = live_value slots c ≡ None
FindsCase slots c (Some k) = (h : Held) × IsCase slots c k h

-- a live case of the transaction has this child, under this key; or none has
abbrev pub FindsChild : Slots → Txn → Ticket → Option ℕ → Type 0
FindsChild slots x t None = (c : Case) → same_txn c.txn x ≡ true → has_child (view_in slots c) t ≡ false
FindsChild slots x t (Some k) =
    (c : Case) × (h : Held) × IsCase slots c k h × (same_txn c.txn x ≡ true) × (has_child h.live t ≡ true)

-- the live case under a key
abbrev pub live_of : Option (Case × Held) → Option CoordinatorView
live_of None = None
live_of (Some p) = Some p.1.live

-- the live case at a key
abbrev pub live_at : Slots → ℕ → Option CoordinatorView
live_at slots k = live_of (entry_at slots k)

-- the ticket of an entry's case
abbrev pub entry_ticket : Option (Case × Held) → Option Ticket
entry_ticket None = None
entry_ticket (Some p) = p.0.ticket

-- one case stands so, and no other moves
pub record MovesCase (old new : Slots) (c : Case) (view : CoordinatorView) : Type 0 where
  pub own : view_in new c ≡ view
  pub others : (d : Case) → same_case c d ≡ false → view_in new d ≡ view_in old d

-- what is held of the case, if anything is, was given for nobody
abbrev pub IsUngiven : Slots → Case → Type 0
IsUngiven slots c = (h : Held) → live_value slots c ≡ Some h → h.given_for ≡ None

-- the ticket is active for no case of the parent
abbrev pub IsFreshTicket : Slots → Ticket → Type 0
IsFreshTicket slots t = (d : Case) → ticket_in slots d ≢ Some t

-- the key was free, or the case was held under it
abbrev pub WasHeld : Slots → Case → ℕ → Type 0
WasHeld slots c key =
    (entry_at slots key ≡ None)
    ⊎ ((h : Held) × (entry_at slots key ≡ Some (c, h)) × (live_value slots c ≡ Some h))

-- one case more is live where this one was not; else as many are as before
abbrev pub Counts : Slots → Slots → Case → Type 0
Counts old new c = live_count new ≡ live_count old + (if is_some (live_value old c) then 0 else 1)

-- this is held of a case, in place of what was held of it, if anything was
pub record Puts (old new : Slots) (c : Case) (h : Held) : Type 0 where
  pub key : ℕ
  pub was : WasHeld old c key
  pub updates : Updates old new key (Some (c, h))
  pub moves : MovesValue old new c (Some h)
  pub counts : Counts old new c

-- a case begins, in place of one of its name, if one was live; and no active ticket moves
pub record BeginsCase (old new : Slots) (c : Case) : Type 0 where
  pub moves : MovesCase old new c open_view
  pub tickets : (d : Case) → ticket_in new d ≡ ticket_in old d
  pub key : ℕ
  pub updates : Updates old new key (Some (c, record { given_for = None; live = open_view }))
  pub counts : Counts old new c

-- a case is live again as it is, and no active ticket moves
pub record Restores (old new : Slots) (c : Case) (view : CoordinatorView) : Type 0 where
  pub moves : MovesCase old new c view
  pub only : (d : Case) → same_case c d ≡ false → live_value old d ≡ None → live_value new d ≡ None
  pub tickets : (d : Case) → ticket_in new d ≡ ticket_in old d
  pub key : ℕ
  pub updates : Updates old new key (Some (c, record { given_for = None; live = view }))

-- the case of a ticket begins, in place of one of its name, if one was live; and the ticket is active for the
-- parent's case
pub record GivesTicket (old new : Slots) (parent : Case) (t : Ticket) : Type 0 where
  pub moves : MovesCase old new (child_case parent.txn t) open_view
  pub ticket : ticket_in new parent ≡ Some t
  pub tickets : (d : Case) → same_case parent d ≡ false → ticket_in new d ≡ ticket_in old d
  pub key : ℕ
  pub updates : Updates old new key
      (Some (child_case parent.txn t, record { given_for = Some parent; live = open_view }))
  pub counts : Counts old new (child_case parent.txn t)

-- the key's case stands so in place of how it stood, and no other moves, nor does an active ticket
pub record Relives (old new : Slots) (key : ℕ) (before behind : CoordinatorView) : Type 0 where
  pub owner : Case
  pub stood : view_in old owner ≡ before
  pub moves : MovesCase old new owner behind
  pub tickets : (d : Case) → ticket_in new d ≡ ticket_in old d
  pub held : Held
  pub was : entry_at old key ≡ Some (owner, held)
  pub updates : Updates old new key (Some (owner, record held { live = behind }))

-- the ticket of the key's case is active no longer; nothing else moves
pub record Retires (old new : Slots) (key : ℕ) : Type 0 where
  pub owner : Case
  pub held : Held
  pub was : entry_at old key ≡ Some (owner, held)
  pub updates : Updates old new key (Some (owner, record held { given_for = None }))
  pub views : (d : Case) → view_in new d ≡ view_in old d
  pub retired : (d : Case) → is_for d held.given_for ≡ true → ticket_in new d ≡ None
  pub tickets : (d : Case) → is_for d held.given_for ≡ false → ticket_in new d ≡ ticket_in old d

-- the case of the key ends, and its ticket with it; no other case and no other ticket moves
pub record EndsCase (old new : Slots) (key : ℕ) : Type 0 where
  pub owner : Case
  pub held : Held
  pub was : entry_at old key ≡ Some (owner, held)
  pub updates : Updates old new key None
  pub moves : MovesCase old new owner unknown_view
  pub retired : (d : Case) → is_for d held.given_for ≡ true → ticket_in new d ≡ None
  pub tickets : (d : Case) → is_for d held.given_for ≡ false → ticket_in new d ≡ ticket_in old d
  pub counts : live_count new + 1 ≡ live_count old
