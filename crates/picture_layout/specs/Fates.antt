-- What becomes of messages: by which step each was sent, and by which it was delivered first, if by any.
use Rattle.std.specs.Prelude.{◌≡◌, ⊤, ℕ, ◌+◌, ◌-◌, ◌<◌, nat_eq, nat_lt, Bool, false, true, not, ◌&&◌, is_some, if◌then◌else◌, Option, None, Some, List, [], ◌∷◌, ◌++◌, length, map, slice_get}
use Rattle.std.specs.Option.{option_or}
use Rattle.protocol.specs.declared.events.JournalEntry.{JournalEntry}
use Rattle.picture_layout.specs.declared.fates.Fate.{Fate}
use Rattle.picture_layout.specs.declared.drawn.Stub.{Stub}
use Rattle.picture_layout.specs.declared.rows.StepRows.{StepRows}
use Rattle.picture_layout.specs.declared.seats.Column.{Column}
use Rattle.picture_layout.specs.Whole.{heard_in}
use Rattle.picture_layout.specs.Ways.{place_of_step, rows_in, senders}

-- it is the number that is named, if one is
abbrev pub is_named : ℕ → Option ℕ → Bool
is_named n None = false
is_named n (Some m) = nat_eq m n

-- the first of these steps, numbered from here, that comes after the sender's and delivers this message
unfoldable pub first_heard : ℕ → ℕ → ℕ → List JournalEntry → Option ℕ
first_heard n sent step [] = None
first_heard n sent step (e ∷ es) =
    if nat_lt sent step && is_named n (heard_in e.step.happening) then Some step
    else first_heard n sent (step + 1) es

-- the messages from this number on were sent by these steps, and each was delivered first by the step that is
-- said, if by any
unfoldable pub HeardFrom : ℕ → List JournalEntry → List Fate → Type 0
HeardFrom n es [] = ⊤
HeardFrom n es (f ∷ fs) = (f.sent < length es) × (f.heard ≡ first_heard n f.sent 0 es)
    × HeardFrom (n + 1) es fs

-- what becomes of all messages of these steps, in the order of their numbers
pub record AreFates (es : List JournalEntry) (fates : List Fate) : Type 0 where
  pub sent : map (λ (f : Fate). f.sent) fates ≡ senders es
  pub heard : HeardFrom 1 es fates

-- no message
abbrev pub no_fate : Fate
no_fate = record { sent = 0; heard = None }

-- a message that this step sent, and that no step has delivered yet
abbrev pub unheard : ℕ → Fate
unheard step = record { sent = step; heard = None }

-- the step delivers a message of this fate: it is the first that does, if none did before
abbrev pub heard_at : ℕ → Fate → Fate
heard_at step f = record { sent = f.sent; heard = option_or f.heard (Some step) }

-- a message that a step sent is drawn apart, where it was sent, if no step delivers it, or only one more than
-- 24 steps later
abbrev pub is_late : ℕ → Option ℕ → Bool
is_late sent None = true
is_late sent (Some heard) = nat_lt 24 (heard - sent)

-- where a message leaves that is drawn apart: its number, the place of its sender, the last row of the step
-- that sent it, and whether it is never delivered
pub record Leaving : Type 0 where
  pub number : ℕ
  pub place : ℕ
  pub row : ℕ
  pub never : Bool

-- that of a message with this number and fate
abbrev pub leaving_of : List Column → List StepRows → List JournalEntry → ℕ → Fate → Leaving
leaving_of seats rows es n f = record {
  number = n;
  place = place_of_step seats (slice_get es f.sent);
  row = (rows_in rows f.sent).last;
  never = not (is_some f.heard);
}

-- those of the messages from this number on that are drawn apart
unfoldable pub leavings_from : List Column → List StepRows → List JournalEntry → ℕ → List Fate → List Leaving
leavings_from seats rows es n [] = []
leavings_from seats rows es n (f ∷ fs) =
    (if is_late f.sent f.heard then leaving_of seats rows es n f ∷ [] else [])
    ++ leavings_from seats rows es (n + 1) fs

-- those of all messages that are drawn apart, in the order of their numbers
abbrev pub leavings : List Column → List StepRows → List JournalEntry → List Fate → List Leaving
leavings seats rows es fates = leavings_from seats rows es 1 fates

-- what a stub has of that
abbrev pub leaving_in : Stub → Leaving
leaving_in s = record { number = s.number; place = s.from; row = s.left; never = s.crossed }
