-- How the phase of a manager's branch moves: an input leaves it or ends it, and JOIN that gives its ticket
-- opens it.
use Rattle.std.proofs.Common.{◌≡◌, ◌∙◌, ◌⊎◌, inl, inr, ◌&&◌, ◌==◌, ◌+◌, ℕ, Bool, true, false, ◌≢◌, Option, Some, None, refl, sym, if◌then◌else◌}
use Rattle.std.specs.Prelude.{not}
use Rattle.protocol.specs.declared.names.Case.{Case}
use Rattle.protocol.specs.declared.names.ProcessId.{ProcessId}
use Rattle.protocol.specs.declared.names.Ticket.{Ticket}
use Rattle.protocol.specs.declared.messages.Message.{Message}
use Rattle.protocol.specs.declared.messages.Message.TheVariants.{Join, Joined, Work, Prepare, Yes, No, Read, Commit, Abort, Ack, Inquire}
use Rattle.protocol.specs.declared.events.Input.{Input}
use Rattle.protocol_words.specs.Variants.{ActInput, MessageInput}
use Rattle.protocol.specs.Names.{same_case, child_case}
use Rattle.protocol.specs.NameLaws.{same_case-refl}
use Rattle.protocol.specs.Nodes.{DataAnswer}
use Rattle.protocol.specs.Memory.{Memory, Phase, Idle, Open, Asked, Over, manager_remembers, works, closes, retires, joins, gives, opens_case, next_ticket, active_ticket}

-- JOIN of the parent's case finds none of its tickets active, and the next ticket is the branch's
pub record Wakes (me : ProcessId) (boot : ℕ) (c : Case) (m : Memory) (a : DataAnswer)
    (i : Input) : Type 0 where
  pub number : ℕ
  pub parents : Case
  pub hears : i ≡ MessageInput number (Join parents)
  pub starts : a.starts ≡ true
  pub none_active : active_ticket m.active parents ≡ None
  pub is_next : same_case c (child_case parents.txn (next_ticket me boot m)) ≡ true

-- the phase stays, or a branch that was joined is over
abbrev pub StaysOrEnds : Memory → Memory → Type 0
StaysOrEnds m k = (k.phase ≡ m.phase) ⊎ ((m.phase ≢ Idle) × (k.phase ≡ Over))

works_left : (m u v : Memory) (a b : Bool) → u.phase ≡ m.phase → v.phase ≡ m.phase
    → StaysOrEnds m (if a then (if b then u else v) else m)
works_left m u v true true e f = inl e
works_left m u v true false e f = inl f
works_left m u v false b e f = inl refl

worked_left : (m : Memory) (i : ℕ) (does : Bool) (ph : Phase) → StaysOrEnds m (works m i does ph)
worked_left m i does Open = works_left m _ _ ((i == m.done + 1) && not m.spoiled) does refl refl
worked_left m i does Idle = inl refl
worked_left m i does Asked = inl refl
worked_left m i does Over = inl refl

closes_left : (m k : Memory) (ph : Phase) → m.phase ≡ ph → k.phase ≡ m.phase → StaysOrEnds m (closes k ph)
closes_left m k Idle at e = inl e
closes_left m k Open at e = inr (λ idle. absurd (let x = sym at ∙ idle in cc), refl)
closes_left m k Asked at e = inr (λ idle. absurd (let x = sym at ∙ idle in cc), refl)
closes_left m k Over at e = inr (λ idle. absurd (let x = sym at ∙ idle in cc), refl)

if_left : (m u v : Memory) (b : Bool) → StaysOrEnds m u → StaysOrEnds m v → StaysOrEnds m (if b then v else u)
if_left m u v true e f = f
if_left m u v false e f = e

module _ (me : ProcessId) (boot : ℕ) (c : Case) (m : Memory) (a : DataAnswer) where
  -- an input other than JOIN
  pub message_left : (j : ℕ) (x : Message) → ((d : Case) → x ≡ Join d → ⊥)
      → StaysOrEnds m (manager_remembers me boot c m a (MessageInput j x))
  message_left j (Work o i op) r = if_left m m _ (same_case o c) (inl refl) (worked_left m i a.does m.phase)
  message_left j (Prepare o k) r =
      if_left m (retires m o) _ (same_case o c) (inl refl) (closes_left m (retires m o) m.phase refl refl)
  message_left j (Abort o) r =
      if_left m (retires m o) _ (same_case o c) (inl refl) (closes_left m (retires m o) m.phase refl refl)
  message_left j (Join o) r = absurd (r o refl)
  message_left j (Joined o t) r = inl refl
  message_left j (Yes o) r = inl refl
  message_left j (No o) r = inl refl
  message_left j (Read o) r = inl refl
  message_left j (Commit o) r = inl refl
  message_left j (Ack o u fs) r = inl refl
  message_left j (Inquire o) r = inl refl

  abbrev Woken : ℕ → Case → Type 0
  Woken j d = Wakes me boot c m a (MessageInput j (Join d))

  woken : (j : ℕ) (d : Case) → a.starts ≡ true → active_ticket m.active d ≡ None → (b : Bool)
      → same_case c (child_case d.txn (next_ticket me boot m)) ≡ b
      → ((if b then opens_case (gives m d (next_ticket me boot m))
      else gives m d (next_ticket me boot m)).phase
      ≡ m.phase) ⊎ Woken j d
  woken j d s none true e = inr (record
      { number = j; parents = d; hears = refl; starts = s; none_active = none; is_next = e })
  woken j d s none false e = inl refl

  joined_left : (j : ℕ) (d : Case) → a.starts ≡ true → (o : Option Ticket) → active_ticket m.active d ≡ o
      → ((joins me boot c d m o).phase ≡ m.phase) ⊎ Woken j d
  joined_left j d s (Some t) e = inl refl
  joined_left j d s None e = woken j d s e (same_case c (child_case d.txn (next_ticket me boot m))) refl

  started_left : (j : ℕ) (d : Case) (b : Bool) → a.starts ≡ b
      → ((if b then joins me boot c d m (active_ticket m.active d) else m).phase ≡ m.phase) ⊎ Woken j d
  started_left j d true s = joined_left j d s (active_ticket m.active d) refl
  started_left j d false s = inl refl

  pub join_left : (j : ℕ) (d : Case)
      → ((manager_remembers me boot c m a (MessageInput j (Join d))).phase ≡ m.phase) ⊎ Woken j d
  join_left j d = started_left j d a.starts refl

  abbrev Moves : Input → Type 0
  Moves i = ((manager_remembers me boot c m a i).phase ≡ m.phase)
      ⊎ (((m.phase ≢ Idle) × ((manager_remembers me boot c m a i).phase ≡ Over)) ⊎ Wakes me boot c m a i)

  stays_or_ends : (i : Input) → StaysOrEnds m (manager_remembers me boot c m a i) → Moves i
  stays_or_ends i (inl e) = inl e
  stays_or_ends i (inr e) = inr (inl e)

  by_message : (j : ℕ) (x : Message) → Moves (MessageInput j x)
  by_message j (Join d) = elim (join_left j d) [ inl e ↦ inl e | inr w ↦ inr (inr w) ]
  by_message j (Joined o t) = inl refl
  by_message j (Work o i op) = stays_or_ends _ (message_left j (Work o i op) (λ d e. absurd (cc)))
  by_message j (Prepare o k) = stays_or_ends _ (message_left j (Prepare o k) (λ d e. absurd (cc)))
  by_message j (Abort o) = stays_or_ends _ (message_left j (Abort o) (λ d e. absurd (cc)))
  by_message j (Yes o) = inl refl
  by_message j (No o) = inl refl
  by_message j (Read o) = inl refl
  by_message j (Commit o) = inl refl
  by_message j (Ack o u fs) = inl refl
  by_message j (Inquire o) = inl refl

  -- what an input makes of the phase
  pub phase_moves : (i : Input) → Moves i
  phase_moves (ActInput b) = inl refl
  phase_moves (MessageInput j x) = by_message j x

  -- PREPARE ends a branch that takes work
  pub prepare_ends : (j k : ℕ) (i : Input) → i ≡ MessageInput j (Prepare c k) → m.phase ≡ Open
      → (manager_remembers me boot c m a i).phase ≡ Over
  prepare_ends j k i e f = rw (e, same_case-refl c, f) refl
