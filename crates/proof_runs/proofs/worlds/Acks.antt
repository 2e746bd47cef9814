-- What an input makes of the acknowledgements that a coordinator below the root has heard of a case.
use Rattle.std.proofs.Common.{◌≡◌, ◌∙◌, ℕ, Bool, true, false, if◌then◌else◌, Option, None, Some, [], ◌∷◌, ◌++◌, refl, sym, List}
use Rattle.protocol.specs.declared.names.Case.{Case}
use Rattle.protocol.specs.declared.names.Outcome.{Outcome}
use Rattle.protocol.specs.declared.names.ProcessId.{ProcessId}
use Rattle.protocol.specs.declared.names.Ticket.{Ticket}
use Rattle.protocol.specs.declared.names.Txn.{Txn}
use Rattle.protocol.specs.declared.messages.Message.{Message}
use Rattle.protocol.specs.declared.messages.Message.TheVariants.{Join, Joined, Work, Prepare, Yes, No, Read, Commit, Abort, Ack, Inquire}
use Rattle.protocol.specs.declared.standings.Vote.{Vote}
use Rattle.protocol_words.specs.Variants.{AbortAct, ActInput, CommitAct, JoinAct, MessageInput, VoteNo, VoteRead, VoteYes, WorkAct}
use Rattle.protocol.specs.declared.events.Act.TheVariants.{Begin, Ask, Decide, Forget}
use Rattle.protocol.specs.declared.events.Input.{Input}
use Rattle.protocol.specs.Names.{child_case, same_case, same_txn}
use Rattle.protocol.specs.Memory.{Asked, Idle, Memory, Open, Over, Phase, accepts_ticket, active_ticket, asks_votes, cascaded_remembers, closes, gives, has_child, is_counted, joins, next_ticket, of_ticket, opens_case, retires, sends_work, takes_ack, takes_vote, ticket_of_child, with_vote}
use Rattle.protocol.specs.declared.messages.Finding.{Finding}

pub data AcksMove (c : Case) (m : Memory) (i : Input) (k : Memory) : Type 0 where
  keeps : k.acks ≡ m.acks → AcksMove c m i k
  starts : k.acks ≡ [] → AcksMove c m i k
  notes : (j : ℕ) (x : Txn) (t : Ticket) (o : Outcome) (fs : List Finding)
      → i ≡ MessageInput j (Ack (child_case x t) o fs)
      → same_txn x c.txn ≡ true
      → (m.phase ≡ Asked → ⊥) → k.acks ≡ m.acks ++ (t, o) ∷ [] → AcksMove c m i k

kept_if : (b : Bool) (m k l : Memory) → k.acks ≡ m.acks → l.acks ≡ m.acks → (if b then k else l).acks ≡ m.acks
kept_if true m k l e f = e
kept_if false m k l e f = f

kept_accepts : (m : Memory) (t : Ticket) (ph : Phase) → (accepts_ticket m t ph).acks ≡ m.acks
kept_accepts m t Open =
    kept_if (has_child m.accepted t.child) m m (record m { accepted = m.accepted ++ t ∷ [] }) refl refl
kept_accepts m t Idle = refl
kept_accepts m t Asked = refl
kept_accepts m t Over = refl

kept_works : (m : Memory) (o : Option Ticket) (ph : Phase) → (sends_work m o ph).acks ≡ m.acks
kept_works m (Some t) Open = refl
kept_works m (Some t) Idle = refl
kept_works m (Some t) Asked = refl
kept_works m (Some t) Over = refl
kept_works m None Open = refl
kept_works m None Idle = refl
kept_works m None Asked = refl
kept_works m None Over = refl

kept_takes : (m : Memory) (t : Ticket) (w : Vote) (ph : Phase) → (takes_vote m t w ph).acks ≡ m.acks
kept_takes m t w Asked = kept_if (is_counted m.accepted m.votes t) m (with_vote m t w) m refl refl
kept_takes m t w Idle = refl
kept_takes m t w Open = refl
kept_takes m t w Over = refl

kept_asks : (m : Memory) (ph : Phase) → (asks_votes m ph).acks ≡ m.acks
kept_asks m Idle = refl
kept_asks m Open = refl
kept_asks m Asked = refl
kept_asks m Over = refl

kept_closes : (m : Memory) (ph : Phase) → (closes m ph).acks ≡ m.acks
kept_closes m Idle = refl
kept_closes m Open = refl
kept_closes m Asked = refl
kept_closes m Over = refl

kept_ticket : (o : Option Ticket) (m : Memory) (f : Ticket → Memory) → ((t : Ticket) → (f t).acks ≡ m.acks)
    → (of_ticket o m f).acks ≡ m.acks
kept_ticket None m f h = refl
kept_ticket (Some t) m f h = h t

module _ (me : ProcessId) (boot : ℕ) (c : Case) (m : Memory) where
  abbrev Moves : Input → Type 0
  Moves i = AcksMove c m i (cascaded_remembers me boot c m i)

  joined : (i : Input) (d : Case) (o : Option Ticket) → AcksMove c m i (joins me boot c d m o)
  joined i d (Some t) = keeps refl
  joined i d None = by_case (same_case c (child_case d.txn (next_ticket me boot m)))
    where
      by_case : (b : Bool)
          → AcksMove c m i
          (if b then opens_case (gives m d (next_ticket me boot m)) else gives m d (next_ticket me boot m))
      by_case true = starts refl
      by_case false = keeps refl

  voted : (d : Case) (w : Vote)
      → (if same_txn d.txn c.txn then of_ticket d.ticket m
      (λ t. takes_vote m t w m.phase) else m).acks ≡ m.acks
  voted d w = kept_if (same_txn d.txn c.txn) m _ m
      (kept_ticket d.ticket m (λ t. takes_vote m t w m.phase) (λ t. kept_takes m t w m.phase)) refl

  acked : (j : ℕ) (x : Txn) (u : Option Ticket) (o : Outcome) (fs : List Finding)
      → let d : Case = record { txn = x; ticket = u } in
      AcksMove c m (MessageInput j (Ack d o fs))
      (if same_txn x c.txn then of_ticket u m (λ t. takes_ack m t o fs m.phase) else m)
  acked j x None o fs = keeps (kept_if (same_txn x c.txn) m m m refl refl)
  acked j x (Some t) o fs = by_txn (same_txn x c.txn) refl
    where
      by_phase : same_txn x c.txn ≡ true → (ph : Phase) → m.phase ≡ ph
          → AcksMove c m (MessageInput j (Ack (child_case x t) o fs)) (takes_ack m t o fs ph)
      by_phase of Open is = keeps refl
      by_phase of Asked is = keeps refl
      by_phase of Idle is = notes j x t o fs refl of (λ e. (let g : Idle ≡ Asked = sym is ∙ e in cc)) refl
      by_phase of Over is = notes j x t o fs refl of (λ e. (let g : Over ≡ Asked = sym is ∙ e in cc)) refl

      by_txn : (b : Bool) → same_txn x c.txn ≡ b
          → AcksMove c m (MessageInput j (Ack (child_case x t) o fs))
          (if b then takes_ack m t o fs m.phase else m)
      by_txn false of = keeps refl
      by_txn true of = by_phase of m.phase refl

  hears : (j : ℕ) (x : Message) → Moves (MessageInput j x)
  hears j (Join d) = joined (MessageInput j (Join d)) d (active_ticket m.active d)
  hears j (Joined d t) = keeps (kept_if (same_case d c) m _ m (kept_accepts m t m.phase) refl)
  hears j (Prepare d k) = keeps (kept_if (same_case d c) m _ (retires m d)
      (kept_asks (retires m d) m.phase) refl)
  hears j (Abort d) = keeps (kept_if (same_case d c) m _ (retires m d)
      (kept_closes (retires m d) m.phase) refl)
  hears j (Yes d) = keeps (voted d VoteYes)
  hears j (No d) = keeps (voted d VoteNo)
  hears j (Read d) = keeps (voted d VoteRead)
  hears j (Ack d o fs) = acked j d.txn d.ticket o fs
  hears j (Work d k op) = keeps refl
  hears j (Commit d) = keeps refl
  hears j (Inquire d) = keeps refl

  pub acks_move : (i : Input) → AcksMove c m i (cascaded_remembers me boot c m i)
  acks_move (MessageInput j x) = hears j x
  acks_move (ActInput (WorkAct d q op)) =
      keeps (kept_if (same_case d c) m _ m (kept_works m (ticket_of_child m.accepted q) m.phase) refl)
  acks_move (ActInput (Begin p)) = keeps refl
  acks_move (ActInput (CommitAct x)) = keeps refl
  acks_move (ActInput (AbortAct x)) = keeps refl
  acks_move (ActInput (JoinAct d q)) = keeps refl
  acks_move (ActInput (Ask d)) = keeps refl
  acks_move (ActInput (Decide d o)) = keeps refl
  acks_move (ActInput (Forget d)) = keeps refl
