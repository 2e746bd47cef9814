-- Whether a cascaded coordinator's case is open: by the phase that is remembered, which an input but JOIN
-- never opens.
use Rattle.std.proofs.Common.{◌≡◌, ◌∙◌, ◌⊎◌, inl, inr, ℕ, Bool, true, false, Option, Some, None, List, [], ◌∷◌, ◌++◌, refl, sym, ap, if◌then◌else◌}
use Rattle.protocol.specs.declared.names.Case.{Case}
use Rattle.protocol.specs.declared.names.Outcome.{Outcome}
use Rattle.protocol.specs.declared.names.Presumption.{Presumption}
use Rattle.protocol.specs.declared.names.Presumption.TheVariants.{PresumeAbort, PresumeCommit}
use Rattle.protocol.specs.declared.names.ProcessId.{ProcessId}
use Rattle.protocol.specs.declared.names.Ticket.{Ticket}
use Rattle.protocol.specs.declared.names.Txn.{Txn}
use Rattle.protocol.specs.declared.messages.Message.{Message}
use Rattle.protocol.specs.declared.messages.Message.TheVariants.{Join, Joined, Work, Prepare, Yes, No, Read, Commit, Abort, Ack, Inquire}
use Rattle.protocol.specs.declared.records.Record.{Record}
use Rattle.protocol.specs.declared.standings.Standing.{Standing}
use Rattle.protocol.specs.declared.standings.Standing.TheVariants.{Unknown, Active, Collecting, Prepared, Committing, Aborting, Heuristic}
use Rattle.protocol.specs.declared.standings.Vote.{Vote}
use Rattle.protocol_words.specs.Variants.{AbortAct, ActInput, CommitAct, JoinAct, MessageInput, VoteNo, VoteRead, VoteYes, WorkAct}
use Rattle.protocol.specs.declared.events.Act.TheVariants.{Begin, Ask, Decide, Forget}
use Rattle.protocol.specs.declared.events.Input.{Input}
use Rattle.protocol.specs.Names.{same_case, same_txn, child_case}
use Rattle.protocol.specs.NameLaws.{same_case-refl}
use Rattle.protocol.specs.Records.{none_of}
use Rattle.protocol.specs.Nodes.{Place, Node, kept}
use Rattle.protocol.specs.Memory.{Memory, Phase, Idle, Open, Asked, Over, memory_of, cascaded_remembers, cascaded_hears, asks_votes, closes, retires, accepts_ticket, has_child, sends_work, ticket_of_child, takes_vote, is_counted, all_voted, with_vote, takes_ack, of_child, of_ticket, phase_after}
use Rattle.protocol.specs.Standings.{coordinator_view, phase_standing, view_at}
use Rattle.protocol.specs.Views.{IsOpenAlike, vote_message}
use Rattle.proof_pairs.specs.Reading.{is_live}
use Rattle.proof_pairs.specs.readings.ReadingOf.{phase_by}
use Rattle.proof_pairs.specs.turns.CoordinatorTurns.{Consents}
use Rattle.proof_processes.proofs.Cases.{viewed}
use Rattle.proof_processes.proofs.Phases.{standing_at, active_unrecorded, unrecorded_stands}
use Rattle.protocol.specs.declared.messages.Finding.{Finding}

-- the phase lets the case still be decided
abbrev pub live : Phase → Bool
live Idle = false
live Open = true
live Asked = true
live Over = false

-- By the phase.

active_phase : (p : Presumption) (ph : Phase) → phase_standing p ph ≡ Active → ph ≡ Open
active_phase p Open e = refl
active_phase PresumeAbort Asked e = absurd (cc)
active_phase PresumeCommit Asked e = absurd (cc)
active_phase PresumeAbort Idle e = absurd (cc)
active_phase PresumeCommit Idle e = absurd (cc)
active_phase PresumeAbort Over e = absurd (cc)
active_phase PresumeCommit Over e = absurd (cc)

pub active_is_open : (rs : List Record) (c : Case) (ph : Phase) → standing_at rs c ph ≡ Active → ph ≡ Open
active_is_open rs c ph e =
    active_phase c.txn.presumption ph (sym (unrecorded_stands rs c ph (active_unrecorded rs c ph e)) ∙ e)

closed_standing : (s : Standing) → (s ≡ Active → ⊥) → (s ≡ Collecting → ⊥) → is_live (phase_by false s)
    ≡ false
closed_standing Unknown f g = refl
closed_standing Active f g = absurd (f refl)
closed_standing Collecting f g = absurd (g refl)
closed_standing Prepared f g = refl
closed_standing Committing f g = refl
closed_standing Aborting f g = refl
closed_standing Heuristic f g = refl

pub open_by_phase : (place : Place) (n : Node) (c : Case) → n.failed ≡ false → IsOpenAlike place n c
    → is_live (phase_by n.failed (coordinator_view place n c).standing) ≡ live (memory_of place n c).phase
open_by_phase place n c up alike =
    ap (λ (f : Bool). is_live (phase_by f (coordinator_view place n c).standing)) up
    ∙ by_phase (memory_of place n c).phase refl
  where
    open_if_active : (coordinator_view place n c).standing ≡ Active → (memory_of place n c).phase ≡ Open
    open_if_active e = active_is_open (kept n) c (memory_of place n c).phase (sym (viewed place n c) ∙ e)

    by_phase : (ph : Phase) → (memory_of place n c).phase ≡ ph
        → is_live (phase_by false (coordinator_view place n c).standing) ≡ live ph
    by_phase Open e = rw (alike.open_is_active e) refl
    by_phase Asked e = rw (alike.asked_is_collecting e) refl
    by_phase Idle e =
        closed_standing (coordinator_view place n c).standing (λ f. let g = sym e ∙ open_if_active f in cc)
        (λ f. let g = sym e ∙ alike.collecting_is_asked f in cc)
    by_phase Over e =
        closed_standing (coordinator_view place n c).standing (λ f. let g = sym e ∙ open_if_active f in cc)
        (λ f. let g = sym e ∙ alike.collecting_is_asked f in cc)

-- a case that is not Unknown shows whom memory has accepted, and their votes
lists_known : (s : Standing) (rs : List Record) (c : Case) (m : Memory) → (s ≡ Unknown → ⊥)
    → ((view_at s rs c m).accepted ≡ m.accepted) × ((view_at s rs c m).votes ≡ m.votes)
lists_known Unknown rs c m f = absurd (f refl)
lists_known Active rs c m f = (refl, refl)
lists_known Collecting rs c m f = (refl, refl)
lists_known Prepared rs c m f = (refl, refl)
lists_known Committing rs c m f = (refl, refl)
lists_known Aborting rs c m f = (refl, refl)
lists_known Heuristic rs c m f = (refl, refl)

pub lists_seen : (place : Place) (n : Node) (c : Case) → ((coordinator_view place n c).standing ≡ Unknown → ⊥)
    → ((coordinator_view place n c).accepted ≡ (memory_of place n c).accepted)
    × ((coordinator_view place n c).votes ≡ (memory_of place n c).votes)
unfolding coordinator_view
lists_seen place n c f = lists_known _ (kept n) c (memory_of place n c) (λ e. f (viewed place n c ∙ e))

-- Inputs.

-- a message that gives no ticket
abbrev pub IsNoJoin : Message → Type 0
IsNoJoin (Join d) = ⊥
IsNoJoin _ = Unit {0}

-- an input that gives no ticket
abbrev pub IsRow : Input → Type 0
IsRow (ActInput a) = Unit {0}
IsRow (MessageInput k m) = IsNoJoin m

-- JOIN, or an input that gives no ticket
pub record IsJoin (i : Input) : Type 0 where
  pub number : ℕ
  pub parents : Case
  pub is : i ≡ MessageInput number (Join parents)

message_is : (j : ℕ) (x : Message) → IsJoin (MessageInput j x) ⊎ IsNoJoin x
message_is j (Join d) = inl (record { number = j; parents = d; is = refl })
message_is j (Joined d t) = inr tt
message_is j (Work d k op) = inr tt
message_is j (Prepare d k) = inr tt
message_is j (Yes d) = inr tt
message_is j (No d) = inr tt
message_is j (Read d) = inr tt
message_is j (Commit d) = inr tt
message_is j (Abort d) = inr tt
message_is j (Ack d o fs) = inr tt
message_is j (Inquire d) = inr tt

pub input_is : (i : Input) → IsJoin i ⊎ IsRow i
input_is (ActInput a) = inr tt
input_is (MessageInput j x) = message_is j x

-- as open as before, or closed
abbrev pub Falls : Memory → Memory → Type 0
Falls m k = (live k.phase ≡ live m.phase) ⊎ (live k.phase ≡ false)

module _ (me : ProcessId) (boot : ℕ) (c : Case) (m : Memory) where
  same : (k : Memory) → k.phase ≡ m.phase → Falls m k
  same k e = inl (ap live e)

  if_falls : (b : Bool) (k l : Memory) → Falls m k → Falls m l → Falls m (if b then k else l)
  if_falls true k l f g = f
  if_falls false k l f g = g

  asked_by : (b : Bool) → m.phase ≡ Open → Falls m (record m { phase = if b then Over else Asked })
  asked_by true e = inr refl
  asked_by false e = inl (sym (ap live e))

  asked : (d : Case) (ph : Phase) → m.phase ≡ ph → Falls m (asks_votes (retires m d) ph)
  asked d Open e = asked_by (none_of m.accepted) e
  asked d Idle e = inl refl
  asked d Asked e = inl refl
  asked d Over e = inl refl

  closed : (d : Case) (ph : Phase) → Falls m (closes (retires m d) ph)
  closed d Idle = inl refl
  closed d Open = inr refl
  closed d Asked = inr refl
  closed d Over = inr refl

  accepted : (t : Ticket) (ph : Phase) → Falls m (accepts_ticket m t ph)
  accepted t Open = if_falls (has_child m.accepted t.child) m _ (inl refl) (inl refl)
  accepted t Idle = inl refl
  accepted t Asked = inl refl
  accepted t Over = inl refl

  worked : (t : Option Ticket) (ph : Phase) → Falls m (sends_work m t ph)
  worked (Some t) Open = inl refl
  worked (Some t) Idle = inl refl
  worked (Some t) Asked = inl refl
  worked (Some t) Over = inl refl
  worked None Open = inl refl
  worked None Idle = inl refl
  worked None Asked = inl refl
  worked None Over = inl refl

  vote_left : (w : Vote) (b : Bool) → m.phase ≡ Asked
      → (live (phase_after w b) ≡ live m.phase) ⊎ (live (phase_after w b) ≡ false)
  vote_left VoteNo b e = inr refl
  vote_left VoteYes true e = inr refl
  vote_left VoteYes false e = inl (sym (ap live e))
  vote_left VoteRead true e = inr refl
  vote_left VoteRead false e = inl (sym (ap live e))

  voted : (t : Ticket) (w : Vote) (ph : Phase) → m.phase ≡ ph → Falls m (takes_vote m t w ph)
  voted t w Asked e =
      if_falls (is_counted m.accepted m.votes t) (with_vote m t w) m
      (vote_left w (all_voted m.accepted (m.votes ++ (t, w) ∷ [])) e) (inl refl)
  voted t w Idle e = inl refl
  voted t w Open e = inl refl
  voted t w Over e = inl refl

  acked : (t : Ticket) (o : Outcome) (fs : List Finding) (ph : Phase) → Falls m (takes_ack m t o fs ph)
  acked t o fs Open = inl refl
  acked t o fs Asked = inl refl
  acked t o fs Idle = inl refl
  acked t o fs Over = inl refl

  of_children : (d : Case) (f : Ticket → Memory) → ((t : Ticket) → Falls m (f t)) → Falls m (of_child c d m f)
  of_children d f g = if_falls (same_txn d.txn c.txn) _ m (by_ticket d.ticket) (inl refl)
    where
      by_ticket : (t : Option Ticket) → Falls m (of_ticket t m f)
      by_ticket None = inl refl
      by_ticket (Some t) = g t

  heard : (x : Message) → IsNoJoin x → Falls m (cascaded_hears me boot c m x)
  heard (Join d) r = absurd r
  heard (Prepare d k) r = if_falls (same_case d c) _ (retires m d) (asked d m.phase refl) (inl refl)
  heard (Abort d) r = if_falls (same_case d c) _ (retires m d) (closed d m.phase) (inl refl)
  heard (Joined d t) r = if_falls (same_case d c) _ m (accepted t m.phase) (inl refl)
  heard (Yes d) r = of_children d _ (λ t. voted t VoteYes m.phase refl)
  heard (No d) r = of_children d _ (λ t. voted t VoteNo m.phase refl)
  heard (Read d) r = of_children d _ (λ t. voted t VoteRead m.phase refl)
  heard (Ack d o fs) r = of_children d _ (λ t. acked t o fs m.phase)
  heard (Work d k op) r = inl refl
  heard (Commit d) r = inl refl
  heard (Inquire d) r = inl refl

  pub falls : (i : Input) → IsRow i → Falls m (cascaded_remembers me boot c m i)
  falls (MessageInput k x) r = heard x r
  falls (ActInput (WorkAct d q op)) r =
      if_falls (same_case d c) _ m (worked (ticket_of_child m.accepted q) m.phase) (inl refl)
  falls (ActInput (Begin p)) r = inl refl
  falls (ActInput (JoinAct d q)) r = inl refl
  falls (ActInput (CommitAct x)) r = inl refl
  falls (ActInput (AbortAct x)) r = inl refl
  falls (ActInput (Ask d)) r = inl refl
  falls (ActInput (Decide d o)) r = inl refl
  falls (ActInput (Forget d)) r = inl refl

  -- What closes it.

  pub prepare_closes : (j k : ℕ) → m.phase ≡ Open → none_of m.accepted ≡ true
      → live (cascaded_remembers me boot c m (MessageInput j (Prepare c k))).phase ≡ false
  prepare_closes j k e f = rw (same_case-refl c, e, f) refl

  closes_now : (d : Case) (ph : Phase) → m.phase ≡ ph → live (closes (retires m d) ph).phase ≡ false
  closes_now d Idle e = ap live e
  closes_now d Open e = refl
  closes_now d Asked e = refl
  closes_now d Over e = refl

  pub abort_closes : (j : ℕ) → live (cascaded_remembers me boot c m (MessageInput j (Abort c))).phase ≡ false
  abort_closes j = rw (same_case-refl c) (closes_now c m.phase refl)

  last_vote : (w : Vote) → Consents w → live (phase_after w true) ≡ false
  last_vote VoteYes e = refl
  last_vote VoteRead e = refl
  last_vote VoteNo e = refl

  vote_heard : (j : ℕ) (w : Vote) (x : Txn) (t : Ticket) → same_txn x c.txn ≡ true
      → cascaded_remembers me boot c m (MessageInput j (vote_message w (child_case x t)))
      ≡ takes_vote m t w m.phase
  vote_heard j VoteYes x t e = rw e refl
  vote_heard j VoteNo x t e = rw e refl
  vote_heard j VoteRead x t e = rw e refl

  vote_counts : (w : Vote) (t : Ticket) → m.phase ≡ Asked → is_counted m.accepted m.votes t ≡ true
      → takes_vote m t w m.phase ≡ with_vote m t w
  vote_counts w t e f = rw (e, f) refl

  pub vote_closes : (j : ℕ) (w : Vote) (x : Txn) (t : Ticket) → same_txn x c.txn ≡ true → m.phase ≡ Asked
      → is_counted m.accepted m.votes t ≡ true → Consents w
      → all_voted m.accepted (m.votes ++ (t, w) ∷ []) ≡ true
      → live (cascaded_remembers me boot c m (MessageInput j (vote_message w (child_case x t)))).phase ≡ false
  vote_closes j w x t e f g k all =
      ap (λ (y : Memory). live y.phase) (vote_heard j w x t e ∙ vote_counts w t f g)
      ∙ (ap (λ b. live (phase_after w b)) all ∙ last_vote w k)

  pub no_closes : (j : ℕ) (x : Txn) (t : Ticket) → same_txn x c.txn ≡ true → m.phase ≡ Asked
      → is_counted m.accepted m.votes t ≡ true
      → live (cascaded_remembers me boot c m (MessageInput j (vote_message VoteNo (child_case x t)))).phase
      ≡ false
  no_closes j x t e f g = ap (λ (y : Memory). live y.phase)
      (vote_heard j VoteNo x t e ∙ vote_counts VoteNo t f g)
