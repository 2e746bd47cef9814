-- What a cascaded coordinator remembers is of cases whose tickets it gave.
use Rattle.std.proofs.Common.{◌≡◌, ◌∙◌, ◌⊎◌, inl, inr, ℕ, Bool, true, false, Option, Some, None, List, [], ◌∷◌, ◌++◌, refl, sym, subst, if◌then◌else◌}
use Rattle.std.specs.Prelude.{fold}
use Rattle.protocol.specs.declared.names.Case.{Case}
use Rattle.protocol.specs.declared.names.ProcessId.{ProcessId}
use Rattle.protocol.specs.declared.names.Ticket.{Ticket}
use Rattle.protocol.specs.declared.names.Outcome.{Outcome}
use Rattle.protocol.specs.declared.messages.Message.{Message}
use Rattle.protocol.specs.declared.messages.Message.TheVariants.{Join, Joined, Work, Prepare, Yes, No, Read, Commit, Abort, Ack, Inquire}
use Rattle.protocol.specs.declared.standings.Vote.{Vote}
use Rattle.protocol_words.specs.Variants.{AbortAct, ActInput, CommitAct, JoinAct, MessageInput, VoteNo, VoteRead, VoteYes, WorkAct}
use Rattle.protocol.specs.declared.events.Act.TheVariants.{Begin, Ask, Decide, Forget}
use Rattle.protocol.specs.declared.events.Input.{Input}
use Rattle.protocol.specs.Names.{same_process, same_case, same_txn, child_case}
use Rattle.protocol.specs.NameLaws.{same_case_tells, same_process_tells}
use Rattle.protocol.specs.Records.{boot_of}
use Rattle.protocol.specs.Nodes.{Place, Role, Below, Node, Heard, kept}
use Rattle.protocol.specs.Memory.{Memory, Phase, Idle, Open, Asked, Over, fresh_memory, memory_of, remembers, cascaded_remembers, cascaded_hears, opens_case, gives, joins, next_ticket, active_ticket, asks_votes, closes, retires, accepts_ticket, has_child, sends_work, ticket_of_child, takes_vote, is_counted, with_vote, takes_ack, of_child, of_ticket}
use Rattle.proof_processes.specs.Owns.{is_own_case, AllOwn}
use Rattle.protocol.specs.declared.messages.Finding.{Finding}

pub own_both : (me : ProcessId) (xs ys : List Case) → AllOwn me xs → AllOwn me ys → AllOwn me (xs ++ ys)
own_both me [] ys a b = b
own_both me (x ∷ xs) ys a b = (a.0, own_both me xs ys a.1 b)

pub same_self : (q : ProcessId) → same_process q q ≡ true
same_self q = elim (same_process_tells q q) [ inl t ↦ t.0 | inr f ↦ absurd (f.1 refl) ]

-- the memory of a case: whose tickets were given, and that a case which is not Idle is one of them
pub record Own (me : ProcessId) (c : Case) (m : Memory) : Type 0 where
  pub issued : AllOwn me m.issued
  pub not_idle : (m.phase ≡ Idle) ⊎ (is_own_case me c ≡ true)

module _ (me : ProcessId) (boot : ℕ) (c : Case) where
  abbrev O : Memory → Type 0
  O m = Own me c m

  -- a memory with the same tickets, of a case that is own
  moved : (m k : Memory) → O m → k.issued ≡ m.issued → is_own_case me c ≡ true → O k
  moved m k o e own = record { issued = subst (AllOwn me) (sym e) o.issued; not_idle = inr own }

  -- or with the same phase
  left : (m k : Memory) → O m → k.issued ≡ m.issued → k.phase ≡ m.phase → O k
  left m k o e f = record {
    issued = subst (AllOwn me) (sym e) o.issued;
    not_idle = subst (λ (x : Phase). (x ≡ Idle) ⊎ (is_own_case me c ≡ true)) (sym f) o.not_idle;
  }

  awake : (m : Memory) → O m → (ph : Phase) → m.phase ≡ ph → (ph ≡ Idle → ⊥) → is_own_case me c ≡ true
  awake m o ph e f = elim o.not_idle [ inl idle ↦ absurd (f (sym e ∙ idle)) | inr own ↦ own ]

  asked : (m : Memory) → O m → (ph : Phase) → m.phase ≡ ph → O (asks_votes m ph)
  asked m o Open e = moved m _ o refl (awake m o Open e (λ f. cc))
  asked m o Idle e = o
  asked m o Asked e = o
  asked m o Over e = o

  closed : (m : Memory) → O m → (ph : Phase) → m.phase ≡ ph → O (closes m ph)
  closed m o Idle e = o
  closed m o Open e = moved m _ o refl (awake m o Open e (λ f. cc))
  closed m o Asked e = moved m _ o refl (awake m o Asked e (λ f. cc))
  closed m o Over e = moved m _ o refl (awake m o Over e (λ f. cc))

  accepted_if : (m k : Memory) (b : Bool) → O m → O k → O (if b then m else k)
  accepted_if m k true o p = o
  accepted_if m k false o p = p

  accepted : (m : Memory) (t : Ticket) → O m → (ph : Phase) → O (accepts_ticket m t ph)
  accepted m t o Open = accepted_if m _ (has_child m.accepted t.child) o (left m _ o refl refl)
  accepted m t o Idle = o
  accepted m t o Asked = o
  accepted m t o Over = o

  worked : (m : Memory) (t : Option Ticket) → O m → (ph : Phase) → O (sends_work m t ph)
  worked m (Some t) o Open = left m _ o refl refl
  worked m (Some t) o Idle = o
  worked m (Some t) o Asked = o
  worked m (Some t) o Over = o
  worked m None o Open = o
  worked m None o Idle = o
  worked m None o Asked = o
  worked m None o Over = o

  voted : (m : Memory) (t : Ticket) (w : Vote) → O m → (ph : Phase) → m.phase ≡ ph → O (takes_vote m t w ph)
  voted m t w o Asked e =
      accepted_if (with_vote m t w) m (is_counted m.accepted m.votes t)
      (moved m _ o refl (awake m o Asked e (λ f. cc))) o
  voted m t w o Idle e = o
  voted m t w o Open e = o
  voted m t w o Over e = o

  acked : (m : Memory) (t : Ticket) (u : Outcome) (fs : List Finding) → O m → (ph : Phase)
      → O (takes_ack m t u fs ph)
  acked m t u fs o Open = o
  acked m t u fs o Asked = o
  acked m t u fs o Idle = left m _ o refl refl
  acked m t u fs o Over = left m _ o refl refl

  if_of : (b : Bool) (m k : Memory) → O m → O k → O (if b then k else m)
  if_of true m k o p = p
  if_of false m k o p = o

  -- a fresh ticket
  given : (m : Memory) (d : Case) → O m → O (gives m d (next_ticket me boot m))
  given m d o = record {
    issued = own_both me m.issued (child_case d.txn (next_ticket me boot m) ∷ []) o.issued
        (same_self me, tt);
    not_idle = o.not_idle;
  }

  opened : (m : Memory) (d : Case) → O m → (b : Bool)
      → same_case c (child_case d.txn (next_ticket me boot m)) ≡ b
      → O (if b then opens_case (gives m d (next_ticket me boot m)) else gives m d (next_ticket me boot m))
  opened m d o true e =
      let t = next_ticket me boot m in
      let same : c ≡ child_case d.txn t = is_same c (child_case d.txn t) e in
      moved (gives m d t) _ (given m d o) refl
      (subst (λ (x : Case). is_own_case me x ≡ true) (sym same) (same_self me))
    where
      is_same : (a b : Case) → same_case a b ≡ true → a ≡ b
      is_same a b f = elim (same_case_tells a b) [ inl t ↦ t.1 | inr g ↦ absurd (let k = g.0 in cc) ]
  opened m d o false e = given m d o

  joined : (m : Memory) (d : Case) → O m → (t : Option Ticket) → O (joins me boot c d m t)
  joined m d o (Some t) = o
  joined m d o None = opened m d o (same_case c (child_case d.txn (next_ticket me boot m))) refl

  retired : (m : Memory) (d : Case) → O m → O (retires m d)
  retired m d o = left m _ o refl refl

  of_children : (m : Memory) (d : Case) (f : Ticket → Memory) → O m → ((t : Ticket) → O (f t))
      → O (of_child c d m f)
  of_children m d f o g = if_of (same_txn d.txn c.txn) m _ o (by_ticket d.ticket)
    where
      by_ticket : (t : Option Ticket) → O (of_ticket t m f)
      by_ticket None = o
      by_ticket (Some t) = g t

  heard : (m : Memory) → O m → (x : Message) → O (cascaded_hears me boot c m x)
  heard m o (Join d) = joined m d o (active_ticket m.active d)
  heard m o (Prepare d k) = if_of (same_case d c) (retires m d) _ (retired m d o)
      (asked (retires m d) (retired m d o) m.phase refl)
  heard m o (Abort d) = if_of (same_case d c) (retires m d) _ (retired m d o)
      (closed (retires m d) (retired m d o) m.phase refl)
  heard m o (Joined d t) = if_of (same_case d c) m _ o (accepted m t o m.phase)
  heard m o (Yes d) = of_children m d _ o (λ t. voted m t VoteYes o m.phase refl)
  heard m o (No d) = of_children m d _ o (λ t. voted m t VoteNo o m.phase refl)
  heard m o (Read d) = of_children m d _ o (λ t. voted m t VoteRead o m.phase refl)
  heard m o (Ack d u fs) = of_children m d _ o (λ t. acked m t u fs o m.phase)
  heard m o (Work d k op) = o
  heard m o (Commit d) = o
  heard m o (Inquire d) = o

  remembered : (m : Memory) → O m → (i : Input) → O (cascaded_remembers me boot c m i)
  remembered m o (MessageInput k x) = heard m o x
  remembered m o (ActInput (WorkAct d q op)) = if_of (same_case d c) m _ o
      (worked m (ticket_of_child m.accepted q) o m.phase)
  remembered m o (ActInput (Begin p)) = o
  remembered m o (ActInput (JoinAct d q)) = o
  remembered m o (ActInput (CommitAct x)) = o
  remembered m o (ActInput (AbortAct x)) = o
  remembered m o (ActInput (Ask d)) = o
  remembered m o (ActInput (Decide d u)) = o
  remembered m o (ActInput (Forget d)) = o

  all_remembered : (p : ProcessId) (m : Memory) → O m → (hs : List Heard)
      → O (fold (remembers me (Below p) boot c) m hs)
  all_remembered p m o [] = o
  all_remembered p m o (h ∷ hs) = all_remembered p (cascaded_remembers me boot c m h.input)
      (remembered m o h.input) hs

pub memory_owns : (place : Place) (p : ProcessId) → place.role ≡ Below p → (n : Node) (c : Case)
    → Own place.me c (memory_of place n c)
unfolding memory_of
memory_owns place p e n c =
    subst (λ (r : Role). Own place.me c
    (fold (remembers place.me r (boot_of (kept n)) c) fresh_memory n.heard)) (sym e)
    (all_remembered place.me (boot_of (kept n)) c p fresh_memory
    (record { issued = tt; not_idle = inl refl }) n.heard)
