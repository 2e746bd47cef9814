-- What a process remembers of itself, whatever the case: the transactions begun, the tickets given, and which
-- are active.
use Rattle.std.proofs.Common.{◌≡◌, ◌∙◌, ◌+◌, ◌==◌, ◌&&◌, ℕ, Bool, true, false, Option, Some, None, List, [], ◌∷◌, ◌++◌, refl, sym, ap, if◌then◌else◌}
use Rattle.std.specs.Prelude.{fold, not}
use Rattle.protocol.specs.declared.names.Case.{Case}
use Rattle.protocol.specs.declared.names.ProcessId.{ProcessId}
use Rattle.protocol.specs.declared.names.Ticket.{Ticket}
use Rattle.protocol.specs.declared.names.Outcome.{Outcome}
use Rattle.protocol.specs.declared.messages.Message.{Message}
use Rattle.protocol.specs.declared.messages.Message.TheVariants.{Join, Joined, Work, Prepare, Yes, No, Read, Commit, Abort, Ack, Inquire}
use Rattle.protocol.specs.declared.standings.Vote.{Vote}
use Rattle.protocol_words.specs.Variants.{AbortAct, ActInput, CommitAct, JoinAct, MessageInput, VoteNo, VoteRead, VoteYes, WorkAct}
use Rattle.protocol.specs.declared.events.Act.TheVariants.{Begin, Ask, Decide, Forget}
use Rattle.protocol.specs.declared.events.Input.{Input}
use Rattle.protocol.specs.Names.{same_case, same_txn, child_case, root_case}
use Rattle.protocol.specs.Records.{boot_of}
use Rattle.protocol.specs.Nodes.{Place, Role, AtRoot, Below, AtLeaf, Node, Heard, DataAnswer, kept}
use Rattle.protocol.specs.Memory.{Memory, Phase, Idle, Open, Asked, Over, fresh_memory, memory_of, remembers, root_remembers, cascaded_remembers, cascaded_hears, manager_remembers, manager_hears, hears_child, next_txn, opens_case, gives, joins, next_ticket, active_ticket, without_ticket, asks_votes, closes, retires, accepts_ticket, has_child, sends_work, ticket_of_child, takes_vote, is_counted, with_vote, takes_ack, of_child, of_ticket, works}
use Rattle.protocol.specs.declared.messages.Finding.{Finding}

pub record Self : Type 0 where
  pub begun : ℕ
  pub given : ℕ
  pub issued : List Case
  pub active : List (Case × Ticket)

abbrev pub self_of : Memory → Self
self_of m = record { begun = m.begun; given = m.given; issued = m.issued; active = m.active }

-- the ticket that is given next
abbrev pub next_of : ProcessId → ℕ → Self → Ticket
next_of me boot s = record { child = me; boot = boot; number = s.given + 1 }

-- a ticket is given for the parent's case d
abbrev pub gives_next : ProcessId → ℕ → Self → Case → Self
gives_next me boot s d = record {
  begun = s.begun;
  given = s.given + 1;
  issued = s.issued ++ child_case d.txn (next_of me boot s) ∷ [];
  active = s.active ++ (d, next_of me boot s) ∷ [];
}

-- JOIN: an active ticket is given again, else the next
abbrev pub joins_self : ProcessId → ℕ → Self → Case → Option Ticket → Self
joins_self me boot s d (Some t) = s
joins_self me boot s d None = gives_next me boot s d

-- the ticket of the case is active no longer
abbrev pub retires_self : Self → Case → Self
retires_self s d = record s { active = without_ticket s.active d }

abbrev pub starts_for : Bool → Self → Self → Self
starts_for true s k = k
starts_for false s k = s

abbrev pub hears_self : ProcessId → ℕ → Bool → Self → Message → Self
hears_self me boot starts s (Join d) = starts_for starts s (joins_self me boot s d (active_ticket s.active d))
hears_self me boot starts s (Prepare d k) = retires_self s d
hears_self me boot starts s (Abort d) = retires_self s d
hears_self me boot starts s _ = s

-- at a process that gives tickets, with what its data answer to JOIN
abbrev pub issuer_self : ProcessId → ℕ → Bool → Self → Input → Self
issuer_self me boot starts s (MessageInput k m) = hears_self me boot starts s m
issuer_self me boot starts s (ActInput a) = s

abbrev pub root_self : Self → Input → Self
root_self s (ActInput (Begin p)) = record s { begun = s.begun + 1 }
root_self s _ = s

abbrev pub self_after : ProcessId → Role → ℕ → Self → Heard → Self
self_after me AtRoot boot s h = root_self s h.input
self_after me (Below p) boot s h = issuer_self me boot true s h.input
self_after me (AtLeaf p) boot s h = issuer_self me boot h.data_answer.starts s h.input

-- What each input leaves of it.

module _ (me : ProcessId) (boot : ℕ) (c : Case) where
  either_self : (m u v : Memory) (b : Bool) → self_of u ≡ self_of m → self_of v ≡ self_of m
      → self_of (if b then u else v) ≡ self_of m
  either_self m u v true e f = e
  either_self m u v false e f = f

  joined_new : (m : Memory) (d : Case) (b : Bool)
      → self_of (if b then opens_case (gives m d (next_ticket me boot m))
      else gives m d (next_ticket me boot m))
      ≡ gives_next me boot (self_of m) d
  joined_new m d true = refl
  joined_new m d false = refl

  joined : (m : Memory) (d : Case) (o : Option Ticket)
      → self_of (joins me boot c d m o) ≡ joins_self me boot (self_of m) d o
  joined m d (Some t) = refl
  joined m d None = joined_new m d (same_case c (child_case d.txn (next_ticket me boot m)))

  closed : (m k : Memory) (ph : Phase) → self_of k ≡ self_of m → self_of (closes k ph) ≡ self_of m
  closed m k Idle e = e
  closed m k Open e = e
  closed m k Asked e = e
  closed m k Over e = e

  asked : (m k : Memory) (ph : Phase) → self_of k ≡ self_of m → self_of (asks_votes k ph) ≡ self_of m
  asked m k Idle e = e
  asked m k Open e = e
  asked m k Asked e = e
  asked m k Over e = e

  accepted : (m : Memory) (t : Ticket) (ph : Phase) → self_of (accepts_ticket m t ph) ≡ self_of m
  accepted m t Open = either_self m m _ (has_child m.accepted t.child) refl refl
  accepted m t Idle = refl
  accepted m t Asked = refl
  accepted m t Over = refl

  worked : (m : Memory) (t : Option Ticket) (ph : Phase) → self_of (sends_work m t ph) ≡ self_of m
  worked m (Some t) Open = refl
  worked m (Some t) Idle = refl
  worked m (Some t) Asked = refl
  worked m (Some t) Over = refl
  worked m None Open = refl
  worked m None Idle = refl
  worked m None Asked = refl
  worked m None Over = refl

  voted : (m : Memory) (t : Ticket) (w : Vote) (ph : Phase) → self_of (takes_vote m t w ph) ≡ self_of m
  voted m t w Asked = either_self m (with_vote m t w) m (is_counted m.accepted m.votes t) refl refl
  voted m t w Idle = refl
  voted m t w Open = refl
  voted m t w Over = refl

  acked : (m : Memory) (t : Ticket) (u : Outcome) (fs : List Finding) (ph : Phase)
      → self_of (takes_ack m t u fs ph) ≡ self_of m
  acked m t u fs Open = refl
  acked m t u fs Asked = refl
  acked m t u fs Idle = refl
  acked m t u fs Over = refl

  of_children : (m : Memory) (d : Case) (f : Ticket → Memory) → ((t : Ticket) → self_of (f t) ≡ self_of m)
      → self_of (of_child c d m f) ≡ self_of m
  of_children m d f g = either_self m _ m (same_txn d.txn c.txn) (by_ticket d.ticket) refl
    where
      by_ticket : (t : Option Ticket) → self_of (of_ticket t m f) ≡ self_of m
      by_ticket None = refl
      by_ticket (Some t) = g t

  retired : (m k : Memory) (d : Case) → self_of k ≡ retires_self (self_of m) d
      → self_of (if same_case d c then k else retires m d) ≡ retires_self (self_of m) d
  retired m k d e = either_self (retires m d) k (retires m d) (same_case d c) e refl

  -- at a coordinator below the root
  cascaded_hear : (m : Memory) (x : Message)
      → self_of (cascaded_hears me boot c m x) ≡ hears_self me boot true (self_of m) x
  cascaded_hear m (Join d) = joined m d (active_ticket m.active d)
  cascaded_hear m (Prepare d k) = retired m _ d (asked (retires m d) (retires m d) m.phase refl)
  cascaded_hear m (Abort d) = retired m _ d (closed (retires m d) (retires m d) m.phase refl)
  cascaded_hear m (Joined d t) = either_self m _ m (same_case d c) (accepted m t m.phase) refl
  cascaded_hear m (Yes d) = of_children m d _ (λ t. voted m t VoteYes m.phase)
  cascaded_hear m (No d) = of_children m d _ (λ t. voted m t VoteNo m.phase)
  cascaded_hear m (Read d) = of_children m d _ (λ t. voted m t VoteRead m.phase)
  cascaded_hear m (Ack d u fs) = of_children m d _ (λ t. acked m t u fs m.phase)
  cascaded_hear m (Work d k op) = refl
  cascaded_hear m (Commit d) = refl
  cascaded_hear m (Inquire d) = refl

  -- at the root
  root_hear : (m : Memory) (x : Message) → self_of (hears_child c m x) ≡ self_of m
  root_hear m (Joined d t) = either_self m _ m (same_case d c) (accepted m t m.phase) refl
  root_hear m (Yes d) = of_children m d _ (λ t. voted m t VoteYes m.phase)
  root_hear m (No d) = of_children m d _ (λ t. voted m t VoteNo m.phase)
  root_hear m (Read d) = of_children m d _ (λ t. voted m t VoteRead m.phase)
  root_hear m (Ack d u fs) = of_children m d _ (λ t. acked m t u fs m.phase)
  root_hear m (Join d) = refl
  root_hear m (Work d k op) = refl
  root_hear m (Prepare d k) = refl
  root_hear m (Commit d) = refl
  root_hear m (Abort d) = refl
  root_hear m (Inquire d) = refl

  -- at a manager
  done : (m : Memory) (i : ℕ) (does : Bool) (ph : Phase) → self_of (works m i does ph) ≡ self_of m
  done m i does Open = either_self m _ m ((i == m.done + 1) && not m.spoiled)
      (either_self m _ _ does refl refl) refl
  done m i does Idle = refl
  done m i does Asked = refl
  done m i does Over = refl

  started : (m k : Memory) (s : Self) (b : Bool) → self_of k ≡ s
      → self_of (if b then k else m) ≡ starts_for b (self_of m) s
  started m k s true e = e
  started m k s false e = refl

  manager_hear : (m : Memory) (a : DataAnswer) (x : Message)
      → self_of (manager_hears me boot c m a x) ≡ hears_self me boot a.starts (self_of m) x
  manager_hear m a (Join d) = started m _ _ a.starts (joined m d (active_ticket m.active d))
  manager_hear m a (Prepare d k) = retired m _ d (closed (retires m d) (retires m d) m.phase refl)
  manager_hear m a (Abort d) = retired m _ d (closed (retires m d) (retires m d) m.phase refl)
  manager_hear m a (Work d i op) = either_self m _ m (same_case d c) (done m i a.does m.phase) refl
  manager_hear m a (Joined d t) = refl
  manager_hear m a (Yes d) = refl
  manager_hear m a (No d) = refl
  manager_hear m a (Read d) = refl
  manager_hear m a (Commit d) = refl
  manager_hear m a (Ack d u fs) = refl
  manager_hear m a (Inquire d) = refl

  -- acts
  root_act : (m : Memory) (i : Input) → self_of (root_remembers me boot c m i) ≡ root_self (self_of m) i
  root_act m (MessageInput k x) = root_hear m x
  root_act m (ActInput (Begin p)) =
      either_self (record m { begun = m.begun + 1 }) _ _
      (same_case (root_case (next_txn me boot m p)) c) refl refl
  root_act m (ActInput (WorkAct d q op)) = either_self m _ m (same_case d c)
      (worked m (ticket_of_child m.accepted q) m.phase) refl
  root_act m (ActInput (CommitAct x)) = either_self m _ m (same_case (root_case x) c)
      (asked m m m.phase refl) refl
  root_act m (ActInput (AbortAct x)) = either_self m _ m (same_case (root_case x) c)
      (closed m m m.phase refl) refl
  root_act m (ActInput (JoinAct d q)) = refl
  root_act m (ActInput (Ask d)) = refl
  root_act m (ActInput (Decide d u)) = refl
  root_act m (ActInput (Forget d)) = refl

  cascaded_act : (m : Memory) (i : Input)
      → self_of (cascaded_remembers me boot c m i) ≡ issuer_self me boot true (self_of m) i
  cascaded_act m (MessageInput k x) = cascaded_hear m x
  cascaded_act m (ActInput (WorkAct d q op)) = either_self m _ m (same_case d c)
      (worked m (ticket_of_child m.accepted q) m.phase) refl
  cascaded_act m (ActInput (Begin p)) = refl
  cascaded_act m (ActInput (CommitAct x)) = refl
  cascaded_act m (ActInput (AbortAct x)) = refl
  cascaded_act m (ActInput (JoinAct d q)) = refl
  cascaded_act m (ActInput (Ask d)) = refl
  cascaded_act m (ActInput (Decide d u)) = refl
  cascaded_act m (ActInput (Forget d)) = refl

  manager_act : (m : Memory) (a : DataAnswer) (i : Input)
      → self_of (manager_remembers me boot c m a i) ≡ issuer_self me boot a.starts (self_of m) i
  manager_act m a (MessageInput k x) = manager_hear m a x
  manager_act m a (ActInput b) = refl

  pub self_remembers : (role : Role) (m : Memory) (h : Heard)
      → self_of (remembers me role boot c m h) ≡ self_after me role boot (self_of m) h
  self_remembers AtRoot m h = root_act m h.input
  self_remembers (Below p) m h = cascaded_act m h.input
  self_remembers (AtLeaf p) m h = manager_act m h.data_answer h.input

  folded : (role : Role) (m : Memory) (hs : List Heard)
      → self_of (fold (remembers me role boot c) m hs) ≡ fold (self_after me role boot) (self_of m) hs
  folded role m [] = refl
  folded role m (h ∷ hs) =
      folded role (remembers me role boot c m h) hs
      ∙ ap (λ s. fold (self_after me role boot) s hs) (self_remembers role m h)

-- it is the same in each case
pub self_is : (place : Place) (n : Node) (c : Case) → self_of (memory_of place n c)
    ≡ fold (self_after place.me place.role (boot_of (kept n))) (self_of fresh_memory) n.heard
unfolding memory_of
self_is place n c = folded place.me (boot_of (kept n)) c place.role fresh_memory n.heard

pub self_same : (place : Place) (n : Node) (c d : Case)
    → self_of (memory_of place n c) ≡ self_of (memory_of place n d)
self_same place n c d = self_is place n c ∙ sym (self_is place n d)
