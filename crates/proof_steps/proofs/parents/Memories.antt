-- What an input makes of what is remembered of the pair's case, root or cascaded.
use Rattle.std.proofs.Common.{◌≡◌, ◌∙◌, ℕ, Bool, true, false, Option, Some, None, refl, ap, subst, if◌then◌else◌, List}
use Rattle.protocol.specs.declared.names.Case.{Case}
use Rattle.protocol.specs.declared.names.ProcessId.{ProcessId}
use Rattle.protocol.specs.declared.names.Ticket.{Ticket}
use Rattle.protocol.specs.declared.names.Txn.{Txn}
use Rattle.protocol.specs.declared.names.Outcome.{Outcome}
use Rattle.protocol.specs.declared.names.Presumption.{Presumption}
use Rattle.protocol.specs.declared.messages.Message.{Message}
use Rattle.protocol.specs.declared.messages.Message.TheVariants.{Join, Joined, Work, Prepare, Commit, Abort, Ack, Inquire}
use Rattle.protocol.specs.declared.messages.Op.{Op}
use Rattle.protocol.specs.declared.standings.Vote.{Vote}
use Rattle.protocol_words.specs.Variants.{AbortAct, ActInput, CommitAct, JoinAct, MessageInput, VoteNo, VoteRead, VoteYes, WorkAct}
use Rattle.protocol.specs.declared.events.Act.TheVariants.{Begin, Ask, Forget}
use Rattle.protocol.specs.declared.events.Input.{Input}
use Rattle.protocol.specs.Names.{same_case, same_txn, child_case, root_case}
use Rattle.protocol.specs.Records.{boot_of, in_list}
use Rattle.protocol.specs.Nodes.{Role, AtRoot, Below, kept}
use Rattle.protocol.specs.Memory.{Memory, hears_child, Phase, Idle, Open, Asked, Over, remembers, root_remembers, cascaded_remembers, asks_votes, closes, retires, accepts_ticket, sends_work, ticket_of_child, takes_vote, takes_ack, joins, active_ticket, begins}
use Rattle.protocol.specs.Views.{vote_message}
use Rattle.proof_steps.proofs.parents.Turns.{Turn, IsSeat, top, under, remembered, then_remembered, Says}
use Rattle.proof_steps.proofs.parents.Halves.{acked_of}
use Rattle.protocol.specs.declared.messages.Finding.{Finding}

pub by_role : (role : Role) (parent : Option ProcessId) → IsSeat role parent → (P : Role → Type 0) → P AtRoot
    → ((p : ProcessId) → P (Below p)) → P role
by_role _ _ top P a b = a
by_role _ _ (under p) P a b = b p

pub below_is : (role : Role) (parent : Option ProcessId) → IsSeat role parent
    → (P : Role → Type 0) (p : ProcessId)
    → parent ≡ Some p → P (Below p) → P role
below_is _ _ top P p e a = absurd (cc)
below_is _ _ (under q) P p e a = subst (λ (x : ProcessId). P (Below x)) (let f : p ≡ q = cc in f) a

pub top_is : (role : Role) (parent : Option ProcessId) → IsSeat role parent → (P : Role → Type 0) → parent
    ≡ None
    → P AtRoot → P role
top_is _ _ top P e a = a
top_is _ _ (under q) P e a = absurd (cc)

module _ (turn : Turn) where
  open turn use {place, parent, seat, n, h, c, t}

  abbrev m : Memory
  m = remembered turn

  abbrev m' : Memory
  m' = then_remembered turn

  abbrev boot : ℕ
  boot = boot_of (kept n)

  -- by the input, at either role
  at_either : (i : Input) (x : Memory) → h.input ≡ i → root_remembers place.me boot c m i ≡ x
      → ((p : ProcessId) → cascaded_remembers place.me boot c m i ≡ x) → m' ≡ x
  at_either i x e f g =
      by_role place.role parent seat (λ r. remembers place.me r boot c m h ≡ x)
      (ap (λ (j : Input). root_remembers place.me boot c m j) e ∙ f)
      (λ p. ap (λ (j : Input). cascaded_remembers place.me boot c m j) e ∙ g p)

  at_below : (p : ProcessId) → parent ≡ Some p → (i : Input) (x : Memory) → h.input ≡ i
      → cascaded_remembers place.me boot c m i ≡ x → m' ≡ x
  at_below p s i x e f =
      below_is place.role parent seat (λ r. remembers place.me r boot c m h ≡ x) p s
      (ap (λ (j : Input). cascaded_remembers place.me boot c m j) e ∙ f)

  at_top : parent ≡ None → (i : Input) (x : Memory) → h.input ≡ i
      → root_remembers place.me boot c m i ≡ x → m' ≡ x
  at_top s i x e f =
      top_is place.role parent seat (λ r. remembers place.me r boot c m h ≡ x) s
      (ap (λ (j : Input). root_remembers place.me boot c m j) e ∙ f)

  -- Inputs that change nothing of the case.

  pub join_act : (d : Case) (q : ProcessId) → h.input ≡ ActInput (JoinAct d q) → m' ≡ m
  join_act d q i = at_either _ m i refl (λ p. refl)

  pub ask_act : (d : Case) → h.input ≡ ActInput (Ask d) → m' ≡ m
  ask_act d i = at_either _ m i refl (λ p. refl)

  pub forget_act : (d : Case) → h.input ≡ ActInput (Forget d) → m' ≡ m
  forget_act d i = at_either _ m i refl (λ p. refl)

  pub inquires : (d : Case) (j : ℕ) → h.input ≡ MessageInput j (Inquire d) → m' ≡ m
  inquires d j i = at_either _ m i refl (λ p. refl)

  pub commit_comes : (d : Case) (j : ℕ) → h.input ≡ MessageInput j (Commit d) → m' ≡ m
  commit_comes d j i = at_either _ m i refl (λ p. refl)

  pub work_comes : (d : Case) (j l : ℕ) (op : Op) → h.input ≡ MessageInput j (Work d l op) → m' ≡ m
  work_comes d j l op i = at_either _ m i refl (λ p. refl)

  -- Inputs of children.

  pub joined_comes : (d : Case) (u : Ticket) (j : ℕ) → h.input ≡ MessageInput j (Joined d u)
      → m' ≡ (if same_case d c then accepts_ticket m u m.phase else m)
  joined_comes d u j i = at_either _ _ i refl (λ p. refl)

  pub work_act : (d : Case) (q : ProcessId) (op : Op) → h.input ≡ ActInput (WorkAct d q op)
      → m' ≡ (if same_case d c then sends_work m (ticket_of_child m.accepted q) m.phase else m)
  work_act d q op i = at_either _ _ i refl (λ p. refl)

  pub vote_comes : (w : Vote) (x : Txn) (u : Ticket) (j : ℕ) → h.input
      ≡ MessageInput j (vote_message w (child_case x u))
      → m' ≡ (if same_txn x c.txn then takes_vote m u w m.phase else m)
  vote_comes VoteYes x u j i = at_either _ _ i refl (λ p. refl)
  vote_comes VoteNo x u j i = at_either _ _ i refl (λ p. refl)
  vote_comes VoteRead x u j i = at_either _ _ i refl (λ p. refl)

  if_itself : (b : Bool) → (if b then m else m) ≡ m
  if_itself true = refl
  if_itself false = refl

  pub unticketed_vote : (w : Vote) (x : Txn) (j : ℕ) → h.input
      ≡ MessageInput j (vote_message w (root_case x)) → m' ≡ m
  unticketed_vote VoteYes x j i = at_either _ m i (if_itself (same_txn x c.txn))
      (λ p. if_itself (same_txn x c.txn))
  unticketed_vote VoteNo x j i = at_either _ m i (if_itself (same_txn x c.txn))
      (λ p. if_itself (same_txn x c.txn))
  unticketed_vote VoteRead x j i = at_either _ m i (if_itself (same_txn x c.txn))
      (λ p. if_itself (same_txn x c.txn))

  pub ack_comes : (o : Outcome) (fs : List Finding) (x : Txn) (u : Ticket) (j : ℕ) → h.input
      ≡ MessageInput j (Ack (child_case x u) o fs)
      → m' ≡ (if same_txn x c.txn then takes_ack m u o fs m.phase else m)
  ack_comes o fs x u j i = at_either _ _ i refl (λ p. refl)

  pub unticketed_ack : (o : Outcome) (fs : List Finding) (x : Txn) (j : ℕ)
      → h.input ≡ MessageInput j (Ack (root_case x) o fs) → m' ≡ m
  unticketed_ack o fs x j i = at_either _ m i (if_itself (same_txn x c.txn))
      (λ p. if_itself (same_txn x c.txn))

  -- Inputs of the root alone.

  pub commit_act : (x : Txn) → parent ≡ None → h.input ≡ ActInput (CommitAct x)
      → m' ≡ (if same_case (root_case x) c then asks_votes m m.phase else m)
  commit_act x s i = at_top s _ _ i refl

  pub abort_act : (x : Txn) → parent ≡ None → h.input ≡ ActInput (AbortAct x)
      → m' ≡ (if same_case (root_case x) c then closes m m.phase else m)
  abort_act x s i = at_top s _ _ i refl

  pub commit_act_elsewhere : (x : Txn) → same_case (root_case x) c ≡ false → h.input
      ≡ ActInput (CommitAct x) → m' ≡ m
  commit_act_elsewhere x e i = at_either _ m i (rw e refl) (λ p. refl)

  pub abort_act_elsewhere : (x : Txn) → same_case (root_case x) c ≡ false → h.input
      ≡ ActInput (AbortAct x) → m' ≡ m
  abort_act_elsewhere x e i = at_either _ m i (rw e refl) (λ p. refl)

  pub begin_act : (p : Presumption) → parent ≡ None → h.input ≡ ActInput (Begin p)
      → m' ≡ begins place.me boot c m p
  begin_act p s i = at_top s _ _ i refl

  pub root_passes : (x : Message) (j : ℕ) → parent ≡ None → h.input ≡ MessageInput j x → hears_child c m x
      ≡ m → m' ≡ m
  root_passes x j s i e = at_top s _ m i e

  -- and of a coordinator below it

  pub prepare_comes : (d : Case) (j l : ℕ) (p : ProcessId) → parent ≡ Some p → h.input
      ≡ MessageInput j (Prepare d l)
      → m' ≡ (if same_case d c then asks_votes (retires m d) m.phase else retires m d)
  prepare_comes d j l p s i = at_below p s _ _ i refl

  pub abort_comes : (d : Case) (j : ℕ) (p : ProcessId) → parent ≡ Some p → h.input ≡ MessageInput j (Abort d)
      → m' ≡ (if same_case d c then closes (retires m d) m.phase else retires m d)
  abort_comes d j p s i = at_below p s _ _ i refl

  pub join_comes : (d : Case) (j : ℕ) (p : ProcessId) → parent ≡ Some p → h.input ≡ MessageInput j (Join d)
      → m' ≡ joins place.me boot c d m (active_ticket m.active d)
  join_comes d j p s i = at_below p s _ _ i refl

  -- Memories that show the same of the pair.

  pub record Alike (x : Memory) : Type 0 where
    pub phase : x.phase ≡ m.phase
    pub accepted : x.accepted ≡ m.accepted
    pub acks : x.acks ≡ m.acks

  abbrev pub Stays : Type 0
  Stays = Says turn m.phase (in_list m.accepted t) (acked_of m c t)

  pub itself : Alike m
  itself = record { phase = refl; accepted = refl; acks = refl }

  pub stays : (x : Memory) → m' ≡ x → Alike x → Stays
  stays x e s = record {
    phase = ap (λ (y : Memory). y.phase) e ∙ s.phase;
    accepted_so = ap (λ (y : Memory). in_list y.accepted t) e ∙ ap (λ ts. in_list ts t) s.accepted;
    acked_so = ap (λ (y : Memory). acked_of y c t) e ∙ rw (s.acks) refl;
  }

  pub in_either : (b : Bool) (x y : Memory) → (b ≡ true → Alike x) → Alike y → Alike (if b then x else y)
  in_either true x y f g = f refl
  in_either false x y f g = g

  pub works_alike : (u : Option Ticket) (ph : Phase) → Alike (sends_work m u ph)
  works_alike (Some u) Open = record { phase = refl; accepted = refl; acks = refl }
  works_alike (Some u) Idle = itself
  works_alike (Some u) Asked = itself
  works_alike (Some u) Over = itself
  works_alike None Open = itself
  works_alike None Idle = itself
  works_alike None Asked = itself
  works_alike None Over = itself
