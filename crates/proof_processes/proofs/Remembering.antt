-- What an input makes of what a coordinator remembers of a case.
use Rattle.std.proofs.Common.{◌≡◌, ◌∙◌, ◌+◌, inl, inr, ℕ, Bool, true, false, Option, Some, None, List, [], ◌∷◌, ◌++◌, refl, sym, ap, subst, if◌then◌else◌}
use Rattle.protocol.specs.declared.names.Case.{Case}
use Rattle.protocol.specs.declared.names.ProcessId.{ProcessId}
use Rattle.protocol.specs.declared.names.Ticket.{Ticket}
use Rattle.protocol.specs.declared.names.Txn.{Txn}
use Rattle.protocol.specs.declared.names.Outcome.{Outcome}
use Rattle.protocol.specs.declared.names.Presumption.{Presumption}
use Rattle.protocol.specs.declared.messages.Message.{Message}
use Rattle.protocol.specs.declared.messages.Message.TheVariants.{Join, Joined, Work, Prepare, Yes, No, Read, Commit, Abort, Ack, Inquire}
use Rattle.protocol.specs.declared.standings.Vote.{Vote}
use Rattle.protocol_words.specs.Variants.{AbortAct, ActInput, CommitAct, JoinAct, MessageInput, VoteNo, VoteRead, VoteYes, WorkAct}
use Rattle.protocol.specs.declared.events.Act.TheVariants.{Begin, Ask, Decide, Forget}
use Rattle.protocol.specs.declared.events.Input.{Input}
use Rattle.protocol.specs.declared.trees.TreeProcess.{TreeProcess}
use Rattle.protocol.specs.Names.{same_case, same_txn, root_case, child_case}
use Rattle.protocol.specs.NameLaws.{same_case_tells}
use Rattle.protocol.specs.Records.{none_of}
use Rattle.protocol.specs.Nodes.{Place, Role, AtRoot, Below}
use Rattle.protocol.specs.Memory.{Memory, Phase, Idle, Open, Asked, Over, root_remembers, cascaded_remembers, cascaded_hears, hears_child, opens_case, next_txn, next_ticket, active_ticket, gives, joins, retires, asks_votes, closes as closes_phase, accepts_ticket, has_child, sends_work, ticket_of_child, takes_vote, is_counted, with_vote, all_voted, phase_after, takes_ack, of_child, of_ticket}
use Rattle.protocol.specs.Views.{vote_message}
use Rattle.proof_processes.proofs.VoteInputs.{is_vote_input, vote_is_one, vote_case}
use Rattle.protocol.specs.declared.messages.Finding.{Finding}

-- A coordinator with this parent.

abbrev pub role_below : Option ProcessId → Role
role_below None = AtRoot
role_below (Some p) = Below p

abbrev pub coordinator_place : ProcessId → Option ProcessId → List TreeProcess → Place
coordinator_place me parent tree = record { me = me; role = role_below parent; tree = tree }

-- what it remembers of the case after an input
abbrev pub remembers_at : Option ProcessId → ProcessId → ℕ → Case → Memory → Input → Memory
remembers_at None me boot c m i = root_remembers me boot c m i
remembers_at (Some p) me boot c m i = cascaded_remembers me boot c m i

-- the case begins: by the begin act at the root, below it by JOIN that gives its ticket
pub data OpensMemory (parent : Option ProcessId) (me : ProcessId) (boot : ℕ) (c : Case) (m : Memory)
    : Input → Type 0 where
  by_begin : (p : Presumption) → parent ≡ None → root_case (next_txn me boot m p) ≡ c
      → OpensMemory parent me boot c m (ActInput (Begin p))
  by_join : (p : ProcessId) (j : ℕ) (d : Case) → parent ≡ Some p → active_ticket m.active d ≡ None
      → child_case d.txn (next_ticket me boot m) ≡ c → OpensMemory parent me boot c m
      (MessageInput j (Join d))

-- the case is to collect its votes
pub data Asks (parent : Option ProcessId) (c : Case) : Input → Type 0 where
  by_commit : (x : Txn) → parent ≡ None → root_case x ≡ c → Asks parent c (ActInput (CommitAct x))
  by_prepare : (p : ProcessId) (j k : ℕ) → parent ≡ Some p → Asks parent c (MessageInput j (Prepare c k))

-- the case is to abort
pub data Ends (parent : Option ProcessId) (c : Case) : Input → Type 0 where
  by_act : (x : Txn) → parent ≡ None → root_case x ≡ c → Ends parent c (ActInput (AbortAct x))
  by_abort : (p : ProcessId) (j : ℕ) → parent ≡ Some p → Ends parent c (MessageInput j (Abort c))

-- the input is a vote that counts
pub record CountedVote (c : Case) (m : Memory) (i : Input) (t : Ticket) (w : Vote) : Type 0 where
  pub number : ℕ
  pub txn : Txn
  pub hears : i ≡ MessageInput number (vote_message w (child_case txn t))
  pub same : same_txn txn c.txn ≡ true
  pub asked : m.phase ≡ Asked
  pub counts : is_counted m.accepted m.votes t ≡ true

-- the two are of as many tickets and votes
pub record SameLists (m k : Memory) : Type 0 where
  pub accepted : k.accepted ≡ m.accepted
  pub votes : k.votes ≡ m.votes

-- What an input makes of a memory: it stays as far as it goes with records; or votes are asked for, or it
-- ends; or one ticket is taken, or one vote counted; or the case begins.
pub data MovesMemory (parent : Option ProcessId) (me : ProcessId) (boot : ℕ) (c : Case)
    (m : Memory) (i : Input)
    (k : Memory) : Type 0 where
  keeps : ((t : Ticket) (w : Vote) → CountedVote c m i t w → ⊥) → k.phase ≡ m.phase → SameLists m k
      → MovesMemory parent me boot c m i k
  asks : Asks parent c i → m.phase ≡ Open → k.phase ≡ (if none_of m.accepted then Over else Asked)
      → SameLists m k → MovesMemory parent me boot c m i k
  closes : Ends parent c i → (m.phase ≡ Idle → ⊥) → k.phase ≡ Over → SameLists m k
      → MovesMemory parent me boot c m i k
  takes : (j : ℕ) (u : Ticket) → i ≡ MessageInput j (Joined c u) → m.phase ≡ Open
      → has_child m.accepted u.child ≡ false
      → k.phase ≡ Open → k.accepted ≡ m.accepted ++ u ∷ [] → k.votes ≡ m.votes
      → MovesMemory parent me boot c m i k
  counts : (t : Ticket) (w : Vote) → CountedVote c m i t w
      → k.phase ≡ phase_after w (all_voted m.accepted (m.votes ++ (t, w) ∷ []))
      → k.accepted ≡ m.accepted → k.votes ≡ m.votes ++ (t, w) ∷ [] → MovesMemory parent me boot c m i k
  opens : OpensMemory parent me boot c m i → k.phase ≡ Open → k.accepted ≡ [] → k.votes ≡ []
      → MovesMemory parent me boot c m i k

pub none_counts : (c : Case) (m : Memory) (i : Input) → is_vote_input i ≡ false → (t : Ticket) (w : Vote)
    → CountedVote c m i t w → ⊥
none_counts c m i e t w x = not_so (ap is_vote_input x.hears ∙ vote_is_one x.number w (child_case x.txn t)) e
  where
    not_so : is_vote_input i ≡ true → is_vote_input i ≡ false → ⊥
    not_so g h = absurd (cc)

-- The parts of a memory.

module _ (parent : Option ProcessId) (me : ProcessId) (boot : ℕ) (c : Case) (m : Memory) where
  abbrev M : Input → Memory → Type 0
  M i k = MovesMemory parent me boot c m i k

  same_lists : SameLists m m
  same_lists = record { accepted = refl; votes = refl }

  -- the memory itself, or one that differs in nothing that counts here
  stays : (i : Input) → is_vote_input i ≡ false → (k : Memory) → k.phase ≡ m.phase → SameLists m k → M i k
  stays i e k f s = keeps (none_counts c m i e) f s

  itself : (i : Input) → is_vote_input i ≡ false → M i m
  itself i e = stays i e m refl same_lists

  if_of : (i : Input) → is_vote_input i ≡ false → (b : Bool) (k : Memory) → M i k → M i (if b then k else m)
  if_of i e true k t = t
  if_of i e false k t = itself i e

  -- acknowledgements and works

  acked : (i : Input) → is_vote_input i ≡ false → (t : Ticket) (o : Outcome) (fs : List Finding) (ph : Phase)
      → M i (takes_ack m t o fs ph)
  acked i e t o fs Open = itself i e
  acked i e t o fs Asked = itself i e
  acked i e t o fs Idle = stays i e _ refl (record { accepted = refl; votes = refl })
  acked i e t o fs Over = stays i e _ refl (record { accepted = refl; votes = refl })

  worked : (i : Input) → is_vote_input i ≡ false → (t : Option Ticket) (ph : Phase) → M i (sends_work m t ph)
  worked i e (Some t) Open = stays i e _ refl (record { accepted = refl; votes = refl })
  worked i e (Some t) Idle = itself i e
  worked i e (Some t) Asked = itself i e
  worked i e (Some t) Over = itself i e
  worked i e None Open = itself i e
  worked i e None Idle = itself i e
  worked i e None Asked = itself i e
  worked i e None Over = itself i e

  of_children : (i : Input) → is_vote_input i ≡ false → (d : Case) (f : Ticket → Memory)
      → ((t : Ticket) → M i (f t)) → M i (of_child c d m f)
  of_children i e d f g = if_of i e (same_txn d.txn c.txn) _ (by_ticket d.ticket)
    where
      by_ticket : (t : Option Ticket) → M i (of_ticket t m f)
      by_ticket None = itself i e
      by_ticket (Some t) = g t

  -- JOINED

  joined_as : (k : ℕ) (u : Ticket) (b : Bool) → m.phase ≡ Open → has_child m.accepted u.child ≡ b
      → M (MessageInput k (Joined c u)) (if b then m else record m { accepted = m.accepted ++ u ∷ [] })
  joined_as k u true o e = itself _ refl
  joined_as k u false o e = takes k u refl o e o refl refl

  joined_own : (k : ℕ) (u : Ticket) (ph : Phase) → m.phase ≡ ph
      → M (MessageInput k (Joined c u)) (accepts_ticket m u ph)
  joined_own k u Open o = joined_as k u (has_child m.accepted u.child) o refl
  joined_own k u Idle o = itself _ refl
  joined_own k u Asked o = itself _ refl
  joined_own k u Over o = itself _ refl

  joined : (k : ℕ) (d : Case) (u : Ticket)
      → M (MessageInput k (Joined d u)) (if same_case d c then accepts_ticket m u m.phase else m)
  joined k d u = elim (same_case_tells d c) [
    | inl t ↦ rw t.0 (subst (λ (x : Case). M (MessageInput k (Joined x u)) (accepts_ticket m u m.phase))
        (sym t.1) (joined_own k u m.phase refl))
    | inr f ↦ rw f.0 (itself _ refl)
  ]

  -- a vote

  module _ (k : ℕ) (d : Case) (w : Vote) where
    abbrev W : Memory → Type 0
    W r = MovesMemory parent me boot c m (MessageInput k (vote_message w d)) r

    -- a vote that counts is of the message's case
    is_of_case : (t : Ticket) (v : Vote) → (x : CountedVote c m (MessageInput k (vote_message w d)) t v)
        → d ≡ child_case x.txn t
    is_of_case t v x = vote_case k x.number w v d (child_case x.txn t) x.hears

    uncounted : ((u : Ticket) (v : Vote) → CountedVote c m (MessageInput k (vote_message w d)) u v → ⊥) → W m
    uncounted f = keeps f refl same_lists

    by_count : (t : Ticket) → d.ticket ≡ Some t → same_txn d.txn c.txn ≡ true → m.phase ≡ Asked → (b : Bool)
        → is_counted m.accepted m.votes t ≡ b
        → W (if b then with_vote m t w else m)
    by_count t e s a true f = counts t w
        (record {
          number = k;
          txn = d.txn;
          hears = ap (λ (o : Option Ticket). MessageInput k
              (vote_message w (record { txn = d.txn; ticket = o }))) e;
          same = s;
          asked = a;
          counts = f;
        }) refl refl refl
    by_count t e s a false f = uncounted (λ u v x. not_so u v x)
      where
        not_so : (u : Ticket) (v : Vote) → CountedVote c m (MessageInput k (vote_message w d)) u v → ⊥
        not_so u v x =
            let g : Some t ≡ Some u = sym e ∙ ap (λ (y : Case). y.ticket) (is_of_case u v x) in
            let h : t ≡ u = cc in
            both_ways (subst (λ (y : Ticket). is_counted m.accepted m.votes y ≡ true) (sym h) x.counts) f
          where
            both_ways : is_counted m.accepted m.votes t ≡ true → is_counted m.accepted m.votes t ≡ false → ⊥
            both_ways p q = cc

    not_asked : (ph : Phase) → m.phase ≡ ph → (ph ≡ Asked → ⊥) → W m
    not_asked ph e f = uncounted (λ u v x. f (sym e ∙ x.asked))

    by_phase : (t : Ticket) → d.ticket ≡ Some t → same_txn d.txn c.txn ≡ true → (ph : Phase) → m.phase ≡ ph
        → W (takes_vote m t w ph)
    by_phase t e s Asked a = by_count t e s a (is_counted m.accepted m.votes t) refl
    by_phase t e s Open a = not_asked Open a (λ g. cc)
    by_phase t e s Idle a = not_asked Idle a (λ g. cc)
    by_phase t e s Over a = not_asked Over a (λ g. cc)

    by_ticket : (o : Option Ticket) → d.ticket ≡ o → same_txn d.txn c.txn ≡ true
        → W (of_ticket o m (λ t. takes_vote m t w m.phase))
    by_ticket None e s = uncounted (λ u v x. not_so u
        (sym e ∙ ap (λ (y : Case). y.ticket) (is_of_case u v x)))
      where
        not_so : (u : Ticket) → None ≡ Some u → ⊥
        not_so u f = cc
    by_ticket (Some t) e s = by_phase t e s m.phase refl

    by_txn : (b : Bool) → same_txn d.txn c.txn ≡ b
        → W (if b then of_ticket d.ticket m (λ t. takes_vote m t w m.phase) else m)
    by_txn true e = by_ticket d.ticket refl e
    by_txn false e = uncounted
        (λ u v x. not_so
        (subst (λ (y : Txn). same_txn y c.txn ≡ true)
        (sym (ap (λ (y : Case). y.txn) (is_of_case u v x))) x.same) e)
      where
        not_so : same_txn d.txn c.txn ≡ true → same_txn d.txn c.txn ≡ false → ⊥
        not_so f g = cc

    voted : W (of_child c d m (λ t. takes_vote m t w m.phase))
    voted = by_txn (same_txn d.txn c.txn) refl

  -- what children say
  child_moves : (k : ℕ) (x : Message) → M (MessageInput k x) (hears_child c m x)
  child_moves k (Joined d u) = joined k d u
  child_moves k (Yes d) = voted k d VoteYes
  child_moves k (No d) = voted k d VoteNo
  child_moves k (Read d) = voted k d VoteRead
  child_moves k (Ack d o fs) = of_children _ refl d _ (λ t. acked _ refl t o fs m.phase)
  child_moves k (Join d) = itself _ refl
  child_moves k (Work d l op) = itself _ refl
  child_moves k (Prepare d l) = itself _ refl
  child_moves k (Commit d) = itself _ refl
  child_moves k (Abort d) = itself _ refl
  child_moves k (Inquire d) = itself _ refl

  -- votes are asked for, or the case is to abort; its ticket is active no longer

  asked : (i : Input) → is_vote_input i ≡ false → Asks parent c i → (k : Memory) → k.phase ≡ m.phase
      → SameLists m k → (ph : Phase) → m.phase ≡ ph → M i (asks_votes k ph)
  asked i e a k p s Open o = asks a o (ap (λ ts. if none_of ts then Over else Asked) s.accepted)
      (record { accepted = s.accepted; votes = s.votes })
  asked i e a k p s Idle o = stays i e k p s
  asked i e a k p s Asked o = stays i e k p s
  asked i e a k p s Over o = stays i e k p s

  closed : (i : Input) → is_vote_input i ≡ false → Ends parent c i → (k : Memory) → k.phase ≡ m.phase
      → SameLists m k → (ph : Phase) → m.phase ≡ ph → M i (closes_phase k ph)
  closed i e a k p s Idle o = stays i e k p s
  closed i e a k p s Open o = closes a (λ f. absurd (let g = sym o ∙ f in cc)) refl
      (record { accepted = s.accepted; votes = s.votes })
  closed i e a k p s Asked o = closes a (λ f. absurd (let g = sym o ∙ f in cc)) refl
      (record { accepted = s.accepted; votes = s.votes })
  closed i e a k p s Over o = closes a (λ f. absurd (let g = sym o ∙ f in cc)) refl
      (record { accepted = s.accepted; votes = s.votes })

  -- The root.

  begun : (p : Presumption) → parent ≡ None → (b : Bool) → same_case (root_case (next_txn me boot m p)) c ≡ b
      → M (ActInput (Begin p))
      (if b then opens_case (record m { begun = m.begun + 1 }) else record m { begun = m.begun + 1 })
  begun p top false e = stays _ refl _ refl (record { accepted = refl; votes = refl })
  begun p top true e = elim (same_case_tells (root_case (next_txn me boot m p)) c) [
    | inl t ↦ opens (by_begin p top t.1) refl refl refl
    | inr f ↦ absurd (let g = f.0 in cc)
  ]

  committed : (x : Txn) → parent ≡ None
      → M (ActInput (CommitAct x)) (if same_case (root_case x) c then asks_votes m m.phase else m)
  committed x top = elim (same_case_tells (root_case x) c) [
    | inl t ↦ rw t.0 (asked _ refl (by_commit x top t.1) m refl same_lists m.phase refl)
    | inr f ↦ rw f.0 (itself _ refl)
  ]

  aborted : (x : Txn) → parent ≡ None
      → M (ActInput (AbortAct x)) (if same_case (root_case x) c then closes_phase m m.phase else m)
  aborted x top = elim (same_case_tells (root_case x) c) [
    | inl t ↦ rw t.0 (closed _ refl (by_act x top t.1) m refl same_lists m.phase refl)
    | inr f ↦ rw f.0 (itself _ refl)
  ]

  root_moves : parent ≡ None → (i : Input) → M i (root_remembers me boot c m i)
  root_moves top (MessageInput k x) = child_moves k x
  root_moves top (ActInput (Begin p)) = begun p top (same_case (root_case (next_txn me boot m p)) c) refl
  root_moves top (ActInput (WorkAct d q op)) =
      if_of _ refl (same_case d c) _ (worked _ refl (ticket_of_child m.accepted q) m.phase)
  root_moves top (ActInput (CommitAct x)) = committed x top
  root_moves top (ActInput (AbortAct x)) = aborted x top
  root_moves top (ActInput (JoinAct d q)) = itself _ refl
  root_moves top (ActInput (Ask d)) = itself _ refl
  root_moves top (ActInput (Decide d u)) = itself _ refl
  root_moves top (ActInput (Forget d)) = itself _ refl

  -- Below the root.

  given : (p : ProcessId) → parent ≡ Some p → (j : ℕ) (d : Case) → active_ticket m.active d ≡ None
      → (b : Bool)
      → same_case c (child_case d.txn (next_ticket me boot m)) ≡ b
      → M (MessageInput j (Join d))
      (if b then opens_case (gives m d (next_ticket me boot m)) else gives m d (next_ticket me boot m))
  given p below j d none false e = stays _ refl _ refl (record { accepted = refl; votes = refl })
  given p below j d none true e = elim (same_case_tells c (child_case d.txn (next_ticket me boot m))) [
    | inl t ↦ opens (by_join p j d below none (sym t.1)) refl refl refl
    | inr f ↦ absurd (let g = f.0 in cc)
  ]

  joins_moves : (p : ProcessId) → parent ≡ Some p → (j : ℕ) (d : Case) (o : Option Ticket)
      → active_ticket m.active d ≡ o → M (MessageInput j (Join d)) (joins me boot c d m o)
  joins_moves p below j d (Some t) e = itself _ refl
  joins_moves p below j d None e =
      given p below j d e (same_case c (child_case d.txn (next_ticket me boot m))) refl

  retired : (d : Case) → SameLists m (retires m d)
  retired d = record { accepted = refl; votes = refl }

  prepared : (p : ProcessId) → parent ≡ Some p → (j k : ℕ) (d : Case)
      → M (MessageInput j (Prepare d k)) (if same_case d c then asks_votes
      (retires m d) m.phase else retires m d)
  prepared p below j k d = elim (same_case_tells d c) [
    | inl t ↦ rw t.0 (asked _ refl
        (subst (λ (x : Case). Asks parent x (MessageInput j (Prepare d k))) t.1 (by_prepare p j k below))
        (retires m d)
        refl (retired d) m.phase refl)
    | inr f ↦ rw f.0 (stays _ refl (retires m d) refl (retired d))
  ]

  dropped : (p : ProcessId) → parent ≡ Some p → (j : ℕ) (d : Case)
      → M (MessageInput j (Abort d)) (if same_case d c then closes_phase (retires m d) m.phase
      else retires m d)
  dropped p below j d = elim (same_case_tells d c) [
    | inl t ↦ rw t.0 (closed _ refl
        (subst (λ (x : Case). Ends parent x (MessageInput j (Abort d))) t.1 (by_abort p j below))
        (retires m d)
        refl (retired d) m.phase refl)
    | inr f ↦ rw f.0 (stays _ refl (retires m d) refl (retired d))
  ]

  hears_moves : (p : ProcessId) → parent ≡ Some p → (j : ℕ) (x : Message)
      → M (MessageInput j x) (cascaded_hears me boot c m x)
  hears_moves p below j (Join d) = joins_moves p below j d (active_ticket m.active d) refl
  hears_moves p below j (Prepare d k) = prepared p below j k d
  hears_moves p below j (Abort d) = dropped p below j d
  hears_moves p below j (Joined d t) = child_moves j (Joined d t)
  hears_moves p below j (Yes d) = child_moves j (Yes d)
  hears_moves p below j (No d) = child_moves j (No d)
  hears_moves p below j (Read d) = child_moves j (Read d)
  hears_moves p below j (Ack d o fs) = child_moves j (Ack d o fs)
  hears_moves p below j (Work d k op) = itself _ refl
  hears_moves p below j (Commit d) = itself _ refl
  hears_moves p below j (Inquire d) = itself _ refl

  cascaded_moves : (p : ProcessId) → parent ≡ Some p → (i : Input) → M i (cascaded_remembers me boot c m i)
  cascaded_moves p below (MessageInput j x) = hears_moves p below j x
  cascaded_moves p below (ActInput (WorkAct d q op)) =
      if_of _ refl (same_case d c) _ (worked _ refl (ticket_of_child m.accepted q) m.phase)
  cascaded_moves p below (ActInput (Begin x)) = itself _ refl
  cascaded_moves p below (ActInput (CommitAct x)) = itself _ refl
  cascaded_moves p below (ActInput (AbortAct x)) = itself _ refl
  cascaded_moves p below (ActInput (JoinAct d q)) = itself _ refl
  cascaded_moves p below (ActInput (Ask d)) = itself _ refl
  cascaded_moves p below (ActInput (Decide d u)) = itself _ refl
  cascaded_moves p below (ActInput (Forget d)) = itself _ refl

-- Each input makes one of these moves.
pub moves : (parent : Option ProcessId) (me : ProcessId) (boot : ℕ) (c : Case) (m : Memory) (i : Input)
    → MovesMemory parent me boot c m i (remembers_at parent me boot c m i)
moves None me boot c m i = root_moves None me boot c m refl i
moves (Some p) me boot c m i = cascaded_moves (Some p) me boot c m p refl i
