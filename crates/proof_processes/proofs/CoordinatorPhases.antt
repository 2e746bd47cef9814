-- What an input makes of the phase of a coordinator's case, by the row's own case.
use Rattle.std.proofs.Common.{◌≡◌, ◌∙◌, ℕ, Bool, true, false, Option, Some, None, List, [], ◌∷◌, ◌++◌, refl, sym, ap, subst, if◌then◌else◌}
use Rattle.protocol.specs.declared.names.Case.{Case}
use Rattle.protocol.specs.declared.names.ProcessId.{ProcessId}
use Rattle.protocol.specs.declared.names.Ticket.{Ticket}
use Rattle.protocol.specs.declared.names.Txn.{Txn}
use Rattle.protocol.specs.declared.names.Outcome.{Outcome}
use Rattle.protocol.specs.declared.messages.Message.TheVariants.{Joined, Prepare, Commit, Abort, Ack, Inquire}
use Rattle.protocol.specs.declared.messages.Op.{Op}
use Rattle.protocol.specs.declared.standings.Standing.{Standing}
use Rattle.protocol.specs.declared.standings.Standing.TheVariants.{Active, Collecting, Prepared}
use Rattle.protocol.specs.declared.standings.Vote.{Vote}
use Rattle.protocol_words.specs.Variants.{ActInput, JoinAct, MessageInput, VoteNo, VoteRead, VoteYes, WorkAct}
use Rattle.protocol.specs.declared.events.Act.TheVariants.{Ask, Forget}
use Rattle.protocol.specs.declared.events.Input.{Input}
use Rattle.protocol.specs.declared.trees.TreeProcess.{TreeProcess}
use Rattle.protocol.specs.Names.{same_txn, same_case, root_case, child_case}
use Rattle.protocol.specs.NameLaws.{same_case-refl, same_txn-refl}
use Rattle.protocol.specs.Records.{none_of, boot_of, promised_by}
use Rattle.protocol.specs.Nodes.{Place, Node, Heard, kept}
use Rattle.protocol.specs.Memory.{Memory, Phase, Idle, Open, Asked, Over, memory_of, asks_votes, closes, retires, accepts_ticket, has_child, sends_work, ticket_of_child, takes_vote, takes_ack, is_counted, all_voted, phase_after}
use Rattle.protocol.specs.Standings.{CoordinatorView, coordinator_view, view_at}
use Rattle.protocol.specs.CoordinatorRows.{Reason}
use Rattle.protocol.specs.Views.{vote_message}
use Rattle.proof_pairs.specs.turns.CoordinatorTurns.{IsToCommit, commit_act, prepare_comes, IsToAbort, abort_act, abort_comes, CountsVote}
use Rattle.proof_processes.proofs.Cases.{viewed}
use Rattle.proof_processes.proofs.OwnCases.{child_txn}
use Rattle.proof_processes.proofs.Phases.{standing_at}
use Rattle.proof_processes.proofs.Remembering.{coordinator_place, remembers_at}
use Rattle.protocol.specs.declared.messages.Finding.{Finding}

-- Phases that stay.

if_phase : (b : Bool) (m k : Memory) → k.phase ≡ m.phase → (if b then k else m).phase ≡ m.phase
if_phase true m k e = e
if_phase false m k e = refl

accepts_phase : (m : Memory) (t : Ticket) (ph : Phase) → (accepts_ticket m t ph).phase ≡ m.phase
accepts_phase m t Open = stays (has_child m.accepted t.child)
  where
    stays : (b : Bool) → (if b then m else record m { accepted = m.accepted ++ t ∷ [] }).phase ≡ m.phase
    stays true = refl
    stays false = refl
accepts_phase m t Idle = refl
accepts_phase m t Asked = refl
accepts_phase m t Over = refl

works_phase : (m : Memory) (t : Option Ticket) (ph : Phase) → (sends_work m t ph).phase ≡ m.phase
works_phase m (Some t) Open = refl
works_phase m (Some t) Idle = refl
works_phase m (Some t) Asked = refl
works_phase m (Some t) Over = refl
works_phase m None Open = refl
works_phase m None Idle = refl
works_phase m None Asked = refl
works_phase m None Over = refl

acks_phase : (m : Memory) (t : Ticket) (o : Outcome) (fs : List Finding) (ph : Phase)
    → (takes_ack m t o fs ph).phase ≡ m.phase
acks_phase m t o fs Open = refl
acks_phase m t o fs Idle = refl
acks_phase m t o fs Asked = refl
acks_phase m t o fs Over = refl

uncounted_phase : (m : Memory) (t : Ticket) (w : Vote) (ph : Phase)
    → (ph ≡ Asked → is_counted m.accepted m.votes t ≡ false) → (takes_vote m t w ph).phase ≡ m.phase
uncounted_phase m t w Asked f = rw (f refl) refl
uncounted_phase m t w Open f = refl
uncounted_phase m t w Idle f = refl
uncounted_phase m t w Over f = refl

closes_over : (m : Memory) (ph : Phase) → (ph ≡ Idle → ⊥) → (closes m ph).phase ≡ Over
closes_over m Idle f = absurd (f refl)
closes_over m Open f = refl
closes_over m Asked f = refl
closes_over m Over f = refl

-- an abort finds nothing to end
closes_left : (m : Memory) (ph : Phase) → m.phase ≡ ph → (ph ≡ Open → ⊥) → (ph ≡ Asked → ⊥)
    → (closes m ph).phase ≡ m.phase
closes_left m Idle e f g = refl
closes_left m Open e f g = absurd (f refl)
closes_left m Asked e f g = absurd (g refl)
closes_left m Over e f g = sym e

asks_next : (m : Memory) (ph : Phase) → ph ≡ Open
    → (asks_votes m ph).phase ≡ (if none_of m.accepted then Over else Asked)
asks_next m Open e = refl
asks_next m Idle e = absurd (cc)
asks_next m Asked e = absurd (cc)
asks_next m Over e = absurd (cc)

asks_left : (m : Memory) (ph : Phase) → (ph ≡ Open → ⊥) → (asks_votes m ph).phase ≡ m.phase
asks_left m Open e = absurd (e refl)
asks_left m Idle e = refl
asks_left m Asked e = refl
asks_left m Over e = refl

counts_next : (m : Memory) (t : Ticket) (w : Vote) (ph : Phase) → ph ≡ Asked
    → is_counted m.accepted m.votes t ≡ true
    → (takes_vote m t w ph).phase ≡ phase_after w (all_voted m.accepted (m.votes ++ (t, w) ∷ []))
counts_next m t w Asked e f = rw f refl
counts_next m t w Open e f = absurd (cc)
counts_next m t w Idle e f = absurd (cc)
counts_next m t w Over e f = absurd (cc)

-- What is remembered after each input, at the root and below it.

module _ (me : ProcessId) (boot : ℕ) (c : Case) (m : Memory) where
  abbrev After : Option ProcessId → Input → Memory
  After parent i = remembers_at parent me boot c m i

  at_join : (parent : Option ProcessId) (d : Case) (q : ProcessId) → After parent (ActInput (JoinAct d q)) ≡ m
  at_join None d q = refl
  at_join (Some p) d q = refl

  at_ask : (parent : Option ProcessId) (d : Case) → After parent (ActInput (Ask d)) ≡ m
  at_ask None d = refl
  at_ask (Some p) d = refl

  at_forget : (parent : Option ProcessId) (d : Case) → After parent (ActInput (Forget d)) ≡ m
  at_forget None d = refl
  at_forget (Some p) d = refl

  at_inquiry : (parent : Option ProcessId) (k : ℕ) (d : Case) → After parent (MessageInput k (Inquire d)) ≡ m
  at_inquiry None k d = refl
  at_inquiry (Some p) k d = refl

  at_commit : (parent : Option ProcessId) (k : ℕ) (d : Case) → After parent (MessageInput k (Commit d)) ≡ m
  at_commit None k d = refl
  at_commit (Some p) k d = refl

  at_work : (parent : Option ProcessId) (d : Case) (q : ProcessId) (op : Op)
      → After parent (ActInput (WorkAct d q op))
      ≡ (if same_case d c then sends_work m (ticket_of_child m.accepted q) m.phase else m)
  at_work None d q op = refl
  at_work (Some p) d q op = refl

  at_joined : (parent : Option ProcessId) (k : ℕ) (d : Case) (t : Ticket)
      → After parent (MessageInput k (Joined d t)) ≡ (if same_case d c then accepts_ticket m t m.phase else m)
  at_joined None k d t = refl
  at_joined (Some p) k d t = refl

  at_ack : (parent : Option ProcessId) (k : ℕ) (y : Txn) (t : Ticket) (o : Outcome) (fs : List Finding)
      → After parent (MessageInput k (Ack (child_case y t) o fs))
      ≡ (if same_txn y c.txn then takes_ack m t o fs m.phase else m)
  at_ack None k y t o fs = refl
  at_ack (Some p) k y t o fs = refl

  at_vote : (parent : Option ProcessId) (k : ℕ) (y : Txn) (t : Ticket) (w : Vote)
      → After parent (MessageInput k (vote_message w (child_case y t)))
      ≡ (if same_txn y c.txn then takes_vote m t w m.phase else m)
  at_vote None k y t VoteYes = refl
  at_vote None k y t VoteNo = refl
  at_vote None k y t VoteRead = refl
  at_vote (Some p) k y t VoteYes = refl
  at_vote (Some p) k y t VoteNo = refl
  at_vote (Some p) k y t VoteRead = refl

module _ (me : ProcessId) (parent : Option ProcessId) (tree : List TreeProcess) (n : Node) (h : Heard)
    (c : Case) where
  abbrev place : Place
  place = coordinator_place me parent tree

  abbrev m : Memory
  m = memory_of (coordinator_place me parent tree) n c

  -- what is remembered of the case after the input
  abbrev pub then_remembers : Memory
  then_remembers =
      remembers_at parent me (boot_of (kept n)) c (memory_of (coordinator_place me parent tree) n c) h.input

  abbrev now : Phase
  now = (remembers_at parent me (boot_of (kept n)) c
      (memory_of (coordinator_place me parent tree) n c) h.input).phase

  -- the phase that an input leaves
  by_input : (i : Input) (k : Memory) → h.input ≡ i → remembers_at parent me (boot_of (kept n)) c m i ≡ k
      → now ≡ k.phase
  by_input i k e f = ap (λ (x : Input). (remembers_at parent me (boot_of (kept n)) c m x).phase) e
      ∙ ap (λ (x : Memory). x.phase) f

  -- the view of a case that stands so
  seen : (s : Standing) → standing_at (kept n) c m.phase ≡ s → coordinator_view place n c
      ≡ view_at s (kept n) c m
  unfolding coordinator_view
  seen s e = ap (λ q. view_at q (kept n) c m) e

  pub stands : (s : Standing) → (coordinator_view (coordinator_place me parent tree) n c).standing ≡ s
      → standing_at (kept n) c (memory_of (coordinator_place me parent tree) n c).phase ≡ s
  stands s e = sym (viewed place n c) ∙ e

  pub active_accepted : (coordinator_view (coordinator_place me parent tree) n c).standing ≡ Active
      → (coordinator_view (coordinator_place me parent tree) n c).accepted
      ≡ (memory_of (coordinator_place me parent tree) n c).accepted
  active_accepted e = ap (λ (v : CoordinatorView). v.accepted) (seen Active (stands Active e))

  pub collecting_accepted : (coordinator_view (coordinator_place me parent tree) n c).standing ≡ Collecting
      → (coordinator_view (coordinator_place me parent tree) n c).accepted
      ≡ (memory_of (coordinator_place me parent tree) n c).accepted
  collecting_accepted e = ap (λ (v : CoordinatorView). v.accepted) (seen Collecting (stands Collecting e))

  pub collecting_votes : (coordinator_view (coordinator_place me parent tree) n c).standing ≡ Collecting
      → (coordinator_view (coordinator_place me parent tree) n c).votes
      ≡ (memory_of (coordinator_place me parent tree) n c).votes
  collecting_votes e = ap (λ (v : CoordinatorView). v.votes) (seen Collecting (stands Collecting e))

  pub prepared_promised : (coordinator_view (coordinator_place me parent tree) n c).standing ≡ Prepared
      → (coordinator_view (coordinator_place me parent tree) n c).promised ≡ promised_by c (kept n)
  prepared_promised e = ap (λ (v : CoordinatorView). v.promised) (seen Prepared (stands Prepared e))

  -- Votes are asked for, or the case is to abort. Below the root no act does either.

  pub commit_phase : ((x : Txn) → c ≡ root_case x → parent ≡ None) → IsToCommit parent h c → m.phase ≡ Open
      → now ≡ (if none_of m.accepted then Over else Asked)
  commit_phase top (prepare_comes p k e i) o = by_parent parent e
    where
      by_parent : (r : Option ProcessId) → r ≡ Some p
          → (remembers_at r me (boot_of (kept n)) c m h.input).phase
          ≡ (if none_of m.accepted then Over else Asked)
      by_parent None f = absurd (cc)
      by_parent (Some q) f =
          ap (λ (x : Input). (remembers_at (Some q) me (boot_of (kept n)) c m x).phase) i.1
          ∙ rw (same_case-refl c) (asks_next (retires m c) m.phase o)
  commit_phase top (commit_act x e i) o = by_parent parent (top x e)
    where
      by_parent : (r : Option ProcessId) → r ≡ None
          → (remembers_at r me (boot_of (kept n)) c m h.input).phase
          ≡ (if none_of m.accepted then Over else Asked)
      by_parent (Some q) f = absurd (cc)
      by_parent None f =
          ap (λ (y : Input). (remembers_at None me (boot_of (kept n)) c m y).phase) i
          ∙ rw (subst (λ (d : Case). same_case d c ≡ true) e (same_case-refl c)) (asks_next m m.phase o)

  pub abort_phase : ((x : Txn) → c ≡ root_case x → parent ≡ None) → (why : Reason) → IsToAbort parent h c why
      → (m.phase ≡ Idle → ⊥) → now ≡ Over
  abort_phase top _ (abort_comes p e i) f = by_parent parent e
    where
      by_parent : (r : Option ProcessId) → r ≡ Some p
          → (remembers_at r me (boot_of (kept n)) c m h.input).phase ≡ Over
      by_parent None g = absurd (cc)
      by_parent (Some q) g =
          ap (λ (x : Input). (remembers_at (Some q) me (boot_of (kept n)) c m x).phase) i.1
          ∙ rw (same_case-refl c) (closes_over (retires m c) m.phase f)
  abort_phase top _ (abort_act x e i) f = by_parent parent (top x e)
    where
      by_parent : (r : Option ProcessId) → r ≡ None
          → (remembers_at r me (boot_of (kept n)) c m h.input).phase ≡ Over
      by_parent (Some q) g = absurd (cc)
      by_parent None g =
          ap (λ (y : Input). (remembers_at None me (boot_of (kept n)) c m y).phase) i
          ∙ rw (subst (λ (d : Case). same_case d c ≡ true) e (same_case-refl c)) (closes_over m m.phase f)

  -- PREPARE and ABORT of the parent that find nothing to do

  pub prepare_left : (p : ProcessId) → parent ≡ Some p → (j k : ℕ) → h.input ≡ MessageInput j (Prepare c k)
      → (m.phase ≡ Open → ⊥) → now ≡ m.phase
  prepare_left p e j k i f = by_parent parent e
    where
      by_parent : (r : Option ProcessId) → r ≡ Some p
          → (remembers_at r me (boot_of (kept n)) c m h.input).phase ≡ m.phase
      by_parent None g = absurd (cc)
      by_parent (Some q) g =
          ap (λ (x : Input). (remembers_at (Some q) me (boot_of (kept n)) c m x).phase) i
          ∙ rw (same_case-refl c) (asks_left (retires m c) m.phase f)

  pub abort_left : (p : ProcessId) → parent ≡ Some p → (j : ℕ) → h.input ≡ MessageInput j (Abort c)
      → (m.phase ≡ Open → ⊥) → (m.phase ≡ Asked → ⊥) → now ≡ m.phase
  abort_left p e j i f k = by_parent parent e
    where
      by_parent : (r : Option ProcessId) → r ≡ Some p
          → (remembers_at r me (boot_of (kept n)) c m h.input).phase ≡ m.phase
      by_parent None g = absurd (cc)
      by_parent (Some q) g =
          ap (λ (x : Input). (remembers_at (Some q) me (boot_of (kept n)) c m x).phase) i
          ∙ rw (same_case-refl c) (closes_left (retires m c) m.phase refl f k)

  pub commit_left : (j : ℕ) → h.input ≡ MessageInput j (Commit c) → now ≡ m.phase
  commit_left j i = by_input _ m i (at_commit me (boot_of (kept n)) c m parent j c)

  -- What children say.

  pub uncounted : (t : Ticket) (w : Vote) (y : Txn) (k : ℕ)
      → h.input ≡ MessageInput k (vote_message w (child_case y t))
      → (m.phase ≡ Asked → is_counted m.accepted m.votes t ≡ false) → now ≡ m.phase
  uncounted t w y k i f =
      by_input _ _ i (at_vote me (boot_of (kept n)) c m parent k y t w)
      ∙ if_phase (same_txn y c.txn) m (takes_vote m t w m.phase) (uncounted_phase m t w m.phase f)

  pub vote_phase : (t : Ticket) (w : Vote) → CountsVote (coordinator_place me parent tree) n h c t w
      → m.phase ≡ Asked
      → now ≡ phase_after w (all_voted m.accepted (m.votes ++ (t, w) ∷ []))
  vote_phase t w i o =
      let y = i.hears.txn in
      let same : same_txn y c.txn ≡ true =
      subst (λ (x : Txn). same_txn y x ≡ true) (sym (child_txn me parent tree n y t c i.hears.belongs))
      (same_txn-refl y) in
      let counted : is_counted m.accepted m.votes t ≡ true =
      ap (λ ts. is_counted ts m.votes t) (sym (collecting_accepted i.stands))
      ∙ (ap (λ vs. is_counted (coordinator_view place n c).accepted vs t) (sym (collecting_votes i.stands))
      ∙ i.counts) in
      by_input _ _ i.hears.hears.1 (at_vote me (boot_of (kept n)) c m parent i.hears.hears.0 y t w)
      ∙ rw same (counts_next m t w m.phase o counted)

  pub ack_left : (t : Ticket) (o : Outcome) (fs : List Finding) (y : Txn) (k : ℕ) → h.input
      ≡ MessageInput k (Ack (child_case y t) o fs)
      → now ≡ m.phase
  ack_left t o fs y k i =
      by_input _ _ i (at_ack me (boot_of (kept n)) c m parent k y t o fs)
      ∙ if_phase (same_txn y c.txn) m (takes_ack m t o fs m.phase) (acks_phase m t o fs m.phase)

  pub joined_left : (d : Case) (t : Ticket) (k : ℕ) → h.input ≡ MessageInput k (Joined d t) → now ≡ m.phase
  joined_left d t k i =
      by_input _ _ i (at_joined me (boot_of (kept n)) c m parent k d t)
      ∙ if_phase (same_case d c) m (accepts_ticket m t m.phase) (accepts_phase m t m.phase)

  pub inquiry_left : (t : Ticket) (y : Txn) (k : ℕ) → h.input ≡ MessageInput k (Inquire (child_case y t))
      → now ≡ m.phase
  inquiry_left t y k i = by_input _ m i (at_inquiry me (boot_of (kept n)) c m parent k (child_case y t))

  -- Acts.

  pub join_left : (d : Case) (q : ProcessId) → h.input ≡ ActInput (JoinAct d q) → now ≡ m.phase
  join_left d q i = by_input _ m i (at_join me (boot_of (kept n)) c m parent d q)

  pub ask_left : (d : Case) → h.input ≡ ActInput (Ask d) → now ≡ m.phase
  ask_left d i = by_input _ m i (at_ask me (boot_of (kept n)) c m parent d)

  pub forget_left : (d : Case) → h.input ≡ ActInput (Forget d) → now ≡ m.phase
  forget_left d i = by_input _ m i (at_forget me (boot_of (kept n)) c m parent d)

  pub work_left : (d : Case) (q : ProcessId) (op : Op) → h.input ≡ ActInput (WorkAct d q op) → now ≡ m.phase
  work_left d q op i =
      by_input _ _ i (at_work me (boot_of (kept n)) c m parent d q op)
      ∙ if_phase (same_case d c) m (sends_work m (ticket_of_child m.accepted q) m.phase)
      (works_phase m (ticket_of_child m.accepted q) m.phase)
