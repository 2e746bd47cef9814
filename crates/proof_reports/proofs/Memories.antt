-- What a coordinator remembers that was found is true.
use Rattle.std.proofs.Common.{◌≡◌, ◌&&◌, ◌+◌, inl, inr, ℕ, Bool, true, false, Option, Some, None, List, [], ◌∷◌, ◌++◌, refl, subst, if◌then◌else◌}
use Rattle.std.specs.Prelude.{fold}
use Rattle.protocol.specs.declared.names.Case.{Case}
use Rattle.protocol.specs.declared.names.ProcessId.{ProcessId}
use Rattle.protocol.specs.declared.names.Ticket.{Ticket}
use Rattle.protocol.specs.declared.names.Txn.{Txn}
use Rattle.protocol.specs.declared.names.Outcome.{Outcome}
use Rattle.protocol.specs.declared.messages.Finding.{Finding}
use Rattle.protocol.specs.declared.messages.Message.{Message}
use Rattle.protocol.specs.declared.messages.Message.TheVariants.{Join, Joined, Work, Prepare, Yes, No, Read, Commit, Abort, Ack, Inquire}
use Rattle.protocol.specs.declared.standings.Vote.{Vote}
use Rattle.protocol_words.specs.Variants.{AbortAct, ActInput, CommitAct, JoinAct, MessageInput, VoteNo, VoteRead, VoteYes, WorkAct}
use Rattle.protocol.specs.declared.events.Act.TheVariants.{Begin, Ask, Decide, Forget}
use Rattle.protocol.specs.declared.events.Input.{Input}
use Rattle.protocol.specs.declared.trees.TreeProcess.{TreeProcess}
use Rattle.protocol.specs.Names.{same_case, same_outcome, same_txn, root_case, child_case}
use Rattle.protocol.specs.NameLaws.{same_outcome_tells, same_txn_tells}
use Rattle.protocol.specs.Records.{boot_of, in_list, owing_by}
use Rattle.protocol.specs.Nodes.{Heard, Node, kept}
use Rattle.protocol.specs.Memory.{Memory, Phase, Idle, Open, Asked, Over, fresh_memory, memory_of, remembers, root_remembers, cascaded_remembers, cascaded_hears, hears_child, next_txn, next_ticket, opens_case, gives, joins, active_ticket, asks_votes, closes, accepts_ticket, has_acked, has_child, retires, sends_work, ticket_of_child, takes_vote, is_counted, with_vote, takes_ack, first_found, found_of, of_child, of_ticket}
use Rattle.protocol.specs.Standings.{found_below}
use Rattle.proof_processes.proofs.Remembering.{coordinator_place, role_below}
use Rattle.proof_reports.specs.Findings.{AreTrue, SaysTrue}
use Rattle.proof_reports.proofs.Later.{AllHeardTrue, InputTrue, are_both}

-- each of these findings is true of its outcome
abbrev FoundTrue : (ProcessId → Node) → Txn → List (Ticket × (Outcome × List Finding)) → Type 0
FoundTrue at x [] = Unit {0}
FoundTrue at x (a ∷ fs) = AreTrue at x a.1.0 a.1.1 × FoundTrue at x fs

module _ (at : ProcessId → Node) (x : Txn) where
  found_both : (fs gs : List (Ticket × (Outcome × List Finding))) → FoundTrue at x fs → FoundTrue at x gs
      → FoundTrue at x (fs ++ gs)
  found_both [] gs f g = g
  found_both (a ∷ fs) gs f g = (f.0, found_both fs gs f.1 g)

  one_of : (o : Outcome) (ts : List Ticket) (a : Ticket × (Outcome × List Finding)) → AreTrue at x a.1.0 a.1.1
      → (b c : Bool) → same_outcome a.1.0 o ≡ b → AreTrue at x o (if b && c then a.1.1 else [])
  one_of o ts a f false c e = tt
  one_of o ts a f true false e = tt
  one_of o ts a f true true e =
      subst (λ (u : Outcome). AreTrue at x u a.1.1) (is_same a.1.0 e) f
    where
      is_same : (u : Outcome) → same_outcome u o ≡ true → u ≡ o
      is_same u g = elim (same_outcome_tells u o) [ inl t ↦ t.1 | inr k ↦ absurd (let z = k.0 in cc) ]

  found_so : (o : Outcome) (ts : List Ticket) (fs : List (Ticket × (Outcome × List Finding)))
      → FoundTrue at x fs → AreTrue at x o (found_of fs o ts)
  unfolding found_of
  found_so o ts [] f = tt
  found_so o ts (a ∷ fs) f =
      are_both at x o (if same_outcome a.1.0 o && in_list ts a.0 then a.1.1 else []) (found_of fs o ts)
      (one_of o ts a f.0 (same_outcome a.1.0 o) (in_list ts a.0) refl) (found_so o ts fs f.1)

module _ (at : ProcessId → Node) (me : ProcessId) (boot : ℕ) (c : Case) where
  abbrev O : Memory → Type 0
  O m = FoundTrue at c.txn m.found

  if_of : (b : Bool) (m k : Memory) → O m → O k → O (if b then k else m)
  if_of true m k o p = p
  if_of false m k o p = o

  asked : (m : Memory) → O m → (ph : Phase) → O (asks_votes m ph)
  asked m o Open = o
  asked m o Idle = o
  asked m o Asked = o
  asked m o Over = o

  closed : (m : Memory) → O m → (ph : Phase) → O (closes m ph)
  closed m o Idle = o
  closed m o Open = o
  closed m o Asked = o
  closed m o Over = o

  accepted : (m : Memory) (t : Ticket) → O m → (ph : Phase) → O (accepts_ticket m t ph)
  accepted m t o Open = if_of (has_child m.accepted t.child)
      (record m { accepted = m.accepted ++ t ∷ [] }) m o o
  accepted m t o Idle = o
  accepted m t o Asked = o
  accepted m t o Over = o

  worked : (m : Memory) (t : Option Ticket) → O m → (ph : Phase) → O (sends_work m t ph)
  worked m (Some t) o Open = o
  worked m (Some t) o Idle = o
  worked m (Some t) o Asked = o
  worked m (Some t) o Over = o
  worked m None o Open = o
  worked m None o Idle = o
  worked m None o Asked = o
  worked m None o Over = o

  voted : (m : Memory) (t : Ticket) (w : Vote) → O m → (ph : Phase) → O (takes_vote m t w ph)
  voted m t w o Asked = if_of (is_counted m.accepted m.votes t) m (with_vote m t w) o o
  voted m t w o Idle = o
  voted m t w o Open = o
  voted m t w o Over = o

  first_so : (t : Ticket) (u : Outcome) (fs : List Finding) → AreTrue at c.txn u fs → (b : Bool)
      → FoundTrue at c.txn (if b then [] else (t, (u, fs)) ∷ [])
  first_so t u fs f true = tt
  first_so t u fs f false = (f, tt)

  acked_so : (m : Memory) (t : Ticket) (u : Outcome) (fs : List Finding) → O m → AreTrue at c.txn u fs
      → FoundTrue at c.txn (m.found ++ first_found m t u fs)
  acked_so m t u fs o f =
      found_both at c.txn m.found (first_found m t u fs) o (first_so t u fs f (has_acked m.acks u t))

  acked : (m : Memory) (t : Ticket) (u : Outcome) (fs : List Finding) → O m → AreTrue at c.txn u fs
      → (ph : Phase)
      → O (takes_ack m t u fs ph)
  acked m t u fs o f Open = o
  acked m t u fs o f Asked = o
  acked m t u fs o f Idle = acked_so m t u fs o f
  acked m t u fs o f Over = acked_so m t u fs o f

  of_children : (m : Memory) (d : Case) (f : Ticket → Memory) → O m → (d.txn ≡ c.txn → (t : Ticket) → O (f t))
      → O (of_child c d m f)
  of_children m d f o g = by_txn (same_txn d.txn c.txn) refl
    where
      by_ticket : (t : Option Ticket) → d.txn ≡ c.txn → O (of_ticket t m f)
      by_ticket None e = o
      by_ticket (Some t) e = g e t

      same : (y : Txn) → same_txn y c.txn ≡ true → y ≡ c.txn
      same y e = elim (same_txn_tells y c.txn) [ inl t ↦ t.1 | inr k ↦ absurd (let z = k.0 in cc) ]

      by_txn : (b : Bool) → same_txn d.txn c.txn ≡ b → O (if b then of_ticket d.ticket m f else m)
      by_txn true e = by_ticket d.ticket (same d.txn e)
      by_txn false e = o

  heard : (m : Memory) → O m → (y : Message) → SaysTrue at y → O (hears_child c m y)
  heard m o (Joined d t) s = if_of (same_case d c) m (accepts_ticket m t m.phase) o (accepted m t o m.phase)
  heard m o (Yes d) s = of_children m d _ o (λ e t. voted m t VoteYes o m.phase)
  heard m o (No d) s = of_children m d _ o (λ e t. voted m t VoteNo o m.phase)
  heard m o (Read d) s = of_children m d _ o (λ e t. voted m t VoteRead o m.phase)
  heard m o (Ack d u fs) s =
      of_children m d _ o (λ e t. acked m t u fs o (subst (λ (y : Txn). AreTrue at y u fs) e s) m.phase)
  heard m o (Join d) s = o
  heard m o (Prepare d k) s = o
  heard m o (Abort d) s = o
  heard m o (Work d k op) s = o
  heard m o (Commit d) s = o
  heard m o (Inquire d) s = o

  root_remembered : (m : Memory) → O m → (i : Input) → InputTrue at i → O (root_remembers me boot c m i)
  root_remembered m o (MessageInput k y) s = heard m o y s
  root_remembered m o (ActInput (Begin p)) s =
      if_of (same_case (root_case (next_txn me boot m p)) c) (record m { begun = m.begun + 1 })
      (opens_case (record m { begun = m.begun + 1 })) o tt
  root_remembered m o (ActInput (WorkAct d q op)) s =
      if_of (same_case d c) m (sends_work m (ticket_of_child m.accepted q) m.phase) o
      (worked m (ticket_of_child m.accepted q) o m.phase)
  root_remembered m o (ActInput (CommitAct y)) s =
      if_of (same_case (root_case y) c) m (asks_votes m m.phase) o (asked m o m.phase)
  root_remembered m o (ActInput (AbortAct y)) s =
      if_of (same_case (root_case y) c) m (closes m m.phase) o (closed m o m.phase)
  root_remembered m o (ActInput (JoinAct d q)) s = o
  root_remembered m o (ActInput (Ask d)) s = o
  root_remembered m o (ActInput (Decide d u)) s = o
  root_remembered m o (ActInput (Forget d)) s = o

  joined : (m : Memory) → O m → (d : Case) (t : Option Ticket) → O (joins me boot c d m t)
  joined m o d (Some t) = o
  joined m o d None =
      let t = next_ticket me boot m in
      if_of (same_case c (child_case d.txn t)) (gives m d t) (opens_case (gives m d t)) o tt

  below_hears : (m : Memory) → O m → (y : Message) → SaysTrue at y → O (cascaded_hears me boot c m y)
  below_hears m o (Join d) s = joined m o d (active_ticket m.active d)
  below_hears m o (Prepare d k) s =
      if_of (same_case d c) (retires m d) (asks_votes (retires m d) m.phase) o (asked (retires m d) o m.phase)
  below_hears m o (Abort d) s =
      if_of (same_case d c) (retires m d) (closes (retires m d) m.phase) o (closed (retires m d) o m.phase)
  below_hears m o (Joined d t) s = heard m o (Joined d t) s
  below_hears m o (Yes d) s = heard m o (Yes d) s
  below_hears m o (No d) s = heard m o (No d) s
  below_hears m o (Read d) s = heard m o (Read d) s
  below_hears m o (Ack d u fs) s = heard m o (Ack d u fs) s
  below_hears m o (Work d k op) s = o
  below_hears m o (Commit d) s = o
  below_hears m o (Inquire d) s = o

  below_remembered : (m : Memory) → O m → (i : Input) → InputTrue at i → O (cascaded_remembers me boot c m i)
  below_remembered m o (MessageInput k y) s = below_hears m o y s
  below_remembered m o (ActInput (Begin p)) s = o
  below_remembered m o (ActInput (WorkAct d q op)) s =
      if_of (same_case d c) m (sends_work m (ticket_of_child m.accepted q) m.phase) o
      (worked m (ticket_of_child m.accepted q) o m.phase)
  below_remembered m o (ActInput (CommitAct y)) s = o
  below_remembered m o (ActInput (AbortAct y)) s = o
  below_remembered m o (ActInput (JoinAct d q)) s = o
  below_remembered m o (ActInput (Ask d)) s = o
  below_remembered m o (ActInput (Decide d u)) s = o
  below_remembered m o (ActInput (Forget d)) s = o

  remembered : (parent : Option ProcessId) (m : Memory) → O m → (hs : List Heard) → AllHeardTrue at hs
      → O (fold (remembers me (role_below parent) boot c) m hs)
  remembered None m o [] f = o
  remembered (Some p) m o [] f = o
  remembered None m o (h ∷ hs) f =
      remembered None (root_remembers me boot c m h.input) (root_remembered m o h.input f.0) hs f.1
  remembered (Some p) m o (h ∷ hs) f =
      remembered (Some p) (cascaded_remembers me boot c m h.input) (below_remembered m o h.input f.0) hs f.1

-- what was found below a case is true, where what was heard is and the last acknowledgement brings true
-- findings
pub below_is_true : (at : ProcessId → Node) (me : ProcessId) (parent : Option ProcessId)
    (tree : List TreeProcess)
    (n : Node) → AllHeardTrue at n.heard → (c : Case) (o : Outcome) (fs : List Finding)
    → AreTrue at c.txn o fs
    → AreTrue at c.txn o (found_below (coordinator_place me parent tree) n c o fs)
unfolding found_below memory_of
below_is_true at me parent tree n heard c o fs f =
    let m = fold (remembers me (role_below parent) (boot_of (kept n)) c) fresh_memory n.heard in
    are_both at c.txn o (found_of m.found o (owing_by c (kept n))) fs
    (found_so at c.txn o (owing_by c (kept n)) m.found
    (remembered at me (boot_of (kept n)) c parent fresh_memory tt n.heard heard)) f
