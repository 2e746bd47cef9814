-- What a coordinator remembers to have been acknowledged was acknowledged among the messages that it heard.
use Rattle.std.proofs.Common.{◌≡◌, ◌∙◌, ◌⊎◌, ◌&&◌, ◌+◌, inl, inr, ℕ, Bool, true, false, Option, Some, None, List, [], ◌∷◌, ◌++◌, refl, sym, ap, subst, if◌then◌else◌}
use Rattle.std.specs.Prelude.{fold}
use Rattle.protocol.specs.declared.names.Case.{Case}
use Rattle.protocol.specs.declared.names.ProcessId.{ProcessId}
use Rattle.protocol.specs.declared.names.Ticket.{Ticket}
use Rattle.protocol.specs.declared.names.Txn.{Txn}
use Rattle.protocol.specs.declared.names.Outcome.{Outcome}
use Rattle.protocol.specs.declared.messages.Finding.{Finding}
use Rattle.protocol.specs.declared.messages.Envelope.{Envelope}
use Rattle.protocol.specs.declared.messages.Message.{Message}
use Rattle.protocol.specs.declared.messages.Message.TheVariants.{Join, Joined, Work, Prepare, Yes, No, Read, Commit, Abort, Ack, Inquire}
use Rattle.protocol.specs.declared.standings.Vote.{Vote}
use Rattle.protocol_words.specs.Variants.{AbortAct, ActInput, CommitAct, JoinAct, MessageInput, VoteNo, VoteRead, VoteYes, WorkAct}
use Rattle.protocol.specs.declared.events.Act.TheVariants.{Begin, Ask, Decide, Forget}
use Rattle.protocol.specs.declared.events.Input.{Input}
use Rattle.protocol.specs.declared.trees.TreeProcess.{TreeProcess}
use Rattle.protocol.specs.Names.{same_case, same_outcome, same_ticket, same_txn, root_case, child_case}
use Rattle.protocol.specs.NameLaws.{same_outcome_tells, same_ticket_tells, same_txn_tells}
use Rattle.protocol.specs.Records.{boot_of, in_list}
use Rattle.protocol.specs.Nodes.{Heard, Node, kept}
use Rattle.protocol.specs.Memory.{Memory, Phase, Idle, Open, Asked, Over, fresh_memory, memory_of, remembers, root_remembers, cascaded_remembers, cascaded_hears, hears_child, next_txn, next_ticket, opens_case, gives, joins, active_ticket, asks_votes, closes, accepts_ticket, has_acked, has_child, retires, sends_work, ticket_of_child, takes_vote, is_counted, with_vote, takes_ack, found_of, of_child, of_ticket}
use Rattle.proof_model.proofs.AckLaws.{has_acked-push}
use Rattle.proof_processes.proofs.Remembering.{coordinator_place, role_below}
use Rattle.proof_processes.proofs.Tests.{both, either}
use Rattle.proof_reports.specs.SinceOpened.{AllHeardAmong, InputAmong, IsAmong, Within}
use Rattle.proof_reports.proofs.Found.{among_first, within_first, within_second, within_then}

-- What was heard.

pub heard_more : (ls : List Envelope) (hs : List Heard) (h : Heard) → AllHeardAmong ls hs
    → InputAmong ls h.input
    → AllHeardAmong ls (hs ++ h ∷ [])
heard_more ls [] h f g = (g, tt)
heard_more ls (a ∷ hs) h f g = (f.0, heard_more ls hs h f.1 g)

input_still : (ls ms : List Envelope) (i : Input) → InputAmong ls i → InputAmong (ls ++ ms) i
input_still ls ms (MessageInput k m) f = among_first m ls ms f
input_still ls ms (ActInput a) f = tt

pub heard_still : (ls ms : List Envelope) (hs : List Heard) → AllHeardAmong ls hs
    → AllHeardAmong (ls ++ ms) hs
heard_still ls ms [] f = tt
heard_still ls ms (h ∷ hs) f = (input_still ls ms h.input f.0, heard_still ls ms hs f.1)

-- What is noted.

-- these findings are noted of the ticket and the outcome
abbrev pub HasNote : List (Ticket × (Outcome × List Finding)) → Ticket → Outcome → List Finding → Type 0
HasNote [] t o fs = ⊥
HasNote (a ∷ as') t o fs = (a ≡ (t, (o, fs))) ⊎ HasNote as' t o fs

note_either : (as' bs : List (Ticket × (Outcome × List Finding))) (t : Ticket) (o : Outcome)
    (fs : List Finding)
    → HasNote (as' ++ bs) t o fs → HasNote as' t o fs ⊎ HasNote bs t o fs
note_either [] bs t o fs i = inr i
note_either (a ∷ as') bs t o fs (inl e) = inl (inl e)
note_either (a ∷ as') bs t o fs (inr i) = elim (note_either as' bs t o fs i) [
  | inl x ↦ inl (inr x)
  | inr y ↦ inr y
]

note_first : (as' bs : List (Ticket × (Outcome × List Finding))) (t : Ticket) (o : Outcome)
    (fs : List Finding)
    → HasNote as' t o fs → HasNote (as' ++ bs) t o fs
note_first [] bs t o fs i = absurd i
note_first (a ∷ as') bs t o fs (inl e) = inl e
note_first (a ∷ as') bs t o fs (inr i) = inr (note_first as' bs t o fs i)

note_second : (as' bs : List (Ticket × (Outcome × List Finding))) (t : Ticket) (o : Outcome)
    (fs : List Finding)
    → HasNote bs t o fs → HasNote (as' ++ bs) t o fs
note_second [] bs t o fs i = i
note_second (a ∷ as') bs t o fs i = inr (note_second as' bs t o fs i)

-- each note is of an acknowledgement among the messages, and each acknowledgement is noted
pub record Noted (ls : List Envelope) (x : Txn) (acks : List (Ticket × Outcome))
    (found : List (Ticket × (Outcome × List Finding))) : Type 0 where
  pub is_sent : (t : Ticket) (o : Outcome) (fs : List Finding) → HasNote found t o fs
      → IsAmong (Ack (child_case x t) o fs) ls
  pub noted : (t : Ticket) (o : Outcome) → has_acked acks o t ≡ true → (fs : List Finding)
      × HasNote found t o fs

none_noted : (ls : List Envelope) (x : Txn) → Noted ls x [] []
unfolding has_acked
none_noted ls x = record { is_sent = λ t o fs i. absurd i; noted = λ t o e. absurd (cc) }

module _ (ls : List Envelope) (x : Txn) (acks : List (Ticket × Outcome))
    (found : List (Ticket × (Outcome × List Finding))) (t : Ticket) (o : Outcome) (fs : List Finding)
    (old : Noted ls x acks found) (now : IsAmong (Ack (child_case x t) o fs) ls)
  where
    abbrev one : Bool → List (Ticket × (Outcome × List Finding))
    one b = if b then [] else (t, (o, fs)) ∷ []

    sent_one : (b : Bool) (u : Ticket) (p : Outcome) (gs : List Finding) → HasNote (one b) u p gs
        → IsAmong (Ack (child_case x u) p gs) ls
    sent_one true u p gs i = absurd i
    sent_one false u p gs (inl e) =
        subst (λ (a : Ticket × (Outcome × List Finding)). IsAmong (Ack (child_case x a.0) a.1.0 a.1.1) ls) e
        now
    sent_one false u p gs (inr i) = absurd i

    here : (b : Bool) → has_acked acks o t ≡ b → (gs : List Finding) × HasNote (found ++ one b) t o gs
    here true e = let k = old.noted t o e in (k.0, note_first found [] t o k.0 k.1)
    here false e = (fs, note_second found (one false) t o fs (inl refl))

    same : (u : Ticket) (p : Outcome) → same_outcome o p ≡ true → same_ticket t u ≡ true → (o ≡ p) × (t ≡ u)
    same u p e f = (
      elim (same_outcome_tells o p) [ inl a ↦ a.1 | inr b ↦ absurd (let z = b.0 in cc) ],
      elim (same_ticket_tells t u) [ inl a ↦ a.1 | inr b ↦ absurd (let z = b.0 in cc) ],
    )

    pub noted_more : Noted ls x (acks ++ (t, o) ∷ []) (found ++ one (has_acked acks o t))
    noted_more = record {
      is_sent = λ u p gs i. elim (note_either found (one (has_acked acks o t)) u p gs i) [
        | inl a ↦ old.is_sent u p gs a
        | inr b ↦ sent_one (has_acked acks o t) u p gs b
      ];
      noted = λ u p e. elim (either _ _ (sym (has_acked-push acks t u o p) ∙ e)) [
        | inl a ↦ let k = old.noted u p a in (k.0, note_first found _ u p k.0 k.1)
        | inr b ↦ let s = both (same_outcome o p) (same_ticket t u) b in
            let q = same u p s.0 s.1 in
            subst (λ (v : Ticket). (gs : List Finding) × HasNote (found ++ one (has_acked acks o t)) v p gs)
            q.1
            (subst (λ (r : Outcome). (gs : List Finding) × HasNote (found ++ one (has_acked acks o t)) t r gs)
            q.0
            (here (has_acked acks o t) refl))
      ];
    }

-- Memory.

module _ (ls : List Envelope) (me : ProcessId) (boot : ℕ) (c : Case) where
  abbrev O : Memory → Type 0
  O m = Noted ls c.txn m.acks m.found

  if_of : (b : Bool) (m k : Memory) → O m → O k → O (if b then k else m)
  if_of true m k o p = p
  if_of false m k o p = o

  asked : (m : Memory) → O m → (ph : Phase) → O (asks_votes m ph)
  asked m o Open = o
  asked m o Idle = o
  asked m o Asked = o
  asked m o Over = o

  closed : (m : Memory) → O m → (ph : Phase) → O (closes m ph)
  closed m o Idle = o
  closed m o Open = o
  closed m o Asked = o
  closed m o Over = o

  accepted : (m : Memory) (t : Ticket) → O m → (ph : Phase) → O (accepts_ticket m t ph)
  accepted m t o Open = if_of (has_child m.accepted t.child)
      (record m { accepted = m.accepted ++ t ∷ [] }) m o o
  accepted m t o Idle = o
  accepted m t o Asked = o
  accepted m t o Over = o

  worked : (m : Memory) (t : Option Ticket) → O m → (ph : Phase) → O (sends_work m t ph)
  worked m (Some t) o Open = o
  worked m (Some t) o Idle = o
  worked m (Some t) o Asked = o
  worked m (Some t) o Over = o
  worked m None o Open = o
  worked m None o Idle = o
  worked m None o Asked = o
  worked m None o Over = o

  voted : (m : Memory) (t : Ticket) (w : Vote) → O m → (ph : Phase) → O (takes_vote m t w ph)
  voted m t w o Asked = if_of (is_counted m.accepted m.votes t) m (with_vote m t w) o o
  voted m t w o Idle = o
  voted m t w o Open = o
  voted m t w o Over = o

  acked : (m : Memory) (t : Ticket) (u : Outcome) (fs : List Finding) → O m
      → IsAmong (Ack (child_case c.txn t) u fs) ls → (ph : Phase) → O (takes_ack m t u fs ph)
  acked m t u fs o f Open = o
  acked m t u fs o f Asked = o
  acked m t u fs o f Idle = noted_more ls c.txn m.acks m.found t u fs o f
  acked m t u fs o f Over = noted_more ls c.txn m.acks m.found t u fs o f

  of_children : (m : Memory) (d : Case) (f : Ticket → Memory) → O m
      → ((t : Ticket) → child_case c.txn t ≡ d → O (f t))
      → O (of_child c d m f)
  of_children m d f o g = by_txn (same_txn d.txn c.txn) refl
    where
      by_ticket : (t : Option Ticket) → record { txn = c.txn; ticket = t } ≡ d → O (of_ticket t m f)
      by_ticket None e = o
      by_ticket (Some t) e = g t e

      same : (y : Txn) → same_txn y c.txn ≡ true → y ≡ c.txn
      same y e = elim (same_txn_tells y c.txn) [ inl t ↦ t.1 | inr k ↦ absurd (let z = k.0 in cc) ]

      by_txn : (b : Bool) → same_txn d.txn c.txn ≡ b → O (if b then of_ticket d.ticket m f else m)
      by_txn true e = by_ticket d.ticket (ap (λ (y : Txn). record { txn = y; ticket = d.ticket })
          (sym (same d.txn e)))
      by_txn false e = o

  heard : (m : Memory) → O m → (y : Message) → IsAmong y ls → O (hears_child c m y)
  heard m o (Joined d t) s = if_of (same_case d c) m (accepts_ticket m t m.phase) o (accepted m t o m.phase)
  heard m o (Yes d) s = of_children m d _ o (λ t e. voted m t VoteYes o m.phase)
  heard m o (No d) s = of_children m d _ o (λ t e. voted m t VoteNo o m.phase)
  heard m o (Read d) s = of_children m d _ o (λ t e. voted m t VoteRead o m.phase)
  heard m o (Ack d u fs) s =
      of_children m d _ o
      (λ t e. acked m t u fs o (subst (λ (y : Case). IsAmong (Ack y u fs) ls) (sym e) s) m.phase)
  heard m o (Join d) s = o
  heard m o (Prepare d k) s = o
  heard m o (Abort d) s = o
  heard m o (Work d k op) s = o
  heard m o (Commit d) s = o
  heard m o (Inquire d) s = o

  root_remembered : (m : Memory) → O m → (i : Input) → InputAmong ls i → O (root_remembers me boot c m i)
  root_remembered m o (MessageInput k y) s = heard m o y s
  root_remembered m o (ActInput (Begin p)) s =
      if_of (same_case (root_case (next_txn me boot m p)) c) (record m { begun = m.begun + 1 })
      (opens_case (record m { begun = m.begun + 1 })) o (none_noted ls c.txn)
  root_remembered m o (ActInput (WorkAct d q op)) s =
      if_of (same_case d c) m (sends_work m (ticket_of_child m.accepted q) m.phase) o
      (worked m (ticket_of_child m.accepted q) o m.phase)
  root_remembered m o (ActInput (CommitAct y)) s =
      if_of (same_case (root_case y) c) m (asks_votes m m.phase) o (asked m o m.phase)
  root_remembered m o (ActInput (AbortAct y)) s =
      if_of (same_case (root_case y) c) m (closes m m.phase) o (closed m o m.phase)
  root_remembered m o (ActInput (JoinAct d q)) s = o
  root_remembered m o (ActInput (Ask d)) s = o
  root_remembered m o (ActInput (Decide d u)) s = o
  root_remembered m o (ActInput (Forget d)) s = o

  joined : (m : Memory) → O m → (d : Case) (t : Option Ticket) → O (joins me boot c d m t)
  joined m o d (Some t) = o
  joined m o d None =
      let t = next_ticket me boot m in
      if_of (same_case c (child_case d.txn t)) (gives m d t) (opens_case (gives m d t)) o
      (none_noted ls c.txn)

  below_hears : (m : Memory) → O m → (y : Message) → IsAmong y ls → O (cascaded_hears me boot c m y)
  below_hears m o (Join d) s = joined m o d (active_ticket m.active d)
  below_hears m o (Prepare d k) s =
      if_of (same_case d c) (retires m d) (asks_votes (retires m d) m.phase) o (asked (retires m d) o m.phase)
  below_hears m o (Abort d) s =
      if_of (same_case d c) (retires m d) (closes (retires m d) m.phase) o (closed (retires m d) o m.phase)
  below_hears m o (Joined d t) s = heard m o (Joined d t) s
  below_hears m o (Yes d) s = heard m o (Yes d) s
  below_hears m o (No d) s = heard m o (No d) s
  below_hears m o (Read d) s = heard m o (Read d) s
  below_hears m o (Ack d u fs) s = heard m o (Ack d u fs) s
  below_hears m o (Work d k op) s = o
  below_hears m o (Commit d) s = o
  below_hears m o (Inquire d) s = o

  below_remembered : (m : Memory) → O m → (i : Input) → InputAmong ls i → O (cascaded_remembers me boot c m i)
  below_remembered m o (MessageInput k y) s = below_hears m o y s
  below_remembered m o (ActInput (Begin p)) s = o
  below_remembered m o (ActInput (WorkAct d q op)) s =
      if_of (same_case d c) m (sends_work m (ticket_of_child m.accepted q) m.phase) o
      (worked m (ticket_of_child m.accepted q) o m.phase)
  below_remembered m o (ActInput (CommitAct y)) s = o
  below_remembered m o (ActInput (AbortAct y)) s = o
  below_remembered m o (ActInput (JoinAct d q)) s = o
  below_remembered m o (ActInput (Ask d)) s = o
  below_remembered m o (ActInput (Decide d u)) s = o
  below_remembered m o (ActInput (Forget d)) s = o

  remembered : (parent : Option ProcessId) (m : Memory) → O m → (hs : List Heard) → AllHeardAmong ls hs
      → O (fold (remembers me (role_below parent) boot c) m hs)
  remembered None m o [] f = o
  remembered (Some p) m o [] f = o
  remembered None m o (h ∷ hs) f =
      remembered None (root_remembers me boot c m h.input) (root_remembered m o h.input f.0) hs f.1
  remembered (Some p) m o (h ∷ hs) f =
      remembered (Some p) (cascaded_remembers me boot c m h.input) (below_remembered m o h.input f.0) hs f.1

-- what a coordinator that is up remembers of a case is noted of what it heard
pub memory_noted : (ls : List Envelope) (me : ProcessId) (parent : Option ProcessId) (tree : List TreeProcess)
    (n : Node) → AllHeardAmong ls n.heard → (c : Case)
    → Noted ls c.txn (memory_of (coordinator_place me parent tree) n c).acks
    (memory_of (coordinator_place me parent tree) n c).found
unfolding memory_of
memory_noted ls me parent tree n heard c =
    remembered ls me (boot_of (kept n)) c parent fresh_memory (none_noted ls c.txn) n.heard heard

-- What is found below.

outcome_itself : (o : Outcome) → same_outcome o o ≡ true
outcome_itself o = elim (same_outcome_tells o o) [ inl a ↦ a.0 | inr b ↦ absurd (b.1 refl) ]

within_if : (b c : Bool) (fs gs : List Finding) → b ≡ true → c ≡ true
    → Within fs ((if b && c then fs else []) ++ gs)
within_if true true fs gs e f = within_first fs gs
within_if true false fs gs e f = absurd (cc)
within_if false c fs gs e f = absurd (cc)

-- what is noted of a ticket that is asked for is found
pub note_found : (as' : List (Ticket × (Outcome × List Finding))) (ts : List Ticket)
    (t : Ticket) (o : Outcome)
    (fs : List Finding) → in_list ts t ≡ true → HasNote as' t o fs → Within fs (found_of as' o ts)
unfolding found_of
note_found [] ts t o fs e i = absurd i
note_found (a ∷ as') ts t o fs e (inl f) =
    subst (λ (b : Ticket × (Outcome × List Finding)). Within fs
    ((if same_outcome b.1.0 o && in_list ts b.0 then b.1.1 else []) ++ found_of as' o ts)) (sym f)
    (within_if (same_outcome o o) (in_list ts t) fs (found_of as' o ts) (outcome_itself o) e)
note_found (a ∷ as') ts t o fs e (inr i) =
    within_then fs (found_of as' o ts) _ (note_found as' ts t o fs e i)
    (within_second (if same_outcome a.1.0 o && in_list ts a.0 then a.1.1 else []) (found_of as' o ts))
