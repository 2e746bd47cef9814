-- What a coordinator remembers that was found: only of acknowledgements that it remembers too.
use Rattle.std.proofs.Common.{◌≡◌, ◌∙◌, ap, sym, ◌+◌, ◌&&◌, ◌||◌, inl, inr, ℕ, Bool, true, false, Option, Some, None, List, [], ◌∷◌, ◌++◌, refl, if◌then◌else◌}
use Rattle.std.specs.Prelude.{fold}
use Rattle.std.proofs.lemmas.Grind.{flat_map-append}
use Rattle.std.proofs.lemmas.List.{append-nil}
use Rattle.protocol.specs.declared.names.Case.{Case}
use Rattle.protocol.specs.declared.names.ProcessId.{ProcessId}
use Rattle.protocol.specs.declared.names.Ticket.{Ticket}
use Rattle.protocol.specs.declared.names.Txn.{Txn}
use Rattle.protocol.specs.declared.names.Outcome.{Outcome}
use Rattle.protocol.specs.declared.messages.Finding.{Finding}
use Rattle.protocol.specs.declared.messages.Message.{Message}
use Rattle.protocol.specs.declared.messages.Message.TheVariants.{Join, Joined, Work, Prepare, Yes, No, Read, Commit, Abort, Ack, Inquire}
use Rattle.protocol.specs.declared.standings.Vote.{Vote}
use Rattle.protocol_words.specs.Variants.{AbortAct, ActInput, CommitAct, JoinAct, MessageInput, VoteNo, VoteRead, VoteYes, WorkAct}
use Rattle.protocol.specs.declared.events.Act.TheVariants.{Begin, Ask, Decide, Forget}
use Rattle.protocol.specs.declared.events.Input.{Input}
use Rattle.protocol.specs.declared.trees.TreeProcess.{TreeProcess}
use Rattle.protocol.specs.Names.{same_txn, same_case, same_ticket, same_outcome, root_case, child_case}
use Rattle.protocol.specs.NameLaws.{same_outcome_tells, same_ticket-refl}
use Rattle.protocol.specs.Records.{in_list, boot_of}
use Rattle.protocol.specs.Nodes.{Place, AtRoot, Below, Node, kept, Heard}
use Rattle.protocol.specs.Memory.{Memory, Phase, Idle, Open, Asked, Over, memory_of, remembers, root_remembers, cascaded_remembers, cascaded_hears, asks_votes, closes, with_vote, takes_vote, takes_ack, first_found, found_of, has_acked, is_counted, opens_case, gives, joins, active_ticket, next_ticket, retires, next_txn, sends_work, accepts_ticket, hears_child, of_ticket, of_child, fresh_memory, has_child, ticket_of_child}
use Rattle.proof_model.proofs.AckLaws.{has_acked-push, same_outcome-refl}

-- each of these findings is of an acknowledgement among these
abbrev pub NotedIn : List (Ticket × Outcome) → List (Ticket × (Outcome × List Finding)) → Type 0
NotedIn acks [] = Unit {0}
NotedIn acks (a ∷ fs) = (has_acked acks a.1.0 a.0 ≡ true) × NotedIn acks fs

-- so is each that is remembered
abbrev pub Noted : Memory → Type 0
Noted m = NotedIn m.acks m.found

more_acked : (b k : Bool) → b ≡ true → (b || k) ≡ true
more_acked true k e = refl
more_acked false k e = absurd (cc)

noted_more : (acks : List (Ticket × Outcome)) (t : Ticket) (o : Outcome)
    (fs : List (Ticket × (Outcome × List Finding))) → NotedIn acks fs → NotedIn (acks ++ (t, o) ∷ []) fs
noted_more acks t o [] n = tt
noted_more acks t o (a ∷ fs) n = (
  has_acked-push acks t a.0 o a.1.0
      ∙ more_acked (has_acked acks a.1.0 a.0) (same_outcome o a.1.0 && same_ticket t a.0) n.0,
  noted_more acks t o fs n.1,
)

noted_both : (acks : List (Ticket × Outcome)) (fs gs : List (Ticket × (Outcome × List Finding)))
    → NotedIn acks fs → NotedIn acks gs → NotedIn acks (fs ++ gs)
noted_both acks [] gs n k = k
noted_both acks (a ∷ fs) gs n k = (n.0, noted_both acks fs gs n.1 k)

last_acked : (b : Bool) → (b || (true && true)) ≡ true
last_acked true = refl
last_acked false = refl

noted_first : (acks : List (Ticket × Outcome)) (t : Ticket) (o : Outcome) (fs : List Finding) (b : Bool)
    → NotedIn (acks ++ (t, o) ∷ []) (if b then [] else (t, (o, fs)) ∷ [])
noted_first acks t o fs true = tt
noted_first acks t o fs false = (
  has_acked-push acks t t o o
      ∙ rw (same_outcome-refl o, same_ticket-refl t) (last_acked (has_acked acks o t)),
  tt,
)

noted_if : (b : Bool) (m k : Memory) → Noted m → Noted k → Noted (if b then k else m)
noted_if true m k n p = p
noted_if false m k n p = n

noted_work : (m : Memory) (t : Option Ticket) (ph : Phase) → Noted m → Noted (sends_work m t ph)
noted_work m None Idle n = n
noted_work m None Open n = n
noted_work m None Asked n = n
noted_work m None Over n = n
noted_work m (Some t) Idle n = n
noted_work m (Some t) Open n = n
noted_work m (Some t) Asked n = n
noted_work m (Some t) Over n = n

noted_asks : (m : Memory) (ph : Phase) → Noted m → Noted (asks_votes m ph)
noted_asks m Idle n = n
noted_asks m Open n = n
noted_asks m Asked n = n
noted_asks m Over n = n

noted_closes : (m : Memory) (ph : Phase) → Noted m → Noted (closes m ph)
noted_closes m Idle n = n
noted_closes m Open n = n
noted_closes m Asked n = n
noted_closes m Over n = n

noted_accepts : (m : Memory) (t : Ticket) (ph : Phase) → Noted m → Noted (accepts_ticket m t ph)
noted_accepts m t Idle n = n
noted_accepts m t Open n = noted_if (has_child m.accepted t.child)
    (record m { accepted = m.accepted ++ t ∷ [] }) m n n
noted_accepts m t Asked n = n
noted_accepts m t Over n = n

noted_takes : (m : Memory) (t : Ticket) (w : Vote) (ph : Phase) → Noted m → Noted (takes_vote m t w ph)
noted_takes m t w Idle n = n
noted_takes m t w Open n = n
noted_takes m t w Asked n = noted_if (is_counted m.accepted m.votes t) m (with_vote m t w) n n
noted_takes m t w Over n = n

noted_ack : (m : Memory) (t : Ticket) (o : Outcome) (fs : List Finding) → Noted m
    → NotedIn (m.acks ++ (t, o) ∷ []) (m.found ++ first_found m t o fs)
noted_ack m t o fs n = noted_both (m.acks ++ (t, o) ∷ []) m.found (first_found m t o fs)
    (noted_more m.acks t o m.found n) (noted_first m.acks t o fs (has_acked m.acks o t))

noted_acks : (m : Memory) (t : Ticket) (o : Outcome) (fs : List Finding) (ph : Phase) → Noted m
    → Noted (takes_ack m t o fs ph)
noted_acks m t o fs Idle n = noted_ack m t o fs n
noted_acks m t o fs Open n = n
noted_acks m t o fs Asked n = n
noted_acks m t o fs Over n = noted_ack m t o fs n

noted_ticket : (o : Option Ticket) (m : Memory) (f : Ticket → Memory) → Noted m
    → ((t : Ticket) → Noted (f t)) → Noted (of_ticket o m f)
noted_ticket None m f n k = n
noted_ticket (Some t) m f n k = k t

noted_child : (c d : Case) (m : Memory) (f : Ticket → Memory) → Noted m → ((t : Ticket) → Noted (f t))
    → Noted (of_child c d m f)
noted_child c d m f n k = noted_if (same_txn d.txn c.txn) m (of_ticket d.ticket m f) n
    (noted_ticket d.ticket m f n k)

noted_hears : (c : Case) (m : Memory) (message : Message) → Noted m → Noted (hears_child c m message)
noted_hears c m (Joined d t) n = noted_if (same_case d c) m (accepts_ticket m t m.phase) n
    (noted_accepts m t m.phase n)
noted_hears c m (Yes d) n = noted_child c d m _ n (λ t. noted_takes m t VoteYes m.phase n)
noted_hears c m (No d) n = noted_child c d m _ n (λ t. noted_takes m t VoteNo m.phase n)
noted_hears c m (Read d) n = noted_child c d m _ n (λ t. noted_takes m t VoteRead m.phase n)
noted_hears c m (Ack d o fs) n = noted_child c d m _ n (λ t. noted_acks m t o fs m.phase n)
noted_hears c m message n = n

noted_joins : (me : ProcessId) (boot : ℕ) (c d : Case) (m : Memory) (o : Option Ticket) → Noted m
    → Noted (joins me boot c d m o)
noted_joins me boot c d m (Some t) n = n
noted_joins me boot c d m None n =
    noted_if (same_case c (child_case d.txn (next_ticket me boot m))) (gives m d (next_ticket me boot m))
    (opens_case (gives m d (next_ticket me boot m))) n tt

root_noted : (me : ProcessId) (boot : ℕ) (c : Case) (m : Memory) (i : Input) → Noted m
    → Noted (root_remembers me boot c m i)
root_noted me boot c m (ActInput (Begin p)) n =
    noted_if (same_case (root_case (next_txn me boot m p)) c) (record m { begun = m.begun + 1 })
    (opens_case (record m { begun = m.begun + 1 })) n tt
root_noted me boot c m (ActInput (WorkAct d r op)) n =
    noted_if (same_case d c) m (sends_work m (ticket_of_child m.accepted r) m.phase) n
    (noted_work m (ticket_of_child m.accepted r) m.phase n)
root_noted me boot c m (ActInput (CommitAct x)) n =
    noted_if (same_case (root_case x) c) m (asks_votes m m.phase) n (noted_asks m m.phase n)
root_noted me boot c m (ActInput (AbortAct x)) n =
    noted_if (same_case (root_case x) c) m (closes m m.phase) n (noted_closes m m.phase n)
root_noted me boot c m (ActInput a) n = n
root_noted me boot c m (MessageInput k message) n = noted_hears c m message n

cascaded_noted : (me : ProcessId) (boot : ℕ) (c : Case) (m : Memory) (i : Input) → Noted m
    → Noted (cascaded_remembers me boot c m i)
cascaded_noted me boot c m (ActInput (WorkAct d r op)) n =
    noted_if (same_case d c) m (sends_work m (ticket_of_child m.accepted r) m.phase) n
    (noted_work m (ticket_of_child m.accepted r) m.phase n)
cascaded_noted me boot c m (ActInput a) n = n
cascaded_noted me boot c m (MessageInput k (Join d)) n =
    noted_joins me boot c d m (active_ticket m.active d) n
cascaded_noted me boot c m (MessageInput k (Prepare d i)) n =
    noted_if (same_case d c) (retires m d) (asks_votes (retires m d) m.phase) n
    (noted_asks (retires m d) m.phase n)
cascaded_noted me boot c m (MessageInput k (Abort d)) n =
    noted_if (same_case d c) (retires m d) (closes (retires m d) m.phase) n
    (noted_closes (retires m d) m.phase n)
cascaded_noted me boot c m (MessageInput k message) n = noted_hears c m message n

root_fold : (me : ProcessId) (boot : ℕ) (c : Case) (m : Memory) (hs : List Heard) → Noted m
    → Noted (fold (remembers me AtRoot boot c) m hs)
root_fold me boot c m [] n = n
root_fold me boot c m (h ∷ hs) n = root_fold me boot c (root_remembers me boot c m h.input) hs
    (root_noted me boot c m h.input n)

below_fold : (me p : ProcessId) (boot : ℕ) (c : Case) (m : Memory) (hs : List Heard) → Noted m
    → Noted (fold (remembers me (Below p) boot c) m hs)
below_fold me p boot c m [] n = n
below_fold me p boot c m (h ∷ hs) n = below_fold me p boot c (cascaded_remembers me boot c m h.input) hs
    (cascaded_noted me boot c m h.input n)

-- each finding that the root remembers is of an acknowledgement that it remembers
pub root_noted_all : (me : ProcessId) (tree : List TreeProcess) (n : Node) (c : Case)
    → Noted (memory_of (record { me = me; role = AtRoot; tree = tree }) n c)
unfolding memory_of
root_noted_all me tree n c = root_fold me (boot_of (kept n)) c fresh_memory n.heard tt

-- and so at a coordinator below it
pub below_noted_all : (me p : ProcessId) (tree : List TreeProcess) (n : Node) (c : Case)
    → Noted (memory_of (record { me = me; role = Below p; tree = tree }) n c)
unfolding memory_of
below_noted_all me p tree n c = below_fold me p (boot_of (kept n)) c fresh_memory n.heard tt

-- of tickets that have not acknowledged the outcome nothing is found
pub none_found : (acks : List (Ticket × Outcome)) (found : List (Ticket × (Outcome × List Finding)))
    (o : Outcome) (ts : List Ticket) → NotedIn acks found
    → ((t : Ticket) → in_list ts t ≡ true → has_acked acks o t ≡ false) → found_of found o ts ≡ []
unfolding found_of
none_found acks [] o ts n h = refl
none_found acks (a ∷ fs) o ts n h = by_tests (same_outcome a.1.0 o) (in_list ts a.0) refl refl
    (none_found acks fs o ts n.1 h)
  where
    clash : (u : Outcome) → u ≡ o → has_acked acks u a.0 ≡ true → in_list ts a.0 ≡ true → ⊥
    clash u e k i = (let z : true ≡ false = sym k ∙ (ap (λ v. has_acked acks v a.0) e ∙ h a.0 i) in cc)

    same : (u : Outcome) → same_outcome u o ≡ true → u ≡ o
    same u g = elim (same_outcome_tells u o) [ inl t ↦ t.1 | inr k ↦ absurd (let z = k.0 in cc) ]

    by_tests : (b k : Bool) → same_outcome a.1.0 o ≡ b → in_list ts a.0 ≡ k → found_of fs o ts ≡ []
        → ((if b && k then a.1.1 else []) ++ found_of fs o ts) ≡ []
    by_tests true true e i none = absurd (clash a.1.0 (same a.1.0 e) n.0 i)
    by_tests true false e i none = none
    by_tests false k e i none = none

-- if nobody has acknowledged, nothing is found
pub nothing_noted : (acks : List (Ticket × Outcome)) (found : List (Ticket × (Outcome × List Finding)))
    → NotedIn acks found → acks ≡ [] → found ≡ []
unfolding has_acked
nothing_noted acks [] n e = refl
nothing_noted acks (a ∷ fs) n e =
    absurd (let z : true ≡ false = sym n.0 ∙ ap (λ l. has_acked l a.1.0 a.0) e in cc)
