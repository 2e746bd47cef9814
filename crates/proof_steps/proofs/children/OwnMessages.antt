-- What a manager sends is of its own tickets and cases, so that the pairs of others hear nothing.
use Rattle.std.proofs.Common.{◌≡◌, ◌∙◌, ◌&&◌, inl, inr, ℕ, Bool, true, false, Option, Some, None, List, [], ◌∷◌, ◌++◌, refl, sym, ap, if◌then◌else◌, arith}
use Rattle.std.specs.List.{flat_map}
use Rattle.protocol.specs.declared.names.Case.{Case}
use Rattle.protocol.specs.declared.names.ProcessId.{ProcessId}
use Rattle.protocol.specs.declared.names.Ticket.{Ticket}
use Rattle.protocol.specs.declared.names.Outcome.{Outcome}
use Rattle.protocol_words.specs.Variants.{AbortedOutcome, CaseBranch, CommittedOutcome}
use Rattle.protocol.specs.declared.messages.Message.{Message}
use Rattle.protocol.specs.declared.messages.Message.TheVariants.{Join, Joined, Work, Prepare, Yes, No, Read, Commit, Abort, Ack, Inquire}
use Rattle.protocol.specs.declared.messages.Envelope.{Envelope}
use Rattle.protocol.specs.declared.records.Record.{Record}
use Rattle.protocol.specs.declared.trees.TreeProcess.{TreeProcess}
use Rattle.protocol.specs.Names.{child_case, process_of, same_case, same_ticket}
use Rattle.protocol.specs.NameLaws.{same_case_tells, names}
use Rattle.protocol.specs.Records.{cases_in}
use Rattle.protocol.specs.Nodes.{Place, AtLeaf, Node, Heard, Effect}
use Rattle.protocol.specs.CoordinatorRows.{post, tells_outcome}
use Rattle.protocol.specs.ManagerRows.{Leaf, acknowledgement, is_acknowledged}
use Rattle.protocol.specs.Reactions.{leaf_of}
use Rattle.protocol.specs.Restarts.{is_open, manager_resumes, inquires_by, untold_inquiry, recorded_branch}
use Rattle.protocol.specs.Standings.{Mark, Unmarked, Promised, Decided, ToldOf, Finished, mark_of, marked_branch}
use Rattle.protocol.specs.Memory.{fresh_memory}
use Rattle.protocol.specs.World.{InputStands}
use Rattle.protocol.specs.Outcomes.{sent, is_joined_message, is_yes_message, is_read_message, is_outcome_message}
use Rattle.proof_pairs.specs.readings.ReadingOf.{wire, no_wire, gives_case, is_prepare_message, is_no_message, is_ack_message, is_inquiry_message}
use Rattle.proof_pairs.specs.turns.LeafTurns.{LeafTurn, Hears, mark_at, Waits, promised, decided, does_nothing, gives_again, gives_fresh, votes_yes, votes_read, votes_no, repeats_yes, refuses, obeys, notes, acknowledges_told, acknowledges, drops, asks, decides, forgets}
use Rattle.proof_processes.specs.Owns.{is_own_case, GoesToOwner, AllGoToOwners}
use Rattle.proof_processes.proofs.Tests.{neither}
use Rattle.proof_processes.proofs.Owning.{delivered}
use Rattle.proof_processes.proofs.Yesses.{own_process}
use Rattle.proof_processes.proofs.Tickets.{active_is_own}
use Rattle.protocol.specs.declared.messages.Finding.{Finding}

-- a message of the process's ticket, or of its case
abbrev pub IsOwnMessage : ProcessId → Message → Type 0
IsOwnMessage me (Joined d t) = t.child ≡ me
IsOwnMessage me (Yes d) = process_of d ≡ me
IsOwnMessage me (No d) = process_of d ≡ me
IsOwnMessage me (Read d) = process_of d ≡ me
IsOwnMessage me (Ack d o fs) = process_of d ≡ me
IsOwnMessage me (Inquire d) = process_of d ≡ me
IsOwnMessage me _ = ⊥

abbrev pub AllOwnMessages : ProcessId → List Envelope → Type 0
AllOwnMessages me [] = Unit {0}
AllOwnMessages me (l ∷ ls) = IsOwnMessage me l.message × AllOwnMessages me ls

-- Such messages are of no pair of others.

module _ (me : ProcessId) (c : Case) (t : Ticket) (parent : process_of c ≡ me → ⊥)
    (child : t.child ≡ me → ⊥) where
  same_of : (d e : Case) → same_case d e ≡ true → d ≡ e
  same_of d e f = elim (same_case_tells d e) [ inl k ↦ k.1 | inr g ↦ absurd (let k = g.0 in cc) ]

  not_parents : (d : Case) → process_of d ≡ me → same_case d c ≡ false
  not_parents d own = by_test (same_case d c) refl
    where
      by_test : (b : Bool) → same_case d c ≡ b → same_case d c ≡ false
      by_test true e = absurd (parent (ap process_of (sym (same_of d c e)) ∙ own))
      by_test false e = e

  not_childs : (d : Case) → process_of d ≡ me → same_case d (child_case c.txn t) ≡ false
  not_childs d own = by_test (same_case d (child_case c.txn t)) refl
    where
      by_test : (b : Bool) → same_case d (child_case c.txn t) ≡ b → same_case d (child_case c.txn t) ≡ false
      by_test true e = absurd (child (ap process_of (sym (same_of d (child_case c.txn t) e)) ∙ own))
      by_test false e = e

  ticket_is : (u v : Ticket) → same_ticket u v ≡ true → u ≡ v
  ticket_is u v e = grind (arith, names)

  not_ticket : (u : Ticket) → u.child ≡ me → same_ticket u t ≡ false
  not_ticket u own = by_test (same_ticket u t) refl
    where
      by_test : (b : Bool) → same_ticket u t ≡ b → same_ticket u t ≡ false
      by_test true e = absurd (child (ap (λ (x : Ticket). x.child) (sym (ticket_is u t e)) ∙ own))
      by_test false e = e

  and-false : (a b : Bool) → b ≡ false → (a && b) ≡ false
  and-false a b e = grind arith

  abbrev Own : Case → Type 0
  Own d = process_of d ≡ me

  -- a test that no own message passes
  none_own : (q : Message → Bool) → ((d : Case) (u : Ticket) → u.child ≡ me → q (Joined d u) ≡ false)
      → ((d : Case) → Own d → q (Yes d) ≡ false) → ((d : Case) → Own d → q (No d) ≡ false)
      → ((d : Case) → Own d → q (Read d) ≡ false)
      → ((d : Case) (o : Outcome) (fs : List Finding) → Own d → q (Ack d o fs) ≡ false)
      → ((d : Case) → Own d → q (Inquire d) ≡ false) → (m : Message) → IsOwnMessage me m → q m ≡ false
  none_own q j y n r a i (Joined d u) own = j d u own
  none_own q j y n r a i (Yes d) own = y d own
  none_own q j y n r a i (No d) own = n d own
  none_own q j y n r a i (Read d) own = r d own
  none_own q j y n r a i (Ack d o fs) own = a d o fs own
  none_own q j y n r a i (Inquire d) own = i d own
  none_own q j y n r a i (Join d) own = absurd own
  none_own q j y n r a i (Work d k op) own = absurd own
  none_own q j y n r a i (Prepare d k) own = absurd own
  none_own q j y n r a i (Commit d) own = absurd own
  none_own q j y n r a i (Abort d) own = absurd own

  none_sent : (q : Message → Bool) → ((m : Message) → IsOwnMessage me m → q m ≡ false) → (ls : List Envelope)
      → AllOwnMessages me ls → sent q ls ≡ false
  unfolding sent
  none_sent q f [] a = refl
  none_sent q f (l ∷ ls) a = neither (q l.message) (sent q ls) (f l.message a.0) (none_sent q f ls a.1)

  module _ (ls : List Envelope) (a : AllOwnMessages me ls) where
    abbrev d' : Case
    d' = child_case c.txn t

    quiet_by : (q : Message → Bool) → ((d : Case) (u : Ticket) → u.child ≡ me → q (Joined d u) ≡ false)
        → ((d : Case) → Own d → q (Yes d) ≡ false) → ((d : Case) → Own d → q (No d) ≡ false)
        → ((d : Case) → Own d → q (Read d) ≡ false)
        → ((d : Case) (o : Outcome) (fs : List Finding) → Own d → q (Ack d o fs) ≡ false)
        → ((d : Case) → Own d → q (Inquire d) ≡ false) → sent q ls ≡ false
    quiet_by q j y n r k i = none_sent q (none_own q j y n r k i) ls a

    pub quiet_messages : wire c t ls ≡ no_wire
    quiet_messages = rw (
      quiet_by (is_joined_message c t) (λ d u e. and-false _ _ (not_ticket u e)) (λ d e. refl) (λ d e. refl)
          (λ d e. refl) (λ d o fs e. refl) (λ d e. refl),
      quiet_by (gives_case c) (λ d u e. not_parents (child_case d.txn u) e) (λ d e. refl) (λ d e. refl)
          (λ d e. refl)
          (λ d o fs e. refl) (λ d e. refl),
      quiet_by (is_read_message c) (λ d u e. refl) (λ d e. refl) (λ d e. refl) not_parents (λ d o fs e. refl)
          (λ d e. refl),
      quiet_by (is_prepare_message d') (λ d u e. refl) (λ d e. refl) (λ d e. refl) (λ d e. refl)
          (λ d o fs e. refl)
          (λ d e. refl),
      quiet_by (is_yes_message d') (λ d u e. refl) not_childs (λ d e. refl) (λ d e. refl) (λ d o fs e. refl)
          (λ d e. refl),
      quiet_by (is_no_message d') (λ d u e. refl) (λ d e. refl) not_childs (λ d e. refl) (λ d o fs e. refl)
          (λ d e. refl),
      quiet_by (is_read_message d') (λ d u e. refl) (λ d e. refl) (λ d e. refl) not_childs (λ d o fs e. refl)
          (λ d e. refl),
      quiet_by (is_outcome_message CommittedOutcome d') (λ d u e. refl) (λ d e. refl) (λ d e. refl)
          (λ d e. refl)
          (λ d o fs e. refl) (λ d e. refl),
      quiet_by (is_outcome_message AbortedOutcome d') (λ d u e. refl) (λ d e. refl) (λ d e. refl)
          (λ d e. refl)
          (λ d o fs e. refl) (λ d e. refl),
      quiet_by (is_ack_message d') (λ d u e. refl) (λ d e. refl) (λ d e. refl) (λ d e. refl)
          (λ d o fs e. not_childs d e)
          (λ d e. refl),
      quiet_by (is_inquiry_message d') (λ d u e. refl) (λ d e. refl) (λ d e. refl) (λ d e. refl)
          (λ d o fs e. refl) not_childs,
    ) refl

-- A manager's messages are its own.

module _ (me p : ProcessId) (tree : List TreeProcess) (n : Node)
    (known : (d : Case) → is_open (mark_at n d) ≡ true
    → process_of d ≡ me) where
  abbrev place : Place
  place = record { me = me; role = AtLeaf p; tree = tree }

  module _ (h : Heard) (net : List Envelope) (goes : AllGoToOwners net)
      (stands : InputStands net me h.input) where
    own_case : (d : Case) (m : Message) → Hears h m → (GoesToOwner me m → is_own_case me d ≡ true)
        → process_of d ≡ me
    own_case d m i f = own_process me d.txn d.ticket (f (delivered net me h.input i.0 m goes stands i.1))

    told_own : (d : Case) (o : Outcome) → Hears h (tells_outcome o d) → process_of d ≡ me
    told_own d CommittedOutcome i = own_case d (Commit d) i (λ e. e)
    told_own d AbortedOutcome i = own_case d (Abort d) i (λ e. e)

    prepared_own : (d : Case) (k : ℕ) → Hears h (Prepare d k) → process_of d ≡ me
    prepared_own d k i = own_case d (Prepare d k) i (λ e. e)

    acknowledged : (l : Leaf) (o : Outcome) (fs : List Finding) (b : Bool) → process_of l.own ≡ me
        → AllOwnMessages me (if b then post l.me l.parent (Ack l.own o fs) ∷ [] else [])
    acknowledged l o fs true e = (e, tt)
    acknowledged l o fs false e = tt

    answers : (d : Case) (o : Outcome) (fs : List Finding) → Hears h (tells_outcome o d)
        → AllOwnMessages me (acknowledgement (leaf_of place p d) o fs)
    answers d o fs i = acknowledged (leaf_of place p d) o fs (is_acknowledged d.txn.presumption o)
        (told_own d o i)

    waits_open : (x : Mark) → Waits x → is_open x ≡ true
    waits_open _ promised = refl
    waits_open _ decided = refl

    pub turn_messages : (e : Effect) → LeafTurn place p n h e → AllOwnMessages me e.messages
    turn_messages _ does_nothing = tt
    turn_messages _ (gives_again d t i a) = (active_is_own place n d d t a, tt)
    turn_messages _ (gives_fresh d i a s) = (refl, tt)
    turn_messages _ (votes_yes d k ws i a) = (prepared_own d k i, tt)
    turn_messages _ (votes_read d k i a) = (prepared_own d k i, tt)
    turn_messages _ (votes_no d k i a) = (prepared_own d k i, tt)
    turn_messages _ (repeats_yes d k i a) = (prepared_own d k i, tt)
    turn_messages _ (refuses d k i a) = (prepared_own d k i, tt)
    turn_messages _ (obeys d o i e) = answers d o _ i
    turn_messages _ (notes d o i e) = answers d o _ i
    turn_messages _ (acknowledges_told d o i e) = answers d o _ i
    turn_messages _ (acknowledges d o i e) = answers d o _ i
    turn_messages _ (drops d i a) = answers d AbortedOutcome _ i
    turn_messages _ (asks d i k) = (known d (waits_open (mark_at n d) k), tt)
    turn_messages _ (decides d o i e) = tt
    turn_messages _ (forgets d i k) = tt

-- A restart asks about branches that are open in what is left.

module _ (me p : ProcessId) (rs : List Record)
    (known : (d : Case) → is_open (mark_of (CaseBranch d) rs) ≡ true
    → process_of d ≡ me) where
  own_both : (xs ys : List Envelope) → AllOwnMessages me xs → AllOwnMessages me ys
      → AllOwnMessages me (xs ++ ys)
  own_both [] ys a b = b
  own_both (x ∷ xs) ys a b = (a.0, own_both xs ys a.1 b)

  untold_own : (d : Case) (o : Option Outcome) → process_of d ≡ me
      → AllOwnMessages me (untold_inquiry me p d o)
  untold_own d None e = (e, tt)
  untold_own d (Some o) e = tt

  by_mark : (d : Case) (x : Mark) → mark_of (CaseBranch d) rs ≡ x
      → (let v = marked_branch fresh_memory x in AllOwnMessages me (inquires_by me p d v v.standing))
  by_mark d Unmarked e = tt
  by_mark d Finished e = tt
  by_mark d Promised e = (known d (ap is_open e), tt)
  by_mark d Decided e = (known d (ap is_open e), tt)
  by_mark d (ToldOf o) e = tt

  resumed_own : (d : Case) → AllOwnMessages me (manager_resumes me p rs d)
  unfolding recorded_branch
  resumed_own d = by_mark d (mark_of (CaseBranch d) rs) refl

  flat_own : (cs : List Case) → AllOwnMessages me (flat_map (manager_resumes me p rs) cs)
  flat_own [] = tt
  flat_own (d ∷ cs) = own_both (manager_resumes me p rs d) (flat_map (manager_resumes me p rs) cs)
      (resumed_own d) (flat_own cs)

  pub resumes_messages : AllOwnMessages me (flat_map (manager_resumes me p rs) (cases_in rs))
  resumes_messages = flat_own (cases_in rs)
