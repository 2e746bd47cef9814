-- What the messages of a cascaded coordinator say to the pair of one of its cases and its parent.
use Rattle.std.proofs.Common.{◌≡◌, ◌∙◌, ◌||◌, Bool, true, false, List, [], ◌∷◌, ◌++◌, map, refl, sym, ap, subst, arith}
use Rattle.protocol.specs.declared.names.Case.{Case}
use Rattle.protocol.specs.declared.names.Outcome.{Outcome}
use Rattle.protocol_words.specs.Variants.{AbortedOutcome, CommittedOutcome}
use Rattle.protocol.specs.declared.names.ProcessId.{ProcessId}
use Rattle.protocol.specs.declared.names.Ticket.{Ticket}
use Rattle.protocol.specs.declared.messages.Envelope.{Envelope}
use Rattle.protocol.specs.declared.messages.Message.{Message}
use Rattle.protocol.specs.declared.messages.Message.TheVariants.{Join, Joined, Work, Prepare, Yes, No, Read, Commit, Abort, Ack, Inquire}
use Rattle.protocol.specs.declared.trees.TreeProcess.{TreeProcess}
use Rattle.protocol.specs.Names.{child_case, process_of, same_case}
use Rattle.protocol.specs.CoordinatorRows.{Seat, each, post, tells_outcome}
use Rattle.protocol.specs.Memory.{works_of}
use Rattle.protocol.specs.Nodes.{Role, Below, role_of}
use Rattle.protocol.specs.Outcomes.{is_joined_message, is_outcome_message, is_read_message, is_yes_message, sent}
use Rattle.protocol.specs.Standings.{CoordinatorView}
use Rattle.proof_pairs.specs.readings.ReadingOf.{gives_case, is_ack_message, is_inquiry_message, is_no_message, is_prepare_message, Wire, wire}
use Rattle.proof_pairs.proofs.readings.Lists.{sent-append}
use Rattle.proof_processes.specs.WorldHolds.{AllGo, GoesBy, GoesDown, IsChildRole, IsPair}
use Rattle.proof_processes.proofs.GivenCases.{same_of}
use Rattle.proof_steps.specs.cascades.Messages.{AllSentBy}

-- What is said up about the pair's ticket: JOINED of it, and a child's words.
pub record Said : Type 0 where
  pub joined : Bool
  pub yes : Bool
  pub no : Bool
  pub read : Bool
  pub ack : Bool
  pub inquire : Bool

abbrev pub nothing : Said
nothing = record { joined = false; yes = false; no = false; read = false; ack = false; inquire = false }

-- what these messages say
abbrev pub said_by : Case → Ticket → List Envelope → Said
said_by c t ls =
    let d = child_case c.txn t in
    record {
      joined = sent (is_joined_message c t) ls;
      yes = sent (is_yes_message d) ls;
      no = sent (is_no_message d) ls;
      read = sent (is_read_message d) ls;
      ack = sent (is_ack_message d) ls;
      inquire = sent (is_inquiry_message d) ls;
    }

-- the net's part with these words
abbrev pub hears : Said → Wire → Wire
hears s v = record v {
  issued = s.joined || v.issued;
  yes = s.yes || v.yes;
  no = s.no || v.no;
  read = s.read || v.read;
  ack = s.ack || v.ack;
  inquire = s.inquire || v.inquire;
}

sent-cons : (q : Message → Bool) (l : Envelope) (ls : List Envelope)
    → sent q (l ∷ ls) ≡ (q l.message || sent q ls)
unfolding sent
sent-cons q l ls = refl

sent-none : (q : Message → Bool) → sent q [] ≡ false
unfolding sent
sent-none q = refl

or-false : (a : Bool) → (a || false) ≡ a
or-false a = grind arith

unless_true : (b : Bool) → (b ≡ true → ⊥) → b ≡ false
unless_true true f = absurd (f refl)
unless_true false f = refl

-- A message of the process itself tells the pair nothing else.

module _ (tree : List TreeProcess) (me p : ProcessId) (below : role_of tree me ≡ Below p) (apart : p ≡ me → ⊥)
    (c : Case) (t : Ticket) (pair : IsPair tree c t) (child : t.child ≡ me) where
  abbrev d : Case
  d = child_case c.txn t

  parent : process_of c ≡ p
  parent = sym (subst (λ (r : Role). IsChildRole r (process_of c))
      (ap (role_of tree) child ∙ below) pair.child)

  -- it sends nothing down to itself, and nothing of its parent's case
  no_down : (l : Envelope) (e : Case) → l.from ≡ me → GoesDown tree l e → same_case e (child_case c.txn t)
      ≡ false
  no_down l e from goes = unless_true (same_case e d) (λ same.
      let to : l.to ≡ me = sym goes.0 ∙ (ap process_of (same_of e d same) ∙ child) in
      apart (subst (λ (r : Role). IsChildRole r l.from) (ap (role_of tree) to ∙ below) goes.1 ∙ from))

  not_parents : (l : Envelope) (e : Case) → l.from ≡ me → process_of e ≡ l.from → same_case e c ≡ false
  not_parents l e from goes = unless_true (same_case e c) (λ same.
      apart (sym parent ∙ (ap process_of (sym (same_of e c same)) ∙ (goes ∙ from))))

  not_given : (l : Envelope) (e : Case) (u : Ticket) → l.from ≡ me → u.child ≡ l.from
      → same_case (child_case e.txn u) c ≡ false
  not_given l e u from goes = unless_true (same_case (child_case e.txn u) c) (λ same.
      apart (sym parent ∙ (ap process_of (sym (same_of (child_case e.txn u) c same)) ∙ (goes ∙ from))))

  -- what the pair sees besides
  pub record Unsaid (ls : List Envelope) : Type 0 where
    pub given : sent (gives_case c) ls ≡ false
    pub read_up : sent (is_read_message c) ls ≡ false
    pub prepare : sent (is_prepare_message (child_case c.txn t)) ls ≡ false
    pub commit : sent (is_outcome_message CommittedOutcome (child_case c.txn t)) ls ≡ false
    pub abort : sent (is_outcome_message AbortedOutcome (child_case c.txn t)) ls ≡ false

  more : (l : Envelope) (ls : List Envelope) → Unsaid ls → gives_case c l.message ≡ false
      → is_read_message c l.message ≡ false → is_prepare_message (child_case c.txn t) l.message ≡ false
      → is_outcome_message CommittedOutcome (child_case c.txn t) l.message ≡ false
      → is_outcome_message AbortedOutcome (child_case c.txn t) l.message ≡ false → Unsaid (l ∷ ls)
  more l ls u a b e f g = record {
    given = sent-cons (gives_case c) l ls ∙ rw (a, u.given) refl;
    read_up = sent-cons (is_read_message c) l ls ∙ rw (b, u.read_up) refl;
    prepare = sent-cons (is_prepare_message d) l ls ∙ rw (e, u.prepare) refl;
    commit = sent-cons (is_outcome_message CommittedOutcome d) l ls ∙ rw (f, u.commit) refl;
    abort = sent-cons (is_outcome_message AbortedOutcome d) l ls ∙ rw (g, u.abort) refl;
  }

  -- by its message
  one : (l : Envelope) (ls : List Envelope) (m : Message) → l.message ≡ m → Unsaid ls → l.from ≡ me
      → GoesBy tree l m → Unsaid (l ∷ ls)
  one l ls (Join e) is u f g = more l ls u (rw is refl) (rw is refl) (rw is refl) (rw is refl) (rw is refl)
  one l ls (Joined e x) is u f g =
      more l ls u (rw is (not_given l e x f g.0)) (rw is refl) (rw is refl) (rw is refl) (rw is refl)
  one l ls (Work e i op) is u f g = more l ls u (rw is refl) (rw is refl) (rw is refl) (rw is refl)
      (rw is refl)
  one l ls (Prepare e k) is u f g =
      more l ls u (rw is refl) (rw is refl) (rw is (no_down l e f g)) (rw is refl) (rw is refl)
  one l ls (Commit e) is u f g =
      more l ls u (rw is refl) (rw is refl) (rw is refl) (rw is (no_down l e f g)) (rw is refl)
  one l ls (Abort e) is u f g =
      more l ls u (rw is refl) (rw is refl) (rw is refl) (rw is refl) (rw is (no_down l e f g))
  one l ls (Yes e) is u f g = more l ls u (rw is refl) (rw is refl) (rw is refl) (rw is refl) (rw is refl)
  one l ls (No e) is u f g = more l ls u (rw is refl) (rw is refl) (rw is refl) (rw is refl) (rw is refl)
  one l ls (Read e) is u f g =
      more l ls u (rw is refl) (rw is (not_parents l e f g.0)) (rw is refl) (rw is refl) (rw is refl)
  one l ls (Ack e o fs) is u f g = more l ls u (rw is refl) (rw is refl) (rw is refl)
      (rw is refl) (rw is refl)
  one l ls (Inquire e) is u f g = more l ls u (rw is refl) (rw is refl) (rw is refl) (rw is refl) (rw is refl)

  unsaid : (ls : List Envelope) → AllSentBy me ls → AllGo tree ls → Unsaid ls
  unsaid [] f g = record {
    given = sent-none (gives_case c);
    read_up = sent-none (is_read_message c);
    prepare = sent-none (is_prepare_message d);
    commit = sent-none (is_outcome_message CommittedOutcome d);
    abort = sent-none (is_outcome_message AbortedOutcome d);
  }
  unsaid (l ∷ ls) f g = one l ls l.message refl (unsaid ls f.1 g.1) f.0 g.0

  pub wire_behind : (net ls : List Envelope) → AllSentBy me ls → AllGo tree ls
      → wire c t (net ++ ls) ≡ hears (said_by c t ls) (wire c t net)
  wire_behind net ls f g =
      let u = unsaid ls f g in
      simp (sent-append, u.given, u.read_up, u.prepare, u.commit, u.abort)

-- What lists of messages say.

module _ (c : Case) (t : Ticket) where
  abbrev own : Case
  own = child_case c.txn t

  -- nothing of the pair
  abbrev pub IsSilent : List Envelope → Type 0
  IsSilent ls = said_by c t ls ≡ nothing

  pub none_silent : IsSilent []
  none_silent = rw (
    sent-none (is_joined_message c t),
    sent-none (is_yes_message own),
    sent-none (is_no_message own),
    sent-none (is_read_message own),
    sent-none (is_ack_message own),
    sent-none (is_inquiry_message own),
  ) refl

  -- one more message
  module _ (l : Envelope) (ls : List Envelope) (rest : IsSilent ls) where
    field : (q : Message → Bool) (get : Said → Bool) → get (said_by c t ls) ≡ sent q ls → get nothing ≡ false
        → sent q (l ∷ ls) ≡ q l.message
    field q get same none = sent-cons q l ls
        ∙ (ap (λ b. q l.message || b) (sym same ∙ (ap get rest ∙ none)) ∙ or-false (q l.message))

    pub said_first : said_by c t (l ∷ ls) ≡ record {
      joined = is_joined_message c t l.message;
      yes = is_yes_message (child_case c.txn t) l.message;
      no = is_no_message (child_case c.txn t) l.message;
      read = is_read_message (child_case c.txn t) l.message;
      ack = is_ack_message (child_case c.txn t) l.message;
      inquire = is_inquiry_message (child_case c.txn t) l.message;
    }
    said_first = rw (
      field (is_joined_message c t) (λ s. s.joined) refl refl,
      field (is_yes_message own) (λ s. s.yes) refl refl,
      field (is_no_message own) (λ s. s.no) refl refl,
      field (is_read_message own) (λ s. s.read) refl refl,
      field (is_ack_message own) (λ s. s.ack) refl refl,
      field (is_inquiry_message own) (λ s. s.inquire) refl refl,
    ) refl

  -- messages down
  pub each_silent : (s : Seat) (o : Outcome) (ts : List Ticket) → IsSilent (each s (tells_outcome o) ts)
  each_silent s o [] = none_silent
  each_silent s CommittedOutcome (u ∷ ts) =
      said_first _ (each s Commit ts) (each_silent s CommittedOutcome ts)
  each_silent s AbortedOutcome (u ∷ ts) = said_first _ (each s Abort ts) (each_silent s AbortedOutcome ts)

  pub prepares_silent : (s : Seat) (v : CoordinatorView) (ts : List Ticket)
      → IsSilent (map (λ u. post s.me u.child (Prepare (child_case s.own.txn u) (works_of v.works u))) ts)
  prepares_silent s v [] = none_silent
  prepares_silent s v (u ∷ ts) = said_first _ _ (prepares_silent s v ts)

  pub join_silent : (q p : ProcessId) (x : Case) → IsSilent (post q p (Join x) ∷ [])
  join_silent q p x = said_first (post q p (Join x)) [] none_silent
