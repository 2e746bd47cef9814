-- What a coordinator's messages leave of the net's part of a reading: to its parent, to each of its
-- children, to one.
use Rattle.std.proofs.Common.{◌≡◌, ◌∙◌, ℕ, Bool, true, false, ◌||◌, ◌&&◌, Option, Some, None, List, [], ◌∷◌, ◌++◌, map, refl, sym, ap, arith}
use Rattle.std.specs.List.{list_any}
use Rattle.std.proofs.lemmas.List.{append_assoc}
use Rattle.protocol.specs.declared.names.Case.{Case}
use Rattle.protocol.specs.declared.names.Outcome.{Outcome}
use Rattle.protocol_words.specs.Variants.{AbortedOutcome, CommittedOutcome}
use Rattle.protocol.specs.declared.names.ProcessId.{ProcessId}
use Rattle.protocol.specs.declared.names.Ticket.{Ticket}
use Rattle.protocol.specs.declared.names.Txn.{Txn}
use Rattle.protocol.specs.declared.messages.Op.{Op}
use Rattle.protocol.specs.declared.messages.Envelope.{Envelope}
use Rattle.protocol.specs.declared.messages.Message.{Message}
use Rattle.protocol.specs.declared.messages.Message.TheVariants.{Join, Joined, Work, Prepare, Yes, No, Read, Commit, Abort, Ack, Inquire}
use Rattle.protocol.specs.Names.{same_case, same_ticket, same_txn, child_case}
use Rattle.protocol.specs.NameLaws.{names, same_case-refl}
use Rattle.protocol.specs.Records.{in_list}
use Rattle.protocol.specs.Memory.{works_of}
use Rattle.protocol.specs.CoordinatorRows.{Seat, post, posted_up, each, to_child}
use Rattle.protocol.specs.Outcomes.{sent, is_joined_message, is_read_message, is_yes_message, is_outcome_message}
use Rattle.protocol.specs.Standings.{CoordinatorView}
use Rattle.proof_pairs.specs.readings.ReadingOf.{Wire, wire, no_wire, gives_case, is_prepare_message, is_no_message, is_ack_message, is_inquiry_message}
use Rattle.proof_pairs.proofs.readings.Lists.{sent-append}
use Rattle.protocol.specs.declared.messages.Finding.{Finding}

pub sent-cons : (q : Message → Bool) (l : Envelope) (ls : List Envelope) → sent q (l ∷ ls)
    ≡ (q l.message || sent q ls)
unfolding sent
sent-cons q l ls = refl

pub sent-none : (q : Message → Bool) → sent q [] ≡ false
unfolding sent
sent-none q = refl

pub or-false : (a : Bool) → (a || false) ≡ a
or-false a = grind arith

and-false : (a : Bool) → (a && false) ≡ false
and-false a = grind arith

pub same_children : (x y : Txn) (u t : Ticket)
    → same_case (child_case x u) (child_case y t) ≡ (same_txn x y && same_ticket u t)
same_children x y u t = grind (arith, names)

-- The same message to each of these tickets.

sent-each : (s : Seat) (m : Case → Message) (t : Ticket) (ts : List Ticket) (q : Message → Bool) (b : Bool)
    → ((u : Ticket) → q (m (child_case s.own.txn u)) ≡ (b && same_ticket u t))
    → sent q (each s m ts) ≡ (b && in_list ts t)
unfolding sent in_list
sent-each s m t [] q b f = none b
  where
    none : (b : Bool) → false ≡ (b && false)
    none true = refl
    none false = refl
sent-each s m t (u ∷ us) q b f =
    ap (λ x. x || list_any (λ e. q e.message) (map (to_child s m) us)) (f u)
    ∙ (ap (λ x. (b && same_ticket u t) || x) (sent-each s m t us q b f)
    ∙ spread b (same_ticket u t) (list_any (λ v. same_ticket v t) us))
  where
    spread : (b x y : Bool) → ((b && x) || (b && y)) ≡ (b && (x || y))
    spread b x y = grind arith

sent-each_none : (s : Seat) (m : Case → Message) (ts : List Ticket) (q : Message → Bool)
    → ((d : Case) → q (m d) ≡ false) → sent q (each s m ts) ≡ false
unfolding sent
sent-each_none s m [] q f = refl
sent-each_none s m (u ∷ us) q f = ap (λ b. b || list_any (λ e. q e.message) (map (to_child s m) us))
    (f (child_case s.own.txn u)) ∙ sent-each_none s m us q f

-- PREPARE to each
abbrev prepares_to : Seat → CoordinatorView → List Ticket → List Envelope
prepares_to s v ts = map (λ t. post s.me t.child (Prepare (child_case s.own.txn t) (works_of v.works t))) ts

sent-prepares : (s : Seat) (v : CoordinatorView) (t : Ticket) (ts : List Ticket) (q : Message → Bool)
    (b : Bool)
    → ((u : Ticket) → q (Prepare (child_case s.own.txn u) (works_of v.works u)) ≡ (b && same_ticket u t))
    → sent q (prepares_to s v ts) ≡ (b && in_list ts t)
unfolding sent in_list
sent-prepares s v t [] q b f = none b
  where
    none : (b : Bool) → false ≡ (b && false)
    none true = refl
    none false = refl
sent-prepares s v t (u ∷ us) q b f =
    ap (λ x. x || list_any (λ e. q e.message) (prepares_to s v us)) (f u)
    ∙ (ap (λ x. (b && same_ticket u t) || x) (sent-prepares s v t us q b f)
    ∙ spread b (same_ticket u t) (list_any (λ w. same_ticket w t) us))
  where
    spread : (b x y : Bool) → ((b && x) || (b && y)) ≡ (b && (x || y))
    spread b x y = grind arith

sent-prepares_none : (s : Seat) (v : CoordinatorView) (ts : List Ticket) (q : Message → Bool)
    → ((u : Ticket) → q (Prepare (child_case s.own.txn u) (works_of v.works u)) ≡ false)
    → sent q (prepares_to s v ts) ≡ false
unfolding sent
sent-prepares_none s v [] q f = refl
sent-prepares_none s v (u ∷ us) q f = ap (λ b. b || list_any (λ e. q e.message) (prepares_to s v us)) (f u)
    ∙ sent-prepares_none s v us q f

module _ (c : Case) (t : Ticket) (net : List Envelope) where
  abbrev v : Wire
  v = wire c t net

  abbrev behind : List Envelope → Wire
  behind ls = wire c t (net ++ ls)

  abbrev pub Silent : List Envelope → Type 0
  Silent ls = wire c t ls ≡ no_wire

  -- the two parts, one after the other
  abbrev both : Wire → Wire → Wire
  both x y = record {
    issued = x.issued || y.issued;
    given = x.given || y.given;
    read_up = x.read_up || y.read_up;
    prepare = x.prepare || y.prepare;
    yes = x.yes || y.yes;
    no = x.no || y.no;
    read = x.read || y.read;
    commit = x.commit || y.commit;
    abort = x.abort || y.abort;
    ack = x.ack || y.ack;
    inquire = x.inquire || y.inquire;
  }

  pub wire-append : (ls : List Envelope) → behind ls ≡ both (wire c t ls) v
  wire-append ls = simp (sent-append)

  pub wire-silent : (ls : List Envelope) → Silent ls → behind ls ≡ v
  wire-silent ls e = wire-append ls ∙ ap (λ (x : Wire). both x v) e

  pub wire-nothing : behind [] ≡ v
  wire-nothing = wire-silent [] (simp (sent-none))

  -- Up.

  module _ (me : ProcessId) (parent : Option ProcessId) (e : Case)
      (other : same_case e (child_case c.txn t) ≡ false) where
    pub silent-yes : Silent (posted_up me parent (Yes e))
    silent-yes = at parent
      where
        at : (o : Option ProcessId) → Silent (posted_up me o (Yes e))
        at None = simp (sent-none)
        at (Some p) = simp (sent-cons, sent-none, other)

    pub silent-no : Silent (posted_up me parent (No e))
    silent-no = at parent
      where
        at : (o : Option ProcessId) → Silent (posted_up me o (No e))
        at None = simp (sent-none)
        at (Some p) = simp (sent-cons, sent-none, other)

    pub silent-ack : (o : Outcome) (fs : List Finding) → Silent (posted_up me parent (Ack e o fs))
    silent-ack u fs = at parent
      where
        at : (o : Option ProcessId) → Silent (posted_up me o (Ack e u fs))
        at None = simp (sent-none)
        at (Some p) = simp (sent-cons, sent-none, other)

    pub silent-inquire : Silent (posted_up me parent (Inquire e))
    silent-inquire = at parent
      where
        at : (o : Option ProcessId) → Silent (posted_up me o (Inquire e))
        at None = simp (sent-none)
        at (Some p) = simp (sent-cons, sent-none, other)

    pub silent-read : same_case e c ≡ false → Silent (posted_up me parent (Read e))
    silent-read f = at parent
      where
        at : (o : Option ProcessId) → Silent (posted_up me o (Read e))
        at None = simp (sent-none)
        at (Some p) = simp (sent-cons, sent-none, other, f)

  pub wire-read_up : (me p : ProcessId) → same_case c (child_case c.txn t) ≡ false
      → behind (posted_up me (Some p) (Read c)) ≡ record v { read_up = true }
  wire-read_up me p other = simp (sent-append, sent-cons, sent-none, other, same_case-refl)

  -- Down.

  pub silent-join : (me q : ProcessId) (e : Case) → Silent (post me q (Join e) ∷ [])
  silent-join me q e = simp (sent-cons, sent-none)

  pub wire-commits : (s : Seat) (ts : List Ticket) (b : Bool) → (same_txn s.own.txn c.txn && in_list ts t) ≡ b
      → behind (each s Commit ts) ≡ record v { commit = b || v.commit }
  wire-commits s ts b e =
      let joined : sent (is_joined_message c t) (each s Commit ts)
      ≡ false = sent-each_none s Commit ts (is_joined_message c t) (λ d. refl) in
      let given : sent (gives_case c) (each s Commit ts)
      ≡ false = sent-each_none s Commit ts (gives_case c) (λ d. refl) in
      let read_up : sent (is_read_message c) (each s Commit ts)
      ≡ false = sent-each_none s Commit ts (is_read_message c) (λ d. refl) in
      let prepare : sent (is_prepare_message (child_case c.txn t)) (each s Commit ts)
      ≡ false = sent-each_none s Commit ts (is_prepare_message (child_case c.txn t)) (λ d. refl) in
      let yes' : sent (is_yes_message (child_case c.txn t)) (each s Commit ts)
      ≡ false = sent-each_none s Commit ts (is_yes_message (child_case c.txn t)) (λ d. refl) in
      let no' : sent (is_no_message (child_case c.txn t)) (each s Commit ts)
      ≡ false = sent-each_none s Commit ts (is_no_message (child_case c.txn t)) (λ d. refl) in
      let read : sent (is_read_message (child_case c.txn t)) (each s Commit ts)
      ≡ false = sent-each_none s Commit ts (is_read_message (child_case c.txn t)) (λ d. refl) in
      let commit : sent (is_outcome_message CommittedOutcome (child_case c.txn t)) (each s Commit ts)
      ≡ b = sent-each s Commit t ts (is_outcome_message CommittedOutcome (child_case c.txn t))
      (same_txn s.own.txn c.txn)
      (λ u. same_children s.own.txn c.txn u t) ∙ e in
      let abort : sent (is_outcome_message AbortedOutcome (child_case c.txn t)) (each s Commit ts)
      ≡ false = sent-each_none s Commit ts (is_outcome_message AbortedOutcome (child_case c.txn t))
      (λ d. refl) in
      let ack : sent (is_ack_message (child_case c.txn t)) (each s Commit ts)
      ≡ false = sent-each_none s Commit ts (is_ack_message (child_case c.txn t)) (λ d. refl) in
      let inquire : sent (is_inquiry_message (child_case c.txn t)) (each s Commit ts)
      ≡ false = sent-each_none s Commit ts (is_inquiry_message (child_case c.txn t)) (λ d. refl) in
      simp (sent-append, joined, given, read_up, prepare, yes', no', read, commit, abort, ack, inquire)

  pub wire-aborts : (s : Seat) (ts : List Ticket) (b : Bool) → (same_txn s.own.txn c.txn && in_list ts t) ≡ b
      → behind (each s Abort ts) ≡ record v { abort = b || v.abort }
  wire-aborts s ts b e =
      let joined : sent (is_joined_message c t) (each s Abort ts)
      ≡ false = sent-each_none s Abort ts (is_joined_message c t) (λ d. refl) in
      let given : sent (gives_case c) (each s Abort ts)
      ≡ false = sent-each_none s Abort ts (gives_case c) (λ d. refl) in
      let read_up : sent (is_read_message c) (each s Abort ts)
      ≡ false = sent-each_none s Abort ts (is_read_message c) (λ d. refl) in
      let prepare : sent (is_prepare_message (child_case c.txn t)) (each s Abort ts)
      ≡ false = sent-each_none s Abort ts (is_prepare_message (child_case c.txn t)) (λ d. refl) in
      let yes' : sent (is_yes_message (child_case c.txn t)) (each s Abort ts)
      ≡ false = sent-each_none s Abort ts (is_yes_message (child_case c.txn t)) (λ d. refl) in
      let no' : sent (is_no_message (child_case c.txn t)) (each s Abort ts)
      ≡ false = sent-each_none s Abort ts (is_no_message (child_case c.txn t)) (λ d. refl) in
      let read : sent (is_read_message (child_case c.txn t)) (each s Abort ts)
      ≡ false = sent-each_none s Abort ts (is_read_message (child_case c.txn t)) (λ d. refl) in
      let commit : sent (is_outcome_message CommittedOutcome (child_case c.txn t)) (each s Abort ts)
      ≡ false = sent-each_none s Abort ts (is_outcome_message CommittedOutcome (child_case c.txn t))
      (λ d. refl) in
      let abort : sent (is_outcome_message AbortedOutcome (child_case c.txn t)) (each s Abort ts)
      ≡ b = sent-each s Abort t ts (is_outcome_message AbortedOutcome (child_case c.txn t))
      (same_txn s.own.txn c.txn)
      (λ u. same_children s.own.txn c.txn u t) ∙ e in
      let ack : sent (is_ack_message (child_case c.txn t)) (each s Abort ts)
      ≡ false = sent-each_none s Abort ts (is_ack_message (child_case c.txn t)) (λ d. refl) in
      let inquire : sent (is_inquiry_message (child_case c.txn t)) (each s Abort ts)
      ≡ false = sent-each_none s Abort ts (is_inquiry_message (child_case c.txn t)) (λ d. refl) in
      simp (sent-append, joined, given, read_up, prepare, yes', no', read, commit, abort, ack, inquire)

  pub wire-prepares : (s : Seat) (w : CoordinatorView) (ts : List Ticket) (b : Bool)
      → (same_txn s.own.txn c.txn && in_list ts t) ≡ b
      → behind (prepares_to s w ts) ≡ record v { prepare = b || v.prepare }
  wire-prepares s w ts b e =
      let joined : sent (is_joined_message c t) (prepares_to s w ts)
      ≡ false = sent-prepares_none s w ts (is_joined_message c t) (λ d. refl) in
      let given : sent (gives_case c) (prepares_to s w ts)
      ≡ false = sent-prepares_none s w ts (gives_case c) (λ d. refl) in
      let read_up : sent (is_read_message c) (prepares_to s w ts)
      ≡ false = sent-prepares_none s w ts (is_read_message c) (λ d. refl) in
      let prepare : sent (is_prepare_message (child_case c.txn t)) (prepares_to s w ts)
      ≡ b = sent-prepares s w t ts (is_prepare_message (child_case c.txn t)) (same_txn s.own.txn c.txn)
      (λ u. same_children s.own.txn c.txn u t) ∙ e in
      let yes' : sent (is_yes_message (child_case c.txn t)) (prepares_to s w ts)
      ≡ false = sent-prepares_none s w ts (is_yes_message (child_case c.txn t)) (λ d. refl) in
      let no' : sent (is_no_message (child_case c.txn t)) (prepares_to s w ts)
      ≡ false = sent-prepares_none s w ts (is_no_message (child_case c.txn t)) (λ d. refl) in
      let read : sent (is_read_message (child_case c.txn t)) (prepares_to s w ts)
      ≡ false = sent-prepares_none s w ts (is_read_message (child_case c.txn t)) (λ d. refl) in
      let commit : sent (is_outcome_message CommittedOutcome (child_case c.txn t)) (prepares_to s w ts)
      ≡ false = sent-prepares_none s w ts (is_outcome_message CommittedOutcome (child_case c.txn t))
      (λ d. refl) in
      let abort : sent (is_outcome_message AbortedOutcome (child_case c.txn t)) (prepares_to s w ts)
      ≡ false = sent-prepares_none s w ts (is_outcome_message AbortedOutcome (child_case c.txn t))
      (λ d. refl) in
      let ack : sent (is_ack_message (child_case c.txn t)) (prepares_to s w ts)
      ≡ false = sent-prepares_none s w ts (is_ack_message (child_case c.txn t)) (λ d. refl) in
      let inquire : sent (is_inquiry_message (child_case c.txn t)) (prepares_to s w ts)
      ≡ false = sent-prepares_none s w ts (is_inquiry_message (child_case c.txn t)) (λ d. refl) in
      simp (sent-append, joined, given, read_up, prepare, yes', no', read, commit, abort, ack, inquire)

  -- To one.

  pub wire-commit : (me q : ProcessId) (x : Txn) (u : Ticket) (b : Bool)
      → same_case (child_case x u) (child_case c.txn t) ≡ b
      → behind (post me q (Commit (child_case x u)) ∷ []) ≡ record v { commit = b || v.commit }
  wire-commit me q x u b e = simp (sent-append, sent-cons, sent-none, e, or-false)

  pub wire-abort : (me q : ProcessId) (x : Txn) (u : Ticket) (b : Bool)
      → same_case (child_case x u) (child_case c.txn t) ≡ b
      → behind (post me q (Abort (child_case x u)) ∷ []) ≡ record v { abort = b || v.abort }
  wire-abort me q x u b e = simp (sent-append, sent-cons, sent-none, e, or-false)

  pub wire-joined : (me q : ProcessId) (d : Case) (u : Ticket) (b : Bool) → same_ticket u t ≡ false
      → same_case (child_case d.txn u) c ≡ b
      → behind (post me q (Joined d u) ∷ []) ≡ record v { given = b || v.given }
  wire-joined me q d u b e f = simp (sent-append, sent-cons, sent-none, e, f, and-false, or-false)

  pub silent-work : (me q : ProcessId) (e : Case) (l : ℕ) (op : Op) → Silent (post me q (Work e l op) ∷ [])
  silent-work me q e l op = simp (sent-cons, sent-none)

-- what is silent may be before anything
pub silent_before : (c : Case) (t : Ticket) (net xs ys : List Envelope) → Silent c t net xs
    → wire c t (net ++ (xs ++ ys)) ≡ wire c t (net ++ ys)
silent_before c t net xs ys e =
    let q = ap (λ ls. wire c t ls) (sym (append_assoc net xs ys)) in
    q ∙ (wire-append c t (net ++ xs) ys
    ∙ (ap (λ (x : Wire). both c t net (wire c t ys) x) (wire-silent c t net xs e)
    ∙ sym (wire-append c t net ys)))
