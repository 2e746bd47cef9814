-- A process's messages are of no pair of others.
use Rattle.std.proofs.Common.{◌≡◌, ◌∙◌, ◌&&◌, Bool, true, false, List, refl, sym, ap, subst}
use Rattle.protocol.specs.declared.names.Case.{Case}
use Rattle.protocol_words.specs.Variants.{AbortedOutcome, CommittedOutcome}
use Rattle.protocol.specs.declared.names.ProcessId.{ProcessId}
use Rattle.protocol.specs.declared.names.Ticket.{Ticket}
use Rattle.protocol.specs.declared.messages.Envelope.{Envelope}
use Rattle.protocol.specs.declared.messages.Message.{Message}
use Rattle.protocol.specs.declared.messages.Message.TheVariants.{Join, Joined, Work, Prepare, Yes, No, Read, Commit, Abort, Ack, Inquire}
use Rattle.protocol.specs.declared.trees.TreeProcess.{TreeProcess}
use Rattle.protocol.specs.Names.{child_case, process_of, same_case, same_ticket}
use Rattle.protocol.specs.Nodes.{Role, AtRoot, Below, AtLeaf, Place, role_of}
use Rattle.protocol.specs.Outcomes.{is_joined_message, is_outcome_message, is_read_message, is_yes_message, sent}
use Rattle.proof_pairs.specs.readings.ReadingOf.{gives_case, is_ack_message, is_inquiry_message, is_no_message, is_prepare_message, no_wire, Wire, wire}
use Rattle.proof_processes.specs.ProcessSteps.{Elsewhere}
use Rattle.proof_processes.specs.WorldHolds.{AllGo, GoesBy, GoesDown, GoesUp, IsChildRole, IsPair}
use Rattle.proof_processes.proofs.GivenCases.{same_of}
use Rattle.proof_processes.proofs.Tests.{both}
use Rattle.proof_steps.specs.cascades.Messages.{AllSentBy}
use Rattle.proof_headline.proofs.Grows.{some_message, ticket_is}
use Rattle.proof_headline.proofs.PartSteps.{not_true}

one_parent : (role : Role) (p r : ProcessId) → IsChildRole role p → IsChildRole role r → p ≡ r
one_parent (Below q) p r f g = sym f ∙ g
one_parent (AtLeaf q) p r f g = sym f ∙ g
one_parent AtRoot p r f g = absurd (f)

module _ (tree : List TreeProcess) (me : ProcessId) (ls : List Envelope) (here : AllSentBy me ls)
    (go : AllGo tree ls)
    (c : Case) (t : Ticket) (pair : IsPair tree c t) (parent : process_of c ≡ me → ⊥)
    (child : t.child ≡ me → ⊥) where
  abbrev d : Case
  d = child_case c.txn t

  -- up it sends of its own cases
  own_up : (l : Envelope) (e x : Case) → l.from ≡ me → GoesUp tree l e → same_case e x ≡ true
      → process_of x ≡ me
  own_up l e x f g s = ap process_of (sym (same_of e x s)) ∙ (g.0 ∙ f)

  -- and down to its children
  own_down : (l : Envelope) (e : Case) → l.from ≡ me → GoesDown tree l e
      → same_case e (child_case c.txn t) ≡ true
      → process_of c ≡ me
  own_down l e f g s =
      let at : t.child ≡ l.to = ap process_of (sym (same_of e (child_case c.txn t) s)) ∙ g.0 in
      one_parent (role_of tree t.child) (process_of c) me pair.child
      (subst (λ (q : ProcessId). IsChildRole (role_of tree t.child) q) f
      (subst (λ (q : ProcessId). IsChildRole (role_of tree q) l.from) (sym at) g.1))

  -- no message passes a test that no message of this process passes
  none : (q : Message → Bool)
      → ((l : Envelope) (m : Message) → l.from ≡ me → GoesBy tree l m → q m ≡ true → ⊥) → sent q ls ≡ false
  none q f = not_true (sent q ls) (λ e. let s = some_message tree me q ls here go e in
      f s.envelope s.envelope.message s.here s.goes s.passes)

  -- what one message tells the pair
  abbrev heard : Message → Wire
  heard m = record {
    issued = is_joined_message c t m;
    given = gives_case c m;
    read_up = is_read_message c m;
    prepare = is_prepare_message (child_case c.txn t) m;
    yes = is_yes_message (child_case c.txn t) m;
    no = is_no_message (child_case c.txn t) m;
    read = is_read_message (child_case c.txn t) m;
    commit = is_outcome_message CommittedOutcome (child_case c.txn t) m;
    abort = is_outcome_message AbortedOutcome (child_case c.txn t) m;
    ack = is_ack_message (child_case c.txn t) m;
    inquire = is_inquiry_message (child_case c.txn t) m;
  }

  up_none : (l : Envelope) (e : Case) → l.from ≡ me → GoesUp tree l e → same_case e (child_case c.txn t)
      ≡ false
  up_none l e f g = not_true (same_case e (child_case c.txn t))
      (λ s. child (own_up l e (child_case c.txn t) f g s))

  parent_none : (l : Envelope) (e : Case) → l.from ≡ me → GoesUp tree l e → same_case e c ≡ false
  parent_none l e f g = not_true (same_case e c) (λ s. parent (own_up l e c f g s))

  down_none : (l : Envelope) (e : Case) → l.from ≡ me → GoesDown tree l e
      → same_case e (child_case c.txn t) ≡ false
  down_none l e f g = not_true (same_case e (child_case c.txn t)) (λ s. parent (own_down l e f g s))

  ticket_none : (e : Case) (u : Ticket) → u.child ≡ me → (same_case e c && same_ticket u t) ≡ false
  ticket_none e u f = not_true (same_case e c && same_ticket u t)
      (λ s. child (ap (λ (x : Ticket). x.child) (sym (ticket_is u t (both (same_case e c) (same_ticket u t)
      s).1)) ∙ f))

  given_none : (e : Case) (u : Ticket) → u.child ≡ me → same_case (child_case e.txn u) c ≡ false
  given_none e u f = not_true (same_case (child_case e.txn u) c)
      (λ s. parent (ap process_of (sym (same_of (child_case e.txn u) c s)) ∙ f))

  message_quiet : (l : Envelope) (m : Message) → l.from ≡ me → GoesBy tree l m → heard m ≡ no_wire
  message_quiet l (Join e) f g = refl
  message_quiet l (Work e i op) f g = refl
  message_quiet l (Joined e u) f g = rw (ticket_none e u (g.0 ∙ f), given_none e u (g.0 ∙ f)) refl
  message_quiet l (Prepare e k) f g = rw (down_none l e f g) refl
  message_quiet l (Commit e) f g = rw (down_none l e f g) refl
  message_quiet l (Abort e) f g = rw (down_none l e f g) refl
  message_quiet l (Yes e) f g = rw (up_none l e f g) refl
  message_quiet l (No e) f g = rw (up_none l e f g) refl
  message_quiet l (Ack e o fs) f g = rw (up_none l e f g) refl
  message_quiet l (Inquire e) f g = rw (up_none l e f g) refl
  message_quiet l (Read e) f g = rw (parent_none l e f g, up_none l e f g) refl

  none_by : (q : Message → Bool) (field : Wire → Bool) → ((m : Message) → field (heard m) ≡ q m)
      → field no_wire ≡ false → sent q ls ≡ false
  none_by q field same silent = none q (λ l m f g e.
      let x = sym silent ∙ (sym (ap field (message_quiet l m f g)) ∙ (same m ∙ e)) in cc)

  pub messages_quiet : wire c t ls ≡ no_wire
  messages_quiet = rw (
    none_by (is_joined_message c t) (λ v. v.issued) (λ m. refl) refl,
    none_by (gives_case c) (λ v. v.given) (λ m. refl) refl,
    none_by (is_read_message c) (λ v. v.read_up) (λ m. refl) refl,
    none_by (is_prepare_message (child_case c.txn t)) (λ v. v.prepare) (λ m. refl) refl,
    none_by (is_yes_message (child_case c.txn t)) (λ v. v.yes) (λ m. refl) refl,
    none_by (is_no_message (child_case c.txn t)) (λ v. v.no) (λ m. refl) refl,
    none_by (is_read_message (child_case c.txn t)) (λ v. v.read) (λ m. refl) refl,
    none_by (is_outcome_message CommittedOutcome (child_case c.txn t)) (λ v. v.commit) (λ m. refl) refl,
    none_by (is_outcome_message AbortedOutcome (child_case c.txn t)) (λ v. v.abort) (λ m. refl) refl,
    none_by (is_ack_message (child_case c.txn t)) (λ v. v.ack) (λ m. refl) refl,
    none_by (is_inquiry_message (child_case c.txn t)) (λ v. v.inquire) (λ m. refl) refl,
  ) refl

pub elsewhere : (place : Place) (ls : List Envelope) → AllSentBy place.me ls → AllGo place.tree ls
    → Elsewhere place ls
elsewhere place ls here go = record {
  quiet = λ c t pair parent child. messages_quiet place.tree place.me ls here go c t pair parent child;
}
