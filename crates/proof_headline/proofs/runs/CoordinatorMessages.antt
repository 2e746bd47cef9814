-- Where a coordinator's messages go, and of which cases they are.
use Rattle.std.proofs.Common.{◌≡◌, inl, inr, ◌||◌, ℕ, Bool, true, List, [], ◌∷◌, ◌++◌, map, refl, sym, subst, arith}
use Rattle.protocol.specs.declared.names.Case.{Case}
use Rattle.protocol.specs.declared.names.Outcome.{Outcome}
use Rattle.protocol_words.specs.Variants.{AbortedOutcome, CommittedOutcome}
use Rattle.protocol.specs.declared.names.ProcessId.{ProcessId}
use Rattle.protocol.specs.declared.names.Ticket.{Ticket}
use Rattle.protocol.specs.declared.messages.Envelope.{Envelope}
use Rattle.protocol.specs.declared.messages.Message.{Message}
use Rattle.protocol.specs.declared.messages.Message.TheVariants.{Work, Prepare, Yes, No, Read, Commit, Abort, Ack, Inquire}
use Rattle.protocol.specs.declared.trees.TreeProcess.{TreeProcess}
use Rattle.protocol.specs.Names.{child_case, process_of, same_case, same_ticket}
use Rattle.protocol.specs.NameLaws.{same_ticket-refl}
use Rattle.protocol.specs.Records.{in_list}
use Rattle.protocol.specs.Nodes.{role_of}
use Rattle.protocol.specs.Outcomes.{is_joined_message, sent}
use Rattle.protocol.specs.CoordinatorRows.{Seat, each, post, tells_outcome}
use Rattle.proof_pairs.specs.readings.ReadingOf.{gives_case}
use Rattle.proof_processes.specs.WorldHolds.{AboutGiven, AllGo, GoesBy, IsChildRole, is_about}
use Rattle.proof_processes.proofs.GivenCases.{joined_gives, same_of, sent_other}
use Rattle.proof_processes.proofs.PairOf.{is_pair}
use Rattle.proof_processes.proofs.Tests.{either}
use Rattle.proof_headline.proofs.Grows.{sent_still, sent_then}
use Rattle.protocol.specs.declared.messages.Finding.{Finding}

module _ (tree : List TreeProcess) (me : ProcessId) (net : List Envelope) where
  -- a message goes where it belongs, and is of a case that was given
  pub record Well (l : Envelope) (m : Message) : Type 0 where
    pub goes : GoesBy tree l m
    pub given : (d : Case) → is_about d m ≡ true → sent (gives_case d) net ≡ true

  abbrev pub AllWell : List Envelope → Type 0
  AllWell [] = Unit {0}
  AllWell (l ∷ ls) = Well l l.message × AllWell ls

  pub all_go : (ls : List Envelope) → AllWell ls → AllGo tree ls
  all_go [] f = tt
  all_go (l ∷ ls) f = (f.0.goes, all_go ls f.1)

  given_so : (ls : List Envelope) → AllWell ls → (d : Case) → sent (is_about d) ls ≡ true
      → sent (gives_case d) net ≡ true
  unfolding sent
  given_so [] f d e = absurd (cc)
  given_so (l ∷ ls) f d e = elim (either (is_about d l.message) (sent (is_about d) ls) e) [
    | inl now ↦ f.0.given d now
    | inr rest ↦ given_so ls f.1 d rest
  ]

  pub all_given : (ls : List Envelope) → AllWell ls → AboutGiven net → AboutGiven (net ++ ls)
  all_given ls f old d e = sent_still (gives_case d) net ls (elim (sent_then (is_about d) net ls e) [
    | inl new ↦ given_so ls f d new
    | inr before ↦ old d before
  ])

  pub well_both : (xs ys : List Envelope) → AllWell xs → AllWell ys → AllWell (xs ++ ys)
  well_both [] ys f g = g
  well_both (x ∷ xs) ys f g = (f.0, well_both xs ys f.1 g)

  -- A message down, of a ticket that JOINED named to a case of this process.

  -- the ticket is of the case, which is the process's own
  pub record Mine (c : Case) (t : Ticket) : Type 0 where
    pub own : process_of c ≡ me
    pub joined : sent (is_joined_message c t) net ≡ true

  pub of_same : (d e : Case) → sent (gives_case d) net ≡ true → same_case d e ≡ true
      → sent (gives_case e) net ≡ true
  of_same d e g f = subst (λ (x : Case). sent (gives_case x) net ≡ true) (same_of d e f) g

  module _ (all_goes : AllGo tree net) where
    module _ (c : Case) (t : Ticket) (mine : Mine c t) where
      abbrev d : Case
      d = child_case c.txn t

      given : sent (gives_case d) net ≡ true
      given = sent_other (is_joined_message c t) (gives_case d) net (joined_gives c t) mine.joined

      child : IsChildRole (role_of tree t.child) me
      child = subst (λ p. IsChildRole (role_of tree t.child) p) mine.own
          (is_pair tree net c t all_goes mine.joined).child

      pub down_commit : Well (post me t.child (Commit d)) (Commit d)
      down_commit = record { goes = (refl, child); given = λ e f. of_same d e given f }

      pub down_abort : Well (post me t.child (Abort d)) (Abort d)
      down_abort = record { goes = (refl, child); given = λ e f. of_same d e given f }

      pub down_told : (o : Outcome) → Well (post me t.child (tells_outcome o d)) (tells_outcome o d)
      down_told CommittedOutcome = down_commit
      down_told AbortedOutcome = down_abort

      pub down_prepare : (k : ℕ) → Well (post me t.child (Prepare d k)) (Prepare d k)
      down_prepare k = record { goes = (refl, child); given = λ e f. of_same d e given f }

      pub down_work : (k : ℕ) (op : _) → Well (post me t.child (Work d k op)) (Work d k op)
      down_work k op = record { goes = (refl, child); given = λ e f. of_same d e given f }

    listed_first : (u : Ticket) (us : List Ticket) → in_list (u ∷ us) u ≡ true
    unfolding in_list
    listed_first u us = rw (same_ticket-refl u) refl

    listed_rest : (u t : Ticket) (us : List Ticket) → in_list us t ≡ true → in_list (u ∷ us) t ≡ true
    unfolding in_list
    listed_rest u t us e = rw e (or-true (same_ticket u t))
      where
        or-true : (a : Bool) → (a || true) ≡ true
        or-true a = grind arith

    pub each_commit : (s : Seat) → s.me ≡ me → (ts : List Ticket)
        → ((t : Ticket) → in_list ts t ≡ true → Mine s.own t)
        → AllWell (each s Commit ts)
    each_commit s e [] f = tt
    each_commit s e (t ∷ ts) f = (
      subst (λ p. Well (post p t.child (Commit (child_case s.own.txn t)))
          (Commit (child_case s.own.txn t))) (sym e)
          (down_commit s.own t (f t (listed_first t ts))),
      each_commit s e ts (λ u g. f u (listed_rest t u ts g)),
    )

    pub each_abort : (s : Seat) → s.me ≡ me → (ts : List Ticket)
        → ((t : Ticket) → in_list ts t ≡ true → Mine s.own t)
        → AllWell (each s Abort ts)
    each_abort s e [] f = tt
    each_abort s e (t ∷ ts) f = (
      subst (λ p. Well (post p t.child (Abort (child_case s.own.txn t))) (Abort (child_case s.own.txn t)))
          (sym e)
          (down_abort s.own t (f t (listed_first t ts))),
      each_abort s e ts (λ u g. f u (listed_rest t u ts g)),
    )

    pub each_prepare : (c : Case) (works : List Ticket → Ticket → ℕ) (ws ts : List Ticket)
        → ((t : Ticket) → in_list ts t ≡ true → Mine c t)
        → AllWell (map (λ t. post me t.child (Prepare (child_case c.txn t) (works ws t))) ts)
    each_prepare c works ws [] f = tt
    each_prepare c works ws (t ∷ ts) f = (
      down_prepare c t (f t (listed_first t ts)) (works ws t),
      each_prepare c works ws ts (λ u g. f u (listed_rest t u ts g)),
    )

    -- A message up, of an own case.

    pub record Own (c : Case) : Type 0 where
      pub own : process_of c ≡ me
      pub given : sent (gives_case c) net ≡ true

    module _ (p : ProcessId) (parent : IsChildRole (role_of tree me) p) (c : Case) (own : Own c) where
      pub up_yes : Well (post me p (Yes c)) (Yes c)
      up_yes = record { goes = (own.own, parent); given = λ e f. of_same c e own.given f }

      pub up_no : Well (post me p (No c)) (No c)
      up_no = record { goes = (own.own, parent); given = λ e f. of_same c e own.given f }

      pub up_read : Well (post me p (Read c)) (Read c)
      up_read = record { goes = (own.own, parent); given = λ e f. of_same c e own.given f }

      pub up_ack : (o : Outcome) (fs : List Finding) → Well (post me p (Ack c o fs)) (Ack c o fs)
      up_ack o fs = record { goes = (own.own, parent); given = λ e f. of_same c e own.given f }

      pub up_inquire : Well (post me p (Inquire c)) (Inquire c)
      up_inquire = record { goes = (own.own, parent); given = λ e f. of_same c e own.given f }
