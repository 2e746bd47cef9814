-- A ticket's number is given once, before and after restarts: at each process, over every run.
use Rattle.std.proofs.Common.{◌≡◌, ◌∙◌, ◌≤◌, ◌<◌, ◌⊎◌, inl, inr, ◌+◌, ℕ, zero, suc, Bool, true, false, Option, Some, None, List, [], ◌++◌, refl, sym, ap, subst, arith}
use Rattle.std.proofs.Math.Nat.{le_trans, le_refl}
use Rattle.std.proofs.lemmas.List.{append-nil}
use Rattle.protocol.specs.declared.names.Case.{Case}
use Rattle.protocol.specs.declared.names.ProcessId.{ProcessId}
use Rattle.protocol.specs.declared.names.Ticket.{Ticket}
use Rattle.protocol.specs.declared.messages.Envelope.{Envelope}
use Rattle.protocol.specs.declared.events.Input.{Input}
use Rattle.protocol.specs.Records.{boot_of}
use Rattle.protocol.specs.Nodes.{Place, Role, AtRoot, Below, AtLeaf, Node, Heard, Effect, kept, after}
use Rattle.protocol.specs.Memory.{Memory, memory_of, active_ticket, next_ticket, fresh_memory}
use Rattle.protocol.specs.Standings.{some_case}
use Rattle.protocol.specs.Reactions.{reacts, Does}
use Rattle.protocol.specs.Restarts.{left_of, reopens, restarted, trims, trim_fails}
use Rattle.protocol.specs.Outcomes.{sent, is_joined_message}
use Rattle.protocol.specs.World.{Move}
use Rattle.proof_pairs.proofs.readings.Lists.{sent-append, sent-nil}
use Rattle.proof_pairs.proofs.readings.Memories.{memory_of-heard}
use Rattle.proof_pairs.specs.turns.Steps.{StepOf, heard_in, handled, failed_in, passed, failed_passing, reopened, failed_reopening, trims_log, failed_trimming, TurnOf}
use Rattle.proof_pairs.proofs.turns.Steps.{turn_of}
use Rattle.proof_processes.specs.Lasts.{logs_of}
use Rattle.proof_processes.specs.Numbers.{IsIssuer}
use Rattle.proof_processes.specs.WorldHolds.{IsGivenOut}
use Rattle.proof_processes.proofs.Tests.{either, left, right}
use Rattle.proof_processes.proofs.Boots.{Booted, turn_none, forced_rises, restart_rises, trimmed_boot, trims_memory, boot_written, forced_below}
use Rattle.proof_processes.proofs.Selves.{Self, self_of, self_same, self_remembers, next_of, joins_self, starts_for, issuer_self, self_after}
use Rattle.proof_processes.proofs.Tickets.{AllActive, active_found, active_after, active_all, given_grows, starts_at, IsNext, Answers, joined_answers, join_said}
use Rattle.proof_processes.proofs.Promises.{quiet_resumes}

-- The net.

pub sent_old : (d : Case) (t : Ticket) (net ls : List Envelope) → sent (is_joined_message d t) net ≡ true
    → sent (is_joined_message d t) (net ++ ls) ≡ true
sent_old d t net ls e = sent-append (is_joined_message d t) net ls ∙ right _ _ e

sent_new : (d : Case) (t : Ticket) (net ls : List Envelope) → sent (is_joined_message d t) ls ≡ true
    → sent (is_joined_message d t) (net ++ ls) ≡ true
sent_new d t net ls e = sent-append (is_joined_message d t) net ls ∙ left _ _ e

sent_either : (d : Case) (t : Ticket) (net ls : List Envelope)
    → sent (is_joined_message d t) (net ++ ls) ≡ true
    → (sent (is_joined_message d t) ls ≡ true) ⊎ (sent (is_joined_message d t) net ≡ true)
sent_either d t net ls e = either _ _ (sym (sent-append (is_joined_message d t) net ls) ∙ e)

nothing_sent : (d : Case) (t : Ticket) → sent (is_joined_message d t) [] ≡ true → ⊥
unfolding sent
nothing_sent d t e = absurd (cc)

-- what a process remembers of itself
abbrev pub self_at : Place → Node → Self
self_at place n = self_of (memory_of place n (some_case place))

-- What the net knows of the tickets of a process: each has a number that it gave out, also where it failed,
-- and each active one was sent.
pub record Issued (place : Place) (net : List Envelope) (n : Node) : Type 0 where
  pub given_once : n.failed ≡ false → (d : Case) (t : Ticket) → t.child ≡ place.me
      → sent (is_joined_message d t) net ≡ true
      → IsGivenOut t.boot t.number (boot_of (kept n)) (self_at place n).given
  pub given_before : (d : Case) (t : Ticket) → t.child ≡ place.me → sent (is_joined_message d t) net ≡ true
      → t.boot ≤ boot_of n.forced
  pub active_was_sent : n.failed ≡ false
      → AllActive (λ d t. sent (is_joined_message d t) net ≡ true) (self_at place n).active

-- A step of another process.
pub issued_elsewhere : (place : Place) (net ls : List Envelope) (n : Node) → Issued place net n
    → ((d : Case) (t : Ticket) → sent (is_joined_message d t) ls ≡ true → t.child ≡ place.me → ⊥)
    → Issued place (net ++ ls) n
issued_elsewhere place net ls n h none = record {
  given_once = λ up d t own e. elim (sent_either d t net ls e) [
    | inl new ↦ absurd (none d t new own)
    | inr old ↦ h.given_once up d t own old
  ];
  given_before = λ d t own e. elim (sent_either d t net ls e) [
    | inl new ↦ absurd (none d t new own)
    | inr old ↦ h.given_before d t own old
  ];
  active_was_sent = λ up. active_all _ _ (λ d t. sent_old d t net ls) (self_at place n).active
      (h.active_was_sent up);
}

-- the next ticket was given to no case yet
pub next_is_new : {A : Type 0} (place : Place) (net : List Envelope) (n : Node) → Issued place net n
    → n.failed ≡ false
    → (d x : Case) → sent (is_joined_message d
    (next_ticket place.me (boot_of (kept n)) (memory_of place n x))) net ≡ true
    → A
next_is_new {A} place net n h up d x e =
    let t = next_ticket place.me (boot_of (kept n)) (memory_of place n x) in
    not_again (boot_of (kept n)) (self_at place n).given t.number
    (ap (λ (s : Self). s.given + 1) (self_same place n x (some_case place))) (h.given_once up d t refl e)
  where
    not_again : {A : Type 0} (boot given number : ℕ) → number ≡ given + 1
        → IsGivenOut boot number boot given → A
    not_again boot given number e (inl f) = absurd (omega (arith, f))
    not_again boot given number e (inr f) = absurd (omega (arith, e, f.1))

more_given : (boot number now a b : ℕ) → IsGivenOut boot number now a → a ≤ b → IsGivenOut boot number now b
more_given boot number now a b (inl e) f = inl e
more_given boot number now a b (inr e) f = inr (e.0, le_trans e.1 f)

-- the next ticket is counted
counts_next : (me : ProcessId) (boot : ℕ) (s : Self) (d : Case) (b : Bool) (o : Option Ticket) → b ≡ true
    → o ≡ None
    → (starts_for b s (joins_self me boot s d o)).given ≡ s.given + 1
counts_next me boot s d true None e f = refl
counts_next me boot s d true (Some t) e f = absurd (cc)
counts_next me boot s d false o e f = absurd (cc)

-- A step of its own.
module _ (place : Place) (net : List Envelope) (n : Node) (issuer : IsIssuer place.role)
    (booted : Booted (logs_of n))
    (issued : Issued place net n) where
  abbrev me : ProcessId
  me = place.me

  abbrev self : Self
  self = self_at place n

  -- what nothing but the histories and the forced front has moved on
  silent_before : (k : Node) → boot_of n.forced ≤ boot_of k.forced → (d : Case) (t : Ticket) → t.child ≡ me
      → sent (is_joined_message d t) (net ++ []) ≡ true → t.boot ≤ boot_of k.forced
  silent_before k b d t own e =
      le_trans (issued.given_before d t own (sym (sent-nil (is_joined_message d t) net) ∙ e)) b

  fallen : (k : Node) → k.failed ≡ true → boot_of n.forced ≤ boot_of k.forced → Issued place (net ++ []) k
  fallen k down b = record {
    given_once = λ up. absurd (let x = sym down ∙ up in cc);
    given_before = silent_before k b;
    active_was_sent = λ up. absurd (let x = sym down ∙ up in cc);
  }

  -- An input.

  module _ (h : Heard) (e : Effect) (r : reacts place n h ≡ Does e) (turn : TurnOf place n h e) where
    abbrev k : Node
    k = after n h e

    same_boot : boot_of (kept k) ≡ boot_of (kept n)
    same_boot = boot_written n h e (turn_none place.role place n h e turn.turn)

    abbrev starts : Bool
    starts = starts_at place.role h

    -- what it then remembers of itself
    self_moves : (role : Role) → IsIssuer role → (s : Self)
        → self_after me role (boot_of (kept n)) s h
        ≡ issuer_self me (boot_of (kept n)) (starts_at role h) s h.input
    self_moves (Below p) i s = refl
    self_moves (AtLeaf p) i s = refl
    self_moves AtRoot i s = absurd i

    pub self_then : self_at place k ≡ issuer_self me (boot_of (kept n)) starts self h.input
    self_then =
        ap self_of (memory_of-heard place n h e (some_case place) same_boot)
        ∙ (self_remembers me (boot_of (kept n)) (some_case place) place.role
        (memory_of place n (some_case place)) h
        ∙ self_moves place.role issuer self)

    -- the same of any case
    self_of_case : (d : Case) → self_of (memory_of place n d) ≡ self
    self_of_case d = self_same place n d (some_case place)

    next_is : (d : Case) → next_ticket me (boot_of (kept n)) (memory_of place n d)
        ≡ next_of me (boot_of (kept n)) self
    next_is d = ap (λ (s : Self). next_of me (boot_of (kept n)) s) (self_of_case d)

    active_is : (d : Case) → (memory_of place n d).active ≡ self.active
    active_is d = ap (λ (s : Self). s.active) (self_of_case d)

    given_more : self.given ≤ (self_at place k).given
    given_more = subst (λ (s : Self). self.given ≤ s.given) (sym self_then)
        (given_grows me (boot_of (kept n)) starts self h.input)

    -- JOINED of a ticket: it is active, and was sent before, or it is the next
    record New (d : Case) (t : Ticket) : Type 0 where
      next : t ≡ next_of me (boot_of (kept n)) self
      counted : (self_at place k).given ≡ self.given + 1

    counts : (d : Case) (t : Ticket) → Answers place.role place n h d t → IsNext place.role place n h d t
        → New d t
    counts d t a x = record {
      next = x.next ∙ next_is d;
      counted = ap (λ (s : Self). s.given) self_then
          ∙ (ap (λ (i : Input). (issuer_self me (boot_of (kept n)) starts self i).given) a.hears
          ∙ counts_next me (boot_of (kept n)) self d starts (active_ticket self.active d) x.starts
          (ap (λ l. active_ticket l d) (sym (active_is d)) ∙ x.none_active));
    }

    said : (d : Case) (t : Ticket) → sent (is_joined_message d t) e.messages ≡ true
        → (sent (is_joined_message d t) net ≡ true) ⊎ New d t
    said d t f =
        let a = joined_answers place n h d t place.role e turn.turn f in
        elim a.answer [
          | inl active ↦ inl (active_found (λ x u. sent (is_joined_message x u) net ≡ true) self.active d t
              (issued.active_was_sent turn.up) (ap (λ l. active_ticket l d) (sym (active_is d)) ∙ active))
          | inr next ↦ inr (counts d t a next)
        ]

    numbered : (d : Case) (t : Ticket) → New d t
        → IsGivenOut t.boot t.number (boot_of (kept n)) (self_at place k).given
    numbered d t x = inr (
      ap (λ (u : Ticket). u.boot) x.next,
      subst (λ y. t.number ≤ y) (sym x.counted)
          (subst (λ y. y ≤ self.given + 1) (sym (ap (λ (u : Ticket). u.number) x.next))
          (le_refl (self.given + 1))),
    )

    old_number : (d : Case) (t : Ticket) → t.child ≡ me → sent (is_joined_message d t) net ≡ true
        → IsGivenOut t.boot t.number (boot_of (kept n)) (self_at place k).given
    old_number d t own f =
        more_given t.boot t.number (boot_of (kept n)) self.given (self_at place k).given
        (issued.given_once turn.up d t own f) given_more

    once : (d : Case) (t : Ticket) → t.child ≡ me → sent (is_joined_message d t) (net ++ e.messages) ≡ true
        → IsGivenOut t.boot t.number (boot_of (kept n)) (self_at place k).given
    once d t own f = elim (sent_either d t net e.messages f) [
      | inl new ↦ elim (said d t new) [ inl old ↦ old_number d t own old | inr x ↦ numbered d t x ]
      | inr old ↦ old_number d t own old
    ]

    before : boot_of n.forced ≤ boot_of k.forced → (d : Case) (t : Ticket) → t.child ≡ me
        → sent (is_joined_message d t) (net ++ e.messages) ≡ true → t.boot ≤ boot_of k.forced
    before b d t own f = elim (sent_either d t net e.messages f) [
      | inl new ↦ elim (said d t new) [
        | inl old ↦ le_trans (issued.given_before d t own old) b
        | inr x ↦ le_trans (subst (λ y. t.boot ≤ y)
            (ap (λ (u : Ticket). u.boot) x.next ∙ booted.boot_is_forced turn.up) (le_refl t.boot)) b
      ]
      | inr old ↦ le_trans (issued.given_before d t own old) b
    ]

    active_then : AllActive (λ d t. sent (is_joined_message d t) (net ++ e.messages) ≡ true)
        (self_at place k).active
    active_then =
        subst (λ (s : Self). AllActive (λ d t. sent (is_joined_message d t) (net ++ e.messages) ≡ true)
        s.active)
        (sym self_then)
        (active_after (λ d t. sent (is_joined_message d t) (net ++ e.messages) ≡ true) me
        (boot_of (kept n)) starts self
        h.input
        (active_all _ _ (λ d t. sent_old d t net e.messages) self.active (issued.active_was_sent turn.up))
        (λ j d i none st. subst (λ (u : Ticket). sent (is_joined_message d u) (net ++ e.messages) ≡ true)
        (next_is d)
        (sent_new d (next_ticket me (boot_of (kept n)) (memory_of place n d)) net e.messages
        (join_said place n h e d j issuer i turn.up r
        (ap (λ l. active_ticket l d) (active_is d) ∙ none) st))))

    handles_so : boot_of n.forced ≤ boot_of k.forced → Issued place (net ++ e.messages) k
    handles_so b = record {
      given_once = λ up d t own f. subst (λ y. IsGivenOut t.boot t.number y (self_at place k).given)
          (sym same_boot)
          (once d t own f);
      given_before = before b;
      active_was_sent = λ up. active_then;
    }

  -- A restart.

  fresh_self : (x : Node) → x.heard ≡ [] → self_at place x ≡ self_of fresh_memory
  unfolding memory_of
  fresh_self x e = rw e refl

  resumes_none : (d : Case) (t : Ticket) (ls : List Envelope) → sent (is_joined_message d t) ls ≡ false
      → sent (is_joined_message d t) (net ++ ls) ≡ true → sent (is_joined_message d t) net ≡ true
  resumes_none d t ls none e = elim (sent_either d t net ls e) [
    | inl new ↦ absurd (let x = sym none ∙ new in cc)
    | inr old ↦ old
  ]

  restarts_so : (j : ℕ) (ls : List Envelope) → ((d : Case) (t : Ticket)
      → sent (is_joined_message d t) ls ≡ false)
      → boot_of n.forced ≤ boot_of (restarted place n j).forced
      → Issued place (net ++ ls) (restarted place n j)
  restarts_so j ls none b = record {
    given_once = λ up d t own e. inl
        (later (issued.given_before d t own (resumes_none d t ls (none d t) e))
        (restart_rises place n booted j));
    given_before = λ d t own e. le_trans (issued.given_before d t own (resumes_none d t ls (none d t) e)) b;
    active_was_sent = λ up. subst (λ (s : Self). AllActive
        (λ d t. sent (is_joined_message d t) (net ++ ls) ≡ true) s.active)
        (sym (fresh_self (restarted place n j) refl)) tt;
  }
    where
      later : {a b c : ℕ} → a ≤ b → b < c → a < c
      later e f = omega (arith, e, f)

  -- A trim.

  trims_so : Issued place (net ++ []) (trims place n)
  trims_so = record {
    given_once = λ up d t own e. subst (λ y. IsGivenOut t.boot t.number y
        (self_at place (trims place n)).given)
        (sym (ap boot_of (append-nil (trims place n).forced) ∙ trimmed_boot place.role (kept n)))
        (subst (λ (m : Memory). IsGivenOut t.boot t.number (boot_of (kept n)) m.given)
        (sym (trims_memory place n (some_case place)))
        (issued.given_once up d t own (sym (sent-nil (is_joined_message d t) net) ∙ e)));
    given_before = silent_before (trims place n)
        (subst (λ y. boot_of n.forced ≤ y) (sym (trimmed_boot place.role (kept n)))
        (forced_below (logs_of n) booted));
    active_was_sent = λ up. subst (λ (m : Memory). AllActive
        (λ d t. sent (is_joined_message d t) (net ++ []) ≡ true) m.active)
        (sym (trims_memory place n (some_case place)))
        (active_all _ _ (λ d t. sent_old d t net []) self.active (issued.active_was_sent up));
  }

  trim_failed : (a : ℕ) → (trim_fails place n a).failed ≡ true
  trim_failed zero = refl
  trim_failed (suc a) = refl

  pub still_issued : (m : Move) (e : Effect) (k : Node) → StepOf place n m e k
      → Issued place (net ++ e.messages) k
  still_issued m _ _ (handled i g hp np r) =
      handles_so (heard_in m i) g r (turn_of place n (heard_in m i) g r)
      (forced_rises place n booted m _ _ (handled i g hp np r))
  still_issued m _ _ (failed_in i f g fl hp np r) =
      fallen _ refl (forced_rises place n booted m _ _ (failed_in i f g fl hp np r))
  still_issued m _ _ (passed i hp r) = issued_elsewhere place net [] n issued
      (λ d t e own. nothing_sent d t e)
  still_issued m _ _ (failed_passing i f fl hp r) =
      fallen _ refl (forced_rises place n booted m _ _ (failed_passing i f fl hp r))
  still_issued m _ _ (reopened j hp) =
      restarts_so j _
      (λ d t. quiet_resumes (is_joined_message d t) (λ x. refl) (λ x. refl) (λ x. refl) place.role me
      (left_of n j ++ reopens place.role (left_of n j)))
      (forced_rises place n booted m _ _ (reopened j hp))
  still_issued m _ _ (failed_reopening j f fl hp) =
      fallen _ refl (forced_rises place n booted m _ _ (failed_reopening j f fl hp))
  still_issued m _ _ (trims_log hp up) = trims_so
  still_issued m _ _ (failed_trimming f fl hp up) =
      fallen _ (trim_failed f.appended) (forced_rises place n booted m _ _ (failed_trimming f fl hp up))
