-- What a step leaves: the net and the histories only grow.
use Rattle.std.proofs.Common.{◌≡◌, ◌∙◌, ◌⊎◌, inl, inr, ◌||◌, ◌&&◌, ℕ, zero, suc, Bool, true, false, List, [], ◌∷◌, ◌++◌, take, refl, sym, ap, arith}
use Rattle.std.specs.List.{list_any}
use Rattle.std.proofs.lemmas.List.Folds.{list_any-append}
use Rattle.protocol.specs.declared.names.Case.{Case}
use Rattle.protocol.specs.declared.names.ProcessId.{ProcessId}
use Rattle.protocol.specs.declared.names.Ticket.{Ticket}
use Rattle.protocol.specs.declared.messages.Envelope.{Envelope}
use Rattle.protocol.specs.declared.messages.Message.{Message}
use Rattle.protocol.specs.declared.messages.Message.TheVariants.{Join, Joined, Work, Prepare, Yes, No, Read, Commit, Abort, Ack, Inquire}
use Rattle.protocol.specs.declared.records.Record.{Record}
use Rattle.protocol.specs.declared.trees.TreeProcess.{TreeProcess}
use Rattle.protocol.specs.Names.{process_of, same_case, same_ticket}
use Rattle.protocol.specs.NameLaws.{same_ticket_tells}
use Rattle.protocol.specs.Records.{has}
use Rattle.protocol.specs.Nodes.{Role, AtRoot, Below, AtLeaf, Effect, Node, Place, Written, appends, entries_written, is_any_forced, kept}
use Rattle.protocol.specs.Restarts.{crashed, reopens, trim_fails, trimmed}
use Rattle.protocol.specs.Outcomes.{has_accepted, is_joined_message, is_read_message, is_yes_message, sent}
use Rattle.protocol.specs.World.{Move}
use Rattle.proof_pairs.specs.readings.ReadingOf.{gives_case, is_prepare_message}
use Rattle.proof_pairs.proofs.readings.Lists.{sent-append}
use Rattle.proof_pairs.specs.turns.Steps.{StepOf, handled, failed_in, passed, failed_passing, reopened, failed_reopening, trims_log, failed_trimming}
use Rattle.proof_processes.specs.WorldHolds.{AllGo, Cascades, Coordinates, GoesBy, IsFree, Issues, NodeHolds, RoleHolds, gives_other}
use Rattle.proof_processes.proofs.Tests.{both, either, in_second, right}
use Rattle.proof_processes.proofs.GivenCases.{same_of}
use Rattle.proof_steps.specs.cascades.Messages.{AllSentBy}

-- The net.

pub sent_still : (q : Message → Bool) (net ls : List Envelope) → sent q net ≡ true → sent q (net ++ ls) ≡ true
sent_still q net ls e = sent-append q net ls ∙ right _ _ e

pub sent_then : (q : Message → Bool) (net ls : List Envelope) → sent q (net ++ ls) ≡ true
    → (sent q ls ≡ true) ⊎ (sent q net ≡ true)
sent_then q net ls e = either _ _ (sym (sent-append q net ls) ∙ e)

pub free_before : (net ls : List Envelope) (c : Case) (t : Ticket) → IsFree (net ++ ls) c t → IsFree net c t
free_before net ls c t e = second_false _ _ (sym (sent-append (gives_other c t) net ls) ∙ e)
  where
    second_false : (a b : Bool) → (a || b) ≡ false → b ≡ false
    second_false a b e = grind arith

pub go_on : (tree : List TreeProcess) (net ls : List Envelope) → AllGo tree net → AllGo tree ls
    → AllGo tree (net ++ ls)
go_on tree [] ls g h = h
go_on tree (l ∷ net) ls g h = (g.0, go_on tree net ls g.1 h)

-- Who sends.

-- a message that this process sends passes the test
pub record SentHere (tree : List TreeProcess) (q : ProcessId) (test : Message → Bool) : Type 0 where
  pub envelope : Envelope
  pub here : envelope.from ≡ q
  pub goes : GoesBy tree envelope envelope.message
  pub passes : test envelope.message ≡ true

pub some_message : (tree : List TreeProcess) (q : ProcessId) (test : Message → Bool) (ls : List Envelope)
    → AllSentBy q ls
    → AllGo tree ls → sent test ls ≡ true → SentHere tree q test
unfolding sent
some_message tree q test [] f g e = absurd (cc)
some_message tree q test (l ∷ ls) f g e = elim (either (test l.message) (sent test ls) e) [
  | inl now ↦ record { envelope = l; here = f.0; goes = g.0; passes = now }
  | inr rest ↦ some_message tree q test ls f.1 g.1 rest
]

pub ticket_is : (c d : Ticket) → same_ticket c d ≡ true → c ≡ d
ticket_is c d e = elim (same_ticket_tells c d) [ inl t ↦ t.1 | inr g ↦ absurd (let k = g.0 in cc) ]

-- it gave each ticket that it tells of
pub joined_here : (tree : List TreeProcess) (q : ProcessId) (ls : List Envelope) → AllSentBy q ls
    → AllGo tree ls
    → (d : Case) (t : Ticket) → sent (is_joined_message d t) ls ≡ true → t.child ≡ q
joined_here tree q ls f g d t e =
    let s = some_message tree q (is_joined_message d t) ls f g e in
    by_message s.envelope s.envelope.message s.here s.goes s.passes
  where
    by_message : (l : Envelope) (m : Message) → l.from ≡ q → GoesBy tree l m → is_joined_message d t m
        ≡ true → t.child ≡ q
    by_message l (Joined c u) here goes e =
        ap (λ (x : Ticket). x.child) (sym (ticket_is u t (both _ _ e).1)) ∙ (goes.0 ∙ here)
    by_message l (Join c) here goes e = absurd (cc)
    by_message l (Work c i op) here goes e = absurd (cc)
    by_message l (Prepare c k) here goes e = absurd (cc)
    by_message l (Yes c) here goes e = absurd (cc)
    by_message l (No c) here goes e = absurd (cc)
    by_message l (Read c) here goes e = absurd (cc)
    by_message l (Commit c) here goes e = absurd (cc)
    by_message l (Abort c) here goes e = absurd (cc)
    by_message l (Ack c o fs) here goes e = absurd (cc)
    by_message l (Inquire c) here goes e = absurd (cc)

-- it votes for its own cases
pub yes_here : (tree : List TreeProcess) (q : ProcessId) (ls : List Envelope) → AllSentBy q ls → AllGo tree ls
    → (d : Case) → sent (is_yes_message d) ls ≡ true → process_of d ≡ q
yes_here tree q ls f g d e =
    let s = some_message tree q (is_yes_message d) ls f g e in
    by_message s.envelope s.envelope.message s.here s.goes s.passes
  where
    by_message : (l : Envelope) (m : Message) → l.from ≡ q → GoesBy tree l m → is_yes_message d m ≡ true
        → process_of d ≡ q
    by_message l (Yes c) here goes e = ap process_of (sym (same_of c d e)) ∙ (goes.0 ∙ here)
    by_message l (Joined c u) here goes e = absurd (cc)
    by_message l (Join c) here goes e = absurd (cc)
    by_message l (Work c i op) here goes e = absurd (cc)
    by_message l (Prepare c k) here goes e = absurd (cc)
    by_message l (No c) here goes e = absurd (cc)
    by_message l (Read c) here goes e = absurd (cc)
    by_message l (Commit c) here goes e = absurd (cc)
    by_message l (Abort c) here goes e = absurd (cc)
    by_message l (Ack c o fs) here goes e = absurd (cc)
    by_message l (Inquire c) here goes e = absurd (cc)

pub read_here : (tree : List TreeProcess) (q : ProcessId) (ls : List Envelope) → AllSentBy q ls
    → AllGo tree ls
    → (d : Case) → sent (is_read_message d) ls ≡ true → process_of d ≡ q
read_here tree q ls f g d e =
    let s = some_message tree q (is_read_message d) ls f g e in
    by_message s.envelope s.envelope.message s.here s.goes s.passes
  where
    by_message : (l : Envelope) (m : Message) → l.from ≡ q → GoesBy tree l m → is_read_message d m ≡ true
        → process_of d ≡ q
    by_message l (Read c) here goes e = ap process_of (sym (same_of c d e)) ∙ (goes.0 ∙ here)
    by_message l (Joined c u) here goes e = absurd (cc)
    by_message l (Join c) here goes e = absurd (cc)
    by_message l (Work c i op) here goes e = absurd (cc)
    by_message l (Prepare c k) here goes e = absurd (cc)
    by_message l (Yes c) here goes e = absurd (cc)
    by_message l (No c) here goes e = absurd (cc)
    by_message l (Commit c) here goes e = absurd (cc)
    by_message l (Abort c) here goes e = absurd (cc)
    by_message l (Ack c o fs) here goes e = absurd (cc)
    by_message l (Inquire c) here goes e = absurd (cc)

-- Other processes keep what they have.

module _ (place : Place) (net ls : List Envelope) (n : Node)
    (none : (d : Case) (t : Ticket) → sent (is_joined_message d t) ls ≡ true → t.child ≡ place.me → ⊥) where
  still_issues : Issues place net n → Issues place (net ++ ls) n
  still_issues h = record {
    given_once = λ up d t own e. elim (sent_then (is_joined_message d t) net ls e) [
      | inl new ↦ absurd (none d t new own)
      | inr old ↦ h.given_once up d t own old
    ];
    given_before = λ d t own e. elim (sent_then (is_joined_message d t) net ls e) [
      | inl new ↦ absurd (none d t new own)
      | inr old ↦ h.given_before d t own old
    ];
    recorded_is_given = λ d e. let g = h.recorded_is_given d e in (g.0, sent_still (gives_case d) net ls g.1);
    remembered_is_given = λ up d e. let g = h.remembered_is_given up d e in (
      g.0,
      sent_still (gives_case d)
          net ls g.1,
    );
    active_was_joined = λ up d x t e.
        let g = h.active_was_joined up d x t e in (g.0, sent_still (is_joined_message d t) net ls g.1);
    promised_was_asked = λ d e. sent_still (is_prepare_message d) net ls (h.promised_was_asked d e);
  }

  still_coordinates : Coordinates place net n → Coordinates place (net ++ ls) n
  still_coordinates h = record {
    alike = h.alike;
    votes = h.votes;
    remembered_accepted = h.remembered_accepted;
    named_accepted = h.named_accepted;
    voted_accepted = h.voted_accepted;
    accepted_was_joined = λ c t e.
        let g = h.accepted_was_joined c t e in (g.0, sent_still (is_joined_message c t) net ls g.1);
    in_order = h.in_order;
    names = h.names;
    promise_names = h.promise_names;
    open_has_no_commit = h.open_has_no_commit;
  }

  still_cascades : Cascades place net n → Cascades place (net ++ ls) n
  still_cascades h = record {
    accepted_is_given = λ c t e. sent_still (gives_case c) net ls (h.accepted_is_given c t e);
    issued = h.issued;
    idle_accepts_none = h.idle_accepts_none;
    asked_was_prepared = λ up c e. sent_still (is_prepare_message c) net ls (h.asked_was_prepared up c e);
  }

  still_by_role : (role : Role) → RoleHolds role place net n → RoleHolds role place (net ++ ls) n
  still_by_role AtRoot h = (still_coordinates h.0, h.1)
  still_by_role (Below p) h = (still_coordinates h.0, (still_cascades h.1.0, still_issues h.1.1))
  still_by_role (AtLeaf p) h = (h.0, still_issues h.1)

  -- a step of another process leaves what this one keeps
  pub node_elsewhere : NodeHolds place net n → NodeHolds place (net ++ ls) n
  node_elsewhere h =
      record { lasts = h.lasts; boots = h.boots; self = h.self; role = still_by_role place.role h.role }

-- The histories of one process.

appended_durable : (q : Record → Bool) (n : Node) (ws : List Written) → has q n.durable ≡ true
    → has q (appends n ws).durable ≡ true
appended_durable q n ws e = by_force (is_any_forced ws) refl
  where
    by_force : (b : Bool) → is_any_forced ws ≡ b → has q (appends n ws).durable ≡ true
    by_force true f = rw f (in_second q (entries_written ws) _ (in_second q (kept n) n.durable e))
    by_force false f = rw f e

module _ (place : Place) (m : Move) (q : Record → Bool) where
  -- what stood in the forced front once is not forgotten
  pub durable_still : (n : Node) (e : Effect) (k : Node) → StepOf place n m e k → has q n.durable ≡ true
      → has q k.durable ≡ true
  durable_still n _ _ (handled i g hp np r) e = appended_durable q n g.written e
  durable_still n _ _ (failed_in i f g fl hp np r) e =
      in_second q (take f.forced (n.unforced ++ take f.appended (entries_written g.written))) n.durable e
  durable_still n _ _ (passed i hp r) e = e
  durable_still n _ _ (failed_passing i f fl hp r) e = e
  durable_still n _ _ (reopened j hp) e =
      in_second q (reopens place.role (kept (crashed place n j))) _
      (in_second q (kept (crashed place n j)) n.durable e)
  durable_still n _ _ (failed_reopening j f fl hp) e =
      in_second q (take f.forced ((crashed place n j).unforced ++ take f.appended (reopens place.role (kept
      (crashed place n j)))))
      n.durable e
  durable_still n _ _ (trims_log hp up) e = in_second q (trimmed place.role (kept n)) n.durable e
  durable_still n _ _ (failed_trimming f fl hp up) e = by_front f.appended
    where
      by_front : (j : ℕ) → has q (trim_fails place n j).durable ≡ true
      by_front zero = e
      by_front (suc j) = in_second q (trimmed place.role (kept n)) n.durable e

module _ (place : Place) (m : Move) (c : Case) (t : Ticket) where
  accepts_more : (new old : List (Case × Ticket))
      → list_any (λ a. same_case a.0 c && same_ticket a.1 t) old ≡ true
      → list_any (λ a. same_case a.0 c && same_ticket a.1 t) (new ++ old) ≡ true
  accepts_more new old e = list_any-append (λ a. same_case a.0 c && same_ticket a.1 t) new old ∙ right _ _ e

  -- nor is a ticket that was accepted once
  pub accepted_still : (n : Node) (e : Effect) (k : Node) → StepOf place n m e k → has_accepted n c t ≡ true
      → has_accepted k c t ≡ true
  accepted_still n _ _ (handled i g hp np r) e = accepts_more g.accepts n.accepted e
  accepted_still n _ _ (failed_in i f g fl hp np r) e = accepts_more g.accepts n.accepted e
  accepted_still n _ _ (passed i hp r) e = e
  accepted_still n _ _ (failed_passing i f fl hp r) e = e
  accepted_still n _ _ (reopened j hp) e = e
  accepted_still n _ _ (failed_reopening j f fl hp) e = e
  accepted_still n _ _ (trims_log hp up) e = e
  accepted_still n _ _ (failed_trimming f fl hp up) e = by_front f.appended
    where
      by_front : (j : ℕ) → has_accepted (trim_fails place n j) c t ≡ true
      by_front zero = e
      by_front (suc j) = e
