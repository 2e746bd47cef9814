-- When a manager acknowledges by the second version, and does not report its ticket, no operator decided
-- against it.
use Rattle.std.proofs.Common.{◌≡◌, ◌∙◌, ◌||◌, ◌⊎◌, inl, inr, Bool, true, false, Option, Some, None, List, [], ◌∷◌, refl, sym, ap, subst, arith, if◌then◌else◌, is_some, not}
use Rattle.protocol.specs.declared.names.Case.{Case}
use Rattle.protocol.specs.declared.names.ProcessId.{ProcessId}
use Rattle.protocol.specs.declared.names.Ticket.{Ticket}
use Rattle.protocol.specs.declared.names.Txn.{Txn}
use Rattle.protocol.specs.declared.names.Outcome.{Outcome}
use Rattle.protocol_words.specs.Variants.{AbortedOutcome, CommittedOutcome}
use Rattle.protocol.specs.declared.messages.Finding.{Finding}
use Rattle.protocol.specs.declared.messages.Finding.TheVariants.{Mixed, Unreported}
use Rattle.protocol.specs.declared.messages.Message.{Message}
use Rattle.protocol.specs.declared.messages.Message.TheVariants.{Abort, Ack, Inquire, Joined, No, Read, Yes}
use Rattle.protocol.specs.declared.messages.Envelope.{Envelope}
use Rattle.protocol.specs.declared.records.Record.{Record}
use Rattle.protocol.specs.declared.standings.Standing.{Standing}
use Rattle.protocol.specs.declared.standings.Standing.TheVariants.{Active}
use Rattle.protocol.specs.Names.{process_of, same_outcome}
use Rattle.protocol.specs.NameLaws.{same_case-refl, same_ticket-refl}
use Rattle.protocol.specs.Records.{decision_of, has, in_list, is_decided, is_heuristic, mixed_of, unreported_of}
use Rattle.protocol.specs.Nodes.{AtLeaf, Effect, Heard, Node, Place, Role, Second, Version, First, kept}
use Rattle.protocol.specs.CoordinatorRows.{post, tells_outcome}
use Rattle.protocol.specs.ManagerRows.{is_acknowledged}
use Rattle.protocol.specs.Memory.{Open, Phase, memory_of}
use Rattle.protocol.specs.Outcomes.{sent}
use Rattle.protocol.specs.Standings.{ManagerView, Mark, Promised, Unmarked, decided_against, decided_findings, marked_branch, other_outcome, own_finding, standing_in, standing_of, unknown_findings}
use Rattle.proof_pairs.specs.Reading.{is_live}
use Rattle.proof_pairs.specs.readings.ReadingOf.{gives_case, phase_by}
use Rattle.proof_pairs.specs.turns.LeafTurns.{Hears, IsActive, IsDecided, IsOpenBranch, LeafTurn, acknowledges, acknowledges_told, asks, decides, does_nothing, drops, forgets, gives_again, gives_fresh, mark_at, notes, obeys, promised, refuses, repeats_yes, told, untold, votes_no, votes_read, votes_yes, waits, Waits}
use Rattle.proof_pairs.specs.turns.Written.{is_coordinators}
use Rattle.proof_pairs.proofs.turns.LeafInputs.{viewed}
use Rattle.proof_processes.specs.Lasts.{Manages, Nested, logs_of}
use Rattle.proof_processes.specs.WorldHolds.{is_about}
use Rattle.proof_processes.proofs.Orders.{mark_is}
use Rattle.proof_processes.proofs.Tests.{either, in_first, in_none, in_second, left, right}
use Rattle.proof_steps.proofs.children.Doubts.{doubt, heuristic_so, plain_so, promised_so}
use Rattle.proof_steps.proofs.children.Tables.{IsLate, no_heuristic}
use Rattle.proof_headline.proofs.runs.MessagesHold.{none_gives}
use Rattle.proof_reports.specs.SinceOpened.{IsAmong, IsClean, NoneAgainst, ever}
use Rattle.proof_reports.proofs.Facts.{CaseFacts}
use Rattle.proof_reports.proofs.Found.{among_sent}
use Rattle.proof_reports.proofs.LastDecisions.{decided_some, decision_stands, is_decided_mark}
use Rattle.proof_reports.proofs.Naming.{never, none_if, none_of_them}

-- no branch was ever decided in both ways
abbrev pub OneDecision : Node → Type 0
OneDecision n = (d : Case) (o : Outcome) → has (is_decided d o) (ever n) ≡ true
    → has (is_decided d (other_outcome o)) (ever n) ≡ true → ⊥

pub decided_heuristic : (d : Case) (o : Outcome) (r : Record) → is_decided d o r ≡ true
    → is_heuristic d r ≡ true
decided_heuristic d CommittedOutcome r e = grind arith
decided_heuristic d AbortedOutcome r e = grind arith

-- an operator's decision is by this outcome or by the other
heuristic_decided : (d : Case) (o : Outcome) (r : Record) → is_heuristic d r ≡ true
    → (is_decided d o r || is_decided d (other_outcome o) r) ≡ true
heuristic_decided d CommittedOutcome r e = grind arith
heuristic_decided d AbortedOutcome r e = grind arith

either_decided : (d : Case) (o : Outcome) (rs : List Record) → has (is_heuristic d) rs ≡ true
    → (has (is_decided d o) rs ≡ true) ⊎ (has (is_decided d (other_outcome o)) rs ≡ true)
unfolding has
either_decided d o [] e = absurd (cc)
either_decided d o (r ∷ rs) e = elim (either (is_heuristic d r) _ e) [
  | inl now ↦ elim (either (is_decided d o r) _ (heuristic_decided d o r now)) [
    | inl a ↦ inl (left _ _ a)
    | inr b ↦ inr (left _ _ b)
  ]
  | inr rest ↦ elim (either_decided d o rs rest) [
    | inl a ↦ inl (right (is_decided d o r) _ a)
    | inr b ↦ inr (right (is_decided d (other_outcome o) r) _ b)
  ]
]

own_there : (t : Ticket) → in_list (t ∷ []) t ≡ true
unfolding in_list
own_there t = left _ _ (same_ticket-refl t)

mixed_one : (t : Ticket) → in_list (mixed_of (Mixed t ∷ [])) t ≡ true
unfolding mixed_of
mixed_one t = own_there t

pub unreported_one : (t : Ticket) → in_list (unreported_of (Unreported t ∷ [])) t ≡ true
unfolding unreported_of
unreported_one t = own_there t

module _ (net : List Envelope) (place : Place) (p : ProcessId) (leaf : place.role ≡ AtLeaf p) (n : Node)
    (nested : Nested (logs_of n)) (m : Manages (logs_of n)) (one : OneDecision n)
    (about_given : (d : Case) → sent (is_about d) net ≡ true → sent (gives_case d) net ≡ true)
    (facts : (d : Case) → process_of d ≡ place.me → sent (gives_case d) net ≡ true → CaseFacts place n d)
  where
    no_coordinators : has is_coordinators (kept n) ≡ false
    no_coordinators = none_if is_coordinators (kept n)
        (λ e. never _ (nested.kept_was_written is_coordinators (λ k. refl) e) m.no_coordinators_record)

    -- where nothing of an operator is kept, nothing ever was, if the branch keeps a promise and no Forgot
    pub promised_never : (d : Case) → CaseFacts place n d → mark_at n d ≡ Promised
        → has (is_heuristic d) (ever n) ≡ false
    promised_never d f e =
        let plain = plain_so n nested m d e in
        in_none (is_heuristic d) (kept n) n.durable plain
        (none_if (is_heuristic d) n.durable (λ g. elim (f.decision_stays g) [
          | inl front ↦ never _ (in_first (is_heuristic d) n.forced n.unforced front) plain
          | inr forgot ↦ never _
              (f.forgot_stays forgot (promised_so n nested m d (subst IsOpenBranch (sym e) waits)))
              (doubt n nested m d (subst Waits (sym e) promised)).not_forgotten
        ]))

    late_not : (d : Case) (k : Mark) → k ≡ Unmarked → IsLate d k → ⊥
    late_not d _ e l = subst (IsLate d) e l

    open_never : (d : Case) → CaseFacts place n d → n.failed ≡ false → IsActive place n d
        → has (is_heuristic d) (ever n) ≡ false
    open_never d f up a =
        in_none (is_heuristic d) (kept n) n.durable
        (no_heuristic d (kept n) (m.in_order d) no_coordinators
        (λ l. late_not d _ (sym (mark_is d (kept n)) ∙ a.unmarked) l))
        (f.open_undecided (ap (λ b. is_live (phase_by b (standing_of place n d))) up
        ∙ ap (λ (s : Standing). is_live (phase_by false s)) standing_so))
      where
        open_view : (k : Mark) (ph : Phase) → k ≡ Unmarked → (memory_of place n d).phase ≡ Open
            → (marked_branch (memory_of place n d) k).standing ≡ Active
        open_view _ ph e g = rw (e, g) refl

        standing_so : standing_of place n d ≡ Active
        standing_so =
            ap (λ (r : Role). standing_in r place n d) leaf
            ∙ (ap (λ (v : ManagerView). v.standing) (viewed place n d)
            ∙ open_view (mark_at n d) (memory_of place n d).phase a.unmarked a.is_open)

    module _ (h : Heard) (heard : (x : Message) → Hears h x → IsAmong x net) (second : h.version ≡ Second)
        (up : n.failed ≡ false)
      where
        abbrev Fine : Message → Type 0
        Fine (Ack d o fs) = process_of d ≡ place.me → IsClean d fs → NoneAgainst n d o
        Fine _ = Unit {0}

        tells_about : (o : Outcome) (d : Case) → is_about d (tells_outcome o d) ≡ true
        tells_about CommittedOutcome d = same_case-refl d
        tells_about AbortedOutcome d = same_case-refl d

        was_given : (o : Outcome) (d : Case) → Hears h (tells_outcome o d) → sent (gives_case d) net ≡ true
        was_given o d i =
            about_given d (among_sent (is_about d) (tells_outcome o d) (tells_about o d) net
            (heard (tells_outcome o d) i))

        -- a case that was given has a ticket
        ticketed : {A : Type 0} (d : Case) → sent (gives_case d) net ≡ true
            → ((t : Ticket) → d.ticket ≡ Some t → A) → A
        ticketed {A} d e f = by_ticket d.txn d.ticket e f
          where
            by_ticket : (x : Txn) (o : Option Ticket)
                → sent (gives_case (record { txn = x; ticket = o })) net ≡ true
                → ((t : Ticket) → o ≡ Some t → A) → A
            by_ticket x None e' f' = absurd (none_gives x net e')
            by_ticket x (Some t) e' f' = f' t refl

        none_against : (d : Case) (o : Outcome) → has (is_heuristic d) (ever n) ≡ false → NoneAgainst n d o
        none_against d o e =
            none_of_them (is_decided d (other_outcome o)) (is_heuristic d) (ever n)
            (decided_heuristic d (other_outcome o)) e

        obeys_fine : (d : Case) (o : Outcome) → Hears h (tells_outcome o d) → mark_at n d ≡ Promised
            → Fine (Ack d o [])
        obeys_fine d o i e own clean =
            none_against d o (promised_never d (facts d own (was_given o d i)) e)

        -- the findings of a decided branch report the decision against the outcome
        mixed_so : (d : Case) (o : Outcome) (t : Ticket) (u : Option Ticket) → u ≡ Some t
            → in_list (mixed_of (own_finding Mixed u)) t ≡ true
        mixed_so d o t _ e = rw e (mixed_one t)

        unreported_so : (t : Ticket) (u : Option Ticket) → u ≡ Some t
            → in_list (unreported_of (own_finding Unreported u)) t ≡ true
        unreported_so t _ e = rw e (unreported_one t)

        -- who decided last by an outcome never decided otherwise
        not_otherwise : (d : Case) (o : Outcome) → has (is_decided d o) (kept n) ≡ true
            → has (is_decided d (other_outcome o)) (kept n) ≡ false
        not_otherwise d o is = by_test (has (is_decided d (other_outcome o)) (kept n)) refl
          where
            by_test : (b : Bool) → has (is_decided d (other_outcome o)) (kept n) ≡ b
                → has (is_decided d (other_outcome o)) (kept n) ≡ false
            by_test false e = e
            by_test true e = absurd (one d o (in_first (is_decided d o) (kept n) n.durable is)
                (in_first (is_decided d (other_outcome o)) (kept n) n.durable e))

        not_against : (d : Case) (o b : Outcome) (t : Ticket) → d.ticket ≡ Some t
            → has (is_decided d b) (kept n) ≡ true
            → in_list (mixed_of (if not (same_outcome b o) then own_finding Mixed d.ticket else [])) t ≡ false
            → has (is_decided d (other_outcome o)) (kept n) ≡ false
        unfolding same_outcome
        not_against d CommittedOutcome CommittedOutcome t f is g = not_otherwise d CommittedOutcome is
        not_against d AbortedOutcome AbortedOutcome t f is g = not_otherwise d AbortedOutcome is
        not_against d CommittedOutcome AbortedOutcome t f is g =
            absurd (never _ (mixed_so d CommittedOutcome t d.ticket f) g)
        not_against d AbortedOutcome CommittedOutcome t f is g =
            absurd (never _ (mixed_so d AbortedOutcome t d.ticket f) g)

        decided_mark_is : (k : Mark) → IsDecided k → is_decided_mark k ≡ true
        decided_mark_is _ untold = refl
        decided_mark_is _ (told o) = refl

        against_kept : (v : Version) → v ≡ Second → (d : Case) (o : Outcome) (t : Ticket) → d.ticket ≡ Some t
            → IsDecided (mark_at n d)
            → in_list (mixed_of (decided_findings v (kept n) d o)) t ≡ false
            → has (is_decided d (other_outcome o)) (kept n) ≡ false
        against_kept First e d o t f k g = absurd (cc)
        against_kept Second e d o t f k g = by_decision (decision_of (kept n) d) refl g
          where
            by_decision : (b : Option Outcome) → decision_of (kept n) d ≡ b
                → in_list (mixed_of (if decided_against b o then own_finding Mixed d.ticket else [])) t
                ≡ false
                → has (is_decided d (other_outcome o)) (kept n) ≡ false
            by_decision (Some b) is x = not_against d o b t f (decision_stands d b (kept n) is) x
            by_decision None is x =
                let some : is_some (decision_of (kept n) d) ≡ true =
                decided_some d (kept n) (m.in_order d) (decided_mark_is (mark_at n d) k) in
                absurd (let clash : false ≡ true = ap is_some (sym is) ∙ some in cc)

        decided_fine : (d : Case) (o : Outcome) → Hears h (tells_outcome o d) → IsDecided (mark_at n d)
            → Fine (Ack d o (decided_findings h.version (kept n) d o))
        decided_fine d o i k own clean =
            ticketed d (was_given o d i) (λ t f.
            let none = against_kept h.version second d o t f k (clean t f).1 in
            in_none (is_decided d (other_outcome o)) (kept n) n.durable none
            (none_if (is_decided d (other_outcome o)) n.durable (λ g.
            elim (either_decided d o (kept n) (heuristic_so n nested m d k)) [
              | inl agrees ↦ one d o (in_first (is_decided d o) (kept n) n.durable agrees)
                  (in_second (is_decided d (other_outcome o)) (kept n) n.durable g)
              | inr against ↦ never _ against none
            ])))

        unknown_fine : (v : Version) → v ≡ Second → (d : Case) (o : Outcome) → Hears h (tells_outcome o d)
            → Fine (Ack d o (unknown_findings v d))
        unknown_fine First e d o i own clean = absurd (cc)
        unknown_fine Second e d o i own clean =
            ticketed d (was_given o d i) (λ t f. absurd (never _ (unreported_so t d.ticket f) (clean t f).0))

        drops_fine : (d : Case) → Hears h (Abort d) → IsActive place n d → Fine (Ack d AbortedOutcome [])
        drops_fine d i a own clean =
            none_against d AbortedOutcome (open_never d (facts d own (was_given AbortedOutcome d i)) up a)

        acked_fine : (d : Case) (o : Outcome) (fs : List Finding) → Fine (Ack d o fs)
            → (b : Bool) (x : Message)
            → IsAmong x (if b then post place.me p (Ack d o fs) ∷ [] else []) → Fine x
        acked_fine d o fs f true x (inl e) = subst Fine e f
        acked_fine d o fs f true x (inr i) = absurd i
        acked_fine d o fs f false x i = absurd i

        one_fine : (y : Message) (q r : ProcessId) → Fine y → (x : Message) → IsAmong x (post q r y ∷ [])
            → Fine x
        one_fine y q r f x (inl e) = subst Fine e f
        one_fine y q r f x (inr i) = absurd i

        pub leaf_fine : (g : Effect) → LeafTurn place p n h g → (x : Message) → IsAmong x g.messages → Fine x
        leaf_fine _ (obeys d o i e) x j =
            acked_fine d o [] (obeys_fine d o i e) (is_acknowledged d.txn.presumption o) x j
        leaf_fine _ (notes d o i e) x j =
            acked_fine d o (decided_findings h.version (kept n) d o)
            (decided_fine d o i (subst IsDecided (sym e) untold)) (is_acknowledged d.txn.presumption o) x j
        leaf_fine _ (acknowledges_told d o i e) x j =
            acked_fine d o (decided_findings h.version (kept n) d o)
            (decided_fine d o i (subst IsDecided (sym e) (told o))) (is_acknowledged d.txn.presumption o) x j
        leaf_fine _ (acknowledges d o i k) x j =
            acked_fine d o (unknown_findings h.version d) (unknown_fine h.version second d o i)
            (is_acknowledged d.txn.presumption o) x j
        leaf_fine _ (drops d i a) x j =
            acked_fine d AbortedOutcome [] (drops_fine d i a)
            (is_acknowledged d.txn.presumption AbortedOutcome) x j
        leaf_fine _ does_nothing x j = absurd j
        leaf_fine _ (gives_again d t i a) x j = one_fine (Joined d t) place.me p tt x j
        leaf_fine _ (gives_fresh d i a s) x j = one_fine (Joined d _) place.me p tt x j
        leaf_fine _ (votes_yes d k ws i a) x j = one_fine (Yes d) place.me p tt x j
        leaf_fine _ (votes_read d k i a) x j = one_fine (Read d) place.me p tt x j
        leaf_fine _ (votes_no d k i a) x j = one_fine (No d) place.me p tt x j
        leaf_fine _ (repeats_yes d k i a) x j = one_fine (Yes d) place.me p tt x j
        leaf_fine _ (refuses d k i a) x j = one_fine (No d) place.me p tt x j
        leaf_fine _ (asks d i k) x j = one_fine (Inquire d) place.me p tt x j
        leaf_fine _ (decides d o i e) x j = absurd j
        leaf_fine _ (forgets d i e) x j = absurd j
