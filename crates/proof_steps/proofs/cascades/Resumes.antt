-- What a restart of a cascaded coordinator says up: it asks for the outcome of just the cases that its log
-- leaves in doubt.
use Rattle.std.proofs.Common.{◌≡◌, ◌∙◌, ◌⊎◌, inl, inr, ◌||◌, ◌&&◌, Bool, true, false, Some, List, [], ◌∷◌, refl, sym, ap, arith}
use Rattle.std.specs.Prelude.{not}
use Rattle.std.specs.List.{flat_map}
use Rattle.protocol.specs.declared.names.Case.{Case}
use Rattle.protocol.specs.declared.names.Presumption.{Presumption}
use Rattle.protocol.specs.declared.names.Presumption.TheVariants.{PresumeAbort, PresumeCommit}
use Rattle.protocol.specs.declared.names.ProcessId.{ProcessId}
use Rattle.protocol.specs.declared.names.Ticket.{Ticket}
use Rattle.protocol.specs.declared.messages.Message.{Message}
use Rattle.protocol.specs.declared.messages.Message.TheVariants.{Abort, Commit, Inquire}
use Rattle.protocol.specs.declared.records.Record.{Record}
use Rattle.protocol.specs.declared.standings.Standing.{Standing}
use Rattle.protocol.specs.declared.standings.Standing.TheVariants.{Unknown, Active, Collecting, Prepared, Committing, Aborting, Heuristic}
use Rattle.protocol.specs.Names.{child_case, same_case}
use Rattle.protocol.specs.Records.{cases_in, has, has_case, is_abort, is_collecting, is_commit, is_end, is_prepare, none_of, owing_by}
use Rattle.protocol.specs.CoordinatorRows.{Seat, each}
use Rattle.protocol.specs.Memory.{Idle}
use Rattle.protocol.specs.Outcomes.{is_joined_message, is_read_message, is_yes_message, sent}
use Rattle.protocol.specs.Reactions.{is_prepared_standing}
use Rattle.protocol.specs.Restarts.{coordinator_resumes, recorded_view, resumes, resumes_by}
use Rattle.protocol.specs.Nodes.{Below}
use Rattle.protocol.specs.Standings.{CoordinatorView, phase_standing, standing_by}
use Rattle.proof_pairs.specs.readings.ReadingOf.{is_ack_message, is_inquiry_message, is_no_message}
use Rattle.proof_pairs.proofs.readings.Lists.{sent-append}
use Rattle.proof_processes.specs.WorldHolds.{is_record_of}
use Rattle.proof_processes.proofs.GivenCases.{same_of}
use Rattle.proof_processes.proofs.RootLogs.{recorded_case, recorded_stands}
use Rattle.proof_processes.proofs.Worlds.{has_other}
use Rattle.proof_steps.proofs.cascades.Messages.{nothing, said_by}

or-none : (a b : Bool) → a ≡ false → b ≡ false → (a || b) ≡ false
or-none a b e f = grind arith

or-false : (a : Bool) → (a || false) ≡ a
or-false a = grind arith

-- a test that no message of a restart passes
module _ (q : Message → Bool) (no_commit : (x : Case) → q (Commit x) ≡ false)
    (no_abort : (x : Case) → q (Abort x) ≡ false)
    (no_inquiry : (x : Case) → q (Inquire x) ≡ false) (me p : ProcessId) (rs : List Record) where
  each_none : (s : Seat) (m : Case → Message) (ts : List Ticket) → ((x : Case) → q (m x) ≡ false)
      → sent q (each s m ts) ≡ false
  unfolding sent
  each_none s m [] f = refl
  each_none s m (t ∷ ts) f = or-none (q (m (child_case s.own.txn t))) _ (f (child_case s.own.txn t))
      (each_none s m ts f)

  one_none : (d : Case) (v : CoordinatorView) (s : Standing)
      → sent q (resumes_by (record { me = me; parent = Some p; own = d }) v s) ≡ false
  unfolding sent
  one_none d v Committing = each_none (record { me = me; parent = Some p; own = d }) Commit v.owed no_commit
  one_none d v Aborting = each_none (record { me = me; parent = Some p; own = d }) Abort v.owed no_abort
  one_none d v Prepared = or-none (q (Inquire d)) false (no_inquiry d) refl
  one_none d v Unknown = refl
  one_none d v Active = refl
  one_none d v Collecting = refl
  one_none d v Heuristic = refl

  pub resumes_none : (cs : List Case) → sent q (flat_map (coordinator_resumes me (Some p) rs) cs) ≡ false
  unfolding sent
  resumes_none [] = refl
  resumes_none (d ∷ cs) =
      sent-append q (coordinator_resumes me (Some p) rs d) (flat_map (coordinator_resumes me (Some p) rs) cs)
      ∙ or-none _ _ (resumes_none cs) (one_none d (recorded_view rs d) (recorded_view rs d).standing)

-- Inquiries.

module _ (me p : ProcessId) (rs : List Record) (d : Case) where
  each_unasked : (s : Seat) (m : Case → Message) (ts : List Ticket)
      → ((x : Case) → is_inquiry_message d (m x) ≡ false)
      → sent (is_inquiry_message d) (each s m ts) ≡ false
  unfolding sent
  each_unasked s m [] f = refl
  each_unasked s m (t ∷ ts) f =
      or-none (is_inquiry_message d (m (child_case s.own.txn t))) _ (f (child_case s.own.txn t))
      (each_unasked s m ts f)

  one_asks : (x : Case) (v : CoordinatorView) (s : Standing)
      → sent (is_inquiry_message d) (resumes_by (record { me = me; parent = Some p; own = x }) v s)
      ≡ (same_case x d && is_prepared_standing s)
  unfolding sent
  one_asks x v Committing =
      each_unasked (record { me = me; parent = Some p; own = x }) Commit v.owed (λ y. refl)
      ∙ sym (and-false (same_case x d))
    where
      and-false : (a : Bool) → (a && false) ≡ false
      and-false a = grind arith
  one_asks x v Aborting =
      each_unasked (record { me = me; parent = Some p; own = x }) Abort v.owed (λ y. refl)
      ∙ sym (and-false (same_case x d))
    where
      and-false : (a : Bool) → (a && false) ≡ false
      and-false a = grind arith
  one_asks x v Prepared = same_true (same_case x d)
    where
      same_true : (a : Bool) → (a || false) ≡ (a && true)
      same_true a = grind arith
  one_asks x v Unknown = false_and (same_case x d)
    where
      false_and : (a : Bool) → false ≡ (a && false)
      false_and a = grind arith
  one_asks x v Active = false_and (same_case x d)
    where
      false_and : (a : Bool) → false ≡ (a && false)
      false_and a = grind arith
  one_asks x v Collecting = false_and (same_case x d)
    where
      false_and : (a : Bool) → false ≡ (a && false)
      false_and a = grind arith
  one_asks x v Heuristic = false_and (same_case x d)
    where
      false_and : (a : Bool) → false ≡ (a && false)
      false_and a = grind arith

  -- it asks where the case is Prepared
  asks_for : (x : Case) → (same_case x d && is_prepared_standing (recorded_view rs x).standing)
      ≡ (same_case x d && is_prepared_standing (recorded_view rs d).standing)
  asks_for x = by_same (same_case x d) refl
    where
      by_same : (b : Bool) → same_case x d ≡ b → (b && is_prepared_standing (recorded_view rs x).standing)
          ≡ (b && is_prepared_standing (recorded_view rs d).standing)
      by_same false e = refl
      by_same true e = ap (λ (y : Case). is_prepared_standing (recorded_view rs y).standing) (same_of x d e)

  all_ask : (cs : List Case) → sent (is_inquiry_message d) (flat_map (coordinator_resumes me (Some p) rs) cs)
      ≡ (has_case cs d && is_prepared_standing (recorded_view rs d).standing)
  unfolding sent has_case
  all_ask [] = refl
  all_ask (x ∷ cs) =
      sent-append (is_inquiry_message d) (coordinator_resumes me (Some p) rs x)
      (flat_map (coordinator_resumes me (Some p) rs) cs)
      ∙ step (same_case x d) (has_case cs d) (is_prepared_standing (recorded_view rs d).standing) _ _
      (one_asks x (recorded_view rs x) (recorded_view rs x).standing ∙ asks_for x) (all_ask cs)
    where
      step : (a b s x y : Bool) → x ≡ (a && s) → y ≡ (b && s) → (y || x) ≡ ((a || b) && s)
      step a b s x y e f = grind arith

  promise_of : (r : Record) → is_prepare d r ≡ true → is_record_of d r ≡ true
  promise_of r e = grind arith

  prepared_promised : (E C A P K N : Bool) (ph : Standing) → (ph ≡ Prepared → ⊥) → (P ≡ false)
      → is_prepared_standing (standing_by E C A P K N ph) ≡ false
  prepared_promised true C A P K N ph f e = refl
  prepared_promised false true A P K true ph f e = refl
  prepared_promised false true A P K false ph f e = refl
  prepared_promised false false true P K true ph f e = refl
  prepared_promised false false true P K false ph f e = refl
  prepared_promised false false false true K N ph f e = absurd (cc)
  prepared_promised false false false false true N ph f e = refl
  prepared_promised false false false false false N ph f e = by_standing ph f
    where
      by_standing : (s : Standing) → (s ≡ Prepared → ⊥) → is_prepared_standing s ≡ false
      by_standing Prepared g = absurd (g refl)
      by_standing Unknown g = refl
      by_standing Active g = refl
      by_standing Collecting g = refl
      by_standing Committing g = refl
      by_standing Aborting g = refl
      by_standing Heuristic g = refl

  idle_unknown : (q : Presumption) → phase_standing q Idle ≡ Prepared → ⊥
  idle_unknown PresumeAbort e = cc
  idle_unknown PresumeCommit e = cc

  by_promise : (b : Bool) → has (is_prepare d) rs ≡ b
      → (has_case (cases_in rs) d && is_prepared_standing (recorded_view rs d).standing)
      ≡ is_prepared_standing (recorded_view rs d).standing
  by_promise true e =
      ap (λ x. x && is_prepared_standing (recorded_view rs d).standing)
      (recorded_case d rs (has_other (is_prepare d) (is_record_of d) rs promise_of e))
  by_promise false e =
      let none : is_prepared_standing (recorded_view rs d).standing ≡ false =
      ap is_prepared_standing (recorded_stands d rs)
      ∙ prepared_promised (has (is_end d) rs) (has (is_commit d) rs) (has (is_abort d) rs)
      (has (is_prepare d) rs)
      (has (is_collecting d) rs) (none_of (owing_by d rs)) (phase_standing d.txn.presumption Idle)
      (idle_unknown d.txn.presumption) e in
      ap (λ x. has_case (cases_in rs) d && x) none ∙ (and-false (has_case (cases_in rs) d) ∙ sym none)
    where
      and-false : (a : Bool) → (a && false) ≡ false
      and-false a = grind arith

  pub inquires : sent (is_inquiry_message d) (flat_map (coordinator_resumes me (Some p) rs) (cases_in rs))
      ≡ is_prepared_standing (recorded_view rs d).standing
  inquires = all_ask (cases_in rs) ∙ by_promise (has (is_prepare d) rs) refl

-- What is said of a pair.
pub resumed_said : (c : Case) (t : Ticket) (me p : ProcessId) (rs : List Record)
    → said_by c t (resumes (Below p) me rs)
    ≡ record nothing { inquire = is_prepared_standing (recorded_view rs (child_case c.txn t)).standing }
resumed_said c t me p rs =
    let d = child_case c.txn t in
    rw (
      resumes_none (is_joined_message c t) (λ x. refl) (λ x. refl) (λ x. refl) me p rs (cases_in rs),
      resumes_none (is_yes_message d) (λ x. refl) (λ x. refl) (λ x. refl) me p rs (cases_in rs),
      resumes_none (is_no_message d) (λ x. refl) (λ x. refl) (λ x. refl) me p rs (cases_in rs),
      resumes_none (is_read_message d) (λ x. refl) (λ x. refl) (λ x. refl) me p rs (cases_in rs),
      resumes_none (is_ack_message d) (λ x. refl) (λ x. refl) (λ x. refl) me p rs (cases_in rs),
      inquires me p rs d,
    ) refl

-- Whether it is in doubt, by its records.

doubt_by : (E C A P K N : Bool) (ph : Standing) → (ph ≡ Prepared → ⊥)
    → (E ≡ true → P ≡ true → (C ≡ true) ⊎ (A ≡ true))
    → is_prepared_standing (standing_by E C A P K N ph) ≡ (P && not C && not (A && P) && not false)
doubt_by true C A true K N ph f g = by_end (g refl refl)
  where
    by_end : (C ≡ true) ⊎ (A ≡ true) → false ≡ (true && not C && not (A && true) && not false)
    by_end (inl e) = rw e refl
    by_end (inr e) = knows e
      where
        knows : A ≡ true → false ≡ (true && not C && not (A && true) && not false)
        knows e = grind arith
doubt_by true C A false K N ph f g = refl
doubt_by false true A P K true ph f g = none P (A && P)
  where
    none : (P B : Bool) → false ≡ (P && not true && not B && not false)
    none P B = grind arith
doubt_by false true A P K false ph f g = none P (A && P)
  where
    none : (P B : Bool) → false ≡ (P && not true && not B && not false)
    none P B = grind arith
doubt_by false false true P K true ph f g = none P
  where
    none : (P : Bool) → false ≡ (P && not false && not (true && P) && not false)
    none P = grind arith
doubt_by false false true P K false ph f g = none P
  where
    none : (P : Bool) → false ≡ (P && not false && not (true && P) && not false)
    none P = grind arith
doubt_by false false false true K N ph f g = refl
doubt_by false false false false true N ph f g = refl
doubt_by false false false false false N ph f g = by_standing ph f
  where
    by_standing : (s : Standing) → (s ≡ Prepared → ⊥) → is_prepared_standing s ≡ false
    by_standing Prepared g = absurd (g refl)
    by_standing Unknown g = refl
    by_standing Active g = refl
    by_standing Collecting g = refl
    by_standing Committing g = refl
    by_standing Aborting g = refl
    by_standing Heuristic g = refl

idle_not : (q : Presumption) → phase_standing q Idle ≡ Prepared → ⊥
idle_not PresumeAbort e = cc
idle_not PresumeCommit e = cc

pub in_doubt : (rs : List Record) (d : Case)
    → (has (is_end d) rs ≡ true → has (is_prepare d) rs ≡ true
    → (has (is_commit d) rs ≡ true) ⊎ (has (is_abort d) rs ≡ true))
    → is_prepared_standing (recorded_view rs d).standing
    ≡ (has (is_prepare d) rs && not (has (is_commit d) rs) && not
    (has (is_abort d) rs && has (is_prepare d) rs) && not false)
in_doubt rs d ends =
    ap is_prepared_standing (recorded_stands d rs)
    ∙ doubt_by (has (is_end d) rs) (has (is_commit d) rs) (has (is_abort d) rs) (has (is_prepare d) rs)
    (has (is_collecting d) rs) (none_of (owing_by d rs)) (phase_standing d.txn.presumption Idle)
    (idle_not d.txn.presumption) ends
