-- What a coordinator's restart sends, as a pair below it sees it: the decision again, where the ticket owes
-- an
-- acknowledgement.
use Rattle.std.proofs.Common.{◌≡◌, ◌∙◌, ◌||◌, ◌&&◌, ◌⊎◌, inl, inr, Bool, true, false, Option, Some, None, List, [], ◌∷◌, ◌++◌, refl, sym, ap, arith}
use Rattle.std.specs.Prelude.{not}
use Rattle.std.specs.List.{flat_map}
use Rattle.std.proofs.lemmas.List.Folds.{list_any-append}
use Rattle.protocol.specs.declared.names.Case.{Case}
use Rattle.protocol_words.specs.Variants.{AbortedOutcome, CommittedOutcome}
use Rattle.protocol.specs.declared.names.ProcessId.{ProcessId}
use Rattle.protocol.specs.declared.names.Ticket.{Ticket}
use Rattle.protocol.specs.declared.messages.Envelope.{Envelope}
use Rattle.protocol.specs.declared.messages.Message.{Message}
use Rattle.protocol.specs.declared.messages.Message.TheVariants.{Commit, Abort, Inquire}
use Rattle.protocol.specs.declared.records.Record.{Record}
use Rattle.protocol.specs.declared.standings.Standing.{Standing}
use Rattle.protocol.specs.declared.standings.Standing.TheVariants.{Unknown, Active, Collecting, Prepared, Committing, Aborting, Heuristic}
use Rattle.protocol.specs.Names.{same_case, same_ticket, child_case}
use Rattle.protocol.specs.NameLaws.{same_case-refl, names}
use Rattle.protocol.specs.Records.{has, has_case, in_list, none_of, cases_in, owing_by, is_collecting, is_prepare, is_commit, is_abort, is_end}
use Rattle.protocol.specs.Memory.{Idle, fresh_memory}
use Rattle.protocol.specs.Standings.{CoordinatorView, coordinator_standing, decided_outcome, phase_standing, standing_by, view_at}
use Rattle.protocol.specs.CoordinatorRows.{Seat, each, up}
use Rattle.protocol.specs.Restarts.{recorded_view, coordinator_resumes, resumes_by}
use Rattle.protocol.specs.Outcomes.{sent, is_joined_message, is_read_message, is_yes_message, is_outcome_message}
use Rattle.proof_pairs.specs.readings.ReadingOf.{wire, gives_case, is_prepare_message, is_no_message, is_ack_message, is_inquiry_message}
use Rattle.protocol.specs.Audits.{is_decision_naming}
use Rattle.proof_pairs.proofs.readings.Lists.{sent-append}
use Rattle.proof_pairs.proofs.readings.Named.{sent-each_commit, sent-each_abort, sent-each_none, same_child}
use Rattle.proof_processes.specs.WorldHolds.{is_record_of}
use Rattle.proof_processes.proofs.Tests.{case_is, either, right, not_both}
use Rattle.proof_processes.proofs.Worlds.{has_other}
use Rattle.proof_processes.proofs.Phases.{standing_at}
use Rattle.proof_processes.proofs.RootLogs.{recorded_case, recorded_stands}
use Rattle.proof_steps.proofs.crashes.Named.{owing-by, all_owed, somebody}
use Rattle.proof_steps.proofs.crashes.Reopened.{exactly}
use Rattle.proof_steps.proofs.crashes.RecordedStandings.{Aborts, Decides, aborting_by, both_hold, committing_by, first_holds, is_not, prepared_by, second_holds, split_three, three, was_not}

-- Where a case stands by its records alone.

sent-both : (q : Message → Bool) (xs ys : List Envelope) → sent q (xs ++ ys) ≡ (sent q xs || sent q ys)
unfolding sent
sent-both q xs ys = list_any-append _ xs ys

none-sent : (q : Message → Bool) → sent q [] ≡ false
unfolding sent
none-sent q = refl

of_first : (a h x y : Bool) → a ≡ x → y ≡ (h && x) → (a || y) ≡ ((true || h) && x)
of_first a h x y e f = grind arith

of_rest : (a h x y : Bool) → a ≡ false → y ≡ (h && x) → (a || y) ≡ ((false || h) && x)
of_rest a h x y e f = grind arith

-- of all that is sent only the case's own part passes the test
own_part : (c : Case) (q : Message → Bool) (f : Case → List Envelope)
    → ((d : Case) → sent q (f d) ≡ true → d ≡ c) → (cs : List Case)
    → sent q (flat_map f cs) ≡ (has_case cs c && sent q (f c))
unfolding has_case
own_part c q f own [] = none-sent q
own_part c q f own (d ∷ cs) =
    sent-both q (f d) (flat_map f cs) ∙ by_test (own_part c q f own cs) (same_case d c) refl
  where
    by_test : sent q (flat_map f cs) ≡ (has_case cs c && sent q (f c)) → (b : Bool) → same_case d c ≡ b
        → (sent q (f d) || sent q (flat_map f cs)) ≡ ((b || has_case cs c) && sent q (f c))
    by_test k true e =
        of_first (sent q (f d)) (has_case cs c) (sent q (f c)) (sent q (flat_map f cs))
        (ap (λ x. sent q (f x)) (case_is d c e)) k
    by_test k false e =
        of_rest (sent q (f d)) (has_case cs c) (sent q (f c)) (sent q (flat_map f cs))
        (others (sent q (f d)) refl) k
      where
        not_own : d ≡ c → same_case d c ≡ true
        not_own g = ap (λ x. same_case x c) g ∙ same_case-refl c

        ends : {A : Type 0} → true ≡ false → A
        ends x = absurd (cc)

        others : (b : Bool) → sent q (f d) ≡ b → sent q (f d) ≡ false
        others true g = ends (sym (not_own (own d g)) ∙ e)
        others false g = g

none_of_all : (q : Message → Bool) (f : Case → List Envelope) → ((d : Case) → sent q (f d) ≡ false)
    → (cs : List Case) → sent q (flat_map f cs) ≡ false
none_of_all q f none [] = none-sent q
none_of_all q f none (d ∷ cs) =
    sent-both q (f d) (flat_map f cs) ∙ neither (none d) (none_of_all q f none cs)
  where
    neither : {a b : Bool} → a ≡ false → b ≡ false → (a || b) ≡ false
    neither {a} {b} e g = grind arith

-- these records have the case committed, not ended, with an acknowledgement of the ticket owed
abbrev pub commit_again : List Record → Case → Ticket → Bool
commit_again rs c t = has (is_commit c) rs && (not (has (is_end c) rs) && has (is_decision_naming c t) rs)

-- the same of an aborted one
abbrev pub abort_again : List Record → Case → Ticket → Bool
abort_again rs c t =
    not (has (is_commit c) rs) && (has (is_abort c) rs && (not (has (is_end c) rs)
    && has (is_decision_naming c t) rs))

module _ (me : ProcessId) (parent : Option ProcessId) (rs : List Record) (c : Case) (t : Ticket) where
  abbrev d : Case
  d = child_case c.txn t

  abbrev seat : Case → Seat
  seat own = record { me = me; parent = parent; own = own }

  abbrev resumed : Case → List Envelope
  resumed = coordinator_resumes me parent rs

  -- Tests that a decision passes, or an inquiry.

  none_up : (q : Message → Bool) (s : Seat) (own : Case) → q (Inquire own) ≡ false → (p : Option ProcessId)
      → s.parent ≡ p → sent q (up s (Inquire own)) ≡ false
  unfolding sent
  none_up q s own e None f = rw f refl
  none_up q s own e (Some p) f = rw (f, e) refl

  quiet_by : (q : Message → Bool) → ((x : Case) → q (Commit x) ≡ false) → ((x : Case) → q (Abort x) ≡ false)
      → (own : Case) → q (Inquire own) ≡ false → (v : CoordinatorView) (s : Standing)
      → sent q (resumes_by (seat own) v s) ≡ false
  quiet_by q f g own h v Committing = sent-each_none (seat own) Commit v.owed q f
  quiet_by q f g own h v Aborting = sent-each_none (seat own) Abort v.owed q g
  quiet_by q f g own h v Prepared = none_up q (seat own) own h parent refl
  quiet_by q f g own h v Unknown = none-sent q
  quiet_by q f g own h v Active = none-sent q
  quiet_by q f g own h v Collecting = none-sent q
  quiet_by q f g own h v Heuristic = none-sent q

  pub quiet : (q : Message → Bool) → ((x : Case) → q (Commit x) ≡ false) → ((x : Case) → q (Abort x) ≡ false)
      → ((x : Case) → q (Inquire x) ≡ false) → sent q (flat_map resumed (cases_in rs)) ≡ false
  quiet q f g h =
      none_of_all q resumed
      (λ own. quiet_by q f g own (h own) (recorded_view rs own) (recorded_view rs own).standing) (cases_in rs)

  -- no inquiry is of the ticket's case, which promised nothing here
  asks_not : has (is_prepare d) rs ≡ false → (own : Case) → sent (is_inquiry_message d) (resumed own) ≡ false
  asks_not none own = by_standing (recorded_view rs own) (recorded_view rs own).standing
      (sym (recorded_stands own rs))
    where
      promised : standing_by (has (is_end own) rs) (has (is_commit own) rs) (has (is_abort own) rs)
          (has (is_prepare own) rs) (has (is_collecting own) rs) (none_of (owing_by own rs))
          (phase_standing own.txn.presumption Idle) ≡ Prepared
          → has (is_prepare own) rs ≡ true
      promised e = prepared_by own.txn.presumption _ _ _ _ _ _ e

      other : (b : Bool) → same_case own d ≡ b → has (is_prepare own) rs ≡ true → same_case own d ≡ false
      other true e f =
          not_both (is_prepare d) (has (is_prepare d) rs)
          (ap (λ x. has (is_prepare x) rs) (sym (case_is own d e)) ∙ f) none
      other false e f = e

      by_standing : (v : CoordinatorView) (s : Standing)
          → standing_by (has (is_end own) rs) (has (is_commit own) rs) (has (is_abort own) rs)
          (has (is_prepare own) rs) (has (is_collecting own) rs) (none_of (owing_by own rs))
          (phase_standing own.txn.presumption Idle) ≡ s
          → sent (is_inquiry_message d) (resumes_by (seat own) v s) ≡ false
      by_standing v Prepared e =
          none_up (is_inquiry_message d) (seat own) own (other (same_case own d) refl (promised e)) parent
          refl
      by_standing v Committing e = sent-each_none (seat own) Commit v.owed (is_inquiry_message d) (λ x. refl)
      by_standing v Aborting e = sent-each_none (seat own) Abort v.owed (is_inquiry_message d) (λ x. refl)
      by_standing v Unknown e = none-sent (is_inquiry_message d)
      by_standing v Active e = none-sent (is_inquiry_message d)
      by_standing v Collecting e = none-sent (is_inquiry_message d)
      by_standing v Heuristic e = none-sent (is_inquiry_message d)

  pub asks_nothing : has (is_prepare d) rs ≡ false
      → sent (is_inquiry_message d) (flat_map resumed (cases_in rs)) ≡ false
  asks_nothing none = none_of_all (is_inquiry_message d) resumed (asks_not none) (cases_in rs)

  -- The decision again.

  same_child_ticket : (own : Case) (u : Ticket) → same_case (child_case own.txn u) d ≡ true
      → same_ticket u t ≡ true
  same_child_ticket own u e = grind (arith, names)

  told_listed : (own : Case) (us : List Ticket)
      → sent (is_outcome_message CommittedOutcome d) (each (seat own) Commit us) ≡ true → in_list us t ≡ true
  unfolding sent in_list
  told_listed own [] e = absurd (cc)
  told_listed own (u ∷ us) e = by_either (either _ _ e) (told_listed own us)
    where
      by_either : (same_case (child_case own.txn u) d ≡ true)
          ⊎ (sent (is_outcome_message CommittedOutcome d) (each (seat own) Commit us) ≡ true)
          → (sent (is_outcome_message CommittedOutcome d) (each (seat own) Commit us) ≡ true
          → in_list us t ≡ true)
          → in_list (u ∷ us) t ≡ true
      by_either (inl now) k = rw (same_child_ticket own u now) refl
      by_either (inr rest) k = right _ _ (k rest)

  aborted_listed : (own : Case) (us : List Ticket)
      → sent (is_outcome_message AbortedOutcome d) (each (seat own) Abort us) ≡ true → in_list us t ≡ true
  unfolding sent in_list
  aborted_listed own [] e = absurd (cc)
  aborted_listed own (u ∷ us) e = by_either (either _ _ e) (aborted_listed own us)
    where
      by_either : (same_case (child_case own.txn u) d ≡ true)
          ⊎ (sent (is_outcome_message AbortedOutcome d) (each (seat own) Abort us) ≡ true)
          → (sent (is_outcome_message AbortedOutcome d) (each (seat own) Abort us) ≡ true
          → in_list us t ≡ true)
          → in_list (u ∷ us) t ≡ true
      by_either (inl now) k = rw (same_child_ticket own u now) refl
      by_either (inr rest) k = right _ _ (k rest)

  -- who is owed by a case that waits for acknowledgements
  owed_by : (own : Case) (s : Standing) → (s ≡ Unknown → ⊥) → (recorded_view rs own).standing ≡ s
      → (recorded_view rs own).owed ≡ owing_by own rs
  unfolding recorded_view
  owed_by own s known e =
      ap (λ (x : Standing). (view_at x rs own fresh_memory).owed) (stands ∙ e) ∙ by_standing s known
    where
      stands : coordinator_standing rs own fresh_memory ≡ (recorded_view rs own).standing
      stands = sym (recorded_stands own rs)

      by_standing : (x : Standing) → (x ≡ Unknown → ⊥)
          → (view_at x rs own fresh_memory).owed ≡ owing_by own rs
      by_standing Unknown f = absurd (f refl)
      by_standing Active f = all_owed (decided_outcome Active) (owing_by own rs)
      by_standing Collecting f = all_owed (decided_outcome Collecting) (owing_by own rs)
      by_standing Prepared f = all_owed (decided_outcome Prepared) (owing_by own rs)
      by_standing Committing f = all_owed (decided_outcome Committing) (owing_by own rs)
      by_standing Aborting f = all_owed (decided_outcome Aborting) (owing_by own rs)
      by_standing Heuristic f = all_owed (decided_outcome Heuristic) (owing_by own rs)

  listed_somewhere : (own : Case) (us : List Ticket) → us ≡ owing_by own rs → in_list us t ≡ true
      → has (is_decision_naming own t) rs ≡ true
  listed_somewhere own us e f = sym (owing-by own t rs) ∙ (ap (λ ts. in_list ts t) (sym e) ∙ f)

  ends : {A : Type 0} → (b : Bool) → b ≡ true → b ≡ false → A
  ends b e f = absurd (cc)

  abbrev commits : Message → Bool
  commits = is_outcome_message CommittedOutcome d

  abbrev aborts : Message → Bool
  aborts = is_outcome_message AbortedOutcome d

  record Tells (own : Case) (s : Standing) : Type 0 where
    stands : (recorded_view rs own).standing ≡ s
    owes : has (is_decision_naming own t) rs ≡ true

  tells_commit : (own : Case) (s : Standing) → (recorded_view rs own).standing ≡ s
      → sent commits (resumes_by (seat own) (recorded_view rs own) s) ≡ true → Tells own Committing
  tells_commit own Committing e f = record {
    stands = e;
    owes = listed_somewhere own (recorded_view rs own).owed (owed_by own Committing (λ x. cc) e)
        (told_listed own (recorded_view rs own).owed f);
  }
  tells_commit own Aborting e f =
      ends _ f (sent-each_none (seat own) Abort (recorded_view rs own).owed commits (λ x. refl))
  tells_commit own Prepared e f = ends _ f (none_up commits (seat own) own refl parent refl)
  tells_commit own Unknown e f = ends _ f (none-sent commits)
  tells_commit own Active e f = ends _ f (none-sent commits)
  tells_commit own Collecting e f = ends _ f (none-sent commits)
  tells_commit own Heuristic e f = ends _ f (none-sent commits)

  tells_abort : (own : Case) (s : Standing) → (recorded_view rs own).standing ≡ s
      → sent aborts (resumes_by (seat own) (recorded_view rs own) s) ≡ true → Tells own Aborting
  tells_abort own Aborting e f = record {
    stands = e;
    owes = listed_somewhere own (recorded_view rs own).owed (owed_by own Aborting (λ x. cc) e)
        (aborted_listed own (recorded_view rs own).owed f);
  }
  tells_abort own Committing e f =
      ends _ f (sent-each_none (seat own) Commit (recorded_view rs own).owed aborts (λ x. refl))
  tells_abort own Prepared e f = ends _ f (none_up aborts (seat own) own refl parent refl)
  tells_abort own Unknown e f = ends _ f (none-sent aborts)
  tells_abort own Active e f = ends _ f (none-sent aborts)
  tells_abort own Collecting e f = ends _ f (none-sent aborts)
  tells_abort own Heuristic e f = ends _ f (none-sent aborts)

  of_commit : (r : Record) → is_commit c r ≡ true → is_record_of c r ≡ true
  of_commit r e = grind arith

  of_abort : (r : Record) → is_abort c r ≡ true → is_record_of c r ≡ true
  of_abort r e = grind arith

  some_owed : has (is_decision_naming c t) rs ≡ true → none_of (owing_by c rs) ≡ false
  some_owed e = somebody (owing_by c rs) t (owing-by c t rs ∙ e)

  committing_here : standing_at rs c Idle ≡ Committing → Decides (has (is_end c) rs) (has (is_commit c) rs)
  committing_here e =
      committing_by c.txn.presumption (has (is_end c) rs) (has (is_commit c) rs) (has (is_abort c) rs)
      (has (is_prepare c) rs) (has (is_collecting c) rs) (none_of (owing_by c rs)) e

  aborting_here : standing_at rs c Idle ≡ Aborting
      → Aborts (has (is_end c) rs) (has (is_commit c) rs) (has (is_abort c) rs)
  aborting_here e =
      aborting_by c.txn.presumption (has (is_end c) rs) (has (is_commit c) rs) (has (is_abort c) rs)
      (has (is_prepare c) rs) (has (is_collecting c) rs) (none_of (owing_by c rs)) e

  stands_as : (s : Standing) → standing_by (has (is_end c) rs) (has (is_commit c) rs) (has (is_abort c) rs)
      (has (is_prepare c) rs) (has (is_collecting c) rs) (none_of (owing_by c rs))
      (phase_standing c.txn.presumption Idle) ≡ s
      → (recorded_view rs c).standing ≡ s
  stands_as s e = recorded_stands c rs ∙ e

  commit_listed : (s : Standing) → s ≡ Committing → (recorded_view rs c).standing ≡ s
      → has (is_decision_naming c t) rs ≡ true
      → sent commits (resumes_by (seat c) (recorded_view rs c) s) ≡ true
  commit_listed Committing e f g =
      sent-each_commit (seat c) t (recorded_view rs c).owed commits (λ u. same_child c u t)
      ∙ (ap (λ ts. in_list ts t) (owed_by c Committing (λ x. cc) f) ∙ (owing-by c t rs ∙ g))
  commit_listed Unknown e f g = absurd (cc)
  commit_listed Active e f g = absurd (cc)
  commit_listed Collecting e f g = absurd (cc)
  commit_listed Prepared e f g = absurd (cc)
  commit_listed Aborting e f g = absurd (cc)
  commit_listed Heuristic e f g = absurd (cc)

  abort_listed : (s : Standing) → s ≡ Aborting → (recorded_view rs c).standing ≡ s
      → has (is_decision_naming c t) rs ≡ true
      → sent aborts (resumes_by (seat c) (recorded_view rs c) s) ≡ true
  abort_listed Aborting e f g =
      sent-each_abort (seat c) t (recorded_view rs c).owed aborts (λ u. same_child c u t)
      ∙ (ap (λ ts. in_list ts t) (owed_by c Aborting (λ x. cc) f) ∙ (owing-by c t rs ∙ g))
  abort_listed Unknown e f g = absurd (cc)
  abort_listed Active e f g = absurd (cc)
  abort_listed Collecting e f g = absurd (cc)
  abort_listed Prepared e f g = absurd (cc)
  abort_listed Committing e f g = absurd (cc)
  abort_listed Heuristic e f g = absurd (cc)

  module _ (own : (x : Case) → has (is_decision_naming x t) rs ≡ true → x ≡ c) where
    commit_here : sent commits (flat_map resumed (cases_in rs)) ≡ commit_again rs c t
    commit_here =
        own_part c commits resumed
        (λ x e. own x (tells_commit x (recorded_view rs x).standing refl e).owes) (cases_in rs)
        ∙ exactly _ (commit_again rs c t) there back
      where
        there : (has_case (cases_in rs) c && sent commits (resumed c)) ≡ true → commit_again rs c t ≡ true
        there e =
            let f = tells_commit c (recorded_view rs c).standing refl
            (second_holds (has_case (cases_in rs) c) (sent commits (resumed c)) e) in
            let g = committing_here (sym (recorded_stands c rs) ∙ f.stands) in
            three _ _ _ g.decided (is_not _ g.not_ended) f.owes

        back : commit_again rs c t ≡ true → (has_case (cases_in rs) c && sent commits (resumed c)) ≡ true
        back e =
            let f = split_three _ _ _ e in
            both_hold _ _ (recorded_case c rs (has_other (is_commit c) (is_record_of c) rs of_commit f.first))
            (commit_listed (recorded_view rs c).standing
            (stands_as Committing (rw (was_not (has (is_end c) rs) f.second, f.first, some_owed f.third)
            refl)) refl f.third)

    abort_here : sent aborts (flat_map resumed (cases_in rs)) ≡ abort_again rs c t
    abort_here =
        own_part c aborts resumed
        (λ x e. own x (tells_abort x (recorded_view rs x).standing refl e).owes) (cases_in rs)
        ∙ exactly _ (abort_again rs c t) there back
      where
        there : (has_case (cases_in rs) c && sent aborts (resumed c)) ≡ true → abort_again rs c t ≡ true
        there e =
            let f = tells_abort c (recorded_view rs c).standing refl
            (second_holds (has_case (cases_in rs) c) (sent aborts (resumed c)) e) in
            let g = aborting_here (sym (recorded_stands c rs) ∙ f.stands) in
            both_hold _ _ (is_not _ g.not_committed) (three _ _ _ g.decided (is_not _ g.not_ended) f.owes)

        back : abort_again rs c t ≡ true → (has_case (cases_in rs) c && sent aborts (resumed c)) ≡ true
        back e =
            let f = split_three (has (is_abort c) rs) (not (has (is_end c) rs))
            (has (is_decision_naming c t) rs)
            (second_holds (not (has (is_commit c) rs)) _ e) in
            both_hold _ _ (recorded_case c rs (has_other (is_abort c) (is_record_of c) rs of_abort f.first))
            (abort_listed (recorded_view rs c).standing
            (stands_as Aborting (rw (
              was_not (has (is_end c) rs) f.second,
              was_not (has (is_commit c) rs) (first_holds (not (has (is_commit c) rs)) _ e),
              f.first,
              some_owed f.third,
            ) refl))
            refl f.third)

    -- the net after the restart
    pub wire_resumed : (net : List Envelope) → has (is_prepare d) rs ≡ false
        → wire c t (net ++ flat_map resumed (cases_in rs))
        ≡ record (wire c t net) {
          commit = commit_again rs c t || (wire c t net).commit;
          abort = abort_again rs c t || (wire c t net).abort;
        }
    wire_resumed net none =
        let joined = quiet (is_joined_message c t) (λ e. refl) (λ e. refl) (λ e. refl) in
        let given = quiet (gives_case c) (λ e. refl) (λ e. refl) (λ e. refl) in
        let read_up = quiet (is_read_message c) (λ e. refl) (λ e. refl) (λ e. refl) in
        let prepare = quiet (is_prepare_message d) (λ e. refl) (λ e. refl) (λ e. refl) in
        let yes_of = quiet (is_yes_message d) (λ e. refl) (λ e. refl) (λ e. refl) in
        let no_of = quiet (is_no_message d) (λ e. refl) (λ e. refl) (λ e. refl) in
        let read = quiet (is_read_message d) (λ e. refl) (λ e. refl) (λ e. refl) in
        let ack = quiet (is_ack_message d) (λ e. refl) (λ e. refl) (λ e. refl) in
        let inquire = asks_nothing none in
        let commit = commit_here in
        let abort = abort_here in
        simp (
          sent-append,
          joined,
          given,
          read_up,
          prepare,
          yes_of,
          no_of,
          read,
          ack,
          inquire,
          commit,
          abort,
        )
