-- After a cascaded coordinator's acknowledgement that is clear, each ticket that its case ever named has
-- acknowledged.
use Rattle.std.proofs.Common.{◌≡◌, ◌∙◌, ◌||◌, ◌⊎◌, inl, inr, ℕ, Bool, true, false, Some, List, [], ◌∷◌, ◌++◌, refl, sym, ap, subst, arith}
use Rattle.std.specs.Prelude.{reverse}
use Rattle.protocol.specs.declared.names.Case.{Case}
use Rattle.protocol.specs.declared.names.Outcome.{Outcome}
use Rattle.protocol_words.specs.Variants.{AbortRecord, AbortedOutcome, ClearedRecord, CollectingRecord, CommittedOutcome, EndRecord, PrepareRecord}
use Rattle.protocol.specs.declared.names.ProcessId.{ProcessId}
use Rattle.protocol.specs.declared.names.Ticket.{Ticket}
use Rattle.protocol.specs.declared.names.Txn.{Txn}
use Rattle.protocol.specs.declared.messages.Envelope.{Envelope}
use Rattle.protocol.specs.declared.messages.Finding.{Finding}
use Rattle.protocol.specs.declared.records.Record.{Record}
use Rattle.protocol.specs.declared.standings.Standing.{Standing}
use Rattle.protocol.specs.declared.standings.Standing.TheVariants.{Active, Collecting, Prepared}
use Rattle.protocol.specs.declared.trees.TreeProcess.{TreeProcess}
use Rattle.protocol.specs.Names.{child_case, same_case}
use Rattle.protocol.specs.NameLaws.{same_case-refl}
use Rattle.protocol.specs.Records.{has, in_list, in_order, is_abort, is_collecting, is_commit, is_forgot, is_prepare, unreported_of}
use Rattle.protocol.specs.Nodes.{AtRoot, Effect, Heard, Node, Place, Written, entries_written, is_any_forced, kept}
use Rattle.protocol.specs.Memory.{memory_of}
use Rattle.protocol.specs.Restarts.{case_stays, left_of, reopens, trimmed}
use Rattle.protocol.specs.Standings.{coordinator_view, found_below}
use Rattle.proof_pairs.specs.Reading.{is_live}
use Rattle.protocol.specs.Audits.{is_decision_naming, is_learnt_abort, is_learnt_commit, is_promise}
use Rattle.proof_pairs.specs.readings.ReadingOf.{phase_by}
use Rattle.proof_pairs.specs.turns.CoordinatorTurns.{CoordinatorTurn}
use Rattle.proof_pairs.proofs.readings.Trimmed.{gone}
use Rattle.proof_pairs.proofs.turns.Operators.{reopens_none}
use Rattle.proof_processes.specs.Lasts.{Nested, logs_of}
use Rattle.proof_processes.specs.Marks.{is_managers}
use Rattle.proof_processes.specs.WorldHolds.{NamesBy, is_record_of}
use Rattle.proof_processes.proofs.Cases.{viewed}
use Rattle.proof_processes.proofs.Phases.{active_unrecorded}
use Rattle.proof_processes.proofs.Remembering.{coordinator_place}
use Rattle.proof_processes.proofs.RootLogs.{known_stays}
use Rattle.proof_processes.proofs.Tests.{both, case_is, either, has-cons, has-nil, has-reverse, in_either, in_first, in_second, left, right}
use Rattle.proof_processes.proofs.Worlds.{has_other}
use Rattle.proof_steps.proofs.parents.Tables.{none_in, prepared_facts}
use Rattle.proof_reports.specs.SinceOpened.{Acked, AllHeardAmong, Covers, InputAmong, is_decision}
use Rattle.proof_reports.proofs.Became.{Became, Grows, at_rest, by_restart, by_trim, by_turn, left_kept, trim_kept}
use Rattle.proof_reports.proofs.CoordinatorAcks.{AcksBy, alone_acks, last_acks, open_acks, unknown_acks}
use Rattle.proof_reports.proofs.Facts.{IsOver}
use Rattle.proof_reports.proofs.Found.{acked_within, within_in_order}
use Rattle.proof_reports.proofs.Lasting.{CoordinatorLasts, decided_forced, named_owed}
use Rattle.proof_reports.proofs.ManagerAcks.{unreported_one}
use Rattle.proof_reports.proofs.Naming.{has_or, never, no_decision_naming}
use Rattle.proof_reports.proofs.Owed.{all_acked}
use Rattle.proof_reports.proofs.Rows.{DecidesFrom, Writes, cleared, collected, decided, decision, ended, for_nobody, from_promise, from_votes, nothing, promised, turn_writes}
use Rattle.proof_reports.proofs.Stays.{decision_names, naming_recorded, one_has, reopened_stood, stood}

learnt_is : (d : Case) (r : Record) → is_learnt_commit d r ≡ true → (is_commit d r || is_managers r) ≡ true
learnt_is d r e = grind arith

abort_learnt_is : (d : Case) (r : Record) → is_learnt_abort d r ≡ true → is_managers r ≡ true
abort_learnt_is d r e = grind arith

forgot_is : (d : Case) (r : Record) → is_forgot d r ≡ true → is_managers r ≡ true
forgot_is d r e = grind arith

prepare_is : (d : Case) (r : Record) → is_prepare d r ≡ true → is_promise d r ≡ true
prepare_is d r e = grind arith

decision_of : (d : Case) (r : Record) → is_decision d r ≡ true → is_record_of d r ≡ true
decision_of d r e = grind arith

module _ (me p : ProcessId) (tree : List TreeProcess) (n : Node) (nested : Nested (logs_of n))
    (no_managers : has is_managers n.life ≡ false)
  where
    abbrev place : Place
    place = coordinator_place me (Some p) tree

    never_managers : has is_managers (kept n) ≡ true → ⊥
    never_managers e = never _ (nested.kept_was_written is_managers (λ k. refl) e) no_managers

    module _ (d : Case) (over : IsOver (coordinator_place me (Some p) tree) n d) where
      not_active : n.failed ≡ false → (coordinator_view place n d).standing ≡ Active → ⊥
      not_active up e =
          never _ (ap (λ (b : Bool). is_live (phase_by b (coordinator_view place n d).standing)) up
          ∙ ap (λ (s : Standing). is_live (phase_by false s)) e) over.closed

      not_collecting : n.failed ≡ false → (coordinator_view place n d).standing ≡ Collecting → ⊥
      not_collecting up e =
          never _ (ap (λ (b : Bool). is_live (phase_by b (coordinator_view place n d).standing)) up
          ∙ ap (λ (s : Standing). is_live (phase_by false s)) e) over.closed

      front_kept : (q : Record → Bool) → has q n.forced ≡ true → has q (kept n) ≡ true
      front_kept q e = in_first q n.forced n.unforced e

      not_prepared : (coordinator_view place n d).standing ≡ Prepared → ⊥
      not_prepared e =
          let f = prepared_facts place n d e in
          elim over.decided [
            | inl none ↦ never _ (has_other (is_prepare d) (is_promise d) (kept n) (prepare_is d) f.promise)
                none
            | inr some ↦ elim some [
              | inl commit ↦ elim (either _ _ (sym (has_or (is_commit d) is_managers (kept n))
                  ∙ front_kept _ (has_other (is_learnt_commit d)
                  (λ r. is_commit d r || is_managers r) n.forced
                  (learnt_is d) commit))) [
                    | inl own ↦ never _ own f.no_commit
                    | inr other ↦ never_managers other
                  ]
              | inr rest ↦ elim rest [
                | inl abort ↦ elim (either _ _ abort) [
                  | inl other ↦ never_managers
                      (front_kept _ (has_other (is_learnt_abort d) is_managers n.forced
                      (abort_learnt_is d) other))
                  | inr own ↦ never _ (front_kept (is_abort d) (both _ _ own).0) f.no_abort
                ]
                | inr forgot ↦ never_managers
                    (front_kept _ (has_other (is_forgot d) is_managers n.forced (forgot_is d) forgot))
              ]
            ]
          ]

      -- such a case decides nothing any more, and asks nobody

      module _ (up : n.failed ≡ false) where
        from_nowhere : (c : Case) (ts : List Ticket) → DecidesFrom place n c ts → c ≡ d → ⊥
        from_nowhere c _ (from_votes ts at) same =
            not_collecting up (subst (λ (y : Case). (coordinator_view place n y).standing ≡ Collecting) same
            at)
        from_nowhere c _ (from_promise at) same =
            not_prepared (subst (λ (y : Case). (coordinator_view place n y).standing ≡ Prepared) same at)
        from_nowhere c _ (for_nobody at) same =
            not_prepared (subst (λ (y : Case). (coordinator_view place n y).standing ≡ Prepared) same at)

        writes_none : (c : Case) (ws : List Written) → Writes place n c ws → (u : Ticket)
            → has (is_decision_naming d u) (entries_written ws) ≡ true → ⊥
        writes_none c _ nothing u e = never _ e (has-nil (is_decision_naming d u))
        writes_none c _ (ended r b) u e =
            never false (one_has (is_decision_naming d u) (EndRecord c r) e) refl
        writes_none c _ (cleared b) u e =
            never false (one_has (is_decision_naming d u) (ClearedRecord c) e) refl
        writes_none c _ (collected b at) u e =
            never false (one_has (is_decision_naming d u)
            (CollectingRecord c (coordinator_view place n c).accepted) e) refl
        writes_none c _ (promised ys b at) u e =
            never false (one_has (is_decision_naming d u) (PrepareRecord c ys) e) refl
        writes_none c _ (decided o ts b from f) u e =
            from_nowhere c ts from
            (case_is c d (decision_names d c u ts o (one_has (is_decision_naming d u) (decision o c ts) e)).0)

        writes_uncollected : (c : Case) (ws : List Written) → Writes place n c ws
            → has (is_collecting d) (entries_written ws) ≡ true → ⊥
        writes_uncollected c _ nothing e = never _ e (has-nil (is_collecting d))
        writes_uncollected c _ (ended r b) e = never false (one_has (is_collecting d) (EndRecord c r) e) refl
        writes_uncollected c _ (cleared b) e = never false
            (one_has (is_collecting d) (ClearedRecord c) e) refl
        writes_uncollected c _ (collected b at) e =
            not_active up (subst (λ (y : Case). (coordinator_view place n y).standing ≡ Active)
            (case_is c d (one_has (is_collecting d)
            (CollectingRecord c (coordinator_view place n c).accepted) e)) at)
        writes_uncollected c _ (promised ys b at) e =
            never false (one_has (is_collecting d) (PrepareRecord c ys) e) refl
        writes_uncollected c _ (decided CommittedOutcome ts b from f) e =
            never false (one_has (is_collecting d) (decision CommittedOutcome c ts) e) refl
        writes_uncollected c _ (decided AbortedOutcome ts b from f) e =
            never false (one_has (is_collecting d) (decision AbortedOutcome c ts) e) refl

        module _ (h : Heard) (g : Effect) (turn : CoordinatorTurn (coordinator_place me (Some p) tree)
            (Some p) n h g) where
          turn_undecided : (u : Ticket) → has (is_decision_naming d u) (entries_written g.written) ≡ true → ⊥
          turn_undecided u e = elim (turn_writes place (Some p) n h g turn) [
            | inl none ↦ never _ (ap (λ ws. has (is_decision_naming d u) (entries_written ws)) (sym none) ∙ e)
                (has-nil (is_decision_naming d u))
            | inr one ↦ writes_none one.of g.written one.writes u e
          ]

          turn_uncollected : has (is_collecting d) (entries_written g.written) ≡ true → ⊥
          turn_uncollected e = elim (turn_writes place (Some p) n h g turn) [
            | inl none ↦ never _ (ap (λ ws. has (is_collecting d) (entries_written ws)) (sym none) ∙ e)
                (has-nil (is_collecting d))
            | inr one ↦ writes_uncollected one.of g.written one.writes e
          ]

    -- So what an acknowledgement covers, it covers.

    module _ (ls : List Envelope) (x : Txn) (t : Ticket) (o : Outcome) (fs : List Finding)
        (over : IsOver (coordinator_place me (Some p) tree) n (child_case x t)) (old : Covers ls n x t o fs)
      where
        abbrev d : Case
        d = child_case x t

        restart_none : (j : ℕ) (u : Ticket) → has (is_decision_naming d u)
            (reopens AtRoot (left_of n j)) ≡ true → ⊥
        restart_none j u e =
            let rs = left_of n j in
            let s = stood d rs (reopened_stood d rs
            (has_other (is_decision_naming d u) (is_record_of d) (reopens AtRoot rs) (naming_recorded d u) e))
            in
            never _ (in_first (is_decision d) n.forced _
            (old.collecting_is_decided (left_kept n j (is_collecting d) s.collecting)))
            s.no_decision

        named_then : (k : Node) → Became me (Some p) tree n k → (u : Ticket)
            → has (is_decision_naming d u) k.life ≡ true → Acked ls x o fs u
        named_then k (by_turn h g new up turn front keeps life grows) u e =
            elim (in_either (is_decision_naming d u) (reverse new) n.life
            (ap (has (is_decision_naming d u)) (sym life) ∙ e)) [
              | inl now ↦ absurd (turn_undecided d over up h g turn u
                  (front (is_decision_naming d u) (sym (has-reverse (is_decision_naming d u) new) ∙ now)))
              | inr before ↦ old.named u before
            ]
        named_then k (at_rest keeps life grows) u e =
            old.named u (ap (has (is_decision_naming d u)) (sym life) ∙ e)
        named_then k (by_restart j new front keeps life grows) u e =
            elim (in_either (is_decision_naming d u) (reverse new) n.life
            (ap (has (is_decision_naming d u)) (sym life) ∙ e)) [
              | inl now ↦ absurd (restart_none j u
                  (front (is_decision_naming d u) (sym (has-reverse (is_decision_naming d u) new) ∙ now)))
              | inr before ↦ old.named u before
            ]
        named_then k (by_trim keeps life whole) u e =
            old.named u (ap (has (is_decision_naming d u)) (sym life) ∙ e)

        trim_decided : has (is_collecting d) (trimmed AtRoot (kept n)) ≡ true
            → has (is_decision d) (trimmed AtRoot (kept n)) ≡ true
        trim_decided e = by_stay (case_stays (kept n) (Some d)) refl
          where
            by_stay : (b : Bool) → case_stays (kept n) (Some d) ≡ b
                → has (is_decision d) (trimmed AtRoot (kept n)) ≡ true
            by_stay true f =
                known_stays d (is_decision d) (decision_of d) (kept n) f
                (in_first (is_decision d) n.forced n.unforced
                (old.collecting_is_decided (trim_kept (kept n) (is_collecting d) (λ k. refl) e)))
            by_stay false f = absurd (never _ e (gone (kept n) d t f).collecting)

        decided_then : (k : Node) → Became me (Some p) tree n k → has (is_collecting d) (kept k) ≡ true
            → has (is_decision d) k.forced ≡ true
        decided_then k (by_turn h g new up turn front keeps life grows) e =
            elim (in_either (is_collecting d) (kept n) new (ap (has (is_collecting d)) (sym keeps) ∙ e)) [
              | inl before ↦ grows (is_decision d) (old.collecting_is_decided before)
              | inr now ↦ absurd (turn_uncollected d over up h g turn (front (is_collecting d) now))
            ]
        decided_then k (at_rest keeps life grows) e =
            grows (is_decision d) (old.collecting_is_decided (ap (has (is_collecting d)) (sym keeps) ∙ e))
        decided_then k (by_restart j new front keeps life grows) e =
            elim (in_either (is_collecting d) (left_of n j) new (ap (has (is_collecting d)) (sym keeps) ∙ e)) [
              | inl before ↦ grows (is_decision d) (old.collecting_is_decided
                  (left_kept n j (is_collecting d) before))
              | inr now ↦ absurd (never _ (front (is_collecting d) now)
                  (reopens_none (is_collecting d) (λ c ts. refl) (λ k. refl) AtRoot (left_of n j)))
            ]
        decided_then k (by_trim keeps life whole) e =
            ap (has (is_decision d)) whole ∙ trim_decided (ap (has (is_collecting d)) (sym keeps) ∙ e)

        pub covers_still : (k : Node) → Became me (Some p) tree n k → Covers ls k x t o fs
        covers_still k b = record { named = named_then k b; collecting_is_decided = decided_then k b }

    -- A new acknowledgement covers what it should.

    module _ (ls : List Envelope) (h : Heard) (x : Txn) (t : Ticket) (o : Outcome) (fs : List Finding)
        (heard : AllHeardAmong ls n.heard) (now : InputAmong ls h.input)
        (lasts : CoordinatorLasts (coordinator_place me (Some p) tree) n)
        (names : NamesBy x.presumption (child_case x t) (kept n)) (up : n.failed ≡ false)
        (undecided : ((coordinator_view (coordinator_place me (Some p) tree) n (child_case x t)).standing
        ≡ Active)
        ⊎ ((coordinator_view (coordinator_place me (Some p) tree) n (child_case x t)).standing ≡ Collecting)
        → has (is_decision (child_case x t)) n.life ≡ false)
        (clear : in_list (unreported_of fs) t ≡ false) (k : Node) (g : Effect)
        (keeps : kept k ≡ kept n ++ entries_written g.written)
        (life : k.life ≡ reverse (entries_written g.written) ++ n.life) (grows : Grows n.forced k.forced)
        (whole : is_any_forced g.written ≡ true → k.forced ≡ kept n ++ entries_written g.written)
      where
        abbrev own : Case
        own = child_case x t

        -- who is named was named before, or now
        named_either : (u : Ticket) → has (is_decision_naming own u) k.life ≡ true
            → (has (is_decision_naming own u) (entries_written g.written) ≡ true)
            ⊎ (has (is_decision_naming own u) n.life ≡ true)
        named_either u e =
            elim (in_either (is_decision_naming own u) (reverse (entries_written g.written)) n.life
            (ap (has (is_decision_naming own u)) (sym life) ∙ e)) [
              | inl a ↦ inl (sym (has-reverse (is_decision_naming own u) (entries_written g.written)) ∙ a)
              | inr b ↦ inr b
            ]

        one_named : (u : Ticket) (r : Record) (b : Bool) → g.written
            ≡ record { entry = r; is_forced = b } ∷ []
            → has (is_decision_naming own u) (entries_written g.written) ≡ true
            → is_decision_naming own u r ≡ true
        one_named u r b e f =
            one_has (is_decision_naming own u) r (ap
            (λ ws. has (is_decision_naming own u) (entries_written ws)) (sym e) ∙ f)

        pub covers_now : AcksBy (coordinator_place me (Some p) tree) (Some p) n h
            (child_case x t) g.written o fs
            → Covers ls k x t o fs
        covers_now (unknown_acks e) =
            absurd (never _ (ap (λ gs. in_list (unreported_of gs) t) (sym e) ∙ unreported_one t) clear)
        covers_now (open_acks none at) = record {
          named = λ u e. elim (named_either u e) [
            | inl a ↦ absurd (never _ (ap (λ ws. has (is_decision_naming own u) (entries_written ws))
                (sym none) ∙ a)
                (has-nil (is_decision_naming own u)))
            | inr b ↦ absurd (never _ b (no_decision_naming own u n.life (undecided (inl at))))
          ];
          collecting_is_decided = λ e. elim (in_either (is_collecting own) (kept n)
              (entries_written g.written)
              (ap (has (is_collecting own)) (sym keeps) ∙ e)) [
                | inl a ↦ absurd (never _ a
                    (active_unrecorded (kept n) own (memory_of place n own).phase
                    (sym (viewed place n own) ∙ at)).no_collecting)
                | inr b ↦ absurd (never _ (ap (λ ws. has (is_collecting own) (entries_written ws)) (sym none)
                    ∙ b)
                    (has-nil (is_collecting own)))
              ];
        }
        covers_now (alone_acks us wrote none at) = record {
          named = λ u e. elim (named_either u e) [
            | inl a ↦ absurd (never _
                (both (same_case own own) (in_list us u) (one_named u (AbortRecord own us) true wrote a)).1
                (none_in us u none))
            | inr b ↦ absurd (never _ b (no_decision_naming own u n.life (undecided (inr at))))
          ];
          collecting_is_decided = λ e. ap (has (is_decision own)) (whole (ap is_any_forced wrote))
              ∙ in_second (is_decision own) (kept n) (entries_written g.written)
              (ap (λ ws. has (is_decision own) (entries_written ws)) wrote ∙ abort_there us);
        }
          where
            abort_there : (ts : List Ticket) → has (is_decision own) (AbortRecord own ts ∷ []) ≡ true
            abort_there ts =
                has-cons (is_decision own) (AbortRecord own ts) []
                ∙ left _ _ (right (is_commit own (AbortRecord own ts)) _ (same_case-refl own))
        covers_now (last_acks u' gs hears from last found r b wrote) = record {
          named = λ u e. elim (named_either u e) [
            | inl a ↦ absurd (never false (one_named u (EndRecord own r) b wrote a) refl)
            | inr old ↦ subst (λ (hs : List Finding). Acked ls x o hs u) found
                (acked_within ls x o (found_below (coordinator_place me (Some p) tree) n own o gs)
                (in_order (found_below (coordinator_place me (Some p) tree) n own o gs)) u
                (within_in_order (found_below (coordinator_place me (Some p) tree) n own o gs))
                (all_acked ls me (Some p) tree n heard h now own u' o gs hears from last u
                (named_owed place n own lasts.stays o (coordinator_view place n own).standing
                from refl u old)))
          ];
          collecting_is_decided = λ e. grows (is_decision own)
              (decided_forced place n own names lasts.forced up o
              (coordinator_view place n own).standing from refl);
        }
