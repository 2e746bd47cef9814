-- What a root's restart and trim leave of where its cases stand.
use Rattle.std.proofs.Common.{◌≡◌, ◌∙◌, ◌⊎◌, inl, inr, ◌+◌, ℕ, Bool, true, false, Option, Some, None, List, [], ◌∷◌, ◌++◌, refl, sym, ap, subst, ◌||◌, if◌then◌else◌, arith}
use Rattle.std.specs.Prelude.{fold}
use Rattle.std.specs.List.{flat_map}
use Rattle.protocol.specs.declared.names.Case.{Case}
use Rattle.protocol.specs.declared.names.Presumption.{Presumption}
use Rattle.protocol.specs.declared.names.Presumption.TheVariants.{PresumeAbort, PresumeCommit}
use Rattle.protocol.specs.declared.records.Record.{Record}
use Rattle.protocol.specs.declared.records.Record.TheVariants.{Opened}
use Rattle.protocol_words.specs.Variants.{AbortRecord}
use Rattle.protocol.specs.declared.standings.Standing.{Standing}
use Rattle.protocol.specs.declared.standings.Standing.TheVariants.{Unknown, Active, Collecting, Prepared, Committing, Aborting, Heuristic}
use Rattle.protocol.specs.declared.names.Ticket.{Ticket}
use Rattle.protocol.specs.Names.{same_case}
use Rattle.protocol.specs.NameLaws.{same_case-refl, same_case_tells}
use Rattle.protocol.specs.Records.{has, has_case, record_case, with_case, with_record, cases_in, none_of, boot_of, is_end, is_commit, is_abort, is_prepare, is_collecting, owing_by, is_reported}
use Rattle.protocol.specs.Nodes.{AtRoot}
use Rattle.protocol.specs.Memory.{Phase, Idle, Open, Asked, fresh_memory}
use Rattle.protocol.specs.Standings.{CoordinatorView, coordinator_standing, phase_standing, standing_by}
use Rattle.protocol.specs.Restarts.{recorded_view, restart_abort, aborts_collecting, coordinator_reopens, reopens, case_stays, stays, staying, trimmed, is_known}
use Rattle.proof_model.proofs.StandingLaws.{NoRecords, view_standing}
use Rattle.proof_model.proofs.RootRowLaws.{phase_collecting}
use Rattle.proof_pairs.proofs.readings.Trimmed.{gone}
use Rattle.proof_pairs.proofs.turns.Operators.{reopens_none}
use Rattle.proof_processes.specs.WorldHolds.{is_record_of, is_of}
use Rattle.proof_processes.proofs.Tests.{not_both, has-nil, in_first, in_second, in_either, has-cons, either, left, right}
use Rattle.proof_processes.proofs.Trims.{trim_left}
use Rattle.proof_processes.proofs.Worlds.{has_other}
use Rattle.proof_pairs.proofs.readings.Inquiries.{has_case-more, found}
use Rattle.proof_processes.proofs.Phases.{standing_at, Together, Unrecorded, unrecorded_stands, collecting_undecided, active_unrecorded}

-- A case with a record is one of the log's.

module _ (c : Case) where
  is_same : (d : Case) → same_case d c ≡ true → d ≡ c
  is_same d e = elim (same_case_tells d c) [ inl t ↦ t.1 | inr f ↦ absurd (let g = f.0 in cc) ]

  adds : (cs : List Case) (o : Option Case) → is_of c o ≡ true → has_case (with_case cs o) c ≡ true
  adds cs None e = absurd (cc)
  adds cs (Some d) e = found cs d c (has_case cs d) refl (is_same d e)

  recorded_in : (rs : List Record) (cs : List Case)
      → (has_case cs c ≡ true) ⊎ (has (is_record_of c) rs ≡ true)
      → has_case (fold with_record cs rs) c ≡ true
  unfolding has
  recorded_in [] cs (inl e) = e
  recorded_in [] cs (inr e) = absurd (cc)
  recorded_in (r ∷ rs) cs (inl e) = recorded_in rs (with_record cs r)
      (inl (has_case-more cs (record_case r) c e))
  recorded_in (r ∷ rs) cs (inr e) = elim (either (is_record_of c r) (has (is_record_of c) rs) e) [
    | inl now ↦ recorded_in rs (with_record cs r) (inl (adds cs (record_case r) now))
    | inr rest ↦ recorded_in rs (with_record cs r) (inr rest)
  ]

  pub recorded_case : (rs : List Record) → has (is_record_of c) rs ≡ true → has_case (cases_in rs) c ≡ true
  unfolding cases_in
  recorded_case rs e = recorded_in rs [] (inr e)

  -- what is appended for it is appended
  for_each : (q : Record → Bool) (f : Case → List Record) (cs : List Case) → has_case cs c ≡ true
      → has q (f c) ≡ true → has q (flat_map f cs) ≡ true
  unfolding has_case
  for_each q f [] e g = absurd (cc)
  for_each q f (d ∷ cs) e g = elim (either (same_case d c) (has_case cs c) e) [
    | inl now ↦ in_first q (f d) (flat_map f cs) (ap (λ x. has q (f x)) (is_same d now) ∙ g)
    | inr rest ↦ in_second q (f d) (flat_map f cs) (for_each q f cs rest g)
  ]

  pub recorded_stands : (rs : List Record) → (recorded_view rs c).standing ≡ standing_at rs c Idle
  unfolding recorded_view
  recorded_stands rs = view_standing (coordinator_standing rs c fresh_memory) rs c fresh_memory

  -- A restart leaves no case Collecting.

  aborts_it : (v : CoordinatorView) (st : Standing) → st ≡ Collecting
      → has (is_abort c) (restart_abort c v st) ≡ true
  unfolding has
  aborts_it v Collecting e = rw (same_case-refl c) refl
  aborts_it v Unknown e = absurd (cc)
  aborts_it v Active e = absurd (cc)
  aborts_it v Prepared e = absurd (cc)
  aborts_it v Committing e = absurd (cc)
  aborts_it v Aborting e = absurd (cc)
  aborts_it v Heuristic e = absurd (cc)

  is_recorded : (r : Record) → is_collecting c r ≡ true → is_record_of c r ≡ true
  is_recorded r e = grind arith

  -- with Idle memory a case collects after its record only
  idle_collects : (p : Presumption) (E C A P K N : Bool)
      → standing_by E C A P K N (phase_standing p Idle) ≡ Collecting → K ≡ true
  idle_collects p E C A P true N e = refl
  idle_collects PresumeAbort true C A P false N e = absurd (cc)
  idle_collects PresumeAbort false true A P false true e = absurd (cc)
  idle_collects PresumeAbort false true A P false false e = absurd (cc)
  idle_collects PresumeAbort false false true P false true e = absurd (cc)
  idle_collects PresumeAbort false false true P false false e = absurd (cc)
  idle_collects PresumeAbort false false false true false N e = absurd (cc)
  idle_collects PresumeAbort false false false false false N e = absurd (cc)
  idle_collects PresumeCommit true C A P false N e = absurd (cc)
  idle_collects PresumeCommit false true A P false true e = absurd (cc)
  idle_collects PresumeCommit false true A P false false e = absurd (cc)
  idle_collects PresumeCommit false false true P false true e = absurd (cc)
  idle_collects PresumeCommit false false true P false false e = absurd (cc)
  idle_collects PresumeCommit false false false true false N e = absurd (cc)
  idle_collects PresumeCommit false false false false false N e = absurd (cc)

  pub idle_standing : (rs : List Record) → standing_at rs c Idle ≡ Collecting
      → has (is_collecting c) rs ≡ true
  idle_standing rs e =
      idle_collects c.txn.presumption (has (is_end c) rs) (has (is_commit c) rs) (has (is_abort c) rs)
      (has (is_prepare c) rs) (has (is_collecting c) rs) (none_of (owing_by c rs)) e

  -- and so it stands where it has the record and no other
  pub stands_collecting : (rs : List Record) (ph : Phase) → NoRecords rs c → has (is_collecting c) rs ≡ true
      → standing_at rs c ph ≡ Collecting
  stands_collecting rs ph u k = rw (u.no_end, u.no_commit, u.no_abort, u.no_prepare, k) refl

  fronts : (rs new : List Record) → NoRecords (rs ++ new) c → NoRecords rs c
  fronts rs new u = record {
    no_end = none_in (is_end c) u.no_end;
    no_commit = none_in (is_commit c) u.no_commit;
    no_abort = none_in (is_abort c) u.no_abort;
    no_prepare = none_in (is_prepare c) u.no_prepare;
  }
    where
      none_in : (q : Record → Bool) → has q (rs ++ new) ≡ false → has q rs ≡ false
      none_in q e = by_test (has q rs) refl
        where
          by_test : (b : Bool) → has q rs ≡ b → has q rs ≡ false
          by_test true f = not_both q (has q (rs ++ new)) (in_first q rs new f) e
          by_test false f = f

  aborted_anew : (rs : List Record) → coordinator_standing rs c fresh_memory ≡ Collecting
      → has (is_record_of c) rs ≡ true → has (is_abort c) (coordinator_reopens rs) ≡ true
  unfolding recorded_view
  aborted_anew rs e k =
      let v = recorded_view rs c in
      has-cons (is_abort c) (Opened (boot_of rs + 1)) (flat_map (aborts_collecting rs) (cases_in rs))
      ∙ for_each (is_abort c) (aborts_collecting rs) (cases_in rs) (recorded_case rs k)
      (aborts_it v v.standing (view_standing (coordinator_standing rs c fresh_memory) rs c fresh_memory ∙ e))

  pub reopened_collects_not : (rs : List Record) → standing_at (rs ++ reopens AtRoot rs) c Idle ≡ Collecting
      → ⊥
  reopened_collects_not rs e =
      let new = reopens AtRoot rs in
      let u = collecting_undecided (rs ++ new) c Idle e in
      let was : has (is_collecting c) rs ≡ true =
      only_first (in_either (is_collecting c) rs new (idle_standing (rs ++ new) e)) in
      not_both (is_abort c) (has (is_abort c) (rs ++ new))
      (in_second (is_abort c) rs new
      (aborted_anew rs (stands_collecting rs Idle (fronts rs new u) was)
      (has_other (is_collecting c) (is_record_of c) rs is_recorded was)))
      u.no_abort
    where
      only_first : (has (is_collecting c) rs ≡ true) ⊎ (has (is_collecting c) (reopens AtRoot rs) ≡ true)
          → has (is_collecting c) rs ≡ true
      only_first (inl a) = a
      only_first (inr b) =
          not_both (is_collecting c) _ b (reopens_none (is_collecting c) (λ d ts. refl) (λ k. refl) AtRoot rs)

  -- it appends records of those that have one alone

  of_one : (d : Case) (ts : List Ticket) → has (is_record_of c) (AbortRecord d ts ∷ []) ≡ true
      → same_case d c ≡ true
  unfolding has
  of_one d ts e = alone (same_case d c) e
    where
      alone : (b : Bool) → (b || false) ≡ true → b ≡ true
      alone b g = grind arith

  abort_recorded : (rs : List Record) (d : Case) (st : Standing) → (recorded_view rs d).standing ≡ st
      → has (is_record_of c) (restart_abort d (recorded_view rs d) st) ≡ true → has (is_record_of c) rs ≡ true
  abort_recorded rs d Collecting e k =
      has_other (is_collecting c) (is_record_of c) rs is_recorded
      (idle_standing rs (sym (recorded_stands rs)
      ∙ subst (λ (x : Case). (recorded_view rs x).standing ≡ Collecting)
      (is_same d (of_one d (recorded_view rs d).named k)) e))
  abort_recorded rs d Unknown e k = not_both (is_record_of c) (has (is_record_of c) []) k
      (has-nil (is_record_of c))
  abort_recorded rs d Active e k = not_both (is_record_of c) (has (is_record_of c) []) k
      (has-nil (is_record_of c))
  abort_recorded rs d Prepared e k = not_both (is_record_of c) (has (is_record_of c) []) k
      (has-nil (is_record_of c))
  abort_recorded rs d Committing e k = not_both (is_record_of c) (has (is_record_of c) []) k
      (has-nil (is_record_of c))
  abort_recorded rs d Aborting e k = not_both (is_record_of c) (has (is_record_of c) []) k
      (has-nil (is_record_of c))
  abort_recorded rs d Heuristic e k = not_both (is_record_of c) (has (is_record_of c) []) k
      (has-nil (is_record_of c))

  aborts_recorded : (rs : List Record) (cs : List Case)
      → has (is_record_of c) (flat_map (aborts_collecting rs) cs) ≡ true → has (is_record_of c) rs ≡ true
  aborts_recorded rs [] k = not_both (is_record_of c) (has (is_record_of c) []) k (has-nil (is_record_of c))
  aborts_recorded rs (d ∷ cs) k =
      elim (in_either (is_record_of c) (aborts_collecting rs d) (flat_map (aborts_collecting rs) cs) k) [
        | inl now ↦ abort_recorded rs d (recorded_view rs d).standing refl now
        | inr rest ↦ aborts_recorded rs cs rest
      ]

  pub reopened_record : (rs : List Record) → has (is_record_of c) (reopens AtRoot rs) ≡ true
      → has (is_record_of c) rs ≡ true
  reopened_record rs k =
      aborts_recorded rs (cases_in rs)
      (sym (has-cons (is_record_of c) (Opened (boot_of rs + 1))
      (flat_map (aborts_collecting rs) (cases_in rs))) ∙ k)

  -- A trim.

  -- a case that is known stays
  known_stays_whole : (rs : List Record) → is_known (recorded_view rs c).standing ≡ true
      → case_stays rs (Some c) ≡ true
  known_stays_whole rs k = ap (λ b. b || is_reported rs c) k

  stays_whole : (q : Record → Bool) → ((r : Record) → q r ≡ true → is_record_of c r ≡ true)
      → (whole rs : List Record) → case_stays whole (Some c) ≡ true → has q rs ≡ true
      → has q (staying AtRoot whole rs) ≡ true
  stays_whole q f whole [] k e = e
  stays_whole q f whole (r ∷ rs) k e =
      by_either (either (q r) (has q rs) (sym (has-cons q r rs) ∙ e)) (stays_whole q f whole rs k)
    where
      known : (o : Option Case) → is_of c o ≡ true → case_stays whole o ≡ true
      known None g = absurd (cc)
      known (Some d) g = ap (λ x. case_stays whole (Some x)) (is_same d g) ∙ k

      with_rest : (b : Bool) → has q (staying AtRoot whole rs) ≡ true
          → has q (if b then r ∷ staying AtRoot whole rs else staying AtRoot whole rs) ≡ true
      with_rest true g = has-cons q r (staying AtRoot whole rs) ∙ right _ _ g
      with_rest false g = g

      by_either : (q r ≡ true) ⊎ (has q rs ≡ true)
          → (has q rs ≡ true → has q (staying AtRoot whole rs) ≡ true)
          → has q (staying AtRoot whole (r ∷ rs)) ≡ true
      by_either (inl now) g =
          rw (known (record_case r) (f r now)) (has-cons q r (staying AtRoot whole rs) ∙ left _ _ now)
      by_either (inr rest) g = with_rest (stays AtRoot whole rs r) (g rest)

  -- the records of a case that stays
  pub known_stays : (q : Record → Bool) → ((r : Record) → q r ≡ true → is_record_of c r ≡ true)
      → (rs : List Record) → case_stays rs (Some c) ≡ true → has q rs ≡ true
      → has q (trimmed AtRoot rs) ≡ true
  unfolding trimmed
  known_stays q f rs k e =
      in_first q (Opened (boot_of rs) ∷ staying AtRoot rs rs) []
      (has-cons q (Opened (boot_of rs)) (staying AtRoot rs rs) ∙ right _ _ (stays_whole q f rs rs k e))

  -- what a trim leaves was there
  was_there : (q : Record → Bool) → ((k : ℕ) → q (Opened k) ≡ false) → (rs : List Record)
      → has q (trimmed AtRoot rs) ≡ true → has q rs ≡ true
  was_there q none rs e = elim (trim_left q none AtRoot rs e) [
    | inl old ↦ old
    | inr new ↦ not_both q (has q []) new (has-nil q)
  ]

  never_there : (q : Record → Bool) → ((k : ℕ) → q (Opened k) ≡ false) → (rs : List Record)
      → has q rs ≡ false → has q (trimmed AtRoot rs) ≡ false
  never_there q none rs e = by_test (has q (trimmed AtRoot rs)) refl
    where
      by_test : (b : Bool) → has q (trimmed AtRoot rs) ≡ b → has q (trimmed AtRoot rs) ≡ false
      by_test true f = not_both q (has q rs) (was_there q none rs f) e
      by_test false f = f

  none_before : (q : Record → Bool) → ((r : Record) → q r ≡ true → is_record_of c r ≡ true)
      → (rs : List Record)
      → case_stays rs (Some c) ≡ true → has q (trimmed AtRoot rs) ≡ false → has q rs ≡ false
  none_before q f rs k e = by_test (has q rs) refl
    where
      by_test : (b : Bool) → has q rs ≡ b → has q rs ≡ false
      by_test true g = not_both q (has q (trimmed AtRoot rs)) (known_stays q f rs k g) e
      by_test false g = g

  module _ (rs : List Record) (ph : Phase) (old : Together rs c ph) where
    abbrev new : List Record
    new = trimmed AtRoot rs

    undecided_then : NoRecords rs c → NoRecords new c
    undecided_then u = record {
      no_end = never_there (is_end c) (λ k. refl) rs u.no_end;
      no_commit = never_there (is_commit c) (λ k. refl) rs u.no_commit;
      no_abort = never_there (is_abort c) (λ k. refl) rs u.no_abort;
      no_prepare = never_there (is_prepare c) (λ k. refl) rs u.no_prepare;
    }

    undecided_before : case_stays rs (Some c) ≡ true → NoRecords new c → NoRecords rs c
    undecided_before k u = record {
      no_end = none_before (is_end c) (λ r e. grind arith) rs k u.no_end;
      no_commit = none_before (is_commit c) (λ r e. grind arith) rs k u.no_commit;
      no_abort = none_before (is_abort c) (λ r e. grind arith) rs k u.no_abort;
      no_prepare = none_before (is_prepare c) (λ r e. grind arith) rs k u.no_prepare;
    }

    unrecorded_of : (xs : List Record) → NoRecords xs c → has (is_collecting c) xs ≡ false → Unrecorded xs c
    unrecorded_of xs u k = record {
      no_end = u.no_end;
      no_commit = u.no_commit;
      no_abort = u.no_abort;
      no_prepare = u.no_prepare;
      no_collecting = k;
    }

    open_stays : ph ≡ Open → standing_at new c ph ≡ Active
    open_stays e =
        let u = active_unrecorded rs c ph (old.open_is_active e) in
        let v = undecided_then (record
        { no_end = u.no_end; no_commit = u.no_commit; no_abort = u.no_abort; no_prepare = u.no_prepare }) in
        unrecorded_stands new c ph
        (unrecorded_of new v (never_there (is_collecting c) (λ k. refl) rs u.no_collecting))
        ∙ ap (phase_standing c.txn.presumption) e

    asked_by : (b : Bool) → has (is_collecting c) rs ≡ b → standing_at rs c ph ≡ Collecting
        → standing_at new c ph ≡ Collecting
    asked_by false k e =
        let u = collecting_undecided rs c ph e in
        unrecorded_stands new c ph
        (unrecorded_of new (undecided_then u) (never_there (is_collecting c) (λ j. refl) rs k))
        ∙ (sym (unrecorded_stands rs c ph (unrecorded_of rs u k)) ∙ e)
    asked_by true k e =
        let u = collecting_undecided rs c ph e in
        let known : is_known (recorded_view rs c).standing ≡ true =
        ap is_known (recorded_stands rs ∙ stands_collecting rs Idle u k) in
        stands_collecting new ph (undecided_then u)
        (known_stays (is_collecting c) is_recorded rs (known_stays_whole rs known) k)

    asked_before : (b : Bool) → has (is_collecting c) new ≡ b → standing_at new c ph ≡ Collecting → ph ≡ Asked
    asked_before false k e =
        phase_collecting c.txn.presumption ph
        (sym (unrecorded_stands new c ph (unrecorded_of new (collecting_undecided new c ph e) k)) ∙ e)
    asked_before true k e = by_known (case_stays rs (Some c)) refl
      where
        any : Ticket
        any = record { child = c.txn.root; boot = 0; number = 0 }

        by_known : (b : Bool) → case_stays rs (Some c) ≡ b → ph ≡ Asked
        by_known true f =
            old.collecting_is_asked
            (stands_collecting rs ph (undecided_before f (collecting_undecided new c ph e))
            (was_there (is_collecting c) (λ j. refl) rs k))
        by_known false f = not_both (is_collecting c) (has (is_collecting c) new) k
            (gone rs c any f).collecting

    pub trim_together : Together (trimmed AtRoot rs) c ph
    trim_together = record {
      open_is_active = open_stays;
      asked_is_collecting = λ e. asked_by (has (is_collecting c) rs) refl (old.asked_is_collecting e);
      collecting_is_asked = asked_before (has (is_collecting c) (trimmed AtRoot rs)) refl;
    }
