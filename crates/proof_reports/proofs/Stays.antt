-- Whom a decision of a coordinator's case ever named, no kept Collecting, Prepare or decision of the case
-- leaves out.
use Rattle.std.proofs.Common.{◌≡◌, ◌∙◌, ◌&&◌, ◌||◌, ◌⊎◌, ◌+◌, inl, inr, ℕ, Bool, true, false, Option, List, [], ◌∷◌, ◌++◌, refl, sym, ap, subst, arith}
use Rattle.std.specs.Prelude.{not, reverse}
use Rattle.std.specs.List.{flat_map}
use Rattle.protocol.specs.declared.names.Case.{Case}
use Rattle.protocol.specs.declared.names.Outcome.{Outcome}
use Rattle.protocol_words.specs.Variants.{AbortRecord, AbortedOutcome, ClearedRecord, CollectingRecord, CommittedOutcome, EndRecord, PrepareRecord}
use Rattle.protocol.specs.declared.names.ProcessId.{ProcessId}
use Rattle.protocol.specs.declared.names.Ticket.{Ticket}
use Rattle.protocol.specs.declared.records.Record.{Record}
use Rattle.protocol.specs.declared.records.Record.TheVariants.{Opened}
use Rattle.protocol.specs.declared.standings.Standing.{Standing}
use Rattle.protocol.specs.declared.standings.Standing.TheVariants.{Unknown, Active, Collecting, Prepared, Committing, Aborting, Heuristic}
use Rattle.protocol.specs.declared.trees.TreeProcess.{TreeProcess}
use Rattle.protocol.specs.Names.{same_case}
use Rattle.protocol.specs.NameLaws.{same_case-refl}
use Rattle.protocol.specs.Records.{boot_of, cases_in, has, in_list, is_collecting, is_prepare, none_of, promised_by}
use Rattle.protocol.specs.Nodes.{AtRoot, Effect, Heard, Node, Place, Written, entries_written, kept}
use Rattle.protocol.specs.Memory.{Idle, memory_of}
use Rattle.protocol.specs.Outcomes.{has_accepted}
use Rattle.protocol.specs.Restarts.{aborts_collecting, left_of, recorded_view, reopens, restart_abort, trimmed}
use Rattle.protocol.specs.Standings.{coordinator_view}
use Rattle.protocol.specs.Audits.{is_decision_naming}
use Rattle.proof_pairs.specs.turns.CoordinatorTurns.{CoordinatorTurn}
use Rattle.proof_processes.specs.Lasts.{Nested, logs_of}
use Rattle.protocol.specs.Audits.{is_naming}
use Rattle.proof_processes.specs.WorldHolds.{is_record_of}
use Rattle.proof_processes.proofs.Cases.{viewed}
use Rattle.proof_processes.proofs.CaseOrders.{AllFit}
use Rattle.proof_processes.proofs.CoordinatorKept.{Coordinated}
use Rattle.proof_processes.proofs.CoordinatorPhases.{prepared_promised}
use Rattle.proof_processes.proofs.Naming.{effect_names, reopens_name, view_names}
use Rattle.proof_processes.proofs.Phases.{collecting_undecided}
use Rattle.proof_processes.proofs.Remembering.{coordinator_place}
use Rattle.proof_processes.proofs.RootLogs.{idle_standing, recorded_stands}
use Rattle.proof_processes.proofs.Tests.{both, case_is, has-cons, has-nil, has-reverse, in_either, in_none, left, neither}
use Rattle.proof_processes.proofs.Worlds.{has_other}
use Rattle.proof_steps.proofs.parents.Tables.{prepared_facts}
use Rattle.proof_reports.specs.SinceOpened.{is_decision}
use Rattle.proof_reports.proofs.Became.{Became, Grows, at_rest, by_restart, by_trim, by_turn, left_kept, trim_kept}
use Rattle.proof_reports.proofs.Naming.{collecting_names_it, collecting_stays_named, collecting_without, leaves_none, leaves_out, never, no_decision_naming, no_decision_without, no_decisions, no_prepare_without, none_if, one_prepare, prepare_promises, prepare_stays_named, promised_named}
use Rattle.proof_reports.proofs.Rows.{DecidesFrom, OneCase, Writes, cleared, collected, decided, decision, ended, for_nobody, from_promise, from_votes, nothing, promised, turn_writes}

abbrev pub NamesStay : Node → Type 0
NamesStay n = (c : Case) (t : Ticket) → has (is_decision_naming c t) n.life ≡ true
    → has (leaves_out c t) (kept n) ≡ false

grown_none : (xs ys : List Record) → Grows xs ys → (q : Record → Bool) → has q ys ≡ false → has q xs ≡ false
grown_none xs ys g q e = none_if q xs (λ f. never (has q ys) (g q f) e)

pub one_has : (q : Record → Bool) (r : Record) → has q (r ∷ []) ≡ true → q r ≡ true
unfolding has
one_has q r e = first_is (q r) e
  where
    first_is : (b : Bool) → (b || false) ≡ true → b ≡ true
    first_is b f = grind arith

one_lacks : (q : Record → Bool) (r : Record) → q r ≡ false → has q (r ∷ []) ≡ false
one_lacks q r e = has-cons q r [] ∙ neither (q r) (has q []) e (has-nil q)

-- What one decision names, and leaves out.

module _ (c d : Case) (t : Ticket) (ts : List Ticket) where
  pub decision_names : (o : Outcome) → is_decision_naming c t (decision o d ts) ≡ true
      → (same_case d c ≡ true) × (in_list ts t ≡ true)
  decision_names CommittedOutcome e = both (same_case d c) (in_list ts t) e
  decision_names AbortedOutcome e = both (same_case d c) (in_list ts t) e

  three : (s z b : Bool) → b ≡ true → (false || (false || (s && (not z && not b)))) ≡ false
  three s z b e = grind arith

  nobody_left : (s z b : Bool) → z ≡ true → (false || (false || (s && (not z && not b)))) ≡ false
  nobody_left s z b e = grind arith

  other_left : (s z b : Bool) → s ≡ false → (false || (false || (s && (not z && not b)))) ≡ false
  other_left s z b e = grind arith

  pub named_not_left : (o : Outcome) → in_list ts t ≡ true → leaves_out c t (decision o d ts) ≡ false
  named_not_left CommittedOutcome e = three (same_case d c) (none_of ts) (in_list ts t) e
  named_not_left AbortedOutcome e = three (same_case d c) (none_of ts) (in_list ts t) e

  pub none_not_left : (o : Outcome) → none_of ts ≡ true → leaves_out c t (decision o d ts) ≡ false
  none_not_left CommittedOutcome e = nobody_left (same_case d c) (none_of ts) (in_list ts t) e
  none_not_left AbortedOutcome e = nobody_left (same_case d c) (none_of ts) (in_list ts t) e

  pub other_not_left : (o : Outcome) → same_case d c ≡ false → leaves_out c t (decision o d ts) ≡ false
  other_not_left CommittedOutcome e = other_left (same_case d c) (none_of ts) (in_list ts t) e
  other_not_left AbortedOutcome e = other_left (same_case d c) (none_of ts) (in_list ts t) e

nobody_here : none_of [] ≡ true
unfolding none_of
nobody_here = refl

and_nothing : (x : Bool) → (x && false) ≡ false
and_nothing x = grind arith

names_nobody : (c d : Case) (t : Ticket) (p : Outcome) → is_decision_naming c t (decision p d []) ≡ false
unfolding in_list
names_nobody c d t CommittedOutcome = and_nothing (same_case d c)
names_nobody c d t AbortedOutcome = and_nothing (same_case d c)

-- What a restart writes.

module _ (c : Case) (rs : List Record) where
  -- a record of the case is written where it stands Collecting by what is left

  of_one : (d : Case) (ts : List Ticket) → has (is_record_of c) (AbortRecord d ts ∷ []) ≡ true
      → same_case d c ≡ true
  of_one d ts e = one_has (is_record_of c) (AbortRecord d ts) e

  no_record : {A : Type 0} → has (is_record_of c) [] ≡ true → A
  no_record e = absurd (never _ e (has-nil (is_record_of c)))

  one_stood : (d : Case) (s : Standing) → (recorded_view rs d).standing ≡ s
      → has (is_record_of c) (restart_abort d (recorded_view rs d) s) ≡ true
      → (recorded_view rs c).standing ≡ Collecting
  one_stood d Collecting e k =
      subst (λ (x : Case). (recorded_view rs x).standing ≡ Collecting)
      (case_is d c (of_one d (recorded_view rs d).named k)) e
  one_stood d Unknown e k = no_record k
  one_stood d Active e k = no_record k
  one_stood d Prepared e k = no_record k
  one_stood d Committing e k = no_record k
  one_stood d Aborting e k = no_record k
  one_stood d Heuristic e k = no_record k

  all_stood : (cs : List Case) → has (is_record_of c) (flat_map (aborts_collecting rs) cs) ≡ true
      → (recorded_view rs c).standing ≡ Collecting
  all_stood [] k = no_record k
  all_stood (d ∷ cs) k =
      elim (in_either (is_record_of c) (aborts_collecting rs d) (flat_map (aborts_collecting rs) cs) k) [
        | inl now ↦ one_stood d (recorded_view rs d).standing refl now
        | inr rest ↦ all_stood cs rest
      ]

  pub reopened_stood : has (is_record_of c) (reopens AtRoot rs) ≡ true
      → (recorded_view rs c).standing ≡ Collecting
  reopened_stood k =
      all_stood (cases_in rs)
      (sym (has-cons (is_record_of c) (Opened (boot_of rs + 1))
      (flat_map (aborts_collecting rs) (cases_in rs))) ∙ k)

  -- then nothing else stands of it
  pub record Stood : Type 0 where
    pub collecting : has (is_collecting c) rs ≡ true
    pub no_prepare : has (is_prepare c) rs ≡ false
    pub no_decision : has (is_decision c) rs ≡ false

  pub stood : (recorded_view rs c).standing ≡ Collecting → Stood
  stood e =
      let s = sym (recorded_stands c rs) ∙ e in
      let u = collecting_undecided rs c Idle s in
      record {
        collecting = idle_standing c rs s;
        no_prepare = u.no_prepare;
        no_decision = no_decisions c rs u.no_commit u.no_abort;
      }

  module _ (t : Ticket) (none : has (leaves_out c t) rs ≡ false) where
    abort_keeps : (d : Case) (s : Standing) → (recorded_view rs d).standing ≡ s
        → has (leaves_out c t) (restart_abort d (recorded_view rs d) s) ≡ false
    abort_keeps d Collecting e = by_test (same_case d c) refl
      where
        here : d ≡ c → in_list (recorded_view rs d).named t ≡ true
        here f =
            subst (λ (x : Case). in_list (recorded_view rs x).named t ≡ true) (sym f)
            (let at = subst (λ (x : Case). (recorded_view rs x).standing ≡ Collecting) f e in
            ap (λ ts. in_list ts t) (view_names rs c (recorded_view rs c) refl at)
            ∙ collecting_names_it c t rs (stood at).collecting (collecting_stays_named c t rs none))

        by_test : (b : Bool) → same_case d c ≡ b
            → has (leaves_out c t) (AbortRecord d (recorded_view rs d).named ∷ []) ≡ false
        by_test true f =
            one_lacks (leaves_out c t) _
            (named_not_left c d t (recorded_view rs d).named AbortedOutcome (here (case_is d c f)))
        by_test false f =
            one_lacks (leaves_out c t) _ (other_not_left c d t (recorded_view rs d).named AbortedOutcome f)
    abort_keeps d Unknown e = has-nil (leaves_out c t)
    abort_keeps d Active e = has-nil (leaves_out c t)
    abort_keeps d Prepared e = has-nil (leaves_out c t)
    abort_keeps d Committing e = has-nil (leaves_out c t)
    abort_keeps d Aborting e = has-nil (leaves_out c t)
    abort_keeps d Heuristic e = has-nil (leaves_out c t)

    aborts_keep : (cs : List Case) → has (leaves_out c t) (flat_map (aborts_collecting rs) cs) ≡ false
    aborts_keep [] = has-nil (leaves_out c t)
    aborts_keep (d ∷ cs) =
        in_none (leaves_out c t) (aborts_collecting rs d) (flat_map (aborts_collecting rs) cs)
        (abort_keeps d (recorded_view rs d).standing refl) (aborts_keep cs)

    pub reopens_keep : has (leaves_out c t) (reopens AtRoot rs) ≡ false
    reopens_keep =
        has-cons (leaves_out c t) (Opened (boot_of rs + 1)) (flat_map (aborts_collecting rs) (cases_in rs))
        ∙ aborts_keep (cases_in rs)

decision_recorded : (c : Case) (r : Record) → is_decision c r ≡ true → is_record_of c r ≡ true
decision_recorded c r e = grind arith

pub naming_recorded : (c : Case) (t : Ticket) (r : Record) → is_decision_naming c t r ≡ true
    → is_record_of c r ≡ true
naming_recorded c t r e = grind arith

naming_names : (c : Case) (t : Ticket) (r : Record) → is_decision_naming c t r ≡ true → is_naming c t r ≡ true
naming_names c t r e = grind arith

-- Each step.

module _ (me : ProcessId) (parent : Option ProcessId) (tree : List TreeProcess) (n : Node)
    (nested : Nested (logs_of n)) (holds : Coordinated (coordinator_place me parent tree) n)
    (fits : AllFit [] (kept n))
    (undecided : n.failed ≡ false → (c : Case)
    → ((coordinator_view (coordinator_place me parent tree) n c).standing ≡ Active)
    ⊎ ((coordinator_view (coordinator_place me parent tree) n c).standing ≡ Collecting)
    → has (is_decision c) n.life ≡ false)
    (all_named : (c : Case) (t : Ticket) → has_accepted n c t ≡ true
    → has (collecting_without c t) (kept n) ≡ false)
    (old : NamesStay n)
  where
    abbrev place : Place
    place = coordinator_place me parent tree

    module _ (c : Case) (t : Ticket) where
      -- An input.

      module _ (h : Heard) (g : Effect) (up : n.failed ≡ false)
          (turn : CoordinatorTurn (coordinator_place me parent tree) parent n h g)
        where
          abbrev Named : List Written → Type 0
          Named ws = (has (is_decision_naming c t) n.life ≡ true)
              ⊎ (has (is_decision_naming c t) (entries_written ws) ≡ true)

          abbrev Fine : List Written → Type 0
          Fine ws = (has (leaves_out c t) (kept n) ≡ false)
              × (has (leaves_out c t) (entries_written ws) ≡ false)

          accepted_now : has (is_decision_naming c t) (entries_written g.written) ≡ true
              → has_accepted n c t ≡ true
          accepted_now e =
              effect_names me parent tree n h c t holds.remembered_accepted
              (λ d u f. holds.named_accepted d u (nested.kept_was_written (is_naming d u) (λ k. refl) f)) g
              turn
              (has_other (is_decision_naming c t) (is_naming c t) (entries_written g.written)
              (naming_names c t) e)

          -- what names nobody of the case leaves as before
          quietly : (ws : List Written) → has (is_decision_naming c t) (entries_written ws) ≡ false
              → has (leaves_out c t) (entries_written ws) ≡ false → Named ws → Fine ws
          quietly ws none left (inl e) = (old c t e, left)
          quietly ws none left (inr e) = absurd (never _ e none)

          undecided_here : (d : Case) → same_case d c ≡ true
              → ((coordinator_view (coordinator_place me parent tree) n d).standing ≡ Active)
              ⊎ ((coordinator_view (coordinator_place me parent tree) n d).standing ≡ Collecting)
              → has (is_decision_naming c t) n.life ≡ false
          undecided_here d s at =
              no_decision_naming c t n.life
              (subst (λ (x : Case). has (is_decision x) n.life ≡ false) (case_is d c s) (undecided up d at))

          -- a record that no decision, of an undecided case
          asking : (d : Case) (r : Record) (b : Bool) → is_decision_naming c t r ≡ false
              → (same_case d c ≡ false → leaves_out c t r ≡ false)
              → ((coordinator_view (coordinator_place me parent tree) n d).standing ≡ Active)
              ⊎ ((coordinator_view (coordinator_place me parent tree) n d).standing ≡ Collecting)
              → Named (record { entry = r; is_forced = b } ∷ [])
              → Fine (record { entry = r; is_forced = b } ∷ [])
          asking d r b none other at = by_test (same_case d c) refl
            where
              by_test : (x : Bool) → same_case d c ≡ x → Named (record { entry = r; is_forced = b } ∷ [])
                  → Fine (record { entry = r; is_forced = b } ∷ [])
              by_test true f (inl e) = absurd (never _ e (undecided_here d f at))
              by_test true f (inr e) = absurd (never _ (one_has (is_decision_naming c t) r e) none)
              by_test false f k =
                  quietly (record { entry = r; is_forced = b } ∷ [])
                  (one_lacks (is_decision_naming c t) r none)
                  (one_lacks (leaves_out c t) r (other f)) k

          no_decision_at : (d : Case) → (coordinator_view (coordinator_place me parent tree) n d).standing
              ≡ Collecting
              → (has (is_prepare d) (kept n) ≡ false) × (has (is_decision d) (kept n) ≡ false)
          no_decision_at d at =
              let u = collecting_undecided (kept n) d (memory_of place n d).phase
              (sym (viewed place n d) ∙ at) in
              (u.no_prepare, no_decisions d (kept n) u.no_commit u.no_abort)

          -- a decision of this case
          deciding : (d : Case) (o : Outcome) (ts : List Ticket) (b : Bool) → DecidesFrom place n d ts → d ≡ c
              → (has (is_decision_naming c t) (decision o d ts ∷ []) ≡ true → has_accepted n c t ≡ true)
              → Named (record { entry = decision o d ts; is_forced = b } ∷ [])
              → Fine (record { entry = decision o d ts; is_forced = b } ∷ [])
          deciding d o _ b (from_votes ts at) same accepted (inl e) =
              absurd (never _ e (undecided_here d
              (subst (λ (x : Case). same_case d x ≡ true) same (same_case-refl d)) (inr at)))
          deciding d o _ b (from_votes ts at) same accepted (inr e) =
              let nothing_else = no_decision_at d at in (
                leaves_none c t (kept n) (all_named c t (accepted e))
                    (no_prepare_without c t (kept n)
                    (subst (λ (x : Case). has (is_prepare x) (kept n) ≡ false) same nothing_else.0))
                    (no_decision_without c t (kept n)
                    (subst (λ (x : Case). has (is_decision x) (kept n) ≡ false) same nothing_else.1)),
                one_lacks (leaves_out c t) (decision o d ts)
                    (named_not_left c d t ts o (decision_names c d t ts o (one_has _ _ e)).1),
              )
          deciding d o _ b (from_promise at) same accepted k = by_named k
            where
              none_decided : has (is_decision c) (kept n) ≡ false
              none_decided =
                  subst (λ (x : Case). has (is_decision x) (kept n) ≡ false) same
                  (no_decisions d (kept n) (prepared_facts place n d at).no_commit
                  (prepared_facts place n d at).no_abort)

              by_named : Named (record {
                entry = decision o d (coordinator_view place n d).promised;
                is_forced = b;
              } ∷ [])
                  → Fine (record { entry = decision o d (coordinator_view place n d).promised; is_forced = b }
                  ∷ [])
              by_named (inl e) =
                  let kept_so = old c t e in (
                    kept_so,
                    one_lacks (leaves_out c t) _
                        (named_not_left c d t (coordinator_view place n d).promised o
                        (ap (λ us. in_list us t) (prepared_promised me parent tree n h d at)
                        ∙ subst (λ (x : Case). in_list (promised_by x (kept n)) t ≡ true) (sym same)
                        (prepare_promises c t (kept n)
                        (subst (λ (x : Case). has (is_prepare x) (kept n) ≡ true) same
                        (prepared_facts place n d at).promise)
                        (prepare_stays_named c t (kept n) kept_so)))),
                  )
              by_named (inr e) =
                  let named = (decision_names c d t (coordinator_view place n d).promised o (one_has _ _ e)).1
                  in (
                    leaves_none c t (kept n) (all_named c t (accepted e))
                        (one_prepare c t (kept n) fits
                        (promised_named c t (kept n)
                        (subst (λ (x : Case). in_list (promised_by x (kept n)) t ≡ true) same
                        (ap (λ us. in_list us t) (sym (prepared_promised me parent tree n h d at)) ∙ named))))
                        (no_decision_without c t (kept n) none_decided),
                    one_lacks (leaves_out c t) _
                        (named_not_left c d t (coordinator_view place n d).promised o named),
                  )
          deciding d o _ b (for_nobody at) same accepted k =
              quietly (record { entry = decision o d []; is_forced = b } ∷ [])
              (one_lacks (is_decision_naming c t) _ (names_nobody c d t o))
              (one_lacks (leaves_out c t) _ (none_not_left c d t [] o nobody_here)) k

          others_collecting : (d : Case) (ts : List Ticket) → same_case d c ≡ false
              → leaves_out c t (CollectingRecord d ts) ≡ false
          others_collecting d ts e = by_bools (same_case d c) (in_list ts t) e
            where
              by_bools : (x b : Bool) → x ≡ false → ((x && not b) || (false || false)) ≡ false
              by_bools x b f = grind arith

          others_prepare : (d : Case) (ts : List Ticket) → same_case d c ≡ false
              → leaves_out c t (PrepareRecord d ts) ≡ false
          others_prepare d ts e = by_bools (same_case d c) (in_list ts t) e
            where
              by_bools : (x b : Bool) → x ≡ false → (false || ((x && not b) || false)) ≡ false
              by_bools x b f = grind arith

          -- a decision of another case names nobody here
          other_decision : (d : Case) (o : Outcome) (ts : List Ticket) → same_case d c ≡ false
              → is_decision_naming c t (decision o d ts) ≡ false
          other_decision d CommittedOutcome ts e = by_bools (same_case d c) (in_list ts t) e
            where
              by_bools : (x b : Bool) → x ≡ false → (x && b) ≡ false
              by_bools x b f = grind arith
          other_decision d AbortedOutcome ts e = by_bools (same_case d c) (in_list ts t) e
            where
              by_bools : (x b : Bool) → x ≡ false → (x && b) ≡ false
              by_bools x b f = grind arith

          case_fine : (d : Case) (ws : List Written) → Writes place n d ws
              → (has (is_decision_naming c t) (entries_written ws) ≡ true → has_accepted n c t ≡ true)
              → Named ws → Fine ws
          case_fine d _ nothing accepted k = quietly [] (has-nil (is_decision_naming c t))
              (has-nil (leaves_out c t)) k
          case_fine d _ (ended r b) accepted k =
              quietly (record { entry = EndRecord d r; is_forced = b } ∷ [])
              (one_lacks (is_decision_naming c t) (EndRecord d r) refl)
              (one_lacks (leaves_out c t) (EndRecord d r) refl) k
          case_fine d _ (cleared b) accepted k =
              quietly (record { entry = ClearedRecord d; is_forced = b } ∷ [])
              (one_lacks (is_decision_naming c t) (ClearedRecord d) refl)
              (one_lacks (leaves_out c t) (ClearedRecord d) refl) k
          case_fine d _ (collected b at) accepted k =
              asking d (CollectingRecord d (coordinator_view place n d).accepted) b refl
              (others_collecting d (coordinator_view place n d).accepted) (inl at) k
          case_fine d _ (promised ys b at) accepted k =
              asking d (PrepareRecord d ys) b refl (others_prepare d ys) (inr at) k
          case_fine d _ (decided o ts b from f) accepted k = by_test (same_case d c) refl
            where
              by_test : (x : Bool) → same_case d c ≡ x
                  → Fine (record { entry = decision o d ts; is_forced = b } ∷ [])
              by_test true e = deciding d o ts b from (case_is d c e) accepted k
              by_test false e =
                  quietly (record { entry = decision o d ts; is_forced = b } ∷ [])
                  (one_lacks (is_decision_naming c t) _ (other_decision d o ts e))
                  (one_lacks (leaves_out c t) _ (other_not_left c d t ts o e)) k

          turn_fine : (g.written ≡ []) ⊎ OneCase place n g.written → Named g.written → Fine g.written
          turn_fine (inl none) k =
              subst Fine (sym none)
              (quietly [] (has-nil (is_decision_naming c t)) (has-nil (leaves_out c t)) (subst Named none k))
          turn_fine (inr one) k = case_fine one.of g.written one.writes accepted_now k

          pub handled_stays : (new : List Record) → Grows new (entries_written g.written)
              → has (is_decision_naming c t) (reverse new ++ n.life) ≡ true
              → has (leaves_out c t) (kept n ++ new) ≡ false
          handled_stays new front e =
              let fine = turn_fine (turn_writes place parent n h g turn) (named_so
              (in_either (is_decision_naming c t) (reverse new) n.life e)) in
              in_none (leaves_out c t) (kept n) new fine.0
              (grown_none new (entries_written g.written) front (leaves_out c t) fine.1)
            where
              named_so : (has (is_decision_naming c t) (reverse new) ≡ true)
                  ⊎ (has (is_decision_naming c t) n.life ≡ true) → Named g.written
              named_so (inl now) =
                  inr (front (is_decision_naming c t) (sym (has-reverse (is_decision_naming c t) new) ∙ now))
              named_so (inr before) = inl before

      -- A restart.

      left_out_none : (j : ℕ) (new : List Record) → Grows new (reopens AtRoot (left_of n j))
          → (has (is_decision_naming c t) (reverse new) ≡ true) ⊎ (has (is_decision_naming c t) n.life ≡ true)
          → has (leaves_out c t) (left_of n j) ≡ false
      left_out_none j new front (inr e) = grown_none (left_of n j) (kept n) (left_kept n j)
          (leaves_out c t) (old c t e)
      left_out_none j new front (inl e) =
          let rs = left_of n j in
          let written = front (is_decision_naming c t) (sym (has-reverse (is_decision_naming c t) new) ∙ e) in
          let at = stood c rs (reopened_stood c rs
          (has_other (is_decision_naming c t) (is_record_of c) (reopens AtRoot rs)
          (naming_recorded c t) written)) in
          let named = reopens_name c t rs
          (has_other (is_decision_naming c t) (is_naming c t) (reopens AtRoot rs) (naming_names c t) written)
          in
          leaves_none c t rs
          (grown_none rs (kept n) (left_kept n j) (collecting_without c t)
          (all_named c t (holds.named_accepted c t
          (nested.kept_was_written (is_naming c t) (λ k. refl) (left_kept n j (is_naming c t) named)))))
          (no_prepare_without c t rs at.no_prepare) (no_decision_without c t rs at.no_decision)

      pub restarted_stays : (j : ℕ) (new : List Record) → Grows new (reopens AtRoot (left_of n j))
          → has (is_decision_naming c t) (reverse new ++ n.life) ≡ true
          → has (leaves_out c t) (left_of n j ++ new) ≡ false
      restarted_stays j new front e =
          let none = left_out_none j new front (in_either (is_decision_naming c t) (reverse new) n.life e) in
          in_none (leaves_out c t) (left_of n j) new none
          (grown_none new (reopens AtRoot (left_of n j)) front (leaves_out c t)
          (reopens_keep c (left_of n j) t none))

      trimmed_stays : has (is_decision_naming c t) n.life ≡ true
          → has (leaves_out c t) (trimmed AtRoot (kept n)) ≡ false
      trimmed_stays e =
          none_if (leaves_out c t) (trimmed AtRoot (kept n))
          (λ f. never _ (trim_kept (kept n) (leaves_out c t) (λ k. refl) f) (old c t e))

    pub names_stay : (k : Node) → Became me parent tree n k → NamesStay k
    names_stay k (by_turn h g new up turn front keeps life grows) c t e =
        ap (has (leaves_out c t)) keeps
        ∙ handled_stays c t h g up turn new front (ap (has (is_decision_naming c t)) (sym life) ∙ e)
    names_stay k (at_rest keeps life grows) c t e =
        ap (has (leaves_out c t)) keeps ∙ old c t (ap (has (is_decision_naming c t)) (sym life) ∙ e)
    names_stay k (by_restart j new front keeps life grows) c t e =
        ap (has (leaves_out c t)) keeps
        ∙ restarted_stays c t j new front (ap (has (is_decision_naming c t)) (sym life) ∙ e)
    names_stay k (by_trim keeps life whole) c t e =
        ap (has (leaves_out c t)) keeps ∙ trimmed_stays c t (ap (has (is_decision_naming c t)) (sym life) ∙ e)
