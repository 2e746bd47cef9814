-- What a coordinator's restart appends for one case: an Abort where the case collects votes after its
-- record and nothing
-- else is known of it, which names whom that record names.
use Rattle.std.proofs.Common.{◌≡◌, ◌∙◌, ◌||◌, ◌&&◌, ℕ, zero, suc, ◌+◌, Bool, true, false, List, [], ◌∷◌, ◌++◌, take, refl, sym, ap, subst, arith}
use Rattle.std.specs.Prelude.{not}
use Rattle.std.specs.List.{flat_map}
use Rattle.protocol.specs.declared.names.Case.{Case}
use Rattle.protocol.specs.declared.names.Ticket.{Ticket}
use Rattle.protocol.specs.declared.records.Record.{Record}
use Rattle.protocol.specs.declared.records.Record.TheVariants.{Opened}
use Rattle.protocol_words.specs.Variants.{AbortRecord}
use Rattle.protocol.specs.declared.standings.Standing.{Standing}
use Rattle.protocol.specs.declared.standings.Standing.TheVariants.{Unknown, Active, Collecting, Prepared, Committing, Aborting, Heuristic}
use Rattle.protocol.specs.Names.{same_case}
use Rattle.protocol.specs.NameLaws.{same_case-refl}
use Rattle.protocol.specs.Records.{has, has_case, in_list, cases_in, boot_of, named_by, is_collecting, is_prepare, is_commit, is_abort, is_end}
use Rattle.protocol.specs.Memory.{Idle}
use Rattle.protocol.specs.Standings.{CoordinatorView}
use Rattle.protocol.specs.Restarts.{recorded_view, restart_abort, aborts_collecting, coordinator_reopens}
use Rattle.protocol.specs.Audits.{is_collecting_naming, is_prepare_naming, is_decision_naming}
use Rattle.protocol.specs.Audits.{is_naming}
use Rattle.proof_processes.specs.WorldHolds.{is_record_of}
use Rattle.proof_processes.proofs.Tests.{case_is, has-append, has-cons, has-nil, not_both}
use Rattle.proof_processes.proofs.Worlds.{has_other}
use Rattle.proof_processes.proofs.Phases.{standing_at, collecting_undecided}
use Rattle.proof_processes.proofs.RootLogs.{recorded_case, recorded_stands, idle_standing, stands_collecting}
use Rattle.proof_processes.proofs.Naming.{view_names}
use Rattle.proof_steps.proofs.crashes.Named.{named-by}

-- these records have the case collecting votes, and nothing else of it
abbrev pub collects_alone : Case → List Record → Bool
collects_alone c rs = has (is_collecting c) rs && not (has (is_prepare c) rs) && not (has (is_commit c) rs) &&
    not (has (is_abort c) rs) && not (has (is_end c) rs)

pub exactly : (a b : Bool) → (a ≡ true → b ≡ true) → (b ≡ true → a ≡ true) → a ≡ b
exactly a b f g = grind arith

-- Of what is appended case by case only the case's own is of it.

of_first : (a h x y : Bool) → a ≡ x → y ≡ (h && x) → (a || y) ≡ ((true || h) && x)
of_first a h x y e f = grind arith

of_rest : (a h x y : Bool) → a ≡ false → y ≡ (h && x) → (a || y) ≡ ((false || h) && x)
of_rest a h x y e f = grind arith

pub own_alone : (c : Case) (q : Record → Bool) (f : Case → List Record)
    → ((d : Case) → has q (f d) ≡ true → d ≡ c) → (cs : List Case)
    → has q (flat_map f cs) ≡ (has_case cs c && has q (f c))
unfolding has_case
own_alone c q f own [] = has-nil q
own_alone c q f own (d ∷ cs) =
    has-append q (f d) (flat_map f cs) ∙ by_test (own_alone c q f own cs) (same_case d c) refl
  where
    by_test : has q (flat_map f cs) ≡ (has_case cs c && has q (f c)) → (b : Bool) → same_case d c ≡ b
        → (has q (f d) || has q (flat_map f cs)) ≡ ((b || has_case cs c) && has q (f c))
    by_test k true e =
        of_first (has q (f d)) (has_case cs c) (has q (f c)) (has q (flat_map f cs))
        (ap (λ x. has q (f x)) (case_is d c e)) k
    by_test k false e =
        of_rest (has q (f d)) (has_case cs c) (has q (f c)) (has q (flat_map f cs))
        (others (has q (f d)) refl) k
      where
        not_own : d ≡ c → same_case d c ≡ true
        not_own g = ap (λ x. same_case x c) g ∙ same_case-refl c

        others : (b : Bool) → has q (f d) ≡ b → has q (f d) ≡ false
        others true g = not_both q (same_case d c) (not_own (own d g)) e
        others false g = g

module _ (c : Case) (rs : List Record) where
  found_one : (d : Case) (ts : List Ticket) → has (is_abort c) (AbortRecord d ts ∷ []) ≡ same_case d c
  unfolding has
  found_one d ts = alone (same_case d c)
    where
      alone : (b : Bool) → (b || false) ≡ b
      alone b = grind arith

  none_found : (s : Standing) → has (is_abort c) [] ≡ false
  none_found s = has-nil (is_abort c)

  aborts_own : (d : Case) (v : CoordinatorView) (s : Standing) → has (is_abort c) (restart_abort d v s) ≡ true
      → (s ≡ Collecting) × (d ≡ c)
  aborts_own d v Collecting e = (refl, case_is d c (sym (found_one d v.named) ∙ e))
  aborts_own d v Unknown e = not_both (is_abort c) (has (is_abort c) []) e (has-nil (is_abort c))
  aborts_own d v Active e = not_both (is_abort c) (has (is_abort c) []) e (has-nil (is_abort c))
  aborts_own d v Prepared e = not_both (is_abort c) (has (is_abort c) []) e (has-nil (is_abort c))
  aborts_own d v Committing e = not_both (is_abort c) (has (is_abort c) []) e (has-nil (is_abort c))
  aborts_own d v Aborting e = not_both (is_abort c) (has (is_abort c) []) e (has-nil (is_abort c))
  aborts_own d v Heuristic e = not_both (is_abort c) (has (is_abort c) []) e (has-nil (is_abort c))

  aborts_so : (v : CoordinatorView) (s : Standing) → s ≡ Collecting
      → has (is_abort c) (restart_abort c v s) ≡ true
  aborts_so v s e = subst (λ (x : Standing). has (is_abort c) (restart_abort c v x) ≡ true) (sym e)
      (found_one c v.named ∙ same_case-refl c)

  all_five : (k p m a e : Bool) → k ≡ true → p ≡ false → m ≡ false → a ≡ false → e ≡ false
      → (k && not p && not m && not a && not e) ≡ true
  all_five k p m a e f g h i j = grind arith

  pub record Alone (k p m a e : Bool) : Type 0 where
    pub collects : k ≡ true
    pub no_prepare : p ≡ false
    pub no_commit : m ≡ false
    pub no_abort : a ≡ false
    pub no_end : e ≡ false

  pub is_alone : (k p m a e : Bool) → (k && not p && not m && not a && not e) ≡ true → Alone k p m a e
  is_alone k p m a e f = grind arith

  stands_so : collects_alone c rs ≡ true → standing_at rs c Idle ≡ Collecting
  stands_so e =
      let u = is_alone (has (is_collecting c) rs) (has (is_prepare c) rs) (has (is_commit c) rs)
      (has (is_abort c) rs) (has (is_end c) rs) e in
      stands_collecting c rs Idle
      (record {
        no_end = u.no_end;
        no_commit = u.no_commit;
        no_abort = u.no_abort;
        no_prepare =
            u.no_prepare;
      })
      u.collects

  so_stands : standing_at rs c Idle ≡ Collecting → collects_alone c rs ≡ true
  so_stands e =
      let u = collecting_undecided rs c Idle e in
      all_five _ _ _ _ _ (idle_standing c rs e) u.no_prepare u.no_commit u.no_abort u.no_end

  of_record : (r : Record) → is_collecting c r ≡ true → is_record_of c r ≡ true
  of_record r e = grind arith

  both_hold : (a b : Bool) → a ≡ true → b ≡ true → (a && b) ≡ true
  both_hold a b e f = grind arith

  second_holds : (a b : Bool) → (a && b) ≡ true → b ≡ true
  second_holds a b e = grind arith

  -- a restart appends an Abort of the case exactly where it collects alone
  pub aborts_where_alone : has (is_abort c) (coordinator_reopens rs) ≡ collects_alone c rs
  aborts_where_alone =
      has-cons (is_abort c) (Opened (boot_of rs + 1)) (flat_map (aborts_collecting rs) (cases_in rs))
      ∙ (own_alone c (is_abort c) (aborts_collecting rs)
      (λ d e. (aborts_own d (recorded_view rs d) (recorded_view rs d).standing e).1) (cases_in rs)
      ∙ exactly _ (collects_alone c rs)
      (λ e. so_stands (sym (recorded_stands c rs)
      ∙ (aborts_own c (recorded_view rs c) (recorded_view rs c).standing (second_holds _ _ e)).0))
      (λ e. both_hold _ _
      (recorded_case c rs (has_other (is_collecting c) (is_record_of c) rs of_record
      (is_alone _ _ _ _ _ e).collects))
      (aborts_so (recorded_view rs c) (recorded_view rs c).standing (recorded_stands c rs ∙ stands_so e))))

  -- Whom it names.

  module _ (t : Ticket) where
    -- each Abort of the case names the ticket exactly where it is to
    abbrev pub AllName : Bool → List Record → Type 0
    AllName b [] = Unit {0}
    AllName b (r ∷ xs) = (is_decision_naming c t r ≡ (is_abort c r && b)) × AllName b xs

    names-append : (b : Bool) (xs ys : List Record) → AllName b xs → AllName b ys → AllName b (xs ++ ys)
    names-append b [] ys f g = g
    names-append b (x ∷ xs) ys f g = (f.0, names-append b xs ys f.1 g)

    pub names-take : (b : Bool) (k : ℕ) (xs : List Record) → AllName b xs → AllName b (take k xs)
    names-take b zero xs f = tt
    names-take b (suc k) [] f = tt
    names-take b (suc k) (x ∷ xs) f = (f.0, names-take b k xs f.1)

    one_step : (x y a h b : Bool) → x ≡ (a && b) → y ≡ (h && b) → (x || y) ≡ ((a || h) && b)
    one_step x y a h b e f = grind arith

    pub names_by_aborts : (b : Bool) (xs : List Record) → AllName b xs
        → has (is_decision_naming c t) xs ≡ (has (is_abort c) xs && b)
    unfolding has
    names_by_aborts b [] f = refl
    names_by_aborts b (x ∷ xs) f =
        one_step (is_decision_naming c t x) (has (is_decision_naming c t) xs) (is_abort c x)
        (has (is_abort c) xs) b
        f.0 (names_by_aborts b xs f.1)

    abbrev named : Bool
    named = has (is_collecting_naming c t) rs

    no_promise : (r : Record) → is_prepare_naming c t r ≡ true → is_prepare c r ≡ true
    no_promise r e = grind arith

    no_decision : (r : Record) → is_decision_naming c t r ≡ true → (is_commit c r || is_abort c r) ≡ true
    no_decision r e = grind arith

    -- with no promise and no decision, whom records name Collecting names
    collecting_names : (xs : List Record) → has (is_prepare c) xs ≡ false → has (is_commit c) xs ≡ false
        → has (is_abort c) xs ≡ false
        → has (is_naming c t) xs ≡ has (is_collecting_naming c t) xs
    unfolding has
    collecting_names [] p m a = refl
    collecting_names (x ∷ xs) p m a =
        first_alone (is_collecting_naming c t x) (is_prepare_naming c t x) (is_decision_naming c t x)
        (is_prepare c x) (is_commit c x) (is_abort c x) (has (is_prepare c) xs) (has (is_commit c) xs)
        (has (is_abort c) xs) (has (is_naming c t) xs) (has (is_collecting_naming c t) xs) (no_promise x)
        (no_decision x) p m a (collecting_names xs)
      where
        first_alone : (k n d p m a ps ms others z y : Bool) → (n ≡ true → p ≡ true)
            → (d ≡ true → (m || a) ≡ true)
            → (p || ps) ≡ false → (m || ms) ≡ false → (a || others) ≡ false
            → (ps ≡ false → ms ≡ false → others ≡ false → z ≡ y) → (((k || n) || d) || z) ≡ (k || y)
        first_alone k n d p m a ps ms others z y f g h i j l = grind arith

    of_no_case : (a b : Bool) → a ≡ false → (a && b) ≡ (a && named)
    of_no_case a b e = grind arith

    of_case : (a b : Bool) → b ≡ named → (a && b) ≡ (a && named)
    of_case a b e = ap (λ x. a && x) e

    one_names : (d : Case) (v : CoordinatorView) (s : Standing) → v ≡ recorded_view rs d → v.standing ≡ s
        → AllName named (restart_abort d v s)
    one_names d v Collecting e f = (by_test (same_case d c) refl, tt)
      where
        by_test : (b : Bool) → same_case d c ≡ b
            → (same_case d c && in_list v.named t) ≡ (same_case d c && named)
        by_test false g = of_no_case (same_case d c) (in_list v.named t) g
        by_test true g =
            let at : standing_at rs d Idle ≡ Collecting =
            sym (recorded_stands d rs) ∙ (ap (λ (x : CoordinatorView). x.standing) (sym e) ∙ f) in
            let u = collecting_undecided rs c Idle
            (subst (λ (x : Case). standing_at rs x Idle ≡ Collecting) (case_is d c g) at) in
            of_case (same_case d c) (in_list v.named t)
            (ap (λ ts. in_list ts t) (view_names rs d v e f
            ∙ ap (λ (x : Case). named_by x rs) (case_is d c g))
            ∙ (named-by c t rs ∙ collecting_names rs u.no_prepare u.no_commit u.no_abort))
    one_names d v Unknown e f = tt
    one_names d v Active e f = tt
    one_names d v Prepared e f = tt
    one_names d v Committing e f = tt
    one_names d v Aborting e f = tt
    one_names d v Heuristic e f = tt

    all_name : (cs : List Case) → AllName named (flat_map (aborts_collecting rs) cs)
    all_name [] = tt
    all_name (d ∷ cs) =
        let v = recorded_view rs d in
        names-append named (aborts_collecting rs d) (flat_map (aborts_collecting rs) cs)
        (one_names d v v.standing refl refl) (all_name cs)

    pub aborts_name_collected : AllName named (coordinator_reopens rs)
    aborts_name_collected = (refl, all_name (cases_in rs))
