-- What a coordinator's trim leaves of a case: all of its records, or none.
use Rattle.std.proofs.Common.{◌≡◌, ◌∙◌, inl, inr, ℕ, Bool, true, false, Some, List, [], ◌∷◌, ◌++◌, refl, sym, ap, arith, if◌then◌else◌}
use Rattle.protocol.specs.declared.names.Case.{Case}
use Rattle.protocol.specs.declared.names.ProcessId.{ProcessId}
use Rattle.protocol.specs.declared.names.Presumption.{Presumption}
use Rattle.protocol.specs.declared.names.Ticket.{Ticket}
use Rattle.protocol.specs.declared.records.Record.{Record}
use Rattle.protocol.specs.declared.records.Record.TheVariants.{Opened}
use Rattle.protocol.specs.Records.{has, none_of, boot_of, owing_by, record_case, is_collecting, is_prepare, is_commit, is_abort, is_end}
use Rattle.protocol.specs.Nodes.{Role, AtRoot, Below, AtLeaf, IsCoordinator}
use Rattle.protocol.specs.Memory.{Idle}
use Rattle.protocol.specs.Standings.{phase_standing, standing_by}
use Rattle.protocol.specs.Restarts.{case_stays, data_records, is_known, recorded_view, staying, trimmed}
use Rattle.protocol.specs.Audits.{is_collecting_naming, is_prepare_naming, is_decision_naming}
use Rattle.proof_pairs.proofs.readings.Trimmed.{Gone}
use Rattle.proof_processes.specs.WorldHolds.{is_record_of}
use Rattle.proof_processes.proofs.Tests.{has-nil, not_both}
use Rattle.proof_processes.proofs.RootLogs.{known_stays, recorded_stands}
use Rattle.proof_processes.proofs.Trims.{trim_left}

-- A trim does the same at each coordinator.

stays_alike : (p : ProcessId) (whole rs : List Record) → staying (Below p) whole rs ≡ staying AtRoot whole rs
stays_alike p whole [] = refl
stays_alike p whole (r ∷ rs) = by_test (case_stays whole (record_case r)) (stays_alike p whole rs)
  where
    by_test : (b : Bool) → staying (Below p) whole rs ≡ staying AtRoot whole rs
        → (if b then r ∷ staying (Below p) whole rs else staying (Below p) whole rs)
        ≡ (if b then r ∷ staying AtRoot whole rs else staying AtRoot whole rs)
    by_test true e = ap (λ l. r ∷ l) e
    by_test false e = e

pub trims_alike : (role : Role) → IsCoordinator role → (rs : List Record) → trimmed role rs
    ≡ trimmed AtRoot rs
unfolding trimmed
trims_alike AtRoot i rs = refl
trims_alike (Below p) i rs = ap (λ l. (Opened (boot_of rs) ∷ l) ++ []) (stays_alike p rs rs)
trims_alike (AtLeaf p) i rs = absurd i

pub no_data : (role : Role) → IsCoordinator role → (rs : List Record) → data_records role rs ≡ []
no_data AtRoot i rs = refl
no_data (Below p) i rs = refl
no_data (AtLeaf p) i rs = absurd i

exactly : (a b : Bool) → (a ≡ true → b ≡ true) → (b ≡ true → a ≡ true) → a ≡ b
exactly a b f g = grind arith

module _ (c : Case) (t : Ticket) (rs : List Record) where
  abbrev new : List Record
  new = trimmed AtRoot rs

  -- the tests that a pair makes of the case's records
  pub record Stays : Type 0 where
    pub collecting : has (is_collecting c) (trimmed AtRoot rs) ≡ has (is_collecting c) rs
    pub promise : has (is_prepare c) (trimmed AtRoot rs) ≡ has (is_prepare c) rs
    pub commit : has (is_commit c) (trimmed AtRoot rs) ≡ has (is_commit c) rs
    pub abort : has (is_abort c) (trimmed AtRoot rs) ≡ has (is_abort c) rs
    pub end : has (is_end c) (trimmed AtRoot rs) ≡ has (is_end c) rs
    pub collects : has (is_collecting_naming c t) (trimmed AtRoot rs) ≡ has (is_collecting_naming c t) rs
    pub names_it : has (is_prepare_naming c t) (trimmed AtRoot rs) ≡ has (is_prepare_naming c t) rs
    pub owes : has (is_decision_naming c t) (trimmed AtRoot rs) ≡ has (is_decision_naming c t) rs

  was_there : (q : Record → Bool) → ((k : ℕ) → q (Opened k) ≡ false) → has q new ≡ true → has q rs ≡ true
  was_there q none e = elim (trim_left q none AtRoot rs e) [
    | inl old ↦ old
    | inr nothing ↦ not_both q (has q []) nothing (no_more q)
  ]
    where
      no_more : (r : Record → Bool) → has r [] ≡ false
      no_more r = has-nil r

  module _ (known : case_stays rs (Some c) ≡ true) where
    stays : (q : Record → Bool) → ((k : ℕ) → q (Opened k) ≡ false)
        → ((r : Record) → q r ≡ true → is_record_of c r ≡ true) → has q new ≡ has q rs
    stays q none own = exactly (has q new) (has q rs) (was_there q none) (known_stays c q own rs known)

    pub all_stay : Stays
    all_stay = record {
      collecting = stays (is_collecting c) (λ k. refl) (λ r e. grind arith);
      promise = stays (is_prepare c) (λ k. refl) (λ r e. grind arith);
      commit = stays (is_commit c) (λ k. refl) (λ r e. grind arith);
      abort = stays (is_abort c) (λ k. refl) (λ r e. grind arith);
      end = stays (is_end c) (λ k. refl) (λ r e. grind arith);
      collects = stays (is_collecting_naming c t) (λ k. refl) (λ r e. grind arith);
      names_it = stays (is_prepare_naming c t) (λ k. refl) (λ r e. grind arith);
      owes = stays (is_decision_naming c t) (λ k. refl) (λ r e. grind arith);
    }

  -- Of a case without records nothing is there before nor then.
  module _ (none : Gone c t rs) where
    still : (q : Record → Bool) → ((k : ℕ) → q (Opened k) ≡ false) → has q rs ≡ false → has q new ≡ has q rs
    still q first e = by_test (has q new) refl
      where
        by_test : (b : Bool) → has q new ≡ b → has q new ≡ has q rs
        by_test true f = not_both q (has q rs) (was_there q first f) e
        by_test false f = f ∙ sym e

    pub none_stays : Stays
    none_stays = record {
      collecting = still (is_collecting c) (λ k. refl) none.collecting;
      promise = still (is_prepare c) (λ k. refl) none.promise;
      commit = still (is_commit c) (λ k. refl) none.commit;
      abort = still (is_abort c) (λ k. refl) none.abort;
      end = still (is_end c) (λ k. refl) none.end;
      collects = still (is_collecting_naming c t) (λ k. refl) none.collects;
      names_it = still (is_prepare_naming c t) (λ k. refl) none.names_it;
      owes = still (is_decision_naming c t) (λ k. refl) none.owes;
    }

  -- What a case that the records leave unknown has: it ended, or a decision names nobody, or there is
  -- nothing.

  pub data Forgets : Type 0 where
    ended : has (is_end c) rs ≡ true → Forgets
    committed : has (is_commit c) rs ≡ true → none_of (owing_by c rs) ≡ true → Forgets
    aborted : has (is_abort c) rs ≡ true → has (is_commit c) rs ≡ false → none_of (owing_by c rs) ≡ true
        → Forgets
    nothing : has (is_commit c) rs ≡ false → has (is_abort c) rs ≡ false → has (is_prepare c) rs ≡ false
        → has (is_collecting c) rs ≡ false → Forgets

  forgets_by : (p : Presumption) (e m a r k n : Bool) → has (is_end c) rs ≡ e → has (is_commit c) rs ≡ m
      → has (is_abort c) rs ≡ a → has (is_prepare c) rs ≡ r → has (is_collecting c) rs ≡ k
      → none_of (owing_by c rs) ≡ n
      → is_known (standing_by e m a r k n (phase_standing p Idle)) ≡ false → Forgets
  forgets_by p true m a r k n x y z u v w g = ended x
  forgets_by p false true a r k true x y z u v w g = committed y w
  forgets_by p false true a r k false x y z u v w g = absurd (cc)
  forgets_by p false false true r k true x y z u v w g = aborted z y w
  forgets_by p false false true r k false x y z u v w g = absurd (cc)
  forgets_by p false false false true k n x y z u v w g = absurd (cc)
  forgets_by p false false false false true n x y z u v w g = absurd (cc)
  forgets_by p false false false false false n x y z u v w g = nothing y z u v

  pub forgets : is_known (recorded_view rs c).standing ≡ false → Forgets
  forgets e =
      forgets_by c.txn.presumption (has (is_end c) rs) (has (is_commit c) rs) (has (is_abort c) rs)
      (has (is_prepare c) rs) (has (is_collecting c) rs) (none_of (owing_by c rs)) refl refl refl refl
      refl refl
      (ap is_known (sym (recorded_stands c rs)) ∙ e)
