-- What a trim leaves of a manager's half of a pair: of an open branch all that stood, forced; of one that
-- is over no
-- record.
use Rattle.std.proofs.Common.{◌≡◌, ◌∙◌, ◌||◌, ◌&&◌, inl, inr, ℕ, Bool, true, false, List, [], ◌∷◌, ◌++◌, refl, sym, ap, arith}
use Rattle.std.specs.Prelude.{reverse}
use Rattle.protocol.specs.declared.names.Case.{Case}
use Rattle.protocol.specs.declared.names.ProcessId.{ProcessId}
use Rattle.protocol_words.specs.Variants.{CaseBranch, CommittedOutcome}
use Rattle.protocol.specs.declared.records.Record.{Record}
use Rattle.protocol.specs.declared.records.Record.TheVariants.{Opened, Base, Pair}
use Rattle.protocol.specs.declared.standings.Standing.{Standing}
use Rattle.protocol.specs.declared.trees.TreeProcess.{TreeProcess}
use Rattle.protocol.specs.Records.{has, is_abort, is_prepare, is_heuristic, is_decided, is_forgot}
use Rattle.protocol.specs.Nodes.{Place, AtLeaf, Node, kept}
use Rattle.protocol.specs.Standings.{Unmarked, mark_of}
use Rattle.protocol.specs.Restarts.{is_open, data_records, trimmed, trims}
use Rattle.protocol.specs.Outcomes.{follows}
use Rattle.proof_pairs.specs.Reading.{is_live}
use Rattle.proof_pairs.specs.readings.ReadingOf.{ChildHalf, child_half_at, phase_by}
use Rattle.protocol.specs.Audits.{is_promise, is_learnt_commit, is_learnt_abort, is_committing}
use Rattle.proof_pairs.proofs.readings.Lists.{has-nil}
use Rattle.proof_pairs.proofs.readings.Trimmed.{follows-none}
use Rattle.proof_pairs.specs.turns.Written.{is_coordinators}
use Rattle.proof_processes.specs.Marks.{is_branch_record, in_order_from}
use Rattle.proof_processes.proofs.Tests.{either, both, left, right, has-append, has-reverse, not_both}
use Rattle.proof_processes.proofs.Orders.{mark_is}
use Rattle.proof_processes.proofs.Trims.{data_is_other, trim_left}
use Rattle.proof_processes.proofs.Worlds.{has_other}
use Rattle.proof_steps.proofs.children.LeafWrites.{hardens, stands_so}
use Rattle.proof_steps.proofs.children.Tables.{no_record}
use Rattle.proof_processes.proofs.TrimmedBranches.{trim_keeps, trim_forgets}

or_twice : (a b : Bool) → (a || (a || b)) ≡ (a || b)
or_twice a b = grind arith

or-false : (a : Bool) → (a || false) ≡ a
or-false a = grind arith

same_bool : (a b : Bool) → (a ≡ true → b ≡ true) → (b ≡ true → a ≡ true) → a ≡ b
same_bool a b f g = grind arith

not_so : (a b : Bool) → (a ≡ true → b ≡ true) → b ≡ false → a ≡ false
not_so a b f e = grind arith

-- a record of the branch, or a coordinator's
abbrev of_branch : Case → Record → Bool
of_branch d r = is_branch_record d r || is_coordinators r

abbrev Finds : Case → (Record → Bool) → Type 0
Finds d q = (r : Record) → q r ≡ true → of_branch d r ≡ true

finds_promise : (d : Case) → Finds d (is_promise d)
finds_promise d r e = grind arith

finds_commit : (d : Case) → Finds d (is_learnt_commit d)
finds_commit d r e = grind arith

finds_abort : (d : Case) → Finds d (is_learnt_abort d)
finds_abort d r e = grind arith

finds_case_abort : (d : Case) → Finds d (is_abort d)
finds_case_abort d r e = grind arith

finds_case_promise : (d : Case) → Finds d (is_prepare d)
finds_case_promise d r e = grind arith

finds_heuristic : (d : Case) → Finds d (is_heuristic d)
finds_heuristic d r e = grind arith

finds_decided : (d : Case) → Finds d (is_decided d CommittedOutcome)
finds_decided d r e = grind arith

finds_forgot : (d : Case) → Finds d (is_forgot d)
finds_forgot d r e = grind arith

-- what the records of a list say of the branch
pub record Says (d : Case) (new : List Record) (says : (Record → Bool) → Bool) : Type 0 where
  pub promise : has (is_promise d) new ≡ says (is_promise d)
  pub commit : has (is_learnt_commit d) new ≡ says (is_learnt_commit d)
  pub abort : has (is_learnt_abort d) new ≡ says (is_learnt_abort d)
  pub case_abort : has (is_abort d) new ≡ says (is_abort d)
  pub case_promise : has (is_prepare d) new ≡ says (is_prepare d)
  pub heuristic : has (is_heuristic d) new ≡ says (is_heuristic d)
  pub decided : has (is_decided d CommittedOutcome) new ≡ says (is_decided d CommittedOutcome)
  pub forgot : has (is_forgot d) new ≡ says (is_forgot d)

says_by : (d : Case) (new : List Record) (says : (Record → Bool) → Bool)
    → ((q : Record → Bool) → ((k : ℕ) → q (Opened k) ≡ false) → Finds d q → has q new ≡ says q)
    → Says d new says
says_by d new says f = record {
  promise = f (is_promise d) (λ k. refl) (finds_promise d);
  commit = f (is_learnt_commit d) (λ k. refl) (finds_commit d);
  abort = f (is_learnt_abort d) (λ k. refl) (finds_abort d);
  case_abort = f (is_abort d) (λ k. refl) (finds_case_abort d);
  case_promise = f (is_prepare d) (λ k. refl) (finds_case_promise d);
  heuristic = f (is_heuristic d) (λ k. refl) (finds_heuristic d);
  decided = f (is_decided d CommittedOutcome) (λ k. refl) (finds_decided d);
  forgot = f (is_forgot d) (λ k. refl) (finds_forgot d);
}

-- The log that a trim leaves.

module _ (p : ProcessId) (d : Case) (rs : List Record) (order : in_order_from d Unmarked rs ≡ true)
    (none : has is_coordinators rs ≡ false) where
  abbrev new : List Record
  new = trimmed (AtLeaf p) rs

  -- what is left stood there
  left_stood : (q : Record → Bool) → ((k : ℕ) → q (Opened k) ≡ false) → Finds d q → has q new ≡ true
      → has q rs ≡ true
  left_stood q no_boot finds e = elim (trim_left q no_boot (AtLeaf p) rs e) [
    | inl stood ↦ stood
    | inr written ↦ not_both q (has (of_branch d) (data_records (AtLeaf p) rs))
        (has_other q (of_branch d) (data_records (AtLeaf p) rs) finds written)
        (data_is_other (of_branch d) (λ k v. refl) (λ k. refl) (AtLeaf p) rs)
  ]

  own_record : (a b c : Bool) → (a ≡ true → (b || c) ≡ true) → a ≡ true → c ≡ false → (a && b) ≡ true
  own_record a b c f e g = grind arith

  none_first : (a b : Bool) → (a || b) ≡ false → a ≡ false
  none_first a b e = grind arith

  none_rest : (a b : Bool) → (a || b) ≡ false → b ≡ false
  none_rest a b e = grind arith

  -- with no coordinator's record, such a test finds the branch's
  own_only : (q : Record → Bool) → Finds d q → (xs : List Record) → has is_coordinators xs ≡ false
      → has q xs ≡ true → has (λ r. q r && is_branch_record d r) xs ≡ true
  unfolding has
  own_only q finds [] f e = absurd (cc)
  own_only q finds (x ∷ xs) f e = elim (either (q x) (has q xs) e) [
    | inl now ↦ left _ _
        (own_record (q x) (is_branch_record d x) (is_coordinators x) (finds x) now
        (none_first (is_coordinators x) (has is_coordinators xs) f))
    | inr rest ↦ right _ _
        (own_only q finds xs (none_rest (is_coordinators x) (has is_coordinators xs) f) rest)
  ]

  second_of : (a b : Bool) → (a && b) ≡ true → b ≡ true
  second_of a b e = (both a b e).1

  first_of : (a b : Bool) → (a && b) ≡ true → a ≡ true
  first_of a b e = (both a b e).0

  stays_open : is_open (mark_of (CaseBranch d) rs) ≡ true → (q : Record → Bool) → Finds d q
      → has q rs ≡ true → has q new ≡ true
  stays_open opened q finds e =
      has_other (λ r. q r && is_branch_record d r) q new (λ r. first_of (q r) (is_branch_record d r))
      (trim_keeps p d rs order opened (λ r. q r && is_branch_record d r)
      (λ r. second_of (q r) (is_branch_record d r)) (own_only q finds rs none e))

  none_unmarked : mark_of (CaseBranch d) rs ≡ Unmarked → (q : Record → Bool) → Finds d q
      → has q rs ≡ false
  none_unmarked e q finds = by_test (has q rs) refl
    where
      by_test : (b : Bool) → has q rs ≡ b → has q rs ≡ false
      by_test true f =
          not_both (λ r. q r && is_branch_record d r) (has (is_branch_record d) rs)
          (has_other (λ r. q r && is_branch_record d r) (is_branch_record d) rs
          (λ r. second_of (q r) (is_branch_record d r)) (own_only q finds rs none f))
          (no_record d rs order none (sym (mark_is d rs) ∙ e))
      by_test false f = f

  -- of an open branch each test says what it said
  pub keeps_open : is_open (mark_of (CaseBranch d) rs) ≡ true → Says d new (λ q. has q rs)
  keeps_open opened = says_by d new (λ q. has q rs)
      (λ q no_boot finds. same_bool (has q new) (has q rs) (left_stood q no_boot finds)
      (stays_open opened q finds))

  -- and of one without a record
  pub keeps_unmarked : mark_of (CaseBranch d) rs ≡ Unmarked → Says d new (λ q. has q rs)
  keeps_unmarked e = says_by d new (λ q. has q rs)
      (λ q no_boot finds. not_so (has q new) (has q rs) (left_stood q no_boot finds) (none_unmarked e q finds)
      ∙ sym (none_unmarked e q finds))

  -- one that is over is gone
  pub forgets_over : is_open (mark_of (CaseBranch d) rs) ≡ false → Says d new (λ q. false)
  forgets_over over = says_by d new (λ q. false) (λ q no_boot finds. by_test q no_boot finds (has q new) refl)
    where
      none_left : has is_coordinators new ≡ false
      none_left = by_left (has is_coordinators new) refl
        where
          by_left : (b : Bool) → has is_coordinators new ≡ b → has is_coordinators new ≡ false
          by_left true e = elim (trim_left is_coordinators (λ k. refl) (AtLeaf p) rs e) [
            | inl stood ↦ not_both is_coordinators (has is_coordinators rs) stood none
            | inr written ↦ not_both is_coordinators (has is_coordinators (data_records (AtLeaf p) rs))
                written
                (data_is_other is_coordinators (λ k v. refl) (λ k. refl) (AtLeaf p) rs)
          ]
          by_left false e = e

      by_test : (q : Record → Bool) → ((k : ℕ) → q (Opened k) ≡ false) → Finds d q → (b : Bool)
          → has q new ≡ b → has q new ≡ false
      by_test q no_boot finds true e =
          not_both (λ r. q r && is_branch_record d r) (has (is_branch_record d) new)
          (has_other (λ r. q r && is_branch_record d r) (is_branch_record d) new
          (λ r. second_of (q r) (is_branch_record d r)) (own_only q finds new none_left e))
          (trim_forgets p d rs over)
      by_test q no_boot finds false e = e

-- The half.

-- no record of the branch is left
abbrev pub cleared : ChildHalf → ChildHalf
cleared k = record k {
  prepared_kept = false;
  prepared_forced = false;
  learnt_commit_kept = false;
  learnt_commit_forced = false;
  learnt_abort_kept = false;
  learnt_abort_forced = false;
  heuristic_kept = false;
  heuristic_forced = false;
  forgot_kept = false;
  forgot_forced = false;
}

module _ (me p : ProcessId) (tree : List TreeProcess) (n : Node) (d : Case) (s s' : Standing) where
  abbrev place : Place
  place = record { me = me; role = AtLeaf p; tree = tree }

  abbrev left_log : List Record
  left_log = trimmed (AtLeaf p) (kept n)

  abbrev of_data : List Record
  of_data = data_records (AtLeaf p) (kept n)

  -- the data's records tell nothing of the branch
  life_says : (q : Record → Bool) → ((k v : List ℕ) → q (Pair k v) ≡ false) → ((k : ℕ) → q (Base k) ≡ false)
      → has q (reverse of_data ++ n.life) ≡ has q n.life
  life_says q e f =
      has-append q (reverse of_data) n.life
      ∙ ap (λ b. b || has q n.life) (has-reverse q of_data ∙ data_is_other q e f (AtLeaf p) (kept n))

  life_follows : follows (is_abort d) (is_prepare d) (reverse of_data ++ n.life)
      ≡ follows (is_abort d) (is_prepare d) n.life
  life_follows = follows-none (is_abort d) (is_prepare d) (reverse of_data) n.life
      (has-reverse (is_abort d) of_data
      ∙ data_is_other (is_abort d) (λ k v. refl) (λ k. refl) (AtLeaf p) (kept n))

  pub half_keeps : Says d left_log (λ q. has q (kept n))
      → child_half_at s' (trims place n) d
      ≡ stands_so (is_live (phase_by n.failed s')) (hardens (child_half_at s n d))
  half_keeps g = simp (
    has-nil,
    has-append (is_promise d) left_log n.durable,
    has-append (is_heuristic d) left_log n.durable,
    has-append (is_forgot d) left_log n.durable,
    has-append (is_decided d CommittedOutcome) left_log n.durable,
    life_says (is_learnt_abort d) (λ k v. refl) (λ k. refl),
    life_says (is_committing d) (λ k v. refl) (λ k. refl),
    life_follows,
    g.promise,
    g.commit,
    g.abort,
    g.case_abort,
    g.case_promise,
    g.heuristic,
    g.decided,
    g.forgot,
    or_twice,
  )

  pub half_cleared : Says d left_log (λ q. false)
      → (has (is_decided d CommittedOutcome) (kept n) || has (is_decided d CommittedOutcome) n.durable)
      ≡ has (is_decided d CommittedOutcome) n.durable
      → child_half_at s' (trims place n) d
      ≡ stands_so (is_live (phase_by n.failed s')) (cleared (child_half_at s n d))
  half_cleared g ever = rw ever (simp (
    has-nil,
    has-append (is_promise d) left_log n.durable,
    has-append (is_heuristic d) left_log n.durable,
    has-append (is_forgot d) left_log n.durable,
    has-append (is_decided d CommittedOutcome) left_log n.durable,
    life_says (is_learnt_abort d) (λ k v. refl) (λ k. refl),
    life_says (is_committing d) (λ k v. refl) (λ k. refl),
    life_follows,
    g.promise,
    g.commit,
    g.abort,
    g.case_abort,
    g.case_promise,
    g.heuristic,
    g.decided,
    g.forgot,
  ))
