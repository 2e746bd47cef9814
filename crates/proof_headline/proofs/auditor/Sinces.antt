-- What a case's records say is the same from its last Prepared on: a process promises once.
use Rattle.std.proofs.Common.{◌≡◌, ◌∙◌, ◌⊎◌, inl, inr, ◌||◌, Bool, true, false, not, List, [], ◌∷◌, refl, sym, ap, subst, arith, if◌then◌else◌}
use Rattle.protocol.specs.declared.names.Case.{Case}
use Rattle.protocol.specs.declared.names.Outcome.{Outcome}
use Rattle.protocol_words.specs.Variants.{AbortedOutcome, CaseBranch, CommittedOutcome}
use Rattle.protocol.specs.declared.records.Record.{Record}
use Rattle.protocol.specs.declared.records.Record.TheVariants.{Prepared}
use Rattle.protocol.specs.Records.{has, is_abort, is_collecting, is_commit, is_decided, is_end, is_forgot, is_prepare, is_prepared, prepares_branch}
use Rattle.protocol.specs.Nodes.{Role, AtRoot, Below, AtLeaf, Node, kept}
use Rattle.protocol.specs.Standings.{Mark, Unmarked, mark_after}
use Rattle.protocol.specs.Audits.{is_learnt_commit, is_promise}
use Rattle.proof_pairs.specs.turns.Written.{is_coordinators}
use Rattle.proof_processes.specs.Lasts.{Lasts, logs_of}
use Rattle.proof_processes.specs.Marks.{in_order_from, is_branch_record, may_follow}
use Rattle.proof_processes.proofs.ChildOf.{no_branch}
use Rattle.proof_processes.proofs.Orders.{marks, none_promised, other_leaves, same_is}
use Rattle.proof_processes.proofs.Tests.{both, first_false, not_both, second_false}
use Rattle.proof_processes.proofs.Worlds.{has_other}
use Rattle.protocol.specs.Audits.{decision_by, has_line_in, is_abort_learnt, own_decision, since_promise}

-- a test of records of one case
abbrev pub IsTestOf : Case → (Record → Bool) → Type 0
IsTestOf d q = (x : Record) → q x ≡ true → (is_branch_record d x ≡ true) ⊎ (is_coordinators x ≡ true)

none_so : (q r : Record → Bool) (rs : List Record) → ((x : Record) → q x ≡ true → r x ≡ true) → has r rs
    ≡ false
    → has q rs ≡ false
none_so q r rs f e = by_test (has q rs) refl
  where
    by_test : (b : Bool) → has q rs ≡ b → has q rs ≡ false
    by_test false g = g
    by_test true g = not_both r (has r rs) (has_other q r rs f g) e

-- with no Prepared, nothing is left out
all_since : (d : Case) (rs : List Record) → has (is_prepared d) rs ≡ false → since_promise d rs ≡ rs
unfolding has
all_since d [] e = refl
all_since d (r ∷ rs) e = rw (second_false (is_prepared d r) (has (is_prepared d) rs) e) refl

prepares : (d : Case) (r : Record) → is_prepared d r ≡ true → prepares_branch (CaseBranch d) r ≡ true
prepares d (Prepared b ws) e = same_is d b ∙ e
prepares d r e = absurd (cc)

-- in a manager's log only records of other branches are left out
same_since : (d : Case) (q : Record → Bool) → IsTestOf d q → (rs : List Record) → in_order_from d Unmarked rs
    ≡ true
    → has is_coordinators rs ≡ false → has q (since_promise d rs) ≡ has q rs
unfolding has in_order_from
same_since d q of [] e f = refl
same_since d q of (r ∷ rs) e f =
    by_test (has (is_prepared d) rs) refl (same_since d q of rs)
  where
    order_left : in_order_from d (mark_after (CaseBranch d) Unmarked r) rs ≡ true
    order_left = (both (not (is_branch_record d r) || may_follow Unmarked r) _ e).1

    other : has (is_prepared d) rs ≡ true → is_branch_record d r ≡ false
    other g = by_branch (is_branch_record d r) refl
      where
        by_branch : (b : Bool) → is_branch_record d r ≡ b → is_branch_record d r ≡ false
        by_branch false k = k
        by_branch true k = not_both (prepares_branch (CaseBranch d)) (has (prepares_branch
            (CaseBranch d)) rs)
            (has_other (is_prepared d) (prepares_branch (CaseBranch d)) rs (prepares d) g)
            (none_promised d (mark_after (CaseBranch d) Unmarked r) rs (marks d Unmarked r k) order_left)

    left_out : has (is_prepared d) rs ≡ true → q r ≡ false
    left_out g = by_found (q r) refl
      where
        by_found : (b : Bool) → q r ≡ b → q r ≡ false
        by_found false k = k
        by_found true k = elim (of r k) [
          | inl branch ↦ absurd (let y = sym branch ∙ other g in cc)
          | inr coordinators ↦ absurd (let y = sym coordinators ∙ first_false (is_coordinators r)
              (has is_coordinators rs) f in cc)
        ]

    drops : (a b : Bool) → a ≡ false → b ≡ (a || b)
    drops a b k = rw k refl

    by_test : (b : Bool) → has (is_prepared d) rs ≡ b
        → (in_order_from d Unmarked rs ≡ true → has is_coordinators rs ≡ false
        → has q (since_promise d rs) ≡ has q rs)
        → has q (if b then since_promise d rs else r ∷ rs) ≡ has q (r ∷ rs)
    by_test false g rest = refl
    by_test true g rest =
        rest (subst (λ (m : Mark). in_order_from d m rs
        ≡ true) (other_leaves d Unmarked r (other g)) order_left)
        (second_false (is_coordinators r) (has is_coordinators rs) f)
        ∙ drops (q r) (has q rs) (left_out g)

prepared_of : (d : Case) (r : Record) → is_prepared d r ≡ true → is_branch_record d r ≡ true
prepared_of d r e = grind arith

-- At a process of any role.
pub reads_same : (role : Role) (n : Node) (d : Case) → Lasts role (logs_of n) → (q : Record → Bool)
    → IsTestOf d q
    → has q (since_promise d (kept n)) ≡ has q (kept n)
reads_same (AtLeaf p) n d l q of =
    same_since d q of (kept n) (l.by_role.in_order d) (none_kept (has is_coordinators (kept n)) refl)
  where
    none_kept : (b : Bool) → has is_coordinators (kept n) ≡ b → has is_coordinators (kept n) ≡ false
    none_kept false e = e
    none_kept true e = not_both is_coordinators (has is_coordinators n.life)
        (l.nested.kept_was_written is_coordinators (λ k. refl) e) l.by_role.no_coordinators_record
reads_same AtRoot n d l q of =
    ap (has q) (all_since d (kept n) (none_so (is_prepared d) (is_branch_record d) (kept n) (prepared_of d)
    (no_branch d n l.nested l.by_role).kept_none))
reads_same (Below p) n d l q of =
    ap (has q) (all_since d (kept n) (none_so (is_prepared d) (is_branch_record d) (kept n) (prepared_of d)
    (no_branch d n l.nested l.by_role).kept_none))

-- The audit's tests.

of_commit : (d : Case) → IsTestOf d (is_learnt_commit d)
of_commit d r e = grind arith

of_abort : (d : Case) → IsTestOf d (is_abort_learnt d)
of_abort d r e = grind arith

of_promise : (d : Case) → IsTestOf d (is_promise d)
of_promise d r e = grind arith

of_prepared : (d : Case) → IsTestOf d (is_prepared d)
of_prepared d r e = grind arith

of_prepare : (d : Case) → IsTestOf d (is_prepare d)
of_prepare d r e = grind arith

of_forgot : (d : Case) → IsTestOf d (is_forgot d)
of_forgot d r e = grind arith

of_own_commit : (d : Case) → IsTestOf d (is_commit d)
of_own_commit d r e = grind arith

of_own_abort : (d : Case) → IsTestOf d (is_abort d)
of_own_abort d r e = grind arith

of_collecting : (d : Case) → IsTestOf d (is_collecting d)
of_collecting d r e = grind arith

of_end : (d : Case) → IsTestOf d (is_end d)
of_end d r e = grind arith

pub of_decided : (d : Case) (o : Outcome) → IsTestOf d (is_decided d o)
of_decided d CommittedOutcome r e = grind arith
of_decided d AbortedOutcome r e = grind arith

module _ (role : Role) (n : Node) (d : Case) (l : Lasts role (logs_of n)) where
  pub own_same : own_decision d (kept n)
      ≡ decision_by (has (is_learnt_commit d) (kept n)) (has (is_abort_learnt d) (kept n))
      (has (is_promise d) (kept n) || has (is_end d) (kept n))
  own_same =
      rw (
        reads_same role n d l (is_learnt_commit d) (of_commit d),
        reads_same role n d l (is_abort_learnt d) (of_abort d),
        reads_same role n d l (is_promise d) (of_promise d),
        reads_same role n d l (is_end d) (of_end d),
      ) refl

  pub line_same : (r : Role) → has_line_in r d (since_promise d (kept n)) ≡ has_line_in r d (kept n)
  line_same AtRoot =
      rw (
        reads_same role n d l (is_commit d) (of_own_commit d),
        reads_same role n d l (is_abort d) (of_own_abort d),
        reads_same role n d l (is_collecting d) (of_collecting d),
        reads_same role n d l (is_end d) (of_end d),
      ) refl
  line_same (Below p) = rw (reads_same role n d l (is_prepare d) (of_prepare d)) refl
  line_same (AtLeaf p) =
      rw (
        reads_same role n d l (is_prepared d) (of_prepared d),
        reads_same role n d l (is_forgot d) (of_forgot d),
      ) refl
