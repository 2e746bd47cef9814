-- What a front of a manager's log leaves of a branch, as a restart finds it: in doubt or not, and how an
-- operator decided.
use Rattle.std.proofs.Common.{◌≡◌, ◌∙◌, ◌||◌, ◌&&◌, inl, inr, Bool, true, false, List, [], ◌∷◌, ◌++◌, refl, sym, ap, subst, arith}
use Rattle.std.specs.Prelude.{not}
use Rattle.protocol.specs.declared.names.Case.{Case}
use Rattle.protocol.specs.declared.names.Outcome.{Outcome}
use Rattle.protocol_words.specs.Variants.{AbortedOutcome, CaseBranch, CommittedOutcome}
use Rattle.protocol.specs.declared.records.Record.{Record}
use Rattle.protocol.specs.declared.records.Record.TheVariants.{Told, Forgot}
use Rattle.protocol.specs.Records.{has, is_abort, is_prepare, is_heuristic, is_decided, is_forgot, is_committed, is_rolled_back}
use Rattle.protocol.specs.Standings.{Mark, Unmarked, Promised, Decided, ToldOf, Finished, mark_of}
use Rattle.proof_pairs.specs.turns.Written.{is_coordinators}
use Rattle.protocol.specs.Audits.{is_promise, is_learnt_commit, is_learnt_abort, is_told_of}
use Rattle.proof_pairs.specs.readings.Steps.{asks_by}
use Rattle.proof_pairs.specs.readings.Halves.{child_front, is_in_doubt}
use Rattle.proof_processes.specs.Marks.{is_branch_record, may_follow, in_order_from}
use Rattle.proof_processes.proofs.Tests.{right, neither, both, not_both, has-append}
use Rattle.proof_processes.proofs.Orders.{IsMarked, mark_behind, mark_is, order_front, order-append}
use Rattle.proof_processes.proofs.Worlds.{has_other}
use Rattle.proof_steps.proofs.children.Tables.{after, MayStand, IsTold, IsLate, follows_so, one_more, late_stays, no_heuristic, no_commit, no_abort, no_forgot, no_record}
use Rattle.proof_steps.proofs.children.PresentRecords.{has_told, finished, IsOver}
use Rattle.proof_steps.proofs.children.Fronts.{has_promise, late_or}

none_by : (q r : Record → Bool) (xs : List Record) → ((x : Record) → q x ≡ true → r x ≡ true)
    → has r xs ≡ false → has q xs ≡ false
none_by q r xs f e = by_test (has q xs) refl
  where
    by_test : (b : Bool) → has q xs ≡ b → has q xs ≡ false
    by_test true g = not_both q (has r xs) (has_other q r xs f g) e
    by_test false g = g

abort_is : (d : Case) (x : Record) → is_abort d x ≡ true → is_coordinators x ≡ true
abort_is d x e = grind arith

promise_is : (d : Case) (x : Record) → is_promise d x ≡ true
    → (is_branch_record d x || is_coordinators x) ≡ true
promise_is d x e = grind arith

commit_is : (d : Case) (x : Record) → is_committed d x ≡ true → is_learnt_commit d x ≡ true
commit_is d x e = grind arith

rolled_is : (d : Case) (x : Record) → is_rolled_back d x ≡ true → is_learnt_abort d x ≡ true
rolled_is d x e = grind arith

-- Whether it is in doubt.

doubts : (p c a x y f : Bool) → p ≡ true → c ≡ false → a ≡ false → x ≡ false → f ≡ false
    → true ≡ (p && not c && not (a || (x && y)) && not f)
doubts p c a x y f e g h i j = rw (e, g, h, i, j) refl

no_promise : (p c a f : Bool) → p ≡ false → false ≡ (p && not c && not a && not f)
no_promise p c a f e = rw e refl

knows_commit : (p c a f : Bool) → c ≡ true → false ≡ (p && not c && not a && not f)
knows_commit p c a f e = grind arith

knows_abort : (p c a x f : Bool) → a ≡ true → false ≡ (p && not c && not (a || x) && not f)
knows_abort p c a x f e = grind arith

knows_end : (p c a f : Bool) → f ≡ true → false ≡ (p && not c && not a && not f)
knows_end p c a f e = grind arith

first_false : (a b : Bool) → (a || b) ≡ false → a ≡ false
first_false a b e = grind arith

second_false : (a b : Bool) → (a || b) ≡ false → b ≡ false
second_false a b e = grind arith

has-either : (q r : Record → Bool) (xs : List Record) → has q xs ≡ false → has r xs ≡ false
    → has (λ x. q x || r x) xs ≡ false
unfolding has
has-either q r [] f g = refl
has-either q r (x ∷ xs) f g =
    neither _ _ (neither (q x) (r x) (first_false (q x) (has q xs) f) (first_false (r x) (has r xs) g))
    (has-either q r xs (second_false (q x) (has q xs) f) (second_false (r x) (has r xs) g))

module _ (d : Case) (rs old : List Record) (order : in_order_from d Unmarked rs ≡ true)
    (none : has is_coordinators rs ≡ false) where
  abbrev last : Mark
  last = mark_behind d Unmarked rs

  abbrev P : Bool
  P = has (is_promise d) rs

  abbrev C : Bool
  C = has (is_learnt_commit d) rs

  abbrev A : Bool
  A = has (is_learnt_abort d) rs

  abbrev B : Bool
  B = has (is_abort d) rs && has (is_prepare d) rs

  abbrev F : Bool
  F = has (is_forgot d) rs

  abbrev Says : Bool → Type 0
  Says b = b ≡ is_in_doubt (child_front d rs old)

  waiting : (m : Mark) → last ≡ m → (IsTold d m → ⊥) → IsMarked m → Says true
  waiting m e untold marked =
      let u : IsTold d last → ⊥ = λ k. untold (subst (IsTold d) e k) in
      doubts P C A (has (is_abort d) rs) (has (is_prepare d) rs) F
      (has_promise d rs order (subst IsMarked (sym e) marked)) (no_commit d rs order none u)
      (no_abort d rs order none u) (none_by (is_abort d) is_coordinators rs (abort_is d) none)
      (no_forgot d rs order none u)

  told_so : (o : Outcome) → last ≡ ToldOf o → Says false
  told_so CommittedOutcome e =
      knows_commit P C (A || B) F
      (has_other (is_told_of d CommittedOutcome) (is_learnt_commit d) rs (λ x f. right _ _ f)
      (has_told d CommittedOutcome rs order e))
  told_so AbortedOutcome e =
      knows_abort P C A B F
      (has_other (is_told_of d AbortedOutcome) (is_learnt_abort d) rs (λ x f. right _ _ f)
      (has_told d AbortedOutcome rs order e))

  over : IsOver d rs → Says false
  over (inl f) = knows_end P C (A || B) F f
  over (inr (h, inl c)) = knows_commit P C (A || B) F
      (has_other (is_committed d) (is_learnt_commit d) rs (commit_is d) c)
  over (inr (h, inr a)) = knows_abort P C A B F
      (has_other (is_rolled_back d) (is_learnt_abort d) rs (rolled_is d) a)

  unmarked : last ≡ Unmarked → Says false
  unmarked e = no_promise P C (A || B) F (by_test P refl)
    where
      by_test : (b : Bool) → P ≡ b → P ≡ false
      by_test false g = g
      by_test true g =
          not_both (is_promise d) (has (λ x. is_branch_record d x || is_coordinators x) rs)
          (has_other (is_promise d) (λ x. is_branch_record d x || is_coordinators x) rs (promise_is d) g)
          (has-either (is_branch_record d) is_coordinators rs (no_record d rs order none e) none)

  by_mark : (m : Mark) → last ≡ m → asks_by m ≡ is_in_doubt (child_front d rs old)
  by_mark Unmarked e = unmarked e
  by_mark Promised e = waiting Promised e (λ k. k) tt
  by_mark Decided e = waiting Decided e (λ k. k) tt
  by_mark (ToldOf o) e = told_so o e
  by_mark Finished e = over (finished d rs order e)

  pub last_tells : asks_by (mark_of (CaseBranch d) rs) ≡ is_in_doubt (child_front d rs old)
  last_tells = ap asks_by (mark_is d rs) ∙ by_mark last refl

-- An operator decides once: what a front holds of the decision is all of it.

decided_is : (d : Case) (x : Record) → is_decided d CommittedOutcome x ≡ true → is_heuristic d x ≡ true
decided_is d x e = grind arith

or-false : (a : Bool) → (a || false) ≡ a
or-false a = grind arith

-- no decision follows one

late_one : (d : Case) (m : Mark) (r : Record) → IsLate d m → is_branch_record d r ≡ true
    → may_follow m r ≡ true → is_heuristic d r ≡ false
late_one d Decided (Told b o) k e f = refl
late_one d Decided (Forgot b) k e f = refl
late_one d (ToldOf o) (Forgot b) k e f = refl
late_one d Decided r k e f = absurd (cc)
late_one d (ToldOf o) r k e f = absurd (cc)
late_one d Finished r k e f = absurd (cc)
late_one d Unmarked r k e f = absurd k
late_one d Promised r k e f = absurd k

other_one : (d : Case) (r : Record) → is_branch_record d r ≡ false → is_heuristic d r ≡ false
other_one d r e = grind arith

late_now : (d : Case) (m : Mark) (r : Record) → IsLate d m → MayStand d m r → is_heuristic d r ≡ false
late_now d m r k f = by_record (is_branch_record d r) refl
  where
    by_record : (b : Bool) → is_branch_record d r ≡ b → is_heuristic d r ≡ false
    by_record true e = late_one d m r k e (follows_so (is_branch_record d r) _ f e)
    by_record false e = other_one d r e

none_late : (d : Case) (m : Mark) (rs : List Record) → IsLate d m → in_order_from d m rs ≡ true
    → has (is_heuristic d) rs ≡ false
unfolding in_order_from has
none_late d m [] k e = refl
none_late d m (r ∷ rs) k e =
    let b = both _ _ e in
    neither _ _ (late_now d m r k b.0)
    (none_late d (after d m r) rs (one_more d (IsLate d) (late_stays d) m r k b.0) b.1)

is_late : (d : Case) (rs : List Record) → in_order_from d Unmarked rs ≡ true → has is_coordinators rs ≡ false
    → has (is_heuristic d) rs ≡ true → IsLate d (mark_behind d Unmarked rs)
is_late d rs order none e = elim (late_or d (mark_behind d Unmarked rs)) [
  | inl k ↦ k
  | inr k ↦ not_both (is_heuristic d) (has (is_heuristic d) rs) e (no_heuristic d rs order none k)
]

module _ (d : Case) (xs ys : List Record) (order : in_order_from d Unmarked (xs ++ ys) ≡ true)
    (none : has is_coordinators xs ≡ false) where
  abbrev there : Mark
  there = mark_behind d Unmarked xs

  pub decided_in_front : has (is_heuristic d) xs ≡ true
      → has (is_decided d CommittedOutcome) xs ≡ has (is_decided d CommittedOutcome) (xs ++ ys)
  decided_in_front e =
      sym (has-append (is_decided d CommittedOutcome) xs ys
      ∙ (ap (λ b. has (is_decided d CommittedOutcome) xs || b)
      (none_by (is_decided d CommittedOutcome) (is_heuristic d) ys (decided_is d) no_second)
      ∙ or-false (has (is_decided d CommittedOutcome) xs)))
    where
      late : IsLate d there
      late = is_late d xs (order_front d Unmarked xs ys order) none e

      no_second : has (is_heuristic d) ys ≡ false
      no_second = none_late d there ys late (both (in_order_from d Unmarked xs) (in_order_from d there ys)
          (sym (order-append d Unmarked xs ys) ∙ order)).1
