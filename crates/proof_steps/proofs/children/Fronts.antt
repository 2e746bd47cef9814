-- What a front of a log in order holds of a branch: each record is after the ones that it needs.
use Rattle.std.proofs.Common.{◌≡◌, ◌∙◌, ◌⊎◌, inl, inr, Bool, true, false, List, [], ◌∷◌, ◌++◌, refl, sym, ap, subst}
use Rattle.protocol.specs.declared.names.Case.{Case}
use Rattle.protocol.specs.declared.records.Record.{Record}
use Rattle.protocol.specs.declared.records.Record.TheVariants.{Prepared, Forgot}
use Rattle.protocol.specs.Records.{has, is_heuristic, is_forgot}
use Rattle.protocol.specs.Standings.{Mark, Unmarked, Promised, Decided, ToldOf, Finished}
use Rattle.proof_pairs.specs.turns.Written.{is_coordinators}
use Rattle.protocol.specs.Audits.{is_promise, is_learnt_commit, is_learnt_abort}
use Rattle.proof_processes.specs.Marks.{is_branch_record, may_follow, in_order_from}
use Rattle.proof_processes.proofs.Tests.{either, left, right, both, not_both, in_first, in_either}
use Rattle.proof_processes.proofs.Orders.{IsMarked, IsDecidedMark, mark_behind, other_leaves, order_front, order-append}
use Rattle.proof_steps.proofs.children.Tables.{after, MayStand, IsTold, IsLate, follows_so, no_commit, no_abort, no_heuristic}
use Rattle.proof_steps.proofs.children.PresentRecords.{decided_one, none_behind, has_heuristic}

module _ (d : Case) where
  -- The promise comes first.

  promises : (r : Record) → is_branch_record d r ≡ true → may_follow Unmarked r ≡ true
      → is_promise d r ≡ true
  promises (Prepared b ws) e f = left _ _ e
  promises r e f = absurd (cc)

  marked_by : (m : Mark) (r : Record) → is_branch_record d r ≡ true → may_follow m r ≡ true
      → IsMarked m ⊎ (is_promise d r ≡ true)
  marked_by Unmarked r e f = inr (promises r e f)
  marked_by Promised r e f = inl tt
  marked_by Decided r e f = inl tt
  marked_by (ToldOf o) r e f = inl tt
  marked_by Finished r e f = inl tt

  marked_one : (m : Mark) (r : Record) → MayStand d m r → IsMarked (after d m r)
      → IsMarked m ⊎ (is_promise d r ≡ true)
  marked_one m r f k = by_record (is_branch_record d r) refl
    where
      by_record : (b : Bool) → is_branch_record d r ≡ b → IsMarked m ⊎ (is_promise d r ≡ true)
      by_record true e = marked_by m r e (follows_so (is_branch_record d r) _ f e)
      by_record false e = inl (subst IsMarked (other_leaves d m r e) k)

  has_marked : (m : Mark) (rs : List Record) → in_order_from d m rs ≡ true → IsMarked (mark_behind d m rs)
      → IsMarked m ⊎ (has (is_promise d) rs ≡ true)
  unfolding in_order_from has
  has_marked m [] e k = inl k
  has_marked m (r ∷ rs) e k =
      let b = both _ _ e in
      elim (has_marked (after d m r) rs b.1 k) [
        | inl here ↦ elim (marked_one m r b.0 here) [
          | inl before ↦ inl before
          | inr now ↦ inr
              (left _ _ now)
        ]
        | inr rest ↦ inr (right _ _ rest)
      ]

  pub has_promise : (rs : List Record) → in_order_from d Unmarked rs ≡ true
      → IsMarked (mark_behind d Unmarked rs) → has (is_promise d) rs ≡ true
  has_promise rs e k = elim (has_marked Unmarked rs e k) [ inl none ↦ absurd none | inr there ↦ there ]

  -- A Forgot is after the operator's decision.

  forgets : (m : Mark) (r : Record) → may_follow m r ≡ true → is_forgot d r ≡ true → IsDecidedMark m
  forgets Decided (Forgot b) f e = tt
  forgets (ToldOf o) (Forgot b) f e = tt
  forgets m (Forgot b) f e = absurd (cc)
  forgets m r f e = absurd (cc)

  own_forgot : (r : Record) → is_forgot d r ≡ true → is_branch_record d r ≡ true
  own_forgot (Forgot b) e = e
  own_forgot r e = absurd (cc)

  has_forgot : (m : Mark) (rs : List Record) → in_order_from d m rs ≡ true → has (is_forgot d) rs ≡ true
      → IsDecidedMark m ⊎ (has (is_heuristic d) rs ≡ true)
  unfolding in_order_from has
  has_forgot m [] e f = absurd (cc)
  has_forgot m (r ∷ rs) e f =
      let b = both _ _ e in
      elim (either _ _ f) [
        | inl now ↦ inl (forgets m r (follows_so (is_branch_record d r) _ b.0 (own_forgot r now)) now)
        | inr rest ↦ elim (has_forgot (after d m r) rs b.1 rest) [
          | inl here ↦ elim (decided_one d m r b.0 here) [
            | inl before ↦ inl before
            | inr decides ↦ inr (left _ _ decides)
          ]
          | inr behind ↦ inr (right _ _ behind)
        ]
      ]

  told_or : (m : Mark) → IsTold d m ⊎ (IsTold d m → ⊥)
  told_or Unmarked = inr (λ k. k)
  told_or Promised = inr (λ k. k)
  told_or Decided = inr (λ k. k)
  told_or (ToldOf o) = inl tt
  told_or Finished = inl tt

  pub late_or : (m : Mark) → IsLate d m ⊎ (IsLate d m → ⊥)
  late_or Unmarked = inr (λ k. k)
  late_or Promised = inr (λ k. k)
  late_or Decided = inl tt
  late_or (ToldOf o) = inl tt
  late_or Finished = inl tt

  told_marked : (m : Mark) → IsTold d m → IsMarked m
  told_marked (ToldOf o) k = tt
  told_marked Finished k = tt
  told_marked Unmarked k = k
  told_marked Promised k = tt
  told_marked Decided k = tt

  late_marked : (m : Mark) → IsLate d m → IsMarked m
  late_marked (ToldOf o) k = tt
  late_marked Finished k = tt
  late_marked Unmarked k = k
  late_marked Promised k = tt
  late_marked Decided k = tt

  module _ (xs ys : List Record) (order : in_order_from d Unmarked (xs ++ ys) ≡ true)
      (none : has is_coordinators (xs ++ ys) ≡ false) where
    first : in_order_from d Unmarked xs ≡ true
    first = order_front d Unmarked xs ys order

    own : has is_coordinators xs ≡ false
    own = by_test (has is_coordinators xs) refl
      where
        by_test : (b : Bool) → has is_coordinators xs ≡ b → has is_coordinators xs ≡ false
        by_test true e = not_both is_coordinators (has is_coordinators (xs ++ ys))
            (in_first is_coordinators xs ys e) none
        by_test false e = e

    abbrev last : Mark
    last = mark_behind d Unmarked xs

    rest : in_order_from d last ys ≡ true
    rest = (both _ _ (sym (order-append d Unmarked xs ys) ∙ order)).1

    told_by : (q : Record → Bool) → ((IsTold d last → ⊥) → has q xs ≡ false) → has q xs ≡ true
        → IsTold d last
    told_by q f e = elim (told_or last) [
      | inl k ↦ k
      | inr k ↦ not_both q (has q xs) e (f k)
    ]

    pub heuristic_behind : has (is_heuristic d) xs ≡ true → has (is_promise d) xs ≡ true
    heuristic_behind e = elim (late_or last) [
      | inl k ↦ has_promise xs first (late_marked last k)
      | inr k ↦ not_both (is_heuristic d) (has (is_heuristic d) xs) e (no_heuristic d xs first own k)
    ]

    told_commit : has (is_learnt_commit d) xs ≡ true → IsTold d last
    told_commit e = told_by (is_learnt_commit d) (no_commit d xs first own) e

    told_abort : has (is_learnt_abort d) xs ≡ true → IsTold d last
    told_abort e = told_by (is_learnt_abort d) (no_abort d xs first own) e

    pub commit_behind : has (is_learnt_commit d) xs ≡ true → has (is_promise d) xs ≡ true
    commit_behind e = has_promise xs first (told_marked last (told_commit e))

    pub abort_behind : has (is_learnt_abort d) xs ≡ true → has (is_promise d) xs ≡ true
    abort_behind e = has_promise xs first (told_marked last (told_abort e))

    pub forgot_behind : has (is_forgot d) xs ≡ true → has (is_heuristic d) xs ≡ true
    forgot_behind e = elim (has_forgot Unmarked xs first e) [ inl none ↦ absurd none | inr there ↦ there ]

    -- what was told is the last word, but for a Forgot
    told_last : (m : Mark) → last ≡ m → IsTold d m → has (is_heuristic d) (xs ++ ys) ≡ true
        → has (is_heuristic d) xs ≡ true
    told_last (ToldOf o) e k f = has_heuristic d xs first (subst IsDecidedMark (sym e) tt)
    told_last Finished e k f = elim (in_either (is_heuristic d) xs ys f) [
      | inl here ↦ here
      | inr there ↦ not_both (is_heuristic d) (has (is_heuristic d) ys) there
          (none_behind d ys (ap (λ m. in_order_from d m ys) (sym e) ∙ rest))
    ]
    told_last Unmarked e k f = absurd k
    told_last Promised e k f = absurd k
    told_last Decided e k f = absurd k

    pub commit_ends : has (is_learnt_commit d) xs ≡ true → has (is_heuristic d) (xs ++ ys) ≡ true
        → has (is_heuristic d) xs ≡ true
    commit_ends e f = told_last last refl (told_commit e) f

    pub abort_ends : has (is_learnt_abort d) xs ≡ true → has (is_heuristic d) (xs ++ ys) ≡ true
        → has (is_heuristic d) xs ≡ true
    abort_ends e f = told_last last refl (told_abort e) f
