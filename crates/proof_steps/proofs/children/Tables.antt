-- What the last record of a branch says of the others, where they are in order: what is not there.
use Rattle.std.proofs.Common.{◌≡◌, ◌∙◌, ◌||◌, inl, inr, Bool, true, false, List, [], ◌∷◌, refl, sym, subst, arith}
use Rattle.std.specs.Prelude.{not}
use Rattle.protocol.specs.declared.names.Case.{Case}
use Rattle.protocol_words.specs.Variants.{AbortedOutcome, CaseBranch, CommittedOutcome}
use Rattle.protocol.specs.declared.records.Record.{Record}
use Rattle.protocol.specs.declared.records.Record.TheVariants.{Committed, RolledBack, HeurCommit, HeurRollback, Told, Forgot, Commit}
use Rattle.protocol.specs.Records.{has, is_branch, is_heuristic, is_forgot}
use Rattle.protocol.specs.Standings.{Mark, Unmarked, Promised, Decided, ToldOf, Finished, mark_after}
use Rattle.proof_pairs.specs.turns.Written.{is_coordinators}
use Rattle.protocol.specs.Audits.{is_learnt_commit, is_learnt_abort}
use Rattle.proof_processes.specs.Marks.{is_branch_record, may_follow, in_order_from}
use Rattle.proof_processes.proofs.Tests.{either, both}
use Rattle.proof_processes.proofs.Orders.{IsMarked, marks, mark_behind, other_leaves, same_is}

first_false : (a b : Bool) → (a || b) ≡ false → a ≡ false
first_false a b e = grind arith

second_false : (a b : Bool) → (a || b) ≡ false → b ≡ false
second_false a b e = grind arith

pub follows_so : (a b : Bool) → (not a || b) ≡ true → a ≡ true → b ≡ true
follows_so true b e f = e
follows_so false b e f = absurd (cc)

module _ (d : Case) where
  abbrev pub after : Mark → Record → Mark
  after m r = mark_after (CaseBranch d) m r

  abbrev pub MayStand : Mark → Record → Type 0
  MayStand m r = (not (is_branch_record d r) || may_follow m r) ≡ true

  -- A set of marks that no record leaves.
  module _ (P : Mark → Type 0)
      (closed : (m : Mark) (r : Record) → P m → is_branch_record d r ≡ true → may_follow m r ≡ true → P
      (after m r)) where
    pub one_more : (m : Mark) (r : Record) → P m → MayStand m r → P (after m r)
    one_more m r k f = by_record (is_branch_record d r) refl
      where
        by_record : (b : Bool) → is_branch_record d r ≡ b → P (after m r)
        by_record true e = closed m r k e (follows_so (is_branch_record d r) _ f e)
        by_record false e = subst P (sym (other_leaves d m r e)) k

    stays_in : (m : Mark) (rs : List Record) → P m → in_order_from d m rs ≡ true → P (mark_behind d m rs)
    unfolding in_order_from
    stays_in m [] k e = k
    stays_in m (r ∷ rs) k e = let b = both _ _ e in stays_in (after m r) rs (one_more m r k b.0) b.1

    -- a list with a record that leads into it ends in it
    ends_in : (q : Record → Bool)
        → ((m : Mark) (r : Record) → is_coordinators r ≡ false → q r ≡ true → P (after m r))
        → (m : Mark) (rs : List Record) → in_order_from d m rs ≡ true → has is_coordinators rs ≡ false
        → has q rs ≡ true
        → P (mark_behind d m rs)
    unfolding in_order_from has
    ends_in q enters m [] e f g = absurd (cc)
    ends_in q enters m (r ∷ rs) e f g =
        let b = both _ _ e in
        elim (either _ _ g) [
          | inl now ↦ stays_in (after m r) rs (enters m r (first_false _ _ f) now) b.1
          | inr rest ↦ ends_in q enters (after m r) rs b.1 (second_false _ _ f) rest
        ]

  -- An outcome, or an operator's decision, is after the promise.

  abbrev pub IsLate : Mark → Type 0
  IsLate Unmarked = ⊥
  IsLate Promised = ⊥
  IsLate _ = Unit {0}

  pub late_stays : (m : Mark) (r : Record) → IsLate m → is_branch_record d r ≡ true → may_follow m r ≡ true
      → IsLate (after m r)
  late_stays Decided (Told b o) k e f = rw (same_is d b ∙ e) tt
  late_stays Decided (Forgot b) k e f = rw (same_is d b ∙ e) tt
  late_stays (ToldOf o) (Forgot b) k e f = rw (same_is d b ∙ e) tt
  late_stays Decided r k e f = absurd (cc)
  late_stays (ToldOf o) r k e f = absurd (cc)
  late_stays Finished r k e f = absurd (cc)
  late_stays Unmarked r k e f = absurd k
  late_stays Promised r k e f = absurd k

  -- What the branch was told, or obeyed, or forgot, is after the operator's decision or the promise.

  abbrev pub IsTold : Mark → Type 0
  IsTold (ToldOf o) = Unit {0}
  IsTold Finished = Unit {0}
  IsTold _ = ⊥

  told_stays : (m : Mark) (r : Record) → IsTold m → is_branch_record d r ≡ true → may_follow m r ≡ true
      → IsTold (after m r)
  told_stays (ToldOf o) (Forgot b) k e f = rw (same_is d b ∙ e) tt
  told_stays (ToldOf o) r k e f = absurd (cc)
  told_stays Finished r k e f = absurd (cc)
  told_stays Unmarked r k e f = absurd k
  told_stays Promised r k e f = absurd k
  told_stays Decided r k e f = absurd k

  or_none : (b : Bool) → ((b || false) || false) ≡ true → b ≡ true
  or_none b e = grind arith

  or_one : (b : Bool) → (b || false) ≡ true → b ≡ true
  or_one b e = grind arith

  told_commit : (m : Mark) (r : Record) → is_coordinators r ≡ false → is_learnt_commit d r ≡ true
      → IsTold (after m r)
  told_commit m (Committed b) n e = rw (same_is d b ∙ or_none (is_branch d b) e) tt
  told_commit m (Told b CommittedOutcome) n e = rw (same_is d b ∙ e) tt
  told_commit m (Told b AbortedOutcome) n e = absurd (cc)
  told_commit m (Commit c ts) n e = absurd (cc)
  told_commit m r n e = absurd (cc)

  told_abort : (m : Mark) (r : Record) → is_coordinators r ≡ false → is_learnt_abort d r ≡ true
      → IsTold (after m r)
  told_abort m (RolledBack b) n e = rw (same_is d b ∙ or_one (is_branch d b) e) tt
  told_abort m (Told b AbortedOutcome) n e = rw (same_is d b ∙ e) tt
  told_abort m (Told b CommittedOutcome) n e = absurd (cc)
  told_abort m r n e = absurd (cc)

  told_forgot : (m : Mark) (r : Record) → is_coordinators r ≡ false → is_forgot d r ≡ true
      → IsTold (after m r)
  told_forgot m (Forgot b) n e = rw (same_is d b ∙ e) tt
  told_forgot m r n e = absurd (cc)

  late_decided : (m : Mark) (r : Record) → is_coordinators r ≡ false → is_heuristic d r ≡ true
      → IsLate (after m r)
  late_decided m (HeurCommit b) n e = rw (same_is d b ∙ e) tt
  late_decided m (HeurRollback b) n e = rw (same_is d b ∙ e) tt
  late_decided m r n e = absurd (cc)

  -- A Forgot is the last record.

  abbrev pub IsLast : Mark → Type 0
  IsLast Finished = Unit {0}
  IsLast _ = ⊥

  last_stays : (m : Mark) (r : Record) → IsLast m → is_branch_record d r ≡ true → may_follow m r ≡ true
      → IsLast (after m r)
  last_stays Finished r k e f = absurd (cc)
  last_stays (ToldOf o) r k e f = absurd k
  last_stays Unmarked r k e f = absurd k
  last_stays Promised r k e f = absurd k
  last_stays Decided r k e f = absurd k

  last_forgot : (m : Mark) (r : Record) → is_coordinators r ≡ false → is_forgot d r ≡ true
      → IsLast (after m r)
  last_forgot m (Forgot b) n e = rw (same_is d b ∙ e) tt
  last_forgot m r n e = absurd (cc)

  marked_stays : (m : Mark) (r : Record) → IsMarked m → is_branch_record d r ≡ true
      → may_follow m r ≡ true → IsMarked (after m r)
  marked_stays m r k e f = marks d m r e

  -- So a mark tells what is not there.

  module _ (rs : List Record) (order : in_order_from d Unmarked rs ≡ true)
      (own : has is_coordinators rs ≡ false) where
    abbrev last : Mark
    last = mark_behind d Unmarked rs

    none_if : (q : Record → Bool) → (has q rs ≡ true → ⊥) → has q rs ≡ false
    none_if q f = by_test (has q rs) refl
      where
        by_test : (b : Bool) → has q rs ≡ b → has q rs ≡ false
        by_test true e = absurd (f e)
        by_test false e = e

    pub not_told : (q : Record → Bool)
        → ((m : Mark) (r : Record) → is_coordinators r ≡ false → q r ≡ true → IsTold (after m r))
        → (IsTold last → ⊥) → has q rs ≡ false
    not_told q enters f = none_if q (λ e. f (ends_in IsTold told_stays q enters Unmarked rs order own e))

    pub no_commit : (IsTold last → ⊥) → has (is_learnt_commit d) rs ≡ false
    no_commit f = not_told (is_learnt_commit d) told_commit f

    pub no_abort : (IsTold last → ⊥) → has (is_learnt_abort d) rs ≡ false
    no_abort f = not_told (is_learnt_abort d) told_abort f

    pub no_forgot : (IsTold last → ⊥) → has (is_forgot d) rs ≡ false
    no_forgot f = not_told (is_forgot d) told_forgot f

    pub no_heuristic : (IsLate last → ⊥) → has (is_heuristic d) rs ≡ false
    no_heuristic f = none_if (is_heuristic d)
        (λ e. f (ends_in IsLate late_stays (is_heuristic d) late_decided Unmarked rs order own e))

    pub not_forgotten : (IsLast last → ⊥) → has (is_forgot d) rs ≡ false
    not_forgotten f = none_if (is_forgot d)
        (λ e. f (ends_in IsLast last_stays (is_forgot d) last_forgot Unmarked rs order own e))

    pub no_record : last ≡ Unmarked → has (is_branch_record d) rs ≡ false
    no_record f = none_if (is_branch_record d)
        (λ e. subst IsMarked f
        (ends_in IsMarked marked_stays (is_branch_record d) (λ m r n g. marks d m r g) Unmarked rs order
        own e))
