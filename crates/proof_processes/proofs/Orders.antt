-- Lists in which each branch's records are in order.
use Rattle.std.proofs.Common.{◌≡◌, ◌∙◌, ◌||◌, ◌&&◌, inl, inr, ℕ, Bool, true, false, List, [], ◌∷◌, ◌++◌, take, drop, refl, sym, ap, subst, if◌then◌else◌, arith}
use Rattle.std.specs.Prelude.{not, fold}
use Rattle.std.proofs.lemmas.List.{take-append-drop}
use Rattle.protocol.specs.declared.names.Case.{Case}
use Rattle.protocol.specs.declared.names.Outcome.{Outcome}
use Rattle.protocol_words.specs.Variants.{AbortedOutcome, CaseBranch, CommittedOutcome}
use Rattle.protocol.specs.declared.records.BranchName.{BranchName}
use Rattle.protocol.specs.declared.records.BranchName.TheVariants.{Foreign}
use Rattle.protocol.specs.declared.records.Record.{Record}
use Rattle.protocol.specs.declared.records.Record.TheVariants.{Opened, Collecting, Prepare, Commit, Abort, End, Prepared, Committed, RolledBack, Direct, HeurCommit, HeurRollback, Told, Forgot, Base, Pair, Cleared}
use Rattle.protocol.specs.declared.records.Write.{Write}
use Rattle.protocol.specs.NameLaws.{same_case_tells}
use Rattle.protocol.specs.Records.{has, same_branch, is_branch, is_decided, is_forgot, prepares_branch}
use Rattle.protocol.specs.Standings.{Mark, Unmarked, Promised, Decided, ToldOf, Finished, mark_of, mark_after}
use Rattle.protocol.specs.Restarts.{is_open}
use Rattle.proof_processes.specs.Marks.{is_branch_record, may_follow, in_order_from}
use Rattle.proof_processes.proofs.Tests.{either, both, and, neither}

-- a branch is the case
pub branch_tells : (d : Case) (b : BranchName) → is_branch d b ≡ true → b ≡ CaseBranch d
branch_tells d (CaseBranch c) e = ap (λ x. CaseBranch x)
    (let t = same_case_tells c d in grind (arith, t, e))
branch_tells d (Foreign x) e = absurd (cc)

pub same_is : (d : Case) (b : BranchName) → same_branch b (CaseBranch d) ≡ is_branch d b
unfolding same_branch
same_is d (CaseBranch c) = refl
same_is d (Foreign x) = refl

-- the mark after a list, from the mark before it
abbrev pub mark_behind : Case → Mark → List Record → Mark
mark_behind d m rs = fold (mark_after (CaseBranch d)) m rs

pub mark_is : (d : Case) (rs : List Record) → mark_of (CaseBranch d) rs ≡ mark_behind d Unmarked rs
unfolding mark_of
mark_is d rs = refl

-- a record of another branch leaves the mark
unmoved : (d : Case) (b : BranchName) (m k : Mark) → is_branch d b ≡ false
    → (if same_branch b (CaseBranch d) then k else m) ≡ m
unmoved d b m k e = rw (same_is d b ∙ e) refl

pub other_leaves : (d : Case) (m : Mark) (r : Record) → is_branch_record d r ≡ false
    → mark_after (CaseBranch d) m r ≡ m
other_leaves d m (Prepared b ws) e = unmoved d b m Promised e
other_leaves d m (Committed b) e = unmoved d b m Finished e
other_leaves d m (RolledBack b) e = unmoved d b m Finished e
other_leaves d m (Direct b ws) e = unmoved d b m Finished e
other_leaves d m (HeurCommit b) e = unmoved d b m Decided e
other_leaves d m (HeurRollback b) e = unmoved d b m Decided e
other_leaves d m (Told b o) e = unmoved d b m (ToldOf o) e
other_leaves d m (Forgot b) e = unmoved d b m Finished e
other_leaves d m (Opened n) e = refl
other_leaves d m (Collecting c ts) e = refl
other_leaves d m (Prepare c ts) e = refl
other_leaves d m (Commit c ts) e = refl
other_leaves d m (Abort c ts) e = refl
other_leaves d m (End c rep) e = refl
other_leaves d m (Cleared c) e = refl
other_leaves d m (Base n) e = refl
other_leaves d m (Pair k v) e = refl

-- Fronts, and one list after another.

step : (d : Case) (m : Mark) (r : Record) (rs : List Record)
    → in_order_from d m (r ∷ rs) ≡
    ((not (is_branch_record d r) || may_follow m r) && in_order_from d (mark_after (CaseBranch d) m r) rs)
unfolding in_order_from
step d m r rs = refl

pub order-append : (d : Case) (m : Mark) (xs ys : List Record)
    → in_order_from d m (xs ++ ys) ≡ (in_order_from d m xs && in_order_from d (mark_behind d m xs) ys)
unfolding in_order_from
order-append d m [] ys = refl
order-append d m (x ∷ xs) ys =
    ap (λ b. (not (is_branch_record d x) || may_follow m x) && b)
    (order-append d (mark_after (CaseBranch d) m x) xs ys)
    ∙ regroup (not (is_branch_record d x) || may_follow m x) _ _
  where
    regroup : (a b c : Bool) → (a && (b && c)) ≡ ((a && b) && c)
    regroup true b c = refl
    regroup false b c = refl

pub order_front : (d : Case) (m : Mark) (xs ys : List Record) → in_order_from d m (xs ++ ys) ≡ true
    → in_order_from d m xs ≡ true
order_front d m xs ys e = (both _ _ (sym (order-append d m xs ys) ∙ e)).0

pub order_taken : (d : Case) (m : Mark) (k : ℕ) (xs : List Record) → in_order_from d m xs ≡ true
    → in_order_from d m (take k xs) ≡ true
order_taken d m k xs e = order_front d m (take k xs) (drop k xs)
    (ap (in_order_from d m) (take-append-drop k xs) ∙ e)

-- records of no branch stand anywhere
pub order_of_others : (d : Case) (m : Mark) (xs : List Record) → has (is_branch_record d) xs ≡ false
    → in_order_from d m xs ≡ true
unfolding in_order_from has
order_of_others d m [] e = refl
order_of_others d m (x ∷ xs) e = other_first (is_branch_record d x) (may_follow m x) _ (first_false _ _ e)
    (order_of_others d (mark_after (CaseBranch d) m x) xs (second_false _ _ e))
  where
    first_false : (a b : Bool) → (a || b) ≡ false → a ≡ false
    first_false a b e = grind arith

    second_false : (a b : Bool) → (a || b) ≡ false → b ≡ false
    second_false a b e = grind arith

    other_first : (a b c : Bool) → a ≡ false → c ≡ true → ((not a || b) && c) ≡ true
    other_first a b c e f = rw (e, f) refl

pub order_then_others : (d : Case) (m : Mark) (xs ys : List Record) → in_order_from d m xs ≡ true
    → has (is_branch_record d) ys ≡ false → in_order_from d m (xs ++ ys) ≡ true
order_then_others d m xs ys e f =
    order-append d m xs ys ∙ and _ _ e (order_of_others d (mark_behind d m xs) ys f)

-- one record that may follow
pub order_push : (d : Case) (rs : List Record) (r : Record) → in_order_from d Unmarked rs ≡ true
    → (is_branch_record d r ≡ true → may_follow (mark_of (CaseBranch d) rs) r ≡ true)
    → in_order_from d Unmarked (rs ++ r ∷ []) ≡ true
unfolding in_order_from
order_push d rs r e f =
    order-append d Unmarked rs (r ∷ [])
    ∙ and _ _ e (last (is_branch_record d r) (may_follow (mark_behind d Unmarked rs) r)
    (λ g. ap (λ m. may_follow m r) (sym (mark_is d rs)) ∙ f g))
  where
    last : (a b : Bool) → (a ≡ true → b ≡ true) → ((not a || b) && true) ≡ true
    last true b g = rw (g refl) refl
    last false b g = refl

-- What the order implies.

abbrev pub IsMarked : Mark → Type 0
IsMarked Unmarked = ⊥
IsMarked _ = Unit {0}

pub marks : (d : Case) (m : Mark) (r : Record) → is_branch_record d r ≡ true
    → IsMarked (mark_after (CaseBranch d) m r)
marks d m (Prepared b ws) e = rw (same_is d b ∙ e) tt
marks d m (Committed b) e = rw (same_is d b ∙ e) tt
marks d m (RolledBack b) e = rw (same_is d b ∙ e) tt
marks d m (Direct b ws) e = rw (same_is d b ∙ e) tt
marks d m (HeurCommit b) e = rw (same_is d b ∙ e) tt
marks d m (HeurRollback b) e = rw (same_is d b ∙ e) tt
marks d m (Told b o) e = rw (same_is d b ∙ e) tt
marks d m (Forgot b) e = rw (same_is d b ∙ e) tt
marks d m (Opened n) e = absurd (cc)
marks d m (Collecting c ts) e = absurd (cc)
marks d m (Prepare c ts) e = absurd (cc)
marks d m (Commit c ts) e = absurd (cc)
marks d m (Abort c ts) e = absurd (cc)
marks d m (End c rep) e = absurd (cc)
marks d m (Cleared c) e = absurd (cc)
marks d m (Base n) e = absurd (cc)
marks d m (Pair k v) e = absurd (cc)

still_marked : (d : Case) (m : Mark) (r : Record) → IsMarked m → IsMarked (mark_after (CaseBranch d) m r)
still_marked d m r k = by_record (is_branch_record d r) refl
  where
    by_record : (b : Bool) → is_branch_record d r ≡ b → IsMarked (mark_after (CaseBranch d) m r)
    by_record true e = marks d m r e
    by_record false e = subst IsMarked (sym (other_leaves d m r e)) k

-- a promise follows nothing of its branch
may_not_promise : (m : Mark) (b : BranchName) (ws : List Write) → IsMarked m
    → may_follow m (Prepared b ws) ≡ false
may_not_promise Unmarked b ws k = absurd k
may_not_promise Promised b ws k = refl
may_not_promise Decided b ws k = refl
may_not_promise (ToldOf o) b ws k = refl
may_not_promise Finished b ws k = refl

promises_not : (a f : Bool) → f ≡ false → (not a || f) ≡ true → a ≡ false
promises_not true f e g = absurd (cc)
promises_not false f e g = refl

not_promised : (d : Case) (m : Mark) (r : Record) → IsMarked m
    → (not (is_branch_record d r) || may_follow m r) ≡ true
    → prepares_branch (CaseBranch d) r ≡ false
not_promised d m (Prepared b ws) k e = same_is d b ∙ promises_not (is_branch d b) _
    (may_not_promise m b ws k) e
not_promised d m (Committed b) k e = refl
not_promised d m (RolledBack b) k e = refl
not_promised d m (Direct b ws) k e = refl
not_promised d m (HeurCommit b) k e = refl
not_promised d m (HeurRollback b) k e = refl
not_promised d m (Told b o) k e = refl
not_promised d m (Forgot b) k e = refl
not_promised d m (Opened n) k e = refl
not_promised d m (Collecting c ts) k e = refl
not_promised d m (Prepare c ts) k e = refl
not_promised d m (Commit c ts) k e = refl
not_promised d m (Abort c ts) k e = refl
not_promised d m (End c rep) k e = refl
not_promised d m (Cleared c) k e = refl
not_promised d m (Base n) k e = refl
not_promised d m (Pair j v) k e = refl

pub none_promised : (d : Case) (m : Mark) (rs : List Record) → IsMarked m → in_order_from d m rs ≡ true
    → has (prepares_branch (CaseBranch d)) rs ≡ false
unfolding in_order_from has
none_promised d m [] k e = refl
none_promised d m (r ∷ rs) k e =
    let b = both _ _ e in
    neither _ _ (not_promised d m r k b.0)
    (none_promised d (mark_after (CaseBranch d) m r) rs (still_marked d m r k) b.1)

-- an operator's decision leaves the branch open until it is forgotten
abbrev pub IsDecidedMark : Mark → Type 0
IsDecidedMark Decided = Unit {0}
IsDecidedMark (ToldOf o) = Unit {0}
IsDecidedMark _ = ⊥

decided_is_open : (m : Mark) → IsDecidedMark m → is_open m ≡ true
decided_is_open Decided k = refl
decided_is_open (ToldOf o) k = refl
decided_is_open Unmarked k = absurd k
decided_is_open Promised k = absurd k
decided_is_open Finished k = absurd k

own_stays : (d : Case) (m : Mark) (r : Record) → IsDecidedMark m → is_branch_record d r ≡ true
    → may_follow m r ≡ true
    → is_forgot d r ≡ false → IsDecidedMark (mark_after (CaseBranch d) m r)
own_stays d Decided (Told b o) k e f g = rw (same_is d b ∙ e) tt
own_stays d Decided (Forgot b) k e f g = absurd (cc)
own_stays d (ToldOf o) (Forgot b) k e f g = absurd (cc)
own_stays d Decided r k e f g = absurd (cc)
own_stays d (ToldOf o) r k e f g = absurd (cc)
own_stays d Unmarked r k e f g = absurd k
own_stays d Promised r k e f g = absurd k
own_stays d Finished r k e f g = absurd k

follows_so : (a b : Bool) → (not a || b) ≡ true → a ≡ true → b ≡ true
follows_so true b e f = e
follows_so false b e f = absurd (cc)

stays_decided : (d : Case) (m : Mark) (r : Record) → IsDecidedMark m
    → (not (is_branch_record d r) || may_follow m r) ≡ true
    → is_forgot d r ≡ false → IsDecidedMark (mark_after (CaseBranch d) m r)
stays_decided d m r k e f = by_record (is_branch_record d r) refl
  where
    by_record : (b : Bool) → is_branch_record d r ≡ b → IsDecidedMark (mark_after (CaseBranch d) m r)
    by_record true g = own_stays d m r k g (follows_so (is_branch_record d r) _ e g) f
    by_record false g = subst IsDecidedMark (sym (other_leaves d m r g)) k

first_false : (a b : Bool) → (a || b) ≡ false → a ≡ false
first_false a b e = grind arith

second_false : (a b : Bool) → (a || b) ≡ false → b ≡ false
second_false a b e = grind arith

open_behind : (d : Case) (m : Mark) (rs : List Record) → IsDecidedMark m → in_order_from d m rs ≡ true
    → has (is_forgot d) rs ≡ false → is_open (mark_behind d m rs) ≡ true
unfolding in_order_from has
open_behind d m [] k e f = decided_is_open m k
open_behind d m (r ∷ rs) k e f =
    let b = both _ _ e in
    open_behind d (mark_after (CaseBranch d) m r) rs (stays_decided d m r k b.0 (first_false _ _ f)) b.1
    (second_false _ _ f)

decides_mark : (d : Case) (o : Outcome) (m : Mark) (r : Record) → is_decided d o r ≡ true
    → IsDecidedMark (mark_after (CaseBranch d) m r)
decides_mark d CommittedOutcome m (HeurCommit b) e = rw (same_is d b ∙ e) tt
decides_mark d AbortedOutcome m (HeurRollback b) e = rw (same_is d b ∙ e) tt
decides_mark d CommittedOutcome m r e = absurd (cc)
decides_mark d AbortedOutcome m r e = absurd (cc)

pub decided_is_of : (d : Case) (o : Outcome) (r : Record) → is_decided d o r ≡ true
    → is_branch_record d r ≡ true
decided_is_of d CommittedOutcome r e = grind arith
decided_is_of d AbortedOutcome r e = grind arith

pub open_if_decided : (d : Case) (o : Outcome) (m : Mark) (rs : List Record) → in_order_from d m rs ≡ true
    → has (is_decided d o) rs ≡ true → has (is_forgot d) rs ≡ false → is_open (mark_behind d m rs) ≡ true
unfolding in_order_from has
open_if_decided d o m [] e f g = absurd (cc)
open_if_decided d o m (r ∷ rs) e f g =
    let b = both _ _ e in
    elim (either _ _ f) [
      | inl now ↦ open_behind d (mark_after (CaseBranch d) m r) rs (decides_mark d o m r now) b.1
          (second_false _ _ g)
      | inr rest ↦ open_if_decided d o (mark_after (CaseBranch d) m r) rs b.1 rest (second_false _ _ g)
    ]
