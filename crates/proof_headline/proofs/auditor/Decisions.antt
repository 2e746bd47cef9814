-- An operator decides a branch once, and nothing of the branch is after a Forgot.
use Rattle.std.proofs.Common.{◌≡◌, ◌∙◌, ◌||◌, inl, inr, Bool, true, false, not, List, [], ◌∷◌, ◌++◌, refl, sym, arith, if◌then◌else◌}
use Rattle.protocol.specs.declared.names.Case.{Case}
use Rattle.protocol.specs.declared.names.Outcome.{Outcome}
use Rattle.protocol_words.specs.Variants.{AbortedOutcome, CaseBranch, CommittedOutcome}
use Rattle.protocol.specs.declared.records.BranchName.{BranchName}
use Rattle.protocol.specs.declared.records.Record.{Record}
use Rattle.protocol.specs.declared.records.Record.TheVariants.{Opened, Collecting, Prepare, Commit, Abort, End, Prepared, Committed, RolledBack, Direct, HeurCommit, HeurRollback, Told, Forgot, Base, Pair, Cleared}
use Rattle.protocol.specs.declared.records.Write.{Write}
use Rattle.protocol.specs.Records.{has, is_branch, is_decided, is_forgot, is_heuristic}
use Rattle.protocol.specs.Standings.{Mark, Unmarked, Promised, Decided, ToldOf, Finished, mark_after}
use Rattle.protocol.specs.Outcomes.{has_last}
use Rattle.proof_processes.specs.Marks.{in_order_from, is_branch_record, may_follow}
use Rattle.proof_processes.proofs.Orders.{same_is}
use Rattle.proof_processes.proofs.Tests.{both, either, has-append, left, neither, not_both, right, second_false}
use Rattle.proof_processes.proofs.Worlds.{has_other}

-- after an operator's decision, or the end of the branch
abbrev pub IsPast : Mark → Type 0
IsPast Decided = Unit {0}
IsPast (ToldOf o) = Unit {0}
IsPast Finished = Unit {0}
IsPast _ = ⊥

by_if : (b : Bool) (m k : Mark) → IsPast m → IsPast k → IsPast (if b then m else k)
by_if true m k p q = p
by_if false m k p q = q

first_not : (a f : Bool) → f ≡ false → (not a || f) ≡ true → a ≡ false
first_not true f e g = absurd (cc)
first_not false f e g = refl

-- there the branch neither promises nor is decided

promises_not : (m : Mark) (b : BranchName) (ws : List Write) → IsPast m → may_follow m (Prepared b ws) ≡ false
promises_not Decided b ws k = refl
promises_not (ToldOf o) b ws k = refl
promises_not Finished b ws k = refl
promises_not Unmarked b ws k = absurd k
promises_not Promised b ws k = absurd k

commits_not : (m : Mark) (b : BranchName) → IsPast m → may_follow m (HeurCommit b) ≡ false
commits_not Decided b k = refl
commits_not (ToldOf o) b k = refl
commits_not Finished b k = refl
commits_not Unmarked b k = absurd k
commits_not Promised b k = absurd k

rolls_back_not : (m : Mark) (b : BranchName) → IsPast m → may_follow m (HeurRollback b) ≡ false
rolls_back_not Decided b k = refl
rolls_back_not (ToldOf o) b k = refl
rolls_back_not Finished b k = refl
rolls_back_not Unmarked b k = absurd k
rolls_back_not Promised b k = absurd k

-- the record may be after those with this mark
abbrev Fits : Case → Mark → Record → Type 0
Fits d m r = (not (is_branch_record d r) || may_follow m r) ≡ true

decides_not : (d : Case) (m : Mark) (r : Record) → IsPast m → Fits d m r → is_heuristic d r ≡ false
decides_not d m (HeurCommit b) k e = first_not (is_branch d b) _ (commits_not m b k) e
decides_not d m (HeurRollback b) k e = first_not (is_branch d b) _ (rolls_back_not m b k) e
decides_not d m (Prepared b ws) k e = refl
decides_not d m (Committed b) k e = refl
decides_not d m (RolledBack b) k e = refl
decides_not d m (Direct b ws) k e = refl
decides_not d m (Told b o) k e = refl
decides_not d m (Forgot b) k e = refl
decides_not d m (Opened n) k e = refl
decides_not d m (Collecting c ts) k e = refl
decides_not d m (Prepare c ts) k e = refl
decides_not d m (Commit c ts) k e = refl
decides_not d m (Abort c ts) k e = refl
decides_not d m (End c rep) k e = refl
decides_not d m (Cleared c) k e = refl
decides_not d m (Base n) k e = refl
decides_not d m (Pair j v) k e = refl

still_past : (d : Case) (m : Mark) (r : Record) → IsPast m → Fits d m r
    → IsPast (mark_after (CaseBranch d) m r)
still_past d m (Prepared b ws) k e =
    rw (same_is d b ∙ first_not (is_branch d b) _ (promises_not m b ws k) e) k
still_past d m (Committed b) k e = by_if _ Finished m tt k
still_past d m (RolledBack b) k e = by_if _ Finished m tt k
still_past d m (Direct b ws) k e = by_if _ Finished m tt k
still_past d m (HeurCommit b) k e = by_if _ Decided m tt k
still_past d m (HeurRollback b) k e = by_if _ Decided m tt k
still_past d m (Told b o) k e = by_if _ (ToldOf o) m tt k
still_past d m (Forgot b) k e = by_if _ Finished m tt k
still_past d m (Opened n) k e = k
still_past d m (Collecting c ts) k e = k
still_past d m (Prepare c ts) k e = k
still_past d m (Commit c ts) k e = k
still_past d m (Abort c ts) k e = k
still_past d m (End c rep) k e = k
still_past d m (Cleared c) k e = k
still_past d m (Base n) k e = k
still_past d m (Pair j v) k e = k

none_past : (d : Case) (m : Mark) (rs : List Record) → IsPast m → in_order_from d m rs ≡ true
    → has (is_heuristic d) rs ≡ false
unfolding in_order_from has
none_past d m [] k e = refl
none_past d m (r ∷ rs) k e =
    let b = both _ _ e in
    neither _ _ (decides_not d m r k b.0)
    (none_past d (mark_after (CaseBranch d) m r) rs (still_past d m r k b.0) b.1)

decides_past : (d : Case) (m : Mark) (r : Record) → is_heuristic d r ≡ true
    → IsPast (mark_after (CaseBranch d) m r)
decides_past d m (HeurCommit b) e = rw (same_is d b ∙ e) tt
decides_past d m (HeurRollback b) e = rw (same_is d b ∙ e) tt
decides_past d m r e = absurd (cc)

forgets_past : (d : Case) (m : Mark) (r : Record) → is_forgot d r ≡ true
    → IsPast (mark_after (CaseBranch d) m r)
forgets_past d m (Forgot b) e = rw (same_is d b ∙ e) tt
forgets_past d m r e = absurd (cc)

-- a branch that was decided is not decided again
pub decided_once : (d : Case) (m : Mark) (xs ys : List Record) → in_order_from d m (xs ++ ys) ≡ true
    → has (is_heuristic d) xs ≡ true → has (is_heuristic d) ys ≡ false
unfolding in_order_from has
decided_once d m [] ys e f = absurd (cc)
decided_once d m (x ∷ xs) ys e f =
    let b = both _ _ e in
    elim (either _ _ f) [
      | inl now ↦ second_false (has (is_heuristic d) xs) (has (is_heuristic d) ys)
          (sym (has-append (is_heuristic d) xs ys)
          ∙ none_past d (mark_after (CaseBranch d) m x) (xs ++ ys) (decides_past d m x now) b.1)
      | inr rest ↦ decided_once d (mark_after (CaseBranch d) m x) xs ys b.1 rest
    ]

-- an operator's decision, of either outcome
pub heuristic_of : (d : Case) (o : Outcome) (r : Record) → is_decided d o r ≡ true → is_heuristic d r ≡ true
heuristic_of d CommittedOutcome r e = grind arith
heuristic_of d AbortedOutcome r e = grind arith

forgot_is_not : (d : Case) (r : Record) → is_heuristic d r ≡ true → is_forgot d r ≡ false
forgot_is_not d r e = grind arith

last_is : (q r : Record → Bool) (xs : List Record) → has_last q r xs ≡ true → has q xs ≡ true
unfolding has_last has
last_is q r [] e = absurd (cc)
last_is q r (x ∷ xs) e = elim (either _ _ e) [
  | inl now ↦ left (q x) (has q xs) (both (q x) (not (has r xs)) now).0
  | inr rest ↦ right (q x) (has q xs) (last_is q r xs rest)
]

-- where a decision has no Forgot after it, there is none before it either
pub never_forgotten : (d : Case) (o : Outcome) (m : Mark) (rs : List Record) → in_order_from d m rs ≡ true
    → has_last (is_decided d o) (is_forgot d) rs ≡ true → has (is_forgot d) rs ≡ false
unfolding in_order_from has has_last
never_forgotten d o m [] e f = absurd (cc)
never_forgotten d o m (r ∷ rs) e f =
    let b = both _ _ e in
    elim (either _ _ f) [
      | inl now ↦
          let g = both (is_decided d o r) (not (has (is_forgot d) rs)) now in
          neither _ _ (forgot_is_not d r (heuristic_of d o r g.0)) (not_so (has (is_forgot d) rs) g.1)
      | inr rest ↦ neither _ _ (by_forgot (is_forgot d r) refl b.1 rest)
          (never_forgotten d o (mark_after (CaseBranch d) m r) rs b.1 rest)
    ]
  where
    not_so : (b : Bool) → not b ≡ true → b ≡ false
    not_so true e = absurd (cc)
    not_so false e = refl

    by_forgot : (b : Bool) → is_forgot d r ≡ b → in_order_from d (mark_after (CaseBranch d) m r) rs ≡ true
        → has_last (is_decided d o) (is_forgot d) rs ≡ true → is_forgot d r ≡ false
    by_forgot false g k l = g
    by_forgot true g k l =
        not_both (is_heuristic d) (has (is_heuristic d) rs)
        (has_other (is_decided d o) (is_heuristic d) rs (heuristic_of d o) (last_is (is_decided d o)
        (is_forgot d) rs l))
        (none_past d (mark_after (CaseBranch d) m r) rs (forgets_past d m r g) k)
