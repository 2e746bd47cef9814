-- What an operator decided of a branch last: it decided that, and a decided branch has such a decision.
use Rattle.std.proofs.Common.{◌≡◌, ◌⊎◌, ◌&&◌, ◌||◌, not, ◌∙◌, inl, inr, Bool, true, false, Option, Some, None, List, [], ◌∷◌, refl, sym, ap, arith, if◌then◌else◌, fold, is_some}
use Rattle.protocol.specs.declared.names.Case.{Case}
use Rattle.protocol.specs.declared.names.Outcome.{Outcome}
use Rattle.protocol_words.specs.Variants.{AbortedOutcome, CaseBranch, CommittedOutcome}
use Rattle.protocol.specs.declared.records.BranchName.{BranchName}
use Rattle.protocol.specs.declared.records.Record.{Record}
use Rattle.protocol.specs.declared.records.Record.TheVariants.{Opened, Collecting, Prepare, Commit, Abort, End, Cleared, Prepared, Committed, RolledBack, Direct, HeurCommit, HeurRollback, Told, Forgot, Base, Pair}
use Rattle.protocol.specs.Records.{decision_after, decision_of, has, is_branch, is_decided, same_branch}
use Rattle.protocol.specs.Standings.{Decided, Finished, Mark, Promised, ToldOf, Unmarked, mark_after, mark_of}
use Rattle.proof_processes.specs.Marks.{in_order_from, is_branch_record, may_follow}
use Rattle.proof_processes.proofs.Orders.{mark_behind, mark_is, same_is}

decision_step : (c : Case) (b : Outcome) (d : Option Outcome) (r : Record) → decision_after c d r ≡ Some b
    → (d ≡ Some b) ⊎ (is_decided c b r ≡ true)
decision_step c CommittedOutcome d (HeurCommit k) e = by_test (is_branch c k) e
  where
    by_test : (t : Bool) → (if t then Some CommittedOutcome else d) ≡ Some CommittedOutcome
        → (d ≡ Some CommittedOutcome) ⊎ (t ≡ true)
    by_test true f = inr refl
    by_test false f = inl f
decision_step c AbortedOutcome d (HeurCommit k) e = by_test (is_branch c k) e
  where
    by_test : (t : Bool) → (if t then Some CommittedOutcome else d) ≡ Some AbortedOutcome
        → (d ≡ Some AbortedOutcome) ⊎ (false ≡ true)
    by_test true f = absurd (cc)
    by_test false f = inl f
decision_step c CommittedOutcome d (HeurRollback k) e = by_test (is_branch c k) e
  where
    by_test : (t : Bool) → (if t then Some AbortedOutcome else d) ≡ Some CommittedOutcome
        → (d ≡ Some CommittedOutcome) ⊎ (false ≡ true)
    by_test true f = absurd (cc)
    by_test false f = inl f
decision_step c AbortedOutcome d (HeurRollback k) e = by_test (is_branch c k) e
  where
    by_test : (t : Bool) → (if t then Some AbortedOutcome else d) ≡ Some AbortedOutcome
        → (d ≡ Some AbortedOutcome) ⊎ (t ≡ true)
    by_test true f = inr refl
    by_test false f = inl f
decision_step c b d (Opened n) e = inl e
decision_step c b d (Collecting k ts) e = inl e
decision_step c b d (Prepare k ts) e = inl e
decision_step c b d (Commit k ts) e = inl e
decision_step c b d (Abort k ts) e = inl e
decision_step c b d (End k rep) e = inl e
decision_step c b d (Cleared k) e = inl e
decision_step c b d (Prepared k ws) e = by_test (is_branch c k) e
  where
    by_test : (t : Bool) → (if t then None else d) ≡ Some b → (d ≡ Some b)
        ⊎ (is_decided c b (Prepared k ws) ≡ true)
    by_test true f = absurd (cc)
    by_test false f = inl f
decision_step c b d (Committed k) e = inl e
decision_step c b d (RolledBack k) e = inl e
decision_step c b d (Direct k ws) e = inl e
decision_step c b d (Told k o) e = inl e
decision_step c b d (Forgot k) e = inl e
decision_step c b d (Base k) e = inl e
decision_step c b d (Pair k v) e = inl e

decisions_stand : (c : Case) (b : Outcome) (d : Option Outcome) (rs : List Record)
    → fold (decision_after c) d rs ≡ Some b → (d ≡ Some b) ⊎ (has (is_decided c b) rs ≡ true)
unfolding has
decisions_stand c b d [] e = inl e
decisions_stand c b d (r ∷ rs) e = elim (decisions_stand c b (decision_after c d r) rs e) [
  | inl now ↦ elim (decision_step c b d r now) [
    | inl before ↦ inl before
    | inr here ↦ inr (ap (λ t. t || has (is_decided c b) rs) here)
  ]
  | inr later ↦ inr (ap (λ t. is_decided c b r || t) later ∙ or_true (is_decided c b r))
]
  where
    or_true : (t : Bool) → (t || true) ≡ true
    or_true true = refl
    or_true false = refl

pub decision_stands : (c : Case) (b : Outcome) (rs : List Record) → decision_of rs c ≡ Some b
    → has (is_decided c b) rs ≡ true
unfolding decision_of
decision_stands c b rs e = elim (decisions_stand c b None rs e) [ inl none ↦ absurd (cc) | inr is ↦ is ]

-- After records in order a decided branch has a decision.

abbrev pub is_decided_mark : Mark → Bool
is_decided_mark Decided = true
is_decided_mark (ToldOf o) = true
is_decided_mark _ = false

-- the branch is told of a decision only
told_behind : (m : Mark) (b : BranchName) (o : Outcome) → may_follow m (Told b o) ≡ true
    → is_decided_mark m ≡ true
told_behind Decided b o e = refl
told_behind (ToldOf u) b o e = absurd (cc)
told_behind Promised b o e = absurd (cc)
told_behind Finished b o e = absurd (cc)
told_behind Unmarked b o e = absurd (cc)

module _ (d : Case) (m : Mark) (k : Option Outcome)
    (before : is_decided_mark m ≡ true → is_some k ≡ true) where
  -- a record that leaves no decided mark, where it is of the branch, and decides nothing
  over : (b : BranchName) (x : Mark) → is_decided_mark x ≡ false
      → is_decided_mark (if same_branch b (CaseBranch d) then x else m) ≡ true → is_some k ≡ true
  over b x none e = by_test (same_branch b (CaseBranch d)) e
    where
      by_test : (t : Bool) → is_decided_mark (if t then x else m) ≡ true → is_some k ≡ true
      by_test true f = absurd (let clash : true ≡ false = sym f ∙ none in cc)
      by_test false f = before f

  decides : (b : BranchName) (o : Outcome)
      → is_decided_mark (if same_branch b (CaseBranch d) then Decided else m) ≡ true
      → is_some (if is_branch d b then Some o else k) ≡ true
  decides b o e = by_test (is_branch d b)
      (ap (λ t. is_decided_mark (if t then Decided else m)) (sym (same_is d b)) ∙ e)
    where
      by_test : (t : Bool) → is_decided_mark (if t then Decided else m) ≡ true
          → is_some (if t then Some o else k) ≡ true
      by_test true f = refl
      by_test false f = before f

  promises : (b : BranchName) → is_decided_mark (if same_branch b (CaseBranch d) then Promised else m) ≡ true
      → is_some (if is_branch d b then None else k) ≡ true
  promises b e = by_test (is_branch d b) (ap (λ t. is_decided_mark (if t then Promised else m))
      (sym (same_is d b)) ∙ e)
    where
      by_test : (t : Bool) → is_decided_mark (if t then Promised else m) ≡ true
          → is_some (if t then None else k) ≡ true
      by_test true f = absurd (cc)
      by_test false f = before f

  tells : (b : BranchName) (o : Outcome) → (not (is_branch_record d (Told b o)) || may_follow m (Told b o))
      ≡ true
      → is_decided_mark (if same_branch b (CaseBranch d) then ToldOf o else m) ≡ true → is_some k ≡ true
  tells b o follows e = by_test (is_branch d b) follows (ap (λ t. is_decided_mark (if t then ToldOf o else m))
      (sym (same_is d b)) ∙ e)
    where
      by_test : (t : Bool) → (not t || may_follow m (Told b o)) ≡ true
          → is_decided_mark (if t then ToldOf o else m) ≡ true → is_some k ≡ true
      by_test true g f = before (told_behind m b o g)
      by_test false g f = before f

  one_behind : (r : Record) → (not (is_branch_record d r) || may_follow m r) ≡ true
      → is_decided_mark (mark_after (CaseBranch d) m r) ≡ true → is_some (decision_after d k r) ≡ true
  one_behind (HeurCommit b) g e = decides b CommittedOutcome e
  one_behind (HeurRollback b) g e = decides b AbortedOutcome e
  one_behind (Prepared b ws) g e = promises b e
  one_behind (Told b o) g e = tells b o g e
  one_behind (Committed b) g e = over b Finished refl e
  one_behind (RolledBack b) g e = over b Finished refl e
  one_behind (Direct b ws) g e = over b Finished refl e
  one_behind (Forgot b) g e = over b Finished refl e
  one_behind (Opened j) g e = before e
  one_behind (Collecting c ts) g e = before e
  one_behind (Prepare c ts) g e = before e
  one_behind (Commit c ts) g e = before e
  one_behind (Abort c ts) g e = before e
  one_behind (End c rep) g e = before e
  one_behind (Cleared c) g e = before e
  one_behind (Base j) g e = before e
  one_behind (Pair j v) g e = before e

first_part : (a b : Bool) → (a && b) ≡ true → a ≡ true
first_part a b e = grind arith

second_part : (a b : Bool) → (a && b) ≡ true → b ≡ true
second_part a b e = grind arith

all_behind : (d : Case) (m : Mark) (k : Option Outcome) (rs : List Record) → in_order_from d m rs ≡ true
    → (is_decided_mark m ≡ true → is_some k ≡ true)
    → is_decided_mark (mark_behind d m rs) ≡ true → is_some (fold (decision_after d) k rs) ≡ true
unfolding in_order_from
all_behind d m k [] order before e = before e
all_behind d m k (r ∷ rs) order before e =
    all_behind d (mark_after (CaseBranch d) m r) (decision_after d k r) rs (second_part _ _ order)
    (one_behind d m k before r (first_part _ _ order)) e

pub decided_some : (d : Case) (rs : List Record) → in_order_from d Unmarked rs ≡ true
    → is_decided_mark (mark_of (CaseBranch d) rs) ≡ true → is_some (decision_of rs d) ≡ true
unfolding decision_of
decided_some d rs order e =
    all_behind d Unmarked None rs order (λ f. absurd (cc)) (ap is_decided_mark (sym (mark_is d rs)) ∙ e)
