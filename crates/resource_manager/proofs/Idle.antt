-- A manager at which no thread is at work: whether a branch can begin, and what is known after a piece of
-- work.
use Rattle.std.proofs.Common.{◌≡◌, ◌∙◌, ℕ, Bool, true, false, List, Option, None, Result, Ok, Err, refl, sym, ap, subst, arith, length}
use Rattle.std.specs.Prelude.{◌||◌, is_some, is_ok, nat_eq, nat_le, nat_lt, unwrap_or, if◌then◌else◌}
use Rattle.std.specs.List.{list_any}
use Rattle.std.specs.Map.{lookup}
use Rattle.std.proofs.lemmas.Bool.Decides.{nat_tests}
use Rattle.xa_codes.specs.declared.code.Code.{Code}
use Rattle.xa_words.specs.code
use Rattle.xa_tables.specs.declared.states.AssocState.TheVariants.{T0, T1}
use Rattle.xa_tables.specs.declared.states.BranchState.{BranchState}
use Rattle.xa_tables.specs.declared.states.BranchState.TheVariants.{S2}
use Rattle.xa_xid.specs.declared.xid.Xid.{Xid}
use Rattle.xa_branch.specs.Branches.{begin_answer, is_known, state_in}
use Rattle.xa_branch.specs.Names.{same}
use Rattle.xa_branch.proofs.Names.{same_is}
use Rattle.xa_assoc.specs.declared.held.Suspended.{Suspended}
use Rattle.xa_assoc.specs.Names.{same_seat}
use Rattle.xa_assoc.specs.Associations.{AssocList, AssocRow, active_of, has_room, has_seat, is_holder, row}
use Rattle.xa_assoc.specs.Answers.{BeginsIdle, state_at}
use Rattle.log_records.specs.Sights.{LogSight}
use Rattle.resource_manager.specs.Data.{StayKnown, is_begun}
use Rattle.resource_manager.specs.Sights.{ManagerSight, SameData, SameManager, manager_data}
use Rattle.resource_manager.specs.Idle.{BranchComes, HasBegun, Idles, IsIdle, IsQuiet, starts}

-- Threads.

no_active : (a : AssocList) (t : ℕ) → IsQuiet a → active_of a t ≡ None
no_active a t quiet = ap (λ (hs : List (ℕ × Option Xid)). unwrap_or (lookup (nat_eq t) hs) None) quiet.holders

no_seat : (a : AssocList) (t : ℕ) (x : Xid) → IsQuiet a → has_seat a t x ≡ false
no_seat a t x quiet = ap (λ (ss : List Suspended). list_any
    (same_seat (record { thread = t; xid = x })) ss) quiet.seats

not_busy : (a : AssocList) (t : ℕ) → IsQuiet a → is_some (active_of a t) ≡ false
not_busy a t quiet = ap is_some (no_active a t quiet)

not_listed : (a : AssocList) (t : ℕ) → IsQuiet a → is_holder a t ≡ false
not_listed a t quiet = ap (λ (hs : List (ℕ × Option Xid)). is_some (lookup (nat_eq t) hs)) quiet.holders

with_room : (a : AssocList) (t : ℕ) → IsQuiet a → has_room a t ≡ true
with_room a t quiet =
    ap (λ b. b || nat_lt (length a.holders) 256) (not_listed a t quiet)
    ∙ ap (λ (hs : List (ℕ × Option Xid)). nat_lt (length hs) 256) quiet.holders

-- A start.

abbrev pub start_by : Bool → Bool → Bool → Bool → Bool → Result AssocRow Code
start_by known busy full taken room =
    if known then Err code.DupId else if busy then Err code.Proto else if full then Err code.RmErr
    else if taken then Err code.Proto else if room then row T0 code.Ok T1 else Err code.RmErr

-- if no thread is at work, it looks at the branches alone
pub starts_is : (m : ManagerSight) (x : Xid) → IsIdle m → starts m x
    ≡ is_ok (start_by (is_known m.tables.branches.branches x) false
    (nat_le 1024 (length m.tables.branches.branches)) false true)
starts_is m x idle =
    let a = m.tables.associations in
    let k = is_known m.tables.branches.branches x in
    let full = nat_le 1024 (length m.tables.branches.branches) in
    ap (λ b. is_ok (start_by k (b || has_seat a 0 x) full (b || has_seat a 0 x) (has_room a 0)))
    (not_busy a 0 idle.quiet)
    ∙ ap (λ b. is_ok (start_by k b full b (has_room a 0))) (no_seat a 0 x idle.quiet)
    ∙ ap (λ b. is_ok (start_by k false full false b)) (with_room a 0 idle.quiet)

abbrev answer_by : Bool → Bool → Code
answer_by known below = if known then code.DupId else if below then code.Ok else code.RmErr

-- one of both tests of how many branches there are
other_test : (n : ℕ) (b : Bool) → nat_lt n 1024 ≡ b → nat_le 1024 n ≡ (if b then false else true)
other_test n true e = grind (arith, nat_tests, e)
other_test n false e = grind (arith, nat_tests, e)

started : (known below : Bool) → answer_by known below ≡ code.Ok
    → is_ok (start_by known false (if below then false else true) false true) ≡ true
started false true e = refl
started true below e = absurd cc
started false false e = absurd cc

not_started : (known below : Bool) → (answer_by known below ≡ code.Ok → ⊥)
    → is_ok (start_by known false (if below then false else true) false true) ≡ false
not_started false true n = absurd (n refl)
not_started true below n = refl
not_started false false n = refl

module _ (m : ManagerSight) (x : Xid) (idle : IsIdle m) where
  abbrev known : Bool
  known = is_known m.tables.branches.branches x

  abbrev below : Bool
  below = nat_lt (length m.tables.branches.branches) 1024

  by_tests : starts m x ≡ is_ok (start_by known false (if below then false else true) false true)
  by_tests = starts_is m x idle ∙ ap (λ b. is_ok (start_by known false b false true))
      (other_test (length m.tables.branches.branches) below refl)

  starts_so : begin_answer m.tables.branches.branches x ≡ code.Ok → starts m x ≡ true
  starts_so e = by_tests ∙ started known below e

  starts_not : (begin_answer m.tables.branches.branches x ≡ code.Ok → ⊥) → starts m x ≡ false
  starts_not n = by_tests ∙ not_started known below n

-- a branch began in the tables, and nothing else changed
pub has_begun : (old new : ManagerSight) (x : Xid) (begun : Bool) → IsIdle old
    → BeginsIdle old.tables new.tables x begun → new.log ≡ old.log → new.boot ≡ old.boot
    → new.spent ≡ old.spent → SameData old new → HasBegun old new x begun
has_begun old new x true idle made log boot spent rest = (
  starts_so old x idle made.0,
  record {
    comes = record {
      own = made.1.branch.own;
      others = made.1.branch.others;
      others_decided = λ y apart. rest.decided y;
      idle = record {
        opened = made.1.init ∙ idle.opened;
        quiet = subst (λ (a : AssocList). IsQuiet a) (sym made.1.associations) idle.quiet;
      };
      boot = boot;
      form = ap (λ (l : LogSight). l.form) log;
    };
    log = log;
    rest = rest;
  },
)
has_begun old new x false idle made log boot spent rest = (
  starts_not old x idle made.0,
  record { tables = made.1; log = log; boot = boot; spent = spent; rest = rest },
)

-- After a piece of work.

-- where a branch was known as it is now, nothing is known otherwise
pub stays_known : (old new : ManagerSight) (x : Xid) (s : BranchState) → BranchComes old new x s
    → is_begun (state_at old.tables x) ≡ is_begun s → StayKnown (manager_data old) (manager_data new)
stays_known old new x s c was y = by_name (same x y) refl
  where
    by_name : (b : Bool) → same x y ≡ b → is_begun (state_at new.tables y) ≡ is_begun (state_at old.tables y)
    by_name true e =
        subst (λ (z : Xid). is_begun (state_at new.tables z) ≡ is_begun (state_at old.tables z))
        (same_is x y e)
        (ap is_begun c.own ∙ sym was)
    by_name false e = ap is_begun (c.others y e)

-- an idle branch of a manager that did not change is idle as before
pub still_idle : (old new : ManagerSight) (x : Xid) → IsIdle old → state_at old.tables x ≡ S2
    → SameManager old new → Idles old new x
still_idle old new x idle at same_one = record {
  comes = record {
    own = ap (λ bs. state_in bs x) same_one.tables.branches.branches ∙ at;
    others = λ y apart. ap (λ bs. state_in bs y) same_one.tables.branches.branches;
    others_decided = λ y apart. same_one.rest.decided y;
    idle = record {
      opened = same_one.tables.init ∙ idle.opened;
      quiet = subst (λ (a : AssocList). IsQuiet a) (sym same_one.tables.associations) idle.quiet;
    };
    boot = same_one.boot;
    form = ap (λ (l : LogSight). l.form) same_one.log;
  };
  log = same_one.log;
  kept = record {
    branches = same_one.tables.branches.branches;
    spent = same_one.spent;
    rest = same_one.rest;
  };
}
