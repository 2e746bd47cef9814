-- The checks of the tables are the defects that the judge sees.
use Rattle.std.proofs.Common.{◌≡◌, ℕ, Bool, true, false, not, Option, Some, None, option_map, ◌&&◌, ◌||◌, refl, ap, ◌∙◌, arith}
use Rattle.std.specs.Prelude.{◌==◌, is_some, nat_lt, if◌then◌else◌}
use Rattle.std.proofs.lemmas.Bool.Decides.{nat_tests}
use Rattle.xa_tables.specs.declared.states.AssocState.TheVariants.{T0, T1, T2, M}
use Rattle.xa_xid.specs.declared.xid.Xid.{Xid}
use Rattle.xa_xid.specs.Xids.{null_xid}
use Rattle.xa_branch.specs.Names.{same}
use Rattle.xa_assoc.specs.declared.states.States.{States}
use Rattle.xa_assoc.specs.Associations.{AssocList, has_seat, is_active, moved_of, own_state}
use Rattle.xa_branch.specs.Branches.{state_in}
use Rattle.xa_assoc.specs.Ready.{is_closed}
use Rattle.xa_tables.specs.Calls.{join, resume}
use Rattle.judge_state.specs.declared.parts.JudgedBranch.{JudgedBranch}
use Rattle.judge_state.specs.declared.parts.JudgedDecision.{JudgedDecision}
use Rattle.judge_state.specs.Parts.{is_named}
use Rattle.judge_state.specs.Sights.{Sight}
use Rattle.judge_state.specs.Questions.{branch_at, has_suspended, is_migrated}
use Rattle.judge_words.specs.sort
use Rattle.judge_rules.specs.Flags.{has}
use Rattle.judge_rules.specs.Defects.{has_no_start, is_bad_name}
use Rattle.proof_judged_deeds.specs.Names.{NameNumbers, are_none, lacks_forced, sort_of}
use Rattle.proof_judged_deeds.proofs.Lists.{find_any}
use Rattle.proof_judged_deeds.proofs.Links.{is_two}
use Rattle.proof_judged_deeds.proofs.Mirrors.{Mirrors, is_begun, stand_as, stands_at}
use Rattle.proof_judged_deeds.proofs.Sights.{some_times}
use Rattle.proof_judged_deeds.proofs.Agreements.{no_start_by}

-- Parts of a defect.

pub or_one : (a b c : Bool) → a ≡ true → (a || b || c) ≡ true
or_one a b c h = rw h refl

pub or_two : (a b c : Bool) → b ≡ true → (a || b || c) ≡ true
or_two true b c h = refl
or_two false b c h = rw h refl

pub or_three : (a b c : Bool) → c ≡ true → (a || b || c) ≡ true
or_three true b c h = refl
or_three false true c h = refl
or_three false false c h = rw h refl

pub or_none : (a b c : Bool) → a ≡ false → b ≡ false → c ≡ false → (a || b || c) ≡ false
or_none a b c p q r = rw (p, q, r) refl

closed_by : (b : Bool) → (not (not b) && not false) ≡ b
closed_by true = refl
closed_by false = refl

-- the manager is closed
pub closed_same : (n : NameNumbers) (m : States) (d : Xid → JudgedDecision) (s : Sight) → Mirrors n m d s
    → (not s.opened && not false) ≡ is_closed m.init
closed_same n m d s mirrors = ap (λ b. not b && not false) mirrors.opened ∙ closed_by (is_closed m.init)

bad_by : (null bare : Bool)
    → is_bad_name lacks_forced (if null then sort.Null else if bare then sort.Bare else sort.Full) ≡ null
bad_by true bare = refl
bad_by false true = refl
bad_by false false = refl

-- a name that no branch may have is the null one
pub bad_same : (x : Xid) → is_bad_name lacks_forced (sort_of x) ≡ same x null_xid
bad_same x = bad_by (same x null_xid) (are_none x.bqual)

-- a branch is known
pub known_same : (n : NameNumbers) (m : States) (d : Xid → JudgedDecision) (s : Sight) (x : Xid)
    → Mirrors n m d s
    → is_some (branch_at (n.xid x) s) ≡ is_begun (state_in m.branches.branches x)
known_same n m d s x mirrors = find_any (is_named (n.xid x)) s.branches ∙ mirrors.branches.known x

zero_by : (k : ℕ) → nat_lt 0 k ≡ not (k == 0)
zero_by k = grind (arith, nat_tests)

-- it is suspended for migration
pub migrated_same : (n : NameNumbers) (m : States) (d : Xid → JudgedDecision) (s : Sight) (x : Xid)
    → Mirrors n m d s
    → is_migrated (n.xid x) s ≡ not (moved_of m.associations x == 0)
migrated_same n m d s x mirrors =
    some_times (n.xid x) s.migrated ∙ ap (λ k. nat_lt 0 k) (mirrors.tied.moved x)
    ∙ zero_by (moved_of m.associations x)

no_start_is : (o : Option JudgedBranch) (f : ℕ) (two migrated : Bool)
    → has_no_start o f two migrated ≡ no_start_by (option_map (λ b. b.stand) o) (has f join)
    (has f resume) two migrated
no_start_is None f two migrated = refl
no_start_is (Some b) f two migrated = refl

-- no row lets a start join or resume
pub no_start_same : (n : NameNumbers) (m : States) (d : Xid → JudgedDecision) (s : Sight) (t : ℕ) (x : Xid)
    (f : ℕ) (j r : Bool)
    → Mirrors n m d s → has f join ≡ j → has f resume ≡ r
    → has_no_start (branch_at (n.xid x) s) f (has_suspended t (n.xid x) s) (is_migrated (n.xid x) s)
    ≡ no_start_by (stand_as (state_in m.branches.branches x) (d x)) j r
    (is_two (own_state m.associations t x))
    (not (moved_of m.associations x == 0))
no_start_same n m d s t x f j r mirrors fj fr =
    no_start_is (branch_at (n.xid x) s) f (has_suspended t (n.xid x) s) (is_migrated (n.xid x) s)
    ∙ ap (λ k. no_start_by k (has f join) (has f resume) (has_suspended t (n.xid x) s)
    (is_migrated (n.xid x) s))
    (stands_at n (state_in m.branches.branches) d s.branches x mirrors.branches)
    ∙ ap (λ b. no_start_by (stand_as (state_in m.branches.branches x) (d x)) b (has f resume)
    (has_suspended t (n.xid x) s) (is_migrated (n.xid x) s)) fj
    ∙ ap (λ b. no_start_by (stand_as (state_in m.branches.branches x) (d x)) j b (has_suspended t (n.xid x) s)
    (is_migrated (n.xid x) s)) fr
    ∙ ap (λ b. no_start_by (stand_as (state_in m.branches.branches x) (d x)) j r b (is_migrated (n.xid x) s))
    (mirrors.tied.two t x)
    ∙ ap (λ b. no_start_by (stand_as (state_in m.branches.branches x) (d x)) j r
    (is_two (own_state m.associations t x)) b)
    (migrated_same n m d s x mirrors)

own_by : (b c : Bool) → (if b then T1 else if c then T2 else T0) ≡ M → ⊥
own_by true c h = cc
own_by false true h = cc
own_by false false h = cc

-- a thread's own state is not that of an association that belongs to nobody
pub own_never : (a : AssocList) (t : ℕ) (x : Xid) → own_state a t x ≡ M → ⊥
own_never a t x h = own_by (is_active a t x) (has_seat a t x) h
