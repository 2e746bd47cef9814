-- A move as a legal step, and the calls that are refused.
use Rattle.std.proofs.Common.{◌≡◌, ℕ, ◌-◌, Bool, true, false, not, List, Option, Some, None, Err, refl, ap, sym, subst, ◌∙◌}
use Rattle.std.specs.Prelude.{◌&&◌, nat_eq, nat_lt, IsSomeAnd, MatchBool, if◌then◌else◌}
use Rattle.xa_codes.specs.declared.code.Code.{Code}
use Rattle.xa_words.specs.code
use Rattle.xa_tables.specs.Calls.{legal, call_of, call_or, refused, refused_async, async}
use Rattle.xa_tables.specs.declared.call.Call.{Call}
use Rattle.xa_tables.specs.declared.call.Verb.{Verb}
use Rattle.xa_words.specs.verb
use Rattle.xa_tables.specs.declared.states.BranchState.{BranchState}
use Rattle.xa_xid.specs.declared.xid.Xid.{Xid}
use Rattle.xa_assoc.specs.Names.{same}
use Rattle.xa_assoc.specs.Associations.{AssocList, moved_of, own_state}
use Rattle.xa_branch.specs.Branches.{state_in}
use Rattle.xa_assoc.specs.declared.states.States.{States}
use Rattle.xa_assoc.specs.Answers.{SameStates, state_at}
use Rattle.proof_xa.specs.Moves.{Declines, XaMove, Open, Close, Branch, Decide, Restart}
use Rattle.xa_codes.specs.Codes.{is_own}
use Rattle.proof_xa.specs.Refusals.{AnswersFirst, Declined, Refused, code_of, first_refusal, is_refusal}
use Rattle.proof_xa.specs.Histories.{BranchStep, InitStep, MigrationStep, OwnStep, is_work_on}
use Rattle.proof_xa.proofs.Reached.{IsReached, same_reached}

-- what one move does, and what it answers
pub record IsLegalStep (old : States) (m : XaMove) (new : States) : Type 0 where
  pub answers : AnswersFirst old m new
  pub manager : InitStep old.init m new.init
  pub branch : (x : Xid) → BranchStep x (state_at old x) m (state_at new x)
  pub association : (t : ℕ) (x : Xid) → OwnStep t x (own_state old.associations t x) m
      (own_state new.associations t x)
  pub migration : (x : Xid) → MigrationStep x (moved_of old.associations x) m (moved_of new.associations x)

abbrev pub Steps : States → XaMove → States → Type 0
Steps old m new = IsLegalStep old m new × IsReached new

-- what is refused stays
stays_put : (b q : Bool) (P Q : Type 0) → q ≡ true → Q → MatchBool (b && not q) P Q
stays_put true true P Q e h = h
stays_put true false P Q e h = absurd cc
stays_put false q P Q e h = h

-- what is not refused moves where it is named
pub moves_on : (b q : Bool) (P Q : Type 0) → q ≡ false → (b ≡ true → P) → (b ≡ false → Q)
    → MatchBool (b && not q) P Q
moves_on true false P Q e p q = p refl
moves_on true true P Q e p q = absurd cc
moves_on false r P Q e p q = q refl

-- what a decision names moves
pub decides_on : (b : Bool) (P Q : Type 0) → (b ≡ true → P) → (b ≡ false → Q) → MatchBool b P Q
decides_on true P Q p q = p refl
decides_on false P Q p q = q refl

pub kept_branch : (old new : States) (x : Xid) → SameStates old new → state_at new x ≡ state_at old x
kept_branch old new x stays = ap (λ (bs : List (Xid × BranchState)). state_in bs x) stays.branches.branches

pub kept_own : (old new : States) (t : ℕ) (x : Xid) → SameStates old new
    → own_state new.associations t x ≡ own_state old.associations t x
kept_own old new t x stays = ap (λ (a : AssocList). own_state a t x) stays.associations

pub kept_moved : (old new : States) (x : Xid) → SameStates old new
    → moved_of new.associations x ≡ moved_of old.associations x
kept_moved old new x stays = ap (λ (a : AssocList). moved_of a x) stays.associations

-- a call is refused by this code
abbrev IsRefusedBy : XaMove → Code → Type 0
IsRefusedBy m c = (code_of m ≡ Some c) × (is_refusal c ≡ true)

some_is : (c d : Code) → Some c ≡ Some d → c ≡ d
some_is c d e = cc

same_refusal : (c d : Code) → Some c ≡ Some d → is_refusal d ≡ true → is_refusal c ≡ true
same_refusal c d e h = ap is_refusal (some_is c d e) ∙ h

refused_manager : (old new : States) (m : XaMove) (c : Code) → IsRefusedBy m c → SameStates old new
    → InitStep old.init m new.init
refused_manager old new (Open flags migrates answer) c by stays =
    rw (same_refusal answer c by.0 by.1) stays.init
refused_manager old new (Close flags answer) c by stays = rw (same_refusal answer c by.0 by.1) stays.init
refused_manager old new (Restart left) c by stays = absurd (let e = by.0 in cc)
refused_manager old new _ c by stays = stays.init

refused_branch : (old new : States) (m : XaMove) (c : Code) → IsRefusedBy m c → SameStates old new → (x : Xid)
    → BranchStep x (state_at old x) m (state_at new x)
refused_branch old new (Branch v t y flags answer) c by stays x =
    stays_put (same y x) (is_refusal answer) _ _ (same_refusal answer c by.0 by.1)
    (kept_branch old new x stays)
refused_branch old new (Decide y) c by stays x = absurd (let e = by.0 in cc)
refused_branch old new (Restart left) c by stays x = absurd (let e = by.0 in cc)
refused_branch old new _ c by stays x = kept_branch old new x stays

refused_own : (old new : States) (m : XaMove) (c : Code) → IsRefusedBy m c → SameStates old new
    → (t : ℕ) (x : Xid)
    → OwnStep t x (own_state old.associations t x) m (own_state new.associations t x)
refused_own old new (Branch v u y flags answer) c by stays t x =
    stays_put (is_work_on x v flags y && nat_eq t u) (is_refusal answer) _ _ (same_refusal answer c by.0 by.1)
    (kept_own old new t x stays)
refused_own old new (Restart left) c by stays t x = absurd (let e = by.0 in cc)
refused_own old new _ c by stays t x = kept_own old new t x stays

refused_migration : (old new : States) (m : XaMove) (c : Code) → IsRefusedBy m c → SameStates old new
    → (x : Xid)
    → MigrationStep x (moved_of old.associations x) m (moved_of new.associations x)
refused_migration old new (Branch v u y flags answer) c by stays x =
    stays_put (is_work_on x v flags y) (is_refusal answer) _ _ (same_refusal answer c by.0 by.1)
    (kept_moved old new x stays)
refused_migration old new (Restart left) c by stays x = absurd (let e = by.0 in cc)
refused_migration old new _ c by stays x = kept_moved old new x stays

-- a call that is refused, for a reason that is given
refused_for : (old new : States) (m : XaMove) (c : Code) → IsReached old
    → AnswersFirst old m new → IsRefusedBy m c
    → SameStates old new → Steps old m new
refused_for old new m c ok answers by stays = (
  record {
    answers = answers;
    manager = refused_manager old new m c by stays;
    branch = refused_branch old new m c by stays;
    association = refused_own old new m c by stays;
    migration = refused_migration old new m c by stays;
  },
  same_reached old new stays ok,
)

pub refused_step : (old new : States) (m : XaMove) (c : Code) → IsReached old → code_of m ≡ Some c
    → first_refusal old m ≡ Some c
    → is_refusal c ≡ true → SameStates old new → Steps old m new
refused_step old new m c ok by first refuses stays =
    refused_for old new m c ok (Refused c first by stays) (by, refuses) stays

own_refuses : (c : Code) → is_own c ≡ true → is_refusal c ≡ true
own_refuses code.RmFail e = refl
own_refuses code.RmErr e = refl
own_refuses _ e = absurd cc

pub declined_step : (old new : States) (m : XaMove) (c : Code) → IsReached old
    → code_of m ≡ Some c → Declines old new c
    → Steps old m new
declined_step old new m c ok by h =
    refused_for old new m c ok
    (Declined (subst (λ (o : Option Code). IsSomeAnd o (λ d. is_own d ≡ true)) (sym by) h.0)
    h.1) (by, own_refuses c h.0) h.1

-- Flags that are refused.

either_refuses : (b : Bool) (o : Option Call) (e : Code)
    → (if b then Err code.Inval else refused_async o) ≡ Err e → is_refusal e ≡ true
either_refuses true o e h = let is : e ≡ code.Inval = cc in rw is refl
either_refuses false None e h = let is : e ≡ code.Inval = cc in rw is refl
either_refuses false (Some c) e h = let is : e ≡ code.Async = cc in rw is refl

refused_refuses : (v : Verb) (flags : ℕ) (e : Code) → refused v flags ≡ Err e → is_refusal e ≡ true
refused_refuses verb.Recover flags e h = let is : e ≡ code.Inval = cc in rw is refl
refused_refuses verb.Open flags e h = either_refuses (nat_lt flags async)
    (call_of verb.Open (flags - async)) e h
refused_refuses verb.Close flags e h = either_refuses (nat_lt flags async)
    (call_of verb.Close (flags - async)) e h
refused_refuses verb.Start flags e h = either_refuses (nat_lt flags async)
    (call_of verb.Start (flags - async)) e h
refused_refuses verb.End flags e h = either_refuses (nat_lt flags async)
    (call_of verb.End (flags - async)) e h
refused_refuses verb.Prepare flags e h = either_refuses (nat_lt flags async)
    (call_of verb.Prepare (flags - async)) e h
refused_refuses verb.Commit flags e h = either_refuses (nat_lt flags async)
    (call_of verb.Commit (flags - async)) e h
refused_refuses verb.Rollback flags e h = either_refuses (nat_lt flags async)
    (call_of verb.Rollback (flags - async)) e h
refused_refuses verb.Forget flags e h = either_refuses (nat_lt flags async)
    (call_of verb.Forget (flags - async)) e h

legal_by : (o : Option Call) (v : Verb) (flags : ℕ) (e : Code)
    → call_or o (refused v flags) ≡ Err e → is_refusal e ≡ true
legal_by None v flags e h = refused_refuses v flags e h
legal_by (Some c) v flags e h = absurd cc

pub legal_refuses : (v : Verb) (flags : ℕ) (e : Code) → legal v flags ≡ Err e → is_refusal e ≡ true
legal_refuses v flags e h = legal_by (call_of v flags) v flags e h
