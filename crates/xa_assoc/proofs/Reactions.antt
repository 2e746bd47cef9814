-- A call's answer, from what its two tables say.
use Rattle.std.proofs.Common.{◌≡◌, ◌≢◌, ℕ, Bool, true, false, Result, Ok, Err, refl, sym, ap, ◌∙◌, subst, rules, arith, inl, inr}
use Rattle.std.specs.Prelude.{◌⊎◌, ◌||◌, not, IfOk, IfErr, Contains}
use Rattle.xa_codes.specs.declared.code.Code.{Code}
use Rattle.xa_words.specs.code
use Rattle.xa_tables.specs.Tables.{branch_rows}
use Rattle.xa_tables.specs.declared.call.Call.{Call}
use Rattle.xa_words.specs.call
use Rattle.xa_tables.specs.declared.states.BranchState.{BranchState}
use Rattle.xa_tables.specs.declared.states.BranchState.TheVariants.{S0, S1, S2, S3, S4, S5}
use Rattle.xa_xid.specs.declared.xid.Xid.{Xid}
use Rattle.xa_assoc.specs.Associations.{AssocList, AssocRow, AssocSteps, start_plan, resume_plan, suspend_plan, end_plan}
use Rattle.xa_branch.specs.Branches.{BranchList, BranchMoves, Stays}
use Rattle.xa_assoc.specs.declared.states.States.{States}
use Rattle.xa_assoc.specs.Answers.{ReactsByRows, join_reaction, state_at}
use Rattle.xa_assoc.specs.Reacting.{IsAtWork, by_state, resumed, left_by, suspend_call, end_call}

pub stays : (old new : BranchList) → new ≡ old → Stays old new
stays old new e = subst (λ (b : BranchList). Stays old b) (sym e)
    (record { branches = refl; scans = refl; room = omega arith })

-- a plan refuses by these, and its rows answer otherwise
pub record IsPlan (plan : Result AssocRow Code) : Type 0 where
  pub refuses : IfErr plan (λ c. (c ≡ code.Proto) ⊎ (c ≡ code.RmErr))
  pub answers : IfOk plan (λ r. (r.1 ≢ code.Proto) × (r.1 ≢ code.RmErr))

pub start_is_plan : (a : AssocList) (t : ℕ) (x : Xid) → IsPlan (start_plan a t x)
start_is_plan a t x = record { refuses = search rules; answers = search rules }

-- what holds of each row's answer holds of an answer that is no refusal
pub answer_is : (old new : AssocList) (t : ℕ) (x : Xid) (P : Code → Type 0) (plan : Result AssocRow Code)
    (answer : Code)
    → IsPlan plan → IfOk plan (λ r. P r.1) → AssocSteps old new t x plan answer → answer ≢ code.Proto
    → answer ≢ code.RmErr → P answer
answer_is old new t x P (Ok r) answer plan holds steps p q = subst P (sym steps.0) holds
answer_is old new t x P (Err e) answer plan holds steps p q =
    absurd (elim plan.refuses [ inl is ↦ p (steps.0 ∙ is) | inr is ↦ q (steps.0 ∙ is) ])

-- a row was made, of the associations and then of the branches
pub made : (old new : States) (t : ℕ) (x : Xid) (c : Call) (plan : Result AssocRow Code) (to : BranchState)
    (by answer : Code)
    → IsPlan plan → AssocSteps old.associations new.associations t x plan by → by ≢ code.Proto
    → by ≢ code.RmErr
    → Contains (branch_rows (state_at old x) c) (by, to) → answer ≡ by
    → BranchMoves old.branches new.branches x to
    → new.init ≡ old.init
    → ReactsByRows old new t x c plan to answer
made old new t x c (Ok r) to by answer plan steps p q listed is branch init =
    record {
      answers = is ∙ steps.0;
      association = steps.1;
      listed =
          subst (λ (a : Code). Contains (branch_rows (state_at old x) c) (a, to)) (sym is) listed;
      branch =
          branch;
      init = init;
    }
made old new t x c (Err e) to by answer plan steps p q listed is branch init =
    absurd (elim plan.refuses [ inl is ↦ p (steps.0 ∙ is) | inr is ↦ q (steps.0 ∙ is) ])

-- the same of a branch at work or lost, which moved to a state
pub made_step : (old new : States) (t : ℕ) (x : Xid) (c : Call) (plan : Result AssocRow Code)
    (to moved_to : BranchState) (by : Code)
    → IsPlan plan → AssocSteps old.associations new.associations t x plan by → by ≢ code.Proto
    → by ≢ code.RmErr
    → IfOk plan (λ r. Contains (branch_rows (state_at old x) c) (r.1, to)) → moved_to ≡ to
    → BranchMoves old.branches new.branches x moved_to → new.init ≡ old.init
    → ReactsByRows old new t x c plan to by
made_step old new t x c plan to moved_to by is_plan steps p q rows state_is moved init =
    let listed : Contains (branch_rows (state_at old x) c) (by, to) =
    answer_is old.associations new.associations t x
    (λ a. Contains (branch_rows (state_at old x) c) (a, to)) plan by is_plan rows steps p q in
    made old new t x c plan to by by is_plan steps p q listed refl
    (subst (λ s. BranchMoves old.branches new.branches x s) state_is moved) init

-- a call was refused by the associations
pub refused : (old new : States) (t : ℕ) (x : Xid) (c : Call) (plan : Result AssocRow Code) (to : BranchState)
    (answer : Code)
    → IsPlan plan → AssocSteps old.associations new.associations t x plan answer
    → (answer ≡ code.Proto) ⊎ (answer ≡ code.RmErr)
    → new.branches ≡ old.branches → new.init ≡ old.init → ReactsByRows old new t x c plan to answer
refused old new t x c (Ok r) to answer plan steps is branches init =
    absurd (elim is [ inl p ↦ plan.answers.0 (sym steps.0 ∙ p) | inr q ↦ plan.answers.1 (sym steps.0 ∙ q) ])
refused old new t x c (Err e) to answer plan steps is branches init = (
  steps.0,
  record
      { init = init; branches = stays old.branches new.branches branches; associations = steps.1 },
)

pub join_listed : (s : BranchState) → IsAtWork false s → Contains (branch_rows s call.StartJoin) (code.Ok, S1)
join_listed S0 h = absurd h
join_listed S1 h = (0, omega arith, refl)
join_listed S2 h = (0, omega arith, refl)
join_listed S3 h = absurd h
join_listed S4 h = absurd h
join_listed S5 h = absurd h

-- a branch at work is joined by the plan of a start
pub joins_by : (m : States) (t : ℕ) (x : Xid) (s : BranchState) → state_at m x ≡ s → (s ≡ S1) ⊎ (s ≡ S2)
    → join_reaction m t x ≡ start_plan m.associations t x
joins_by m t x s is at = elim at [ inl one ↦ by S1 refl (is ∙ one) | inr two ↦ by S2 refl (is ∙ two) ]
  where
    by : (at : BranchState)
        → by_state at (start_plan m.associations t x) (Err code.Proto) ≡ start_plan m.associations t x
        → state_at m x ≡ at → join_reaction m t x ≡ start_plan m.associations t x
    by at plan is = ap (λ r. by_state r (start_plan m.associations t x) (Err code.Proto)) is ∙ plan

pub start_listed : (s : BranchState) (a : AssocList) (t : ℕ) (x : Xid) → IsAtWork false s
    → IfOk (start_plan a t x) (λ r. Contains (branch_rows s call.StartJoin) (r.1, S1))
start_listed s a t x h = let listed = join_listed s h in search rules

pub resume_is_plan : (a : AssocList) (t : ℕ) (x : Xid) (lost : Bool) → IsPlan (resume_plan a t x lost)
resume_is_plan a t x lost = record { refuses = search rules; answers = search rules }

pub suspend_is_plan : (a : AssocList) (t : ℕ) (x : Xid) (lost migrate : Bool)
    → IsPlan (suspend_plan a t x lost migrate)
suspend_is_plan a t x lost migrate = record { refuses = search rules; answers = search rules }

pub end_is_plan : (a : AssocList) (t : ℕ) (x : Xid) (lost succeeds : Bool)
    → IsPlan (end_plan a t x lost succeeds)
end_is_plan a t x lost succeeds = record { refuses = search rules; answers = search rules }

pub resume_listed : (lost : Bool) (s : BranchState) (a : AssocList) (t : ℕ) (x : Xid) → IsAtWork lost s
    → IfOk (resume_plan a t x lost) (λ r. Contains (branch_rows s call.StartResume) (r.1, resumed lost))
resume_listed true S4 a t x h = let listed : Contains (branch_rows S4 call.StartResume)
    (code.RbRollback, S4) = (0, omega arith, refl) in search rules
resume_listed false S1 a t x h = let listed : Contains (branch_rows S1 call.StartResume) (code.Ok, S1) =
    (0, omega arith, refl) in search rules
resume_listed false S2 a t x h = let listed : Contains (branch_rows S2 call.StartResume) (code.Ok, S1) =
    (0, omega arith, refl) in search rules
resume_listed true S0 a t x h = absurd h
resume_listed true S1 a t x h = absurd h
resume_listed true S2 a t x h = absurd h
resume_listed true S3 a t x h = absurd h
resume_listed true S5 a t x h = absurd h
resume_listed false S0 a t x h = absurd h
resume_listed false S3 a t x h = absurd h
resume_listed false S4 a t x h = absurd h
resume_listed false S5 a t x h = absurd h

left_listed : (s : BranchState) (active : Bool) → IsAtWork false s
    → Contains (branch_rows s call.EndSuspend) (code.Ok, left_by false active)
left_listed S1 true h = (0, omega arith, refl)
left_listed S1 false h = (1, omega arith, refl)
left_listed S2 true h = (0, omega arith, refl)
left_listed S2 false h = (1, omega arith, refl)
left_listed S0 active h = absurd h
left_listed S3 active h = absurd h
left_listed S4 active h = absurd h
left_listed S5 active h = absurd h

moved_listed : (s : BranchState) (active : Bool) → IsAtWork false s
    → Contains (branch_rows s call.EndMigrate) (code.Ok, left_by false active)
moved_listed S1 true h = (0, omega arith, refl)
moved_listed S1 false h = (1, omega arith, refl)
moved_listed S2 true h = (0, omega arith, refl)
moved_listed S2 false h = (1, omega arith, refl)
moved_listed S0 active h = absurd h
moved_listed S3 active h = absurd h
moved_listed S4 active h = absurd h
moved_listed S5 active h = absurd h

kept_listed : (s : BranchState) (active : Bool) → IsAtWork false s
    → Contains (branch_rows s call.EndMigrate) (code.NoMigrate, left_by false active)
kept_listed S1 true h = (2, omega arith, refl)
kept_listed S1 false h = (3, omega arith, refl)
kept_listed S2 true h = (2, omega arith, refl)
kept_listed S2 false h = (3, omega arith, refl)
kept_listed S0 active h = absurd h
kept_listed S3 active h = absurd h
kept_listed S4 active h = absurd h
kept_listed S5 active h = absurd h

lost_listed : (s : BranchState) (migrate : Bool) → IsAtWork true s
    → Contains (branch_rows s (suspend_call migrate)) (code.RbRollback, S4)
lost_listed S4 true h = (0, omega arith, refl)
lost_listed S4 false h = (0, omega arith, refl)
lost_listed S0 migrate h = absurd h
lost_listed S1 migrate h = absurd h
lost_listed S2 migrate h = absurd h
lost_listed S3 migrate h = absurd h
lost_listed S5 migrate h = absurd h

pub suspend_listed : (lost migrate active : Bool) (s : BranchState) (a : AssocList) (t : ℕ) (x : Xid)
    → IsAtWork lost s → IfOk (suspend_plan a t x lost migrate)
    (λ r. Contains (branch_rows s (suspend_call migrate)) (r.1, left_by lost active))
suspend_listed true migrate active s a t x h = let listed = lost_listed s migrate h in search rules
suspend_listed false true active s a t x h = let listed = moved_listed s active h in let kept =
    kept_listed s active h in search rules
suspend_listed false false active s a t x h = let listed = left_listed s active h in search rules

done_listed : (s : BranchState) (active : Bool) → IsAtWork false s
    → Contains (branch_rows s call.EndSuccess) (code.Ok, left_by false active)
done_listed S1 true h = (0, omega arith, refl)
done_listed S1 false h = (1, omega arith, refl)
done_listed S2 true h = (0, omega arith, refl)
done_listed S2 false h = (1, omega arith, refl)
done_listed S0 active h = absurd h
done_listed S3 active h = absurd h
done_listed S4 active h = absurd h
done_listed S5 active h = absurd h

failed_listed : (s : BranchState) (lost succeeds : Bool) → IsAtWork lost s → (lost || not succeeds) ≡ true
    → Contains (branch_rows s (end_call succeeds)) (code.RbRollback, S4)
failed_listed S4 true true h f = (0, omega arith, refl)
failed_listed S4 true false h f = (0, omega arith, refl)
failed_listed S1 false false h f = (0, omega arith, refl)
failed_listed S2 false false h f = (0, omega arith, refl)
failed_listed s false true h f = absurd cc
failed_listed S0 true succeeds h f = absurd h
failed_listed S1 true succeeds h f = absurd h
failed_listed S2 true succeeds h f = absurd h
failed_listed S3 true succeeds h f = absurd h
failed_listed S5 true succeeds h f = absurd h
failed_listed S0 false succeeds h f = absurd h
failed_listed S3 false succeeds h f = absurd h
failed_listed S4 false succeeds h f = absurd h
failed_listed S5 false succeeds h f = absurd h

pub end_listed : (lost succeeds active : Bool) (s : BranchState) (a : AssocList) (t : ℕ) (x : Xid)
    → IsAtWork lost s → IfOk (end_plan a t x lost succeeds)
    (λ r. Contains (branch_rows s (end_call succeeds)) (r.1, left_by (lost || not succeeds) active))
end_listed true true active s a t x h = let listed = failed_listed s true true h refl in search rules
end_listed true false active s a t x h = let listed = failed_listed s true false h refl in search rules
end_listed false false active s a t x h = let listed = failed_listed s false false h refl in search rules
end_listed false true active s a t x h = let listed = done_listed s active h in search rules
