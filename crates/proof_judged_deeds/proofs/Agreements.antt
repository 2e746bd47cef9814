-- The tables have a row where the judge finds no defect, state by state.
use Rattle.std.proofs.Common.{◌≡◌, ℕ, Bool, true, false, not, Option, Some, None, ◌&&◌, ◌||◌, refl, sym}
use Rattle.std.specs.Prelude.{if◌then◌else◌}
use Rattle.std.proofs.lemmas.Bool.{false≢true}
use Rattle.xa_tables.specs.Calls.{one_phase}
use Rattle.xa_tables.specs.Tables.{assoc_rows, branch_rows}
use Rattle.xa_tables.specs.declared.call.Call.{Call}
use Rattle.xa_words.specs.call
use Rattle.xa_tables.specs.declared.states.AssocState.{AssocState}
use Rattle.xa_tables.specs.declared.states.AssocState.TheVariants.{T0, T1, T2, M}
use Rattle.xa_tables.specs.declared.states.BranchState.{BranchState}
use Rattle.xa_tables.specs.declared.states.BranchState.TheVariants.{S0, S1, S2, S3, S4, S5}
use Rattle.xa_assoc.specs.Ready.{has_rows, is_start, is_work}
use Rattle.judge_state.specs.declared.parts.JudgedDecision.{JudgedDecision}
use Rattle.judge_state.specs.declared.parts.Stand.{Stand}
use Rattle.judge_words.specs.stand
use Rattle.judge_state.specs.Parts.{waits}
use Rattle.judge_rules.specs.declared.calls.BranchVerb.{BranchVerb}
use Rattle.judge_words.specs.verb
use Rattle.judge_rules.specs.Defects.{has_no_end, has_row, is_forget, stands_spoiled}
use Rattle.judge_rules.specs.Flags.{has}
use Rattle.proof_judged_deeds.proofs.Links.{is_one, is_two}
use Rattle.proof_judged_deeds.proofs.Mirrors.{is_begun, is_quiet, stand_as}

-- no row of the tables applies to a call: by the branch's state, the thread's own state, whether the thread
-- is active in any branch, whether the branch is suspended for migration nowhere, and whether it is held
abbrev pub out_by : BranchState → AssocState → Call → Bool → Bool → Bool → Bool
out_by s own c busy unmoved held =
    not (has_rows (branch_rows s c))
    || (if is_work c then (is_start c && busy)
    || not (has_rows (assoc_rows own c) || (has_rows (assoc_rows M c) && not unmoved)) else held)

-- the judge finds no row for a start that joins or resumes: by how the branch stands
abbrev pub no_start_by : Option Stand → Bool → Bool → Bool → Bool → Bool
no_start_by None joins resumes two migrated = resumes
no_start_by (Some k) joins resumes two migrated =
    waits k || (joins && (two || stands_spoiled k)) || (resumes && not (two || migrated))

pub join_agrees : (s : BranchState) (own : AssocState) (busy unmoved : Bool) (d : JudgedDecision)
    → is_begun s ≡ true
    → (is_one own ≡ true → busy ≡ true) → (is_quiet s ≡ true → own ≡ T0) → (own ≡ M → ⊥)
    → out_by s own call.StartJoin busy unmoved false
    ≡ (busy || no_start_by (stand_as s d) true false (is_two own) (not unmoved))
join_agrees S0 own busy unmoved d k a q m = absurd (false≢true k)
join_agrees S1 T0 true unmoved d k a q m = refl
join_agrees S1 T0 false unmoved d k a q m = refl
join_agrees S1 T1 true unmoved d k a q m = refl
join_agrees S1 T1 false unmoved d k a q m = absurd (false≢true (a refl))
join_agrees S1 T2 true unmoved d k a q m = refl
join_agrees S1 T2 false unmoved d k a q m = refl
join_agrees S1 M busy unmoved d k a q m = absurd (m refl)
join_agrees S2 T0 true unmoved d k a q m = refl
join_agrees S2 T0 false unmoved d k a q m = refl
join_agrees S2 T1 true unmoved d k a q m = refl
join_agrees S2 T1 false unmoved d k a q m = absurd (false≢true (a refl))
join_agrees S2 T2 true unmoved d k a q m = refl
join_agrees S2 T2 false unmoved d k a q m = refl
join_agrees S2 M busy unmoved d k a q m = absurd (m refl)
join_agrees S3 T0 true unmoved d k a q m = refl
join_agrees S3 T0 false unmoved d k a q m = refl
join_agrees S3 T1 busy unmoved d k a q m = absurd (let e : T1 ≡ T0 = q refl in cc)
join_agrees S3 T2 busy unmoved d k a q m = absurd (let e : T2 ≡ T0 = q refl in cc)
join_agrees S3 M busy unmoved d k a q m = absurd (m refl)
join_agrees S4 T0 true unmoved d k a q m = refl
join_agrees S4 T0 false unmoved d k a q m = refl
join_agrees S4 T1 true unmoved d k a q m = refl
join_agrees S4 T1 false unmoved d k a q m = absurd (false≢true (a refl))
join_agrees S4 T2 true unmoved d k a q m = refl
join_agrees S4 T2 false unmoved d k a q m = refl
join_agrees S4 M busy unmoved d k a q m = absurd (m refl)
join_agrees S5 T0 true unmoved d k a q m = refl
join_agrees S5 T0 false unmoved d k a q m = refl
join_agrees S5 T1 busy unmoved d k a q m = absurd (let e : T1 ≡ T0 = q refl in cc)
join_agrees S5 T2 busy unmoved d k a q m = absurd (let e : T2 ≡ T0 = q refl in cc)
join_agrees S5 M busy unmoved d k a q m = absurd (m refl)

pub resume_agrees : (s : BranchState) (own : AssocState) (busy unmoved : Bool) (d : JudgedDecision)
    → is_begun s ≡ true
    → (is_one own ≡ true → busy ≡ true) → (is_quiet s ≡ true → own ≡ T0) → (own ≡ M → ⊥)
    → out_by s own call.StartResume busy unmoved false
    ≡ (busy || no_start_by (stand_as s d) false true (is_two own) (not unmoved))
resume_agrees S0 own busy unmoved d k a q m = absurd (false≢true k)
resume_agrees S1 T0 true true d k a q m = refl
resume_agrees S1 T0 true false d k a q m = refl
resume_agrees S1 T0 false true d k a q m = refl
resume_agrees S1 T0 false false d k a q m = refl
resume_agrees S1 T1 true true d k a q m = refl
resume_agrees S1 T1 true false d k a q m = refl
resume_agrees S1 T1 false unmoved d k a q m = absurd (false≢true (a refl))
resume_agrees S1 T2 true true d k a q m = refl
resume_agrees S1 T2 true false d k a q m = refl
resume_agrees S1 T2 false true d k a q m = refl
resume_agrees S1 T2 false false d k a q m = refl
resume_agrees S1 M busy unmoved d k a q m = absurd (m refl)
resume_agrees S2 T0 true true d k a q m = refl
resume_agrees S2 T0 true false d k a q m = refl
resume_agrees S2 T0 false true d k a q m = refl
resume_agrees S2 T0 false false d k a q m = refl
resume_agrees S2 T1 true true d k a q m = refl
resume_agrees S2 T1 true false d k a q m = refl
resume_agrees S2 T1 false unmoved d k a q m = absurd (false≢true (a refl))
resume_agrees S2 T2 true true d k a q m = refl
resume_agrees S2 T2 true false d k a q m = refl
resume_agrees S2 T2 false true d k a q m = refl
resume_agrees S2 T2 false false d k a q m = refl
resume_agrees S2 M busy unmoved d k a q m = absurd (m refl)
resume_agrees S3 T0 true true d k a q m = refl
resume_agrees S3 T0 true false d k a q m = refl
resume_agrees S3 T0 false true d k a q m = refl
resume_agrees S3 T0 false false d k a q m = refl
resume_agrees S3 T1 busy unmoved d k a q m = absurd (let e : T1 ≡ T0 = q refl in cc)
resume_agrees S3 T2 busy unmoved d k a q m = absurd (let e : T2 ≡ T0 = q refl in cc)
resume_agrees S3 M busy unmoved d k a q m = absurd (m refl)
resume_agrees S4 T0 true true d k a q m = refl
resume_agrees S4 T0 true false d k a q m = refl
resume_agrees S4 T0 false true d k a q m = refl
resume_agrees S4 T0 false false d k a q m = refl
resume_agrees S4 T1 true true d k a q m = refl
resume_agrees S4 T1 true false d k a q m = refl
resume_agrees S4 T1 false unmoved d k a q m = absurd (false≢true (a refl))
resume_agrees S4 T2 true true d k a q m = refl
resume_agrees S4 T2 true false d k a q m = refl
resume_agrees S4 T2 false true d k a q m = refl
resume_agrees S4 T2 false false d k a q m = refl
resume_agrees S4 M busy unmoved d k a q m = absurd (m refl)
resume_agrees S5 T0 true true d k a q m = refl
resume_agrees S5 T0 true false d k a q m = refl
resume_agrees S5 T0 false true d k a q m = refl
resume_agrees S5 T0 false false d k a q m = refl
resume_agrees S5 T1 busy unmoved d k a q m = absurd (let e : T1 ≡ T0 = q refl in cc)
resume_agrees S5 T2 busy unmoved d k a q m = absurd (let e : T2 ≡ T0 = q refl in cc)
resume_agrees S5 M busy unmoved d k a q m = absurd (m refl)

pub suspend_agrees : (s : BranchState) (own : AssocState) (busy unmoved : Bool) → is_begun s ≡ true
    → (is_quiet s ≡ true → own ≡ T0) → (own ≡ M → ⊥)
    → out_by s own call.EndSuspend busy unmoved false ≡ has_no_end true (is_one own) (is_two own) true
suspend_agrees S0 own busy unmoved k q m = absurd (false≢true k)
suspend_agrees S1 T0 busy unmoved k q m = refl
suspend_agrees S1 T1 busy unmoved k q m = refl
suspend_agrees S1 T2 busy unmoved k q m = refl
suspend_agrees S1 M busy unmoved k q m = absurd (m refl)
suspend_agrees S2 T0 busy unmoved k q m = refl
suspend_agrees S2 T1 busy unmoved k q m = refl
suspend_agrees S2 T2 busy unmoved k q m = refl
suspend_agrees S2 M busy unmoved k q m = absurd (m refl)
suspend_agrees S3 T0 busy unmoved k q m = refl
suspend_agrees S3 T1 busy unmoved k q m = absurd (let e : T1 ≡ T0 = q refl in cc)
suspend_agrees S3 T2 busy unmoved k q m = absurd (let e : T2 ≡ T0 = q refl in cc)
suspend_agrees S3 M busy unmoved k q m = absurd (m refl)
suspend_agrees S4 T0 busy unmoved k q m = refl
suspend_agrees S4 T1 busy unmoved k q m = refl
suspend_agrees S4 T2 busy unmoved k q m = refl
suspend_agrees S4 M busy unmoved k q m = absurd (m refl)
suspend_agrees S5 T0 busy unmoved k q m = refl
suspend_agrees S5 T1 busy unmoved k q m = absurd (let e : T1 ≡ T0 = q refl in cc)
suspend_agrees S5 T2 busy unmoved k q m = absurd (let e : T2 ≡ T0 = q refl in cc)
suspend_agrees S5 M busy unmoved k q m = absurd (m refl)

pub migrate_agrees : (s : BranchState) (own : AssocState) (busy unmoved : Bool) → is_begun s ≡ true
    → (is_quiet s ≡ true → own ≡ T0) → (own ≡ M → ⊥)
    → out_by s own call.EndMigrate busy unmoved false ≡ has_no_end true (is_one own) (is_two own) true
migrate_agrees S0 own busy unmoved k q m = absurd (false≢true k)
migrate_agrees S1 T0 busy unmoved k q m = refl
migrate_agrees S1 T1 busy unmoved k q m = refl
migrate_agrees S1 T2 busy unmoved k q m = refl
migrate_agrees S1 M busy unmoved k q m = absurd (m refl)
migrate_agrees S2 T0 busy unmoved k q m = refl
migrate_agrees S2 T1 busy unmoved k q m = refl
migrate_agrees S2 T2 busy unmoved k q m = refl
migrate_agrees S2 M busy unmoved k q m = absurd (m refl)
migrate_agrees S3 T0 busy unmoved k q m = refl
migrate_agrees S3 T1 busy unmoved k q m = absurd (let e : T1 ≡ T0 = q refl in cc)
migrate_agrees S3 T2 busy unmoved k q m = absurd (let e : T2 ≡ T0 = q refl in cc)
migrate_agrees S3 M busy unmoved k q m = absurd (m refl)
migrate_agrees S4 T0 busy unmoved k q m = refl
migrate_agrees S4 T1 busy unmoved k q m = refl
migrate_agrees S4 T2 busy unmoved k q m = refl
migrate_agrees S4 M busy unmoved k q m = absurd (m refl)
migrate_agrees S5 T0 busy unmoved k q m = refl
migrate_agrees S5 T1 busy unmoved k q m = absurd (let e : T1 ≡ T0 = q refl in cc)
migrate_agrees S5 T2 busy unmoved k q m = absurd (let e : T2 ≡ T0 = q refl in cc)
migrate_agrees S5 M busy unmoved k q m = absurd (m refl)

pub success_agrees : (s : BranchState) (own : AssocState) (busy unmoved : Bool) → is_begun s ≡ true
    → (is_quiet s ≡ true → own ≡ T0) → (own ≡ M → ⊥)
    → out_by s own call.EndSuccess busy unmoved false ≡ has_no_end true (is_one own) (is_two own) false
success_agrees S0 own busy unmoved k q m = absurd (false≢true k)
success_agrees S1 T0 busy unmoved k q m = refl
success_agrees S1 T1 busy unmoved k q m = refl
success_agrees S1 T2 busy unmoved k q m = refl
success_agrees S1 M busy unmoved k q m = absurd (m refl)
success_agrees S2 T0 busy unmoved k q m = refl
success_agrees S2 T1 busy unmoved k q m = refl
success_agrees S2 T2 busy unmoved k q m = refl
success_agrees S2 M busy unmoved k q m = absurd (m refl)
success_agrees S3 T0 busy unmoved k q m = refl
success_agrees S3 T1 busy unmoved k q m = absurd (let e : T1 ≡ T0 = q refl in cc)
success_agrees S3 T2 busy unmoved k q m = absurd (let e : T2 ≡ T0 = q refl in cc)
success_agrees S3 M busy unmoved k q m = absurd (m refl)
success_agrees S4 T0 busy unmoved k q m = refl
success_agrees S4 T1 busy unmoved k q m = refl
success_agrees S4 T2 busy unmoved k q m = refl
success_agrees S4 M busy unmoved k q m = absurd (m refl)
success_agrees S5 T0 busy unmoved k q m = refl
success_agrees S5 T1 busy unmoved k q m = absurd (let e : T1 ≡ T0 = q refl in cc)
success_agrees S5 T2 busy unmoved k q m = absurd (let e : T2 ≡ T0 = q refl in cc)
success_agrees S5 M busy unmoved k q m = absurd (m refl)

pub fail_agrees : (s : BranchState) (own : AssocState) (busy unmoved : Bool) → is_begun s ≡ true
    → (is_quiet s ≡ true → own ≡ T0) → (own ≡ M → ⊥)
    → out_by s own call.EndFail busy unmoved false ≡ has_no_end true (is_one own) (is_two own) false
fail_agrees S0 own busy unmoved k q m = absurd (false≢true k)
fail_agrees S1 T0 busy unmoved k q m = refl
fail_agrees S1 T1 busy unmoved k q m = refl
fail_agrees S1 T2 busy unmoved k q m = refl
fail_agrees S1 M busy unmoved k q m = absurd (m refl)
fail_agrees S2 T0 busy unmoved k q m = refl
fail_agrees S2 T1 busy unmoved k q m = refl
fail_agrees S2 T2 busy unmoved k q m = refl
fail_agrees S2 M busy unmoved k q m = absurd (m refl)
fail_agrees S3 T0 busy unmoved k q m = refl
fail_agrees S3 T1 busy unmoved k q m = absurd (let e : T1 ≡ T0 = q refl in cc)
fail_agrees S3 T2 busy unmoved k q m = absurd (let e : T2 ≡ T0 = q refl in cc)
fail_agrees S3 M busy unmoved k q m = absurd (m refl)
fail_agrees S4 T0 busy unmoved k q m = refl
fail_agrees S4 T1 busy unmoved k q m = refl
fail_agrees S4 T2 busy unmoved k q m = refl
fail_agrees S4 M busy unmoved k q m = absurd (m refl)
fail_agrees S5 T0 busy unmoved k q m = refl
fail_agrees S5 T1 busy unmoved k q m = absurd (let e : T1 ≡ T0 = q refl in cc)
fail_agrees S5 T2 busy unmoved k q m = absurd (let e : T2 ≡ T0 = q refl in cc)
fail_agrees S5 M busy unmoved k q m = absurd (m refl)

-- a branch that stands so has a row for a call that ends it, with TMONEPHASE or not
abbrev pub row_by : BranchVerb → Bool → Stand → Bool
row_by verb.Prepare one stand.Active = true
row_by verb.Commit one stand.Active = one
row_by verb.Commit one stand.Prepared = not one
row_by verb.Commit one (stand.Heuristic d) = not one
row_by verb.Rollback one k = true
row_by verb.Forget one (stand.Heuristic d) = true
row_by _ _ _ = false

pub row_is : (v : BranchVerb) (f : ℕ) (k : Stand) → has_row v f k ≡ row_by v (has f one_phase) k
row_is verb.Start f stand.Active = refl
row_is verb.Start f stand.Prepared = refl
row_is verb.Start f stand.RollbackOnly = refl
row_is verb.Start f (stand.Heuristic d) = refl
row_is verb.End f stand.Active = refl
row_is verb.End f stand.Prepared = refl
row_is verb.End f stand.RollbackOnly = refl
row_is verb.End f (stand.Heuristic d) = refl
row_is verb.Prepare f stand.Active = refl
row_is verb.Prepare f stand.Prepared = refl
row_is verb.Prepare f stand.RollbackOnly = refl
row_is verb.Prepare f (stand.Heuristic d) = refl
row_is verb.Commit f stand.Active = refl
row_is verb.Commit f stand.Prepared = refl
row_is verb.Commit f stand.RollbackOnly = refl
row_is verb.Commit f (stand.Heuristic d) = refl
row_is verb.Rollback f stand.Active = refl
row_is verb.Rollback f stand.Prepared = refl
row_is verb.Rollback f stand.RollbackOnly = refl
row_is verb.Rollback f (stand.Heuristic d) = refl
row_is verb.Forget f stand.Active = refl
row_is verb.Forget f stand.Prepared = refl
row_is verb.Forget f stand.RollbackOnly = refl
row_is verb.Forget f (stand.Heuristic d) = refl

-- the judge finds no row for a call that ends a branch: by how it stands
abbrev pub off_by : BranchVerb → Bool → Option Stand → Bool
off_by v one None = false
off_by v one (Some k) = not (row_by v one k)

pub prepare_agrees : (s : BranchState) (own : AssocState) (busy unmoved held : Bool) (d : JudgedDecision)
    → is_begun s ≡ true
    → (s ≡ S1 → held ≡ true) → (is_quiet s ≡ true → held ≡ false)
    → out_by s own call.Prepare busy unmoved held
    ≡ ((held && not (is_forget verb.Prepare)) || off_by verb.Prepare false (stand_as s d))
prepare_agrees S0 own busy unmoved held d k a q = absurd (false≢true k)
prepare_agrees S1 own busy unmoved true d k a q = refl
prepare_agrees S1 own busy unmoved false d k a q = absurd (false≢true (a refl))
prepare_agrees S2 own busy unmoved true d k a q = refl
prepare_agrees S2 own busy unmoved false d k a q = refl
prepare_agrees S3 own busy unmoved true d k a q = absurd (false≢true (sym (q refl)))
prepare_agrees S3 own busy unmoved false d k a q = refl
prepare_agrees S4 own busy unmoved true d k a q = refl
prepare_agrees S4 own busy unmoved false d k a q = refl
prepare_agrees S5 own busy unmoved true d k a q = absurd (false≢true (sym (q refl)))
prepare_agrees S5 own busy unmoved false d k a q = refl

pub commit_agrees : (s : BranchState) (own : AssocState) (busy unmoved held : Bool) (d : JudgedDecision)
    → is_begun s ≡ true
    → (s ≡ S1 → held ≡ true) → (is_quiet s ≡ true → held ≡ false)
    → out_by s own call.Commit busy unmoved held
    ≡ ((held && not (is_forget verb.Commit)) || off_by verb.Commit false (stand_as s d))
commit_agrees S0 own busy unmoved held d k a q = absurd (false≢true k)
commit_agrees S1 own busy unmoved true d k a q = refl
commit_agrees S1 own busy unmoved false d k a q = absurd (false≢true (a refl))
commit_agrees S2 own busy unmoved true d k a q = refl
commit_agrees S2 own busy unmoved false d k a q = refl
commit_agrees S3 own busy unmoved true d k a q = absurd (false≢true (sym (q refl)))
commit_agrees S3 own busy unmoved false d k a q = refl
commit_agrees S4 own busy unmoved true d k a q = refl
commit_agrees S4 own busy unmoved false d k a q = refl
commit_agrees S5 own busy unmoved true d k a q = absurd (false≢true (sym (q refl)))
commit_agrees S5 own busy unmoved false d k a q = refl

pub one_phase_agrees : (s : BranchState) (own : AssocState) (busy unmoved held : Bool) (d : JudgedDecision)
    → is_begun s ≡ true
    → (s ≡ S1 → held ≡ true) → (is_quiet s ≡ true → held ≡ false)
    → out_by s own call.CommitOnePhase busy unmoved held
    ≡ ((held && not (is_forget verb.Commit)) || off_by verb.Commit true (stand_as s d))
one_phase_agrees S0 own busy unmoved held d k a q = absurd (false≢true k)
one_phase_agrees S1 own busy unmoved true d k a q = refl
one_phase_agrees S1 own busy unmoved false d k a q = absurd (false≢true (a refl))
one_phase_agrees S2 own busy unmoved true d k a q = refl
one_phase_agrees S2 own busy unmoved false d k a q = refl
one_phase_agrees S3 own busy unmoved true d k a q = absurd (false≢true (sym (q refl)))
one_phase_agrees S3 own busy unmoved false d k a q = refl
one_phase_agrees S4 own busy unmoved true d k a q = refl
one_phase_agrees S4 own busy unmoved false d k a q = refl
one_phase_agrees S5 own busy unmoved true d k a q = absurd (false≢true (sym (q refl)))
one_phase_agrees S5 own busy unmoved false d k a q = refl

pub rollback_agrees : (s : BranchState) (own : AssocState) (busy unmoved held : Bool) (d : JudgedDecision)
    → is_begun s ≡ true
    → (s ≡ S1 → held ≡ true) → (is_quiet s ≡ true → held ≡ false)
    → out_by s own call.Rollback busy unmoved held
    ≡ ((held && not (is_forget verb.Rollback)) || off_by verb.Rollback false (stand_as s d))
rollback_agrees S0 own busy unmoved held d k a q = absurd (false≢true k)
rollback_agrees S1 own busy unmoved true d k a q = refl
rollback_agrees S1 own busy unmoved false d k a q = absurd (false≢true (a refl))
rollback_agrees S2 own busy unmoved true d k a q = refl
rollback_agrees S2 own busy unmoved false d k a q = refl
rollback_agrees S3 own busy unmoved true d k a q = absurd (false≢true (sym (q refl)))
rollback_agrees S3 own busy unmoved false d k a q = refl
rollback_agrees S4 own busy unmoved true d k a q = refl
rollback_agrees S4 own busy unmoved false d k a q = refl
rollback_agrees S5 own busy unmoved true d k a q = absurd (false≢true (sym (q refl)))
rollback_agrees S5 own busy unmoved false d k a q = refl

pub forget_agrees : (s : BranchState) (own : AssocState) (busy unmoved held : Bool) (d : JudgedDecision)
    → is_begun s ≡ true
    → (s ≡ S1 → held ≡ true) → (is_quiet s ≡ true → held ≡ false)
    → out_by s own call.Forget busy unmoved held
    ≡ ((held && not (is_forget verb.Forget)) || off_by verb.Forget false (stand_as s d))
forget_agrees S0 own busy unmoved held d k a q = absurd (false≢true k)
forget_agrees S1 own busy unmoved true d k a q = refl
forget_agrees S1 own busy unmoved false d k a q = absurd (false≢true (a refl))
forget_agrees S2 own busy unmoved true d k a q = refl
forget_agrees S2 own busy unmoved false d k a q = refl
forget_agrees S3 own busy unmoved true d k a q = absurd (false≢true (sym (q refl)))
forget_agrees S3 own busy unmoved false d k a q = refl
forget_agrees S4 own busy unmoved true d k a q = refl
forget_agrees S4 own busy unmoved false d k a q = refl
forget_agrees S5 own busy unmoved true d k a q = absurd (false≢true (sym (q refl)))
forget_agrees S5 own busy unmoved false d k a q = refl
