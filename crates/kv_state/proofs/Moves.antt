-- What a call that is no finishing one does to the states of branches.
use Rattle.std.proofs.Common.{◌≡◌, ℕ, Bool, true, false, List, Some, Result, Ok, Err, refl, ap, sym, ◌∙◌}
use Rattle.std.specs.Prelude.{MatchResult, IfOk, OnErr}
use Rattle.xa_codes.specs.declared.code.Code.{Code}
use Rattle.xa_tables.specs.Calls.{legal}
use Rattle.xa_tables.specs.declared.call.Call.{Call}
use Rattle.xa_words.specs.call
use Rattle.xa_tables.specs.declared.call.Verb.{Verb}
use Rattle.xa_words.specs.verb
use Rattle.xa_tables.specs.declared.states.InitState.{InitState}
use Rattle.xa_tables.specs.declared.states.InitState.TheVariants.{R0, R1}
use Rattle.xa_tables.specs.declared.states.BranchState.{BranchState}
use Rattle.xa_tables.specs.declared.states.BranchState.TheVariants.{S0, S1, S2, S3, S4, S5}
use Rattle.xa_xid.specs.declared.xid.Xid.{Xid}
use Rattle.xa_xid.specs.Xids.{null_xid}
use Rattle.xa_assoc.specs.Associations.{AssocRow}
use Rattle.xa_branch.proofs.Names.{same_is, same_refl}
use Rattle.xa_branch.specs.Branches.{BranchMoves, ScansBranches, scan_refusal, state_in}
use Rattle.xa_branch.specs.Names.{same}
use Rattle.xa_assoc.specs.declared.states.States.{States}
use Rattle.xa_assoc.specs.Answers.{AnswersCall, BeginsIdle, ByState, Checked, DoesCall, ReactsByRows, Recovers, RefusesCall, SameStates, Scanned, Wanted, left_state, state_at}
use Rattle.xa_assoc.specs.Reacting.{left_by, resumed}
use Rattle.xa_assoc.specs.Ready.{is_work, is_work_verb}
use Rattle.xa_assoc.proofs.Finishing.{works_as}

-- a branch that passes a test of its state passed it before
abbrev pub KeepsTest : (BranchState → Bool) → States → States → Type 0
KeepsTest q old new = (y : Xid) → q (state_at new y) ≡ true → q (state_at old y) ≡ true

-- a test that no state at work passes
pub record IsApart (q : BranchState → Bool) : Type 0 where
  pub one : q S1 ≡ false
  pub two : q S2 ≡ false
  pub four : q S4 ≡ false

pub same_keeps : (q : BranchState → Bool) (old new : States) → SameStates old new → KeepsTest q old new
same_keeps q old new stays y h = ap (λ bs. q (state_in bs y)) (sym stays.branches.branches) ∙ h

pub moves_keep : (q : BranchState → Bool) (old new : States) (x : Xid) (to : BranchState) → q to ≡ false
    → BranchMoves old.branches new.branches x to → KeepsTest q old new
moves_keep q old new x to apart moves y h = by_test (same x y) refl
  where
    by_test : (b : Bool) → same x y ≡ b → q (state_at old y) ≡ true
    by_test true e =
        let here : state_at new y ≡ to = ap (state_at new) (sym (same_is x y e)) ∙ moves.own in
        let never : false ≡ true = sym apart ∙ ap q (sym here) ∙ h in
        absurd (cc)
    by_test false e = ap q (sym (moves.others y e)) ∙ h

reacts_keep : (q : BranchState → Bool) (old new : States) (t : ℕ) (x : Xid)
    (c : Call) (plan : Result AssocRow Code)
    (to : BranchState) (answer : Code) → q to ≡ false → ReactsByRows old new t x c plan to answer
    → KeepsTest q old new
reacts_keep q old new t x c (Ok row) to answer apart walks = moves_keep q old new x to apart walks.branch
reacts_keep q old new t x c (Err refusal) to answer apart refused = same_keeps q old new refused.1

by_state_keeps : (q : BranchState → Bool) (old new : States) (s : BranchState)
    (Unknown Off : Type 0) (DoesCall : Bool → Type 0)
    → (Unknown → KeepsTest q old new) → ((lost : Bool) → DoesCall lost → KeepsTest q old new)
    → (Off → KeepsTest q old new)
    → ByState s Unknown DoesCall Off → KeepsTest q old new
by_state_keeps q old new S0 Unknown Off DoesCall u d o h = u h
by_state_keeps q old new S1 Unknown Off DoesCall u d o h = d false h
by_state_keeps q old new S2 Unknown Off DoesCall u d o h = d false h
by_state_keeps q old new S3 Unknown Off DoesCall u d o h = o h
by_state_keeps q old new S4 Unknown Off DoesCall u d o h = d true h
by_state_keeps q old new S5 Unknown Off DoesCall u d o h = o h

resumed_apart : (q : BranchState → Bool) (lost : Bool) → IsApart q → q (resumed lost) ≡ false
resumed_apart q true apart = apart.four
resumed_apart q false apart = apart.one

left_apart : (q : BranchState → Bool) (lost active : Bool) → IsApart q → q (left_by lost active) ≡ false
left_apart q true active apart = apart.four
left_apart q false true apart = apart.one
left_apart q false false apart = apart.two

does_keep : (q : BranchState → Bool) (wanted : Wanted) (old new : States) (c : Call)
    (t : ℕ) (x : Xid) (answer : Code)
    → IsApart q → is_work c ≡ true → DoesCall wanted old new c t x answer → KeepsTest q old new
does_keep q wanted old new call.Start t x answer apart w h =
    reacts_keep q old new t x call.Start _ S1 answer apart.one h
does_keep q wanted old new call.StartJoin t x answer apart w h =
    reacts_keep q old new t x call.StartJoin _ S1 answer apart.one h
does_keep q wanted old new call.StartResume t x answer apart w h =
    by_state_keeps q old new (state_at old x) _ _ _ (λ u. same_keeps q old new u.1)
    (λ lost r. reacts_keep q old new t x call.StartResume _ (resumed lost) answer (resumed_apart q lost apart)
    r) (λ o. same_keeps q old new o.1) h
does_keep q wanted old new call.EndSuspend t x answer apart w h =
    by_state_keeps q old new (state_at old x) _ _ _ (λ u. same_keeps q old new u.1)
    (λ lost r. reacts_keep q old new t x call.EndSuspend _ (left_state new x lost) answer
    (left_apart q lost _ apart) r) (λ o. same_keeps q old new o.1) h
does_keep q wanted old new call.EndMigrate t x answer apart w h =
    by_state_keeps q old new (state_at old x) _ _ _ (λ u. same_keeps q old new u.1)
    (λ lost r. reacts_keep q old new t x call.EndMigrate _ (left_state new x lost) answer
    (left_apart q lost _ apart) r) (λ o. same_keeps q old new o.1) h
does_keep q wanted old new call.EndSuccess t x answer apart w h =
    by_state_keeps q old new (state_at old x) _ _ _ (λ u. same_keeps q old new u.1)
    (λ lost r. reacts_keep q old new t x call.EndSuccess _ _ answer (left_apart q _ _ apart) r)
    (λ o. same_keeps q old new o.1) h
does_keep q wanted old new call.EndFail t x answer apart w h =
    by_state_keeps q old new (state_at old x) _ _ _ (λ u. same_keeps q old new u.1)
    (λ lost r. reacts_keep q old new t x call.EndFail _ _ answer (left_apart q _ _ apart) r)
    (λ o. same_keeps q old new o.1) h
does_keep q wanted old new _ t x answer apart w h = absurd cc

checked_keep : (q : BranchState → Bool) (wanted : Wanted) (old new : States) (c : Call)
    (t : ℕ) (x : Xid) (answer : Code)
    → IsApart q → is_work c ≡ true → Checked wanted old new c t x answer → KeepsTest q old new
checked_keep q wanted old new c t x answer apart w checked = by_init old.init refl
  where
    by_name : (b : Bool) → same x null_xid ≡ b → old.init ≡ R1 → KeepsTest q old new
    by_name true e opened = same_keeps q old new (checked.null opened (same_is x null_xid e)).1
    by_name false e opened =
        does_keep q wanted old new c t x answer apart w
        (checked.does opened (λ is. let never : false ≡ true = sym e
        ∙ ap (λ z. same z null_xid) is ∙ same_refl null_xid in absurd (cc)))

    by_init : (i : InitState) → old.init ≡ i → KeepsTest q old new
    by_init R0 e = same_keeps q old new (checked.closed e).1
    by_init R1 e = by_name (same x null_xid) refl e

-- a start or an end leads no branch into a state that is not at work
pub works_keep : (q : BranchState → Bool) (wanted : Wanted) (old new : States) (v : Verb) (t : ℕ)
    (x : Xid) (flags : ℕ) (answer : Code)
    → IsApart q → is_work_verb v ≡ true → AnswersCall wanted old new v t x flags answer → KeepsTest q old new
works_keep q wanted old new v t x flags answer apart w answers = by_legal (legal v flags) refl answers
  where
    by_legal : (r : Result Call Code) → legal v flags ≡ r
        → MatchResult r (λ c. Checked wanted old new c t x answer)
        (λ refusal. RefusesCall old new answer refusal) → KeepsTest q old new
    by_legal (Ok c) e h = checked_keep q wanted old new c t x answer apart (works_as v flags c e ∙ w) h
    by_legal (Err refusal) e h = same_keeps q old new h.1

-- a branch that begins, and that no thread is in
pub begins_keep : (q : BranchState → Bool) (old new : States) (x : Xid) (begun : Bool) → q S2 ≡ false
    → BeginsIdle old new x begun → KeepsTest q old new
begins_keep q old new x true apart made = moves_keep q old new x S2 apart made.1.branch
begins_keep q old new x false apart made = same_keeps q old new made.1

-- a result, both ways
pub either_way : {A E : Type 0} (P : A → Type 0) (Q X : Type 0) (r : Result A E) → IfOk r P → OnErr r Q
    → ((a : A) → P a → X) → (Q → X) → X
either_way P Q X (Ok a) ok err made refused = made a ok
either_way P Q X (Err e) ok err made refused = refused err

-- a scan moves no branch
pub recovers_keep : (q : BranchState → Bool) (old new : States) (t count flags : ℕ)
    (answer : Result (List Xid) Code)
    → Recovers old new t count flags answer → KeepsTest q old new
recovers_keep q old new t count flags answer recovers = by_legal (legal verb.Recover flags) recovers
  where
    by_answer : (c : Call) (r : Result (List Xid) Code)
        → MatchResult r (λ given. ScansBranches old.branches new.branches t count c given
        × (new.associations ≡ old.associations) × (new.init ≡ old.init))
        (λ refusal. (scan_refusal old.branches.scans t c ≡ Some refusal) × SameStates old new)
        → KeepsTest q old new
    by_answer c (Ok given) h = λ y passes. ap (λ bs. q (state_in bs y)) (sym h.0.branches) ∙ passes
    by_answer c (Err refusal) h = same_keeps q old new h.1

    by_init : (c : Call) (i : InitState) → old.init ≡ i → Scanned old new t count c answer
        → KeepsTest q old new
    by_init c R0 e h = same_keeps q old new (h.closed e).1
    by_init c R1 e h = by_answer c answer (h.given e)

    by_legal : (r : Result Call Code)
        → MatchResult r (λ c. Scanned old new t count c answer)
        (λ refusal. (answer ≡ Err refusal) × SameStates old new) → KeepsTest q old new
    by_legal (Ok c) h = by_init c old.init refl h
    by_legal (Err refusal) h = same_keeps q old new h.1
