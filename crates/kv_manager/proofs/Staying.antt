-- A call that is no finishing one leaves in doubt what was, and no other.
use Rattle.std.proofs.Common.{◌≡◌, ℕ, Bool, true, false, List, Some, Result, Ok, Err, refl, ap, sym, ◌∙◌, arith}
use Rattle.std.specs.Prelude.{Contains, MatchResult}
use Rattle.xa_codes.specs.declared.code.Code.{Code}
use Rattle.xa_tables.specs.Calls.{legal}
use Rattle.xa_tables.specs.Tables.{branch_rows}
use Rattle.xa_tables.specs.declared.call.Call.{Call}
use Rattle.xa_words.specs.call
use Rattle.xa_tables.specs.declared.call.Verb.{Verb}
use Rattle.xa_words.specs.verb
use Rattle.xa_tables.specs.declared.states.InitState.{InitState}
use Rattle.xa_tables.specs.declared.states.InitState.TheVariants.{R0, R1}
use Rattle.xa_tables.specs.declared.states.BranchState.{BranchState}
use Rattle.xa_tables.specs.declared.states.BranchState.TheVariants.{S0, S1, S2, S3, S4, S5}
use Rattle.xa_xid.specs.declared.xid.Xid.{Xid}
use Rattle.xa_xid.specs.Xids.{null_xid}
use Rattle.xa_assoc.specs.Associations.{AssocRow}
use Rattle.xa_branch.proofs.Names.{same_is, same_refl}
use Rattle.xa_branch.specs.Branches.{BranchMoves, ScansBranches, scan_refusal, state_in}
use Rattle.xa_branch.specs.Names.{same}
use Rattle.xa_assoc.specs.declared.states.States.{States}
use Rattle.xa_assoc.specs.Answers.{AnswersCall, ByState, Checked, DoesCall, ReactsByRows, Recovers, RefusesCall, SameStates, Scanned, Wanted, left_state, state_at}
use Rattle.xa_assoc.specs.Reacting.{left_by, resumed}
use Rattle.xa_assoc.specs.Ready.{is_work, is_work_verb}
use Rattle.xa_assoc.proofs.Finishing.{works_as}
use Rattle.kv_manager.specs.Sights.{doubt_of}

-- each branch is in doubt that was, and as it was
abbrev pub SameDoubts : States → States → Type 0
SameDoubts old new = (y : Xid) → doubt_of (state_at new y) ≡ doubt_of (state_at old y)

pub same_doubts : (old new : States) → SameStates old new → SameDoubts old new
same_doubts old new stays y = ap (λ bs. doubt_of (state_in bs y)) stays.branches.branches

pub moves_doubts : (old new : States) (x : Xid) (to : BranchState) → doubt_of to ≡ doubt_of (state_at old x)
    → BranchMoves old.branches new.branches x to → SameDoubts old new
moves_doubts old new x to one moves y = by_test (same x y) refl
  where
    by_test : (b : Bool) → same x y ≡ b → doubt_of (state_at new y) ≡ doubt_of (state_at old y)
    by_test true e =
        ap (λ z. doubt_of (state_at new z)) (sym (same_is x y e)) ∙ ap doubt_of moves.own ∙ one
        ∙ ap (λ z. doubt_of (state_at old z)) (same_is x y e)
    by_test false e = ap doubt_of (moves.others y e)

-- a start or an end has no row for a branch in doubt
row_works : (s : BranchState) (c : Call) (r : Code × BranchState) → is_work c ≡ true
    → Contains (branch_rows s c) r → doubt_of s ≡ S0
row_works S0 c r w h = refl
row_works S1 c r w h = refl
row_works S2 c r w h = refl
row_works S4 c r w h = refl
row_works S3 call.Start r w h = absurd (let none = h.1 in omega arith)
row_works S3 call.StartJoin r w h = absurd (let none = h.1 in omega arith)
row_works S3 call.StartResume r w h = absurd (let none = h.1 in omega arith)
row_works S3 call.EndSuspend r w h = absurd (let none = h.1 in omega arith)
row_works S3 call.EndMigrate r w h = absurd (let none = h.1 in omega arith)
row_works S3 call.EndSuccess r w h = absurd (let none = h.1 in omega arith)
row_works S3 call.EndFail r w h = absurd (let none = h.1 in omega arith)
row_works S5 call.Start r w h = absurd (let none = h.1 in omega arith)
row_works S5 call.StartJoin r w h = absurd (let none = h.1 in omega arith)
row_works S5 call.StartResume r w h = absurd (let none = h.1 in omega arith)
row_works S5 call.EndSuspend r w h = absurd (let none = h.1 in omega arith)
row_works S5 call.EndMigrate r w h = absurd (let none = h.1 in omega arith)
row_works S5 call.EndSuccess r w h = absurd (let none = h.1 in omega arith)
row_works S5 call.EndFail r w h = absurd (let none = h.1 in omega arith)
row_works S3 _ r w h = absurd (cc)
row_works S5 _ r w h = absurd (cc)

reacts_doubts : (old new : States) (t : ℕ) (x : Xid) (c : Call) (plan : Result AssocRow Code)
    (to : BranchState)
    (answer : Code) → is_work c ≡ true → doubt_of to ≡ S0 → ReactsByRows old new t x c plan to answer
    → SameDoubts old new
reacts_doubts old new t x c (Ok row) to answer w works walks = moves_doubts old new x to
    (works ∙ sym (row_works (state_at old x) c (answer, to) w walks.listed)) walks.branch
reacts_doubts old new t x c (Err refusal) to answer w works refused = same_doubts old new refused.1

by_state_any : (R : Type 0) (s : BranchState) (Unknown Off : Type 0) (DoesCall : Bool → Type 0)
    → (Unknown → R) → ((lost : Bool) → DoesCall lost → R) → (Off → R) → ByState s Unknown DoesCall Off → R
by_state_any R S0 Unknown Off DoesCall u d o h = u h
by_state_any R S1 Unknown Off DoesCall u d o h = d false h
by_state_any R S2 Unknown Off DoesCall u d o h = d false h
by_state_any R S3 Unknown Off DoesCall u d o h = o h
by_state_any R S4 Unknown Off DoesCall u d o h = d true h
by_state_any R S5 Unknown Off DoesCall u d o h = o h

resumed_works : (lost : Bool) → doubt_of (resumed lost) ≡ S0
resumed_works true = refl
resumed_works false = refl

left_works : (lost active : Bool) → doubt_of (left_by lost active) ≡ S0
left_works true active = refl
left_works false true = refl
left_works false false = refl

does_doubts : (wanted : Wanted) (old new : States) (c : Call) (t : ℕ) (x : Xid) (answer : Code)
    → is_work c ≡ true → DoesCall wanted old new c t x answer → SameDoubts old new
does_doubts wanted old new call.Start t x answer w h =
    reacts_doubts old new t x call.Start _ S1 answer refl refl h
does_doubts wanted old new call.StartJoin t x answer w h =
    reacts_doubts old new t x call.StartJoin _ S1 answer refl refl h
does_doubts wanted old new call.StartResume t x answer w h =
    by_state_any (SameDoubts old new) (state_at old x) _ _ _ (λ u. same_doubts old new u.1)
    (λ lost r. reacts_doubts old new t x call.StartResume _ (resumed lost) answer refl (resumed_works lost) r)
    (λ o. same_doubts old new o.1) h
does_doubts wanted old new call.EndSuspend t x answer w h =
    by_state_any (SameDoubts old new) (state_at old x) _ _ _ (λ u. same_doubts old new u.1)
    (λ lost r. reacts_doubts old new t x call.EndSuspend _ (left_state new x lost) answer refl
    (left_works lost _) r) (λ o. same_doubts old new o.1) h
does_doubts wanted old new call.EndMigrate t x answer w h =
    by_state_any (SameDoubts old new) (state_at old x) _ _ _ (λ u. same_doubts old new u.1)
    (λ lost r. reacts_doubts old new t x call.EndMigrate _ (left_state new x lost) answer refl
    (left_works lost _) r) (λ o. same_doubts old new o.1) h
does_doubts wanted old new call.EndSuccess t x answer w h =
    by_state_any (SameDoubts old new) (state_at old x) _ _ _ (λ u. same_doubts old new u.1)
    (λ lost r. reacts_doubts old new t x call.EndSuccess _ _ answer refl (left_works _ _) r)
    (λ o. same_doubts old new o.1) h
does_doubts wanted old new call.EndFail t x answer w h =
    by_state_any (SameDoubts old new) (state_at old x) _ _ _ (λ u. same_doubts old new u.1)
    (λ lost r. reacts_doubts old new t x call.EndFail _ _ answer refl (left_works _ _) r)
    (λ o. same_doubts old new o.1) h
does_doubts wanted old new _ t x answer w h = absurd cc

checked_doubts : (wanted : Wanted) (old new : States) (c : Call) (t : ℕ) (x : Xid) (answer : Code)
    → is_work c ≡ true → Checked wanted old new c t x answer → SameDoubts old new
checked_doubts wanted old new c t x answer w checked = by_init old.init refl
  where
    by_name : (b : Bool) → same x null_xid ≡ b → old.init ≡ R1 → SameDoubts old new
    by_name true e opened = same_doubts old new (checked.null opened (same_is x null_xid e)).1
    by_name false e opened =
        does_doubts wanted old new c t x answer w
        (checked.does opened (λ is. let never : false ≡ true = sym e
        ∙ ap (λ z. same z null_xid) is ∙ same_refl null_xid in absurd (cc)))

    by_init : (i : InitState) → old.init ≡ i → SameDoubts old new
    by_init R0 e = same_doubts old new (checked.closed e).1
    by_init R1 e = by_name (same x null_xid) refl e

-- a start or an end
pub works_doubts : (wanted : Wanted) (old new : States) (v : Verb) (t : ℕ) (x : Xid) (flags : ℕ)
    (answer : Code) → is_work_verb v ≡ true → AnswersCall wanted old new v t x flags answer
    → SameDoubts old new
works_doubts wanted old new v t x flags answer w answers = by_legal (legal v flags) refl answers
  where
    by_legal : (r : Result Call Code) → legal v flags ≡ r
        → MatchResult r (λ c. Checked wanted old new c t x answer)
        (λ refusal. RefusesCall old new answer refusal) → SameDoubts old new
    by_legal (Ok c) e h = checked_doubts wanted old new c t x answer (works_as v flags c e ∙ w) h
    by_legal (Err refusal) e h = same_doubts old new h.1

-- a scan
pub recovers_doubts : (old new : States) (t count flags : ℕ) (answer : Result (List Xid) Code)
    → Recovers old new t count flags answer → SameDoubts old new
recovers_doubts old new t count flags answer recovers = by_legal (legal verb.Recover flags) recovers
  where
    by_answer : (c : Call) (r : Result (List Xid) Code)
        → MatchResult r (λ given. ScansBranches old.branches new.branches t count c given
        × (new.associations ≡ old.associations) × (new.init ≡ old.init))
        (λ refusal. (scan_refusal old.branches.scans t c ≡ Some refusal) × SameStates old new)
        → SameDoubts old new
    by_answer c (Ok given) h = λ y. ap (λ bs. doubt_of (state_in bs y)) h.0.branches
    by_answer c (Err refusal) h = same_doubts old new h.1

    by_init : (c : Call) (i : InitState) → old.init ≡ i → Scanned old new t count c answer
        → SameDoubts old new
    by_init c R0 e h = same_doubts old new (h.closed e).1
    by_init c R1 e h = by_answer c answer (h.given e)

    by_legal : (r : Result Call Code)
        → MatchResult r (λ c. Scanned old new t count c answer)
        (λ refusal. (answer ≡ Err refusal) × SameStates old new) → SameDoubts old new
    by_legal (Ok c) h = by_init c old.init refl h
    by_legal (Err refusal) h = same_doubts old new h.1
