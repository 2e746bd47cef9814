-- The checks of a start or an end agree with what the manager does, state by state.
use Rattle.std.proofs.Common.{◌≡◌, Bool, true, false, not, List, [], ◌∷◌, Option, Some, None, Result, Ok, Err, refl}
use Rattle.std.specs.Prelude.{◌||◌, ◌&&◌, is_some, unwrap_or, IfOk, IfErr, if◌then◌else◌}
use Rattle.xa_codes.specs.declared.code.Code.{Code}
use Rattle.xa_words.specs.code
use Rattle.xa_tables.specs.Tables.{assoc_rows, branch_rows, is_spoiled}
use Rattle.xa_tables.specs.declared.call.Call.{Call}
use Rattle.xa_words.specs.call
use Rattle.xa_tables.specs.declared.states.AssocState.{AssocState}
use Rattle.xa_tables.specs.declared.states.AssocState.TheVariants.{T0, T1, T2, M}
use Rattle.xa_tables.specs.declared.states.BranchState.{BranchState}
use Rattle.xa_tables.specs.declared.states.BranchState.TheVariants.{S0, S1, S2, S3, S4, S5}
use Rattle.xa_assoc.specs.Associations.{AssocRow, row, own_part}
use Rattle.xa_assoc.specs.Reacting.{IsAtWork, end_call, suspend_call}
use Rattle.proof_xa.specs.Refusals.{first_of, naming_check, is_refusal}
use Rattle.xa_assoc.specs.Ready.{is_start, is_work, has_rows}

-- a branch that is known is in a state but S0
abbrev pub IsHere : BranchState → Type 0
IsHere S0 = ⊥
IsHere _ = Unit {0}

-- what is known of a branch and of a thread's associations with it, as far as the checks look
pub record Seen : Type 0 where
  pub state : Option BranchState
  pub busy : Bool
  pub active : Bool
  pub seat : Bool
  pub unmoved : Bool
  pub migrates : Bool
  pub spare : Bool
  pub room : Bool
  pub full : Bool
  pub held : Bool

abbrev pub own_by : Bool → Bool → AssocState
own_by active seat = if active then T1 else if seat then T2 else T0

abbrev pub out_by : Seen → Call → Bool
out_by s c =
    not (has_rows (branch_rows (unwrap_or s.state S0) c))
    || (if is_work c then (is_start c && s.busy) || not
    (has_rows (assoc_rows (own_by s.active s.seat) c) || (has_rows (assoc_rows M c) && not s.unmoved))
    else s.held)

abbrev pub limit_by : Seen → Call → Bool
limit_by s call.Start = s.full || not s.room
limit_by s call.StartJoin = not s.room
limit_by s call.StartResume = not (is_spoiled (unwrap_or s.state S0)) && not s.seat && not s.room
limit_by s call.EndMigrate = not (is_spoiled (unwrap_or s.state S0)) && s.migrates && not s.spare
limit_by s _ = false

abbrev pub checks_by : Seen → Call → List (Bool × Code)
checks_by s c = naming_check c (is_some s.state) ∷ (out_by s c, code.Proto) ∷ (limit_by s c, code.RmErr) ∷ []

-- the refusal of a plan
abbrev pub refusal_of : Result AssocRow Code → Option Code
refusal_of (Ok r) = None
refusal_of (Err e) = Some e

abbrev pub start_by : Seen → Result AssocRow Code
start_by s =
    if s.busy || s.seat then Err code.Proto
    else if s.room then row T0 code.Ok T1
    else Err code.RmErr

abbrev pub begin_by : Seen → Result AssocRow Code
begin_by s =
    if is_some s.state then Err code.DupId
    else if s.busy || s.seat then Err code.Proto
    else if s.full then Err code.RmErr
    else start_by s

abbrev pub resume_by : Seen → Bool → Result AssocRow Code
resume_by s lost =
    if s.busy then Err code.Proto
    else if s.seat then (if lost then row T2 code.RbRollback T0 else row T2 code.Ok T1)
    else if s.unmoved then Err code.Proto
    else if lost then row M code.RbRollback T0
    else if s.room then row M code.Ok T1
    else Err code.RmErr

abbrev pub suspend_by : Seen → Bool → Bool → Result AssocRow Code
suspend_by s lost migrate =
    if not s.active then Err code.Proto
    else if lost then row T1 code.RbRollback T0
    else if not migrate then row T1 code.Ok T2
    else if not s.migrates then row T1 code.NoMigrate T2
    else if s.spare then row T1 code.Ok M
    else Err code.RmErr

abbrev pub end_by : Seen → Bool → Bool → Result AssocRow Code
end_by s lost succeeds =
    let answer = if succeeds && not lost then code.Ok else code.RbRollback in
    if s.active then row T1 answer T0
    else if s.seat then row T2 answer T0
    else Err code.Proto

-- a plan does what the checks say: the first that applies refuses it, and else its row leaves the thread's
-- own state
pub record Agrees (s : Seen) (c : Call) (plan : Result AssocRow Code) : Type 0 where
  pub first : first_of (checks_by s c) ≡ refusal_of plan
  pub leaves : IfOk plan (λ r. own_part r.0 ≡ own_by s.active s.seat)
  pub refuses : IfErr plan (λ e. is_refusal e ≡ true)
  pub answers : IfOk plan (λ r. is_refusal r.1 ≡ false)

abbrev seen : Option BranchState → Bool → Bool → Bool → Bool → Bool → Bool → Bool → Bool → Bool → Seen
seen state busy active seat unmoved migrates spare room full held =
    record {
      state = state;
      busy = busy;
      active = active;
      seat = seat;
      unmoved = unmoved;
      migrates = migrates;
      spare = spare;
      room = room;
      full = full;
      held = held;
    }

pub begins : (o : Option BranchState) (busy active seat unmoved migrates spare room full held : Bool)
    → (busy ≡ false → active ≡ false)
    → Agrees (seen o busy active seat unmoved migrates spare room full held) call.Start
    (begin_by (seen o busy active seat unmoved migrates spare room full held))
begins (Some s) busy active seat u m p room full held imp =
    record { first = refl; leaves = tt; refuses = refl; answers = tt }
begins None true active seat u m p room full held imp =
    record { first = refl; leaves = tt; refuses = refl; answers = tt }
begins None false true seat u m p room full held imp = absurd (let e = imp refl in cc)
begins None false false true u m p room full held imp =
    record { first = refl; leaves = tt; refuses = refl; answers = tt }
begins None false false false u m p room true held imp =
    record { first = refl; leaves = tt; refuses = refl; answers = tt }
begins None false false false u m p false false held imp =
    record { first = refl; leaves = tt; refuses = refl; answers = tt }
begins None false false false u m p true false held imp =
    record { first = refl; leaves = refl; refuses = tt; answers = refl }

pub joins : (s : BranchState) (busy active seat unmoved migrates spare room full held : Bool)
    → IsAtWork false s
    → (busy ≡ false → active ≡ false)
    → Agrees (seen (Some s) busy active seat unmoved migrates spare room full held) call.StartJoin
    (start_by (seen (Some s) busy active seat unmoved migrates spare room full held))
joins S0 busy active seat u m p room full held h imp = absurd h
joins S3 busy active seat u m p room full held h imp = absurd h
joins S4 busy active seat u m p room full held h imp = absurd h
joins S5 busy active seat u m p room full held h imp = absurd h
joins S1 true active seat u m p room full held h imp =
    record { first = refl; leaves = tt; refuses = refl; answers = tt }
joins S1 false true seat u m p room full held h imp = absurd (let e = imp refl in cc)
joins S1 false false true u m p room full held h imp =
    record { first = refl; leaves = tt; refuses = refl; answers = tt }
joins S1 false false false u m p true full held h imp =
    record { first = refl; leaves = refl; refuses = tt; answers = refl }
joins S1 false false false u m p false full held h imp =
    record { first = refl; leaves = tt; refuses = refl; answers = tt }
joins S2 true active seat u m p room full held h imp =
    record { first = refl; leaves = tt; refuses = refl; answers = tt }
joins S2 false true seat u m p room full held h imp = absurd (let e = imp refl in cc)
joins S2 false false true u m p room full held h imp =
    record { first = refl; leaves = tt; refuses = refl; answers = tt }
joins S2 false false false u m p true full held h imp =
    record { first = refl; leaves = refl; refuses = tt; answers = refl }
joins S2 false false false u m p false full held h imp =
    record { first = refl; leaves = tt; refuses = refl; answers = tt }

-- a branch at work, or lost, resumes
works_on : (s : BranchState) → IsAtWork false s
    → (busy active seat unmoved migrates spare room full held : Bool)
    → (busy ≡ false → active ≡ false)
    → Agrees (seen (Some s) busy active seat unmoved migrates spare room full held) call.StartResume
    (resume_by (seen (Some s) busy active seat unmoved migrates spare room full held) false)
works_on S0 h busy active seat u m p room full held imp = absurd h
works_on S3 h busy active seat u m p room full held imp = absurd h
works_on S4 h busy active seat u m p room full held imp = absurd h
works_on S5 h busy active seat u m p room full held imp = absurd h
works_on S1 h true active seat u m p room full held imp =
    record { first = refl; leaves = tt; refuses = refl; answers = tt }
works_on S1 h false true seat u m p room full held imp = absurd (let e = imp refl in cc)
works_on S1 h false false true u m p room full held imp =
    record { first = refl; leaves = refl; refuses = tt; answers = refl }
works_on S1 h false false false true m p room full held imp =
    record { first = refl; leaves = tt; refuses = refl; answers = tt }
works_on S1 h false false false false m p true full held imp =
    record { first = refl; leaves = refl; refuses = tt; answers = refl }
works_on S1 h false false false false m p false full held imp =
    record { first = refl; leaves = tt; refuses = refl; answers = tt }
works_on S2 h true active seat u m p room full held imp =
    record { first = refl; leaves = tt; refuses = refl; answers = tt }
works_on S2 h false true seat u m p room full held imp = absurd (let e = imp refl in cc)
works_on S2 h false false true u m p room full held imp =
    record { first = refl; leaves = refl; refuses = tt; answers = refl }
works_on S2 h false false false true m p room full held imp =
    record { first = refl; leaves = tt; refuses = refl; answers = tt }
works_on S2 h false false false false m p true full held imp =
    record { first = refl; leaves = refl; refuses = tt; answers = refl }
works_on S2 h false false false false m p false full held imp =
    record { first = refl; leaves = tt; refuses = refl; answers = tt }

lost_work : (busy active seat unmoved migrates spare room full held : Bool) → (busy ≡ false → active ≡ false)
    → Agrees (seen (Some S4) busy active seat unmoved migrates spare room full held) call.StartResume
    (resume_by (seen (Some S4) busy active seat unmoved migrates spare room full held) true)
lost_work true active seat u m p room full held imp =
    record { first = refl; leaves = tt; refuses = refl; answers = tt }
lost_work false true seat u m p room full held imp = absurd (let e = imp refl in cc)
lost_work false false true u m p room full held imp =
    record { first = refl; leaves = refl; refuses = tt; answers = refl }
lost_work false false false true m p room full held imp =
    record { first = refl; leaves = tt; refuses = refl; answers = tt }
lost_work false false false false m p room full held imp =
    record { first = refl; leaves = refl; refuses = tt; answers = refl }

pub resumes : (lost : Bool) (s : BranchState) → IsAtWork lost s
    → (busy active seat unmoved migrates spare room full held : Bool) → (busy ≡ false → active ≡ false)
    → Agrees (seen (Some s) busy active seat unmoved migrates spare room full held) call.StartResume
    (resume_by (seen (Some s) busy active seat unmoved migrates spare room full held) lost)
resumes true S4 h busy active seat u m p room full held imp =
    lost_work busy active seat u m p room full held imp
resumes true S0 h busy active seat u m p room full held imp = absurd h
resumes true S1 h busy active seat u m p room full held imp = absurd h
resumes true S2 h busy active seat u m p room full held imp = absurd h
resumes true S3 h busy active seat u m p room full held imp = absurd h
resumes true S5 h busy active seat u m p room full held imp = absurd h
resumes false s h busy active seat u m p room full held imp =
    works_on s h busy active seat u m p room full held imp

-- a suspension, by whether the work is lost
pub suspends : (lost migrate : Bool) (s : BranchState) → IsAtWork lost s
    → (busy active seat unmoved migrates spare room full held : Bool)
    → Agrees (seen (Some s) busy active seat unmoved migrates spare room full held) (suspend_call migrate)
    (suspend_by (seen (Some s) busy active seat unmoved migrates spare room full held) lost migrate)
suspends true migrate S0 h b active seat u m p room full held = absurd h
suspends true migrate S1 h b active seat u m p room full held = absurd h
suspends true migrate S2 h b active seat u m p room full held = absurd h
suspends true migrate S3 h b active seat u m p room full held = absurd h
suspends true migrate S5 h b active seat u m p room full held = absurd h
suspends false migrate S0 h b active seat u m p room full held = absurd h
suspends false migrate S3 h b active seat u m p room full held = absurd h
suspends false migrate S4 h b active seat u m p room full held = absurd h
suspends false migrate S5 h b active seat u m p room full held = absurd h
suspends true true S4 h b true seat u m p room full held =
    record { first = refl; leaves = refl; refuses = tt; answers = refl }
suspends true false S4 h b true seat u m p room full held =
    record { first = refl; leaves = refl; refuses = tt; answers = refl }
suspends true true S4 h b false true u m p room full held =
    record { first = refl; leaves = tt; refuses = refl; answers = tt }
suspends true false S4 h b false true u m p room full held =
    record { first = refl; leaves = tt; refuses = refl; answers = tt }
suspends true true S4 h b false false u m p room full held =
    record { first = refl; leaves = tt; refuses = refl; answers = tt }
suspends true false S4 h b false false u m p room full held =
    record { first = refl; leaves = tt; refuses = refl; answers = tt }
suspends false false S1 h b true seat u m p room full held =
    record { first = refl; leaves = refl; refuses = tt; answers = refl }
suspends false false S2 h b true seat u m p room full held =
    record { first = refl; leaves = refl; refuses = tt; answers = refl }
suspends false true S1 h b true seat u false p room full held =
    record { first = refl; leaves = refl; refuses = tt; answers = refl }
suspends false true S2 h b true seat u false p room full held =
    record { first = refl; leaves = refl; refuses = tt; answers = refl }
suspends false true S1 h b true seat u true true room full held =
    record { first = refl; leaves = refl; refuses = tt; answers = refl }
suspends false true S2 h b true seat u true true room full held =
    record { first = refl; leaves = refl; refuses = tt; answers = refl }
suspends false true S1 h b true seat u true false room full held =
    record { first = refl; leaves = tt; refuses = refl; answers = tt }
suspends false true S2 h b true seat u true false room full held =
    record { first = refl; leaves = tt; refuses = refl; answers = tt }
suspends false true S1 h b false true u m p room full held =
    record { first = refl; leaves = tt; refuses = refl; answers = tt }
suspends false true S2 h b false true u m p room full held =
    record { first = refl; leaves = tt; refuses = refl; answers = tt }
suspends false true S1 h b false false u m p room full held =
    record { first = refl; leaves = tt; refuses = refl; answers = tt }
suspends false true S2 h b false false u m p room full held =
    record { first = refl; leaves = tt; refuses = refl; answers = tt }
suspends false false S1 h b false true u m p room full held =
    record { first = refl; leaves = tt; refuses = refl; answers = tt }
suspends false false S2 h b false true u m p room full held =
    record { first = refl; leaves = tt; refuses = refl; answers = tt }
suspends false false S1 h b false false u m p room full held =
    record { first = refl; leaves = tt; refuses = refl; answers = tt }
suspends false false S2 h b false false u m p room full held =
    record { first = refl; leaves = tt; refuses = refl; answers = tt }

done_well : (lost succeeds : Bool) → is_refusal
    (if succeeds && not lost then code.Ok else code.RbRollback) ≡ false
done_well true true = refl
done_well true false = refl
done_well false true = refl
done_well false false = refl

-- an end, by whether the work is lost
pub ends : (lost succeeds : Bool) (s : BranchState) → IsAtWork lost s
    → (busy active seat unmoved migrates spare room full held : Bool)
    → Agrees (seen (Some s) busy active seat unmoved migrates spare room full held) (end_call succeeds)
    (end_by (seen (Some s) busy active seat unmoved migrates spare room full held) lost succeeds)
ends true succeeds S0 h b active seat u m p room full held = absurd h
ends true succeeds S1 h b active seat u m p room full held = absurd h
ends true succeeds S2 h b active seat u m p room full held = absurd h
ends true succeeds S3 h b active seat u m p room full held = absurd h
ends true succeeds S5 h b active seat u m p room full held = absurd h
ends false succeeds S0 h b active seat u m p room full held = absurd h
ends false succeeds S3 h b active seat u m p room full held = absurd h
ends false succeeds S4 h b active seat u m p room full held = absurd h
ends false succeeds S5 h b active seat u m p room full held = absurd h
ends true true S4 h b true seat u m p room full held =
    record { first = refl; leaves = refl; refuses = tt; answers = done_well true true }
ends true false S4 h b true seat u m p room full held =
    record { first = refl; leaves = refl; refuses = tt; answers = done_well true false }
ends true true S4 h b false true u m p room full held =
    record { first = refl; leaves = refl; refuses = tt; answers = done_well true true }
ends true false S4 h b false true u m p room full held =
    record { first = refl; leaves = refl; refuses = tt; answers = done_well true false }
ends true true S4 h b false false u m p room full held =
    record { first = refl; leaves = tt; refuses = refl; answers = tt }
ends true false S4 h b false false u m p room full held =
    record { first = refl; leaves = tt; refuses = refl; answers = tt }
ends false true S1 h b true seat u m p room full held =
    record { first = refl; leaves = refl; refuses = tt; answers = done_well false true }
ends false false S1 h b true seat u m p room full held =
    record { first = refl; leaves = refl; refuses = tt; answers = done_well false false }
ends false true S1 h b false true u m p room full held =
    record { first = refl; leaves = refl; refuses = tt; answers = done_well false true }
ends false false S1 h b false true u m p room full held =
    record { first = refl; leaves = refl; refuses = tt; answers = done_well false false }
ends false true S1 h b false false u m p room full held =
    record { first = refl; leaves = tt; refuses = refl; answers = tt }
ends false false S1 h b false false u m p room full held =
    record { first = refl; leaves = tt; refuses = refl; answers = tt }
ends false true S2 h b true seat u m p room full held =
    record { first = refl; leaves = refl; refuses = tt; answers = done_well false true }
ends false false S2 h b true seat u m p room full held =
    record { first = refl; leaves = refl; refuses = tt; answers = done_well false false }
ends false true S2 h b false true u m p room full held =
    record { first = refl; leaves = refl; refuses = tt; answers = done_well false true }
ends false false S2 h b false true u m p room full held =
    record { first = refl; leaves = refl; refuses = tt; answers = done_well false false }
ends false true S2 h b false false u m p room full held =
    record { first = refl; leaves = tt; refuses = refl; answers = tt }
ends false false S2 h b false false u m p room full held =
    record { first = refl; leaves = tt; refuses = refl; answers = tt }
