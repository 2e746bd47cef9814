-- What comes of a call on a branch of an open manager: it is refused, it works on an association, or it
-- finishes the branch.
use Rattle.std.proofs.Common.{◌≡◌, ℕ, ◌-◌, ◌^◌, Bool, true, false, not, List, [], ◌∷◌, length, Option, Some, None, Result, Ok, Err, inl, inr, refl, ap, sym, subst, ◌∙◌, arith, rules}
use Rattle.std.specs.List.{list_all}
use Rattle.std.proofs.lemmas.List.Elements.{All-contains}
use Rattle.std.proofs.lemmas.List.Sums.{AllPass-from_list_all}
use Rattle.std.specs.Prelude.{◌⊎◌, IsTrue, ◌||◌, ◌==◌, is_some, unwrap_or, nat_le, nat_lt, Contains, if◌then◌else◌}
use Rattle.std.specs.Map.{lookup}
use Rattle.std.specs.Option.{option_map_or}
use Rattle.xa_codes.specs.declared.code.Code.{Code}
use Rattle.xa_codes.specs.declared.code.Code.TheVariants as code
use Rattle.xa_tables.specs.Tables.{assoc_rows, branch_rows}
use Rattle.xa_tables.specs.declared.call.Call.{Call}
use Rattle.xa_words.specs.call
use Rattle.xa_tables.specs.declared.states.AssocState.{AssocState}
use Rattle.xa_tables.specs.declared.states.BranchState.{BranchState}
use Rattle.xa_tables.specs.declared.states.BranchState.TheVariants.{S0, S1, S2, S3, S4, S5}
use Rattle.xa_xid.specs.declared.xid.Xid.{Xid}
use Rattle.xa_assoc.specs.Names.{same}
use Rattle.xa_assoc.specs.Associations.{AssocList, IsRowOf, AssocMoves, AssocRow, active_of, end_plan, has_room, has_seat, is_active, moved_of, own_part, own_state, resume_plan, start_plan, suspend_plan}
use Rattle.xa_branch.specs.Branches.{BranchMoves, is_known}
use Rattle.xa_assoc.specs.declared.states.States.{States}
use Rattle.xa_assoc.specs.Answers.{ByState, DoesCall, TablesFinish, ReactsByRows, RefusesCall, SameStates, is_held, left_state, start_reaction, state_at, Wanted}
use Rattle.xa_assoc.specs.Reacting.{by_state, end_call, resumed, suspend_call}
use Rattle.proof_xa.specs.Moves.{FitsRows}
use Rattle.proof_xa.specs.Refusals.{first_of, is_at_limit, is_out_of_state, is_refusal, naming_check, state_checks}
use Rattle.xa_assoc.specs.Ready.{has_rows, is_work}
use Rattle.xa_assoc.proofs.Finishing.{off_is}
use Rattle.proof_xa.proofs.Plans.{Agrees, Seen, begins, checks_by, ends, joins, own_by, resumes, suspends}
use Rattle.proof_xa.proofs.Reached.{IsHereOr, IsReached, here_at}

pub record Stands (old new : States) (t : ℕ) (x : Xid) (c : Call) (answer : Code) : Type 0 where
  pub code : Code
  pub first : first_of (state_checks old c t x) ≡ Some code
  pub refuses : is_refusal code ≡ true
  pub answers : answer ≡ code
  pub same : SameStates old new

pub record Works (old new : States) (t : ℕ) (x : Xid) (c : Call) (answer : Code) : Type 0 where
  pub from : AssocState
  pub to : AssocState
  pub state : BranchState
  pub first : first_of (state_checks old c t x) ≡ None
  pub answers : is_refusal answer ≡ false
  pub work : is_work c ≡ true
  pub row : Contains (assoc_rows from c) (answer, to)
  pub leaves : own_part from ≡ own_state old.associations t x
  pub association : AssocMoves old.associations new.associations t x from to
  pub listed : Contains (branch_rows (state_at old x) c) (answer, state)
  pub branch : BranchMoves old.branches new.branches x state
  pub init : new.init ≡ old.init

pub record Finished (old new : States) (t : ℕ) (x : Xid) (c : Call) (answer : Code) : Type 0 where
  pub state : BranchState
  pub first : first_of (state_checks old c t x) ≡ None
  pub answers : is_refusal answer ≡ false
  pub work : is_work c ≡ false
  pub listed : Contains (branch_rows (state_at old x) c) (answer, state)
  pub branch : BranchMoves old.branches new.branches x state
  pub associations : new.associations ≡ old.associations
  pub init : new.init ≡ old.init

abbrev pub Outcome : States → States → ℕ → Xid → Call → Code → Type 0
Outcome old new t x c answer = Stands old new t x c answer ⊎
    (Works old new t x c answer ⊎ Finished old new t x c answer)

abbrev state_of : States → Xid → Option BranchState
state_of m x = lookup (same x) m.branches.branches

abbrev seen_by : States → ℕ → Xid → Option BranchState → Seen
seen_by m t x o = record {
  state = o;
  busy = is_some (active_of m.associations t);
  active = is_active m.associations t x;
  seat = has_seat m.associations t x;
  unmoved = moved_of m.associations x == 0;
  migrates = m.associations.migrates;
  spare = nat_lt (moved_of m.associations x) (2 ^ 64 - 1);
  room = has_room m.associations t;
  full = nat_le 1024 (length m.branches.branches);
  held = is_held m.associations x;
}

active_by : (o : Option Xid) (x : Xid) → is_some o ≡ false → option_map_or (λ y. same y x) o false ≡ false
active_by None x e = refl
active_by (Some y) x e = absurd cc

idle : (m : States) (t : ℕ) (x : Xid) → is_some (active_of m.associations t) ≡ false
    → is_active m.associations t x ≡ false
idle m t x e = active_by (active_of m.associations t) x e

stands : (old new : States) (t : ℕ) (x : Xid) (c : Call) (code answer : Code)
    → first_of (state_checks old c t x) ≡ Some code → is_refusal code ≡ true → RefusesCall old new answer code
    → Outcome old new t x c answer
stands old new t x c code answer first refuses h =
    inl (record { code = code; first = first; refuses = refuses; answers = h.0; same = h.1 })

reacted : (old new : States) (t : ℕ) (x : Xid) (c : Call) (plan : Result AssocRow Code)
    (to : BranchState) (answer : Code) (s : Seen)
    → first_of (state_checks old c t x) ≡ first_of (checks_by s c)
    → own_by s.active s.seat ≡ own_state old.associations t x
    → Agrees s c plan → IsRowOf c plan → is_work c ≡ true → ReactsByRows old new t x c plan to answer
    → Outcome old new t x c answer
reacted old new t x c (Ok r) to answer s same own agrees rows work w = inr (inl (record {
  from = r.0;
  to = r.2;
  state = to;
  first = same ∙ agrees.first;
  answers = ap is_refusal w.answers ∙ agrees.answers;
  work = work;
  row = subst (λ (a : Code). Contains (assoc_rows r.0 c) (a, r.2)) (sym w.answers) rows;
  leaves = agrees.leaves ∙ own;
  association = w.association;
  listed = w.listed;
  branch = w.branch;
  init = w.init;
}))
reacted old new t x c (Err e) to answer s same own agrees rows work w =
    stands old new t x c e answer (same ∙ agrees.first) agrees.refuses w

begin_row : (m : States) (t : ℕ) (x : Xid) → IsRowOf call.Start (start_reaction m t x)
begin_row m t x = search rules

join_row : (a : AssocList) (t : ℕ) (x : Xid) → IsRowOf call.StartJoin (start_plan a t x)
join_row a t x = search rules

resume_row : (a : AssocList) (t : ℕ) (x : Xid) (lost : Bool)
    → IsRowOf call.StartResume (resume_plan a t x lost)
resume_row a t x lost = search rules

suspend_row : (a : AssocList) (t : ℕ) (x : Xid) (lost migrate : Bool)
    → IsRowOf (suspend_call migrate) (suspend_plan a t x lost migrate)
suspend_row a t x lost migrate = search rules

end_row : (a : AssocList) (t : ℕ) (x : Xid) (lost succeeds : Bool)
    → IsRowOf (end_call succeeds) (end_plan a t x lost succeeds)
end_row a t x lost succeeds = search rules

pub start_out : (wanted : Wanted) (old new : States) (t : ℕ) (x : Xid) (answer : Code)
    → DoesCall wanted old new call.Start t x answer → Outcome old new t x call.Start answer
start_out wanted old new t x answer h =
    let s = seen_by old t x (state_of old x) in
    reacted old new t x call.Start (start_reaction old t x) S1 answer s refl refl
    (begins s.state s.busy s.active s.seat s.unmoved s.migrates s.spare s.room s.full s.held
    (idle old t x)) (begin_row old t x) refl h

join_by : (old new : States) (t : ℕ) (x : Xid) (answer : Code) (o : Option BranchState)
    → state_of old x ≡ o → IsHereOr o
    → ReactsByRows old new t x call.StartJoin (by_state (unwrap_or o S0) (start_plan old.associations t x)
    (Err code.Proto)) S1 answer → Outcome old new t x call.StartJoin answer
join_by old new t x answer None is w h =
    stands old new t x call.StartJoin code.NotA answer
    (ap (λ q. first_of (checks_by (seen_by old t x q) call.StartJoin)) is) refl h
join_by old new t x answer (Some S4) is w h =
    stands old new t x call.StartJoin code.Proto answer
    (ap (λ q. first_of (checks_by (seen_by old t x q) call.StartJoin)) is) refl h
join_by old new t x answer (Some S1) is w h =
    let s = seen_by old t x (Some S1) in
    reacted old new t x call.StartJoin (start_plan old.associations t x) S1 answer s
    (ap (λ q. first_of (checks_by (seen_by old t x q) call.StartJoin)) is) refl
    (joins S1 s.busy s.active s.seat s.unmoved s.migrates s.spare s.room s.full s.held tt (idle old t x))
    (join_row old.associations t x) refl h
join_by old new t x answer (Some S2) is w h =
    let s = seen_by old t x (Some S2) in
    reacted old new t x call.StartJoin (start_plan old.associations t x) S1 answer s
    (ap (λ q. first_of (checks_by (seen_by old t x q) call.StartJoin)) is) refl
    (joins S2 s.busy s.active s.seat s.unmoved s.migrates s.spare s.room s.full s.held tt (idle old t x))
    (join_row old.associations t x) refl h
join_by old new t x answer (Some S3) is w h =
    stands old new t x call.StartJoin code.Proto answer
    (ap (λ q. first_of (checks_by (seen_by old t x q) call.StartJoin)) is) refl h
join_by old new t x answer (Some S5) is w h =
    stands old new t x call.StartJoin code.Proto answer
    (ap (λ q. first_of (checks_by (seen_by old t x q) call.StartJoin)) is) refl h
join_by old new t x answer (Some S0) is w h = absurd w

pub join_out : (wanted : Wanted) (old new : States) (t : ℕ) (x : Xid) (answer : Code) → IsReached old
    → DoesCall wanted old new call.StartJoin t x answer → Outcome old new t x call.StartJoin answer
join_out wanted old new t x answer ok h = join_by old new t x answer (state_of old x) refl
    (here_at old.branches.branches x ok.states) h

-- what a call does that works on a branch, or is lost with it
abbrev OnWork : States → States → ℕ → Xid → Call → (Bool → Result AssocRow Code)
    → (Bool → BranchState) → Code → Bool → Type 0
OnWork old new t x c plan to answer lost = ReactsByRows old new t x c (plan lost) (to lost) answer

by_work : (old new : States) (t : ℕ) (x : Xid) (c : Call) (plan : Bool → Result AssocRow Code)
    (to : Bool → BranchState) (answer : Code) (o : Option BranchState)
    → ((q : Option BranchState) → state_of old x ≡ q
    → first_of (state_checks old c t x) ≡ first_of (checks_by (seen_by old t x q) c))
    → state_of old x ≡ o → IsHereOr o → first_of (checks_by (seen_by old t x None) c) ≡ Some code.NotA
    → first_of (checks_by (seen_by old t x (Some S3)) c) ≡ Some code.Proto
    → first_of (checks_by (seen_by old t x (Some S5)) c) ≡ Some code.Proto
    → Agrees (seen_by old t x (Some S1)) c (plan false) → Agrees (seen_by old t x (Some S2)) c (plan false)
    → Agrees (seen_by old t x (Some S4)) c (plan true)
    → ((lost : Bool) → IsRowOf c (plan lost)) → is_work c ≡ true
    → ByState (unwrap_or o S0) (RefusesCall old new answer code.NotA) (OnWork old new t x c plan to answer)
    (RefusesCall old new answer code.Proto)
    → Outcome old new t x c answer
by_work old new t x c plan to answer None at is w none three five one two four rows work h =
    stands old new t x c code.NotA answer (at None is ∙ none) refl h
by_work old new t x c plan to answer (Some S1) at is w none three five one two four rows work h =
    reacted old new t x c (plan false) (to false) answer (seen_by old t x (Some S1)) (at (Some S1) is)
    refl one (rows false) work h
by_work old new t x c plan to answer (Some S2) at is w none three five one two four rows work h =
    reacted old new t x c (plan false) (to false) answer (seen_by old t x (Some S2)) (at (Some S2) is)
    refl two (rows false) work h
by_work old new t x c plan to answer (Some S4) at is w none three five one two four rows work h =
    reacted old new t x c (plan true) (to true) answer (seen_by old t x (Some S4)) (at (Some S4) is)
    refl four (rows true) work h
by_work old new t x c plan to answer (Some S3) at is w none three five one two four rows work h =
    stands old new t x c code.Proto answer (at (Some S3) is ∙ three) refl h
by_work old new t x c plan to answer (Some S5) at is w none three five one two four rows work h =
    stands old new t x c code.Proto answer (at (Some S5) is ∙ five) refl h
by_work old new t x c plan to answer (Some S0) at is w none three five one two four rows work h = absurd w

pub resume_out : (wanted : Wanted) (old new : States) (t : ℕ) (x : Xid) (answer : Code) → IsReached old
    → DoesCall wanted old new call.StartResume t x answer → Outcome old new t x call.StartResume answer
resume_out wanted old new t x answer ok h =
    let s = seen_by old t x None in
    by_work old new t x call.StartResume (λ lost. resume_plan old.associations t x lost)
    resumed answer (state_of old x)
    (λ q is. ap (λ p. first_of (checks_by (seen_by old t x p) call.StartResume)) is) refl
    (here_at old.branches.branches x ok.states) refl refl refl
    (resumes false S1 tt s.busy s.active s.seat s.unmoved s.migrates s.spare s.room
    s.full s.held (idle old t x))
    (resumes false S2 tt s.busy s.active s.seat s.unmoved s.migrates s.spare s.room
    s.full s.held (idle old t x))
    (resumes true S4 tt s.busy s.active s.seat s.unmoved s.migrates s.spare s.room
    s.full s.held (idle old t x))
    (resume_row old.associations t x) refl h

pub suspend_out : (wanted : Wanted) (old new : States) (t : ℕ) (x : Xid) (answer : Code) → IsReached old
    → DoesCall wanted old new call.EndSuspend t x answer → Outcome old new t x call.EndSuspend answer
suspend_out wanted old new t x answer ok h =
    let s = seen_by old t x None in
    by_work old new t x call.EndSuspend (λ lost. suspend_plan old.associations t x lost false)
    (λ lost. left_state new x lost) answer (state_of old x)
    (λ q is. ap (λ p. first_of (checks_by (seen_by old t x p) call.EndSuspend)) is) refl
    (here_at old.branches.branches x ok.states) refl refl refl
    (suspends false false S1 tt s.busy s.active s.seat s.unmoved s.migrates s.spare s.room s.full s.held)
    (suspends false false S2 tt s.busy s.active s.seat s.unmoved s.migrates s.spare s.room s.full s.held)
    (suspends true false S4 tt s.busy s.active s.seat s.unmoved s.migrates s.spare s.room s.full s.held)
    (λ lost. suspend_row old.associations t x lost false) refl h

pub migrate_out : (wanted : Wanted) (old new : States) (t : ℕ) (x : Xid) (answer : Code) → IsReached old
    → DoesCall wanted old new call.EndMigrate t x answer → Outcome old new t x call.EndMigrate answer
migrate_out wanted old new t x answer ok h =
    let s = seen_by old t x None in
    by_work old new t x call.EndMigrate (λ lost. suspend_plan old.associations t x lost true)
    (λ lost. left_state new x lost) answer (state_of old x)
    (λ q is. ap (λ p. first_of (checks_by (seen_by old t x p) call.EndMigrate)) is) refl
    (here_at old.branches.branches x ok.states) refl refl refl
    (suspends false true S1 tt s.busy s.active s.seat s.unmoved s.migrates s.spare s.room s.full s.held)
    (suspends false true S2 tt s.busy s.active s.seat s.unmoved s.migrates s.spare s.room s.full s.held)
    (suspends true true S4 tt s.busy s.active s.seat s.unmoved s.migrates s.spare s.room s.full s.held)
    (λ lost. suspend_row old.associations t x lost true) refl h

pub success_out : (wanted : Wanted) (old new : States) (t : ℕ) (x : Xid) (answer : Code) → IsReached old
    → DoesCall wanted old new call.EndSuccess t x answer → Outcome old new t x call.EndSuccess answer
success_out wanted old new t x answer ok h =
    let s = seen_by old t x None in
    by_work old new t x call.EndSuccess (λ lost. end_plan old.associations t x lost true)
    (λ lost. left_state new x (lost || false)) answer (state_of old x)
    (λ q is. ap (λ p. first_of (checks_by (seen_by old t x p) call.EndSuccess)) is) refl
    (here_at old.branches.branches x ok.states) refl refl refl
    (ends false true S1 tt s.busy s.active s.seat s.unmoved s.migrates s.spare s.room s.full s.held)
    (ends false true S2 tt s.busy s.active s.seat s.unmoved s.migrates s.spare s.room s.full s.held)
    (ends true true S4 tt s.busy s.active s.seat s.unmoved s.migrates s.spare s.room s.full s.held)
    (λ lost. end_row old.associations t x lost true) refl h

pub fail_out : (wanted : Wanted) (old new : States) (t : ℕ) (x : Xid) (answer : Code) → IsReached old
    → DoesCall wanted old new call.EndFail t x answer → Outcome old new t x call.EndFail answer
fail_out wanted old new t x answer ok h =
    let s = seen_by old t x None in
    by_work old new t x call.EndFail (λ lost. end_plan old.associations t x lost false)
    (λ lost. left_state new x (lost || true)) answer (state_of old x)
    (λ q is. ap (λ p. first_of (checks_by (seen_by old t x p) call.EndFail)) is) refl
    (here_at old.branches.branches x ok.states) refl refl refl
    (ends false false S1 tt s.busy s.active s.seat s.unmoved s.migrates s.spare s.room s.full s.held)
    (ends false false S2 tt s.busy s.active s.seat s.unmoved s.migrates s.spare s.room s.full s.held)
    (ends true false S4 tt s.busy s.active s.seat s.unmoved s.migrates s.spare s.room s.full s.held)
    (λ lost. end_row old.associations t x lost false) refl h

-- A prepare, commit, rollback or forget.

abbrev plain_first : Bool → Bool → Option Code
plain_first known out = if not known then Some code.NotA else if out then Some code.Proto else None

plain_is : (known out : Bool) → first_of ((not known, code.NotA) ∷ (out, code.Proto) ∷ (false, code.RmErr)
    ∷ []) ≡ plain_first known out
plain_is true true = refl
plain_is true false = refl
plain_is false out = refl

plain_checks : (m : States) (c : Call) (t : ℕ) (x : Xid) (known out : Bool) → is_work c ≡ false
    → first_of (naming_check c known ∷ (out, code.Proto) ∷ (is_at_limit m c t x, code.RmErr)
    ∷ []) ≡ plain_first known out
plain_checks m call.Start t x known out w = absurd cc
plain_checks m call.StartJoin t x known out w = absurd cc
plain_checks m call.StartResume t x known out w = absurd cc
plain_checks m call.EndSuspend t x known out w = absurd cc
plain_checks m call.EndMigrate t x known out w = absurd cc
plain_checks m call.EndSuccess t x known out w = absurd cc
plain_checks m call.EndFail t x known out w = absurd cc
plain_checks m call.Open t x known out w = plain_is known out
plain_checks m call.Close t x known out w = plain_is known out
plain_checks m call.Prepare t x known out w = plain_is known out
plain_checks m call.Commit t x known out w = plain_is known out
plain_checks m call.CommitOnePhase t x known out w = plain_is known out
plain_checks m call.Rollback t x known out w = plain_is known out
plain_checks m call.Forget t x known out w = plain_is known out
plain_checks m call.Recover t x known out w = plain_is known out
plain_checks m call.RecoverStart t x known out w = plain_is known out
plain_checks m call.RecoverEnd t x known out w = plain_is known out
plain_checks m call.RecoverWhole t x known out w = plain_is known out

-- What is in the table is no refusal.

abbrev is_answered : List (Code × BranchState) → Bool
is_answered rows = list_all (λ row. not (is_refusal row.0)) rows

rows_answered : (s : BranchState) (c : Call) → is_answered (branch_rows s c) ≡ true
rows_answered S0 call.Start = refl
rows_answered S0 _ = refl
rows_answered S1 call.Start = refl
rows_answered S1 _ = refl
rows_answered S2 call.Start = refl
rows_answered S2 _ = refl
rows_answered S3 call.Start = refl
rows_answered S3 _ = refl
rows_answered S4 call.Start = refl
rows_answered S4 _ = refl
rows_answered S5 call.Start = refl
rows_answered S5 _ = refl

not_refused : (b : Bool) → IsTrue (not b) → b ≡ false
not_refused true h = absurd cc
not_refused false h = refl

row_answers : (s : BranchState) (c : Call) (row : Code × BranchState)
    → Contains (branch_rows s c) row → is_refusal row.0 ≡ false
row_answers s c row listed =
    not_refused (is_refusal row.0)
    (All-contains (λ (r : Code × BranchState). IsTrue (not (is_refusal r.0))) (branch_rows s c) row
    (AllPass-from_list_all (λ (r : Code × BranchState). not (is_refusal r.0)) (branch_rows s c)
    (rows_answered s c)) listed)

or_true : (b : Bool) → (b || true) ≡ true
or_true true = refl
or_true false = refl

out_is : (m : States) (c : Call) (t : ℕ) (x : Xid) → is_work c ≡ false
    → is_out_of_state m c t x ≡ (not (has_rows (branch_rows (state_at m x) c)) || is_held m.associations x)
out_is m c t x w = rw w refl

no_rows : (rows : List (Code × BranchState)) (row : Code × BranchState)
    → has_rows rows ≡ false → Contains rows row → ⊥
no_rows [] row e h = absurd (let lt = h.1 in omega arith)
no_rows (r ∷ rows) row e h = absurd cc

-- the first check of a call that finishes a known branch
known_first : (m : States) (c : Call) (t : ℕ) (x : Xid) (has held : Bool) → is_work c ≡ false
    → is_known m.branches.branches x ≡ true → has_rows (branch_rows (state_at m x) c) ≡ has
    → is_held m.associations x ≡ held
    → first_of (state_checks m c t x) ≡ plain_first true (not has || held)
known_first m c t x has held w known rows is =
    plain_checks m c t x (is_known m.branches.branches x) (is_out_of_state m c t x) w
    ∙ ap (λ k. plain_first k (is_out_of_state m c t x)) known
    ∙ ap (λ b. plain_first true b) (out_is m c t x w)
    ∙ ap (λ b. plain_first true (not b || is_held m.associations x)) rows
    ∙ ap (λ b. plain_first true (not has || b)) is

finish_known : (wanted : Wanted) (old new : States) (t : ℕ) (x : Xid) (c : Call) (answer : Code)
    (has held : Bool) → is_work c ≡ false
    → is_known old.branches.branches x ≡ true → has_rows (branch_rows (state_at old x) c) ≡ has
    → is_held old.associations x ≡ held
    → (has ≡ true → Contains (branch_rows (state_at old x) c) (wanted c))
    → TablesFinish old new x c (wanted c) answer → Outcome old new t x c answer
finish_known wanted old new t x c answer has true w known rows is fits f =
    stands old new t x c code.Proto answer
    (known_first old c t x has true w known rows is
    ∙ ap (λ b. plain_first true b) (or_true (not has))) refl (f.held known is)
finish_known wanted old new t x c answer false false w known rows is fits f =
    let refused = f.off known is (no_rows (branch_rows (state_at old x) c) (wanted c) rows) in
    stands old new t x c code.Proto answer (known_first old c t x false false w known rows is) refl
    (refused.0 ∙ off_is c w, refused.1)
finish_known wanted old new t x c answer true false w known rows is fits f =
    let listed = fits refl in
    let made = f.row known is listed in
    inr (inr (record {
      state = (wanted c).1;
      first = known_first old c t x true false w known rows is;
      answers = ap is_refusal made.0 ∙ row_answers (state_at old x) c (wanted c) listed;
      work = w;
      listed = subst (λ (a : Code). Contains (branch_rows (state_at old x) c)
          (a, (wanted c).1)) (sym made.0) listed;
      branch = made.1.branch;
      associations = made.1.associations;
      init = made.1.init;
    }))

finish_by : (wanted : Wanted) (old new : States) (t : ℕ) (x : Xid) (c : Call) (answer : Code)
    (known : Bool) → is_work c ≡ false
    → is_known old.branches.branches x ≡ known → FitsRows wanted (state_at old x)
    → TablesFinish old new x c (wanted c) answer → Outcome old new t x c answer
finish_by wanted old new t x c answer false w is fits f =
    stands old new t x c code.NotA answer
    (plain_checks old c t x (is_known old.branches.branches x) (is_out_of_state old c t x) w
    ∙ ap (λ b. plain_first b (is_out_of_state old c t x)) is) refl (f.unknown is)
finish_by wanted old new t x c answer true w is fits f =
    finish_known wanted old new t x c answer (has_rows (branch_rows (state_at old x) c))
    (is_held old.associations x) w is refl refl
    (fits c w) f

pub finish_out : (wanted : Wanted) (old new : States) (t : ℕ) (x : Xid) (c : Call)
    (answer : Code) → is_work c ≡ false
    → FitsRows wanted (state_at old x) → TablesFinish old new x c (wanted c) answer
    → Outcome old new t x c answer
finish_out wanted old new t x c answer w fits f =
    finish_by wanted old new t x c answer (is_known old.branches.branches x) w refl fits f

-- what comes of any call
pub comes : (wanted : Wanted) (old new : States) (c : Call) (t : ℕ) (x : Xid) (answer : Code) → IsReached old
    → FitsRows wanted (state_at old x) → DoesCall wanted old new c t x answer → Outcome old new t x c answer
comes wanted old new call.Start t x answer ok fits h = start_out wanted old new t x answer h
comes wanted old new call.StartJoin t x answer ok fits h = join_out wanted old new t x answer ok h
comes wanted old new call.StartResume t x answer ok fits h = resume_out wanted old new t x answer ok h
comes wanted old new call.EndSuspend t x answer ok fits h = suspend_out wanted old new t x answer ok h
comes wanted old new call.EndMigrate t x answer ok fits h = migrate_out wanted old new t x answer ok h
comes wanted old new call.EndSuccess t x answer ok fits h = success_out wanted old new t x answer ok h
comes wanted old new call.EndFail t x answer ok fits h = fail_out wanted old new t x answer ok h
comes wanted old new call.Prepare t x answer ok fits h =
    finish_out wanted old new t x call.Prepare answer refl fits h
comes wanted old new call.Commit t x answer ok fits h =
    finish_out wanted old new t x call.Commit answer refl fits h
comes wanted old new call.CommitOnePhase t x answer ok fits h =
    finish_out wanted old new t x call.CommitOnePhase answer refl fits h
comes wanted old new call.Rollback t x answer ok fits h =
    finish_out wanted old new t x call.Rollback answer refl fits h
comes wanted old new call.Forget t x answer ok fits h =
    finish_out wanted old new t x call.Forget answer refl fits h
comes wanted old new call.Open t x answer ok fits h =
    finish_out wanted old new t x call.Open answer refl fits h
comes wanted old new call.Close t x answer ok fits h =
    finish_out wanted old new t x call.Close answer refl fits h
comes wanted old new call.Recover t x answer ok fits h =
    finish_out wanted old new t x call.Recover answer refl fits h
comes wanted old new call.RecoverStart t x answer ok fits h =
    finish_out wanted old new t x call.RecoverStart answer refl fits h
comes wanted old new call.RecoverEnd t x answer ok fits h =
    finish_out wanted old new t x call.RecoverEnd answer refl fits h
comes wanted old new call.RecoverWhole t x answer ok fits h =
    finish_out wanted old new t x call.RecoverWhole answer refl fits h
