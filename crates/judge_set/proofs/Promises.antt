-- Promises only narrow what is admitted.
use Rattle.std.proofs.Common.{◌≡◌, ℕ, Bool, Option, Some, None, true, false, not, List, [], ◌∷◌, ◌++◌, refl, sym, subst, inl, inr}
use Rattle.std.specs.Prelude.{Contains, ◌&&◌, ◌||◌, if◌then◌else◌}
use Rattle.std.proofs.lemmas.Bool.{false≢true}
use Rattle.std.proofs.lemmas.List.Elements.{Contains-append_left, Contains-append_right, Contains-append_cases}
use Rattle.xa_tables.specs.Calls.{fail, one_phase, resume, join}
use Rattle.judge_state.specs.Sights.{Sight, first_sight}
use Rattle.judge_state.specs.Questions.{active_of, branch_at}
use Rattle.judge_state.specs.Moves.{decided, gone, marked, unlinked}
use Rattle.judge_state.specs.declared.parts.Stand.{Stand}
use Rattle.judge_state.specs.declared.parts.Stand.TheVariants.{Heuristic}
use Rattle.judge_rules.specs.declared.calls.JudgedAnswer.{JudgedAnswer}
use Rattle.judge_words.specs.answer
use Rattle.judge_rules.specs.declared.calls.BranchVerb.{BranchVerb}
use Rattle.judge_words.specs.verb
use Rattle.judge_rules.specs.declared.calls.JudgedCall.{JudgedCall}
use Rattle.judge_words.specs.call
use Rattle.judge_rules.specs.declared.calls.HistoryEvent.{HistoryEvent}
use Rattle.judge_rules.specs.declared.calls.Function.{Function}
use Rattle.judge_words.specs.function
use Rattle.judge_rules.specs.declared.calls.On.{On}
use Rattle.judge_rules.specs.declared.calls.XidSort.{XidSort}
use Rattle.judge_words.specs.sort
use Rattle.judge_rules.specs.declared.defects.Refusals.{Refusals}
use Rattle.judge_rules.specs.declared.replies.Reply.{Reply}
use Rattle.judge_words.specs.reply
use Rattle.judge_rules.specs.declared.words.Rules.{Rules}
use Rattle.judge_rules.specs.Flags.{has}
use Rattle.judge_rules.specs.Replies.{decision_in, is_among, is_defective, is_heuristic, reply_of}
use Rattle.judge_rules.specs.Defects.{branch_defects, branch_excuses, close_defects, is_bad_name, is_plain, is_spoiled_at, open_defects, recover_defects, recover_excuses}
use Rattle.judge_rules.specs.Falls.{effects, effects_rows, failed, failed_rows, is_decided}
use Rattle.judge_rules.specs.Passes.{branch_passes, commit_passes, decide_passes, end_passes, entered, one_if, own_decision, prepare_passes, rollback_passes, stand_in, start_passes}
use Rattle.judge_rules.specs.Steps.{branch_next, branch_rows, by_defects, function_next, get_next, may_fail, next_by, open_next, open_passes, recover_next, waits}
use Rattle.judge_rules.specs.Scans.{read_rows}
use Rattle.judge_rules.specs.Histories.{IsLegal, JudgeLeads, Step}
use Rattle.judge_set.specs.Sets.{without_promises}
use Rattle.judge_rules.proofs.Members.{none_in}

-- what is among these is among those
abbrev Sub : List Sight → List Sight → Type 0
Sub xs ys = (t : Sight) → Contains xs t → Contains ys t

same : (xs : List Sight) → Sub xs xs
same xs t c = c

none : (ys : List Sight) → Sub [] ys
none ys t c = absurd (none_in t c)

both : (a b c d : List Sight) → Sub a b → Sub c d → Sub (a ++ c) (b ++ d)
both a b c d f g t h = elim (Contains-append_cases a c t h) [
  | inl l ↦ Contains-append_left b d t (f t l)
  | inr r ↦ Contains-append_right b d t (g t r)
]

-- one state, if less is asked
one_less : (p q : Bool) (s : Sight) → (p ≡ true → q ≡ true) → Sub (one_if p s) (one_if q s)
one_less false q s h = none (one_if q s)
one_less true q s h = subst (λ (b : Bool). Sub (s ∷ []) (one_if b s)) (sym (h refl)) (same (s ∷ []))

-- some states, if no promise takes them away
unless : (p : Bool) (xs : List Sight) → Sub (if p then [] else xs) xs
unless true xs = none xs
unless false xs = same xs

either : (b : Bool) (x y z w : List Sight) → Sub x z → Sub y w → Sub (if b then x else y) (if b then z else w)
either true x y z w f g = f
either false x y z w f g = g

-- what holds with a promise holds without it
and_not : (b p : Bool) → (b && not p) ≡ true → (b && not false) ≡ true
and_not true p h = refl
and_not false p h = h

not_and : (p b : Bool) → (not p && b) ≡ true → (not false && b) ≡ true
not_and true b h = absurd (false≢true h)
not_and false b h = h

or_not : (b p : Bool) → (b || not p) ≡ true → (b || not false) ≡ true
or_not true p h = refl
or_not false p h = refl

failed_sub : (r : Rules) (s : Sight) (a : Reply) → Sub (failed r s a) (failed (without_promises r) s a)
failed_sub r s a = unless r.never.failures (failed_rows s a)

effects_less : (p d : Bool) (xs : List Sight) → Sub (if p || d then [] else xs)
    (if false || d then [] else xs)
effects_less true d xs = none (if false || d then [] else xs)
effects_less false d xs = same (if false || d then [] else xs)

effects_sub : (r : Rules) (v : BranchVerb) (s : Sight) (o : On) (a : Reply)
    → Sub (effects r v s o a) (effects (without_promises r) v s o a)
effects_sub r v s o a = effects_less r.never.failures (is_decided v (stand_in (branch_at o.xid.number s)))
    (effects_rows v s o a)

-- defects hang on no promise
bad_same : (r : Rules) (x : XidSort) → is_bad_name (without_promises r) x ≡ is_bad_name r x
bad_same r sort.Null = refl
bad_same r sort.Bare = refl
bad_same r sort.Full = refl

defects_same : (r : Rules) (v : BranchVerb) (s : Sight) (o : On)
    → branch_defects (without_promises r) v s o ≡ branch_defects r v s o
defects_same r verb.Start s o = rw (bad_same r o.xid.sort) refl
defects_same r verb.End s o = rw (bad_same r o.xid.sort) refl
defects_same r verb.Prepare s o = rw (bad_same r o.xid.sort) refl
defects_same r verb.Commit s o = rw (bad_same r o.xid.sort) refl
defects_same r verb.Rollback s o = rw (bad_same r o.xid.sort) refl
defects_same r verb.Forget s o = rw (bad_same r o.xid.sort) refl

excused_more : (r : Rules) (v : BranchVerb) (s : Sight) (o : On) (a : Reply)
    → is_among (branch_excuses r v s o) a ≡ true → is_among (branch_excuses (without_promises r) v s o) a
    ≡ true
excused_more r verb.Start s o reply.RolledBack h =
    and_not (has o.flags.0 join && is_spoiled_at (branch_at o.xid.number s)) r.never.rollback h
excused_more r v s o a h = h

-- what calls that nothing refuses may be answered
own_sub : (r : Rules) (s : Sight) (x : ℕ) (a : Reply)
    → Sub (own_decision r s x a) (own_decision (without_promises r) s x a)
own_sub r s x a = one_less (is_heuristic a && not r.never.heuristics) (is_heuristic a && not false)
    (decided x (decision_in a) s) (and_not (is_heuristic a) r.never.heuristics)

start_sub : (r : Rules) (s : Sight) (o : On) (u : Sight) (a : Reply)
    → Sub (start_passes r s o u a) (start_passes (without_promises r) s o u a)
start_sub r s o u reply.RolledBack =
    both (one_if (not r.never.rollback) (marked o.xid.number u)) (one_if true (marked o.xid.number u))
    (one_if (not r.never.rollback && is_plain o.flags.0) s) (one_if (not false && is_plain o.flags.0) s)
    (one_less (not r.never.rollback) true (marked o.xid.number u) (λ h. refl))
    (one_less (not r.never.rollback && is_plain o.flags.0) (not false && is_plain o.flags.0) s
    (not_and r.never.rollback (is_plain o.flags.0)))
start_sub r s o u a = λ t c. c

end_sub : (r : Rules) (o : On) (u : Sight) (a : Reply)
    → Sub (end_passes r o u a) (end_passes (without_promises r) o u a)
end_sub r o u reply.RolledBack = one_less (has o.flags.0 fail || not r.never.rollback)
    (has o.flags.0 fail || not false)
    (marked o.xid.number u) (or_not (has o.flags.0 fail) r.never.rollback)
end_sub r o u a = λ t c. c

prepare_sub : (r : Rules) (s : Sight) (x : ℕ) (a : Reply)
    → Sub (prepare_passes r s x a) (prepare_passes (without_promises r) s x a)
prepare_sub r s x reply.RolledBack = one_less (not r.never.rollback) true (gone x s) (λ h. refl)
prepare_sub r s x a = λ t c. c

commit_sub : (r : Rules) (s : Sight) (o : On) (a : Reply)
    → Sub (commit_passes r s o a) (commit_passes (without_promises r) s o a)
commit_sub r s o reply.Ok = λ t c. c
commit_sub r s o reply.RolledBack = one_less (has o.flags.0 one_phase && not r.never.rollback)
    (has o.flags.0 one_phase && not false) (gone o.xid.number s)
    (and_not (has o.flags.0 one_phase) r.never.rollback)
commit_sub r s o reply.Retry = λ t c. c
commit_sub r s o a = own_sub r s o.xid.number a

rollback_sub : (r : Rules) (s : Sight) (x : ℕ) (a : Reply)
    → Sub (rollback_passes r s x a) (rollback_passes (without_promises r) s x a)
rollback_sub r s x reply.Ok = λ t c. c
rollback_sub r s x reply.RolledBack = λ t c. c
rollback_sub r s x a = own_sub r s x a

decide_sub : (r : Rules) (v : BranchVerb) (s : Sight) (o : On) (st : Stand) (a : Reply)
    → Sub (decide_passes r v s o st a) (decide_passes (without_promises r) v s o st a)
decide_sub r v s o (Heuristic d) a = λ t c. c
decide_sub r verb.Commit s o st a = commit_sub r s o a
decide_sub r v s o st a = rollback_sub r s o.xid.number a

passes_sub : (r : Rules) (v : BranchVerb) (s : Sight) (o : On) (a : Reply)
    → Sub (branch_passes r v s o a) (branch_passes (without_promises r) v s o a)
passes_sub r verb.Start s o a = either (has o.flags.0 resume && is_spoiled_at (branch_at o.xid.number s)) _ _
    _ _
    (λ t c. c) (start_sub r s o (entered s o) a)
passes_sub r verb.End s o a = either (is_spoiled_at (branch_at o.xid.number s)) _ _ _ _
    (λ t c. c) (end_sub r o (unlinked o.thread o.xid.number s) a)
passes_sub r verb.Prepare s o a = prepare_sub r s o.xid.number a
passes_sub r verb.Forget s o a = λ t c. c
passes_sub r verb.Commit s o a = decide_sub r verb.Commit s o (stand_in (branch_at o.xid.number s)) a
passes_sub r verb.Rollback s o a = decide_sub r verb.Rollback s o (stand_in (branch_at o.xid.number s)) a

-- a call on a branch by its defects
by_defects_sub : (r : Rules) (v : BranchVerb) (s : Sight) (o : On) (a : Reply)
    → Sub (by_defects r v s o a) (by_defects (without_promises r) v s o a)
by_defects_sub r v s o a =
    let goes : Sub (branch_passes r v s o a ++ effects r v s o a)
    (branch_passes (without_promises r) v s o a ++ effects (without_promises r) v s o a) =
    both _ _ _ _ (passes_sub r v s o a) (effects_sub r v s o a) in
    subst (λ (d : Refusals). Sub (by_defects r v s o a) (if is_defective d then one_if (is_among d a) s
    else branch_passes (without_promises r) v s o a ++ effects (without_promises r) v s o a))
    (sym (defects_same r v s o))
    (either (is_defective (branch_defects r v s o)) _ _ _ _ (λ t c. c) goes)

rows_sub : (r : Rules) (v : BranchVerb) (s : Sight) (o : On) (a : Reply)
    → Sub (branch_rows r v s o a) (branch_rows (without_promises r) v s o a)
rows_sub r v s o a =
    let more = one_if (is_among (branch_excuses (without_promises r) v s o) a) s in
    both (one_if (is_among (branch_excuses r v s o) a) s ++ failed r s a)
    (more ++ failed (without_promises r) s a)
    (by_defects r v s o a) (by_defects (without_promises r) v s o a)
    (both (one_if (is_among (branch_excuses r v s o) a) s) more (failed r s a)
    (failed (without_promises r) s a)
    (one_less (is_among (branch_excuses r v s o) a) (is_among (branch_excuses (without_promises r) v s o) a) s
    (excused_more r v s o a)) (failed_sub r s a))
    (by_defects_sub r v s o a)

branch_sub : (r : Rules) (v : BranchVerb) (s : Sight) (o : On) (a : JudgedAnswer)
    → Sub (branch_next r v s o a) (branch_next (without_promises r) v s o a)
branch_sub r v s o (answer.Code c) = rows_sub r v s o (reply_of c)
branch_sub r v s o answer.Hung = subst (λ (d : Refusals). Sub (waits (branch_defects r v s o) s) (waits d s))
    (sym (defects_same r v s o)) (λ t c. c)
branch_sub r v s o a = λ t c. c

open_sub : (r : Rules) (d : Refusals) (o : Bool) (s : Sight) (a : JudgedAnswer)
    → Sub (open_next r d o s a) (open_next (without_promises r) d o s a)
open_sub r d o s (answer.Code c) =
    let told = if is_defective d then one_if (is_among d (reply_of c)) s else open_passes o s (reply_of c) in
    both (if may_fail (reply_of c) then failed r s (reply_of c) else [])
    (if may_fail (reply_of c) then failed (without_promises r) s (reply_of c) else []) told told
    (either (may_fail (reply_of c)) (failed r s (reply_of c)) []
    (failed (without_promises r) s (reply_of c)) []
    (failed_sub r s (reply_of c)) (λ u e. e)) (λ u e. e)
open_sub r d o s a = λ u e. e

recover_sub : (r : Rules) (s : Sight) (t count f : ℕ) (a : JudgedAnswer)
    → Sub (recover_next r s t count f a) (recover_next (without_promises r) s t count f a)
recover_sub r s t count f (answer.Code c) =
    let excused = one_if (is_among (recover_excuses r s t f) (reply_of c)) s in
    let refused = one_if (is_among (recover_defects r s t f) (reply_of c)) s in
    both (excused ++ failed r s (reply_of c))
    (excused ++ failed (without_promises r) s (reply_of c)) refused refused
    (both excused excused (failed r s (reply_of c)) (failed (without_promises r) s (reply_of c)) (λ u d. d)
    (failed_sub r s (reply_of c))) (λ u d. d)
recover_sub r s t count f a = λ u d. d

function_sub : (r : Rules) (s : Sight) (f : Function) (a : JudgedAnswer)
    → Sub (function_next r s f a) (function_next (without_promises r) s f a)
function_sub r s (function.Open f) a = open_sub r (open_defects f.0) true s a
function_sub r s (function.Close f) a = open_sub r (close_defects s f.0) false s a
function_sub r s (function.Branch v o) a = branch_sub r v s o a
function_sub r s (function.Recover t count f) a = recover_sub r s t count f.0 a

read_sub : (r : Rules) (x : Option ℕ) (t k v : ℕ) (s : Sight)
    → Sub (read_rows r x t k v s) (read_rows (without_promises r) x t k v s)
read_sub r None t k v s = λ t c. c
read_sub r (Some x) t k v s = λ t c. c

get_sub : (r : Rules) (s : Sight) (t k : ℕ) (a : JudgedAnswer)
    → Sub (get_next r s t k a) (get_next (without_promises r) s t k a)
get_sub r s t k (answer.Found v) = read_sub r (active_of t s) t k v s
get_sub r s t k a = λ t c. c

by_sub : (r : Rules) (s : Sight) (c : JudgedCall) (a : JudgedAnswer)
    → Sub (next_by r s c a) (next_by (without_promises r) s c a)
by_sub r s (call.Function f) a = function_sub r s f a
by_sub r s (call.Get t k) a = get_sub r s t k a
by_sub r s c a = λ t c. c

step_sub : (r : Rules) (s : Sight) (e : HistoryEvent) (t : Sight) → Step r s e t
    → Step (without_promises r) s e t
step_sub r s e t h = either s.hung _ _ _ _ (λ t c. c) (by_sub r s e.call e.answer) t h

leads_sub : (r : Rules) (es : List HistoryEvent) (s t : Sight) → JudgeLeads r s es t
    → JudgeLeads (without_promises r) s es t
leads_sub r [] s t h = h
leads_sub r (e ∷ es) s t (u, step, rest) = (u, step_sub r s e u step, leads_sub r es u t rest)

pub narrow : (r : Rules) (es : List HistoryEvent) → IsLegal r es → IsLegal (without_promises r) es
narrow r es (t, l) = (t, leads_sub r es first_sight t l)
