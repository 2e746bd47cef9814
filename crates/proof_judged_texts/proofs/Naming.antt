-- What a state of the judge names was named by a call before, and each value in it was written by one.
use Rattle.std.proofs.Common.{◌≡◌, ℕ, zero, suc, ◌<◌, Bool, true, false, cond, List, [], ◌∷◌, ◌++◌, length, map, filter, fold, take, drop, Option, Some, None, refl, sym, ap, ◌∙◌, subst, arith, inl, inr}
use Rattle.std.specs.Prelude.{◌==◌, ◌||◌, ◌&&◌, not, Contains, if◌then◌else◌}
use Rattle.std.specs.List.{AllByRecursion, list_any, list_all}
use Rattle.std.proofs.lemmas.Bool.{and_parts, eqb-true, false≢true, and_from, or_cases, or_left, or_right}
use Rattle.judge_state.specs.declared.parts.JudgedBranch.{JudgedBranch}
use Rattle.judge_state.specs.declared.parts.JudgedDecision.{JudgedDecision}
use Rattle.judge_words.specs.decision
use Rattle.judge_state.specs.declared.parts.Listed.{Listed}
use Rattle.judge_state.specs.declared.parts.Stand.{Stand}
use Rattle.judge_state.specs.declared.parts.Stand.TheVariants.{Active, Prepared, RollbackOnly, Heuristic}
use Rattle.judge_state.specs.declared.parts.Work.{Work}
use Rattle.judge_state.specs.declared.parts.JudgedWrite.{JudgedWrite}
use Rattle.judge_state.specs.Parts.{is_in_doubt}
use Rattle.judge_state.specs.Sights.{Sight}
use Rattle.judge_state.specs.Questions.{active_of, branch_at, has_suspended}
use Rattle.judge_state.specs.Moves.{begun, brought_back, committed, decided, enlisted, fallen, gone, is_of, is_prepared, is_prepared_at, keeps_name, linked, marked, migrating, new_lines, outside, picked, prepared, published, remembered, restarted, rolled, scans_without, settled, stands, unlinked, with_stand, without_due, without_surety, works_of, worked, written}
use Rattle.judge_state.specs.Scans.{has as lists_number, held_after, is_written, may_give, may_hold, has_value, has_worked, is_worked, may_read, scan_closed, scan_given, scan_opened, with_given}
use Rattle.judge_rules.specs.declared.calls.JudgedAnswer.{JudgedAnswer}
use Rattle.judge_words.specs.answer
use Rattle.judge_rules.specs.declared.calls.BranchVerb.{BranchVerb}
use Rattle.judge_words.specs.verb
use Rattle.judge_rules.specs.declared.calls.JudgedCall.{JudgedCall}
use Rattle.judge_words.specs.call
use Rattle.judge_rules.specs.declared.calls.Function.{Function}
use Rattle.judge_words.specs.function
use Rattle.judge_rules.specs.declared.calls.On.{On}
use Rattle.judge_rules.specs.declared.defects.Refusals.{Refusals}
use Rattle.judge_rules.specs.declared.replies.Reply.{Reply}
use Rattle.judge_words.specs.reply
use Rattle.judge_rules.specs.declared.words.Rules.{Rules}
use Rattle.judge_rules.specs.Defects.{branch_defects, branch_excuses, close_defects, is_plain, is_spoiled_at, is_unscanned, open_defects, recover_defects, recover_excuses}
use Rattle.judge_rules.specs.Falls.{after_restart, done_failing, effects, effects_rows, failed, failed_rows, half_done, is_decided, may_return, maybe_back}
use Rattle.judge_rules.specs.Flags.{has}
use Rattle.judge_rules.specs.Passes.{branch_passes, commit_passes, decide_passes, decided_passes, end_passes, end_spoiled, entered, forget_passes, left, left_spoiled, one_if, own_decision, prepare_passes, rollback_passes, spoiled_passes, stand_in, start_passes}
use Rattle.judge_rules.specs.Replies.{agrees, decision_in, is_among, is_defective, is_heuristic, reply_of}
use Rattle.judge_rules.specs.Scans.{given_rows, may_give_all, may_see, read_rows, reads_in, scan_after, scan_in, since_of, write_row}
use Rattle.judge_rules.specs.Steps.{by_defects, branch_next, branch_rows, decide_next, function_next, get_next, is_answered, may_fail, next, next_by, open_next, open_passes, open_rows, outcome, put_next, recover_next, recover_rows, restart_next, trim_next, waits}
use Rattle.proof_judged_deeds.proofs.Lists.{all_append, all_filter, all_map, any_where}

-- of each element of a list this holds
all_at : {X : Type 0} (P : X → Type 0) (xs : List X) (x : X) → AllByRecursion P xs → Contains xs x → P x
all_at P [] x all (k, lt, e) = absurd (omega arith)
all_at P (y ∷ ys) x all (zero, lt, e) = subst P e all.0
all_at P (y ∷ ys) x all (suc k, lt, e) = all_at P ys x all.1 (k, omega arith, e)

all_made : {X Y : Type 0} (P : Y → Type 0) (f : X → Y) → ((x : X) → P (f x)) → (xs : List X)
    → AllByRecursion P (map f xs)
all_made P f h [] = tt
all_made P f h (x ∷ xs) = (h x, all_made P f h xs)

all_take : {X : Type 0} (P : X → Type 0) (k : ℕ) (xs : List X) → AllByRecursion P xs
    → AllByRecursion P (take k xs)
all_take P zero xs all = tt
all_take P (suc k) [] all = tt
all_take P (suc k) (x ∷ xs) all = (all.0, all_take P k xs all.1)

all_drop : {X : Type 0} (P : X → Type 0) (k : ℕ) (xs : List X) → AllByRecursion P xs
    → AllByRecursion P (drop k xs)
all_drop P zero xs all = all
all_drop P (suc k) [] all = tt
all_drop P (suc k) (x ∷ xs) all = all_drop P k xs all.1

either_one : {X : Type 0} (P : X → Type 0) (b : Bool) (x y : X) → P x → P y → P (if b then x else y)
either_one P true x y h k = h
either_one P false x y h k = k

-- an answer came
abbrev pub Came : JudgedAnswer → Type 0
Came answer.Hung = ⊥
Came _ = Unit {0}

module _ (P Q : ℕ → Type 0) where
  abbrev OfBranch : JudgedBranch → Type 0
  OfBranch b = P b.name

  abbrev OfLine : Listed → Type 0
  OfLine l = P l.branch

  abbrev OfWork : Work → Type 0
  OfWork w = Q w.value

  abbrev OfWrite : JudgedWrite → Type 0
  OfWrite w = Q w.value

  -- the branches that a state names, and the values in it; and no call has hung
  abbrev pub IsNamed : Sight → Type 0
  IsNamed s = AllByRecursion OfBranch s.branches × AllByRecursion OfBranch s.lost
      × AllByRecursion OfLine s.listed
      × AllByRecursion OfWork s.works × AllByRecursion OfWork s.lost_works × AllByRecursion OfWrite s.values
      × (s.hung ≡ false)

  abbrev AreNamed : List Sight → Type 0
  AreNamed us = AllByRecursion IsNamed us

  named_if : (b : Bool) (s t : Sight) → IsNamed s → IsNamed t → IsNamed (if b then s else t)
  named_if b s t h k = either_one IsNamed b s t h k

  are_if : (b : Bool) (us vs : List Sight) → AreNamed us → AreNamed vs → AreNamed (if b then us else vs)
  are_if b us vs h k = either_one AreNamed b us vs h k

  if_named : (b : Bool) (s : Sight) → IsNamed s → AreNamed (one_if b s)
  if_named b s h = are_if b (s ∷ []) [] (h, tt) tt

  both_named : (us vs : List Sight) → AreNamed us → AreNamed vs → AreNamed (us ++ vs)
  both_named us vs h k = all_append IsNamed us vs h k

  -- How a state changes.

  stands_named : (x : ℕ) (to : Stand) (s : Sight) → IsNamed s → IsNamed (stands x to s)
  stands_named x to s h = (
    all_map OfBranch OfBranch (λ (b : JudgedBranch). if b.name == x then with_stand to b else b)
        (λ b k. either_one OfBranch (b.name == x) (with_stand to b) b k k) s.branches h.0,
    h.1,
    h.2,
    h.3,
    h.4,
    h.5,
    h.6,
  )

  begun_named : (t x : ℕ) (s : Sight) → P x → IsNamed s → IsNamed (begun t x s)
  begun_named t x s p h = (all_append OfBranch s.branches _ h.0 (p, tt), h.1, h.2, h.3, h.4, h.5, h.6)

  enlisted_named : (x : ℕ) (s : Sight) → P x → IsNamed s → IsNamed (enlisted x s)
  enlisted_named x s p h = (
    h.0,
    h.1,
    all_append OfLine s.listed (new_lines x (scans_without x s.listed s.scans)) h.2
        (all_made OfLine _ (λ t. p) (scans_without x s.listed s.scans)),
    h.3,
    h.4,
    h.5,
    h.6,
  )

  prepared_named : (x : ℕ) (s : Sight) → P x → IsNamed s → IsNamed (prepared x s)
  prepared_named x s p h = enlisted_named x (stands x Prepared s) p (stands_named x Prepared s h)

  gone_named : (x : ℕ) (s : Sight) → IsNamed s → IsNamed (gone x s)
  gone_named x s h = (
    all_filter OfBranch _ s.branches h.0,
    h.1,
    all_map OfLine OfLine (λ (l : Listed). if l.branch == x then without_due l else l)
        (λ l k. either_one OfLine (l.branch == x) (without_due l) l k k) s.listed h.2,
    all_filter OfWork _ s.works h.3,
    h.4,
    h.5,
    h.6,
  )

  remembered_named : (x : ℕ) (s : Sight) → IsNamed s → IsNamed (remembered x s)
  remembered_named x s h = named_if (is_prepared_at x s) _ s (
    h.0,
    all_append OfBranch _ _ (all_filter OfBranch _ s.lost h.1) (all_filter OfBranch _ s.branches h.0),
    h.2,
    h.3,
    all_append OfWork _ _ (all_filter OfWork _ s.lost_works h.4) (all_filter OfWork _ s.works h.3),
    h.5,
    h.6,
  ) h

  published_named : (x : ℕ) (sure : Bool) (s : Sight) → IsNamed s → IsNamed (published x sure s)
  published_named x sure s h = (
    h.0,
    h.1,
    h.2,
    all_filter OfWork _ s.works h.3,
    h.4,
    all_append OfWrite s.values _ h.5
        (all_map OfWork OfWrite _ (λ w k. k) (works_of x s.works) (all_filter OfWork _ s.works h.3)),
    h.6,
  )

  rolled_named : (x : ℕ) (s : Sight) → IsNamed s → IsNamed (rolled x s)
  rolled_named x s h = gone_named x (remembered x s) (remembered_named x s h)

  committed_named : (x : ℕ) (s : Sight) → IsNamed s → IsNamed (committed x s)
  committed_named x s h = gone_named x (published x true (remembered x s))
      (published_named x true (remembered x s) (remembered_named x s h))

  settled_named : (x : ℕ) (d : JudgedDecision) (s : Sight) → IsNamed s → IsNamed (settled x d s)
  settled_named x decision.Commit s h = published_named x true s h
  settled_named x decision.Rollback s h = (h.0, h.1, h.2, all_filter OfWork _ s.works h.3, h.4, h.5, h.6)
  settled_named x decision.Mixed s h = published_named x false s h
  settled_named x decision.Unknown s h = published_named x false s h

  decided_named : (x : ℕ) (d : JudgedDecision) (s : Sight) → P x → IsNamed s → IsNamed (decided x d s)
  decided_named x d s p h = enlisted_named x (settled x d (stands x (Heuristic d) s)) p
      (settled_named x d (stands x (Heuristic d) s) (stands_named x (Heuristic d) s h))

  fallen_named : (s : Sight) → IsNamed s → IsNamed (fallen s)
  fallen_named s h = (
    all_filter OfBranch is_in_doubt s.branches h.0,
    h.1,
    tt,
    all_filter OfWork _ s.works h.3,
    h.4,
    h.5,
    h.6,
  )

  restarted_named : (s : Sight) → IsNamed s → IsNamed (restarted s)
  restarted_named s h = let f = fallen_named s h in (f.0, tt, f.2, f.3, tt, f.5, f.6)

  back_named : (b : JudgedBranch) (ws : List Work) (s : Sight) → OfBranch b → AllByRecursion OfWork ws
      → IsNamed s
      → IsNamed (brought_back b ws s)
  back_named b ws s p w h = (
    all_append OfBranch s.branches (b ∷ []) h.0 (p, tt),
    h.1,
    h.2,
    all_append OfWork s.works (works_of b.name ws) h.3 (all_filter OfWork _ ws w),
    h.4,
    all_map OfWrite OfWrite (λ (v : JudgedWrite). if is_of b.name v.branch then without_surety v else v)
        (λ v k. either_one OfWrite (is_of b.name v.branch) (without_surety v) v k k) s.values h.5,
    h.6,
  )

  written_named : (o : Option ℕ) (t k v : ℕ) (s : Sight) → Q v → IsNamed s → IsNamed (write_row o t k v s)
  written_named (Some x) t k v s q h =
      (h.0, h.1, h.2, all_append OfWork _ _ (all_filter OfWork _ s.works h.3) (q, tt), h.4, h.5, h.6)
  written_named None t k v s q h = (h.0, h.1, h.2, h.3, h.4, all_append OfWrite s.values _ h.5 (q, tt), h.6)

  scan_in_named : (t f : ℕ) (s : Sight) → IsNamed s → IsNamed (scan_in t f s)
  scan_in_named t f s h = named_if _ (scan_opened t s) s (
    h.0,
    h.1,
    all_append OfLine _ _ (all_filter OfLine _ s.listed h.2)
        (all_map OfBranch OfLine _ (λ b k. k) (filter is_in_doubt s.branches)
        (all_filter OfBranch is_in_doubt s.branches h.0)),
    h.3,
    h.4,
    h.5,
    h.6,
  ) h

  scan_after_named : (t f : ℕ) (xs : List ℕ) (s : Sight) → IsNamed s → IsNamed (scan_after t f xs s)
  scan_after_named t f xs s h = named_if _ (scan_closed t s) (scan_given t xs s)
      (h.0, h.1, all_filter OfLine _ s.listed h.2, h.3, h.4, h.5, h.6) (
        h.0,
        h.1,
        all_map OfLine OfLine (λ (l : Listed). if l.thread == t && lists_number xs l.branch then with_given l
            else l)
            (λ l k. either_one OfLine (l.thread == t && lists_number xs l.branch) (with_given l) l k k)
            s.listed h.2,
        h.3,
        h.4,
        h.5,
        h.6,
      )

  -- What a call that nothing refuses does.

  entered_named : (s : Sight) (o : On) → P o.xid.number → IsNamed s → IsNamed (entered s o)
  entered_named s o p h = named_if _ (begun o.thread o.xid.number s) _
      (begun_named o.thread o.xid.number s p h)
      (named_if (has o.flags.0 _) s _ h (named_if _ (unlinked o.thread o.xid.number s)
      (picked o.xid.number s) h h))

  start_named : (r : Rules) (s : Sight) (o : On) (u : Sight) (a : Reply) → IsNamed s → IsNamed u
      → AreNamed (start_passes r s o u a)
  start_named r s o u reply.Ok h k = (k, tt)
  start_named r s o u reply.RolledBack h k =
      both_named (one_if (not r.never.rollback) (marked o.xid.number u))
      (one_if (not r.never.rollback && is_plain o.flags.0) s)
      (if_named (not r.never.rollback) (marked o.xid.number u) (stands_named o.xid.number RollbackOnly u k))
      (if_named (not r.never.rollback && is_plain o.flags.0) s h)
  start_named r s o u reply.Retry h k = if_named _ s h
  start_named r s o u a h k = tt

  spoiled_named : (s : Sight) (o : On) (u : Sight) (a : Reply) → IsNamed s → IsNamed u
      → AreNamed (spoiled_passes s o u a)
  spoiled_named s o u reply.RolledBack h k = (k, tt)
  spoiled_named s o u reply.Retry h k = if_named _ s h
  spoiled_named s o u a h k = tt

  left_named : (o : On) (u : Sight) → IsNamed u → IsNamed (left o u)
  left_named o u h = named_if _ _ u (named_if _ (migrating o.xid.number u)
      (linked o.thread o.xid.number true u) h h) h

  end_named : (r : Rules) (o : On) (u : Sight) (a : Reply) → IsNamed u → AreNamed (end_passes r o u a)
  end_named r o u reply.Ok h = (left_named o u h, tt)
  end_named r o u reply.RolledBack h = if_named _ (marked o.xid.number u)
      (stands_named o.xid.number RollbackOnly u h)
  end_named r o u reply.NoMigrate h = if_named _ (linked o.thread o.xid.number true u) h
  end_named r o u a h = tt

  end_spoiled_named : (o : On) (u : Sight) (a : Reply) → IsNamed u → AreNamed (end_spoiled o u a)
  end_spoiled_named o u reply.Ok h = (named_if _ (linked o.thread o.xid.number true u) u h h, tt)
  end_spoiled_named o u reply.RolledBack h = (h, tt)
  end_spoiled_named o u a h = tt

  prepare_named : (r : Rules) (s : Sight) (x : ℕ) (a : Reply) → P x → IsNamed s
      → AreNamed (prepare_passes r s x a)
  prepare_named r s x reply.Ok p h = (prepared_named x s p h, tt)
  prepare_named r s x reply.RdOnly p h = (committed_named x s h, tt)
  prepare_named r s x reply.RolledBack p h = if_named _ (gone x s) (gone_named x s h)
  prepare_named r s x a p h = tt

  own_named : (r : Rules) (s : Sight) (x : ℕ) (a : Reply) → P x → IsNamed s → AreNamed (own_decision r s x a)
  own_named r s x a p h = if_named _ (decided x (decision_in a) s) (decided_named x (decision_in a) s p h)

  commit_named : (r : Rules) (s : Sight) (o : On) (a : Reply) → P o.xid.number → IsNamed s
      → AreNamed (commit_passes r s o a)
  commit_named r s o reply.Ok p h = (committed_named o.xid.number s h, tt)
  commit_named r s o reply.RolledBack p h = if_named _ (gone o.xid.number s) (gone_named o.xid.number s h)
  commit_named r s o reply.Retry p h = if_named _ s h
  commit_named r s o a p h = own_named r s o.xid.number a p h

  rollback_named : (r : Rules) (s : Sight) (x : ℕ) (a : Reply) → P x → IsNamed s
      → AreNamed (rollback_passes r s x a)
  rollback_named r s x reply.Ok p h = (rolled_named x s h, tt)
  rollback_named r s x reply.RolledBack p h = (rolled_named x s h, tt)
  rollback_named r s x a p h = own_named r s x a p h

  forget_named : (s : Sight) (x : ℕ) (a : Reply) → IsNamed s → AreNamed (forget_passes s x a)
  forget_named s x reply.Ok h = (gone_named x s h, tt)
  forget_named s x a h = tt

  told_named : (s : Sight) (x : ℕ) (d : JudgedDecision) (a : Reply) → IsNamed s
      → AreNamed (decided_passes s x d a)
  told_named s x d a h =
      if_named _ (stands x (Heuristic (decision_in a)) s) (stands_named x (Heuristic (decision_in a)) s h)

  decides_named : (r : Rules) (v : BranchVerb) (s : Sight) (o : On) (d : Stand) (a : Reply) → P o.xid.number
      → IsNamed s
      → AreNamed (decide_passes r v s o d a)
  decides_named r v s o (Heuristic d) a p h = told_named s o.xid.number d a h
  decides_named r verb.Commit s o d a p h = commit_named r s o a p h
  decides_named r v s o d a p h = rollback_named r s o.xid.number a p h

  passes_named : (r : Rules) (v : BranchVerb) (s : Sight) (o : On) (a : Reply) → P o.xid.number → IsNamed s
      → AreNamed (branch_passes r v s o a)
  passes_named r verb.Start s o a p h = let u = entered_named s o p h in
      are_if _ _ _ (spoiled_named s o (entered s o) a h u) (start_named r s o (entered s o) a h u)
  passes_named r verb.End s o a p h =
      are_if _ _ _ (end_spoiled_named o (unlinked o.thread o.xid.number s) a h)
      (end_named r o (unlinked o.thread o.xid.number s) a h)
  passes_named r verb.Prepare s o a p h = prepare_named r s o.xid.number a p h
  passes_named r verb.Forget s o a p h = forget_named s o.xid.number a h
  passes_named r verb.Commit s o a p h = decides_named r verb.Commit s o
      (stand_in (branch_at o.xid.number s)) a p h
  passes_named r verb.Rollback s o a p h = decides_named r verb.Rollback s o
      (stand_in (branch_at o.xid.number s)) a p h

  -- Failures and restarts.

  fails_named : (s : Sight) (a : Reply) → IsNamed s → AreNamed (failed_rows s a)
  fails_named s reply.RmErr h = (h, tt)
  fails_named s reply.RmFail h = (h, (fallen_named s h, tt))
  fails_named s a h = tt

  failed_named : (r : Rules) (s : Sight) (a : Reply) → IsNamed s → AreNamed (failed r s a)
  failed_named r s a h = are_if _ [] (failed_rows s a) tt (fails_named s a h)

  half_named : (v : BranchVerb) (s : Sight) (o : On) → P o.xid.number → IsNamed s → AreNamed (half_done v s o)
  half_named verb.Start s o p h = tt
  half_named verb.End s o p h = (h, tt)
  half_named verb.Prepare s o p h = (prepared_named o.xid.number s p h, (gone_named o.xid.number s h, tt))
  half_named verb.Commit s o p h = (gone_named o.xid.number s h, tt)
  half_named verb.Rollback s o p h = (rolled_named o.xid.number s h, tt)
  half_named verb.Forget s o p h = tt

  failing_named : (v : BranchVerb) (s : Sight) (o : On) → IsNamed s → AreNamed (done_failing v s o)
  failing_named verb.Start s o h = tt
  failing_named verb.End s o h = (
    stands_named o.xid.number RollbackOnly (unlinked o.thread o.xid.number s) h,
    tt,
  )
  failing_named verb.Prepare s o h = tt
  failing_named verb.Commit s o h = (committed_named o.xid.number s h, tt)
  failing_named verb.Rollback s o h = tt
  failing_named verb.Forget s o h = (gone_named o.xid.number s h, tt)

  effect_named : (v : BranchVerb) (s : Sight) (o : On) (a : Reply) → P o.xid.number → IsNamed s
      → AreNamed (effects_rows v s o a)
  effect_named v s o reply.RmErr p h = half_named v s o p h
  effect_named v s o reply.RmFail p h =
      both_named (half_done v s o) (done_failing v s o) (half_named v s o p h) (failing_named v s o h)
  effect_named v s o a p h = tt

  effects_named : (r : Rules) (v : BranchVerb) (s : Sight) (o : On) (a : Reply) → P o.xid.number → IsNamed s
      → AreNamed (effects r v s o a)
  effects_named r v s o a p h = are_if _ [] (effects_rows v s o a) tt (effect_named v s o a p h)

  returned_named : (ws : List Work) (bs : List JudgedBranch) (us : List Sight) → AllByRecursion OfWork ws
      → AllByRecursion OfBranch bs → AreNamed us → AreNamed (fold (maybe_back ws) us bs)
  returned_named ws [] us w all h = h
  returned_named ws (b ∷ bs) us w all h = returned_named ws bs (maybe_back ws us b) w all.1
      (both_named us (map (brought_back b ws) us) h
      (all_map IsNamed IsNamed (brought_back b ws) (λ u k. back_named b ws u all.0 w k) us h))

  restart_named : (r : Rules) (cut : Bool) (s : Sight) → IsNamed s → AreNamed (after_restart r cut s)
  restart_named r cut s h = let u = restarted_named s h in
      are_if _ _ (restarted s ∷ [])
      (returned_named s.lost_works (may_return (restarted s) s.lost) (restarted s ∷ []) h.4
      (all_filter OfBranch _ s.lost h.1) (u, tt)) (u, tt)

  -- The states that may follow.

  rows_named : (r : Rules) (v : BranchVerb) (s : Sight) (o : On) (a : Reply) → P o.xid.number → IsNamed s
      → AreNamed (branch_rows r v s o a)
  rows_named r v s o a p h =
      both_named (one_if (is_among (branch_excuses r v s o) a) s ++ failed r s a) (by_defects r v s o a)
      (both_named (one_if (is_among (branch_excuses r v s o) a) s) (failed r s a)
      (if_named (is_among (branch_excuses r v s o) a) s h) (failed_named r s a h))
      (are_if (is_defective (branch_defects r v s o)) (one_if (is_among (branch_defects r v s o) a) s)
      (branch_passes r v s o a ++ effects r v s o a) (if_named (is_among (branch_defects r v s o) a) s h)
      (both_named (branch_passes r v s o a) (effects r v s o a) (passes_named r v s o a p h)
      (effects_named r v s o a p h)))

  branch_named : (r : Rules) (v : BranchVerb) (s : Sight) (o : On) (a : JudgedAnswer) → Came a
      → P o.xid.number → IsNamed s
      → AreNamed (branch_next r v s o a)
  branch_named r v s o (answer.Code c) came p h = rows_named r v s o (reply_of c) p h
  branch_named r v s o answer.Hung came p h = absurd came
  branch_named r v s o a came p h = tt

  opens_named : (o : Bool) (s : Sight) (a : Reply) → IsNamed s → AreNamed (open_passes o s a)
  opens_named o s reply.Ok h = (h, tt)
  opens_named o s a h = tt

  open_named : (r : Rules) (d : Refusals) (o : Bool) (s : Sight) (a : JudgedAnswer) → Came a → IsNamed s
      → AreNamed (open_next r d o s a)
  open_named r d o s (answer.Code c) came h =
      both_named (if may_fail (reply_of c) then failed r s (reply_of c) else []) _
      (are_if _ _ [] (failed_named r s (reply_of c) h) tt)
      (are_if (is_defective d) (one_if (is_among d (reply_of c)) s) (open_passes o s (reply_of c))
      (if_named (is_among d (reply_of c)) s h) (opens_named o s (reply_of c) h))
  open_named r d o s answer.Hung came h = absurd came
  open_named r d o s a came h = tt

  given_named : (r : Rules) (s : Sight) (t count f : ℕ) (xs : List ℕ) → IsNamed s
      → AreNamed (given_rows r s t count f xs)
  given_named r s t count f xs h = are_if (is_unscanned s t f) (s ∷ [])
      (one_if (may_give_all r t count xs (scan_in t f s)) (scan_after t f xs (scan_in t f s))) (h, tt)
      (if_named (may_give_all r t count xs (scan_in t f s)) (scan_after t f xs (scan_in t f s))
      (scan_after_named t f xs (scan_in t f s) (scan_in_named t f s h)))

  recover_named : (r : Rules) (s : Sight) (t count f : ℕ) (a : JudgedAnswer) → Came a → IsNamed s
      → AreNamed (recover_next r s t count f a)
  recover_named r s t count f (answer.Code c) came h =
      both_named (one_if (is_among (recover_excuses r s t f) (reply_of c)) s ++ failed r s (reply_of c))
      (one_if (is_among (recover_defects r s t f) (reply_of c)) s)
      (both_named (one_if (is_among (recover_excuses r s t f) (reply_of c)) s) (failed r s (reply_of c))
      (if_named (is_among (recover_excuses r s t f) (reply_of c)) s h) (failed_named r s (reply_of c) h))
      (if_named (is_among (recover_defects r s t f) (reply_of c)) s h)
  recover_named r s t count f (answer.Given xs) came h =
      are_if _ [] _ tt (given_named r s t count f xs.items h)
  recover_named r s t count f answer.Hung came h = absurd came
  recover_named r s t count f a came h = tt

  read_named : (r : Rules) (o : Option ℕ) (t k v : ℕ) (s : Sight) → IsNamed s
      → AreNamed (read_rows r o t k v s)
  read_named r (Some x) t k v s h = if_named _ s h
  read_named r None t k v s h = if_named _ _ h

  get_named : (r : Rules) (s : Sight) (t k : ℕ) (a : JudgedAnswer) → Came a → IsNamed s
      → AreNamed (get_next r s t k a)
  get_named r s t k (answer.Found v) came h = read_named r (active_of t s) t k v s h
  get_named r s t k answer.Refused came h = (h, tt)
  get_named r s t k (answer.Code c) came h = (h, tt)
  get_named r s t k answer.Hung came h = absurd came
  get_named r s t k a came h = tt

  put_named : (s : Sight) (t k v : ℕ) (a : JudgedAnswer) → Came a → Q v → IsNamed s
      → AreNamed (put_next s t k v a)
  put_named s t k v answer.Done came q h = (written_named (active_of t s) t k v s q h, tt)
  put_named s t k v answer.Refused came q h = (h, tt)
  put_named s t k v (answer.Code c) came q h = (h, tt)
  put_named s t k v answer.Hung came q h = absurd came
  put_named s t k v a came q h = tt

  decide_named : (s : Sight) (x : ℕ) (commits : Bool) (a : JudgedAnswer) → Came a → P x → IsNamed s
      → AreNamed (decide_next s x commits a)
  decide_named s x commits answer.Done came p h = if_named _ _ (decided_named x (outcome commits) s p h)
  decide_named s x commits answer.Refused came p h = (h, tt)
  decide_named s x commits (answer.Code c) came p h = (h, tt)
  decide_named s x commits answer.Hung came p h = absurd came
  decide_named s x commits a came p h = tt

  answered : (a : JudgedAnswer) → Came a → (us vs : List Sight) → AreNamed us
      → AreNamed (if is_answered a then us else vs)
  answered answer.Hung came us vs h = absurd came
  answered (answer.Code c) came us vs h = h
  answered (answer.Given xs) came us vs h = h
  answered (answer.Found v) came us vs h = h
  answered answer.Done came us vs h = h
  answered answer.Refused came us vs h = h
  answered answer.Told came us vs h = h

  -- a call names branches of these, and writes one of these values
  abbrev pub Names : JudgedCall → Type 0
  Names (call.Function (function.Branch v o)) = P o.xid.number
  Names (call.Put t k v) = Q v
  Names (call.Decide x commits) = P x
  Names (call.Disconnect t) = ⊥
  Names _ = Unit {0}

  function_named : (r : Rules) (s : Sight) (f : Function) (a : JudgedAnswer) → Came a
      → Names (call.Function f) → IsNamed s
      → AreNamed (function_next r s f a)
  function_named r s (function.Open f) a came p h = open_named r (open_defects f.0) true s a came h
  function_named r s (function.Close f) a came p h = open_named r (close_defects s f.0) false s a came h
  function_named r s (function.Branch v o) a came p h = branch_named r v s o a came p h
  function_named r s (function.Recover t count f) a came p h = recover_named r s t count f.0 a came h

  by_named : (r : Rules) (s : Sight) (c : JudgedCall) (a : JudgedAnswer) → Came a → Names c → IsNamed s
      → AreNamed (next_by r s c a)
  by_named r s (call.Function f) a came p h = function_named r s f a came p h
  by_named r s (call.Get t k) a came p h = get_named r s t k a came h
  by_named r s (call.Put t k v) a came p h = put_named s t k v a came p h
  by_named r s (call.Decide x commits) a came p h = decide_named s x commits a came p h
  by_named r s (call.Restart cut) a came p h = answered a came (after_restart r cut s) _
      (restart_named r cut s h)
  by_named r s (call.Disconnect t) a came p h = absurd p
  by_named r s call.Trim a came p h = answered a came (s ∷ []) _ (h, tt)

  -- the states that follow are those of the rules, as no call has hung
  next_is : (r : Rules) (s : Sight) (c : JudgedCall) (a : JudgedAnswer) (u : Sight) → IsNamed s
      → Contains (next r s c a) u
      → Contains (next_by r s c a) u
  next_is r s c a u h is =
      subst (λ (b : Bool). Contains (if b then s ∷ [] else next_by r s c a) u) h.6 is

  -- the state that follows names nothing else
  pub next_named : (r : Rules) (s : Sight) (c : JudgedCall) (a : JudgedAnswer) (u : Sight) → Came a → Names c
      → IsNamed s
      → Contains (next r s c a) u → IsNamed u
  next_named r s c a u came p h is =
      all_at IsNamed (next_by r s c a) u (by_named r s c a came p h) (next_is r s c a u h is)

  -- What an answer names.

  -- where the list is not empty, its test passed
  passed : (b : Bool) (s u : Sight) → Contains (one_if b s) u → b ≡ true
  passed true s u is = refl
  passed false s u (k, lt, e) = absurd (omega arith)

  middle : (a b c : Bool) → (a && b && c) ≡ true → b ≡ true
  middle true true c e = refl
  middle true false c e = absurd (false≢true e)
  middle false b c e = absurd (false≢true e)

  may_named : (t : ℕ) (s : Sight) (xs : List ℕ) → IsNamed s → list_all (may_give t s) xs ≡ true
      → AllByRecursion P xs
  may_named t s [] h e = tt
  may_named t s (x ∷ xs) h e =
      let (here, more) = and_parts (may_give t s x) (list_all (may_give t s) xs) e in
      let (l, test, p) = any_where OfLine (λ l. l.thread == t && l.branch == x && not l.given)
      s.listed here h.2 in (
        subst P (eqb-true l.branch x (middle (l.thread == t) (l.branch == x) (not l.given) test)) p,
        may_named t s xs h more,
      )

  inval_defective : (d : Refusals) → d.inval ≡ true → is_defective d ≡ true
  inval_defective d e =
      or_left (d.inval || d.asynchronous || d.proto || d.dup_id) d.not_a
      (or_left (d.inval || d.asynchronous || d.proto) d.dup_id
      (or_left (d.inval || d.asynchronous) d.proto (or_left d.inval d.asynchronous e)))

  either_empty : (b : Bool) (us : List Sight) (u : Sight) → Contains (if b then [] else us) u → (b ≡ false)
      × Contains us u
  either_empty true us u (k, lt, e) = absurd (omega arith)
  either_empty false us u is = (refl, is)

  given_in : (r : Rules) (s : Sight) (t count f : ℕ) (xs : List ℕ) (u : Sight) (b : Bool) → b ≡ false
      → IsNamed s
      → Contains (if b then s ∷ [] else one_if (may_give_all r t count xs (scan_in t f s))
      (scan_after t f xs (scan_in t f s))) u
      → AllByRecursion P xs
  given_in r s t count f xs u true e h is = absurd (false≢true (sym e))
  given_in r s t count f xs u false e h is =
      let passes = passed (may_give_all r t count xs (scan_in t f s)) (scan_after t f xs (scan_in t f s)) u is
      in
      let (most, owes) = and_parts _ _ passes in
      let (all, few) = and_parts _ _ most in
      let (distinct, may) = and_parts _ _ all in
      may_named t (scan_in t f s) xs (scan_in_named t f s h) may

  not_unscanned : (r : Rules) → r.lacks.scan ≡ false → (s : Sight) (t f : ℕ)
      → is_defective (recover_defects r s t f) ≡ false
      → (b : Bool) → is_unscanned s t f ≡ b → b ≡ false
  not_unscanned r scans s t f fine false e = refl
  not_unscanned r scans s t f fine true e =
      absurd (false≢true (sym fine ∙ inval_defective (recover_defects r s t f)
      (or_right _ (is_unscanned s t f && not r.lacks.scan)
      (and_from (is_unscanned s t f) (not r.lacks.scan) e (ap not scans)))))

  -- the branches that a recover gives
  pub gives_named : (r : Rules) → r.lacks.scan ≡ false → (s : Sight) (t count f : ℕ) (xs : List ℕ) (u : Sight)
      → IsNamed s
      → Contains (if is_defective (recover_defects r s t f) then [] else given_rows r s t count f xs) u
      → AllByRecursion P xs
  gives_named r scans s t count f xs u h is =
      let (fine, given) = either_empty (is_defective (recover_defects r s t f))
      (given_rows r s t count f xs) u is in
      given_in r s t count f xs u (is_unscanned s t f)
      (not_unscanned r scans s t f fine (is_unscanned s t f) refl) h given

  -- values

  held_named : (k v : ℕ) (held : Bool) (w : JudgedWrite) → (held ≡ true → Q v) → Q w.value
      → held_after k v held w ≡ true → Q v
  held_named k v held w before q e = by (w.key == k) (w.value == v) (not w.sure) refl e where
    by : (a b c : Bool) → (w.value == v) ≡ b → (if a then (b || (c && held)) else held) ≡ true → Q v
    by true true c is passes = subst Q (eqb-true w.value v is) q
    by true false true is passes = before passes
    by true false false is passes = absurd (false≢true passes)
    by false b c is passes = before passes

  holds_named : (k v : ℕ) (ws : List JudgedWrite) (held : Bool) → (held ≡ true → Q v)
      → AllByRecursion OfWrite ws
      → fold (held_after k v) held ws ≡ true → Q v
  holds_named k v [] held before all e = before e
  holds_named k v (w ∷ ws) held before all e =
      holds_named k v ws (held_after k v held w) (λ passes. held_named k v held w before all.0 passes) all.1 e

  read_in_named : Q 0 → (since k v : ℕ) (ws : List JudgedWrite) → AllByRecursion OfWrite ws
      → (may_hold k v (take since ws) || is_written k v (drop since ws)) ≡ true → Q v
  read_in_named none since k v ws all e =
      elim (or_cases (may_hold k v (take since ws)) (is_written k v (drop since ws)) e) [
        | inl held ↦ holds_named k v (take since ws) (v == 0) (λ is. subst Q (sym (eqb-true v 0 is)) none)
            (all_take OfWrite since ws all) held
        | inr later ↦ (let found = any_where OfWrite (λ w. w.key == k && w.value == v) (drop since ws) later
            (all_drop OfWrite since ws all) in
            subst Q (eqb-true found.0.value v (and_parts (found.0.key == k) (found.0.value == v) found.1).1)
            found.2)
      ]

  sees_named : Q 0 → (r : Rules) (since k v : ℕ) (s : Sight) → IsNamed s → may_see r since k v s ≡ true → Q v
  sees_named none r since k v s h e = elim
      (or_cases (may_read since k v s) (r.lacks.isolation && is_worked k v s) e) [
        | inl read ↦ read_in_named none since k v s.values h.5 read
        | inr work ↦ (let found = any_where OfWork (λ w. w.key == k && w.value == v) s.works
            (and_parts r.lacks.isolation (is_worked k v s) work).1 h.3 in
            subst Q (eqb-true found.0.value v (and_parts (found.0.key == k) (found.0.value == v) found.1).1)
            found.2)
      ]

  own_read : (x k v : ℕ) (s : Sight) → IsNamed s → has_value x k v s ≡ true → Q v
  own_read x k v s h e =
      let found = any_where OfWork (λ w. w.branch == x && w.key == k && w.value == v) s.works e h.3 in
      subst Q (eqb-true found.0.value v (and_parts (found.0.branch == x && found.0.key == k)
      (found.0.value == v) found.1).1)
      found.2

  branch_reads : Q 0 → (r : Rules) (x k v since : ℕ) (s : Sight) → IsNamed s → (b : Bool)
      → (if b then has_value x k v s else may_see r since k v s) ≡ true → Q v
  branch_reads none r x k v since s h true e = own_read x k v s h e
  branch_reads none r x k v since s h false e = sees_named none r since k v s h e

  reads_named : Q 0 → (r : Rules) (o : Option ℕ) (t k v : ℕ) (s u : Sight) → IsNamed s
      → Contains (read_rows r o t k v s) u → Q v
  reads_named none r (Some x) t k v s u h is =
      branch_reads none r x k v (since_of (branch_at x s) s) s h (has_worked x k s)
      (passed (reads_in r x k v s) s u is)
  reads_named none r None t k v s u h is =
      sees_named none r (length s.values) k v s h
      (passed (may_see r (length s.values) k v s) (outside t s) u is)

  -- what the answer of a recover and of a read names
  abbrev pub Tells : JudgedCall → JudgedAnswer → Type 0
  Tells (call.Function (function.Recover t count f)) (answer.Given xs) = AllByRecursion P xs.items
  Tells (call.Get t k) (answer.Found v) = Q v
  Tells _ _ = Unit {0}

  told_by : Q 0 → (r : Rules) → r.lacks.scan ≡ false
      → (s : Sight) (c : JudgedCall) (a : JudgedAnswer) (u : Sight) → IsNamed s
      → Contains (next_by r s c a) u → Tells c a
  told_by none r scans s (call.Function (function.Recover t count f)) (answer.Given xs) u h is =
      gives_named r scans s t count f.0 xs.items u h is
  told_by none r scans s (call.Get t k) (answer.Found v) u h is =
      reads_named none r (active_of t s) t k v s u h is
  told_by none r scans s c a u h is = tt

  -- it was named before
  pub next_told : Q 0 → (r : Rules) → r.lacks.scan ≡ false
      → (s : Sight) (c : JudgedCall) (a : JudgedAnswer) (u : Sight) → IsNamed s
      → Contains (next r s c a) u → Tells c a
  next_told none r scans s c a u h is = told_by none r scans s c a u h (next_is r s c a u h is)
