-- A start that resumes is a step of the judge.
use Rattle.std.proofs.Common.{◌≡◌, ℕ, Bool, true, false, not, Option, Some, [], ◌∷◌, ◌++◌, Err, ◌&&◌, refl, ap, sym, subst, ◌∙◌}
use Rattle.std.specs.Prelude.{◌==◌, is_some, Contains, MatchResult, if◌then◌else◌}
use Rattle.std.specs.List.{list_any}
use Rattle.std.proofs.lemmas.Bool.{and_right, and_from}
use Rattle.xa_codes.specs.declared.code.Code.{Code}
use Rattle.xa_words.specs.code
use Rattle.xa_codes.specs.declared.flags.Flags.{Flags}
use Rattle.xa_tables.specs.Calls.{join, resume}
use Rattle.xa_words.specs.call
use Rattle.xa_tables.specs.declared.states.AssocState.{AssocState}
use Rattle.xa_tables.specs.declared.states.AssocState.TheVariants.{T0, T1, T2, M}
use Rattle.xa_tables.specs.declared.states.BranchState.{BranchState}
use Rattle.xa_tables.specs.declared.states.BranchState.TheVariants.{S4}
use Rattle.xa_xid.specs.declared.xid.Xid.{Xid}
use Rattle.xa_xid.specs.Xids.{null_xid}
use Rattle.xa_branch.specs.Names.{same}
use Rattle.xa_branch.specs.Branches.{state_in}
use Rattle.xa_assoc.specs.declared.states.States.{States}
use Rattle.xa_assoc.specs.Associations.{AreThreadsListedOnce, AssocRow, active_of, has_room, has_seat, moved_of, moved_plan, own_state, resume_plan, row}
use Rattle.xa_assoc.specs.Answers.{ByState, ReactsByRows, RefusesCall, Resumes, SameStates, Walks}
use Rattle.xa_assoc.specs.Reacting.{resumed}
use Rattle.xa_assoc.specs.Ready.{is_closed}
use Rattle.judge_state.specs.declared.parts.JudgedDecision.{JudgedDecision}
use Rattle.judge_state.specs.declared.parts.Stand.{Stand}
use Rattle.judge_words.specs.stand
use Rattle.judge_state.specs.Moves.{begun, linked, links_without, picked, unlinked, without_first}
use Rattle.judge_state.specs.Sights.{Sight}
use Rattle.judge_state.specs.Questions.{branch_at, has_suspended}
use Rattle.judge_words.specs.verb
use Rattle.judge_words.specs.reply
use Rattle.judge_rules.specs.Flags.{has, wrong_at_start}
use Rattle.judge_rules.specs.Defects.{is_plain, is_spoiled_at}
use Rattle.judge_rules.specs.Passes.{branch_passes, entered, spoiled_passes, start_passes}
use Rattle.proof_judged_deeds.specs.Deeds.{on}
use Rattle.proof_judged_deeds.specs.Names.{NameNumbers, lacks_forced}
use Rattle.proof_judged_deeds.proofs.Agreements.{no_start_by}
use Rattle.proof_judged_deeds.proofs.Links.{is_one, is_two, linked_one, relinked_one, same_count, same_links, turned, unlinked_none}
use Rattle.proof_judged_deeds.proofs.Mirrors.{Mirrors, is_begun, stand_as}
use Rattle.proof_judged_deeds.proofs.Picking.{picked_count}
use Rattle.proof_judged_deeds.proofs.Rows.{first_in, in_else, in_then}
use Rattle.proof_judged_deeds.proofs.Flags.{AreRight}
use Rattle.proof_judged_deeds.proofs.Steps.{Goes, at_false, at_true, by_test, goes_passed}
use Rattle.proof_judged_deeds.proofs.Checks.{migrated_same}
use Rattle.proof_judged_deeds.proofs.Ending.{by_six, spoiled_by, spoiled_same}
use Rattle.proof_judged_deeds.proofs.Starting.{seated}
use Rattle.proof_judged_deeds.proofs.Joining.{No_start, busy_proto, clean, entered_mirrors, first_is, limited, lost_mirrors, no_row, none_of, other_is, resumed_at, strange}

-- a start enters this state
linked_in : (t x : ℕ) (e u : Sight) → e ≡ u → Contains (linked t x false e ∷ []) (linked t x false u)
linked_in t x e u h = subst (λ (z : Sight). Contains (linked t x false z ∷ []) (linked t x false u)) (sym h)
    (first_in (linked t x false u) [])

one_in : (e u : Sight) → e ≡ u → Contains (e ∷ []) u
one_in e u h = subst (λ (z : Sight). Contains (z ∷ []) u) (sym h) (first_in u [])

some_moved : (b : Bool) → b ≡ false → not b ≡ true
some_moved b h = ap not h

module _ (n : NameNumbers) (old new : States) (d : Xid → JudgedDecision) (s : Sight) (t : ℕ) (x : Xid)
    (flags : Flags) (answer : Code)
    (mirrors : Mirrors n old d s) (once : AreThreadsListedOnce new.associations.holders)
    (right : AreRight wrong_at_start flags.0)
    (opened : is_closed old.init ≡ false) (named : same x null_xid ≡ false) (plain : is_plain flags.0 ≡ false)
    (fj : has flags.0 join ≡ false) (fr : has flags.0 resume ≡ true) where
  abbrev Resumes_so : Type 0
  Resumes_so = Goes n verb.Start s t x flags answer new d

  abbrev Left : Code → Type 0
  Left c = (answer ≡ c) × SameStates old new

  abbrev Made : Bool → AssocRow → Type 0
  Made lost r = Walks old new t x call.StartResume r (resumed lost) answer

  abbrev taken : Sight
  taken = if has_suspended t (n.xid x) s then unlinked t (n.xid x) s else picked (n.xid x) s

  entered_is : entered s (on n t x flags)
      ≡ (if has_suspended t (n.xid x) s then unlinked t (n.xid x) s else picked (n.xid x) s)
  entered_is = resumed_at (is_plain flags.0) (has flags.0 join) (has_suspended t (n.xid x) s)
      (begun t (n.xid x) s) s
      (unlinked t (n.xid x) s) (picked (n.xid x) s) plain fj

  by_stand : (k : Option Stand) (o : AssocState) (b : Bool)
      → stand_as (state_in old.branches.branches x) (d x) ≡ k
      → own_state old.associations t x ≡ o
      → no_start_by k false true (is_two o) (not (moved_of old.associations x == 0)) ≡ b
      → no_start_by (stand_as (state_in old.branches.branches x) (d x)) false true
      (is_two (own_state old.associations t x))
      (not (moved_of old.associations x == 0)) ≡ b
  by_stand k o b q p h = ap (λ z. no_start_by z false true (is_two (own_state old.associations t x))
      (not (moved_of old.associations x == 0))) q
      ∙ ap (λ z. no_start_by k false true (is_two z) (not (moved_of old.associations x == 0))) p ∙ h

  no_resume : No_start n old new d s t x flags answer mirrors once right opened named plain
      false true fj fr true
      → Left code.Proto → Resumes_so
  no_resume e h = no_row n old new d s t x flags answer mirrors once right opened named plain
      false true fj fr e h

  -- the judge's rows
  row_at_work : (u : Sight) → stand_as (state_in old.branches.branches x) (d x) ≡ Some stand.Active
      → entered s (on n t x flags) ≡ u
      → Contains (branch_passes lacks_forced verb.Start s (on n t x flags) reply.Ok)
      (linked t (n.xid x) false u)
  row_at_work u active is = in_else (has flags.0 resume && is_spoiled_at (branch_at (n.xid x) s))
      (spoiled_passes s (on n t x flags) (entered s (on n t x flags)) reply.Ok)
      (start_passes lacks_forced s (on n t x flags) (entered s (on n t x flags)) reply.Ok)
      (linked t (n.xid x) false u)
      (and_right (has flags.0 resume) (is_spoiled_at (branch_at (n.xid x) s))
      (spoiled_same n old d s x mirrors ∙ ap spoiled_by active))
      (linked_in t (n.xid x) (entered s (on n t x flags)) u is)

  row_lost : (u : Sight) → state_in old.branches.branches x ≡ S4 → entered s (on n t x flags) ≡ u
      → Contains (branch_passes lacks_forced verb.Start s (on n t x flags) reply.RolledBack) u
  row_lost u four is = in_then (has flags.0 resume && is_spoiled_at (branch_at (n.xid x) s))
      (spoiled_passes s (on n t x flags) (entered s (on n t x flags)) reply.RolledBack)
      (start_passes lacks_forced s (on n t x flags) (entered s (on n t x flags)) reply.RolledBack) u
      (and_from (has flags.0 resume) (is_spoiled_at (branch_at (n.xid x) s)) fr
      (spoiled_same n old d s x mirrors ∙ ap (λ st. spoiled_by (stand_as st (d x))) four))
      (one_in (entered s (on n t x flags)) u is)

  -- some are suspended for migration
  are_moved : (moved_of old.associations x == 0) ≡ false → list_any (λ m. m == n.xid x) s.migrated ≡ true
  are_moved e = migrated_same n old d s x mirrors ∙ ap not e

  -- the thread's own suspended association is taken up
  own_at_work : stand_as (state_in old.branches.branches x) (d x) ≡ Some stand.Active
      → is_begun (state_in old.branches.branches x) ≡ true → is_some (active_of old.associations t) ≡ false
      → own_state old.associations t x ≡ T2 → Made false (T2, code.Ok, T1) → Resumes_so
  own_at_work active known idle two w =
      let u = linked t (n.xid x) false (unlinked t (n.xid x) s) in
      goes_passed n verb.Start s t x flags answer code.Ok new d
      (linked t (n.xid x) false (unlinked t (n.xid x) s)) refl refl w.answers
      (clean n old new d s t x flags answer mirrors once right opened named plain false true fj fr known idle
      (by_stand (Some stand.Active) T2 false active two refl))
      (row_at_work (unlinked t (n.xid x) s) active
      (entered_is ∙ first_is (has_suspended t (n.xid x) s) (unlinked t (n.xid x) s) (picked (n.xid x) s)
      (mirrors.tied.two t x ∙ ap is_two two)))
      (entered_mirrors n old new d s t x flags answer mirrors once right opened named plain false true fj fr
      call.StartResume T2 (linked t (n.xid x) false (unlinked t (n.xid x) s)) w active known refl refl
      refl mirrors.scans
      (turned n old.associations new.associations t x T2 T1 s.links
      (links_without t (n.xid x) s.links ++ record { thread = t; branch = n.xid x; suspended = false } ∷ [])
      s.migrated s.migrated mirrors.tied w.association.turns
      (relinked_one n t x s.links mirrors.tied.named)
      (same_count n x s.migrated mirrors.tied.moved_named)))

  own_lost : state_in old.branches.branches x ≡ S4 → is_some (active_of old.associations t) ≡ false
      → own_state old.associations t x ≡ T2 → Made true (T2, code.RbRollback, T0) → Resumes_so
  own_lost four idle two w =
      goes_passed n verb.Start s t x flags answer code.RbRollback new d (unlinked t (n.xid x) s)
      refl refl w.answers
      (clean n old new d s t x flags answer mirrors once right opened named plain false true fj fr
      (ap is_begun four) idle
      (by_stand (Some stand.RollbackOnly) T2 false (ap (λ st. stand_as st (d x)) four) two refl))
      (row_lost (unlinked t (n.xid x) s) four
      (entered_is ∙ first_is (has_suspended t (n.xid x) s) (unlinked t (n.xid x) s) (picked (n.xid x) s)
      (mirrors.tied.two t x ∙ ap is_two two)))
      (lost_mirrors n old new d s t x flags answer mirrors once right opened named plain false true fj fr
      call.StartResume T2 (unlinked t (n.xid x) s) (λ e. absurd cc) w four refl refl refl mirrors.scans
      (turned n old.associations new.associations t x T2 T0 s.links (links_without t (n.xid x) s.links)
      s.migrated s.migrated
      mirrors.tied w.association.turns (unlinked_none n t x s.links mirrors.tied.named)
      (same_count n x s.migrated mirrors.tied.moved_named)))

  -- one that belongs to nobody is picked up
  moved_at_work : stand_as (state_in old.branches.branches x) (d x) ≡ Some stand.Active
      → is_begun (state_in old.branches.branches x) ≡ true → is_some (active_of old.associations t) ≡ false
      → own_state old.associations t x ≡ T0 → (moved_of old.associations x == 0) ≡ false
      → Made false (M, code.Ok, T1) → Resumes_so
  moved_at_work active known idle none some w =
      goes_passed n verb.Start s t x flags answer code.Ok new d
      (linked t (n.xid x) false (picked (n.xid x) s)) refl refl w.answers
      (clean n old new d s t x flags answer mirrors once right opened named plain false true fj fr known idle
      (by_stand (Some stand.Active) T0 false active none (ap (λ b. not (not b)) some)))
      (row_at_work (picked (n.xid x) s) active
      (entered_is ∙ other_is (has_suspended t (n.xid x) s) (unlinked t (n.xid x) s) (picked (n.xid x) s)
      (mirrors.tied.two t x ∙ ap is_two none)))
      (entered_mirrors n old new d s t x flags answer mirrors once right opened named plain false true fj fr
      call.StartResume M (linked t (n.xid x) false (picked (n.xid x) s)) w active known refl refl
      refl mirrors.scans
      (turned n old.associations new.associations t x M T1 s.links
      (s.links ++ record { thread = t; branch = n.xid x; suspended = false } ∷ [])
      s.migrated (without_first (n.xid x) s.migrated) mirrors.tied w.association.turns
      (linked_one n t x s.links mirrors.tied.named (mirrors.tied.two t x ∙ ap is_two none))
      (picked_count n x s.migrated (are_moved some) mirrors.tied.moved_named)))

  moved_lost : state_in old.branches.branches x ≡ S4 → is_some (active_of old.associations t) ≡ false
      → own_state old.associations t x ≡ T0 → (moved_of old.associations x == 0) ≡ false
      → Made true (M, code.RbRollback, T0) → Resumes_so
  moved_lost four idle none some w =
      goes_passed n verb.Start s t x flags answer code.RbRollback new d (picked (n.xid x) s)
      refl refl w.answers
      (clean n old new d s t x flags answer mirrors once right opened named plain false true fj fr
      (ap is_begun four) idle
      (by_stand (Some stand.RollbackOnly) T0 false (ap (λ st. stand_as st (d x)) four) none
      (ap (λ b. not (not b)) some)))
      (row_lost (picked (n.xid x) s) four
      (entered_is ∙ other_is (has_suspended t (n.xid x) s) (unlinked t (n.xid x) s) (picked (n.xid x) s)
      (mirrors.tied.two t x ∙ ap is_two none)))
      (lost_mirrors n old new d s t x flags answer mirrors once right opened named plain false true fj fr
      call.StartResume M (picked (n.xid x) s) (λ e. none) w four refl refl refl mirrors.scans
      (turned n old.associations new.associations t x M T0 s.links s.links s.migrated
      (without_first (n.xid x) s.migrated)
      mirrors.tied w.association.turns
      (same_links n t x s.links T0 mirrors.tied.named (mirrors.tied.one t x ∙ ap is_one none)
      (mirrors.tied.two t x ∙ ap is_two none))
      (picked_count n x s.migrated (are_moved some) mirrors.tied.moved_named)))

  -- what the plan comes to
  planned : (lost : Bool) (k : Stand) → stand_as (state_in old.branches.branches x) (d x) ≡ Some k
      → no_start_by (Some k) false true false false ≡ true
      → (is_some (active_of old.associations t) ≡ false → own_state old.associations t x ≡ T2
      → MatchResult (if lost then row T2 code.RbRollback T0 else row T2 code.Ok T1) (Made lost) Left
      → Resumes_so)
      → (is_some (active_of old.associations t) ≡ false → own_state old.associations t x ≡ T0
      → (moved_of old.associations x == 0) ≡ false
      → MatchResult (if lost then row M code.RbRollback T0 else if has_room old.associations t
      then row M code.Ok T1
      else Err code.RmErr) (Made lost) Left → Resumes_so)
      → MatchResult (resume_plan old.associations t x lost) (Made lost) Left → Resumes_so
  planned lost k stood off own moved h =
      let busy = is_some (active_of old.associations t) in
      let seat = has_seat old.associations t x in
      let zero = moved_of old.associations x == 0 in
      let seated_row = if lost then row T2 code.RbRollback T0 else row T2 code.Ok T1 in
      let moved_row = if lost then row M code.RbRollback T0 else if has_room old.associations t
      then row M code.Ok T1
      else Err code.RmErr in
      by_test Resumes_so busy
      (λ b. busy_proto n old new d s t x flags answer mirrors once right opened named plain false true fj fr b
      (at_true (Made lost) Left busy (Err code.Proto)
      (if seat then seated_row else moved_plan old.associations t x lost) b h))
      (λ b. let g = at_false (Made lost) Left busy (Err code.Proto)
      (if seat then seated_row else moved_plan old.associations t x lost) b h in
      by_test Resumes_so seat
      (λ q. own b (seated old.associations t x b q)
      (at_true (Made lost) Left seat seated_row (moved_plan old.associations t x lost) q g))
      (λ q. let f = at_false (Made lost) Left seat seated_row (moved_plan old.associations t x lost) q g in
      let none = none_of n old new d s t x flags answer mirrors once right opened named plain false
      true fj fr b q in
      by_test Resumes_so zero
      (λ z. no_resume (by_stand (Some k) T0 true stood none
      (ap (λ c. no_start_by (Some k) false true false (not c)) z ∙ off))
      (at_true (Made lost) Left zero (Err code.Proto) moved_row z f))
      (λ z. moved b none z (at_false (Made lost) Left zero (Err code.Proto) moved_row z f))))

  at_work : stand_as (state_in old.branches.branches x) (d x) ≡ Some stand.Active
      → is_begun (state_in old.branches.branches x) ≡ true
      → MatchResult (resume_plan old.associations t x false) (Made false) Left → Resumes_so
  at_work active known h = planned false stand.Active active refl
      (λ idle two w. own_at_work active known idle two w)
      (λ idle none some g. by_test Resumes_so (has_room old.associations t)
      (λ r. moved_at_work active known idle none some
      (at_true (Made false) Left (has_room old.associations t) (row M code.Ok T1) (Err code.RmErr) r g))
      (λ r. limited n old new d s t x flags answer mirrors once right opened named plain false true fj fr
      (at_false (Made false) Left (has_room old.associations t) (row M code.Ok T1) (Err code.RmErr) r g))) h

  when_lost : state_in old.branches.branches x ≡ S4
      → MatchResult (resume_plan old.associations t x true) (Made true) Left → Resumes_so
  when_lost four h = planned true stand.RollbackOnly (ap (λ st. stand_as st (d x)) four) refl
      (λ idle two w. own_lost four idle two w) (λ idle none some w. moved_lost four idle none some w) h

  abbrev By : BranchState → Type 0
  By st = ByState st (RefusesCall old new answer code.NotA)
      (λ lost. ReactsByRows old new t x call.StartResume (resume_plan old.associations t x lost)
      (resumed lost) answer)
      (RefusesCall old new answer code.Proto)

  pub resume_goes : Resumes old new t x answer → Resumes_so
  resume_goes h = by_six Resumes_so (state_in old.branches.branches x)
      (λ e. strange n old new d s t x flags answer mirrors once right opened named plain false true fj
      fr (ap is_begun e)
      (subst (λ (st : BranchState). By st) e h))
      (λ e. at_work (ap (λ st. stand_as st (d x)) e) (ap is_begun e)
      (subst (λ (st : BranchState). By st) e h))
      (λ e. at_work (ap (λ st. stand_as st (d x)) e) (ap is_begun e)
      (subst (λ (st : BranchState). By st) e h))
      (λ e. no_resume (by_stand (Some stand.Prepared) (own_state old.associations t x) true
      (ap (λ st. stand_as st (d x)) e)
      refl refl) (subst (λ (st : BranchState). By st) e h))
      (λ e. when_lost e (subst (λ (st : BranchState). By st) e h))
      (λ e. no_resume (by_stand (Some (stand.Heuristic (d x))) (own_state old.associations t x) true
      (ap (λ st. stand_as st (d x)) e) refl refl) (subst (λ (st : BranchState). By st) e h))
