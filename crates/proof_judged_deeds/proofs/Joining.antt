-- Starts that join or resume are steps of the judge.
use Rattle.std.proofs.Common.{◌≡◌, ℕ, Bool, true, false, not, Option, Some, List, [], ◌∷◌, ◌++◌, Err, ◌&&◌, ◌||◌, refl, ap, sym, subst, ◌∙◌}
use Rattle.std.specs.Prelude.{◌==◌, is_some, Contains, MatchResult, if◌then◌else◌}
use Rattle.std.proofs.lemmas.Bool.{not_from_true, not_from_false, or_parts, or_from, and_right, and_left, and_from}
use Rattle.xa_codes.specs.declared.code.Code.{Code}
use Rattle.xa_words.specs.code
use Rattle.xa_codes.specs.declared.flags.Flags.{Flags}
use Rattle.xa_tables.specs.Calls.{join, resume}
use Rattle.xa_tables.specs.declared.call.Call.{Call}
use Rattle.xa_words.specs.call
use Rattle.xa_tables.specs.declared.states.AssocState.{AssocState}
use Rattle.xa_tables.specs.declared.states.AssocState.TheVariants.{T0, T1, M}
use Rattle.xa_tables.specs.declared.states.BranchState.{BranchState}
use Rattle.xa_tables.specs.declared.states.BranchState.TheVariants.{S1, S4}
use Rattle.xa_xid.specs.declared.xid.Xid.{Xid}
use Rattle.xa_xid.specs.Xids.{null_xid}
use Rattle.xa_branch.specs.Names.{same}
use Rattle.xa_branch.specs.Branches.{state_in}
use Rattle.xa_assoc.specs.declared.states.States.{States}
use Rattle.xa_assoc.specs.Associations.{AreThreadsListedOnce, AssocRow, active_of, has_room, has_seat, moved_of, own_state, row, start_plan}
use Rattle.xa_assoc.specs.Answers.{DoesCall, SameStates, Walks, Wanted}
use Rattle.xa_assoc.specs.Reacting.{by_state}
use Rattle.xa_assoc.specs.Ready.{is_closed}
use Rattle.judge_state.specs.declared.parts.JudgedBranch.{JudgedBranch}
use Rattle.judge_state.specs.declared.parts.JudgedDecision.{JudgedDecision}
use Rattle.judge_state.specs.declared.parts.Stand.{Stand}
use Rattle.judge_words.specs.stand
use Rattle.judge_state.specs.Moves.{begun, linked, picked, unlinked}
use Rattle.judge_state.specs.Sights.{Sight}
use Rattle.judge_state.specs.Questions.{branch_at, has_suspended, is_active, is_migrated}
use Rattle.judge_words.specs.verb
use Rattle.judge_words.specs.reply
use Rattle.judge_rules.specs.Flags.{has, wrong_at_start}
use Rattle.judge_rules.specs.Replies.{reply_of}
use Rattle.judge_rules.specs.Defects.{has_no_start, is_bad_name, is_plain, is_spoiled_at, start_defects}
use Rattle.judge_rules.specs.Passes.{entered, spoiled_passes, start_passes}
use Rattle.proof_judged_deeds.specs.Deeds.{on}
use Rattle.proof_judged_deeds.specs.Names.{NameNumbers, lacks_forced, sort_of}
use Rattle.proof_judged_deeds.proofs.Agreements.{no_start_by}
use Rattle.proof_judged_deeds.proofs.Branches.{kept_branches}
use Rattle.proof_judged_deeds.proofs.Links.{Tied, is_two, linked_one, same_count, turned}
use Rattle.proof_judged_deeds.proofs.Mirrors.{AreBranches, Mirrors, is_begun, stand_as, still_open}
use Rattle.proof_judged_deeds.proofs.Orderly.{orderly_worked}
use Rattle.proof_judged_deeds.proofs.Scanning.{AreScans, scans_stay}
use Rattle.proof_judged_deeds.proofs.Rows.{IsClean, IsDefect, Proto, NotA, first_in, in_else}
use Rattle.proof_judged_deeds.proofs.Flags.{AreRight}
use Rattle.proof_judged_deeds.proofs.Steps.{Goes, at_false, at_true, by_test, goes_failed, goes_passed, goes_refused}
use Rattle.proof_judged_deeds.proofs.Checks.{bad_same, closed_same, known_same, no_start_same, or_none, or_three, or_two}
use Rattle.proof_judged_deeds.proofs.Ending.{by_six, out_of}
use Rattle.proof_judged_deeds.proofs.Starting.{busy_same, idle_by, last_part, seated}

lost_join : (two migrated : Bool) → no_start_by (Some stand.RollbackOnly) true false two migrated ≡ true
lost_join true migrated = refl
lost_join false migrated = refl

joined_in : (t x : ℕ) (p j : Bool) (u s v : Sight) → p ≡ false → j ≡ true
    → Contains (linked t x false (if p then u else if j then s else v) ∷ []) (linked t x false s)
joined_in t x p j u s v h k = subst (λ (b : Bool).
    Contains (linked t x false (if b then u else if j then s else v) ∷ [])
    (linked t x false s)) (sym h)
    (subst (λ (b : Bool). Contains (linked t x false (if b then s else v) ∷ []) (linked t x false s)) (sym k)
    (first_in (linked t x false s) []))

-- which state a resume enters
pub resumed_at : (p j two : Bool) (u s a b : Sight) → p ≡ false → j ≡ false
    → (if p then u else if j then s else if two then a else b) ≡ (if two then a else b)
resumed_at p j two u s a b h k = rw (h, k) refl

pub first_is : (two : Bool) (a b : Sight) → two ≡ true → (if two then a else b) ≡ a
first_is two a b h = rw h refl

pub other_is : (two : Bool) (a b : Sight) → two ≡ false → (if two then a else b) ≡ b
other_is two a b h = rw h refl

module _ (n : NameNumbers) (old new : States) (d : Xid → JudgedDecision) (s : Sight) (t : ℕ) (x : Xid)
    (flags : Flags) (answer : Code)
    (mirrors : Mirrors n old d s) (once : AreThreadsListedOnce new.associations.holders)
    (right : AreRight wrong_at_start flags.0)
    (opened : is_closed old.init ≡ false) (named : same x null_xid ≡ false) (plain : is_plain flags.0 ≡ false)
    (joins resumes : Bool) (fj : has flags.0 join ≡ joins) (fr : has flags.0 resume ≡ resumes) where
  abbrev Result_of : Type 0
  Result_of = Goes n verb.Start s t x flags answer new d

  abbrev no_start : Bool
  no_start = has_no_start (branch_at (n.xid x) s) flags.0 (has_suspended t (n.xid x) s)
      (is_migrated (n.xid x) s)

  -- no row, as the judge sees it
  abbrev pub No_start : Bool → Type 0
  No_start b = no_start_by (stand_as (state_in old.branches.branches x) (d x)) joins resumes
      (is_two (own_state old.associations t x)) (not (moved_of old.associations x == 0)) ≡ b

  refuses : (c : Code) → IsDefect (start_defects lacks_forced s (on n t x flags)) (reply_of c) → (answer ≡ c)
      × SameStates old new
      → Result_of
  refuses c defect h = goes_refused n verb.Start s t x flags answer c old new d mirrors defect h

  pub limited : (answer ≡ code.RmErr) × SameStates old new → Result_of
  limited h = goes_failed n verb.Start s t x flags answer old new d mirrors h

  pub strange : is_begun (state_in old.branches.branches x) ≡ false → (answer ≡ code.NotA)
      × SameStates old new → Result_of
  strange e h = refuses code.NotA (NotA (and_from (not (is_plain flags.0))
      (not (is_some (branch_at (n.xid x) s)))
      (not_from_false (is_plain flags.0) plain)
      (not_from_false (is_some (branch_at (n.xid x) s)) (known_same n old d s x mirrors ∙ e)))) h

  pub busy_proto : is_some (active_of old.associations t) ≡ true → (answer ≡ code.Proto) × SameStates old new
      → Result_of
  busy_proto e h = refuses code.Proto (Proto
      (or_two (not s.opened && not false) (is_active t s) (last_part n s t x flags.0)
      (busy_same n old d s t mirrors ∙ e))) h

  pub no_row : No_start true → (answer ≡ code.Proto) × SameStates old new → Result_of
  no_row e h = refuses code.Proto (Proto (or_three (not s.opened && not false) (is_active t s)
      (last_part n s t x flags.0)
      (and_from (not (is_plain flags.0)) no_start (not_from_false (is_plain flags.0) plain)
      (no_start_same n old d s t x flags.0 joins resumes mirrors fj fr ∙ e)))) h

  pub clean : is_begun (state_in old.branches.branches x) ≡ true
      → is_some (active_of old.associations t) ≡ false
      → No_start false → IsClean (start_defects lacks_forced s (on n t x flags))
  clean known idle free = record {
    inval = or_from (wrong_at_start flags.0) (is_bad_name lacks_forced (sort_of x)) right.right
        (bad_same x ∙ named);
    asynchronous = right.sync;
    proto = or_none (not s.opened && not false) (is_active t s) (last_part n s t x flags.0)
        (closed_same n old d s mirrors ∙ opened) (busy_same n old d s t mirrors ∙ idle)
        (and_right (not (is_plain flags.0)) no_start
        (no_start_same n old d s t x flags.0 joins resumes mirrors fj fr ∙ free));
    dup_id = and_left (is_plain flags.0) (is_some (branch_at (n.xid x) s)) plain;
    not_a = and_right (not (is_plain flags.0)) (not (is_some (branch_at (n.xid x) s)))
        (not_from_true (is_some (branch_at (n.xid x) s)) (known_same n old d s x mirrors ∙ known));
  }

  -- a thread comes to be active in a branch at work
  pub entered_mirrors : (c : Call) (from : AssocState) (u : Sight)
      → Walks old new t x c (from, code.Ok, T1) S1 answer
      → stand_as (state_in old.branches.branches x) (d x) ≡ Some stand.Active
      → is_begun (state_in old.branches.branches x) ≡ true
      → u.opened ≡ s.opened → u.hung ≡ s.hung → u.branches ≡ s.branches
      → AreScans n old.branches.scans u.scans u.listed
      → Tied n new.associations u.links u.migrated → Mirrors n new d u
  entered_mirrors c from u w active known o q b scans tied = record {
    opened = o ∙ mirrors.opened ∙ ap (λ i. not (is_closed i)) (sym w.init);
    waits = q ∙ mirrors.waits;
    tied = tied;
    branches = kept_branches n (state_in old.branches.branches) (state_in new.branches.branches) d
        d x S1 u.branches
        (record { own = w.branch.own; others = w.branch.others; decided = λ y differs. refl })
        (sym active) (sym known)
        (subst (λ (bs : List JudgedBranch). AreBranches n (state_in old.branches.branches) d bs) (sym b)
        mirrors.branches);
    orderly = orderly_worked n old.branches new.branches old.associations new.associations t x from T1 S1
        mirrors.orderly once
        w.association (λ p q. absurd cc) w.branch refl (λ _. (t, w.association.turns.own));
    shut = still_open old new opened w.init;
    scans = scans_stay n old.branches.scans new.branches.scans u.scans u.listed w.branch.scans scans;
  }

  -- or finds one that can only be rolled back
  pub lost_mirrors : (c : Call) (from : AssocState) (u : Sight)
      → (from ≡ M → own_state old.associations t x ≡ T0)
      → Walks old new t x c (from, code.RbRollback, T0) S4 answer
      → state_in old.branches.branches x ≡ S4
      → u.opened ≡ s.opened → u.hung ≡ s.hung → u.branches ≡ s.branches
      → AreScans n old.branches.scans u.scans u.listed
      → Tied n new.associations u.links u.migrated → Mirrors n new d u
  lost_mirrors c from u none w four o q b scans tied = record {
    opened = o ∙ mirrors.opened ∙ ap (λ i. not (is_closed i)) (sym w.init);
    waits = q ∙ mirrors.waits;
    tied = tied;
    branches = kept_branches n (state_in old.branches.branches) (state_in new.branches.branches) d
        d x S4 u.branches
        (record { own = w.branch.own; others = w.branch.others; decided = λ y differs. refl })
        (sym (ap (λ st. stand_as st (d x)) four)) (sym (ap is_begun four))
        (subst (λ (bs : List JudgedBranch). AreBranches n (state_in old.branches.branches) d bs) (sym b)
        mirrors.branches);
    orderly = orderly_worked n old.branches new.branches old.associations new.associations t x from T0 S4
        mirrors.orderly once
        w.association (λ p _. none p) w.branch refl (λ e. absurd cc);
    shut = still_open old new opened w.init;
    scans = scans_stay n old.branches.scans new.branches.scans u.scans u.listed w.branch.scans scans;
  }

  -- the thread's own state, where it is active in no branch and has not suspended this one
  pub none_of : is_some (active_of old.associations t) ≡ false → has_seat old.associations t x ≡ false
      → own_state old.associations t x ≡ T0
  none_of idle seat = out_of old.associations t x (idle_by (active_of old.associations t) x idle) seat

  pub two_none : own_state old.associations t x ≡ T0 → has_suspended t (n.xid x) s ≡ false
  two_none e = mirrors.tied.two t x ∙ ap is_two e

-- Joins.

module _ (n : NameNumbers) (old new : States) (d : Xid → JudgedDecision) (s : Sight) (t : ℕ) (x : Xid)
    (flags : Flags) (answer : Code)
    (mirrors : Mirrors n old d s) (once : AreThreadsListedOnce new.associations.holders)
    (right : AreRight wrong_at_start flags.0)
    (opened : is_closed old.init ≡ false) (named : same x null_xid ≡ false) (plain : is_plain flags.0 ≡ false)
    (fj : has flags.0 join ≡ true) (fr : has flags.0 resume ≡ false) where
  abbrev Joins : Type 0
  Joins = Goes n verb.Start s t x flags answer new d

  abbrev Made : AssocRow → Type 0
  Made r = Walks old new t x call.StartJoin r S1 answer

  abbrev Left : Code → Type 0
  Left c = (answer ≡ c) × SameStates old new

  join_none : No_start n old new d s t x flags answer mirrors once right opened named plain true false fj fr
      true → Left code.Proto → Joins
  join_none e h = no_row n old new d s t x flags answer mirrors once right opened named plain
      true false fj fr e h

  by_stand : (k : Option Stand) (b : Bool) → stand_as (state_in old.branches.branches x) (d x) ≡ k
      → no_start_by k true false (is_two (own_state old.associations t x))
      (not (moved_of old.associations x == 0)) ≡ b
      → no_start_by (stand_as (state_in old.branches.branches x) (d x)) true false
      (is_two (own_state old.associations t x))
      (not (moved_of old.associations x == 0)) ≡ b
  by_stand k b q h = ap (λ o. no_start_by o true false (is_two (own_state old.associations t x))
      (not (moved_of old.associations x == 0))) q ∙ h

  enters : stand_as (state_in old.branches.branches x) (d x) ≡ Some stand.Active
      → is_begun (state_in old.branches.branches x) ≡ true
      → is_some (active_of old.associations t) ≡ false → has_seat old.associations t x ≡ false
      → Made (T0, code.Ok, T1) → Joins
  enters active known idle seat w =
      let own = none_of n old new d s t x flags answer mirrors once right opened named plain true false
      fj fr idle seat in
      goes_passed n verb.Start s t x flags answer code.Ok new d (linked t (n.xid x) false s)
      refl refl w.answers
      (clean n old new d s t x flags answer mirrors once right opened named plain true false fj fr known idle
      (by_stand (Some stand.Active) false active
      (ap (λ o. no_start_by (Some stand.Active) true false (is_two o)
      (not (moved_of old.associations x == 0))) own)))
      (in_else (has flags.0 resume && is_spoiled_at (branch_at (n.xid x) s))
      (spoiled_passes s (on n t x flags) (entered s (on n t x flags)) reply.Ok)
      (start_passes lacks_forced s (on n t x flags) (entered s (on n t x flags)) reply.Ok)
      (linked t (n.xid x) false s)
      (and_left (has flags.0 resume) (is_spoiled_at (branch_at (n.xid x) s)) fr)
      (joined_in t (n.xid x) (is_plain flags.0) (has flags.0 join) (begun t (n.xid x) s) s
      (if has_suspended t (n.xid x) s then unlinked t (n.xid x) s else picked (n.xid x) s) plain fj))
      (entered_mirrors n old new d s t x flags answer mirrors once right opened named plain true false fj fr
      call.StartJoin T0 (linked t (n.xid x) false s) w active known refl refl refl mirrors.scans
      (turned n old.associations new.associations t x T0 T1 s.links
      (s.links ++ record { thread = t; branch = n.xid x; suspended = false } ∷ []) s.migrated
      s.migrated mirrors.tied
      w.association.turns
      (linked_one n t x s.links mirrors.tied.named (mirrors.tied.two t x ∙ ap is_two own))
      (same_count n x s.migrated mirrors.tied.moved_named)))

  at_work : stand_as (state_in old.branches.branches x) (d x) ≡ Some stand.Active
      → is_begun (state_in old.branches.branches x) ≡ true
      → MatchResult (start_plan old.associations t x) Made Left → Joins
  at_work active known h =
      let busy = is_some (active_of old.associations t) in
      let seat = has_seat old.associations t x in
      let room = has_room old.associations t in
      let rest = if room then row T0 code.Ok T1 else Err code.RmErr in
      by_test Joins (busy || seat)
      (λ b. let g = at_true Made Left (busy || seat) (Err code.Proto) rest b h in
      by_test Joins busy
      (λ p. busy_proto n old new d s t x flags answer mirrors once right opened named plain true
      false fj fr p g)
      (λ p. join_none (by_stand (Some stand.Active) true active
      (ap (λ o. no_start_by (Some stand.Active) true false (is_two o)
      (not (moved_of old.associations x == 0)))
      (seated old.associations t x p (seat_of busy seat p b)))) g))
      (λ b. let g = at_false Made Left (busy || seat) (Err code.Proto) rest b h in
      let parts = or_parts busy seat b in
      by_test Joins room
      (λ r. enters active known parts.0 parts.1
      (at_true Made Left room (row T0 code.Ok T1) (Err code.RmErr) r g))
      (λ r. limited n old new d s t x flags answer mirrors once right opened named plain true false fj fr
      (at_false Made Left room (row T0 code.Ok T1) (Err code.RmErr) r g)))
    where
      seat_of : (a b : Bool) → a ≡ false → (a || b) ≡ true → b ≡ true
      seat_of true b p h = absurd cc
      seat_of false b p h = h

  abbrev By : BranchState → Type 0
  By st = MatchResult (by_state st (start_plan old.associations t x) (Err code.Proto)) Made Left

  pub join_goes : (wanted : Wanted) → DoesCall wanted old new call.StartJoin t x answer → Joins
  join_goes wanted h = by_six Joins (state_in old.branches.branches x)
      (λ e. strange n old new d s t x flags answer mirrors once right opened named plain true false fj
      fr (ap is_begun e)
      (subst (λ (st : BranchState). By st) e h))
      (λ e. at_work (ap (λ st. stand_as st (d x)) e) (ap is_begun e)
      (subst (λ (st : BranchState). By st) e h))
      (λ e. at_work (ap (λ st. stand_as st (d x)) e) (ap is_begun e)
      (subst (λ (st : BranchState). By st) e h))
      (λ e. join_none (by_stand (Some stand.Prepared) true (ap (λ st. stand_as st (d x)) e) refl)
      (subst (λ (st : BranchState). By st) e h))
      (λ e. join_none (by_stand (Some stand.RollbackOnly) true (ap (λ st. stand_as st (d x)) e)
      (lost_join (is_two (own_state old.associations t x)) (not (moved_of old.associations x == 0))))
      (subst (λ (st : BranchState). By st) e h))
      (λ e. join_none (by_stand (Some (stand.Heuristic (d x))) true (ap (λ st. stand_as st (d x)) e) refl)
      (subst (λ (st : BranchState). By st) e h))
