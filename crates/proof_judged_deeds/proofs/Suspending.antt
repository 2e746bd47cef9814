-- An end that suspends is a step of the judge.
use Rattle.std.proofs.Common.{◌≡◌, ℕ, Bool, true, false, not, Some, List, [], ◌∷◌, ◌++◌, Err, ◌&&◌, ◌||◌, refl, ap, sym, subst, ◌∙◌}
use Rattle.std.specs.Prelude.{◌^◌, ◌-◌, nat_lt, is_some, Contains, MatchResult, if◌then◌else◌}
use Rattle.std.proofs.lemmas.Bool.{not_from_true, not_from_false, or_left, or_right, or_from, and_from, and_left}
use Rattle.xa_codes.specs.declared.code.Code.{Code}
use Rattle.xa_words.specs.code
use Rattle.xa_codes.specs.declared.flags.Flags.{Flags}
use Rattle.xa_tables.specs.Calls.{migrate, suspend}
use Rattle.xa_tables.specs.declared.call.Call.{Call}
use Rattle.xa_tables.specs.declared.states.AssocState.{AssocState}
use Rattle.xa_tables.specs.declared.states.AssocState.TheVariants.{T0, T1, T2, M}
use Rattle.xa_tables.specs.declared.states.BranchState.{BranchState}
use Rattle.xa_tables.specs.declared.states.BranchState.TheVariants.{S4}
use Rattle.xa_xid.specs.declared.xid.Xid.{Xid}
use Rattle.xa_xid.specs.Xids.{null_xid}
use Rattle.xa_branch.specs.Names.{same}
use Rattle.xa_branch.specs.Branches.{state_in}
use Rattle.xa_assoc.specs.declared.states.States.{States}
use Rattle.xa_assoc.specs.Associations.{AreThreadsListedOnce, AssocRow, moved_of, suspend_plan, has_active as holds_active, has_seat, is_active, own_state, row}
use Rattle.xa_assoc.specs.Answers.{ByState, ReactsByRows, RefusesCall, SameStates, Suspends, Walks, left_state}
use Rattle.xa_assoc.specs.Reacting.{left_by, suspend_call}
use Rattle.xa_assoc.specs.Ready.{is_closed}
use Rattle.judge_state.specs.declared.parts.JudgedBranch.{JudgedBranch}
use Rattle.judge_state.specs.declared.parts.JudgedDecision.{JudgedDecision}
use Rattle.judge_words.specs.stand
use Rattle.judge_state.specs.Moves.{linked, links_without, migrating, unlinked}
use Rattle.judge_state.specs.Sights.{Sight}
use Rattle.judge_state.specs.Questions.{branch_at, has_active, has_suspended}
use Rattle.judge_words.specs.verb
use Rattle.judge_words.specs.reply
use Rattle.judge_rules.specs.Flags.{has, wrong_at_end}
use Rattle.judge_rules.specs.Replies.{reply_of}
use Rattle.judge_rules.specs.Defects.{end_defects, has_no_end, is_bad_name, is_spoiled_at}
use Rattle.judge_rules.specs.Passes.{branch_passes, end_passes, end_spoiled, left}
use Rattle.proof_judged_deeds.specs.Deeds.{on}
use Rattle.proof_judged_deeds.specs.Names.{NameNumbers, lacks_forced, sort_of}
use Rattle.proof_judged_deeds.proofs.Branches.{kept_branches}
use Rattle.proof_judged_deeds.proofs.Links.{Tied, is_one, is_two, relinked_two, same_count, turned, unlinked_none}
use Rattle.proof_judged_deeds.proofs.Picking.{moved_count}
use Rattle.proof_judged_deeds.proofs.Ending.{by_six, left_begun, left_busy, left_quiet, left_stands, out_of, seated_in, spoiled_by, spoiled_same}
use Rattle.proof_judged_deeds.proofs.Mirrors.{AreBranches, Mirrors, active_one, entered, is_begun, is_quiet, stand_as, still_open}
use Rattle.proof_judged_deeds.proofs.Orderly.{orderly_worked}
use Rattle.proof_judged_deeds.proofs.Scanning.{AreScans, scans_stay}
use Rattle.proof_judged_deeds.proofs.Rows.{IsClean, Proto, NotA, first_in, in_else, in_if, in_then}
use Rattle.proof_judged_deeds.proofs.Flags.{AreRight}
use Rattle.proof_judged_deeds.proofs.Steps.{Goes, at_false, at_true, by_test, goes_failed, goes_passed, goes_refused}
use Rattle.proof_judged_deeds.proofs.Checks.{bad_same, closed_same, known_same, or_none, or_three, or_two}

-- which association an end leaves
left_in : (a b : Bool) (u v w r : Sight) → a ≡ true → (if b then u else v) ≡ r
    → (if a then (if b then u else v) else w) ≡ r
left_in a b u v w r h k = rw h k

then_is : (b : Bool) (u v : Sight) → b ≡ true → (if b then u else v) ≡ u
then_is b u v h = rw h refl

else_is : (b : Bool) (u v : Sight) → b ≡ false → (if b then u else v) ≡ v
else_is b u v h = rw h refl

one_in : (e u : Sight) → e ≡ u → Contains (e ∷ []) u
one_in e u h = subst (λ (z : Sight). Contains (z ∷ []) u) (sym h) (first_in u [])

module _ (n : NameNumbers) (old new : States) (d : Xid → JudgedDecision) (s : Sight) (t : ℕ) (x : Xid)
    (flags : Flags) (answer : Code)
    (mirrors : Mirrors n old d s) (once : AreThreadsListedOnce new.associations.holders)
    (right : AreRight wrong_at_end flags.0)
    (suspends : has flags.0 suspend ≡ true) (opened : is_closed old.init ≡ false)
    (named : same x null_xid ≡ false) where
  abbrev Result_of : Type 0
  Result_of = Goes n verb.End s t x flags answer new d

  strange : is_begun (state_in old.branches.branches x) ≡ false → RefusesCall old new answer code.NotA
      → Result_of
  strange e h = goes_refused n verb.End s t x flags answer code.NotA old new d mirrors
      (NotA (not_from_false (is_some (branch_at (n.xid x) s)) (known_same n old d s x mirrors ∙ e))) h

  abbrev no_end : Bool
  no_end = has_no_end (is_some (branch_at (n.xid x) s)) (has_active t (n.xid x) s)
      (has_suspended t (n.xid x) s)
      (has flags.0 suspend)

  proto : no_end ≡ true → (answer ≡ code.Proto) × SameStates old new → Result_of
  proto e h = goes_refused n verb.End s t x flags answer code.Proto old new d mirrors
      (Proto (or_right (not s.opened && not false) no_end e)) h

  -- a thread that has no association with the branch, or has suspended it
  outside : own_state old.associations t x ≡ T0 → (answer ≡ code.Proto) × SameStates old new → Result_of
  outside e h = proto (or_two (not (is_some (branch_at (n.xid x) s)))
      (not (has_active t (n.xid x) s || has_suspended t (n.xid x) s))
      (has_suspended t (n.xid x) s && has flags.0 suspend)
      (ap not (ap (λ b. b || has_suspended t (n.xid x) s) (mirrors.tied.one t x)
      ∙ ap (λ b. is_one (own_state old.associations t x) || b) (mirrors.tied.two t x)
      ∙ ap (λ o. is_one o || is_two o) e))) h

  away : own_state old.associations t x ≡ T2 → (answer ≡ code.Proto) × SameStates old new → Result_of
  away e h = proto (or_three (not (is_some (branch_at (n.xid x) s)))
      (not (has_active t (n.xid x) s || has_suspended t (n.xid x) s))
      (has_suspended t (n.xid x) s && has flags.0 suspend)
      (and_from (has_suspended t (n.xid x) s) (has flags.0 suspend)
      (mirrors.tied.two t x ∙ ap is_two e) suspends)) h

  clean : is_begun (state_in old.branches.branches x) ≡ true → own_state old.associations t x ≡ T1
      → IsClean (end_defects lacks_forced s (on n t x flags))
  clean known own = record {
    inval = or_from (wrong_at_end flags.0) (is_bad_name lacks_forced (sort_of x)) right.right
        (bad_same x ∙ named);
    asynchronous = right.sync;
    proto = or_from (not s.opened && not false) no_end (closed_same n old d s mirrors ∙ opened)
        (or_none (not (is_some (branch_at (n.xid x) s)))
        (not (has_active t (n.xid x) s || has_suspended t (n.xid x) s))
        (has_suspended t (n.xid x) s && has flags.0 suspend)
        (not_from_true (is_some (branch_at (n.xid x) s)) (known_same n old d s x mirrors ∙ known))
        (not_from_true (has_active t (n.xid x) s || has_suspended t (n.xid x) s)
        (or_left (has_active t (n.xid x) s) (has_suspended t (n.xid x) s)
        (mirrors.tied.one t x ∙ ap is_one own)))
        (and_left (has_suspended t (n.xid x) s) (has flags.0 suspend)
        (mirrors.tied.two t x ∙ ap is_two own)));
    dup_id = refl;
    not_a = not_from_true (is_some (branch_at (n.xid x) s)) (known_same n old d s x mirrors ∙ known);
  }

  -- the tables after an end
  ended : (c : Call) (a : Code) (to : AssocState) (lost : Bool) (u : Sight)
      → Walks old new t x c (T1, a, to) (left_state new x lost) answer
      → stand_as (left_by lost (holds_active new.associations x)) (d x)
      ≡ stand_as (state_in old.branches.branches x) (d x)
      → is_begun (state_in old.branches.branches x) ≡ true
      → u.opened ≡ s.opened → u.hung ≡ s.hung → u.branches ≡ s.branches
      → AreScans n old.branches.scans u.scans u.listed
      → Tied n new.associations u.links u.migrated → Mirrors n new d u
  ended c a to lost u w stands known o q b scans tied = record {
    opened = o ∙ mirrors.opened ∙ ap (λ i. not (is_closed i)) (sym w.init);
    waits = q ∙ mirrors.waits;
    tied = tied;
    branches = kept_branches n (state_in old.branches.branches) (state_in new.branches.branches) d d x
        (left_state new x lost)
        u.branches (record { own = w.branch.own; others = w.branch.others; decided = λ y differs. refl })
        stands
        (left_begun lost (holds_active new.associations x) ∙ sym known)
        (subst (λ (bs : List JudgedBranch). AreBranches n (state_in old.branches.branches) d bs) (sym b)
        mirrors.branches);
    orderly = orderly_worked n old.branches new.branches old.associations new.associations t x T1 to
        (left_state new x lost)
        mirrors.orderly once w.association (λ p. absurd cc) w.branch
        (left_quiet lost (holds_active new.associations x))
        (λ e. entered new.associations x once (left_busy lost (holds_active new.associations x) e));
    shut = still_open old new opened w.init;
    scans = scans_stay n old.branches.scans new.branches.scans u.scans u.listed w.branch.scans scans;
  }

  abbrev Made : Bool → Bool → AssocRow → Type 0
  Made migrates lost r = Walks old new t x (suspend_call migrates) r (left_state new x lost) answer

  abbrev Left : Code → Type 0
  Left c = (answer ≡ c) × SameStates old new

  abbrev cut : Sight
  cut = unlinked t (n.xid x) s

  -- a branch that can only be rolled back
  rolls : (migrates : Bool) → own_state old.associations t x ≡ T1 → state_in old.branches.branches x ≡ S4
      → Made migrates true (T1, code.RbRollback, T0) → Result_of
  rolls migrates own four w = goes_passed n verb.End s t x flags answer code.RbRollback new d
      (unlinked t (n.xid x) s) refl refl w.answers
      (clean (ap is_begun four) own)
      (in_then (is_spoiled_at (branch_at (n.xid x) s))
      (end_spoiled (on n t x flags) (unlinked t (n.xid x) s) reply.RolledBack)
      (end_passes lacks_forced (on n t x flags) (unlinked t (n.xid x) s) reply.RolledBack)
      (unlinked t (n.xid x) s)
      (spoiled_same n old d s x mirrors ∙ ap (λ st. spoiled_by (stand_as st (d x))) four)
      (first_in (unlinked t (n.xid x) s) []))
      (ended (suspend_call migrates) code.RbRollback T0 true (unlinked t (n.xid x) s) w
      (sym (ap (λ st. stand_as st (d x)) four)) (ap is_begun four) refl refl refl mirrors.scans
      (turned n old.associations new.associations t x T1 T0 s.links (links_without t (n.xid x) s.links)
      s.migrated s.migrated
      mirrors.tied w.association.turns (unlinked_none n t x s.links mirrors.tied.named)
      (same_count n x s.migrated mirrors.tied.moved_named)))

  passes_row : (c : Code) (u : Sight) → stand_as (state_in old.branches.branches x) (d x) ≡ Some stand.Active
      → Contains (end_passes lacks_forced (on n t x flags) (unlinked t (n.xid x) s) (reply_of c)) u
      → Contains (branch_passes lacks_forced verb.End s (on n t x flags) (reply_of c)) u
  passes_row c u active row = in_else (is_spoiled_at (branch_at (n.xid x) s))
      (end_spoiled (on n t x flags) (unlinked t (n.xid x) s) (reply_of c))
      (end_passes lacks_forced (on n t x flags) (unlinked t (n.xid x) s) (reply_of c)) u
      (spoiled_same n old d s x mirrors ∙ ap spoiled_by active) row

  kept : stand_as (state_in old.branches.branches x) (d x) ≡ Some stand.Active
      → stand_as (left_by false (holds_active new.associations x)) (d x)
      ≡ stand_as (state_in old.branches.branches x) (d x)
  kept active = left_stands (holds_active new.associations x) (d x) ∙ sym active

  relinks : (c : Call) (a : Code) → Walks old new t x c (T1, a, T2) (left_state new x false) answer
      → Tied n new.associations (links_without t (n.xid x) s.links
      ++ record { thread = t; branch = n.xid x; suspended = true } ∷ []) s.migrated
  relinks c a w = turned n old.associations new.associations t x T1 T2 s.links
      (links_without t (n.xid x) s.links
      ++ record { thread = t; branch = n.xid x; suspended = true } ∷ []) s.migrated s.migrated
      mirrors.tied w.association.turns (relinked_two n t x s.links mirrors.tied.named)
      (same_count n x s.migrated mirrors.tied.moved_named)

  -- the thread alone may resume it
  holds_it : (migrates : Bool) → has flags.0 migrate ≡ false → own_state old.associations t x ≡ T1
      → stand_as (state_in old.branches.branches x) (d x) ≡ Some stand.Active
      → is_begun (state_in old.branches.branches x) ≡ true
      → Made migrates false (T1, code.Ok, T2) → Result_of
  holds_it migrates none own active known w =
      goes_passed n verb.End s t x flags answer code.Ok new d
      (linked t (n.xid x) true (unlinked t (n.xid x) s)) refl refl w.answers
      (clean known own)
      (passes_row code.Ok (linked t (n.xid x) true (unlinked t (n.xid x) s)) active
      (one_in (left (on n t x flags) (unlinked t (n.xid x) s))
      (linked t (n.xid x) true (unlinked t (n.xid x) s))
      (left_in (has flags.0 suspend) (has flags.0 migrate) (migrating (n.xid x) (unlinked t (n.xid x) s))
      (linked t (n.xid x) true (unlinked t (n.xid x) s)) (unlinked t (n.xid x) s)
      (linked t (n.xid x) true (unlinked t (n.xid x) s)) suspends
      (else_is (has flags.0 migrate) (migrating (n.xid x) (unlinked t (n.xid x) s))
      (linked t (n.xid x) true (unlinked t (n.xid x) s)) none))))
      (ended (suspend_call migrates) code.Ok T2 false (linked t (n.xid x) true (unlinked t (n.xid x) s)) w
      (kept active) known
      refl refl refl mirrors.scans (relinks (suspend_call migrates) code.Ok w))

  -- the manager does not migrate
  no_migrate : has flags.0 migrate ≡ true → own_state old.associations t x ≡ T1
      → stand_as (state_in old.branches.branches x) (d x) ≡ Some stand.Active
      → is_begun (state_in old.branches.branches x) ≡ true
      → Made true false (T1, code.NoMigrate, T2) → Result_of
  no_migrate some own active known w =
      goes_passed n verb.End s t x flags answer code.NoMigrate new d
      (linked t (n.xid x) true (unlinked t (n.xid x) s)) refl refl w.answers
      (clean known own)
      (passes_row code.NoMigrate (linked t (n.xid x) true (unlinked t (n.xid x) s)) active
      (in_if (has flags.0 migrate && has flags.0 suspend) (linked t (n.xid x) true (unlinked t (n.xid x) s))
      (and_from (has flags.0 migrate) (has flags.0 suspend) some suspends)))
      (ended (suspend_call true) code.NoMigrate T2 false (linked t (n.xid x) true (unlinked t (n.xid x) s)) w
      (kept active) known
      refl refl refl mirrors.scans (relinks (suspend_call true) code.NoMigrate w))

  -- it belongs to nobody
  moves : has flags.0 migrate ≡ true → own_state old.associations t x ≡ T1
      → stand_as (state_in old.branches.branches x) (d x) ≡ Some stand.Active
      → is_begun (state_in old.branches.branches x) ≡ true
      → Made true false (T1, code.Ok, M) → Result_of
  moves some own active known w =
      goes_passed n verb.End s t x flags answer code.Ok new d (migrating (n.xid x) (unlinked t (n.xid x) s))
      refl refl w.answers
      (clean known own)
      (passes_row code.Ok (migrating (n.xid x) (unlinked t (n.xid x) s)) active
      (one_in (left (on n t x flags) (unlinked t (n.xid x) s)) (migrating (n.xid x) (unlinked t (n.xid x) s))
      (left_in (has flags.0 suspend) (has flags.0 migrate) (migrating (n.xid x) (unlinked t (n.xid x) s))
      (linked t (n.xid x) true (unlinked t (n.xid x) s)) (unlinked t (n.xid x) s)
      (migrating (n.xid x) (unlinked t (n.xid x) s)) suspends
      (then_is (has flags.0 migrate) (migrating (n.xid x) (unlinked t (n.xid x) s))
      (linked t (n.xid x) true (unlinked t (n.xid x) s)) some))))
      (ended (suspend_call true) code.Ok M false (migrating (n.xid x) (unlinked t (n.xid x) s)) w
      (kept active) known
      refl refl refl mirrors.scans
      (turned n old.associations new.associations t x T1 M s.links
      (links_without t (n.xid x) s.links) s.migrated
      (s.migrated ++ n.xid x ∷ []) mirrors.tied w.association.turns
      (unlinked_none n t x s.links mirrors.tied.named)
      (moved_count n x s.migrated mirrors.tied.moved_named)))

  not_active : is_active old.associations t x ≡ false → (answer ≡ code.Proto) × SameStates old new → Result_of
  not_active p h = by_test Result_of (has_seat old.associations t x)
      (λ q. away (seated_in old.associations t x p q) h)
      (λ q. outside (out_of old.associations t x p q) h)

  flip_true : (b : Bool) → b ≡ true → not b ≡ false
  flip_true b h = ap not h

  flip_false : (b : Bool) → b ≡ false → not b ≡ true
  flip_false b h = ap not h

  planned : (migrates lost : Bool)
      → (own_state old.associations t x ≡ T1
      → MatchResult (if lost then row T1 code.RbRollback T0 else if not migrates then row T1 code.Ok T2
      else if not old.associations.migrates then row T1 code.NoMigrate T2
      else if nat_lt (moved_of old.associations x) (2 ^ 64 - 1) then row T1 code.Ok M else Err code.RmErr)
      (Made migrates lost) Left → Result_of)
      → MatchResult (suspend_plan old.associations t x lost migrates) (Made migrates lost) Left → Result_of
  planned migrates lost goes h =
      let act = is_active old.associations t x in
      let rest = if lost then row T1 code.RbRollback T0 else if not migrates then row T1 code.Ok T2
      else if not old.associations.migrates then row T1 code.NoMigrate T2
      else if nat_lt (moved_of old.associations x) (2 ^ 64 - 1) then row T1 code.Ok M else Err code.RmErr in
      by_test Result_of act
      (λ p. goes (active_one old.associations t x p)
      (at_false (Made migrates lost) Left (not act) (Err code.Proto) rest (flip_true act p) h))
      (λ p. not_active p (at_true (Made migrates lost) Left (not act) (Err code.Proto) rest
      (flip_false act p) h))

  at_work : (migrates : Bool) → has flags.0 migrate ≡ migrates
      → stand_as (state_in old.branches.branches x) (d x) ≡ Some stand.Active
      → is_begun (state_in old.branches.branches x) ≡ true
      → MatchResult (suspend_plan old.associations t x false migrates) (Made migrates false) Left → Result_of
  at_work false none active known h = planned false false (λ own w. holds_it false none own active known w) h
  at_work true some active known h = planned true false (λ own g.
      let may = old.associations.migrates in
      let spare = nat_lt (moved_of old.associations x) (2 ^ 64 - 1) in
      let rest = if spare then row T1 code.Ok M else Err code.RmErr in
      by_test Result_of may
      (λ m.
      let f = at_false (Made true false) Left (not may) (row T1 code.NoMigrate T2) rest (flip_true may m) g
      in
      by_test Result_of spare
      (λ q. moves some own active known (at_true (Made true false) Left spare (row T1 code.Ok M)
      (Err code.RmErr) q f))
      (λ q. goes_failed n verb.End s t x flags answer old new d mirrors
      (at_false (Made true false) Left spare (row T1 code.Ok M) (Err code.RmErr) q f)))
      (λ m. no_migrate some own active known
      (at_true (Made true false) Left (not may) (row T1 code.NoMigrate T2) rest (flip_false may m) g))) h

  when_lost : (migrates : Bool) → state_in old.branches.branches x ≡ S4
      → MatchResult (suspend_plan old.associations t x true migrates) (Made migrates true) Left → Result_of
  when_lost migrates four h = planned migrates true (λ own w. rolls migrates own four w) h

  abbrev By : Bool → BranchState → Type 0
  By migrates st = ByState st (RefusesCall old new answer code.NotA)
      (λ lost. ReactsByRows old new t x (suspend_call migrates)
      (suspend_plan old.associations t x lost migrates)
      (left_state new x lost) answer) (RefusesCall old new answer code.Proto)

  pub suspend_goes : (migrates : Bool) → has flags.0 migrate ≡ migrates → Suspends old new t x migrates answer
      → Result_of
  suspend_goes migrates m h = by_six Result_of (state_in old.branches.branches x)
      (λ e. strange (ap is_begun e) (subst (λ (st : BranchState). By migrates st) e h))
      (λ e. at_work migrates m (ap (λ st. stand_as st (d x)) e) (ap is_begun e)
      (subst (λ (st : BranchState). By migrates st) e h))
      (λ e. at_work migrates m (ap (λ st. stand_as st (d x)) e) (ap is_begun e)
      (subst (λ (st : BranchState). By migrates st) e h))
      (λ e. outside (mirrors.orderly.quiet t x (ap is_quiet e))
      (subst (λ (st : BranchState). By migrates st) e h))
      (λ e. when_lost migrates e (subst (λ (st : BranchState). By migrates st) e h))
      (λ e. outside (mirrors.orderly.quiet t x (ap is_quiet e))
      (subst (λ (st : BranchState). By migrates st) e h))
