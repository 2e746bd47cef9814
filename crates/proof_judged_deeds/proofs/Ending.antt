-- An end of work, done or failed, is a step of the judge.
use Rattle.std.proofs.Common.{◌≡◌, ℕ, Bool, true, false, not, Option, Some, None, [], ◌∷◌, Err, option_map, ◌&&◌, ◌||◌, refl, ap, sym, subst, ◌∙◌, inl, inr}
use Rattle.std.specs.Prelude.{◌⊎◌, is_some, Contains, MatchResult, if◌then◌else◌}
use Rattle.std.proofs.lemmas.Bool.{not_from_true, not_from_false, or_right, or_from, and_right}
use Rattle.xa_codes.specs.declared.code.Code.{Code}
use Rattle.xa_words.specs.code
use Rattle.xa_codes.specs.declared.flags.Flags.{Flags}
use Rattle.xa_tables.specs.Calls.{fail, migrate, suspend}
use Rattle.xa_tables.specs.declared.call.Call.{Call}
use Rattle.xa_words.specs.call
use Rattle.xa_tables.specs.declared.states.AssocState.{AssocState}
use Rattle.xa_tables.specs.declared.states.AssocState.TheVariants.{T0, T1, T2, M}
use Rattle.xa_tables.specs.declared.states.BranchState.{BranchState}
use Rattle.xa_tables.specs.declared.states.BranchState.TheVariants.{S0, S1, S2, S3, S4, S5}
use Rattle.xa_xid.specs.declared.xid.Xid.{Xid}
use Rattle.xa_xid.specs.Xids.{null_xid}
use Rattle.xa_branch.specs.Names.{same}
use Rattle.xa_branch.specs.Branches.{state_in}
use Rattle.xa_assoc.specs.declared.states.States.{States}
use Rattle.xa_assoc.specs.Associations.{AreThreadsListedOnce, AssocList, AssocRow, counts, end_plan, has_active as holds_active, has_seat, is_active, own_state, row}
use Rattle.xa_assoc.specs.Answers.{ByState, EndsWork, ReactsByRows, RefusesCall, SameStates, Walks, left_state}
use Rattle.xa_assoc.specs.Reacting.{end_call, left_by}
use Rattle.xa_assoc.specs.Ready.{is_closed}
use Rattle.judge_state.specs.declared.parts.JudgedBranch.{JudgedBranch}
use Rattle.judge_state.specs.declared.parts.JudgedDecision.{JudgedDecision}
use Rattle.judge_state.specs.declared.parts.Stand.{Stand}
use Rattle.judge_words.specs.stand
use Rattle.judge_state.specs.Moves.{linked, links_without, marked, migrating, unlinked}
use Rattle.judge_state.specs.Sights.{Sight}
use Rattle.judge_state.specs.Questions.{branch_at, has_active, has_suspended}
use Rattle.judge_words.specs.verb
use Rattle.judge_words.specs.reply
use Rattle.judge_rules.specs.Flags.{has, wrong_at_end}
use Rattle.judge_rules.specs.Defects.{end_defects, has_no_end, is_bad_name, is_spoiled_at, stands_spoiled}
use Rattle.judge_rules.specs.Passes.{end_passes, end_spoiled}
use Rattle.proof_judged_deeds.specs.Deeds.{on}
use Rattle.proof_judged_deeds.specs.Names.{NameNumbers, lacks_forced, sort_of}
use Rattle.proof_judged_deeds.proofs.Branches.{kept_branches, stood_branches}
use Rattle.proof_judged_deeds.proofs.Links.{Count, Tied, is_one, is_two, same_count, turned, unlinked_none}
use Rattle.proof_judged_deeds.proofs.Mirrors.{IsOrderly, Mirrors, active_one, entered, is_begun, is_quiet, stand_as, stands_at, still_open}
use Rattle.proof_judged_deeds.proofs.Orderly.{orderly_worked}
use Rattle.proof_judged_deeds.proofs.Scanning.{scans_stay}
use Rattle.proof_judged_deeds.proofs.Rows.{IsClean, Proto, NotA, first_in, in_else, in_if, in_then}
use Rattle.proof_judged_deeds.proofs.Flags.{AreRight}
use Rattle.proof_judged_deeds.proofs.Steps.{Goes, at_false, at_true, by_test, goes_passed, goes_refused}
use Rattle.proof_judged_deeds.proofs.Checks.{bad_same, closed_same, known_same, or_none, or_two}

-- a branch of the judge can only be rolled back
abbrev pub spoiled_by : Option Stand → Bool
spoiled_by None = false
spoiled_by (Some k) = stands_spoiled k

spoiled_is : (o : Option JudgedBranch) → is_spoiled_at o ≡ spoiled_by (option_map (λ b. b.stand) o)
spoiled_is None = refl
spoiled_is (Some b) = refl

pub spoiled_same : (n : NameNumbers) (m : States) (d : Xid → JudgedDecision) (s : Sight) (x : Xid)
    → Mirrors n m d s
    → is_spoiled_at (branch_at (n.xid x) s) ≡ spoiled_by (stand_as (state_in m.branches.branches x) (d x))
spoiled_same n m d s x mirrors = spoiled_is (branch_at (n.xid x) s)
    ∙ ap spoiled_by (stands_at n (state_in m.branches.branches) d s.branches x mirrors.branches)

pub by_six : (P : Type 0) (s : BranchState) → (s ≡ S0 → P) → (s ≡ S1 → P) → (s ≡ S2 → P) → (s ≡ S3 → P)
    → (s ≡ S4 → P)
    → (s ≡ S5 → P) → P
by_six P S0 a b c d e f = a refl
by_six P S1 a b c d e f = b refl
by_six P S2 a b c d e f = c refl
by_six P S3 a b c d e f = d refl
by_six P S4 a b c d e f = e refl
by_six P S5 a b c d e f = f refl

pub left_quiet : (lost active : Bool) → is_quiet (left_by lost active) ≡ false
left_quiet true active = refl
left_quiet false true = refl
left_quiet false false = refl

pub left_busy : (lost active : Bool) → left_by lost active ≡ S1 → active ≡ true
left_busy true active h = absurd cc
left_busy false true h = refl
left_busy false false h = absurd cc

pub left_stands : (active : Bool) (c : JudgedDecision) → stand_as (left_by false active) c ≡ Some stand.Active
left_stands true c = refl
left_stands false c = refl

pub left_begun : (lost active : Bool) → is_begun (left_by lost active) ≡ true
left_begun true active = refl
left_begun false true = refl
left_begun false false = refl

none_by : (b c : Bool) → b ≡ false → c ≡ false → (if b then T1 else if c then T2 else T0) ≡ T0
none_by b c p q = rw (p, q) refl

pub out_of : (a : AssocList) (t : ℕ) (x : Xid) → is_active a t x ≡ false → has_seat a t x ≡ false
    → own_state a t x ≡ T0
out_of a t x p q = none_by (is_active a t x) (has_seat a t x) p q

two_by : (b c : Bool) → b ≡ false → c ≡ true → (if b then T1 else if c then T2 else T0) ≡ T2
two_by b c p q = rw (p, q) refl

pub seated_in : (a : AssocList) (t : ℕ) (x : Xid) → is_active a t x ≡ false → has_seat a t x ≡ true
    → own_state a t x ≡ T2
seated_in a t x p q = two_by (is_active a t x) (has_seat a t x) p q

-- a test that fails leaves the second
second_is : (b : Bool) (u v : Sight) → b ≡ false → (if b then u else v) ≡ v
second_is b u v h = rw h refl

module _ (n : NameNumbers) (old new : States) (d : Xid → JudgedDecision) (s : Sight) (t : ℕ) (x : Xid)
    (flags : Flags) (answer : Code)
    (mirrors : Mirrors n old d s) (once : AreThreadsListedOnce new.associations.holders)
    (right : AreRight wrong_at_end flags.0)
    (stays : has flags.0 suspend ≡ false) (opened : is_closed old.init ≡ false)
    (named : same x null_xid ≡ false) where
  abbrev Result_of : Type 0
  Result_of = Goes n verb.End s t x flags answer new d

  links_same : (has_active t (n.xid x) s || has_suspended t (n.xid x) s)
      ≡ (is_one (own_state old.associations t x) || is_two (own_state old.associations t x))
  links_same = ap (λ b. b || has_suspended t (n.xid x) s) (mirrors.tied.one t x)
      ∙ ap (λ b. is_one (own_state old.associations t x) || b) (mirrors.tied.two t x)

  -- a branch that is not known
  strange : is_begun (state_in old.branches.branches x) ≡ false → RefusesCall old new answer code.NotA
      → Result_of
  strange e h = goes_refused n verb.End s t x flags answer code.NotA old new d mirrors
      (NotA (not_from_false (is_some (branch_at (n.xid x) s)) (known_same n old d s x mirrors ∙ e))) h

  -- a thread that has no association with the branch
  outside : own_state old.associations t x ≡ T0 → (answer ≡ code.Proto) × SameStates old new → Result_of
  outside e h = goes_refused n verb.End s t x flags answer code.Proto old new d mirrors
      (Proto (or_right (not s.opened && not false)
      (has_no_end (is_some (branch_at (n.xid x) s)) (has_active t (n.xid x) s)
      (has_suspended t (n.xid x) s) (has flags.0 suspend))
      (or_two (not (is_some (branch_at (n.xid x) s)))
      (not (has_active t (n.xid x) s || has_suspended t (n.xid x) s))
      (has_suspended t (n.xid x) s && has flags.0 suspend)
      (ap not (links_same ∙ ap (λ o. is_one o || is_two o) e))))) h

  -- nothing refuses an end by a thread that has one
  clean : is_begun (state_in old.branches.branches x) ≡ true
      → (is_one (own_state old.associations t x) || is_two (own_state old.associations t x)) ≡ true
      → IsClean (end_defects lacks_forced s (on n t x flags))
  clean known has_one = record {
    inval = or_from (wrong_at_end flags.0) (is_bad_name lacks_forced (sort_of x)) right.right
        (bad_same x ∙ named);
    asynchronous = right.sync;
    proto = or_from (not s.opened && not false)
        (has_no_end (is_some (branch_at (n.xid x) s)) (has_active t (n.xid x) s)
        (has_suspended t (n.xid x) s) (has flags.0 suspend)) (closed_same n old d s mirrors ∙ opened)
        (or_none (not (is_some (branch_at (n.xid x) s)))
        (not (has_active t (n.xid x) s || has_suspended t (n.xid x) s))
        (has_suspended t (n.xid x) s && has flags.0 suspend)
        (not_from_true (is_some (branch_at (n.xid x) s)) (known_same n old d s x mirrors ∙ known))
        (not_from_true (has_active t (n.xid x) s || has_suspended t (n.xid x) s) (links_same ∙ has_one))
        (and_right (has_suspended t (n.xid x) s) (has flags.0 suspend) stays));
    dup_id = refl;
    not_a = not_from_true (is_some (branch_at (n.xid x) s)) (known_same n old d s x mirrors ∙ known);
  }

  -- the associations after an end
  unlinks : (c : Call) (from : AssocState) (a : Code) (to : BranchState) → (from ≡ T1) ⊎ (from ≡ T2)
      → Walks old new t x c (from, a, T0) to answer
      → Tied n new.associations (links_without t (n.xid x) s.links) s.migrated
  unlinks c from a to (inl e) w = turned n old.associations new.associations t x from T0 s.links
      (links_without t (n.xid x) s.links) s.migrated s.migrated mirrors.tied w.association.turns
      (unlinked_none n t x s.links mirrors.tied.named)
      (subst (λ (f : AssocState). Count n x s.migrated s.migrated (counts f) 0) (sym e)
      (same_count n x s.migrated mirrors.tied.moved_named))
  unlinks c from a to (inr e) w = turned n old.associations new.associations t x from T0 s.links
      (links_without t (n.xid x) s.links) s.migrated s.migrated mirrors.tied w.association.turns
      (unlinked_none n t x s.links mirrors.tied.named)
      (subst (λ (f : AssocState). Count n x s.migrated s.migrated (counts f) 0) (sym e)
      (same_count n x s.migrated mirrors.tied.moved_named))

  never_moved : (from : AssocState) → (from ≡ T1) ⊎ (from ≡ T2) → from ≡ M
      → own_state old.associations t x ≡ T0
  never_moved from (inl p) q = absurd (let e2 : T1 ≡ M = sym p ∙ q in cc)
  never_moved from (inr p) q = absurd (let e2 : T2 ≡ M = sym p ∙ q in cc)

  orderly : (c : Call) (from : AssocState) (a : Code) (lost : Bool) → (from ≡ T1) ⊎ (from ≡ T2)
      → Walks old new t x c (from, a, T0) (left_state new x lost) answer
      → IsOrderly new.branches.branches new.associations
  orderly c from a lost kind w = orderly_worked n old.branches new.branches old.associations
      new.associations t x from T0
      (left_state new x lost) mirrors.orderly once w.association (λ p _. never_moved from kind p) w.branch
      (left_quiet lost (holds_active new.associations x))
      (λ e. entered new.associations x once (left_busy lost (holds_active new.associations x) e))

  -- work that is done in a branch at work
  done : (c : Call) (from : AssocState) → (from ≡ T1) ⊎ (from ≡ T2)
      → (is_one (own_state old.associations t x) || is_two (own_state old.associations t x)) ≡ true
      → stand_as (state_in old.branches.branches x) (d x) ≡ Some stand.Active
      → is_begun (state_in old.branches.branches x) ≡ true
      → Walks old new t x c (from, code.Ok, T0) (left_state new x false) answer → Result_of
  done c from kind has_one active known w = goes_passed n verb.End s t x flags answer code.Ok new d
      (unlinked t (n.xid x) s)
      refl refl w.answers (clean known has_one)
      (in_else (is_spoiled_at (branch_at (n.xid x) s))
      (end_spoiled (on n t x flags) (unlinked t (n.xid x) s) reply.Ok)
      (end_passes lacks_forced (on n t x flags) (unlinked t (n.xid x) s) reply.Ok) (unlinked t (n.xid x) s)
      (spoiled_same n old d s x mirrors ∙ ap spoiled_by active)
      (subst (λ (u : Sight). Contains (u ∷ []) (unlinked t (n.xid x) s))
      (sym (second_is (has flags.0 suspend) (if has flags.0 migrate
      then migrating (n.xid x) (unlinked t (n.xid x) s)
      else linked t (n.xid x) true (unlinked t (n.xid x) s)) (unlinked t (n.xid x) s) stays))
      (first_in (unlinked t (n.xid x) s) [])))
      (record {
        opened = mirrors.opened ∙ ap (λ i. not (is_closed i)) (sym w.init);
        waits = mirrors.waits;
        tied = unlinks c from code.Ok (left_state new x false) kind w;
        branches = kept_branches n (state_in old.branches.branches) (state_in new.branches.branches) d d x
            (left_state new x false) s.branches
            (record { own = w.branch.own; others = w.branch.others; decided = λ y differs. refl })
            (left_stands (holds_active new.associations x) (d x) ∙ sym active)
            (left_begun false (holds_active new.associations x) ∙ sym known) mirrors.branches;
        orderly = orderly c from code.Ok false kind w;
        shut = still_open old new opened w.init;
        scans = scans_stay n old.branches.scans new.branches.scans s.scans s.listed
            w.branch.scans mirrors.scans;
      })

  -- an end in a branch that can only be rolled back
  lost : (c : Call) (from : AssocState) → (from ≡ T1) ⊎ (from ≡ T2)
      → (is_one (own_state old.associations t x) || is_two (own_state old.associations t x)) ≡ true
      → state_in old.branches.branches x ≡ S4
      → Walks old new t x c (from, code.RbRollback, T0) (left_state new x true) answer → Result_of
  lost c from kind has_one four w = goes_passed n verb.End s t x flags answer code.RbRollback new d
      (unlinked t (n.xid x) s)
      refl refl w.answers (clean (ap is_begun four) has_one)
      (in_then (is_spoiled_at (branch_at (n.xid x) s))
      (end_spoiled (on n t x flags) (unlinked t (n.xid x) s) reply.RolledBack)
      (end_passes lacks_forced (on n t x flags) (unlinked t (n.xid x) s) reply.RolledBack)
      (unlinked t (n.xid x) s)
      (spoiled_same n old d s x mirrors ∙ ap (λ st. spoiled_by (stand_as st (d x))) four)
      (first_in (unlinked t (n.xid x) s) []))
      (record {
        opened = mirrors.opened ∙ ap (λ i. not (is_closed i)) (sym w.init);
        waits = mirrors.waits;
        tied = unlinks c from code.RbRollback (left_state new x true) kind w;
        branches = kept_branches n (state_in old.branches.branches) (state_in new.branches.branches) d d x
            (left_state new x true) s.branches
            (record { own = w.branch.own; others = w.branch.others; decided = λ y differs. refl })
            (sym (ap (λ st. stand_as st (d x)) four)) (sym (ap is_begun four)) mirrors.branches;
        orderly = orderly c from code.RbRollback true kind w;
        shut = still_open old new opened w.init;
        scans = scans_stay n old.branches.scans new.branches.scans s.scans s.listed
            w.branch.scans mirrors.scans;
      })

  -- work that failed in a branch at work
  failed : (c : Call) (from : AssocState) → (from ≡ T1) ⊎ (from ≡ T2)
      → (is_one (own_state old.associations t x) || is_two (own_state old.associations t x)) ≡ true
      → stand_as (state_in old.branches.branches x) (d x) ≡ Some stand.Active
      → is_begun (state_in old.branches.branches x) ≡ true
      → Walks old new t x c (from, code.RbRollback, T0) (left_state new x true) answer → Result_of
  failed c from kind has_one active known w = goes_passed n verb.End s t x flags answer code.RbRollback new d
      (marked (n.xid x) (unlinked t (n.xid x) s)) refl refl w.answers (clean known has_one)
      (in_else (is_spoiled_at (branch_at (n.xid x) s))
      (end_spoiled (on n t x flags) (unlinked t (n.xid x) s) reply.RolledBack)
      (end_passes lacks_forced (on n t x flags) (unlinked t (n.xid x) s) reply.RolledBack)
      (marked (n.xid x) (unlinked t (n.xid x) s))
      (spoiled_same n old d s x mirrors ∙ ap spoiled_by active)
      (in_if (has flags.0 fail || not false) (marked (n.xid x) (unlinked t (n.xid x) s))
      (or_right (has flags.0 fail) true refl)))
      (record {
        opened = mirrors.opened ∙ ap (λ i. not (is_closed i)) (sym w.init);
        waits = mirrors.waits;
        tied = unlinks c from code.RbRollback (left_state new x true) kind w;
        branches = stood_branches n (state_in old.branches.branches) (state_in new.branches.branches) d d x
            (left_state new x true) stand.RollbackOnly s.branches
            (record { own = w.branch.own; others = w.branch.others; decided = λ y differs. refl })
            refl known refl mirrors.branches;
        orderly = orderly c from code.RbRollback true kind w;
        shut = still_open old new opened w.init;
        scans = scans_stay n old.branches.scans new.branches.scans s.scans s.listed
            w.branch.scans mirrors.scans;
      })

  -- an end, where the plan's row ends an association
  abbrev Made : Call → BranchState → AssocRow → Type 0
  Made c to r = Walks old new t x c r to answer

  abbrev Left : Code → Type 0
  Left c = (answer ≡ c) × SameStates old new

  planned : (c : Call) (is_lost succeeds : Bool) (a : Code) (to : BranchState)
      → a ≡ (if succeeds && not is_lost then code.Ok else code.RbRollback)
      → ((from : AssocState) → (from ≡ T1) ⊎ (from ≡ T2)
      → (is_one (own_state old.associations t x) || is_two (own_state old.associations t x)) ≡ true
      → Walks old new t x c (from, a, T0) to answer → Result_of)
      → MatchResult (end_plan old.associations t x is_lost succeeds) (Made c to) Left → Result_of
  planned c is_lost succeeds a to says goes h =
      let e = if succeeds && not is_lost then code.Ok else code.RbRollback in
      let act = is_active old.associations t x in
      let seat = has_seat old.associations t x in
      by_test Result_of act
      (λ p. goes T1 (inl refl) (ap (λ o. is_one o || is_two o) (active_one old.associations t x p))
      (subst (λ (k : Code). Made c to (T1, k, T0)) (sym says)
      (at_true (Made c to) Left act (row T1 e T0) (if seat then row T2 e T0 else Err code.Proto) p h)))
      (λ p.
      let g = at_false (Made c to) Left act (row T1 e T0) (if seat then row T2 e T0 else Err code.Proto) p h
      in
      by_test Result_of seat
      (λ q. goes T2 (inr refl) (ap (λ o. is_one o || is_two o) (seated_in old.associations t x p q))
      (subst (λ (k : Code). Made c to (T2, k, T0)) (sym says)
      (at_true (Made c to) Left seat (row T2 e T0) (Err code.Proto) q g)))
      (λ q. outside (out_of old.associations t x p q)
      (at_false (Made c to) Left seat (row T2 e T0) (Err code.Proto) q g)))

  abbrev By : Bool → BranchState → Type 0
  By succeeds st = ByState st (RefusesCall old new answer code.NotA)
      (λ is_lost. ReactsByRows old new t x (end_call succeeds)
      (end_plan old.associations t x is_lost succeeds)
      (left_state new x (is_lost || not succeeds)) answer) (RefusesCall old new answer code.Proto)

  at_work : (succeeds : Bool) → stand_as (state_in old.branches.branches x) (d x) ≡ Some stand.Active
      → is_begun (state_in old.branches.branches x) ≡ true
      → ReactsByRows old new t x (end_call succeeds) (end_plan old.associations t x false succeeds)
      (left_state new x (false || not succeeds)) answer → Result_of
  at_work true active known h = planned call.EndSuccess false true code.Ok (left_state new x false) refl
      (λ from kind has_one w. done call.EndSuccess from kind has_one active known w) h
  at_work false active known h = planned call.EndFail false false code.RbRollback (left_state new x true) refl
      (λ from kind has_one w. failed call.EndFail from kind has_one active known w) h

  when_lost : (succeeds : Bool) → state_in old.branches.branches x ≡ S4
      → ReactsByRows old new t x (end_call succeeds) (end_plan old.associations t x true succeeds)
      (left_state new x (true || not succeeds)) answer → Result_of
  when_lost true four h = planned call.EndSuccess true true code.RbRollback (left_state new x true) refl
      (λ from kind has_one w. lost call.EndSuccess from kind has_one four w) h
  when_lost false four h = planned call.EndFail true false code.RbRollback (left_state new x true) refl
      (λ from kind has_one w. lost call.EndFail from kind has_one four w) h

  quiet : is_quiet (state_in old.branches.branches x) ≡ true → own_state old.associations t x ≡ T0
  quiet e = mirrors.orderly.quiet t x e

  pub end_goes : (succeeds : Bool) → EndsWork old new t x succeeds answer → Result_of
  end_goes succeeds h = by_six Result_of (state_in old.branches.branches x)
      (λ e. strange (ap is_begun e) (subst (λ (st : BranchState). By succeeds st) e h))
      (λ e. at_work succeeds (ap (λ st. stand_as st (d x)) e) (ap is_begun e)
      (subst (λ (st : BranchState). By succeeds st) e h))
      (λ e. at_work succeeds (ap (λ st. stand_as st (d x)) e) (ap is_begun e)
      (subst (λ (st : BranchState). By succeeds st) e h))
      (λ e. outside (quiet (ap is_quiet e)) (subst (λ (st : BranchState). By succeeds st) e h))
      (λ e. when_lost succeeds e (subst (λ (st : BranchState). By succeeds st) e h))
      (λ e. outside (quiet (ap is_quiet e)) (subst (λ (st : BranchState). By succeeds st) e h))
