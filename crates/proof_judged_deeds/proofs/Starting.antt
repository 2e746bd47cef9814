-- A plain start is a step of the judge.
use Rattle.std.proofs.Common.{◌≡◌, ℕ, Bool, true, false, not, Option, Some, None, [], ◌∷◌, ◌++◌, length, Err, ◌&&◌, ◌||◌, refl, ap, sym, subst, ◌∙◌, inl, inr}
use Rattle.std.specs.Prelude.{is_some, nat_le, Contains, MatchResult, if◌then◌else◌}
use Rattle.std.specs.Option.{option_map_or}
use Rattle.std.proofs.lemmas.Bool.{not_from_true, or_cases, or_parts, or_from, and_right, and_left, and_from}
use Rattle.xa_codes.specs.declared.code.Code.{Code}
use Rattle.xa_words.specs.code
use Rattle.xa_codes.specs.declared.flags.Flags.{Flags}
use Rattle.xa_tables.specs.Calls.{join, resume}
use Rattle.xa_words.specs.call
use Rattle.xa_tables.specs.declared.states.AssocState.{AssocState}
use Rattle.xa_tables.specs.declared.states.AssocState.TheVariants.{T0, T1, T2}
use Rattle.xa_tables.specs.declared.states.BranchState.{BranchState}
use Rattle.xa_tables.specs.declared.states.BranchState.TheVariants.{S0, S1, S2, S3, S4, S5}
use Rattle.xa_xid.specs.declared.xid.Xid.{Xid}
use Rattle.xa_xid.specs.Xids.{null_xid}
use Rattle.xa_branch.specs.Names.{same}
use Rattle.xa_branch.specs.Branches.{is_known, state_in}
use Rattle.xa_assoc.specs.declared.states.States.{States}
use Rattle.xa_assoc.specs.Associations.{AreThreadsListedOnce, AssocList, active_of, has_room, has_seat, is_active as is_active_in, own_state, row, start_plan}
use Rattle.xa_assoc.specs.Answers.{DoesCall, SameStates, Walks, Wanted}
use Rattle.xa_assoc.specs.Ready.{is_closed}
use Rattle.judge_state.specs.declared.parts.JudgedDecision.{JudgedDecision}
use Rattle.judge_state.specs.declared.parts.Stand.TheVariants as stand
use Rattle.judge_state.specs.Moves.{begun, linked, picked, unlinked}
use Rattle.judge_state.specs.Sights.{Sight}
use Rattle.judge_state.specs.Questions.{branch_at, has_suspended, is_active, is_migrated}
use Rattle.judge_words.specs.verb
use Rattle.judge_words.specs.reply
use Rattle.judge_rules.specs.Flags.{has, wrong_at_start}
use Rattle.judge_rules.specs.Replies.{reply_of}
use Rattle.judge_rules.specs.Defects.{has_no_start, is_bad_name, is_plain, is_spoiled_at, start_defects}
use Rattle.judge_rules.specs.Passes.{branch_passes, entered, spoiled_passes, start_passes}
use Rattle.proof_judged_deeds.specs.Deeds.{on}
use Rattle.proof_judged_deeds.specs.Names.{NameNumbers, lacks_forced, sort_of}
use Rattle.proof_judged_deeds.proofs.Branches.{begun_branches}
use Rattle.proof_judged_deeds.proofs.Links.{is_two, linked_one, same_count, turned}
use Rattle.proof_judged_deeds.proofs.Mirrors.{Mirrors, is_begun, is_quiet, known_here, still_open}
use Rattle.proof_judged_deeds.proofs.Orderly.{orderly_worked}
use Rattle.proof_judged_deeds.proofs.Sights.{active_same}
use Rattle.proof_judged_deeds.proofs.Scanning.{scans_stay}
use Rattle.proof_judged_deeds.proofs.Rows.{IsClean, IsDefect, Proto, DupId, first_in, in_else}
use Rattle.proof_judged_deeds.proofs.Flags.{AreRight, StartMarks}
use Rattle.proof_judged_deeds.proofs.Steps.{Goes, at_false, at_true, by_test, goes_failed, goes_passed, goes_refused}
use Rattle.proof_judged_deeds.proofs.Checks.{bad_same, closed_same, known_same, or_none, or_two}

pub busy_same : (n : NameNumbers) (m : States) (d : Xid → JudgedDecision) (s : Sight) (t : ℕ)
    → Mirrors n m d s
    → is_active t s ≡ is_some (active_of m.associations t)
busy_same n m d s t mirrors = active_same n m.associations s.links s.migrated t mirrors.tied

-- the last part of what a start that joins or resumes must not meet
abbrev pub last_part : NameNumbers → Sight → ℕ → Xid → ℕ → Bool
last_part n s t x f = not (is_plain f)
    && has_no_start (branch_at (n.xid x) s) f (has_suspended t (n.xid x) s) (is_migrated (n.xid x) s)

pub plain_by : (j r : Bool) (f : ℕ) → has f join ≡ j → has f resume ≡ r → is_plain f ≡ (not j && not r)
plain_by j r f p q = ap (λ b. not b && not (has f resume)) p ∙ ap (λ b. not j && not b) q

pub unknown_state : (s : BranchState) → is_begun s ≡ false → s ≡ S0
unknown_state S0 h = refl
unknown_state S1 h = absurd cc
unknown_state S2 h = absurd cc
unknown_state S3 h = absurd cc
unknown_state S4 h = absurd cc
unknown_state S5 h = absurd cc

pub idle_by : (o : Option Xid) (x : Xid) → is_some o ≡ false → option_map_or (λ y. same y x) o false ≡ false
idle_by None x h = refl
idle_by (Some y) x h = absurd cc

seated_by : (b c : Bool) → b ≡ false → c ≡ true → (if b then T1 else if c then T2 else T0) ≡ T2
seated_by b c p q = rw (p, q) refl

-- a thread that is active in no branch and has suspended this one is in T2 with it
pub seated : (a : AssocList) (t : ℕ) (x : Xid) → is_some (active_of a t) ≡ false → has_seat a t x ≡ true
    → own_state a t x ≡ T2
seated a t x idle seat = seated_by (is_active_in a t x) (has_seat a t x) (idle_by (active_of a t) x idle) seat

in_entered : (t x : ℕ) (b : Bool) (u v : Sight) → b ≡ true
    → Contains (linked t x false (if b then u else v) ∷ []) (linked t x false u)
in_entered t x b u v h = subst (λ (c : Bool). Contains (linked t x false (if c then u else v) ∷ [])
    (linked t x false u)) (sym h) (first_in (linked t x false u) [])

-- the judge's step of a plain start
plain_row : (n : NameNumbers) (s : Sight) (t : ℕ) (x : Xid) (flags : Flags) → is_plain flags.0 ≡ true
    → has flags.0 resume ≡ false
    → Contains (branch_passes lacks_forced verb.Start s (on n t x flags) reply.Ok)
    (linked t (n.xid x) false (begun t (n.xid x) s))
plain_row n s t x flags plain no_resume =
    in_else (has flags.0 resume && is_spoiled_at (branch_at (n.xid x) s))
    (spoiled_passes s (on n t x flags) (entered s (on n t x flags)) reply.Ok)
    (start_passes lacks_forced s (on n t x flags) (entered s (on n t x flags)) reply.Ok)
    (linked t (n.xid x) false (begun t (n.xid x) s))
    (and_left (has flags.0 resume) (is_spoiled_at (branch_at (n.xid x) s)) no_resume)
    (in_entered t (n.xid x) (is_plain flags.0) (begun t (n.xid x) s) (if has flags.0 join then s
    else if has_suspended t (n.xid x) s then unlinked t (n.xid x) s else picked (n.xid x) s) plain)

module _ (n : NameNumbers) (old new : States) (d : Xid → JudgedDecision) (s : Sight) (t : ℕ) (x : Xid)
    (flags : Flags) (answer : Code)
    (mirrors : Mirrors n old d s) (once : AreThreadsListedOnce new.associations.holders)
    (right : AreRight wrong_at_start flags.0)
    (opened : is_closed old.init ≡ false) (named : same x null_xid ≡ false) where
  refuses : (c : Code) → IsDefect (start_defects lacks_forced s (on n t x flags)) (reply_of c) → (answer ≡ c)
      × SameStates old new
      → Goes n verb.Start s t x flags answer new d
  refuses c defect h = goes_refused n verb.Start s t x flags answer c old new d mirrors defect h

  limited : (answer ≡ code.RmErr) × SameStates old new → Goes n verb.Start s t x flags answer new d
  limited h = goes_failed n verb.Start s t x flags answer old new d mirrors h

  busy_proto : is_some (active_of old.associations t) ≡ true
      → IsDefect (start_defects lacks_forced s (on n t x flags)) reply.Proto
  busy_proto h = Proto (or_two (not s.opened && not false) (is_active t s) (last_part n s t x flags.0)
      (busy_same n old d s t mirrors ∙ h))

  unknown : is_known old.branches.branches x ≡ false → is_begun (state_in old.branches.branches x) ≡ false
  unknown e = sym (known_here old.branches.branches old.associations x mirrors.orderly) ∙ e

  -- a thread has no association with a branch that is not known
  apart : is_known old.branches.branches x ≡ false → own_state old.associations t x ≡ T0
  apart e = mirrors.orderly.quiet t x (ap is_quiet
      (unknown_state (state_in old.branches.branches x) (unknown e)))

  -- no row refuses a start of a new branch
  plain_clean : StartMarks call.Start flags.0 → is_known old.branches.branches x ≡ false
      → is_some (active_of old.associations t) ≡ false
      → IsClean (start_defects lacks_forced s (on n t x flags))
  plain_clean marks e idle =
      let plain : is_plain flags.0 ≡ true = plain_by false false flags.0 marks.0 marks.1 in
      let fresh : is_some (branch_at (n.xid x) s) ≡ false = known_same n old d s x mirrors ∙ unknown e in
      record {
        inval = or_from (wrong_at_start flags.0) (is_bad_name lacks_forced (sort_of x)) right.right
            (bad_same x ∙ named);
        asynchronous = right.sync;
        proto = or_none (not s.opened && not false) (is_active t s) (last_part n s t x flags.0)
            (closed_same n old d s mirrors ∙ opened) (busy_same n old d s t mirrors ∙ idle)
            (and_left (not (is_plain flags.0)) (has_no_start (branch_at (n.xid x) s) flags.0
            (has_suspended t (n.xid x) s)
            (is_migrated (n.xid x) s)) (not_from_true (is_plain flags.0) plain));
        dup_id = and_right (is_plain flags.0) (is_some (branch_at (n.xid x) s)) fresh;
        not_a = and_left (not (is_plain flags.0)) (not (is_some (branch_at (n.xid x) s)))
            (not_from_true (is_plain flags.0) plain);
      }

  begins : StartMarks call.Start flags.0 → is_known old.branches.branches x ≡ false
      → is_some (active_of old.associations t) ≡ false
      → Walks old new t x call.Start (T0, code.Ok, T1) S1 answer → Goes n verb.Start s t x flags answer new d
  begins marks e idle w =
      goes_passed n verb.Start s t x flags answer code.Ok new d
      (linked t (n.xid x) false (begun t (n.xid x) s)) refl refl w.answers
      (plain_clean marks e idle)
      (plain_row n s t x flags (plain_by false false flags.0 marks.0 marks.1) marks.1)
      (record {
        opened = mirrors.opened ∙ ap (λ i. not (is_closed i)) (sym w.init);
        waits = mirrors.waits;
        tied = turned n old.associations new.associations t x T0 T1 s.links
            (s.links ++ record { thread = t; branch = n.xid x; suspended = false } ∷ []) s.migrated
            s.migrated mirrors.tied
            w.association.turns
            (linked_one n t x s.links mirrors.tied.named (mirrors.tied.two t x ∙ ap is_two (apart e)))
            (same_count n x s.migrated mirrors.tied.moved_named);
        branches = begun_branches n (state_in old.branches.branches) (state_in new.branches.branches) d d x S1
            (record { name = n.xid x; stand = stand.Active; owner = t; since = length s.values })
            s.branches (record { own = w.branch.own; others = w.branch.others; decided = λ y differs. refl })
            refl refl
            (unknown e) refl mirrors.branches;
        orderly = orderly_worked n old.branches new.branches old.associations new.associations t x T0 T1
            S1 mirrors.orderly
            once w.association (λ p. absurd cc) w.branch refl (λ _. (t, w.association.turns.own));
        shut = still_open old new opened w.init;
        scans = scans_stay n old.branches.scans new.branches.scans s.scans s.listed
            w.branch.scans mirrors.scans;
      })

  abbrev Made : AssocState × Code × AssocState → Type 0
  Made r = Walks old new t x call.Start r S1 answer

  abbrev Left : Code → Type 0
  Left c = (answer ≡ c) × SameStates old new

  -- a thread that is in the way is active in another branch
  in_way : is_known old.branches.branches x ≡ false
      → (is_some (active_of old.associations t) || has_seat old.associations t x) ≡ true
      → is_some (active_of old.associations t) ≡ true
  in_way e h = elim (or_cases (is_some (active_of old.associations t)) (has_seat old.associations t x) h) [
    | inl busy ↦ busy
    | inr seat ↦ by_test (is_some (active_of old.associations t) ≡ true)
        (is_some (active_of old.associations t))
        (λ b. b)
        (λ b. absurd (let f : T2 ≡ T0 = sym (seated old.associations t x b seat) ∙ apart e in cc))
  ]

  fits : StartMarks call.Start flags.0 → is_known old.branches.branches x ≡ false
      → (is_some (active_of old.associations t) || has_seat old.associations t x) ≡ false
      → MatchResult (start_plan old.associations t x) Made Left → Goes n verb.Start s t x flags answer new d
  fits marks e free h =
      let in_room = at_false Made Left (is_some (active_of old.associations t)
      || has_seat old.associations t x)
      (Err code.Proto) (if has_room old.associations t then row T0 code.Ok T1 else Err code.RmErr) free h in
      by_test (Goes n verb.Start s t x flags answer new d) (has_room old.associations t)
      (λ r. begins marks e (or_parts (is_some (active_of old.associations t))
      (has_seat old.associations t x) free).0
      (at_true Made Left (has_room old.associations t) (row T0 code.Ok T1) (Err code.RmErr) r in_room))
      (λ r. limited (at_false Made Left (has_room old.associations t) (row T0 code.Ok T1)
      (Err code.RmErr) r in_room))

  pub plain_goes : (wanted : Wanted) → StartMarks call.Start flags.0
      → DoesCall wanted old new call.Start t x answer
      → Goes n verb.Start s t x flags answer new d
  plain_goes wanted marks does =
      let known = is_known old.branches.branches x in
      let way = is_some (active_of old.associations t) || has_seat old.associations t x in
      let full = nat_le 1024 (length old.branches.branches) in
      by_test (Goes n verb.Start s t x flags answer new d) known
      (λ e. refuses code.DupId (DupId (and_from (is_plain flags.0) (is_some (branch_at (n.xid x) s))
      (plain_by false false flags.0 marks.0 marks.1)
      (known_same n old d s x mirrors
      ∙ sym (known_here old.branches.branches old.associations x mirrors.orderly) ∙ e)))
      (at_true Made Left known (Err code.DupId) (if way then Err code.Proto else if full then Err code.RmErr
      else start_plan old.associations t x) e does))
      (λ e.
      let h = at_false Made Left known (Err code.DupId)
      (if way then Err code.Proto else if full then Err code.RmErr
      else start_plan old.associations t x) e does in
      by_test (Goes n verb.Start s t x flags answer new d) way
      (λ b. refuses code.Proto (busy_proto (in_way e b))
      (at_true Made Left way (Err code.Proto)
      (if full then Err code.RmErr else start_plan old.associations t x) b h))
      (λ b. let g = at_false Made Left way (Err code.Proto)
      (if full then Err code.RmErr else start_plan old.associations t x) b h in
      by_test (Goes n verb.Start s t x flags answer new d) full
      (λ f. limited (at_true Made Left full (Err code.RmErr) (start_plan old.associations t x) f g))
      (λ f. fits marks e b (at_false Made Left full (Err code.RmErr) (start_plan old.associations t x) f g))))
