-- A prepare, commit, rollback or forget is a step of the judge.
use Rattle.std.proofs.Common.{◌≡◌, ℕ, Bool, true, false, not, Option, Some, None, List, [], ◌++◌, option_map, ◌&&◌, ◌||◌, refl, ap, sym, subst, ◌∙◌, inl, inr, arith}
use Rattle.std.specs.Prelude.{is_some, nat_lt, Contains, if◌then◌else◌}
use Rattle.std.proofs.lemmas.Bool.{false≢true, not_from_true, not_from_false, or_left, or_from, and_right, false_from_ne_true, ltb-false}
use Rattle.xa_codes.specs.declared.code.Code.{Code}
use Rattle.xa_words.specs.code
use Rattle.xa_codes.specs.declared.flags.Flags.{Flags}
use Rattle.xa_tables.specs.Calls.{one_phase}
use Rattle.xa_tables.specs.declared.states.AssocState.{AssocState}
use Rattle.xa_tables.specs.declared.states.AssocState.TheVariants.{T0, T1, T2, M}
use Rattle.xa_tables.specs.declared.states.BranchState.{BranchState}
use Rattle.xa_tables.specs.declared.states.BranchState.TheVariants.{S0, S1}
use Rattle.xa_xid.specs.declared.xid.Xid.{Xid}
use Rattle.xa_xid.specs.Xids.{null_xid}
use Rattle.xa_branch.specs.Names.{same}
use Rattle.xa_branch.specs.Scans.{ScanList}
use Rattle.xa_branch.specs.Branches.{is_known, state_in}
use Rattle.xa_assoc.specs.declared.states.States.{States}
use Rattle.xa_assoc.specs.Associations.{AssocList, has_active, has_seat, has_suspended, is_active, moved_of, own_state}
use Rattle.xa_assoc.specs.Answers.{SameStates, TakesTableRow, is_held}
use Rattle.xa_assoc.specs.Ready.{is_closed}
use Rattle.judge_state.specs.declared.parts.JudgedBranch.{JudgedBranch}
use Rattle.judge_state.specs.declared.parts.JudgedDecision.{JudgedDecision}
use Rattle.judge_state.specs.declared.parts.Link.{Link}
use Rattle.judge_state.specs.declared.parts.Listed.{Listed}
use Rattle.judge_state.specs.declared.parts.Stand.{Stand}
use Rattle.judge_state.specs.Moves.{committed, gone, is_prepared_at, not_due, others, published, remembered, rolled, standing, stands, was_prepared, works_of, works_without}
use Rattle.judge_state.specs.Sights.{Sight}
use Rattle.judge_state.specs.Questions.{branch_at, is_associated}
use Rattle.judge_rules.specs.declared.calls.BranchVerb.{BranchVerb}
use Rattle.judge_rules.specs.declared.defects.Refusals.{Refusals}
use Rattle.judge_rules.specs.Flags.{are_wrong, has}
use Rattle.judge_rules.specs.Replies.{reply_of}
use Rattle.judge_rules.specs.Defects.{branch_defects, finish_defects, is_bad_name, is_forget, is_off_row}
use Rattle.judge_rules.specs.Passes.{branch_passes, stand_in}
use Rattle.proof_judged_deeds.specs.Deeds.{on}
use Rattle.proof_judged_deeds.specs.Names.{NameNumbers, lacks_forced, sort_of}
use Rattle.proof_judged_deeds.proofs.Agreements.{off_by, row_is}
use Rattle.proof_judged_deeds.proofs.Branches.{Comes, gone_branches, stood_branches}
use Rattle.proof_judged_deeds.proofs.Checks.{bad_same, closed_same, known_same, or_none, or_one, or_three, or_two, own_never}
use Rattle.proof_judged_deeds.proofs.Flags.{AreRight}
use Rattle.proof_judged_deeds.proofs.Links.{Tied}
use Rattle.proof_judged_deeds.proofs.Mirrors.{AreBranches, IsFree, IsOrderly, Mirrors, entered, holds_one, holds_two, is_begun, is_quiet, known_here, seat_state, stand_as, stands_at, suspender}
use Rattle.proof_judged_deeds.proofs.Orderly.{orderly_finished}
use Rattle.proof_judged_deeds.proofs.Scanning.{AreScans, scans_less, scans_stay}
use Rattle.proof_judged_deeds.proofs.Rows.{IsClean, IsDefect, Proto, NotA}
use Rattle.proof_judged_deeds.proofs.Sights.{held_same}
use Rattle.proof_judged_deeds.proofs.Ledgers.{effect, ledger}
use Rattle.proof_judged_deeds.proofs.Losing.{Remembers}
use Rattle.proof_judged_deeds.proofs.Steps.{Goes, goes_passed, goes_refused}

-- Who holds a branch.

no_one : (s : AssocState) → s ≡ T0 → s ≡ T1 → ⊥
no_one s p q = absurd (let e : T0 ≡ T1 = sym p ∙ q in cc)

no_two : (s : AssocState) → s ≡ T0 → s ≡ T2 → ⊥
no_two s p q = absurd (let e : T0 ≡ T2 = sym p ∙ q in cc)

-- no thread holds a branch that is not at work
pub quiet_free : (n : NameNumbers) (m : States) (d : Xid → JudgedDecision) (s : Sight) (x : Xid)
    → Mirrors n m d s
    → is_quiet (state_in m.branches.branches x) ≡ true → is_held m.associations x ≡ false
quiet_free n m d s x mirrors calm = or_none (has_active m.associations x) (has_suspended m.associations x)
    (nat_lt 0 (moved_of m.associations x))
    (false_from_ne_true (has_active m.associations x) (λ h.
    let e = entered m.associations x mirrors.orderly.once h in
    no_one (own_state m.associations e.0 x) (mirrors.orderly.quiet e.0 x calm) e.1))
    (false_from_ne_true (has_suspended m.associations x) (λ h.
    let e = suspender m.associations.seats x h in
    elim (seat_state (is_active m.associations e.0 x) (has_seat m.associations e.0 x) e.1) [
      | inl is ↦ no_one (own_state m.associations e.0 x) (mirrors.orderly.quiet e.0 x calm) is
      | inr is ↦ no_two (own_state m.associations e.0 x) (mirrors.orderly.quiet e.0 x calm) is
    ]))
    (ap (λ k. nat_lt 0 k) (mirrors.orderly.unmoved x calm))

-- some thread holds one that is active
pub busy_held : (n : NameNumbers) (m : States) (d : Xid → JudgedDecision) (s : Sight) (x : Xid)
    → Mirrors n m d s
    → state_in m.branches.branches x ≡ S1 → is_held m.associations x ≡ true
busy_held n m d s x mirrors e = let w = mirrors.orderly.busy x e in
    or_one (has_active m.associations x) (has_suspended m.associations x)
    (nat_lt 0 (moved_of m.associations x))
    (holds_one m.associations w.0 x w.1)

own_cases : (s : AssocState) → (s ≡ M → ⊥) → (s ≡ T1 → ⊥) → (s ≡ T2 → ⊥) → s ≡ T0
own_cases T0 m a b = refl
own_cases T1 m a b = absurd (a refl)
own_cases T2 m a b = absurd (b refl)
own_cases M m a b = absurd (m refl)

-- of a branch that is not held no thread has an association
pub unheld : (a : AssocList) (x : Xid) → is_held a x ≡ false → (u : ℕ) → own_state a u x ≡ T0
unheld a x h u = own_cases (own_state a u x) (own_never a u x)
    (λ e. false≢true (sym h ∙ or_one (has_active a x) (has_suspended a x) (nat_lt 0 (moved_of a x))
    (holds_one a u x e)))
    (λ e. false≢true (sym h ∙ or_two (has_active a x) (has_suspended a x) (nat_lt 0 (moved_of a x))
    (holds_two a u x e)))

third : (a b c : Bool) → (a || b || c) ≡ false → c ≡ false
third true b c h = absurd cc
third false true c h = absurd cc
third false false c h = h

pub unmoved_free : (a : AssocList) (x : Xid) → is_held a x ≡ false → moved_of a x ≡ 0
unmoved_free a x h =
    let le = ltb-false 0 (moved_of a x) (third (has_active a x) (has_suspended a x)
    (nat_lt 0 (moved_of a x)) h) in
    omega arith

-- How a branch stands.

pub in_by : (o : Option JudgedBranch) (k : Stand) → option_map (λ b. b.stand) o ≡ Some k → stand_in o ≡ k
in_by None k h = absurd cc
in_by (Some b) k h = cc

off_is : (v : BranchVerb) (f : ℕ) (one : Bool) (o : Option JudgedBranch) → has f one_phase ≡ one
    → is_off_row v f o ≡ off_by v one (option_map (λ b. b.stand) o)
off_is v f one None h = refl
off_is v f one (Some b) h = ap not (row_is v f b.stand) ∙ ap (λ c. off_by v c (Some b.stand)) h

-- two states of the judge have the same tables
pub record HasTables (u s : Sight) : Type 0 where
  pub opened : u.opened ≡ s.opened
  pub waits : u.hung ≡ s.hung
  pub links : u.links ≡ s.links
  pub migrated : u.migrated ≡ s.migrated
  pub branches : u.branches ≡ s.branches
  pub scans : u.scans ≡ s.scans
  pub listed : u.listed ≡ s.listed

pub remembered_tables : (x : ℕ) (s : Sight) → HasTables (remembered x s) s
remembered_tables x s = by (is_prepared_at x s) where
  by : (b : Bool) → HasTables (if b then record s {
    lost = others x s.lost ++ was_prepared x s.branches;
    lost_works = works_without x s.lost_works ++ works_of x s.works;
  } else s) s
  by true = record {
    opened = refl;
    waits = refl;
    links = refl;
    migrated = refl;
    branches = refl;
    scans = refl;
    listed = refl;
  }
  by false = record {
    opened = refl;
    waits = refl;
    links = refl;
    migrated = refl;
    branches = refl;
    scans = refl;
    listed = refl;
  }

all_three : (a b c : Bool) → a ≡ true → b ≡ true → c ≡ true → (a && b && c) ≡ true
all_three a b c p q r = rw (p, q, r) refl

not_second : (a b c : Bool) → b ≡ false → (a && b && c) ≡ false
not_second true b c h = rw h refl
not_second false b c h = refl

pub none_in : (rows : List (Code × BranchState)) (r : Code × BranchState) → rows ≡ [] → Contains rows r → ⊥
none_in rows r e c =
    let d : Contains [] r = subst (λ (rs : List (Code × BranchState)). Contains rs r) e c
    in omega (arith, d.1)

module _ (n : NameNumbers) (old new : States) (d : Xid → JudgedDecision) (s : Sight) (v : BranchVerb) (t : ℕ)
    (x : Xid) (flags : Flags)
    (answer : Code) (mirrors : Mirrors n old d s) (one : Bool) (phase : has flags.0 one_phase ≡ one)
    (right : AreRight (are_wrong v) flags.0) (opened : is_closed old.init ≡ false)
    (named : same x null_xid ≡ false)
    (finishes : branch_defects lacks_forced v s (on n t x flags)
    ≡ finish_defects lacks_forced v s (on n t x flags)) where
  abbrev Result_of : Type 0
  Result_of = Goes n v s t x flags answer new d

  refuses : (c : Code) → IsDefect (finish_defects lacks_forced v s (on n t x flags)) (reply_of c)
      → (answer ≡ c) × SameStates old new → Result_of
  refuses c defect h = goes_refused n v s t x flags answer c old new d mirrors
      (subst (λ (e : Refusals). IsDefect e (reply_of c)) (sym finishes) defect) h

  pub known_is : is_some (branch_at (n.xid x) s) ≡ is_known old.branches.branches x
  known_is = known_same n old d s x mirrors
      ∙ sym (known_here old.branches.branches old.associations x mirrors.orderly)

  held_is : is_associated (n.xid x) s ≡ is_held old.associations x
  held_is = held_same n old.associations s.links s.migrated x mirrors.tied mirrors.orderly.once

  off_same : is_off_row v flags.0 (branch_at (n.xid x) s)
      ≡ off_by v one (stand_as (state_in old.branches.branches x) (d x))
  off_same = off_is v flags.0 one (branch_at (n.xid x) s) phase
      ∙ ap (λ k. off_by v one k) (stands_at n (state_in old.branches.branches) d s.branches x
      mirrors.branches)

  pub strange : is_known old.branches.branches x ≡ false → (answer ≡ code.NotA) × SameStates old new
      → Result_of
  strange e h = refuses code.NotA (NotA (or_left (not (is_some (branch_at (n.xid x) s)))
      (is_forget v && is_off_row v flags.0 (branch_at (n.xid x) s))
      (not_from_false (is_some (branch_at (n.xid x) s)) (known_is ∙ e)))) h

  abbrev middle : Bool
  middle = is_some (branch_at (n.xid x) s) && is_associated (n.xid x) s && not (is_forget v)

  pub held_proto : is_known old.branches.branches x ≡ true → is_held old.associations x ≡ true
      → is_forget v ≡ false
      → (answer ≡ code.Proto) × SameStates old new → Result_of
  held_proto e p f h = refuses code.Proto (Proto (or_two (not s.opened && not false) middle
      (is_off_row v flags.0 (branch_at (n.xid x) s))
      (all_three (is_some (branch_at (n.xid x) s)) (is_associated (n.xid x) s)
      (not (is_forget v)) (known_is ∙ e)
      (held_is ∙ p) (not_from_false (is_forget v) f)))) h

  pub off_proto : off_by v one (stand_as (state_in old.branches.branches x) (d x)) ≡ true
      → (answer ≡ code.Proto) × SameStates old new → Result_of
  off_proto o h = refuses code.Proto (Proto (or_three (not s.opened && not false) middle
      (is_off_row v flags.0 (branch_at (n.xid x) s)) (off_same ∙ o))) h

  clean : is_known old.branches.branches x ≡ true → is_held old.associations x ≡ false
      → off_by v one (stand_as (state_in old.branches.branches x) (d x)) ≡ false
      → IsClean (finish_defects lacks_forced v s (on n t x flags))
  clean e p o = record {
    inval = or_from (are_wrong v flags.0) (is_bad_name lacks_forced (sort_of x)) right.right
        (bad_same x ∙ named);
    asynchronous = right.sync;
    proto = or_none (not s.opened && not false) middle (is_off_row v flags.0 (branch_at (n.xid x) s))
        (closed_same n old d s mirrors ∙ opened)
        (not_second (is_some (branch_at (n.xid x) s)) (is_associated (n.xid x) s)
        (not (is_forget v)) (held_is ∙ p))
        (off_same ∙ o);
    dup_id = refl;
    not_a = or_from (not (is_some (branch_at (n.xid x) s)))
        (is_forget v && is_off_row v flags.0 (branch_at (n.xid x) s))
        (not_from_true (is_some (branch_at (n.xid x) s)) (known_is ∙ e))
        (and_right (is_forget v) (is_off_row v flags.0 (branch_at (n.xid x) s)) (off_same ∙ o));
  }

  pub passes : (c : Code) (u : Sight) → Remembers v n s u x new
      → ledger u ≡ ledger (effect (reply_of c) v (n.xid x) s) → is_known old.branches.branches x ≡ true
      → is_held old.associations x ≡ false
      → off_by v one (stand_as (state_in old.branches.branches x) (d x)) ≡ false → answer ≡ c
      → Contains (branch_passes lacks_forced v s (on n t x flags) (reply_of c)) u → Mirrors n new d u
      → Result_of
  passes c u lost books e p o is row m = goes_passed n v s t x flags answer c new d u lost books is
      (subst (λ (r : Refusals). IsClean r) (sym finishes) (clean e p o)) row m

-- What becomes of the tables.

module _ (n : NameNumbers) (old new : States) (d : Xid → JudgedDecision) (s u : Sight) (x : Xid)
    (to : BranchState)
    (mirrors : Mirrors n old d s) (takes : TakesTableRow old new x to)
    (free : is_held old.associations x ≡ false)
    (calm : is_quiet to ≡ true) (scanned : AreScans n old.branches.scans u.scans u.listed) where
  orderly : IsOrderly new.branches.branches new.associations
  orderly = subst (λ (a : AssocList). IsOrderly new.branches.branches a) (sym takes.associations)
      (orderly_finished n old.branches new.branches old.associations x to mirrors.orderly takes.branch calm
      (unheld old.associations x free) (unmoved_free old.associations x free))

  tied : u.links ≡ s.links → u.migrated ≡ s.migrated → Tied n new.associations u.links u.migrated
  tied l m = subst (λ (a : AssocList). Tied n a u.links u.migrated) (sym takes.associations)
      (subst (λ (ls : List Link). Tied n old.associations ls u.migrated) (sym l)
      (subst (λ (ms : List ℕ). Tied n old.associations s.links ms) (sym m) mirrors.tied))

  comes : Comes (state_in old.branches.branches) (state_in new.branches.branches) d d x to
  comes = record { own = takes.branch.own; others = takes.branch.others; decided = λ y differs. refl }

  pub stood_mirrors : (k : Stand) → u.opened ≡ s.opened → u.hung ≡ s.hung → u.links ≡ s.links
      → u.migrated ≡ s.migrated
      → u.branches ≡ standing (n.xid x) k s.branches → stand_as to (d x) ≡ Some k
      → is_begun (state_in old.branches.branches x) ≡ true → is_begun to ≡ true → Mirrors n new d u
  stood_mirrors k o w l m b stands was begun = record {
    opened = o ∙ mirrors.opened ∙ ap (λ i. not (is_closed i)) (sym takes.init);
    waits = w ∙ mirrors.waits;
    tied = tied l m;
    branches = subst (λ (bs : List JudgedBranch). AreBranches n (state_in new.branches.branches) d bs) (sym b)
        (stood_branches n (state_in old.branches.branches) (state_in new.branches.branches) d d x to k
        s.branches comes
        stands was begun mirrors.branches);
    orderly = orderly;
    shut = λ e. subst IsFree (sym takes.associations) (mirrors.shut (sym takes.init ∙ e));
    scans = scans_stay n old.branches.scans new.branches.scans u.scans u.listed takes.branch.scans scanned;
  }

  pub gone_mirrors : u.opened ≡ s.opened → u.hung ≡ s.hung → u.links ≡ s.links → u.migrated ≡ s.migrated
      → u.branches ≡ others (n.xid x) s.branches → is_begun to ≡ false → Mirrors n new d u
  gone_mirrors o w l m b ended = record {
    opened = o ∙ mirrors.opened ∙ ap (λ i. not (is_closed i)) (sym takes.init);
    waits = w ∙ mirrors.waits;
    tied = tied l m;
    branches = subst (λ (bs : List JudgedBranch). AreBranches n (state_in new.branches.branches) d bs) (sym b)
        (gone_branches n (state_in old.branches.branches) (state_in new.branches.branches) d d x to
        s.branches comes ended
        mirrors.branches);
    orderly = orderly;
    shut = λ e. subst IsFree (sym takes.associations) (mirrors.shut (sym takes.init ∙ e));
    scans = scans_stay n old.branches.scans new.branches.scans u.scans u.listed takes.branch.scans scanned;
  }

-- The calls.

gone_scans : (n : NameNumbers) (x : ℕ) (scans : ScanList) (s r : Sight) → HasTables r s
    → AreScans n scans s.scans s.listed
    → AreScans n scans r.scans (not_due x r.listed)
gone_scans n x scans s r same are = scans_less n x scans r.scans r.listed
    (subst (λ (ts : List ℕ). AreScans n scans ts r.listed) (sym same.scans)
    (subst (λ (ls : List Listed). AreScans n scans s.scans ls) (sym same.listed) are))

pub ended_mirrors : (n : NameNumbers) (old new : States) (d : Xid → JudgedDecision) (s r : Sight) (x : Xid)
    → Mirrors n old d s
    → TakesTableRow old new x S0 → is_held old.associations x ≡ false → HasTables r s
    → Mirrors n new d (gone (n.xid x) r)
ended_mirrors n old new d s r x mirrors takes free same =
    gone_mirrors n old new d s (gone (n.xid x) r) x S0 mirrors takes free
    refl (gone_scans n (n.xid x) old.branches.scans s r same mirrors.scans) same.opened same.waits same.links
    same.migrated (ap (λ bs. others (n.xid x) bs) same.branches) refl

published_tables : (x : ℕ) (sure : Bool) (u s : Sight) → HasTables u s → HasTables (published x sure u) s
published_tables x sure u s h = record {
  opened = h.opened;
  waits = h.waits;
  links = h.links;
  migrated = h.migrated;
  branches = h.branches;
  scans = h.scans;
  listed = h.listed;
}

pub committed_mirrors : (n : NameNumbers) (old new : States) (d : Xid → JudgedDecision) (s : Sight) (x : Xid)
    → Mirrors n old d s
    → TakesTableRow old new x S0 → is_held old.associations x ≡ false
    → Mirrors n new d (committed (n.xid x) s)
committed_mirrors n old new d s x mirrors takes free =
    ended_mirrors n old new d s (published (n.xid x) true (remembered (n.xid x) s)) x mirrors takes free
    (published_tables (n.xid x) true (remembered (n.xid x) s) s (remembered_tables (n.xid x) s))

pub rolled_mirrors : (n : NameNumbers) (old new : States) (d : Xid → JudgedDecision) (s : Sight) (x : Xid)
    → Mirrors n old d s
    → TakesTableRow old new x S0 → is_held old.associations x ≡ false → Mirrors n new d (rolled (n.xid x) s)
rolled_mirrors n old new d s x mirrors takes free =
    ended_mirrors n old new d s (remembered (n.xid x) s) x mirrors takes free (remembered_tables (n.xid x) s)

pub same_tables : (s : Sight) → HasTables s s
same_tables s = record {
  opened = refl;
  waits = refl;
  links = refl;
  migrated = refl;
  branches = refl;
  scans = refl;
  listed = refl;
}
