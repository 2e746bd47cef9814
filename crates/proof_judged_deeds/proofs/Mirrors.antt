-- When a state of the judge is that of a key store's tables.
use Rattle.std.proofs.Common.{◌≡◌, ℕ, Bool, true, false, not, Option, Some, None, List, [], ◌∷◌, find, option_map, cond, ◌||◌, refl, ap, sym, subst, ◌∙◌, inl, inr}
use Rattle.std.specs.Prelude.{◌⊎◌, is_some, nat_eq, unwrap_or, if◌then◌else◌}
use Rattle.std.specs.List.{list_any, AllByRecursion}
use Rattle.std.specs.Map.{lookup}
use Rattle.std.specs.Option.{option_map_or}
use Rattle.std.proofs.lemmas.Bool.{eqb-true, eq-eqb, false≢true, or_cases, or_left, or_right, and_from, cond-true, cond-false}
use Rattle.xa_xid.specs.declared.xid.Xid.{Xid}
use Rattle.xa_tables.specs.declared.states.InitState.TheVariants.{R0}
use Rattle.xa_tables.specs.declared.states.AssocState.TheVariants.{T0, T1, T2}
use Rattle.xa_tables.specs.declared.states.BranchState.{BranchState}
use Rattle.xa_tables.specs.declared.states.BranchState.TheVariants.{S0, S1, S2, S3, S4, S5}
use Rattle.xa_branch.specs.Names.{same}
use Rattle.xa_branch.specs.Branches.{is_known, state_in}
use Rattle.xa_branch.proofs.Placed.{AllIn, NoneOr, found}
use Rattle.xa_branch.proofs.Names.{same_is, same_refl}
use Rattle.xa_assoc.specs.declared.held.Suspended.{Suspended}
use Rattle.xa_assoc.specs.declared.states.States.{States}
use Rattle.xa_assoc.specs.Names.{same_seat}
use Rattle.xa_assoc.specs.Associations.{AreThreadsListedOnce, AssocList, has_active, has_seat, has_suspended, is_active, is_holder, moved_of, own_state}
use Rattle.proof_xa.proofs.Reached.{AreThreadsListed}
use Rattle.xa_assoc.specs.Answers.{SameStates}
use Rattle.xa_assoc.specs.Ready.{is_closed}
use Rattle.judge_state.specs.declared.parts.JudgedBranch.{JudgedBranch}
use Rattle.judge_state.specs.declared.parts.JudgedDecision.{JudgedDecision}
use Rattle.judge_state.specs.declared.parts.Stand.{Stand}
use Rattle.judge_words.specs.stand
use Rattle.judge_state.specs.Parts.{is_named}
use Rattle.judge_state.specs.Sights.{Sight}
use Rattle.proof_judged_deeds.specs.Names.{NameNumbers}
use Rattle.xa_assoc.proofs.Sound.{is_active-T1, seat_is}
use Rattle.proof_judged_deeds.proofs.Lists.{all_join, any_where, find_any, find_where}
use Rattle.proof_judged_deeds.proofs.Links.{Tied}
use Rattle.proof_judged_deeds.proofs.Doubting.{AreNamedOnce}
use Rattle.proof_judged_deeds.proofs.Scanning.{AreScans, scans_stay}

-- how a branch in a state stands, where an operator decided it so
abbrev pub stand_as : BranchState → JudgedDecision → Option Stand
stand_as S0 d = None
stand_as S1 d = Some stand.Active
stand_as S2 d = Some stand.Active
stand_as S3 d = Some stand.Prepared
stand_as S4 d = Some stand.RollbackOnly
stand_as S5 d = Some (stand.Heuristic d)

-- a branch is known
abbrev pub is_begun : BranchState → Bool
is_begun S0 = false
is_begun _ = true

-- no thread works on a branch in this state
abbrev pub is_quiet : BranchState → Bool
is_quiet S0 = true
is_quiet S3 = true
is_quiet S5 = true
is_quiet _ = false

-- a branch of the judge is one of the manager
pub record IsBranch (n : NameNumbers) (st : Xid → BranchState) (d : Xid → JudgedDecision)
    (b : JudgedBranch) : Type 0 where
  pub xid : Xid
  pub is : b.name ≡ n.xid xid
  pub stands : stand_as (st xid) (d xid) ≡ Some b.stand

-- the branches of the judge are those of the manager
pub record AreBranches (n : NameNumbers) (st : Xid → BranchState) (d : Xid → JudgedDecision)
    (bs : List JudgedBranch) : Type 0 where
  pub each : AllByRecursion (IsBranch n st d) bs
  pub known : (x : Xid) → list_any (is_named (n.xid x)) bs ≡ is_begun (st x)

-- each known branch is in a state but S0
abbrev pub IsBegun : BranchState → Type 0
IsBegun s = is_begun s ≡ true

-- what the tables keep: no branch is in S0; in one in S1 some thread is active; in one that is not at work
-- none is, and none has suspended it; a thread that has an association is listed, and one that is listed has
-- one
pub record IsOrderly (bs : List (Xid × BranchState)) (a : AssocList) : Type 0 where
  pub once : AreThreadsListedOnce a.holders
  pub here : AllIn IsBegun bs
  pub named : AreNamedOnce bs
  pub busy : (x : Xid) → state_in bs x ≡ S1 → (t : ℕ) × (own_state a t x ≡ T1)
  pub quiet : (t : ℕ) (x : Xid) → is_quiet (state_in bs x) ≡ true → own_state a t x ≡ T0
  pub unmoved : (x : Xid) → is_quiet (state_in bs x) ≡ true → moved_of a x ≡ 0
  pub kept : AreThreadsListed a
  pub holding : (t : ℕ) → is_holder a t ≡ true → (x : Xid) × (own_state a t x ≡ T0 → ⊥)

known_by : (o : Option BranchState) → NoneOr IsBegun o → is_some o ≡ is_begun (unwrap_or o S0)
known_by None h = refl
known_by (Some s) h = sym h

pub known_here : (bs : List (Xid × BranchState)) (a : AssocList) (x : Xid) → IsOrderly bs a
    → is_known bs x ≡ is_begun (state_in bs x)
known_here bs a x orderly = known_by (lookup (same x) bs) (found IsBegun bs x orderly.here)

-- there is no association at all
abbrev pub IsFree : AssocList → Type 0
IsFree a = ((t : ℕ) (x : Xid) → own_state a t x ≡ T0) × ((x : Xid) → moved_of a x ≡ 0)

-- a state of the judge is that of these tables, where operators decided so
pub record Mirrors (n : NameNumbers) (m : States) (d : Xid → JudgedDecision) (s : Sight) : Type 0 where
  pub opened : s.opened ≡ not (is_closed m.init)
  pub waits : s.hung ≡ false
  pub tied : Tied n m.associations s.links s.migrated
  pub branches : AreBranches n (state_in m.branches.branches) d s.branches
  pub orderly : IsOrderly m.branches.branches m.associations
  pub shut : m.init ≡ R0 → IsFree m.associations
  pub scans : AreScans n m.branches.scans s.scans s.listed

-- tables that are the same but for room mirror the same
pub same_mirrors : (n : NameNumbers) (old new : States) (d : Xid → JudgedDecision) (s : Sight)
    → SameStates old new → Mirrors n old d s
    → Mirrors n new d s
same_mirrors n old new d s same mirrors = record {
  opened = mirrors.opened ∙ ap (λ i. not (is_closed i)) (sym same.init);
  waits = mirrors.waits;
  tied = subst (λ (a : AssocList). Tied n a s.links s.migrated) (sym same.associations) mirrors.tied;
  branches = subst (λ (bs : List (Xid × BranchState)). AreBranches n (state_in bs) d s.branches)
      (sym same.branches.branches) mirrors.branches;
  orderly = subst (λ (bs : List (Xid × BranchState)). IsOrderly bs new.associations)
      (sym same.branches.branches)
      (subst (λ (a : AssocList). IsOrderly old.branches.branches a) (sym same.associations) mirrors.orderly);
  shut = λ e. subst IsFree (sym same.associations) (mirrors.shut (sym same.init ∙ e));
  scans = scans_stay n old.branches.scans new.branches.scans s.scans s.listed
      same.branches.scans mirrors.scans;
}

-- an open manager that stays so need not be free
pub still_open : (old new : States) → is_closed old.init ≡ false → new.init ≡ old.init → new.init ≡ R0
    → IsFree new.associations
still_open old new opened stays e = absurd (false≢true (sym opened ∙ ap is_closed (sym stays ∙ e)))

-- What is known of one branch.

unknown_stand : (s : BranchState) (d : JudgedDecision) → is_begun s ≡ false → None ≡ stand_as s d
unknown_stand S0 d h = refl
unknown_stand S1 d h = absurd cc
unknown_stand S2 d h = absurd cc
unknown_stand S3 d h = absurd cc
unknown_stand S4 d h = absurd cc
unknown_stand S5 d h = absurd cc

pub stands_at : (n : NameNumbers) (st : Xid → BranchState) (d : Xid → JudgedDecision)
    (bs : List JudgedBranch) (x : Xid)
    → AreBranches n st d bs → option_map (λ b. b.stand) (find (is_named (n.xid x)) bs) ≡ stand_as (st x) (d x)
stands_at n st d bs x are = by (find (is_named (n.xid x)) bs) refl where
  by : (o : Option JudgedBranch) → find (is_named (n.xid x)) bs ≡ o
      → option_map (λ b. b.stand) o ≡ stand_as (st x) (d x)
  by None e = unknown_stand (st x) (d x)
      (sym (are.known x) ∙ sym (find_any (is_named (n.xid x)) bs) ∙ ap is_some e)
  by (Some b) e =
      let found = find_where (IsBranch n st d) (is_named (n.xid x)) bs b e are.each in
      let is : found.1.xid ≡ x = n.xids_apart found.1.xid x
      (sym found.1.is ∙ eqb-true b.name (n.xid x) found.0) in
      sym (subst (λ (y : Xid). stand_as (st y) (d y) ≡ Some b.stand) is found.1.stands)

-- Which threads are in a branch.

state_one : (b c : Bool) → b ≡ true → (if b then T1 else if c then T2 else T0) ≡ T1
state_one b c h = rw h refl

pub active_one : (a : AssocList) (t : ℕ) (x : Xid) → is_active a t x ≡ true → own_state a t x ≡ T1
active_one a t x h = state_one (is_active a t x) (has_seat a t x) h

pub seat_state : (b c : Bool) → c ≡ true → ((if b then T1 else if c then T2 else T0) ≡ T1)
    ⊎ ((if b then T1 else if c then T2 else T0) ≡ T2)
seat_state true c h = inl refl
seat_state false c h = inr (rw h refl)

-- each thread that holds associations is found by its number, where each is listed once
found_each : (es : List (ℕ × Option Xid)) → AreThreadsListedOnce es
    → AllByRecursion (λ f. lookup (nat_eq f.0) es ≡ Some f.1) es
found_each [] h = tt
found_each (e ∷ es) h = (
  cond-true (nat_eq e.0 e.0) (Some e.1) (lookup (nat_eq e.0) es) (eq-eqb e.0 e.0 refl),
  all_join (λ f. nat_eq f.0 e.0 ≡ false) (λ f. lookup (nat_eq f.0) es ≡ Some f.1)
      (λ f. lookup (nat_eq f.0) (e ∷ es) ≡ Some f.1)
      (λ f apart is. cond-false (nat_eq f.0 e.0) (Some e.1) (lookup (nat_eq f.0) es) apart ∙ is) es h.0
      (found_each es h.1),
)

pub entered : (a : AssocList) (x : Xid) → AreThreadsListedOnce a.holders → has_active a x ≡ true
    → (t : ℕ) × (own_state a t x ≡ T1)
entered a x once h =
    let f = any_where (λ f. lookup (nat_eq f.0) a.holders ≡ Some f.1)
    (λ e. option_map_or (λ y. same y x) e.1 false) a.holders h (found_each a.holders once) in
    (f.0.0, active_one a f.0.0 x (ap (λ o. option_map_or (λ y. same y x) (unwrap_or o None) false) f.2 ∙ f.1))

-- and the other way round
holder_in : (es : List (ℕ × Option Xid)) (t : ℕ) (x : Xid)
    → option_map_or (λ y. same y x) (unwrap_or (lookup (nat_eq t) es) None) false ≡ true
    → list_any (λ e. option_map_or (λ y. same y x) e.1 false) es ≡ true
holder_in [] t x h = absurd (false≢true h)
holder_in (e ∷ es) t x h = by (λ k. holder_in es t x k) (nat_eq t e.0) refl where
  by : (option_map_or (λ y. same y x) (unwrap_or (lookup (nat_eq t) es) None) false ≡ true
      → list_any (λ f. option_map_or (λ y. same y x) f.1 false) es ≡ true)
      → (b : Bool) → nat_eq t e.0 ≡ b → list_any
      (λ f. option_map_or (λ y. same y x) f.1 false) (e ∷ es) ≡ true
  by rest true q = or_left (option_map_or (λ y. same y x) e.1 false)
      (list_any (λ f. option_map_or (λ y. same y x) f.1 false) es)
      (subst (λ (b : Bool). option_map_or (λ y. same y x)
      (unwrap_or (cond b (Some e.1) (lookup (nat_eq t) es)) None) false ≡ true) q h)
  by rest false q = or_right (option_map_or (λ y. same y x) e.1 false)
      (list_any (λ f. option_map_or (λ y. same y x) f.1 false) es)
      (rest (subst (λ (b : Bool). option_map_or (λ y. same y x)
      (unwrap_or (cond b (Some e.1) (lookup (nat_eq t) es)) None) false ≡ true) q h))

pub holds_one : (a : AssocList) (t : ℕ) (x : Xid) → own_state a t x ≡ T1 → has_active a x ≡ true
holds_one a t x h = holder_in a.holders t x (is_active-T1 a t x h)

-- a thread that has suspended a branch
pub suspender : (seats : List Suspended) (x : Xid) → list_any (λ s. same s.xid x) seats ≡ true
    → (t : ℕ) × (list_any (same_seat (record { thread = t; xid = x })) seats ≡ true)
suspender [] x h = absurd (false≢true h)
suspender (s ∷ seats) x h = by (λ k. suspender seats x k) (same s.xid x) refl where
  by : (list_any (λ s. same s.xid x) seats ≡ true
      → (t : ℕ) × (list_any (same_seat (record { thread = t; xid = x })) seats ≡ true))
      → (b : Bool) → same s.xid x ≡ b
      → (t : ℕ) × (list_any (same_seat (record { thread = t; xid = x })) (s ∷ seats) ≡ true)
  by rest true q = (
    s.thread,
    or_left (same_seat (record { thread = s.thread; xid = x }) s)
        (list_any (same_seat (record { thread = s.thread; xid = x })) seats)
        (and_from (nat_eq s.thread s.thread) (same x s.xid) (eq-eqb s.thread s.thread refl)
        (subst (λ (z : Xid). same x z ≡ true) (sym (same_is s.xid x q)) (same_refl x))),
  )
  by rest false q =
      let f = rest (subst (λ (b : Bool). (b || list_any (λ s. same s.xid x) seats) ≡ true) q h) in (
        f.0,
        or_right (same_seat (record { thread = f.0; xid = x }) s)
            (list_any (same_seat (record { thread = f.0; xid = x })) seats) f.1,
      )

seat_in : (seats : List Suspended) (t : ℕ) (x : Xid)
    → list_any (same_seat (record { thread = t; xid = x })) seats ≡ true
    → list_any (λ s. same s.xid x) seats ≡ true
seat_in [] t x h = absurd (false≢true h)
seat_in (s ∷ seats) t x h = elim (or_cases (same_seat (record { thread = t; xid = x }) s)
    (list_any (same_seat (record { thread = t; xid = x })) seats) h) [
      | inl one ↦ or_left (same s.xid x) (list_any (λ s. same s.xid x) seats)
          (subst (λ (z : Suspended). same z.xid x ≡ true)
          (seat_is (record { thread = t; xid = x }) s one) (same_refl x))
      | inr more ↦ or_right (same s.xid x) (list_any (λ s. same s.xid x) seats) (seat_in seats t x more)
    ]

seat_two : (b c : Bool) → (if b then T1 else if c then T2 else T0) ≡ T2 → c ≡ true
seat_two true c h = absurd cc
seat_two false true h = refl
seat_two false false h = absurd cc

pub holds_two : (a : AssocList) (t : ℕ) (x : Xid) → own_state a t x ≡ T2 → has_suspended a x ≡ true
holds_two a t x h = seat_in a.seats t x (seat_two (is_active a t x) (has_seat a t x) h)
