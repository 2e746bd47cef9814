-- What holds of each manager that moves lead to, from a new one on.
use Rattle.std.proofs.Common.{◌≡◌, ◌≢◌, ℕ, Bool, true, false, List, [], ◌∷◌, length, Option, Some, None, inl, inr, refl, ap, sym, subst, ◌∙◌, arith}
use Rattle.std.specs.Prelude.{◌⊎◌, ◌||◌, ◌&&◌, is_some, unwrap_or, nat_eq, if◌then◌else◌}
use Rattle.std.specs.List.{list_any}
use Rattle.std.specs.Map.{lookup}
use Rattle.std.specs.Option.{option_map_or}
use Rattle.std.proofs.lemmas.Bool.{cases_eq}
use Rattle.std.proofs.lemmas.Bool.Decides.{nat_tests}
use Rattle.xa_tables.specs.declared.states.InitState.TheVariants.{R0}
use Rattle.xa_tables.specs.declared.states.AssocState.{AssocState}
use Rattle.xa_tables.specs.declared.states.AssocState.TheVariants.{T0, T1, T2, M}
use Rattle.xa_tables.specs.declared.states.BranchState.{BranchState}
use Rattle.xa_tables.specs.declared.states.BranchState.TheVariants.{S0, S1, S2, S3, S4, S5}
use Rattle.xa_xid.specs.declared.xid.Xid.{Xid}
use Rattle.xa_assoc.specs.declared.held.Suspended.{Suspended}
use Rattle.xa_assoc.specs.Names.{same, same_seat}
use Rattle.xa_assoc.specs.Associations.{AssocList, IsBare, AssocMoves, active_of, is_holder, has_some, holds_any, listed_after, moved_of, own_part, own_state}
use Rattle.xa_branch.proofs.Names.{same_is}
use Rattle.xa_assoc.proofs.Sound.{has_some-seat}
use Rattle.xa_branch.specs.Branches.{BranchMoves}
use Rattle.xa_branch.proofs.Placed.{AllIn, GoneOr, NoneOr, all_placed, found}
use Rattle.xa_assoc.specs.declared.states.States.{States}
use Rattle.xa_assoc.specs.Answers.{SameStates, AreNewStates}
use Rattle.xa_assoc.specs.Restored.{Restored, state_left, states_left}
use Rattle.proof_xa.proofs.Plans.{IsHere}

-- each known branch is in a state but S0
abbrev pub AllHere : List (Xid × BranchState) → Type 0
AllHere bs = AllIn IsHere bs

-- a thread that has an association is listed
abbrev pub AreThreadsListed : AssocList → Type 0
AreThreadsListed a = (t : ℕ) (x : Xid) → (own_state a t x ≡ T0) ⊎ (is_holder a t ≡ true)

pub record IsReached (m : States) : Type 0 where
  pub closed : m.init ≡ R0 → IsBare m.associations
  pub kept : AreThreadsListed m.associations
  pub states : AllHere m.branches.branches

-- a branch is not known, or in a state but S0
abbrev pub IsHereOr : Option BranchState → Type 0
IsHereOr o = NoneOr IsHere o

pub here_at : (bs : List (Xid × BranchState)) (x : Xid) → AllHere bs → IsHereOr (lookup (same x) bs)
here_at bs x h = found IsHere bs x h

gone_or_here : (s : BranchState) → GoneOr IsHere s
gone_or_here S0 = tt
gone_or_here S1 = tt
gone_or_here S2 = tt
gone_or_here S3 = tt
gone_or_here S4 = tt
gone_or_here S5 = tt

-- a branch that moves leaves all so
pub moved_states : (old new : States) (x : Xid) (s : BranchState) → BranchMoves old.branches new.branches x s
    → AllHere old.branches.branches → AllHere new.branches.branches
moved_states old new x s moves h =
    subst (λ (bs : List (Xid × BranchState)). AllHere bs) (sym moves.order)
    (all_placed IsHere old.branches.branches x s (gone_or_here s) h)

left_here : (decided : Bool) → IsHere (state_left decided)
left_here true = tt
left_here false = tt

-- those that a restart leaves are prepared or decided
left_states : (left : List (Xid × Bool)) → AllHere (states_left left)
left_states [] = tt
left_states (e ∷ left) = (left_here e.1, left_states left)

state_by : Option Xid → List Suspended → ℕ → Xid → AssocState
state_by o seats t x =
    if option_map_or (λ y. same y x) o false then T1
    else if list_any (same_seat (record { thread = t; xid = x })) seats then T2
    else T0

state_of : (a : AssocList) (t : ℕ) (x : Xid) → own_state a t x ≡ state_by (active_of a t) a.seats t x
unfolding state_by
state_of a t x = refl

seat_or : (b : Bool) (t : ℕ) (x : Xid) (seats : List Suspended)
    → list_any (same_seat (record { thread = t; xid = x })) seats ≡ b
    → (state_by None seats t x ≡ T0) ⊎ (has_some seats t ≡ true)
unfolding state_by
seat_or true t x seats e = inr (has_some-seat t x seats e)
seat_or false t x seats e = inl (rw e refl)

holds_by : (o : Option Xid) (t : ℕ) (x : Xid) (seats : List Suspended)
    → (state_by o seats t x ≡ T0) ⊎ ((is_some o || has_some seats t) ≡ true)
holds_by (Some y) t x seats = inr refl
holds_by None t x seats = seat_or (list_any (same_seat (record { thread = t; xid = x })) seats) t x seats refl

-- a thread that is not in T0 with a branch holds an association
holds_or : (a : AssocList) (t : ℕ) (x : Xid) → (own_state a t x ≡ T0) ⊎ (holds_any a t ≡ true)
holds_or a t x = elim (holds_by (active_of a t) t x a.seats)
    [ inl e ↦ inl (state_of a t x ∙ e) | inr h ↦ inr h ]

-- the call's thread holds what it did, where what belongs to nobody goes, and else is listed where it holds
-- something
listed_cases : (old new : AssocList) (t : ℕ) (from to : AssocState)
    → ((from ≡ M) × (to ≡ T0)) ⊎ (listed_after old new t from to ≡ holds_any new t)
listed_cases old new t M T0 = inl (refl, refl)
listed_cases old new t M T1 = inr refl
listed_cases old new t M T2 = inr refl
listed_cases old new t M M = inr refl
listed_cases old new t T0 to = inr refl
listed_cases old new t T1 to = inr refl
listed_cases old new t T2 to = inr refl

not_equal : (u t : ℕ) → u ≢ t → nat_eq u t ≡ false
not_equal u t differs = grind (arith, nat_tests)

and_false : (b : Bool) → (b && false) ≡ false
and_false true = refl
and_false false = refl

pub seats_apart : (u t : ℕ) (y x : Xid) → u ≢ t
    → same_seat (record { thread = u; xid = y }) (record { thread = t; xid = x }) ≡ false
seats_apart u t y x differs = ap (λ b. b && same y x) (not_equal u t differs)

pub names_apart : (u t : ℕ) (y x : Xid) → same y x ≡ false
    → same_seat (record { thread = u; xid = y }) (record { thread = t; xid = x }) ≡ false
names_apart u t y x differs = ap (λ b. nat_eq u t && b) differs ∙ and_false (nat_eq u t)

here : (old new : AssocList) (t : ℕ) (x y : Xid) (from to : AssocState) (b : Bool) → same y x ≡ b → from ≡ M
    → to ≡ T0 → AssocMoves old new t x from to → AreThreadsListed old
    → (own_state new t y ≡ T0) ⊎ (is_holder new t ≡ true)
here old new t x y from to true e is_from is_to moves kept =
    inl (ap (own_state new t) (same_is y x e) ∙ moves.turns.own ∙ ap own_part is_to)
here old new t x y from to false e is_from is_to moves kept =
    let state = moves.turns.others t y (names_apart t t y x e) in
    let listed : is_holder new t ≡ is_holder old t =
    moves.holder ∙ ap (λ (s : AssocState). listed_after old new t s to) is_from
    ∙ ap (λ (s : AssocState). listed_after old new t M s) is_to in
    elim (kept t y) [ inl none ↦ inl (state ∙ none) | inr held ↦ inr (listed ∙ held) ]

at_thread : (old new : AssocList) (t : ℕ) (x y : Xid) (from to : AssocState)
    → AssocMoves old new t x from to → AreThreadsListed old
    → (own_state new t y ≡ T0) ⊎ (is_holder new t ≡ true)
at_thread old new t x y from to moves kept =
    elim (listed_cases old new t from to) [
      | inl gone ↦ here old new t x y from to (same y x) refl gone.0 gone.1 moves kept
      | inr listed ↦ elim (holds_or new t y) [
        | inl none ↦ inl none
        | inr holds ↦ inr
            (moves.holder ∙ listed ∙ holds)
      ]
    ]

-- a move of an association leaves each thread listed that has one
pub moved_kept : (old new : AssocList) (t : ℕ) (x : Xid) (from to : AssocState)
    → AssocMoves old new t x from to → AreThreadsListed old → AreThreadsListed new
moved_kept old new t x from to moves kept u y =
    elim (cases_eq u t) [
      | inr differs ↦ (
          let state = moves.turns.others u y (seats_apart u t y x differs) in
          let listed = moves.turns.holders u differs in
          elim (kept u y) [ inl none ↦ inl (state ∙ none) | inr held ↦ inr (listed ∙ held) ])
      | inl is ↦ subst (λ (n : ℕ). (own_state new n y ≡ T0) ⊎ (is_holder new n ≡ true)) (sym is)
          (at_thread old new t x y from to moves kept)
    ]

lookup_none : {V : Type 0} (es : List (ℕ × V)) (t : ℕ) → length es ≡ 0 → lookup (nat_eq t) es ≡ None
lookup_none [] t e = refl
lookup_none (v ∷ es) t e = absurd (omega arith)

moved_none : (es : List (Xid × ℕ)) (x : Xid) → length es ≡ 0 → lookup (same x) es ≡ None
moved_none [] x e = refl
moved_none (v ∷ es) x e = absurd (omega arith)

-- if there are no associations, each thread is in T0 with each branch
pub bare_states : (a : AssocList) → IsBare a → AreThreadsListed a → (t : ℕ) (x : Xid) → own_state a t x ≡ T0
bare_states a bare kept t x =
    elim (kept t x) [
      | inl e ↦ e
      | inr held ↦ absurd (let none : is_holder a t ≡ false = ap is_some
          (lookup_none a.holders t bare.holders) in let f : true ≡ false = sym held ∙ none in cc)
    ]

-- and no branch is suspended for migration
pub bare_moved : (a : AssocList) → IsBare a → (x : Xid) → moved_of a x ≡ 0
bare_moved a bare x = ap (λ o. unwrap_or o 0) (moved_none a.moved x bare.moved)

-- if no branch is suspended, and no thread is listed, each thread is in T0 with each branch
pub empty_states : (a : AssocList) → IsBare a → a.seats ≡ [] → (t : ℕ) (x : Xid) → own_state a t x ≡ T0
unfolding state_by
empty_states a bare seats t x =
    let none : active_of a t ≡ None = ap (λ o. unwrap_or o None) (lookup_none a.holders t bare.holders) in
    state_of a t x ∙ ap (λ o. state_by o a.seats t x) none
    ∙ ap (λ (s : List Suspended). state_by None s t x) seats

-- a new manager is reached
pub new_reached : (m : States) → AreNewStates m → IsReached m
new_reached m h = record {
  closed = λ e. h.associations;
  kept = λ t x. inl (empty_states m.associations h.associations h.seats t x);
  states = subst (λ (bs : List (Xid × BranchState)). AllHere bs) (sym h.branches) tt;
}

-- and so is a manager that has not changed
pub same_reached : (old new : States) → SameStates old new → IsReached old → IsReached new
same_reached old new s ok = record {
  closed = λ e. subst (λ (a : AssocList). IsBare a) (sym s.associations) (ok.closed (sym s.init ∙ e));
  kept = subst (λ (a : AssocList). AreThreadsListed a) (sym s.associations) ok.kept;
  states = subst (λ (bs : List (Xid × BranchState)). AllHere bs) (sym s.branches.branches) ok.states;
}

-- and so is one after a restart
pub restored_reached : (left : List (Xid × Bool)) (m : States) → Restored left m → IsReached m
restored_reached left m h = record {
  closed = λ e. h.associations;
  kept = λ t x. inl (empty_states m.associations h.associations h.seats t x);
  states = subst (λ (bs : List (Xid × BranchState)). AllHere bs) (sym h.branches) (left_states left);
}
