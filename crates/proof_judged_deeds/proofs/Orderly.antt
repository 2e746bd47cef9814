-- What the tables keep through each call.
use Rattle.std.proofs.Common.{◌≡◌, ℕ, Bool, true, false, Option, Some, None, List, [], ◌∷◌, refl, ap, sym, subst, ◌∙◌, inl, inr}
use Rattle.std.specs.List.{list_any}
use Rattle.std.specs.Option.{option_map_or}
use Rattle.std.proofs.lemmas.Bool.{and_from, cases_eq, eq-eqb, eqb-true, false_from_ne_true, false≢true, or_cases, or_left, or_right}
use Rattle.xa_xid.specs.declared.xid.Xid.{Xid}
use Rattle.xa_tables.specs.declared.states.AssocState.{AssocState}
use Rattle.xa_tables.specs.declared.states.AssocState.TheVariants.{T0, T1, T2, M}
use Rattle.xa_tables.specs.declared.states.BranchState.{BranchState}
use Rattle.xa_tables.specs.declared.states.BranchState.TheVariants.{S0, S1, S2, S3, S4, S5}
use Rattle.xa_branch.specs.Names.{same}
use Rattle.xa_branch.specs.Branches.{BranchList, BranchMoves, state_in}
use Rattle.xa_branch.proofs.Names.{same_is, same_refl, same_flips}
use Rattle.xa_branch.proofs.Placed.{AllIn, GoneOr, all_placed}
use Rattle.xa_assoc.specs.Names.{same_seat}
use Rattle.xa_assoc.specs.declared.held.Suspended.{Suspended}
use Rattle.xa_assoc.specs.Associations.{AreThreadsListedOnce, AssocList, AssocMoves, Turns, active_of, has_seat, has_some, holds_any, is_active, is_holder, listed_after, moved_of, own_state}
use Rattle.proof_xa.proofs.Reached.{moved_kept, seats_apart}
use Rattle.proof_judged_deeds.proofs.Branches.{at_name}
use Rattle.proof_judged_deeds.proofs.Doubting.{AreNamedOnce, named_placed}
use Rattle.proof_judged_deeds.proofs.Mirrors.{IsBegun, IsOrderly, active_one, is_quiet, seat_state}
use Rattle.proof_judged_deeds.specs.Names.{NameNumbers}
use Rattle.std.specs.Prelude.{◌⊎◌, is_some, nat_eq, ◌&&◌}

gone_or : (s : BranchState) → GoneOr IsBegun s
gone_or S0 = tt
gone_or S1 = refl
gone_or S2 = refl
gone_or S3 = refl
gone_or S4 = refl
gone_or S5 = refl

here_moved : (old new : BranchList) (x : Xid) (to : BranchState) → BranchMoves old new x to
    → AllIn IsBegun old.branches → AllIn IsBegun new.branches
here_moved old new x to moves here =
    subst (λ (bs : List (Xid × BranchState)). AllIn IsBegun bs) (sym moves.order)
    (all_placed IsBegun old.branches x to (gone_or to) here)

named_moved : (old new : BranchList) (x : Xid) (to : BranchState) → BranchMoves old new x to
    → AreNamedOnce old.branches → AreNamedOnce new.branches
named_moved old new x to moves named = subst (λ (bs : List (Xid × BranchState)). AreNamedOnce bs)
    (sym moves.order)
    (named_placed old.branches x to named)

and_off : (b : Bool) → (b && false) ≡ false
and_off true = refl
and_off false = refl

-- at another branch no association turned
pub other_own : (old new : AssocList) (t : ℕ) (x : Xid) (from to : AssocState) → Turns old new t x from to
    → (u : ℕ) (y : Xid) → same x y ≡ false → own_state new u y ≡ own_state old u y
other_own old new t x from to turns u y differs =
    turns.others u y (ap (λ b. nat_eq u t && b) (same_flips x y differs) ∙ and_off (nat_eq u t))

-- a thread that holds an association has one
held_seat : (seats : List Suspended) (t : ℕ) → list_any (λ s. nat_eq s.thread t) seats ≡ true
    → (x : Xid) × (list_any (same_seat (record { thread = t; xid = x })) seats ≡ true)
held_seat [] t h = absurd (false≢true h)
held_seat (s ∷ seats) t h = elim (or_cases (nat_eq s.thread t) (list_any (λ z. nat_eq z.thread t) seats) h) [
  | inl here ↦ (
    s.xid,
    or_left (same_seat (record { thread = t; xid = s.xid }) s)
        (list_any (same_seat (record { thread = t; xid = s.xid })) seats)
        (and_from (nat_eq t s.thread) (same s.xid s.xid) (eq-eqb t s.thread (sym (eqb-true s.thread t here)))
        (same_refl s.xid)),
  )
  | inr more ↦ (let f = held_seat seats t more in (
    f.0,
    or_right (same_seat (record { thread = t; xid = f.0 }) s)
        (list_any (same_seat (record { thread = t; xid = f.0 })) seats) f.1,
  ))
]

active_at : (o : Option Xid) → is_some o ≡ true → (x : Xid) × (option_map_or (λ y. same y x) o false ≡ true)
active_at None h = absurd cc
active_at (Some x) h = (x, same_refl x)

not_none : (s : AssocState) → (s ≡ T1) ⊎ (s ≡ T2) → s ≡ T0 → ⊥
not_none s (inl p) q = absurd (let e : T1 ≡ T0 = sym p ∙ q in cc)
not_none s (inr p) q = absurd (let e : T2 ≡ T0 = sym p ∙ q in cc)

holds_one_of : (a : AssocList) (t : ℕ) → holds_any a t ≡ true → (x : Xid) × (own_state a t x ≡ T0 → ⊥)
holds_one_of a t h = elim (or_cases (is_some (active_of a t)) (has_some a.seats t) h) [
  | inl active ↦ (let f = active_at (active_of a t) active in
      (f.0, not_none (own_state a t f.0) (inl (active_one a t f.0 f.1))))
  | inr seat ↦ (let f = held_seat a.seats t seat in
      (f.0, not_none (own_state a t f.0) (seat_state (is_active a t f.0) (has_seat a t f.0) f.1)))
]

listed_cases : (old new : AssocList) (t : ℕ) (from to : AssocState)
    → ((from ≡ M) × (to ≡ T0)) ⊎ (listed_after old new t from to ≡ holds_any new t)
listed_cases old new t M T0 = inl (refl, refl)
listed_cases old new t M T1 = inr refl
listed_cases old new t M T2 = inr refl
listed_cases old new t M M = inr refl
listed_cases old new t T0 to = inr refl
listed_cases old new t T1 to = inr refl
listed_cases old new t T2 to = inr refl

moved_holding : (a b : AssocList) (t : ℕ) (x : Xid) (from to : AssocState) → AssocMoves a b t x from to
    → (from ≡ M → to ≡ T0 → own_state a t x ≡ T0)
    → ((u : ℕ) → is_holder a u ≡ true → (y : Xid) × (own_state a u y ≡ T0 → ⊥))
    → (u : ℕ) → is_holder b u ≡ true → (y : Xid) × (own_state b u y ≡ T0 → ⊥)
moved_holding a b t x from to moves none holding u h = elim (cases_eq u t) [
  | inr apart ↦ (let f = holding u (sym (moves.turns.holders u apart) ∙ h) in
      (f.0, λ e. f.1 (sym (moves.turns.others u f.0 (seats_apart u t f.0 x apart)) ∙ e)))
  | inl is ↦ subst (λ (v : ℕ). (y : Xid) × (own_state b v y ≡ T0 → ⊥)) (sym is)
      (here (subst (λ (v : ℕ). is_holder b v ≡ true) is h))
] where
  gone : from ≡ M → to ≡ T0 → is_holder b t ≡ true → (y : Xid) × (own_state b t y ≡ T0 → ⊥)
  gone p q k =
      let listed : is_holder b t ≡ is_holder a t = moves.holder
      ∙ ap (λ (s : AssocState). listed_after a b t s to) p
      ∙ ap (λ (s : AssocState). listed_after a b t M s) q in
      let f = holding t (sym listed ∙ k) in
      let apart : same x f.0 ≡ false = false_from_ne_true (same x f.0) (λ e. f.1
      (ap (λ z. own_state a t z) (sym (same_is x f.0 e)) ∙ none p q)) in
      (f.0, λ e. f.1 (sym (other_own a b t x from to moves.turns t f.0 apart) ∙ e))

  here : is_holder b t ≡ true → (y : Xid) × (own_state b t y ≡ T0 → ⊥)
  here k = elim (listed_cases a b t from to) [
    | inl both ↦ gone both.0 both.1 k
    | inr listed ↦ holds_one_of b t (sym listed ∙ sym moves.holder ∙ k)
  ]

-- a start or an end leads to a state in which threads may work
pub orderly_worked : (n : NameNumbers) (old new : BranchList) (a b : AssocList) (t : ℕ) (x : Xid)
    (from to : AssocState)
    (st : BranchState) → IsOrderly old.branches a → AreThreadsListedOnce b.holders
    → AssocMoves a b t x from to
    → (from ≡ M → to ≡ T0 → own_state a t x ≡ T0)
    → BranchMoves old new x st → is_quiet st ≡ false → (st ≡ S1 → (u : ℕ) × (own_state b u x ≡ T1))
    → IsOrderly new.branches b
orderly_worked n old new a b t x from to st orderly once assoc none moves at_work busy = record {
  once = once;
  here = here_moved old new x st moves orderly.here;
  named = named_moved old new x st moves orderly.named;
  busy = at_name n x (λ y. state_in new.branches y ≡ S1 → (u : ℕ) × (own_state b u y ≡ T1))
      (λ e. busy (sym moves.own ∙ e))
      (λ y differs e. let w = orderly.busy y (sym (moves.others y differs) ∙ e) in
      (w.0, other_own a b t x from to assoc.turns w.0 y differs ∙ w.1));
  quiet = λ u. at_name n x (λ y. is_quiet (state_in new.branches y) ≡ true → own_state b u y ≡ T0)
      (λ e. absurd (false≢true (sym (ap is_quiet moves.own ∙ at_work) ∙ e)))
      (λ y differs e. other_own a b t x from to assoc.turns u y differs
      ∙ orderly.quiet u y (ap is_quiet (sym (moves.others y differs)) ∙ e));
  unmoved = at_name n x (λ y. is_quiet (state_in new.branches y) ≡ true → moved_of b y ≡ 0)
      (λ e. absurd (false≢true (sym (ap is_quiet moves.own ∙ at_work) ∙ e)))
      (λ y differs e. assoc.turns.moved_others y differs
      ∙ orderly.unmoved y (ap is_quiet (sym (moves.others y differs)) ∙ e));
  kept = moved_kept a b t x from to assoc orderly.kept;
  holding = moved_holding a b t x from to assoc none orderly.holding;
}

-- a call that finishes a branch leaves the associations, of which it has none
pub orderly_finished : (n : NameNumbers) (old new : BranchList) (a : AssocList) (x : Xid) (st : BranchState)
    → IsOrderly old.branches a → BranchMoves old new x st → is_quiet st ≡ true
    → ((u : ℕ) → own_state a u x ≡ T0) → moved_of a x ≡ 0 → IsOrderly new.branches a
orderly_finished n old new a x st orderly moves calm none unmoved = record {
  once = orderly.once;
  here = here_moved old new x st moves orderly.here;
  named = named_moved old new x st moves orderly.named;
  busy = at_name n x (λ y. state_in new.branches y ≡ S1 → (u : ℕ) × (own_state a u y ≡ T1))
      (λ e. absurd (let f : false ≡ true = sym (ap is_quiet (sym moves.own ∙ e)) ∙ calm in false≢true f))
      (λ y differs e. orderly.busy y (sym (moves.others y differs) ∙ e));
  quiet = λ u. at_name n x (λ y. is_quiet (state_in new.branches y) ≡ true → own_state a u y ≡ T0)
      (λ e. none u)
      (λ y differs e. orderly.quiet u y (ap is_quiet (sym (moves.others y differs)) ∙ e));
  unmoved = at_name n x (λ y. is_quiet (state_in new.branches y) ≡ true → moved_of a y ≡ 0)
      (λ e. unmoved)
      (λ y differs e. orderly.unmoved y (ap is_quiet (sym (moves.others y differs)) ∙ e));
  kept = orderly.kept;
  holding = orderly.holding;
}
