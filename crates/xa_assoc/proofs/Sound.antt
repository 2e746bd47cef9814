-- What a change of one association leaves of the rest.
use Rattle.std.proofs.Common.{◌≡◌, ◌≢◌, ◌+◌, ℕ, Bool, true, false, List, [], ◌∷◌, Option, Some, None, inl, inr, refl, subst, ap, sym, ◌∙◌, rules, arith}
use Rattle.std.specs.Prelude.{◌||◌, is_some, nat_eq, if◌then◌else◌}
use Rattle.std.specs.List.{list_any}
use Rattle.std.specs.Option.{option_map_or}
use Rattle.std.proofs.lemmas.Bool.{cases_eq}
use Rattle.std.proofs.lemmas.Bool.Decides.{nat_tests}
use Rattle.xa_tables.specs.declared.states.AssocState.{AssocState}
use Rattle.xa_tables.specs.declared.states.AssocState.TheVariants.{T0, T1, T2, M}
use Rattle.xa_xid.specs.declared.xid.Xid.{Xid}
use Rattle.xa_branch.proofs.Names.{same_is, same_flips}
use Rattle.xa_assoc.specs.declared.held.Suspended.{Suspended}
use Rattle.xa_assoc.specs.Names.{same, same_seat}
use Rattle.xa_assoc.specs.Associations.{AssocList, active_of, has_seat, own_state, moved_of, has_some, is_holder, holds_any, listed_after, is_active, IsSound, Recounts, Turns, AssocMoves, Settles}

seat_thread : (t : ℕ) (x : Xid) (s : Suspended) → same_seat (record { thread = t; xid = x }) s
    ≡ true → nat_eq s.thread t ≡ true
seat_thread t x s h = grind (arith, nat_tests)

-- a thread that has suspended a branch has suspended some branch
pub has_some-seat : (t : ℕ) (x : Xid) (seats : List Suspended)
    → list_any (same_seat (record { thread = t; xid = x })) seats ≡ true → has_some seats t ≡ true
has_some-seat t x [] h = absurd cc
has_some-seat t x (s ∷ seats) h = grind (arith, seat_thread t x s, has_some-seat t x seats)

state_by : Option Xid → List Suspended → ℕ → Xid → AssocState
state_by o seats t x =
    if option_map_or (λ y. same y x) o false then T1
    else if list_any (same_seat (record { thread = t; xid = x })) seats then T2
    else T0

state_of : (a : AssocList) (t : ℕ) (x : Xid) → own_state a t x ≡ state_by (active_of a t) a.seats t x
unfolding state_by
state_of a t x = refl

-- states are what the active branches and the seats make them
pub own_state-same : (old new : AssocList) (t : ℕ) (x : Xid) → active_of new t ≡ active_of old t
    → new.seats ≡ old.seats → own_state new t x ≡ own_state old t x
own_state-same old new t x active seats =
    state_of new t x ∙ ap (λ o. state_by o new.seats t x) active
    ∙ ap (λ s. state_by (active_of old t) s t x) seats ∙ sym (state_of old t x)

moved_by : List (Xid × ℕ) → Xid → ℕ
moved_by moved x = moved_of (record { holders = []; seats = []; moved = moved; migrates = true }) x

-- a turn, and then the list of threads is settled
pub settled : (old mid new : AssocList) (t : ℕ) (x : Xid) (from to : AssocState) → Turns old mid t x from to
    → Settles mid new t → listed_after old new t from to ≡ holds_any new t → AssocMoves old new t x from to
settled old mid new t x from to turns settles listed = record {
  turns = record {
    own = own_state-same mid new t x (settles.active t) settles.seats ∙ turns.own;
    others = λ u y apart. own_state-same mid new u y (settles.active u)
        settles.seats ∙ turns.others u y apart;
    moved = rw settles.moved turns.moved;
    moved_others = λ y apart. rw settles.moved (turns.moved_others y apart);
    active = settles.active t ∙ turns.active;
    active_others = λ u differs. settles.active u ∙ turns.active_others u differs;
    holders = λ u differs. settles.holders u differs ∙ turns.holders u differs;
    migrates = settles.migrates ∙ turns.migrates;
  };
  holder = settles.holder ∙ ap (λ o. is_some o || has_some mid.seats t) (sym (settles.active t))
      ∙ ap (λ s. is_some (active_of new t) || has_some s t) (sym settles.seats) ∙ sym listed;
}

-- the active branch is another one
not_this : (o : Option Xid) (x y : Xid) → option_map_or (λ z. same z x) o false ≡ true → same y x ≡ false
    → option_map_or (λ z. same z y) o false ≡ false
not_this None x y h apart = refl
not_this (Some z) x y h apart = subst (λ w. same w y ≡ false) (sym (same_is z x h)) (same_flips y x apart)

state2 : Bool → Bool → AssocState
state2 a b = if a then T1 else if b then T2 else T0

state2_is : (a : AssocList) (t : ℕ) (x : Xid) → own_state a t x ≡ state2 (is_active a t x) (has_seat a t x)
unfolding state2
state2_is a t x = refl

seat_apart : (t : ℕ) (x y : Xid) → same_seat (record { thread = t; xid = y })
    (record { thread = t; xid = x }) ≡ false → same y x ≡ false
seat_apart t x y h = grind (arith, nat_tests)

-- where a thread's active branch is left, no other state changes
pub others_active : (old new : AssocList) (t : ℕ) (x : Xid)
    → is_active old t x ≡ true → active_of new t ≡ None
    → ((u : ℕ) → u ≢ t → active_of new u ≡ active_of old u)
    → ((u : ℕ) (y : Xid) → same_seat (record { thread = u; xid = y }) (record { thread = t; xid = x }) ≡ false
    → has_seat new u y ≡ has_seat old u y)
    → (u : ℕ) (y : Xid) → same_seat (record { thread = u; xid = y }) (record { thread = t; xid = x }) ≡ false
    → own_state new u y ≡ own_state old u y
others_active old new t x was none others seats u y apart =
    elim (cases_eq u t) [
      | inr differs ↦ (
          state2_is new u y ∙ ap (λ o. state2 (option_map_or (λ z. same z y) o false)
          (has_seat new u y)) (others u differs)
          ∙ ap (λ b. state2 (is_active old u y) b) (seats u y apart) ∙ sym (state2_is old u y))
      | inl is ↦ (
          let apart_t : same_seat (record { thread = t; xid = y }) (record { thread = t; xid = x }) ≡ false =
          subst (λ (n : ℕ). same_seat (record { thread = n; xid = y })
          (record { thread = t; xid = x }) ≡ false) is apart in
          let other : is_active old t y ≡ false =
          not_this (active_of old t) x y was (seat_apart t x y apart_t) in
          let at_t : own_state new t y ≡ own_state old t y = (
          state2_is new t y ∙ ap (λ o. state2 (option_map_or (λ z. same z y) o false) (has_seat new t y)) none
          ∙ ap (λ b. state2 false b) (seats t y apart_t) ∙ ap (λ a. state2 a (has_seat old t y)) (sym other)
          ∙ sym (state2_is old t y)) in
          subst (λ (n : ℕ). own_state new n y ≡ own_state old n y) (sym is) at_t)
    ]

active_case : (a b : Bool) → state2 a b ≡ T1 → a ≡ true
unfolding state2
active_case true b h = refl
active_case false true h = absurd cc
active_case false false h = absurd cc

-- a thread in T1 is active there
pub is_active-T1 : (a : AssocList) (t : ℕ) (x : Xid) → own_state a t x ≡ T1 → is_active a t x ≡ true
is_active-T1 a t x h = active_case (is_active a t x) (has_seat a t x) (sym (state2_is a t x) ∙ h)

-- if no branch is active and this one is suspended or not
pub own_state-none : (a : AssocList) (t : ℕ) (x : Xid) (b : Bool) → active_of a t ≡ None → has_seat a t x ≡ b
    → own_state a t x ≡ (if b then T2 else T0)
unfolding state2
own_state-none a t x b none seat = state2_is a t x ∙ ap (λ o. state2 (option_map_or (λ z. same z x) o false)
    (has_seat a t x)) none ∙ ap (λ c. state2 false c) seat

pub seat_is : (a b : Suspended) → same_seat a b ≡ true → a ≡ b
seat_is a b h = search rules

seat_refl : (a : Suspended) → same_seat a a ≡ true
seat_refl a = search rules

pub seat_flips : (a b : Suspended) → same_seat a b ≡ false → same_seat b a ≡ false
seat_flips a b h = flips (same_seat b a) refl where
  flips : (r : Bool) → same_seat b a ≡ r → r ≡ false
  flips false e = refl
  flips true e = absurd (let w : same_seat a a ≡ false = subst (λ z. same_seat a z ≡ false) (seat_is b a e) h
      in let r = seat_refl a in cc)

-- a thread that is listed no longer has suspended nothing
pub kept_removed : (old new : AssocList) (t : ℕ) → IsSound old → new.seats ≡ old.seats
    → has_some old.seats t ≡ false
    → ((u : ℕ) → u ≢ t → is_holder new u ≡ is_holder old u) → (u : ℕ) (x : Xid)
    → has_seat new u x ≡ true → is_holder new u ≡ true
kept_removed old new t sound seats free others u x seat =
    let seat_old : has_seat old u x ≡ true = ap
    (λ s. list_any (same_seat (record { thread = u; xid = x })) s) (sym seats) ∙ seat in
    elim (cases_eq u t) [
      | inl is ↦ absurd (let some : has_some old.seats t ≡ true = subst
          (λ (n : ℕ). has_some old.seats n ≡ true) is (has_some-seat u x old.seats seat_old) in cc)
      | inr differs ↦ others u differs ∙ sound.kept u x seat_old
    ]

-- a count is raised, and then an active branch is left
pub set_out : (old mid new : AssocList) (t : ℕ) (x : Xid) (n : ℕ) → Recounts old mid x n
    → n ≡ moved_of old x + 1 → AssocMoves mid new t x T1 T0 → AssocMoves old new t x T1 M
set_out old mid new t x n counted more moves =
    let held : (u : ℕ) → active_of mid u ≡ active_of old u = λ u. ap (λ h. active_of
    (record { holders = h; seats = []; moved = []; migrates = true }) u) counted.holders in
    let listed : (u : ℕ) → is_holder mid u ≡ is_holder old u = λ u. ap (λ h. is_holder
    (record { holders = h; seats = []; moved = []; migrates = true }) u) counted.holders in
    record {
      turns = record {
        own = moves.turns.own;
        others = λ u y apart. moves.turns.others u y apart
            ∙ own_state-same old mid u y (held u) counted.seats;
        moved = let back : moved_of new x + 0 ≡ moved_of mid x + 0 =
            moves.turns.moved in omega (arith, back, counted.own, more);
        moved_others = λ y apart. moves.turns.moved_others y apart ∙ counted.others y apart;
        active = moves.turns.active;
        active_others = λ u differs. moves.turns.active_others u differs ∙ held u;
        holders = λ u differs. moves.turns.holders u differs ∙ listed u;
        migrates = moves.turns.migrates ∙ counted.migrates;
      };
      holder = moves.holder;
    }

-- a thread enters, and then a count is lowered
pub pick_up : (old mid new : AssocList) (t : ℕ) (x : Xid) (n : ℕ) → AssocMoves old mid t x T0 T1
    → Recounts mid new x n → n + 1 ≡ moved_of old x → AssocMoves old new t x M T1
pick_up old mid new t x n moves counted less =
    let held : (u : ℕ) → active_of new u ≡ active_of mid u = λ u. ap (λ h. active_of
    (record { holders = h; seats = []; moved = []; migrates = true }) u) counted.holders in
    let listed : (u : ℕ) → is_holder new u ≡ is_holder mid u = λ u. ap (λ h. is_holder
    (record { holders = h; seats = []; moved = []; migrates = true }) u) counted.holders in
    record {
      turns = record {
        own = own_state-same mid new t x (held t) counted.seats ∙ moves.turns.own;
        others = λ u y apart. own_state-same mid new u y (held u) counted.seats
            ∙ moves.turns.others u y apart;
        moved = omega (arith, counted.own, less);
        moved_others = λ y apart. counted.others y apart ∙ moves.turns.moved_others y apart;
        active = held t ∙ moves.turns.active;
        active_others = λ u differs. held u ∙ moves.turns.active_others u differs;
        holders = λ u differs. listed u ∙ moves.turns.holders u differs;
        migrates = counted.migrates ∙ moves.turns.migrates;
      };
      holder = listed t ∙ moves.holder ∙ ap (λ o. is_some o || has_some mid.seats t) (sym (held t))
          ∙ ap (λ s. is_some (active_of new t) || has_some s t) (sym counted.seats);
    }
