-- What the judge asks of a state, where it is that of a key store's tables.
use Rattle.std.proofs.Common.{◌≡◌, ℕ, ◌+◌, Bool, true, false, not, cond, Option, Some, None, List, [], ◌∷◌, find, option_map, ◌&&◌, ◌||◌, refl, ap, sym, subst, ◌∙◌, inl, inr, arith}
use Rattle.std.specs.Prelude.{◌==◌, ◌⊎◌, is_some, nat_lt, if◌then◌else◌}
use Rattle.std.specs.List.{list_any}
use Rattle.std.proofs.lemmas.List.Sums.{sum_by-append}
use Rattle.std.proofs.lemmas.Bool.{eq-eqb, false≢true, lt-ltb, or_cases, or_left, or_right, and_from}
use Rattle.xa_xid.specs.declared.xid.Xid.{Xid}
use Rattle.xa_tables.specs.declared.states.AssocState.{AssocState}
use Rattle.xa_tables.specs.declared.states.AssocState.TheVariants.{T0, T1, T2, M}
use Rattle.xa_branch.proofs.Names.{same_is, same_refl}
use Rattle.xa_branch.specs.Names.{same}
use Rattle.std.specs.Option.{option_map_or}
use Rattle.xa_assoc.specs.Associations.{AreThreadsListedOnce, AssocList, active_of, has_active, has_seat, has_suspended, is_active, moved_of, own_state}
use Rattle.xa_assoc.specs.Answers.{is_held}
use Rattle.xa_assoc.proofs.Sound.{is_active-T1}
use Rattle.judge_state.specs.declared.parts.Link.{Link}
use Rattle.judge_state.specs.Questions.{is_active_link}
use Rattle.proof_judged_deeds.specs.Names.{NameNumbers}
use Rattle.proof_judged_deeds.proofs.Lists.{any_implied, any_pick, bool_same, find_any, find_where}
use Rattle.proof_judged_deeds.proofs.Links.{IsNamed, Tied, is_one, is_two, times}
use Rattle.proof_judged_deeds.proofs.Mirrors.{active_one, entered, holds_one, holds_two, seat_state, suspender}

one_state : (s : AssocState) → is_one s ≡ true → s ≡ T1
one_state T1 h = refl
one_state T0 h = absurd cc
one_state T2 h = absurd cc
one_state M h = absurd cc

two_state : (s : AssocState) → is_two s ≡ true → s ≡ T2
two_state T2 h = refl
two_state T0 h = absurd cc
two_state T1 h = absurd cc
two_state M h = absurd cc

active_at : (o : Option Xid) → is_some o ≡ true → (x : Xid) × (option_map_or (λ y. same y x) o false ≡ true)
active_at None h = absurd cc
active_at (Some x) h = (x, same_refl x)

some_at : (o : Option Xid) (x : Xid) → option_map_or (λ y. same y x) o false ≡ true → is_some o ≡ true
some_at None x h = absurd cc
some_at (Some y) x h = refl

thread_only : (a b c : Bool) → (a && b && c) ≡ true → (a && c) ≡ true
thread_only true true c h = h
thread_only true false c h = absurd cc
thread_only false b c h = absurd cc

put_between : (a b c : Bool) → b ≡ true → (a && c) ≡ true → (a && b && c) ≡ true
put_between true b c h k = rw h k
put_between false b c h k = absurd cc

-- a thread is active in some branch
pub active_same : (n : NameNumbers) (a : AssocList) (ls : List Link) (ms : List ℕ) (t : ℕ) → Tied n a ls ms
    → list_any (is_active_link t) ls ≡ is_some (active_of a t)
active_same n a ls ms t tied = bool_same (list_any (is_active_link t) ls)
    (is_some (active_of a t)) to from where
      to : list_any (is_active_link t) ls ≡ true → is_some (active_of a t) ≡ true
      to h =
          let f = any_pick (λ l. IsNamed n l.branch) (is_active_link t)
          (λ (x : Xid) (l : Link). l.thread == t && l.branch == n.xid x && not l.suspended)
          (λ l named is. (
            named.0,
            put_between (l.thread == t) (l.branch == n.xid named.0) (not l.suspended)
                (eq-eqb l.branch (n.xid named.0) named.1) is,
          )) ls tied.named h in
          some_at (active_of a t) f.0 (is_active-T1 a t f.0
          (one_state (own_state a t f.0) (sym (tied.one t f.0) ∙ f.1)))

      from : is_some (active_of a t) ≡ true → list_any (is_active_link t) ls ≡ true
      from h =
          let f = active_at (active_of a t) h in
          any_implied (λ l. l.thread == t && l.branch == n.xid f.0 && not l.suspended) (is_active_link t)
          (λ l is. thread_only (l.thread == t) (l.branch == n.xid f.0) (not l.suspended) is) ls
          (tied.one t f.0 ∙ ap is_one (active_one a t f.0 f.1))

-- a test of one of two kinds of associations of a thread
abbrev kind : ℕ → (ℕ ⊎ ℕ) → Link → Bool
kind x (inl t) l = l.thread == t && l.branch == x && not l.suspended
kind x (inr t) l = l.thread == t && l.branch == x && l.suspended

kind_of : (x : ℕ) (l : Link) (b : Bool) → l.suspended ≡ b → (l.branch == x) ≡ true
    → (k : ℕ ⊎ ℕ) × (kind x k l ≡ true)
kind_of x l true e h = (
  inr l.thread,
  put_between (l.thread == l.thread) (l.branch == x) l.suspended h
      (and_from (l.thread == l.thread) l.suspended (eq-eqb l.thread l.thread refl) e),
)
kind_of x l false e h = (
  inl l.thread,
  put_between (l.thread == l.thread) (l.branch == x) (not l.suspended) h
      (and_from (l.thread == l.thread) (not l.suspended) (eq-eqb l.thread l.thread refl) (ap not e)),
)

branch_only : (a b c : Bool) → (a && b && c) ≡ true → b ≡ true
branch_only true true c h = refl
branch_only true false c h = absurd cc
branch_only false b c h = absurd cc

linked_same : (n : NameNumbers) (a : AssocList) (ls : List Link) (ms : List ℕ) (x : Xid) → Tied n a ls ms
    → AreThreadsListedOnce a.holders
    → list_any (λ l. l.branch == n.xid x) ls ≡ (has_active a x || has_suspended a x)
linked_same n a ls ms x tied once =
    bool_same (list_any (λ l. l.branch == n.xid x) ls) (has_active a x || has_suspended a x) to from where
      found : (k : ℕ ⊎ ℕ) → list_any (kind (n.xid x) k) ls ≡ true
          → (has_active a x || has_suspended a x) ≡ true
      found (inl t) h = or_left (has_active a x) (has_suspended a x)
          (holds_one a t x (one_state (own_state a t x) (sym (tied.one t x) ∙ h)))
      found (inr t) h = or_right (has_active a x) (has_suspended a x)
          (holds_two a t x (two_state (own_state a t x) (sym (tied.two t x) ∙ h)))

      to : list_any (λ l. l.branch == n.xid x) ls ≡ true → (has_active a x || has_suspended a x) ≡ true
      to h =
          let f = any_pick (λ l. IsNamed n l.branch) (λ l. l.branch == n.xid x) (kind (n.xid x))
          (λ l named is. kind_of (n.xid x) l l.suspended refl is) ls tied.named h in
          found f.0 f.1

      by_one : (t : ℕ) → own_state a t x ≡ T1 → list_any (λ l. l.branch == n.xid x) ls ≡ true
      by_one t h = any_implied (kind (n.xid x) (inl t)) (λ l. l.branch == n.xid x)
          (λ l is. branch_only (l.thread == t) (l.branch == n.xid x) (not l.suspended) is) ls
          (tied.one t x ∙ ap is_one h)

      by_two : (t : ℕ) → own_state a t x ≡ T2 → list_any (λ l. l.branch == n.xid x) ls ≡ true
      by_two t h = any_implied (kind (n.xid x) (inr t)) (λ l. l.branch == n.xid x)
          (λ l is. branch_only (l.thread == t) (l.branch == n.xid x) l.suspended is) ls
          (tied.two t x ∙ ap is_two h)

      from : (has_active a x || has_suspended a x) ≡ true → list_any (λ l. l.branch == n.xid x) ls ≡ true
      from h = elim (or_cases (has_active a x) (has_suspended a x) h) [
        | inl one ↦ (let e = entered a x once one in by_one e.0 e.1)
        | inr two ↦ (let e = suspender a.seats x two in
            elim (seat_state (is_active a e.0 x) (has_seat a e.0 x) e.1) [
              | inl is ↦ by_one e.0 is
              | inr is ↦ by_two e.0 is
            ])
      ]

times_cons : (x m : ℕ) (ms : List ℕ) → times x (m ∷ ms) ≡ (if m == x then 1 else 0) + times x ms
times_cons x m ms =
    let e = sum_by-append (λ (k : ℕ). if k == x then 1 else 0) (m ∷ []) ms in omega arith

times_by : (b a : Bool) (k : ℕ) → a ≡ nat_lt 0 k → (b || a) ≡ nat_lt 0 ((if b then 1 else 0) + k)
times_by true a k h = sym (lt-ltb 0 (1 + k) (omega arith))
times_by false a k h = h ∙ ap (λ j. nat_lt 0 j) (let e : k ≡ 0 + k = omega arith in e)

pub some_times : (x : ℕ) (ms : List ℕ) → list_any (λ m. m == x) ms ≡ nat_lt 0 (times x ms)
some_times x [] = refl
some_times x (m ∷ ms) =
    times_by (m == x) (list_any (λ m. m == x) ms) (times x ms) (some_times x ms)
    ∙ ap (λ j. nat_lt 0 j) (sym (times_cons x m ms))

held_by : (a b c d : Bool) → (a || b) ≡ d → (d || c) ≡ (a || b || c)
held_by true b c d h = subst (λ (z : Bool). (z || c) ≡ (true || b || c)) h refl
held_by false b c d h = subst (λ (z : Bool). (z || c) ≡ (false || b || c)) h refl

-- a branch has an association of any kind
pub held_same : (n : NameNumbers) (a : AssocList) (ls : List Link) (ms : List ℕ) (x : Xid) → Tied n a ls ms
    → AreThreadsListedOnce a.holders
    → (list_any (λ l. l.branch == n.xid x) ls || list_any (λ m. m == n.xid x) ms) ≡ is_held a x
held_same n a ls ms x tied once =
    ap (λ b. list_any (λ l. l.branch == n.xid x) ls || b)
    (some_times (n.xid x) ms ∙ ap (λ k. nat_lt 0 k) (tied.moved x))
    ∙ held_by (has_active a x) (has_suspended a x) (nat_lt 0 (moved_of a x))
    (list_any (λ l. l.branch == n.xid x) ls)
    (sym (linked_same n a ls ms x tied once))

-- the branch that a thread is active in

found_in : {X : Type 0} (p q : X → Bool) (xs : List X) (y : X) → find p xs ≡ Some y → q y ≡ true
    → list_any q xs ≡ true
found_in p q [] y e h = absurd cc
found_in {X} p q (x ∷ xs) y e h = by (λ k. found_in p q xs y k h) (p x) refl where
  by : (find p xs ≡ Some y → list_any q xs ≡ true) → (b : Bool) → p x ≡ b → list_any q (x ∷ xs) ≡ true
  by rest true r =
      let one : Some x ≡ Some y = subst (λ (b : Bool). cond b (Some x) (find p xs) ≡ Some y) r e in
      let is : x ≡ y = cc in
      or_left (q x) (list_any q xs) (subst (λ (z : X). q z ≡ true) (sym is) h)
  by rest false r =
      or_right (q x) (list_any q xs) (rest (subst (λ (b : Bool). cond b (Some x) (find p xs) ≡ Some y) r e))

active_only : (a c : Bool) → (a && c) ≡ true → (b : Bool) → b ≡ true → (a && b && c) ≡ true
active_only true true h b k = rw k refl
active_only true false h b k = absurd (false≢true h)
active_only false c h b k = absurd (false≢true h)

pub worker_same : (n : NameNumbers) (a : AssocList) (ls : List Link) (ms : List ℕ) (t : ℕ) (x : Xid)
    → Tied n a ls ms
    → active_of a t ≡ Some x → option_map (λ l. l.branch) (find (is_active_link t) ls) ≡ Some (n.xid x)
worker_same n a ls ms t x tied h = by (find (is_active_link t) ls) refl where
  by : (o : Option Link) → find (is_active_link t) ls ≡ o → option_map (λ l. l.branch) o ≡ Some (n.xid x)
  by None e = absurd (let f : true ≡ false = sym (active_same n a ls ms t tied ∙ ap is_some h)
      ∙ sym (find_any (is_active_link t) ls) ∙ ap is_some e in cc)
  by (Some l) e =
      let w = find_where (λ k. IsNamed n k.branch) (is_active_link t) ls l e tied.named in
      let here = found_in (is_active_link t) (λ k. k.thread == t && k.branch == n.xid w.1.0
      && not k.suspended) ls l e
      (active_only (l.thread == t) (not l.suspended) w.0 (l.branch == n.xid w.1.0)
      (eq-eqb l.branch (n.xid w.1.0) w.1.1)) in
      let one = is_active-T1 a t w.1.0 (one_state (own_state a t w.1.0) (sym (tied.one t w.1.0) ∙ here)) in
      let is = same_is x w.1.0 (ap (λ (o : Option Xid). option_map_or (λ y. same y w.1.0) o false) (sym h)
      ∙ one) in
      ap (λ k. Some k) (w.1.1 ∙ ap n.xid (sym is))
