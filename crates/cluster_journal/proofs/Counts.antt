-- Tests of processes, and counts.
use Rattle.std.proofs.Common.{◌≡◌, ◌≢◌, ◌⊎◌, ◌∙◌, ap, sym, refl, inl, inr, ℕ, suc, ◌+◌, ◌<◌, ◌≤◌, Bool, true, false, cond, ◌&&◌, not, if◌then◌else◌, All, Contains, count_by, List, [], ◌∷◌, ◌++◌, length, get_or, slice_set, arith}
use Rattle.std.proofs.lemmas.List.Elements.{All-head, All-tail}
use Rattle.std.proofs.lemmas.List.{length-set}
use Rattle.std.proofs.lemmas.List.Sums.{count_by-le-length, get_or-le-sum_by, sum_by-cons, sum_by-set, sum_by_push}
use Rattle.protocol.specs.declared.names.ProcessId.{ProcessId}
use Rattle.protocol.specs.contracts.names.ProcessIdPartialEq.TheImpl as processes
use Rattle.protocol.specs.Names.{same_process}
use Rattle.protocol.specs.NameLaws.{same_process_tells}
use Rattle.cluster_journal.specs.Marks.{one_if}

-- Tests.

pub and_true : (b c : Bool) → c ≡ true → b && c ≡ b
and_true true c is = is
and_true false c is = refl

pub and_false : (b c : Bool) → c ≡ false → b && c ≡ false
and_false true c is = is
and_false false c is = refl

pub both_right : (b c : Bool) → b && c ≡ true → c ≡ true
both_right true c h = h
both_right false c h = absurd (cc)

-- a process is its number
pub one_process : (a b : ProcessId) → a.0 ≡ b.0 → a ≡ b
one_process a b same = grind arith

-- a process is itself
pub is_itself : (a b : ProcessId) → a ≡ b → same_process a b ≡ true
is_itself a b is = elim (same_process_tells a b) [
  | inl so ↦ so.0
  | inr not_so ↦ absurd (not_so.1 is)
]

pub is_other : (a b : ProcessId) → a ≢ b → same_process a b ≡ false
is_other a b other = elim (same_process_tells a b) [
  | inl so ↦ absurd (other so.1)
  | inr not_so ↦ not_so.0
]

pub is_the_one : (a b : ProcessId) → same_process a b ≡ true → a ≡ b
is_the_one a b is = elim (same_process_tells a b) [
  | inl so ↦ so.1
  | inr not_so ↦ absurd (let o = not_so.0 in cc)
]

pub not_true : (b : Bool) → true ≡ not b → b ≡ false
not_true true h = absurd (cc)
not_true false h = refl

pub not_false : (b : Bool) → false ≡ not b → b ≡ true
not_false true h = refl
not_false false h = absurd (cc)

pub if_true : {A : Type 0} (b : Bool) (x y : A) → b ≡ true → (if b then x else y) ≡ x
if_true true x y h = refl
if_true false x y h = absurd (cc)

-- Counts.

pub one_cond : (b : Bool) → cond b 1 0 ≡ one_if b
one_cond true = refl
one_cond false = refl

pub count_set : {A : Type 0} (f : A → Bool) (ms : List A) (p : ℕ) (m d y : A) → p < length ms
    → m ≡ get_or ms p d
    → count_by f (slice_set ms p y) + one_if (f m) ≡ count_by f ms + one_if (f y)
count_set f ms p m d y lt at =
    let moved = sum_by-set (λ x. cond (f x) 1 0) ms p y d lt in
    let was : cond (f (get_or ms p d)) 1 0 ≡ one_if (f m) =
    ap (λ x. cond (f x) 1 0) (sym at) ∙ one_cond (f m) in
    let is = one_cond (f y) in
    omega (arith, moved, was, is)

pub count_push : {A : Type 0} (f : A → Bool) (ms : List A) (y : A)
    → count_by f (ms ++ y ∷ []) ≡ count_by f ms + one_if (f y)
count_push f ms y =
    let pushed = sum_by_push (λ x. cond (f x) 1 0) ms y in
    let is = one_cond (f y) in
    omega (arith, pushed, is)

pub count_cons : {A : Type 0} (f : A → Bool) (m : A) (ms : List A)
    → count_by f (m ∷ ms) ≡ one_if (f m) + count_by f ms
count_cons f m ms =
    let first = sum_by-cons (λ x. cond (f x) 1 0) m ms in
    let is = one_cond (f m) in
    omega (arith, first, is)

-- one of them is counted
pub count_at : {A : Type 0} (f : A → Bool) (ms : List A) (p : ℕ) (m d : A) → p < length ms → m ≡ get_or ms p d
    → one_if (f m) ≤ count_by f ms
count_at f ms p m d lt at =
    let low = get_or-le-sum_by (λ x. cond (f x) 1 0) ms p d lt in
    let is : cond (f (get_or ms p d)) 1 0 ≡ one_if (f m) = ap (λ x. cond (f x) 1 0) (sym at) ∙ one_cond (f m)
    in
    omega (arith, low, is)

zero_is_false : (b : Bool) (n : ℕ) → one_if b ≤ n → n ≡ 0 → b ≡ false
zero_is_false true n le z = absurd (omega (arith, le, z))
zero_is_false false n le z = refl

-- if none is counted none passes
pub none_at : {A : Type 0} (f : A → Bool) (ms : List A) (p : ℕ) (m d : A) → p < length ms → m ≡ get_or ms p d
    → count_by f ms ≡ 0 → f m ≡ false
none_at f ms p m d lt at z = zero_is_false (f m) (count_by f ms) (count_at f ms p m d lt at) z

pub count_none : {A : Type 0} (f : A → Bool) (ms : List A) → All (λ m. f m ≡ false) ms → count_by f ms ≡ 0
count_none f [] all = refl
count_none f (m ∷ ms) all =
    let first = count_cons f m ms in
    let not_so : one_if (f m) ≡ 0 = ap one_if (All-head (λ x. f x ≡ false) m ms all) in
    let rest = count_none f ms (All-tail (λ x. f x ≡ false) m ms all) in
    omega (arith, first, not_so, rest)

-- none is counted, or one passes
pub count_some : {A : Type 0} (f : A → Bool) (ms : List A)
    → (count_by f ms ≡ 0) ⊎ ((m : A) × (f m ≡ true) × Contains ms m)
count_some {A = A} f [] = inl refl
count_some {A = A} f (m ∷ ms) = by_first (f m) refl (count_some f ms)
  where
    by_first : (b : Bool) → f m ≡ b → (count_by f ms ≡ 0) ⊎ ((x : A) × (f x ≡ true) × Contains ms x)
        → (count_by f (m ∷ ms) ≡ 0) ⊎ ((x : A) × (f x ≡ true) × Contains (m ∷ ms) x)
    by_first true is rest = inr (m, is, (0, omega arith, refl))
    by_first false is (inl none) =
        let first = count_cons f m ms in
        let not_so : one_if (f m) ≡ 0 = ap one_if is in
        inl (omega (arith, first, not_so, none))
    by_first false is (inr (x, so, (k, lt, at))) = inr (x, so, (suc k, omega (arith, lt), at))

-- a count fits once one of them is changed
pub fits_count : {A : Type 0} (f : A → Bool) (xs : List A) (p : ℕ) (m d y : A) → p < length xs
    → m ≡ get_or xs p d
    → (c n : ℕ) → c ≡ count_by f xs → n ≡ length xs → (a b : Bool) → a ≡ f m → b ≡ f y
    → (one_if a ≤ c) × (c + one_if b ≤ n + one_if a)
fits_count f xs p m d y lt at c n is all a b a_is b_is =
    let moved = count_set f xs p m d y lt at in
    let low = count_at f xs p m d lt at in
    let most = count_by-le-length f (slice_set xs p y) in
    let long = length-set xs p y in
    let one = ap one_if a_is in
    let other = ap one_if b_is in
    (omega (arith, low, is, one), omega (arith, moved, most, long, is, one, other, all))

-- it is what it says
pub recounted : {A : Type 0} (f : A → Bool) (xs : List A) (p : ℕ) (m d y : A) → p < length xs
    → m ≡ get_or xs p d
    → (c n : ℕ) → c ≡ count_by f xs → (a b : Bool) → a ≡ f m → b ≡ f y → n + one_if a ≡ c + one_if b
    → n ≡ count_by f (slice_set xs p y)
recounted f xs p m d y lt at c n is a b a_is b_is moved =
    let set = count_set f xs p m d y lt at in
    let one = ap one_if a_is in
    let other = ap one_if b_is in
    omega (arith, set, is, moved, one, other)

-- processes are equal in code as in the definitions
pub process_equality : (a b : ProcessId) → processes.ghosts.eq a b ≡ same_process a b
unfolding same_process
process_equality a b = refl
