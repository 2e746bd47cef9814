-- What is in a list that is made of others.
use Rattle.std.proofs.Common.{◌≡◌, ◌∙◌, ◌⊎◌, inl, inr, Bool, true, false, if◌then◌else◌, Some, List, [], ◌∷◌, map, filter, find, refl, sym, ap, subst, arith}
use Rattle.std.proofs.lemmas.List.Elements.{Contains-append_cases, Contains-append_left, Contains-append_right, Contains-push, Contains-push_cases}
use Rattle.std.specs.List.{Contains, flat_map}

pub no_element : {X : Type 0} {A : Type 0} (x : X) → Contains [] x → A
no_element x at = absurd (omega (arith, at.1))

pub element_here : {X : Type 0} (x : X) (xs : List X) → Contains (x ∷ xs) x
element_here x xs = Contains-append_left (x ∷ []) xs x (Contains-push [] x)

pub element_later : {X : Type 0} (x y : X) (xs : List X) → Contains xs x → Contains (y ∷ xs) x
element_later x y xs at = Contains-append_right (y ∷ []) xs x at

pub element_cases : {X : Type 0} (x y : X) (xs : List X) → Contains (y ∷ xs) x → (y ≡ x) ⊎ Contains xs x
element_cases x y xs at = elim (Contains-append_cases (y ∷ []) xs x at) [
  | inl here ↦ elim (Contains-push_cases [] y x here) [ inl none ↦ no_element x none | inr is ↦ inl is ]
  | inr later ↦ inr later
]

-- an element that is found
pub element_found : {X : Type 0} (p : X → Bool) (x : X) (xs : List X) → find p xs ≡ Some x → Contains xs x
element_found p x [] is = absurd (cc)
element_found p x (y ∷ xs) is = by_test (p y) is (element_found p x xs)
  where
    by_test : (b : Bool) → (if b then Some y else find p xs) ≡ Some x → (find p xs ≡ Some x → Contains xs x)
        → Contains (y ∷ xs) x
    by_test true here rest = let same : y ≡ x =
        cc in subst (λ z. Contains (y ∷ xs) z) same (element_here y xs)
    by_test false later rest = element_later x y xs (rest later)

-- an element of the list that passes
pub record Passing {X : Type 0} (p : X → Bool) (xs : List X) (x : X) : Type 0 where
  pub listed : Contains xs x
  pub passes : p x ≡ true

pub element_kept : {X : Type 0} (p : X → Bool) (x : X) (xs : List X)
    → Contains (filter p xs) x → Passing p xs x
element_kept p x [] at = no_element x at
element_kept p x (y ∷ xs) at = by_test (p y) refl at (element_kept p x xs)
  where
    later : Passing p xs x → Passing p (y ∷ xs) x
    later found = record { listed = element_later x y xs found.listed; passes = found.passes }

    by_test : (b : Bool) → p y ≡ b → Contains (if b then y ∷ filter p xs else filter p xs) x
        → (Contains (filter p xs) x → Passing p xs x) → Passing p (y ∷ xs) x
    by_test true is all kept = elim (element_cases x y (filter p xs) all) [
      | inl here ↦ record {
        listed = subst (λ z. Contains (y ∷ xs) z) here (element_here y xs);
        passes = ap p (sym here) ∙ is;
      }
      | inr rest ↦ later (kept rest)
    ]
    by_test false is rest kept = later (kept rest)

pub kept_element : {X : Type 0} (p : X → Bool) (x : X) (xs : List X) → Contains xs x → p x ≡ true
    → Contains (filter p xs) x
kept_element p x [] at passes = no_element x at
kept_element p x (y ∷ xs) at passes =
    by_test (p y) refl (element_cases x y xs at) (λ rest. kept_element p x xs rest passes)
  where
    by_test : (b : Bool) → p y ≡ b → (y ≡ x) ⊎ Contains xs x → (Contains xs x → Contains (filter p xs) x)
        → Contains (if b then y ∷ filter p xs else filter p xs) x
    by_test true is (inl here) kept = subst (λ z. Contains (y ∷ filter p xs) z) here
        (element_here y (filter p xs))
    by_test true is (inr rest) kept = element_later x y (filter p xs) (kept rest)
    by_test false is (inl here) kept = absurd (let other = sym passes ∙ ap p (sym here) ∙ is in cc)
    by_test false is (inr rest) kept = kept rest

-- an element that another one is made of
pub record Made {X Y : Type 0} (f : X → Y) (xs : List X) (y : Y) : Type 0 where
  pub from : X
  pub listed : Contains xs from
  pub is : f from ≡ y

pub element_made : {X Y : Type 0} (f : X → Y) (y : Y) (xs : List X) → Contains (map f xs) y → Made f xs y
element_made f y [] at = no_element y at
element_made f y (x ∷ xs) at = elim (element_cases y (f x) (map f xs) at) [
  | inl here ↦ record { from = x; listed = element_here x xs; is = here }
  | inr rest ↦
      let made = element_made f y xs rest in
      record { from = made.from; listed = element_later made.from x xs made.listed; is = made.is }
]

pub made_element : {X Y : Type 0} (f : X → Y) (x : X) (xs : List X)
    → Contains xs x → Contains (map f xs) (f x)
made_element f x [] at = no_element x at
made_element f x (z ∷ xs) at = elim (element_cases x z xs at) [
  | inl here ↦ subst (λ w. Contains (f z ∷ map f xs) (f w)) here (element_here (f z) (map f xs))
  | inr rest ↦ element_later (f x) (f z) (map f xs) (made_element f x xs rest)
]

-- an element that has another one in its list
pub record Part {X Y : Type 0} (f : X → List Y) (xs : List X) (y : Y) : Type 0 where
  pub of : X
  pub listed : Contains xs of
  pub within : Contains (f of) y

pub element_part : {X Y : Type 0} (f : X → List Y) (y : Y) (xs : List X)
    → Contains (flat_map f xs) y → Part f xs y
element_part f y [] at = no_element y at
element_part f y (x ∷ xs) at = elim (Contains-append_cases (f x) (flat_map f xs) y at) [
  | inl here ↦ record { of = x; listed = element_here x xs; within = here }
  | inr rest ↦
      let part = element_part f y xs rest in
      record { of = part.of; listed = element_later part.of x xs part.listed; within = part.within }
]

pub part_element : {X Y : Type 0} (f : X → List Y) (x : X) (y : Y) (xs : List X)
    → Contains xs x → Contains (f x) y
    → Contains (flat_map f xs) y
part_element f x y [] at within = no_element x at
part_element f x y (z ∷ xs) at within = elim (element_cases x z xs at) [
  | inl here ↦
      Contains-append_left (f z) (flat_map f xs) y (subst (λ w. Contains (f w) y) (sym here) within)
  | inr rest ↦ Contains-append_right (f z) (flat_map f xs) y (part_element f x y xs rest within)
]
