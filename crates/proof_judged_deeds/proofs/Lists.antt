-- What a test finds in a list after a filter, a change or one element more.
use Rattle.std.proofs.Common.{◌≡◌, Bool, true, false, Option, Some, List, [], ◌∷◌, ◌++◌, map, filter, find, cond, ◌||◌, ◌&&◌, refl, ap, sym, subst, ◌∙◌, inl, inr}
use Rattle.std.specs.Prelude.{is_some}
use Rattle.std.specs.List.{list_any, AllByRecursion}
use Rattle.std.proofs.lemmas.List.Folds.{list_any-append}
use Rattle.std.proofs.lemmas.Bool.{false≢true, or_cases, or_left, or_right}

pub or_false : (b : Bool) → (b || false) ≡ b
or_false true = refl
or_false false = refl

and_implied : (a b : Bool) → (b ≡ true → a ≡ true) → (a && b) ≡ b
and_implied true b h = refl
and_implied false true h = absurd (false≢true (h refl))
and_implied false false h = refl

and_apart : (a b : Bool) → (b ≡ true → a ≡ false) → (a && b) ≡ false
and_apart false b h = refl
and_apart true false h = refl
and_apart true true h = absurd (false≢true (sym (h refl)))

pub any_pushed : {X : Type 0} (p : X → Bool) (xs : List X) (x : X)
    → list_any p (xs ++ x ∷ []) ≡ (list_any p xs || p x)
any_pushed p xs x = list_any-append p xs (x ∷ []) ∙ ap (λ b. list_any p xs || b) (or_false (p x))

pub any_agree : {X : Type 0} (p q : X → Bool) → ((x : X) → p x ≡ q x) → (xs : List X)
    → list_any p xs ≡ list_any q xs
any_agree p q h [] = refl
any_agree p q h (x ∷ xs) = ap (λ b. b || list_any p xs) (h x) ∙ ap (λ b. q x || b) (any_agree p q h xs)

pub any_never : {X : Type 0} (p : X → Bool) → ((x : X) → p x ≡ false) → (xs : List X) → list_any p xs ≡ false
any_never p h [] = refl
any_never p h (x ∷ xs) = ap (λ b. b || list_any p xs) (h x) ∙ any_never p h xs

any_cond : {X : Type 0} (p : X → Bool) (x : X) (ys : List X) (b : Bool)
    → list_any p (cond b (x ∷ ys) ys) ≡ ((b && p x) || list_any p ys)
any_cond p x ys true = refl
any_cond p x ys false = refl

pub any_filter : {X : Type 0} (p q : X → Bool) (xs : List X)
    → list_any p (filter q xs) ≡ list_any (λ x. q x && p x) xs
any_filter p q [] = refl
any_filter p q (x ∷ xs) = any_cond p x (filter q xs) (q x) ∙ ap (λ b. (q x && p x) || b) (any_filter p q xs)

-- a filter that keeps all that a test looks for
pub any_kept : {X : Type 0} (p q : X → Bool) → ((x : X) → p x ≡ true → q x ≡ true) → (xs : List X)
    → list_any p (filter q xs) ≡ list_any p xs
any_kept p q h xs = any_filter p q xs ∙ any_agree (λ x. q x && p x) p (λ x. and_implied (q x) (p x) (h x)) xs

-- a filter that keeps nothing of it
pub any_gone : {X : Type 0} (p q : X → Bool) → ((x : X) → p x ≡ true → q x ≡ false) → (xs : List X)
    → list_any p (filter q xs) ≡ false
any_gone p q h xs = any_filter p q xs ∙ any_never (λ x. q x && p x) (λ x. and_apart (q x) (p x) (h x)) xs

pub any_map : {X Y : Type 0} (p : Y → Bool) (f : X → Y) (xs : List X)
    → list_any p (map f xs) ≡ list_any (λ x. p (f x)) xs
any_map p f [] = refl
any_map p f (x ∷ xs) = ap (λ b. p (f x) || b) (any_map p f xs)

-- where a test finds something, it finds one of these, of which this holds
pub any_where : {X : Type 0} (P : X → Type 0) (p : X → Bool) (xs : List X) → list_any p xs ≡ true
    → AllByRecursion P xs
    → (x : X) × (p x ≡ true) × P x
any_where P p [] e a = absurd (false≢true e)
any_where {X} P p (x ∷ xs) e a = by (λ h. any_where P p xs h a.1) (p x) refl where
  by : (list_any p xs ≡ true → (y : X) × (p y ≡ true) × P y) → (b : Bool) → p x ≡ b → (y : X) × (p y ≡ true)
      × P y
  by rest true q = (x, q, a.0)
  by rest false q = rest (subst (λ (b : Bool). (b || list_any p xs) ≡ true) q e)

is_some_cond : {X : Type 0} (x : X) (o : Option X) (b : Bool) → is_some (cond b (Some x) o) ≡ (b || is_some o)
is_some_cond x o true = refl
is_some_cond x o false = refl

pub find_any : {X : Type 0} (p : X → Bool) (xs : List X) → is_some (find p xs) ≡ list_any p xs
find_any p [] = refl
find_any p (x ∷ xs) = is_some_cond x (find p xs) (p x) ∙ ap (λ b. p x || b) (find_any p xs)

pub find_where : {X : Type 0} (P : X → Type 0) (p : X → Bool) (xs : List X) (y : X) → find p xs ≡ Some y
    → AllByRecursion P xs
    → (p y ≡ true) × P y
find_where P p [] y e a = absurd cc
find_where {X} P p (x ∷ xs) y e a = by (λ h. find_where P p xs y h a.1) (p x) refl where
  by : (find p xs ≡ Some y → (p y ≡ true) × P y) → (b : Bool) → p x ≡ b → (p y ≡ true) × P y
  by rest true q =
      let one : Some x ≡ Some y = subst (λ (b : Bool). cond b (Some x) (find p xs) ≡ Some y) q e in
      let is : x ≡ y = cc in
      (subst (λ (z : X). p z ≡ true) is q, subst P is a.0)
  by rest false q = rest (subst (λ (b : Bool). cond b (Some x) (find p xs) ≡ Some y) q e)

all_cond : {X : Type 0} (P : X → Type 0) (x : X) (ys : List X) (b : Bool) → P x → AllByRecursion P ys
    → AllByRecursion P (cond b (x ∷ ys) ys)
all_cond P x ys true h a = (h, a)
all_cond P x ys false h a = a

pub all_filter : {X : Type 0} (P : X → Type 0) (q : X → Bool) (xs : List X) → AllByRecursion P xs
    → AllByRecursion P (filter q xs)
all_filter P q [] a = tt
all_filter P q (x ∷ xs) a = all_cond P x (filter q xs) (q x) a.0 (all_filter P q xs a.1)

pub all_append : {X : Type 0} (P : X → Type 0) (xs ys : List X) → AllByRecursion P xs → AllByRecursion P ys
    → AllByRecursion P (xs ++ ys)
all_append P [] ys a b = b
all_append P (x ∷ xs) ys a b = (a.0, all_append P xs ys a.1 b)

pub all_map : {X Y : Type 0} (P : X → Type 0) (Q : Y → Type 0) (f : X → Y) → ((x : X) → P x → Q (f x))
    → (xs : List X)
    → AllByRecursion P xs → AllByRecursion Q (map f xs)
all_map P Q f h [] a = tt
all_map P Q f h (x ∷ xs) a = (h x a.0, all_map P Q f h xs a.1)

pub all_weaker : {X : Type 0} (P Q : X → Type 0) → ((x : X) → P x → Q x) → (xs : List X) → AllByRecursion P xs
    → AllByRecursion Q xs
all_weaker P Q h [] a = tt
all_weaker P Q h (x ∷ xs) a = (h x a.0, all_weaker P Q h xs a.1)

-- if nothing is found of whatever has this, the list is empty
pub none_found : {X : Type 0} (P : X → Type 0) (xs : List X) → ((x : X) → P x → ⊥) → AllByRecursion P xs
    → xs ≡ []
none_found P [] h a = refl
none_found P (x ∷ xs) h a = absurd (h x a.0)

pub all_join : {X : Type 0} (P Q R : X → Type 0) → ((x : X) → P x → Q x → R x) → (xs : List X)
    → AllByRecursion P xs
    → AllByRecursion Q xs → AllByRecursion R xs
all_join P Q R h [] a b = tt
all_join P Q R h (x ∷ xs) a b = (h x a.0 b.0, all_join P Q R h xs a.1 b.1)

-- where a test finds one of these, another finds one too, which is told by it
pub any_pick : {A X : Type 0} (P : X → Type 0) (p : X → Bool) (q : A → X → Bool)
    → ((x : X) → P x → p x ≡ true → (a : A) × (q a x ≡ true)) → (xs : List X) → AllByRecursion P xs
    → list_any p xs ≡ true → (a : A) × (list_any (q a) xs ≡ true)
any_pick P p q h [] all e = absurd (false≢true e)
any_pick P p q h (x ∷ xs) all e = elim (or_cases (p x) (list_any p xs) e) [
  | inl here ↦ (let a = h x all.0 here in (a.0, or_left (q a.0 x) (list_any (q a.0) xs) a.1))
  | inr more ↦ (let a = any_pick P p q h xs all.1 more in (a.0, or_right (q a.0 x) (list_any (q a.0) xs) a.1))
]

pub any_implied : {X : Type 0} (p q : X → Bool) → ((x : X) → p x ≡ true → q x ≡ true) → (xs : List X)
    → list_any p xs ≡ true → list_any q xs ≡ true
any_implied p q h [] e = absurd (false≢true e)
any_implied p q h (x ∷ xs) e = elim (or_cases (p x) (list_any p xs) e) [
  | inl here ↦ or_left (q x) (list_any q xs) (h x here)
  | inr more ↦ or_right (q x) (list_any q xs) (any_implied p q h xs more)
]

pub bool_same : (a b : Bool) → (a ≡ true → b ≡ true) → (b ≡ true → a ≡ true) → a ≡ b
bool_same true b f g = sym (f refl)
bool_same false true f g = g refl
bool_same false false f g = refl

all_where_by : {X : Type 0} (Q : X → Type 0) (x : X) (ys : List X) (b : Bool) → (b ≡ true → Q x)
    → AllByRecursion Q ys
    → AllByRecursion Q (cond b (x ∷ ys) ys)
all_where_by Q x ys true h a = (h refl, a)
all_where_by Q x ys false h a = a

-- what passes a filter keeps what its test says
pub all_where : {X : Type 0} (P Q : X → Type 0) (q : X → Bool) → ((x : X) → q x ≡ true → P x → Q x)
    → (xs : List X)
    → AllByRecursion P xs → AllByRecursion Q (filter q xs)
all_where P Q q h [] a = tt
all_where P Q q h (x ∷ xs) a =
    all_where_by Q x (filter q xs) (q x) (λ e. h x e a.0) (all_where P Q q h xs a.1)
