-- Lists of states as sets: what is among them, and what they come to by one more.
use Rattle.std.proofs.Common.{◌≡◌, ◌≤◌, List, [], ◌∷◌, ◌++◌, length, sym, subst, ap, inl, inr, arith}
use Rattle.std.specs.Prelude.{◌⊎◌, Contains}
use Rattle.std.proofs.lemmas.List.{length-append}
use Rattle.std.proofs.lemmas.List.Elements.{Contains-append_left, Contains-append_right, Contains-push, Contains-push_cases, Contains-append_cases}
use Rattle.judge_state.specs.Sights.{Sight}
use Rattle.judge_rules.specs.Sets.{Adds, AreApartStates, IsSetOf}

pub none_in : (x : Sight) → Contains [] x → ⊥
none_in x c = omega (arith, c.1)

-- the only element
pub one_is : (y x : Sight) → Contains (y ∷ []) x → y ≡ x
one_is y x c = elim (Contains-push_cases [] y x c) [ inl a ↦ absurd (none_in x a) | inr e ↦ e ]

-- the first element, or one after it
pub cons_cases : (y : Sight) (ys : List Sight) (x : Sight) → Contains (y ∷ ys) x → (y ≡ x) ⊎ Contains ys x
cons_cases y ys x c = elim (Contains-append_cases (y ∷ []) ys x c)
    [ inl a ↦ inl (one_is y x a) | inr b ↦ inr b ]

pub cons_here : (y : Sight) (ys : List Sight) → Contains (y ∷ ys) y
cons_here y ys = Contains-append_left (y ∷ []) ys y (Contains-push [] y)

pub cons_there : (y : Sight) (ys : List Sight) (x : Sight) → Contains ys x → Contains (y ∷ ys) x
cons_there y ys x c = Contains-append_right (y ∷ []) ys x c

-- one more, which is not there, keeps them apart
apart_push : (us : List Sight) (x : Sight) → AreApartStates us → (Contains us x → ⊥)
    → AreApartStates (us ++ x ∷ [])
apart_push [] x a absent = (λ c. none_in x c, tt)
apart_push (u ∷ us) x (first, rest) absent = (
  λ c. elim (Contains-push_cases us x u c) [
    | inl d ↦ first d
    | inr e ↦ absent (subst (λ (q : Sight). Contains (u ∷ us) q) (sym e) (cons_here u us))
  ],
  apart_push us x rest (λ c. absent (cons_there u us x c)),
)

-- nothing is added
pub adds_none : (old : List Sight) → Adds old old []
adds_none old = record {
  all = λ t. (λ c. inl c, λ s. elim s [ inl c ↦ c | inr c ↦ absurd (none_in t c) ]);
  apart = λ a. a;
}

-- a state that is there is not added
pub adds_known : (old : List Sight) (x : Sight) → Contains old x → Adds old old (x ∷ [])
adds_known old x h = record {
  all = λ t. (
    λ c. inl c,
    λ s. elim s [ inl c ↦ c | inr c ↦ subst (λ (q : Sight). Contains old q) (one_is x t c) h ],
  );
  apart = λ a. a;
}

-- a state that is not there is added
pub adds_one : (old : List Sight) (x : Sight) → (Contains old x → ⊥) → Adds old (old ++ x ∷ []) (x ∷ [])
adds_one old x absent = record {
  all = λ t. (
    λ c. Contains-append_cases old (x ∷ []) t c,
    λ s. elim s [
      | inl c ↦ Contains-append_left old (x ∷ []) t c
      | inr c ↦ Contains-append_right
          old (x ∷ []) t c
    ],
  );
  apart = λ a. apart_push old x a absent;
}

-- first some are added, then one more
pub adds_more : (old mid new more : List Sight) (x : Sight) → Adds old mid more → Adds mid new (x ∷ [])
    → Adds old new (more ++ x ∷ [])
adds_more old mid new more x first then = record {
  all = λ t. (
    λ c. elim ((then.all t).0 c) [
      | inl m ↦ (elim ((first.all t).0 m) [
        | inl o ↦ inl o
        | inr a ↦ inr
            (Contains-append_left more (x ∷ []) t a)
      ])
      | inr a ↦ inr (Contains-append_right more (x ∷ []) t a)
    ],
    λ s. elim s [
      | inl o ↦ (then.all t).1 (inl ((first.all t).1 (inl o)))
      | inr a ↦ (elim (Contains-append_cases more (x ∷ []) t a) [
        | inl m ↦ (then.all t).1 (inl ((first.all t).1 (inr m)))
        | inr m ↦ (then.all t).1 (inr m)
      ])
    ],
  );
  apart = λ a. then.apart (first.apart a);
}

-- what is added to nothing is the set of it
pub adds_all : (us set : List Sight) → Adds [] set us → IsSetOf us set
adds_all us set a = record {
  all = λ t. (
    λ c. elim ((a.all t).0 c) [ inl n ↦ absurd (none_in t n) | inr d ↦ d ],
    λ c. (a.all t).1 (inr c),
  );
  apart = a.apart tt;
}

-- what is there, and one more that is among these, is among these
pub adds_among : (us old new : List Sight) (x : Sight) → ((t : Sight) → Contains old t → Contains us t)
    → Contains us x → Adds old new (x ∷ []) → (t : Sight) → Contains new t → Contains us t
adds_among us old new x among here a t c = elim ((a.all t).0 c) [
  | inl o ↦ among t o
  | inr e ↦ subst (λ (q : Sight). Contains us q) (one_is x t e) here
]

-- a single state is its own set
pub set_of_one : (s : Sight) → IsSetOf (s ∷ []) (s ∷ [])
set_of_one s = record { all = λ t. (λ c. c, λ c. c); apart = (λ c. none_in s c, tt) }

-- a list without one of its elements
split : (us : List Sight) (x : Sight) → Contains us x → (xs : List Sight) × (ys : List Sight)
    × (us ≡ xs ++ x ∷ ys)
split [] x c = absurd (none_in x c)
split (u ∷ us) x c = elim (cons_cases u us x c) [
  | inl e ↦ ([], us, ap (λ (q : Sight). q ∷ us) e)
  | inr d ↦ (let s = split us x d in (u ∷ s.0, s.1, ap (λ (q : List Sight). u ∷ q) s.2))
]

-- so many different states are among no fewer
pub no_more : (ts us : List Sight) → AreApartStates ts → ((t : Sight) → Contains ts t → Contains us t)
    → length ts ≤ length us
no_more [] us a sub = omega arith
no_more (t ∷ ts) us (first, rest) sub =
    let s = split us t (sub t (cons_here t ts)) in
    let xs = s.0 in
    let ys = s.1 in
    let in_rest : (u : Sight) → Contains ts u → Contains (xs ++ ys) u =
    λ u c. elim (Contains-append_cases xs (t ∷ ys) u
    (subst (λ (q : List Sight). Contains q u) s.2 (sub u (cons_there t ts u c)))) [
      | inl a ↦ Contains-append_left xs ys u a
      | inr b ↦ (elim (cons_cases t ys u b) [
        | inl e ↦ absurd (first (subst (λ (q : Sight). Contains ts q) (sym e) c))
        | inr d ↦ Contains-append_right xs ys u d
      ])
    ] in
    let fewer = no_more ts (xs ++ ys) rest in_rest in
    omega (arith, fewer, length-append xs ys, length-append xs (t ∷ ys), ap length s.2)
