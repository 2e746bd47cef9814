-- Events made one after another with a pass.
use Rattle.std.proofs.Common.{◌≡◌, ◌∙◌, ◌+◌, ◌<◌, ◌≤◌, ap, sym, subst, refl, ℕ, zero, suc, Option, Some, None, Result, IfErr, IfSome, List, [], ◌∷◌, ◌++◌, length, length-append, get_or, slice_get, take, arith}
use Rattle.std.proofs.lemmas.List.{take_all, take_more}
use Rattle.protocol.specs.declared.trees.TreeProcess.{TreeProcess}
use Rattle.protocol.specs.declared.events.Event.{Event}
use Rattle.protocol.specs.declared.events.Event.TheVariants.{Deliver, Settle, Restart, Trim}
use Rattle.protocol_words.specs.Variants.{ActOf}
use Rattle.cluster_process.specs.Passes.{PassState}
use Rattle.cluster_process.specs.declared.errors.PostError.{PostError}
use Rattle.cluster_tree.specs.Passes.{IsLonger, new_pass, new_passes}
use Rattle.cluster_tree.specs.Refusals.{IsRefusedPost, NotSettled}
use Rattle.cluster_tree.proofs.Passing.{as_long}
use Rattle.cluster_engine.specs.Made.{AreLonger, AreMade, FirstMade, FirstStops, IsMade, NotMade, StopsAt}

made_behind : (tree : List TreeProcess) (es : List Event) (e : Event) (old mid new : PassState)
    → AreMade tree es old mid
    → IsMade tree e mid new → AreMade tree (es ++ e ∷ []) old new
made_behind tree [] e old mid new same made = (new, subst (λ p. IsMade tree e p new) same made, refl)
made_behind tree (x ∷ es) e old mid new first made =
    (first.0, first.1, made_behind tree es e first.0 mid new first.2 made)

-- one event more
pub made_more : (tree : List TreeProcess) (es : List Event) (i : ℕ) (e : Event) (old mid new : PassState)
    → i < length es
    → e ≡ get_or es i e → AreMade tree (take i es) old mid → IsMade tree e mid new
    → AreMade tree (take (i + 1) es) old new
made_more tree es i e old mid new lt is before made =
    subst (λ l. AreMade tree l old new)
    (ap (λ x. take i es ++ x ∷ []) is ∙ sym (take_more es i e lt))
    (made_behind tree (take i es) e old mid new before made)

-- all of them
pub made_all : (tree : List TreeProcess) (es : List Event) (i : ℕ) (old new : PassState) → length es ≤ i
    → AreMade tree (take i es) old new → AreMade tree es old new
made_all tree es i old new past made = subst (λ l. AreMade tree l old new) (take_all i es past) made

-- N new passes, the first of which has this number
abbrev pub AreNext : ℕ → ℕ → List PassState → Type 0
AreNext zero c ps = Unit {0}
AreNext (suc n) c [] = ⊥
AreNext (suc n) c (p ∷ ps) = (p ≡ new_pass c) × AreNext n (suc c) ps

next_more : (n c : ℕ) (ps : List PassState) → AreNext n c ps → length ps ≡ n
    → AreNext (suc n) c (ps ++ new_pass (c + n) ∷ [])
next_more zero c [] next long = (ap new_pass (omega arith), tt)
next_more zero c (p ∷ ps) next long = absurd (omega (arith, long))
next_more (suc n) c [] next long = absurd next
next_more (suc n) c (p ∷ ps) next long =
    let short : length ps ≡ n = omega (arith, long) in
    let more = next_more n (suc c) ps next.1 short in
    let number : suc c + n ≡ c + suc n = omega arith in
    (next.0, subst (λ k. AreNext (suc n) (suc c) (ps ++ new_pass k ∷ [])) number more)

-- the first of some new passes, and those after it
pub first_new : (n : ℕ) → (rest : List PassState) × (new_passes (suc n) ≡ new_pass 0 ∷ rest)
    × AreNext n 1 rest
    × (length rest ≡ n)
first_new zero = ([], refl, tt, refl)
first_new (suc n) =
    let first = first_new n in
    let long : length (first.0 ++ new_pass (suc n) ∷ []) ≡ length first.0 + 1 =
    length-append first.0 (new_pass (suc n) ∷ []) in
    let rest = first.3 in
    let number : 1 + n ≡ suc n = omega arith in (
      first.0 ++ new_pass (suc n) ∷ [],
      ap (λ l. l ++ new_pass (suc n) ∷ []) first.1,
      subst (λ k. AreNext (suc n) 1 (first.0 ++ new_pass k ∷ [])) number
          (next_more n 1 first.0 first.2 first.3),
      omega (arith, long, rest),
    )

-- some new passes are not none
pub some_passes : (workers : ℕ) (given : List PassState) → 0 < workers → given ≡ new_passes workers
    → 0 < length given
some_passes zero given some new = absurd (omega (arith, some))
some_passes (suc n) given some new =
    let rest = first_new n in
    let first : 0 < length (new_pass 0 ∷ rest.0) = omega arith in
    subst (λ l. 0 < length l) (sym (new ∙ rest.1)) first

-- what was made with the first pass, and delivered with the others
pub first_made : (tree : List TreeProcess) (es : List Event) (p q : PassState)
    (ps qs old new : List PassState)
    → old ≡ p ∷ ps → new ≡ q ∷ qs → AreMade tree es p q → AreLonger ps qs → FirstMade tree es old new
first_made tree es p q ps qs old new was is made long =
    subst (λ l. FirstMade tree es l new) (sym was)
    (subst (λ l. FirstMade tree es (p ∷ ps) l) (sym is) (made, long))

pub first_stops : (tree : List TreeProcess) (es : List Event) (p : PassState)
    (ps old : List PassState) (made : ℕ)
    (why : PostError) → old ≡ p ∷ ps → StopsAt tree es p made why → FirstStops tree es old made why
first_stops tree es p ps old made why was stops = subst (λ l. FirstStops tree es l made why) (sym was) stops

-- likewise, if something was refused at all
pub some_stops : (tree : List TreeProcess) (es : List Event) (p : PassState) (ps old : List PassState)
    (r : Option (ℕ × PostError)) → old ≡ p ∷ ps → IfSome r (λ x. StopsAt tree es p x.0 x.1)
    → IfSome r (λ x. FirstStops tree es old x.0 x.1)
some_stops tree es p ps old None was stops = stops
some_stops tree es p ps old (Some x) was stops = first_stops tree es p ps old x.0 x.1 was stops

-- passes that are as they were
pub as_they_were : (ps : List PassState) → AreLonger ps ps
as_they_were [] = tt
as_they_were (p ∷ ps) = (as_long p, as_they_were ps)

-- passes of which each is longer
pub each_longer : (ps qs : List PassState) → length qs ≡ length ps
    → ((i : ℕ) (d : PassState) → i < length ps → IsLonger (get_or ps i d) (get_or qs i d)) → AreLonger ps qs
each_longer [] [] long each = tt
each_longer [] (q ∷ qs) long each = absurd (omega (arith, long))
each_longer (p ∷ ps) [] long each = absurd (omega (arith, long))
each_longer (p ∷ ps) (q ∷ qs) long each = (
  each 0 p (omega arith),
  each_longer ps qs (omega (arith, long))
      (λ i d within. each (suc i) d (omega (arith, within))),
)

-- the next event is refused
pub stops_here : (tree : List TreeProcess) (es : List Event) (i : ℕ) (e : Event) (old mid : PassState)
    (why : PostError)
    → i < length es → e ≡ get_or es i e → AreMade tree (take i es) old mid → NotMade tree e mid why
    → StopsAt tree es old i why
stops_here tree es i e old mid why lt is before not = record {
  event = e;
  next = next_at es i e lt is;
  before = mid;
  made_before = before;
  not_made = not;
}
  where
    next_at : (es : List Event) (i : ℕ) (e : Event) → i < length es → e ≡ get_or es i e
        → slice_get es i ≡ Some e
    next_at [] i e lt is = absurd (omega (arith, lt))
    next_at (x ∷ es) zero e lt is = ap Some (sym is)
    next_at (x ∷ es) (suc i) e lt is = next_at es i e (omega (arith, lt)) is

-- an event that is no settle was refused
pub not_made_so : {A : Type 0} (r : Result A PostError) (tree : List TreeProcess) (event : Event)
    (pass : PassState)
    → (event ≡ Settle → ⊥) → IfErr r (IsRefusedPost tree event pass) → IfErr r (NotMade tree event pass)
not_made_so r tree (ActOf a) pass other h = h
not_made_so r tree (Deliver k) pass other h = h
not_made_so r tree Settle pass other h = absurd (other refl)
not_made_so r tree (Restart p bytes) pass other h = h
not_made_so r tree (Trim p) pass other h = h

-- a settle went no further
pub not_settled_so : {A : Type 0} (r : Result A PostError) (tree : List TreeProcess) (event : Event)
    (pass : PassState)
    → event ≡ Settle → IfErr r (NotSettled tree) → IfErr r (NotMade tree event pass)
not_settled_so r tree event pass is h = subst (λ (e : Event). IfErr r (NotMade tree e pass)) (sym is) h
