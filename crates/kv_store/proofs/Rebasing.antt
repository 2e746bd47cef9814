-- What was before the last commit is forgotten.
use Rattle.std.proofs.Common.{◌≡◌, ◌∙◌, ◌++◌, rules, ℕ, Bool, true, false, cond, if◌then◌else◌, Option, Some, None, is_some, unwrap_or, List, [], ◌∷◌, refl, sym, ap, subst, arith}
use Rattle.std.proofs.lemmas.Grind.{common_steps}
use Rattle.std.proofs.lemmas.Bool.Decides.{nat_tests}
use Rattle.std.specs.Global.{Vec}
use Rattle.std.specs.Prelude.{is_none}
use Rattle.std.specs.List.{AllByRecursion, IsDistinct}
use Rattle.std.specs.Map.{keys_of, lookup}
use Rattle.std.specs.Map.Calls.{RetainsPairs}
use Rattle.key_lists.specs.Tables.{list_at, same_key, table_of}
use Rattle.kv_store.specs.declared.version.Version.{Version}
use Rattle.kv_store.specs.Versions.{AreListedOnce, IsVersions, KeyTable, has_any, kept_in, kept_of, last_after, none_above, rises_from, value_by}
use Rattle.kv_store.proofs.Values.{none_above_later}

-- The versions of one key.

last_end : (v : Version) (vs : List Version) (x : Version) → last_after v (vs ++ x ∷ []) ≡ x
last_end v [] x = refl
last_end v (w ∷ vs) x = last_end w vs x

-- what is kept of versions is the last of them, if it has a value
pub kept_end : (front : List Version) (x : Version)
    → kept_of (front ++ x ∷ []) ≡ (if is_some x.value then x ∷ [] else [])
kept_end [] x = refl
kept_end (v ∷ vs) x = ap (λ (w : Version). if is_some w.value then w ∷ [] else []) (last_end v vs x)

value_last : (n : ℕ) (b : Option (List ℕ)) (v : Version) (vs : List Version) → none_above n (v ∷ vs) ≡ true
    → value_by n b (v ∷ vs) ≡ (last_after v vs).value
unfolding value_by
value_last n b v [] h = grind (arith, common_steps, nat_tests)
value_last n b v (w ∷ vs) h = grind (arith, common_steps, nat_tests, value_last n v.value w vs)

last_within : (n : ℕ) (v : Version) (vs : List Version) → none_above n (v ∷ vs) ≡ true
    → none_above n (last_after v vs ∷ []) ≡ true
last_within n v [] h = h
last_within n v (w ∷ vs) h = last_within n w vs (grind (arith, common_steps, nat_tests))

-- the value stays
value_kept : (n : ℕ) (vs : List Version) → none_above n vs ≡ true
    → value_by n None (kept_of vs) ≡ value_by n None vs
unfolding value_by
value_kept n [] h = refl
value_kept n (v ∷ vs) h =
    by_value (last_after v vs).value refl ∙ sym (value_last n None v vs h)
  where
    last : Version
    last = last_after v vs

    by_value : (o : Option (List ℕ)) → (last_after v vs).value ≡ o
        → value_by n None (kept_of (v ∷ vs)) ≡ (last_after v vs).value
    by_value None e = ap (λ p. value_by n None (if is_some p then last_after v vs ∷ [] else [])) e ∙ sym e
    by_value (Some x) e = ap (λ p. value_by n None (if is_some p then last_after v vs ∷ [] else [])) e
        ∙ value_last n None (last_after v vs) [] (last_within n v vs h)

lone_rises : (v : Version) → rises_from 0 (v ∷ []) ≡ true
unfolding rises_from
lone_rises v = grind (arith, common_steps, nat_tests)

rises_kept : (vs : List Version) → rises_from 0 (kept_of vs) ≡ true
unfolding rises_from
rises_kept [] = refl
rises_kept (v ∷ vs) = by_test (is_some (last_after v vs).value)
  where
    by_test : (b : Bool) → rises_from 0 (if b then last_after v vs ∷ [] else []) ≡ true
    by_test true = lone_rises (last_after v vs)
    by_test false = refl

none_above_kept : (n : ℕ) (vs : List Version) → none_above n vs ≡ true → none_above n (kept_of vs) ≡ true
none_above_kept n [] h = refl
none_above_kept n (v ∷ vs) h = by_test (is_some (last_after v vs).value)
  where
    by_test : (b : Bool) → none_above n (if b then last_after v vs ∷ [] else []) ≡ true
    by_test true = last_within n v vs h
    by_test false = refl

-- The versions of all keys.

absent : (t : KeyTable) (c k : List ℕ) → AllByRecursion (λ l. same_key c l ≡ false) (keys_of t) → c ≡ k
    → lookup (same_key k) t ≡ None
absent [] c k all is = refl
absent (e ∷ t) c k all is =
    ap (λ b. cond b (Some e.1) (lookup (same_key k) t)) (ap (λ l. same_key l e.0) (sym is) ∙ all.0)
    ∙ absent t c k all.1 is

-- of each key the last version is kept, where no key stands twice
kept_at : (t : KeyTable) → IsDistinct same_key (keys_of t) → (k : List ℕ)
    → list_at (kept_in t) k ≡ kept_of (list_at t k)
unfolding kept_in IsDistinct
kept_at [] once k = refl
kept_at (e ∷ t) once k = by_test (same_key k e.0) refl (kept_at t once.1 k)
  where
    there : (vs : List Version) → same_key k e.0 ≡ true → list_at (kept_in t) k ≡ []
        → list_at (if has_any vs then (e.0, vs) ∷ kept_in t else kept_in t) k ≡ vs
    there [] is none = none
    there (v ∷ vs) is none = ap (λ c. unwrap_or (cond c (Some (v ∷ vs)) (lookup (same_key k) (kept_in t))) [])
        is

    elsewhere : (vs : List Version) → same_key k e.0 ≡ false
        → list_at (if has_any vs then (e.0, vs) ∷ kept_in t else kept_in t) k ≡ list_at (kept_in t) k
    elsewhere [] is = refl
    elsewhere (v ∷ vs) is = ap (λ c. unwrap_or (cond c (Some (v ∷ vs)) (lookup (same_key k) (kept_in t))) [])
        is

    by_test : (b : Bool) → same_key k e.0 ≡ b → list_at (kept_in t) k ≡ kept_of (list_at t k)
        → list_at (if has_any (kept_of e.1) then (e.0, kept_of e.1) ∷ kept_in t else kept_in t) k
        ≡ kept_of (unwrap_or (cond b (Some e.1) (lookup (same_key k) t)) [])
    by_test true is rest =
        let one : e.0 ≡ k = search rules in
        there (kept_of e.1) is (rest ∙ ap (λ o. kept_of (unwrap_or o [])) (absent t e.0 k once.0 one))
    by_test false is rest = elsewhere (kept_of e.1) is ∙ rest

all_apart : (q : Vec ℕ) (es : List (Vec ℕ × Vec Version))
    → AllByRecursion (λ (r : Vec ℕ). same_key q.items r.items ≡ false) (keys_of es)
    → AllByRecursion (λ l. same_key q.items l ≡ false) (keys_of (table_of es))
all_apart q [] all = tt
all_apart q (e ∷ es) all = (all.0, all_apart q es all.1)

once_in : (es : List (Vec ℕ × Vec Version)) → AreListedOnce es → IsDistinct same_key (keys_of (table_of es))
unfolding IsDistinct
once_in [] once = tt
once_in (e ∷ es) once = (all_apart e.0 es once.0, once_in es once.1)

module _ (es : List (Vec ℕ × Vec Version)) (u : KeyTable) (n : ℕ) (once : AreListedOnce es)
    (kept : u ≡ kept_in (table_of es)) where
  at : (k : List ℕ) → list_at u k ≡ kept_of (list_at (table_of es) k)
  at k = ap (λ (t : KeyTable). list_at t k) kept ∙ kept_at (table_of es) (once_in es once) k

  pub kept_rebased : (base : ℕ) → IsVersions base n false (table_of es) → IsVersions n n false u
  kept_rebased base was = record {
    starts = omega arith;
    rises = λ k. ap (rises_from 0) (at k) ∙ rises_kept (list_at (table_of es) k);
    settled = λ unstaged k. all k;
    next = λ k. none_above_later n (list_at u k) (all k);
  }
    where
      all : (k : List ℕ) → none_above n (list_at u k) ≡ true
      all k = ap (none_above n) (at k) ∙ none_above_kept n (list_at (table_of es) k) (was.settled refl k)

  pub values_stay : (base : ℕ) → IsVersions base n false (table_of es) → (k : List ℕ)
      → value_by n None (list_at u k) ≡ value_by n None (list_at (table_of es) k)
  values_stay base was k = ap (value_by n None) (at k)
      ∙ value_kept n (list_at (table_of es) k) (was.settled refl k)

-- what a map's `retain` leaves, where each key keeps the last of its versions
module _ {F : Type 0} (T : F → Vec ℕ → Vec Version → Bool → Vec Version → F → Type 0) (f : F)
    (says : (k : Vec ℕ) (v : Vec Version) (b : Bool) (w : Vec Version) (g : F) → T f k v b w g
    → (b ≡ has_any (kept_of v.items)) × (w.items ≡ kept_of v.items) × (g ≡ f)) where
  pub retained : (es kept : List (Vec ℕ × Vec Version)) → RetainsPairs T f es kept
      → table_of kept ≡ kept_in (table_of es)
  unfolding kept_in
  retained [] kept h = ap table_of h
  retained (e ∷ es) kept h =
      let s = says e.0 e.1 h.0 h.1 h.2 h.4 in
      let rest = retained es h.3 (subst (λ g. RetainsPairs T g es h.3) s.2 h.5) in
      ap table_of h.6 ∙ by_test h.0 h.1 h.3
      ∙ (λ i. cond (s.0 i) ((e.0.items, s.1 i) ∷ rest i) (rest i))
    where
      by_test : (b : Bool) (w : Vec Version) (others : List (Vec ℕ × Vec Version))
          → table_of (cond b ((e.0, w) ∷ others) others)
          ≡ cond b ((e.0.items, w.items) ∷ table_of others) (table_of others)
      by_test true w others = refl
      by_test false w others = refl

-- What `keep_last` makes of versions whose last one it took out.

module _ (vs front : List Version) (x : Version) (is : vs ≡ front ++ x ∷ []) where
  pub kept_some : is_none x.value ≡ false → x ∷ [] ≡ kept_of vs
  kept_some some = sym (ap kept_of is ∙ kept_end front x
      ∙ ap (λ b. if b then x ∷ [] else []) (has x.value some))
    where
      has : (o : Option (List ℕ)) → is_none o ≡ false → is_some o ≡ true
      has None h = absurd (cc)
      has (Some v) h = refl

  pub kept_none : is_none x.value ≡ true → [] ≡ kept_of vs
  kept_none none = sym (ap kept_of is ∙ kept_end front x
      ∙ ap (λ b. if b then x ∷ [] else []) (lacks x.value none))
    where
      lacks : (o : Option (List ℕ)) → is_none o ≡ true → is_some o ≡ false
      lacks None h = refl
      lacks (Some v) h = absurd (cc)
