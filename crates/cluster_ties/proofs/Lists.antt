-- Lists of entries, and functions of words of which one value is changed.
use Rattle.std.proofs.Common.{◌≡◌, ◌≢◌, ◌⊎◌, ℕ, zero, suc, ◌+◌, ◌-◌, ◌<◌, ◌≤◌, List, [], ◌∷◌, ◌++◌, length, set, Bool, true, false, true≢false, refl, sym, ap, ◌∙◌, subst, ⊎_elim, inl, inr, arith, eqb, eq-eqb, ne_eqb, if◌then◌else◌, Option, Some, None}
use Rattle.std.specs.Prelude.{slice_get}
use mathlib.Core.Option.{some, some-ne-none, some-injective}
use mathlib.Core.Logic.{dite}
use native.Mathlib.Decide.{ℕ_discrete}
use lib.ListN.{get_elem?}
use Rattle.atomic_table.proofs.Lists.{at_set}
use Rattle.protocol.specs.declared.names.ProcessId.{ProcessId}
use Rattle.protocol.specs.declared.messages.Envelope.{Envelope}
use Rattle.protocol.specs.declared.events.JournalEntry.{JournalEntry}
use Rattle.protocol.specs.NameLaws.{same_process_tells}
use Rattle.protocol.specs.World.{entries_of}
use Rattle.tree_state.specs.Cuts.{net_of}
use Rattle.std.proofs.lemmas.List.{append-nil, append_assoc, length_push}
use Rattle.proof_cuts.proofs.Cuts.{none_more, own_more, self}
use Rattle.cluster_ties.specs.declared.views.View.{View}
use Rattle.cluster_ties.specs.Views.{AreBelow, AreBy, AreOf, IsFront, entries_in, own_of, pairs_by, pairs_from, places_from}

pub off : false ≡ true → ⊥
off e = true≢false (sym e)

-- One value is changed.

abbrev pub upd : {A : Type 0} → (ℕ → A) → ℕ → A → ℕ → A
upd f p x q = if eqb q p then x else f q

pub upd_here : {A : Type 0} (f : ℕ → A) (p : ℕ) (x : A) → upd f p x p ≡ x
upd_here f p x = rw (eq-eqb p p refl) refl

pub upd_else : {A : Type 0} (f : ℕ → A) (p : ℕ) (x : A) (q : ℕ) → q ≢ p → upd f p x q ≡ f q
upd_else f p x q ne = rw (ne_eqb q p ne) refl

pub at_upd : {A : Type 0} (F : ℕ → A → Type 0) (f : ℕ → A) (p : ℕ) (x : A) → F p x
    → ((q : ℕ) → q ≢ p → F q (f q)) → (q : ℕ) → F q (upd f p x q)
at_upd F f p x here others q = dite (ℕ_discrete q p)
    (λ e. subst (λ k. F k (upd f p x k)) (sym e) (subst (F p) (sym (upd_here f p x)) here))
    (λ ne. subst (F q) (sym (upd_else f p x q ne)) (others q ne))

-- Entries.

in_one : (ls : List (ℕ × JournalEntry)) (c : ℕ) (x : JournalEntry)
    → entries_in (ls ++ (c, x) ∷ []) ≡ entries_in ls ++ x ∷ []
in_one [] c x = refl
in_one (l ∷ ls) c x = ap (λ es. l.1 ∷ es) (in_one ls c x)

pub in_more : (ls zs : List (ℕ × JournalEntry)) → entries_in (ls ++ zs) ≡ entries_in ls ++ entries_in zs
in_more [] zs = refl
in_more (l ∷ ls) zs = ap (λ es. l.1 ∷ es) (in_more ls zs)

net_two : (xs ys : List JournalEntry) → net_of (xs ++ ys) ≡ net_of xs ++ net_of ys
net_two [] ys = refl
net_two (x ∷ xs) ys =
    ap (λ l. x.reaction.messages ++ l) (net_two xs ys)
    ∙ sym (append_assoc x.reaction.messages (net_of xs) (net_of ys))

pub net_in : (ls zs : List (ℕ × JournalEntry))
    → net_of (entries_in (ls ++ zs)) ≡ net_of (entries_in ls) ++ net_of (entries_in zs)
net_in ls zs = ap net_of (in_more ls zs) ∙ net_two (entries_in ls) (entries_in zs)

some_one : {A : Type 0} (a b : A) → Some a ≡ Some b → a ≡ b
some_one a b h = cc

-- the entry is one of its own process's
own_one : (o : Option ProcessId) (ls : List (ℕ × JournalEntry)) (c : ℕ) (x : JournalEntry)
    → o ≡ Some x.step.process
    → own_of o (entries_in (ls ++ (c, x) ∷ [])) ≡ own_of o (entries_in ls) ++ x ∷ []
own_one o ls c x is =
    ap (λ es. own_of o es) (in_one ls c x)
    ∙ subst (λ k. own_of k (entries_in ls ++ x ∷ []) ≡ own_of k (entries_in ls) ++ x ∷ []) (sym is)
    (own_more x.step.process (entries_in ls) x (self x.step.process))

-- and of no other's
own_none : (o : Option ProcessId) (ls : List (ℕ × JournalEntry)) (c : ℕ) (x : JournalEntry)
    → (o ≡ Some x.step.process → ⊥)
    → own_of o (entries_in (ls ++ (c, x) ∷ [])) ≡ own_of o (entries_in ls)
own_none None ls c x other = refl
own_none (Some d) ls c x other =
    ap (λ es. entries_of d es) (in_one ls c x) ∙ elim (same_process_tells x.step.process d) [
      | inl t ↦ absurd (other (ap Some (sym t.1)))
      | inr z ↦ none_more d (entries_in ls) x z.0
    ]

-- so are these of theirs
pub own_all : (o : Option ProcessId) (ls zs : List (ℕ × JournalEntry)) → AreOf o zs
    → own_of o (entries_in (ls ++ zs)) ≡ own_of o (entries_in ls) ++ entries_in zs
own_all o ls [] are =
    ap (λ l. own_of o (entries_in l)) (append-nil ls) ∙ sym (append-nil (own_of o (entries_in ls)))
own_all o ls (z ∷ zs) are =
    ap (λ l. own_of o (entries_in l)) (sym (append_assoc ls (z ∷ []) zs))
    ∙ (own_all o (ls ++ z ∷ []) zs are.1
    ∙ (ap (λ l. l ++ entries_in zs) (own_one o ls z.0 z.1 are.0)
    ∙ append_assoc (own_of o (entries_in ls)) (z.1 ∷ []) (entries_in zs)))

pub own_else : (o mine : Option ProcessId) (ls zs : List (ℕ × JournalEntry)) → AreOf mine zs
    → ((d : ProcessId) → o ≡ Some d → mine ≡ Some d → ⊥)
    → own_of o (entries_in (ls ++ zs)) ≡ own_of o (entries_in ls)
own_else o mine ls [] are away = ap (λ l. own_of o (entries_in l)) (append-nil ls)
own_else o mine ls (z ∷ zs) are away =
    ap (λ l. own_of o (entries_in l)) (sym (append_assoc ls (z ∷ []) zs))
    ∙ (own_else o mine (ls ++ z ∷ []) zs are.1 away
    ∙ own_none o ls z.0 z.1 (λ e. away z.1.step.process e are.0))

-- Messages that were noted.

pub whole_front : (all log : List (ℕ × JournalEntry)) → all ≡ log
    → IsFront (net_of (entries_in all)) (net_of (entries_in log))
whole_front all log same = record {
  more = [];
  all_are = ap (λ l. net_of (entries_in l)) (sym same) ∙ sym (append-nil (net_of (entries_in all)));
}

pub front_grows : (ls net more all : List Envelope) → all ≡ net ++ more → IsFront ls net → IsFront ls all
front_grows ls net more all is f = record {
  more = f.more ++ more;
  all_are = is ∙ (ap (λ l. l ++ more) f.all_are ∙ append_assoc ls f.more more);
}

-- What a pass knows.

-- an entry under its number is its next pair
mine_one : (c n : ℕ) (log : List (ℕ × JournalEntry)) (z : ℕ × JournalEntry) → z.0 ≡ c
    → pairs_by c n (log ++ z ∷ []) ≡ pairs_by c n log ++ (n + length log, z.1) ∷ []
mine_one c n [] z is =
    ap (λ b. if b then (n, z.1) ∷ [] else []) (eq-eqb c z.0 (sym is)) ∙ ap (λ k. (k, z.1) ∷ []) (omega arith)
mine_one c n (y ∷ ys) z is =
    let rest = mine_one c (suc n) ys z is in
    let here : suc n + length ys ≡ n + suc (length ys) = omega arith in
    let more = rest ∙ ap (λ k. pairs_by c (suc n) ys ++ (k, z.1) ∷ []) here in
    by_test (eqb c y.0) (n, y.1) (pairs_by c (suc n) (ys ++ z ∷ [])) (pairs_by c (suc n) ys)
    ((n + suc (length ys), z.1) ∷ []) more
  where
    by_test : (b : Bool) (z : ℕ × JournalEntry) (ls ms more : List (ℕ × JournalEntry)) → ls ≡ ms ++ more
        → (if b then z ∷ ls else ls) ≡ (if b then z ∷ ms else ms) ++ more
    by_test true z ls ms more e = ap (λ l. z ∷ l) e
    by_test false z ls ms more e = e

-- one under another's is none of it
else_one : (c d n : ℕ) (log : List (ℕ × JournalEntry)) (z : ℕ × JournalEntry) → c ≢ d → z.0 ≡ d
    → pairs_by c n (log ++ z ∷ []) ≡ pairs_by c n log
else_one c d n [] z ne is =
    ap (λ b. if b then (n, z.1) ∷ [] else []) (ne_eqb c z.0 (λ e. ne (e ∙ is)))
else_one c d n (y ∷ ys) z ne is =
    by_test (eqb c y.0) (n, y.1) (pairs_by c (suc n) (ys ++ z ∷ [])) (pairs_by c (suc n) ys)
    (else_one c d (suc n) ys z ne is)
  where
    by_test : (b : Bool) (z : ℕ × JournalEntry) (ls ms : List (ℕ × JournalEntry)) → ls ≡ ms
        → (if b then z ∷ ls else ls) ≡ (if b then z ∷ ms else ms)
    by_test true z ls ms e = ap (λ l. z ∷ l) e
    by_test false z ls ms e = e

-- so it is of a turn's
pub pairs_mine : (c : ℕ) (log zs : List (ℕ × JournalEntry)) → AreBy c zs
    → pairs_by c 0 (log ++ zs) ≡ pairs_by c 0 log ++ pairs_from log zs
pairs_mine c log [] by_it =
    ap (pairs_by c 0) (append-nil log) ∙ sym (append-nil (pairs_by c 0 log))
pairs_mine c log (z ∷ zs) by_it =
    let long : length (log ++ z ∷ []) ≡ suc (length log) = let e = length_push log z in omega arith in
    let first : 0 + length log ≡ length log = omega arith in
    ap (pairs_by c 0) (sym (append_assoc log (z ∷ []) zs))
    ∙ (pairs_mine c (log ++ z ∷ []) zs by_it.1
    ∙ (ap (λ n. pairs_by c 0 (log ++ z ∷ []) ++ places_from n zs) long
    ∙ (ap (λ l. l ++ places_from (suc (length log)) zs) (mine_one c 0 log z by_it.0)
    ∙ (append_assoc (pairs_by c 0 log) ((0 + length log, z.1) ∷ []) (places_from (suc (length log)) zs)
    ∙ ap (λ n. pairs_by c 0 log ++ (n, z.1) ∷ places_from (suc (length log)) zs) first))))

pub pairs_else : (c d n : ℕ) (log zs : List (ℕ × JournalEntry)) → c ≢ d → AreBy d zs
    → pairs_by c n (log ++ zs) ≡ pairs_by c n log
pairs_else c d n log [] ne by_it = ap (pairs_by c n) (append-nil log)
pairs_else c d n log (z ∷ zs) ne by_it =
    ap (pairs_by c n) (sym (append_assoc log (z ∷ []) zs))
    ∙ (pairs_else c d n (log ++ z ∷ []) zs ne by_it.1 ∙ else_one c d n log z ne by_it.0)

-- no entry is under a number that was not given
pub no_pairs : (g n : ℕ) (log : List (ℕ × JournalEntry)) → AreBelow g log → pairs_by g n log ≡ []
no_pairs g n [] below = refl
no_pairs g n (y ∷ ys) below =
    let ne : g ≢ y.0 = λ e. (let lt = below.0 in absurd (omega (arith, lt, e))) in
    ap (λ b. if b then (n, y.1) ∷ pairs_by g (suc n) ys else pairs_by g (suc n) ys) (ne_eqb g y.0 ne)
    ∙ no_pairs g (suc n) ys below.1

pub below_all : (g c : ℕ) (log zs : List (ℕ × JournalEntry)) → AreBelow g log → AreBy c zs → c < g
    → AreBelow g (log ++ zs)
below_all g c [] [] below by_it lt = tt
below_all g c [] (z ∷ zs) below by_it lt =
    (subst (λ n. n < g) (sym by_it.0) lt, below_all g c [] zs below by_it.1 lt)
below_all g c (y ∷ ys) zs below by_it lt = (below.0, below_all g c ys zs below.1 by_it lt)

pub below_next : (g : ℕ) (log : List (ℕ × JournalEntry)) → AreBelow g log → AreBelow (suc g) log
below_next g [] below = tt
below_next g (y ∷ ys) below = (let lt = below.0 in omega (arith, lt), below_next g ys below.1)

-- Views.

pub fits_set : (F : ℕ → View → Type 0) (views : List View) (by : ℕ) (w : View)
    → ((j : ℕ) (u : View) → j ≢ by → get_elem? views j ≡ some u → F j u) → F by w
    → (j : ℕ) (u : View) → get_elem? (set views by w) j ≡ some u → F j u
fits_set F views by w others mine j u e =
    ⊎_elim
    (λ (x : (j ≡ by) × (w ≡ u)). subst (λ (y : ℕ × View). F y.0 y.1) (λ i. (sym x.0 i, x.1 i)) mine)
    (λ (x : (j ≢ by) × (get_elem? views j ≡ some u)). others j u x.0 x.1)
    (at_set views by j w u e)

at_new : (l : List View) (a b : View) (j : ℕ) → get_elem? (l ++ a ∷ []) j ≡ some b
    → (get_elem? l j ≡ some b) ⊎ ((length l ≡ j) × (a ≡ b))
at_new [] a b zero e = inr (refl, some-injective a b e)
at_new [] a b (suc j) e = absurd (some-ne-none b (sym e))
at_new (x ∷ xs) a b zero e = inl e
at_new (x ∷ xs) a b (suc j) e = ⊎_elim inl (λ t. inr (ap suc t.0, t.1)) (at_new xs a b j e)

pub fits_new : (F : ℕ → View → Type 0) (views : List View) (r : View)
    → ((j : ℕ) (u : View) → get_elem? views j ≡ some u → F j u) → F (length views) r
    → (j : ℕ) (u : View) → get_elem? (views ++ r ∷ []) j ≡ some u → F j u
fits_new F views r others mine j u e =
    ⊎_elim
    (others j u)
    (λ (x : (length views ≡ j) × (r ≡ u)). subst (λ (y : ℕ × View). F y.0 y.1) (λ i. (x.0 i, x.1 i)) mine)
    (at_new views r u j e)

-- seats of two numbers work for two words
pub apart_by : (ps : ℕ → ℕ) (j by q p : ℕ) → j ≢ by → j ≡ ps q → by ≡ ps p → q ≢ p
apart_by ps j by q p ne a b e = ne (a ∙ ap ps e ∙ sym b)
