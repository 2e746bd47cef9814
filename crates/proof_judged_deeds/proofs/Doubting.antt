-- The branches in doubt, as the tables list them.
use Rattle.std.proofs.Common.{◌≡◌, ℕ, Bool, true, false, not, Some, List, [], ◌∷◌, map, filter, cond, refl, ap, sym, subst, ◌∙◌}
use Rattle.std.specs.Prelude.{◌==◌, unwrap_or, if◌then◌else◌}
use Rattle.std.specs.List.{AllByRecursion}
use Rattle.std.specs.Map.{lookup, remove_entry}
use Rattle.std.proofs.lemmas.Bool.{and_from, cond-false, cond-true, eq-eqb, false≢true, ne_eqb, not_from_false, or_from, or_left, or_right}
use Rattle.indexmap.specs.IndexMap.{insert_entry}
use Rattle.xa_tables.specs.Tables.{is_in_doubt}
use Rattle.xa_tables.specs.declared.states.BranchState.{BranchState}
use Rattle.xa_tables.specs.declared.states.BranchState.TheVariants.{S0, S1, S2, S3, S4, S5}
use Rattle.xa_xid.specs.declared.xid.Xid.{Xid}
use Rattle.xa_branch.specs.Names.{same}
use Rattle.xa_branch.proofs.Names.{same_is, same_refl}
use Rattle.xa_branch.specs.Branches.{in_doubt, placed, state_in}
use Rattle.judge_state.specs.Scans.{are_distinct, has}
use Rattle.proof_judged_deeds.specs.Names.{NameNumbers}
use Rattle.proof_judged_deeds.proofs.Lists.{all_join, all_map, all_where}

-- each branch is listed once
abbrev pub AreNamedOnce : List (Xid × BranchState) → Type 0
AreNamedOnce [] = Unit {0}
AreNamedOnce (e ∷ es) = AllByRecursion (λ f. same f.0 e.0 ≡ false) es × AreNamedOnce es

-- A branch that moves leaves each listed once.

all_put : (P : Xid → Type 0) (x : Xid) (s : BranchState) (es : List (Xid × BranchState)) → P x
    → AllByRecursion (λ f. P f.0) es → AllByRecursion (λ f. P f.0) (insert_entry same es x s)
all_put P x s [] h all = (h, tt)
all_put P x s (e ∷ es) h all = by (all_put P x s es h all.1) (same x e.0) where
  by : AllByRecursion (λ f. P f.0) (insert_entry same es x s) → (b : Bool)
      → AllByRecursion (λ f. P f.0) (if b then (e.0, s) ∷ es else e ∷ insert_entry same es x s)
  by more true = (all.0, all.1)
  by more false = (all.0, more)

named_put : (x : Xid) (s : BranchState) (es : List (Xid × BranchState)) → AreNamedOnce es
    → AreNamedOnce (insert_entry same es x s)
named_put x s [] h = (tt, tt)
named_put x s (e ∷ es) h = by (named_put x s es h.1) (same x e.0) refl where
  by : AreNamedOnce (insert_entry same es x s) → (b : Bool) → same x e.0 ≡ b
      → AreNamedOnce (if b then (e.0, s) ∷ es else e ∷ insert_entry same es x s)
  by more true q = (h.0, h.1)
  by more false q = (all_put (λ z. same z e.0 ≡ false) x s es q h.0, more)

all_cut : (P : Xid → Type 0) (x : Xid) (es : List (Xid × BranchState)) → AllByRecursion (λ f. P f.0) es
    → AllByRecursion (λ f. P f.0) (remove_entry (same x) es)
all_cut P x [] all = tt
all_cut P x (e ∷ es) all = by (all_cut P x es all.1) (same x e.0) where
  by : AllByRecursion (λ f. P f.0) (remove_entry (same x) es) → (b : Bool)
      → AllByRecursion (λ f. P f.0) (cond b es (e ∷ remove_entry (same x) es))
  by more true = all.1
  by more false = (all.0, more)

named_cut : (x : Xid) (es : List (Xid × BranchState)) → AreNamedOnce es
    → AreNamedOnce (remove_entry (same x) es)
named_cut x [] h = tt
named_cut x (e ∷ es) h = by (named_cut x es h.1) (same x e.0) where
  by : AreNamedOnce (remove_entry (same x) es) → (b : Bool)
      → AreNamedOnce (cond b es (e ∷ remove_entry (same x) es))
  by more true = h.1
  by more false = (all_cut (λ z. same z e.0 ≡ false) x es h.0, more)

pub named_placed : (es : List (Xid × BranchState)) (x : Xid) (s : BranchState) → AreNamedOnce es
    → AreNamedOnce (placed es x s)
named_placed es x S0 h = named_cut x es h
named_placed es x S1 h = named_put x S1 es h
named_placed es x S2 h = named_put x S2 es h
named_placed es x S3 h = named_put x S3 es h
named_placed es x S4 h = named_put x S4 es h
named_placed es x S5 h = named_put x S5 es h

-- The branches in doubt.

found_each : (es : List (Xid × BranchState)) → AreNamedOnce es
    → AllByRecursion (λ f. lookup (same f.0) es ≡ Some f.1) es
found_each [] h = tt
found_each (e ∷ es) h = (
  cond-true (same e.0 e.0) (Some e.1) (lookup (same e.0) es) (same_refl e.0),
  all_join (λ f. same f.0 e.0 ≡ false) (λ f. lookup (same f.0) es ≡ Some f.1)
      (λ f. lookup (same f.0) (e ∷ es) ≡ Some f.1)
      (λ f apart is. cond-false (same f.0 e.0) (Some e.1) (lookup (same f.0) es) apart ∙ is) es h.0
      (found_each es h.1),
)

-- each of them is in doubt
pub doubt_states : (bs : List (Xid × BranchState)) → AreNamedOnce bs
    → AllByRecursion (λ x. is_in_doubt (state_in bs x) ≡ true) (in_doubt bs)
doubt_states bs h = all_map (λ e. is_in_doubt (state_in bs e.0) ≡ true)
    (λ x. is_in_doubt (state_in bs x) ≡ true) (λ e. e.0)
    (λ e q. q) (filter (λ e. is_in_doubt e.1) bs)
    (all_where (λ f. lookup (same f.0) bs ≡ Some f.1) (λ e. is_in_doubt (state_in bs e.0) ≡ true)
    (λ e. is_in_doubt e.1)
    (λ e q is. ap (λ o. is_in_doubt (unwrap_or o S0)) is ∙ q) bs (found_each bs h))

-- the numbers of those in doubt among some
abbrev pub doubt_numbers : NameNumbers → List (Xid × BranchState) → List ℕ
doubt_numbers n es = map n.xid (map (λ e. e.0) (filter (λ e. is_in_doubt e.1) es))

has_here : (n : NameNumbers) (y : Xid) (e : Xid × BranchState) (es : List (Xid × BranchState)) (b : Bool)
    → b ≡ true
    → e.0 ≡ y → has (map n.xid (map (λ f. f.0) (cond b (e ∷ es) es))) (n.xid y) ≡ true
has_here n y e es true h is = or_left (n.xid e.0 == n.xid y) (has (map n.xid (map (λ f. f.0) es)) (n.xid y))
    (eq-eqb (n.xid e.0) (n.xid y) (ap n.xid is))
has_here n y e es false h is = absurd (false≢true h)

has_later : (n : NameNumbers) (y : Xid) (e : Xid × BranchState) (es : List (Xid × BranchState)) (b : Bool)
    → has (map n.xid (map (λ f. f.0) es)) (n.xid y) ≡ true
    → has (map n.xid (map (λ f. f.0) (cond b (e ∷ es) es))) (n.xid y) ≡ true
has_later n y e es true h = or_right (n.xid e.0 == n.xid y) (has (map n.xid (map (λ f. f.0) es)) (n.xid y)) h
has_later n y e es false h = h

-- a branch that is in doubt is among them
pub doubt_has : (n : NameNumbers) (es : List (Xid × BranchState)) (y : Xid)
    → is_in_doubt (unwrap_or (lookup (same y) es) S0) ≡ true → has (doubt_numbers n es) (n.xid y) ≡ true
doubt_has n [] y h = absurd (false≢true h)
doubt_has n (e ∷ es) y h = by (λ k. doubt_has n es y k) (same y e.0) refl where
  by : (is_in_doubt (unwrap_or (lookup (same y) es) S0) ≡ true → has (doubt_numbers n es) (n.xid y) ≡ true)
      → (b : Bool) → same y e.0 ≡ b → has (doubt_numbers n (e ∷ es)) (n.xid y) ≡ true
  by rest true q = has_here n y e (filter (λ f. is_in_doubt f.1) es) (is_in_doubt e.1)
      (subst (λ (b : Bool). is_in_doubt (unwrap_or (cond b (Some e.1) (lookup (same y) es)) S0) ≡ true) q h)
      (sym (same_is y e.0 q))
  by rest false q = has_later n y e (filter (λ f. is_in_doubt f.1) es) (is_in_doubt e.1)
      (rest (subst (λ (b : Bool). is_in_doubt (unwrap_or (cond b (Some e.1) (lookup (same y) es)) S0) ≡ true)
      q h))

apart_numbers : (n : NameNumbers) (x y : Xid) → same x y ≡ false → (n.xid x == n.xid y) ≡ false
apart_numbers n x y h = ne_eqb (n.xid x) (n.xid y) (λ e. false≢true (sym h
    ∙ subst (λ (z : Xid). same x z ≡ true) (n.xids_apart x y e) (same_refl x)))

none_has_by : (n : NameNumbers) (x : Xid) (f : Xid × BranchState) (es : List (Xid × BranchState)) (b : Bool)
    → (n.xid f.0 == n.xid x) ≡ false → has (map n.xid (map (λ g. g.0) es)) (n.xid x) ≡ false
    → has (map n.xid (map (λ g. g.0) (cond b (f ∷ es) es))) (n.xid x) ≡ false
none_has_by n x f es true h k = or_from (n.xid f.0 == n.xid x)
    (has (map n.xid (map (λ g. g.0) es)) (n.xid x)) h k
none_has_by n x f es false h k = k

none_has : (n : NameNumbers) (x : Xid) (es : List (Xid × BranchState))
    → AllByRecursion (λ f. same f.0 x ≡ false) es
    → has (doubt_numbers n es) (n.xid x) ≡ false
none_has n x [] all = refl
none_has n x (f ∷ es) all = none_has_by n x f (filter (λ g. is_in_doubt g.1) es) (is_in_doubt f.1)
    (apart_numbers n f.0 x all.0) (none_has n x es all.1)

distinct_by : (n : NameNumbers) (e : Xid × BranchState) (es : List (Xid × BranchState)) (b : Bool)
    → has (map n.xid (map (λ g. g.0) es)) (n.xid e.0) ≡ false
    → are_distinct (map n.xid (map (λ g. g.0) es)) ≡ true
    → are_distinct (map n.xid (map (λ g. g.0) (cond b (e ∷ es) es))) ≡ true
distinct_by n e es true h k = and_from (not (has (map n.xid (map (λ g. g.0) es)) (n.xid e.0)))
    (are_distinct (map n.xid (map (λ g. g.0) es)))
    (not_from_false (has (map n.xid (map (λ g. g.0) es)) (n.xid e.0)) h) k
distinct_by n e es false h k = k

-- none of them twice
pub doubt_apart : (n : NameNumbers) (es : List (Xid × BranchState)) → AreNamedOnce es
    → are_distinct (doubt_numbers n es) ≡ true
doubt_apart n [] h = refl
doubt_apart n (e ∷ es) h = distinct_by n e (filter (λ g. is_in_doubt g.1) es) (is_in_doubt e.1)
    (none_has n e.0 es h.0)
    (doubt_apart n es h.1)
