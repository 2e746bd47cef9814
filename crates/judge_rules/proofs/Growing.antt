-- Lists of states that only grow, and their sets.
use Rattle.std.proofs.Common.{◌≡◌, ℕ, zero, suc, ◌+◌, ◌<◌, List, [], ◌∷◌, ◌++◌, get_or, take, map, sym, subst, inl, inr}
use Rattle.std.specs.Prelude.{Contains, fold, length}
use Rattle.std.proofs.lemmas.List.Sums.{fold_more}
use Rattle.std.proofs.lemmas.List.Elements.{Contains-append_left, Contains-append_right, Contains-append_cases}
use Rattle.judge_state.specs.declared.parts.JudgedBranch.{JudgedBranch}
use Rattle.judge_state.specs.declared.parts.Work.{Work}
use Rattle.judge_state.specs.Moves.{brought_back, gone, marked}
use Rattle.judge_state.specs.Sights.{Sight}
use Rattle.judge_rules.specs.Falls.{maybe_back, maybe_gone}
use Rattle.judge_rules.specs.Sets.{AreTooManyStates, IsSetOf}
use Rattle.judge_rules.proofs.Members.{cons_cases, cons_here, cons_there, none_in}

-- what is among these is among those
abbrev Sub : List Sight → List Sight → Type 0
Sub us vs = (t : Sight) → Contains us t → Contains vs t

in_map : (f : Sight → Sight) (us : List Sight) (t : Sight) → Contains (map f us) t
    → (u : Sight) × Contains us u × (f u ≡ t)
in_map f [] t c = absurd (none_in t c)
in_map f (u ∷ us) t c = elim (cons_cases (f u) (map f us) t c) [
  | inl e ↦ (u, cons_here u us, e)
  | inr d ↦ (let h = in_map f us t d in (h.0, cons_there u us h.0 h.1, h.2))
]

map_in : (f : Sight → Sight) (us : List Sight) (u : Sight) → Contains us u → Contains (map f us) (f u)
map_in f [] u c = absurd (none_in u c)
map_in f (v ∷ us) u c = elim (cons_cases v us u c) [
  | inl e ↦ subst (λ (q : Sight). Contains (f v ∷ map f us) (f q)) e (cons_here (f v) (map f us))
  | inr d ↦ cons_there (f v) (map f us) (f u) (map_in f us u d)
]

sub_map : (f : Sight → Sight) (us vs : List Sight) → Sub us vs → Sub (map f us) (map f vs)
sub_map f us vs sub t c =
    let h = in_map f us t c in subst (λ (q : Sight). Contains (map f vs) q) h.2
    (map_in f vs h.0 (sub h.0 h.1))

sub_append : (us vs ws xs : List Sight) → Sub us ws → Sub vs xs → Sub (us ++ vs) (ws ++ xs)
sub_append us vs ws xs f g t c = elim (Contains-append_cases us vs t c) [
  | inl a ↦ Contains-append_left ws xs t (f t a)
  | inr b ↦ Contains-append_right ws xs t (g t b)
]

-- a step of a fold over branches keeps what there was, and makes no more of fewer
record Grows (f : List Sight → JudgedBranch → List Sight) : Type 0 where
  keeps : (us : List Sight) (b : JudgedBranch) → Sub us (f us b)
  wider : (us vs : List Sight) (b : JudgedBranch) → Sub us vs → Sub (f us b) (f vs b)

all_kept : (f : List Sight → JudgedBranch → List Sight) → Grows f → (us : List Sight) (bs : List JudgedBranch)
    → Sub us (fold f us bs)
all_kept f g us [] t c = c
all_kept f g us (b ∷ bs) t c = all_kept f g (f us b) bs t (g.keeps us b t c)

front_kept : (f : List Sight → JudgedBranch → List Sight) → Grows f
    → (us : List Sight) (bs : List JudgedBranch) (i : ℕ)
    → Sub (fold f us (take i bs)) (fold f us bs)
front_kept f g us [] zero t c = c
front_kept f g us [] (suc i) t c = c
front_kept f g us (b ∷ bs) zero t c = all_kept f g us (b ∷ bs) t c
front_kept f g us (b ∷ bs) (suc i) t c = front_kept f g (f us b) bs i t c

-- the set of one more step
next_set : (f : List Sight → JudgedBranch → List Sight) → Grows f
    → (us set new : List Sight) (b : JudgedBranch) → IsSetOf us set
    → IsSetOf (f set b) new → IsSetOf (f us b) new
next_set f g us set new b old made = record {
  all = λ t. (
    λ c. g.wider set us b (λ u d. (old.all u).0 d) t ((made.all t).0 c),
    λ c. (made.all t).1 (g.wider us set b (λ u d. (old.all u).1 d) t c),
  );
  apart = made.apart;
}

fold_set : (f : List Sight → JudgedBranch → List Sight) → Grows f
    → (us set more new : List Sight) (bs : List JudgedBranch) (i : ℕ)
    (d : JudgedBranch) → i < length bs → IsSetOf (fold f us (take i bs)) set → more ≡ f set (get_or bs i d)
    → IsSetOf more new → IsSetOf (fold f us (take (i + 1) bs)) new
fold_set f g us set more new bs i d lt old is made =
    subst (λ (q : List Sight). IsSetOf q new) (sym (fold_more f us bs i d lt))
    (next_set f g (fold f us (take i bs)) set new (get_or bs i d) old
    (subst (λ (q : List Sight). IsSetOf q new) is made))

-- too many after some of the branches, and one more, are too many after all
too_many : (f : List Sight → JudgedBranch → List Sight) → Grows f
    → (us set more : List Sight) (bs : List JudgedBranch) (i : ℕ)
    (d : JudgedBranch) → i < length bs → IsSetOf (fold f us (take i bs)) set → more ≡ f set (get_or bs i d)
    → AreTooManyStates more → AreTooManyStates (fold f us bs)
too_many f g us set more bs i d lt old is (ts, apart, among, many) =
    let b = get_or bs i d in
    let front = fold f us (take i bs) in
    let step : fold f us (take (i + 1) bs) ≡ f front b = fold_more f us bs i d lt in (
      ts,
      apart,
      λ t c. front_kept f g us bs (i + 1) t
          (subst (λ (q : List Sight). Contains q t) (sym step)
          (g.wider set front b (λ u e. (old.all u).0 e) t
          (subst (λ (q : List Sight). Contains q t) is (among t c)))),
      many,
    )

back_grow : (ws : List Work) → Grows (maybe_back ws)
back_grow ws = record {
  keeps = λ us b t c. Contains-append_left us (map (brought_back b ws) us) t c;
  wider = λ us vs b sub. sub_append us (map (brought_back b ws) us) vs (map (brought_back b ws) vs) sub
      (sub_map (brought_back b ws) us vs sub);
}

gone_grow : Grows maybe_gone
gone_grow = record {
  keeps = λ us b t c. Contains-append_left (us ++ map (gone b.name) us) (map (marked b.name) us) t
      (Contains-append_left us (map (gone b.name) us) t c);
  wider = λ us vs b sub. sub_append (us ++ map (gone b.name) us) (map (marked b.name) us)
      (vs ++ map (gone b.name) vs) (map (marked b.name) vs)
      (sub_append us (map (gone b.name) us) vs (map (gone b.name) vs) sub (sub_map (gone b.name) us vs sub))
      (sub_map (marked b.name) us vs sub);
}

pub back_set : (ws : List Work) (us set more new : List Sight) (bs : List JudgedBranch) (i : ℕ)
    (d : JudgedBranch)
    → i < length bs → IsSetOf (fold (maybe_back ws) us (take i bs)) set
    → more ≡ maybe_back ws set (get_or bs i d)
    → IsSetOf more new → IsSetOf (fold (maybe_back ws) us (take (i + 1) bs)) new
back_set ws = fold_set (maybe_back ws) (back_grow ws)

pub gone_set : (us set more new : List Sight) (bs : List JudgedBranch) (i : ℕ) (d : JudgedBranch)
    → i < length bs
    → IsSetOf (fold maybe_gone us (take i bs)) set → more ≡ maybe_gone set (get_or bs i d) → IsSetOf more new
    → IsSetOf (fold maybe_gone us (take (i + 1) bs)) new
gone_set = fold_set maybe_gone gone_grow

pub back_many : (ws : List Work) (us set more : List Sight) (bs : List JudgedBranch) (i : ℕ)
    (d : JudgedBranch) → i < length bs
    → IsSetOf (fold (maybe_back ws) us (take i bs)) set → more ≡ maybe_back ws set (get_or bs i d)
    → AreTooManyStates more → AreTooManyStates (fold (maybe_back ws) us bs)
back_many ws = too_many (maybe_back ws) (back_grow ws)

pub gone_many : (us set more : List Sight) (bs : List JudgedBranch) (i : ℕ) (d : JudgedBranch) → i < length bs
    → IsSetOf (fold maybe_gone us (take i bs)) set → more ≡ maybe_gone set (get_or bs i d)
    → AreTooManyStates more
    → AreTooManyStates (fold maybe_gone us bs)
gone_many = too_many maybe_gone gone_grow
