-- Lists that are read one by one.
use Rattle.std.proofs.Common.{◌≡◌, ℕ, suc, List, [], ◌∷◌, ◌++◌, length, Some, None, option_map, if◌then◌else◌, refl, sym, ap, subst, ◌∙◌, append_assoc, append-nil, nat_eq, true, false}
use Rattle.log_text.specs.Parts.{Front, all_of, alone, and_more, front_of, with_first}

-- these were found before
abbrev pub with_found : {A : Type 0} → List A → Front (List A) → Front (List A)
with_found found o = option_map (λ p. (found ++ p.0, p.1)) o

-- N are read, and these of them were found
abbrev pub Goes : {A : Type 0} → (List ℕ → Front A) → ℕ → List ℕ → List A → ℕ → List ℕ → Type 0
Goes at total start found left rest = front_of at total start ≡ with_found found (front_of at left rest)

pub begins : {A : Type 0} (at : List ℕ → Front A) (total : ℕ) (start : List ℕ)
    → Goes at total start [] total start
begins at total start = same (front_of at total start) where
  same : {A : Type 0} (o : Front (List A)) → o ≡ with_found [] o
  same None = refl
  same (Some p) = refl

moved : {A : Type 0} (found : List A) (x : A) (o : Front (List A))
    → with_found found (with_first x o) ≡ with_found (found ++ x ∷ []) o
moved found x None = refl
moved {A = A} found x (Some p) =
    let there : found ++ x ∷ p.0 ≡ (found ++ x ∷ []) ++ p.0 = sym (append_assoc found (x ∷ []) p.0) in
    (λ i. Some (there i, p.1))

one_more : {A : Type 0} (at : List ℕ → Front A) (n : ℕ) (rest behind : List ℕ) (x : A)
    → at rest ≡ Some (x, behind)
    → front_of at (suc n) rest ≡ with_first x (front_of at n behind)
unfolding front_of
one_more at n rest behind x e = ap (λ f. and_more f (front_of at n)) e

pub goes_on : {A : Type 0} (at : List ℕ → Front A) (total left less : ℕ) (start rest behind : List ℕ)
    (found : List A) (x : A) → left ≡ suc less
    → Goes at total start found left rest → at rest ≡ Some (x, behind)
    → Goes at total start (found ++ x ∷ []) less behind
goes_on at total left less start rest behind found x l g e =
    g ∙ ap (λ n. with_found found (front_of at n rest)) l
    ∙ ap (with_found found) (one_more at less rest behind x e)
    ∙ moved found x (front_of at less behind)

none_more : {A : Type 0} (at : List ℕ → Front A) (n : ℕ) (rest : List ℕ) → at rest ≡ None
    → front_of at (suc n) rest ≡ None
unfolding front_of
none_more at n rest e = ap (λ f. and_more f (front_of at n)) e

pub stops : {A : Type 0} (at : List ℕ → Front A) (total left less : ℕ) (start rest : List ℕ) (found : List A)
    → left ≡ suc less
    → Goes at total start found left rest → at rest ≡ None → front_of at total start ≡ None
stops at total left less start rest found l g e =
    g ∙ ap (λ n. with_found found (front_of at n rest)) l ∙ ap (with_found found) (none_more at less rest e)

pub ends : {A : Type 0} (at : List ℕ → Front A) (total left : ℕ) (start rest : List ℕ) (found : List A)
    → left ≡ 0 → Goes at total start found left rest → front_of at total start ≡ Some (found, rest)
unfolding front_of
ends at total left start rest found l g =
    g ∙ ap (λ k. with_found found (front_of at k rest)) l
    ∙ (let there : found ++ [] ≡ found = append-nil found in (λ i. Some (there i, rest)))

pub stops_all : {A : Type 0} (at : List ℕ → Front A) (total left less : ℕ) (start rest : List ℕ)
    (found : List A) → left ≡ suc less
    → Goes at total start found left rest → at rest ≡ None → all_of at total start ≡ None
stops_all at total left less start rest found l g e =
    ap alone (stops at total left less start rest found l g e)

pub ends_all : {A : Type 0} (at : List ℕ → Front A) (total left : ℕ) (start rest : List ℕ) (found : List A)
    → left ≡ 0 → nat_eq (length rest) 0 ≡ true
    → Goes at total start found left rest → all_of at total start ≡ Some found
ends_all at total left start rest found l n g =
    ap alone (ends at total left start rest found l g) ∙ ap (λ b. if b then Some found else None) n

pub trails_all : {A : Type 0} (at : List ℕ → Front A) (total left : ℕ) (start rest : List ℕ) (found : List A)
    → left ≡ 0 → nat_eq (length rest) 0 ≡ false
    → Goes at total start found left rest → all_of at total start ≡ None
trails_all at total left start rest found l n g =
    ap alone (ends at total left start rest found l g) ∙ ap (λ b. if b then Some found else None) n

pub begins_with : {A : Type 0} (at : List ℕ → Front A) (total left : ℕ) (start : List ℕ) (found : List A)
    → found ≡ [] → left ≡ total → Goes at total start found left start
begins_with {A = A} at total left start found e l =
    subst (λ (n : ℕ). Goes at total start found n start) (sym l)
    (subst (λ (xs : List A). Goes at total start xs total start) (sym e) (begins at total start))
