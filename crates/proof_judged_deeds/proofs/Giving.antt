-- What a scan gives, and what it has left after that.
use Rattle.std.proofs.Common.{◌≡◌, ℕ, ◌≤◌, Bool, true, false, not, List, [], ◌∷◌, ◌++◌, length, map, take, drop, length-append, ◌&&◌, ◌||◌, refl, ap, sym, subst, ◌∙◌, inl, inr, arith}
use Rattle.std.specs.Prelude.{◌==◌, nat_le, if◌then◌else◌}
use Rattle.std.specs.List.{list_all, list_any, AllByRecursion}
use Rattle.std.proofs.lemmas.Bool.{and_from, and_parts, eq-eqb, eqb-true, false≢true, ne_eqb, not-true, not_from_false, or_cases, or_from, or_left, or_parts, or_right, le-leb, leb-false}
use Rattle.std.proofs.lemmas.List.{length-take, take-append-drop}
use Rattle.std.proofs.lemmas.List.Folds.{list_all-map, list_any-append}
use Rattle.xa_xid.specs.declared.xid.Xid.{Xid}
use Rattle.judge_state.specs.declared.parts.Listed.{Listed}
use Rattle.judge_state.specs.Scans.{are_distinct, given_lines, has, with_given}
use Rattle.proof_judged_deeds.specs.Names.{NameNumbers}
use Rattle.proof_judged_deeds.proofs.Lists.{all_join, any_implied, any_map}
use Rattle.proof_judged_deeds.proofs.Scanning.{IsScan, all_implied, is_line, is_paid}

-- Lists of numbers.

pub map_both : {A B : Type 0} (f : A → B) (xs ys : List A) → map f (xs ++ ys) ≡ map f xs ++ map f ys
map_both f [] ys = refl
map_both f (x ∷ xs) ys = ap (λ zs. f x ∷ zs) (map_both f xs ys)

pub length_map : {A B : Type 0} (f : A → B) (xs : List A) → length (map f xs) ≡ length xs
length_map f [] = refl
length_map f (x ∷ xs) = let e = length_map f xs in omega arith

apart_front : (xs ys : List ℕ) → are_distinct (xs ++ ys) ≡ true → are_distinct xs ≡ true
apart_front [] ys h = refl
apart_front (x ∷ xs) ys h =
    let p = and_parts (not (has (xs ++ ys) x)) (are_distinct (xs ++ ys)) h in
    let none = or_parts (has xs x) (has ys x)
    (sym (list_any-append (λ y. y == x) xs ys) ∙ not-true (has (xs ++ ys) x) p.0) in
    and_from (not (has xs x)) (are_distinct xs) (not_from_false (has xs x) none.0) (apart_front xs ys p.1)

apart_back : (xs ys : List ℕ) → are_distinct (xs ++ ys) ≡ true → are_distinct ys ≡ true
apart_back [] ys h = h
apart_back (x ∷ xs) ys h = apart_back xs ys (and_parts (not (has (xs ++ ys) x)) (are_distinct (xs ++ ys)) h).1

none_each : (x : ℕ) (ys : List ℕ) → has ys x ≡ false → AllByRecursion (λ y. (x == y) ≡ false) ys
none_each x [] h = tt
none_each x (y ∷ ys) h =
    let p = or_parts (y == x) (has ys x) h in
    (ne_eqb x y (λ e. false≢true (sym p.0 ∙ eq-eqb y x (sym e))), none_each x ys p.1)

none_all : (ys : List ℕ) → AllByRecursion (λ y. has [] y ≡ false) ys
none_all [] = tt
none_all (y ∷ ys) = (refl, none_all ys)

-- what is after is not in front
apart_both : (xs ys : List ℕ) → are_distinct (xs ++ ys) ≡ true → AllByRecursion (λ y. has xs y ≡ false) ys
apart_both [] ys h = none_all ys
apart_both (x ∷ xs) ys h =
    let p = and_parts (not (has (xs ++ ys) x)) (are_distinct (xs ++ ys)) h in
    let none = or_parts (has xs x) (has ys x)
    (sym (list_any-append (λ y. y == x) xs ys) ∙ not-true (has (xs ++ ys) x) p.0) in
    all_join (λ y. (x == y) ≡ false) (λ y. has xs y ≡ false) (λ y. has (x ∷ xs) y ≡ false)
    (λ y a b. or_from (x == y) (has xs y) a b) ys (none_each x ys none.1) (apart_both xs ys p.1)

all_split : {X : Type 0} (P : X → Type 0) (xs ys : List X) → AllByRecursion P (xs ++ ys)
    → AllByRecursion P xs × AllByRecursion P ys
all_split P [] ys all = (tt, all)
all_split P (x ∷ xs) ys all = let r = all_split P xs ys all.1 in ((all.0, r.0), r.1)

all_unmapped : {A B : Type 0} (P : B → Type 0) (f : A → B) (xs : List A) → AllByRecursion P (map f xs)
    → AllByRecursion (λ x. P (f x)) xs
all_unmapped P f [] all = tt
all_unmapped P f (x ∷ xs) all = (all.0, all_unmapped P f xs all.1)

pub list_all_from : {X : Type 0} (p : X → Bool) (xs : List X) → AllByRecursion (λ x. p x ≡ true) xs
    → list_all p xs ≡ true
list_all_from p [] all = refl
list_all_from p (x ∷ xs) all = and_from (p x) (list_all p xs) all.0 (list_all_from p xs all.1)

-- What is given.

pub record Gives (n : NameNumbers) (t count : ℕ) (rest : List Xid) (ls : List Listed) : Type 0 where
  pub apart : are_distinct (map n.xid (take count rest)) ≡ true
  pub may : list_all (λ x. list_any (is_line t x) ls) (map n.xid (take count rest)) ≡ true
  pub few : nat_le (length (map n.xid (take count rest))) count ≡ true
  pub owes : (not (false || not (nat_le count (length (map n.xid (take count rest)))))
      || list_all (is_paid t (map n.xid (take count rest))) ls) ≡ true
  pub left : IsScan n t (drop count rest) (given_lines t (map n.xid (take count rest)) ls)

given_by : (a b c : Bool) → (not (a && b && not true) || c) ≡ true
given_by true true c = refl
given_by true false c = refl
given_by false b c = refl

line_stays : (t x : ℕ) (ks : List ℕ) (l : Listed) → has ks x ≡ false → is_line t x l ≡ true
    → is_line t x (if l.thread == t && has ks l.branch then with_given l else l) ≡ true
line_stays t x ks l none h = subst (λ (b : Bool). is_line t x (if b then with_given l else l) ≡ true)
    (sym off) h where
      middle : (a b c : Bool) → (a && b && c) ≡ true → b ≡ true
      middle true true c q = refl
      middle true false c q = absurd cc
      middle false b c q = absurd cc

      and_none : (a b : Bool) → b ≡ false → (a && b) ≡ false
      and_none true b q = q
      and_none false b q = refl

      off : (l.thread == t && has ks l.branch) ≡ false
      off = and_none (l.thread == t) (has ks l.branch)
          (ap (λ k. has ks k) (eqb-true l.branch x (middle (l.thread == t) (l.branch == x) (not l.given) h))
          ∙ none)

-- a line that the scan owes is given, or is left
paid_stays : (t : ℕ) (ks js : List ℕ) (l : Listed) (a b : Bool) → (l.thread == t) ≡ a → has ks l.branch ≡ b
    → is_paid t (ks ++ js) l ≡ true
    → is_paid t js (if a && b then with_given l else l) ≡ true
paid_stays t ks js l true true p q h = given_by (l.thread == t) l.due (has js l.branch)
paid_stays t ks js l true false p q h =
    elim (or_cases (not (l.thread == t && l.due && not l.given)) (has (ks ++ js) l.branch) h) [
      | inl free ↦ or_left (not (l.thread == t && l.due && not l.given)) (has js l.branch) free
      | inr there ↦ or_right (not (l.thread == t && l.due && not l.given)) (has js l.branch)
          (later (has ks l.branch) (has js l.branch) q
          (sym (list_any-append (λ y. y == l.branch) ks js) ∙ there))
    ] where
      later : (c d : Bool) → c ≡ false → (c || d) ≡ true → d ≡ true
      later true d e f = absurd cc
      later false d e f = f
paid_stays t ks js l false b p q h = or_left (not (l.thread == t && l.due && not l.given)) (has js l.branch)
    (ap (λ c. not (c && l.due && not l.given)) p)

pub gives : (n : NameNumbers) (t count : ℕ) (rest : List Xid) (ls : List Listed) → IsScan n t rest ls
    → Gives n t count rest ls
gives n t count rest ls scan =
    let whole : map n.xid (take count rest) ++ map n.xid (drop count rest) ≡ map n.xid rest =
    sym (map_both n.xid (take count rest) (drop count rest)) ∙ ap (map n.xid) (take-append-drop count rest) in
    let apart = subst (λ (ks : List ℕ). are_distinct ks ≡ true) (sym whole) scan.apart in
    let may = all_split (λ x. list_any (is_line t (n.xid x)) ls ≡ true) (take count rest) (drop count rest)
    (subst (λ (xs : List Xid). AllByRecursion (λ x. list_any (is_line t (n.xid x)) ls ≡ true) xs)
    (sym (take-append-drop count rest)) scan.may) in
    let owes = subst (λ (ks : List ℕ). list_all (is_paid t ks) ls ≡ true) (sym whole) scan.owes in
    record {
      apart = apart_front (map n.xid (take count rest)) (map n.xid (drop count rest)) apart;
      may = list_all-map (λ x. list_any (is_line t x) ls) n.xid (take count rest)
          ∙ list_all_from (λ x. list_any (is_line t (n.xid x)) ls) (take count rest) may.0;
      few = le_test (length (map n.xid (take count rest))) count
          (let a = length_map n.xid (take count rest) in let b = length-take count rest in omega arith);
      owes = short (nat_le count (length (map n.xid (take count rest)))) refl owes;
      left = record {
        apart = apart_back (map n.xid (take count rest)) (map n.xid (drop count rest)) apart;
        may = all_join (λ x. has (map n.xid (take count rest)) (n.xid x) ≡ false)
            (λ x. list_any (is_line t (n.xid x)) ls ≡ true)
            (λ x. list_any (is_line t (n.xid x)) (given_lines t (map n.xid (take count rest)) ls) ≡ true)
            (λ x none line. any_map (is_line t (n.xid x)) (λ (l : Listed). if l.thread == t
            && has (map n.xid (take count rest)) l.branch then with_given l else l) ls
            ∙ any_implied (is_line t (n.xid x)) (λ (l : Listed). is_line t (n.xid x) (if l.thread == t
            && has (map n.xid (take count rest)) l.branch then with_given l else l))
            (λ l h. line_stays t (n.xid x) (map n.xid (take count rest)) l none h) ls line)
            (drop count rest)
            (all_unmapped (λ y. has (map n.xid (take count rest)) y ≡ false) n.xid (drop count rest)
            (apart_both (map n.xid (take count rest)) (map n.xid (drop count rest)) apart)) may.1;
        owes = list_all-map (is_paid t (map n.xid (drop count rest))) (λ (l : Listed). if l.thread == t
            && has (map n.xid (take count rest)) l.branch then with_given l else l) ls
            ∙ all_implied (is_paid t (map n.xid (take count rest) ++ map n.xid (drop count rest)))
            (λ (l : Listed). is_paid t (map n.xid (drop count rest)) (if l.thread == t
            && has (map n.xid (take count rest)) l.branch then with_given l else l))
            (λ l h. paid_stays t (map n.xid (take count rest)) (map n.xid (drop count rest)) l (l.thread == t)
            (has (map n.xid (take count rest)) l.branch) refl refl h) ls owes;
      };
    }
  where
    le_test : (a b : ℕ) → a ≤ b → nat_le a b ≡ true
    le_test a b h = le-leb a b h

    none_left : (xs : List Xid) → length xs ≡ 0 → xs ≡ []
    none_left [] h = refl
    none_left (x ∷ xs) h = absurd (omega arith)

    nothing : (ks js : List ℕ) → js ≡ [] → (l : Listed) → is_paid t (ks ++ js) l ≡ true
        → is_paid t ks l ≡ true
    nothing ks js e l h = elim (or_cases (not (l.thread == t && l.due && not l.given))
        (has (ks ++ js) l.branch) h) [
          | inl free ↦ or_left (not (l.thread == t && l.due && not l.given)) (has ks l.branch) free
          | inr there ↦ or_right (not (l.thread == t && l.due && not l.given)) (has ks l.branch)
              (first (has ks l.branch) (has js l.branch) (ap (λ (zs : List ℕ). has zs l.branch) e)
              (sym (list_any-append (λ y. y == l.branch) ks js) ∙ there))
        ] where
          first : (c d : Bool) → d ≡ false → (c || d) ≡ true → c ≡ true
          first true d q r = refl
          first false d q r = absurd (false≢true (sym q ∙ r))

    short : (b : Bool) → nat_le count (length (map n.xid (take count rest))) ≡ b
        → list_all (is_paid t (map n.xid (take count rest) ++ map n.xid (drop count rest))) ls ≡ true
        → (not (false || not b) || list_all (is_paid t (map n.xid (take count rest))) ls) ≡ true
    short true e owes = refl
    short false e owes =
        let lt = leb-false count (length (map n.xid (take count rest))) e in
        let a = length_map n.xid (take count rest) in
        let b = length-take count rest in
        let d = ap length (take-append-drop count rest) in
        let c = length-append (take count rest) (drop count rest) in
        let none : drop count rest ≡ [] = none_left (drop count rest) (omega arith) in
        all_implied (is_paid t (map n.xid (take count rest) ++ map n.xid (drop count rest)))
        (is_paid t (map n.xid (take count rest)))
        (λ l h. nothing (map n.xid (take count rest)) (map n.xid (drop count rest)) (ap (map n.xid) none) l h)
        ls owes
