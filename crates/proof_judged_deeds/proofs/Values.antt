-- Which values the judge holds for committed.
use Rattle.std.proofs.Common.{◌≡◌, ℕ, Bool, true, false, not, Option, Some, None, List, [], ◌∷◌, ◌++◌, map, fold, take, drop, take-append-drop, ◌||◌, ◌&&◌, refl, ap, sym, subst, ◌∙◌, inl, inr}
use Rattle.std.specs.Prelude.{◌==◌, cond, if◌then◌else◌}
use Rattle.std.specs.List.{list_any, AllByRecursion}
use Rattle.std.proofs.lemmas.Bool.{and_from, eqb-true, eq-eqb, false≢true, or_cases, or_left, or_right}
use Rattle.std.proofs.lemmas.List.Sums.{fold-append}
use Rattle.judge_state.specs.declared.parts.JudgedBranch.{JudgedBranch}
use Rattle.judge_state.specs.declared.parts.Work.{Work}
use Rattle.judge_state.specs.declared.parts.JudgedWrite.{JudgedWrite}
use Rattle.judge_state.specs.Moves.{committed_works, doubted, is_of, without_surety, works_of}
use Rattle.judge_state.specs.Parts.{is_named}
use Rattle.judge_state.specs.Scans.{held_after, is_written, may_hold, may_read_in}
use Rattle.proof_judged_deeds.specs.Data.{is_at, is_one_of, unsure}

abbrev holds_from : ℕ → ℕ → Bool → List JudgedWrite → Bool
holds_from k v held ws = fold (held_after k v) held ws

-- What was committed since.

-- the value is the last one, or was written
written_or : (k v : ℕ) (held : Bool) (ws : List JudgedWrite) → holds_from k v held ws ≡ true
    → (held || is_written k v ws) ≡ true
written_or k v held [] h = or_left held false h
written_or k v held (w ∷ ws) h =
    by (written_or k v (held_after k v held w) ws h) (w.key == k) (w.value == v) refl refl where
      second : (c d : Bool) → (c && d) ≡ true → d ≡ true
      second true d e = e
      second false d e = absurd (false≢true e)

      by : (held_after k v held w || is_written k v ws) ≡ true → (a b : Bool) → (w.key == k) ≡ a
          → (w.value == v) ≡ b
          → (held || is_written k v (w ∷ ws)) ≡ true
      by rest true true p q = or_right held (is_written k v (w ∷ ws))
          (or_left (w.key == k && w.value == v) (is_written k v ws)
          (and_from (w.key == k) (w.value == v) p q))
      by rest false b p q = elim (or_cases held (is_written k v ws)
          (subst (λ (c : Bool). ((if c then w.value == v || (not w.sure && held) else held)
          || is_written k v ws) ≡ true) p rest)) [
            | inl here ↦ or_left held (is_written k v (w ∷ ws)) here
            | inr more ↦ or_right held (is_written k v (w ∷ ws))
                (or_right (w.key == k && w.value == v) (is_written k v ws) more)
          ]
      by rest true false p q = elim (or_cases (not w.sure && held) (is_written k v ws)
          (subst (λ (c : Bool). ((c || (not w.sure && held)) || is_written k v ws) ≡ true) q
          (subst (λ (c : Bool). ((if c then w.value == v || (not w.sure && held) else held)
          || is_written k v ws) ≡ true) p rest))) [
            | inl here ↦ or_left held (is_written k v (w ∷ ws)) (second (not w.sure) held here)
            | inr more ↦ or_right held (is_written k v (w ∷ ws))
                (or_right (w.key == k && w.value == v) (is_written k v ws) more)
          ]

-- what may be the committed value now may be read since any time
pub read_since : (since k v : ℕ) (ws : List JudgedWrite) → may_hold k v ws ≡ true
    → may_read_in since k v ws ≡ true
read_since since k v ws h = written_or k v (may_hold k v (take since ws)) (drop since ws)
    (sym (fold-append (held_after k v) (v == 0) (take since ws) (drop since ws))
    ∙ ap (λ us. may_hold k v us) (take-append-drop since ws) ∙ h)

-- What is not sure.

sure_less : (a b s : Bool) (h i : Bool) → (h ≡ true → i ≡ true)
    → (if a then b || (not s && h) else h) ≡ true → (if a then b || (not s && i) else i) ≡ true
sure_less false b s h i f e = f e
sure_less true true s h i f e = refl
sure_less true false true h i f e = absurd (false≢true e)
sure_less true false false h i f e = f e

unsure_more : (a b s : Bool) (h i : Bool) → (h ≡ true → i ≡ true)
    → (if a then b || (not s && h) else h) ≡ true → (if a then b || i else i) ≡ true
unsure_more false b s h i f e = f e
unsure_more true true s h i f e = refl
unsure_more true false true h i f e = absurd (false≢true e)
unsure_more true false false h i f e = f e

-- what may be the committed value may be it where fewer commits are sure
holds_unsure : (g : ℕ → Bool) (k v : ℕ) (h i : Bool) (ws : List JudgedWrite) → (h ≡ true → i ≡ true)
    → holds_from k v h ws ≡ true → holds_from k v i (unsure g ws) ≡ true
holds_unsure g k v h i [] f e = f e
holds_unsure g k v h i (w ∷ ws) f e =
    holds_unsure g k v (held_after k v h w)
    (held_after k v i (if is_one_of g w.branch then without_surety w else w)) ws
    (by (is_one_of g w.branch)) e
  where
    by : (b : Bool) → held_after k v h w ≡ true → held_after k v i (if b then without_surety w else w) ≡ true
    by true q = unsure_more (w.key == k) (w.value == v) w.sure h i f q
    by false q = sure_less (w.key == k) (w.value == v) w.sure h i f q

pub unsure_holds : (g : ℕ → Bool) (k v : ℕ) (ws : List JudgedWrite) → may_hold k v ws ≡ true
    → may_hold k v (unsure g ws) ≡ true
unsure_holds g k v ws h = holds_unsure g k v (v == 0) (v == 0) ws (λ e. e) h

-- Commits.

-- values of this key alone
value_kept : (x k v : ℕ) (js : List Work) → AllByRecursion (λ j. is_at x k j ≡ true → j.value ≡ v) js
    → holds_from k v true (committed_works x true js) ≡ true
value_kept x k v [] all = refl
value_kept x k v (j ∷ js) all = by (j.branch == x) refl (value_kept x k v js all.1) where
  by : (b : Bool) → (j.branch == x) ≡ b → holds_from k v true (committed_works x true js) ≡ true
      → holds_from k v true (map (λ (w : Work).
      record { branch = Some x; key = w.key; value = w.value; sure = true })
      (cond b (j ∷ works_of x js) (works_of x js))) ≡ true
  by false p rest = rest
  by true p rest = own (j.key == k) refl where
    own : (c : Bool) → (j.key == k) ≡ c
        → holds_from k v (if j.key == k then j.value == v || false else true)
        (committed_works x true js) ≡ true
    own true q = subst (λ (c : Bool). holds_from k v c (committed_works x true js) ≡ true)
        (sym (ap (λ c. if c then j.value == v || false else true) q
        ∙ or_left (j.value == v) false (eq-eqb j.value v
        (all.0 (and_from (j.branch == x) (j.key == k) p q))))) rest
    own false q = subst (λ (c : Bool). holds_from k v c (committed_works x true js) ≡ true)
        (sym (ap (λ c. if c then j.value == v || false else true) q)) rest

-- a branch that wrote this value under the key commits
pub value_committed : (x k v : ℕ) (held : Bool) (js : List Work) → list_any (is_at x k) js ≡ true
    → AllByRecursion (λ j. is_at x k j ≡ true → j.value ≡ v) js
    → holds_from k v held (committed_works x true js) ≡ true
value_committed x k v held [] some all = absurd (false≢true some)
value_committed x k v held (j ∷ js) some all =
    by (j.branch == x) refl (λ h e. value_committed x k v h js e all.1)
  where
    by : (b : Bool) → (j.branch == x) ≡ b
        → ((h : Bool) → list_any (is_at x k) js ≡ true → holds_from k v h (committed_works x true js) ≡ true)
        → holds_from k v held (map (λ (w : Work).
        record { branch = Some x; key = w.key; value = w.value; sure = true })
        (cond b (j ∷ works_of x js) (works_of x js))) ≡ true
    by false p rest = rest held (subst (λ (c : Bool). ((c && j.key == k) || list_any (is_at x k) js) ≡ true) p
        some)
    by true p rest = own (j.key == k) refl where
      own : (c : Bool) → (j.key == k) ≡ c
          → holds_from k v (if j.key == k then j.value == v || (not true && held) else held)
          (committed_works x true js) ≡ true
      own true q = subst (λ (c : Bool). holds_from k v c (committed_works x true js) ≡ true)
          (sym (ap (λ c. if c then j.value == v || (not true && held) else held) q
          ∙ or_left (j.value == v) (not true && held)
          (eq-eqb j.value v (all.0 (and_from (j.branch == x) (j.key == k) p q)))))
          (value_kept x k v js all.1)
      own false q = subst (λ (c : Bool). holds_from k v c (committed_works x true js) ≡ true)
          (sym (ap (λ c. if c then j.value == v || (not true && held) else held) q))
          (rest held (subst (λ (c : Bool). ((c && false) || list_any (is_at x k) js) ≡ true) p
          (subst (λ (c : Bool). ((j.branch == x && c) || list_any (is_at x k) js) ≡ true) q some)))

-- one that wrote nothing under the key does
pub nothing_committed : (g : ℕ → Bool) (x k v : ℕ) (sure held : Bool) (js : List Work)
    → list_any (is_at x k) js ≡ false
    → holds_from k v held (unsure g (committed_works x sure js)) ≡ held
nothing_committed g x k v sure held [] none = refl
nothing_committed g x k v sure held (j ∷ js) none =
    by (j.branch == x) refl (λ h e. nothing_committed g x k v sure h js e)
  where
    made : Work → JudgedWrite
    made w = record { branch = Some x; key = w.key; value = w.value; sure = sure }

    maybe : Bool → JudgedWrite → JudgedWrite
    maybe c w = if c then without_surety w else w

    skipped : (c : Bool) → (j.key == k) ≡ false → held_after k v held (maybe c (made j)) ≡ held
    skipped true q = ap (λ b. if b then j.value == v || (not false && held) else held) q
    skipped false q = ap (λ b. if b then j.value == v || (not sure && held) else held) q

    parts : (a b r : Bool) → ((a && b) || r) ≡ false → a ≡ true → (b ≡ false) × (r ≡ false)
    parts true true r h e = absurd (false≢true (sym h))
    parts true false r h e = (refl, h)
    parts false b r h e = absurd (false≢true e)

    rest_off : (a b r : Bool) → ((a && b) || r) ≡ false → r ≡ false
    rest_off true true r h = absurd (false≢true (sym h))
    rest_off true false r h = h
    rest_off false b r h = h

    by : (b : Bool) → (j.branch == x) ≡ b
        → ((h : Bool) → list_any (is_at x k) js ≡ false → holds_from k v h
        (unsure g (committed_works x sure js)) ≡ h)
        → holds_from k v held (unsure g (map (λ (w : Work).
        record { branch = Some x; key = w.key; value = w.value; sure = sure })
        (cond b (j ∷ works_of x js) (works_of x js)))) ≡ held
    by false p rest = rest held (rest_off (j.branch == x) (j.key == k) (list_any (is_at x k) js) none)
    by true p rest =
        let off = parts (j.branch == x) (j.key == k) (list_any (is_at x k) js) none p in
        rest (held_after k v held (maybe (g x) (made j))) off.1 ∙ skipped (g x) off.0

-- what may be the committed value still may, if this branch's commit is not sure
pub doubtful_commit : (g : ℕ → Bool) (x k v : ℕ) (sure : Bool) (js : List Work) → g x ≡ true
    → holds_from k v true (unsure g (committed_works x sure js)) ≡ true
doubtful_commit g x k v sure [] here = refl
doubtful_commit g x k v sure (j ∷ js) here = by (j.branch == x) (doubtful_commit g x k v sure js here) where
  made : Work → JudgedWrite
  made w = record { branch = Some x; key = w.key; value = w.value; sure = sure }

  stays : (a b : Bool) → (if a then b || (not false && true) else true) ≡ true
  stays true true = refl
  stays true false = refl
  stays false b = refl

  step : (c : Bool) → c ≡ true → held_after k v true (if c then without_surety (made j) else made j) ≡ true
  step true e = stays (j.key == k) (j.value == v)
  step false e = absurd (false≢true e)

  by : (b : Bool) → holds_from k v true (unsure g (committed_works x sure js)) ≡ true
      → holds_from k v true (unsure g (map (λ (w : Work).
      record { branch = Some x; key = w.key; value = w.value; sure = sure })
      (cond b (j ∷ works_of x js) (works_of x js)))) ≡ true
  by false rest = rest
  by true rest = subst (λ (c : Bool). holds_from k v c (unsure g (committed_works x sure js)) ≡ true)
      (sym (step (g x) here)) rest

unsure_append : (g : ℕ → Bool) (us vs : List JudgedWrite) → unsure g (us ++ vs) ≡ unsure g us ++ unsure g vs
unsure_append g [] vs = refl
unsure_append g (u ∷ us) vs = ap (λ ws. (if is_one_of g u.branch then without_surety u else u) ∷ ws)
    (unsure_append g us vs)

-- the values of a store after some more
pub held_append : (k v : ℕ) (us vs : List JudgedWrite)
    → may_hold k v (us ++ vs) ≡ holds_from k v (may_hold k v us) vs
held_append k v us vs = fold-append (held_after k v) (v == 0) us vs

pub unsure_held_append : (g : ℕ → Bool) (k v : ℕ) (us vs : List JudgedWrite)
    → may_hold k v (unsure g (us ++ vs)) ≡ holds_from k v (may_hold k v (unsure g us)) (unsure g vs)
unsure_held_append g k v us vs =
    ap (λ ws. may_hold k v ws) (unsure_append g us vs) ∙ held_append k v (unsure g us) (unsure g vs)

-- Branches that come back.

other_way : (a b : ℕ) → (a == b) ≡ (b == a)
other_way a b = by (a == b) refl where
  by : (c : Bool) → (a == b) ≡ c → (a == b) ≡ (b == a)
  by true q = q ∙ sym (eq-eqb b a (sym (eqb-true a b q)))
  by false q = by_other (b == a) refl where
    by_other : (c : Bool) → (b == a) ≡ c → (a == b) ≡ (b == a)
    by_other true r = absurd (false≢true (sym q ∙ eq-eqb a b (sym (eqb-true b a r))))
    by_other false r = q ∙ sym r

doubted_one : (g : ℕ → Bool) (x : ℕ) (w : JudgedWrite) (h : ℕ → Bool) → ((y : ℕ) → h y ≡ ((x == y) || g y))
    → (if is_one_of g (if is_of x w.branch then without_surety w else w).branch
    then without_surety (if is_of x w.branch then without_surety w else w)
    else (if is_of x w.branch then without_surety w else w))
    ≡ (if is_one_of h w.branch then without_surety w else w)
doubted_one g x w h is = by w.branch refl where
  by : (o : Option ℕ) → w.branch ≡ o
      → (if is_one_of g (if is_of x w.branch then without_surety w else w).branch
      then without_surety (if is_of x w.branch then without_surety w else w)
      else (if is_of x w.branch then without_surety w else w))
      ≡ (if is_one_of h w.branch then without_surety w else w)
  by None e =
      ap (λ c. if is_one_of g (if c then without_surety w else w).branch
      then without_surety (if c then without_surety w else w) else (if c then without_surety w else w))
      (ap (is_of x) e)
      ∙ ap (λ c. if c then without_surety w else w) (ap (is_one_of g) e)
      ∙ sym (ap (λ c. if c then without_surety w else w) (ap (is_one_of h) e))
  by (Some y) e =
      ap (λ c. if is_one_of g (if c then without_surety w else w).branch
      then without_surety (if c then without_surety w else w) else (if c then without_surety w else w))
      (ap (is_of x) e ∙ other_way y x)
      ∙ twice (x == y)
      ∙ ap (λ c. if (x == y) || c then without_surety w else w) (ap (is_one_of g) e)
      ∙ sym (ap (λ c. if c then without_surety w else w) (ap (is_one_of h) e ∙ is y))
    where
      same_branch : (c : Bool) → (if c then without_surety w else w).branch ≡ w.branch
      same_branch true = refl
      same_branch false = refl

      two : (c d : Bool) → (if d then without_surety (if c then without_surety w else w)
          else (if c then without_surety w else w)) ≡ (if c || d then without_surety w else w)
      two true true = refl
      two true false = refl
      two false true = refl
      two false false = refl

      twice : (c : Bool) → (if is_one_of g (if c then without_surety w else w).branch
          then without_surety (if c then without_surety w else w) else (if c then without_surety w else w))
          ≡ (if c || is_one_of g w.branch then without_surety w else w)
      twice c = ap (λ o. if is_one_of g o then without_surety (if c then without_surety w else w)
          else (if c then without_surety w else w)) (same_branch c) ∙ two c (is_one_of g w.branch)

doubted_unsure : (g h : ℕ → Bool) (x : ℕ) (ws : List JudgedWrite) → ((y : ℕ) → h y ≡ ((x == y) || g y))
    → unsure g (doubted x ws) ≡ unsure h ws
doubted_unsure g h x [] is = refl
doubted_unsure g h x (w ∷ ws) is =
    ap (λ v. v ∷ unsure g (doubted x ws)) (doubted_one g x w h is)
    ∙ ap (λ vs. (if is_one_of h w.branch then without_surety w else w) ∷ vs) (doubted_unsure g h x ws is)

pub unsure_none : (g : ℕ → Bool) (ws : List JudgedWrite) → ((y : ℕ) → g y ≡ false) → unsure g ws ≡ ws
unsure_none g [] none = refl
unsure_none g (w ∷ ws) none = ap (λ v. v ∷ unsure g ws) (by w.branch refl)
    ∙ ap (λ vs. w ∷ vs) (unsure_none g ws none) where
      by : (o : Option ℕ) → w.branch ≡ o → (if is_one_of g w.branch then without_surety w else w) ≡ w
      by None e = ap (λ c. if c then without_surety w else w) (ap (is_one_of g) e)
      by (Some y) e = ap (λ c. if c then without_surety w else w) (ap (is_one_of g) e ∙ none y)

-- no commit of the branches that come back is sure
pub all_doubted : (bs : List JudgedBranch) (ws : List JudgedWrite)
    → fold (λ (vs : List JudgedWrite) (b : JudgedBranch). doubted b.name vs) ws bs
    ≡ unsure (λ y. list_any (is_named y) bs) ws
all_doubted [] ws = sym (unsure_none (λ y. false) ws (λ y. refl))
all_doubted (b ∷ bs) ws = all_doubted bs (doubted b.name ws)
    ∙ doubted_unsure (λ y. list_any (is_named y) bs) (λ y. list_any (is_named y) (b ∷ bs))
    b.name ws (λ y. refl)
