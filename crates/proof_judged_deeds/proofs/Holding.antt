-- What the judge has of a branch's writes, after a filter or some more of them.
use Rattle.std.proofs.Common.{◌≡◌, ℕ, Bool, true, false, not, Option, Some, None, List, [], ◌∷◌, ◌++◌, filter, find, ◌||◌, ◌&&◌, refl, ap, sym, subst, ◌∙◌}
use Rattle.std.specs.Prelude.{◌==◌, cond}
use Rattle.std.specs.List.{list_any, AllByRecursion}
use Rattle.std.proofs.lemmas.Bool.{and_from, and_parts, eqb-true, eq-eqb, false≢true, false_from_ne_true, ne_eqb, not_from_false, not_from_true, or_left, or_right}
use Rattle.std.proofs.lemmas.List.Folds.{list_any-append}
use Rattle.xa_xid.specs.declared.xid.Xid.{Xid}
use Rattle.xa_branch.specs.Names.{same}
use Rattle.protocol.specs.declared.records.Write.{Write}
use Rattle.protocol.specs.Plays.{with_write}
use Rattle.protocol.specs.Records.{same_bytes}
use Rattle.log_text.proofs.NameReading.{same_bytes_refl}
use Rattle.log_rules.proofs.order.Keys.{same_bytes_is_equality}
use Rattle.log_rules.proofs.sound.CutRecords.{bytes_same}
use Rattle.kv_store.specs.writes.Writes.{is_of}
use Rattle.judge_state.specs.declared.parts.Work.{Work}
use Rattle.judge_state.specs.Moves.{worked, works_of, works_without}
use Rattle.judge_state.specs.Sights.{Sight}
use Rattle.proof_judged_deeds.specs.Data.{HasWritten, JudgeHolds, is_at}
use Rattle.proof_judged_deeds.specs.Names.{NameNumbers, value_number}
use Rattle.proof_judged_deeds.proofs.Branches.{not_one}
use Rattle.proof_judged_deeds.proofs.Lists.{all_append, all_filter, any_gone, any_kept}

both_off : (a b : Bool) → a ≡ false → b ≡ false → (a || b) ≡ false
both_off a b h k = rw (h, k) refl

-- if nothing is found, all that is found is so
pub vacuous : {X : Type 0} (P : X → Type 0) (p : X → Bool) (xs : List X) → list_any p xs ≡ false
    → AllByRecursion (λ x. p x ≡ true → P x) xs
vacuous P p [] h = tt
vacuous {X} P p (x ∷ xs) h = by (λ k. vacuous P p xs k) (p x) refl where
  by : (list_any p xs ≡ false → AllByRecursion (λ y. p y ≡ true → P y) xs) → (b : Bool) → p x ≡ b
      → AllByRecursion (λ y. p y ≡ true → P y) (x ∷ xs)
  by rest true q = absurd (false≢true (sym h ∙ or_left (p x) (list_any p xs) q))
  by rest false q = (
    λ e. absurd (false≢true (sym q ∙ e)),
    rest (subst (λ (b : Bool). (b || list_any p xs) ≡ false) q h),
  )

-- a filter that keeps what is of the branch and the key
pub holds_kept : (n : NameNumbers) (o : Option Write) (x k : ℕ) (q : Work → Bool) (js : List Work)
    → ((j : Work) → is_at x k j ≡ true → q j ≡ true) → JudgeHolds n o x k js
    → JudgeHolds n o x k (filter q js)
holds_kept n None x k q js h none = any_kept (is_at x k) q h js ∙ none
holds_kept n (Some w) x k q js h some = (
  any_kept (is_at x k) q h js ∙ some.0,
  all_filter (λ j. is_at x k j ≡ true → j.value ≡ value_number n w.value) q js some.1,
)

-- one that drops it
pub holds_none : (n : NameNumbers) (x k : ℕ) (q : Work → Bool) (js : List Work)
    → ((j : Work) → is_at x k j ≡ true → q j ≡ false) → JudgeHolds n None x k (filter q js)
holds_none n x k q js h = any_gone (is_at x k) q h js

-- what is of another branch or key comes after
pub holds_before : (n : NameNumbers) (o : Option Write) (x k : ℕ) (js is : List Work) → JudgeHolds n o x k js
    → list_any (is_at x k) is ≡ false → JudgeHolds n o x k (js ++ is)
holds_before n None x k js is none off =
    list_any-append (is_at x k) js is ∙ both_off (list_any (is_at x k) js) (list_any (is_at x k) is) none off
holds_before n (Some w) x k js is some off = (
  list_any-append (is_at x k) js is ∙ or_left (list_any (is_at x k) js) (list_any (is_at x k) is) some.0,
  all_append (λ j. is_at x k j ≡ true → j.value ≡ value_number n w.value) js is some.1
      (vacuous (λ j. j.value ≡ value_number n w.value) (is_at x k) is off),
)

-- or before
pub holds_after : (n : NameNumbers) (o : Option Write) (x k : ℕ) (js is : List Work)
    → list_any (is_at x k) js ≡ false
    → JudgeHolds n o x k is → JudgeHolds n o x k (js ++ is)
holds_after n None x k js is off none =
    list_any-append (is_at x k) js is ∙ both_off (list_any (is_at x k) js) (list_any (is_at x k) is) off none
holds_after n (Some w) x k js is off some = (
  list_any-append (is_at x k) js is ∙ or_right (list_any (is_at x k) js) (list_any (is_at x k) is) some.0,
  all_append (λ j. is_at x k j ≡ true → j.value ≡ value_number n w.value) js is
      (vacuous (λ j. j.value ≡ value_number n w.value) (is_at x k) js off) some.1,
)

-- twice the same
pub holds_twice : (n : NameNumbers) (o : Option Write) (x k : ℕ) (js is : List Work) → JudgeHolds n o x k js
    → JudgeHolds n o x k is
    → JudgeHolds n o x k (js ++ is)
holds_twice n None x k js is none off = holds_before n None x k js is none off
holds_twice n (Some w) x k js is some more = (
  list_any-append (is_at x k) js is ∙ or_left (list_any (is_at x k) js) (list_any (is_at x k) is) some.0,
  all_append (λ j. is_at x k j ≡ true → j.value ≡ value_number n w.value) js is some.1 more.1,
)

-- The branches and keys of numbers.

of_branch : (x k : ℕ) (j : Work) → is_at x k j ≡ true → j.branch ≡ x
of_branch x k j h = eqb-true j.branch x (and_parts (j.branch == x) (j.key == k) h).0

not_of : (x y k : ℕ) (j : Work) → (x ≡ y → ⊥) → is_at y k j ≡ true → (j.branch == x) ≡ false
not_of x y k j apart h = ne_eqb j.branch x (λ e. apart (sym e ∙ of_branch y k j h))

-- the writes of one branch, and those of all the others
pub holds_own : (n : NameNumbers) (o : Option Write) (x k : ℕ) (js : List Work) → JudgeHolds n o x k js
    → JudgeHolds n o x k (works_of x js)
holds_own n o x k js h = holds_kept n o x k (λ w. w.branch == x) js
    (λ j e. (and_parts (j.branch == x) (j.key == k) e).0) h

pub own_none : (n : NameNumbers) (x y k : ℕ) (js : List Work) → (x ≡ y → ⊥)
    → list_any (is_at y k) (works_of x js) ≡ false
own_none n x y k js apart = holds_none n y k (λ w. w.branch == x) js (λ j e. not_of x y k j apart e)

pub others_none : (n : NameNumbers) (x k : ℕ) (js : List Work) → JudgeHolds n None x k (works_without x js)
others_none n x k js = holds_none n x k (λ w. not (w.branch == x)) js
    (λ j e. not_from_true (j.branch == x) (and_parts (j.branch == x) (j.key == k) e).0)

pub holds_others : (n : NameNumbers) (o : Option Write) (x y k : ℕ) (js : List Work) → (x ≡ y → ⊥)
    → JudgeHolds n o y k js
    → JudgeHolds n o y k (works_without x js)
holds_others n o x y k js apart h = holds_kept n o y k (λ w. not (w.branch == x)) js
    (λ j e. not_from_false (j.branch == x) (not_of x y k j apart e)) h

-- What a branch has written.

pub bytes_are : (k l : List ℕ) → same_bytes k l ≡ true → k ≡ l
bytes_are k l h = bytes_same k l (same_bytes_is_equality k l ∙ h)

-- a write of a key is found under it
pub found_own : (ws : List Write) (k : List ℕ) (v : Option (List ℕ))
    → find (is_of k) (with_write ws k v) ≡ Some (record { key = k; value = v })
found_own [] k v = ap (λ b. cond b (Some (record { key = k; value = v })) None) (same_bytes_refl k)
found_own (w ∷ ws) k v = by (same_bytes w.key k) refl (found_own ws k v) where
  by : (b : Bool) → same_bytes w.key k ≡ b → find (is_of k) (with_write ws k v)
      ≡ Some (record { key = k; value = v })
      → find (is_of k) (cond b (record { key = k; value = v } ∷ ws) (w ∷ with_write ws k v))
      ≡ Some (record { key = k; value = v })
  by true q h = ap (λ b. cond b (Some (record { key = k; value = v })) (find (is_of k) ws))
      (same_bytes_refl k)
  by false q h = ap (λ b. cond b (Some w) (find (is_of k) (with_write ws k v))) q ∙ h

-- and none of another key
pub found_other : (ws : List Write) (k l : List ℕ) (v : Option (List ℕ)) → same_bytes k l ≡ false
    → find (is_of l) (with_write ws k v) ≡ find (is_of l) ws
found_other [] k l v apart = ap (λ b. cond b (Some (record { key = k; value = v })) None) apart
found_other (w ∷ ws) k l v apart = by (same_bytes w.key k) refl (found_other ws k l v apart) where
  by : (b : Bool) → same_bytes w.key k ≡ b → find (is_of l) (with_write ws k v) ≡ find (is_of l) ws
      → find (is_of l) (cond b (record { key = k; value = v } ∷ ws) (w ∷ with_write ws k v))
      ≡ find (is_of l) (w ∷ ws)
  by true q h = ap (λ b. cond b (Some (record { key = k; value = v })) (find (is_of l) ws)) apart
      ∙ sym (ap (λ b. cond b (Some w) (find (is_of l) ws))
      (ap (λ j. same_bytes j l) (bytes_are w.key k q) ∙ apart))
  by false q h = ap (λ o. cond (same_bytes w.key l) (Some w) o) h

two_tests : (a b : Bool) → a ≡ true → b ≡ true → not (a && b) ≡ false
two_tests a b h k = rw (h, k) refl

not_both : (a b : Bool) → (a ≡ true → b ≡ true → ⊥) → not (a && b) ≡ true
not_both false b h = refl
not_both true false h = refl
not_both true true h = absurd (h refl refl)

-- under the key that a branch writes the judge has the new value
written_own : (n : NameNumbers) (w : Write) (x k : ℕ) (s : Sight)
    → JudgeHolds n (Some w) x k (worked x k (value_number n w.value) s).works
written_own n w x k s = holds_after n (Some w) x k (filter (λ j. not (j.branch == x && j.key == k)) s.works)
    (record { branch = x; key = k; value = value_number n w.value } ∷ [])
    (holds_none n x k (λ j. not (j.branch == x && j.key == k)) s.works (λ j e. not_from_true (is_at x k j) e)) (
      or_left (x == x && k == k) false (and_from (x == x) (k == k) (eq-eqb x x refl) (eq-eqb k k refl)),
      (λ e. refl, tt),
    )

-- of another branch, or under another key, what it had
written_other : (n : NameNumbers) (o : Option Write) (x k y l v : ℕ) (s : Sight) → (x ≡ y → k ≡ l → ⊥)
    → JudgeHolds n o y l s.works
    → JudgeHolds n o y l (worked x k v s).works
written_other n o x k y l v s apart h = holds_before n o y l
    (filter (λ j. not (j.branch == x && j.key == k)) s.works)
    (record { branch = x; key = k; value = v } ∷ [])
    (holds_kept n o y l (λ j. not (j.branch == x && j.key == k)) s.works (λ j e.
    let parts = and_parts (j.branch == y) (j.key == l) e in
    not_both (j.branch == x) (j.key == k) (λ p q.
    apart (sym (eqb-true j.branch x p) ∙ eqb-true j.branch y parts.0)
    (sym (eqb-true j.key k q) ∙ eqb-true j.key l parts.1))) h)
    (both_off (x == y && k == l) false (false_from_ne_true (x == y && k == l) (λ e.
    let parts = and_parts (x == y) (k == l) e in apart (eqb-true x y parts.0) (eqb-true k l parts.1))) refl)

-- a branch writes a key
pub writes_key : (n : NameNumbers) (ws : List Write) (x : Xid) (k : List ℕ) (v : Option (List ℕ)) (s : Sight)
    → HasWritten n ws x s.works
    → HasWritten n (with_write ws k v) x (worked (n.xid x) (n.word k) (value_number n v) s).works
writes_key n ws x k v s h l = by (same_bytes k l) refl where
  by : (b : Bool) → same_bytes k l ≡ b
      → JudgeHolds n (find (is_of l) (with_write ws k v)) (n.xid x) (n.word l)
      (worked (n.xid x) (n.word k) (value_number n v) s).works
  by true q = subst (λ (j : List ℕ). JudgeHolds n (find (is_of j) (with_write ws k v)) (n.xid x) (n.word j)
      (worked (n.xid x) (n.word k) (value_number n v) s).works) (bytes_are k l q)
      (subst (λ (o : Option Write). JudgeHolds n o (n.xid x) (n.word k)
      (worked (n.xid x) (n.word k) (value_number n v) s).works) (sym (found_own ws k v))
      (written_own n (record { key = k; value = v }) (n.xid x) (n.word k) s))
  by false q = subst (λ (o : Option Write). JudgeHolds n o (n.xid x) (n.word l)
      (worked (n.xid x) (n.word k) (value_number n v) s).works) (sym (found_other ws k l v q))
      (written_other n (find (is_of l) ws) (n.xid x) (n.word k) (n.xid x) (n.word l) (value_number n v) s
      (λ p e. false≢true (sym q ∙ subst (λ (j : List ℕ). same_bytes k j ≡ true) (n.words_apart k l e)
      (same_bytes_refl k)))
      (h l))

pub leaves_others : (n : NameNumbers) (ws : List Write) (x y : Xid) (k : List ℕ) (v : ℕ) (s : Sight)
    → same x y ≡ false
    → HasWritten n ws y s.works → HasWritten n ws y (worked (n.xid x) (n.word k) v s).works
leaves_others n ws x y k v s apart h l =
    written_other n (find (is_of l) ws) (n.xid x) (n.word k) (n.xid y) (n.word l) v s
    (λ p e. not_one n x y apart p) (h l)
