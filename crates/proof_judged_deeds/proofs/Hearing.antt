-- What happens at a key store leaves the judge's data those of the store.
use Rattle.std.proofs.Common.{◌≡◌, ℕ, Bool, true, false, not, Option, Some, None, List, [], ◌∷◌, ◌++◌, find, fold, ◌||◌, ◌&&◌, refl, ap, sym, subst, ◌∙◌, inl, inr}
use Rattle.std.specs.Prelude.{◌==◌, cond, if◌then◌else◌}
use Rattle.std.specs.List.{list_any, AllByRecursion}
use Rattle.std.proofs.lemmas.Bool.{and_parts, eq-eqb, false≢true, or_cases, or_left, or_right}
use Rattle.xa_xid.specs.declared.xid.Xid.{Xid}
use Rattle.xa_branch.specs.Names.{same}
use Rattle.xa_branch.proofs.Names.{same_is}
use Rattle.protocol.specs.declared.records.Write.{Write}
use Rattle.protocol.specs.Plays.{with_write}
use Rattle.protocol.specs.Records.{same_bytes}
use Rattle.log_rules.specs.order.Orders.{keys_once, names_key}
use Rattle.log_rules.proofs.order.Keys.{same_bytes_is_equality}
use Rattle.kv_store.specs.Versions.{written as left_after}
use Rattle.kv_store.specs.writes.Writes.{is_of}
use Rattle.kv_state.specs.Works.{left_or}
use Rattle.judge_state.specs.declared.parts.Work.{Work}
use Rattle.judge_state.specs.declared.parts.JudgedWrite.{JudgedWrite}
use Rattle.judge_state.specs.Moves.{committed, committed_works, is_prepared_at, others, remembered, rolled, was_prepared, worked, works_of, works_without}
use Rattle.judge_state.specs.Questions.{branch_at}
use Rattle.judge_state.specs.Scans.{has_value, held_after, may_hold, may_read}
use Rattle.judge_state.specs.Sights.{Sight}
use Rattle.judge_rules.specs.declared.words.Rules.{Rules}
use Rattle.judge_rules.specs.Scans.{may_see, reads_in, since_of}
use Rattle.proof_judged_deeds.specs.Data.{HasWritten, JudgeHolds, IsHeard, MayLeave, is_at, unsure}
use Rattle.proof_judged_deeds.specs.Names.{NameNumbers, value_number}
use Rattle.proof_judged_deeds.proofs.Branches.{at_name, not_one}
use Rattle.proof_judged_deeds.proofs.Holding.{bytes_are, holds_after, holds_before, holds_others, holds_own, leaves_others, others_none, own_none, writes_key}
use Rattle.proof_judged_deeds.proofs.Ledgers.{Ledger, ledger}
use Rattle.proof_judged_deeds.proofs.Values.{doubtful_commit, held_append, nothing_committed, read_since, unsure_held_append, unsure_holds, unsure_none, value_committed}

-- What is read.

value_at_all : (x k v : ℕ) (js : List Work) → list_any (is_at x k) js ≡ true
    → AllByRecursion (λ j. is_at x k j ≡ true → j.value ≡ v) js
    → list_any (λ j. j.branch == x && j.key == k && j.value == v) js ≡ true
value_at_all x k v [] some all = absurd (false≢true some)
value_at_all x k v (j ∷ js) some all = elim (or_cases (is_at x k j) (list_any (is_at x k) js) some) [
  | inl here ↦ or_left (j.branch == x && j.key == k && j.value == v)
      (list_any (λ i. i.branch == x && i.key == k && i.value == v) js)
      (three (j.branch == x) (j.key == k) (j.value == v) here (eq-eqb j.value v (all.0 here)))
  | inr more ↦ or_right (j.branch == x && j.key == k && j.value == v)
      (list_any (λ i. i.branch == x && i.key == k && i.value == v) js) (value_at_all x k v js more all.1)
]
  where
    three : (a b c : Bool) → (a && b) ≡ true → c ≡ true → (a && b && c) ≡ true
    three true true c h k = k
    three true false c h k = absurd (false≢true h)
    three false b c h k = absurd (false≢true h)

-- what a branch finds, the judge admits that it reads
pub finds_admitted : (r : Rules) (n : NameNumbers) (value : List ℕ → Option (List ℕ))
    (written : Xid → List Write) (s : Sight)
    (x : Xid) (k : List ℕ) → IsHeard n value written s
    → reads_in r (n.xid x) (n.word k) (value_number n (left_or (find (is_of k) (written x)) (value k))) s
    ≡ true
finds_admitted r n value written s x k heard = by (find (is_of k) (written x)) (heard.works x k) where
  by : (o : Option Write) → JudgeHolds n o (n.xid x) (n.word k) s.works
      → reads_in r (n.xid x) (n.word k) (value_number n (left_or o (value k))) s ≡ true
  by None none =
      ap (λ c. if c then has_value (n.xid x) (n.word k) (value_number n (value k)) s
      else may_see r (since_of (branch_at (n.xid x) s) s) (n.word k) (value_number n (value k)) s) none
      ∙ or_left (may_read (since_of (branch_at (n.xid x) s) s) (n.word k) (value_number n (value k)) s) _
      (read_since (since_of (branch_at (n.xid x) s) s) (n.word k) (value_number n (value k)) s.values
      (heard.committed k))
  by (Some w) some =
      ap (λ c. if c then has_value (n.xid x) (n.word k) (value_number n w.value) s
      else may_see r (since_of (branch_at (n.xid x) s) s) (n.word k) (value_number n w.value) s) some.0
      ∙ value_at_all (n.xid x) (n.word k) (value_number n w.value) s.works some.0 some.1

-- Nothing is done.

pub same_heard : (n : NameNumbers) (value value' : List ℕ → Option (List ℕ))
    (written written' : Xid → List Write) (s u : Sight)
    → ledger u ≡ ledger s → ((k : List ℕ) → value' k ≡ value k) → ((x : Xid) → written' x ≡ written x)
    → IsHeard n value written s → IsHeard n value' written' u
same_heard n value value' written written' s u books v w h = record {
  committed = λ k. ap (λ (l : Ledger). may_hold (n.word k) (value_number n (value' k)) l.values) books
      ∙ ap (λ o. may_hold (n.word k) (value_number n o) s.values) (v k) ∙ h.committed k;
  works = λ x k. subst (λ (l : Ledger). JudgeHolds n (find (is_of k) (written' x)) (n.xid x) (n.word k)
      l.works) (sym books)
      (subst (λ (ws : List Write). JudgeHolds n (find (is_of k) ws) (n.xid x) (n.word k) s.works)
      (sym (w x)) (h.works x k));
}

pub same_leave : (n : NameNumbers) (value value' : List ℕ → Option (List ℕ))
    (promised promised' : Xid → List Write)
    (back back' : Xid → Bool) (s u : Sight) → u.values ≡ s.values → u.lost_works ≡ s.lost_works
    → ((k : List ℕ) → value' k ≡ value k) → ((x : Xid) → back' x ≡ true → promised' x ≡ promised x)
    → ((x : Xid) → back' x ≡ back x) → MayLeave n value promised back s → MayLeave n value' promised' back' u
same_leave n value value' promised promised' back back' s u values works v p b h = record {
  committed = λ g has k. ap (λ (ws : List JudgedWrite).
      may_hold (n.word k) (value_number n (value' k)) (unsure g ws)) values
      ∙ ap (λ o. may_hold (n.word k) (value_number n o) (unsure g s.values)) (v k)
      ∙ h.committed g (λ x e. has x (b x ∙ e)) k;
  works = λ x e k. subst (λ (js : List Work). JudgeHolds n (find (is_of k) (promised' x)) (n.xid x)
      (n.word k) js) (sym works)
      (subst (λ (ws : List Write). JudgeHolds n (find (is_of k) ws) (n.xid x) (n.word k) s.lost_works)
      (sym (p x e))
      (h.works x (sym (b x) ∙ e) k));
}

-- a crash leaves what there is, and no branch comes back
pub now_leave : (n : NameNumbers) (value value' : List ℕ → Option (List ℕ))
    (written promised : Xid → List Write)
    (back : Xid → Bool) (s : Sight) → IsHeard n value written s → ((k : List ℕ) → value' k ≡ value k)
    → ((x : Xid) → back x ≡ true → ⊥) → MayLeave n value' promised back s
now_leave n value value' written promised back s h v none = record {
  committed = λ g has k. ap (λ o. may_hold (n.word k) (value_number n o) (unsure g s.values)) (v k)
      ∙ unsure_holds g (n.word k) (value_number n (value k)) s.values (h.committed k);
  works = λ x e. absurd (none x e);
}

-- A branch writes.

pub write_heard : (n : NameNumbers) (value : List ℕ → Option (List ℕ))
    (written written' : Xid → List Write) (s : Sight)
    (x : Xid) (k : List ℕ) (v : Option (List ℕ)) → written' x ≡ with_write (written x) k v
    → ((y : Xid) → same x y ≡ false → written' y ≡ written y) → IsHeard n value written s
    → IsHeard n value written' (worked (n.xid x) (n.word k) (value_number n v) s)
write_heard n value written written' s x k v own other h = record {
  committed = h.committed;
  works = at_name n x (λ y. HasWritten n (written' y) y
      (worked (n.xid x) (n.word k) (value_number n v) s).works)
      (subst (λ (ws : List Write). HasWritten n ws x (worked (n.xid x) (n.word k) (value_number n v) s).works)
      (sym own)
      (writes_key n (written x) x k v s (h.works x)))
      (λ y apart. subst (λ (ws : List Write).
      HasWritten n ws y (worked (n.xid x) (n.word k) (value_number n v) s).works)
      (sym (other y apart)) (leaves_others n (written y) x y k (value_number n v) s apart (h.works y)));
}

-- A branch lets go of what it has written.

-- what is left of what branches have written where one lets go
pub record LeavesNone (n : NameNumbers) (x : Xid) (js is : List Work) : Type 0 where
  pub own : (k : List ℕ) → JudgeHolds n None (n.xid x) (n.word k) is
  pub others : (y : Xid) → same x y ≡ false → (o : Option Write) (k : List ℕ)
      → JudgeHolds n o (n.xid y) (n.word k) js
      → JudgeHolds n o (n.xid y) (n.word k) is

leaves_once : (n : NameNumbers) (x : Xid) (js : List Work) → LeavesNone n x js (works_without (n.xid x) js)
leaves_once n x js = record {
  own = λ k. others_none n (n.xid x) (n.word k) js;
  others = λ y apart o k h. holds_others n o (n.xid x) (n.xid y) (n.word k) js (not_one n x y apart) h;
}

leaves_twice : (n : NameNumbers) (x : Xid) (js : List Work)
    → LeavesNone n x js (works_without (n.xid x) (works_without (n.xid x) js))
leaves_twice n x js = record {
  own = λ k. others_none n (n.xid x) (n.word k) (works_without (n.xid x) js);
  others = λ y apart o k h. holds_others n o (n.xid x) (n.xid y) (n.word k) (works_without (n.xid x) js)
      (not_one n x y apart)
      (holds_others n o (n.xid x) (n.xid y) (n.word k) js (not_one n x y apart) h);
}

none_left : (n : NameNumbers) (ws : List Write) (x : Xid) (js : List Work) → ws ≡ []
    → ((k : List ℕ) → JudgeHolds n None (n.xid x) (n.word k) js) → HasWritten n ws x js
none_left n ws x js none h k = subst (λ (vs : List Write).
    JudgeHolds n (find (is_of k) vs) (n.xid x) (n.word k) js) (sym none) (h k)

works_left : (n : NameNumbers) (written written' : Xid → List Write) (x : Xid) (js is : List Work)
    → written' x ≡ []
    → ((y : Xid) → same x y ≡ false → written' y ≡ written y) → LeavesNone n x js is
    → ((y : Xid) → HasWritten n (written y) y js) → (y : Xid) → HasWritten n (written' y) y is
works_left n written written' x js is own other left h = at_name n x (λ y. HasWritten n (written' y) y is)
    (none_left n (written' x) x is own left.own)
    (λ y apart k. subst (λ (ws : List Write). JudgeHolds n (find (is_of k) ws) (n.xid y) (n.word k) is)
    (sym (other y apart))
    (left.others y apart (find (is_of k) (written y)) k (h y k)))

rest_off : (a r : Bool) → (a || r) ≡ false → (a ≡ false) × (r ≡ false)
rest_off true r e = absurd (false≢true (sym e))
rest_off false r e = (refl, e)

not_true : (c : Bool) → not c ≡ true → c ≡ false
not_true true h = absurd (false≢true h)
not_true false h = refl

-- what a list of writes leaves under a key is the write that is found
unnamed : (ws : List Write) (k : List ℕ) (b : Option (List ℕ)) → names_key ws k ≡ false
    → left_after ws k b ≡ b
unfolding left_after names_key
unnamed [] k b h = refl
unnamed (w ∷ ws) k b h =
    let off = rest_off (same_bytes w.key k) (names_key ws k) h in
    ap (λ t. left_after ws k (if t then w.value else b)) (same_bytes_is_equality w.key k ∙ off.0)
    ∙ unnamed ws k b off.1

pub unnamed_none : (k : List ℕ) (b : Option (List ℕ)) → left_after [] k b ≡ b
unfolding left_after
unnamed_none k b = refl

pub left_found : (ws : List Write) (k : List ℕ) (b : Option (List ℕ)) → keys_once ws ≡ true
    → left_after ws k b ≡ left_or (find (is_of k) ws) b
unfolding left_after keys_once
left_found [] k b once = refl
left_found (w ∷ ws) k b once =
    let parts = and_parts (not (names_key ws w.key)) (keys_once ws) once in
    ap (λ t. left_after ws k (if t then w.value else b)) (same_bytes_is_equality w.key k)
    ∙ by (same_bytes w.key k) refl (not_true (names_key ws w.key) parts.0) (left_found ws k b parts.1)
  where
    by : (c : Bool) → same_bytes w.key k ≡ c → names_key ws w.key ≡ false
        → left_after ws k b ≡ left_or (find (is_of k) ws) b
        → left_after ws k (if c then w.value else b) ≡ left_or (cond c (Some w) (find (is_of k) ws)) b
    by true q none rest = unnamed ws k w.value (ap (λ j. names_key ws j) (sym (bytes_are w.key k q)) ∙ none)
    by false q none rest = rest

-- the values after a branch committed
values_left : (n : NameNumbers) (ws : List Write) (x : Xid) (k : List ℕ) (b : Option (List ℕ))
    (vs : List JudgedWrite) (js : List Work)
    → HasWritten n ws x js → may_hold (n.word k) (value_number n b) vs ≡ true
    → may_hold (n.word k) (value_number n (left_or (find (is_of k) ws) b))
    (vs ++ committed_works (n.xid x) true js) ≡ true
values_left n ws x k b vs js has held = by (find (is_of k) ws) (has k) where
  by : (o : Option Write) → JudgeHolds n o (n.xid x) (n.word k) js
      → may_hold (n.word k) (value_number n (left_or o b)) (vs ++ committed_works (n.xid x) true js) ≡ true
  by None none = held_append (n.word k) (value_number n b) vs (committed_works (n.xid x) true js)
      ∙ ap (λ us. fold (held_after (n.word k) (value_number n b))
      (may_hold (n.word k) (value_number n b) vs) us)
      (sym (unsure_none (λ y. false) (committed_works (n.xid x) true js) (λ y. refl)))
      ∙ nothing_committed (λ y. false) (n.xid x) (n.word k) (value_number n b) true
      (may_hold (n.word k) (value_number n b) vs) js none ∙ held
  by (Some w) some = held_append (n.word k) (value_number n w.value) vs (committed_works (n.xid x) true js)
      ∙ value_committed (n.xid x) (n.word k) (value_number n w.value)
      (may_hold (n.word k) (value_number n w.value) vs) js
      some.0 some.1

module _ (n : NameNumbers) (value value' : List ℕ → Option (List ℕ)) (written written' : Xid → List Write)
    (s : Sight) (x : Xid)
    (heard : IsHeard n value written s) (own : written' x ≡ [])
    (other : (y : Xid) → same x y ≡ false → written' y ≡ written y) where
  -- what the judge remembers leaves the rest
  remembered_works : (remembered (n.xid x) s).works ≡ s.works
  remembered_works = by (is_prepared_at (n.xid x) s) where
    by : (b : Bool) → (if b then record s {
      lost = others (n.xid x) s.lost ++ was_prepared (n.xid x) s.branches;
      lost_works = works_without (n.xid x) s.lost_works ++ works_of (n.xid x) s.works;
    } else s).works ≡ s.works
    by true = refl
    by false = refl

  remembered_values : (remembered (n.xid x) s).values ≡ s.values
  remembered_values = by (is_prepared_at (n.xid x) s) where
    by : (b : Bool) → (if b then record s {
      lost = others (n.xid x) s.lost ++ was_prepared (n.xid x) s.branches;
      lost_works = works_without (n.xid x) s.lost_works ++ works_of (n.xid x) s.works;
    } else s).values ≡ s.values
    by true = refl
    by false = refl

  -- the branch's writes are committed
  module _ (once : keys_once (written x) ≡ true)
      (applied : (k : List ℕ) → value' k ≡ left_after (written x) k (value k)) where
    applied_values : (k : List ℕ) → may_hold (n.word k) (value_number n (value' k))
        (s.values ++ committed_works (n.xid x) true s.works) ≡ true
    applied_values k = ap (λ o. may_hold (n.word k) (value_number n o)
        (s.values ++ committed_works (n.xid x) true s.works))
        (applied k ∙ left_found (written x) k (value k) once)
        ∙ values_left n (written x) x k (value k) s.values s.works (heard.works x) (heard.committed k)

    pub commit_heard : IsHeard n value' written' (committed (n.xid x) s)
    commit_heard = record {
      committed = λ k. subst (λ (vs : List JudgedWrite). may_hold (n.word k)
          (value_number n (value' k)) vs ≡ true)
          (sym (ap (λ vs. vs ++ committed_works (n.xid x) true (remembered (n.xid x) s).works)
          remembered_values
          ∙ ap (λ js. s.values ++ committed_works (n.xid x) true js) remembered_works))
          (applied_values k);
      works = subst (λ (js : List Work). (y : Xid) → HasWritten n (written' y) y
          (works_without (n.xid x) (works_without (n.xid x) js))) (sym remembered_works)
          (works_left n written written' x s.works
          (works_without (n.xid x) (works_without (n.xid x) s.works)) own other
          (leaves_twice n x s.works) heard.works);
    }

    -- by an operator
    pub publish_heard : (u : Sight) → u.values ≡ s.values ++ committed_works (n.xid x) true s.works
        → u.works ≡ works_without (n.xid x) s.works → IsHeard n value' written' u
    publish_heard u values works = record {
      committed = λ k. ap (λ vs. may_hold (n.word k) (value_number n (value' k)) vs) values
          ∙ applied_values k;
      works = subst (λ (js : List Work). (y : Xid) → HasWritten n (written' y) y js) (sym works)
          (works_left n written written' x s.works (works_without (n.xid x) s.works) own other
          (leaves_once n x s.works)
          heard.works);
    }

  -- they are gone
  pub drop_heard : (u : Sight) → u.values ≡ s.values → u.works ≡ works_without (n.xid x) s.works
      → ((k : List ℕ) → value' k ≡ value k) → IsHeard n value' written' u
  drop_heard u values works v = record {
    committed = λ k. ap (λ vs. may_hold (n.word k) (value_number n (value' k)) vs) values
        ∙ ap (λ o. may_hold (n.word k) (value_number n o) s.values) (v k) ∙ heard.committed k;
    works = subst (λ (js : List Work). (y : Xid) → HasWritten n (written' y) y js) (sym works)
        (works_left n written written' x s.works (works_without (n.xid x) s.works) own other
        (leaves_once n x s.works)
        heard.works);
  }

  -- the same, if the branch was not remembered
  pub roll_heard : ((k : List ℕ) → value' k ≡ value k) → IsHeard n value' written' (rolled (n.xid x) s)
  roll_heard v = drop_heard (rolled (n.xid x) s) remembered_values
      (ap (λ js. works_without (n.xid x) js) remembered_works) v

-- What a crash may leave after it.

module _ (n : NameNumbers) (value : List ℕ → Option (List ℕ)) (written promised : Xid → List Write)
    (back back' : Xid → Bool)
    (s : Sight) (x : Xid) (leave : MayLeave n value promised back s)
    (others_back : (y : Xid) → same x y ≡ false → back' y ≡ back y)
  where
    more_back : back' x ≡ true → (y : Xid) → back y ≡ true → back' y ≡ true
    more_back here y e = by (same x y) refl where
      by : (b : Bool) → same x y ≡ b → back' y ≡ true
      by true q = subst (λ (z : Xid). back' z ≡ true) (same_is x y q) here
      by false q = others_back y q ∙ e

    -- a branch leaves S3, and a crash may bring it back
    lost_works_left : is_prepared_at (n.xid x) s ≡ true → promised x ≡ written x → ((k : List ℕ)
        → JudgeHolds n (find (is_of k) (written x)) (n.xid x) (n.word k) s.works) → (y : Xid) → back' y ≡ true
        → HasWritten n (promised y) y (remembered (n.xid x) s).lost_works
    lost_works_left prepared is has y e k =
        subst (λ (b : Bool). JudgeHolds n (find (is_of k) (promised y)) (n.xid y) (n.word k)
        (if b then record s {
          lost = others (n.xid x) s.lost ++ was_prepared (n.xid x) s.branches;
          lost_works = works_without (n.xid x) s.lost_works ++ works_of (n.xid x) s.works;
        } else s).lost_works) (sym prepared) (by (same x y) refl)
      where
        by : (b : Bool) → same x y ≡ b → JudgeHolds n (find (is_of k) (promised y)) (n.xid y) (n.word k)
            (works_without (n.xid x) s.lost_works ++ works_of (n.xid x) s.works)
        by true q = subst (λ (z : Xid). JudgeHolds n (find (is_of k) (promised z)) (n.xid z) (n.word k)
            (works_without (n.xid x) s.lost_works ++ works_of (n.xid x) s.works)) (same_is x y q)
            (subst (λ (ws : List Write). JudgeHolds n (find (is_of k) ws) (n.xid x) (n.word k)
            (works_without (n.xid x) s.lost_works ++ works_of (n.xid x) s.works)) (sym is)
            (holds_after n (find (is_of k) (written x)) (n.xid x) (n.word k)
            (works_without (n.xid x) s.lost_works)
            (works_of (n.xid x) s.works) (others_none n (n.xid x) (n.word k) s.lost_works)
            (holds_own n (find (is_of k) (written x)) (n.xid x) (n.word k) s.works (has k))))
        by false q = holds_before n (find (is_of k) (promised y)) (n.xid y) (n.word k)
            (works_without (n.xid x) s.lost_works)
            (works_of (n.xid x) s.works)
            (holds_others n (find (is_of k) (promised y)) (n.xid x) (n.xid y) (n.word k) s.lost_works
            (not_one n x y q)
            (leave.works y (sym (others_back y q) ∙ e) k))
            (own_none n (n.xid x) (n.xid y) (n.word k) s.works (not_one n x y q))

    remembered_same : (b : Bool) → (if b then record s {
      lost = others (n.xid x) s.lost ++ was_prepared (n.xid x) s.branches;
      lost_works = works_without (n.xid x) s.lost_works ++ works_of (n.xid x) s.works;
    } else s).values ≡ s.values
    remembered_same true = refl
    remembered_same false = refl

    remembered_wrote : (b : Bool) → (if b then record s {
      lost = others (n.xid x) s.lost ++ was_prepared (n.xid x) s.branches;
      lost_works = works_without (n.xid x) s.lost_works ++ works_of (n.xid x) s.works;
    } else s).works ≡ s.works
    remembered_wrote true = refl
    remembered_wrote false = refl

    pub commit_leave : is_prepared_at (n.xid x) s ≡ true → promised x ≡ written x
        → HasWritten n (written x) x s.works
        → back' x ≡ true → MayLeave n value promised back' (committed (n.xid x) s)
    commit_leave prepared is has here = record {
      committed = λ g all k. ap (λ vs. may_hold (n.word k) (value_number n (value k))
          (unsure g (vs ++ committed_works (n.xid x) true (remembered (n.xid x) s).works)))
          (remembered_same (is_prepared_at (n.xid x) s))
          ∙ ap (λ js. may_hold (n.word k) (value_number n (value k))
          (unsure g (s.values ++ committed_works (n.xid x) true js)))
          (remembered_wrote (is_prepared_at (n.xid x) s))
          ∙ unsure_held_append g (n.word k) (value_number n (value k)) s.values
          (committed_works (n.xid x) true s.works)
          ∙ ap (λ c. fold (held_after (n.word k) (value_number n (value k))) c
          (unsure g (committed_works (n.xid x) true s.works)))
          (leave.committed g (λ y e. all y (more_back here y e)) k)
          ∙ doubtful_commit g (n.xid x) (n.word k) (value_number n (value k)) true s.works (all x here);
      works = lost_works_left prepared is has;
    }

    pub roll_leave : is_prepared_at (n.xid x) s ≡ true → promised x ≡ written x
        → HasWritten n (written x) x s.works
        → back' x ≡ true → MayLeave n value promised back' (rolled (n.xid x) s)
    roll_leave prepared is has here = record {
      committed = λ g all k. ap (λ vs. may_hold (n.word k) (value_number n (value k)) (unsure g vs))
          (remembered_same (is_prepared_at (n.xid x) s))
          ∙ leave.committed g (λ y e. all y (more_back here y e)) k;
      works = lost_works_left prepared is has;
    }

-- a branch that has written nothing, and was not prepared, commits: a crash may leave what it might before
pub silent_leave : (n : NameNumbers) (value : List ℕ → Option (List ℕ)) (promised : Xid → List Write)
    (back : Xid → Bool)
    (s : Sight) (x : Xid) → is_prepared_at (n.xid x) s ≡ false
    → ((k : List ℕ) → JudgeHolds n None (n.xid x) (n.word k) s.works) → MayLeave n value promised back s
    → MayLeave n value promised back (committed (n.xid x) s)
silent_leave n value promised back s x off none leave = record {
  committed = λ g all k. ap (λ (b : Bool). may_hold (n.word k) (value_number n (value k))
      (unsure g ((was b).values ++ committed_works (n.xid x) true (was b).works))) off
      ∙ unsure_held_append g (n.word k) (value_number n (value k)) s.values
      (committed_works (n.xid x) true s.works)
      ∙ nothing_committed g (n.xid x) (n.word k) (value_number n (value k)) true
      (may_hold (n.word k) (value_number n (value k)) (unsure g s.values)) s.works (none k)
      ∙ leave.committed g all k;
  works = λ y e k. subst (λ (b : Bool). JudgeHolds n (find (is_of k) (promised y)) (n.xid y) (n.word k)
      (was b).lost_works) (sym off)
      (leave.works y e k);
} where
  was : Bool → Sight
  was b = if b then record s {
    lost = others (n.xid x) s.lost ++ was_prepared (n.xid x) s.branches;
    lost_works = works_without (n.xid x) s.lost_works ++ works_of (n.xid x) s.works;
  } else s
