-- The table of holders and the lists of keys, as the maps hold them.
use Rattle.std.proofs.Common.{◌≡◌, ℕ, Bool, true, false, cond, Option, None, Some, unwrap_or, List, [], ◌∷◌, ◌++◌, subst, refl, sym, ap, ◌∙◌, arith, rules, inl, inr, position, slice_get, option_map}
use Rattle.std.proofs.lemmas.Grind.{common_steps}
use Rattle.std.proofs.lemmas.List.Folds.{list_any-append}
use Rattle.std.specs.Global.{Vec}
use Rattle.std.specs.Map.{keys_of as map_keys, lookup}
use Rattle.std.proofs.lemmas.Option.{slice_get-map}
use Rattle.indexmap.specs.IndexMap.{IndexMap, Updates}
use Rattle.indexmap.proofs.MapLemmas.{Found-position, Missing-position}
use Rattle.xa_xid.specs.declared.xid.Xid.{Xid}
use Rattle.key_lists.specs.declared.holders.Holder.{Holder}
use Rattle.key_lists.specs.declared.holders.Mode.{Mode}
use Rattle.key_lists.specs.Tables.{Becomes, same_key, table_of}
use Rattle.key_lists.specs.Holders.{blocked_by, given, holds, keeps_rule, same, without}
use Rattle.kv_locks.specs.Locks.{IsLocks, KeepsKeys, LockTable, ReleasesLocks, holders_of, keys_in, keys_of, names_key}
use Rattle.key_lists.proofs.Holding.{same_is, rule_given, holds_given, rule_without, holds_without, without_idle, without_itself, without_twice}

-- nothing is held, and nothing is listed
pub kept_nothing : (es : List (Vec ℕ × Vec Holder)) (held : List (Xid × Vec (Vec ℕ))) → es ≡ [] → held ≡ []
    → IsLocks (table_of es) held
unfolding keeps_rule
kept_nothing es held none free = subst (λ fs. IsLocks (table_of fs) held) (sym none)
    (subst (λ ks. IsLocks [] ks) (sym free) (record {
      rule = λ k. refl;
      listed = λ x k h. h;
    }))

-- the list of a branch gets more keys
pub keeps_keys : (es fs : List (Xid × Vec (Vec ℕ))) (x : Xid) (ls : Vec (Vec ℕ)) (ks : List (Vec ℕ))
    → ((y : Xid) → lookup (same y) fs ≡ cond (same x y) (Some ls) (lookup (same y) es))
    → ls.items ≡ keys_of es x ++ ks → KeepsKeys es fs
keeps_keys es fs x ls ks writes pushed y l named = by_test (same x y) refl
  where
    by_test : (b : Bool) → same x y ≡ b → names_key (keys_of fs y) l ≡ true
    by_test true e =
        let here : keys_of fs y ≡ ls.items = ap keys_in
        (writes y ∙ ap (λ b. cond b (Some ls) (lookup (same y) es)) e) in
        let was : keys_of es x ≡ keys_of es y = ap (keys_of es) (same_is x y e) in
        ap (λ js. names_key js l) (here ∙ pushed ∙ ap (λ js. js ++ ks) was)
        ∙ grind (arith, common_steps, list_any-append)
    by_test false e =
        ap (λ js. names_key js l) (ap keys_in (writes y ∙ ap (λ b. cond b (Some ls) (lookup (same y) es)) e))
        ∙ named

-- the keys of a list that is there, or of a new one
pub keys_or_none : (o : Option (Vec (Vec ℕ))) (d : Vec (Vec ℕ)) → d.items ≡ []
    → (unwrap_or o d).items ≡ keys_in o
keys_or_none None d empty = empty
keys_or_none (Some v) d empty = refl

-- a key that it gets is listed
pub key_listed : (fs : List (Xid × Vec (Vec ℕ))) (x : Xid) (ls : Vec (Vec ℕ))
    (ks : List (Vec ℕ)) (k : Vec ℕ) (l : List ℕ)
    → lookup (same x) fs ≡ Some ls → ls.items ≡ ks ++ k ∷ [] → k.items ≡ l → names_key (keys_of fs x) l ≡ true
key_listed fs x ls ks k l here pushed is =
    let itself : same_key k.items l ≡ true = search rules in
    ap (λ js. names_key js l) (ap keys_in here ∙ pushed) ∙ grind (arith, common_steps, list_any-append)

-- a lock that nobody is in the way of keeps the rule, and its key is listed
pub kept_given : (t u : LockTable) (held more : List (Xid × Vec (Vec ℕ))) (x : Xid) (k : List ℕ) (m : Mode)
    → IsLocks t held → blocked_by (holders_of t k) x m ≡ None → Becomes t u k (given (holders_of t k) x m)
    → ((y : Xid) (l : List ℕ) → names_key (keys_of held y) l ≡ true → names_key (keys_of more y) l ≡ true)
    → names_key (keys_of more x) k ≡ true
    → IsLocks u more
kept_given t u held more x k m kept free made more_names named = record {
  rule = λ l. ruled l (same_key k l) refl;
  listed = λ y l h. listed y l h (same_key k l) refl;
}
  where
    ruled : (l : List ℕ) (b : Bool) → same_key k l ≡ b → keeps_rule (holders_of u l) ≡ true
    ruled l true e =
        let one : k ≡ l = search rules in
        subst (λ j. keeps_rule (holders_of u j) ≡ true) one
        (ap keeps_rule made.own ∙ rule_given (holders_of t k) x m (kept.rule k) free)
    ruled l false e = ap keeps_rule (made.others l e) ∙ kept.rule l

    listed : (y : Xid) (l : List ℕ) → holds (holders_of u l) y ≡ true → (b : Bool) → same_key k l ≡ b
        → names_key (keys_of more y) l ≡ true
    listed y l h true e =
        let one : k ≡ l = search rules in
        let held_there : holds (given (holders_of t k) x m) y ≡ true = ap (λ hs. holds hs y) (sym made.own)
        ∙ ap (λ j. holds (holders_of u j) y) one ∙ h in
        elim (holds_given (holders_of t k) x y m held_there) [
          | inl before ↦ more_names y l (kept.listed y l
              (ap (λ j. holds (holders_of t j) y) (sym one) ∙ before))
          | inr this ↦ ap (λ z. names_key (keys_of more z) l) (sym (same_is x y this))
              ∙ ap (names_key (keys_of more x)) (sym one) ∙ named
        ]
    listed y l h false e = more_names y l (kept.listed y l
        (ap (λ hs. holds hs y) (sym (made.others l e)) ∙ h))

-- a release keeps the rule, and the keys of the others stay listed
pub kept_released : (t u : LockTable) (held rest : List (Xid × Vec (Vec ℕ))) (x : Xid)
    → IsLocks t held → ReleasesLocks t u x
    → ((y : Xid) → same x y ≡ false → keys_of rest y ≡ keys_of held y)
    → IsLocks u rest
kept_released t u held rest x kept released others = record {
  rule = λ k. ap keeps_rule (released.each k) ∙ rule_without (holders_of t k) x (kept.rule k);
  listed = λ y k h. listed y k (ap (λ hs. holds hs y) (sym (released.each k)) ∙ h) (same x y) refl;
}
  where
    listed : (y : Xid) (k : List ℕ) → holds (without (holders_of t k) x) y ≡ true → (b : Bool) → same x y ≡ b
        → names_key (keys_of rest y) k ≡ true
    listed y k h true e =
        let one : x ≡ y = same_is x y e in
        let gone : holds (without (holders_of t k) x) y ≡ false =
        ap (λ z. holds (without (holders_of t k) x) z) (sym one) ∙ without_itself (holders_of t k) x in
        absurd (cc)
    listed y k h false e = ap (λ ks. names_key ks k) (others y e)
        ∙ kept.listed y k (holds_without (holders_of t k) x y h)

-- while a branch's locks are released: the others hold what they held, and what it still holds is among
-- these keys
pub record IsReleasing (t u : LockTable) (rest : List (Vec ℕ)) (x : Xid) : Type 0 where
  pub others : (k : List ℕ) → without (holders_of u k) x ≡ without (holders_of t k) x
  pub left : (k : List ℕ) → holds (holders_of u k) x ≡ true → names_key rest k ≡ true

pub releasing_begins : (t : LockTable) (ks : List (Vec ℕ)) (x : Xid)
    → ((k : List ℕ) → holds (holders_of t k) x ≡ true → names_key ks k ≡ true)
    → IsReleasing t t ks x
releasing_begins t ks x all = record { others = λ k. refl; left = all }

pub releasing_goes_on : (t u v : LockTable) (k : Vec ℕ) (rest : List (Vec ℕ)) (x : Xid)
    → IsReleasing t u (k ∷ rest) x
    → Becomes u v k.items (without (holders_of u k.items) x) → IsReleasing t v rest x
releasing_goes_on t u v k rest x so_far out = record {
  others = λ l. others l (same_key k.items l) refl;
  left = λ l h. left l h (same_key k.items l) refl;
}
  where
    others : (l : List ℕ) (b : Bool) → same_key k.items l ≡ b
        → without (holders_of v l) x ≡ without (holders_of t l) x
    others l true e =
        let one : k.items ≡ l = search rules in
        subst (λ j. without (holders_of v j) x ≡ without (holders_of t j) x) one
        (ap (λ hs. without hs x) out.own ∙ without_twice (holders_of u k.items) x ∙ so_far.others k.items)
    others l false e = ap (λ hs. without hs x) (out.others l e) ∙ so_far.others l

    left : (l : List ℕ) → holds (holders_of v l) x ≡ true → (b : Bool) → same_key k.items l ≡ b
        → names_key rest l ≡ true
    left l h true e =
        let one : k.items ≡ l = search rules in
        let held : holds (without (holders_of u k.items) x) x ≡ true = ap (λ hs. holds hs x) (sym out.own)
        ∙ ap (λ j. holds (holders_of v j) x) one ∙ h in
        let gone : holds (without (holders_of u k.items) x) x ≡ false =
        without_itself (holders_of u k.items) x in
        absurd (cc)
    left l h false e =
        let named : names_key (k ∷ rest) l ≡ true =
        so_far.left l (ap (λ hs. holds hs x) (sym (out.others l e)) ∙ h) in
        grind (arith, common_steps)

pub releasing_ends : (t u : LockTable) (x : Xid) → IsReleasing t u [] x → ReleasesLocks t u x
releasing_ends t u x so_far = record {
  each = λ k. sym (without_idle (holders_of u k) x (idle k (holds (holders_of u k) x) refl))
      ∙ so_far.others k;
}
  where
    idle : (k : List ℕ) (b : Bool) → holds (holders_of u k) x ≡ b → holds (holders_of u k) x ≡ false
    idle k true e = absurd (let never : false ≡ true = so_far.left k e in cc)
    idle k false e = e

-- nothing is listed for a branch that has no place
pub no_keys : (held : List (Xid × Vec (Vec ℕ))) (x : Xid) → position (same x) (map_keys held) ≡ None
    → keys_of held x ≡ []
no_keys held x none = ap keys_in (Missing-position (same x) held none).value

-- the keys of a branch are those at its place
pub keys_at : (held : List (Xid × Vec (Vec ℕ))) (x : Xid) (i : ℕ) (e : Xid × Vec (Vec ℕ))
    → position (same x) (map_keys held) ≡ Some i → slice_get held i ≡ Some e → keys_of held x ≡ e.1.items
keys_at held x i e at is = ap keys_in ((Found-position (same x) held i at).value
    ∙ slice_get-map (λ (q : Xid × Vec (Vec ℕ)). q.1) held i
    ∙ ap (option_map (λ (q : Xid × Vec (Vec ℕ)). q.1)) is)

-- the list of a branch is taken out, and no other
pub other_keys : {S : Type 0} (m n : IndexMap Xid (Vec (Vec ℕ)) S) (x : Xid) → Updates same m n x None
    → (y : Xid) → same x y ≡ false → keys_of n.entries y ≡ keys_of m.entries y
other_keys m n x out y apart = ap keys_in (out.2 y apart)

-- nothing is listed for the branch, so it holds nothing
pub released_nothing : (t : LockTable) (held : List (Xid × Vec (Vec ℕ))) (x : Xid) → IsLocks t held
    → keys_of held x ≡ [] → ReleasesLocks t t x
released_nothing t held x kept none = releasing_ends t t x (record {
  others = λ k. refl;
  left = λ k h. ap (λ ks. names_key ks k) (sym none) ∙ kept.listed x k h;
})
