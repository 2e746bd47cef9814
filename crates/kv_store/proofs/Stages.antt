-- Writes are staged, or taken back.
use Rattle.std.proofs.Common.{◌≡◌, ℕ, ◌+◌, Bool, true, false, ◌||◌, cond, None, List, [], ◌∷◌, ◌++◌, subst, refl, sym, ap, ◌∙◌, arith, rules}
use Rattle.std.proofs.lemmas.Grind.{common_steps}
use Rattle.std.proofs.lemmas.List.Folds.{list_any-append}
use Rattle.protocol.specs.declared.records.Write.{Write}
use Rattle.key_lists.specs.Tables.{Becomes, SameLists, list_at, same_key}
use Rattle.kv_store.specs.declared.version.Version.{Version}
use Rattle.kv_store.specs.Versions.{Adds, AddsFront, AppliesCommit, IsVersions, Publishes, SameData, Sets, Stages, TakesBack, VersionTable, made, names_key, none_above, rises_from, up_to, value_at, value_by, written}
use Rattle.kv_store.proofs.Values.{made_go, made_none, none_above_later, none_above_made, rises_made, value_behind, value_front, value_later, value_made}

abbrev pub Table : Type 0
Table = List (List ℕ × List Version)

made_append : (n : ℕ) (us ws : List Write) (k : List ℕ) → made n (us ++ ws) k ≡ made n us k ++ made n ws k
unfolding made
made_append n [] ws k = refl
made_append n (u ∷ us) ws k = grind (arith, common_steps, made_append n us ws k)

append_one : {A : Type 0} (xs : List A) (y : A) (zs : List A) → xs ++ (y ∷ zs) ≡ (xs ++ y ∷ []) ++ zs
append_one [] y zs = refl
append_one (x ∷ xs) y zs = ap (λ ys. x ∷ ys) (append_one xs y zs)

append_three : {A : Type 0} (xs ys zs : List A) → (xs ++ ys) ++ zs ≡ xs ++ (ys ++ zs)
append_three [] ys zs = refl
append_three (x ∷ xs) ys zs = ap (λ us. x ∷ us) (append_three xs ys zs)

append_none : {A : Type 0} (xs : List A) → xs ++ [] ≡ xs
append_none [] = refl
append_none (x ∷ xs) = ap (λ ys. x ∷ ys) (append_none xs)

-- while versions are added: those of a front of the writes, and these are left
pub record IsAdding (t u : Table) (n : ℕ) (ws rest : List Write) : Type 0 where
  pub done : List Write
  pub front : ws ≡ done ++ rest
  pub adds : Adds t u n done

pub adding_begins : (t : Table) (n : ℕ) (ws : List Write) → IsAdding t t n ws ws
unfolding made
adding_begins t n ws = record { done = []; front = refl; adds = λ k. sym (append_none (list_at t k)) }

pub adding_goes_on : (t u v : Table) (n : ℕ) (ws : List Write) (w : Write) (rest : List Write)
    → IsAdding t u n ws (w ∷ rest)
    → Becomes u v w.key (list_at u w.key ++ record { count = n; value = w.value }
    ∷ []) → IsAdding t v n ws rest
unfolding made
adding_goes_on t u v n ws w rest so_far one = record {
  done = so_far.done ++ w ∷ [];
  front = so_far.front ∙ append_one so_far.done w rest;
  adds = λ k. added k (same_key w.key k) refl
      ∙ ap (λ vs. list_at t k ++ vs) (sym (made_append n so_far.done (w ∷ []) k));
}
  where
    added : (k : List ℕ) (b : Bool) → same_key w.key k ≡ b
        → list_at v k ≡ list_at t k ++ (made n so_far.done k ++ made n (w ∷ []) k)
    added k true e =
        let same : w.key ≡ k = search rules in
        let one_more : made n (w ∷ []) k ≡ record { count = n; value = w.value } ∷ [] =
        ap (λ b. cond b (record { count = n; value = w.value } ∷ []) []) e in
        let at_key : list_at v k ≡ list_at u k ++ record { count = n; value = w.value } ∷ [] =
        subst (λ j. list_at v j ≡ list_at u j ++ record { count = n; value = w.value } ∷ []) same one.own in
        at_key ∙ ap (λ vs. vs ++ record { count = n; value = w.value } ∷ []) (so_far.adds k)
        ∙ append_three (list_at t k) (made n so_far.done k) (record { count = n; value = w.value } ∷ [])
        ∙ ap (λ vs. list_at t k ++ (made n so_far.done k ++ vs)) (sym one_more)
    added k false e =
        let none : made n (w ∷ []) k ≡ [] = ap
        (λ b. cond b (record { count = n; value = w.value } ∷ []) []) e in
        one.others k e ∙ so_far.adds k ∙ ap (λ vs. list_at t k ++ vs)
        (sym (append_none (made n so_far.done k)))
        ∙ ap (λ vs. list_at t k ++ (made n so_far.done k ++ vs)) (sym none)

pub adding_stops : (t u v : Table) (n : ℕ) (ws rest : List Write) → IsAdding t u n ws rest → SameLists u v
    → AddsFront t v n ws
adding_stops t u v n ws rest so_far stays = record {
  done = so_far.done;
  behind = rest;
  front = so_far.front;
  adds = λ k. stays k ∙ so_far.adds k;
}

pub adding_ends : (t u : Table) (n : ℕ) (ws : List Write) → IsAdding t u n ws [] → Adds t u n ws
adding_ends t u n ws so_far k =
    let all : ws ≡ so_far.done = so_far.front ∙ append_none so_far.done in
    so_far.adds k ∙ ap (λ us. list_at t k ++ made n us k) (sym all)

-- while versions are taken back: those of a front of the writes, and these are left
pub record IsTakingBack (t u : Table) (n : ℕ) (ws rest : List Write) : Type 0 where
  pub done : List Write
  pub front : ws ≡ done ++ rest
  pub takes : TakesBack t u n done

names_append : (us : List Write) (w : Write) (k : List ℕ)
    → names_key (us ++ w ∷ []) k ≡ (names_key us k || same_key w.key k)
names_append us w k = grind (arith, common_steps, list_any-append)

up_to_twice : (n : ℕ) (vs : List Version) → up_to n (up_to n vs) ≡ up_to n vs
up_to_twice n [] = refl
up_to_twice n (v ∷ vs) = grind (arith, common_steps, up_to_twice n vs)

pub taking_begins : (t : Table) (n : ℕ) (ws : List Write) → IsTakingBack t t n ws ws
taking_begins t n ws = record {
  done = [];
  front = refl;
  takes = record { own = λ k no. absurd (cc); others = λ k yes. refl };
}

pub taking_goes_on : (t u v : Table) (n : ℕ) (ws : List Write) (w : Write) (rest : List Write)
    → IsTakingBack t u n ws (w ∷ rest)
    → Becomes u v w.key (up_to n (list_at u w.key)) → IsTakingBack t v n ws rest
taking_goes_on t u v n ws w rest so_far one = record {
  done = so_far.done ++ w ∷ [];
  front = so_far.front ∙ append_one so_far.done w rest;
  takes = record {
    own = λ k named. own k (same_key w.key k) refl (sym (names_append so_far.done w k) ∙ named);
    others = λ k other. others k (same_key w.key k) refl (sym (names_append so_far.done w k) ∙ other);
  };
}
  where
    taken : (k : List ℕ) → same_key w.key k ≡ true → list_at v k ≡ up_to n (list_at u k)
    taken k e = let same : w.key ≡ k = search rules in subst
        (λ j. list_at v j ≡ up_to n (list_at u j)) same one.own

    before : (k : List ℕ) (b : Bool) → names_key so_far.done k ≡ b
        → up_to n (list_at u k) ≡ up_to n (list_at t k)
    before k true e = ap (up_to n) (so_far.takes.own k e) ∙ up_to_twice n (list_at t k)
    before k false e = ap (up_to n) (so_far.takes.others k e)

    own : (k : List ℕ) (b : Bool) → same_key w.key k ≡ b
        → (names_key so_far.done k || same_key w.key k) ≡ true → list_at v k ≡ up_to n (list_at t k)
    own k true e named = taken k e ∙ before k (names_key so_far.done k) refl
    own k false e named = one.others k e ∙ so_far.takes.own k (grind (arith, common_steps))

    others : (k : List ℕ) (b : Bool) → same_key w.key k ≡ b
        → (names_key so_far.done k || same_key w.key k) ≡ false → list_at v k ≡ list_at t k
    others k true e other = absurd (grind (arith, common_steps))
    others k false e other = one.others k e ∙ so_far.takes.others k (grind (arith, common_steps))

pub taking_ends : (t u : Table) (n : ℕ) (ws : List Write) → IsTakingBack t u n ws [] → TakesBack t u n ws
taking_ends t u n ws so_far = subst (λ us. TakesBack t u n us)
    (sym (so_far.front ∙ append_none so_far.done)) so_far.takes

-- what a front of the writes added is taken back, so that each key has what it had
pub taken_back : (t u v : Table) (n : ℕ) (ws : List Write)
    → ((k : List ℕ) → none_above n (list_at t k) ≡ true)
    → AddsFront t u (n + 1) ws → TakesBack u v n ws → SameLists t v
taken_back t u v n ws settled some back k = by_test (names_key ws k) refl
  where
    none_done : names_key ws k ≡ false → names_key some.done k ≡ false
    none_done e =
        let parts : names_key (some.done ++ some.behind) k ≡ false =
        ap (λ us. names_key us k) (sym some.front) ∙ e in
        grind (arith, common_steps, list_any-append)

    by_test : (b : Bool) → names_key ws k ≡ b → list_at v k ≡ list_at t k
    by_test true e = back.own k e ∙ ap (up_to n) (some.adds k)
        ∙ made_go n (list_at t k) some.done k (settled k)
    by_test false e = back.others k e ∙ some.adds k ∙ ap (λ vs. list_at t k ++ vs)
        (made_none (n + 1) some.done k (none_done e)) ∙ append_none (list_at t k)

pub kept_same : (base n : ℕ) (t u : Table) → IsVersions base n false t → SameLists t u
    → IsVersions base n false u
kept_same base n t u kept stays = record {
  starts = kept.starts;
  rises = λ k. ap (λ vs. rises_from 0 vs) (stays k) ∙ kept.rises k;
  settled = λ unstaged k. ap (none_above n) (stays k) ∙ kept.settled unstaged k;
  next = λ k. ap (none_above (n + 1)) (stays k) ∙ kept.next k;
}

pub kept_staged : (base n : ℕ) (t u : Table) (ws : List Write) → IsVersions base n false t
    → Adds t u (n + 1) ws
    → IsVersions base n true u
kept_staged base n t u ws kept adds = record {
  starts = kept.starts;
  rises = λ k. ap (λ vs. rises_from 0 vs) (adds k)
      ∙ rises_made (n + 1) 0 (list_at t k) ws k (kept.rises k) (kept.next k) (omega arith);
  settled = λ no k. absurd (cc);
  next = λ k. ap (none_above (n + 1)) (adds k) ∙ none_above_made (n + 1) (list_at t k) ws k (kept.next k);
}

pub stages : (s s' : VersionTable) (ws : List Write) → IsVersions s.base s.count false s.versions
    → s'.base ≡ s.base → s'.count ≡ s.count → s'.is_staged ≡ true
    → Adds s.versions s'.versions (s.count + 1) ws → Stages s s' ws
stages s s' ws kept base count staged adds = record {
  base = base;
  count = count;
  is_staged = staged;
  before = λ m k le. ap (value_by m None) (adds k)
      ∙ value_front (s.count + 1) None (list_at s.versions k) ws k m (omega arith);
  next = λ k. ap (value_by (s.count + 1) None) (adds k)
      ∙ value_behind (s.count + 1) None (list_at s.versions k) (made (s.count + 1) ws k) (kept.next k)
      ∙ value_made (s.count + 1) (value_by (s.count + 1) None (list_at s.versions k)) ws k
      ∙ ap (written ws k) (value_later s.count (s.count + 1) None (list_at s.versions k)
      (kept.settled refl k) (omega arith));
}

pub same_data : (s s' : VersionTable) → s'.base ≡ s.base → s'.count ≡ s.count → s'.is_staged ≡ s.is_staged
    → SameLists s.versions s'.versions → SameData s s'
same_data s s' base count staged stays = record {
  base = base;
  count = count;
  is_staged = staged;
  values = λ n k. ap (value_by n None) (stays k);
}

pub applies : (s t u : VersionTable) (ws : List Write) → Stages s t ws → Publishes t u → AppliesCommit s u ws
applies s t u ws staged seen = record {
  base = seen.base ∙ staged.base;
  count = seen.count ∙ ap (λ n. n + 1) staged.count;
  is_staged = seen.is_staged;
  before = λ n k le. seen.values n k ∙ staged.before n k le;
  next = λ k. ap (λ n. value_at u n k) (seen.count ∙ ap (λ n. n + 1) staged.count)
      ∙ seen.values (s.count + 1) k ∙ staged.next k;
}

-- a list that becomes what it was
pub same_lists : (t u : Table) (k : List ℕ) → Becomes t u k (list_at t k) → SameLists t u
same_lists t u k one l = by_test (same_key k l) refl
  where
    by_test : (b : Bool) → same_key k l ≡ b → list_at u l ≡ list_at t l
    by_test true e = let same : k ≡ l = search rules in subst (λ j. list_at u j ≡ list_at t j) same one.own
    by_test false e = one.others l e

-- a table that has been filled from nothing
pub kept_filled : (n : ℕ) (t u : Table) (ws : List Write) → ((k : List ℕ) → list_at t k ≡ []) → Adds t u n ws
    → IsVersions n n false u
unfolding rises_from
kept_filled n t u ws nothing adds = record {
  starts = omega arith;
  rises = λ k. ap (rises_from 0) (filled k) ∙ rises_made n 0 [] ws k refl refl (omega arith);
  settled = λ unstaged k. all k;
  next = λ k. none_above_later n (list_at u k) (all k);
}
  where
    filled : (k : List ℕ) → list_at u k ≡ made n ws k
    filled k = adds k ∙ ap (λ vs. vs ++ made n ws k) (nothing k)

    all : (k : List ℕ) → none_above n (list_at u k) ≡ true
    all k = ap (none_above n) (filled k) ∙ none_above_made n [] ws k refl

-- a key is set after the last commit
pub adds_one : (t u : Table) (n : ℕ) (w : Write)
    → Becomes t u w.key (list_at t w.key ++ record { count = n; value = w.value } ∷ []) → Adds t u n (w ∷ [])
adds_one t u n w one =
    adding_ends t u n (w ∷ []) (adding_goes_on t t u n (w ∷ []) w [] (adding_begins t n (w ∷ [])) one)

pub kept_set : (base n : ℕ) (t u : Table) (ws : List Write) → IsVersions base n false t
    → Adds t u n ws → IsVersions base n false u
kept_set base n t u ws kept adds = record {
  starts = kept.starts;
  rises = λ k. ap (rises_from 0) (adds k) ∙ rises_made n 0 (list_at t k) ws k (kept.rises k)
      (kept.settled refl k) (omega arith);
  settled = λ unstaged k. all k;
  next = λ k. none_above_later n (list_at u k) (all k);
}
  where
    all : (k : List ℕ) → none_above n (list_at u k) ≡ true
    all k = ap (none_above n) (adds k) ∙ none_above_made n (list_at t k) ws k (kept.settled refl k)

pub sets : (s s' : VersionTable) (w : Write) → IsVersions s.base s.count false s.versions
    → s'.base ≡ s.base → s'.count ≡ s.count → s'.is_staged ≡ false
    → Adds s.versions s'.versions s.count (w ∷ []) → Sets s s' w
sets s s' w kept base count unstaged adds = record {
  base = base;
  count = count;
  is_staged = unstaged;
  before = λ m k below. ap (value_by m None) (adds k)
      ∙ value_front s.count None (list_at s.versions k) (w ∷ []) k m below;
  now = λ k. ap (value_by s.count None) (adds k)
      ∙ value_behind s.count None (list_at s.versions k) (made s.count (w ∷ []) k) (kept.settled refl k)
      ∙ value_made s.count (value_by s.count None (list_at s.versions k)) (w ∷ []) k;
}
