-- What the table of a log says of a name is what the records of the name say.
use Rattle.std.proofs.Common.{◌≡◌, ◌≤◌, ◌<◌, ℕ, suc, Bool, true, false, not, ◌&&◌, ◌||◌, nat_le, if◌then◌else◌, List, [], ◌∷◌, Option, Some, None, unwrap_or, fold, refl, sym, ap, subst, ◌∙◌, arith}
use Rattle.std.proofs.lemmas.Bool.Decides.{nat_tests}
use Rattle.std.specs.List.{list_any}
use Rattle.std.specs.Map.{lookup}
use Rattle.indexmap.specs.IndexMap.{insert_entry}
use Rattle.xa_xid.specs.declared.xid.Xid.{Xid}
use Rattle.protocol.specs.declared.records.LogRecord.{LogRecord}
use Rattle.protocol.specs.declared.records.Record.{Record}
use Rattle.log_rules.specs.declared.trim.lives.Life.{Life}
use Rattle.log_rules.specs.trim.Tables.{SaidTable, is_prepared, life_after, life_in, lives_from, log_name, no_life, noted, noted_by, said_after, same}
use Rattle.log_rules.specs.trim.Trims.{is_name, is_of, prepares, said_behind}
use Rattle.log_rules.proofs.trim.Names.{same_by_parts}

-- A name that is noted is found.

met_once : (b : Bool) (v w o : Option Life) → (if b then v else o) ≡ (if b then v else (if b then w else o))
met_once true v w o = refl
met_once false v w o = refl

in_turn : (a b : Bool) (v w o : Option Life) → (a ≡ true → b ≡ true → ⊥)
    → (if b then w else (if a then v else o)) ≡ (if a then v else (if b then w else o))
in_turn true true v w o h = absurd (h refl refl)
in_turn true false v w o h = refl
in_turn false true v w o h = refl
in_turn false false v w o h = refl

inserted_by : (x y : Xid) (v : Life) (e : Xid × Life) (t more : SaidTable) (b : Bool) → same y e.0 ≡ b
    → lookup (same x) more ≡ (if same x y then Some v else lookup (same x) t)
    → lookup (same x) (if b then (e.0, v) ∷ t else e ∷ more)
    ≡ (if same x y then Some v else lookup (same x) (e ∷ t))
inserted_by x y v e t more true s h =
    let is : e.0 ≡ y = sym ((same_by_parts y e.0).0 s) in
    ap (λ z. if same x z then Some v else lookup (same x) t) is
    ∙ met_once (same x y) (Some v) (Some e.1) (lookup (same x) t)
    ∙ ap (λ z. if same x y then Some v else (if same x z then Some e.1 else lookup (same x) t)) (sym is)
inserted_by x y v e t more false s h =
    ap (λ o. if same x e.0 then Some e.1 else o) h
    ∙ in_turn (same x y) (same x e.0) (Some v) (Some e.1) (lookup (same x) t)
    (λ a c. absurd (true_is_false (sym ((same_by_parts y e.0).1
    (sym ((same_by_parts x y).0 a) ∙ (same_by_parts x e.0).0 c)) ∙ s)))
  where
    true_is_false : true ≡ false → ⊥
    true_is_false q = absurd (cc)

pub inserted : (x y : Xid) (v : Life) (t : SaidTable)
    → lookup (same x) (insert_entry same t y v) ≡ (if same x y then Some v else lookup (same x) t)
inserted x y v [] = refl
inserted x y v (e ∷ t) = inserted_by x y v e t (insert_entry same t y v) (same y e.0) refl (inserted x y v t)

-- What is known of one name.

-- what is noted of a name after one more record
abbrev pub life_behind : Xid → ℕ → Life → LogRecord → Life
life_behind x i life l = if is_of x l then life_after i life l.entry else life

noted_at : (x y : Xid) (i : ℕ) (t : SaidTable) (r : Record) (b : Bool) → same x y ≡ b
    → unwrap_or (if b then Some (life_after i (life_in t y) r) else lookup (same x) t) no_life
    ≡ (if b then life_after i (life_in t x) r else life_in t x)
noted_at x y i t r true s = ap (λ z. life_after i (life_in t z) r) (sym ((same_by_parts x y).0 s))
noted_at x y i t r false s = refl

noted_name : (x : Xid) (i : ℕ) (t : SaidTable) (r : Record) (o : Option Xid)
    → life_in (noted_by i t r o) x ≡ (if is_name x o then life_after i (life_in t x) r else life_in t x)
noted_name x i t r None = refl
noted_name x i t r (Some y) =
    ap (λ o. unwrap_or o no_life) (inserted x y (life_after i (life_in t y) r) t)
    ∙ noted_at x y i t r (same x y) refl

-- what is known of a name after these records
unfoldable pub life_from : Xid → ℕ → Life → List LogRecord → Life
life_from x i life [] = life
life_from x i life (l ∷ ls) = life_from x (suc i) (life_behind x i life l) ls

pub table_life : (x : Xid) (i : ℕ) (t : SaidTable) (ls : List LogRecord)
    → life_in (lives_from i t ls) x ≡ life_from x i (life_in t x) ls
unfolding lives_from life_from
table_life x i t [] = refl
table_life x i t (l ∷ ls) = table_life x (suc i) (noted i t l) ls
    ∙ ap (λ life. life_from x (suc i) life ls) (noted_name x i t l.entry (log_name l))

said_step : (b : Bool) (i : ℕ) (life : Life) (r : Record)
    → (if b then life_after i life r else life).said ≡ (if b then said_after life.said r else life.said)
said_step true i life r = refl
said_step false i life r = refl

pub life_said : (x : Xid) (i : ℕ) (life : Life) (ls : List LogRecord)
    → (life_from x i life ls).said ≡ fold (said_behind x) life.said ls
unfolding life_from
life_said x i life [] = refl
life_said x i life (l ∷ ls) =
    life_said x (suc i) (life_behind x i life l) ls
    ∙ ap (λ s. fold (said_behind x) s ls) (said_step (is_of x l) i life l.entry)

-- The place of the last promise.

since_step : (b : Bool) (i : ℕ) (life : Life) (r : Record)
    → (if b then life_after i life r else life).since ≡ (if b && is_prepared r then i else life.since)
since_step true i life r = refl
since_step false i life r = refl

choice_above : (b : Bool) (j i s : ℕ) → j < i → j < s → j < (if b then i else s)
choice_above true j i s h k = h
choice_above false j i s h k = k

choice_within : (b : Bool) (j i s : ℕ) → i ≤ j → s ≤ j → (if b then i else s) ≤ j
choice_within true j i s h k = h
choice_within false j i s h k = k

pub step_within : (x : Xid) (i : ℕ) (life : Life) (l : LogRecord) → life.since ≤ i
    → (life_behind x i life l).since ≤ i
step_within x i life l h = subst (λ n. n ≤ i) (sym (since_step (is_of x l) i life l.entry))
    (choice_within (prepares x l) i i life.since (omega arith) h)

stays_above : (x : Xid) (j i : ℕ) (life : Life) (ls : List LogRecord) → j < i → j < life.since
    → j < (life_from x i life ls).since
unfolding life_from
stays_above x j i life [] h k = k
stays_above x j i life (l ∷ ls) h k =
    stays_above x j (suc i) (life_behind x i life l) ls (omega (arith, h))
    (subst (λ n. j < n) (sym (since_step (is_of x l) i life l.entry))
    (choice_above (prepares x l) j i life.since h k))

above : (s j : ℕ) → j < s → nat_le s j ≡ false
above s j h = grind (arith, nat_tests)

within : (s j : ℕ) → s ≤ j → nat_le s j ≡ true
within s j h = grind (arith, nat_tests)

since_by : (x : Xid) (j i : ℕ) (life : Life) (l : LogRecord) (ls : List LogRecord) (b : Bool)
    → prepares x l ≡ b → j < i → life.since ≤ j
    → ((life_behind x i life l).since ≤ j → nat_le (life_from x (suc i) (life_behind x i life l) ls).since j
    ≡ not (list_any (prepares x) ls))
    → nat_le (life_from x (suc i) (life_behind x i life l) ls).since j ≡ not (b || list_any (prepares x) ls)
since_by x j i life l ls true p h k more =
    let is : (life_behind x i life l).since ≡ i = since_step (is_of x l) i life l.entry
    ∙ ap (λ c. if c then i else life.since) p in
    above _ j (stays_above x j (suc i) (life_behind x i life l) ls (omega (arith, h))
    (subst (λ n. j < n) (sym is) h))
since_by x j i life l ls false p h k more =
    let is : (life_behind x i life l).since ≡ life.since = since_step (is_of x l) i life l.entry
    ∙ ap (λ c. if c then i else life.since) p in
    more (subst (λ n. n ≤ j) (sym is) k)

pub life_since : (x : Xid) (j i : ℕ) (life : Life) (ls : List LogRecord) → j < i → life.since ≤ j
    → nat_le (life_from x i life ls).since j ≡ not (list_any (prepares x) ls)
unfolding life_from
life_since x j i life [] h k = within life.since j k
life_since x j i life (l ∷ ls) h k =
    since_by x j i life l ls (prepares x l) refl h k
    (λ w. life_since x j (suc i) (life_behind x i life l) ls (omega (arith, h)) w)
