-- The order in which an audit lists a process's cases.
use Rattle.std.proofs.Common.{◌≡◌, ◌∙◌, ◌||◌, ◌+◌, ◌-◌, ◌<◌, ◌≤◌, ℕ, Bool, true, false, not, if◌then◌else◌, List, [], ◌∷◌, ◌++◌, drop, get_or, length, reverse, refl, sym, ap, subst, arith}
use Rattle.std.proofs.lemmas.List.{at_drop_more, reverse-append}
use Rattle.std.proofs.lemmas.List.Folds.{list_any-append}
use Rattle.std.specs.List.{list_any}
use Rattle.indexmap.specs.IndexSet.{insert_key}
use Rattle.protocol.specs.declared.names.Case.{Case}
use Rattle.protocol.specs.Names.{same_case}
use Rattle.protocol.specs.declared.records.BranchName.TheVariants.{Foreign}
use Rattle.protocol_words.specs.Variants.{CaseBranch}
use Rattle.protocol.specs.declared.records.Record.{Record}
use Rattle.protocol.specs.declared.records.Record.TheVariants.{Opened, Collecting, Prepare, Commit, Abort, End, Prepared, Committed, RolledBack, Direct, HeurCommit, HeurRollback, Told, Forgot, Base, Pair, Cleared}
use Rattle.protocol.specs.Records.{has, has_case, is_prepared}
use Rattle.protocol.specs.NameLaws.{same_case-refl}
use Rattle.protocol.proofs.Equality.{case_equality}
use Rattle.coord_records.specs.Readings.{same}
use Rattle.coord_records.proofs.CaseTables.{apart_back, is_same}
use Rattle.audit_cases.specs.Notes.{last_places, promised_by, promised_in}

-- a case is among the last places of a list just where it is in the list
pub has_last : (cs : List Case) (c : Case) → has_case (last_places cs) c ≡ has_case cs c
unfolding has_case
has_last [] c = refl
has_last (d ∷ cs) c = by_test (has_last cs c) (has_case cs d) refl
  where
    by_name : has_case cs d ≡ true → (b : Bool) → same_case d c ≡ b → has_case cs c ≡ (b || has_case cs c)
    by_name is false apart = refl
    by_name is true here = subst (λ x. has_case cs x ≡ true) (is_same d c here) is

    by_test : has_case (last_places cs) c ≡ has_case cs c → (b : Bool) → has_case cs d ≡ b
        → has_case (if b then last_places cs else d ∷ last_places cs) c ≡ (same_case d c || has_case cs c)
    by_test rest false is = ap (λ b. same_case d c || b) rest
    by_test rest true is = rest ∙ by_name is (same_case d c) refl

turned_round : (c d : Case) → same_case c d ≡ same_case d c
turned_round c d = by_test (same_case d c) refl
  where
    by_test : (b : Bool) → same_case d c ≡ b → same_case c d ≡ b
    by_test true h = subst (λ e. same_case c e ≡ true) (sym (is_same d c h)) (same_case-refl c)
    by_test false h = apart_back d c h

-- what is in a list is in the list turned round
any_reversed : (f : Case → Bool) (cs : List Case) → list_any f (reverse cs) ≡ list_any f cs
any_reversed f [] = refl
any_reversed f (c ∷ cs) =
    ap (list_any f) (reverse-append (c ∷ []) cs)
    ∙ list_any-append f (reverse cs) (c ∷ [])
    ∙ turned (list_any f (reverse cs)) (f c)
    ∙ ap (λ b. f c || b) (any_reversed f cs)
  where
    turned : (a b : Bool) → (a || (b || false)) ≡ (b || a)
    turned true true = refl
    turned true false = refl
    turned false true = refl
    turned false false = refl

-- a set's test for a key finds a case just where it is in the list
found_as : (cs : List Case) (c : Case) → list_any (same c) cs ≡ has_case cs c
unfolding has_case
found_as [] c = refl
found_as (d ∷ cs) c = λ i. (case_equality c d ∙ turned_round c d) i || found_as cs c i

-- one place more, from the last on
place_more : (cs : List Case) (c : Case)
    → insert_key same (reverse (last_places cs)) c ≡ reverse (last_places (c ∷ cs))
place_more cs c =
    ap (λ b. if b then reverse (last_places cs) else (reverse (last_places cs) ++ c ∷ []))
    (any_reversed (same c) (last_places cs) ∙ found_as (last_places cs) c ∙ has_last cs c)
    ∙ by_test (has_case cs c)
  where
    by_test : (b : Bool) → (if b then reverse (last_places cs) else (reverse (last_places cs) ++ c ∷ []))
        ≡ reverse (if b then last_places cs else c ∷ last_places cs)
    by_test true = refl
    by_test false = sym (reverse-append (c ∷ []) (last_places cs))

-- a pass from the last place on
pub goes_back : (cs : List Case) (i : ℕ) (d : Case) (keys new : List Case) → 0 < i → i ≤ length cs
    → keys ≡ reverse (last_places (drop i cs)) → new ≡ insert_key same keys (get_or cs (i - 1) d)
    → new ≡ reverse (last_places (drop (i - 1) cs))
goes_back cs i d keys new some most is put =
    let c = get_or cs (i - 1) d in
    let next : i - 1 + 1 ≡ i = omega (arith, some) in
    put ∙ ap (λ ks. insert_key same ks c) (is ∙ ap (λ n. reverse (last_places (drop n cs))) (sym next))
    ∙ place_more (drop (i - 1 + 1) cs) c
    ∙ sym (at_drop_more (λ xs. reverse (last_places xs)) cs (i - 1) d (omega (arith, some, most)))

pub is_added : (keys listed : List Case) (c : Case) → listed ≡ keys → not (list_any (same c) keys) ≡ true
    → listed ++ c ∷ [] ≡ insert_key same keys c
is_added keys listed c is new = ap (λ cs. cs ++ c ∷ []) is ∙ by_test (list_any (same c) keys) new
  where
    by_test : (b : Bool) → not b ≡ true → keys ++ c ∷ [] ≡ (if b then keys else (keys ++ c ∷ []))
    by_test true h = absurd (cc)
    by_test false h = refl

pub is_there : (keys listed : List Case) (c : Case) → listed ≡ keys → not (list_any (same c) keys) ≡ false
    → listed ≡ insert_key same keys c
is_there keys listed c is old = is ∙ by_test (list_any (same c) keys) old
  where
    by_test : (b : Bool) → not b ≡ false → keys ≡ (if b then keys else (keys ++ c ∷ []))
    by_test true h = refl
    by_test false h = absurd (cc)

turned_twice : (cs : List Case) → reverse (reverse cs) ≡ cs
turned_twice [] = refl
turned_twice (c ∷ cs) =
    ap reverse (reverse-append (c ∷ []) cs) ∙ reverse-append (reverse cs) (c ∷ [])
    ∙ ap (λ ds. c ∷ ds) (turned_twice cs)

-- the pass is at the first place
pub first_place : (cs listed keys new : List Case) (i : ℕ) → i ≡ 0 → listed ≡ keys
    → keys ≡ reverse (last_places (drop i cs)) → new ≡ reverse listed → new ≡ last_places cs
first_place cs listed keys new i none is back turned =
    turned ∙ ap reverse (is ∙ back ∙ ap (λ n. reverse (last_places (drop n cs))) none)
    ∙ turned_twice (last_places cs)

-- the Prepared of a case name it, and no other record does
names_prepared : (c : Case) (r : Record) → has_case (promised_in r) c ≡ is_prepared c r
unfolding has_case
names_prepared c (Prepared (CaseBranch d) ws) = or_none (same_case d c)
  where
    or_none : (b : Bool) → (b || false) ≡ b
    or_none true = refl
    or_none false = refl
names_prepared c (Prepared (Foreign x) ws) = refl
names_prepared c (Opened n) = refl
names_prepared c (Base n) = refl
names_prepared c (Pair k v) = refl
names_prepared c (Collecting d ts) = refl
names_prepared c (Prepare d ts) = refl
names_prepared c (Commit d ts) = refl
names_prepared c (Abort d ts) = refl
names_prepared c (End d rep) = refl
names_prepared c (Cleared d) = refl
names_prepared c (Committed b) = refl
names_prepared c (RolledBack b) = refl
names_prepared c (Direct b ws) = refl
names_prepared c (HeurCommit b) = refl
names_prepared c (HeurRollback b) = refl
names_prepared c (Told b o) = refl
names_prepared c (Forgot b) = refl

-- a case is among the promised ones just where there is a Prepared of it
pub promised_has : (c : Case) (rs : List Record) → has_case (promised_by rs) c ≡ has (is_prepared c) rs
unfolding has_case has
promised_has c [] = refl
promised_has c (r ∷ rs) =
    list_any-append (λ d. same_case d c) (promised_in r) (promised_by rs)
    ∙ (λ i. names_prepared c r i || promised_has c rs i)
