-- A table that keeps of each case what the records of a log say of it, noted record by record.
use Rattle.std.proofs.Common.{◌≡◌, ◌∙◌, Bool, true, false, ◌||◌, if◌then◌else◌, List, [], ◌∷◌, ◌++◌, Option, Some, None, map, fold, unwrap_or, refl, sym, ap, subst}
use Rattle.std.proofs.lemmas.List.{append-nil, append_assoc}
use Rattle.std.proofs.lemmas.List.Folds.{list_any-append}
use Rattle.std.proofs.lemmas.List.Sums.{fold-append}
use Rattle.std.specs.Map.{lookup, set_value}
use Rattle.indexmap.specs.IndexMap.{insert_entry}
use Rattle.protocol.specs.declared.names.Case.{Case}
use Rattle.protocol.specs.declared.records.Record.{Record}
use Rattle.protocol.specs.Names.{same_case}
use Rattle.protocol.specs.Records.{cases_in, has_case, record_case, with_case, with_record}
use Rattle.protocol.proofs.Equality.{case_equality}
use Rattle.protocol.proofs.NameTests.{case_tells}
use Rattle.coord_records.specs.Readings.{same}
use Rattle.coord_records.proofs.Summaries.{is_case, is_of}

-- Names.

pub same_is : (c d : Case) → same c d ≡ true → c ≡ d
same_is c d h = (case_tells c d).0 (sym (case_equality c d) ∙ h)

pub is_same : (c d : Case) → same_case c d ≡ true → c ≡ d
is_same c d h = (case_tells c d).0 h

itself : (c : Case) → same_case c c ≡ true
itself c = (case_tells c c).1 refl

pub true_not_false : true ≡ false → ⊥
true_not_false q = absurd (cc)

pub apart_of : (b : Bool) → (b ≡ true → ⊥) → b ≡ false
apart_of true h = absurd (h refl)
apart_of false h = refl

-- what is not one this way is not one the other way
pub apart_back : (c d : Case) → same_case c d ≡ false → same_case d c ≡ false
apart_back c d h = apart_of (same_case d c) (λ is. true_not_false
    (sym (subst (λ e. same_case e d ≡ true) (is_same d c is) (itself d)) ∙ h))

-- Cases, each once.

-- no case comes twice
pub Once : List Case → Type 0
Once [] = Unit {0}
Once (c ∷ cs) = (has_case cs c ≡ false) × Once cs

has_more : (cs : List Case) (c d : Case) → has_case (cs ++ d ∷ []) c ≡ (has_case cs c || same_case d c)
unfolding has_case
has_more cs c d = list_any-append (λ e. same_case e c) cs (d ∷ [])
    ∙ ap (λ b. has_case cs c || b) (or_none (same_case d c))
  where
    or_none : (b : Bool) → (b || false) ≡ b
    or_none true = refl
    or_none false = refl

or_parts : (a b : Bool) → (a || b) ≡ false → (a ≡ false) × (b ≡ false)
or_parts true b h = absurd (true_not_false h)
or_parts false b h = (refl, h)

or_false : (a b : Bool) → a ≡ false → b ≡ false → (a || b) ≡ false
or_false true b h k = absurd (true_not_false h)
or_false false b h k = k

once_more : (cs : List Case) (c : Case) → Once cs → has_case cs c ≡ false → Once (cs ++ c ∷ [])
unfolding Once has_case
once_more [] c once none = (refl, tt)
once_more (e ∷ cs) c once none =
    let parts = or_parts (same_case e c) (has_case cs c) none in (
      has_more cs e c ∙ or_false (has_case cs e) (same_case c e) once.0 (apart_back e c parts.0),
      once_more cs c once.1 parts.1,
    )

cases_more : (rs : List Record) (r : Record) → cases_in (rs ++ r ∷ []) ≡ with_record (cases_in rs) r
unfolding cases_in
cases_more rs r = fold-append with_record [] rs (r ∷ [])

-- a list with one more at its end, and others after
pub one_then : {A : Type 0} (ks : List A) (a : A) (bs : List A) → (ks ++ a ∷ []) ++ bs ≡ ks ++ a ∷ bs
one_then ks a bs = append_assoc ks (a ∷ []) bs

-- Entries.

-- the entry of a case of which this is said
abbrev pub entry_by : {A : Type 0} → (Case → A) → Case → Case × A
entry_by f c = (c, f c)

-- a value that is written where the case is, is that of the entry that is put there
pub put_there : {A : Type 0} (d : Case) (s w : A) (t : List (Case × A)) → lookup (same d) t ≡ Some s
    → set_value (same d) t w ≡ insert_entry same t d w
put_there d s w [] had = absurd (cc)
put_there d s w (e ∷ t) had = by_test (λ h. put_there d s w t h) (same d e.0) had
  where
    by_test : (lookup (same d) t ≡ Some s → set_value (same d) t w ≡ insert_entry same t d w) → (b : Bool)
        → (if b then Some e.1 else lookup (same d) t) ≡ Some s
        → (if b then (e.0, w) ∷ t else e ∷ set_value (same d) t w)
        ≡ (if b then (e.0, w) ∷ t else e ∷ insert_entry same t d w)
    by_test rest true h = refl
    by_test rest false h = ap (λ es. e ∷ es) (rest h)

-- what is found of a case among entries
pub found : {A : Type 0} (f : Case → A) (d : Case) (cs : List Case)
    → lookup (same d) (map (entry_by f) cs) ≡ (if has_case cs d then Some (f d) else None)
unfolding has_case
found f d [] = refl
found f d (e ∷ cs) = by_test (found f d cs) (same d e) refl
  where
    by_test : lookup (same d) (map (entry_by f) cs)
        ≡ (if has_case cs d then Some (f d) else None) → (b : Bool) → same d e ≡ b
        → (if b then Some (f e) else lookup (same d) (map (entry_by f) cs))
        ≡ (if same_case e d || has_case cs d then Some (f d) else None)
    by_test rest true is =
        let one : d ≡ e = same_is d e is in
        let here : same_case e d ≡ true = subst (λ c. same_case c d ≡ true) one (itself d) in
        ap (λ c. Some (f c)) (sym one) ∙ ap (λ b. if b || has_case cs d then Some (f d) else None) (sym here)
    by_test rest false is =
        rest ∙ ap (λ b. if b || has_case cs d then Some (f d) else None)
        (sym (apart_back d e (sym (case_equality d e) ∙ is)))

-- An entry that is written.

module _ {A : Type 0} (f g : Case → A) (d : Case) (v : A)
    (others : (c : Case) → same_case d c ≡ false → g c ≡ f c) (own : g d ≡ v) where
  -- the entries of cases that are not this one stay
  stay : (cs : List Case) → has_case cs d ≡ false → map (entry_by f) cs ≡ map (entry_by g) cs
  unfolding has_case
  stay [] none = refl
  stay (e ∷ cs) none =
      let parts = or_parts (same_case e d) (has_case cs d) none in
      (λ i. (e, sym (others e (apart_back e d parts.0)) i) ∷ stay cs parts.1 i)

  written : (cs : List Case) → Once cs → insert_entry same (map (entry_by f) cs) d v
      ≡ map (entry_by g) (with_case cs (Some d))
  unfolding Once has_case
  written [] once = λ i. (d, sym own i) ∷ []
  written (e ∷ cs) once = by_test (written cs once.1) (same d e) refl
    where
      behind : (h : Bool) (ds : List Case) → map (entry_by g) (if h then e ∷ cs else e ∷ ds) ≡ (e, g e)
          ∷ map (entry_by g) (if h then cs else ds)
      behind true ds = refl
      behind false ds = refl

      by_test : insert_entry same (map (entry_by f) cs) d v
          ≡ map (entry_by g) (with_case cs (Some d)) → (b : Bool) → same d e ≡ b
          → (if b then (e, v) ∷ map (entry_by f) cs else (e, f e)
          ∷ insert_entry same (map (entry_by f) cs) d v)
          ≡ map (entry_by g) (with_case (e ∷ cs) (Some d))
      by_test rest true is =
          let one : d ≡ e = same_is d e is in
          let here : same_case e d ≡ true = subst (λ c. same_case c d ≡ true) one (itself d) in
          let there : has_case cs d ≡ false = subst (λ c. has_case cs c ≡ false) (sym one) once.0 in
          (λ i. (e, (sym own ∙ ap g one) i) ∷ stay cs there i)
          ∙ ap (λ b. map (entry_by g) (if b || has_case cs d then e ∷ cs else e ∷ cs ++ d ∷ [])) (sym here)
      by_test rest false is =
          let differs : same_case d e ≡ false = sym (case_equality d e) ∙ is in
          (λ i. (e, sym (others e differs) i) ∷ rest i)
          ∙ sym (behind (has_case cs d) (cs ++ d ∷ []))
          ∙ ap (λ b. map (entry_by g) (if b || has_case cs d then e ∷ cs else e ∷ cs ++ d ∷ []))
          (sym (apart_back d e differs))

-- What records say of each case.

-- what is said of a case follows from what was said and the case's own records
pub record IsSaying {A : Type 0} (none : A) (after : A → Record → A)
    (say : List Record → Case → A) : Type 0 where
  pub nothing : (c : Case) → say [] c ≡ none
  pub more : (rs : List Record) (c : Case) (r : Record)
      → say (rs ++ r ∷ []) c ≡ (if is_of c r then after (say rs c) r else say rs c)

-- these are the cases of the records, each once: records say nothing of any other
pub record AreCases {A : Type 0} (none : A) (say : List Record → Case → A) (rs : List Record)
    (cs : List Case) : Type 0 where
  pub once : Once cs
  pub absent : (d : Case) → has_case cs d ≡ false → say rs d ≡ none

no_change : {A : Type 0} (b : Bool) (s t : A) → b ≡ false → (if b then s else t) ≡ t
no_change true s t h = absurd (true_not_false h)
no_change false s t h = refl

change : {A : Type 0} (b : Bool) (s t : A) → b ≡ true → (if b then s else t) ≡ s
change true s t h = refl
change false s t h = absurd (cc)

module _ {A : Type 0} (none : A) (after : A → Record → A) (say : List Record → Case → A)
    (says : IsSaying none after say) where
  -- what is said of a case of which the record is not
  pub other_stays : (rs : List Record) (r : Record) (o : Option Case) (c : Case) → record_case r ≡ o
      → is_case c o ≡ false → say (rs ++ r ∷ []) c ≡ say rs c
  other_stays rs r o c is not_of = says.more rs c r
      ∙ no_change (is_of c r) _ _ (ap (is_case c) is ∙ not_of)

  own_changes : (rs : List Record) (r : Record) (c : Case) → record_case r ≡ Some c
      → say (rs ++ r ∷ []) c ≡ after (say rs c) r
  own_changes rs r c is = says.more rs c r ∙ change (is_of c r) _ _ (ap (is_case c) is ∙ itself c)

  still_cases : (rs : List Record) (r : Record) (cs : List Case) → AreCases none say rs cs
      → AreCases none say (rs ++ r ∷ []) (with_record cs r)
  still_cases rs r cs are = by_case (record_case r) refl
    where
      by_test : (c : Case) → record_case r ≡ Some c → (b : Bool) → has_case cs c ≡ b
          → AreCases none say (rs ++ r ∷ []) (if b then cs else cs ++ c ∷ [])
      by_test c is true there =
          record {
            once = are.once;
            absent = λ d gone.
                let differs : same_case c d ≡ false =
                apart_of (same_case c d) (λ one. true_not_false
                (sym (subst (λ e. has_case cs e ≡ true) (is_same c d one) there) ∙ gone)) in
                other_stays rs r (Some c) d is differs ∙ are.absent d gone;
          }
      by_test c is false new =
          record {
            once = once_more cs c are.once new;
            absent = λ d gone.
                let parts = or_parts (has_case cs d) (same_case c d) (sym (has_more cs d c) ∙ gone) in
                other_stays rs r (Some c) d is parts.1 ∙ are.absent d parts.0;
          }

      by_case : (o : Option Case) → record_case r ≡ o → AreCases none say (rs ++ r ∷ []) (with_case cs o)
      by_case None is = record {
        once = are.once;
        absent = λ d gone. other_stays rs r None d is refl ∙ are.absent d gone;
      }
      by_case (Some c) is = by_test c is (has_case cs c) refl

  cases_from : (done rest : List Record) (cs : List Case) → AreCases none say done cs
      → AreCases none say (done ++ rest) (fold with_record cs rest)
  cases_from done [] cs are = subst (λ rs. AreCases none say rs cs) (sym (append-nil done)) are
  cases_from done (r ∷ rest) cs are =
      subst (λ rs. AreCases none say rs (fold with_record (with_record cs r) rest)) (one_then done r rest)
      (cases_from (done ++ r ∷ []) rest (with_record cs r) (still_cases done r cs are))

  no_cases : AreCases none say [] []
  unfolding Once
  no_cases = record { once = tt; absent = λ d gone. says.nothing d }

  pub are_cases : (rs : List Record) → AreCases none say rs (cases_in rs)
  unfolding cases_in
  are_cases rs = cases_from [] rs [] no_cases

  -- the table of what these records say
  abbrev table : List Record → List (Case × A)
  table rs = map (entry_by (say rs)) (cases_in rs)

  -- what the table says of a case is what the records do
  pub said : (rs : List Record) (c : Case) → unwrap_or (lookup (same c) (table rs)) none ≡ say rs c
  said rs c = ap (λ o. unwrap_or o none) (found (say rs) c (cases_in rs))
      ∙ by_test (has_case (cases_in rs) c) refl
    where
      by_test : (b : Bool) → has_case (cases_in rs) c ≡ b
          → unwrap_or (if b then Some (say rs c) else None) none ≡ say rs c
      by_test true there = refl
      by_test false gone = sym ((are_cases rs).absent c gone)

  all_stay : (rs : List Record) (r : Record) → record_case r ≡ None → (ds : List Case)
      → map (entry_by (say rs)) ds ≡ map (entry_by (say (rs ++ r ∷ []))) ds
  all_stay rs r is [] = refl
  all_stay rs r is (d ∷ ds) = λ i. (d, sym (other_stays rs r None d is refl) i) ∷ all_stay rs r is ds i

  -- a record of no case changes nothing
  pub same_table : (rs : List Record) (r : Record) → record_case r ≡ None
      → table rs ≡ table (rs ++ r ∷ [])
  same_table rs r is = all_stay rs r is (cases_in rs)
      ∙ ap (λ cs. map (entry_by (say (rs ++ r ∷ []))) cs)
      (sym (cases_more rs r ∙ ap (with_case (cases_in rs)) is))

  -- a record of a case changes its entry
  pub next_table : (rs : List Record) (r : Record) (d : Case) → record_case r ≡ Some d
      → insert_entry same (table rs) d (after (unwrap_or (lookup (same d) (table rs)) none) r)
      ≡ table (rs ++ r ∷ [])
  next_table rs r d is =
      ap (λ s. insert_entry same (table rs) d (after s r)) (said rs d)
      ∙ written (say rs) (say (rs ++ r ∷ [])) d (after (say rs d) r)
      (λ c differs. other_stays rs r (Some d) c is differs)
      (own_changes rs r d is) (cases_in rs) (are_cases rs).once
      ∙ ap (λ cs. map (entry_by (say (rs ++ r ∷ []))) cs)
      (sym (cases_more rs r ∙ ap (with_case (cases_in rs)) is))
