-- The pass over the records of a log reads what the definitions say of them.
use Rattle.std.proofs.Common.{◌≡◌, ◌∙◌, ◌+◌, List, [], ◌∷◌, ◌++◌, Option, Some, None, fold, refl, sym, ap}
use Rattle.std.proofs.lemmas.List.{append-nil}
use Rattle.std.proofs.lemmas.List.Folds.{flat_map-map}
use Rattle.std.proofs.lemmas.List.Sums.{fold-append}
use Rattle.std.specs.List.{flat_map}
use Rattle.protocol.specs.declared.names.Case.{Case}
use Rattle.protocol.specs.declared.records.Record.{Record}
use Rattle.protocol.specs.declared.records.Record.TheVariants.{Opened}
use Rattle.protocol.specs.declared.standings.Standing.{Standing}
use Rattle.protocol.specs.declared.standings.Standing.TheVariants.{Unknown, Active, Collecting, Prepared, Committing, Aborting, Heuristic}
use Rattle.protocol.specs.Records.{boot_after, boot_of, cases_in, record_case}
use Rattle.protocol.specs.Restarts.{aborts_collecting, coordinator_reopens, recorded_view, restart_abort}
use Rattle.protocol.specs.Standings.{CoordinatorView, known_view}
use Rattle.coord_records.specs.Summaries.{Summary, no_records, restored_view, standing_of, summary_after, summary_of, view_of}
use Rattle.coord_records.specs.Readings.{abort_by, abort_of, noted, noted_by, nothing_read, reading_of, reopened_by, standing_in, summary_in, view_in}
use Rattle.coord_records.proofs.CaseTables.{IsSaying, entry_by, next_table, one_then, said, same_table}
use Rattle.coord_records.proofs.Summaries.{summary_more, summary_nothing, view_recorded}

-- What the records of a log say of each case.

pub says : IsSaying no_records summary_after summary_of
says = record { nothing = summary_nothing; more = summary_more }

pub table_more : (rs : List Record) (r : Record) (o : Option Case) → record_case r ≡ o
    → noted_by (reading_of rs).table r o ≡ (reading_of (rs ++ r ∷ [])).table
table_more rs r None is = same_table no_records summary_after summary_of says rs r is
table_more rs r (Some d) is = next_table no_records summary_after summary_of says rs r d is

pub boot_more : (rs : List Record) (r : Record) → boot_of (rs ++ r ∷ []) ≡ boot_after (boot_of rs) r
unfolding boot_of
boot_more rs r = fold-append boot_after 0 rs (r ∷ [])

noted_more : (rs : List Record) (r : Record) → noted (reading_of rs) r ≡ reading_of (rs ++ r ∷ [])
noted_more rs r = λ i.
    record { boot = sym (boot_more rs r) i; table = table_more rs r (record_case r) refl i }

-- what is read after more records
pub read_more : (done rest : List Record) → fold noted (reading_of done) rest ≡ reading_of (done ++ rest)
read_more done [] = ap reading_of (sym (append-nil done))
read_more done (r ∷ rest) =
    ap (λ s. fold noted s rest) (noted_more done r) ∙ read_more (done ++ r ∷ []) rest
    ∙ ap reading_of (one_then done r rest)

nothing_is : nothing_read ≡ reading_of []
unfolding boot_of cases_in
nothing_is = refl

-- what is read of records is what they say
pub read_all : (rs : List Record) → fold noted nothing_read rs ≡ reading_of rs
read_all rs = ap (λ s. fold noted s rs) nothing_is ∙ read_more [] rs

-- What a restart appends.

aborts : (c : Case) (s : Summary) (st : Standing) → abort_by c s.named st
    ≡ restart_abort c (known_view st (restored_view st s)) (known_view st (restored_view st s)).standing
aborts c s Unknown = refl
aborts c s Active = refl
aborts c s Collecting = refl
aborts c s Prepared = refl
aborts c s Committing = refl
aborts c s Aborting = refl
aborts c s Heuristic = refl

aborts_of : (rs : List Record) (c : Case) → abort_of (c, summary_of rs c) ≡ aborts_collecting rs c
aborts_of rs c = aborts c (summary_of rs c) (standing_of (summary_of rs c))
    ∙ ap (λ v. restart_abort c v v.standing) (sym (view_recorded rs c))

pub each_alike : {A B : Type 0} (f g : A → List B) → ((a : A) → f a ≡ g a) → (xs : List A)
    → flat_map f xs ≡ flat_map g xs
each_alike f g alike [] = refl
each_alike f g alike (a ∷ xs) = λ i. alike a i ++ each_alike f g alike xs i

pub reopens_so : (rs : List Record) → reopened_by (reading_of rs) ≡ coordinator_reopens rs
reopens_so rs =
    ap (λ more. Opened (boot_of rs + 1) ∷ more)
    (flat_map-map abort_of (entry_by (summary_of rs)) (cases_in rs) ∙ each_alike
    (λ c. abort_of (entry_by (summary_of rs) c)) (aborts_collecting rs) (aborts_of rs) (cases_in rs))

-- What the table says.

-- of each case it says what the records say
pub summary_is : (rs : List Record) (c : Case) → summary_in (reading_of rs).table c ≡ summary_of rs c
summary_is rs c = said no_records summary_after summary_of says rs c

-- its view of a case is that of the records
pub view_is : (rs : List Record) (c : Case) → view_in (reading_of rs).table c ≡ recorded_view rs c
view_is rs c = ap view_of (summary_is rs c) ∙ sym (view_recorded rs c)

pub standing_known : (st : Standing) (s : Summary) → st ≡ (known_view st (restored_view st s)).standing
standing_known Unknown s = refl
standing_known Active s = refl
standing_known Collecting s = refl
standing_known Prepared s = refl
standing_known Committing s = refl
standing_known Aborting s = refl
standing_known Heuristic s = refl

-- so is where it says that a case stands
pub standing_is : (rs : List Record) (c : Case)
    → standing_in (reading_of rs).table c ≡ (recorded_view rs c).standing
standing_is rs c = standing_known (standing_of (summary_in (reading_of rs).table c))
    (summary_in (reading_of rs).table c) ∙ ap (λ (v : CoordinatorView). v.standing) (view_is rs c)
