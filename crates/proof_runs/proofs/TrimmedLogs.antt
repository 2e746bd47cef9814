-- The log that a trim leaves stands for the lists that the model's trim leaves.
use Rattle.std.proofs.Common.{◌≡◌, ◌∙◌, ◌||◌, Bool, true, false, if◌then◌else◌, List, [], ◌∷◌, ◌++◌, append-nil, map, refl, sym, ap, subst}
use Rattle.std.proofs.lemmas.Bool.{and_parts}
use Rattle.std.specs.Prelude.{fold}
use Rattle.std.specs.List.{AllByRecursion, list_all, list_any}
use Rattle.protocol.specs.declared.records.LogRecord.{LogRecord}
use Rattle.protocol.specs.declared.records.Record.{Record}
use Rattle.protocol.proofs.LogNameLaws.{reads_back}
use Rattle.protocol.specs.LogNames.{in_log, is_own_record, own_by, own_records, parent_of}
use Rattle.protocol.specs.Nodes.{AtLeaf, AtRoot, Below, Place, Role, IsCoordinator}
use Rattle.protocol.specs.Records.{has, is_opened, record_case}
use Rattle.protocol.specs.Restarts.{data_records, trimmed}
use Rattle.log_rules.specs.trim.Trims.{front_of_trim, last_opened, opened_after, stays, staying}
use Rattle.log_rules.specs.sound.Sound.{IsSound}
use Rattle.log_rules.proofs.reads.Trimmed.{coordinators_read_trims}
use Rattle.log_rules.proofs.reads.ManagerTrims.{managers_read_trims}
use Rattle.process_state.specs.States.{kind_of_role}
use Rattle.proof_runs.proofs.OwnRecords.{both_so}
use Rattle.proof_runs.proofs.Records.{map_append}

-- a log's record that its process reads as the record that it wrote
record ReadsItself (place : Place) (l : LogRecord) : Type 0 where
  read : own_by place l (record_case l.entry) ≡ l.entry ∷ []
  written : in_log (parent_of place.role) l.entry ≡ l

module _ (place : Place) where
  abbrev in_own : Record → LogRecord
  in_own r = in_log (parent_of place.role) r

  one_read : (r : Record) → is_own_record place r ≡ true
      → own_by place (in_own r) (record_case r) ≡ r ∷ []
  unfolding own_records
  one_read r own =
      sym (append-nil (own_by place (in_own r) (record_case r)))
      ∙ reads_back place (r ∷ []) (both_so _ _ own refl)

  all_read : (rs : List Record) → list_all (is_own_record place) rs ≡ true
      → AllByRecursion (ReadsItself place) (map in_own rs)
  all_read [] own = tt
  all_read (r ∷ rs) own =
      let both =
      and_parts _ _ own in (record { read = one_read r both.0; written = refl }, all_read rs both.1)

  -- such records are those that the process reads
  again : (ls : List LogRecord) → AllByRecursion (ReadsItself place) ls
      → map in_own (own_records place ls) ≡ ls
  unfolding own_records
  again [] all = refl
  again (l ∷ ls) all =
      ap (λ rs. map in_own (rs ++ own_records place ls)) all.0.read
      ∙ (λ j. all.0.written j ∷ again ls all.1 j)

  -- A trim keeps some of the log's records.

  both_all : (xs ys : List LogRecord) → AllByRecursion (ReadsItself place) xs
      → AllByRecursion (ReadsItself place) ys → AllByRecursion (ReadsItself place) (xs ++ ys)
  both_all [] ys e f = f
  both_all (x ∷ xs) ys e f = (e.0, both_all xs ys e.1 f)

  staying_all : (whole ls : List LogRecord) → AllByRecursion (ReadsItself place) ls
      → AllByRecursion (ReadsItself place) (staying whole ls)
  unfolding staying
  staying_all whole [] all = tt
  staying_all whole (l ∷ ls) all = by_test (stays whole ls l) (staying_all whole ls all.1)
    where
      by_test : (b : Bool) → AllByRecursion (ReadsItself place) (staying whole ls)
          → AllByRecursion (ReadsItself place) (if b then l ∷ staying whole ls else staying whole ls)
      by_test true rest = (all.0, rest)
      by_test false rest = rest

  opened_all : (o ls : List LogRecord) → AllByRecursion (ReadsItself place) o
      → AllByRecursion (ReadsItself place) ls
      → AllByRecursion (ReadsItself place) (fold opened_after o ls)
  opened_all o [] e all = e
  opened_all o (l ∷ ls) e all = opened_all (opened_after o l) ls (by_test (is_opened l.entry)) all.1
    where
      by_test : (b : Bool) → AllByRecursion (ReadsItself place) (if b then l ∷ [] else o)
      by_test true = (all.0, tt)
      by_test false = e

  front_all : (ls : List LogRecord) → AllByRecursion (ReadsItself place) ls
      → AllByRecursion (ReadsItself place) (front_of_trim ls)
  unfolding front_of_trim last_opened
  front_all ls all =
      both_all (fold opened_after [] ls) (staying ls ls) (opened_all [] ls tt all) (staying_all ls ls all)

  opened_there : (rs : List Record) → list_any (λ l. is_opened l.entry) (map in_own rs) ≡ has is_opened rs
  unfolding has
  opened_there [] = refl
  opened_there (r ∷ rs) = ap (λ b. is_opened r || b) (opened_there rs)

  -- What it keeps reads as what the model's trim leaves.

  module _ (ls : List LogRecord) (opened : list_any (λ l. is_opened l.entry) ls ≡ true) where
    abbrev rs : List Record
    rs = own_records place ls

    abbrev ReadsTrim : Type 0
    ReadsTrim = own_records place (front_of_trim ls) ++ data_records place.role rs ≡ trimmed place.role rs

    coordinated : IsCoordinator place.role → kind_of_role place.role ≡ kind_of_role AtRoot
        → data_records place.role rs ≡ [] → AllByRecursion (IsSound (kind_of_role place.role)) ls → ReadsTrim
    coordinated coordinates kind none sound =
        ap (λ ds. own_records place (front_of_trim ls) ++ ds) none
        ∙ append-nil (own_records place (front_of_trim ls))
        ∙ coordinators_read_trims place ls coordinates
        (subst (λ k. AllByRecursion (IsSound k) ls) kind sound) opened

    reads_trim : (role : Role) → place.role ≡ role
        → AllByRecursion (IsSound (kind_of_role place.role)) ls → ReadsTrim
    reads_trim AtRoot is sound =
        coordinated (subst IsCoordinator (sym is) tt) (ap kind_of_role is)
        (ap (λ r. data_records r rs) is) sound
    reads_trim (Below p) is sound =
        coordinated (subst IsCoordinator (sym is) tt) (ap kind_of_role is)
        (ap (λ r. data_records r rs) is) sound
    reads_trim (AtLeaf p) is sound =
        managers_read_trims place p ls is
        (subst (λ k. AllByRecursion (IsSound k) ls) (ap kind_of_role is) sound) opened

  -- so the trimmed log is that of the model's lists
  trim_of : (rs : List Record) → list_all (is_own_record place) rs ≡ true → has is_opened rs ≡ true
      → AllByRecursion (IsSound (kind_of_role place.role)) (map in_own rs)
      → front_of_trim (map in_own rs) ++ map in_own
      (data_records place.role (own_records place (map in_own rs)))
      ≡ map in_own (trimmed place.role rs)
  trim_of rs own opened sound =
      let ls = map in_own rs in
      let data' = data_records place.role (own_records place ls) in
      ap (λ xs. xs ++ map in_own data') (sym (again (front_of_trim ls) (front_all ls (all_read rs own))))
      ∙ sym (map_append in_own (own_records place (front_of_trim ls)) data')
      ∙ ap (map in_own) (reads_trim ls (opened_there rs ∙ opened) place.role refl sound
      ∙ ap (trimmed place.role) (reads_back place rs own))

  pub trimmed_is : (rs : List Record) (ls : List LogRecord) → ls ≡ map in_own rs
      → list_all (is_own_record place) rs ≡ true → has is_opened rs ≡ true
      → AllByRecursion (IsSound (kind_of_role place.role)) ls
      → front_of_trim ls ++ map in_own (data_records place.role (own_records place ls))
      ≡ map in_own (trimmed place.role rs)
  trimmed_is rs ls is own opened sound =
      ap (λ ks. front_of_trim ks ++ map in_own (data_records place.role (own_records place ks))) is
      ∙ trim_of rs own opened (subst (AllByRecursion (IsSound (kind_of_role place.role))) is sound)
