-- What a crash leaves of a log is a front of its records.
use Rattle.std.proofs.Common.{◌≡◌, ◌+◌, ◌-◌, ◌∙◌, ℕ, Bool, true, false, cond, List, [], ◌∷◌, ◌++◌, append_assoc, refl, ap, subst, sym, nat_le}
use Rattle.std.specs.List.{AllByRecursion}
use Rattle.protocol.specs.declared.records.LogRecord.{LogRecord}
use Rattle.log_records.specs.Sights.{LogSight, left_by, record_size, records_of, whole_within}

whole_rest : (n : ℕ) (ls : List LogRecord) → (rest : List LogRecord) × (whole_within n ls ++ rest ≡ ls)
unfolding whole_within
whole_rest n [] = ([], refl)
whole_rest n (l ∷ ls) = by_test (nat_le (record_size l) n) (whole_rest (n - record_size l) ls)
  where
    by_test : (b : Bool) → (rest : List LogRecord) × (whole_within (n - record_size l) ls ++ rest ≡ ls)
        → (rest : List LogRecord) × (cond b (l ∷ whole_within (n - record_size l) ls) [] ++ rest ≡ l ∷ ls)
    by_test true h = (h.0, ap (λ ks. l ∷ ks) h.1)
    by_test false h = (l ∷ ls, refl)

pub left_rest : (s : LogSight) (keep : ℕ) → (rest : List LogRecord)
    × (left_by s keep ++ rest ≡ records_of s.kept)
left_rest s keep =
    let rest = whole_rest (s.behind + keep) s.kept.unforced in (
      rest.0,
      append_assoc s.kept.forced (whole_within (s.behind + keep) s.kept.unforced) rest.0
          ∙ ap (λ us. s.kept.forced ++ us) rest.1,
    )

-- what holds of each record holds of each of a front
pub each_front : (P : LogRecord → Type 0) (ls ks : List LogRecord) → AllByRecursion P (ls ++ ks)
    → AllByRecursion P ls
each_front P [] ks h = tt
each_front P (l ∷ ls) ks h = (h.0, each_front P ls ks h.1)

-- so it holds of each that a crash leaves
pub each_left : (P : LogRecord → Type 0) (s : LogSight) (keep : ℕ) → AllByRecursion P (records_of s.kept)
    → AllByRecursion P (left_by s keep)
each_left P s keep h =
    let rest = left_rest s keep in
    each_front P (left_by s keep) rest.0 (subst (AllByRecursion P) (sym rest.1) h)
