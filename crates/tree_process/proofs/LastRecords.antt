-- The records after the forced front, as the last of a log.
use Rattle.std.proofs.Common.{◌≡◌, ◌∙◌, ap, sym, subst, ℕ, ◌+◌, ◌-◌, ◌≤◌, All, List, [], ◌∷◌, ◌++◌, length, drop, arith, length-append}
use Rattle.std.specs.List.{AllByRecursion}
use Rattle.std.proofs.Math.Seq.{drop-append_seam}
use Rattle.std.proofs.lemmas.List.{append_cancel_left}
use Rattle.std.proofs.lemmas.List.Elements.{All-from_recursion}
use Rattle.protocol.specs.declared.names.Kind.{Kind}
use Rattle.protocol.specs.declared.records.LogRecord.{LogRecord}
use Rattle.log_text.specs.Payloads.{FitsFrame}
use Rattle.log_rules.specs.sound.Sound.{IsSound}
use Rattle.log_rules.proofs.sound.Sizes.{sound_fits}
use Rattle.log_records.specs.Sights.{LogSight, left_by, records_of, whole_within}

fits_by : (k : Kind) (xs ys : List LogRecord) → AllByRecursion (IsSound k) (xs ++ ys)
    → AllByRecursion FitsFrame ys
fits_by k [] [] sound = tt
fits_by k [] (y ∷ ys) sound = (sound_fits k y sound.0, fits_by k [] ys sound.1)
fits_by k (x ∷ xs) ys sound = fits_by k xs ys sound.1

-- where N bytes keep every record, all of the unforced ones are within them
pub all_within : (s : LogSight) (n : ℕ) → left_by s n ≡ records_of s.kept
    → length (whole_within (s.behind + n) s.kept.unforced) ≡ length s.kept.unforced
all_within s n all = ap (λ (xs : List LogRecord). length xs) (append_cancel_left s.kept.forced _ _ all)

-- the last N records of a log are the unforced ones
pub behind_forced : (s : LogSight) (all : List LogRecord) (n : ℕ) → all ≡ records_of s.kept
    → n ≡ length s.kept.unforced
    → drop (length all - n) all ≡ s.kept.unforced
behind_forced s all n is count =
    let long : length (records_of s.kept) ≡ length s.kept.forced + length s.kept.unforced =
    length-append s.kept.forced s.kept.unforced in
    let at : length (records_of s.kept) - n ≡ length s.kept.forced = omega arith in
    ap (λ (xs : List LogRecord). drop (length xs - n) xs) is ∙ ap (λ k. drop k (records_of s.kept)) at
    ∙ drop-append_seam s.kept.forced s.kept.unforced

-- they are no more than the log has
pub no_more : (s : LogSight) (all : List LogRecord) (n : ℕ) → all ≡ records_of s.kept
    → n ≡ length s.kept.unforced → n ≤ length all
no_more s all n is count =
    let long : length (records_of s.kept) ≡ length s.kept.forced + length s.kept.unforced =
    length-append s.kept.forced s.kept.unforced in
    let same : length all ≡ length (records_of s.kept) = ap (λ (xs : List LogRecord). length xs) is in
    omega arith

-- and each of them fits a frame
pub fit : (s : LogSight) (k : Kind) (rest : List LogRecord)
    → AllByRecursion (IsSound k) (records_of s.kept) → rest ≡ s.kept.unforced
    → All FitsFrame rest
fit s k rest sound is = subst (All FitsFrame) (sym is)
    (All-from_recursion FitsFrame s.kept.unforced (fits_by k s.kept.forced s.kept.unforced sound))
