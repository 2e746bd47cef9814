-- The records of a log with their places: frame by frame, and as the grammar reads them.
use Rattle.std.proofs.Common.{◌≡◌, ◌<◌, ◌+◌, ℕ, zero, suc, Bool, true, false, List, [], ◌∷◌, length, take, drop, map, Option, Some, None, refl, sym, ap, ◌∙◌, arith, nat_lt, if◌then◌else◌}
use Rattle.std.proofs.lemmas.Bool.Decides.{nat_tests}
use Rattle.std.proofs.lemmas.List.{length-drop}
use Rattle.protocol.specs.declared.records.LogRecord.{LogRecord}
use Rattle.protocol.specs.Records.{same_bytes}
use Rattle.log_text.specs.declared.form.LogForm.{LogForm}
use Rattle.log_text.specs.declared.form.LogFormat.{LogFormat}
use Rattle.log_text.specs.Forms.{header, size_bytes}
use Rattle.log_text.specs.Frames.{Cut, first_frame}
use Rattle.log_text.specs.Reading.{read_record}
use Rattle.log_rules.specs.order.Logs.{LogReading, Whole, Damaged, frame_by, read_frames, read_log, record_by, seen_by, with_first}
use Rattle.log_rules.specs.order.Orders.{SeenLog, after, nothing_seen}
use Rattle.log_records.proofs.Frames.{is_behind, no_bytes}
use Rattle.log_script.specs.Places.{Placed, PlacesTell, and_placed, placed, placed_by, placed_in, placed_records}

-- What the grammar reads.

abbrev reads : List Placed → List LogRecord
reads xs = map (λ x. x.read) xs

one : (ls ms : List LogRecord) (a b : ℕ) → Whole ls a ≡ Whole ms b → ls ≡ ms
one ls ms a b e = cc

told_more : (l : LogRecord) (r : LogReading) (ls : List LogRecord) (torn : ℕ) (xs : List LogRecord)
    → ((ms : List LogRecord) (k : ℕ) → r ≡ Whole ms k → xs ≡ ms) → with_first l r ≡ Whole ls torn
    → l ∷ xs ≡ ls
told_more l (Whole ms k) ls torn xs same e = ap (λ t. l ∷ t) (same ms k refl) ∙ one (l ∷ ms) ls k torn e
told_more l (Damaged place) ls torn xs same e = absurd (cc)

told_seen : (place : ℕ) (l : LogRecord) (o : Option SeenLog) (more : SeenLog → LogReading)
    (ls : List LogRecord) (torn : ℕ) (xs : List LogRecord)
    → ((t : SeenLog) (ms : List LogRecord) (k : ℕ) → more t ≡ Whole ms k → xs ≡ ms)
    → seen_by place l o more ≡ Whole ls torn → l ∷ xs ≡ ls
told_seen place l None more ls torn xs same e = absurd (cc)
told_seen place l (Some t) more ls torn xs same e = told_more l (more t) ls torn xs (same t) e

told_record : (place at : ℕ) (s : SeenLog) (o : Option LogRecord) (more : SeenLog → LogReading)
    (ls : List LogRecord) (torn : ℕ) (xs : List Placed)
    → ((t : SeenLog) (ms : List LogRecord) (k : ℕ) → more t ≡ Whole ms k → reads xs ≡ ms)
    → record_by place s o more ≡ Whole ls torn
    → reads (and_placed at o xs) ≡ ls
told_record place at s None more ls torn xs same e = absurd (cc)
told_record place at s (Some l) more ls torn xs same e =
    told_seen place l (after s l) more ls torn (reads xs) same e

told_frame : (p : LogForm) (place at size : ℕ) (s : SeenLog) (o : Option Cut)
    (more : ℕ → SeenLog → ℕ → LogReading) (ls : List LogRecord) (torn : ℕ) (behind : ℕ → ℕ → List Placed)
    → ((a b : ℕ) (t : SeenLog) (k : ℕ) (ms : List LogRecord) (n : ℕ) → more a t k ≡ Whole ms n
    → reads (behind b k) ≡ ms)
    → frame_by p place s size o more ≡ Whole ls torn → reads (placed_by p at o behind) ≡ ls
told_frame p place at size s None more ls torn behind same e = one [] ls size torn e
told_frame p place at size s (Some c) more ls torn behind same e =
    told_record place at s (read_record p c.0 c.1)
    (λ t. more (place + suc (size_bytes p.format) + length c.1) t (size_bytes p.format + length c.1)) ls torn
    (behind (at + suc (size_bytes p.format) + length c.1) (size_bytes p.format + length c.1))
    (λ t ms k h. same (place + suc (size_bytes p.format) + length c.1)
    (at + suc (size_bytes p.format) + length c.1) t
    (size_bytes p.format + length c.1) ms k h) e

told : (p : LogForm) (place at : ℕ) (s : SeenLog) (k : ℕ) (bytes : List ℕ) (ls : List LogRecord) (torn : ℕ)
    → read_frames p place s k bytes ≡ Whole ls torn → reads (placed_in p at k bytes) ≡ ls
unfolding read_frames placed_in
told p place at s k [] ls torn e = one [] ls 0 torn e
told p place at s (suc k) (b ∷ bs) ls torn e = told p place at s k bs ls torn e
told p place at s zero (b ∷ bs) ls torn e =
    told_frame p place at (suc (length bs)) s (first_frame p.format (b ∷ bs))
    (λ a t k. read_frames p a t k bs) ls torn
    (λ a k. placed_in p a k bs)
    (λ a c t k ms n h. told p a c t k bs ms n h) e

none_in : (p : LogForm) (bytes : List ℕ) → length bytes ≡ 0 → placed_in p 5 0 bytes ≡ []
unfolding placed_in
none_in p [] e = refl
none_in p (b ∷ bs) e = absurd (omega (arith, e))

short : (p : LogForm) (bytes : List ℕ) → nat_lt (length bytes) 5 ≡ true → reads (placed_records p bytes) ≡ []
short p bytes lt =
    let few : length bytes < 5 = grind (arith, nat_tests) in
    ap reads (none_in p (drop 5 bytes) (omega (arith, length-drop 5 bytes)))

by_size : (few begins is : Bool) (r : LogReading) (ls : List LogRecord) (torn : ℕ) (xs : List LogRecord)
    → (few ≡ true → xs ≡ []) → (r ≡ Whole ls torn → xs ≡ ls)
    → (if few then (if begins then Whole [] 0 else Damaged 0) else if is then r else Damaged 0)
    ≡ Whole ls torn → xs ≡ ls
by_size true true is r ls torn xs none some e = none refl ∙ one [] ls 0 torn e
by_size true false is r ls torn xs none some e = absurd (cc)
by_size false begins true r ls torn xs none some e = some e
by_size false begins false r ls torn xs none some e = absurd (cc)

pub places_tell : PlacesTell
unfolding read_log
places_tell p bytes ls torn e =
    by_size (nat_lt (length bytes) 5) (same_bytes bytes (take (length bytes) (header p.format)))
    (same_bytes (take 5 bytes) (header p.format))
    (read_frames p 5 nothing_seen 0 (drop 5 bytes)) ls torn (reads (placed_records p bytes)) (short p bytes)
    (λ h. told p 5 5 nothing_seen 0 (drop 5 bytes) ls torn h) e

-- Frame by frame.

pub no_frame : (p : LogForm) (place : ℕ) (rest : List ℕ) → first_frame p.format rest ≡ None
    → placed_in p place 0 rest ≡ []
unfolding placed_in
no_frame p place [] e = refl
no_frame p place (b ∷ bs) e = ap (λ o. placed_by p place o (λ at k. placed_in p at k bs)) e

passed_places : (p : LogForm) (place k : ℕ) (xs : List ℕ)
    → placed_in p place k xs ≡ placed_in p place 0 (drop k xs)
unfolding placed_in
passed_places p place zero xs = refl
passed_places p place (suc k) [] = refl
passed_places p place (suc k) (b ∷ bs) = passed_places p place k bs

-- where the frame after one begins
abbrev pub next : LogForm → ℕ → Cut → ℕ
next p place c = place + suc (size_bytes p.format) + length c.1

-- the record of a frame, and those after it
pub step : (p : LogForm) (place : ℕ) (xs : List ℕ) (c : Cut) → first_frame p.format xs ≡ Some c
    → placed_in p place 0 xs ≡ and_placed place (read_record p c.0 c.1) (placed_in p (next p place c) 0 c.2)
unfolding placed_in
step p place [] c e = let never = sym (no_bytes p.format) ∙ e in absurd (cc)
step p place (b ∷ bs) c e =
    let k = is_behind p.format b bs c e in
    ap (λ o. placed_by p place o (λ at n. placed_in p at n bs)) e
    ∙ ap (and_placed place (read_record p c.0 c.1))
    (passed_places p (next p place c) (size_bytes p.format + length c.1) bs
    ∙ ap (placed_in p (next p place c) 0) k.left)

-- the bytes of a frame, and those after it
pub frame_size : (f : LogFormat) (xs : List ℕ) (c : Cut) → first_frame f xs ≡ Some c
    → length xs ≡ suc (size_bytes f) + length c.1 + length c.2
frame_size f [] c e = let never = sym (no_bytes f) ∙ e in absurd (cc)
frame_size f (b ∷ bs) c e =
    let k = is_behind f b bs c e in
    omega (arith, k.fits, ap length k.left, length-drop (size_bytes f + length c.1) bs)

-- The records, one by one.

pub stops : (p : LogForm) (place : ℕ) (rest : List ℕ) (c : Cut) → first_frame p.format rest ≡ Some c
    → read_record p c.0 c.1 ≡ None → placed_in p place 0 rest ≡ []
stops p place rest c e none = step p place rest c e
    ∙ ap (λ o. and_placed place o (placed_in p (next p place c) 0 c.2)) none

pub goes_on : (p : LogForm) (place : ℕ) (rest : List ℕ) (c : Cut) (l : LogRecord)
    → first_frame p.format rest ≡ Some c
    → read_record p c.0 c.1 ≡ Some l
    → placed_in p place 0 rest ≡ placed place l ∷ placed_in p (next p place c) 0 c.2
goes_on p place rest c l e is = step p place rest c e
    ∙ ap (λ o. and_placed place o (placed_in p (next p place c) 0 c.2)) is
