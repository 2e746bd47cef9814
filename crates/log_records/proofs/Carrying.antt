-- A log of the first format that is carried over into the second.
use Rattle.std.proofs.Common.{◌≡◌, ◌<◌, ◌≤◌, ◌+◌, ℕ, zero, suc, true, false, List, [], ◌∷◌, ◌++◌, length, take, drop, Option, Some, None, refl, sym, ap, subst, ◌∙◌, arith, nat_lt, length-append, length-take}
use Rattle.std.specs.List.{AllByRecursion}
use Rattle.std.proofs.lemmas.Bool.Decides.{nat_tests}
use Rattle.protocol.specs.declared.names.Kind.{Kind}
use Rattle.protocol.specs.declared.records.LogRecord.{LogRecord}
use Rattle.protocol.specs.Records.{same_bytes}
use Rattle.log_text.specs.declared.form.LogForm.{LogForm}
use Rattle.log_text.specs.declared.form.LogFormat.{LogFormat}
use Rattle.log_text.specs.declared.form.LogFormat.TheVariants.{First, Second}
use Rattle.log_text.specs.Forms.{header, old_form, size_bytes}
use Rattle.log_text.specs.Frames.{Cut, first_frame}
use Rattle.log_text.specs.Payloads.{FitsFrame, kind_byte, payload_text, record_text, records_text}
use Rattle.log_text.specs.Reading.{read_record}
use Rattle.log_rules.specs.order.Logs.{LogReading, Whole, Damaged, read_frames, read_log, record_by, seen_by, with_first}
use Rattle.log_rules.specs.order.Orders.{SeenLog, after, nothing_seen}
use Rattle.log_rules.specs.sound.Sound.{IsSound}
use Rattle.log_rules.proofs.sound.Records.{records_read_back}
use Rattle.log_rules.proofs.sound.Sizes.{records_fit_frames, sound_fits}
use Rattle.log_records.specs.Sights.{AreRecords, CanStandInForm}
use Rattle.log_records.specs.declared.opening.StoreText.{StoreText}
use Rattle.log_records.specs.declared.opening.StoreText.TheVariants.{Empty, Sound}
use Rattle.log_records.specs.Openings.{IsLogFound, is_old}
use Rattle.log_records.specs.Migrating.{Carries}
use Rattle.log_records.proofs.Frames.{header_dropped, header_long, no_frame, own_frame, shorter, step}
use Rattle.log_records.proofs.Openings.{step_read, torn_read}
use Rattle.log_records.proofs.Settling.{read_by, same_bytes_is}
use Rattle.log_records.proofs.SoundRecords.{sound_is_record}
use Rattle.log_records.specs.Texts.{and_records, records_in}

-- sound records can be in a log, and fit its frames
pub all_stand : (k : Kind) (ls : List LogRecord) → AllByRecursion (IsSound k) ls → AreRecords k ls
all_stand k [] h = tt
all_stand k (l ∷ ls) h = (sound_is_record k l h.0, all_stand k ls h.1)

pub all_fit : (k : Kind) (ls : List LogRecord) → AllByRecursion (IsSound k) ls → AllByRecursion FitsFrame ls
all_fit k [] h = tt
all_fit k (l ∷ ls) h = (sound_fits k l h.0, all_fit k ls h.1)

-- What reads as records reads as these in any form in which they stand.

whole_first : (l : LogRecord) (r : LogReading) (ls : List LogRecord) (torn : ℕ)
    → with_first l r ≡ Whole ls torn
    → (ms : List LogRecord) × (r ≡ Whole ms torn) × (ls ≡ l ∷ ms)
whole_first l (Whole ms n) ls torn e = (ms, cc, cc)
whole_first l (Damaged place) ls torn e = absurd (cc)

-- the records of a text, from a place on and after what was seen
abbrev Again : LogForm → SeenLog → List LogRecord → Type 0
Again q s ls = (at : ℕ) → read_frames q at s 0 (records_text q ls) ≡ Whole ls 0

again_none : (q : LogForm) (s : SeenLog) → Again q s []
unfolding records_text
again_none q s at = torn_read q at s [] (nothing q.format)
  where
    nothing : (f : LogFormat) → first_frame f [] ≡ None
    nothing First = refl
    nothing Second = refl

again_more : (q : LogForm) (s t : SeenLog) (l : LogRecord) (ls : List LogRecord) → CanStandInForm q l
    → after s l ≡ Some t
    → Again q t ls → Again q s (l ∷ ls)
unfolding records_text record_text
again_more q s t l ls stands follows more at =
    step_read q at s (record_text q l ++ records_text q ls) _
    (own_frame q.format (kind_byte l.entry) (payload_text q l.parent l.entry) (records_text q ls)
    stands.fits.short)
    ∙ ap (λ o. record_by at s o (λ u. read_frames q
    (at + suc (size_bytes q.format) + length (payload_text q l.parent l.entry)) u 0 (records_text q ls)))
    stands.again
    ∙ ap (λ o. seen_by at l o (λ u. read_frames q
    (at + suc (size_bytes q.format) + length (payload_text q l.parent l.entry)) u 0 (records_text q ls)))
    follows
    ∙ ap (with_first l) (more (at + suc (size_bytes q.format) + length (payload_text q l.parent l.entry)))

-- the records that are read of these bytes are read again
abbrev ReadAgain : LogForm → LogForm → List ℕ → Type 0
ReadAgain p q xs = (place : ℕ) (s : SeenLog) (ls : List LogRecord) (torn : ℕ)
    → read_frames p place s 0 xs ≡ Whole ls torn
    → AllByRecursion (IsSound q.kind) ls → Again q s ls

module _ (p q : LogForm) where
  by_order : (place : ℕ) (s : SeenLog) (c : Cut) (l : LogRecord) (ls : List LogRecord) (torn : ℕ)
      → ReadAgain p q c.2
      → (o : Option SeenLog) → after s l ≡ o
      → seen_by place l o (λ t. read_frames p (place + suc (size_bytes p.format) + length c.1) t 0 c.2)
      ≡ Whole ls torn
      → AllByRecursion (IsSound q.kind) ls → Again q s ls
  by_order place s c l ls torn more None follows e sound = absurd (cc)
  by_order place s c l ls torn more (Some t) follows e sound =
      let w = whole_first l (read_frames p (place + suc (size_bytes p.format) + length c.1) t 0 c.2) ls torn e
      in
      let parts : AllByRecursion (IsSound q.kind) (l ∷ w.0) =
      subst (AllByRecursion (IsSound q.kind)) w.2 sound in
      subst (Again q s) (sym w.2)
      (again_more q s t l w.0 (record {
        fits = records_fit_frames q l parts.0;
        again = records_read_back q l parts.0;
      }) follows (more (place + suc (size_bytes p.format) + length c.1) t w.0 torn w.1 parts.1))

  by_record : (place : ℕ) (s : SeenLog) (c : Cut) (ls : List LogRecord) (torn : ℕ) → ReadAgain p q c.2
      → (o : Option LogRecord)
      → record_by place s o (λ t. read_frames p (place + suc (size_bytes p.format) + length c.1) t 0 c.2)
      ≡ Whole ls torn
      → AllByRecursion (IsSound q.kind) ls → Again q s ls
  by_record place s c ls torn more None e sound = absurd (cc)
  by_record place s c ls torn more (Some l) e sound =
      by_order place s c l ls torn more (after s l) refl e sound

  by_frame : (xs : List ℕ) (o : Option Cut) → first_frame p.format xs ≡ o
      → ((c : Cut) → length c.2 < length xs → ReadAgain p q c.2) → ReadAgain p q xs
  by_frame xs None f more place s ls torn e sound =
      let none : ls ≡ [] = no_records (sym (torn_read p place s xs f) ∙ e) in
      subst (Again q s) (sym none) (again_none q s)
    where
      no_records : Whole [] (length xs) ≡ Whole ls torn → ls ≡ []
      no_records h = cc
  by_frame xs (Some c) f more place s ls torn e sound =
      by_record place s c ls torn (more c (shorter p.format xs c f)) (read_record p c.0 c.1)
      (sym (step_read p place s xs c f) ∙ e) sound

  read_again_in : (most : ℕ) (xs : List ℕ) → length xs < most → ReadAgain p q xs
  read_again_in zero xs h = absurd (omega arith)
  read_again_in (suc most) xs h =
      by_frame xs (first_frame p.format xs) refl (λ c less. read_again_in most c.2 (omega (arith, h, less)))

  pub read_again : (xs : List ℕ) → ReadAgain p q xs
  read_again xs = read_again_in (suc (length xs)) xs (omega arith)

-- What is read of bytes are the records in them.

abbrev AreIn : LogForm → List ℕ → Type 0
AreIn p xs = (place : ℕ) (s : SeenLog) (ls : List LogRecord) (torn : ℕ)
    → read_frames p place s 0 xs ≡ Whole ls torn
    → records_in p 0 xs ≡ ls

module _ (p : LogForm) where
  in_order : (place : ℕ) (c : Cut) (l : LogRecord) (ls : List LogRecord) (torn : ℕ) → AreIn p c.2
      → (o : Option SeenLog)
      → seen_by place l o (λ t. read_frames p (place + suc (size_bytes p.format) + length c.1) t 0 c.2)
      ≡ Whole ls torn
      → l ∷ records_in p 0 c.2 ≡ ls
  in_order place c l ls torn more None e = absurd (cc)
  in_order place c l ls torn more (Some t) e =
      let w = whole_first l (read_frames p (place + suc (size_bytes p.format) + length c.1) t 0 c.2) ls torn e
      in
      ap (λ ms. l ∷ ms) (more (place + suc (size_bytes p.format) + length c.1) t w.0 torn w.1) ∙ sym w.2

  in_record : (place : ℕ) (s : SeenLog) (c : Cut) (ls : List LogRecord) (torn : ℕ) → AreIn p c.2
      → (o : Option LogRecord)
      → record_by place s o (λ t. read_frames p (place + suc (size_bytes p.format) + length c.1) t 0 c.2)
      ≡ Whole ls torn
      → and_records o (records_in p 0 c.2) ≡ ls
  in_record place s c ls torn more None e = absurd (cc)
  in_record place s c ls torn more (Some l) e = in_order place c l ls torn more (after s l) e

  in_frame : (xs : List ℕ) (o : Option Cut) → first_frame p.format xs ≡ o
      → ((c : Cut) → length c.2 < length xs → AreIn p c.2) → AreIn p xs
  in_frame xs None f more place s ls torn e = no_frame p xs f ∙ none (sym (torn_read p place s xs f) ∙ e)
    where
      none : Whole [] (length xs) ≡ Whole ls torn → [] ≡ ls
      none h = cc
  in_frame xs (Some c) f more place s ls torn e =
      step p xs c f
      ∙ in_record place s c ls torn (more c (shorter p.format xs c f)) (read_record p c.0 c.1)
      (sym (step_read p place s xs c f) ∙ e)

  read_records_in : (most : ℕ) (xs : List ℕ) → length xs < most → AreIn p xs
  read_records_in zero xs h = absurd (omega arith)
  read_records_in (suc most) xs h =
      in_frame xs (first_frame p.format xs) refl (λ c less. read_records_in most c.2 (omega (arith, h, less)))

  pub read_records : (xs : List ℕ) → AreIn p xs
  read_records xs = read_records_in (suc (length xs)) xs (omega arith)

-- A log that has its header is read from the bytes after it on.

begins : (f : LogFormat) (xs : List ℕ) → same_bytes (take 5 (header f ++ xs)) (header f) ≡ true
unfolding same_bytes
begins First xs = refl
begins Second xs = refl

long : (xs : List ℕ) → 5 ≤ length xs → nat_lt (length xs) 5 ≡ false
long xs h = grind (arith, nat_tests)

pub behind_header : (p : LogForm) (xs : List ℕ) → read_log p (header p.format ++ xs)
    ≡ read_frames p 5 nothing_seen 0 xs
behind_header p xs =
    read_by p (header p.format ++ xs) false true (Damaged 0)
    (long (header p.format ++ xs) (omega (arith, header_long p.format, length-append (header p.format) xs)))
    (begins p.format xs) refl refl
    ∙ ap (read_frames p 5 nothing_seen 0) (header_dropped p.format xs)

-- the records of a log are carried over
pub carries : (p : LogForm) (old new : List ℕ) (records : List LogRecord) (torn : ℕ)
    → read_log (old_form p) old ≡ read_frames (old_form p) 5 nothing_seen 0 (drop 5 old)
    → (sound : List LogRecord) → read_frames (old_form p) 5 nothing_seen 0 (drop 5 old) ≡ Whole sound torn
    → records ≡ records_in (old_form p) 0 (drop 5 old) → AllByRecursion (IsSound p.kind) records
    → new ≡ header p.format ++ records_text p records → Carries p old new
carries p old new records torn whole sound read are fit text =
    let same : records ≡ sound = are ∙ read_records (old_form p) (drop 5 old) 5 nothing_seen sound torn read
    in
    let frames : read_frames (old_form p) 5 nothing_seen 0 (drop 5 old) ≡ Whole records torn =
    read ∙ ap (λ ls. Whole ls torn) (sym same) in
    record {
      records = records;
      torn = torn;
      read = whole ∙ frames;
      text = text;
      again = ap (read_log p) text ∙ behind_header p (records_text p records)
          ∙ read_again (old_form p) p (drop 5 old) 5 nothing_seen records torn frames fit 5;
    }

-- a log of the first format has its header
pub old_long : (bytes : List ℕ) → is_old bytes ≡ true → 5 ≤ length bytes
old_long bytes old = omega (
  arith,
  ap length (same_bytes_is (take 5 bytes) (header First) old),
  length-take 5 bytes,
)

-- what a log that has its header was found to be
pub found_whole : (p : LogForm) (bytes : List ℕ) (found : StoreText) → 5 ≤ length bytes
    → IsLogFound p bytes found
    → (ls : List LogRecord) × (torn : ℕ)
    × (read_log p bytes ≡ read_frames p 5 nothing_seen 0 (drop 5 bytes))
    × (read_frames p 5 nothing_seen 0 (drop 5 bytes) ≡ Whole ls torn)
found_whole p bytes Empty long is = absurd (omega (arith, long, is.0))
found_whole p bytes (Sound torn) long is = (records_in p 0 is.2.sound, torn, is.3, is.2.read)
