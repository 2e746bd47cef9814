-- Reading a log from its first frame on.
use Rattle.std.proofs.Common.{◌≡◌, ◌≤◌, ◌+◌, ◌*◌, ◌-◌, ℕ, zero, suc, true, List, [], ◌∷◌, ◌++◌, length, take, drop, Option, Some, None, refl, sym, ap, ◌∙◌, arith, append_assoc, take-append-drop, length-append}
use Rattle.std.proofs.lemmas.List.{take_all}
use Rattle.protocol.specs.declared.records.LogRecord.{LogRecord}
use Rattle.log_text.specs.declared.form.LogForm.{LogForm}
use Rattle.log_text.specs.declared.form.LogFormat.{LogFormat}
use Rattle.log_text.specs.declared.form.LogFormat.TheVariants.{First, Second}
use Rattle.log_text.specs.Forms.{size_bytes}
use Rattle.log_text.specs.Frames.{Cut, cut_at, first_frame}
use Rattle.log_text.specs.Reading.{read_record}
use Rattle.log_rules.specs.order.Orders.{SeenLog, after, nothing_seen}
use Rattle.log_rules.specs.order.Logs.{LogReading, Whole, Damaged, frame_by, read_frames, record_by, seen_by, with_first}
use Rattle.log_records.specs.Texts.{and_records, is_whole, records_in, whole_if}
use Rattle.log_records.specs.Openings.{EndsTorn, after_frame}
use Rattle.log_records.proofs.Frames.{Cuts, cut_there, cuts, is_behind, more_records, more_whole, no_bytes, nothing_whole, no_records, step, step_whole, taken}

abbrev pub with_all : List LogRecord → LogReading → LogReading
with_all [] r = r
with_all (l ∷ ls) r = with_first l (with_all ls r)

with_all_more : (xs : List LogRecord) (l : LogRecord) (r : LogReading)
    → with_all (xs ++ l ∷ []) r ≡ with_all xs (with_first l r)
with_all_more [] l r = refl
with_all_more (x ∷ xs) l r = ap (with_first x) (with_all_more xs l r)

pub with_all_whole : (xs : List LogRecord) (torn : ℕ) → with_all xs (Whole [] torn) ≡ Whole xs torn
with_all_whole [] torn = refl
with_all_whole (x ∷ xs) torn = ap (with_first x) (with_all_whole xs torn)

pub with_all_damaged : (xs : List LogRecord) (place : ℕ) → with_all xs (Damaged place) ≡ Damaged place
with_all_damaged [] place = refl
with_all_damaged (x ∷ xs) place = ap (with_first x) (with_all_damaged xs place)

-- One frame.

passed_read : (p : LogForm) (place : ℕ) (s : SeenLog) (k : ℕ) (xs : List ℕ)
    → read_frames p place s k xs ≡ read_frames p place s 0 (drop k xs)
unfolding read_frames
passed_read p place s zero xs = refl
passed_read p place s (suc k) [] = refl
passed_read p place s (suc k) (b ∷ bs) = passed_read p place s k bs

-- what one frame makes of the reading
abbrev pub reads_one : LogForm → ℕ → SeenLog → Cut → LogReading
reads_one p place s c = record_by place s (read_record p c.0 c.1)
    (λ t. read_frames p (place + suc (size_bytes p.format) + length c.1) t 0 c.2)

seen_by_same : (place : ℕ) (l : LogRecord) (o : Option SeenLog) (f g : SeenLog → LogReading)
    → ((t : SeenLog) → f t ≡ g t) → seen_by place l o f ≡ seen_by place l o g
seen_by_same place l None f g h = refl
seen_by_same place l (Some t) f g h = ap (with_first l) (h t)

record_by_same : (place : ℕ) (s : SeenLog) (o : Option LogRecord) (f g : SeenLog → LogReading)
    → ((t : SeenLog) → f t ≡ g t) → record_by place s o f ≡ record_by place s o g
record_by_same place s None f g h = refl
record_by_same place s (Some l) f g h = seen_by_same place l (after s l) f g h

pub step_read : (p : LogForm) (place : ℕ) (s : SeenLog) (xs : List ℕ) (c : Cut)
    → first_frame p.format xs ≡ Some c
    → read_frames p place s 0 xs ≡ reads_one p place s c
unfolding read_frames
step_read p place s [] c e = let never = sym (no_bytes p.format) ∙ e in absurd (cc)
step_read p place s (b ∷ bs) c e =
    let k = is_behind p.format b bs c e in
    ap (λ o. frame_by p place s (length (b ∷ bs)) o (λ at t n. read_frames p at t n bs)) e
    ∙ record_by_same place s (read_record p c.0 c.1)
    (λ t. read_frames p (place + suc (size_bytes p.format) + length c.1) t
    (size_bytes p.format + length c.1) bs)
    (λ t. read_frames p (place + suc (size_bytes p.format) + length c.1) t 0 c.2)
    (λ t. passed_read p (place + suc (size_bytes p.format) + length c.1) t
    (size_bytes p.format + length c.1) bs
    ∙ ap (read_frames p (place + suc (size_bytes p.format) + length c.1) t 0) k.left)

drop_nil : (n : ℕ) → ◌≡◌ {A = List ℕ} (drop n []) []
drop_nil zero = refl
drop_nil (suc n) = refl

drop_all : (n : ℕ) (xs : List ℕ) → length xs ≤ n → drop n xs ≡ []
drop_all n [] h = drop_nil n
drop_all zero (x ∷ xs) h = absurd (omega arith)
drop_all (suc n) (x ∷ xs) h = drop_all n xs (omega arith)

-- a frame and what is after it
pub record Frame (f : LogFormat) (xs : List ℕ) (c : Cut) : Type 0 where
  pub frame : List ℕ
  pub split : xs ≡ frame ++ c.2
  pub alone : first_frame f frame ≡ Some (c.0, c.1, [])
  pub size : length frame ≡ suc (size_bytes f) + length c.1

-- a payload that is cut off alone
cut_alone : (kind n : ℕ) (rest : List ℕ) (c : Cut) → Cuts kind n rest c
    → cut_at kind n (take n rest) ≡ Some (c.0, c.1, [])
cut_alone kind n rest c k =
    let long = taken n rest k.fits in
    cut_there kind n (take n rest) (omega (arith, long))
    ∙ ap Some (ap (λ t. (kind, t, drop n (take n rest))) (take_all n (take n rest) (omega (arith, long)))
    ∙ ap (λ t. (kind, take n rest, t)) (drop_all n (take n rest) (omega (arith, long)))
    ∙ ap (λ z. (z.0, z.1, [])) (sym k.is))

-- N bytes are those that are cut off, and the others
cut_split : (kind n : ℕ) (rest : List ℕ) (c : Cut) → Cuts kind n rest c → rest ≡ take n rest ++ c.2
cut_split kind n rest c k = sym (take-append-drop n rest) ∙ ap (λ z. take n rest ++ z.2) (sym k.is)

cut_size : (kind n : ℕ) (rest : List ℕ) (c : Cut) → Cuts kind n rest c → length (take n rest) ≡ length c.1
cut_size kind n rest c k = ap (λ z. length z.1) (sym k.is)

pub frame_at : (f : LogFormat) (xs : List ℕ) (c : Cut) → first_frame f xs ≡ Some c → Frame f xs c
frame_at First [] c e = absurd (cc)
frame_at First (a ∷ []) c e = absurd (cc)
frame_at First (a ∷ b ∷ []) c e = absurd (cc)
frame_at First (a ∷ b ∷ d ∷ rest) c e =
    let n = b * 256 + d in
    let k = cuts a n rest c e in
    record {
      frame = a ∷ b ∷ d ∷ take n rest;
      split = ap (λ t. a ∷ b ∷ d ∷ t) (cut_split a n rest c k);
      alone = cut_alone a n rest c k;
      size = omega (arith, cut_size a n rest c k);
    }
frame_at Second [] c e = absurd (cc)
frame_at Second (a ∷ []) c e = absurd (cc)
frame_at Second (a ∷ b ∷ []) c e = absurd (cc)
frame_at Second (a ∷ b ∷ d ∷ []) c e = absurd (cc)
frame_at Second (a ∷ b ∷ d ∷ g ∷ []) c e = absurd (cc)
frame_at Second (a ∷ b ∷ d ∷ g ∷ h ∷ rest) c e =
    let n = ((b * 256 + d) * 256 + g) * 256 + h in
    let k = cuts a n rest c e in
    record {
      frame = a ∷ b ∷ d ∷ g ∷ h ∷ take n rest;
      split = ap (λ t. a ∷ b ∷ d ∷ g ∷ h ∷ t) (cut_split a n rest c k);
      alone = cut_alone a n rest c k;
      size = omega (arith, cut_size a n rest c k);
    }

-- The loop.

-- so much was read, and the rest is to be read
pub record Reads (p : LogForm) (bytes : List ℕ) (s : SeenLog) (rest : List ℕ) : Type 0 where
  pub sound : List ℕ
  pub split : bytes ≡ sound ++ rest
  pub whole : is_whole p 0 sound ≡ true
  pub read : read_frames p 5 nothing_seen 0 bytes
      ≡ with_all (records_in p 0 sound) (read_frames p (5 + length sound) s 0 rest)

pub reads_first : (p : LogForm) (bytes : List ℕ) (s : SeenLog) → s ≡ nothing_seen → Reads p bytes s bytes
reads_first p bytes s e = record {
  sound = [];
  split = refl;
  whole = nothing_whole p;
  read = ap (λ t. read_frames p 5 t 0 bytes) (sym e)
      ∙ ap (λ ls. with_all ls (read_frames p 5 s 0 bytes)) (sym (no_records p));
}

reads_record : (p : LogForm) (place : ℕ) (s t : SeenLog) (c : Cut) (l : LogRecord)
    → read_record p c.0 c.1 ≡ Some l → after s l ≡ Some t
    → reads_one p place s c ≡ with_first l (read_frames p
    (place + suc (size_bytes p.format) + length c.1) t 0 c.2)
reads_record p place s t c l r f =
    ap (λ o. record_by place s o (λ u. read_frames p
    (place + suc (size_bytes p.format) + length c.1) u 0 c.2)) r
    ∙ ap (λ o. seen_by place l o (λ u. read_frames p
    (place + suc (size_bytes p.format) + length c.1) u 0 c.2)) f

reads_on : (p : LogForm) (bytes rest : List ℕ) (s t : SeenLog) (c : Cut) (l : LogRecord)
    → Reads p bytes s rest → first_frame p.format rest ≡ Some c
    → read_record p c.0 c.1 ≡ Some l → after s l ≡ Some t → Reads p bytes t c.2
reads_on p bytes rest s t c l h e r f =
    let a = frame_at p.format rest c e in
    let own : records_in p 0 a.frame ≡ l ∷ [] = step p a.frame (c.0, c.1, []) a.alone
    ∙ ap (λ o. and_records o (records_in p 0 [])) r ∙ ap (λ ls. l ∷ ls) (no_records p) in
    let own_whole : is_whole p 0 a.frame ≡ true = step_whole p a.frame (c.0, c.1, []) a.alone
    ∙ ap (λ o. whole_if o (is_whole p 0 [])) r ∙ nothing_whole p in
    let all : records_in p 0 (h.sound ++ a.frame) ≡ records_in p 0 h.sound ++ l ∷ [] =
    more_records p 0 h.sound a.frame h.whole ∙ ap (λ ls. records_in p 0 h.sound ++ ls) own in
    let place : 5 + length h.sound + suc (size_bytes p.format) + length c.1
    ≡ 5 + length (h.sound ++ a.frame) =
    omega (arith, length-append h.sound a.frame, a.size) in
    record {
      sound = h.sound ++ a.frame;
      split = h.split ∙ ap (λ z. h.sound ++ z) a.split ∙ sym (append_assoc h.sound a.frame c.2);
      whole = more_whole p 0 h.sound a.frame h.whole own_whole;
      read = h.read ∙ ap (with_all (records_in p 0 h.sound))
          (step_read p (5 + length h.sound) s rest c e ∙ reads_record p (5 + length h.sound) s t c l r f
          ∙ ap (λ n. with_first l (read_frames p n t 0 c.2)) place)
          ∙ sym (with_all_more (records_in p 0 h.sound) l
          (read_frames p (5 + length (h.sound ++ a.frame)) t 0 c.2))
          ∙ ap (λ ls. with_all ls (read_frames p (5 + length (h.sound ++ a.frame)) t 0 c.2)) (sym all);
    }

-- the record of the frame may follow
pub reads_next : (p : LogForm) (bytes rest : List ℕ) (s t : SeenLog) (c : Cut) → Reads p bytes s rest
    → first_frame p.format rest ≡ Some c → after_frame s (read_record p c.0 c.1) ≡ Some t
    → Reads p bytes t c.2
reads_next p bytes rest s t c h e f = by_record (read_record p c.0 c.1) refl f
  where
    by_record : (o : Option LogRecord) → read_record p c.0 c.1 ≡ o → after_frame s o ≡ Some t
        → Reads p bytes t c.2
    by_record None r k = absurd (cc)
    by_record (Some l) r k = reads_on p bytes rest s t c l h e r k

pub torn_read : (p : LogForm) (place : ℕ) (s : SeenLog) (rest : List ℕ) → first_frame p.format rest ≡ None
    → read_frames p place s 0 rest ≡ Whole [] (length rest)
unfolding read_frames
torn_read p place s [] e = refl
torn_read p place s (b ∷ bs) e = ap (λ o. frame_by p place s (suc (length bs)) o
    (λ at t k. read_frames p at t k bs)) e

read_all : (p : LogForm) (bytes rest : List ℕ) (s : SeenLog) (h : Reads p bytes s rest)
    → first_frame p.format rest ≡ None
    → read_frames p 5 nothing_seen 0 bytes ≡ Whole (records_in p 0 h.sound) (length rest)
read_all p bytes rest s h e =
    h.read ∙ ap (with_all (records_in p 0 h.sound)) (torn_read p (5 + length h.sound) s rest e)
    ∙ with_all_whole (records_in p 0 h.sound) (length rest)

pub reads_all : (p : LogForm) (bytes rest : List ℕ) (s : SeenLog) → Reads p bytes s rest
    → first_frame p.format rest ≡ None → EndsTorn p bytes (length rest)
reads_all p bytes rest s h e = record {
  sound = h.sound;
  tail = rest;
  split = h.split;
  size = refl;
  whole = h.whole;
  read = read_all p bytes rest s h e;
}

place_of : (bytes sound rest : List ℕ) → bytes ≡ sound ++ rest
    → 5 + length sound ≡ 5 + (length bytes - length rest)
place_of bytes sound rest e = omega (arith, ap length e, length-append sound rest)

damaged_at : (p : LogForm) (bytes rest : List ℕ) (s : SeenLog) (h : Reads p bytes s rest)
    (place : ℕ)
    → place ≡ 5 + (length bytes - length rest)
    → read_frames p (5 + length h.sound) s 0 rest ≡ Damaged (5 + length h.sound)
    → read_frames p 5 nothing_seen 0 bytes ≡ Damaged place
damaged_at p bytes rest s h place e d =
    h.read ∙ ap (with_all (records_in p 0 h.sound)) d
    ∙ with_all_damaged (records_in p 0 h.sound) (5 + length h.sound)
    ∙ ap Damaged (place_of bytes h.sound rest h.split ∙ sym e)

-- no record is read there
damaged_record : (p : LogForm) (bytes rest : List ℕ) (s : SeenLog) (c : Cut) (place : ℕ)
    → Reads p bytes s rest → first_frame p.format rest ≡ Some c
    → read_record p c.0 c.1 ≡ None → place ≡ 5 + (length bytes - length rest)
    → read_frames p 5 nothing_seen 0 bytes ≡ Damaged place
damaged_record p bytes rest s c place h e r is =
    damaged_at p bytes rest s h place is (step_read p (5 + length h.sound) s rest c e
    ∙ ap (λ o. record_by (5 + length h.sound) s o
    (λ u. read_frames p (5 + length h.sound + suc (size_bytes p.format) + length c.1) u 0 c.2)) r)

-- the record may not follow
damaged_order : (p : LogForm) (bytes rest : List ℕ) (s : SeenLog) (c : Cut) (l : LogRecord)
    (place : ℕ) → Reads p bytes s rest → first_frame p.format rest ≡ Some c
    → read_record p c.0 c.1 ≡ Some l → after s l ≡ None → place ≡ 5 + (length bytes - length rest)
    → read_frames p 5 nothing_seen 0 bytes ≡ Damaged place
damaged_order p bytes rest s c l place h e r f is =
    damaged_at p bytes rest s h place is (step_read p (5 + length h.sound) s rest c e
    ∙ ap (λ o. record_by (5 + length h.sound) s o
    (λ u. read_frames p (5 + length h.sound + suc (size_bytes p.format) + length c.1) u 0 c.2)) r
    ∙ ap (λ o. seen_by (5 + length h.sound) l o
    (λ u. read_frames p (5 + length h.sound + suc (size_bytes p.format) + length c.1) u 0 c.2)) f)

-- there is no record, or it may not follow
pub damaged_next : (p : LogForm) (bytes rest : List ℕ) (s : SeenLog) (c : Cut) (place : ℕ)
    → Reads p bytes s rest → first_frame p.format rest ≡ Some c → after_frame s (read_record p c.0 c.1) ≡ None
    → place ≡ 5 + (length bytes - length rest) → read_frames p 5 nothing_seen 0 bytes ≡ Damaged place
damaged_next p bytes rest s c place h e f is = by_record (read_record p c.0 c.1) refl f
  where
    by_record : (o : Option LogRecord) → read_record p c.0 c.1 ≡ o → after_frame s o ≡ None
        → read_frames p 5 nothing_seen 0 bytes ≡ Damaged place
    by_record None r k = damaged_record p bytes rest s c place h e r is
    by_record (Some l) r k = damaged_order p bytes rest s c l place h e r k is
