-- Frames, one after the other.
use Rattle.std.proofs.Common.{◌≡◌, ◌≤◌, ◌<◌, ◌+◌, ◌*◌, ℕ, zero, suc, Bool, true, false, List, [], ◌∷◌, ◌++◌, length, take, drop, Option, Some, None, refl, sym, ap, ◌∙◌, arith, nat_lt, if◌then◌else◌, append-nil, take-append-drop, slice_index}
use Rattle.std.proofs.Math.Seq.{drop-append_seam, take-append_seam}
use Rattle.std.proofs.lemmas.Bool.Decides.{nat_tests}
use Rattle.std.proofs.lemmas.List.{take-append-le, drop-append-le, length-drop}
use Rattle.std.proofs.Common.{length-append, length-take}
use Rattle.byteorder.specs.Endian.{big_bytes}
use Rattle.byteorder.specs.Numbers.{big_number-reads_back}
use Rattle.protocol.specs.declared.records.LogRecord.{LogRecord}
use Rattle.log_text.specs.declared.form.LogForm.{LogForm}
use Rattle.log_text.specs.declared.form.LogFormat.{LogFormat}
use Rattle.log_text.specs.declared.form.LogFormat.TheVariants.{First, Second}
use Rattle.log_text.specs.Forms.{header, size_bytes, size_limit}
use Rattle.log_text.specs.Frames.{Cut, cut_at, first_frame, frame_text}
use Rattle.log_text.specs.Payloads.{kind_byte, payload_text, record_text}
use Rattle.log_text.specs.Reading.{read_record}
use Rattle.log_records.specs.Sights.{CanStandInForm}
use Rattle.log_records.specs.Texts.{and_records, is_whole, records_by, records_in, whole_by, whole_if}

-- The header.

pub header_long : (f : LogFormat) → length (header f) ≡ 5
header_long First = refl
header_long Second = refl

pub header_taken : (f : LogFormat) (xs : List ℕ) → take 5 (header f ++ xs) ≡ header f
header_taken First xs = refl
header_taken Second xs = refl

pub header_dropped : (f : LogFormat) (xs : List ℕ) → drop 5 (header f ++ xs) ≡ xs
header_dropped First xs = refl
header_dropped Second xs = refl

-- The first frame.

-- what is cut off: the first bytes, and those after them
pub record Cuts (kind size : ℕ) (rest : List ℕ) (c : Cut) : Type 0 where
  pub fits : size ≤ length rest
  pub is : c ≡ (kind, take size rest, drop size rest)

cuts_by : (b : Bool) (kind size : ℕ) (rest : List ℕ) (c : Cut) → nat_lt (length rest) size ≡ b
    → ◌≡◌ {A = Option Cut} (if b then None else Some (kind, take size rest, drop size rest)) (Some c)
    → Cuts kind size rest c
cuts_by true kind size rest c t e = absurd (cc)
cuts_by false kind size rest c t e = record { fits = grind (arith, nat_tests); is = cc }

pub cuts : (kind size : ℕ) (rest : List ℕ) (c : Cut) → cut_at kind size rest ≡ Some c → Cuts kind size rest c
cuts kind size rest c e = cuts_by (nat_lt (length rest) size) kind size rest c refl e

pub cut_there : (kind size : ℕ) (rest : List ℕ) → size ≤ length rest
    → cut_at kind size rest ≡ Some (kind, take size rest, drop size rest)
cut_there kind size rest le =
    let t : nat_lt (length rest) size ≡ false = grind (arith, nat_tests) in
    ap (λ b. if b then None else Some (kind, take size rest, drop size rest)) t

abbrev with_more : Cut → List ℕ → Cut
with_more c ys = (c.0, c.1, c.2 ++ ys)

cut_more : (kind size : ℕ) (rest ys : List ℕ) (c : Cut) → cut_at kind size rest ≡ Some c
    → cut_at kind size (rest ++ ys) ≡ Some (with_more c ys)
cut_more kind size rest ys c e =
    let k = cuts kind size rest c e in
    let le : size ≤ length (rest ++ ys) = omega (arith, length-append rest ys, k.fits) in
    cut_there kind size (rest ++ ys) le
    ∙ ap Some (ap (λ t. (kind, t, drop size (rest ++ ys))) (take-append-le size rest ys k.fits)
    ∙ ap (λ d. (kind, take size rest, d)) (drop-append-le size rest ys k.fits)
    ∙ ap (λ z. with_more z ys) (sym k.is))

pub frame_more : (f : LogFormat) (xs ys : List ℕ) (c : Cut) → first_frame f xs ≡ Some c
    → first_frame f (xs ++ ys) ≡ Some (with_more c ys)
frame_more First [] ys c e = absurd (cc)
frame_more First (a ∷ []) ys c e = absurd (cc)
frame_more First (a ∷ b ∷ []) ys c e = absurd (cc)
frame_more First (a ∷ b ∷ d ∷ rest) ys c e = cut_more a (b * 256 + d) rest ys c e
frame_more Second [] ys c e = absurd (cc)
frame_more Second (a ∷ []) ys c e = absurd (cc)
frame_more Second (a ∷ b ∷ []) ys c e = absurd (cc)
frame_more Second (a ∷ b ∷ d ∷ []) ys c e = absurd (cc)
frame_more Second (a ∷ b ∷ d ∷ g ∷ []) ys c e = absurd (cc)
frame_more Second (a ∷ b ∷ d ∷ g ∷ h ∷ rest) ys c e =
    cut_more a (((b * 256 + d) * 256 + g) * 256 + h) rest ys c e

pub no_bytes : (f : LogFormat) → first_frame f [] ≡ None
no_bytes First = refl
no_bytes Second = refl

-- a frame is after its first byte: N bytes are passed over, and what is after them is what was left
pub record IsBehind (f : LogFormat) (bs : List ℕ) (c : Cut) : Type 0 where
  pub fits : size_bytes f + length c.1 ≤ length bs
  pub left : drop (size_bytes f + length c.1) bs ≡ c.2

pub taken : (size : ℕ) (rest : List ℕ) → size ≤ length rest → length (take size rest) ≡ size
taken size rest h = omega (arith, length-take size rest)

pub is_behind : (f : LogFormat) (b : ℕ) (bs : List ℕ) (c : Cut) → first_frame f (b ∷ bs) ≡ Some c
    → IsBehind f bs c
is_behind First a [] c e = absurd (cc)
is_behind First a (b ∷ []) c e = absurd (cc)
is_behind First a (b ∷ d ∷ rest) c e =
    let k = cuts a (b * 256 + d) rest c e in
    let size : length c.1 ≡ b * 256 + d = ap (λ z. length z.1) k.is ∙ taken (b * 256 + d) rest k.fits in
    let count : size_bytes First + length c.1 ≡ suc (suc (length c.1)) = omega arith in
    record {
      fits = omega (arith, count, size, k.fits);
      left = ap (λ n. drop n (b ∷ d ∷ rest)) count ∙ ap (λ n. drop n rest) size ∙ ap (λ z. z.2) (sym k.is);
    }
is_behind Second a [] c e = absurd (cc)
is_behind Second a (b ∷ []) c e = absurd (cc)
is_behind Second a (b ∷ d ∷ []) c e = absurd (cc)
is_behind Second a (b ∷ d ∷ g ∷ []) c e = absurd (cc)
is_behind Second a (b ∷ d ∷ g ∷ h ∷ rest) c e =
    let n = ((b * 256 + d) * 256 + g) * 256 + h in
    let k = cuts a n rest c e in
    let size : length c.1 ≡ n = ap (λ z. length z.1) k.is ∙ taken n rest k.fits in
    let count : size_bytes Second + length c.1 ≡ suc (suc (suc (suc (length c.1)))) = omega arith in
    record {
      fits = omega (arith, count, size, k.fits);
      left = ap (λ m. drop m (b ∷ d ∷ g ∷ h ∷ rest)) count ∙ ap (λ m. drop m rest) size
          ∙ ap (λ z. z.2) (sym k.is);
    }

-- Passing over bytes.

pub passed : (p : LogForm) (k : ℕ) (xs : List ℕ) → records_in p k xs ≡ records_in p 0 (drop k xs)
unfolding records_in
passed p zero xs = refl
passed p (suc k) [] = refl
passed p (suc k) (b ∷ bs) = passed p k bs

pub passed_whole : (p : LogForm) (k : ℕ) (xs : List ℕ) → k ≤ length xs
    → is_whole p k xs ≡ is_whole p 0 (drop k xs)
unfolding is_whole
passed_whole p zero xs h = refl
passed_whole p (suc k) [] h = absurd (omega arith)
passed_whole p (suc k) (b ∷ bs) h = passed_whole p k bs (omega arith)

-- the records are that of the first frame and those after it
pub step : (p : LogForm) (xs : List ℕ) (c : Cut) → first_frame p.format xs ≡ Some c
    → records_in p 0 xs ≡ and_records (read_record p c.0 c.1) (records_in p 0 c.2)
unfolding records_in
step p [] c e = let never = sym (no_bytes p.format) ∙ e in absurd (cc)
step p (b ∷ bs) c e =
    let k = is_behind p.format b bs c e in
    ap (λ o. records_by p o (λ n. records_in p n bs)) e
    ∙ ap (and_records (read_record p c.0 c.1))
    (passed p (size_bytes p.format + length c.1) bs ∙ ap (records_in p 0) k.left)

pub step_whole : (p : LogForm) (xs : List ℕ) (c : Cut) → first_frame p.format xs ≡ Some c
    → is_whole p 0 xs ≡ whole_if (read_record p c.0 c.1) (is_whole p 0 c.2)
unfolding is_whole
step_whole p [] c e = let never = sym (no_bytes p.format) ∙ e in absurd (cc)
step_whole p (b ∷ bs) c e =
    let k = is_behind p.format b bs c e in
    ap (λ o. whole_by p o (λ n. is_whole p n bs)) e
    ∙ ap (whole_if (read_record p c.0 c.1))
    (passed_whole p (size_bytes p.format + length c.1) bs k.fits ∙ ap (is_whole p 0) k.left)

pub shorter : (f : LogFormat) (xs : List ℕ) (c : Cut) → first_frame f xs ≡ Some c → length c.2 < length xs
shorter f [] c e = let never = sym (no_bytes f) ∙ e in absurd (cc)
shorter f (b ∷ bs) c e =
    let k = is_behind f b bs c e in
    omega (arith, ap length k.left, length-drop (size_bytes f + length c.1) bs)

pub no_frame : (p : LogForm) (xs : List ℕ) → first_frame p.format xs ≡ None → records_in p 0 xs ≡ []
unfolding records_in
no_frame p [] e = refl
no_frame p (b ∷ bs) e = ap (λ o. records_by p o (λ n. records_in p n bs)) e

-- More bytes after whole frames.

more_if : (o : Option LogRecord) (w : Bool) (xs ys zs : List LogRecord) → whole_if o w ≡ true
    → (w ≡ true → xs ≡ ys ++ zs) → and_records o xs ≡ and_records o ys ++ zs
more_if None w xs ys zs h f = absurd (cc)
more_if (Some l) w xs ys zs h f = ap (λ t. l ∷ t) (f h)

more_by : (p : LogForm) (o q : Option Cut) (bs ys : List ℕ) → whole_by p o (λ k. is_whole p k bs) ≡ true
    → ((c : Cut) → o ≡ Some c → q ≡ Some (with_more c ys))
    → ((k : ℕ) → is_whole p k bs ≡ true → records_in p k (bs ++ ys) ≡ records_in p k bs ++ records_in p 0 ys)
    → records_by p q (λ k. records_in p k (bs ++ ys)) ≡ records_by p o (λ k. records_in p k bs)
    ++ records_in p 0 ys
more_by p None q bs ys h m f = absurd (cc)
more_by p (Some c) q bs ys h m f =
    ap (λ z. records_by p z (λ k. records_in p k (bs ++ ys))) (m c refl)
    ∙ more_if (read_record p c.0 c.1) (is_whole p (size_bytes p.format + length c.1) bs)
    (records_in p (size_bytes p.format + length c.1) (bs ++ ys))
    (records_in p (size_bytes p.format + length c.1) bs)
    (records_in p 0 ys) h (f (size_bytes p.format + length c.1))

pub more_records : (p : LogForm) (k : ℕ) (xs ys : List ℕ) → is_whole p k xs ≡ true
    → records_in p k (xs ++ ys) ≡ records_in p k xs ++ records_in p 0 ys
unfolding records_in is_whole
more_records p zero [] ys h = refl
more_records p (suc k) [] ys h = absurd (grind (arith, nat_tests))
more_records p (suc k) (b ∷ bs) ys h = more_records p k bs ys h
more_records p zero (b ∷ bs) ys h =
    more_by p (first_frame p.format (b ∷ bs)) (first_frame p.format ((b ∷ bs) ++ ys)) bs ys h
    (λ c e. frame_more p.format (b ∷ bs) ys c e) (λ k w. more_records p k bs ys w)

whole_if_more : (o : Option LogRecord) (w v : Bool) → whole_if o w ≡ true → (w ≡ true → v ≡ true)
    → whole_if o v ≡ true
whole_if_more None w v h f = h
whole_if_more (Some l) w v h f = f h

whole_by_more : (p : LogForm) (o q : Option Cut) (bs ys : List ℕ) → whole_by p o (λ k. is_whole p k bs) ≡ true
    → ((c : Cut) → o ≡ Some c → q ≡ Some (with_more c ys))
    → ((k : ℕ) → is_whole p k bs ≡ true → is_whole p k (bs ++ ys) ≡ true)
    → whole_by p q (λ k. is_whole p k (bs ++ ys)) ≡ true
whole_by_more p None q bs ys h m f = absurd (cc)
whole_by_more p (Some c) q bs ys h m f =
    ap (λ z. whole_by p z (λ k. is_whole p k (bs ++ ys))) (m c refl)
    ∙ whole_if_more (read_record p c.0 c.1) (is_whole p (size_bytes p.format + length c.1) bs)
    (is_whole p (size_bytes p.format + length c.1) (bs ++ ys)) h (f (size_bytes p.format + length c.1))

pub more_whole : (p : LogForm) (k : ℕ) (xs ys : List ℕ) → is_whole p k xs ≡ true → is_whole p 0 ys ≡ true
    → is_whole p k (xs ++ ys) ≡ true
unfolding is_whole
more_whole p zero [] ys h w = w
more_whole p (suc k) [] ys h w = absurd (grind (arith, nat_tests))
more_whole p (suc k) (b ∷ bs) ys h w = more_whole p k bs ys h w
more_whole p zero (b ∷ bs) ys h w =
    whole_by_more p (first_frame p.format (b ∷ bs)) (first_frame p.format ((b ∷ bs) ++ ys)) bs ys h
    (λ c e. frame_more p.format (b ∷ bs) ys c e) (λ k v. more_whole p k bs ys v w)

-- The records of a front of the bytes are a front of their records.

abbrev pub Front : List LogRecord → List LogRecord → Type 0
Front xs ys = (rest : List LogRecord) × (xs ≡ ys ++ rest)

front_if : (o : Option LogRecord) (xs ys : List LogRecord) → Front xs ys
    → Front (and_records o xs) (and_records o ys)
front_if None xs ys f = ([], refl)
front_if (Some l) xs ys f = (f.0, ap (λ t. l ∷ t) f.1)

front_by : (p : LogForm) (o q : Option Cut) (bs cs ys : List ℕ)
    → ((c : Cut) → o ≡ Some c → q ≡ Some (with_more c ys))
    → ((k : ℕ) → Front (records_in p k bs) (records_in p k cs))
    → Front (records_by p q (λ k. records_in p k bs)) (records_by p o (λ k. records_in p k cs))
front_by p None q bs cs ys m f = (records_by p q (λ k. records_in p k bs), refl)
front_by p (Some c) q bs cs ys m f =
    let g = front_if (read_record p c.0 c.1) (records_in p (size_bytes p.format + length c.1) bs)
    (records_in p (size_bytes p.format + length c.1) cs) (f (size_bytes p.format + length c.1)) in
    (g.0, ap (λ z. records_by p z (λ k. records_in p k bs)) (m c refl) ∙ g.1)

frame_taken : (f : LogFormat) (xs : List ℕ) (n : ℕ) (c : Cut) → first_frame f (take n xs) ≡ Some c
    → first_frame f xs ≡ Some (with_more c (drop n xs))
frame_taken f xs n c e = ap (first_frame f) (sym (take-append-drop n xs))
    ∙ frame_more f (take n xs) (drop n xs) c e

pub front_of : (p : LogForm) (k n : ℕ) (xs : List ℕ) → Front (records_in p k xs) (records_in p k (take n xs))
unfolding records_in
front_of p k zero xs = (records_in p k xs, refl)
front_of p k (suc n) [] = ([], refl)
front_of p (suc k) (suc n) (b ∷ bs) = front_of p k n bs
front_of p zero (suc n) (b ∷ bs) =
    front_by p (first_frame p.format (b ∷ take n bs)) (first_frame p.format (b ∷ bs)) bs
    (take n bs) (drop n bs)
    (λ c e. frame_taken p.format (b ∷ bs) (suc n) c e) (λ k. front_of p k n bs)

-- The frame of a record.

two_bytes : (n : ℕ) (ys : List ℕ) → n < 65536
    → slice_index (big_bytes 2 n) 0 * 256 + slice_index (big_bytes 2 n) 1 ≡ n
two_bytes n ys h = let e = big_number-reads_back 2 n ys (omega arith) in omega (arith, e)

four_bytes : (n : ℕ) (ys : List ℕ) → n < 4294967296
    → ((slice_index (big_bytes 4 n) 0 * 256 + slice_index (big_bytes 4 n) 1) * 256
    + slice_index (big_bytes 4 n) 2) * 256
    + slice_index (big_bytes 4 n) 3 ≡ n
four_bytes n ys h = let e = big_number-reads_back 4 n ys (omega arith) in omega (arith, e)

cut_own : (kind size : ℕ) (payload ys : List ℕ) → size ≡ length payload
    → cut_at kind size (payload ++ ys) ≡ Some (kind, payload, ys)
cut_own kind size payload ys is =
    ap (λ n. cut_at kind n (payload ++ ys)) is
    ∙ cut_there kind (length payload) (payload ++ ys) (omega (arith, length-append payload ys))
    ∙ ap Some (ap (λ t. (kind, t, drop (length payload) (payload ++ ys))) (take-append_seam payload ys)
    ∙ ap (λ d. (kind, payload, d)) (drop-append_seam payload ys))

-- a record's frame is the first, whatever follows
pub own_frame : (f : LogFormat) (kind : ℕ) (payload ys : List ℕ) → length payload < size_limit f
    → first_frame f (frame_text f kind payload ++ ys) ≡ Some (kind, payload, ys)
unfolding frame_text
own_frame First kind payload ys short = cut_own kind _ payload ys (two_bytes (length payload) ys short)
own_frame Second kind payload ys short = cut_own kind _ payload ys (four_bytes (length payload) ys short)

pub own_record : (p : LogForm) (l : LogRecord) (ys : List ℕ) → CanStandInForm p l
    → records_in p 0 (record_text p l ++ ys) ≡ l ∷ records_in p 0 ys
unfolding record_text
own_record p l ys is =
    step p (record_text p l ++ ys) _ (own_frame p.format (kind_byte l.entry)
    (payload_text p l.parent l.entry) ys is.fits.short)
    ∙ ap (λ o. and_records o (records_in p 0 ys)) is.again

pub own_whole : (p : LogForm) (l : LogRecord) (ys : List ℕ) → CanStandInForm p l
    → is_whole p 0 (record_text p l ++ ys) ≡ is_whole p 0 ys
unfolding record_text
own_whole p l ys is =
    step_whole p (record_text p l ++ ys) _ (own_frame p.format (kind_byte l.entry)
    (payload_text p l.parent l.entry) ys is.fits.short) ∙ ap (λ o. whole_if o (is_whole p 0 ys)) is.again

pub nothing_whole : (p : LogForm) → is_whole p 0 [] ≡ true
unfolding is_whole
nothing_whole p = refl

pub no_records : (p : LogForm) → records_in p 0 [] ≡ []
unfolding records_in
no_records p = refl

pub one_record : (p : LogForm) (l : LogRecord) → CanStandInForm p l
    → records_in p 0 (record_text p l) ≡ l ∷ []
one_record p l is = ap (records_in p 0) (sym (append-nil (record_text p l))) ∙ own_record p l [] is
    ∙ ap (λ t. l ∷ t) (no_records p)

pub one_whole : (p : LogForm) (l : LogRecord) → CanStandInForm p l → is_whole p 0 (record_text p l) ≡ true
one_whole p l is = ap (is_whole p 0) (sym (append-nil (record_text p l))) ∙ own_whole p l [] is
    ∙ nothing_whole p

-- a front of a frame is no record or all of it
one_or_none : (l : LogRecord) (xs rest : List LogRecord) → l ∷ [] ≡ xs ++ rest
    → xs ≡ take (length xs) (l ∷ [])
one_or_none l [] rest e = refl
one_or_none l (x ∷ []) rest e = cc
one_or_none l (x ∷ y ∷ xs) rest e = absurd (omega (arith, ap length e, length-append (x ∷ y ∷ xs) rest))

pub front_of_frame : (p : LogForm) (l : LogRecord) (came : ℕ) → CanStandInForm p l
    → (n : ℕ) × (records_in p 0 (take came (record_text p l)) ≡ take n (l ∷ []))
front_of_frame p l came is =
    let f = front_of p 0 came (record_text p l) in (
      length (records_in p 0 (take came (record_text p l))),
      one_or_none l _ f.0 (sym (one_record p l is) ∙ f.1),
    )
