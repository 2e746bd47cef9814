-- Reading from frame to frame.
use Rattle.std.proofs.Common.{◌≡◌, ◌≤◌, ◌<◌, ◌+◌, ◌*◌, ℕ, zero, suc, List, [], ◌∷◌, ◌++◌, length, take, drop, Option, Some, None, refl, sym, ap, subst, ◌∙◌, arith, append_assoc, length-append, take-append-drop, inl, inr}
use Rattle.byteorder.specs.Endian.{big_bytes, big_number}
use Rattle.log_text.specs.declared.form.LogForm.{LogForm}
use Rattle.log_text.specs.declared.form.LogFormat.{LogFormat}
use Rattle.log_text.specs.declared.form.LogFormat.TheVariants.{First, Second}
use Rattle.log_text.specs.Forms.{size_bytes, size_limit}
use Rattle.protocol.specs.declared.records.LogRecord.{LogRecord}
use Rattle.log_text.specs.Frames.{Cut, first_frame, frame_text}
use Rattle.log_text.specs.Payloads.{kind_byte, payload_text, record_text, records_text}
use Rattle.log_text.specs.Reading.{read_record}
use Rattle.log_rules.specs.order.Logs.{Damaged, LogReading, Whole, read_frames, record_by, seen_by, with_first}
use Rattle.log_rules.specs.order.Orders.{SeenLog, after, nothing_seen}
use Rattle.log_rules.specs.sound.Written.{AreBytes, IsWrittenAs}
use Rattle.log_rules.proofs.sound.Cuts.{bytes_behind, none_some, number_again, some_is}
use Rattle.log_rules.proofs.sound.CutRecords.{read_is_written}
use Rattle.log_records.proofs.Frames.{Cuts, cuts, own_frame}
use Rattle.log_records.proofs.Within.{own_size}
use Rattle.log_records.proofs.Openings.{step_read, torn_read, with_all, with_all_damaged, with_all_whole}
use Rattle.proof_log_grammar.specs.Grammar.{BeginsWithFrames, BytesReadAsText, HasFrame, IsDamagedAt, IsText, IsWrong, admitted, and_then}

-- A frame that was cut off.

-- the frame is so written, its parts are bytes, and what is after it is shorter
pub record IsFrame (f : LogFormat) (xs : List ℕ) (c : Cut) : Type 0 where
  pub text : xs ≡ frame_text f c.0 c.1 ++ c.2
  pub payload : AreBytes c.1
  pub behind : AreBytes c.2
  pub short : length c.1 < size_limit f
  pub shorter : length c.2 < length xs
  pub place : length (frame_text f c.0 c.1) ≡ suc (size_bytes f) + length c.1

taken : (n : ℕ) (xs : List ℕ) → n ≤ length xs → length (take n xs) ≡ n
taken zero xs h = refl
taken (suc n) [] h = absurd (omega (arith, h))
taken (suc n) (x ∷ xs) h = let e = taken n xs (omega (arith, h)) in omega (arith, e)

left : (n : ℕ) (xs : List ℕ) → length (drop n xs) ≤ length xs
left zero xs = omega arith
left (suc n) [] = omega arith
left (suc n) (x ∷ xs) = let e = left n xs in omega (arith, e)

front_bytes : (n : ℕ) (xs : List ℕ) → AreBytes xs → AreBytes (take n xs)
front_bytes zero xs h i = omega arith
front_bytes (suc n) [] h i = omega arith
front_bytes (suc n) (x ∷ xs) h zero = h 0
front_bytes (suc n) (x ∷ xs) h (suc i) = front_bytes n xs (λ j. h (suc j)) i

first_by : (a b d : ℕ) (rest : List ℕ) (c : Cut) → AreBytes (a ∷ b ∷ d ∷ rest) → Cuts a (b * 256 + d) rest c
    → IsFrame First (a ∷ b ∷ d ∷ rest) c
unfolding frame_text
first_by a b d rest c h cut =
    let size = b * 256 + d in
    let behind : AreBytes (b ∷ d ∷ rest) = bytes_behind 1 (a ∷ b ∷ d ∷ rest) h in
    let after_size : AreBytes rest = bytes_behind 3 (a ∷ b ∷ d ∷ rest) h in
    let number : big_number 2 (b ∷ d ∷ rest) ≡ size = omega arith in
    let bytes : big_bytes 2 size ≡ b ∷ d ∷ [] = ap (big_bytes 2) (sym number)
    ∙ number_again 2 (b ∷ d ∷ rest) behind (omega arith) in
    let high : b < 256 = h 1 in
    let low : d < 256 = h 2 in
    let length_is : length (take size rest) ≡ size = taken size rest cut.fits in
    subst (λ (k : Cut). IsFrame First (a ∷ b ∷ d ∷ rest) k) (sym cut.is) (record {
      text = ap (λ t. a ∷ b ∷ d ∷ t) (sym (take-append-drop size rest))
          ∙ ap (λ t. a ∷ (t ++ (take size rest ++ drop size rest))) (sym (ap (big_bytes 2) length_is ∙ bytes))
          ∙ ap (λ t. a ∷ t) (sym (append_assoc (big_bytes 2 (length (take size rest))) (take size rest)
          (drop size rest)));
      payload = front_bytes size rest after_size;
      behind = bytes_behind size rest after_size;
      short = omega (arith, length_is, high, low);
      shorter = let e = left size rest in omega (arith, e);
      place = omega arith;
    })

second_by : (a b d g k : ℕ) (rest : List ℕ) (c : Cut) → AreBytes (a ∷ b ∷ d ∷ g ∷ k ∷ rest)
    → Cuts a (((b * 256 + d) * 256 + g) * 256 + k) rest c → IsFrame Second (a ∷ b ∷ d ∷ g ∷ k ∷ rest) c
unfolding frame_text
second_by a b d g k rest c h cut =
    let size = ((b * 256 + d) * 256 + g) * 256 + k in
    let behind : AreBytes (b ∷ d ∷ g ∷ k ∷ rest) = bytes_behind 1 (a ∷ b ∷ d ∷ g ∷ k ∷ rest) h in
    let after_size : AreBytes rest = bytes_behind 5 (a ∷ b ∷ d ∷ g ∷ k ∷ rest) h in
    let number : big_number 4 (b ∷ d ∷ g ∷ k ∷ rest) ≡ size = omega arith in
    let bytes : big_bytes 4 size ≡ b ∷ d ∷ g ∷ k ∷ [] = ap (big_bytes 4) (sym number)
    ∙ number_again 4 (b ∷ d ∷ g ∷ k ∷ rest) behind (omega arith) in
    let one : b < 256 = h 1 in
    let two : d < 256 = h 2 in
    let three : g < 256 = h 3 in
    let four : k < 256 = h 4 in
    let length_is : length (take size rest) ≡ size = taken size rest cut.fits in
    subst (λ (z : Cut). IsFrame Second (a ∷ b ∷ d ∷ g ∷ k ∷ rest) z) (sym cut.is) (record {
      text = ap (λ t. a ∷ b ∷ d ∷ g ∷ k ∷ t) (sym (take-append-drop size rest))
          ∙ ap (λ t. a ∷ (t ++ (take size rest ++ drop size rest))) (sym (ap (big_bytes 4) length_is ∙ bytes))
          ∙ ap (λ t. a ∷ t) (sym (append_assoc (big_bytes 4 (length (take size rest))) (take size rest)
          (drop size rest)));
      payload = front_bytes size rest after_size;
      behind = bytes_behind size rest after_size;
      short = omega (arith, length_is, one, two, three, four);
      shorter = let e = left size rest in omega (arith, e);
      place = omega arith;
    })

pub is_frame : (f : LogFormat) (xs : List ℕ) (c : Cut) → AreBytes xs → first_frame f xs ≡ Some c
    → IsFrame f xs c
is_frame First [] c h e = absurd (cc)
is_frame First (a ∷ []) c h e = absurd (cc)
is_frame First (a ∷ b ∷ []) c h e = absurd (cc)
is_frame First (a ∷ b ∷ d ∷ rest) c h e = first_by a b d rest c h (cuts a (b * 256 + d) rest c e)
is_frame Second [] c h e = absurd (cc)
is_frame Second (a ∷ []) c h e = absurd (cc)
is_frame Second (a ∷ b ∷ []) c h e = absurd (cc)
is_frame Second (a ∷ b ∷ d ∷ []) c h e = absurd (cc)
is_frame Second (a ∷ b ∷ d ∷ g ∷ []) c h e = absurd (cc)
is_frame Second (a ∷ b ∷ d ∷ g ∷ k ∷ rest) c h e =
    second_by a b d g k rest c h (cuts a (((b * 256 + d) * 256 + g) * 256 + k) rest c e)

-- One more record at the front.

begins_more : (p : LogForm) (s t : SeenLog) (xs : List ℕ) (c : Cut) (l : LogRecord) (ls : List LogRecord)
    (said : SeenLog) (rest : List ℕ)
    → IsFrame p.format xs c → IsWrittenAs p l c.0 c.1 → read_record p c.0 c.1 ≡ Some l → after s l ≡ Some t
    → BeginsWithFrames p t c.2 ls said rest → BeginsWithFrames p s xs (l ∷ ls) said rest
unfolding admitted record_text records_text
begins_more p s t xs c l ls said rest frame written reads follows more = record {
  text = frame.text
      ∙ ap (λ t. t ++ c.2) (sym (ap (λ k. frame_text p.format k (payload_text p l.parent l.entry))
      written.same_kind
      ∙ ap (frame_text p.format c.0) written.same_payload))
      ∙ ap (λ t. record_text p l ++ t) more.text
      ∙ sym (append_assoc (record_text p l) (records_text p ls) rest);
  order = ap (λ o. and_then o (λ u. admitted u ls)) follows ∙ more.order;
  frames = (
    record {
      short = subst (λ t. length t < size_limit p.format) (sym written.same_payload) frame.short;
      reads = ap (λ k. read_record p k (payload_text p l.parent l.entry)) written.same_kind
          ∙ ap (read_record p c.0) written.same_payload ∙ reads;
    },
    more.frames,
  );
}

begins_none : (p : LogForm) (s : SeenLog) (xs : List ℕ) → BeginsWithFrames p s xs [] s xs
unfolding admitted records_text
begins_none p s xs = record { text = refl; order = refl; frames = tt }

-- What is read is there.

-- what a reading says of bytes that begin at this place
abbrev pub Says : LogForm → SeenLog → ℕ → List ℕ → LogReading → Type 0
Says p s place xs (Whole ls torn) = IsText p s xs ls torn
Says p s place xs (Damaged at) = (n : ℕ) × (at ≡ place + n) × IsDamagedAt p s xs n

says_more : (p : LogForm) (s t : SeenLog) (place : ℕ) (xs : List ℕ) (c : Cut) (l : LogRecord) (r : LogReading)
    → IsFrame p.format xs c → IsWrittenAs p l c.0 c.1 → read_record p c.0 c.1 ≡ Some l → after s l ≡ Some t
    → Says p t (place + suc (size_bytes p.format) + length c.1) c.2 r → Says p s place xs (with_first l r)
unfolding record_text records_text
says_more p s t place xs c l (Whole ls torn) frame written reads follows said = record {
  said = said.said;
  tail = said.tail;
  begins = begins_more p s t xs c l ls said.said said.tail frame written reads follows said.begins;
  is_torn = said.is_torn;
  size = said.size;
}
says_more p s t place xs c l (Damaged at) frame written reads follows said =
    let own : length (record_text p l) ≡ suc (size_bytes p.format) + length c.1 =
    ap length (ap (λ k. frame_text p.format k (payload_text p l.parent l.entry)) written.same_kind
    ∙ ap (frame_text p.format c.0) written.same_payload) ∙ frame.place in
    let size : length (records_text p (l ∷ said.2.sound)) ≡ suc (size_bytes p.format) + length c.1 + said.0 =
    length-append (record_text p l) (records_text p said.2.sound)
    ∙ ap (λ n. n + length (records_text p said.2.sound)) own
    ∙ ap (λ n. suc (size_bytes p.format) + length c.1 + n) said.2.size in (
      suc (size_bytes p.format) + length c.1 + said.0,
      omega (arith, said.1),
      record {
        sound = l ∷ said.2.sound;
        said = said.2.said;
        rest = said.2.rest;
        begins = begins_more p s t xs c l said.2.sound said.2.said said.2.rest frame written reads follows
            said.2.begins;
        size = size;
        frame = said.2.frame;
        is_whole = said.2.is_whole;
        is_wrong = said.2.is_wrong;
      },
    )

damaged_here : (p : LogForm) (s : SeenLog) (place : ℕ) (xs : List ℕ) (c : Cut)
    → first_frame p.format xs ≡ Some c
    → IsWrong p s c → Says p s place xs (Damaged place)
unfolding records_text
damaged_here p s place xs c whole wrong = (
  0,
  omega arith,
  record {
    sound = [];
    said = s;
    rest = xs;
    begins = begins_none p s xs;
    size = refl;
    frame = c;
    is_whole = whole;
    is_wrong = wrong;
  },
)

-- one frame, and what is read after it
reads_on : (p : LogForm) (s : SeenLog) (place : ℕ) (xs : List ℕ) (c : Cut) → AreBytes xs
    → first_frame p.format xs ≡ Some c
    → ((t : SeenLog) → Says p t (place + suc (size_bytes p.format) + length c.1) c.2
    (read_frames p (place + suc (size_bytes p.format) + length c.1) t 0 c.2))
    → (o : Option LogRecord) → read_record p c.0 c.1 ≡ o
    → Says p s place xs (record_by place s o
    (λ t. read_frames p (place + suc (size_bytes p.format) + length c.1) t 0 c.2))
reads_on p s place xs c h whole more None reads = damaged_here p s place xs c whole (inl reads)
reads_on p s place xs c h whole more (Some l) reads = by_order (after s l) refl
  where
    by_order : (o : Option SeenLog) → after s l ≡ o
        → Says p s place xs (seen_by place l o (λ t.
        read_frames p (place + suc (size_bytes p.format) + length c.1) t 0 c.2))
    by_order None follows = damaged_here p s place xs c whole (inr (l, reads, follows))
    by_order (Some t) follows =
        let frame = is_frame p.format xs c h whole in
        says_more p s t place xs c l (read_frames p (place + suc (size_bytes p.format) + length c.1) t 0 c.2)
        frame
        (read_is_written p c.0 c.1 l frame.payload reads) reads follows (more t)

torn_says : (p : LogForm) (s : SeenLog) (place : ℕ) (xs : List ℕ) → first_frame p.format xs ≡ None
    → Says p s place xs (Whole [] (length xs))
torn_says p s place xs torn = record {
  said = s;
  tail = xs;
  begins = begins_none p s xs;
  is_torn = torn;
  size = refl;
}

-- bytes no longer than this read as what they are
pub reading_says : (n : ℕ) (p : LogForm) (s : SeenLog) (place : ℕ) (xs : List ℕ) → length xs < n → AreBytes xs
    → Says p s place xs (read_frames p place s 0 xs)
reading_says zero p s place xs short h = absurd (omega (arith, short))
reading_says (suc n) p s place xs short h = reads_first n p s place xs short h (first_frame p.format xs) refl
    (λ t q ys le k. reading_says n p t q ys le k)
  where
    reads_first : (n : ℕ) (p : LogForm) (s : SeenLog) (place : ℕ) (xs : List ℕ) → length xs < suc n
        → AreBytes xs
        → (o : Option Cut) → first_frame p.format xs ≡ o
        → ((t : SeenLog) (q : ℕ) (ys : List ℕ) → length ys < n → AreBytes ys
        → Says p t q ys (read_frames p q t 0 ys))
        → Says p s place xs (read_frames p place s 0 xs)
    reads_first n p s place xs short h None whole more =
        subst (Says p s place xs) (sym (torn_read p place s xs whole)) (torn_says p s place xs whole)
    reads_first n p s place xs short h (Some c) whole more =
        let frame = is_frame p.format xs c h whole in
        let less : length c.2 < n = omega (arith, frame.shorter, short) in
        subst (Says p s place xs) (sym (step_read p place s xs c whole))
        (reads_on p s place xs c h whole (λ t. more t (place + suc (size_bytes p.format) + length c.1) c.2
        less frame.behind)
        (read_record p c.0 c.1) refl)

-- What is there is read.

-- the frame of a record at the front reads as the record
steps : (p : LogForm) (s t : SeenLog) (place : ℕ) (xs behind : List ℕ) (l : LogRecord) → HasFrame p l
    → after s l ≡ Some t → xs ≡ record_text p l ++ behind
    → read_frames p place s 0 xs ≡ with_first l
    (read_frames p (place + suc (size_bytes p.format) + length (payload_text p l.parent l.entry)) t 0 behind)
unfolding record_text
steps p s t place xs behind l has follows is =
    let k = kind_byte l.entry in
    let payload = payload_text p l.parent l.entry in
    let whole : first_frame p.format xs ≡ Some (k, payload, behind) = ap (first_frame p.format) is
    ∙ own_frame p.format k payload behind has.short in
    step_read p place s xs (k, payload, behind) whole
    ∙ ap (λ o. record_by place s o (λ u. read_frames p (place + suc (size_bytes p.format) + length payload) u
    0 behind)) has.reads
    ∙ ap (λ o. seen_by place l o (λ u. read_frames p (place + suc (size_bytes p.format) + length payload) u 0
    behind)) follows

-- what is read of bytes that begin with sound records is these and what is read after them
there_reads : (p : LogForm) (s : SeenLog) (place : ℕ) (xs : List ℕ) (ls : List LogRecord) (said : SeenLog)
    (rest : List ℕ)
    → BeginsWithFrames p s xs ls said rest
    → read_frames p place s 0 xs ≡ with_all ls
    (read_frames p (place + length (records_text p ls)) said 0 rest)
unfolding admitted records_text
there_reads p s place xs [] said rest begins =
    let same : s ≡ said = some_is s said begins.order in
    let here : place + 0 ≡ place = omega arith in
    ap (read_frames p place s 0) begins.text ∙ ap (λ t. read_frames p place t 0 rest) same
    ∙ ap (λ n. read_frames p n said 0 rest) (sym here)
there_reads p s place xs (l ∷ ls) said rest begins =
    by_order (after s l) refl begins.order (λ t order. there_reads p t
    (place + suc (size_bytes p.format) + length (payload_text p l.parent l.entry))
    (records_text p ls ++ rest) ls said rest
    (record { text = refl; order = order; frames = begins.frames.1 }))
  where
    size : length (record_text p l) ≡ suc (size_bytes p.format) + length (payload_text p l.parent l.entry)
    size = own_size p l

    by_order : (o : Option SeenLog) → after s l ≡ o → and_then o (λ u. admitted u ls) ≡ Some said
        → ((t : SeenLog) → admitted t ls ≡ Some said
        → read_frames p (place + suc (size_bytes p.format) + length (payload_text p l.parent l.entry)) t 0
        (records_text p ls ++ rest)
        ≡ with_all ls (read_frames p (place + suc (size_bytes p.format)
        + length (payload_text p l.parent l.entry) + length
        (records_text p ls)) said 0 rest))
        → read_frames p place s 0 xs ≡ with_first l
        (with_all ls (read_frames p (place + length (record_text p l ++ records_text p ls)) said 0 rest))
    by_order None follows order more = absurd (none_some said order)
    by_order (Some t) follows order more =
        let at : place + suc (size_bytes p.format) + length (payload_text p l.parent l.entry)
        + length (records_text p ls)
        ≡ place + length (record_text p l ++ records_text p ls) =
        omega (arith, size, length-append (record_text p l) (records_text p ls)) in
        steps p s t place xs (records_text p ls ++ rest) l begins.frames.0 follows
        (begins.text ∙ append_assoc (record_text p l) (records_text p ls) rest)
        ∙ ap (with_first l) (more t order ∙ ap (λ n. with_all ls (read_frames p n said 0 rest)) at)

pub text_reads : (p : LogForm) (bytes : List ℕ) (ls : List LogRecord) (torn : ℕ)
    → IsText p nothing_seen bytes ls torn → read_frames p 5 nothing_seen 0 bytes ≡ Whole ls torn
text_reads p bytes ls torn text =
    there_reads p nothing_seen 5 bytes ls text.said text.tail text.begins
    ∙ ap (with_all ls) (torn_read p (5 + length (records_text p ls)) text.said text.tail text.is_torn)
    ∙ with_all_whole ls (length text.tail) ∙ ap (Whole ls) text.size

wrong_reads : (p : LogForm) (said : SeenLog) (place : ℕ) (rest : List ℕ) (c : Cut)
    → first_frame p.format rest ≡ Some c
    → IsWrong p said c
    → read_frames p place said 0 rest ≡ Damaged place
wrong_reads p said place rest c whole (inl none) =
    step_read p place said rest c whole ∙ ap (λ o. record_by place said o
    (λ t. read_frames p (place + suc (size_bytes p.format) + length c.1) t 0 c.2)) none
wrong_reads p said place rest c whole (inr w) =
    step_read p place said rest c whole ∙ ap (λ o. record_by place said o
    (λ t. read_frames p (place + suc (size_bytes p.format) + length c.1) t 0 c.2)) w.1
    ∙ ap (λ o. seen_by place w.0 o (λ t. read_frames p
    (place + suc (size_bytes p.format) + length c.1) t 0 c.2)) w.2

damage_reads : (p : LogForm) (bytes : List ℕ) (place : ℕ) → IsDamagedAt p nothing_seen bytes place
    → read_frames p 5 nothing_seen 0 bytes ≡ Damaged (5 + place)
damage_reads p bytes place damage =
    there_reads p nothing_seen 5 bytes damage.sound damage.said damage.rest damage.begins
    ∙ ap (with_all damage.sound) (wrong_reads p damage.said
    (5 + length (records_text p damage.sound)) damage.rest damage.frame damage.is_whole damage.is_wrong)
    ∙ with_all_damaged damage.sound (5 + length (records_text p damage.sound))
    ∙ ap (λ n. Damaged (5 + n)) damage.size

pub bytes_read_as_text : BytesReadAsText
bytes_read_as_text p bytes h =
    let said : Says p nothing_seen 5 bytes (read_frames p 5 nothing_seen 0 bytes) =
    reading_says (suc (length bytes)) p nothing_seen 5 bytes (omega arith) h in
    record {
      whole = λ ls torn e. subst (Says p nothing_seen 5 bytes) e said;
      text = text_reads p bytes;
      damaged = λ place e. damaged_there place (subst (Says p nothing_seen 5 bytes) e said);
      damage = damage_reads p bytes;
    }
  where
    damaged_there : (place : ℕ) → Says p nothing_seen 5 bytes (Damaged (5 + place))
        → IsDamagedAt p nothing_seen bytes place
    damaged_there place said =
        let one : said.0 ≡ place = omega (arith, said.1) in
        subst (IsDamagedAt p nothing_seen bytes) one said.2
