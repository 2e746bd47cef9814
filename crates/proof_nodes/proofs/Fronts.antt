-- What a front of a log's bytes reads as.
use Rattle.std.proofs.Common.{◌≡◌, ◌≤◌, ◌<◌, ◌+◌, ◌-◌, ◌∙◌, ℕ, zero, suc, Bool, true, false, List, [], ◌∷◌, ◌++◌, length, take, drop, Option, Some, None, refl, sym, ap, arith, nat_le, take-append-drop, length-append, length-drop}
use Rattle.std.specs.Prelude.{is_some}
use Rattle.std.proofs.lemmas.Bool.Decides.{nat_tests}
use Rattle.std.proofs.lemmas.List.{take-append-le}
use Rattle.std.proofs.Math.Seq.{take-append-add}
use Rattle.protocol.specs.declared.records.LogRecord.{LogRecord}
use Rattle.log_text.specs.declared.form.LogForm.{LogForm}
use Rattle.log_text.specs.declared.form.LogFormat.{LogFormat}
use Rattle.log_text.specs.Frames.{Cut, first_frame}
use Rattle.log_text.specs.Reading.{read_record}
use Rattle.log_rules.specs.order.Logs.{Whole, read_frames, record_by, seen_by, with_first}
use Rattle.log_rules.specs.order.Orders.{SeenLog, after}
use Rattle.log_records.specs.Texts.{and_records, is_whole, records_in, whole_by, whole_if}
use Rattle.log_records.proofs.Frames.{frame_more, no_frame, shorter, step, step_whole}
use Rattle.log_records.proofs.Openings.{Frame, frame_at, reads_one, step_read, torn_read}
use Rattle.proof_log_grammar.specs.Grammar.{admitted, and_then}

-- The front of a frame is no frame.

some_is : {A : Type 0} (x y : A) → Some x ≡ Some y → x ≡ y
some_is x y e = cc

nothing_behind : (xs ys : List ℕ) → xs ++ ys ≡ [] → length ys ≡ 0
nothing_behind xs ys e = omega (arith, length-append xs ys, ap length e)

cut_frame : (f : LogFormat) (frame : List ℕ) (n : ℕ) (c : Cut) (o : Option Cut)
    → first_frame f frame ≡ Some (c.0, c.1, []) → n < length frame → first_frame f (take n frame) ≡ o
    → o ≡ None
cut_frame f frame n c None e h g = refl
cut_frame f frame n c (Some d) e h g =
    let more : first_frame f frame ≡ Some (d.0, d.1, d.2 ++ drop n frame) =
    ap (first_frame f) (sym (take-append-drop n frame)) ∙ frame_more f (take n frame) (drop n frame) d g in
    let both : ◌≡◌ {A = Option Cut} (Some (d.0, d.1, d.2 ++ drop n frame)) (Some (c.0, c.1, [])) = sym more
    ∙ e in
    let none : d.2 ++ drop n frame ≡ [] = ap (λ z. z.2) (some_is _ _ both) in
    absurd (omega (arith, nothing_behind d.2 (drop n frame) none, length-drop n frame))

-- Whole frames of records, of which N bytes stand, are read as the records that stand whole among them, and
-- as a torn tail after these.
abbrev pub FrontIsRead : LogForm → ℕ → List ℕ → Type 0
FrontIsRead p n xs = (place : ℕ) (s : SeenLog) → is_whole p 0 xs ≡ true
    → is_some (admitted s (records_in p 0 (take n xs))) ≡ true
    → (torn : ℕ) × (read_frames p place s 0 (take n xs) ≡ Whole (records_in p 0 (take n xs)) torn)

-- with which no frame begins
torn_front : (p : LogForm) (n : ℕ) (xs : List ℕ) → first_frame p.format (take n xs) ≡ None
    → FrontIsRead p n xs
torn_front p n xs none place s whole follow = (
  length (take n xs),
  torn_read p place s (take n xs) none
      ∙ ap (λ (ls : List LogRecord). Whole ls (length (take n xs))) (sym (no_frame p (take n xs) none)),
)

not_whole : (p : LogForm) (xs : List ℕ) → first_frame p.format xs ≡ None → is_whole p 0 xs ≡ true → xs ≡ []
unfolding is_whole
not_whole p [] none whole = refl
not_whole p (b ∷ bs) none whole =
    let never : false ≡ true = sym (ap (λ o. whole_by p o (λ k. is_whole p k bs)) none) ∙ whole in absurd (cc)

take_none : (n : ℕ) → ◌≡◌ {A = List ℕ} (take n []) []
take_none zero = refl
take_none (suc n) = refl

no_bytes_torn : (p : LogForm) (n : ℕ) (xs : List ℕ) → first_frame p.format xs ≡ None → xs ≡ []
    → first_frame p.format (take n xs) ≡ None
no_bytes_torn p n xs none e =
    ap (λ (ys : List ℕ). first_frame p.format (take n ys)) e
    ∙ (ap (first_frame p.format) (take_none n) ∙ (ap (first_frame p.format) (sym e) ∙ none))

module _ (p : LogForm) (n : ℕ) (xs : List ℕ) (c : Cut) (first : first_frame p.format xs ≡ Some c) where
  a : Frame p.format xs c
  a = frame_at p.format xs c first

  -- the frame was cut
  cut_short : n < length a.frame → first_frame p.format (take n xs) ≡ None
  cut_short less =
      let cut : take n xs ≡ take n a.frame =
      ap (take n) a.split ∙ take-append-le n a.frame c.2 (omega (arith, less)) in
      ap (first_frame p.format) cut
      ∙ cut_frame p.format a.frame n c (first_frame p.format (take n a.frame)) a.alone less refl

  -- the frame stands whole
  cut_behind : length a.frame ≤ n → first_frame p.format (take n xs)
      ≡ Some (c.0, c.1, take (n - length a.frame) c.2)
  cut_behind more =
      let m = n - length a.frame in
      let sum : n ≡ length a.frame + m = omega (arith, more) in
      let cut : take n xs ≡ a.frame ++ take m c.2 = ap (take n) a.split
      ∙ ap (λ k. take k (a.frame ++ c.2)) sum
      ∙ take-append-add a.frame c.2 m in
      ap (first_frame p.format) cut ∙ frame_more p.format a.frame (take m c.2) (c.0, c.1, []) a.alone

-- one frame, and what is after it
module _ (p : LogForm) (n m : ℕ) (xs : List ℕ) (c : Cut) (first : first_frame p.format xs ≡ Some c)
    (front : first_frame p.format (take n xs) ≡ Some (c.0, c.1, take m c.2))
    (more : FrontIsRead p m c.2) where
  seen_on : (l : LogRecord) (o : Option SeenLog) (place next : ℕ) → is_whole p 0 c.2 ≡ true
      → is_some (and_then o (λ t. admitted t (records_in p 0 (take m c.2)))) ≡ true
      → (torn : ℕ) × (seen_by place l o (λ t. read_frames p next t 0 (take m c.2))
      ≡ Whole (l ∷ records_in p 0 (take m c.2)) torn)
  seen_on l None place next whole follow = absurd (cc)
  seen_on l (Some t) place next whole follow =
      let r = more next t whole follow in (r.0, ap (with_first l) r.1)

  record_on : (o : Option LogRecord) (place next : ℕ) (s : SeenLog) → whole_if o (is_whole p 0 c.2) ≡ true
      → is_some (admitted s (and_records o (records_in p 0 (take m c.2)))) ≡ true
      → (torn : ℕ) × (record_by place s o (λ t. read_frames p next t 0 (take m c.2))
      ≡ Whole (and_records o (records_in p 0 (take m c.2))) torn)
  unfolding admitted
  record_on None place next s whole follow = absurd (cc)
  record_on (Some l) place next s whole follow = seen_on l (after s l) place next whole follow

  frame_on : FrontIsRead p n xs
  frame_on place s whole follow =
      let records : records_in p 0 (take n xs) ≡ and_records (read_record p c.0 c.1)
      (records_in p 0 (take m c.2)) =
      step p (take n xs) (c.0, c.1, take m c.2) front in
      let r = record_on (read_record p c.0 c.1) place _ s (sym (step_whole p xs c first) ∙ whole)
      (sym (ap (λ (ls : List LogRecord). is_some (admitted s ls)) records) ∙ follow) in (
        r.0,
        step_read p place s (take n xs) (c.0, c.1, take m c.2) front ∙ r.1
            ∙ ap (λ (ls : List LogRecord). Whole ls r.0) (sym records),
      )

by_size : (p : LogForm) (n : ℕ) (xs : List ℕ) (c : Cut) (first : first_frame p.format xs ≡ Some c) (b : Bool)
    → nat_le (length (a p n xs c first).frame) n ≡ b → ((m : ℕ) → FrontIsRead p m c.2) → FrontIsRead p n xs
by_size p n xs c first true e more =
    frame_on p n (n - length (a p n xs c first).frame) xs c first
    (cut_behind p n xs c first (grind (arith, nat_tests))) (more (n - length (a p n xs c first).frame))
by_size p n xs c first false e more =
    torn_front p n xs (cut_short p n xs c first (grind (arith, nat_tests)))

by_first : (p : LogForm) (n : ℕ) (xs : List ℕ) (o : Option Cut) → first_frame p.format xs ≡ o
    → ((c : Cut) → length c.2 < length xs → (m : ℕ) → FrontIsRead p m c.2) → FrontIsRead p n xs
by_first p n xs None none more = λ place s whole follow.
    torn_front p n xs (no_bytes_torn p n xs none (not_whole p xs none whole)) place s whole follow
by_first p n xs (Some c) first more =
    by_size p n xs c first (nat_le (length (a p n xs c first).frame) n) refl
    (more c (shorter p.format xs c first))

read_within : (p : LogForm) (most n : ℕ) (xs : List ℕ) → length xs < most → FrontIsRead p n xs
read_within p zero n xs h = absurd (omega (arith, h))
read_within p (suc most) n xs h = by_first p n xs (first_frame p.format xs) refl
    (λ c less m. read_within p most m c.2 (omega (arith, less, h)))

pub front_is_read : (p : LogForm) (n : ℕ) (xs : List ℕ) → FrontIsRead p n xs
front_is_read p n xs = read_within p (suc (length xs)) n xs (omega arith)

-- what may follow one another in order may so as far as a front goes
pub admitted_front : (s : SeenLog) (xs ys : List LogRecord) → is_some (admitted s (xs ++ ys)) ≡ true
    → is_some (admitted s xs) ≡ true
unfolding admitted
admitted_front s [] ys h = refl
admitted_front s (x ∷ xs) ys h = by_seen (after s x) h (λ t g. admitted_front t xs ys g)
  where
    by_seen : (o : Option SeenLog) → is_some (and_then o (λ t. admitted t (xs ++ ys))) ≡ true
        → ((t : SeenLog) → is_some (admitted t (xs ++ ys)) ≡ true → is_some (admitted t xs) ≡ true)
        → is_some (and_then o (λ t. admitted t xs)) ≡ true
    by_seen None g more = absurd (cc)
    by_seen (Some t) g more = more t g
