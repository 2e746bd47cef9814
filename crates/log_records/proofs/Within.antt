-- The records of a front of the bytes are those that stand whole within it.
use Rattle.std.proofs.Common.{◌≡◌, ◌≤◌, ◌<◌, ◌+◌, ◌-◌, ℕ, zero, suc, Bool, true, false, List, [], ◌∷◌, ◌++◌, length, min, take, drop, Option, Some, None, refl, sym, ap, ◌∙◌, arith, nat_le, if◌then◌else◌, append_assoc, drop-drop, take-append-drop, length-append, length-drop}
use Rattle.std.proofs.lemmas.Bool.Decides.{nat_tests}
use Rattle.std.proofs.lemmas.List.{length-take-le, take-append-le}
use Rattle.std.proofs.Math.Seq.{drop-append_seam, take-append-add}
use Rattle.log_text.specs.declared.form.LogForm.{LogForm}
use Rattle.protocol.specs.declared.records.LogRecord.{LogRecord}
use Rattle.byteorder.specs.Endian.{big_bytes}
use Rattle.log_text.specs.declared.form.LogFormat.{LogFormat}
use Rattle.log_text.specs.declared.form.LogFormat.TheVariants.{First, Second}
use Rattle.log_text.specs.Forms.{size_bytes, unowned}
use Rattle.log_text.specs.Frames.{Cut, first_frame, frame_text}
use Rattle.log_text.specs.Payloads.{payload_text, record_text}
use Rattle.log_text.proofs.Owned.{same_size}
use Rattle.log_text.specs.Reading.{read_record}
use Rattle.log_records.specs.Texts.{and_records, is_whole, records_in, size_by, size_if, whole_by, whole_if, whole_size}
use Rattle.log_records.specs.Sights.{IsLogFront, LogState, body, frames_size, front, left_by, log_state, record_size, records_of, whole_within}
use Rattle.log_records.proofs.Frames.{frame_more, front_of, is_behind, no_bytes, no_frame, shorter, step, step_whole}
use Rattle.log_records.proofs.Openings.{Frame, frame_at}
use Rattle.log_records.proofs.RecordSizes.{read_long}
use Rattle.log_records.proofs.Written.{body_taken}

-- Steps of the definition.

within_none : (n : ℕ) → whole_within n [] ≡ []
unfolding whole_within
within_none n = refl

within_by : (n : ℕ) (l : LogRecord) (ls : List LogRecord) (b : Bool) → nat_le (record_size l) n ≡ b
    → whole_within n (l ∷ ls) ≡ (if b then l ∷ whole_within (n - record_size l) ls else [])
unfolding whole_within
within_by n l ls b e = ap (λ c. if c then l ∷ whole_within (n - record_size l) ls else []) e

within_one : (n : ℕ) (l : LogRecord) (ls : List LogRecord) → record_size l ≤ n
    → whole_within n (l ∷ ls) ≡ l ∷ whole_within (n - record_size l) ls
within_one n l ls h = within_by n l ls true (grind (arith, nat_tests))

within_no : (n : ℕ) (l : LogRecord) (ls : List LogRecord) → n < record_size l → whole_within n (l ∷ ls) ≡ []
within_no n l ls h = within_by n l ls false (grind (arith, nat_tests))

-- A frame and its record are as long.

pub own_size : (p : LogForm) (l : LogRecord)
    → length (record_text p l) ≡ suc (size_bytes p.format) + length (payload_text p l.parent l.entry)
unfolding record_text frame_text
own_size p l = omega (
  arith,
  length-append (big_bytes (size_bytes p.format) (length (payload_text p l.parent l.entry)))
      (payload_text p l.parent l.entry),
  head_size p.format (length (payload_text p l.parent l.entry)),
)
  where
    head_size : (f : LogFormat) (n : ℕ) → length (big_bytes (size_bytes f) n) ≡ size_bytes f
    head_size First n = refl
    head_size Second n = refl

-- by the second format a record's size hangs on neither process nor sort
pub frame_size : (p : LogForm) → p.format ≡ Second → (l : LogRecord)
    → length (record_text p l) ≡ record_size l
frame_size p second l = omega (
  arith,
  own_size p l,
  own_size unowned l,
  ap size_bytes second,
  same_size p l.parent l.entry second,
)

frame_long : (p : LogForm) → p.format ≡ Second → (xs : List ℕ) (c : Cut) (l : LogRecord)
    (a : Frame p.format xs c)
    → read_record p c.0 c.1 ≡ Some l → record_size l ≡ length a.frame
frame_long p second xs c l a r =
    omega (arith, own_size p l, frame_size p second l, read_long p c.0 c.1 l r, a.size)

-- The front of a frame is no frame.

some_is : {A : Type 0} (x y : A) → Some x ≡ Some y → x ≡ y
some_is x y e = cc

nothing_behind : (xs ys : List ℕ) → xs ++ ys ≡ [] → length ys ≡ 0
nothing_behind xs ys e = omega (arith, length-append xs ys, ap length e)

cut_frame : (f : LogFormat) (frame : List ℕ) (n : ℕ) (c : Cut) (o : Option Cut)
    → first_frame f frame ≡ Some (c.0, c.1, [])
    → n < length frame → first_frame f (take n frame) ≡ o → o ≡ None
cut_frame f frame n c None e h g = refl
cut_frame f frame n c (Some d) e h g =
    let more : first_frame f frame ≡ Some (d.0, d.1, d.2 ++ drop n frame) =
    ap (first_frame f) (sym (take-append-drop n frame)) ∙ frame_more f (take n frame) (drop n frame) d g in
    let both : ◌≡◌ {A = Option Cut} (Some (d.0, d.1, d.2 ++ drop n frame)) (Some (c.0, c.1, [])) = sym more
    ∙ e in
    let none : d.2 ++ drop n frame ≡ [] = ap (λ z. z.2) (some_is _ _ both) in
    absurd (omega (arith, nothing_behind d.2 (drop n frame) none, length-drop n frame))

front_none : (xs ys : List LogRecord) → [] ≡ xs ++ ys → xs ≡ []
front_none [] ys e = refl
front_none (x ∷ xs) ys e = absurd (cc)

-- Records of a front.

abbrev Taken : LogForm → ℕ → List ℕ → Type 0
Taken p n xs = records_in p 0 (take n xs) ≡ whole_within n (records_in p 0 xs)

taken_none : (p : LogForm) (n : ℕ) (xs : List ℕ) → records_in p 0 xs ≡ [] → Taken p n xs
taken_none p n xs e =
    let f = front_of p 0 n xs in
    front_none (records_in p 0 (take n xs)) f.0 (sym e ∙ f.1) ∙ sym (ap (whole_within n) e ∙ within_none n)

taken_whole : (p : LogForm) → p.format ≡ Second → (n : ℕ) (xs : List ℕ) (c : Cut) (l : LogRecord)
    → first_frame p.format xs ≡ Some c
    → read_record p c.0 c.1 ≡ Some l → record_size l ≤ n
    → Taken p (n - record_size l) c.2 → Taken p n xs
taken_whole p second n xs c l e r h more =
    let a = frame_at p.format xs c e in
    let m = n - record_size l in
    let sum : n ≡ length a.frame + m = omega (arith, frame_long p second xs c l a r) in
    let cut : take n xs ≡ a.frame ++ take m c.2 = ap (take n) a.split ∙ ap (λ k. take k (a.frame ++ c.2)) sum
    ∙ take-append-add a.frame c.2 m in
    let first : first_frame p.format (take n xs) ≡ Some (c.0, c.1, take m c.2) = ap (first_frame p.format) cut
    ∙ frame_more p.format a.frame (take m c.2) (c.0, c.1, []) a.alone in
    step p (take n xs) (c.0, c.1, take m c.2) first ∙ ap (λ o. and_records o (records_in p 0 (take m c.2))) r
    ∙ ap (λ t. l ∷ t) more
    ∙ sym (ap (whole_within n) (step p xs c e ∙ ap (λ o. and_records o (records_in p 0 c.2)) r)
    ∙ within_one n l (records_in p 0 c.2) h)

taken_cut : (p : LogForm) → p.format ≡ Second → (n : ℕ) (xs : List ℕ) (c : Cut) (l : LogRecord)
    → first_frame p.format xs ≡ Some c
    → read_record p c.0 c.1 ≡ Some l → n < record_size l → Taken p n xs
taken_cut p second n xs c l e r h =
    let a = frame_at p.format xs c e in
    let less : n < length a.frame = omega (arith, frame_long p second xs c l a r) in
    let cut : take n xs ≡ take n a.frame = ap (take n) a.split ∙ take-append-le n a.frame c.2 (omega arith) in
    let none : first_frame p.format (take n xs) ≡ None = ap (first_frame p.format) cut
    ∙ cut_frame p.format a.frame n c (first_frame p.format (take n a.frame)) a.alone less refl in
    no_frame p (take n xs) none
    ∙ sym (ap (whole_within n) (step p xs c e ∙ ap (λ o. and_records o (records_in p 0 c.2)) r)
    ∙ within_no n l (records_in p 0 c.2) h)

taken_record : (p : LogForm) → p.format ≡ Second → (n : ℕ) (xs : List ℕ) (c : Cut) (l : LogRecord) (b : Bool)
    → first_frame p.format xs ≡ Some c
    → read_record p c.0 c.1 ≡ Some l
    → nat_le (record_size l) n ≡ b → ((m : ℕ) → Taken p m c.2) → Taken p n xs
taken_record p second n xs c l true e r t f = taken_whole p second n xs c l e r (grind (arith, nat_tests))
    (f (n - record_size l))
taken_record p second n xs c l false e r t f = taken_cut p second n xs c l e r (grind (arith, nat_tests))

taken_frame : (p : LogForm) → p.format ≡ Second → (n : ℕ) (xs : List ℕ) (c : Cut) (o : Option LogRecord)
    → first_frame p.format xs ≡ Some c
    → read_record p c.0 c.1 ≡ o
    → ((m : ℕ) → Taken p m c.2) → Taken p n xs
taken_frame p second n xs c None e r f = taken_none p n xs
    (step p xs c e ∙ ap (λ o. and_records o (records_in p 0 c.2)) r)
taken_frame p second n xs c (Some l) e r f = taken_record p second n xs c l
    (nat_le (record_size l) n) e r refl f

taken_by : (p : LogForm) → p.format ≡ Second → (n : ℕ) (xs : List ℕ) (o : Option Cut)
    → first_frame p.format xs ≡ o
    → ((c : Cut) → length c.2 < length xs → (m : ℕ) → Taken p m c.2) → Taken p n xs
taken_by p second n xs None e f = taken_none p n xs (no_frame p xs e)
taken_by p second n xs (Some c) e f =
    taken_frame p second n xs c (read_record p c.0 c.1) e refl (f c (shorter p.format xs c e))

records_taken_in : (p : LogForm) → p.format ≡ Second → (most n : ℕ) (xs : List ℕ) → length xs < most
    → Taken p n xs
records_taken_in p second zero n xs h = absurd (omega arith)
records_taken_in p second (suc most) n xs h = taken_by p second n xs (first_frame p.format xs) refl
    (λ c less m. records_taken_in p second most m c.2 (omega arith))

pub records_taken : (p : LogForm) → p.format ≡ Second → (n : ℕ) (xs : List ℕ)
    → records_in p 0 (take n xs) ≡ whole_within n (records_in p 0 xs)
records_taken p second n xs = records_taken_in p second (suc (length xs)) n xs (omega arith)

-- The whole frames of records are as long as these records.

passed_size : (p : LogForm) (k : ℕ) (xs : List ℕ) → whole_size p k xs ≡ whole_size p 0 (drop k xs)
unfolding whole_size
passed_size p zero xs = refl
passed_size p (suc k) [] = refl
passed_size p (suc k) (b ∷ bs) = passed_size p k bs

step_size : (p : LogForm) (xs : List ℕ) (c : Cut) → first_frame p.format xs ≡ Some c
    → whole_size p 0 xs ≡ size_if (read_record p c.0 c.1)
    (suc (size_bytes p.format) + length c.1 + whole_size p 0 c.2)
unfolding whole_size
step_size p [] c e = let never = sym (no_bytes p.format) ∙ e in absurd (cc)
step_size p (b ∷ bs) c e =
    let k = is_behind p.format b bs c e in
    ap (λ o. size_by p o (λ n. whole_size p n bs)) e
    ∙ ap (λ n. size_if (read_record p c.0 c.1) (suc (size_bytes p.format) + length c.1 + n))
    (passed_size p (size_bytes p.format + length c.1) bs ∙ ap (whole_size p 0) k.left)

no_size : (p : LogForm) (xs : List ℕ) → first_frame p.format xs ≡ None → whole_size p 0 xs ≡ 0
unfolding whole_size
no_size p [] e = refl
no_size p (b ∷ bs) e = ap (λ o. size_by p o (λ n. whole_size p n bs)) e

abbrev Sized : LogForm → List ℕ → Type 0
Sized p xs = whole_size p 0 xs ≡ frames_size (records_in p 0 xs)

sized_frame : (p : LogForm) → p.format ≡ Second → (xs : List ℕ) (c : Cut) (o : Option LogRecord)
    → first_frame p.format xs ≡ Some c
    → read_record p c.0 c.1 ≡ o → Sized p c.2 → Sized p xs
unfolding frames_size
sized_frame p second xs c None e r f =
    step_size p xs c e ∙ ap (λ o. size_if o (suc (size_bytes p.format) + length c.1 + whole_size p 0 c.2)) r
    ∙ sym (ap frames_size (step p xs c e ∙ ap (λ o. and_records o (records_in p 0 c.2)) r))
sized_frame p second xs c (Some l) e r f =
    let size : suc (size_bytes p.format) + length c.1 + whole_size p 0 c.2
    ≡ record_size l + frames_size (records_in p 0 c.2) =
    omega (arith, f, own_size p l, frame_size p second l, read_long p c.0 c.1 l r) in
    step_size p xs c e ∙ ap (λ o. size_if o (suc (size_bytes p.format) + length c.1 + whole_size p 0 c.2)) r
    ∙ size
    ∙ sym (ap frames_size (step p xs c e ∙ ap (λ o. and_records o (records_in p 0 c.2)) r))

sized_by : (p : LogForm) → p.format ≡ Second → (xs : List ℕ) (o : Option Cut) → first_frame p.format xs ≡ o
    → ((c : Cut) → length c.2 < length xs → Sized p c.2) → Sized p xs
unfolding frames_size
sized_by p second xs None e f = no_size p xs e ∙ sym (ap frames_size (no_frame p xs e))
sized_by p second xs (Some c) e f =
    sized_frame p second xs c (read_record p c.0 c.1) e refl (f c (shorter p.format xs c e))

sized_in : (p : LogForm) → p.format ≡ Second → (most : ℕ) (xs : List ℕ) → length xs < most → Sized p xs
sized_in p second zero xs h = absurd (omega arith)
sized_in p second (suc most) xs h = sized_by p second xs (first_frame p.format xs) refl
    (λ c less. sized_in p second most c.2 (omega arith))

pub sized : (p : LogForm) → p.format ≡ Second → (xs : List ℕ) → Sized p xs
sized p second xs = sized_in p second (suc (length xs)) xs (omega arith)

-- Whole frames are as long as all their bytes.

abbrev Full : LogForm → List ℕ → Type 0
Full p xs = is_whole p 0 xs ≡ true → whole_size p 0 xs ≡ length xs

full_frame : (p : LogForm) (xs : List ℕ) (c : Cut) (o : Option LogRecord) → first_frame p.format xs ≡ Some c
    → read_record p c.0 c.1 ≡ o → Full p c.2 → Full p xs
full_frame p xs c None e r f w =
    let never : false ≡ true = sym (step_whole p xs c e ∙ ap (λ o. whole_if o (is_whole p 0 c.2)) r) ∙ w in
    absurd (cc)
full_frame p xs c (Some l) e r f w =
    let a = frame_at p.format xs c e in
    let rest : is_whole p 0 c.2 ≡ true = sym (step_whole p xs c e ∙ ap (λ o. whole_if o (is_whole p 0 c.2)) r)
    ∙ w in
    step_size p xs c e ∙ ap (λ o. size_if o (suc (size_bytes p.format) + length c.1 + whole_size p 0 c.2)) r
    ∙ omega (arith, f rest, a.size, ap length a.split, length-append a.frame c.2)

no_whole : (p : LogForm) (xs : List ℕ) → first_frame p.format xs ≡ None → is_whole p 0 xs ≡ true
    → length xs ≡ 0
unfolding is_whole
no_whole p [] e w = refl
no_whole p (b ∷ bs) e w = let never : false ≡ true = sym (ap (λ o. whole_by p o (λ n. is_whole p n bs)) e)
    ∙ w in absurd (cc)

full_by : (p : LogForm) (xs : List ℕ) (o : Option Cut) → first_frame p.format xs ≡ o
    → ((c : Cut) → length c.2 < length xs → Full p c.2) → Full p xs
full_by p xs None e f w = omega (arith, no_size p xs e, no_whole p xs e w)
full_by p xs (Some c) e f w = full_frame p xs c (read_record p c.0 c.1) e refl
    (f c (shorter p.format xs c e)) w

full_in : (p : LogForm) (most : ℕ) (xs : List ℕ) → length xs < most → Full p xs
full_in p zero xs h = absurd (omega arith)
full_in p (suc most) xs h = full_by p xs (first_frame p.format xs) refl
    (λ c less. full_in p most c.2 (omega arith))

pub whole_is_full : (p : LogForm) (xs : List ℕ) → is_whole p 0 xs ≡ true → length xs - whole_size p 0 xs ≡ 0
whole_is_full p xs w = omega (arith, full_in p (suc (length xs)) xs (omega arith) w)

-- A longer front has the records of the shorter one, and then those within what is left of it.

more_by : (n k : ℕ) (l : LogRecord) (ls : List LogRecord) (b : Bool) → nat_le (record_size l) n ≡ b
    → (whole_within ((n - record_size l) + k) ls
    ≡ whole_within (n - record_size l) ls
    ++ whole_within ((n - record_size l) - frames_size (whole_within (n - record_size l) ls) + k)
    (drop (length (whole_within (n - record_size l) ls)) ls))
    → whole_within (n + k) (l ∷ ls) ≡ whole_within n (l ∷ ls)
    ++ whole_within (n - frames_size (whole_within n (l ∷ ls)) + k)
    (drop (length (whole_within n (l ∷ ls))) (l ∷ ls))
unfolding frames_size
more_by n k l ls true b f =
    let le : record_size l ≤ n = grind (arith, nat_tests) in
    let m = n - record_size l in
    let w = whole_within m ls in
    let now : whole_within n (l ∷ ls) ≡ l ∷ w = within_one n l ls le in
    let sum : n + k - record_size l ≡ m + k = omega arith in
    let left : m - frames_size w + k ≡ n - (record_size l + frames_size w) + k = omega arith in
    within_one (n + k) l ls (omega arith) ∙ ap (λ t. l ∷ t)
    (ap (λ t. whole_within t ls) sum ∙ f ∙ ap (λ t. w ++ whole_within t (drop (length w) ls)) left)
    ∙ sym (ap (λ t. t ++ whole_within (n - frames_size t + k) (drop (length t) (l ∷ ls))) now)
more_by n k l ls false b f =
    let now : whole_within n (l ∷ ls) ≡ [] = within_no n l ls (grind (arith, nat_tests)) in
    let nothing : n + k ≡ n - 0 + k = omega arith in
    ap (λ m. whole_within m (l ∷ ls)) nothing
    ∙ sym (ap (λ t. t ++ whole_within (n - frames_size t + k) (drop (length t) (l ∷ ls))) now)

within_more : (n k : ℕ) (ls : List LogRecord)
    → whole_within (n + k) ls ≡ whole_within n ls
    ++ whole_within (n - frames_size (whole_within n ls) + k) (drop (length (whole_within n ls)) ls)
unfolding whole_within frames_size
within_more n k [] = refl
within_more n k (l ∷ ls) = more_by n k l ls (nat_le (record_size l) n) refl
    (within_more (n - record_size l) k ls)

-- What a crash leaves.

pub left_records : (p : LogForm) (text : List ℕ) (forced keep failures room : ℕ) (failed : Bool)
    → p.format ≡ Second → 5 ≤ forced
    → forced ≤ length text
    → records_in p 0 (body (take (forced + keep) text))
    ≡ left_by (log_state p text forced failures room failed).sight keep
left_records p text forced keep failures room failed second h le =
    let all = records_in p 0 (body text) in
    let n = forced - 5 in
    let sum : forced + keep - 5 ≡ n + keep = omega arith in
    let now : records_in p 0 (front text forced) ≡ whole_within n all = records_taken p second n (body text)
    in
    let long : length (front text forced) ≡ n =
    length-take-le n (body text) (omega (arith, length-drop 5 text)) in
    let F = records_in p 0 (front text forced) in
    let behind : n - frames_size F ≡ length (front text forced) - whole_size p 0 (front text forced) =
    omega (arith, long, sized p second (front text forced)) in
    ap (records_in p 0) (body_taken (forced + keep) text (omega arith) ∙ ap (λ k. take k (body text)) sum)
    ∙ records_taken p second (n + keep) (body text)
    ∙ within_more n keep all ∙ ap (λ t. t ++ whole_within (n - frames_size t + keep) (drop (length t) all))
    (sym now)
    ∙ ap (λ t. F ++ whole_within (t + keep) (drop (length F) all)) behind

pub left_of_view : (p : LogForm) (text : List ℕ) (forced keep failures room : ℕ)
    (failed : Bool) (s : LogState)
    (ls : List LogRecord)
    → log_state p text forced failures room failed ≡ s → p.format ≡ Second → 5 ≤ forced → forced ≤ length text
    → ls ≡ records_in p 0 (body (take (forced + keep) text)) → ls ≡ left_by s.sight keep
left_of_view p text forced keep failures room failed s ls view second h le e =
    e ∙ left_records p text forced keep failures room failed second h le ∙ ap (λ z. left_by z.sight keep) view

-- The records after the first ones.

drop_within : (n : ℕ) (xs : List ℕ) → drop (min n (length xs)) xs ≡ drop n xs
drop_within zero xs =
    let none : min 0 (length xs) ≡ 0 = omega arith in
    ap (λ m. drop m xs) none
drop_within (suc n) [] =
    let none : min (suc n) 0 ≡ 0 = omega arith in
    ap (λ m. drop m []) none
drop_within (suc n) (x ∷ xs) =
    let one : min (suc n) (suc (length xs)) ≡ suc (min n (length xs)) = omega arith in
    ap (λ m. drop m (x ∷ xs)) one ∙ drop_within n xs

no_first : (l : LogRecord) (ls : List LogRecord) → [] ≡ l ∷ ls → ⊥
no_first l ls e = absurd (cc)

record Parts (l m : LogRecord) (ls ms : List LogRecord) : Type 0 where
  pub head : l ≡ m
  pub tail : ls ≡ ms

parts : (l m : LogRecord) (ls ms : List LogRecord) → l ∷ ls ≡ m ∷ ms → Parts l m ls ms
parts l m ls ms e = record { head = cc; tail = cc }

behind_first : (p : LogForm) → p.format ≡ Second → (l : LogRecord) (ls more : List LogRecord) (xs : List ℕ)
    (c : Cut)
    (o : Option LogRecord) → first_frame p.format xs ≡ Some c → read_record p c.0 c.1 ≡ o
    → records_in p 0 xs ≡ l ∷ (ls ++ more)
    → (records_in p 0 c.2 ≡ ls ++ more
    → records_in p 0 c.2 ≡ ls ++ records_in p 0 (drop (frames_size ls) c.2))
    → records_in p 0 xs ≡ l ∷ (ls ++ records_in p 0 (drop (frames_size (l ∷ ls)) xs))
unfolding frames_size
behind_first p second l ls more xs c None e r is f =
    absurd (no_first l (ls ++ more) (sym (step p xs c e ∙ ap (λ o. and_records o (records_in p 0 c.2)) r)
    ∙ is))
behind_first p second l ls more xs c (Some m) e r is f =
    let a = frame_at p.format xs c e in
    let read : records_in p 0 xs ≡ m ∷ records_in p 0 c.2 =
    step p xs c e ∙ ap (λ o. and_records o (records_in p 0 c.2)) r in
    let both = parts m l (records_in p 0 c.2) (ls ++ more) (sym read ∙ is) in
    let long : record_size l ≡ length a.frame =
    ap record_size (sym both.head) ∙ frame_long p second xs c m a r in
    let left : drop (record_size l) xs ≡ c.2 =
    ap (λ n. drop n xs) long ∙ ap (drop (length a.frame)) a.split ∙ drop-append_seam a.frame c.2 in
    let rest : drop (frames_size ls) c.2 ≡ drop (record_size l + frames_size ls) xs =
    ap (drop (frames_size ls)) (sym left) ∙ drop-drop (frames_size ls) (record_size l) xs in
    read ∙ (λ i. both.head i ∷ f both.tail i) ∙ ap (λ ys. l ∷ (ls ++ records_in p 0 ys)) rest

behind_by : (p : LogForm) → p.format ≡ Second → (l : LogRecord) (ls more : List LogRecord) (xs : List ℕ)
    (o : Option Cut) → first_frame p.format xs ≡ o → records_in p 0 xs ≡ l ∷ (ls ++ more)
    → ((c : Cut) → records_in p 0 c.2 ≡ ls ++ more
    → records_in p 0 c.2 ≡ ls ++ records_in p 0 (drop (frames_size ls) c.2))
    → records_in p 0 xs ≡ l ∷ (ls ++ records_in p 0 (drop (frames_size (l ∷ ls)) xs))
behind_by p second l ls more xs None e is f = absurd (no_first l (ls ++ more) (sym (no_frame p xs e) ∙ is))
behind_by p second l ls more xs (Some c) e is f =
    behind_first p second l ls more xs c (read_record p c.0 c.1) e refl is (f c)

-- what is read after the frames of the first records
pub records_behind : (p : LogForm) → p.format ≡ Second → (first more : List LogRecord) (xs : List ℕ)
    → records_in p 0 xs ≡ first ++ more
    → records_in p 0 xs ≡ first ++ records_in p 0 (drop (frames_size first) xs)
unfolding frames_size
records_behind p second [] more xs is = refl
records_behind p second (l ∷ ls) more xs is =
    behind_by p second l ls more xs (first_frame p.format xs) refl is
    (λ c h. records_behind p second ls more c.2 h)

-- what a crash leaves after the first records
pub left_behind_front : (p : LogForm) (text left : List ℕ)
    (forced keep size cut failures room : ℕ) (failed : Bool)
    (s : LogState) (ls : List LogRecord)
    → log_state p text forced failures room failed ≡ s → p.format ≡ Second → 5 ≤ forced → forced ≤ length text
    → left ≡ take (forced + keep) text → cut ≡ min size (length left) → ls ≡ records_in p 0 (drop cut left)
    → (first : List LogRecord) → IsLogFront s.sight size first → first ++ ls ≡ left_by s.sight keep
left_behind_front p text left forced keep size cut failures room failed s ls view second h le e m r first f =
    let all : records_in p 0 (body left) ≡ left_by s.sight keep =
    left_of_view p text forced keep failures room failed s (records_in p 0 (body left)) view second h le
    (ap (λ t. records_in p 0 (body t)) e) in
    let more : List LogRecord = whole_within (s.sight.behind + keep) s.sight.kept.unforced in
    let parts : records_in p 0 (body left) ≡ first ++ (f.rest ++ more) =
    all ∙ ap (λ ks. ks ++ more) (sym f.split) ∙ append_assoc first f.rest more in
    let cut_is : drop cut left ≡ drop (frames_size first) (body left) =
    ap (λ n. drop n left) m ∙ drop_within size left ∙ ap (λ n. drop n left) f.sized
    ∙ sym (drop-drop (frames_size first) 5 left) in
    ap (λ ks. first ++ ks) (r ∙ ap (records_in p 0) cut_is)
    ∙ sym (records_behind p second first (f.rest ++ more) (body left) parts) ∙ all

-- How long a whole log is.

pub log_long : (p : LogForm) (text : List ℕ) (forced failures room : ℕ) (failed : Bool) (s : LogState)
    → log_state p text forced failures room failed ≡ s → p.format ≡ Second → 5 ≤ length text
    → is_whole p 0 (body text) ≡ true → records_in p 0 (body text) ≡ records_of s.sight.kept
    → length text ≡ 5 + frames_size (records_of s.sight.kept)
log_long p text forced failures room failed s view second long whole stands =
    omega (
      arith,
      long,
      length-drop 5 text,
      full_in p (suc (length (body text))) (body text) (omega arith) whole,
      sized p second (body text),
      ap frames_size stands,
    )
