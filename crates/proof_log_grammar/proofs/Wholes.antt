-- Whole frames of records are the text of these records.
use Rattle.std.proofs.Common.{◌≡◌, ◌<◌, ◌∙◌, ◌++◌, ℕ, zero, suc, Bool, true, false, List, [], ◌∷◌, length, Option, Some, None, refl, sym, ap, arith}
use Rattle.protocol.specs.declared.records.LogRecord.{LogRecord}
use Rattle.log_text.specs.declared.form.LogForm.{LogForm}
use Rattle.log_text.specs.Frames.{Cut, first_frame, frame_text}
use Rattle.log_text.specs.Payloads.{kind_byte, record_text, records_text}
use Rattle.log_text.specs.Reading.{read_record}
use Rattle.log_rules.specs.sound.Written.{AreBytes, IsWrittenAs}
use Rattle.log_rules.proofs.sound.CutRecords.{read_is_written}
use Rattle.log_records.specs.Texts.{and_records, is_whole, records_in, whole_by, whole_if}
use Rattle.log_records.proofs.Frames.{step, step_whole}
use Rattle.proof_log_grammar.proofs.Framed.{IsFrame, is_frame}

-- what is said of the text of these bytes
abbrev IsOwnText : LogForm → List ℕ → Type 0
IsOwnText p xs = xs ≡ records_text p (records_in p 0 xs)

nothing_written : (p : LogForm) → IsOwnText p []
unfolding records_text records_in
nothing_written p = refl

no_frame_whole : (p : LogForm) (b : ℕ) (bs : List ℕ) → first_frame p.format (b ∷ bs) ≡ None
    → is_whole p 0 (b ∷ bs) ≡ true → ⊥
unfolding is_whole
no_frame_whole p b bs none whole =
    let never : false ≡ true = sym (ap (λ o. whole_by p o (λ k. is_whole p k bs)) none) ∙ whole in
    absurd (cc)

-- one record more in front of bytes that are the text of their records
text_more : (p : LogForm) (xs : List ℕ) (c : Cut) (l : LogRecord) → IsFrame p.format xs c
    → first_frame p.format xs ≡ Some c → IsWrittenAs p l c.0 c.1 → read_record p c.0 c.1 ≡ Some l
    → IsOwnText p c.2 → IsOwnText p xs
unfolding records_text record_text
text_more p xs c l frame whole written reads more =
    frame.text
    ∙ ap (λ k. frame_text p.format k c.1 ++ c.2) (sym written.same_kind)
    ∙ ap (λ t. frame_text p.format (kind_byte l.entry) t ++ c.2) (sym written.same_payload)
    ∙ ap (λ t. record_text p l ++ t) more
    ∙ sym (ap (records_text p) (step p xs c whole ∙ ap (λ o. and_records o (records_in p 0 c.2)) reads))

module _ (p : LogForm) where
  by_record : (n : ℕ) (xs : List ℕ) (c : Cut) → length xs < suc n → AreBytes xs
      → first_frame p.format xs ≡ Some c
      → ((ys : List ℕ) → length ys < n → AreBytes ys → is_whole p 0 ys ≡ true → IsOwnText p ys)
      → (o : Option LogRecord) → read_record p c.0 c.1 ≡ o → whole_if o (is_whole p 0 c.2) ≡ true
      → IsOwnText p xs
  by_record n xs c short bytes whole more None reads all = absurd (cc)
  by_record n xs c short bytes whole more (Some l) reads all =
      let frame = is_frame p.format xs c bytes whole in
      let less : length c.2 < n = omega (arith, frame.shorter, short) in
      text_more p xs c l frame whole (read_is_written p c.0 c.1 l frame.payload reads) reads
      (more c.2 less frame.behind all)

  by_frame : (n : ℕ) (b : ℕ) (bs : List ℕ) → length (b ∷ bs) < suc n → AreBytes (b ∷ bs)
      → is_whole p 0 (b ∷ bs) ≡ true
      → ((ys : List ℕ) → length ys < n → AreBytes ys → is_whole p 0 ys ≡ true → IsOwnText p ys)
      → (o : Option Cut) → first_frame p.format (b ∷ bs) ≡ o → IsOwnText p (b ∷ bs)
  by_frame n b bs short bytes all more None whole = absurd (no_frame_whole p b bs whole all)
  by_frame n b bs short bytes all more (Some c) whole =
      by_record n (b ∷ bs) c short bytes whole more (read_record p c.0 c.1) refl
      (sym (step_whole p (b ∷ bs) c whole) ∙ all)

  within : (n : ℕ) (xs : List ℕ) → length xs < n → AreBytes xs → is_whole p 0 xs ≡ true → IsOwnText p xs
  within zero xs short bytes all = absurd (omega (arith, short))
  within (suc n) [] short bytes all = nothing_written p
  within (suc n) (b ∷ bs) short bytes all =
      by_frame n b bs short bytes all (λ ys less are w. within n ys less are w)
      (first_frame p.format (b ∷ bs)) refl

  -- bytes that are whole frames of records to their end are the text of these records
  pub whole_is_text : (xs : List ℕ) → AreBytes xs → is_whole p 0 xs ≡ true
      → xs ≡ records_text p (records_in p 0 xs)
  whole_is_text xs bytes all = within (suc (length xs)) xs (omega arith) bytes all
