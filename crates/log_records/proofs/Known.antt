-- The bytes that are known to be whole records.
use Rattle.std.proofs.Common.{◌≡◌, ◌≤◌, ◌+◌, ◌-◌, ◌⊎◌, inl, inr, ℕ, Bool, true, List, ◌++◌, length, take, drop, sym, ap, subst, ◌∙◌, arith, append_assoc, drop-drop, length-append, length-drop, length-take, take-append-drop}
use Rattle.std.proofs.lemmas.List.{length-take-le, take-append-le, take_all}
use Rattle.log_text.specs.declared.form.LogForm.{LogForm}
use Rattle.protocol.specs.declared.records.LogRecord.{LogRecord}
use Rattle.log_records.specs.Texts.{is_whole, records_in}
use Rattle.log_records.specs.Sights.{EndsSound, IsKnown, IsLogText, LogState, Sounds, body, log_state, whole_within}
use Rattle.log_records.proofs.Frames.{header_long, more_records, more_whole, nothing_whole}
use Rattle.log_records.proofs.Turns.{body_more, take_within}
use Rattle.log_records.proofs.Within.{left_records}
use Rattle.log_records.proofs.Written.{body_taken}

-- of what a crash leaves at the front, what is there of the whole
pub known_same : (text : List ℕ) (known n : ℕ) → 5 ≤ known → known ≤ n
    → take (known - 5) (body (take n text)) ≡ take (known - 5) (body text)
known_same text known n h le = ap (take (known - 5)) (body_taken n text (omega (arith, h, le)))
    ∙ take_within (known - 5) (n - 5) (body text) (omega (arith, h, le))

-- of what a crash leaves, what is known of the whole
pub known_left : (p : LogForm) (text : List ℕ) (forced known n : ℕ) → IsKnown p text forced known
    → forced ≤ length text → forced ≤ n → IsKnown p (take n text) (length (take n text)) known
known_left p text forced known n k le m = record {
  header = k.header;
  within = omega (arith, k.within, le, m, length-take n text);
  whole = ap (is_whole p 0) (known_same text known n k.header (omega (arith, k.within, m))) ∙ k.whole;
}

-- Of a text with a header.

-- the text of a log has a header
pub log_is_long : (p : LogForm) (text : List ℕ) (forced : ℕ) (failed : Bool) → IsLogText p text forced failed
    → 5 ≤ length text
log_is_long p text forced failed is =
    omega (arith, ap length is.begins, header_long p.format, length-take 5 text)

-- the header alone is known
pub known_header : (p : LogForm) (text : List ℕ) (forced known : ℕ) → 5 ≤ forced → known ≡ 5
    → IsKnown p text forced known
known_header p text forced known h e = record {
  header = omega (arith, e);
  within = omega (arith, e, h);
  whole = ap (λ n. is_whole p 0 (take (n - 5) (body text))) e ∙ nothing_whole p;
}

-- a whole text is known, where all of it is forced
pub known_all : (p : LogForm) (text : List ℕ) (forced known : ℕ) → 5 ≤ length text
    → is_whole p 0 (body text) ≡ true → known ≡ length text → length text ≤ forced
    → IsKnown p text forced known
known_all p text forced known long whole e le = record {
  header = omega (arith, e, long);
  within = omega (arith, e, le);
  whole = ap (is_whole p 0) (take_all (known - 5) (drop 5 text) (omega (arith, e, length-drop 5 text)))
      ∙ whole;
}

-- of a whole text, as much as is forced of it, or the header alone
pub known_either : (p : LogForm) (text : List ℕ) (forced size known : ℕ) → 5 ≤ length text → 5 ≤ forced
    → is_whole p 0 (body text) ≡ true → size ≡ length text → ((size ≤ forced) × (known ≡ size)) ⊎ (known ≡ 5)
    → IsKnown p text forced known
known_either p text forced size known long h whole e (inl all) =
    known_all p text forced known long whole (all.1 ∙ e) (omega (arith, all.0, e))
known_either p text forced size known long h whole e (inr none) = known_header p text forced known h none

-- of a text that goes on, what was known before
pub known_more : (p : LogForm) (text text' more : List ℕ) (forced forced' known : ℕ)
    → IsKnown p text forced known
    → forced ≤ length text → text' ≡ text ++ more → forced ≤ forced' → IsKnown p text' forced' known
known_more p text text' more forced forced' known k le e f =
    let same : take (known - 5) (body text') ≡ take (known - 5) (body text) =
    ap (λ t. take (known - 5) (body t)) e
    ∙ ap (take (known - 5)) (body_more text more (omega (arith, k.header, k.within, le)))
    ∙ take-append-le (known - 5) (drop 5 text) more
    (omega (arith, k.header, k.within, le, length-drop 5 text)) in
    record {
      header = k.header;
      within = omega (arith, k.within, f);
      whole = ap (is_whole p 0) same ∙ k.whole;
    }

-- of the same text, what was known before
pub known_still : (p : LogForm) (text text' : List ℕ) (forced forced' known : ℕ) → IsKnown p text forced known
    → text' ≡ text → forced ≤ forced' → IsKnown p text' forced' known
known_still p text text' forced forced' known k e f = record {
  header = k.header;
  within = omega (arith, k.within, f);
  whole = ap (λ t. is_whole p 0 (take (known - 5) (body t))) e ∙ k.whole;
}

-- What is after it.

pub split_known : (left : List ℕ) (known : ℕ) → 5 ≤ known
    → body left ≡ take (known - 5) (body left) ++ drop known left
split_known left known h =
    let sum : 5 + (known - 5) ≡ known = omega (arith, h) in
    sym (take-append-drop (known - 5) (drop 5 left))
    ∙ ap (λ t. take (known - 5) (drop 5 left) ++ t)
    (drop-drop (known - 5) 5 left ∙ ap (λ n. drop n left) sum)

known_records : (p : LogForm) (left : List ℕ) (known : ℕ) → IsKnown p left (length left) known
    → records_in p 0 (body left)
    ≡ records_in p 0 (take (known - 5) (body left)) ++ records_in p 0 (drop known left)
known_records p left known k = ap (records_in p 0) (split_known left known k.header)
    ∙ more_records p 0 (take (known - 5) (body left)) (drop known left) k.whole

-- where the whole frames end after the known bytes, they end in all
pub sound_behind : (p : LogForm) (left : List ℕ) (known size end : ℕ) → IsKnown p left (length left) known
    → Sounds p (drop known left) size → end ≡ known + size → EndsSound p left end
sound_behind p left known size end k s e =
    let first = take (known - 5) (body left) in
    let long : length first ≡ known - 5 = length-take-le (known - 5) (drop 5 left)
    (omega (arith, k.header, k.within, length-drop 5 left)) in
    record {
      header = omega (arith, k.header, e);
      there = omega (
        arith,
        e,
        k.within,
        s.sound_size,
        ap length s.split,
        length-append s.sound s.tail,
        length-drop known left,
      );
      sounds = record {
        sound = first ++ s.sound;
        tail = s.tail;
        split = split_known left known k.header ∙ ap (λ t. first ++ t) s.split
            ∙ sym (append_assoc first s.sound s.tail);
        sound_size = omega (arith, e, k.header, long, s.sound_size, length-append first s.sound);
        whole = more_whole p 0 first s.sound k.whole s.whole;
        all = known_records p left known k ∙ ap (λ t. records_in p 0 first ++ t) s.all
            ∙ sym (more_records p 0 first s.sound k.whole);
      };
    }

-- how many records a crash leaves after the forced ones
pub counted : (p : LogForm) (text : List ℕ) (forced known keep failures room : ℕ)
    (failed : Bool) (s : LogState)
    (behind before : List LogRecord)
    → log_state p text forced failures room failed ≡ s → IsLogText p text forced failed
    → IsKnown p text forced known → forced ≤ length text
    → behind ≡ records_in p 0 (drop known (take (forced + keep) text))
    → before ≡ records_in p 0 (drop known (take (forced + 0) text))
    → length behind ≡ length before + length (whole_within (s.sight.behind + keep) s.sight.kept.unforced)
counted p text forced known keep failures room failed s behind before view is k le b c =
    let st = log_state p text forced failures room failed in
    let first = records_in p 0 (take (known - 5) (body text)) in
    let F = st.sight.kept.forced in
    let W = whole_within (st.sight.behind + keep) st.sight.kept.unforced in
    let cut : (n : ℕ) → forced ≤ n
    → records_in p 0 (body (take n text)) ≡ first ++ records_in p 0 (drop known (take n text)) =
    λ n m. known_records p (take n text) known (known_left p text forced known n k le m)
    ∙ ap (λ t. records_in p 0 t ++ records_in p 0 (drop known (take n text)))
    (known_same text known n k.header (omega (arith, k.within, m))) in
    let all : F ++ W ≡ first ++ behind =
    sym (left_records p text forced keep failures room failed is.second is.header_forced le)
    ∙ cut (forced + keep) (omega arith) ∙ ap (λ t. first ++ t) (sym b) in
    let none : forced + 0 ≡ forced = omega arith in
    let now : F ≡ first ++ before =
    sym (ap (records_in p 0) (ap (λ n. body (take n text)) none
    ∙ body_taken forced text is.header_forced))
    ∙ cut (forced + 0) (omega arith) ∙ ap (λ t. first ++ t) (sym c) in
    subst (λ z. length behind
    ≡ length before + length (whole_within (z.sight.behind + keep) z.sight.kept.unforced)) view
    (omega (
      arith,
      ap length all,
      ap length now,
      length-append F W,
      length-append first behind,
      length-append first before,
    ))
