-- What the calls of a store make of the records.
use Rattle.std.proofs.Common.{◌≡◌, ◌≤◌, ◌+◌, ◌-◌, ℕ, zero, suc, Bool, true, false, List, [], ◌∷◌, ◌++◌, length, take, drop, refl, sym, ap, subst, ◌∙◌, append-nil, arith, length-append}
use Rattle.std.proofs.lemmas.List.{take-append-le, drop-append-le, length-drop, take_all}
use Rattle.std.proofs.Math.Seq.{drop-append_seam}
use Rattle.log_text.specs.declared.form.LogForm.{LogForm}
use Rattle.protocol.specs.declared.records.LogRecord.{LogRecord}
use Rattle.log_store.specs.declared.store.StoreError.{StoreError}
use Rattle.log_store.specs.declared.store.StoreError.TheVariants.{Memory, Device}
use Rattle.log_store.specs.Stores.{MoreFailures}
use Rattle.log_text.specs.declared.form.LogFormat.TheVariants.{Second}
use Rattle.log_text.specs.Frames.{frame_text}
use Rattle.log_text.specs.Payloads.{record_text}
use Rattle.log_records.specs.Texts.{is_whole, records_in, whole_size}
use Rattle.log_records.specs.Sights.{Appended, Breaks, Forced, IsLogText, CanStandInForm, LogState, body, bytes_behind, front, kept_of, log_state, records_of, whole_within}
use Rattle.log_records.proofs.Frames.{front_of, front_of_frame, more_records, more_whole, one_record, one_whole}
use Rattle.log_records.proofs.Within.{frame_size, left_records, whole_is_full}

-- all the records that stand are those of the text
pub records_stand : (p : LogForm) (text : List ℕ) (forced : ℕ)
    → records_of (kept_of p text forced) ≡ records_in p 0 (body text)
records_stand p text forced =
    let e = front_of p 0 (forced - 5) (body text) in
    subst (λ all. records_in p 0 (front text forced) ++ drop (length (records_in p 0 (front text forced))) all
    ≡ all) (sym e.1)
    (ap (λ t. records_in p 0 (front text forced) ++ t)
    (drop-append_seam (records_in p 0 (front text forced)) e.0))

pub take_within : (n m : ℕ) (xs : List ℕ) → n ≤ m → take n (take m xs) ≡ take n xs
take_within zero m xs h = refl
take_within (suc n) zero xs h = absurd (omega arith)
take_within (suc n) (suc m) [] h = refl
take_within (suc n) (suc m) (x ∷ xs) h = ap (λ t. x ∷ t) (take_within n m xs (omega arith))

pub body_more : (text more : List ℕ) → 5 ≤ length text → body (text ++ more) ≡ body text ++ more
body_more text more h = drop-append-le 5 text more h

pub front_more : (text more : List ℕ) (forced : ℕ) → 5 ≤ forced → forced ≤ length text
    → front (text ++ more) forced ≡ front text forced
front_more text more forced h le =
    let fits : forced - 5 ≤ length (drop 5 text) = omega (arith, length-drop 5 text) in
    ap (take (forced - 5)) (body_more text more (omega arith))
    ∙ take-append-le (forced - 5) (drop 5 text) more fits

short_front : (p : LogForm) (text : List ℕ) (forced : ℕ)
    → length (records_in p 0 (front text forced)) ≤ length (records_in p 0 (body text))
short_front p text forced =
    let e = front_of p 0 (forced - 5) (body text) in
    omega (arith, ap length e.1, length-append (records_in p 0 (front text forced)) e.0)

-- a record of which this much came
pub text_came : (p : LogForm) (text text' more : List ℕ) (forced forced' : ℕ) (failed : Bool) → failed ≡ false
    → IsLogText p text forced failed → forced ≤ length text
    → text' ≡ text ++ more → records_in p 0 (body text') ≡ records_in p 0 (body text) ++ records_in p 0 more
text_came p text text' more forced forced' failed ok is le e =
    ap (λ t. records_in p 0 (body t)) e ∙ ap (records_in p 0)
    (body_more text more (omega (arith, is.header_forced)))
    ∙ more_records p 0 (body text) more (is.whole ok)

front_same : (text text' more : List ℕ) (forced forced' : ℕ) → 5 ≤ forced → forced ≤ length text
    → text' ≡ text ++ more → forced' ≡ forced → front text' forced' ≡ front text forced
front_same text text' more forced forced' h le e f = ap (λ k. front text' k) f ∙ ap (λ t. front t forced) e
    ∙ front_more text more forced h le

pub appended : (p : LogForm) (text text' : List ℕ) (forced forced' failures failures' room room' : ℕ)
    (l : LogRecord) (failed : Bool) → failed ≡ false → CanStandInForm p l
    → IsLogText p text forced failed → forced ≤ length text
    → text' ≡ text ++ record_text p l → forced' ≡ forced → failures' ≡ failures → room ≤ room'
    → Appended (log_state p text forced failures room failed)
    (log_state p text' forced' failures' room' failed) l
appended p text text' forced forced' failures failures' room room' l failed ok record_is is le e f g r =
    let same = front_same text text' (record_text p l) forced forced' is.header_forced le e f in
    let all = text_came p text text' (record_text p l) forced forced' failed ok is le e
    ∙ ap (λ t. records_in p 0 (body text) ++ t) (one_record p l record_is) in
    record {
      form = refl;
      forced = ap (records_in p 0) same;
      unforced = ap (λ t. drop (length (records_in p 0 t)) (records_in p 0 (body text'))) same
          ∙ ap (drop (length (records_in p 0 (front text forced)))) all
          ∙ drop-append-le (length (records_in p 0 (front text forced))) (records_in p 0 (body text)) (l ∷ [])
          (short_front p text forced);
      behind = ap (λ t. length t - whole_size p 0 t) same;
      works = ok;
      failures = g;
      room = omega (arith, r, ap length e, length-append text (record_text p l), frame_size p is.second l);
    }

pub text_goes_on : (p : LogForm) (text text' : List ℕ) (forced forced' : ℕ) (l : LogRecord) (failed : Bool)
    → failed ≡ false → CanStandInForm p l → IsLogText p text forced failed
    → forced ≤ length text → text' ≡ text ++ record_text p l → forced' ≡ forced
    → IsLogText p text' forced' failed
text_goes_on p text text' forced forced' l failed ok record_is is le e f =
    let same = front_same text text' (record_text p l) forced forced' is.header_forced le e f in
    record {
      second = is.second;
      begins = ap (take 5) e ∙ take-append-le 5 text (record_text p l) (omega (arith, is.header_forced))
          ∙ is.begins;
      header_forced = omega (arith, f, is.header_forced);
      whole = λ _. ap (λ t. is_whole p 0 (body t)) e
          ∙ ap (is_whole p 0) (body_more text (record_text p l) (omega (arith, is.header_forced)))
          ∙ more_whole p 0 (body text) (record_text p l) (is.whole ok) (one_whole p l record_is);
    }

-- a text whose header is forced, whatever else came of a fault
pub text_failed : (p : LogForm) (text text' more : List ℕ) (forced forced' : ℕ) (failed : Bool)
    → IsLogText p text forced failed → forced ≤ length text
    → text' ≡ text ++ more → forced ≤ forced' → IsLogText p text' forced' true
text_failed p text text' more forced forced' failed is le e f = record {
  second = is.second;
  begins = ap (take 5) e ∙ take-append-le 5 text more (omega (arith, is.header_forced)) ∙ is.begins;
  header_forced = omega (arith, f, is.header_forced);
  whole = λ h. absurd (cc);
}

pub append_breaks : (p : LogForm) (text text' : List ℕ)
    (forced forced' failures failures' room room' came : ℕ)
    (l : LogRecord) (failed : Bool) → failed ≡ false → CanStandInForm p l
    → IsLogText p text forced failed → forced ≤ length text
    → text' ≡ text ++ take came (record_text p l) → forced' ≡ forced → MoreFailures failures failures'
    → Breaks (log_state p text forced failures room failed) (log_state p text' forced' failures' room' true)
    (l ∷ [])
append_breaks p text text' forced forced' failures failures' room room' came l failed ok record_is is le e f
    cause =
    let n = front_of_frame p l came record_is in
    let same = front_same text text' (take came (record_text p l)) forced forced' is.header_forced le e f in
    let front_is = records_in p 0 (front text forced) in
    let behind = bytes_behind p text forced in
    let rest = drop (length front_is) (records_in p 0 (body text)) in
    let all : records_in p 0 (body text') ≡ records_in p 0 (body text) ++ take n.0 (l ∷ []) =
    text_came p text text' (take came (record_text p l)) forced forced' failed ok is le e
    ∙ ap (λ t. records_in p 0 (body text) ++ t) n.1 in
    let rest_is : drop (length (records_in p 0 (front text' forced'))) (records_in p 0 (body text')) ≡ rest
    ++ take n.0 (l ∷ []) =
    ap (λ t. drop (length (records_in p 0 t)) (records_in p 0 (body text'))) same
    ∙ ap (drop (length front_is)) all
    ∙ drop-append-le (length front_is) (records_in p 0 (body text)) (take n.0 (l ∷ []))
    (short_front p text forced) in
    let behind_is : bytes_behind p text' forced' ≡ behind = ap (λ t. length t - whole_size p 0 t) same in
    record {
      form = refl;
      appended = n.0;
      stand = records_stand p text' forced' ∙ text_came p text text'
          (take came (record_text p l)) forced forced' failed ok is le e
          ∙ ap (λ t. records_in p 0 (body text) ++ t) n.1
          ∙ ap (λ t. t ++ take n.0 (l ∷ [])) (sym (records_stand p text forced));
      no_less = omega (arith, ap (λ t. length (records_in p 0 t)) same);
      more = 0;
      leaves = λ keep. ap (λ t. records_in p 0 t
          ++ whole_within (bytes_behind p text' forced' + keep)
          (drop (length (records_in p 0 (front text' forced'))) (records_in p 0 (body text')))) same
          ∙ ap (λ t. front_is ++ whole_within (bytes_behind p text' forced' + keep) t) rest_is
          ∙ ap (λ m. front_is ++ whole_within m (rest ++ take n.0 (l ∷ []))) (omega (arith, behind_is));
      failed = refl;
      cause = cause;
    }

-- Forces.

pub all_front : (text : List ℕ) (forced : ℕ) → forced ≡ length text → front text forced ≡ body text
all_front text forced e = take_all (forced - 5) (drop 5 text) (omega (arith, length-drop 5 text, e))

pub drop_all : (xs : List LogRecord) → drop (length xs) xs ≡ []
drop_all [] = refl
drop_all (x ∷ xs) = drop_all xs

pub forced_all : (p : LogForm) (text text' : List ℕ) (forced forced' failures failures' room room' : ℕ)
    (failed : Bool) → failed ≡ false → is_whole p 0 (body text) ≡ true
    → text' ≡ text → forced' ≡ length text → failures' ≡ failures → room ≤ room'
    → Forced (log_state p text forced failures room failed) (log_state p text' forced' failures' room' failed)
forced_all p text text' forced forced' failures failures' room room' failed ok whole e f g r =
    let all : front text' forced' ≡ body text' = all_front text' forced' (f ∙ ap length (sym e)) in
    record {
      form = refl;
      forced = ap (records_in p 0) all ∙ ap (λ t. records_in p 0 (body t)) e
          ∙ sym (records_stand p text forced);
      unforced = ap (λ t. drop (length (records_in p 0 t)) (records_in p 0 (body text'))) all
          ∙ drop_all (records_in p 0 (body text'));
      behind = ap (λ t. length t - whole_size p 0 t) (all ∙ ap body e) ∙ whole_is_full p (body text) whole;
      works = ok;
      failures = g;
      room = omega (arith, r, ap length e);
    }

pub text_forced : (p : LogForm) (text text' : List ℕ) (forced forced' : ℕ) (failed : Bool) → failed ≡ false
    → IsLogText p text forced failed → forced ≤ length text
    → text' ≡ text → forced' ≡ length text → IsLogText p text' forced' failed
text_forced p text text' forced forced' failed ok is le e f =
    let all : front text' forced' ≡ body text' = all_front text' forced' (f ∙ ap length (sym e)) in
    let whole : is_whole p 0 (body text') ≡ true = ap (λ t. is_whole p 0 (body t)) e ∙ is.whole ok in
    record {
      second = is.second;
      begins = ap (take 5) e ∙ is.begins;
      header_forced = omega (arith, f, le, is.header_forced);
      whole = λ _. whole;
    }

pub front_grows : (p : LogForm) (text : List ℕ) (n m : ℕ) → n ≤ m
    → length (records_in p 0 (front text n)) ≤ length (records_in p 0 (front text m))
front_grows p text n m h =
    let e = front_of p 0 (n - 5) (front text m) in
    let f : records_in p 0 (take (n - 5) (front text m)) ≡ records_in p 0 (front text n) =
    ap (records_in p 0) (take_within (n - 5) (m - 5) (body text) (omega arith)) in
    omega (
      arith,
      ap length e.1,
      ap length f,
      length-append (records_in p 0 (take (n - 5) (front text m))) e.0,
    )

pub force_breaks : (p : LogForm) (text text' : List ℕ) (forced forced' failures failures' room room' : ℕ)
    (failed : Bool) → p.format ≡ Second
    → 5 ≤ forced → forced ≤ length text → forced' ≤ length text' → text' ≡ text → forced ≤ forced'
    → MoreFailures failures failures'
    → Breaks (log_state p text forced failures room failed)
    (log_state p text' forced' failures' room' true) []
force_breaks p text text' forced forced' failures failures' room room' failed second header within within' e f
    cause = record {
      form = refl;
      appended = 0;
      stand = records_stand p text' forced' ∙ ap (λ t. records_in p 0 (body t)) e
          ∙ sym (records_stand p text forced) ∙ sym (append-nil (records_of (kept_of p text forced)));
      no_less = omega (
        arith,
        front_grows p text forced forced' f,
        ap (λ t. length (records_in p 0 (front t forced'))) e,
      );
      more = forced' - forced;
      leaves = λ keep.
          let sum : forced' + keep ≡ forced + (forced' - forced + keep) = omega (arith, f) in
          sym (left_records p text' forced' keep failures' room' true second
          (omega (arith, header, f)) within')
          ∙ ap (λ t. records_in p 0 (body (take (forced' + keep) t))) e
          ∙ ap (λ n. records_in p 0 (body (take n text))) sum
          ∙ left_records p text forced (forced' - forced + keep) failures room failed second header within
          ∙ ap (λ t. records_in p 0 (front text forced)
          ++ whole_within (bytes_behind p text forced + (forced' - forced + keep)) t)
          (sym
          (append-nil (drop (length (records_in p 0 (front text forced))) (records_in p 0 (body text)))));
      failed = refl;
      cause = cause;
    }

pub record_long : (p : LogForm) (l : LogRecord) → 1 ≤ length (record_text p l)
unfolding record_text frame_text
record_long p l = omega arith

-- where memory cannot be the cause
pub by_device : (e : StoreError) (P Q : Type 0) → (e ≡ Memory → P) → (P → ⊥) → (e ≡ Device → Q) → Q
by_device Memory P Q memory never device = absurd (never (memory refl))
by_device Device P Q memory never device = device refl

-- what the view says
pub appended_of : (s t new : LogState) (l : LogRecord) → s ≡ t → Appended s new l → Appended t new l
appended_of s t new l e b = subst (λ x. Appended x new l) e b

pub forced_of : (s t new : LogState) → s ≡ t → Forced s new → Forced t new
forced_of s t new e b = subst (λ x. Forced x new) e b

pub breaks_of : (s t new : LogState) (ls : List LogRecord) → s ≡ t → Breaks s new ls → Breaks t new ls
breaks_of s t new ls e b = subst (λ x. Breaks x new ls) e b
