-- Restarts.
use Rattle.std.proofs.Common.{◌≡◌, ◌≤◌, ◌+◌, ◌-◌, inl, inr, ℕ, Bool, true, false, List, [], ◌++◌, length, take, drop, Some, None, refl, sym, ap, subst, ◌∙◌, arith, append_assoc, append-nil, take-append-drop, length-append, ◌∷◌, length-drop, length-take, if◌then◌else◌}
use Rattle.std.proofs.lemmas.List.{take-append-le}
use Rattle.std.proofs.Math.Seq.{take-append_seam}
use Rattle.log_text.specs.declared.form.LogForm.{LogForm}
use Rattle.protocol.specs.declared.records.LogRecord.{LogRecord}
use Rattle.log_store.specs.Stores.{Appends, ForceBreaks, MoreFailures}
use Rattle.log_text.specs.Frames.{Cut, first_frame}
use Rattle.log_text.specs.declared.form.LogFormat.TheVariants.{Second}
use Rattle.log_text.specs.Forms.{header}
use Rattle.log_text.specs.Payloads.{records_text}
use Rattle.log_text.specs.Reading.{read_record}
use Rattle.log_records.specs.Texts.{and_records, is_whole, records_in, whole_if, whole_size}
use Rattle.log_records.specs.Sights.{AreRecords, EndsSound, IsLogText, LogState, LogRestartBreaks, LogRestarts, Sounds, body, front, left_by, log_state, whole_within}
use Rattle.log_records.specs.Restarting.{BreaksLeft, LeavesText, StandsLeft, WritesLeft}
use Rattle.log_records.proofs.Frames.{front_of, header_dropped, header_long, header_taken, more_records, more_whole, no_frame, nothing_whole, step, step_whole}
use Rattle.log_records.proofs.Openings.{frame_at}
use Rattle.log_records.proofs.Turns.{all_front, body_more, front_grows, front_more, drop_all, records_stand, take_within}
use Rattle.log_records.proofs.Within.{left_records, whole_is_full}
use Rattle.log_records.proofs.Written.{body_taken, whole_text, written}

-- The whole frames at the front.

pub record Passes (p : LogForm) (bytes rest : List ℕ) : Type 0 where
  pub sound : List ℕ
  pub split : bytes ≡ sound ++ rest
  pub whole : is_whole p 0 sound ≡ true

pub passes_first : (p : LogForm) (bytes : List ℕ) → Passes p bytes bytes
passes_first p bytes = record { sound = []; split = refl; whole = nothing_whole p }

pub passes_on : (p : LogForm) (bytes rest : List ℕ) (c : Cut) (l : LogRecord) → Passes p bytes rest
    → first_frame p.format rest ≡ Some c → read_record p c.0 c.1 ≡ Some l → Passes p bytes c.2
passes_on p bytes rest c l h e r =
    let a = frame_at p.format rest c e in
    let own : is_whole p 0 a.frame ≡ true = step_whole p a.frame (c.0, c.1, []) a.alone
    ∙ ap (λ o. whole_if o (is_whole p 0 [])) r ∙ nothing_whole p in
    record {
      sound = h.sound ++ a.frame;
      split = h.split ∙ ap (λ z. h.sound ++ z) a.split ∙ sym (append_assoc h.sound a.frame c.2);
      whole = more_whole p 0 h.sound a.frame h.whole own;
    }

sounds_of : (p : LogForm) (bytes rest : List ℕ) → Passes p bytes rest → records_in p 0 rest ≡ []
    → Sounds p bytes (length bytes - length rest)
sounds_of p bytes rest h e = record {
  sound = h.sound;
  tail = rest;
  split = h.split;
  sound_size = omega (arith, ap length h.split, length-append h.sound rest);
  whole = h.whole;
  all = ap (records_in p 0) h.split ∙ more_records p 0 h.sound rest h.whole
      ∙ ap (λ t. records_in p 0 h.sound ++ t) e ∙ append-nil (records_in p 0 h.sound);
}

pub sounds_torn : (p : LogForm) (bytes rest : List ℕ) → Passes p bytes rest → first_frame p.format rest ≡ None
    → Sounds p bytes (length bytes - length rest)
sounds_torn p bytes rest h e = sounds_of p bytes rest h (no_frame p rest e)

pub sounds_strange : (p : LogForm) (bytes rest : List ℕ) (c : Cut) → Passes p bytes rest
    → first_frame p.format rest ≡ Some c → read_record p c.0 c.1 ≡ None
    → Sounds p bytes (length bytes - length rest)
sounds_strange p bytes rest c h e r = sounds_of p bytes rest h
    (step p rest c e ∙ ap (λ o. and_records o (records_in p 0 c.2)) r)

-- The text that a restart writes.

record Parts (p : LogForm) (left : List ℕ) (rs : List LogRecord) (text : List ℕ) : Type 0 where
  sound : List ℕ
  is : text ≡ header p.format ++ (sound ++ records_text p rs)
  whole : is_whole p 0 sound ≡ true
  all : records_in p 0 (body left) ≡ records_in p 0 sound

parts_of : (p : LogForm) (left text : List ℕ) (rs : List LogRecord) → take 5 left ≡ header p.format
    → LeavesText p left rs text → Parts p left rs text
parts_of p left text rs h l =
    let s = l.ends.sounds in
    let whole : left ≡ (header p.format ++ s.sound) ++ s.tail = sym (take-append-drop 5 left)
    ∙ ap (λ t. t ++ drop 5 left) h ∙ ap (λ t. header p.format ++ t) s.split
    ∙ sym (append_assoc (header p.format) s.sound s.tail) in
    let size : l.end ≡ length (header p.format ++ s.sound) =
    omega (arith, l.ends.header, s.sound_size, header_long p.format, length-append (header p.format) s.sound)
    in
    let cut : take l.end left ≡ header p.format ++ s.sound = ap (λ n. take n left) size
    ∙ ap (take (length (header p.format ++ s.sound))) whole
    ∙ take-append_seam (header p.format ++ s.sound) s.tail in
    record {
      sound = s.sound;
      is = l.is ∙ ap (λ t. t ++ records_text p rs) cut
          ∙ append_assoc (header p.format) s.sound (records_text p rs);
      whole = s.whole;
      all = s.all;
    }

text_records : (p : LogForm) (left text : List ℕ) (rs : List LogRecord) → AreRecords p.kind rs
    → Parts p left rs text
    → records_in p 0 (body text) ≡ records_in p 0 (body left) ++ rs
text_records p left text rs are q =
    ap (λ t. records_in p 0 (drop 5 t)) q.is
    ∙ ap (records_in p 0) (header_dropped p.format (q.sound ++ records_text p rs))
    ∙ more_records p 0 q.sound (records_text p rs) q.whole
    ∙ ap (λ t. records_in p 0 q.sound ++ t) (written p rs are)
    ∙ ap (λ t. t ++ rs) (sym q.all)

pub text_settled : (p : LogForm) (left text : List ℕ) (rs : List LogRecord) (forced : ℕ) → p.format ≡ Second
    → AreRecords p.kind rs
    → take 5 left ≡ header p.format → LeavesText p left rs text → forced ≡ length text
    → IsLogText p text forced false
text_settled p left text rs forced second are h l f =
    let q = parts_of p left text rs h l in
    record {
      second = second;
      begins = ap (take 5) q.is ∙ header_taken p.format (q.sound ++ records_text p rs);
      header_forced = omega (
        arith,
        f,
        ap length q.is,
        header_long p.format,
        length-append (header p.format) (q.sound ++ records_text p rs),
      );
      whole = λ _. ap (λ t. is_whole p 0 (drop 5 t)) q.is
          ∙ ap (is_whole p 0) (header_dropped p.format (q.sound ++ records_text p rs))
          ∙ more_whole p 0 q.sound (records_text p rs) q.whole (whole_text p rs are);
    }

pub front_begins : (n : ℕ) (text front : List ℕ) → 5 ≤ n → take 5 text ≡ front → take 5 (take n text) ≡ front
front_begins n text front h b = take_within 5 n text h ∙ b

pub restarted : (p : LogForm) (text new : List ℕ) (forced forced' keep failures failures' room room' : ℕ)
    (rs : List LogRecord) (failed : Bool) (s : LogState)
    → log_state p text forced failures room failed ≡ s → AreRecords p.kind rs → IsLogText p text forced failed
    → forced ≤ length text → LeavesText p (take (forced + keep) text) rs new → forced' ≡ length new
    → failures' ≡ failures
    → LogRestarts s (log_state p new forced' failures' room' false) keep rs
restarted p text new forced forced' keep failures failures' room room' rs failed s view are is le l f g =
    let left = left_records p text forced keep failures room failed is.second is.header_forced le in
    let whole = (text_settled p (take (forced + keep) text) new rs forced' is.second are
    (front_begins (forced + keep) text (header p.format) (omega (arith, is.header_forced)) is.begins) l
    f).whole refl in
    let h = front_begins (forced + keep) text (header p.format) (omega (arith, is.header_forced)) is.begins in
    let q = parts_of p (take (forced + keep) text) new rs h l in
    let all : front new forced' ≡ body new = all_front new forced' f in
    subst (λ z. LogRestarts z (log_state p new forced' failures' room' false) keep rs) view
    (record {
      form = refl;
      forced = ap (records_in p 0) all ∙ text_records p (take (forced + keep) text) new rs are q
          ∙ ap (λ t. t ++ rs) left;
      unforced = ap (λ t. drop (length (records_in p 0 t)) (records_in p 0 (body new))) all
          ∙ drop_all (records_in p 0 (body new));
      behind = ap (λ t. length t - whole_size p 0 t) all ∙ whole_is_full p (body new) whole;
      works = refl;
      failures = g;
    })

-- a crash leaves the forced front as it was
front_stays : (text : List ℕ) (forced keep : ℕ) → 5 ≤ forced
    → front (take (forced + keep) text) forced ≡ front text forced
front_stays text forced keep h =
    ap (take (forced - 5)) (body_taken (forced + keep) text (omega (arith, h)))
    ∙ take_within (forced - 5) (forced + keep - 5) (body text) (omega (arith, h))

-- What a restart writes.

empty : (xs : List ℕ) → length xs ≡ 0 → xs ≡ []
empty [] e = refl
empty (x ∷ xs) e = absurd (omega (arith, e))

all_of : {A : Type 0} (xs : List A) → take (length xs) xs ≡ xs
all_of [] = refl
all_of (x ∷ xs) = ap (λ t. x ∷ t) (all_of xs)

-- what is left is whole where its whole frames end at its end
whole_left : (p : LogForm) (left : List ℕ) → EndsSound p left (length left) → is_whole p 0 (body left) ≡ true
whole_left p left e =
    let s = e.sounds in
    let none : s.tail ≡ [] =
    empty s.tail (omega (
      arith,
      e.header,
      s.sound_size,
      ap length s.split,
      length-append s.sound s.tail,
      length-drop 5 left,
    )) in
    ap (is_whole p 0) (s.split ∙ ap (λ t. s.sound ++ t) none ∙ append-nil s.sound) ∙ s.whole

pub leaves_text : (p : LogForm) (left text new : List ℕ) (rs : List LogRecord) (anew : Bool)
    → WritesLeft p left rs anew text → new ≡ (if anew then text else left ++ text) → LeavesText p left rs new
leaves_text p left text new rs true w e = subst (λ t. LeavesText p left rs t) (sym e) w
leaves_text p left text new rs false w e = record {
  end = length left;
  ends = w.0;
  is = e ∙ ap (λ t. left ++ t) w.1 ∙ ap (λ t. t ++ records_text p rs) (sym (all_of left));
}

-- the text came after what is left, and the device failed in its force
pub force_left : {S : Type 0} (bytes : S → List ℕ) (forced failures : S → ℕ) (old mid new : S) (text : List ℕ)
    → Appends bytes forced failures old mid text → ForceBreaks bytes forced failures mid new
    → BreaksLeft bytes forced failures old new false text
force_left bytes forced failures old mid new text a f = record {
  stands = (
    length text,
    f.text ∙ a.text ∙ ap (λ t. bytes old ++ t) (sym (all_of text)),
    omega (arith, f.no_less, a.forced_stays),
  );
  cause = subst (λ n. MoreFailures n (failures new)) a.failures_stay f.cause;
}

-- what stands where the device failed
pub data Broken (p : LogForm) (left : List ℕ) (rs : List LogRecord) (forced : ℕ) (bytes : List ℕ)
    (forced' : ℕ) : Type 0 where
  AsLeft : bytes ≡ left → forced' ≡ forced → Broken p left rs forced bytes forced'
  Anew : LeavesText p left rs bytes → forced' ≡ length bytes → Broken p left rs forced bytes forced'
  GoesOn : (came : ℕ) → is_whole p 0 (body left) ≡ true → bytes ≡ left ++ take came (records_text p rs)
      → forced ≤ forced' → Broken p left rs forced bytes forced'

pub broken : (p : LogForm) (left text old bytes : List ℕ) (rs : List LogRecord) (forced before forced' : ℕ)
    (anew : Bool) → WritesLeft p left rs anew text → old ≡ left → before ≡ forced
    → StandsLeft anew old before bytes forced' text → Broken p left rs forced bytes forced'
broken p left text old bytes rs forced before forced' true w o b (inl e) = AsLeft (e.0 ∙ o) (e.1 ∙ b)
broken p left text old bytes rs forced before forced' true w o b (inr e) =
    Anew (subst (λ t. LeavesText p left rs t) (sym e.0) w) (e.1 ∙ ap length (sym e.0))
broken p left text old bytes rs forced before forced' false w o b e =
    GoesOn e.0 (whole_left p left w.0) (e.1 ∙ (λ j. o j ++ take e.0 (w.1 j)))
    (omega (arith, e.2, b))

-- the forced records do not become fewer
module _ (p : LogForm) (text : List ℕ) (forced keep failures room : ℕ) (failed : Bool)
    (is : IsLogText p text forced failed) (le : forced ≤ length text) where
  abbrev left : List ℕ
  left = take (forced + keep) text

  abbrev before : LogState
  before = log_state p text forced failures room failed

  left_is : records_in p 0 (body left) ≡ left_by before.sight keep
  left_is = left_records p text forced keep failures room failed is.second is.header_forced le

  begins : take 5 left ≡ header p.format
  begins = front_begins (forced + keep) text (header p.format) (omega (arith, is.header_forced)) is.begins

  long : forced ≤ length left
  long = omega (arith, le, length-take (forced + keep) text)

  pub text_broken : (rs : List LogRecord) (bytes : List ℕ) (forced' : ℕ) → AreRecords p.kind rs
      → Broken p left rs forced bytes forced' → IsLogText p bytes forced' true
  text_broken rs bytes forced' are (AsLeft e f) = record {
    second = is.second;
    begins = ap (take 5) e ∙ begins;
    header_forced = omega (arith, f, is.header_forced);
    whole = λ h. absurd (cc);
  }
  text_broken rs bytes forced' are (Anew l f) =
      let t = text_settled p left bytes rs forced' is.second are begins l f in
      record {
        second = is.second;
        begins = t.begins;
        header_forced = t.header_forced;
        whole = λ h. absurd (cc);
      }
  text_broken rs bytes forced' are (GoesOn came whole e f) = record {
    second = is.second;
    begins = ap (take 5) e ∙ take-append-le 5 left (take came (records_text p rs))
        (omega (arith, long, is.header_forced)) ∙ begins;
    header_forced = omega (arith, f, is.header_forced);
    whole = λ h. absurd (cc);
  }

  pub breaks_restart : (rs : List LogRecord) (bytes : List ℕ) (forced' failures' room' : ℕ)
      → AreRecords p.kind rs
      → Broken p left rs forced bytes forced' → MoreFailures failures failures'
      → LogRestartBreaks before (log_state p bytes forced' failures' room' true) keep rs
  breaks_restart rs bytes forced' failures' room' are (AsLeft e f) cause = record {
    form = refl;
    appended = 0;
    stand = records_stand p bytes forced' ∙ ap (λ t. records_in p 0 (body t)) e ∙ left_is
        ∙ sym (append-nil (left_by before.sight keep));
    no_less = omega (
      arith,
      ap (λ t. length (records_in p 0 (front t forced'))) e,
      ap (λ n. length (records_in p 0 (front left n))) f,
      ap (λ t. length (records_in p 0 t)) (front_stays text forced keep is.header_forced),
    );
    failed = refl;
    cause = cause;
  }
  breaks_restart rs bytes forced' failures' room' are (Anew l f) cause =
      let q = parts_of p left bytes rs begins l in
      let stand : records_in p 0 (body bytes) ≡ left_by before.sight keep ++ rs =
      text_records p left bytes rs are q ∙ ap (λ t. t ++ rs) left_is in
      record {
        form = refl;
        appended = length rs;
        stand = records_stand p bytes forced' ∙ stand
            ∙ ap (λ t. left_by before.sight keep ++ t) (sym (all_of rs));
        no_less = omega (
          arith,
          ap (λ t. length (records_in p 0 t)) (all_front bytes forced' f),
          ap length stand,
          length-append (left_by before.sight keep) rs,
          length-append before.sight.kept.forced
              (whole_within (before.sight.behind + keep) before.sight.kept.unforced),
        );
        failed = refl;
        cause = cause;
      }
  breaks_restart rs bytes forced' failures' room' are (GoesOn came whole e f) cause =
      let more = take came (records_text p rs) in
      let xs = records_in p 0 more in
      let s = front_of p 0 came (records_text p rs) in
      let xs_are : xs ≡ take (length xs) rs =
      sym (ap (take (length xs)) (sym (written p rs are) ∙ s.1) ∙ take-append_seam xs s.0) in
      record {
        form = refl;
        appended = length xs;
        stand = records_stand p bytes forced' ∙ ap (λ t. records_in p 0 (body t)) e
            ∙ ap (records_in p 0) (body_more left more (omega (arith, long, is.header_forced)))
            ∙ more_records p 0 (body left) more whole
            ∙ ap (λ t. t ++ xs) left_is ∙ ap (λ t. left_by before.sight keep ++ t) xs_are;
        no_less = omega (
          arith,
          front_grows p bytes forced forced' f,
          ap (λ t. length (records_in p 0 (front t forced))) e,
          ap (λ t. length (records_in p 0 t)) (front_more left more forced is.header_forced long),
          ap (λ t. length (records_in p 0 t)) (front_stays text forced keep is.header_forced),
        );
        failed = refl;
        cause = cause;
      }

pub restart_breaks : (seen old new : LogState) (keep : ℕ) (rs : List LogRecord) → seen ≡ old
    → LogRestartBreaks seen new keep rs → LogRestartBreaks old new keep rs
restart_breaks seen old new keep rs e b = subst (λ z. LogRestartBreaks z new keep rs) e b
