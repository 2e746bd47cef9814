-- The text that a log opens with.
use Rattle.std.proofs.Common.{◌≡◌, ◌≤◌, ◌-◌, ◌⊎◌, inl, inr, ℕ, Bool, true, false, List, [], ◌∷◌, ◌++◌, length, take, drop, refl, sym, ap, ◌∙◌, arith, append_assoc, append-nil, take-append-drop, length-append, nat_lt}
use Rattle.std.proofs.Math.Seq.{take-append_seam}
use Rattle.std.proofs.lemmas.Bool.Decides.{nat_tests}
use Rattle.log_text.specs.declared.form.LogForm.{LogForm}
use Rattle.protocol.specs.Records.{same_bytes}
use Rattle.log_text.specs.Forms.{header}
use Rattle.log_rules.specs.order.Orders.{nothing_seen}
use Rattle.log_rules.specs.order.Logs.{LogReading, Whole, Damaged, read_frames, read_log}
use Rattle.log_records.specs.Texts.{is_whole, records_in, whole_size}
use Rattle.log_records.specs.Sights.{body, bytes_behind, front, kept_of, log_state}
use Rattle.log_records.specs.Openings.{EndsTorn, IsLogFound, IsRefused, IsWrittenAnew, LogNotOpened, OpensLog, SettlesText, StaysForced}
use Rattle.log_records.specs.declared.opening.LogOpenError.{LogOpenError}
use Rattle.log_records.specs.declared.opening.LogOpenError.TheVariants.{Memory, Device, Damaged as DamagedError, OldFormat}
use Rattle.log_records.specs.declared.opening.StoreText.TheVariants.{Empty, Sound}
use Rattle.log_records.proofs.Frames.{header_dropped, header_long, header_taken, no_records, nothing_whole}
use Rattle.log_records.proofs.Turns.{all_front, drop_all, records_stand}
use Rattle.log_records.proofs.Within.{whole_is_full}

pub same_bytes_is : (xs ys : List ℕ) → same_bytes xs ys ≡ true → xs ≡ ys
unfolding same_bytes
same_bytes_is [] [] h = refl
same_bytes_is [] (y ∷ ys) h = cc
same_bytes_is (x ∷ xs) [] h = cc
same_bytes_is (x ∷ xs) (y ∷ ys) h = grind (arith, same_bytes_is xs ys)

pub read_by : (p : LogForm) (bytes : List ℕ) (short begins : Bool) (e : LogReading)
    → nat_lt (length bytes) 5 ≡ short
    → same_bytes (take 5 bytes) (header p.format) ≡ begins → short ≡ false → begins ≡ true
    → read_log p bytes ≡ read_frames p 5 nothing_seen 0 (drop 5 bytes)
unfolding read_log
read_by p bytes short begins e s b f g = rw (s, b, f, g) refl

-- after a header, the frames are read
pub read_sound : (p : LogForm) (bytes : List ℕ) → 5 ≤ length bytes
    → same_bytes (take 5 bytes) (header p.format) ≡ true
    → read_log p bytes ≡ read_frames p 5 nothing_seen 0 (drop 5 bytes)
read_sound p bytes h b = read_by p bytes false true (Damaged 0) (grind (arith, nat_tests)) b refl refl

pub found_sound : (p : LogForm) (bytes : List ℕ) (torn : ℕ) → 5 ≤ length bytes
    → same_bytes (take 5 bytes) (header p.format) ≡ true → EndsTorn p (drop 5 bytes) torn
    → IsLogFound p bytes (Sound torn)
found_sound p bytes torn h b e = (
  same_bytes_is (take 5 bytes) (header p.format) b,
  h,
  e,
  read_sound p bytes h b,
)

nothing_behind : (p : LogForm) (text : List ℕ) → text ≡ header p.format → drop 5 text ≡ []
nothing_behind p text e = ap (drop 5) (e ∙ sym (append-nil (header p.format))) ∙ header_dropped p.format []

pub settles_empty : (p : LogForm) (bytes text : List ℕ) (before failures forced failures' : ℕ)
    → IsLogFound p bytes Empty → before ≤ length bytes → text ≡ header p.format
    → forced ≡ length (header p.format)
    → failures' ≡ failures → SettlesText p bytes before failures text forced failures'
settles_empty p bytes text before failures forced failures' found within e f g = record {
  begins = ap (take 5) (e ∙ sym (append-nil (header p.format))) ∙ header_taken p.format [];
  header_forced = omega (arith, f, header_long p.format);
  torn = 0;
  front = inr (f ∙ ap length (sym e), inr (omega (arith, within, found.0)));
  whole = ap (is_whole p 0) (nothing_behind p text e) ∙ nothing_whole p;
  read = found.1 ∙ ap (λ ls. Whole ls 0) (sym (ap (records_in p 0) (nothing_behind p text e) ∙ no_records p));
  failures_stay = g;
}

settles_sound : (p : LogForm) (bytes text sound : List ℕ) (before failures forced failures' torn : ℕ)
    → text ≡ header p.format ++ sound → is_whole p 0 sound ≡ true
    → read_log p bytes ≡ Whole (records_in p 0 sound) torn → 5 ≤ forced
    → ((text ≡ bytes) × (forced ≡ before)) ⊎ ((forced ≡ length text) × IsWrittenAnew torn before)
    → failures' ≡ failures → SettlesText p bytes before failures text forced failures'
settles_sound p bytes text sound before failures forced failures' torn e w r f k g = record {
  begins = ap (take 5) e ∙ header_taken p.format sound;
  header_forced = f;
  torn = torn;
  front = k;
  whole = ap (λ t. is_whole p 0 (drop 5 t)) e ∙ ap (is_whole p 0) (header_dropped p.format sound) ∙ w;
  read = r ∙ ap (λ ls. Whole ls torn)
      (sym (ap (λ t. records_in p 0 (drop 5 t)) e ∙ ap (records_in p 0) (header_dropped p.format sound)));
  failures_stay = g;
}

joined : (p : LogForm) (bytes : List ℕ) (torn : ℕ) (e : EndsTorn p (drop 5 bytes) torn)
    → take 5 bytes ≡ header p.format
    → bytes ≡ (header p.format ++ e.sound) ++ e.tail
joined p bytes torn e h =
    sym (take-append-drop 5 bytes) ∙ ap (λ t. t ++ drop 5 bytes) h ∙ ap (λ t. header p.format ++ t) e.split
    ∙ sym (append_assoc (header p.format) e.sound e.tail)

pub settles_front : (p : LogForm) (bytes text : List ℕ) (before failures forced failures' torn : ℕ)
    → IsLogFound p bytes (Sound torn) → IsWrittenAnew torn before → text ≡ take (length bytes - torn) bytes
    → forced ≡ length text → failures' ≡ failures → SettlesText p bytes before failures text forced failures'
settles_front p bytes text before failures forced failures' torn found anew e f g =
    let n = found.2 in
    let j = joined p bytes torn n found.0 in
    let size : length bytes - torn ≡ length (header p.format ++ n.sound) =
    omega (arith, ap length j, length-append (header p.format ++ n.sound) n.tail, n.size) in
    let text_is : text ≡ header p.format ++ n.sound = e ∙ ap (λ k. take k bytes) size
    ∙ ap (take (length (header p.format ++ n.sound))) j ∙ take-append_seam (header p.format ++ n.sound) n.tail
    in
    settles_sound p bytes text n.sound before failures forced failures' torn text_is n.whole
    (found.3 ∙ n.read) (omega (
      arith,
      f,
      ap length text_is,
      header_long p.format,
      length-append (header p.format) n.sound,
    )) (inr (f, anew)) g

no_tail : (xs tail : List ℕ) → length tail ≡ 0 → xs ++ tail ≡ xs
no_tail xs [] h = append-nil xs
no_tail xs (b ∷ bs) h = absurd (omega arith)

pub settles_same : (p : LogForm) (bytes text : List ℕ) (before failures forced failures' torn : ℕ)
    → IsLogFound p bytes (Sound torn) → torn ≡ 0 → text ≡ bytes
    → 5 ≤ forced → forced ≡ before → failures' ≡ failures
    → SettlesText p bytes before failures text forced failures'
settles_same p bytes text before failures forced failures' torn found z e f b g =
    let n = found.2 in
    let j = joined p bytes torn n found.0 ∙ no_tail (header p.format ++ n.sound) n.tail (n.size ∙ z) in
    settles_sound p bytes text n.sound before failures forced failures' torn (e ∙ j) n.whole
    (found.3 ∙ n.read) f (inl (e, b)) g

stays_forced : (p : LogForm) (bytes text : List ℕ) (before forced failures room torn : ℕ)
    → is_whole p 0 (body text) ≡ true
    → ((text ≡ bytes) × (forced ≡ before)) ⊎ ((forced ≡ length text) × IsWrittenAnew torn before)
    → StaysForced p bytes before torn ((log_state p text forced failures room false).sight)
stays_forced p bytes text before forced failures room torn w (inl e) =
    inl (
      ap (λ t. kept_of p t forced) e.0 ∙ ap (kept_of p bytes) e.1,
      ap (λ t. bytes_behind p t forced) e.0
          ∙ ap (bytes_behind p bytes) e.1,
    )
stays_forced p bytes text before forced failures room torn w (inr f) =
    let all : front text forced ≡ body text = all_front text forced f.0 in
    inr (
      ap (λ t. drop (length (records_in p 0 t)) (records_in p 0 (body text))) all
          ∙ drop_all (records_in p 0 (body text)),
      ap (λ t. length t - whole_size p 0 t) all ∙ whole_is_full p (body text) w,
      f.1,
    )

pub opens : (p : LogForm) (bytes text : List ℕ) (before failures forced failures' room : ℕ)
    → SettlesText p bytes before failures text forced failures'
    → OpensLog p bytes before failures (log_state p text forced failures' room false)
opens p bytes text before failures forced failures' room s = record {
  form = refl;
  torn = s.torn;
  read = s.read ∙ ap (λ ls. Whole ls s.torn) (sym (records_stand p text forced));
  front = stays_forced p bytes text before forced failures' room s.torn s.whole s.front;
  works = refl;
  failures_stay = s.failures_stay;
}

-- A text that was not put in place.

module _ {S : Type 0} (bytes : S → List ℕ) (forced failures : S → ℕ) (p : LogForm) (old new : S)
    (text : List ℕ) where
  pub not_opened : SettlesText p (bytes old) (forced old) (failures old) text (length text) (failures old)
      → (e : LogOpenError) → IsRefused bytes forced failures old new text e
      → LogNotOpened bytes forced failures p old new e
  not_opened settles Memory same = same
  not_opened settles Device breaks = record { text = text; settles = settles; breaks = breaks }
  not_opened settles (DamagedError place) h = absurd h
  not_opened settles OldFormat h = absurd h
