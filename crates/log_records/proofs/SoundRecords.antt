-- Each record that is read off bytes can be in a log.
use Rattle.std.proofs.Common.{◌≡◌, ◌+◌, ◌*◌, ℕ, zero, suc, List, [], ◌∷◌, length, Option, Some, None, refl, subst, sym}
use Rattle.std.specs.List.{AllByRecursion}
use Rattle.log_text.specs.declared.form.LogForm.{LogForm}
use Rattle.protocol.specs.declared.records.LogRecord.{LogRecord}
use Rattle.protocol.specs.declared.names.Kind.{Kind}
use Rattle.log_text.specs.declared.form.LogFormat.{LogFormat}
use Rattle.log_text.specs.declared.form.LogFormat.TheVariants.{First, Second}
use Rattle.log_text.specs.Forms.{size_bytes}
use Rattle.log_text.specs.Frames.{Cut, cut_at, first_frame}
use Rattle.log_text.specs.Reading.{read_record}
use Rattle.log_rules.specs.sound.Sound.{IsSound}
use Rattle.log_rules.specs.sound.Written.{AreBytes}
use Rattle.log_rules.proofs.sound.Cuts.{bytes_behind, first_bytes, none_some}
use Rattle.log_rules.proofs.sound.ReadSound.{read_is_sound}
use Rattle.log_rules.proofs.sound.Records.{records_read_back}
use Rattle.log_rules.proofs.sound.Sizes.{records_fit_frames}
use Rattle.log_records.specs.Sights.{IsRecord}
use Rattle.log_records.specs.Texts.{and_records, records_by, records_in}
use Rattle.log_records.proofs.Frames.{cuts}

-- the payload of a frame is bytes
cut_bytes : (kind n : ℕ) (rest : List ℕ) (c : Cut) → AreBytes rest → cut_at kind n rest ≡ Some c
    → AreBytes c.1
cut_bytes kind n rest c h e =
    subst (λ (k : Cut). AreBytes k.1) (sym (cuts kind n rest c e).is) (first_bytes n rest h)

pub payload_bytes : (f : LogFormat) (xs : List ℕ) (c : Cut) → AreBytes xs → first_frame f xs ≡ Some c
    → AreBytes c.1
payload_bytes First [] c h e = absurd (none_some c e)
payload_bytes First (a ∷ []) c h e = absurd (none_some c e)
payload_bytes First (a ∷ b ∷ []) c h e = absurd (none_some c e)
payload_bytes First (a ∷ b ∷ d ∷ rest) c h e =
    cut_bytes a (b * 256 + d) rest c (bytes_behind 3 (a ∷ b ∷ d ∷ rest) h) e
payload_bytes Second [] c h e = absurd (none_some c e)
payload_bytes Second (a ∷ []) c h e = absurd (none_some c e)
payload_bytes Second (a ∷ b ∷ []) c h e = absurd (none_some c e)
payload_bytes Second (a ∷ b ∷ d ∷ []) c h e = absurd (none_some c e)
payload_bytes Second (a ∷ b ∷ d ∷ g ∷ []) c h e = absurd (none_some c e)
payload_bytes Second (a ∷ b ∷ d ∷ g ∷ k ∷ rest) c h e =
    cut_bytes a (((b * 256 + d) * 256 + g) * 256 + k) rest c (bytes_behind 5 (a ∷ b ∷ d ∷ g ∷ k ∷ rest) h) e

and_sound : (p : Kind) (o : Option LogRecord) (more : List LogRecord)
    → ((l : LogRecord) → o ≡ Some l → IsSound p l)
    → AllByRecursion (IsSound p) more → AllByRecursion (IsSound p) (and_records o more)
and_sound p None more is all = tt
and_sound p (Some l) more is all = (is l refl, all)

by_sound : (p : LogForm) (o : Option Cut) (more : ℕ → List LogRecord)
    → ((c : Cut) → o ≡ Some c → AreBytes c.1)
    → ((k : ℕ) → AllByRecursion (IsSound p.kind) (more k))
    → AllByRecursion (IsSound p.kind) (records_by p o more)
by_sound p None more is all = tt
by_sound p (Some c) more is all =
    and_sound p.kind (read_record p c.0 c.1) (more (size_bytes p.format + length c.1))
    (λ l e. read_is_sound p c.0 c.1 l (is c refl) e)
    (all (size_bytes p.format + length c.1))

-- so are all that are read off a text
pub sound_in : (p : LogForm) (k : ℕ) (xs : List ℕ) → AreBytes xs
    → AllByRecursion (IsSound p.kind) (records_in p k xs)
unfolding records_in
sound_in p zero [] h = tt
sound_in p (suc k) [] h = tt
sound_in p (suc k) (b ∷ bs) h = sound_in p k bs (bytes_behind 1 (b ∷ bs) h)
sound_in p zero (b ∷ bs) h = by_sound p (first_frame p.format (b ∷ bs)) (λ k. records_in p k bs)
    (λ c e. payload_bytes p.format (b ∷ bs) c h e) (λ k. sound_in p k bs (bytes_behind 1 (b ∷ bs) h))

-- a sound record can be in every log of its sort of process
pub sound_is_record : (k : Kind) (l : LogRecord) → IsSound k l → IsRecord k l
sound_is_record k l h p same =
    let sound : IsSound p.kind l = subst (λ j. IsSound j l) (sym same) h in
    record { fits = records_fit_frames p l sound; again = records_read_back p l sound }
