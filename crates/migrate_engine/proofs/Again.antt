-- A log that was migrated reads as the same records, and is migrated to itself.
use Rattle.std.proofs.Common.{◌≡◌, ◌∙◌, ◌⊎◌, ℕ, Bool, true, false, List, [], ◌++◌, length, take, drop, inl, inr, refl, sym, ap, subst, nat_lt, if◌then◌else◌}
use Rattle.std.specs.List.{AllByRecursion}
use Rattle.protocol.specs.declared.records.LogRecord.{LogRecord}
use Rattle.protocol.specs.Records.{same_bytes}
use Rattle.log_text.specs.declared.form.LogForm.{LogForm}
use Rattle.log_text.specs.declared.form.LogFormat.TheVariants.{Second}
use Rattle.log_text.specs.Forms.{form_in, header, log_form}
use Rattle.log_text.specs.Payloads.{records_text}
use Rattle.log_rules.specs.order.Logs.{Whole, Damaged, read_as, read_frames, read_log}
use Rattle.log_rules.specs.order.Orders.{nothing_seen}
use Rattle.log_rules.specs.sound.Sound.{IsSound}
use Rattle.log_rules.specs.sound.Written.{AreBytes}
use Rattle.log_rules.proofs.sound.Cuts.{bytes_behind, first_bytes}
use Rattle.log_records.proofs.Carrying.{behind_header, read_again, read_records}
use Rattle.log_records.proofs.SoundRecords.{sound_in}
use Rattle.log_script.specs.declared.line.ProcessLog.{ProcessLog}
use Rattle.log_script.specs.Lines.{process_log}
use Rattle.log_script.proofs.Formats.{second_form}
use Rattle.migrate_engine.specs.Laws.{MigratedStays, SameRecords}
use Rattle.migrate_engine.specs.Migrations.{MigratesTo, migrated_log, text_by}

-- What is read of a log that is sound is read of frames: those after its header, or none.

abbrev OfFrames : LogForm → List LogRecord → List ℕ → Type 0
OfFrames p ls frames = (torn : ℕ) × (read_frames p 5 nothing_seen 0 frames ≡ Whole ls torn)

no_frames : (p : LogForm) (ls : List LogRecord) (torn : ℕ) → Whole [] 0 ≡ Whole ls torn → OfFrames p ls []
unfolding read_frames
no_frames p ls torn e = (torn, e)

by_size : (p : LogForm) (few begins is : Bool) (frames : List ℕ) (ls : List LogRecord) (torn : ℕ)
    → (if few then (if begins then Whole [] 0 else Damaged 0)
    else if is then read_frames p 5 nothing_seen 0 frames else Damaged 0) ≡ Whole ls torn
    → OfFrames p ls [] ⊎ OfFrames p ls frames
by_size p true true is frames ls torn e = inl (no_frames p ls torn e)
by_size p true false is frames ls torn e = absurd (cc)
by_size p false begins true frames ls torn e = inr (torn, e)
by_size p false begins false frames ls torn e = absurd (cc)

of_frames : (p : LogForm) (bytes : List ℕ) (ls : List LogRecord) (torn : ℕ) → read_log p bytes ≡ Whole ls torn
    → OfFrames p ls [] ⊎ OfFrames p ls (drop 5 bytes)
unfolding read_log
of_frames p bytes ls torn e =
    by_size p (nat_lt (length bytes) 5) (same_bytes bytes (take (length bytes) (header p.format)))
    (same_bytes (take 5 bytes) (header p.format)) (drop 5 bytes) ls torn e

-- These records are written in the second format, and read again.

module _ (p q : LogForm) (same : p.kind ≡ q.kind) (ls : List LogRecord) where
  again_of : (frames : List ℕ) → AreBytes frames → OfFrames p ls frames
      → read_log q (header q.format ++ records_text q ls) ≡ Whole ls 0
  again_of frames bytes read =
      let sound : AllByRecursion (IsSound q.kind) ls =
      subst (λ k. AllByRecursion (IsSound k) ls) same
      (subst (AllByRecursion (IsSound p.kind)) (read_records p frames 5 nothing_seen ls read.0 read.1)
      (sound_in p 0 frames bytes)) in
      behind_header q (records_text q ls) ∙ read_again p q frames 5 nothing_seen ls read.0 read.1 sound 5

  again_by : (bytes : List ℕ) → AreBytes bytes → OfFrames p ls [] ⊎ OfFrames p ls (drop 5 bytes)
      → read_log q (header q.format ++ records_text q ls) ≡ Whole ls 0
  again_by bytes are (inl read) = again_of [] (first_bytes 0 bytes are) read
  again_by bytes are (inr read) = again_of (drop 5 bytes) (bytes_behind 5 bytes are) read

  pub written_again : (bytes : List ℕ) (torn : ℕ) → AreBytes bytes → read_log p bytes ≡ Whole ls torn
      → read_log q (header q.format ++ records_text q ls) ≡ Whole ls 0
  written_again bytes torn are read = again_by bytes are (of_frames p bytes ls torn read)

pub same_records : SameRecords
unfolding migrated_log
same_records e bytes ls torn are read =
    let form = log_form e.id e.kind in
    let text = header Second ++ records_text form ls in
    ap (λ r. read_as e.id e.kind (text_by form r)) read
    ∙ ap (λ f. read_log f text) (second_form text e.id e.kind refl)
    ∙ written_again (form_in bytes e.id e.kind) form refl ls bytes torn are read

pub migrated_stays : MigratedStays
unfolding migrated_log
migrated_stays e bytes log are m =
    let again = same_records e bytes m.records m.torn are m.read in
    subst (λ (l : ProcessLog). MigratesTo e l.bytes l) (sym m.log_is) (record {
      records = m.records;
      torn = 0;
      read = again;
      log_is = ap (λ r. process_log e.id (text_by (log_form e.id e.kind) r)) m.read
          ∙ sym (ap (λ r. process_log e.id (text_by (log_form e.id e.kind) r)) again);
    })
