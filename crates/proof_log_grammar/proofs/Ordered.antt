-- What may be in order is read, and never damaged.
use Rattle.std.proofs.Common.{◌≡◌, ◌≤◌, ◌∙◌, ℕ, Bool, true, false, List, [], ◌∷◌, ◌++◌, length, drop, Option, Some, None, refl, sym, ap, arith, length-append, take-append-drop, suc, zero, ◌+◌}
use Rattle.std.specs.Prelude.{is_some}
use Rattle.std.specs.List.{AllByRecursion}
use Rattle.log_text.specs.declared.form.LogForm.{LogForm}
use Rattle.protocol.specs.declared.records.LogRecord.{LogRecord}
use Rattle.log_text.specs.Forms.{header, size_bytes}
use Rattle.log_text.specs.Frames.{Cut, first_frame}
use Rattle.log_text.specs.Payloads.{records_text}
use Rattle.log_text.specs.Reading.{read_record}
use Rattle.log_rules.specs.order.Logs.{Whole, frame_by, read_frames, read_log, record_by, seen_by, with_first}
use Rattle.log_rules.specs.order.Orders.{SeenLog, after, nothing_seen}
use Rattle.log_rules.specs.sound.Sound.{IsSound}
use Rattle.log_rules.proofs.sound.Records.{records_read_back}
use Rattle.log_rules.proofs.sound.Sizes.{records_fit_frames}
use Rattle.log_records.specs.Texts.{and_records, is_whole, records_by, records_in, whole_by, whole_if}
use Rattle.log_records.proofs.Carrying.{behind_header}
use Rattle.proof_log_grammar.specs.Grammar.{HasFrame, OrderedIsRead, OrderedLogIsRead, admitted, and_then}
use Rattle.proof_log_grammar.proofs.Framed.{text_reads}

-- each record that can be in a log is in a frame of its own
all_frames : (p : LogForm) (ls : List LogRecord) → AllByRecursion (IsSound p.kind) ls
    → AllByRecursion (HasFrame p) ls
all_frames p [] h = tt
all_frames p (l ∷ ls) h = (
  record { short = (records_fit_frames p l h.0).short; reads = records_read_back p l h.0 },
  all_frames p ls h.1,
)

pub ordered_is_read : OrderedIsRead
ordered_is_read p ls sound follow tail torn = by_order (admitted nothing_seen ls) refl follow
  where
    by_order : (o : Option SeenLog) → admitted nothing_seen ls ≡ o → is_some o ≡ true
        → read_log p (header p.format ++ (records_text p ls ++ tail)) ≡ Whole ls (length tail)
    by_order None e f = absurd (cc)
    by_order (Some s) e f =
        behind_header p (records_text p ls ++ tail)
        ∙ text_reads p (records_text p ls ++ tail) ls (length tail) (record {
          said = s;
          tail = tail;
          begins = record { text = refl; order = e; frames = all_frames p ls sound };
          is_torn = torn;
          size = refl;
        })

-- Bytes that are whole frames of records are read from frame to frame, as far as each may follow.

-- these bytes are read as their records, from whatever place and after whatever is seen
abbrev AreRead : LogForm → List ℕ → Type 0
AreRead p bs = (at : ℕ) (t : SeenLog) (k : ℕ) → is_whole p k bs ≡ true
    → is_some (admitted t (records_in p k bs)) ≡ true
    → read_frames p at t k bs ≡ Whole (records_in p k bs) 0

frames_read : (p : LogForm) (place : ℕ) (s : SeenLog) (k : ℕ) (bytes : List ℕ) → is_whole p k bytes ≡ true
    → is_some (admitted s (records_in p k bytes)) ≡ true
    → read_frames p place s k bytes ≡ Whole (records_in p k bytes) 0
unfolding read_frames records_in is_whole admitted
frames_read p place s k [] whole follow = refl
frames_read p place s (suc k) (b ∷ bs) whole follow = frames_read p place s k bs whole follow
frames_read p place s zero (b ∷ bs) whole follow =
    by_frame (first_frame p.format (b ∷ bs)) (λ at t k. frames_read p at t k bs) whole follow
  where
    by_seen : (c : Cut) (l : LogRecord) (o : Option SeenLog) → AreRead p bs
        → is_whole p (size_bytes p.format + length c.1) bs ≡ true
        → is_some (and_then o (λ t. admitted t (records_in p (size_bytes p.format + length c.1) bs))) ≡ true
        → seen_by place l o (λ t. read_frames p (place + suc (size_bytes p.format) + length c.1) t
        (size_bytes p.format + length c.1) bs)
        ≡ Whole (l ∷ records_in p (size_bytes p.format + length c.1) bs) 0
    by_seen c l None more whole follow = absurd (cc)
    by_seen c l (Some t) more whole follow =
        ap (with_first l) (more (place + suc (size_bytes p.format) + length c.1) t
        (size_bytes p.format + length c.1) whole follow)

    by_record : (c : Cut) (o : Option LogRecord) → AreRead p bs
        → whole_if o (is_whole p (size_bytes p.format + length c.1) bs) ≡ true
        → is_some (admitted s (and_records o (records_in p (size_bytes p.format + length c.1) bs))) ≡ true
        → record_by place s o (λ t. read_frames p (place + suc (size_bytes p.format) + length c.1) t
        (size_bytes p.format + length c.1) bs)
        ≡ Whole (and_records o (records_in p (size_bytes p.format + length c.1) bs)) 0
    by_record c None more whole follow = absurd (cc)
    by_record c (Some l) more whole follow = by_seen c l (after s l) more whole follow

    by_frame : (o : Option Cut) → AreRead p bs → whole_by p o (λ k. is_whole p k bs) ≡ true
        → is_some (admitted s (records_by p o (λ k. records_in p k bs))) ≡ true
        → frame_by p place s (suc (length bs)) o (λ at t k. read_frames p at t k bs)
        ≡ Whole (records_by p o (λ k. records_in p k bs)) 0
    by_frame None more whole follow = absurd (cc)
    by_frame (Some c) more whole follow = by_record c (read_record p c.0 c.1) more whole follow

pub ordered_log_is_read : OrderedLogIsRead
ordered_log_is_read p bytes begins whole follow =
    ap (read_log p) (sym (take-append-drop 5 bytes) ∙ ap (λ t. t ++ drop 5 bytes) begins)
    ∙ behind_header p (drop 5 bytes)
    ∙ frames_read p 5 nothing_seen 0 (drop 5 bytes) whole follow
