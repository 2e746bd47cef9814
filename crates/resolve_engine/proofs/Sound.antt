-- Where the log of a process is sound, what it keeps is read of its bytes.
use Rattle.std.proofs.Common.{◌≡◌, ◌∙◌, ◌+◌, ℕ, zero, suc, Bool, true, false, if◌then◌else◌, Option, Some, None, List, [], ◌∷◌, find, length, map, refl, sym, ap, subst}
use Rattle.protocol.specs.declared.names.Kind.{Kind}
use Rattle.protocol.specs.declared.names.ProcessId.{ProcessId}
use Rattle.protocol.specs.declared.records.LogRecord.{LogRecord}
use Rattle.protocol.specs.declared.trees.TreeProcess.{TreeProcess}
use Rattle.protocol.specs.Names.{same_process}
use Rattle.log_text.specs.declared.form.LogForm.{LogForm}
use Rattle.log_text.specs.Forms.{size_bytes}
use Rattle.log_text.specs.Frames.{Cut, first_frame}
use Rattle.log_text.specs.Reading.{read_record}
use Rattle.log_rules.specs.order.Logs.{LogReading, Whole, Damaged, read_as, read_log}
use Rattle.log_script.specs.Faults.{damage_or, first_damage}
use Rattle.log_script.specs.Places.{Placed, and_placed, placed_by, placed_in}
use Rattle.log_script.proofs.PlaceLaws.{places_tell}
use Rattle.log_script.specs.declared.line.ProcessLog.{ProcessLog}
use Rattle.log_script.specs.Logs.{bytes_of}
use Rattle.log_records.specs.Sights.{body}
use Rattle.log_records.specs.Texts.{and_records, records_by, records_in}
use Rattle.audit_tree.specs.Reports.{whole_records}

-- Records.

abbrev reads : List Placed → List LogRecord
reads xs = map (λ x. x.read) xs

read_and : (place : ℕ) (o : Option LogRecord) (xs : List Placed) (ls : List LogRecord) → reads xs ≡ ls
    → reads (and_placed place o xs) ≡ and_records o ls
read_and place None xs ls is = refl
read_and place (Some l) xs ls is = ap (λ t. l ∷ t) is

read_by : (p : LogForm) (place : ℕ) (o : Option Cut) (places : ℕ → ℕ → List Placed)
    (more : ℕ → List LogRecord)
    → ((at k : ℕ) → reads (places at k) ≡ more k) → reads (placed_by p place o places) ≡ records_by p o more
read_by p place None places more same = refl
read_by p place (Some c) places more same =
    read_and place (read_record p c.0 c.1) _ _
    (same (place + suc (size_bytes p.format) + length c.1) (size_bytes p.format + length c.1))

same_records : (p : LogForm) (place k : ℕ) (bytes : List ℕ)
    → reads (placed_in p place k bytes) ≡ records_in p k bytes
unfolding placed_in records_in
same_records p place k [] = refl
same_records p place (suc k) (b ∷ bs) = same_records p place k bs
same_records p place zero (b ∷ bs) =
    read_by p place (first_frame p.format (b ∷ bs)) (λ at k. placed_in p at k bs) (λ k. records_in p k bs)
    (λ at k. same_records p at k bs)

-- the records of a sound log are those in its bytes
pub sound_records : (p : LogForm) (bytes : List ℕ) (ls : List LogRecord) (torn : ℕ)
    → read_log p bytes ≡ Whole ls torn
    → whole_records (read_log p bytes) ≡ records_in p 0 (body bytes)
sound_records p bytes ls torn is =
    ap whole_records is ∙ sym (places_tell p bytes ls torn is) ∙ same_records p 5 0 (body bytes)

-- Damage.

-- the bytes are a sound log of this process
pub record IsSoundLog (q : ProcessId) (k : Kind) (bytes : List ℕ) : Type 0 where
  pub records : List LogRecord
  pub torn : ℕ
  pub read : read_as q k bytes ≡ Whole records torn

some_entry : (a b : TreeProcess) → Some a ≡ Some b → a ≡ b
some_entry a b e = cc

-- if no log is damaged, that of a listed process is sound
pub sound_at : (logs : List ProcessLog) (es : List TreeProcess) (q : ProcessId) (e : TreeProcess)
    → first_damage es logs ≡ None → find (λ x. same_process x.id q) es ≡ Some e
    → IsSoundLog e.id e.kind (bytes_of logs e.id)
unfolding first_damage
sound_at logs [] q e none found = absurd (cc)
sound_at logs (x ∷ es) q e none found =
    by_reading (read_as x.id x.kind (bytes_of logs x.id)) refl none (sound_at logs es q e)
  where
    by_found : IsSoundLog x.id x.kind (bytes_of logs x.id)
        → (find (λ x. same_process x.id q) es ≡ Some e → IsSoundLog e.id e.kind (bytes_of logs e.id))
        → (b : Bool)
        → (if b then Some x else find (λ x. same_process x.id q) es) ≡ Some e
        → IsSoundLog e.id e.kind (bytes_of logs e.id)
    by_found here rest true is = subst (λ (y : TreeProcess). IsSoundLog y.id y.kind
        (bytes_of logs y.id)) (some_entry x e is) here
    by_found here rest false is = rest is

    by_reading : (r : LogReading) → read_as x.id x.kind (bytes_of logs x.id) ≡ r
        → damage_or x.id r (first_damage es logs) ≡ None
        → (first_damage es logs ≡ None → find (λ x. same_process x.id q) es ≡ Some e
        → IsSoundLog e.id e.kind (bytes_of logs e.id))
        → IsSoundLog e.id e.kind (bytes_of logs e.id)
    by_reading (Damaged place) is bad rest = absurd (cc)
    by_reading (Whole ls torn) is well rest =
        by_found (record { records = ls; torn = torn; read = is }) (rest well) (same_process x.id q) found
