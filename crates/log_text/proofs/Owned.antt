-- Opened as it is laid out in the log of a process, and other records, which are alike in all.
use Rattle.std.proofs.Common.{◌≡◌, ℕ, List, [], ◌∷◌, ◌++◌, length, slice_index_or, Option, Some, None, refl, sym, ap, ◌∙◌}
use Rattle.byteorder.specs.Endian.{big_bytes}
use Rattle.protocol.specs.LogNames.{unnamed}
use Rattle.protocol.specs.declared.names.ProcessId.{ProcessId}
use Rattle.protocol.specs.declared.records.LogRecord.{LogRecord}
use Rattle.protocol.specs.declared.records.Record.{Record}
use Rattle.protocol.specs.declared.records.Record.TheVariants.{Opened, Collecting, Prepare, Commit, Abort, End, Prepared, Committed, RolledBack, Direct, HeurCommit, HeurRollback, Told, Forgot, Base, Pair, Cleared}
use Rattle.log_text.specs.declared.form.LogForm.{LogForm}
use Rattle.log_text.specs.declared.form.LogFormat.{LogFormat}
use Rattle.log_text.specs.declared.form.LogFormat.TheVariants.{Second}
use Rattle.log_text.specs.Forms.{size_bytes, unowned}
use Rattle.log_text.specs.Frames.{frame_text}
use Rattle.log_text.specs.Payloads.{boot_in, kind_byte, opened_by, owner_text, payload_text, record_text}

-- a boot and an owner after the head of a frame
abbrev pub laid : List ℕ → List ℕ → List ℕ
laid xs ys = 1 ∷ 0 ∷ 0 ∷ 0 ∷ 13 ∷ slice_index_or xs 0 0 ∷ slice_index_or xs 1 0 ∷ slice_index_or xs 2 0
    ∷ slice_index_or xs 3 0 ∷ slice_index_or xs 4 0 ∷ slice_index_or xs 5 0 ∷ slice_index_or xs 6 0
    ∷ slice_index_or xs 7 0 ∷ slice_index_or ys 0 0 ∷ slice_index_or ys 1 0 ∷ slice_index_or ys 2 0
    ∷ slice_index_or ys 3 0 ∷ slice_index_or ys 4 0 ∷ []

pub opened_is : (f : LogForm) (boot : ℕ) (xs ys : List ℕ) → f.format ≡ Second → xs ≡ big_bytes 8 boot
    → ys ≡ owner_text f → laid xs ys ≡ record_text f (unnamed (Opened boot))
unfolding record_text frame_text
opened_is f boot xs ys e b o = (λ i. laid (b i) (o i))
    ∙ sym (ap (λ (g : LogFormat). 1 ∷ (big_bytes (size_bytes g) (length (opened_by g f boot))
    ++ opened_by g f boot))
    e)

-- the payload of any other record does not hang on the form
pub other_payload : (f : LogForm) (q : Option ProcessId) (r : Record) → boot_in r ≡ None
    → payload_text unowned q r ≡ payload_text f q r
other_payload f q (Opened n) e = absurd (cc)
other_payload f q (Collecting c ts) e = refl
other_payload f q (Prepare c ts) e = refl
other_payload f q (Commit c ts) e = refl
other_payload f q (Abort c ts) e = refl
other_payload f q (End c None) e = refl
other_payload f q (End c (Some r)) e = refl
other_payload f q (Cleared c) e = refl
other_payload f q (Prepared b ws) e = refl
other_payload f q (Committed b) e = refl
other_payload f q (RolledBack b) e = refl
other_payload f q (Direct b ws) e = refl
other_payload f q (HeurCommit b) e = refl
other_payload f q (HeurRollback b) e = refl
other_payload f q (Told b o) e = refl
other_payload f q (Forgot b) e = refl
other_payload f q (Base n) e = refl
other_payload f q (Pair k v) e = refl

-- a record that is no Opened stands alike in the logs of all processes
pub other_is : (f : LogForm) (l : LogRecord) → f.format ≡ Second → boot_in l.entry ≡ None
    → record_text unowned l ≡ record_text f l
unfolding record_text
other_is f l e none = ap (λ t. frame_text Second (kind_byte l.entry) t)
    (other_payload f l.parent l.entry none)
    ∙ ap (λ g. frame_text g (kind_byte l.entry) (payload_text f l.parent l.entry)) (sym e)

opened_entry : (f : LogForm) (q : Option ProcessId) (r : Record) (n : ℕ) → boot_in r ≡ Some n
    → record_text f (unnamed (Opened n)) ≡ record_text f (record { entry = r; parent = q })
unfolding record_text
opened_entry f q (Opened n) m e = let is : n ≡ m = cc in
    ap (λ k. frame_text f.format 1 (opened_by f.format f k)) (sym is)
opened_entry f q (Collecting c ts) m e = absurd (cc)
opened_entry f q (Prepare c ts) m e = absurd (cc)
opened_entry f q (Commit c ts) m e = absurd (cc)
opened_entry f q (Abort c ts) m e = absurd (cc)
opened_entry f q (End c None) m e = absurd (cc)
opened_entry f q (End c (Some r)) m e = absurd (cc)
opened_entry f q (Cleared c) m e = absurd (cc)
opened_entry f q (Prepared b ws) m e = absurd (cc)
opened_entry f q (Committed b) m e = absurd (cc)
opened_entry f q (RolledBack b) m e = absurd (cc)
opened_entry f q (Direct b ws) m e = absurd (cc)
opened_entry f q (HeurCommit b) m e = absurd (cc)
opened_entry f q (HeurRollback b) m e = absurd (cc)
opened_entry f q (Told b o) m e = absurd (cc)
opened_entry f q (Forgot b) m e = absurd (cc)
opened_entry f q (Base k) m e = absurd (cc)
opened_entry f q (Pair k v) m e = absurd (cc)

-- an Opened, whatever parent is beside it
pub opened_whole : (f : LogForm) (l : LogRecord) (n : ℕ) → boot_in l.entry ≡ Some n
    → record_text f (unnamed (Opened n)) ≡ record_text f l
opened_whole f l n e = opened_entry f l.parent l.entry n e

-- the payload of a record is as long in the logs of all processes
pub same_size : (f : LogForm) (q : Option ProcessId) (r : Record) → f.format ≡ Second
    → length (payload_text f q r) ≡ length (payload_text unowned q r)
same_size f q (Opened n) e = ap (λ g. length (opened_by g f n)) e
same_size f q (Collecting c ts) e = refl
same_size f q (Prepare c ts) e = refl
same_size f q (Commit c ts) e = refl
same_size f q (Abort c ts) e = refl
same_size f q (End c None) e = refl
same_size f q (End c (Some r)) e = refl
same_size f q (Cleared c) e = refl
same_size f q (Prepared b ws) e = refl
same_size f q (Committed b) e = refl
same_size f q (RolledBack b) e = refl
same_size f q (Direct b ws) e = refl
same_size f q (HeurCommit b) e = refl
same_size f q (HeurRollback b) e = refl
same_size f q (Told b o) e = refl
same_size f q (Forgot b) e = refl
same_size f q (Base k) e = refl
same_size f q (Pair k v) e = refl
