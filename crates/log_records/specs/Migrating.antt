-- Carrying a log of the first format over into the second.
use Rattle.std.specs.Prelude.{◌≡◌, ◌++◌, ℕ, Bool, true, false, List, length}
use Rattle.protocol.specs.declared.records.LogRecord.{LogRecord}
use Rattle.log_store.specs.Stores.{ReplaceBreaks, SameStore}
use Rattle.log_text.specs.declared.form.LogForm.{LogForm}
use Rattle.log_text.specs.Forms.{header, old_form}
use Rattle.log_text.specs.Payloads.{records_text}
use Rattle.log_rules.specs.order.Logs.{Whole, Damaged, read_log}
use Rattle.log_records.specs.Openings.{SettlesText, is_old}
use Rattle.log_records.specs.declared.opening.LogOpenError.{LogOpenError}
use Rattle.log_records.specs.declared.opening.LogOpenError.TheVariants as opening
use Rattle.log_records.specs.declared.migrating.MigrateError.{MigrateError}
use Rattle.log_records.specs.declared.migrating.MigrateError.TheVariants.{Memory, Device, Damaged as DamagedError}

-- what reads as records and a torn tail by the first format is in this form: the header and these records'
-- frames, which read as just these records, and after them nothing
pub record Carries (p : LogForm) (old new : List ℕ) : Type 0 where
  pub records : List LogRecord
  pub torn : ℕ
  pub read : read_log (old_form p) old ≡ Whole records torn
  pub text : new ≡ header p.format ++ records_text p records
  pub again : read_log p new ≡ Whole records 0

-- the text of a log of this form that takes the place of these bytes: a log of the first format is carried
-- over, and all of it forced; one of the second is settled, as where it is opened
abbrev pub IsMigrated : Bool → LogForm → List ℕ → ℕ → ℕ → List ℕ → ℕ → ℕ → Type 0
IsMigrated true p old forced failures new forced' failures' =
    Carries p old new × (forced' ≡ length new) × (failures' ≡ failures)
IsMigrated false p old forced failures new forced' failures' =
    SettlesText p old forced failures new forced' failures'

-- the store has the log of the old one in this form
abbrev pub Migrates : {S : Type 0} → (S → List ℕ) → (S → ℕ) → (S → ℕ) → LogForm → S → S → Type 0
Migrates bytes forced failures p old new =
    IsMigrated (is_old (bytes old)) p (bytes old) (forced old) (failures old)
    (bytes new) (forced new) (failures new)

-- the device failed as the text was put in place: the old bytes stand with their forced front, or that text,
-- all forced
pub record BreaksMigrating {S : Type 0} (bytes : S → List ℕ) (forced failures : S → ℕ) (p : LogForm)
    (old new : S) : Type 0 where
  pub text : List ℕ
  pub migrated : IsMigrated (is_old (bytes old)) p (bytes old) (forced old) (failures old)
      text (length text) (failures old)
  pub breaks : ReplaceBreaks bytes forced failures old new text

-- the form by which bytes are read that are to be a log of this form
abbrev pub read_by : Bool → LogForm → LogForm
read_by true p = old_form p
read_by false p = p

-- why a log was not migrated, and what store is handed back
abbrev pub NotMigrated : {S : Type 0} → (S → List ℕ) → (S → ℕ) → (S → ℕ) → LogForm → S → S → MigrateError
    → Type 0
NotMigrated bytes forced failures p old new Memory = SameStore bytes forced failures old new
NotMigrated bytes forced failures p old new Device = BreaksMigrating bytes forced failures p old new
NotMigrated bytes forced failures p old new (DamagedError place) =
    (new ≡ old) × (read_log (read_by (is_old (bytes old)) p) (bytes old) ≡ Damaged place)

-- the number of the refusal
abbrev pub migrate_error_number : MigrateError → ℕ
migrate_error_number Memory = 1
migrate_error_number Device = 2
migrate_error_number (DamagedError place) = 3

-- the refusal of a migration for that of an opening
abbrev pub error_of_open : LogOpenError → MigrateError
error_of_open opening.Memory = Memory
error_of_open opening.Device = Device
error_of_open (opening.Damaged place) = DamagedError place
error_of_open opening.OldFormat = Memory

-- the store of a log of the first format that was not carried over
abbrev pub NotCarried : {S : Type 0} → (S → List ℕ) → (S → ℕ) → (S → ℕ) → LogForm → S → S → LogOpenError
    → Type 0
NotCarried bytes forced failures p old new opening.Memory = SameStore bytes forced failures old new
NotCarried bytes forced failures p old new opening.Device =
    (text : List ℕ) × Carries p (bytes old) text × ReplaceBreaks bytes forced failures old new text
NotCarried bytes forced failures p old new (opening.Damaged place) =
    (new ≡ old) × (read_log (old_form p) (bytes old) ≡ Damaged place)
NotCarried bytes forced failures p old new opening.OldFormat = ⊥
