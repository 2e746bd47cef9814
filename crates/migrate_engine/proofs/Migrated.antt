-- The logs of a tree by the second format, log by log.
use Rattle.std.proofs.Common.{◌≡◌, ◌∙◌, ℕ, Bool, true, false, List, [], ◌∷◌, ◌++◌, Some, None, take, drop, refl, sym, ap, append-nil, append_assoc, take-append-drop, arith}
use Rattle.protocol.specs.declared.records.LogRecord.{LogRecord}
use Rattle.protocol.specs.declared.trees.TreeProcess.{TreeProcess}
use Rattle.log_text.specs.declared.form.LogForm.{LogForm}
use Rattle.log_text.specs.Forms.{header, log_form}
use Rattle.log_text.specs.Payloads.{records_text}
use Rattle.log_rules.specs.order.Logs.{Whole, Damaged, read_as, read_log}
use Rattle.log_rules.specs.sound.Written.{AreBytes}
use Rattle.proof_log_grammar.proofs.Wholes.{whole_is_text}
use Rattle.log_script.specs.declared.line.ProcessLog.{ProcessLog}
use Rattle.log_script.specs.Faults.{damage_or, first_damage}
use Rattle.log_script.specs.Lines.{process_log}
use Rattle.log_script.specs.Logs.{bytes_of}
use Rattle.log_script.proofs.Formats.{read_by_first, read_by_second}
use Rattle.log_records.specs.Migrating.{IsMigrated, NotMigrated as IsLogNotMigrated, read_by}
use Rattle.log_records.specs.declared.migrating.MigrateError.{MigrateError}
use Rattle.log_records.specs.declared.migrating.MigrateError.TheVariants as error
use Rattle.log_records.specs.Openings.{is_old}
use Rattle.log_records.specs.Texts.{records_in}
use Rattle.migrate_engine.specs.Migrations.{MigratesTo, NotMigrated, migrated_log, migrated_logs, text_by}

-- One log.

-- a text that begins as the header and goes on as these records
two_parts : (bytes : List ℕ) (p : LogForm) (frames : List ℕ) → take 5 bytes ≡ header p.format
    → drop 5 bytes ≡ frames → bytes ≡ header p.format ++ frames
two_parts bytes p frames begins behind =
    sym (take-append-drop 5 bytes) ∙ ap (λ t. t ++ drop 5 bytes) begins
    ∙ ap (λ t. header p.format ++ t) behind

module _ (e : TreeProcess) (old new : List ℕ) where
  abbrev form : LogForm
  form = log_form e.id e.kind

  migrated_so : (ls : List LogRecord) (torn : ℕ) → read_as e.id e.kind old ≡ Whole ls torn
      → new ≡ header form.format ++ records_text form ls → MigratesTo e old (process_log e.id new)
  unfolding migrated_log
  migrated_so ls torn read text = record {
    records = ls;
    torn = torn;
    read = read;
    log_is = ap (process_log e.id) (text ∙ sym (ap (text_by form) read));
  }

  -- what is in the store after a migration is the log by the second format
  pub migrates : (b : Bool) (forced failures forced' failures' : ℕ) → AreBytes (drop 5 new) → is_old old ≡ b
      → IsMigrated b form old forced failures new forced' failures'
      → MigratesTo e old (process_log e.id new)
  migrates true forced failures forced' failures' bytes is h =
      migrated_so h.0.records h.0.torn (read_by_first old e.id e.kind is ∙ h.0.read) h.0.text
  migrates false forced failures forced' failures' bytes is h =
      migrated_so (records_in form 0 (drop 5 new)) h.torn (read_by_second old e.id e.kind is ∙ h.read)
      (two_parts new form _ h.begins (whole_is_text form (drop 5 new) bytes h.whole))

-- a log that is damaged by the format by which it is migrated is damaged
pub damaged_so : (e : TreeProcess) (bytes : List ℕ) (place : ℕ) (b : Bool) → is_old bytes ≡ b
    → read_log (read_by b (log_form e.id e.kind)) bytes ≡ Damaged place
    → read_as e.id e.kind bytes ≡ Damaged place
damaged_so e bytes place true is h = read_by_first bytes e.id e.kind is ∙ h
damaged_so e bytes place false is h = read_by_second bytes e.id e.kind is ∙ h

-- Why a log was not migrated.

-- a store whose device never fails: the log is damaged, or memory was refused
pub not_migrated : {S : Type 0} (bytes : S → List ℕ) (forced : S → ℕ) (e : TreeProcess) (old new : S)
    (is : MigrateError)
    → IsLogNotMigrated bytes forced (λ s. 0) (log_form e.id e.kind) old new is → NotMigrated e (bytes old) is
not_migrated bytes forced e old new error.Memory h = tt
not_migrated bytes forced e old new error.Device h = absurd (omega (arith, h.breaks.cause))
not_migrated bytes forced e old new (error.Damaged place) h =
    damaged_so e (bytes old) place (is_old (bytes old)) refl h.1

same_place : (a b : ℕ) → error.Damaged a ≡ error.Damaged b → a ≡ b
same_place a b e = cc

pub is_damage : (e : TreeProcess) (bytes : List ℕ) (is : MigrateError) (place : ℕ) → NotMigrated e bytes is
    → is ≡ error.Damaged place → read_as e.id e.kind bytes ≡ Damaged place
is_damage e bytes error.Memory place h i = absurd (cc)
is_damage e bytes error.Device place h i = absurd h
is_damage e bytes (error.Damaged at) place h i = h ∙ ap (λ n. Damaged n) (same_place at place i)

-- Log by log.

pub sound_more : (e : TreeProcess) (es : List TreeProcess) (logs : List ProcessLog) (ls : List LogRecord)
    (torn : ℕ) → read_as e.id e.kind (bytes_of logs e.id) ≡ Whole ls torn
    → first_damage (e ∷ es) logs ≡ first_damage es logs
unfolding first_damage
sound_more e es logs ls torn is = ap (λ r. damage_or e.id r (first_damage es logs)) is

pub damaged_here : (e : TreeProcess) (es : List TreeProcess) (logs : List ProcessLog) (place : ℕ)
    → read_as e.id e.kind (bytes_of logs e.id) ≡ Damaged place
    → first_damage (e ∷ es) logs ≡ Some (e.id, place)
unfolding first_damage
damaged_here e es logs place is = ap (λ r. damage_or e.id r (first_damage es logs)) is

pub none_damaged : (logs : List ProcessLog) → first_damage [] logs ≡ None
unfolding first_damage
none_damaged logs = refl

pub all_migrated : (new : List ProcessLog) (rest : List TreeProcess) (logs : List ProcessLog) → rest ≡ []
    → new ++ migrated_logs rest logs ≡ new
unfolding migrated_logs
all_migrated new rest logs is = ap (λ es. new ++ migrated_logs es logs) is ∙ append-nil new

pub logs_more : (old new total : List ProcessLog) (e : TreeProcess) (es rest : List TreeProcess)
    (logs : List ProcessLog)
    (log : ProcessLog) → new ≡ old ++ log ∷ [] → log ≡ migrated_log e (bytes_of logs e.id) → rest ≡ e ∷ es
    → old ++ migrated_logs rest logs ≡ total → new ++ migrated_logs es logs ≡ total
unfolding migrated_logs
logs_more old new total e es rest logs log pushed is split h =
    ap (λ t. t ++ migrated_logs es logs) (pushed ∙ ap (λ l. old ++ l ∷ []) is)
    ∙ append_assoc old (migrated_log e (bytes_of logs e.id) ∷ []) (migrated_logs es logs)
    ∙ sym (ap (λ xs. old ++ migrated_logs xs logs) split) ∙ h
