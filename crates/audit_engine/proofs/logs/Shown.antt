-- What the logs hold, log by log.
use Rattle.std.proofs.Common.{◌≡◌, ℕ, List, [], ◌∷◌, ◌++◌, Some, None, refl, sym, ap, ◌∙◌, append_assoc}
use Rattle.protocol.specs.declared.records.LogRecord.{LogRecord}
use Rattle.protocol.specs.declared.trees.TreeProcess.{TreeProcess}
use Rattle.log_text.specs.declared.form.LogForm.{LogForm}
use Rattle.log_text.specs.Forms.{form_in}
use Rattle.log_rules.specs.order.Logs.{Whole, Damaged, read_as, read_log}
use Rattle.log_script.specs.declared.line.ProcessLog.{ProcessLog}
use Rattle.log_script.specs.Logs.{bytes_of}
use Rattle.log_records.specs.declared.opening.StoreText.{StoreText}
use Rattle.log_records.specs.declared.opening.StoreText.TheVariants.{Empty, Sound}
use Rattle.log_records.specs.Openings.{IsLogFound, IsNoLog}
use Rattle.log_records.specs.declared.opening.LogOpenError.{LogOpenError}
use Rattle.log_records.specs.declared.opening.LogOpenError.TheVariants.{Memory, Device, Damaged as DamagedError, OldFormat}
use Rattle.log_lines.specs.Held.{held_text}
use Rattle.audit_engine.specs.logs.Reports.{shown_text}
use Rattle.log_script.specs.Faults.{damage_or, first_damage}

-- the form by which the log of a process is read
abbrev pub form_of : List ProcessLog → TreeProcess → LogForm
form_of logs e = form_in (bytes_of logs e.id) e.id e.kind

pub shown_more : (e : TreeProcess) (es : List TreeProcess) (logs : List ProcessLog)
    → shown_text (e ∷ es) logs ≡ held_text (form_of logs e) (bytes_of logs e.id) ++ shown_text es logs
unfolding shown_text
shown_more e es logs = refl

pub shown_none : (logs : List ProcessLog) → shown_text [] logs ≡ []
unfolding shown_text
shown_none logs = refl

pub sound_more : (e : TreeProcess) (es : List TreeProcess) (logs : List ProcessLog) (ls : List LogRecord)
    (torn : ℕ) → read_as e.id e.kind (bytes_of logs e.id) ≡ Whole ls torn
    → first_damage (e ∷ es) logs ≡ first_damage es logs
unfolding first_damage
sound_more e es logs ls torn is = ap (λ r. damage_or e.id r (first_damage es logs)) is

pub damaged_here : (e : TreeProcess) (es : List TreeProcess) (logs : List ProcessLog) (place : ℕ)
    → read_as e.id e.kind (bytes_of logs e.id) ≡ Damaged place
    → first_damage (e ∷ es) logs ≡ Some (e.id, place)
unfolding first_damage
damaged_here e es logs place is = ap (λ r. damage_or e.id r (first_damage es logs)) is

pub none_damaged : (logs : List ProcessLog) → first_damage [] logs ≡ None
unfolding first_damage
none_damaged logs = refl

same_place : (a b : ℕ) → DamagedError a ≡ DamagedError b → a ≡ b
same_place a b e = cc

pub sound_found : (p : LogForm) (bytes : List ℕ) (found : StoreText) → IsLogFound p bytes found
    → (ls : List LogRecord) × (torn : ℕ) × (read_log p bytes ≡ Whole ls torn)
sound_found p bytes Empty h = ([], 0, h.1)
sound_found p bytes (Sound torn) h = (_, torn, h.3 ∙ h.2.read)

pub no_log : (p : LogForm) (bytes : List ℕ) (error : LogOpenError) (place : ℕ) → IsNoLog p bytes error
    → error ≡ DamagedError place → read_log p bytes ≡ Damaged place
no_log p bytes Memory place h e = absurd (cc)
no_log p bytes Device place h e = absurd (cc)
no_log p bytes OldFormat place h e = absurd (cc)
no_log p bytes (DamagedError at) place h e = h ∙ ap (λ n. Damaged n) (same_place at place e)

-- One more log.

pub text_more : (old new total : List ℕ) (e : TreeProcess) (es rest : List TreeProcess)
    (logs : List ProcessLog)
    → new ≡ old ++ held_text (form_of logs e) (bytes_of logs e.id) → rest ≡ e ∷ es
    → old ++ shown_text rest logs ≡ total → new ++ shown_text es logs ≡ total
text_more old new total e es rest logs n is h =
    ap (λ t. t ++ shown_text es logs) n ∙ append_assoc old (held_text (form_of logs e) (bytes_of logs e.id))
    (shown_text es logs)
    ∙ sym (ap (λ t. old ++ t) (shown_more e es logs)) ∙ sym (ap (λ t. old ++ shown_text t logs) is) ∙ h
