-- A log that is the process's own, as far as its records tell.
use Rattle.std.proofs.Common.{◌≡◌, ◌≤◌, ◌∙◌, ℕ, Bool, true, false, Some, List, length, take, nat_lt, inl, refl, sym, ap, subst, arith}
use Rattle.std.specs.List.{list_all}
use Rattle.std.proofs.lemmas.Bool.Decides.{nat_tests}
use Rattle.protocol.specs.declared.records.LogRecord.{LogRecord}
use Rattle.protocol.specs.declared.trees.TreeProcess.{TreeProcess}
use Rattle.protocol.specs.Records.{same_bytes}
use Rattle.log_text.specs.declared.form.LogForm.{LogForm}
use Rattle.log_text.specs.declared.form.LogFormat.{LogFormat}
use Rattle.log_text.specs.declared.form.LogFormat.TheVariants.{First, Second}
use Rattle.log_text.specs.Forms.{header}
use Rattle.log_rules.specs.order.Logs.{Damaged as DamagedLog, Whole, read_log}
use Rattle.log_records.specs.Openings.{OpensLog, is_old}
use Rattle.log_records.specs.Sights.{LogState, records_of}
use Rattle.log_records.proofs.Carrying.{old_long}
use Rattle.log_records.proofs.Settling.{same_bytes_is}
use Rattle.tree_process.specs.declared.reopening.ProcessReopenError.TheVariants.{Memory, Device, Damaged, Unfit, OldFormat}
use Rattle.tree_process.specs.Reopenings.{form_by}
use Rattle.node_engine.specs.declared.starting.StartError.{StartError}
use Rattle.node_engine.specs.declared.starting.StartError.TheVariants.{Reopen, Stranger}
use Rattle.node_engine.specs.Starts.{CopyOpens, NamesOthers, NamesOwn, NoStart, NotHome, is_own_record}

headers_differ : same_bytes (header First) (header Second) ≡ false
unfolding same_bytes
headers_differ = refl

damaged_by : (p : LogForm) (bytes : List ℕ) (short begins : Bool) → nat_lt (length bytes) 5 ≡ short
    → same_bytes (take 5 bytes) (header p.format) ≡ begins → short ≡ false → begins ≡ false
    → read_log p bytes ≡ DamagedLog 0
unfolding read_log
damaged_by p bytes short begins s b f g = rw (s, b, f, g) refl

long : (bytes : List ℕ) → 5 ≤ length bytes → nat_lt (length bytes) 5 ≡ false
long bytes h = grind (arith, nat_tests)

-- bytes that begin as a log of the first format are no log of the second
pub not_old : (p : LogForm) (bytes : List ℕ) → p.format ≡ Second → is_old bytes ≡ true
    → (ls : List LogRecord) (torn : ℕ) → read_log p bytes ≡ Whole ls torn → ⊥
not_old p bytes second old ls torn whole =
    let is : take 5 bytes ≡ header First = same_bytes_is (take 5 bytes) (header First) old in
    let differs : same_bytes (take 5 bytes) (header p.format) ≡ false =
    ap (λ (xs : List ℕ). same_bytes xs (header p.format)) is
    ∙ (ap (λ (f : LogFormat). same_bytes (header First) (header f)) second ∙ headers_differ) in
    let damaged : read_log p bytes ≡ DamagedLog 0 =
    damaged_by p bytes false false (long bytes (old_long bytes old)) differs refl refl in
    let clash : DamagedLog 0 ≡ Whole ls torn = sym damaged ∙ whole in cc

-- What bytes are no log.

pub damaged_is_none : (p : LogForm) (bytes : List ℕ) (place : ℕ) → read_log p bytes ≡ DamagedLog place
    → (ls : List LogRecord) (torn : ℕ) → read_log p bytes ≡ Whole ls torn → ⊥
damaged_is_none p bytes place damaged ls torn whole =
    let clash : DamagedLog place ≡ Whole ls torn = sym damaged ∙ whole in absurd (cc)

pub old_is_none : (p : LogForm) (bytes : List ℕ) → p.format ≡ Second → is_old bytes ≡ true
    → (ls : List LogRecord) (torn : ℕ) → read_log p bytes ≡ Whole ls torn → ⊥
old_is_none p bytes second old ls torn whole = not_old p bytes second old ls torn whole

-- What is one.

same_records : (a b : List LogRecord) (m n : ℕ) → Whole a m ≡ Whole b n → a ≡ b
same_records a b m n e = cc

module _ (tree : List TreeProcess) (e : TreeProcess) (bytes : List ℕ) where
  pub none_names_own : ((ls : List LogRecord) (torn : ℕ) → read_log (form_by e) bytes ≡ Whole ls torn → ⊥)
      → NamesOwn tree e bytes
  none_names_own none = record { at_home = λ ls torn read. absurd (none ls torn read) }

  pub opened_names_own : (log : LogState) → CopyOpens (form_by e) bytes (Some log)
      → list_all (is_own_record e.id e.parent tree) (records_of log.sight.kept) ≡ true → NamesOwn tree e bytes
  opened_names_own log h own = record {
    at_home = λ ls torn read. subst (λ (rs : List LogRecord). list_all
        (is_own_record e.id e.parent tree) rs ≡ true)
        (same_records (records_of log.sight.kept) ls h.2.torn torn (sym h.2.read ∙ read)) own;
  }

  pub opened_names_others : (log : LogState) → CopyOpens (form_by e) bytes (Some log)
      → list_all (is_own_record e.id e.parent tree) (records_of log.sight.kept) ≡ false
      → NamesOthers tree e bytes
  opened_names_others log h others = record {
    forced = h.0;
    failures = h.1;
    log = log;
    opens = h.2;
    others = others;
  }

-- a refusal is passed on
pub not_started : {L : Type 0} (bytes : L → List ℕ) (forced failures : L → ℕ) (tree : List TreeProcess)
    (e : TreeProcess)
    (store : L) (error : StartError) → NotHome tree e (bytes store) error
    → NoStart bytes forced failures tree e store error
not_started bytes forced failures tree e store Stranger h = h
not_started bytes forced failures tree e store (Reopen Memory) h = inl tt
not_started bytes forced failures tree e store (Reopen Device) h = absurd h
not_started bytes forced failures tree e store (Reopen (Damaged place)) h = absurd h
not_started bytes forced failures tree e store (Reopen Unfit) h = absurd h
not_started bytes forced failures tree e store (Reopen OldFormat) h = absurd h
