-- The log of an empty store.
use Rattle.std.proofs.Common.{◌≡◌, ◌∙◌, [], ℕ, List, refl, sym, subst}
use Rattle.log_text.specs.declared.form.LogForm.{LogForm}
use Rattle.protocol.specs.declared.records.LogRecord.{LogRecord}
use Rattle.protocol.specs.Records.{same_bytes}
use Rattle.log_rules.specs.order.Logs.{Whole, read_log}
use Rattle.log_records.specs.Openings.{OpensLog}
use Rattle.log_records.specs.Sights.{LogState, records_of}

pub nothing_read : (k : LogForm) → read_log k [] ≡ Whole [] 0
unfolding read_log same_bytes
nothing_read k = refl

same_records : (a b : List LogRecord) (m n : ℕ) → Whole a m ≡ Whole b n → a ≡ b
same_records a b m n e = cc

-- a log over an empty store has no records
pub no_records : (k : LogForm) (bytes : List ℕ) (forced failures : ℕ) (log : LogState) → bytes ≡ []
    → OpensLog k bytes forced failures log
    → records_of log.sight.kept ≡ []
no_records k bytes forced failures log empty o =
    let read : read_log k [] ≡ Whole (records_of log.sight.kept) o.torn =
    subst (λ bs. read_log k bs ≡ Whole (records_of log.sight.kept) o.torn) empty o.read in
    sym (same_records [] (records_of log.sight.kept) 0 o.torn (sym (nothing_read k) ∙ read))
