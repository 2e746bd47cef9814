use Rattle.std.proofs.Common.{ap, sym, ◌∙◌}
use Rattle.protocol.specs.declared.records.LogRecord.{LogRecord}
use Rattle.log_text.specs.Payloads.{boot_in}
use Rattle.log_text.proofs.encode.Frame.of.Goals as goal

pub invariant_of-result-clause-boots : goal.invariant_of-result-clause-boots
invariant_of-result-clause-boots c = c.boot_of.ensures
    ∙ ap (λ (l : LogRecord). boot_in l.entry) (sym c.of.ensures)
