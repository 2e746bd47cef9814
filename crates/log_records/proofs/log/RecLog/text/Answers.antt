use Rattle.std.proofs.Common.{◌∙◌}
use Rattle.std.proofs.lemmas.Result.{IfOk-weaker}
use Rattle.log_records.proofs.Rewriting.{copied}
use Rattle.log_records.proofs.log.RecLog.text.Goals as goal

pub returns : goal.returns
returns g c =
    IfOk-weaker c.from_slice.result _ _ (λ v e. copied _ _ _ _ _ _ _ _ c.self.view_is c.self.invariant.0
    (e ∙ c.bytes.ensures)) c.from_slice.ensures.items
