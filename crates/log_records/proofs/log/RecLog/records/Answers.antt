use Rattle.std.proofs.Common.{◌∙◌, sym, ap}
use Rattle.std.proofs.lemmas.Result.{IfOk-weaker}
use Rattle.log_records.specs.Texts.{records_in}
use Rattle.log_records.specs.Sights.{body, records_of}
use Rattle.log_records.proofs.Turns.{records_stand}
use Rattle.log_records.proofs.log.RecLog.records.Goals as goal

pub returns : goal.returns
returns g c =
    let is = ap (records_in c.self.inside.form 0) (c.body.ensures ∙ ap body c.bytes.ensures)
    ∙ sym (records_stand c.self.inside.form (g.L.LogStore.bytes c.self.inside.store)
    (g.L.LogStore.forced c.self.inside.store)) ∙ ap (λ s. records_of s.sight.kept) c.self.view_is in
    IfOk-weaker c.records_in.result _ _ (λ v e. e ∙ is) c.records_in.ensures
