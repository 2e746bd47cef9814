use Rattle.std.proofs.Common.{◌∙◌}
use Rattle.std.proofs.lemmas.Result.{IfOk-weaker}
use Rattle.kv_manager.proofs.Creating.{each_new}
use Rattle.kv_manager.proofs.manager.KvManager.create.Goals as goal

pub returns-clause-ok : goal.returns-clause-ok
returns-clause-ok g c = each_new _ _ _ _ c.restore.result c.requires c.restore.ensures.ok

pub returns-clause-form : goal.returns-clause-form
returns-clause-form g c =
    IfOk-weaker c.restore.result _ _ (λ manager r. r.starts.form ∙ r.opens.form) c.restore.ensures.ok
