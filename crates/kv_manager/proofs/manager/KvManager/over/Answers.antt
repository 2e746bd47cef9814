use Rattle.std.proofs.Common.{subst, sym}
use Rattle.log_records.specs.Sights.{LogState}
use Rattle.kv_manager.specs.Sights.{IsKvManager}
use Rattle.kv_manager.proofs.Restoring.{kept_over}
use Rattle.kv_manager.proofs.manager.KvManager.over.Goals as goal

pub invariant_of-result : goal.invariant_of-result
invariant_of-result g c =
    subst (λ (l : LogState). IsKvManager (record { store = c.in-Ok.store; log = l; boot = c.in-Ok.boot }))
    (sym c.new.ensures)
    (kept_over c.args.log c.started.new.log c.in-Ok.store c.in-Ok.boot c.requires.kind
    c.started.ensures.form c.in-Ok.ensures.ok)
