use Rattle.std.proofs.Common.{subst, sym}
use Rattle.std.proofs.lemmas.Result.{IfErr-weaker}
use Rattle.log_records.specs.Restarting.{BreaksLeft}
use Rattle.log_records.proofs.Restarting.{force_left}
use Rattle.log_records.proofs.log.write_left.Goals as goal

pub returns-clause-device : goal.returns-clause-device
returns-clause-device g c = IfErr-weaker c.force.result _ _
    (λ e r is. subst (λ b. BreaksLeft g.L.LogStore.bytes g.L.LogStore.forced g.L.LogStore.failures
    c.args.store.now
    c.force.new.self b c.args.text.now) (sym c.if-anew.false)
    (force_left g.L.LogStore.bytes g.L.LogStore.forced g.L.LogStore.failures c.args.store.now
    c.append.new.self
    c.force.new.self c.args.text.now c.in_ok-append.ensures.ok r.1)) c.force.ensures.err
