use Rattle.std.proofs.Common.{rules, ◌≡◌, None, Some}
use Rattle.key_lists.specs.declared.holders.Mode.TheVariants.{Shared}
use Rattle.kv_state.specs.Works.{IsRefusedWork, ReadsKey, ReadsFor, at_work, branch_refusal, work_refusal}
use Rattle.kv_state.proofs.Working.{each_err, each_ok, reads_by, refused_by}
use Rattle.kv_state.proofs.store.KeyStore.get.Goals as goal

pub returns-clause-ok : goal.returns-clause-ok
returns-clause-ok c =
    let at : at_work c.args.self.now c.args.thread ≡ Some c.in_ok-xid.xid = search rules in
    each_ok (ReadsFor c.args.self.now c.read_for.new.self c.in_ok-xid.xid c.args.key.now)
    (ReadsKey c.args.self.now c.read_for.new.self c.args.thread c.args.key.now)
    c.read_for.result c.read_for.ensures.ok
    (λ found reads. reads_by c.args.self.now c.read_for.new.self c.args.thread c.in_ok-xid.xid c.args.key.now
    found at reads)

pub returns-clause-err : goal.returns-clause-err
returns-clause-err c =
    let at : at_work c.args.self.now c.args.thread ≡ Some c.in_ok-xid.xid = search rules in
    each_err (IsRefusedWork c.args.self.now c.read_for.new.self
    (branch_refusal c.args.self.now c.args.key.now None Shared c.in_ok-xid.xid))
    (IsRefusedWork c.args.self.now c.read_for.new.self
    (work_refusal c.args.self.now c.args.thread c.args.key.now None Shared))
    c.read_for.result c.read_for.ensures.err
    (λ e why. refused_by c.args.self.now c.read_for.new.self c.args.thread c.in_ok-xid.xid c.args.key.now None
    Shared e at why)
