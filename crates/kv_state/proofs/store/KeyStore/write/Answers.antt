use Rattle.std.proofs.Common.{rules, ◌≡◌, Some, Option, List, ℕ, option_map}
use Rattle.key_lists.specs.declared.holders.Mode.TheVariants.{Exclusive}
use Rattle.kv_state.specs.Works.{IsRefusedWork, WritesKey, WritesFor, at_work, branch_refusal, work_refusal}
use Rattle.kv_state.proofs.Working.{each_err, each_ok, refused_by, writes_by}
use Rattle.kv_state.proofs.store.KeyStore.write.Goals as goal

pub returns-clause-ok : goal.returns-clause-ok
returns-clause-ok c =
    let at : at_work c.args.self.now c.args.thread ≡ Some c.in_ok-xid.xid = search rules in
    let value : Option (List ℕ) = option_map (λ v. v.now) c.args.value in
    each_ok (λ _. WritesFor c.args.self.now c.write_for.new.self c.in_ok-xid.xid c.args.key.now value)
    (λ _. WritesKey c.args.self.now c.write_for.new.self c.args.thread c.args.key.now value)
    c.write_for.result c.write_for.ensures.ok
    (λ done wrote. writes_by c.args.self.now c.write_for.new.self c.args.thread c.in_ok-xid.xid c.args.key.now
    value at wrote)

pub returns-clause-err : goal.returns-clause-err
returns-clause-err c =
    let at : at_work c.args.self.now c.args.thread ≡ Some c.in_ok-xid.xid = search rules in
    let value : Option (List ℕ) = option_map (λ v. v.now) c.args.value in
    each_err (IsRefusedWork c.args.self.now c.write_for.new.self
    (branch_refusal c.args.self.now c.args.key.now value Exclusive c.in_ok-xid.xid))
    (IsRefusedWork c.args.self.now c.write_for.new.self
    (work_refusal c.args.self.now c.args.thread c.args.key.now value Exclusive))
    c.write_for.result c.write_for.ensures.err
    (λ e why. refused_by c.args.self.now c.write_for.new.self c.args.thread c.in_ok-xid.xid
    c.args.key.now value
    Exclusive e at why)
