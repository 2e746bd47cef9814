use Rattle.std.proofs.Common.{rules, ◌≡◌, sym, subst}
use Rattle.protocol.specs.declared.messages.Op.TheVariants.{Get}
use Rattle.resource_manager.specs.Works.{ThreadWorks}
use Rattle.kv_state.specs.Works.{ReadsKey}
use Rattle.kv_manager.specs.Resources.{sight_of}
use Rattle.kv_manager.specs.Turns.{KvCalls}
use Rattle.kv_manager.proofs.Resources.{did_read}
use Rattle.kv_manager.proofs.resource.KvManagerResourceManager.work.Goals as goal

pub returns-in_ok-_value-in-Get-clause-ok : goal.returns-in_ok-_value-in-Get-clause-ok
returns-in_ok-_value-in-Get-clause-ok g c =
    let reads : KvCalls c.args.self.now c.get.new.self ⊥
    (λ before behind. ReadsKey before behind c.args.thread
    c.as_slice-in-Get.result.now c.in_ok-_value-in-Get._value) = search rules in
    let is : c.args.op.now ≡ Get c.as_slice-in-Get.result.now = search rules in
    subst (ThreadWorks (sight_of c.args.self.now) (sight_of c.get.new.self) c.args.thread) (sym is)
    (did_read c.args.self.now c.get.new.self c.args.thread c.as_slice-in-Get.result.now
    c.in_ok-_value-in-Get._value reads)
