use Rattle.kv_manager.proofs.Remembering.{header_front}
use Rattle.kv_manager.proofs.remembered.FrontedLog.new.Goals as goal

pub invariant_of-result : goal.invariant_of-result
invariant_of-result g c = header_front c.args.log c.header.result c.header.ensures.size c.header.ensures.says
