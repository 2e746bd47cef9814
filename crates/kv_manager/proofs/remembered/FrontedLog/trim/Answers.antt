use Rattle.kv_manager.proofs.Remembering.{header_front}
use Rattle.kv_manager.proofs.remembered.FrontedLog.trim.Goals as goal

pub invariant_of-self : goal.invariant_of-self
invariant_of-self g c = header_front c.trim.new.self c.header.result c.header.ensures.size
    c.header.ensures.says
