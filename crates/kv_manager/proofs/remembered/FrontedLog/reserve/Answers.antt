use Rattle.kv_manager.proofs.Remembering.{front_stays}
use Rattle.kv_manager.proofs.remembered.FrontedLog.reserve.Goals as goal

pub invariant_of-self : goal.invariant_of-self
invariant_of-self g c = front_stays c.self.inside.log c.reserve.new.self c.self.inside.front
    c.reserve.ensures.stays
    c.self.invariant
