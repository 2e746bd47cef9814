use Rattle.kv_manager.proofs.Remembering.{front_put_again}
use Rattle.kv_manager.proofs.remembered.FrontedLog.put_again.Goals as goal

pub invariant_of-self : goal.invariant_of-self
invariant_of-self g c = front_put_again c.self.inside.log c.put_again.new.self c.self.inside.front
    c.put_again.result
    c.put_again.ensures.ok c.put_again.ensures.err c.self.invariant
