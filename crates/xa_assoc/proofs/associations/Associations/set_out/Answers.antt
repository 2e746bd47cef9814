use Rattle.std.proofs.Common.{◌+◌, ◌≡◌, arith}
use Rattle.xa_assoc.specs.Associations.{moved_of}
use Rattle.xa_assoc.proofs.Sound.{set_out}
use Rattle.xa_assoc.proofs.associations.Associations.set_out.Goals as goal

pub returns-clause-ok : goal.returns-clause-ok
returns-clause-ok c =
    let more : c.migrations-count.result + 1 ≡ moved_of c.args.self.now c.args.xid.now + 1 =
    omega (arith, c.migrations-count.ensures) in
    set_out c.args.self.now c.recount.new.self c.leave.new.self c.args.thread c.args.xid.now
    (c.migrations-count.result + 1)
    c.in_ok-recount.ensures.ok more c.leave.ensures
