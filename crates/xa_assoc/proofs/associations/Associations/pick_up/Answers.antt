use Rattle.std.proofs.Common.{◌+◌, ◌-◌, ◌≡◌, arith}
use Rattle.xa_assoc.specs.Associations.{moved_of}
use Rattle.xa_assoc.proofs.Sound.{pick_up}
use Rattle.xa_assoc.proofs.associations.Associations.pick_up.Goals as goal

pub returns-clause-ok : goal.returns-clause-ok
returns-clause-ok c =
    let less : (c.migrations-count.result - 1) + 1 ≡ moved_of c.args.self.now c.args.xid.now =
    omega (arith, c.migrations-count.ensures, c.requires.migrated) in
    pick_up c.args.self.now c.enter.new.self c.recount.new.self c.args.thread c.args.xid.now
    (c.migrations-count.result - 1)
    c.in_ok-enter.ensures.ok (rw c.unwrap.ensures at c.recount.ensures.ok) less
