use Rattle.std.proofs.Common.{rules, subst}
use Rattle.key_lists.proofs.Lists.{first_and_rest}
use Rattle.key_lists.specs.declared.holders.Mode.TheVariants.{Exclusive}
use Rattle.kv_locks.specs.Locks.{GivesLock, RefusesLock}
use Rattle.kv_state.proofs.Holding.{IsLocking, locking_goes_on, locking_is_over, never_held}
use Rattle.kv_state.proofs.promises.lock.Goals as goal

pub loop-rest-preserved : goal.loop-rest-preserved
loop-rest-preserved c = locking_goes_on _ _ _ c.args.xid.now c.args.writes.now c.write-item.result _
    (subst (λ ws. IsLocking c.args.locks.now c.loop-rest.locks c.args.xid.now c.args.writes.now ws)
    (first_and_rest c.loop-rest.rest.now c.write-item.result (search rules)
    (search rules)) c.loop-rest.invariant)
    (subst (λ k. GivesLock c.loop-rest.locks c.exclusive.new.self c.args.xid.now k Exclusive)
    c.as_slice.ensures
    (c.in-Ok.ensures {u = tt}).ok)

pub unreachable-requires : goal.unreachable-requires
unreachable-requires c = never_held c.args.locks.now c.loop-rest.locks c.exclusive.new.self c.args.xid.now
    c.args.writes.now c.write-item.result _
    (subst (λ ws. IsLocking c.args.locks.now c.loop-rest.locks c.args.xid.now c.args.writes.now ws)
    (first_and_rest c.loop-rest.rest.now c.write-item.result (search rules)
    (search rules)) c.loop-rest.invariant)
    c.in-Err-Held.field-0 c.in-Err-Held.field-0-0 c.in-Err-Held.field-0-is
    (subst (λ k. RefusesLock c.loop-rest.locks c.exclusive.new.self c.args.xid.now k Exclusive
    c.in-Err-Held.field-0) c.as_slice.ensures (c.in-Err-Held.ensures {u = tt}).err)

pub returns-clause-ok : goal.returns-clause-ok
returns-clause-ok c = locking_is_over c.args.locks.now c.loop-rest.locks c.args.xid.now c.args.writes.now
    c.loop-rest.rest.now c.in_default.len_below c.loop-rest.invariant
