use Rattle.std.proofs.Common.{rules, subst}
use Rattle.key_lists.specs.Tables.{table_of}
use Rattle.key_lists.proofs.Lists.{first_and_rest, none_left}
use Rattle.kv_locks.proofs.Tables.{IsReleasing, releasing_ends, releasing_goes_on}
use Rattle.kv_locks.proofs.locks.release_each.Goals as goal

pub loop-rest-preserved : goal.loop-rest-preserved
loop-rest-preserved c = releasing_goes_on _ _ _ c.key-item.result _ c.args.xid.now
    (subst (λ ks. IsReleasing (table_of c.args.holders.now.entries)
    (table_of c.loop-rest.holders.entries) ks c.args.xid.now)
    (first_and_rest c.loop-rest.rest.now c.key-item.result (search rules)
    (search rules)) c.loop-rest.invariant)
    (search rules)

pub returns : goal.returns
returns c = releasing_ends _ _ c.args.xid.now
    (subst (λ ks. IsReleasing (table_of c.args.holders.now.entries)
    (table_of c.loop-rest.holders.entries) ks c.args.xid.now)
    (none_left c.loop-rest.rest.now c.in_default.len_below) c.loop-rest.invariant)
