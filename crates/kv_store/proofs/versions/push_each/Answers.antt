use Rattle.std.proofs.Common.{rules, subst}
use Rattle.key_lists.specs.Tables.{table_of}
use Rattle.key_lists.proofs.Lists.{first_and_rest}
use Rattle.kv_store.proofs.Stages.{IsAdding, adding_begins, adding_goes_on}
use Rattle.kv_store.proofs.versions.push_each.Goals as goal

pub loop-rest-init : goal.loop-rest-init
loop-rest-init c = adding_begins (table_of c.args.keys.now.entries) c.args.count c.args.writes.now

pub loop-rest-preserved : goal.loop-rest-preserved
loop-rest-preserved c = adding_goes_on _ _ _ c.args.count c.args.writes.now c.write-item.result _
    (subst (λ ws. IsAdding (table_of c.args.keys.now.entries) (table_of c.loop-rest.keys.entries)
    c.args.count c.args.writes.now ws)
    (first_and_rest c.loop-rest.rest.now c.write-item.result (search rules)
    (search rules)) c.loop-rest.invariant)
    (search rules)
