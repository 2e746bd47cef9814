use Rattle.std.proofs.Common.{rules, None}
use Rattle.key_lists.specs.declared.holders.Mode.TheVariants.{Shared}
use Rattle.kv_state.proofs.Working.{refused_at}
use Rattle.kv_state.proofs.store.KeyStore.read_for.Goals as goal

pub returns-in-Err-clause-err : goal.returns-in-Err-clause-err
returns-in-Err-clause-err c = refused_at c.args.self.now c.try_read.new.self c.args.xid.now
    c.args.key.now None
    Shared c.in-Err.refusal c.unless_locked.result (search rules) (search rules) (search rules)
    c.unless_locked.ensures
