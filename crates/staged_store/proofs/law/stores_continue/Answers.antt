use Rattle.staged_store.proofs.Staging.{stores_go_on}
use Rattle.staged_store.proofs.law.stores_continue.Goals as goal

pub returns : goal.returns
returns c = stores_go_on c.args.store.now
