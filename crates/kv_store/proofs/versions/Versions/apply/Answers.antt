use Rattle.std.proofs.Common.{rules}
use Rattle.kv_store.proofs.Stages.{applies}
use Rattle.kv_store.proofs.versions.Versions.apply.Goals as goal

pub returns-clause-ok : goal.returns-clause-ok
returns-clause-ok c = applies c.args.self.now c.stage.new.self c.publish.new.self c.args.writes.now
    (search rules) c.publish.ensures
