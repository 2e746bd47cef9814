use Rattle.staged_store.proofs.Staging.{stand_or_not}
use Rattle.staged_store.proofs.law.groups_stand_or_not.Goals as goal

pub returns : goal.returns
returns g c = stand_or_not c.args.file.now
