use Rattle.audit_engine.proofs.NamingLaws.{all_named}
use Rattle.audit_engine.proofs.namings.Namings.of.Goals as goal

pub returns : goal.returns
returns c = all_named c.args.notes.now.table c.passing.result c.passing.ensures
