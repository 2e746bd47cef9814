use Rattle.std.specs.Option.{option_copied}
use Rattle.audit_cases.proofs.SayingLaws.{all_said}
use Rattle.audit_cases.proofs.sayings.Sayings.of.Goals as goal

pub returns : goal.returns
returns c = all_said (option_copied c.args.above) c.args.notes.now.table c.passing.result c.passing.ensures
