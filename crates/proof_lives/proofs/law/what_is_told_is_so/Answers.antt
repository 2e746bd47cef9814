use Rattle.proof_lives.proofs.Tells.{entries_tell_so, told_so}
use Rattle.proof_lives.proofs.law.what_is_told_is_so.Goals as goal

pub returns-clause-moves : goal.returns-clause-moves
returns-clause-moves c = told_so

pub returns-clause-entries : goal.returns-clause-entries
returns-clause-entries c = entries_tell_so
