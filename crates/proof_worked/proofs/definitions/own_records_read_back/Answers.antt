use Rattle.protocol.proofs.LogNameLaws.{reads_back}
use Rattle.proof_worked.proofs.definitions.own_records_read_back.Goals as goal

pub returns : goal.returns
returns c = λ place rs. reads_back place rs
