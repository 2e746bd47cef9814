use Rattle.kv_state.proofs.Lawful.{IsLawful, lawful_of}
use Rattle.protocol.specs.Store.{data_of}
use Rattle.kv_state.proofs.law.records_are_lawful.Goals as goal

pub returns : goal.returns
returns c = λ ls s h.
    let lawful : IsLawful s (data_of ls) = lawful_of ls s h in
    (lawful.orderly, lawful.tied)
