use Rattle.std.proofs.Common.{refl}
use Rattle.kv_state.proofs.Remembering.{remembers_nothing}
use Rattle.kv_state.proofs.remembered.RememberedData.nothing.Goals as goal

pub returns : goal.returns
returns c = remembers_nothing _ c.new.ensures c.new-2.ensures refl c.new-3.ensures.items
