use Rattle.kv_state.proofs.Trims.{trims_keep_data}
use Rattle.kv_state.proofs.law.trims_keep_data.Goals as goal

pub returns : goal.returns
returns c = trims_keep_data
