use Rattle.process_state.proofs.Opened.{opened_is_read}
use Rattle.process_state.proofs.law.opened_is_read_off.Goals as goal

pub returns : goal.returns
returns c = opened_is_read
