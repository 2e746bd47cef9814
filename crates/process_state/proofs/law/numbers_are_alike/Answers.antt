use Rattle.process_state.proofs.Numbers.{numbers_alike}
use Rattle.process_state.proofs.law.numbers_are_alike.Goals as goal

pub returns : goal.returns
returns c = numbers_alike
