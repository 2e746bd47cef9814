use Rattle.process_state.proofs.AlikeTurns.{same_cores_react}
use Rattle.process_state.proofs.law.same_cores_react_alike.Goals as goal

pub returns-clause-react : goal.returns-clause-react
returns-clause-react c = same_cores_react
