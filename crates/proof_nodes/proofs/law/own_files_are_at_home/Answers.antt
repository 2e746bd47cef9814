use Rattle.proof_nodes.proofs.AtHome.{own_files_are_at_home}
use Rattle.proof_nodes.proofs.law.own_files_are_at_home.Goals as goal

pub returns : goal.returns
returns c = own_files_are_at_home
