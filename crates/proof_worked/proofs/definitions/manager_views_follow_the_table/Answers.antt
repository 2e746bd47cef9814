use Rattle.proof_model.proofs.ManagerViewLaws.{manager_views}
use Rattle.proof_worked.proofs.definitions.manager_views_follow_the_table.Goals as goal

pub returns : goal.returns
returns c = λ ver me p tree n d. manager_views ver me p tree n d
