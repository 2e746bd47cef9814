use Rattle.proof_model.proofs.RootViewLaws.{root_views}
use Rattle.proof_model.proofs.BeginLaws.{root_begins}
use Rattle.proof_worked.proofs.definitions.root_views_follow_the_table.Goals as goal

pub returns : goal.returns
returns c = record {
  rows = λ ver me tree n x. root_views ver me tree n x;
  begins = λ ver me tree n p a. root_begins ver me tree n p a;
}
