use Rattle.proof_reopened.proofs.Reports.{both_parts}
use Rattle.proof_reopened.proofs.law.both_parts_keep_the_headline.Goals as goal

pub returns : goal.returns
returns c = both_parts
