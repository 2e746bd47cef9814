use Rattle.proof_runs.proofs.worlds.OneText.{one_text}
use Rattle.proof_runs.proofs.worlds.law.one_input_has_one_text.Goals as goal

pub returns : goal.returns
returns c = one_text
