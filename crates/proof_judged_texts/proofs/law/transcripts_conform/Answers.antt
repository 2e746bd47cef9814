use Rattle.proof_judged_texts.proofs.Conforming.{run_conforms}
use Rattle.proof_judged_texts.proofs.law.transcripts_conform.Goals as goal

pub returns : goal.returns
returns c = run_conforms
