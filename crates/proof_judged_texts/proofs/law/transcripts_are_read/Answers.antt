use Rattle.proof_judged_texts.proofs.Conforming.{run_read}
use Rattle.proof_judged_texts.proofs.law.transcripts_are_read.Goals as goal

pub returns : goal.returns
returns c = run_read
