use Rattle.proof_judged_texts.proofs.Conforming.{run_not_bad}
use Rattle.proof_judged_texts.proofs.law.transcripts_have_no_bad_line.Goals as goal

pub returns : goal.returns
returns c = run_not_bad
