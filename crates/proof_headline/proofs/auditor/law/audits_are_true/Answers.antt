use Rattle.proof_headline.proofs.auditor.Audit
use Rattle.proof_headline.proofs.auditor.law.audits_are_true.Goals as goal

pub returns : goal.returns
returns c = Audit.audits_are_true
