use Rattle.proof_reports.proofs.Runs.{findings_hold}
use Rattle.proof_reports.proofs.law.mixed_was_decided.Goals as goal

pub returns : goal.returns
returns c = λ tree es w run. (findings_hold tree es w run).net
