use Rattle.reopen_script.proofs.Alike.{faults_alike, scripts_alike}
use Rattle.reopen_script.proofs.law.scripts_without_logs_stay.Goals as goal

pub returns : goal.returns
returns c = record { scripts = scripts_alike; faults = faults_alike }
