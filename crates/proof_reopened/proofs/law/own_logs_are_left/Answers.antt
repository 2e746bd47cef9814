use Rattle.proof_reopened.proofs.OwnLogs.{own_logs_left, own_logs_since_left}
use Rattle.proof_reopened.proofs.law.own_logs_are_left.Goals as goal

pub returns-clause-first : goal.returns-clause-first
returns-clause-first c = own_logs_left

pub returns-clause-since : goal.returns-clause-since
returns-clause-since c = own_logs_since_left
