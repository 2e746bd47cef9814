use Rattle.std.proofs.Common.{ap, sym}
use Rattle.log_records.specs.Sights.{records_of}
use Rattle.log_records.specs.Trimming.{data_by}
use Rattle.test_base.proofs.faults.trim_fails.Goals as goal

pub trim-requires-clause-own : goal.trim-requires-clause-own
trim-requires-clause-own c = sym (ap (λ k. data_by k (records_of c.args.log.now.sight.kept)) c.requires)
