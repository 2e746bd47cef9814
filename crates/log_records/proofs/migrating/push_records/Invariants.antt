use Rattle.std.proofs.Common.{◌≡◌, ◌++◌, drop}
use Rattle.log_text.specs.Payloads.{records_text}
use Rattle.log_records.proofs.migrating.push_records.Given as goal

abbrev pub invariant-loop-record : goal.invariant-loop-record
invariant-loop-record l = l.text.items ++ records_text l.form (drop l.record-index l.records)
    ≡ l.initial.text.items ++ records_text l.form l.records
