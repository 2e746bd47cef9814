use Rattle.std.proofs.Common.{◌≡◌, ◌++◌, length}
use Rattle.log_records.specs.Texts.{records_in}
use Rattle.log_records.proofs.log.records_in.Given as goal

abbrev pub invariant-loop-frame_kind : goal.invariant-loop-frame_kind
invariant-loop-frame_kind l = records_in l.fn.form 0 l.fn.bytes ≡ l.records.items
    ++ records_in l.fn.form 0 l.rest

abbrev pub decreases-loop-frame_kind : goal.decreases-loop-frame_kind
decreases-loop-frame_kind l = length l.rest
