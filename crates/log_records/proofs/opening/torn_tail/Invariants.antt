use Rattle.std.proofs.Common.{length}
use Rattle.log_records.proofs.Openings.{Reads}
use Rattle.log_records.proofs.opening.torn_tail.Given as goal

abbrev pub invariant-loop-frame_kind : goal.invariant-loop-frame_kind
invariant-loop-frame_kind l = Reads l.fn.form l.fn.bytes l.seen l.rest

abbrev pub decreases-loop-frame_kind : goal.decreases-loop-frame_kind
decreases-loop-frame_kind l = length l.rest
