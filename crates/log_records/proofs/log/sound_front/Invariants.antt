use Rattle.std.proofs.Common.{length}
use Rattle.log_records.proofs.Restarting.{Passes}
use Rattle.log_records.proofs.log.sound_front.Given as goal

abbrev pub invariant-loop-frame_kind : goal.invariant-loop-frame_kind
invariant-loop-frame_kind l = Passes l.fn.form l.fn.bytes l.rest

abbrev pub decreases-loop-frame_kind : goal.decreases-loop-frame_kind
decreases-loop-frame_kind l = length l.rest
