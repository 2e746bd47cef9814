use Rattle.std.proofs.Common.{refl, sym}
use Rattle.log_records.proofs.Openings.{damaged_next, reads_all, reads_first, reads_next}
use Rattle.log_records.proofs.opening.torn_tail.Goals as goal

pub loop-frame_kind-init : goal.loop-frame_kind-init
loop-frame_kind-init c = reads_first c.args.form c.args.bytes.now c.new-seen.result c.new-seen.ensures

pub returns-in-Err-Malformed-clause-err : goal.returns-in-Err-Malformed-clause-err
returns-in-Err-Malformed-clause-err c =
    damaged_next c.args.form c.args.bytes.now c.loop-frame_kind.rest.now c.loop-frame_kind.seen _ _
    c.loop-frame_kind.invariant (sym c.in-Some.ensures)
    (c.in-Err-Malformed.ensures.err c.in-Err-Malformed.field-0-is) refl

pub loop-frame_kind-preserved : goal.loop-frame_kind-preserved
loop-frame_kind-preserved c =
    reads_next c.args.form c.args.bytes.now c.loop-frame_kind.rest.now
    c.loop-frame_kind.seen c.take_frame.new.seen _
    c.loop-frame_kind.invariant (sym c.in-Some.ensures) c.in-Ok.ensures.ok

pub returns-clause-ok : goal.returns-clause-ok
returns-clause-ok c = reads_all c.args.form c.args.bytes.now c.loop-frame_kind.rest.now c.loop-frame_kind.seen
    c.loop-frame_kind.invariant (sym c.in_default.ensures)
