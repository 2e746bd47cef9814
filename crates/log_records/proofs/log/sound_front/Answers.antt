use Rattle.std.proofs.Common.{sym}
use Rattle.log_records.proofs.Restarting.{passes_first, passes_on, sounds_strange, sounds_torn}
use Rattle.log_records.proofs.log.sound_front.Goals as goal

pub loop-frame_kind-init : goal.loop-frame_kind-init
loop-frame_kind-init c = passes_first c.args.form c.args.bytes.now

pub returns-in-Err-Malformed : goal.returns-in-Err-Malformed
returns-in-Err-Malformed c =
    sounds_strange c.args.form c.args.bytes.now c.loop-frame_kind.rest.now _ c.loop-frame_kind.invariant
    (sym c.in-Some.ensures) (c.in-Err-Malformed.ensures.err c.in-Err-Malformed.field-0-is)

pub loop-frame_kind-preserved : goal.loop-frame_kind-preserved
loop-frame_kind-preserved c =
    passes_on c.args.form c.args.bytes.now c.loop-frame_kind.rest.now _ _ c.loop-frame_kind.invariant
    (sym c.in-Some.ensures) c.in-Ok.ensures.ok

pub returns : goal.returns
returns c =
    sounds_torn c.args.form c.args.bytes.now c.loop-frame_kind.rest.now c.loop-frame_kind.invariant
    (sym c.in_default.ensures)
