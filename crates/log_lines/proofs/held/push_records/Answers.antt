use Rattle.std.proofs.Common.{◌≡◌, ◌∙◌, ◌++◌, ◌+◌, ◌-◌, suc, ap, sym, arith, length}
use Rattle.log_text.specs.Forms.{size_bytes}
use Rattle.log_script.specs.Places.{placed_in}
use Rattle.log_lines.specs.Held.{records_text}
use Rattle.log_lines.proofs.Texts.{text_ends, text_goes_on}
use Rattle.log_script.proofs.PlaceLaws.{frame_size, goes_on, no_frame, stops}
use Rattle.log_lines.proofs.held.push_records.Goals as goal

pub returns-in-Err-Malformed : goal.returns-in-Err-Malformed
returns-in-Err-Malformed c =
    text_ends c.loop-frame_kind.out.items _ _
    (stops c.args.form _ c.loop-frame_kind.rest.now _ (sym c.in-Some.ensures)
    (c.in-Err-Malformed.ensures.err c.in-Err-Malformed.field-0-is))
    c.loop-frame_kind.invariant.0

pub loop-frame_kind-preserved : goal.loop-frame_kind-preserved
loop-frame_kind-preserved c =
    let size = frame_size c.args.form.format c.loop-frame_kind.rest.now _ (sym c.in-Some.ensures) in
    let within = c.loop-frame_kind.invariant.1 in
    let next : 5 + (length c.args.frames.now - length c.in-Some.behind.now)
    ≡ 5 + (length c.args.frames.now - length c.loop-frame_kind.rest.now) + suc (size_bytes c.args.form.format)
    + length c.in-Some.payload.now =
    omega (arith, size, within) in (
      ap (λ at. c.push_record.new.out.items ++ records_text (placed_in c.args.form at 0 c.in-Some.behind.now))
          next
          ∙ text_goes_on c.loop-frame_kind.out.items c.push_record.new.out.items _ _ c.in-Ok.read _ _
          c.in_ok-push_record-in-Ok.ensures
          (goes_on c.args.form _ c.loop-frame_kind.rest.now _ c.in-Ok.read
          (sym c.in-Some.ensures) c.in-Ok.ensures.ok)
          c.loop-frame_kind.invariant.0,
      omega (arith, size, within),
    )

pub returns : goal.returns
returns c =
    text_ends c.loop-frame_kind.out.items _ _
    (no_frame c.args.form _ c.loop-frame_kind.rest.now (sym c.in_default.ensures))
    c.loop-frame_kind.invariant.0
