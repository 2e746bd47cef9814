use Rattle.std.proofs.Common.{◌≡◌, ◌∙◌, ◌+◌, ◌-◌, suc, ap, sym, subst, arith, fold, length, map}
use Rattle.log_text.specs.Forms.{size_bytes}
use Rattle.protocol.specs.LogNames.{own_records}
use Rattle.log_script.specs.Places.{placed_in}
use Rattle.log_script.proofs.PlaceLaws.{frame_size, goes_on, no_frame, stops}
use Rattle.audit_cases.specs.Notes.{IsRecordAt, noted, place_at}
use Rattle.audit_tree.proofs.Passes.{is_frames_notes, noted_ends, noted_goes_on}
use Rattle.audit_tree.proofs.RecordsAt.{record_at}
use Rattle.audit_tree.proofs.logs.noted.Goals as goal

pub take-requires : goal.take-requires
take-requires c =
    subst (λ k. IsRecordAt k c.in-Ok.record.entry) c.requires
    (record_at c.args.form c.in-Some.kind c.in-Some.payload.now c.in-Ok.record c.in-Ok.ensures.ok)

pub returns-in-Err-Malformed : goal.returns-in-Err-Malformed
returns-in-Err-Malformed c =
    noted_ends c.args.tree.now c.args.entry.now c.loop-kind.notes _ _
    (stops c.args.form _ c.loop-kind.rest.now _ (sym c.in-Some.ensures)
    (c.in-Err-Malformed.ensures.err c.in-Err-Malformed.field-0-is))
    c.loop-kind.invariant.0
    ∙ is_frames_notes c.args.form c.args.tree.now c.args.entry.now c.args.frames.now

pub loop-kind-preserved : goal.loop-kind-preserved
loop-kind-preserved c =
    let size = frame_size c.args.form.format c.loop-kind.rest.now _ (sym c.in-Some.ensures) in
    let within = c.loop-kind.invariant.1 in
    let next : 5 + (length c.args.frames.now - length c.in-Some.behind.now)
    ≡ 5 + (length c.args.frames.now - length c.loop-kind.rest.now) + suc (size_bytes c.args.form.format)
    + length c.in-Some.payload.now =
    omega (arith, size, within) in (
      ap (λ at. fold noted c.take.new.self (own_records (place_at c.args.tree.now c.args.entry.now)
          (map (λ x. x.read) (placed_in c.args.form at 0 c.in-Some.behind.now)))) next
          ∙ noted_goes_on c.args.tree.now c.args.entry.now c.loop-kind.notes
          c.take.new.self _ _ c.in-Ok.record _ _
          c.in_ok-take-in-Ok.ensures
          (goes_on c.args.form _ c.loop-kind.rest.now _ c.in-Ok.record
          (sym c.in-Some.ensures) c.in-Ok.ensures.ok)
          c.loop-kind.invariant.0,
      omega (arith, size, within),
    )

pub returns : goal.returns
returns c =
    noted_ends c.args.tree.now c.args.entry.now c.loop-kind.notes _ _
    (no_frame c.args.form _ c.loop-kind.rest.now (sym c.in_default.ensures))
    c.loop-kind.invariant.0
    ∙ is_frames_notes c.args.form c.args.tree.now c.args.entry.now c.args.frames.now
