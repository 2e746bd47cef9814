use Rattle.std.proofs.Common.{◌≡◌, ◌+◌, ◌∷◌, [], ◌++◌, drop, map, sym, subst, ap, ◌∙◌}
use Rattle.std.proofs.lemmas.List.{at_drop_more, map-append}
use Rattle.protocol.specs.declared.names.Kind.TheVariants.{Coordinator}
use Rattle.protocol.specs.LogNames.{in_log}
use Rattle.log_text.specs.Made.{frame_record}
use Rattle.log_records.specs.Sights.{AreRecords}
use Rattle.log_writing.specs.Writes.{AreHeld, NotFramed}
use Rattle.coord_cases.proofs.Framed.{are_more, beyond_all, made_error, spells_more}
use Rattle.coord_cases.proofs.reopening.framed.Goals as goal

pub loop-record-preserved : goal.loop-record-preserved
loop-record-preserved c =
    let rest = drop (c.loop-record.record-index + 1) c.args.records.now in
    let next : drop c.loop-record.record-index c.args.records.now ≡ c.record-item.result ∷ rest =
    at_drop_more (λ rs. rs) c.args.records.now c.loop-record.record-index c.record-item.result
    c.loop-record-test.true ∙ ap (λ r. r ∷ rest) (sym c.record-item.is) in
    let made = c.in_ok-frame.ensures in
    let pushed : c.push_frame.new.frames.items ≡ c.loop-record.frames.items ++ c.in_ok-frame.frame
    ∷ [] = c.in_ok-push_frame.ensures {u = tt} in
    let spelled : map frame_record c.loop-record.frames.items
    ++ map (in_log c.args.parent) (c.record-item.result ∷ rest)
    ≡ map (in_log c.args.parent) c.args.records.now =
    ap (λ rs. map frame_record c.loop-record.frames.items ++ map (in_log c.args.parent) rs) (sym next)
    ∙ c.loop-record.invariant.0 in (
      ap (λ fs. map frame_record fs ++ map (in_log c.args.parent) rest) pushed
          ∙ spells_more frame_record c.args.parent c.loop-record.frames.items
          c.in_ok-frame.frame c.record-item.result rest _ spelled made.spells,
      subst (λ ls. AreRecords Coordinator ls) (sym (ap (map frame_record) pushed
          ∙ map-append frame_record c.loop-record.frames.items (c.in_ok-frame.frame ∷ [])))
          (are_more Coordinator _ _ c.loop-record.invariant.1 made.sound),
      λ held. (subst (AreHeld c.args.parent) next (c.loop-record.invariant.2 held)).1,
    )

pub returns-in_err-frame-clause-err : goal.returns-in_err-frame-clause-err
returns-in_err-frame-clause-err c =
    let rest = drop (c.loop-record.record-index + 1) c.args.records.now in
    let next : drop c.loop-record.record-index c.args.records.now ≡ c.record-item.result ∷ rest =
    at_drop_more (λ rs. rs) c.args.records.now c.loop-record.record-index c.record-item.result
    c.loop-record-test.true ∙ ap (λ r. r ∷ rest) (sym c.record-item.is) in
    made_error (NotFramed c.args.parent c.args.records.now) c.in_err-frame.field-0.0 c.from_residual.result
    c.from_residual.ensures.1
    (beyond_all c.args.parent c.args.records.now rest c.record-item.result c.in_err-frame.field-0.0
    (λ held. subst (AreHeld c.args.parent) next (c.loop-record.invariant.2 held)) c.in_err-frame.ensures.err)
