use Rattle.std.proofs.Common.{◌∙◌, ◌++◌, ap, sym, append-nil, append_assoc, ◌∷◌, []}
use Rattle.log_records.specs.Texts.{and_records, records_in}
use Rattle.log_records.proofs.Frames.{no_frame, step}
use Rattle.log_records.proofs.log.records_in.Goals as goal

pub returns-in-Err-Malformed : goal.returns-in-Err-Malformed
returns-in-Err-Malformed c =
    let e = step c.args.form c.loop-frame_kind.rest.now _ (sym c.in-Some.ensures) in
    let none = c.in-Err-Malformed.ensures.err c.in-Err-Malformed.field-0-is in
    sym (c.loop-frame_kind.invariant ∙ ap (λ t. c.loop-frame_kind.records.items ++ t)
    (e ∙ ap (λ o. and_records o (records_in c.args.form 0 c.in-Some.behind.now)) none)
    ∙ append-nil c.loop-frame_kind.records.items)

pub loop-frame_kind-preserved : goal.loop-frame_kind-preserved
loop-frame_kind-preserved c =
    let e = step c.args.form c.loop-frame_kind.rest.now _ (sym c.in-Some.ensures) in
    c.loop-frame_kind.invariant
    ∙ ap (λ t. c.loop-frame_kind.records.items ++ t)
    (e ∙ ap (λ o. and_records o (records_in c.args.form 0 c.in-Some.behind.now)) c.in-Ok.ensures.ok)
    ∙ sym (append_assoc c.loop-frame_kind.records.items (c.in-Ok.«record» ∷ [])
    (records_in c.args.form 0 c.in-Some.behind.now))
    ∙ ap (λ t. t ++ records_in c.args.form 0 c.in-Some.behind.now) (sym c.in_ok-push-in-Ok.ensures.items)

pub returns : goal.returns
returns c = sym (c.loop-frame_kind.invariant ∙ ap (λ t. c.loop-frame_kind.records.items ++ t)
    (no_frame c.args.form c.loop-frame_kind.rest.now (sym c.in_default.ensures))
    ∙ append-nil c.loop-frame_kind.records.items)
