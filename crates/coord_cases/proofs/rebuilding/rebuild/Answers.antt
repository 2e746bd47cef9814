use Rattle.std.proofs.Common.{◌∙◌, List, ap, map, refl, subst}
use Rattle.protocol.specs.declared.records.LogRecord.{LogRecord}
use Rattle.protocol.specs.declared.trees.TreeProcess.{TreeProcess}
use Rattle.protocol.specs.LogNames.{in_log, own_records}
use Rattle.protocol.specs.Nodes.{logged_of}
use Rattle.protocol.specs.Restarts.{forced_all}
use Rattle.coord_records.specs.Readings.{ReadLog, place_below}
use Rattle.coord_records.specs.Remembered.{RemembersCases}
use Rattle.coord_cases.specs.Restores.{CasesNotRebuilt, RestoresAll}
use Rattle.coord_cases.proofs.Framed.{made_error}
use Rattle.coord_cases.proofs.Rebuilds.{not_framed, not_planned, rebuilds}
use Rattle.coord_cases.proofs.rebuilding.rebuild.Goals as goal

pub returns-clause-ok : goal.returns-clause-ok
returns-clause-ok c = λ tree ls k.
    let planned = c.in_ok-appended.ensures.ok (own_records (place_below c.args.me c.args.parent tree) ls) k in
    let framed = c.in_ok-frames.ensures in
    rebuilds c.args.me c.args.parent tree ls _ _ planned.appended planned.remembered
    _ c.in_ok-written.written c.in_ok-cases.messages
    (c.boot-boot.ensures ∙ ap (λ (s : ReadLog). s.boot) c.reading.ensures)
    (framed.spells ∙ ap (map (in_log c.args.parent)) c.deref-2.ensures.value) framed.sound
    (c.in_ok-written.ensures {u = tt} ∙ ap (λ rs. map logged_of (forced_all rs)) c.deref.ensures.value)
    (subst (λ (s : ReadLog). RestoresAll c.args.me c.args.parent s c.in_ok-cases.cases c.in_ok-cases.messages)
    c.reading-2.ensures (c.in_ok-cases.ensures {u = tt})) refl c.forget.ensures

pub returns-in_err-appended-clause-err : goal.returns-in_err-appended-clause-err
returns-in_err-appended-clause-err c =
    made_error (λ e. (tree : List TreeProcess) (ls : List LogRecord)
    → RemembersCases (own_records (place_below c.args.me c.args.parent tree) ls) c.args.remembered
    → CasesNotRebuilt (place_below c.args.me c.args.parent tree) ls e)
    c.in_err-appended.field-0.0 c.from_residual.result c.from_residual.ensures.1
    (λ tree ls k. not_planned c.args.me c.args.parent tree ls c.in_err-appended.field-0.0
    (c.in_err-appended.ensures.err (own_records (place_below c.args.me c.args.parent tree) ls) k))

pub returns-in_err-frames-clause-err : goal.returns-in_err-frames-clause-err
returns-in_err-frames-clause-err c =
    made_error (λ e. (tree : List TreeProcess) (ls : List LogRecord)
    → RemembersCases (own_records (place_below c.args.me c.args.parent tree) ls) c.args.remembered
    → CasesNotRebuilt (place_below c.args.me c.args.parent tree) ls e)
    c.in_err-frames.field-0.0 c.from_residual-in_err-frames.result c.from_residual-in_err-frames.ensures.1
    (λ tree ls k.
    let planned = c.in_ok-appended.ensures.ok (own_records (place_below c.args.me c.args.parent tree) ls) k
    in
    not_framed c.args.me c.args.parent tree ls c.deref-2.result.now
    c.in_err-frames.field-0.0 (c.deref-2.ensures.value ∙ planned.appended) c.in_err-frames.ensures.err)
