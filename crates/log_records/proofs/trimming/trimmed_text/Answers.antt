use Rattle.std.proofs.Common.{◌≡◌, ◌∙◌, ◌++◌, ap, sym}
use Rattle.std.proofs.lemmas.List.{length-map}
use Rattle.log_text.specs.Forms.{header}
use Rattle.log_rules.specs.trim.Trims.{front_of_trim}
use Rattle.log_records.specs.Texts.{records_in}
use Rattle.log_records.specs.Trimming.{Holds}
use Rattle.log_records.proofs.Trims.{front_held, front_text, text_of_trim, trim_counted}
use Rattle.log_records.proofs.trimming.trimmed_text.Goals as goal

pub returns-clause-text : goal.returns-clause-text
returns-clause-text c =
    let opened = c.in_ok-opened.opened.now in
    let frames = c.in_ok-kept.kept.frames.items in
    let front : c.in_ok-text.text.items ≡ (header c.args.form.format ++ opened) ++ frames =
    c.in_ok-text.ensures ∙ ap (λ bs. (header c.args.form.format ++ opened) ++ bs) c.deref.ensures.value in
    let kept : Holds c.args.form (opened ++ frames)
    (front_of_trim (records_in c.args.form 0 c.args.bytes.now)) =
    front_held _ _ _ opened frames c.in_ok-opened.ensures.opened c.in_ok-opened.ensures.lives
    c.in_ok-kept.ensures.held in
    text_of_trim _ _ (opened ++ frames) _ _
    (front_text _ _ _ opened frames _ front c.in_ok-push_frames.ensures) kept c.requires.records

pub returns-clause-count : goal.returns-clause-count
returns-clause-count c = trim_counted c.args.form _ _ _ _ _ _ _ c.in_ok-opened.ensures.opened
    c.in_ok-opened.ensures.lives
    c.opened_count.ensures c.in_ok-kept.ensures.count (sym (length-map _ _))
