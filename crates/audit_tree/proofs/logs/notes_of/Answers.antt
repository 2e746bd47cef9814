use Rattle.std.proofs.Common.{◌∙◌, ap, drop, subst, sym}
use Rattle.log_records.specs.Openings.{IsLogFound}
use Rattle.audit_tree.specs.Tables.{NotesLog, frames_notes}
use Rattle.audit_tree.proofs.Passes.{empty_notes, sound_notes}
use Rattle.audit_tree.proofs.logs.notes_of.Goals as goal

pub returns-in-Ok-Empty-clause-ok : goal.returns-in-Ok-Empty-clause-ok
returns-in-Ok-Empty-clause-ok c =
    subst (λ t. NotesLog c.args.tree.now c.args.entry.now c.args.bytes.now t) (sym c.new.ensures)
    (empty_notes c.args.tree.now c.args.entry.now c.args.bytes.now
    c.in-Ok-Empty.field-0
    (subst (λ f. IsLogFound f c.args.bytes.now c.in-Ok-Empty.field-0) c.of_bytes-form.ensures
    c.in-Ok-Empty.ensures.ok)
    c.in-Ok-Empty.field-0-is)

pub returns-in_ok-noted-in-Ok-Sound-clause-ok : goal.returns-in_ok-noted-in-Ok-Sound-clause-ok
returns-in_ok-noted-in-Ok-Sound-clause-ok c =
    sound_notes c.args.tree.now c.args.entry.now c.args.bytes.now
    c.in-Ok-Sound.field-0 c.in-Ok-Sound.field-0-0
    c.in_ok-noted-in-Ok-Sound.field-0
    (subst (λ f. IsLogFound f c.args.bytes.now c.in-Ok-Sound.field-0) c.of_bytes-form.ensures
    c.in-Ok-Sound.ensures.ok)
    c.in-Ok-Sound.field-0-is
    (c.in_ok-noted-in-Ok-Sound.ensures
    ∙ ap (frames_notes c.of_bytes-form.result c.args.tree.now c.args.entry.now) c.split_at.ensures.back
    ∙ ap (λ f. frames_notes f c.args.tree.now c.args.entry.now (drop 5 c.args.bytes.now))
    c.of_bytes-form.ensures)
