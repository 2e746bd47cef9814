use Rattle.std.proofs.Common.{rules, ◌≡◌, ◌∙◌, Some, ap, sym, unwrap_or}
use Rattle.std.specs.Map.{lookup, set_value}
use Rattle.indexmap.specs.IndexMap.{insert_entry}
use Rattle.coord_records.specs.Readings.{same}
use Rattle.coord_records.proofs.CaseTables.{put_there}
use Rattle.audit_cases.specs.Notes.{no_note, note_after}
use Rattle.audit_cases.proofs.notes.note_of.Goals as goal

pub returns-in_ok-note-in-Some : goal.returns-in_ok-note-in-Some
returns-in_ok-note-in-Some c =
    let had : lookup (same c.args.case) c.args.cases.now.entries ≡ Some c.in-Some.note.now = search rules in
    let written : (c.get_mut.follows.lender c.note.new.self).entries
    ≡ set_value (same c.args.case) c.args.cases.now.entries c.note.new.self = search rules in
    written ∙ put_there c.args.case c.in-Some.note.now c.note.new.self c.args.cases.now.entries had
    ∙ ap (insert_entry same c.args.cases.now.entries c.args.case)
    (c.in_ok-note-in-Some.ensures ∙ ap (λ o. note_after (unwrap_or o no_note) c.args.record.now) (sym had))
