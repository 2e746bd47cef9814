use Rattle.run_notes.specs.Told.{known, nothing}
use Rattle.run_notes.proofs.Knowing.{managers_stay}
use Rattle.run_notes.proofs.Telling.{notes_more}
use Rattle.run_notes.proofs.notes.notes_of.Goals as goal

pub loop-entry-init : goal.loop-entry-init
loop-entry-init c = record {
  noted = rw c.new-told.ensures.items nothing;
  managers = c.in_ok-notes.ensures;
}

pub loop-entry-preserved : goal.loop-entry-preserved
loop-entry-preserved c = record {
  noted =
      notes_more c.args.tree.now c.args.entries.now c.loop-entry.entry-index c.entry-item.result
      c.loop-entry.told.items c.push.new.self.items c.in_ok-note_of.field-0 c.loop-entry.notes
      c.loop-entry-test.true c.entry-item.is c.loop-entry.invariant.noted c.loop-entry.invariant.managers
      c.in_ok-note_of.ensures.note c.in_ok-push.ensures.items;
  managers =
      managers_stay c.args.tree.now (known c.loop-entry.notes) (known c.note_of.new.notes)
      c.note_of.ensures.known c.loop-entry.invariant.managers;
}
