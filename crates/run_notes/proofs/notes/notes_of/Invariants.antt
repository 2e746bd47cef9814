use Rattle.std.proofs.Common.{map, take}
use Rattle.run_notes.specs.Told.{AreManagers, AreNotes, known}
use Rattle.run_notes.proofs.notes.notes_of.Given as goal

abbrev pub invariant-loop-entry : goal.invariant-loop-entry
invariant-loop-entry l =
    record {
      noted : AreNotes l.tree (take l.entry-index l.entries) (map (λ words. words.items) l.told.items);
      managers : AreManagers l.tree (known l.notes);
    }
