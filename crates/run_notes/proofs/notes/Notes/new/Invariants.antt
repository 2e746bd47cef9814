use Rattle.std.proofs.Common.{take}
use Rattle.std.specs.Map.{keys_of}
use Rattle.run_notes.specs.Told.{AreManagers}
use Rattle.run_notes.proofs.notes.Notes.new.Given as goal

abbrev pub invariant-loop-place : goal.invariant-loop-place
invariant-loop-place l = AreManagers (take l.place l.tree) (keys_of l.managers.entries)
