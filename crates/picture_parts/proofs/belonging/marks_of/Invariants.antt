use Rattle.std.proofs.Common.{◌≡◌, take}
use Rattle.tree_world.specs.Worlds.{state}
use Rattle.picture_parts.specs.Belonging.{TookPart, marks_of}
use Rattle.picture_parts.proofs.belonging.marks_of.Given as goal

abbrev pub invariant-loop-place : goal.invariant-loop-place
invariant-loop-place l =
    record {
      marked : l.marks.items ≡ marks_of l.choice (take l.place (state l.world).entries);
      took : TookPart l.choice l.marks.items l.parts.items;
    }
