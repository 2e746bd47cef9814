use Rattle.std.proofs.Common.{◌∙◌, sym}
use Rattle.tree_world.specs.Worlds.{state}
use Rattle.picture_parts.proofs.Marking.{marked_more, nobody_took, none_marked}
use Rattle.picture_parts.proofs.belonging.marks_of.Goals as goal

pub loop-place-init : goal.loop-place-init
loop-place-init c = record {
  marked = none_marked c.args.choice.now c.new-marks.result.items c.new-marks.ensures.items;
  took =
      nobody_took c.args.choice.now c.new-marks.result.items c.new-parts.result.items
      c.new-marks.ensures.items
      c.new-parts.ensures.items;
}

pub loop-place-preserved : goal.loop-place-preserved
loop-place-preserved c = record {
  marked =
      marked_more c.args.choice.now (state c.args.world.now).entries c.loop-place.place c.in-Some.entry
      c.loop-place.marks.items c.push_mark.new.marks.items (sym c.in_ok-entry.ensures ∙ c.in-Some.is)
      c.loop-place.invariant.marked c.in_ok-push_mark.ensures.marked;
  took = c.in_ok-push_mark.ensures.took;
}
