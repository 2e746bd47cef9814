-- The layers of a sheet.
use Rattle.std.specs.Prelude.{List, ◌++◌}
use Rattle.picture_shapes.specs.declared.shapes.Shape.{Shape}
use Rattle.picture_run.specs.declared.page.Words.{Words}
use Rattle.picture_run.specs.declared.sheet.Sheet.{Sheet}

-- the shapes below the arrows
abbrev pub below_shapes : Sheet → List Shape
below_shapes s = s.back.items ++ s.tree.items ++ s.bands.items ++ s.bars.items

-- all words, in their order, of which the last are still on the sheet
abbrev pub all_words : Words → List Shape → List Shape
all_words w last = (((w.openings.items ++ w.arrows.items) ++ w.records.items) ++ w.stubs.items) ++ last
