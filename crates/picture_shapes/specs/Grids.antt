-- Where the lines of processes and the rows of a picture are.
use Rattle.std.specs.Prelude.{ℕ, ◌+◌, ◌*◌}
use Rattle.picture_shapes.specs.declared.frame.Grid.{Grid}

-- the line of the process at a place: lines are equally far from one another
abbrev pub line_at : Grid → ℕ → ℕ
line_at g place = g.root + g.gap * place

-- the middle of a row: rows are 30 pixels high
abbrev pub row_at : Grid → ℕ → ℕ
row_at g row = g.top + 30 * row
