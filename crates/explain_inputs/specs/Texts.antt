-- A line that is shown.
use Rattle.std.specs.Prelude.{ℕ, List, [], ◌∷◌, ◌++◌, codes, decimal}
use Rattle.std.specs.Fmt.{take_chars}

-- a line of this number, cut at 80 characters
abbrev pub line_text : ℕ → List ℕ → List ℕ
line_text number line = codes "line " ++ (decimal number ++ (codes ": " ++ (take_chars 80 line ++ 10 ∷ [])))
