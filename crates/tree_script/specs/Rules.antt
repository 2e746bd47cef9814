-- Where the tree text of a script ends: before the first line that is just three dashes.
use Rattle.std.specs.Prelude.{ℕ, List, [], ◌∷◌, codes, Bool, ◌||◌, ◌==◌, Option, Some, None, option_map, if◌then◌else◌}
use Rattle.std.specs.List.{slice_split}
use Rattle.script_words.specs.Steps.{same}

-- the pieces of a text between its line feeds
abbrev pub pieces : List ℕ → List (List ℕ)
pieces text = slice_split (λ b. b == 10) text

-- three dashes, and perhaps a carriage return, before a line feed
abbrev pub is_rule : List ℕ → Bool
is_rule line = same line (codes "---") || same line (codes "---\r")

-- the last piece of an input, which may be the line of three dashes
abbrev pub last_rule : List ℕ → Option (List (List ℕ) × List (List ℕ))
last_rule piece = if same piece (codes "---") then Some ([], []) else None

-- the pieces before and after the first line of three dashes, a piece put in front
abbrev pub rule_or : List ℕ → List (List ℕ) → Option (List (List ℕ) × List (List ℕ))
    → Option (List (List ℕ) × List (List ℕ))
rule_or piece more found = if is_rule piece then Some ([], more)
    else option_map (λ p. (piece ∷ p.0, p.1)) found

-- the pieces before the first line of three dashes, and those after it
unfoldable pub around_rule : List (List ℕ) → Option (List (List ℕ) × List (List ℕ))
around_rule [] = None
around_rule (piece ∷ []) = last_rule piece
around_rule (piece ∷ next ∷ more) = rule_or piece (next ∷ more) (around_rule (next ∷ more))
