-- The lines of a script.
use Rattle.std.specs.Prelude.{ℕ, List, length, Bool, ◌||◌, ◌==◌, not, slice_index, count_by}

-- an empty line, or a remark
abbrev pub is_skipped : List ℕ → Bool
is_skipped line = (length line == 0) || (slice_index line 0 == 35)

-- how many lines are not skipped
unfoldable pub asked_in : List (List ℕ) → ℕ
asked_in lines = count_by (λ line. not (is_skipped line)) lines
