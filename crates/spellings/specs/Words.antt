-- Cutting a text in two.
use Rattle.std.specs.Prelude.{ℕ, List, length, Option, Some, None, nat_lt, ◌==◌, if◌then◌else◌}
use Rattle.std.specs.List.{position_or_len, before_first, after_first}

-- the parts before and after the first such byte
abbrev pub cut_at : ℕ → List ℕ → Option (List ℕ × List ℕ)
cut_at c bs =
    if nat_lt (position_or_len (λ b. b == c) bs) (length bs)
    then Some (before_first (λ b. b == c) bs, after_first (λ b. b == c) bs) else None
