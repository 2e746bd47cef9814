-- The texts of some lines.
use Rattle.std.proofs.Common.{◌≡◌, ℕ, List, [], length, get_or, map, Bor}
use Rattle.std.proofs.lemmas.List.{length-map}
use Rattle.std.proofs.Math.ListN.{get_or-map}

-- the texts of some lines
abbrev pub texts : List (Bor (List ℕ)) → List (List ℕ)
texts lines = map (λ s. s.now) lines

-- a line that is not there
abbrev pub blank : Bor (List ℕ)
blank = record { ref_ptr = (0, 0); now = [] }

pub text_at : (lines : List (Bor (List ℕ))) (i : ℕ) → get_or (texts lines) i [] ≡ (get_or lines i blank).now
text_at lines i = get_or-map (λ (s : Bor (List ℕ)). s.now) lines i blank

pub long : (lines : List (Bor (List ℕ))) → length (texts lines) ≡ length lines
long lines = length-map lines (λ (s : Bor (List ℕ)). s.now)
