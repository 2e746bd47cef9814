-- Texts that are joined.
use Rattle.std.proofs.Common.{◌≡◌, ◌++◌, List, ℕ, append_assoc, ◌∙◌}

pub joined2 : (a b c : List ℕ) → (a ++ b) ++ c ≡ a ++ (b ++ c)
joined2 a b c = append_assoc a b c

pub joined3 : (a b c d : List ℕ) → ((a ++ b) ++ c) ++ d ≡ a ++ (b ++ (c ++ d))
joined3 a b c d = append_assoc (a ++ b) c d ∙ append_assoc a b (c ++ d)

pub joined4 : (a b c d e : List ℕ) → (((a ++ b) ++ c) ++ d) ++ e ≡ a ++ (b ++ (c ++ (d ++ e)))
joined4 a b c d e = append_assoc ((a ++ b) ++ c) d e ∙ joined3 a b c (d ++ e)
