-- Which answers the words of a line spell.
use Rattle.std.specs.Prelude.{◌≡◌, ℕ, Bool, ◌||◌, true, List, [], ◌∷◌, length, codes, Some}
use Rattle.script_words.specs.Steps.{same}
use Rattle.spellings.specs.Numerals.{number_at}
use Rattle.xa_codes.specs.Codes.{code_name}
use Rattle.xa_xid.specs.declared.xid.Xid.{Xid}
use Rattle.judge_script.specs.declared.answers.SaidAnswer.{SaidAnswer}
use Rattle.judge_script.specs.declared.answers.SaidAnswer.TheVariants.{Code, Given, Found, Done, Refused, Told, Hung}
use Rattle.judge_script.specs.Words.{Is, IsName}

-- words spell XIDs, each one
abbrev pub AreNames : List (List ℕ) → List Xid → Type 0
AreNames [] [] = Unit {0}
AreNames (w ∷ ws) (x ∷ xs) = IsName w x × AreNames ws xs
AreNames _ _ = ⊥

-- a word begins a refusal without a code of XA
abbrev pub is_refusal : List ℕ → Bool
is_refusal w = same w (codes "refused") || same w (codes "threw") || same w (codes "XA")

-- a word begins the answer of a restart or a trim
abbrev pub is_told : List ℕ → Bool
is_told w = same w (codes "boot") || same w (codes "trim")

-- words spell what a read gave
abbrev pub IsReadAnswer : List ℕ → List (List ℕ) → List ℕ → Type 0
IsReadAnswer w (x ∷ []) v = Is w (codes "=") × (x ≡ v)
IsReadAnswer w _ v = ⊥

-- words spell the answer of a restart or a trim
abbrev pub IsRestartAnswer : List ℕ → List (List ℕ) → Type 0
IsRestartAnswer w (x ∷ []) = is_told w ≡ true
IsRestartAnswer w _ = ⊥

-- a word and those after it spell an answer
abbrev pub SaysBy : List ℕ → List (List ℕ) → SaidAnswer → Type 0
SaysBy w ws (Code c) = (ws ≡ []) × Is w (code_name c)
SaysBy w ws (Given xids) = (number_at w ≡ Some (length ws)) × AreNames ws xids.items
SaysBy w ws (Found v) = IsReadAnswer w ws v.now
SaysBy w ws Done = (ws ≡ []) × Is w (codes "done")
SaysBy w ws Refused = is_refusal w ≡ true
SaysBy w ws Told = IsRestartAnswer w ws
SaysBy w ws Hung = (ws ≡ []) × Is w (codes "hung")

-- an answer gives branches
abbrev pub IsGiven : SaidAnswer → Type 0
IsGiven (Given xids) = Unit {0}
IsGiven _ = ⊥

-- words spell an answer
abbrev pub SaysAnswer : List (List ℕ) → SaidAnswer → Type 0
SaysAnswer [] s = ⊥
SaysAnswer (w ∷ ws) s = SaysBy w ws s
