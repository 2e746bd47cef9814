-- The words of a line.
use Rattle.std.specs.Prelude.{◌≡◌, ℕ, ◌<◌, ◌^◌, ◌==◌, List, Bool, true, ◌||◌, codes, Some}
use Rattle.std.specs.List.{slice_split}
use Rattle.script_words.specs.Lines.{is_skipped}
use Rattle.script_words.specs.Steps.{same}
use Rattle.spellings.specs.Numerals.{number_at}
use Rattle.xa_xid.specs.Text.{xid_text}
use Rattle.xa_xid.specs.Xids.{IsXid}
use Rattle.xa_xid.specs.declared.xid.Xid.{Xid}

-- what is between the spaces of a line
abbrev pub words_in : List ℕ → List (List ℕ)
words_in line = slice_split (λ b. b == 32) line

-- a line that is passed over: empty, a remark, or the last line of a report
abbrev pub is_blank : List ℕ → Bool
is_blank line = is_skipped line || same line (codes "end")

-- a word is this one
abbrev pub Is : List ℕ → List ℕ → Type 0
Is word this = same word this ≡ true

-- a thread or a count: a number below 2^32 in decimal, without leading zeros
abbrev pub IsNumber : List ℕ → ℕ → Type 0
IsNumber w n = (number_at w ≡ Some n) × (n < 2 ^ 32)

-- the name of a branch, or the null XID
abbrev pub IsName : List ℕ → Xid → Type 0
IsName w x = IsXid x × (w ≡ xid_text x)
