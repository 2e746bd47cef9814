-- Words and numbers in a picture's text.
use Rattle.std.specs.Prelude.{ℕ, nat_eq, if◌then◌else◌, List, [], ◌∷◌, ◌++◌, codes}
use Rattle.std.specs.List.{flat_map}
use Rattle.std.specs.Fmt.{decimal}

-- a word and a number
abbrev pub word_text : List ℕ → ℕ → List ℕ
word_text word n = word ++ decimal n

-- a word and two numbers, with a space between them
abbrev pub pair_text : List ℕ → ℕ → ℕ → List ℕ
pair_text word x y = word_text word x ++ word_text (codes " ") y

-- a byte between tags: what would begin or end a tag or a name is written by its name
abbrev pub escaped_byte : ℕ → List ℕ
escaped_byte b =
    if nat_eq b 38 then codes "&amp;"
    else if nat_eq b 60 then codes "&lt;"
    else if nat_eq b 62 then codes "&gt;"
    else b ∷ []

-- words between tags
unfoldable pub escaped : List ℕ → List ℕ
escaped words = flat_map escaped_byte words
