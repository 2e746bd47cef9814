-- The text of a trace.
use Rattle.std.specs.Prelude.{ℕ, ◌+◌, List, [], ◌∷◌, ◌++◌, codes, length}
use Rattle.std.specs.List.{flat_map}
use Rattle.std.specs.Fmt.{decimal}
use Rattle.protocol.specs.declared.names.Case.{Case}
use Rattle.protocol.specs.declared.messages.Envelope.{Envelope}
use Rattle.protocol.specs.declared.events.JournalEntry.{JournalEntry}
use Rattle.protocol.specs.Texts.{case_text, reaction_lines, mixed_word, unreported_word}
use Rattle.protocol.specs.declared.messages.Finding.{Finding}

-- a number, after a space
abbrev pub number_word : ℕ → List ℕ
number_word n = codes " " ++ decimal n

-- the name of a case, after a space
abbrev pub case_word : Case → List ℕ
case_word c = codes " " ++ case_text c

-- a message's number, its sender and its receiver, before its word
unfoldable pub way_text : ℕ → Envelope → List ℕ
way_text n e = decimal n ++ codes " " ++ decimal e.from.0 ++ codes "->" ++ decimal e.to.0 ++ codes " "

-- the tickets that findings report as mixed, each after a space
abbrev pub mixed_words : List Finding → List ℕ
mixed_words fs = flat_map mixed_word fs

-- the tickets that they report as unreported, each after a space
abbrev pub unreported_words : List Finding → List ℕ
unreported_words fs = flat_map unreported_word fs

-- a line with its end
abbrev pub line_text : List ℕ → List ℕ
line_text line = line ++ 10 ∷ []

-- lines, each with its end
abbrev pub lines_text : List (List ℕ) → List ℕ
lines_text lines = flat_map line_text lines

-- the text of an entry before which N messages were sent
unfoldable pub entry_text : ℕ → JournalEntry → List ℕ
entry_text sent e = lines_text (reaction_lines e.step.process.0 sent e.reaction)

-- the text of these entries, before which N messages were sent
abbrev pub entries_text : ℕ → List JournalEntry → List ℕ
entries_text sent [] = []
entries_text sent (e ∷ es) = entry_text sent e ++ entries_text (sent + length e.reaction.messages) es
