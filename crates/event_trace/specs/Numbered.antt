-- Lines with a number before them, and the lines of steps.
use Rattle.std.specs.Prelude.{ℕ, Bool, true, false, ◌==◌, ◌+◌, List, [], ◌∷◌, ◌++◌, codes, drop, length}
use Rattle.std.specs.Fmt.{decimal}
use Rattle.protocol.specs.declared.events.JournalEntry.{JournalEntry}
use Rattle.trace_lines.specs.Trace.{entries_text}
use Rattle.tree_state.specs.Worlds.{WorldState}

-- what is before a line with this number
abbrev pub number_text : ℕ → List ℕ
number_text n = decimal n ++ codes " "

-- a byte of a line with this number; where the line begins, the number first
abbrev pub byte_text : Bool → ℕ → ℕ → List ℕ
byte_text true n b = number_text n ++ b ∷ []
byte_text false n b = b ∷ []

-- bytes of lines with this number before each; whether a line begins here
unfoldable pub numbered_on : Bool → ℕ → List ℕ → List ℕ
numbered_on begins n [] = []
numbered_on begins n (b ∷ bs) = byte_text begins n b ++ numbered_on (b == 10) n bs

-- lines, each with this number before it
abbrev pub numbered : ℕ → List ℕ → List ℕ
numbered n lines = numbered_on true n lines

-- how many messages are sent after these steps, if N were before
unfoldable pub sent_after : ℕ → List JournalEntry → ℕ
sent_after n [] = n
sent_after n (e ∷ es) = sent_after (n + length e.reaction.messages) es

-- the lines of the steps that one state has more than the other, before which N messages were sent
abbrev pub steps_text : ℕ → WorldState → WorldState → List ℕ
steps_text sent old new = entries_text sent (drop (length old.entries) new.entries)
