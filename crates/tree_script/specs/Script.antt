-- Reading a script line by line.
use Rattle.std.specs.Prelude.{ℕ, ◌+◌, List, [], ◌∷◌, ◌++◌, Option, Some, None, Result, Ok, Err, if◌then◌else◌}
use Rattle.script_words.specs.Lines.{is_skipped}
use Rattle.protocol.specs.declared.events.Event.{Event}

-- these events, and then those that are read
abbrev pub with_front : List Event → Result (List Event) ℕ → Result (List Event) ℕ
with_front es (Ok more) = Ok (es ++ more)
with_front es (Err n) = Err n

-- the line's event and those of the lines after it, or the line's number
abbrev pub line_then : ℕ → Option Event → Result (List Event) ℕ → Result (List Event) ℕ
line_then n None more = Err n
line_then n (Some e) more = with_front (e ∷ []) more

-- the events of lines, each read so, the first of which has this number; or the number of the first line that
-- is not an event
unfoldable pub events_at : (List ℕ → Option Event) → ℕ → List (List ℕ) → Result (List Event) ℕ
events_at read n [] = Ok []
events_at read n (line ∷ lines) =
    if is_skipped line then events_at read (n + 1) lines
    else line_then n (read line) (events_at read (n + 1) lines)
