-- The strokes of a picture that are no deliveries: what was asked, what the application was told, messages
-- where they were sent, and the event that was refused.
use Rattle.std.specs.Prelude.{ℕ, Option, None, Some, List, [], ◌∷◌, ◌++◌, slice_get}
use Rattle.std.specs.List.{flat_map}
use Rattle.protocol.specs.declared.events.JournalEntry.{JournalEntry}
use Rattle.protocol.specs.declared.events.Event.{Event}
use Rattle.protocol.specs.declared.events.Happening.{Happening}
use Rattle.protocol_words.specs.Variants.{ActInput, Handles}
use Rattle.protocol.specs.declared.events.StepError.{StepError}
use Rattle.protocol.specs.Texts.{told_lines}
use Rattle.tree_script.specs.Spellings.{act_text, event_text}

-- the line of the act that a step was asked, if it was asked one
abbrev pub asked_lines : Happening → List (List ℕ)
asked_lines (Handles (ActInput act)) = act_text act ∷ []
asked_lines h = []

-- the titles of a step's strokes: what it was asked, and what it told the application
abbrev pub step_lines : JournalEntry → List (List ℕ)
step_lines e = asked_lines e.step.happening ++ told_lines e.reaction.told

-- those of all steps, in their order
unfoldable pub steps_lines : List JournalEntry → List (List ℕ)
steps_lines es = flat_map step_lines es

-- the title of the stroke of the event that was refused, if one was
abbrev pub refused_lines : Option Event → List (List ℕ)
refused_lines None = []
refused_lines (Some event) = event_text event ∷ []

-- the event that was refused: the one at this place, if one was
abbrev pub refused_in : List Event → Option (ℕ × StepError) → Option Event
refused_in events None = None
refused_in events (Some refusal) = slice_get events refusal.0
