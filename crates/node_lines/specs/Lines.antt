-- Reading the line of a message from left to right.
use Rattle.std.specs.Prelude.{ℕ, List, Option, Some}
use Rattle.std.specs.Borrow.{Bor}
use Rattle.spellings.specs.Numerals.{number_at}
use Rattle.spellings.specs.Words.{cut_at}
use Rattle.protocol.specs.declared.names.ProcessId.{ProcessId}
use Rattle.protocol.specs.declared.messages.Envelope.{Envelope}
use Rattle.script_words.specs.Steps.{◌>>=◌}
use Rattle.tree_script.specs.Names.{after_at, process_at}
use Rattle.node_lines.specs.Messages.{message_at}

-- a sender and a receiver, with `->` between them
unfoldable pub way_at : List ℕ → Option (ProcessId × ProcessId)
way_at word = do
  p ← cut_at 45 word
  from ← process_at p.0
  rest ← after_at 62 p.1
  to ← process_at rest
  Some (from, to)

-- what is before a message's text, and that text: its number, its sender and its receiver
unfoldable pub head_at : List ℕ → Option (ℕ × (ProcessId × ProcessId) × List ℕ)
head_at line = do
  p ← cut_at 32 line
  number ← number_at p.0
  q ← cut_at 32 p.1
  way ← way_at q.0
  Some (number, way, q.1)

-- the number, the sender and the receiver of a message, and its text, as they are read
abbrev pub head_view : ℕ × (ProcessId × ProcessId) × Bor (List ℕ) → ℕ × (ProcessId × ProcessId) × List ℕ
head_view (number, way, text) = (number, way, text.now)

-- a message with its number, its sender and its receiver, by what is before its text, and by that text
abbrev pub with_head : ProcessId → ℕ × (ProcessId × ProcessId) × List ℕ → Option (ℕ × Envelope)
with_head root (number, way, text) =
    message_at root text >>= λ m. Some (number, record { from = way.0; to = way.1; message = m })

-- the message of a line with its number, its sender and its receiver, over a tree with this root
abbrev pub line_at : ProcessId → List ℕ → Option (ℕ × Envelope)
line_at root line = head_at line >>= λ h. with_head root h
