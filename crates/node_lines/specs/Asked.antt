-- What a line asks of a node.
use Rattle.std.specs.Prelude.{ℕ, ◌==◌, List, codes, length, Option, Some, None, if◌then◌else◌}
use Rattle.spellings.specs.Words.{cut_at}
use Rattle.protocol.specs.declared.names.ProcessId.{ProcessId}
use Rattle.protocol.specs.declared.messages.Envelope.{Envelope}
use Rattle.protocol.specs.declared.events.Event.{Event}
use Rattle.protocol.specs.declared.events.Event.TheVariants.{Deliver, Settle, Restart, Trim as TrimOf}
use Rattle.protocol_words.specs.Variants.{ActOf}
use Rattle.script_words.specs.Lines.{is_skipped}
use Rattle.script_words.specs.Steps.{◌>>=◌, same}
use Rattle.tree_script.specs.Names.{case_at, txn_at}
use Rattle.tree_script.specs.Events.{event_at}
use Rattle.node_lines.specs.Lines.{line_at}
use Rattle.node_lines.specs.declared.asked.NodeLine.{NodeLine}
use Rattle.node_lines.specs.declared.asked.NodeLine.TheVariants.{Nothing, Act, Message, Trim, Doubt, Outcome, Again, Resolve, Status, Log, Data, Help, End, Unknown}

-- of the events of a script a node is asked for acts alone
abbrev pub asked_by_event : Option Event → NodeLine
asked_by_event (Some (ActOf a)) = Act a
asked_by_event _ = Unknown

-- an act, or nothing that a node knows
abbrev pub act_asked : ProcessId → List ℕ → NodeLine
act_asked root line = asked_by_event (event_at root line)

-- a message, or what else is asked
abbrev pub asked_by_line : Option (ℕ × Envelope) → NodeLine → NodeLine
asked_by_line (Some sent) other = Message sent.0 sent.1
asked_by_line None other = other

-- a message or an act
abbrev pub sent_asked : ProcessId → List ℕ → NodeLine
sent_asked root line = asked_by_line (line_at root line) (act_asked root line)

-- the outcome of the transaction of this name
abbrev pub outcome_asked : ProcessId → List ℕ → Option NodeLine
outcome_asked root name = txn_at root name >>= λ x. Some (Outcome x)

-- that the decision of the case of this name is told once more
abbrev pub again_asked : ProcessId → List ℕ → Option NodeLine
again_asked root name = case_at root name >>= λ c. Some (Again c)

-- what is to be done with a branch of this name, if there is one
abbrev pub resolve_asked : List ℕ → Option NodeLine
resolve_asked name = if length name == 0 then None else Some (Resolve name)

-- what is asked about this name, by the word before it
abbrev pub asked_of_name : ProcessId → List ℕ → List ℕ → Option NodeLine
asked_of_name root word name =
    if same word (codes "outcome") then outcome_asked root name
    else if same word (codes "again") then again_asked root name
    else if same word (codes "resolve") then resolve_asked name
    else None

-- what a line asks that is a word and a name
unfoldable pub named_asked : ProcessId → List ℕ → Option NodeLine
named_asked root line = cut_at 32 line >>= λ p. asked_of_name root p.0 p.1

-- that, or what else is asked
abbrev pub asked_or : Option NodeLine → NodeLine → NodeLine
asked_or (Some a) other = a
asked_or None other = other

-- what a line asks that is no word alone
abbrev pub longer_asked : ProcessId → List ℕ → NodeLine
longer_asked root line = asked_or (named_asked root line) (sent_asked root line)

-- the line by which a node is asked to end
abbrev pub end_word : List ℕ
end_word = codes "end"

-- what a line asks of a node, over a tree with this root
unfoldable pub asked_at : ProcessId → List ℕ → NodeLine
asked_at root line =
    if is_skipped line then Nothing
    else if same line (codes "trim") then Trim
    else if same line (codes "doubt") then Doubt
    else if same line (codes "status") then Status
    else if same line (codes "log") then Log
    else if same line (codes "data") then Data
    else if same line (codes "help") then Help
    else if same line end_word then End
    else longer_asked root line
