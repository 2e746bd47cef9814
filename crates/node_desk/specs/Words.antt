-- What a desk says to a node, and what it tells of the answers.
use Rattle.std.specs.Prelude.{◌≡◌, ◌⊎◌, ◌-◌, ◌==◌, ℕ, Bool, not, List, [], ◌++◌, codes, decimal, drop, length, take, Option, Some, None, if◌then◌else◌}
use Rattle.std.specs.Str.{IsUtf8}
use Rattle.protocol.specs.declared.names.Case.{Case}
use Rattle.protocol.specs.declared.names.ProcessId.{ProcessId}
use Rattle.protocol.specs.declared.messages.Envelope.{Envelope}
use Rattle.protocol.specs.declared.messages.Message.{Message}
use Rattle.protocol.specs.declared.messages.Message.TheVariants.{Joined}
use Rattle.protocol.specs.Texts.{case_text}
use Rattle.script_words.specs.Steps.{same}
use Rattle.node_lines.specs.Lines.{line_at}
use Rattle.node_answers.specs.Texts.{ok_text}
use Rattle.node_desk.specs.declared.joining.Joining.{Joining}

-- Asking.

-- the line that asks about a case
abbrev pub ask_line : Case → List ℕ
ask_line c = codes "ask " ++ case_text c

-- the line that trims a log
abbrev pub trim_line : List ℕ
trim_line = codes "trim"

-- what an answer says before its `ok`; of a refusal nothing
abbrev pub messages_in : List ℕ → List ℕ
messages_in text =
    if same (drop (length text - 3) text) ok_text then take (length text - 3) text else []

-- an answer has a message before its `ok`
abbrev pub takes : List ℕ → Bool
takes text = not (length (messages_in text) == 0)

-- Joining.

-- who has joined, by the sender of a message and by the message
abbrev pub joining_from : ProcessId → Message → Option Joining
joining_from child (Joined c t) = Some (record { child = child; case = c; ticket = t })
joining_from child _ = None

abbrev pub joining_by : Envelope → Option Joining
joining_by e = joining_from e.from e.message

-- who has joined, by a message with its number, if there is one
abbrev pub joining_of : Option (ℕ × Envelope) → Option Joining
joining_of (Some sent) = joining_by sent.1
joining_of None = None

-- who has joined, by a text, over a tree with this root
abbrev pub joining_at : ProcessId → List ℕ → Option Joining
joining_at root line = joining_of (line_at root line)

-- who has joined, by a line, if it is a text
abbrev pub JoinsByLine : ProcessId → List ℕ → Option Joining → Type 0
JoinsByLine root line j = (IsUtf8 line × (j ≡ joining_at root line)) ⊎ ((IsUtf8 line → ⊥) × (j ≡ None))

-- the case of the child
abbrev pub child_case : Joining → Case
child_case j = record { txn = j.case.txn; ticket = Some j.ticket }

-- the line that asks whether the case still takes the child
abbrev pub join_line : Joining → List ℕ
join_line j = codes "join " ++ case_text j.case ++ codes " " ++ decimal j.child.0

-- the line that tells that the child has joined
abbrev pub joined_line : Joining → List ℕ
joined_line j = codes "joined " ++ case_text j.case ++ codes " " ++ decimal j.child.0 ++ codes " "
    ++ case_text (child_case j) ++ codes "\n"
