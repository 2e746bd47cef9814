-- Reading the text of a message from left to right.
use Rattle.std.specs.Prelude.{ℕ, List, codes, Option, Some, None, option_map, if◌then◌else◌}
use Rattle.std.specs.Borrow.{Bor}
use Rattle.spellings.specs.Numerals.{number_at}
use Rattle.spellings.specs.Words.{cut_at}
use Rattle.protocol.specs.declared.names.Case.{Case}
use Rattle.protocol.specs.declared.names.Outcome.{Outcome}
use Rattle.protocol.specs.declared.names.Outcome.TheVariants.{Committed, Aborted}
use Rattle.protocol.specs.declared.names.ProcessId.{ProcessId}
use Rattle.protocol.specs.declared.messages.Message.{Message}
use Rattle.protocol.specs.declared.messages.Message.TheVariants.{Join, Joined, Work, Prepare, Yes, No, Read, Commit, Abort, Ack, Inquire}
use Rattle.script_words.specs.declared.operation.Task.{Task}
use Rattle.script_words.specs.Operations.{op_at, op_view}
use Rattle.script_words.specs.Steps.{◌>>=◌, same}
use Rattle.tree_script.specs.Names.{case_at, ticket_at}
use Rattle.node_lines.specs.Findings.{found_at}

-- `JOINED`: the parent's case, and the child's ticket
unfoldable pub joined_at : ProcessId → List ℕ → Option Message
joined_at root rest = do
  p ← cut_at 32 rest
  case ← case_at root p.0
  ticket ← ticket_at p.1
  Some (Joined case ticket)

-- `WORK`: a case, the work's number, and what is to be done
unfoldable pub work_at : ProcessId → List ℕ → Option Message
work_at root rest = do
  p ← cut_at 32 rest
  case ← case_at root p.0
  q ← cut_at 32 p.1
  number ← number_at q.0
  op ← op_at q.1
  Some (Work case number op)

-- `PREPARE`: a case, and how many works it was sent
unfoldable pub prepare_at : ProcessId → List ℕ → Option Message
prepare_at root rest = do
  p ← cut_at 32 rest
  case ← case_at root p.0
  count ← number_at p.1
  Some (Prepare case count)

-- the outcome that is acknowledged
abbrev pub ending_at : List ℕ → Option Outcome
ending_at word =
    if same word (codes "commit") then Some Committed
    else if same word (codes "abort") then Some Aborted
    else None

-- the first word of a text, and what is after it, if anything does
abbrev pub or_whole : List ℕ → Option (List ℕ × List ℕ) → List ℕ × Option (List ℕ)
or_whole text None = (text, None)
or_whole text (Some p) = (p.0, Some p.1)

abbrev pub first_word : List ℕ → List ℕ × Option (List ℕ)
first_word text = or_whole text (cut_at 32 text)

-- what an acknowledgement names: a case, and the outcome; and the text of what was found
unfoldable pub ack_words_at : ProcessId → List ℕ → Option (Case × Outcome × Option (List ℕ))
ack_words_at root rest = do
  p ← cut_at 32 rest
  case ← case_at root p.0
  outcome ← ending_at (first_word p.1).0
  Some (case, outcome, (first_word p.1).1)

-- the acknowledgement of these words, with what the text says was found
abbrev pub ack_found : Case × Outcome × Option (List ℕ) → Option Message
ack_found (case, outcome, text) = found_at text >>= λ fs. Some (Ack case outcome fs)

-- `ACK`: a case, the outcome, and what was found
abbrev pub ack_at : ProcessId → List ℕ → Option Message
ack_at root rest = ack_words_at root rest >>= λ words. ack_found words

-- a word that a case alone follows
abbrev pub of_case : (Case → Message) → ProcessId → List ℕ → Option Message
of_case made root rest = case_at root rest >>= λ c. Some (made c)

-- a message but a work and an acknowledgement, by its first word and the rest
unfoldable pub plain_at : ProcessId → List ℕ → List ℕ → Option Message
plain_at root word rest =
    if same word (codes "JOIN") then of_case (λ c. Join c) root rest
    else if same word (codes "JOINED") then joined_at root rest
    else if same word (codes "PREPARE") then prepare_at root rest
    else if same word (codes "YES") then of_case (λ c. Yes c) root rest
    else if same word (codes "NO") then of_case (λ c. No c) root rest
    else if same word (codes "READ") then of_case (λ c. Read c) root rest
    else if same word (codes "COMMIT") then of_case (λ c. Commit c) root rest
    else if same word (codes "ABORT") then of_case (λ c. Abort c) root rest
    else if same word (codes "INQUIRE") then of_case (λ c. Inquire c) root rest
    else None

-- a message, by its first word and what is after it
abbrev pub message_parts : ProcessId → Option (List ℕ × List ℕ) → Option Message
message_parts root None = None
message_parts root (Some p) =
    if same p.0 (codes "WORK") then work_at root p.1
    else if same p.0 (codes "ACK") then ack_at root p.1
    else plain_at root p.0 p.1

-- the message of a text, of a transaction of this root
unfoldable pub message_at : ProcessId → List ℕ → Option Message
message_at root text = message_parts root (cut_at 32 text)

-- the message of a work, as its parts are read
abbrev pub work_view : Case × ℕ × Task → Message
work_view (case, number, task) = Work case number (op_view task)

-- what an acknowledgement names, as its parts are read
abbrev pub ack_view : Case × Outcome × Option (Bor (List ℕ)) → Case × Outcome × Option (List ℕ)
ack_view (case, outcome, text) = (case, outcome, option_map (λ t. t.now) text)
