-- What a call makes of what a handle keeps.
use Rattle.std.specs.Prelude.{◌≡◌, ◌≢◌, ◌≤◌, ◌++◌, ℕ, List, [], length, drop, Option, Some, None, true, false}
use Rattle.script_words.specs.Steps.{same}
use Rattle.log_store.specs.Stores.{Forces}
use Rattle.log_file.specs.declared.store.FileStore.{FileStore}
use Rattle.log_file.specs.Stores.{file_bytes, file_failures, file_forced}
use Rattle.file_calls.specs.declared.file.CalledFile.{CalledFile}
use Rattle.node_lines.specs.Asked.{end_word}
use Rattle.node_answers.specs.Texts.{ok_text}
use Rattle.node_engine.specs.declared.failure.NodeFailure.{NodeFailure}
use Rattle.node_engine.specs.declared.failure.NodeFailure.TheVariants as failure
use Rattle.node_engine.specs.Answers.{AnswersLine, NodeState, TakesLine, state_of}
use Rattle.node_engine.specs.Runs.{ClosesLog}
use Rattle.linked_node.specs.declared.kept.Kept.{Kept}
use Rattle.linked_node.specs.declared.kept.KeptLife.{KeptLife}
use Rattle.linked_node.specs.declared.kept.KeptLife.TheVariants.{Serves, Failed, Ended}
use Rattle.linked_node.specs.Numbers.{IsAnswerNumber, failure_number}

-- why a step failed: the calls of the file are asked for in it and made after it, and what is written goes to
-- memory, so what fails of either is memory
abbrev pub told_of : NodeFailure → NodeFailure
told_of failure.Device = failure.Memory
told_of failure.Read = failure.Read
told_of failure.Memory = failure.Memory
told_of failure.Write = failure.Memory
told_of failure.Exhausted = failure.Exhausted

-- a line is answered
abbrev pub Answered : List ℕ → KeptLife → KeptLife → List ℕ → Type 0
Answered line (Serves old) (Serves new) text = AnswersLine line (state_of old.value) (state_of new.value) text
Answered line _ _ text = ⊥

-- a line is not answered, nor is any other from then on, for the reason of this number
abbrev pub Unanswered : List ℕ → KeptLife → KeptLife → ℕ → Type 0
Unanswered line (Serves old) new number = (why : NodeFailure) × (s : NodeState)
    × TakesLine line (state_of old.value) s why × (new ≡ Failed (told_of why))
    × (number ≡ failure_number (told_of why))
Unanswered line (Failed why) new number = (new ≡ Failed why) × (number ≡ failure_number why)
Unanswered line Ended new number = (new ≡ Ended) × (number ≡ 25)

-- the store was closed: all that is in it was forced before
abbrev pub Closed : FileStore CalledFile → Type 0
Closed store = (new : FileStore CalledFile) × Forces file_bytes file_forced file_failures store new

-- all that is in the log of this node was forced, and then its file was closed
pub record Ends (s : NodeState) : Type 0 where
  pub store : FileStore CalledFile
  pub closes : ClosesLog file_bytes file_forced file_failures s.core store
  pub closed : Closed store

-- a node has ended in order
abbrev pub HasEnded : KeptLife → KeptLife → Type 0
HasEnded (Serves old) new = (new ≡ Ended) × Ends (state_of old.value)
HasEnded _ new = ⊥

-- it has not, and no longer answers a line, for the reason of this number
abbrev pub HasNotEnded : KeptLife → KeptLife → ℕ → Type 0
HasNotEnded (Serves old) new number = (why : NodeFailure) × (new ≡ Failed why) × (number ≡ failure_number why)
HasNotEnded (Failed why) new number = (new ≡ Failed why) × (number ≡ failure_number why)
HasNotEnded Ended new number = (new ≡ Ended) × (number ≡ 25)

-- A line was answered, or it asked the node to end, and it has; or there is no answer. Or an earlier answer
-- waits for calls of the file, and nothing was done.
pub data Turned (line : List ℕ) (old new : Kept) (status : ℕ) : Type 0 where
  answers : same line end_word ≡ false → IsAnswerNumber status
      → Answered line old.life new.life new.answer.items
      → Turned line old new status
  refuses : same line end_word ≡ false → Unanswered line old.life new.life status → new.answer.items ≡ []
      → Turned line old new status
  ends : same line end_word ≡ true → IsAnswerNumber status → HasEnded old.life new.life
      → new.answer.items ≡ ok_text
      → Turned line old new status
  fails : same line end_word ≡ true → HasNotEnded old.life new.life status → new.answer.items ≡ []
      → Turned line old new status
  waits : status ≡ 28 → new ≡ old → Turned line old new status

-- how the last answer of a node is told: by its failure, or else at once or after calls of the file
abbrev pub TellsBy : KeptLife → ℕ → Type 0
TellsBy (Failed why) status = status ≡ failure_number why
TellsBy _ status = IsAnswerNumber status

-- a text is at the front of a room, if the room holds it
abbrev pub Fills : (text old new : List ℕ) → Type 0
Fills text old new = length text ≤ length old → new ≡ text ++ drop (length text) old

-- an answer that is told by 0 is in the room, if it fits, and this is its size; else the room is as it was
pub record Shown (status : ℕ) (text old new : List ℕ) (size : ℕ) : Type 0 where
  pub told : status ≡ 0 → (size ≡ length text) × Fills text old new
  pub untold : status ≢ 0 → (size ≡ 0) × (new ≡ old)

-- The call of the file that was to be made next was made; or it failed, and the node no longer answers a
-- line. Or no call was asked for.
pub data Passed (made : ℕ) (old new : Kept) (status : ℕ) : Type 0 where
  none : status ≡ 29 → new ≡ old → Passed made old new status
  goes_on : made ≢ 0 → status ≡ 0 → new ≡ old → Passed made old new status
  is_over : made ≡ 0 → status ≡ 23 → new.life ≡ Failed failure.Device → new.answer.items ≡ []
      → Passed made old new status

-- of handles: what a call makes of the nodes that they keep
abbrev pub TurnedAt : List ℕ → Option Kept → Option Kept → ℕ → Type 0
TurnedAt line (Some old) (Some new) status = Turned line old new status
TurnedAt line _ _ status = ⊥

abbrev pub PassedAt : ℕ → Option Kept → Option Kept → ℕ → Type 0
PassedAt made (Some old) (Some new) status = Passed made old new status
PassedAt made _ _ status = ⊥

abbrev pub TellsAt : Option Kept → ℕ → Type 0
TellsAt (Some kept) status = TellsBy kept.life status
TellsAt None status = ⊥

abbrev pub ShownAt : ℕ → Option Kept → List ℕ → List ℕ → ℕ → Type 0
ShownAt status (Some kept) old new size = Shown status kept.answer.items old new size
ShownAt status None old new size = ⊥
