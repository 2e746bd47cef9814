-- What a node writes of its input.
use Rattle.std.specs.Prelude.{◌≡◌, ◌≤◌, ◌+◌, ◌-◌, ◌^◌, ◌⊎◌, ℕ, true, false, if◌then◌else◌, IfSome, Option, Some, None, List, [], ◌∷◌, ◌++◌, length, take}
use Rattle.std.specs.List.{AllByRecursion, flat_map}
use Rattle.std.specs.Io.{StopsAt}
use Rattle.std.specs.Io.BufRead.{strip_last, ends_with_byte}
use Rattle.std.specs.Io.KnownBytes.{Appends, Consumes}
use Rattle.protocol.specs.declared.events.Reaction.{Reaction}
use Rattle.log_store.specs.Stores.{Forces}
use Rattle.report_io.specs.Streams.{WritesFront}
use Rattle.script_words.specs.Steps.{same}
use Rattle.process_state.specs.States.{CoreState}
use Rattle.tree_process.specs.Nodes.{HoldsLog}
use Rattle.node_answers.specs.Texts.{ok_text}
use Rattle.node_lines.specs.Asked.{end_word}
use Rattle.node_engine.specs.declared.failure.NodeFailure.{NodeFailure}
use Rattle.node_engine.specs.declared.failure.NodeFailure.TheVariants.{Read, Memory, Write, Device, Exhausted}
use Rattle.node_engine.specs.declared.run.Ended.{Ended}
use Rattle.node_engine.specs.declared.run.Ended.TheVariants.{Input, Asked}
use Rattle.node_engine.specs.Answers.{AnswersLine, NodeState, Shows, TakesLine}

-- a line with its end, as it is in an input: no byte but the last is a line feed
abbrev pub IsPiece : List ℕ → Type 0
IsPiece piece = StopsAt piece 10

-- the line without its end: a line feed, and a carriage return before it
abbrev pub line_of : List ℕ → List ℕ
line_of piece = if ends_with_byte 10 piece then strip_last 13 (take (length piece - 1) piece) else piece

-- the line does not ask the node to end
abbrev pub GoesOn : List ℕ → Type 0
GoesOn piece = same (line_of piece) end_word ≡ false

-- each of these lines is answered, one after another, and this is written
abbrev pub Serves : NodeState → List (List ℕ) → NodeState → List ℕ → Type 0
Serves old [] new text = (new ≡ old) × (text ≡ [])
Serves old (piece ∷ pieces) new text = (mid : NodeState) × (first : List ℕ) × (rest : List ℕ)
    × AnswersLine (line_of piece) old mid first × Serves mid pieces new rest × (text ≡ first ++ rest)

-- the bytes that a reader has left or a writer holds, where it says so
abbrev pub Known : Type 0
Known = Option (List ℕ)

-- a reader that knew what it had left has nothing left
abbrev pub ReadsAll : Known → Known → Type 0
ReadsAll old new = IfSome old (λ all. new ≡ Some [])

-- where a node has come to: what its reader has left, what its writer holds, and what it is
pub record Stand : Type 0 where
  pub left : Known
  pub held : Known
  pub state : NodeState

-- where a node has come to, by its parts
abbrev pub stand : Known → Known → NodeState → Stand
stand left held state = record { left = left; held = held; state = state }

-- From the one to the other a process told what it did as it opened, and then answered these lines: what was
-- written is just that, in the order of the lines, and what was read is just the lines.
pub record Served (start : Stand) (opening : Reaction) (now : Stand) : Type 0 where
  pub opened : NodeState
  pub first : List ℕ
  pub shows : Shows start.state opened opening first
  pub pieces : List (List ℕ)
  pub rest : List ℕ
  pub serves : Serves opened pieces now.state rest
  pub lines : AllByRecursion IsPiece pieces
  pub go_on : AllByRecursion GoesOn pieces
  pub took : Consumes start.left now.left (flat_map (λ piece. piece) pieces)
  pub written : Appends start.held now.held (first ++ rest)

-- the next line was made or not, and for this reason not answered
pub record Unanswered (start : Stand) (opening : Reaction) (now : Stand) (why : NodeFailure) : Type 0 where
  pub before : Stand
  pub served : Served start opening before
  pub piece : List ℕ
  pub line : IsPiece piece
  pub took : Consumes before.left now.left piece
  pub takes : TakesLine (line_of piece) before.state now.state why
  pub held : now.held ≡ before.held

-- of the answer to the next line a front was written
pub record Partly (start : Stand) (opening : Reaction) (now : Stand) : Type 0 where
  pub before : Stand
  pub served : Served start opening before
  pub piece : List ℕ
  pub line : IsPiece piece
  pub took : Consumes before.left now.left piece
  pub text : List ℕ
  pub answers : AnswersLine (line_of piece) before.state now.state text
  pub front : WritesFront before.held now.held text

-- all lines so far are answered, and no other line was taken
pub record Unread (start : Stand) (opening : Reaction) (now : Stand) : Type 0 where
  pub before : Stand
  pub served : Served start opening before
  pub state : now.state ≡ before.state
  pub held : now.held ≡ before.held

-- the next line asks the node to end, and nothing is done yet
pub record AsksEnd (start : Stand) (opening : Reaction) (now : Stand) : Type 0 where
  pub before : Stand
  pub served : Served start opening before
  pub piece : List ℕ
  pub line : IsPiece piece
  pub asks : same (line_of piece) end_word ≡ true
  pub took : Consumes before.left now.left piece
  pub state : now.state ≡ before.state
  pub held : now.held ≡ before.held

-- how a node stands whose input ended: each line was answered and there is none any more, or one asked it to
-- end
abbrev pub EndsBy : Ended → Stand → Reaction → Stand → Type 0
EndsBy Input start opening now = Served start opening now × ReadsAll start.left now.left
EndsBy Asked start opening now = AsksEnd start opening now

-- how a node is after a line, if there was one and it did not ask it to end
abbrev pub LeadsTo : Option Ended → Stand → Reaction → Stand → Type 0
LeadsTo None start opening now = Served start opening now
LeadsTo (Some by) start opening now = EndsBy by start opening now

-- what is written as a node ends in order: `ok`, where a line asked it to
abbrev pub end_text : Ended → List ℕ
end_text Input = []
end_text Asked = ok_text

-- why a node does not end in order whose input ended so: its device failed, and nothing is written; or `ok`
-- was to be written, and a front of it was
abbrev pub FailsToEnd : Ended → Known → Known → NodeFailure → Type 0
FailsToEnd by old new Device = new ≡ old
FailsToEnd by old new Write = (by ≡ Asked) × WritesFront old new ok_text
FailsToEnd by old new e = ⊥

-- the store has the log of this process, all of it forced
pub record ClosesLog {L : Type 0} (bytes : L → List ℕ) (forced failures : L → ℕ) (s : CoreState)
    (store : L) : Type 0 where
  pub was : L
  pub holds : HoldsLog bytes forced failures s was
  pub forces : Forces bytes forced failures was store

-- From its start on a node told what it did as it opened and answered each line, or each before one that
-- asked it to end; then all that is in its log was forced, and `ok` is the answer to that line.
pub record EndsInOrder {L : Type 0} (bytes : L → List ℕ) (forced failures : L → ℕ) (start : Stand)
    (opening : Reaction) (left held : Known) (store : L) : Type 0 where
  pub by : Ended
  pub last : Stand
  pub ends : EndsBy by start opening last
  pub reads : left ≡ last.left
  pub closes : ClosesLog bytes forced failures last.state.core store
  pub writes : Appends last.held held (end_text by)

-- how a node stands that ended before its input did, after its opening
abbrev pub Stops : Stand → Reaction → Stand → NodeFailure → Type 0
Stops start opening now Read = Unread start opening now
Stops start opening now Memory = Unanswered start opening now Memory
Stops start opening now Device = Unanswered start opening now Device
Stops start opening now Exhausted = Unanswered start opening now Exhausted
Stops start opening now Write = Partly start opening now

-- of what it did as it opened a front was written
pub record ShowsFront (start : Stand) (opening : Reaction) (now : Stand) : Type 0 where
  pub text : List ℕ
  pub shows : Shows start.state now.state opening text
  pub front : WritesFront start.held now.held text

-- nothing was written
pub record ShowsNothing (start now : Stand) : Type 0 where
  pub state : now.state ≡ start.state
  pub held : now.held ≡ start.held

-- how a node stands that ended in its opening
abbrev pub StopsOpening : Stand → Reaction → Stand → NodeFailure → Type 0
StopsOpening start opening now Read = ⊥
StopsOpening start opening now Memory = ShowsNothing start now
StopsOpening start opening now Device = ⊥
StopsOpening start opening now Exhausted =
    ShowsNothing start now × (2 ^ 64 ≤ start.state.sent + length opening.messages)
StopsOpening start opening now Write = ShowsFront start opening now

-- a line asked the node to end, all that stands was forced, and of `ok` a front was written
pub record EndsPartly (start : Stand) (opening : Reaction) (now : Stand) : Type 0 where
  pub before : Stand
  pub asks : AsksEnd start opening before
  pub state : now.state ≡ before.state
  pub left : now.left ≡ before.left
  pub front : WritesFront before.held now.held ok_text

-- how a node stands that failed as it ended in order: its log was not forced, or not all of `ok` was written
abbrev pub StopsEnding : Stand → Reaction → Stand → NodeFailure → Type 0
StopsEnding start opening now Device = (by : Ended) × EndsBy by start opening now
StopsEnding start opening now Write = EndsPartly start opening now
StopsEnding start opening now e = ⊥

-- how a node stands that did not end in order
abbrev pub EndsEarly : Stand → Reaction → Stand → NodeFailure → Type 0
EndsEarly start opening now e =
    (StopsOpening start opening now e ⊎ Stops start opening now e) ⊎ StopsEnding start opening now e

-- a node that is let go did not end in order, with this left and held: it came to some state
abbrev pub EndedEarly : Stand → Reaction → Known → Known → NodeFailure → Type 0
EndedEarly start opening left held e =
    (s : NodeState) × EndsEarly start opening (record { left = left; held = held; state = s }) e
