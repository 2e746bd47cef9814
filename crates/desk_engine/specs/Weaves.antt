-- What a desk writes of its input.
use Rattle.std.specs.Prelude.{◌≡◌, ◌⊎◌, ℕ, true, List, [], ◌∷◌, ◌++◌, Option, Some, None}
use Rattle.std.specs.List.{flat_map}
use Rattle.std.specs.Io.KnownBytes.{Appends, Consumes}
use Rattle.report_io.specs.Streams.{WritesFront}
use Rattle.protocol.specs.declared.events.Reaction.{Reaction}
use Rattle.script_words.specs.Steps.{same}
use Rattle.input_lines.specs.Lines.{Piece, bytes_of}
use Rattle.node_lines.specs.Asked.{end_word}
use Rattle.node_desk.specs.declared.watch.Ways.{Ways}
use Rattle.node_engine.specs.declared.failure.NodeFailure.{NodeFailure}
use Rattle.node_engine.specs.declared.run.Ended.{Ended}
use Rattle.node_engine.specs.declared.run.Ended.TheVariants.{Input, Asked}
use Rattle.node_engine.specs.Answers.{NodeState, Shows}
use Rattle.node_engine.specs.Runs.{ClosesLog, Known, ReadsAll, ShowsNothing, Stand, StopsOpening, end_text}
use Rattle.desk_engine.specs.Turns.{IsHeldBack, Leaves, Makes, Turn, Line, Round, Trims, given}

-- the bytes of the input that a turn takes: its line, and of the desk's own lines none
abbrev pub bytes_taken : Turn → List ℕ
bytes_taken (Line p) = bytes_of p
bytes_taken (Round cs) = []
bytes_taken Trims = []

-- these turns are made, one after another, and this is told
abbrev pub Weaves : Ways → NodeState → List Turn → NodeState → List ℕ → Type 0
Weaves w old [] new told = (new ≡ old) × (told ≡ [])
Weaves w old (t ∷ ts) new told = (mid : NodeState) × (first : List ℕ) × (rest : List ℕ)
    × Makes w t old mid first × Weaves w mid ts new rest × (told ≡ first ++ rest)

-- From the one to the other a process told what it did as it opened, and then a desk made these turns: what
-- was written is just what is told of them, in their order, and what was read is just the lines of the input
-- among them.
pub record Woven (w : Ways) (start : Stand) (opening : Reaction) (now : Stand) : Type 0 where
  pub opened : NodeState
  pub first : List ℕ
  pub shows : Shows start.state opened opening first
  pub turns : List Turn
  pub rest : List ℕ
  pub weaves : Weaves w opened turns now.state rest
  pub took : Consumes start.left now.left (flat_map bytes_taken turns)
  pub written : Appends start.held now.held (first ++ rest)

-- the next line of the input asks the node to end, and nothing is done yet
pub record AsksEnd (w : Ways) (start : Stand) (opening : Reaction) (now : Stand) : Type 0 where
  pub before : Stand
  pub woven : Woven w start opening before
  pub piece : Piece
  pub asks : same (given piece) end_word ≡ true
  pub took : Consumes before.left now.left (bytes_of piece)
  pub state : now.state ≡ before.state
  pub held : now.held ≡ before.held

-- how a node stands whose input ended: there is no line any more, or one asked it to end
abbrev pub Ends : Ended → Ways → Stand → Reaction → Stand → Type 0
Ends Input w start opening now = Woven w start opening now × ReadsAll start.left now.left
Ends Asked w start opening now = AsksEnd w start opening now

-- how a node is after a turn, if there was one and it did not end
abbrev pub LeadsTo : Option Ended → Ways → Stand → Reaction → Stand → Type 0
LeadsTo None w start opening now = Woven w start opening now
LeadsTo (Some by) w start opening now = Ends by w start opening now

-- From its start on a node told what it did as it opened and a desk made its turns, up to the end of the
-- input or a line that asked the node to end; then all that is in its log was forced, and `ok` is the answer
-- to that line.
pub record EndsWoven {L : Type 0} (bytes : L → List ℕ) (forced failures : L → ℕ) (w : Ways) (start : Stand)
    (opening : Reaction) (left held : Known) (store : L) : Type 0 where
  pub by : Ended
  pub last : Stand
  pub ends : Ends by w start opening last
  pub reads : left ≡ last.left
  pub closes : ClosesLog bytes forced failures last.state.core store
  pub writes : Appends last.held held (end_text by)

-- the last of some turns was left, if one was
abbrev pub IsLeftAt : Ways → NodeState → NodeState → Type 0
IsLeftAt w mid now = (now ≡ mid) ⊎ ((why : NodeFailure) × Leaves w mid now why)

-- How a node stands that broke off after its opening. Of the turn that came next nothing was told; or some
-- turns were made, and of what is to be told of them a front was written, which may be nothing.
pub data Breaks (w : Ways) (start : Stand) (opening : Reaction) (now : Stand)
    (why : NodeFailure) : Type 0 where
  untold : (before : Stand) → Woven w start opening before → Leaves w before.state now.state why
      → now.held ≡ before.held → Breaks w start opening now why
  partly : (before : Stand) → Woven w start opening before
      → (turns : List Turn) (mid : NodeState) (text : List ℕ)
      → Weaves w before.state turns mid text → IsLeftAt w mid now.state
      → WritesFront before.held now.held text
      → IsHeldBack why → Breaks w start opening now why

-- nothing is told of the opening: it could not be written, or what it rests on could not be made safe
abbrev pub StopsFirst : Stand → Reaction → Stand → NodeFailure → Type 0
StopsFirst start opening now why = StopsOpening start opening now why
    ⊎ (ShowsNothing start now × IsHeldBack why)

-- how a node stands that failed as it ended: its log was not forced, or a front of `ok` was written
pub record EndsPartly (w : Ways) (start : Stand) (opening : Reaction) (held : Known) : Type 0 where
  pub by : Ended
  pub before : Stand
  pub ends : Ends by w start opening before
  pub front : WritesFront before.held held (end_text by)

-- how a node stands that did not end in order
abbrev pub BreaksOff : Ways → Stand → Reaction → Known → Known → NodeFailure → Type 0
BreaksOff w start opening left held why =
    ((s : NodeState) × (StopsFirst start opening (record { left = left; held = held; state = s }) why
    ⊎ Breaks w start opening (record { left = left; held = held; state = s }) why))
    ⊎ EndsPartly w start opening held
