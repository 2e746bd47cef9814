-- What a desk makes of a line of the input, and of its own lines.
use Rattle.std.specs.Prelude.{◌≡◌, ◌≢◌, ◌⊎◌, ⊤, ℕ, Bool, true, false, List, [], ◌∷◌, ◌++◌, All, codes, length, map, take, Option, Some, None, if◌then◌else◌}
use Rattle.std.specs.Io.BufRead.{strip_last}
use Rattle.std.specs.Io.KnownBytes.{Appends}
use Rattle.report_io.specs.Streams.{WritesFront}
use Rattle.protocol.specs.declared.names.Case.{Case}
use Rattle.log_outcomes.specs.Doubts.{decisions_in, doubts_in}
use Rattle.script_words.specs.Steps.{same}
use Rattle.input_lines.specs.Lines.{Piece, beyond}
use Rattle.node_lines.specs.Asked.{end_word}
use Rattle.node_answers.specs.Texts.{ok_text}
use Rattle.node_desk.specs.declared.joining.Joining.{Joining}
use Rattle.node_desk.specs.declared.watch.Ways.{Ways}
use Rattle.node_desk.specs.Words.{JoinsByLine, ask_line, join_line, joined_line, messages_in, takes, trim_line}
use Rattle.node_engine.specs.declared.failure.NodeFailure.{NodeFailure}
use Rattle.node_engine.specs.declared.failure.NodeFailure.TheVariants.{Memory, Write, Device}
use Rattle.node_engine.specs.Answers.{AnswersLine, NodeState, TakesLine, records_at}
use Rattle.node_engine.specs.Runs.{Known}

-- Lines of the input.

-- a line without its end: a line feed, and a carriage return before it
abbrev pub line_in : List ℕ → Bool → List ℕ
line_in front true = strip_last 13 front
line_in front false = front

-- the line of nothing, which a node is given for a line that is too long
abbrev pub nothing_line : List ℕ
nothing_line = codes "?"

-- what a node is given of a line
abbrev pub given_by : List ℕ → Bool → List ℕ
given_by front fed = if beyond front then nothing_line else line_in front fed

abbrev pub given : Piece → List ℕ
given p = given_by p.front p.fed

-- who has joined, by a line, if that is told
abbrev pub NamesAt : Bool → Ways → List ℕ → Option Joining → Type 0
NamesAt true w line j = JoinsByLine w.root line j
NamesAt false w line j = j ≡ None

abbrev pub Names : Ways → List ℕ → Option Joining → Type 0
Names w line j = NamesAt w.tells_joined w line j

-- the node was asked whether the case still takes that child, if there is one
abbrev pub Asked : Option Joining → NodeState → NodeState → List ℕ → Type 0
Asked None old new text = (new ≡ old) × (text ≡ [])
Asked (Some j) old new text = AnswersLine (join_line j) old new text

-- that child, if the answer says so
abbrev pub taken_by : Option Joining → List ℕ → Option Joining
taken_by j text = if takes text then j else None

-- before the line the node was asked whether a child that joins by it may: that child, if so
pub record Probes (w : Ways) (line : List ℕ) (old new : NodeState) (j : Option Joining) : Type 0 where
  pub named : Option Joining
  pub names : Names w line named
  pub text : List ℕ
  pub asked : Asked named old new text
  pub taken : j ≡ taken_by named text

-- what is told of an answer: before the `ok` to a line by which this child joins, that it has
abbrev pub told_by : Option Joining → List ℕ → List ℕ
told_by None text = text
told_by (Some j) text = if same text ok_text then joined_line j ++ text else text

-- a line is answered, and this is told
pub record TellsLine (w : Ways) (line : List ℕ) (old new : NodeState) (told : List ℕ) : Type 0 where
  pub mid : NodeState
  pub joining : Option Joining
  pub probes : Probes w line old mid joining
  pub text : List ℕ
  pub answers : AnswersLine line mid new text
  pub told_is : told ≡ told_by joining text

-- Lines of the desk's own.

-- the cases in doubt, and those that an operator decided and that wait to be told
abbrev pub cases_at : NodeState → List Case
cases_at s = doubts_in (records_at s) ++ map (λ d. d.case) (decisions_in (records_at s))

-- these cases are the first of all
abbrev pub AreFirst : List Case → List Case → Type 0
AreFirst all cs = take (length cs) all ≡ cs

-- these cases are asked about, one after another; told are the messages of the answers
abbrev pub Asks : NodeState → List Case → NodeState → List ℕ → Type 0
Asks old [] new told = (new ≡ old) × (told ≡ [])
Asks old (c ∷ cs) new told = (mid : NodeState) × (text : List ℕ) × (rest : List ℕ)
    × AnswersLine (ask_line c) old mid text × Asks mid cs new rest × (told ≡ messages_in text ++ rest)

-- these cases were asked about, and what is told of them is written
abbrev pub AskedAbout : NodeState → List Case → NodeState → Known → Known → Type 0
AskedAbout old cs new held now = (told : List ℕ) × Asks old cs new told × Appends held now told

-- Turns.

-- what a desk does at a time
pub data Turn : Type 0 where
  -- it gives the node a line of the input
  Line : Piece → Turn
  -- it asks about these cases
  Round : List Case → Turn
  -- it trims the log
  Trims : Turn

-- a line of the input, which does not ask the node to end, and what is told of it
pub record MakesLine (w : Ways) (p : Piece) (old new : NodeState) (told : List ℕ) : Type 0 where
  pub no_feed : All (λ x. x ≢ 10) p.front
  pub goes_on : same (given p) end_word ≡ false
  pub tells : TellsLine w (given p) old new told

-- the first of the cases that are in doubt, and what is told of them, if the desk asks at all
pub record MakesRound (w : Ways) (cs : List Case) (old new : NodeState) (told : List ℕ) : Type 0 where
  pub may : w.asks ≡ true
  pub cases : AreFirst (cases_at old) cs
  pub asks : Asks old cs new told

-- a trim, of which nothing is told, if the desk trims at all
pub record MakesTrim (w : Ways) (old new : NodeState) (told : List ℕ) : Type 0 where
  pub may : w.trims ≡ true
  pub text : List ℕ
  pub answers : AnswersLine trim_line old new text
  pub silent : told ≡ []

-- a turn is made, and this is told
abbrev pub Makes : Ways → Turn → NodeState → NodeState → List ℕ → Type 0
Makes w (Line p) old new told = MakesLine w p old new told
Makes w (Round cs) old new told = MakesRound w cs old new told
Makes w Trims old new told = MakesTrim w old new told

-- a line is not answered, for this reason: the node took it, or memory was refused before
abbrev pub LeavesOwn : List ℕ → NodeState → NodeState → NodeFailure → Type 0
LeavesOwn line old new why = ((new ≡ old) × (why ≡ Memory)) ⊎ TakesLine line old new why

-- the question whether a child may join is not answered, for this reason
abbrev pub LeavesAsked : Option Joining → NodeState → NodeState → NodeFailure → Type 0
LeavesAsked None old new why = ⊥
LeavesAsked (Some j) old new why = LeavesOwn (join_line j) old new why

-- before a line memory was refused, or the question whether a child may join is not answered, for this reason
abbrev pub LeavesProbe : Ways → List ℕ → NodeState → NodeState → NodeFailure → Type 0
LeavesProbe w line old new why =
    ((new ≡ old) × (why ≡ Memory)) ⊎ ((j : Option Joining) × Names w line j × LeavesAsked j old new why)

-- a line of the input is not told of, for this reason
pub data LeavesLine (w : Ways) (line : List ℕ) (old new : NodeState) (why : NodeFailure) : Type 0 where
  -- nothing is made of it, but that the node was asked whether a child may join
  line_before : LeavesProbe w line old new why → LeavesLine w line old new why
  -- the node took the line
  line_taken : (mid : NodeState) (j : Option Joining) → Probes w line old mid j → TakesLine line mid new why
      → LeavesLine w line old new why
  -- it answered the line
  line_untold : (told : List ℕ) → TellsLine w line old new told → why ≡ Memory → LeavesLine w line old new why

-- What was made is not told, or not all of it: it could not be made safe, for memory or since a device
-- failed, or not be written.
abbrev pub IsHeldBack : NodeFailure → Type 0
IsHeldBack Memory = ⊤
IsHeldBack Write = ⊤
IsHeldBack Device = ⊤
IsHeldBack e = ⊥

-- A round broke off: the first of the cases were asked about, and of the next one, if there is one, nothing
-- is told; or a front of what is told of them was written.
pub data RoundBreaks (old new : NodeState) (held now : Known) (why : NodeFailure) : Type 0 where
  round_untold : (cs : List Case) → AreFirst (cases_at old) cs → (mid : NodeState)
      → AskedAbout old cs mid held now
      → (new ≡ mid) ⊎ ((c : Case) × LeavesOwn (ask_line c) mid new why) → RoundBreaks old new held now why
  round_partly : (cs : List Case) → AreFirst (cases_at old) cs → (told : List ℕ) → Asks old cs new told
      → WritesFront held now told → IsHeldBack why → RoundBreaks old new held now why

-- a turn is not told of, for this reason
pub data Leaves (w : Ways) (old new : NodeState) (why : NodeFailure) : Type 0 where
  leaves_nothing : new ≡ old → Leaves w old new why
  leaves_line : (p : Piece) → LeavesLine w (given p) old new why → Leaves w old new why
  leaves_ask : (c : Case) → w.asks ≡ true → LeavesOwn (ask_line c) old new why → Leaves w old new why
  leaves_trim : w.trims ≡ true → TakesLine trim_line old new why → Leaves w old new why
