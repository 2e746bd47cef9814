-- Lines that are at hand: a desk gives the node all of them, has what they rest on made safe, and then tells
-- of them.
use Rattle.std.specs.Prelude.{◌≡◌, ℕ, true, List, Option, Some, None}
use Rattle.std.specs.List.{flat_map}
use Rattle.std.specs.Io.KnownBytes.{Consumes}
use Rattle.script_words.specs.Steps.{same}
use Rattle.input_lines.specs.Lines.{Piece, bytes_of}
use Rattle.node_lines.specs.Asked.{end_word}
use Rattle.node_desk.specs.declared.watch.Ways.{Ways}
use Rattle.tree_process.specs.Nodes.{HoldsLog}
use Rattle.node_engine.specs.declared.failure.NodeFailure.{NodeFailure}
use Rattle.node_engine.specs.declared.run.Ended.{Ended}
use Rattle.node_engine.specs.declared.run.Ended.TheVariants.{Input, Asked}
use Rattle.node_engine.specs.Answers.{NodeState}
use Rattle.node_engine.specs.Runs.{Known, ReadsAll}
use Rattle.desk_engine.specs.declared.group.Group.{Group}
use Rattle.desk_engine.specs.Turns.{Leaves, Turn, given}
use Rattle.desk_engine.specs.Weaves.{Weaves, bytes_taken}

-- what is to be told of the lines of a group
abbrev pub told_in : Group → List ℕ
told_in g = g.told.items

-- From the one state to the other the node was given the next lines of the input, and this is to be told of
-- them.
pub record Gathers (w : Ways) (old new : NodeState) (left now : Known) (told : List ℕ) : Type 0 where
  pub turns : List Turn
  pub weaves : Weaves w old turns new told
  pub took : Consumes left now (flat_map bytes_taken turns)

-- the line after them asks the node to end, and nothing is made of it
pub record GathersEnd (w : Ways) (old new : NodeState) (left now : Known) (told : List ℕ) : Type 0 where
  pub at : Known
  pub gathers : Gathers w old new left at told
  pub piece : Piece
  pub asks : same (given piece) end_word ≡ true
  pub took : Consumes at now (bytes_of piece)

-- after them the input ended, if it did: there is no line any more, or one asks the node to end
abbrev pub GathersTo : Option Ended → Ways → NodeState → NodeState → Known → Known → List ℕ → Type 0
GathersTo None w old new left now told = Gathers w old new left now told
GathersTo (Some Input) w old new left now told = Gathers w old new left now told × ReadsAll left now
GathersTo (Some Asked) w old new left now told = GathersEnd w old new left now told

-- after them a line was left, for this reason
pub record GatherBreaks (w : Ways) (old new : NodeState) (left : Known) (told : List ℕ)
    (why : NodeFailure) : Type 0 where
  pub mid : NodeState
  pub at : Known
  pub gathers : Gathers w old mid left at told
  pub leaves : Leaves w mid new why

module _ {B L : Type 0} where
  -- the backing was brought up to a store that holds the log of the node
  abbrev pub BroughtUp : (B → B → L → Type 0) → (L → List ℕ) → (L → ℕ) → (L → ℕ) → B → B → NodeState → Type 0
  BroughtUp brings bytes forced failures old new s =
      (store : L) × HoldsLog bytes forced failures s.core store × brings old new store
