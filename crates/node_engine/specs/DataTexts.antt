-- The data of a manager, as a node tells them.
use Rattle.std.specs.Prelude.{◌≡◌, ◌⊎◌, ℕ, Option, Some, None, List}
use Rattle.protocol.specs.declared.records.LogRecord.{LogRecord}
use Rattle.protocol.specs.declared.events.StepError.TheVariants.{Exhausted}
use Rattle.protocol.specs.Store.{data_of}
use Rattle.kv_state.specs.Replays.{AreMalformed, CountTooFar}
use Rattle.node_answers.specs.declared.refusing.Manner.{Manner}
use Rattle.node_answers.specs.Texts.{data_text, refused_text}

-- the keys and values that the records of a log make, keys rising; or none, as the records are no key
-- store's: one of them may not follow those before it, or their commits count 2^63
abbrev pub DataAre : List LogRecord → Option (List (List ℕ × List ℕ)) → Type 0
DataAre ls (Some ps) = ps ≡ (data_of ls).pairs
DataAre ls None = AreMalformed ls ⊎ CountTooFar ls

-- what is told of them; without them there is a refusal
abbrev pub data_answer : Manner → Option (List (List ℕ × List ℕ)) → List ℕ
data_answer m (Some ps) = data_text ps
data_answer m None = refused_text m Exhausted

-- this tells the data that the records of a log make; of a coordinator's none
pub record TellsData (m : Manner) (ls : List LogRecord) (text : List ℕ) : Type 0 where
  pub pairs : Option (List (List ℕ × List ℕ))
  pub are : DataAre ls pairs
  pub told : text ≡ data_answer m pairs
