-- What a process makes is what the model's process makes.
use Rattle.std.specs.Prelude.{◌≡◌, ℕ, false, Option}
use Rattle.protocol.specs.declared.names.Case.{Case}
use Rattle.protocol.specs.declared.events.Input.{Input}
use Rattle.protocol.specs.declared.events.Reaction.{Reaction}
use Rattle.protocol.specs.declared.events.StepError.{StepError}
use Rattle.protocol.specs.declared.names.ProcessId.{ProcessId}
use Rattle.protocol.specs.Nodes.{AtLeaf, AtRoot, Below, DataAnswer, Effect, Heard, Node, Place, after, fails_in, opened_node, reaction_of}
use Rattle.protocol.specs.Reactions.{Does, Refused, is_passed_over, reacts}
use Rattle.process_state.specs.Laws.{opened_core}
use Rattle.process_state.specs.States.{CoreState, SameCore}
use Rattle.process_state.specs.Makes.{IsBroken, IsRefusedInput, ProcessMakes}
use Rattle.process_state.specs.Turns.{FindsChildCase, asked_by, reacted, turn_of, heard_now}
use Rattle.tree_state.specs.Fits.{CascadeFits, FreshIsUnmarked, RootFits}
use Rattle.tree_state.specs.StandsFor.{ChildrenFit, StandsFor}

-- a process meets each input as the model's process does for which it stands
abbrev pub MeetsAsTheModel : Type 0
MeetsAsTheModel = (n : Node) (s : CoreState) (a : DataAnswer) (found : Option Case) (i : Input)
    → StandsFor n s → (n.failed ≡ false → ChildrenFit s.place n) → FindsChildCase s (asked_by i) found
    → reacts s.place n (heard_now a i) ≡ reacted (turn_of s a found i)

-- The model's process makes the input too and shows the same, and the process stands for what that leaves.
pub record MadeAs (n : Node) (h : Heard) (old new : CoreState) (reaction : Reaction) : Type 0 where
  pub effect : Effect
  pub does : reacts old.place n h ≡ Does effect
  pub shown : reaction ≡ reaction_of effect
  pub stands : StandsFor (after n h effect) new

-- what a manager makes of an input is what the model's manager makes of it
abbrev pub ManagersMakeAsTheModel : Type 0
ManagersMakeAsTheModel =
    (n : Node) (old new : CoreState) (p : ProcessId) (a : DataAnswer) (i : Input) (reaction : Reaction)
    → old.place.role ≡ AtLeaf p → StandsFor n old → ChildrenFit old.place n → FreshIsUnmarked old.place n
    → ProcessMakes old new a i reaction → MadeAs n (heard_now a i) old new reaction

-- what a root makes of an input is what the model's root makes of it
abbrev pub RootsMakeAsTheModel : Type 0
RootsMakeAsTheModel = (n : Node) (old new : CoreState) (a : DataAnswer) (i : Input) (reaction : Reaction)
    → old.place.role ≡ AtRoot → StandsFor n old → (n.failed ≡ false → RootFits old.place n)
    → ProcessMakes old new a i reaction → MadeAs n (heard_now a i) old new reaction

-- what a coordinator below the root makes of an input that is not passed over is what the model's makes of it
abbrev pub CascadesMakeAsTheModel : Type 0
CascadesMakeAsTheModel =
    (n : Node) (old new : CoreState) (p : ProcessId) (a : DataAnswer) (i : Input) (reaction : Reaction)
    → old.place.role ≡ Below p → StandsFor n old → (n.failed ≡ false → CascadeFits old.place n)
    → is_passed_over old.place n i ≡ false
    → ProcessMakes old new a i reaction → MadeAs n (heard_now a i) old new reaction

-- between processes between which nothing is otherwise, both stand for the model's process or neither does
abbrev pub SameStandsForTheSame : Type 0
SameStandsForTheSame = (n : Node) (old new : CoreState) → SameCore old new → StandsFor n old → StandsFor n new

-- what a process refuses the model's process refuses by the same error, and the process still stands for it
abbrev pub RefusesAsTheModel : Type 0
RefusesAsTheModel = (n : Node) (old new : CoreState) (a : DataAnswer) (i : Input) (e : StepError)
    → StandsFor n old → (n.failed ≡ false → ChildrenFit old.place n) → IsRefusedInput old new a i e
    → (reacts old.place n (heard_now a i) ≡ Refused e) × StandsFor n new

-- The model's process makes the input too, its device fails in it with some front of the records appended and
-- some of those after the forced front forced, and the process stands for what that leaves.
pub record BrokenAs (n : Node) (h : Heard) (old new : CoreState) : Type 0 where
  pub effect : Effect
  pub does : reacts old.place n h ≡ Does effect
  pub appended : ℕ
  pub forced : ℕ
  pub stands : StandsFor (fails_in n h effect appended forced) new

-- where a process's device fails in an input, the model's process's may fail so too
abbrev pub BreaksAsTheModel : Type 0
BreaksAsTheModel = (n : Node) (old new : CoreState) (a : DataAnswer) (i : Input)
    → StandsFor n old → (n.failed ≡ false → ChildrenFit old.place n) → IsBroken old new a i
    → BrokenAs n (heard_now a i) old new

-- a process that opens an empty log stands for the model's process as it opens
abbrev pub OpenedStands : Type 0
OpenedStands = (place : Place) → StandsFor opened_node (opened_core place)
