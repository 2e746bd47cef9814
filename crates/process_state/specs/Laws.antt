-- That the definitions of this crate fit one another.
use Rattle.std.specs.Prelude.{◌≡◌, ℕ, Option, None, [], ◌∷◌, false}
use Rattle.protocol.specs.declared.names.Case.{Case}
use Rattle.protocol.specs.declared.records.Record.TheVariants.{Opened}
use Rattle.protocol.specs.declared.events.Input.{Input}
use Rattle.protocol_words.specs.Variants.{MessageInput}
use Rattle.protocol.specs.declared.events.Reaction.{Reaction}
use Rattle.protocol.specs.declared.messages.Message.{Message}
use Rattle.log_records.specs.Sights.{left_by}
use Rattle.process_state.specs.Makes.{ProcessMakes}
use Rattle.protocol.specs.Nodes.{DataAnswer, Place}
use Rattle.protocol.specs.Standings.{unknown_branch, unknown_view}
use Rattle.process_state.specs.States.{CoreState, SameCore, forced_sight, form_of}
use Rattle.process_state.specs.Turns.{FindsChildCase, asked_by, reacted, turn_of}
use Rattle.process_state.specs.Restarting.{ReadOff, ProcessRestarts}

-- Two processes between which nothing is otherwise do the same with each input: rows see of a view no more
-- than views that say the same share.
abbrev pub SameCoresReactAlike : Type 0
SameCoresReactAlike = (s t : CoreState) (a : DataAnswer) (found : Option Case) (i : Input) → SameCore s t
    → reacted (turn_of s a found i) ≡ reacted (turn_of t a found i)

-- a child's case is found alike in two processes between which nothing is otherwise
abbrev pub SameCoresFindAlike : Type 0
SameCoresFindAlike = (s t : CoreState) (found : Option Case) (i : Input) → SameCore s t
    → FindsChildCase s (asked_by i) found → FindsChildCase t (asked_by i) found

-- a process as it opens an empty log
abbrev pub opened_core : Place → CoreState
opened_core place =
    record {
      place = place;
      log = forced_sight (form_of place) (record { entry = Opened 1; parent = None } ∷ []) 0;
      boot = 1;
      begun = 0;
      given = 0;
      ticket_for = λ d. None;
      view_of = λ c. unknown_view;
      branch_of = λ c. unknown_branch;
      decided_of = λ c. None;
      spent = false;
    }

-- it stands as its one record says
abbrev pub OpenedIsReadOff : Type 0
OpenedIsReadOff = (place : Place) → ReadOff (opened_core place) (Opened 1 ∷ [])

-- Which message of the net it was that came makes no difference to what a process makes of it.
abbrev pub NumbersAreAlike : Type 0
NumbersAreAlike = (old new : CoreState) (a : DataAnswer) (j k : ℕ) (m : Message) (reaction : Reaction)
    → ProcessMakes old new a (MessageInput j m) reaction → ProcessMakes old new a (MessageInput k m) reaction

-- What a restart makes rests on where the process sits, on the records that are left, and on how often its
-- device failed: not on what else the process kept before the crash.
abbrev pub LeftLogsRestartAlike : Type 0
LeftLogsRestartAlike = (s old : CoreState) (j k : ℕ) (new : CoreState) (reaction : Reaction)
    → old.place ≡ s.place → old.log.failures ≡ s.log.failures → left_by old.log k ≡ left_by s.log j
    → ProcessRestarts s j new reaction → ProcessRestarts old k new reaction
