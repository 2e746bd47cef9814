-- What a process makes under its own lock.
use Rattle.std.specs.Prelude.{◌≡◌, ◌≢◌, ⊤, ℕ, None, true}
use Rattle.protocol.specs.declared.names.ProcessId.{ProcessId}
use Rattle.protocol.specs.declared.events.JournalEntry.{JournalEntry}
use Rattle.protocol.specs.declared.events.Happening.{Happening}
use Rattle.protocol.specs.declared.events.Happening.TheVariants.{Restart, Trim}
use Rattle.protocol_words.specs.Variants.{Handles}
use Rattle.protocol.specs.declared.events.Input.{Input}
use Rattle.protocol.specs.declared.events.StepError.{StepError}
use Rattle.protocol.specs.declared.events.StepError.TheVariants.{Device, Exhausted, Failed, Memory}
use Rattle.protocol.specs.Nodes.{DataAnswer}
use Rattle.process_state.specs.States.{CoreState, SameCore}
use Rattle.process_state.specs.Makes.{NotMade}
use Rattle.process_state.specs.Restarting.{CannotReopen}
use Rattle.tree_state.specs.Steps.{records_kept}
use Rattle.tree_state.specs.Worlds.{AnswersData}
use Rattle.resource_manager.specs.Data.{ManagerData, DataRests}

-- the entry is of a step of this process in which no device failed
pub record IsAt (q : ProcessId) (x : JournalEntry) : Type 0 where
  pub process : x.step.process ≡ q
  pub unfailed : x.step.fault ≡ None

-- a restart shows how many records it keeps
abbrev pub FitsNode : CoreState → ℕ → Happening → Type 0
FitsNode s keep (Restart k) = k ≡ records_kept s keep
FitsNode s keep _ = ⊤

-- an input is refused by the table of reactions, as the process's data answer it, or for memory or for
-- numbers that are used up
pub record RefusesIt (old new : CoreState) (before : ManagerData) (i : Input) (e : StepError) : Type 0 where
  pub answer : DataAnswer
  pub answers : AnswersData old.place.role before old answer i
  pub why : NotMade old new answer i e
  pub no_device : e ≢ Device

-- why it was not trimmed: for memory, or because it has failed
abbrev pub NotTrimmedIt : CoreState → StepError → Type 0
NotTrimmedIt old Memory = ⊤
NotTrimmedIt old Failed = old.log.failed ≡ true
NotTrimmedIt old e = ⊥

-- why it was not restarted: for memory, or because no log holds what its restart would append
abbrev pub NotRestartedFor : CoreState → StepError → Type 0
NotRestartedFor old Memory = ⊤
NotRestartedFor old Exhausted = (keep : ℕ) × CannotReopen old keep
NotRestartedFor old e = ⊥

-- why what happens was not made
abbrev pub WhyNot : CoreState → CoreState → ManagerData → Happening → StepError → Type 0
WhyNot old new before (Handles i) e = RefusesIt old new before i e
WhyNot old new before (Restart k) e = NotRestartedFor old e
WhyNot old new before Trim e = NotTrimmedIt old e

-- what happens was not made, and the process is as it was, with its data
pub record NotMadeIt (old new : CoreState) (before behind : ManagerData) (h : Happening)
    (e : StepError) : Type 0 where
  pub same : SameCore old new
  pub rests : DataRests before behind
  pub why : WhyNot old new before h e
