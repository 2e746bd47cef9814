-- A step of a subordinate: one input, as `process_state` says of any process.
use Rattle.std.specs.Prelude.{◌≡◌, ◌≤◌, ◌+◌, ◌-◌, ◌^◌, ⊤, ℕ, false, List, length, take}
use Rattle.xa_codes.specs.declared.code.Code.{Code}
use Rattle.xa_codes.specs.declared.code.Code.TheVariants.{RmFail}
use Rattle.xa_assoc.specs.Answers.{OpensManager}
use Rattle.xa_xid.specs.declared.xid.Xid.{Xid}
use Rattle.protocol.specs.declared.records.LogRecord.{LogRecord}
use Rattle.protocol.specs.declared.events.Act.{Act}
use Rattle.protocol.specs.declared.events.Input.{Input}
use Rattle.protocol_words.specs.Variants.{ActInput, MessageInput}
use Rattle.protocol.specs.declared.events.Reaction.{Reaction}
use Rattle.protocol.specs.declared.events.StepError.{StepError}
use Rattle.protocol_words.specs.step_error
use Rattle.protocol.specs.LogNames.{own_records}
use Rattle.protocol.specs.Records.{boot_of}
use Rattle.protocol.specs.Nodes.{DataAnswer, Place}
use Rattle.process_state.specs.States.{CoreState}
use Rattle.process_state.specs.Turns.{Turn, manager_act, no_answer}
use Rattle.log_records.specs.Sights.{left_by}
use Rattle.resource_manager.specs.Restarting.{RestartsManager, is_left, writes_left}
use Rattle.resource_manager.specs.Sights.{ManagerCalls, ManagerSight, manager_data}
use Rattle.resource_manager.specs.Data.{HoldWrites}
use Rattle.resource_manager.specs.Turns.{MovesData, act_data}
use Rattle.sub_branches.specs.declared.names.RebuildError.{RebuildError}
use Rattle.sub_branches.specs.declared.names.RebuildError.TheVariants as rebuilds
use Rattle.sub_branches.specs.Rebuilt.{AreFit}
use Rattle.sub_process.specs.Subordinates.{NotTurned, SubState, SubValue, Turns, MovesWrites, answer_for, core_of, seen, xid_of}

-- the process that a subordinate is
abbrev pub state : {M : Type 0} → (M → ManagerSight) → SubValue M → CoreState
state sight s = core_of (seen sight s)

-- what the manager's data answer to an input; to an act they answer nothing
abbrev pub data_answer : SubState → Input → DataAnswer
data_answer s (ActInput a) = no_answer
data_answer s (MessageInput k m) = answer_for s m

-- what an act leaves of the writes and of the keys that are held: a branch that an operator decides has none
-- of them any more
abbrev pub ActLeaves : Act → SubState → SubState → Type 0
ActLeaves a old new = MovesData (manager_data old.manager) (manager_data new.manager) (λ c. xid_of old c)
    (act_data (core_of old) a)

-- what an input leaves of them
abbrev pub InputLeaves : Input → SubState → SubState → Type 0
InputLeaves (ActInput a) old new = ActLeaves a old new
InputLeaves (MessageInput k m) old new = MovesWrites old new m

-- what an act meets
abbrev pub turn_at : SubState → Act → Turn
turn_at s a = manager_act (core_of s) s.parent a

-- an act was made, with what it leaves of the writes, and this is the reaction to show
pub record Acts (old new : SubState) (a : Act) (reaction : Reaction) : Type 0 where
  pub turns : Turns old new (ActInput a) (turn_at old a) reaction
  pub writes : ActLeaves a old new

-- why an act was not made, and what that leaves
abbrev pub NotActed : SubState → SubState → Act → StepError → Type 0
NotActed old new a e = NotTurned old new (turn_at old a) e

-- a manager restarted after a crash that kept N unforced bytes, and was opened
pub record Reopens (old new : ManagerSight) (keep : ℕ) : Type 0 where
  pub mid : ManagerSight
  pub restarts : RestartsManager old mid keep
  pub answer : Code
  pub calls : ManagerCalls mid new (answer ≡ RmFail) (λ old new. OpensManager old new 0 false answer)

-- the records of the log of a manager that restarted, but for the last, which is that of its boot
abbrev pub left_before : ManagerSight → List LogRecord
left_before m = take (length (left_by m.log 0) - 1) (left_by m.log 0)

-- where these records were left, each branch that is in doubt by them has the writes that it promised, and no
-- other branch has any; it holds their keys, and nothing else is held; and those in doubt and those that an
-- operator decided are known
pub record PromisesLeft (left : List LogRecord) (m : ManagerSight) : Type 0 where
  pub writes : (x : Xid) → m.writes x ≡ writes_left left x
  pub held : HoldWrites (writes_left left) m.holders
  pub known : (x : Xid) → (manager_data m).known x ≡ is_left left x

-- so it is after a restart, by the records that were left
abbrev pub LeavesPromises : SubState → ℕ → SubState → Type 0
LeavesPromises old keep new = PromisesLeft (left_by old.manager.log keep) new.manager

-- why no restart was made ready where these records are left: boots are used up where none below 2^63 comes
-- after the last one
abbrev pub NotReady : Place → List LogRecord → StepError → Type 0
NotReady place ls step_error.Memory = ⊤
NotReady place ls step_error.Exhausted = 2 ^ 63 ≤ boot_of (own_records place ls) + 1
NotReady place ls e = ⊥

-- why no process goes on over the log of a manager that restarted, but for want of memory: no such process
-- can have written the records that were left
abbrev pub NotReopenedOver : Place → ManagerSight → RebuildError → Type 0
NotReopenedOver place m rebuilds.Memory = ⊤
NotReopenedOver place m rebuilds.Unfit = AreFit place (left_before m) → ⊥
NotReopenedOver place m rebuilds.Exhausted = ⊥
