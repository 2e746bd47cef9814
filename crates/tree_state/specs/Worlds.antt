-- A tree that runs: its processes, every message ever sent, and every step made. What each event makes of it.
use Rattle.std.specs.Prelude.{◌≡◌, ◌+◌, ◌<◌, ⊤, ℕ, zero, suc, Bool, true, false, Option, Some, None, List, [], ◌∷◌, ◌++◌, slice_set, map}
use Rattle.xa_xid.specs.declared.xid.Xid.{Xid}
use Rattle.protocol.specs.declared.records.LogRecord.{LogRecord}
use Rattle.protocol.specs.declared.names.Case.{Case}
use Rattle.protocol.specs.declared.names.ProcessId.{ProcessId}
use Rattle.protocol.specs.declared.messages.Envelope.{Envelope}
use Rattle.protocol.specs.declared.events.Act.{Act}
use Rattle.protocol.specs.declared.events.Input.{Input}
use Rattle.protocol_words.specs.Variants.{ActInput, ActOf, Handles, MessageInput, Trimming}
use Rattle.protocol.specs.declared.events.Event.{Event}
use Rattle.protocol.specs.declared.events.Event.TheVariants.{Deliver, Settle, Restart, Trim}
use Rattle.protocol.specs.declared.events.Happening.{Happening}
use Rattle.protocol.specs.declared.events.JournalEntry.{JournalEntry}
use Rattle.protocol.specs.declared.events.Reaction.{Reaction}
use Rattle.protocol.specs.declared.events.StepError.{StepError}
use Rattle.protocol.specs.declared.events.StepError.TheVariants.{Memory, Device, Failed, NoSuch, Exhausted}
use Rattle.protocol.specs.declared.trees.TreeProcess.{TreeProcess}
use Rattle.protocol.specs.Names.{same_process}
use Rattle.protocol.specs.Nodes.{AtLeaf, DataAnswer, Role}
use Rattle.protocol.specs.Trees.{root_of}
use Rattle.protocol.specs.Plays.{process_of_act, sent_as}
use Rattle.log_records.specs.Sights.{left_by, records_of}
use Rattle.process_state.specs.States.{CoreState, SameCore}
use Rattle.process_state.specs.Turns.{FindsChildCase, Refuses, asked_by, no_answer, turn_of}
use Rattle.process_state.specs.Makes.{IsBroken, ProcessMakes, WantsNumbers}
use Rattle.process_state.specs.Restarting.{CannotReopen, ProcessNotRestarted, ProcessNotTrimmed, ProcessRestarts, ProcessTrims}
use Rattle.resource_manager.specs.Data.{HoldWrites, ManagerData, DataRests}
use Rattle.resource_manager.specs.Turns.{AnswersInput, MovesData, case_xid, data_turn}
use Rattle.resource_manager.specs.Restarting.{is_left, writes_left}
use Rattle.tree_state.specs.Steps.{KeepsSoundLog, restart_of, trim_reaction}

-- The tree, what each process keeps, the data of each manager (of a coordinator this says nothing), every
-- message ever sent (the first has number 1) with the mark whether it was delivered, and every step that was
-- made with its reaction.
pub record WorldState : Type 0 where
  pub tree : List TreeProcess
  pub node_at : ProcessId → Option CoreState
  pub data_at : ProcessId → ManagerData
  pub net : List Envelope
  pub delivered : List Bool
  pub entries : List JournalEntry

-- One step.

-- a manager's data answer so to an input; a coordinator has none, and nothing is answered
abbrev pub AnswersData : Role → ManagerData → CoreState → DataAnswer → Input → Type 0
AnswersData (AtLeaf p) before s a input = AnswersInput s before (case_xid p) input a
AnswersData _ before s a input = a ≡ no_answer

-- the data answer so, and after the input they are what it makes of them
abbrev pub HandlesData : Role → ManagerData → ManagerData → CoreState → DataAnswer → Input → Type 0
HandlesData (AtLeaf p) before behind s a input =
    AnswersInput s before (case_xid p) input a × MovesData before behind (case_xid p) (data_turn s a input)
HandlesData _ before behind s a input = a ≡ no_answer

-- a process makes an input, with what its manager's data answer to it
pub record HandlesInput (old new : CoreState) (before behind : ManagerData) (input : Input)
    (reaction : Reaction) : Type 0 where
  pub answer : DataAnswer
  pub makes : ProcessMakes old new answer input reaction
  pub holdings : HandlesData old.place.role before behind old answer input

-- of the processes this one alone moves, from the first state to the second
pub record MovesNode (old new : WorldState) (q : ProcessId) (before behind : CoreState) : Type 0 where
  pub tree : new.tree ≡ old.tree
  pub stood : old.node_at q ≡ Some before
  pub stands : new.node_at q ≡ Some behind
  pub others : (p : ProcessId) → same_process q p ≡ false → new.node_at p ≡ old.node_at p
  pub others_data : (p : ProcessId) → same_process q p ≡ false → new.data_at p ≡ old.data_at p

-- the journal's entry of what happened at a process
abbrev pub step_entry : ProcessId → Happening → Reaction → JournalEntry
step_entry q happening reaction =
    record { step = record { process = q; happening = happening; fault = None }; reaction = reaction }

-- the journal's entry of an input
abbrev pub entry_at : ProcessId → Input → Reaction → JournalEntry
entry_at q input reaction = step_entry q (Handles input) reaction

-- the marks of messages that were just sent
abbrev pub undelivered : List Envelope → List Bool
undelivered ls = map (λ l. false) ls

-- a step was entered: its messages are sent, and the journal has one entry more
pub record Enters (old new : WorldState) (q : ProcessId) (happening : Happening) (reaction : Reaction)
    (marked : List Bool) : Type 0 where
  pub net : new.net ≡ old.net ++ reaction.messages
  pub delivered : new.delivered ≡ marked ++ undelivered reaction.messages
  pub entries : new.entries ≡ old.entries ++ step_entry q happening reaction ∷ []

-- a process handles an input, and the step is entered
pub record TreeSteps (old new : WorldState) (q : ProcessId) (input : Input)
    (marked : List Bool) : Type 0 where
  pub before : CoreState
  pub behind : CoreState
  pub reaction : Reaction
  pub moves : MovesNode old new q before behind
  pub handles : HandlesInput before behind (old.data_at q) (new.data_at q) input reaction
  pub enters : Enters old new q (Handles input) reaction marked

-- N bytes after the forced front are kept as a restart names; all of its records, where it names none
abbrev pub KeepsBytes : CoreState → Option ℕ → ℕ → Type 0
KeepsBytes s (Some bytes) keep = keep ≡ bytes
KeepsBytes s None keep = left_by s.log keep ≡ records_of s.log.kept

-- after a restart where these records are left, each branch of a manager that is in doubt has written and
-- holds what it promised, and nothing else is written or held; those in doubt and those that an operator
-- decided are known
pub record HoldsPromises (left : List LogRecord) (behind : ManagerData) : Type 0 where
  pub writes : (x : Xid) → behind.writes x ≡ writes_left left x
  pub held : HoldWrites (writes_left left) behind.holders
  pub known : (x : Xid) → behind.known x ≡ is_left left x

-- after a restart where these records are left, a manager's data have what its branches in doubt promised;
-- a coordinator has no data
abbrev pub RestartsData : Role → List LogRecord → ManagerData → Type 0
RestartsData (AtLeaf p) left behind = HoldsPromises left behind
RestartsData _ left behind = ⊤

-- a trim leaves the data of a manager as they are
abbrev pub TrimsData : Role → ManagerData → ManagerData → Type 0
TrimsData (AtLeaf p) before behind = DataRests before behind
TrimsData _ before behind = ⊤

-- a process restarts, and the step is entered, with the number of its unforced records that were kept
pub record RestartsAt (old new : WorldState) (q : ProcessId) (bytes : Option ℕ) : Type 0 where
  pub before : CoreState
  pub behind : CoreState
  pub keep : ℕ
  pub reaction : Reaction
  pub moves : MovesNode old new q before behind
  pub keeps : KeepsBytes before bytes keep
  pub restarts : ProcessRestarts before keep behind reaction
  pub holdings : RestartsData before.place.role (left_by before.log keep) (new.data_at q)
  pub enters : Enters old new q (restart_of before keep) reaction old.delivered

-- the log of a process that is up, and whose records can be in one, is trimmed, and the step is entered,
-- with the number of records that remain
pub record TrimsAt (old new : WorldState) (q : ProcessId) : Type 0 where
  pub before : CoreState
  pub behind : CoreState
  pub remain : ℕ
  pub moves : MovesNode old new q before behind
  pub works : before.log.failed ≡ false
  pub sound : KeepsSoundLog before
  pub trims : ProcessTrims before behind remain
  pub holdings : TrimsData before.place.role (old.data_at q) (new.data_at q)
  pub enters : Enters old new q Trimming (trim_reaction remain) old.delivered

-- Events.

-- the mark of the message with this number is set
abbrev pub marks : List Bool → ℕ → List Bool
marks bs zero = bs
marks bs (suc k) = slice_set bs k true

-- the message with this number is delivered
pub record Delivers (old new : WorldState) (k : ℕ) : Type 0 where
  pub envelope : Envelope
  pub sent : sent_as old.net k ≡ Some envelope
  pub steps : TreeSteps old new envelope.to (MessageInput k envelope.message) (marks old.delivered k)

-- the number of the first message that was not delivered, the marks being those from this number on
abbrev pub least_open : ℕ → List Bool → Option ℕ
least_open k [] = None
least_open k (true ∷ bs) = least_open (k + 1) bs
least_open k (false ∷ bs) = Some k

-- the message with this number is delivered, and then it goes on; without a number nothing is
abbrev pub settles_by : WorldState → WorldState → (WorldState → Type 0) → Option ℕ → Type 0
settles_by old new again None = new ≡ old
settles_by old new again (Some k) = (mid : WorldState) × Delivers old mid k × again mid

-- N times at most the least numbered message that was not delivered is
abbrev pub Settles : ℕ → WorldState → WorldState → Type 0
Settles zero old new = new ≡ old
Settles (suc n) old new = settles_by old new (λ mid. Settles n mid new) (least_open 1 old.delivered)

-- an event was made
abbrev pub Applies : WorldState → Event → WorldState → Type 0
Applies old (ActOf a) new = TreeSteps old new (process_of_act (root_of old.tree) a) (ActInput a) old.delivered
Applies old (Deliver k) new = Delivers old new k
Applies old Settle new = Settles 10000 old new
Applies old (Restart q bytes) new = RestartsAt old new q bytes
Applies old (Trim q) new = TrimsAt old new q

-- Refusals.

-- at each process the same, in which nothing is otherwise
abbrev pub SameNode : Option CoreState → Option CoreState → Type 0
SameNode None None = Unit {0}
SameNode (Some s) (Some t) = SameCore s t
SameNode _ _ = ⊥

-- nothing is otherwise
pub record SameTree (old new : WorldState) : Type 0 where
  pub tree : new.tree ≡ old.tree
  pub nodes : (q : ProcessId) → SameNode (old.node_at q) (new.node_at q)
  pub holdings : (q : ProcessId) → DataRests (old.data_at q) (new.data_at q)
  pub net : new.net ≡ old.net
  pub delivered : new.delivered ≡ old.delivered
  pub entries : new.entries ≡ old.entries

-- Why a process refuses an input: there is no such process, or the input meets this refusal. Whatever the
-- data answer, it is the same.
abbrev pub RefusesAt : Option CoreState → Input → StepError → Type 0
RefusesAt None i e = e ≡ NoSuch
RefusesAt (Some s) i e = (a : DataAnswer) × (found : Option Case) × FindsChildCase s (asked_by i) found
    × (turn_of s a found i ≡ Refuses e)

-- why a message is not delivered: there is none with the number, or its process refuses it
abbrev pub RefusesMessage : WorldState → ℕ → Option Envelope → StepError → Type 0
RefusesMessage w k None e = e ≡ NoSuch
RefusesMessage w k (Some l) e = RefusesAt (w.node_at l.to) (MessageInput k l.message) e

-- the device of the process failed under an input; the step was not entered
pub record DeviceFails (old new : WorldState) (q : ProcessId) (input : Input) : Type 0 where
  pub before : CoreState
  pub behind : CoreState
  pub moves : MovesNode old new q before behind
  pub answer : DataAnswer
  pub answers : AnswersData before.place.role (old.data_at q) before answer input
  pub broken : IsBroken before behind answer input
  pub net : new.net ≡ old.net
  pub delivered : new.delivered ≡ old.delivered
  pub entries : new.entries ≡ old.entries

-- the device of the receiver failed under the message
abbrev pub DeviceFailsUnder : WorldState → WorldState → ℕ → Option Envelope → Type 0
DeviceFailsUnder old new k None = ⊥
DeviceFailsUnder old new k (Some l) = DeviceFails old new l.to (MessageInput k l.message)

-- there is a process with these data, at which the input, as they answer it, wants numbers that are used up
abbrev pub WantsNumbersAt : Option CoreState → ManagerData → Input → Type 0
WantsNumbersAt None d i = ⊥
WantsNumbersAt (Some s) d i = (a : DataAnswer) × AnswersData s.place.role d s a i × WantsNumbers s a i

-- the receiver of the message has none left for it
abbrev pub WantsNumbersFor : WorldState → ℕ → Option Envelope → Type 0
WantsNumbersFor w k None = ⊥
WantsNumbersFor w k (Some l) = WantsNumbersAt (w.node_at l.to) (w.data_at l.to) (MessageInput k l.message)

-- why one message was not delivered, and what that leaves: Memory, numbers that are used up and a refusal
-- change nothing
abbrev pub NotDelivered : WorldState → WorldState → ℕ → StepError → Type 0
NotDelivered old new k Memory = SameTree old new
NotDelivered old new k Device = DeviceFailsUnder old new k (sent_as old.net k)
NotDelivered old new k Exhausted = SameTree old new × WantsNumbersFor old k (sent_as old.net k)
NotDelivered old new k e = SameTree old new × RefusesMessage old k (sent_as old.net k) e

-- why an act was not made, and what that leaves
abbrev pub NotActed : WorldState → WorldState → ProcessId → Act → StepError → Type 0
NotActed old new q a Memory = SameTree old new
NotActed old new q a Device = DeviceFails old new q (ActInput a)
NotActed old new q a Exhausted = SameTree old new
    × WantsNumbersAt (old.node_at q) (old.data_at q) (ActInput a)
NotActed old new q a e = SameTree old new × RefusesAt (old.node_at q) (ActInput a) e

-- a settle went no further: for memory, also as it looked for the next message, or as that one was not
-- delivered
abbrev pub NoneDelivered : WorldState → WorldState → StepError → Option ℕ → Type 0
NoneDelivered old new e None = (e ≡ Memory) × SameTree old new
NoneDelivered old new e (Some k) = NotDelivered old new k e

-- a settle ended within: what it had delivered stands
pub record SettleStops (limit : ℕ) (old new : WorldState) (e : StepError) : Type 0 where
  pub count : ℕ
  pub within : count < limit
  pub before : WorldState
  pub settles : Settles count old before
  pub stops : NoneDelivered before new e (least_open 1 before.delivered)

-- the device of the process failed in its restart; the step was not entered
pub record RestartFails (old new : WorldState) (q : ProcessId) (bytes : Option ℕ) : Type 0 where
  pub before : CoreState
  pub behind : CoreState
  pub keep : ℕ
  pub moves : MovesNode old new q before behind
  pub keeps : KeepsBytes before bytes keep
  pub broken : ProcessNotRestarted before keep behind Device
  pub net : new.net ≡ old.net
  pub delivered : new.delivered ≡ old.delivered
  pub entries : new.entries ≡ old.entries

-- there is a process that cannot append to its log what such a restart would
abbrev pub CannotReopenAt : Option CoreState → Option ℕ → Type 0
CannotReopenAt None bytes = ⊥
CannotReopenAt (Some s) bytes = (keep : ℕ) × KeepsBytes s bytes keep × CannotReopen s keep

-- why a process was not restarted, and what that leaves: there is no such process, or Memory, or no log holds
-- what its restart would append, none of which changes anything, or its device failed
abbrev pub NotRestartedAt : WorldState → WorldState → ProcessId → Option ℕ → StepError → Type 0
NotRestartedAt old new q bytes Memory = SameTree old new
NotRestartedAt old new q bytes Device = RestartFails old new q bytes
NotRestartedAt old new q bytes NoSuch = SameTree old new × (old.node_at q ≡ None)
NotRestartedAt old new q bytes Exhausted = SameTree old new × CannotReopenAt (old.node_at q) bytes
NotRestartedAt old new q bytes e = ⊥

-- the device of the process failed in a trim of its log; the step was not entered
pub record TrimFails (old new : WorldState) (q : ProcessId) : Type 0 where
  pub before : CoreState
  pub behind : CoreState
  pub moves : MovesNode old new q before behind
  pub works : before.log.failed ≡ false
  pub sound : KeepsSoundLog before
  pub broken : ProcessNotTrimmed before behind Device
  pub net : new.net ≡ old.net
  pub delivered : new.delivered ≡ old.delivered
  pub entries : new.entries ≡ old.entries

-- there is a process, and its device failed
abbrev pub HasFailed : Option CoreState → Type 0
HasFailed None = ⊥
HasFailed (Some s) = s.log.failed ≡ true

-- why a process was not trimmed, and what that leaves: there is no such process, or it has failed, or Memory,
-- none of which changes anything, or its device failed now
abbrev pub NotTrimmedAt : WorldState → WorldState → ProcessId → StepError → Type 0
NotTrimmedAt old new q Memory = SameTree old new
NotTrimmedAt old new q Device = TrimFails old new q
NotTrimmedAt old new q Failed = SameTree old new × HasFailed (old.node_at q)
NotTrimmedAt old new q NoSuch = SameTree old new × (old.node_at q ≡ None)
NotTrimmedAt old new q e = ⊥

-- an event was not made, for this error, and this is left
abbrev pub Stops : WorldState → Event → StepError → WorldState → Type 0
Stops old (ActOf a) e new = NotActed old new (process_of_act (root_of old.tree) a) a e
Stops old (Deliver k) e new = NotDelivered old new k e
Stops old Settle e new = SettleStops 10000 old new e
Stops old (Restart q bytes) e new = NotRestartedAt old new q bytes e
Stops old (Trim q) e new = NotTrimmedAt old new q e
