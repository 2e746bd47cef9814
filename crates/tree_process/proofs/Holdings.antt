-- The data of a process: in what it handles, in a restart and in a trim.
use Rattle.std.proofs.Common.{◌≡◌, ◌≢◌, ℕ, true, false, Option, Some, None, List, [], Result, Ok, Err, IfOk, IfErr, OnOk, refl, subst}
use Rattle.protocol.specs.declared.names.ProcessId.{ProcessId}
use Rattle.protocol.specs.declared.events.Input.{Input}
use Rattle.protocol_words.specs.Variants.{ActInput, MessageInput}
use Rattle.protocol.specs.declared.events.Reaction.{Reaction}
use Rattle.protocol.specs.declared.events.StepError.{StepError}
use Rattle.protocol.specs.declared.events.StepError.TheVariants.{Device, Exhausted, Failed, Memory}
use Rattle.protocol.specs.declared.records.LogRecord.{LogRecord}
use Rattle.protocol.specs.Nodes.{DataAnswer, Written}
use Rattle.process_state.specs.States.{CoreState}
use Rattle.process_state.specs.Turns.{no_answer}
use Rattle.process_state.specs.Makes.{ProcessMakes, NotMade}
use Rattle.tree_state.specs.Worlds.{AnswersData, HandlesData, HandlesInput, HoldsPromises, KeepsBytes, RestartsData, TrimsData}
use Rattle.tree_state.specs.Steps.{KeepsSoundLog}
use Rattle.process_state.specs.Restarting.{ProcessNotRestarted, ProcessNotTrimmed}
use Rattle.log_records.specs.Sights.{left_by}
use Rattle.tree_state.specs.Faults.{WritesBelow}
use Rattle.tree_process.specs.Restarts.{NoRestart, NoTrim}
use Rattle.coord_process.specs.States.{CoordinatorValue, role_below, state}
use Rattle.coord_process.specs.Turned.{IsBrokenUnder}
use Rattle.resource_manager.specs.Data.{ManagerData, DataRests, no_data}
use Rattle.resource_manager.specs.Sights.{manager_data}
use Rattle.resource_manager.specs.Turns.{AnswersInput, MovesData, case_xid, data_turn}
use Rattle.sub_work.specs.Deeds.{KeepsManager}
use Rattle.sub_work.proofs.Known.{kept_known}
use Rattle.sub_process.specs.Subordinates.{SubState, core_of}
use Rattle.sub_process.specs.Steps.{InputLeaves, LeavesPromises, data_answer}
use Rattle.tree_process.specs.Nodes.{FailsUnder, HasAnswer, KeepsDataUnlessFailed, NotHandled}
use Rattle.tree_process.proofs.Same.{rests}

-- A coordinator has no data.

none_answer : (parent : Option ProcessId) (d : ManagerData) (s : CoreState) (i : Input)
    → AnswersData (role_below parent) d s no_answer i
none_answer None d s i = refl
none_answer (Some p) d s i = refl

none_handle : (parent : Option ProcessId) (d e : ManagerData) (s : CoreState) (i : Input)
    → HandlesData (role_below parent) d e s no_answer i
none_handle None d e s i = refl
none_handle (Some p) d e s i = refl

pub none_restart : (parent : Option ProcessId) (ls : List LogRecord) (d : ManagerData)
    → RestartsData (role_below parent) ls d
none_restart None ls d = tt
none_restart (Some p) ls d = tt

pub none_trimmed : (parent : Option ProcessId) (d e : ManagerData) → TrimsData (role_below parent) d e
none_trimmed None d e = tt
none_trimmed (Some p) d e = tt

pub coordinator_handles : (v w : CoordinatorValue) (i : Input) (r : Result Reaction StepError)
    → IfOk r (ProcessMakes (state v) (state w) no_answer i)
    → IfOk r (HandlesInput (state v) (state w) no_data no_data i)
coordinator_handles v w i (Ok r) h = record {
  answer = no_answer;
  makes = h;
  holdings = none_handle v.parent no_data no_data (state v) i;
}
coordinator_handles v w i (Err e) h = tt

pub coordinator_stops : (v w : CoordinatorValue) (i : Input) (r : Result Reaction StepError)
    → IfErr r (NotMade (state v) (state w) no_answer i)
    → IfErr r (NotHandled (state v) (state w) no_data no_data i)
coordinator_stops v w i (Ok r) h = tt
coordinator_stops v w i (Err e) h = record {
  answer = no_answer;
  answers = none_answer v.parent no_data (state v) i;
  not_made = h;
  keeps = λ _. rests no_data;
}

-- a coordinator's device fails under a record
writes_below : (parent : Option ProcessId) (ws : List Written) → ws ≢ [] → WritesBelow (role_below parent) ws
writes_below None ws some = tt
writes_below (Some p) ws some = some

pub coordinator_fails : (v w : CoordinatorValue) (i : Input) (r : Result Reaction StepError)
    → IfErr r (λ e. e ≡ Device → IsBrokenUnder (state v) (state w) i)
    → IfErr r (λ e. e ≡ Device → FailsUnder (state v) (state w) no_data i)
coordinator_fails v w i (Ok r) h = tt
coordinator_fails v w i (Err e) h = λ is.
    let under = h is in
    record {
      answer = no_answer;
      answers = none_answer v.parent no_data (state v) i;
      broken = under.broken;
      writes = writes_below v.parent under.broken.breaks.0.written under.writes;
    }

pub coordinator_answers : (v : CoordinatorValue) (i : Input) → HasAnswer (state v) no_data i
coordinator_answers v i = (no_answer, none_answer v.parent no_data (state v) i)

pub manager_answers : (s : SubState) (i : Input)
    → AnswersInput (core_of s) (manager_data s.manager) (case_xid s.parent) i (data_answer s i)
    → HasAnswer (core_of s) (manager_data s.manager) i
manager_answers s i answers = (data_answer s i, answers)

-- A manager's data answer, and are left so.

moves_so : (s t : SubState) (i : Input) → InputLeaves i s t
    → MovesData (manager_data s.manager) (manager_data t.manager) (case_xid s.parent)
    (data_turn (core_of s) (data_answer s i) i)
moves_so s t (ActInput a) leaves = leaves
moves_so s t (MessageInput k m) leaves = leaves

pub manager_handles : (s t : SubState) (i : Input) (r : Result Reaction StepError)
    → AnswersInput (core_of s) (manager_data s.manager) (case_xid s.parent) i (data_answer s i)
    → IfOk r (ProcessMakes (core_of s) (core_of t) (data_answer s i) i) → OnOk r (InputLeaves i s t)
    → IfOk r (HandlesInput (core_of s) (core_of t) (manager_data s.manager) (manager_data t.manager) i)
manager_handles s t i (Ok r) answers makes leaves = record {
  answer = data_answer s i;
  makes = makes;
  holdings = (answers, moves_so s t i leaves);
}
manager_handles s t i (Err e) answers makes leaves = tt

kept_data : (s t : SubState) → KeepsManager s.manager t.manager
    → DataRests (manager_data s.manager) (manager_data t.manager)
kept_data s t keeps = record {
  keeps = record { writes = keeps.rest.writes; holders = keeps.rest.holders };
  known = kept_known s.manager t.manager keeps;
}

pub kept_by : (s t : SubState) (e : StepError) → (e ≢ Device → KeepsManager s.manager t.manager)
    → KeepsDataUnlessFailed (manager_data s.manager) (manager_data t.manager) e
kept_by s t e keeps = λ other. kept_data s t (keeps other)

pub manager_stops : (s t : SubState) (i : Input) (r : Result Reaction StepError)
    → AnswersInput (core_of s) (manager_data s.manager) (case_xid s.parent) i (data_answer s i)
    → IfErr r (NotMade (core_of s) (core_of t) (data_answer s i) i)
    → IfErr r (λ e. e ≢ Device → KeepsManager s.manager t.manager)
    → IfErr r (NotHandled (core_of s) (core_of t) (manager_data s.manager) (manager_data t.manager) i)
manager_stops s t i (Ok r) answers not_made keeps = tt
manager_stops s t i (Err e) answers not_made keeps = record {
  answer = data_answer s i;
  answers = answers;
  not_made = not_made;
  keeps = kept_by s t e keeps;
}

pub manager_fails : (s t : SubState) (i : Input) (r : Result Reaction StepError)
    → AnswersInput (core_of s) (manager_data s.manager) (case_xid s.parent) i (data_answer s i)
    → IfErr r (NotMade (core_of s) (core_of t) (data_answer s i) i)
    → IfErr r (λ e. e ≡ Device → FailsUnder (core_of s) (core_of t) (manager_data s.manager) i)
manager_fails s t i (Ok r) answers not_made = tt
manager_fails s t i (Err e) answers not_made = λ is.
    record {
      answer = data_answer s i;
      answers = answers;
      broken = subst (NotMade (core_of s) (core_of t) (data_answer s i) i) is not_made;
      writes = tt;
    }

-- Restarts and trims.

pub coordinator_restarts : (parent : Option ProcessId) (ls : List LogRecord) (r : Result Reaction StepError)
    → OnOk r (RestartsData (role_below parent) ls no_data)
coordinator_restarts parent ls (Ok r) = none_restart parent ls no_data
coordinator_restarts parent ls (Err e) = tt

pub coordinator_trims : (parent : Option ProcessId) (r : Result ℕ StepError)
    → OnOk r (TrimsData (role_below parent) no_data no_data)
coordinator_trims parent (Ok n) = none_trimmed parent no_data no_data
coordinator_trims parent (Err e) = tt

pub nothing_kept : {A : Type 0} (r : Result A StepError) → IfErr r (KeepsDataUnlessFailed no_data no_data)
nothing_kept (Ok a) = tt
nothing_kept (Err e) = λ _. rests no_data

pub manager_restarts : (s t : SubState) (keep : ℕ) (r : Result Reaction StepError)
    → OnOk r (LeavesPromises s keep t)
    → OnOk r (HoldsPromises (left_by s.manager.log keep) (manager_data t.manager))
manager_restarts s t keep (Ok r) leaves =
    record { writes = leaves.writes; held = leaves.held; known = leaves.known }
manager_restarts s t keep (Err e) leaves = tt

pub manager_trims : (s t : SubState) (r : Result ℕ StepError) → OnOk r (KeepsManager s.manager t.manager)
    → OnOk r (DataRests (manager_data s.manager) (manager_data t.manager))
manager_trims s t (Ok n) keeps = kept_data s t keeps
manager_trims s t (Err e) keeps = tt

pub manager_kept : {A : Type 0} (s t : SubState) (r : Result A StepError)
    → IfErr r (λ e. e ≢ Device → KeepsManager s.manager t.manager)
    → IfErr r (KeepsDataUnlessFailed (manager_data s.manager) (manager_data t.manager))
manager_kept s t (Ok a) keeps = tt
manager_kept s t (Err e) keeps = kept_by s t e keeps

pub no_restart_so : (s t : CoreState) (d f : ManagerData) (keep : ℕ) (bytes : Option ℕ) (e : StepError)
    → KeepsBytes s bytes keep → ProcessNotRestarted s keep t e → KeepsDataUnlessFailed d f e
    → NoRestart s t d f bytes e
no_restart_so s t d f keep bytes Memory k h keeps = (h, keeps (λ is. absurd cc))
no_restart_so s t d f keep bytes Device k h keeps = record { keep = keep; keeps = k; broken = h }
no_restart_so s t d f keep bytes Exhausted k h keeps = (h.0, keeps (λ is. absurd cc), (keep, k, h.1))
no_restart_so s t d f keep bytes _ k h keeps = absurd h

pub no_trim_so : (s t : CoreState) (d f : ManagerData) (e : StepError) → s.log.failed ≡ false
    → KeepsSoundLog s
    → ProcessNotTrimmed s t e → KeepsDataUnlessFailed d f e → NoTrim s t d f e
no_trim_so s t d f Memory works sound h keeps = (h, keeps (λ is. absurd cc))
no_trim_so s t d f Device works sound h keeps = record { works = works; sound = sound; broken = h }
no_trim_so s t d f Failed works sound h keeps = (h.0, keeps (λ is. absurd cc), h.1)
no_trim_so s t d f _ works sound h keeps = absurd h
