-- Opening, restart and trim of a process.
use Rattle.std.specs.Prelude.{◌≡◌, ◌⊎◌, ℕ, true, List, [], ◌++◌, length, None}
use Rattle.std.specs.List.{AllByRecursion}
use Rattle.protocol.specs.declared.names.Case.{Case}
use Rattle.protocol.specs.declared.names.ProcessId.{ProcessId}
use Rattle.protocol.specs.declared.records.LogRecord.{LogRecord}
use Rattle.protocol.specs.declared.records.Record.{Record}
use Rattle.protocol.specs.declared.standings.Standing.TheVariants.{Heuristic}
use Rattle.protocol.specs.declared.events.Reaction.{Reaction}
use Rattle.protocol.specs.declared.events.StepError.{StepError}
use Rattle.protocol.specs.declared.events.StepError.TheVariants.{Memory, Device, Failed, Exhausted}
use Rattle.protocol.specs.LogNames.{own_records}
use Rattle.protocol.specs.Records.{boot_of, decision_of}
use Rattle.protocol.specs.Nodes.{Role, AtLeaf, Effect, Place, reaction_of}
use Rattle.protocol.specs.Standings.{CoordinatorView, ManagerView, unknown_branch, unknown_view}
use Rattle.protocol.specs.Restarts.{data_records, forced_all, recorded_branch, recorded_view, reopens, resumes}
use Rattle.protocol.specs.SameViews.{SameView}
use Rattle.log_store.specs.Stores.{MoreFailures}
use Rattle.log_rules.specs.sound.Sound.{IsSound}
use Rattle.log_records.specs.Trimming.{front_of_trim}
use Rattle.log_records.specs.Sights.{LogRestartBreaks, left_by, records_of}
use Rattle.process_state.specs.States.{CoreState, SameButLog, SameCore, forced_sight, form_of, kind_of_role, logged}
use Rattle.process_state.specs.Makes.{seen}

-- What records alone say.

-- how a case is at a coordinator by these records; a manager has no such views
abbrev pub recorded_view_at : Role → List Record → Case → CoordinatorView
recorded_view_at (AtLeaf p) rs c = unknown_view
recorded_view_at _ rs c = recorded_view rs c

-- how a case is at a manager by these records; a coordinator has no branches
abbrev pub recorded_branch_at : Role → List Record → Case → ManagerView
recorded_branch_at (AtLeaf p) rs c = recorded_branch rs c
recorded_branch_at _ rs c = unknown_branch

-- the process stands as these records say, and has heard nothing
pub record ReadOff (s : CoreState) (rs : List Record) : Type 0 where
  pub boot : s.boot ≡ boot_of rs
  pub begun : s.begun ≡ 0
  pub given : s.given ≡ 0
  pub tickets : (d : Case) → s.ticket_for d ≡ None
  pub views : (c : Case) → SameView (s.view_of c) (recorded_view_at s.place.role rs c)
  pub branches : (c : Case) → s.branch_of c ≡ recorded_branch_at s.place.role rs c
  pub decided : (c : Case) → (s.branch_of c).standing ≡ Heuristic → s.decided_of c ≡ decision_of rs c

-- the process's records, as it reads them of these of its log
abbrev pub read_of : CoreState → List LogRecord → List Record
read_of s ls = own_records s.place ls

-- Restart.

-- what a process of this role does as it restarts where these records are left
abbrev pub reopening : Role → ProcessId → List Record → Effect
reopening role me left =
    record {
      begun = None;
      written = forced_all (reopens role left);
      told = None;
      messages = resumes role me (left ++ reopens role left);
      accepts = [];
      counts = [];
      remains = None;
    }

-- the records that a restart appends where a crash keeps N bytes after the forced front
abbrev pub reopened : CoreState → ℕ → List Record
reopened s keep = reopens s.place.role (read_of s (left_by s.log keep))

-- the log that a restart leaves
abbrev pub restarted_log : CoreState → ℕ → List LogRecord
restarted_log s keep = left_by s.log keep ++ logged s (reopened s keep)

-- the process restarted: what a crash left stands, with what a restart appends, all of it forced; and it
-- stands as that says
pub record ProcessRestarts (old : CoreState) (keep : ℕ) (new : CoreState) (reaction : Reaction) : Type 0 where
  pub place : new.place ≡ old.place
  pub log : new.log ≡ forced_sight (form_of old.place) (restarted_log old keep) old.log.failures
  pub read : ReadOff new (read_of old (restarted_log old keep))
  pub shown : reaction ≡ reaction_of
      (reopening old.place.role old.place.me (read_of old (left_by old.log keep)))

-- a record that a restart appends can be in no log of this sort of process: no boot below 2^63 comes after
-- the last one, or an Abort names more than 255 tickets
abbrev pub CannotReopen : CoreState → ℕ → Type 0
CannotReopen s keep = AllByRecursion (IsSound (kind_of_role s.place.role)) (logged s (reopened s keep)) → ⊥

-- why a process did not restart, and what that leaves
abbrev pub ProcessNotRestarted : CoreState → ℕ → CoreState → StepError → Type 0
ProcessNotRestarted old keep new Memory = SameCore old new
ProcessNotRestarted old keep new Device =
    LogRestartBreaks (seen old.log) (seen new.log) keep (logged old (reopened old keep))
    × (new.place ≡ old.place)
ProcessNotRestarted old keep new Exhausted = SameCore old new × CannotReopen old keep
ProcessNotRestarted old keep new e = ⊥

-- the process that an earlier one was: it sat here, and its device failed so often
pub record LeftSo (old : CoreState) (place : Place) (failures : ℕ) : Type 0 where
  pub place_is : old.place ≡ place
  pub failures_are : old.log.failures ≡ failures

-- Trim.

-- the log that a trim leaves: what stays of its records, and a manager's data after them
abbrev pub trimmed_log : CoreState → List LogRecord
trimmed_log s =
    front_of_trim (records_of s.log.kept)
    ++ logged s (data_records s.place.role (read_of s (records_of s.log.kept)))

-- the log was trimmed, all of it forced, and nothing else moved; N records remain
pub record ProcessTrims (old new : CoreState) (remain : ℕ) : Type 0 where
  pub log : new.log ≡ forced_sight (form_of old.place) (trimmed_log old) old.log.failures
  pub counts : remain ≡ length (trimmed_log old)
  pub rest : SameButLog old new

-- the device failed in a trim: the old records stand, with their forced front, or the trimmed ones, all
-- forced
pub record TrimBreaks (old new : CoreState) : Type 0 where
  pub either : (new.log.kept ≡ old.log.kept)
      ⊎ (new.log.kept ≡ record { forced = trimmed_log old; unforced = [] })
  pub failed : new.log.failed ≡ true
  pub cause : MoreFailures old.log.failures new.log.failures
  pub place : new.place ≡ old.place

-- why a process was not trimmed, and what that leaves
abbrev pub ProcessNotTrimmed : CoreState → CoreState → StepError → Type 0
ProcessNotTrimmed old new Memory = SameCore old new
ProcessNotTrimmed old new Device = TrimBreaks old new
ProcessNotTrimmed old new Failed = SameCore old new × (old.log.failed ≡ true)
ProcessNotTrimmed old new e = ⊥
