-- Why crashes are not all tried, where memory was not refused and neither reading nor writing failed.
use Rattle.std.specs.Prelude.{◌≡◌, ◌⊎◌, ◌<◌, ℕ, suc, Option, Some, None, List, ◌++◌, length, take, Contains}
use Rattle.protocol.specs.declared.events.Event.{Event}
use Rattle.protocol.specs.declared.trees.TreeProcess.{TreeProcess}
use Rattle.audit_tree.specs.declared.report.Report.{Report}
use Rattle.log_script.specs.declared.line.ProcessLog.{ProcessLog}
use Rattle.reopen_script.specs.Inputs.{IsReopenScript}
use Rattle.proof_runs.specs.worlds.Refusals.{Refusal}
use Rattle.tree_state.specs.Worlds.{WorldState}
use Rattle.report_io.specs.declared.streams.Failure.{Failure}
use Rattle.report_io.specs.declared.streams.Failure.TheVariants.{Exhausted}
use Rattle.tree_engine.specs.Failures.{CannotMake}
use Rattle.crash_engine.specs.Audits.{Audits}
use Rattle.crash_engine.specs.Origins.{OpensNot, PlaysFrom, StartsFrom, start_by}
use Rattle.crash_engine.specs.Points.{AreTooLong, crash_of, points_in}
use Rattle.crash_engine.specs.Settles.{SettlesBy}
use Rattle.crash_engine.specs.Trials.{made_by, tried_events}
use Rattle.crash_engine.specs.declared.origin.Origin.{Origin}
use Rattle.crash_engine.specs.declared.points.Point.{Point}

-- in a tree that has opened these events cannot all be made for this reason
pub record EventsBreakOff (o : Origin) (events : List Event) (why : Failure) : Type 0 where
  pub start : WorldState
  pub opens : StartsFrom o start
  pub cannot : CannotMake start events why

-- a run of these events breaks off for this reason: its tree does not open once more, or they cannot all be
-- made
abbrev pub RunBreaksOff : Origin → List Event → Failure → Type 0
RunBreaksOff o events why = OpensNot o why ⊎ EventsBreakOff o events why

-- these events and the crash after them, or none, were made; after them the questions for all cases that an
-- audit then shows in doubt, and all that comes of them, cannot be made for this reason
pub record QuestionsBreakOff (o : Origin) (events : List Event) (p : Option Point)
    (why : Failure) : Type 0 where
  pub middle : WorldState
  pub crashes : PlaysFrom o (events ++ crash_of p) None middle
  pub report : Report
  pub audits : Audits middle report
  pub cannot : CannotMake (start_by o.tree o.logs (events ++ crash_of p) None middle crashes)
      (tried_events events p report) why

-- the trial of a crash after these events, or of none, breaks off for this reason
abbrev pub TrialBreaksOff : Origin → List Event → Option Point → Failure → Type 0
TrialBreaksOff o events p why =
    RunBreaksOff o (events ++ crash_of p) why ⊎ QuestionsBreakOff o events p why

-- the trial of a crash at one of these points after these events breaks off for this reason
pub record PointBreaksOff (o : Origin) (events : List Event) (ps : List Point)
    (why : Failure) : Type 0 where
  pub point : Point
  pub listed : Contains ps point
  pub breaks : TrialBreaksOff o events (Some point) why

-- these events lead to a state of which not each point is tried, for this reason: the trial of one breaks
-- off, or the unforced records of a process take 2^64 bytes or more
pub record PointsBreakOff (o : Origin) (events : List Event) (why : Failure) : Type 0 where
  pub state : WorldState
  pub ran : PlaysFrom o events None state
  pub cannot : PointBreaksOff o events (points_in state) why ⊎ ((why ≡ Exhausted) × AreTooLong state)

-- not each crash after these events is tried, for this reason: they cannot all be made, or they lead to such
-- a state
abbrev pub CannotTryAll : Origin → List Event → Failure → Type 0
CannotTryAll o events why = RunBreaksOff o events why ⊎ PointsBreakOff o events why

-- not each crash after these events and the first of these deliveries, or the first two, and so on, is tried,
-- for this reason
pub record CannotGoDown (o : Origin) (events deliveries : List Event) (why : Failure) : Type 0 where
  pub before : ℕ
  pub within : before < length deliveries
  pub cannot : CannotTryAll o (events ++ take (suc before) deliveries) why

-- not each crash after these events and the first delivery of a settle made after them, or the first two,
-- and so on, is tried, for this reason
abbrev pub CannotSettle : Origin → List Event → Failure → Type 0
CannotSettle o events why = (deliveries : List Event) × SettlesBy o events deliveries
    × CannotGoDown o events deliveries why

-- not each crash within the event that comes after the first n, or after it, is tried, for this reason
abbrev pub CannotGoOn : Origin → List Event → ℕ → Failure → Type 0
CannotGoOn o events n why = CannotTryAll o (take (suc n) events) why ⊎ CannotSettle o (take n events) why

-- not each crash within the first of these events and after it, within the second, and so on, is tried, for
-- this reason
pub record CannotGoOver (o : Origin) (events : List Event) (why : Failure) : Type 0 where
  pub before : ℕ
  pub within : before < length events
  pub cannot : CannotGoOn o events before why

-- the trial without a crash of those of these events that are made breaks off for this reason
pub record AloneBreaksOff (o : Origin) (events : List Event) (why : Failure) : Type 0 where
  pub refusal : Refusal
  pub end : WorldState
  pub ran : PlaysFrom o events refusal end
  pub breaks : TrialBreaksOff o (take (made_by events refusal) events) None why

-- what these events leave without any crash is not known, for this reason: they cannot all be made, or that
-- trial breaks off
abbrev pub CannotEndAlone : Origin → List Event → Failure → Type 0
CannotEndAlone o events why = RunBreaksOff o events why ⊎ AloneBreaksOff o events why

-- why the crashes of a script of this tree and these events cannot all be tried
abbrev pub CannotTry : Origin → List Event → Failure → Type 0
CannotTry o events why = CannotEndAlone o events why ⊎ CannotGoOver o events why

-- the input is a script, whose crashes cannot all be tried for this reason
pub record CannotReport (input : List ℕ) (why : Failure) : Type 0 where
  pub tree : List TreeProcess
  pub logs : Option (List ProcessLog)
  pub events : List Event
  pub script : IsReopenScript input tree logs events
  pub cannot : CannotTry (record { tree = tree; logs = logs }) events why
