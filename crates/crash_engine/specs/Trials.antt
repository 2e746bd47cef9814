-- Crashes, tried.
use Rattle.std.specs.Prelude.{◌≡◌, ◌⊎◌, ◌+◌, ◌<◌, ℕ, zero, suc, pred, Option, Some, None, List, [], ◌∷◌, ◌++◌, length, slice_get, take}
use Rattle.protocol.specs.declared.names.Case.{Case}
use Rattle.protocol.specs.declared.names.ProcessId.{ProcessId}
use Rattle.protocol.specs.declared.events.Event.{Event}
use Rattle.protocol.specs.declared.events.Event.TheVariants.{Settle}
use Rattle.protocol.specs.declared.events.StepError.{StepError}
use Rattle.audit_tree.specs.declared.report.ReportLine.{ReportLine}
use Rattle.audit_tree.specs.declared.report.Report.{Report}
use Rattle.proof_runs.specs.worlds.Refusals.{Refusal}
use Rattle.tree_state.specs.Worlds.{WorldState}
use Rattle.log_script.specs.declared.line.ProcessLog.{ProcessLog}
use Rattle.crash_engine.specs.Audits.{Audits, IsDamagedThen, asks_by, beyond, doubts_in, mismatched_in}
use Rattle.crash_engine.specs.Origins.{PlaysFrom}
use Rattle.crash_engine.specs.Points.{crash_of, points_in}
use Rattle.crash_engine.specs.Settles.{SettlesBy}
use Rattle.crash_engine.specs.declared.auditing.Leftover.{Leftover}
use Rattle.crash_engine.specs.declared.origin.Origin.{Origin}
use Rattle.crash_engine.specs.declared.points.CrashPlace.{CrashPlace}
use Rattle.crash_engine.specs.declared.points.Point.{Point}
use Rattle.crash_engine.specs.declared.trial.CrashEnd.{CrashEnd}
use Rattle.crash_engine.specs.declared.trial.CrashEnd.TheVariants as found
use Rattle.crash_engine.specs.declared.trials.Trial.{Trial}

-- what is known to be left without a crash: the cases in doubt, and those that show a mismatch
pub record Known : Type 0 where
  pub in_doubt : List Case
  pub mismatches : List Case

-- nothing
abbrev pub nothing_known : Known
nothing_known = record { in_doubt = []; mismatches = [] }

-- what is left here
abbrev pub known_by : Leftover → Known
known_by l = record { in_doubt = l.in_doubt.items; mismatches = l.mismatches.items }

-- what a run that ends so leaves
abbrev pub known_of : CrashEnd → Known
known_of (found.Ended l) = known_by l
known_of _ = nothing_known

-- what an audit's lines leave beyond what is known
abbrev pub left_beyond : Known → List ReportLine → Known
left_beyond known ls = record {
  in_doubt = beyond known.in_doubt (doubts_in ls);
  mismatches = beyond known.mismatches (mismatched_in ls);
}

-- what an audit leaves beyond what is known
abbrev pub CrashLeaves : Known → Report → CrashEnd → Type 0
CrashLeaves known r (found.Ended l) = known_by l ≡ left_beyond known r.lines.items
CrashLeaves known r _ = ⊥

-- what an audit of the logs that the processes keep finds: one of them is damaged
abbrev pub FindsDamage : WorldState → CrashEnd → Type 0
FindsDamage w f = (process : ProcessId) × (place : ℕ) × IsDamagedThen w process place
    × (f ≡ found.Damaged process place)

-- what it leaves beyond what is known; of a tree that was opened over logs also that a log is damaged: no run
-- leaves logs that come to that
abbrev pub Finds : Option (List ProcessLog) → Known → WorldState → CrashEnd → Type 0
Finds None known w f = (r : Report) × Audits w r × CrashLeaves known r f
Finds (Some logs) known w f = ((r : Report) × Audits w r × CrashLeaves known r f) ⊎ FindsDamage w f

-- what a run ends with: what an audit of its logs finds, or where an event was refused that, by the event's
-- number from 1
abbrev pub EndsWith : Origin → Known → WorldState → Refusal → CrashEnd → Type 0
EndsWith o known w None f = Finds o.logs known w f
EndsWith o known w (Some refused) f = f ≡ found.Refused (refused.0 + 1) refused.1

-- one of these events is refused
abbrev pub IsRefused : Origin → List Event → ℕ × StepError → Type 0
IsRefused o events refused = (end : WorldState) × PlaysFrom o events (Some refused) end

-- one of these events or of the crash after them was refused, and the run ends with that
pub record StopsEarly (o : Origin) (events : List Event) (p : Option Point) (f : CrashEnd) : Type 0 where
  pub refused : ℕ × StepError
  pub stops : IsRefused o (events ++ crash_of p) refused
  pub is : f ≡ found.Refused (refused.0 + 1) refused.1

-- these events, a crash after them or none, the questions for all cases that an audit then shows in doubt,
-- and all that comes of them
abbrev pub tried_events : List Event → Option Point → Report → List Event
tried_events events p r = ((events ++ crash_of p) ++ asks_by r) ++ Settle ∷ []

-- these events and the crash after them were made, and after the questions the run ends so
pub record EndsAsked (o : Origin) (known : Known) (events : List Event) (p : Option Point)
    (f : CrashEnd) : Type 0 where
  pub middle : WorldState
  pub crashes : PlaysFrom o (events ++ crash_of p) None middle
  pub report : Report
  pub audits : Audits middle report
  pub refusal : Refusal
  pub end : WorldState
  pub ran : PlaysFrom o (tried_events events p report) refusal end
  pub ends : EndsWith o known end refusal f

-- the tree was opened over logs, these events and the crash after them were made, and then a log is damaged
pub record StopsDamaged (o : Origin) (events : List Event) (p : Option Point) (f : CrashEnd) : Type 0 where
  pub logs : List ProcessLog
  pub over : o.logs ≡ Some logs
  pub middle : WorldState
  pub crashes : PlaysFrom o (events ++ crash_of p) None middle
  pub finds : FindsDamage middle f

-- a crash at this point after these events was tried, or none, and the run leaves that beyond what is known
pub data Tries (o : Origin) (known : Known) (events : List Event) (p : Option Point)
    (f : CrashEnd) : Type 0 where
  Early : StopsEarly o events p f → Tries o known events p f
  Asked : EndsAsked o known events p f → Tries o known events p f
  Broken : StopsDamaged o events p f → Tries o known events p f

-- a crash at this place of a script, and what it ends with
abbrev pub trial_of : CrashPlace → Point → CrashEnd → Trial
trial_of at p f = record { place = at; point = p; found = f }

-- each of these points after these events, which lead to this place of a script, was tried, in order
abbrev pub AreTried : Origin → Known → CrashPlace → List Event → List Point → List Trial → Type 0
AreTried o known at events [] [] = Unit {0}
AreTried o known at events (p ∷ ps) (t ∷ ts) =
    (t.place ≡ at) × (t.point ≡ p) × Tries o known events (Some p) t.found × AreTried o known at events ps ts
AreTried o known at events _ _ = ⊥

-- each of these points after these events was tried, after what was tried before
abbrev pub AddsTrials : Origin → Known → CrashPlace → List Event → List Point → List Trial → List Trial
    → Type 0
AddsTrials o known at events ps old new = (behind : List Trial) × (new ≡ old ++ behind)
    × AreTried o known at events ps behind

-- these events lead to a state of which each point was tried
pub record TriesAll (o : Origin) (known : Known) (at : CrashPlace) (events : List Event)
    (ts : List Trial) : Type 0 where
  pub state : WorldState
  pub ran : PlaysFrom o events None state
  pub tried : AreTried o known at events (points_in state) ts

-- each point was tried after these events, or one of them is refused, and none was
abbrev pub Adds : Origin → Known → CrashPlace → List Event → Refusal → List Trial → List Trial → Type 0
Adds o known at events None old new = (behind : List Trial) × (new ≡ old ++ behind)
    × TriesAll o known at events behind
Adds o known at events (Some refused) old new = (new ≡ old) × IsRefused o events refused

-- after the event with this number; within it, after this many of its deliveries
abbrev pub after_event : ℕ → CrashPlace
after_event n = record { event = n; delivery = 0 }

abbrev pub within_event : ℕ → ℕ → CrashPlace
within_event n d = record { event = n; delivery = d }

-- each point was tried after the first of these deliveries of the event with this number, after the first
-- two, and so on to this many, these events being those before it
abbrev pub GoesDown : Origin → Known → ℕ → List Event → List Event → ℕ → List Trial → List Trial → Type 0
GoesDown o known number events deliveries zero old new = new ≡ old
GoesDown o known number events deliveries (suc d) old new =
    (middle : List Trial) × (refusal : Refusal)
    × GoesDown o known number events deliveries d old middle
    × Adds o known (within_event number (suc d)) (events ++ take (suc d) deliveries) refusal middle new

-- each point was tried after each delivery of a settle, the event with this number, but the last, after which
-- the settle is over
abbrev pub GoesWithin : Origin → Known → ℕ → List Event → Option Event → List Trial → List Trial → Type 0
GoesWithin o known number events (Some Settle) old new =
    (deliveries : List Event) × SettlesBy o events deliveries
    × GoesDown o known number events deliveries (pred (length deliveries)) old new
GoesWithin o known number events event old new = new ≡ old

-- each point was tried within the event that comes after the first n, and after it; or one of them is
-- refused, and none was
abbrev pub GoesOn : Origin → Known → List Event → ℕ → Refusal → List Trial → List Trial → Type 0
GoesOn o known events n None old new =
    (middle : List Trial) × GoesWithin o known (suc n) (take n events) (slice_get events n) old middle
    × Adds o known (after_event (suc n)) (take (suc n) events) None middle new
GoesOn o known events n (Some refused) old new = (new ≡ old) × IsRefused o (take (suc n) events) refused

-- so it was of the first event, of the second, and so on to the n-th
abbrev pub GoesThrough : Origin → Known → List Event → ℕ → List Trial → Type 0
GoesThrough o known events zero ts = ts ≡ []
GoesThrough o known events (suc n) ts =
    (before : List Trial) × GoesThrough o known events n before × GoesOn o known events n None before ts

-- each point was tried within each event and after it, up to the first that is refused
abbrev pub GoesOver : Origin → Known → List Event → Refusal → List Trial → Type 0
GoesOver o known events None ts = GoesThrough o known events (length events) ts
GoesOver o known events (Some refused) ts =
    (n : ℕ) × (n < length events) × GoesThrough o known events n ts
    × IsRefused o (take (suc n) events) refused

-- N of these events are made: all, or those before the first that is refused
abbrev pub made_by : List Event → Refusal → ℕ
made_by events None = length events
made_by events (Some refused) = refused.0

-- those of these events are made that a run of them makes, and after them it ends so without any crash
pub record EndsAlone (o : Origin) (events : List Event) (f : CrashEnd) : Type 0 where
  pub refusal : Refusal
  pub end : WorldState
  pub ran : PlaysFrom o events refusal end
  pub tries : Tries o nothing_known (take (made_by events refusal) events) None f
