-- What is written of a script.
use Rattle.std.proofs.Common.{◌≡◌, sym, subst, ℕ, suc, ◌+◌, ◌<◌, ◌≤◌, ◌&&◌, Bool, true, false, is_some, if◌then◌else◌, Option, Some, None, List, length, arith}
use Rattle.protocol.specs.declared.events.Event.{Event}
use Rattle.protocol.specs.declared.trees.TreeProcess.{TreeProcess}
use Rattle.log_script.specs.declared.line.ProcessLog.{ProcessLog}
use Rattle.reopen_script.specs.Inputs.{IsReopenScript}
use Rattle.proof_runs.specs.worlds.Refusals.{Refusal}
use Rattle.crash_engine.specs.Trials.{EndsAlone, GoesOn, GoesOver, GoesThrough, Known, known_of}
use Rattle.crash_engine.specs.declared.origin.Origin.{Origin}
use Rattle.crash_engine.specs.declared.trial.CrashEnd.{CrashEnd}
use Rattle.crash_engine.specs.declared.trials.Trial.{Trial}
use Rattle.crash_engine.specs.Crashes.{IsCrashReport, TriesFrom, TriesScript}
use Rattle.crash_engine.specs.Texts.{are_clean, crashes_text, ending_by, is_clean}
use Rattle.crash_engine.specs.declared.ending.CrashStatus.{CrashStatus}
use Rattle.crash_engine.specs.declared.ending.CrashStatus.TheVariants as ending

-- one event more is gone through
pub one_event_more : (o : Origin) (known : Known) (events : List Event) (n : ℕ) (refusal : Refusal)
    (old new : List Trial) → is_some refusal ≡ false
    → GoesOn o known events n refusal old new → GoesThrough o known events n old
    → GoesThrough o known events (n + 1) new
one_event_more o known events n (Some r) old new is on goes = absurd (cc)
one_event_more o known events n None old new is on goes =
    let more : n + 1 ≡ suc n = omega arith in
    subst (λ k. GoesThrough o known events k new) (sym more) (old, goes, on)

-- an event is refused
pub one_refused : (o : Origin) (known : Known) (events : List Event) (n : ℕ) (refusal : Refusal)
    (old new : List Trial) → is_some refusal ≡ true
    → n < length events → GoesOn o known events n refusal old new → GoesThrough o known events n old
    → GoesOver o known events refusal new
one_refused o known events n None old new is within on goes = absurd (cc)
one_refused o known events n (Some r) old new is within on goes = (
  n,
  within,
  subst (GoesThrough o known events n) (sym on.0) goes,
  on.1,
)

-- all are gone through
pub all_over : (o : Origin) (known : Known) (events : List Event) (n : ℕ) (ts : List Trial)
    → length events ≤ n → n ≤ length events
    → GoesThrough o known events n ts → GoesOver o known events None ts
all_over o known events n ts past within goes =
    let all : n ≡ length events = omega arith in
    subst (λ k. GoesThrough o known events k ts) all goes

never_by : (clean : Bool) → ending.Refused ≡ (if clean then ending.Clean else ending.Finds) → ⊥
never_by true is = absurd (cc)
never_by false is = absurd (cc)

never : (alone : CrashEnd) (ts : List Trial) (refusal : Refusal) → ending.Refused ≡ ending_by alone ts refusal
    → ⊥
never alone ts None is = never_by (is_clean alone && are_clean ts) is
never alone ts (Some r) is = absurd (cc)

ends_so : (e : CrashStatus) (input text : List ℕ) (alone : CrashEnd) (ts : List Trial) (refusal : Refusal)
    → e ≡ ending_by alone ts refusal → TriesScript e input text
    → IsCrashReport e input text
ends_so ending.Clean input text alone ts refusal is tries = tries
ends_so ending.Stopped input text alone ts refusal is tries = tries
ends_so ending.Finds input text alone ts refusal is tries = tries
ends_so ending.Refused input text alone ts refusal is tries = absurd (never alone ts refusal is)

-- crashes were tried
pub tried_from : (o : Origin) (e : CrashStatus) (text : List ℕ) (events : List Event)
    (alone : CrashEnd) (known : Known)
    (ts : List Trial) (refusal : Refusal) → EndsAlone o events alone → known ≡ known_of alone
    → GoesOver o known events refusal ts → e ≡ ending_by alone ts refusal
    → text ≡ crashes_text alone ts refusal
    → TriesFrom o events e text
tried_from o e text events alone known ts refusal so left goes ends is = record {
  refusal = refusal;
  alone = alone;
  trials = ts;
  ends_alone = so;
  goes = subst (λ k. GoesOver o k events refusal ts) left goes;
  ends = ends;
  is = is;
}

-- the report of a script
pub reported : (e : CrashStatus) (input text : List ℕ) (tree : List TreeProcess)
    (logs : Option (List ProcessLog))
    (events : List Event) → IsReopenScript input tree logs events
    → TriesFrom (record { tree = tree; logs = logs }) events e text → IsCrashReport e input text
reported e input text tree logs events script tries =
    ends_so e input text tries.alone tries.trials tries.refusal tries.ends
    (record { tree = tree; logs = logs; events = events; script = script; tries = tries })
