-- Runs that break off.
use Rattle.std.proofs.Common.{◌≡◌, ◌∙◌, ◌⊎◌, ap, subst, sym, ℕ, ◌<◌, is_some, false, Option, Some, None, Result, Ok, Err, IfErr, List, [], ◌∷◌, ◌++◌, length, take, inl, inr, refl}
use Rattle.std.specs.Prelude.{Contains}
use Rattle.std.specs.Result.{IsErrAnd}
use Rattle.protocol.specs.declared.events.Event.{Event}
use Rattle.protocol.specs.declared.events.Event.TheVariants.{Settle}
use Rattle.protocol.specs.declared.trees.TreeProcess.{TreeProcess}
use Rattle.proof_runs.specs.worlds.Refusals.{Refusal}
use Rattle.tree_state.specs.Worlds.{WorldState}
use Rattle.report_io.specs.declared.streams.Failure.{Failure}
use Rattle.report_io.specs.declared.streams.Failure.TheVariants.{Exhausted, Memory}
use Rattle.audit_tree.specs.declared.report.Report.{Report}
use Rattle.tree_engine.specs.Failures.{CannotMake}
use Rattle.log_script.specs.declared.line.ProcessLog.{ProcessLog}
use Rattle.reopen_script.specs.Inputs.{IsReopenScript}
use Rattle.tree_world.specs.Worlds.{state}
use Rattle.tree_world.proofs.Handling.{passed_on}
use Rattle.tree_engine.specs.declared.run.Run.{Run}
use Rattle.tree_engine.specs.Runs.{BeginsBy, ComesTo, HasCome}
use Rattle.tree_engine.proofs.Going.{cannot_longer, ran}
use Rattle.tree_engine.proofs.Replaying.{replayed}
use Rattle.tree_engine.proofs.TreeReports.{ran_by, starts_by}
use Rattle.crash_engine.specs.declared.origin.Origin.{Origin}
use Rattle.crash_engine.specs.Origins.{Opens, OpensNot, PlaysFrom, start_by}
use Rattle.crash_engine.specs.Audits.{Audits, asks_by}
use Rattle.crash_engine.specs.Points.{AreTooLong, crash_of, points_in}
use Rattle.crash_engine.specs.Trials.{made_by, tried_events}
use Rattle.crash_engine.specs.Failures.{CannotEndAlone, CannotGoOn, CannotGoOver, CannotReport, CannotTry, CannotTryAll, PointBreaksOff, QuestionsBreakOff, RunBreaksOff, TrialBreaksOff}
use Rattle.crash_engine.specs.declared.points.Point.{Point}

-- an error that is handed on: memory was refused, or its cause stands for another
pub handed_on : {T A : Type 0} (Why : Failure → Type 0) (r : Result T Failure) (e : Failure)
    → IsErrAnd r (λ y. y ≡ e) → (e ≡ Memory) ⊎ A → (A → Why e) → IfErr r (λ why. (why ≡ Memory) ⊎ Why why)
handed_on Why r e is (inl memory) stands = passed_on r e (λ why. (why ≡ Memory) ⊎ Why why) is (inl memory)
handed_on Why r e is (inr cause) stands =
    passed_on r e (λ why. (why ≡ Memory) ⊎ Why why) is (inr (stands cause))

-- the same of a result
pub answered : {T : Type 0} (Cause Why : Failure → Type 0) (r : Result T Failure)
    → IfErr r (λ why. (why ≡ Memory) ⊎ Cause why) → ((why : Failure) → Cause why → Why why)
    → IfErr r (λ why. (why ≡ Memory) ⊎ Why why)
answered Cause Why (Ok x) is stands = tt
answered Cause Why (Err e) (inl memory) stands = inl memory
answered Cause Why (Err e) (inr cause) stands = inr (stands e cause)

-- if no event was refused
none_by : (refusal : Refusal) → is_some refusal ≡ false → refusal ≡ None
none_by None is = refl
none_by (Some refused) is = absurd (cc)

-- the tree does not open once more
pub opens_not : {T : Type 0} (o : Origin) (events : List Event) (r : Result T Failure) (e : Failure)
    → IsErrAnd r (λ y. y ≡ e) → (e ≡ Memory) ⊎ OpensNot o e
    → IfErr r (λ why. (why ≡ Memory) ⊎ RunBreaksOff o events why)
opens_not o events r e is h = handed_on (RunBreaksOff o events) r e is h (λ not. inl not)

-- these events cannot be made
pub run_breaks : (o : Origin) (events : List Event) (first : Run) (why : Failure) → Opens o first
    → CannotMake (state first.world) events why → RunBreaksOff o events why
run_breaks o events first why opens cannot = inr (record {
  start = state first.world;
  opens = starts_by o.tree o.logs first opens;
  cannot = cannot;
})

-- then neither can they with a crash after them
pub events_break : (o : Origin) (events : List Event) (p : Option Point) (first : Run) (why : Failure)
    → Opens o first → CannotMake (state first.world) events why → TrialBreaksOff o events p why
events_break o events p first why opens cannot =
    inl (run_breaks o (events ++ crash_of p) first why opens
    (cannot_longer (state first.world) events (crash_of p) why cannot))

-- the crash after them cannot be made
pub crash_breaks : (o : Origin) (events crash : List Event) (p : Option Point) (first : Run) (why : Failure)
    → Opens o first → crash ≡ crash_of p → CannotMake (state first.world) (events ++ crash) why
    → TrialBreaksOff o events p why
crash_breaks o events crash p first why opens of_crash cannot =
    inl (run_breaks o (events ++ crash_of p) first why opens
    (subst (λ (es : List Event). CannotMake (state first.world) (events ++ es) why) of_crash cannot))

-- the state that such a run came from
starts_at : (tree : List TreeProcess) (logs : Option (List ProcessLog)) (first : Run) (now : WorldState)
    (given : List Event) (refusal : Refusal) (n : ℕ) (begins : BeginsBy tree logs first)
    (come : ComesTo (state first.world) given refusal n now)
    → start_by tree logs given refusal now (ran_by tree logs first now given refusal n begins come)
    ≡ state first.world
unfolding ran_by ran replayed
starts_at tree None first now given refusal n begins come = refl
starts_at tree (Some logs) first now given refusal n begins come = refl

-- the questions after a crash cannot all be made, with all that comes of them
settled_breaks : (o : Origin) (events : List Event) (p : Option Point) (r : Report) (first : Run)
    (now : WorldState)
    (refusal : Refusal) (n : ℕ) (why : Failure) → Opens o first
    → ComesTo (state first.world) (events ++ crash_of p) refusal n now → refusal ≡ None → Audits now r
    → CannotMake (state first.world) (tried_events events p r) why → QuestionsBreakOff o events p why
settled_breaks o events p r first now (Some refused) n why opens come none audits cannot = absurd (cc)
settled_breaks o events p r first now None n why opens come none audits cannot = record {
  middle = now;
  crashes = ran_by o.tree o.logs first now (events ++ crash_of p) None n opens come;
  report = r;
  audits = audits;
  cannot = subst (λ (s : WorldState). CannotMake s (tried_events events p r) why)
      (sym (starts_at o.tree o.logs first now (events ++ crash_of p) None n opens come)) cannot;
}

-- all that comes of them cannot be made
pub settle_breaks : (o : Origin) (events crash asks : List Event) (p : Option Point)
    (r : Report) (first : Run)
    (now : WorldState) (refusal : Refusal) (n : ℕ) (why : Failure) → Opens o first
    → ComesTo (state first.world) (events ++ crash) refusal n now → crash ≡ crash_of p → refusal ≡ None
    → Audits now r
    → asks ≡ asks_by r → CannotMake (state first.world) (((events ++ crash) ++ asks) ++ Settle ∷ []) why
    → TrialBreaksOff o events p why
settle_breaks o events crash asks p r first now refusal n why opens come of_crash none audits of_asks cannot =
    inr (settled_breaks o events p r first now refusal n why opens
    (subst (λ (es : List Event). ComesTo (state first.world) (events ++ es) refusal n now) of_crash come) none
    audits
    (subst (λ (es : List Event). CannotMake (state first.world)
    (((events ++ es) ++ asks_by r) ++ Settle ∷ []) why) of_crash
    (subst (λ (es : List Event). CannotMake (state first.world)
    (((events ++ crash) ++ es) ++ Settle ∷ []) why) of_asks
    cannot)))

-- the questions after a crash cannot all be made
pub questions_break : (o : Origin) (events crash asks : List Event) (p : Option Point)
    (r : Report) (first : Run)
    (now : WorldState) (refusal : Refusal) (n : ℕ) (why : Failure) → Opens o first
    → ComesTo (state first.world) (events ++ crash) refusal n now → crash ≡ crash_of p → refusal ≡ None
    → Audits now r
    → asks ≡ asks_by r → CannotMake (state first.world) ((events ++ crash) ++ asks) why
    → TrialBreaksOff o events p why
questions_break o events crash asks p r first now refusal n why opens come of_crash none audits
    of_asks cannot =
    settle_breaks o events crash asks p r first now refusal n why opens come of_crash none audits of_asks
    (cannot_longer (state first.world) ((events ++ crash) ++ asks) (Settle ∷ []) why cannot)

-- the trial without a crash of the events that are made breaks off
pub alone_breaks : (o : Origin) (events given : List Event) (made : ℕ) (refusal : Refusal)
    (end : WorldState) (why : Failure) → PlaysFrom o events refusal end → made ≡ made_by events refusal
    → given ≡ take made events → TrialBreaksOff o given None why → CannotEndAlone o events why
alone_breaks o events given made refusal end why ran of_made of_given breaks = inr (record {
  refusal = refusal;
  end = end;
  ran = ran;
  breaks = subst (λ (es : List Event). TrialBreaksOff o es None why)
      (of_given ∙ ap (λ n. take n events) of_made) breaks;
})

-- one of these points was not tried
pub point_breaks : (o : Origin) (events : List Event) (ps : List Point) (p : Point) (why : Failure)
    → Contains ps p → TrialBreaksOff o events (Some p) why → PointBreaksOff o events ps why
point_breaks o events ps p why listed breaks = record { point = p; listed = listed; breaks = breaks }

-- not all points after these events are tried
pub points_break : (o : Origin) (events : List Event) (first run : Run) (why : Failure) → Opens o first
    → HasCome (state first.world) events run → is_some run.refusal ≡ false
    → PointBreaksOff o events (points_in (state run.world)) why
    ⊎ ((why ≡ Exhausted) × AreTooLong (state run.world))
    → CannotTryAll o events why
points_break o events first run why opens come none cannot = inr (record {
  state = state run.world;
  ran = subst (λ r. PlaysFrom o events r (state run.world)) (none_by run.refusal none)
      (ran_by o.tree o.logs first (state run.world) events run.refusal run.made opens come);
  cannot = cannot;
})

-- not each crash within the event that comes after the first n, or after it, is tried
pub on_breaks : (o : Origin) (events : List Event) (n : ℕ) (why : Failure) → n < length events
    → CannotGoOn o events n why → CannotGoOver o events why
on_breaks o events n why within cannot = record { before = n; within = within; cannot = cannot }

-- nothing is written of a script
pub script_breaks : (input : List ℕ) (tree : List TreeProcess) (logs : Option (List ProcessLog))
    (events : List Event)
    (why : Failure) → IsReopenScript input tree logs events
    → CannotTry (record { tree = tree; logs = logs }) events why → CannotReport input why
script_breaks input tree logs events why script cannot =
    record { tree = tree; logs = logs; events = events; script = script; cannot = cannot }
