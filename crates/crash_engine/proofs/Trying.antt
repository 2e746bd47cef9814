-- Trials one after another.
use Rattle.std.proofs.Common.{◌≡◌, ◌∙◌, inl, inr, ap, sym, subst, ℕ, ◌+◌, ◌<◌, ◌≤◌, true, false, is_some, Option, Some, None, List, [], ◌∷◌, ◌++◌, length, get_or, take, refl, append_assoc}
use Rattle.std.proofs.lemmas.List.{append-nil, take_all, take_more}
use Rattle.protocol.specs.declared.events.Event.{Event}
use Rattle.protocol.specs.declared.trees.TreeProcess.{TreeProcess}
use Rattle.protocol.specs.declared.events.Event.TheVariants.{Settle}
use Rattle.protocol.specs.declared.events.StepError.{StepError}
use Rattle.protocol.specs.Trees.{IsTree}
use Rattle.proof_runs.specs.worlds.Refusals.{Refusal}
use Rattle.tree_state.specs.Worlds.{WorldState}
use Rattle.log_store.specs.declared.memory.MemoryStore.{MemoryStore}
use Rattle.tree_world.specs.Worlds.{WorldValue, state}
use Rattle.audit_tree.specs.declared.report.Report.{Report}
use Rattle.tree_engine.specs.declared.run.Run.{Run}
use Rattle.crash_engine.specs.declared.trial.CrashEnd.{CrashEnd}
use Rattle.crash_engine.specs.declared.trial.CrashEnd.TheVariants as found
use Rattle.crash_engine.specs.Audits.{Audits, IsDamagedThen, asks_by}
use Rattle.log_script.specs.declared.line.ProcessLog.{ProcessLog}
use Rattle.protocol.specs.declared.names.ProcessId.{ProcessId}
use Rattle.tree_engine.specs.Reopened.{PlaysBy}
use Rattle.tree_engine.specs.Runs.{BeginsBy, HasCome}
use Rattle.tree_engine.proofs.TreeReports.{begun_by, ran_by}
use Rattle.crash_engine.specs.declared.origin.Origin.{Origin}
use Rattle.crash_engine.specs.Origins.{Opens, PlaysFrom}
use Rattle.crash_engine.specs.declared.points.CrashPlace.{CrashPlace}
use Rattle.crash_engine.specs.declared.points.Point.{Point}
use Rattle.crash_engine.specs.declared.trials.Trial.{Trial}
use Rattle.crash_engine.specs.Points.{crash_of, points_in}
use Rattle.tree_engine.specs.Trees.{Plays}
use Rattle.crash_engine.specs.Trials.{Adds, AddsTrials, AreTried, Asked, Broken, Early, EndsWith, Finds, Known, CrashLeaves, Tries}

-- what a run comes to is a run from where it began
pub comes_to : (o : Origin) (first run : Run) (given : List Event) → Opens o first
    → HasCome (state first.world) given run → PlaysFrom o given run.refusal (state run.world)
comes_to o first run given opens h =
    ran_by o.tree o.logs first (state run.world) given run.refusal run.made opens h

plays_tree : (tree : List TreeProcess) (logs : Option (List ProcessLog)) (events : List Event)
    (refusal : Refusal)
    (end : WorldState) → PlaysBy tree logs events refusal end → end.tree ≡ tree
plays_tree tree None events refusal end plays = plays.run.tree_is
plays_tree tree (Some logs) events refusal end plays = plays.tree_is

opens_tree : (tree : List TreeProcess) (logs : Option (List ProcessLog)) (first : Run)
    → BeginsBy tree logs first
    → IsTree tree
opens_tree tree None first begins = begins.is_tree
opens_tree tree (Some logs) first begins = begins.is_tree

-- its run has just begun
pub begun : (o : Origin) (first : Run) → Opens o first → HasCome (state first.world) [] first
begun o first opens = begun_by o.tree o.logs first opens

-- its tree is still one
pub still_tree : (o : Origin) (first run : Run) (given : List Event) → Opens o first
    → HasCome (state first.world) given run → IsTree run.world.tree
still_tree o first run given opens h =
    subst IsTree (sym (plays_tree o.tree o.logs given run.refusal (state run.world)
    (comes_to o first run given opens h)))
    (opens_tree o.tree o.logs first opens)

-- these events and a crash after them were run
comes_behind : (o : Origin) (first run : Run) (events crash : List Event) (p : Option Point) → Opens o first
    → HasCome (state first.world) (events ++ crash) run → crash ≡ crash_of p
    → PlaysFrom o (events ++ crash_of p) run.refusal (state run.world)
comes_behind o first run events crash p opens come of_crash =
    comes_to o first run (events ++ crash_of p) opens
    (subst (λ es. HasCome (state first.world) (events ++ es) run) of_crash come)

-- one of these events or of the crash was refused
pub stopped_early : (o : Origin) (known : Known) (events : List Event) (p : Option Point) (crash : List Event)
    (first run : Run) (refused : ℕ × StepError) → Opens o first
    → HasCome (state first.world) (events ++ crash) run → crash ≡ crash_of p
    → run.refusal ≡ Some refused → Tries o known events p (found.Refused (refused.0 + 1) refused.1)
stopped_early o known events p crash first run refused opens come of_crash some =
    Early (record {
      refused = refused;
      stops = (
        state run.world,
        subst (λ r. PlaysFrom o (events ++ crash_of p) r (state run.world)) some
            (comes_behind o first run events crash p opens come of_crash),
      );
      is = refl;
    })

-- a log is damaged: of no tree that opened over empty ones
damaged_by : (tree : List TreeProcess) (logs : Option (List ProcessLog)) (known : Known) (events : List Event)
    (p : Option Point) (middle : WorldState) (process : ProcessId) (place : ℕ)
    → PlaysBy tree logs (events ++ crash_of p) None middle
    → IsDamagedThen middle process place
    → ((tree : List TreeProcess) (given : List Event) → Plays tree given None middle → ⊥)
    → Tries (record { tree = tree; logs = logs }) known events p (found.Damaged process place)
damaged_by tree None known events p middle process place plays damage never =
    absurd (never tree (events ++ crash_of p) plays)
damaged_by tree (Some logs) known events p middle process place plays damage never =
    Broken (record {
      logs = logs;
      over = refl;
      middle = middle;
      crashes = plays;
      finds = (process, place, damage, refl);
    })

-- what holds of one state holds of the same state
pub no_run : {v w : WorldValue MemoryStore} → v ≡ w
    → ((tree : List TreeProcess) (given : List Event) → Plays tree given None (state v) → ⊥)
    → (tree : List TreeProcess) (given : List Event) → Plays tree given None (state w) → ⊥
no_run is never =
    subst (λ (x : WorldValue MemoryStore). (tree : List TreeProcess) (given : List Event)
    → Plays tree given None (state x) → ⊥) is never

pub stopped_damaged : (o : Origin) (known : Known) (events : List Event) (p : Option Point)
    (crash : List Event)
    (first run : Run) (process : ProcessId) (place : ℕ) → Opens o first
    → HasCome (state first.world) (events ++ crash) run → crash ≡ crash_of p → run.refusal ≡ None
    → IsDamagedThen (state run.world) process place
    → ((tree : List TreeProcess) (given : List Event) → Plays tree given None (state run.world) → ⊥)
    → Tries o known events p (found.Damaged process place)
stopped_damaged o known events p crash first run process place opens come of_crash none damage never =
    damaged_by o.tree o.logs known events p (state run.world) process place
    (subst (λ r. PlaysFrom o (events ++ crash_of p) r (state run.world)) none
    (comes_behind o first run events crash p opens come of_crash)) damage never

-- what an audit finds in the end
pub found_leaves : (o : Origin) (known : Known) (w : WorldState) (r : Report) (f : CrashEnd) → Audits w r
    → CrashLeaves known r f → EndsWith o known w None f
found_leaves o known w r f audits leaves = by_logs o.logs
  where
    by_logs : (logs : Option (List ProcessLog)) → Finds logs known w f
    by_logs None = (r, audits, leaves)
    by_logs (Some logs) = inl (r, audits, leaves)

found_damaged_by : (tree : List TreeProcess) (logs : Option (List ProcessLog)) (known : Known)
    (w : WorldState)
    (events : List Event) (process : ProcessId) (place : ℕ) → PlaysBy tree logs events None w
    → IsDamagedThen w process place
    → ((tree : List TreeProcess) (given : List Event) → Plays tree given None w → ⊥)
    → Finds logs known w (found.Damaged process place)
found_damaged_by tree None known w events process place plays damage never = absurd (never tree events plays)
found_damaged_by tree (Some logs) known w events process place plays damage never =
    inr (process, place, damage, refl)

pub found_damaged : (o : Origin) (known : Known) (w : WorldState) (events : List Event) (process : ProcessId)
    (place : ℕ) → PlaysFrom o events None w → IsDamagedThen w process place
    → ((tree : List TreeProcess) (given : List Event) → Plays tree given None w → ⊥)
    → EndsWith o known w None (found.Damaged process place)
found_damaged o known w events process place plays damage never =
    found_damaged_by o.tree o.logs known w events process place plays damage never

-- a crash was tried
pub tried_so : (o : Origin) (known : Known) (events : List Event) (p : Option Point) (r : Report)
    (crash asks : List Event) (first middle end : Run) (f : CrashEnd) → Opens o first
    → HasCome (state first.world) (events ++ crash) middle → crash ≡ crash_of p → middle.refusal ≡ None
    → Audits (state middle.world) r → asks ≡ asks_by r
    → HasCome (state first.world) (((events ++ crash) ++ asks) ++ Settle ∷ []) end
    → ((given : List Event) → PlaysFrom o given end.refusal (state end.world)
    → EndsWith o known (state end.world) end.refusal f)
    → Tries o known events p f
tried_so o known events p r crash asks first middle end f opens crashes of_crash none audits
    of_asks ends found =
    let ran = comes_to o first end (((events ++ crash_of p) ++ asks_by r) ++ Settle ∷ []) opens
    (subst (λ es. HasCome (state first.world) (((events ++ es) ++ asks_by r) ++ Settle ∷ []) end) of_crash
    (subst (λ es. HasCome (state first.world) (((events ++ crash) ++ es) ++ Settle ∷ []) end) of_asks ends))
    in
    Asked (record {
      middle = state middle.world;
      crashes = subst (λ r. PlaysFrom o (events ++ crash_of p) r (state middle.world)) none
          (comes_behind o first middle events crash p opens crashes of_crash);
      report = r;
      audits = audits;
      refusal = end.refusal;
      end = state end.world;
      ran = ran;
      ends = found _ ran;
    })

one_more : (o : Origin) (known : Known) (at : CrashPlace) (events : List Event) (ps : List Point)
    (ts : List Trial) (p : Point)
    (t : Trial) → AreTried o known at events ps ts
    → t.place ≡ at → t.point ≡ p → Tries o known events (Some p) t.found
    → AreTried o known at events (ps ++ p ∷ []) (ts ++ t ∷ [])
one_more o known at events [] [] p t are there is tries = (there, is, tries, tt)
one_more o known at events [] (u ∷ ts) p t are there is tries = absurd are
one_more o known at events (q ∷ ps) [] p t are there is tries = absurd are
one_more o known at events (q ∷ ps) (u ∷ ts) p t are there is tries =
    (are.0, are.1, are.2, one_more o known at events ps ts p t are.3 there is tries)

pub none_tried : (o : Origin) (known : Known) (at : CrashPlace) (events : List Event) (old : List Trial)
    → AddsTrials o known at events [] old old
none_tried o known at events old = ([], sym (append-nil old), tt)

pub tried_more : (o : Origin) (known : Known) (at : CrashPlace) (events : List Event) (ps : List Point)
    (i : ℕ) (p : Point)
    (t : Trial) (old mid new : List Trial)
    → i < length ps → p ≡ get_or ps i p → new ≡ mid ++ t ∷ [] → t.place ≡ at → t.point ≡ p
    → Tries o known events (Some p) t.found
    → AddsTrials o known at events (take i ps) old mid
    → AddsTrials o known at events (take (i + 1) ps) old new
tried_more o known at events ps i p t old mid new within is pushed there point tries before = (
  before.0 ++ t ∷ [],
  pushed ∙ ap (λ xs. xs ++ t ∷ []) before.1 ∙ append_assoc old before.0 (t ∷ []),
  subst (λ qs. AreTried o known at events qs (before.0 ++ t ∷ []))
      (sym (take_more ps i p within ∙ ap (λ q. take i ps ++ q ∷ []) (sym is)))
      (one_more o known at events (take i ps) before.0 p t before.2 there point tries),
)

-- all points after these events were tried
pub all_tried : (o : Origin) (known : Known) (at : CrashPlace) (events : List Event) (now : WorldState)
    (refusal : Refusal)
    (ps : List Point) (old new : List Trial)
    → is_some refusal ≡ false → PlaysFrom o events refusal now → ps ≡ points_in now
    → AddsTrials o known at events ps old new → Adds o known at events None old new
all_tried o known at events now (Some r) ps old new is ran points tried = absurd (cc)
all_tried o known at events now None ps old new is ran points tried = (
  tried.0,
  tried.1,
  record {
    state = now;
    ran = ran;
    tried = subst (λ qs. AreTried o known at events qs tried.0) points tried.2;
  },
)

-- an event was refused
pub refused_adds : (o : Origin) (known : Known) (at : CrashPlace) (events : List Event) (now : WorldState)
    (refusal : Refusal) (old : List Trial)
    → is_some refusal ≡ true → PlaysFrom o events refusal now → Adds o known at events refusal old old
refused_adds o known at events now None old is ran = absurd (cc)
refused_adds o known at events now (Some r) old is ran = (refl, (now, ran))

-- all of these points were
pub all_points : (o : Origin) (known : Known) (at : CrashPlace) (events : List Event)
    (ps : List Point) (i : ℕ)
    (old new : List Trial) → length ps ≤ i
    → AddsTrials o known at events (take i ps) old new → AddsTrials o known at events ps old new
all_points o known at events ps i old new past tried =
    subst (λ qs. AddsTrials o known at events qs old new) (take_all i ps past) tried
