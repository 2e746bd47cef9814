-- The trace of a tree is a run, whole, and goes on as one.
use Rattle.std.proofs.Common.{◌≡◌, ◌≢◌, ◌⊎◌, ◌∙◌, sym, ap, subst, refl, inl, inr, ℕ, Bool, true, false, List, [], ◌∷◌, ◌++◌, Result, Ok, Err, OnOk, IfErr, None, append-nil}
use Rattle.std.proofs.lemmas.List.{append_cancel_left}
use Rattle.protocol.specs.declared.events.JournalEntry.{JournalEntry}
use Rattle.protocol.specs.declared.events.Event.{Event}
use Rattle.protocol.specs.declared.events.StepError.{StepError}
use Rattle.protocol.specs.declared.events.StepError.TheVariants.{Memory, Device, UnknownTxn, NotAChild, Closed, Failed, NotInDoubt, NothingToForget, NoSuch, Exhausted}
use Rattle.protocol.specs.declared.trees.TreeProcess.{TreeProcess}
use Rattle.protocol.specs.Trees.{IsTree}
use Rattle.protocol.specs.World.{Made, World, opened_world}
use Rattle.tree_state.specs.Runs.{IsOpenedTree, EventsLead, LeadsUntil}
use Rattle.proof_runs.specs.worlds.Follows.{Follows, GoesOn}
use Rattle.tree_state.specs.Worlds.{Applies, Stops, WorldState}
use Rattle.proof_failures.specs.Traces.{TraceGoesOn, with_trace}
use Rattle.proof_failures.proofs.Traces.{applied, failed, led, led_failed, led_until, opened, stopped}
use Rattle.tree_faults.specs.Faults.{FaultsSight, woven}
use Rattle.tree_faults.specs.Traces.{AddsAfter, AddsToTrace, AddsUntil, KeepsTrace, TraceGoesOnFrom, TraceIsRun, trace_by}
use Rattle.tree_faults.proofs.Adding.{device_or}

module _ (s t : WorldState) (f g : FaultsSight) where
  -- what the law says of a trace that was added to so
  goes_so : (more : List JournalEntry) → AddsToTrace s f t g more
      → ((es : List Made) (w : World) → Follows es w (with_trace s (trace_by s f))
      → TraceGoesOn es w s (trace_by s f) t more)
      → TraceGoesOnFrom s (trace_by s f) t (trace_by t g)
  goes_so more adds law es w follows =
      let on = law es w follows in
      let same : on.entered ≡ adds.entered =
      append_cancel_left s.entries on.entered adds.entered (sym on.grown ∙ adds.grown) in
      subst (λ xs. GoesOn es w (with_trace t xs))
      (ap (λ xs. (trace_by s f ++ xs) ++ more) same ∙ sym adds.trace) on.goes_on

  module _ (is_tree : IsTree s.tree) where
    plain : (event : Event) (x : StepError) → x ≢ Device → AddsUntil s f event t g x → AddsToTrace s f t g []
    plain event Memory works a = a
    plain event Device works a = absurd (works refl)
    plain event UnknownTxn works a = a
    plain event NotAChild works a = a
    plain event Closed works a = a
    plain event Failed works a = a
    plain event NotInDoubt works a = a
    plain event NothingToForget works a = a
    plain event NoSuch works a = a
    plain event Exhausted works a = a

    by_error : (event : Event) (x : StepError) → Stops s event x t → AddsUntil s f event t g x
        → (x ≡ Device) ⊎ (x ≢ Device) → TraceGoesOnFrom s (trace_by s f) t (trace_by t g)
    by_error event x stops ends (inl is) =
        let a = subst (AddsUntil s f event t g) is ends in
        goes_so (a.entry ∷ []) a.adds
        (λ es w follows. failed s t event a.entry es w (trace_by s f) is_tree follows a.fails)
    by_error event x stops ends (inr works) =
        goes_so [] (plain event x works ends)
        (λ es w follows. stopped s t event x es w (trace_by s f) is_tree works follows stops)

    -- after an event
    pub applied_traced : (event : Event) (made : Result (Unit {0}) StepError) → OnOk made (Applies s event t)
        → IfErr made (λ x. Stops s event x t) → OnOk made (AddsToTrace s f t g [])
        → IfErr made (AddsUntil s f event t g) → TraceGoesOnFrom s (trace_by s f) t (trace_by t g)
    applied_traced event (Ok u) ok err adds until =
        goes_so [] adds (λ es w follows. applied s t event es w (trace_by s f) is_tree follows ok)
    applied_traced event (Err x) ok err adds until = by_error event x err until (device_or x)

    plain_after : (events : List Event) (n : ℕ) (x : StepError) → x ≢ Device → AddsAfter s f events t g n x
        → AddsToTrace s f t g []
    plain_after events n Memory works a = a
    plain_after events n Device works a = absurd (works refl)
    plain_after events n UnknownTxn works a = a
    plain_after events n NotAChild works a = a
    plain_after events n Closed works a = a
    plain_after events n Failed works a = a
    plain_after events n NotInDoubt works a = a
    plain_after events n NothingToForget works a = a
    plain_after events n NoSuch works a = a
    plain_after events n Exhausted works a = a

    after_error : (events : List Event) (n : ℕ) (x : StepError) → LeadsUntil s events n x t
        → AddsAfter s f events t g n x → (x ≡ Device) ⊎ (x ≢ Device)
        → TraceGoesOnFrom s (trace_by s f) t (trace_by t g)
    after_error events n x leads ends (inl is) =
        let a = subst (AddsAfter s f events t g n) is ends in
        goes_so (a.entry ∷ []) a.adds
        (λ es w follows. led_failed s t events n a.entry es w (trace_by s f) is_tree follows a.fails)
    after_error events n x leads ends (inr works) =
        goes_so [] (plain_after events n x works ends)
        (λ es w follows. led_until s t events n x es w (trace_by s f) is_tree works follows leads)

    -- after a list of events
    pub ran_traced : (events : List Event) (made : Result (Unit {0}) (ℕ × StepError))
        → OnOk made (EventsLead s events t)
        → IfErr made (λ r. LeadsUntil s events r.0 r.1 t) → OnOk made (AddsToTrace s f t g [])
        → IfErr made (λ r. AddsAfter s f events t g r.0 r.1)
        → TraceGoesOnFrom s (trace_by s f) t (trace_by t g)
    ran_traced events (Ok u) ok err adds until =
        goes_so [] adds (λ es w follows. led s t events es w (trace_by s f) is_tree follows ok)
    ran_traced events (Err r) ok err adds until = after_error events r.0 r.1 err until (device_or r.1)

-- A tree that has opened empty logs has the trace of the run with no moves.
pub opened_traced : (tree : List TreeProcess) (s : WorldState) → IsOpenedTree s tree → TraceIsRun s []
opened_traced tree s is = record { moves = []; world = opened_world; follows = opened tree s is }

pub stays_traced : (b : Bool) (s t : WorldState) (before behind : List JournalEntry) → KeepsTrace b s before
    → TraceGoesOnFrom s before t behind → KeepsTrace b t behind
stays_traced true s t before behind keeps goes = tt
stays_traced false s t before behind keeps goes =
    let on = goes keeps.moves keeps.world keeps.follows in
    record { moves = on.later ++ keeps.moves; world = on.world; follows = on.follows }

-- Where nothing was entered and no device failed there is no step.
pub no_trace : (s : WorldState) → s.entries ≡ [] → trace_by s (record { counted = []; last = None }) ≡ []
unfolding woven
no_trace s none = append-nil s.entries ∙ none

pub kept_opened : (tree : List TreeProcess) (s : WorldState) → IsOpenedTree s tree
    → KeepsTrace false s (trace_by s (record { counted = []; last = None }))
kept_opened tree s is = subst (TraceIsRun s) (sym (no_trace s is.entries)) (opened_traced tree s is)

pub trace_run : (b : Bool) (s : WorldState) (trace : List JournalEntry) → KeepsTrace b s trace → b ≡ false
    → TraceIsRun s trace
trace_run false s trace keeps is = keeps
trace_run true s trace keeps is = absurd (cc)
