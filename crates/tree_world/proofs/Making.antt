-- How the faults stand as events are made.
use Rattle.std.proofs.Common.{◌≡◌, ◌<◌, sym, ap, subst, ℕ, Some, None, List, [], ◌++◌, length, Result, Ok, Err, OnOk, IfErr}
use Rattle.protocol.specs.declared.events.Event.{Event}
use Rattle.protocol.specs.declared.events.Event.TheVariants.{Deliver, Settle}
use Rattle.protocol.specs.declared.events.StepError.{StepError}
use Rattle.protocol.specs.declared.events.StepError.TheVariants.{Memory, Device, UnknownTxn, NotAChild, Closed, Failed, NotInDoubt, NothingToForget, NoSuch, Exhausted}
use Rattle.protocol.specs.Plays.{sent_as}
use Rattle.tree_state.specs.Worlds.{Applies, Settles, Stops, WorldState, least_open}
use Rattle.proof_failures.specs.Fails.{MessageFails}
use Rattle.tree_faults.specs.Faults.{FaultsSight, last_step, placed_in}
use Rattle.tree_faults.specs.Traces.{AddsToTrace, AddsUntil, AreInPlace, NotedUntil, trace_by}
use Rattle.tree_faults.proofs.Adding.{adds_nothing, counted_places, counted_trace, made_adds, made_places, made_until}

-- One event, after the last fault was counted.

module _ (s m t : WorldState) (f e g : FaultsSight) (event : Event)
    (made : Result (Unit {0}) StepError) (state : m ≡ s)
    (places : AreInPlace s f) (none : e.last ≡ None)
    (counted : e.counted ≡ f.counted ++ placed_in (length s.entries) (last_step s.net s.node_at f.last))
    (ok : OnOk made (Applies m event t)) (err : IfErr made (λ x. Stops m event x t))
    (stay : OnOk made (g ≡ e))
    (noted : IfErr made (NotedUntil m e event t g)) where
  stand : AreInPlace m e
  stand = subst (λ w. AreInPlace w e) (sym state) (counted_places s f e places none counted)

  same : trace_by m e ≡ trace_by m f
  same = subst (λ w. trace_by w e ≡ trace_by w f) (sym state) (counted_trace s f e places none counted)

  pub next_ok : OnOk made (Applies s event t)
  next_ok = subst (λ w. OnOk made (Applies w event t)) state ok

  pub next_err : IfErr made (λ x. Stops s event x t)
  next_err = subst (λ w. IfErr made (λ x. Stops w event x t)) state err

  pub next_places : AreInPlace t g
  next_places = made_places m t f e g event made stand none same ok err stay noted

  pub next_adds : OnOk made (AddsToTrace s f t g [])
  next_adds = subst (λ w. OnOk made (AddsToTrace w f t g [])) state
      (made_adds m t f e g event made stand none same ok err stay noted)

  pub next_until : IfErr made (AddsUntil s f event t g)
  next_until = subst (λ w. IfErr made (AddsUntil w f event t g)) state
      (made_until m t f e g event made stand none same ok err stay noted)

-- nothing was made
pub nothing_adds : (s t : WorldState) (f g : FaultsSight) → t ≡ s → g ≡ f → AddsToTrace s f t g []
nothing_adds s t f g state same = subst (λ w. AddsToTrace s f w g []) (sym state) (adds_nothing s f g same)

pub nothing_moves : (s t : WorldState) (f g : FaultsSight) → t ≡ s → g ≡ f → AreInPlace s f → AreInPlace t g
nothing_moves s t f g state same places =
    subst (λ w. AreInPlace w g) (sym state) (subst (AreInPlace s) (sym same) places)

-- a settle ends with a delivery that is not made
pub settle_noted : (i : ℕ) (first before now new : WorldState) (k : ℕ) (f g : FaultsSight) (e : StepError)
    → i < 10000
    → before ≡ now → Settles i first now → Some k ≡ least_open 1 now.delivered
    → NotedUntil before f (Deliver k) new g e → NotedUntil first f Settle new g e
settle_noted i first before now new k f g Device within same made is noted =
    record {
      counted = noted.counted;
      entry = noted.entry;
      last = noted.last;
      fails = record {
        count = i;
        within = within;
        before = now;
        settles = made;
        number = k;
        next = sym is;
        fails = subst (λ (w : WorldState). MessageFails w new k (sent_as w.net k) noted.entry)
            same noted.fails;
      };
    }
settle_noted i first before now new k f g Memory within same made is h = h
settle_noted i first before now new k f g UnknownTxn within same made is h = h
settle_noted i first before now new k f g NotAChild within same made is h = h
settle_noted i first before now new k f g Closed within same made is h = h
settle_noted i first before now new k f g Failed within same made is h = h
settle_noted i first before now new k f g NotInDoubt within same made is h = h
settle_noted i first before now new k f g NothingToForget within same made is h = h
settle_noted i first before now new k f g NoSuch within same made is h = h
settle_noted i first before now new k f g Exhausted within same made is h = h
