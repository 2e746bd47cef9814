-- How far a run has come.
use Rattle.std.proofs.Common.{◌≡◌, ◌∙◌, sym, ap, subst, refl, ℕ, ◌+◌, ◌<◌, ◌≤◌, List, [], ◌∷◌, ◌++◌, take, length, get_or}
use Rattle.std.proofs.lemmas.List.{take_more, take_all}
use Rattle.std.proofs.lemmas.Option.{slice_get_read}
use Rattle.protocol.specs.declared.events.Event.{Event}
use Rattle.protocol.specs.declared.events.StepError.{StepError}
use Rattle.tree_state.specs.Worlds.{Applies, Stops, WorldState}
use Rattle.tree_state.specs.Runs.{EventsLead, LeadsUntil}

-- one event more was made
leads_more : (first now new : WorldState) (made : List Event) (e : Event) → EventsLead first made now
    → Applies now e new → EventsLead first (made ++ e ∷ []) new
leads_more first now new [] e same h = (new, subst (λ w. Applies w e new) same h, refl)
leads_more first now new (x ∷ made) e led h = (led.0, led.1, leads_more led.0 now new made e led.2 h)

pub run_goes_on : (first now new : WorldState) (events : List Event) (i : ℕ) (e : Event) → i < length events
    → e ≡ get_or events i e → EventsLead first (take i events) now → Applies now e new
    → EventsLead first (take (i + 1) events) new
run_goes_on first now new events i e within is led h =
    subst (λ xs. EventsLead first xs new)
    (sym (take_more events i e within ∙ ap (λ (x : Event). take i events ++ x ∷ []) (sym is)))
    (leads_more first now new (take i events) e led h)

pub run_ends : (first now : WorldState) (events : List Event) (i : ℕ) → length events ≤ i
    → EventsLead first (take i events) now → EventsLead first events now
run_ends first now events i past led = subst (λ xs. EventsLead first xs now) (take_all i events past) led

pub run_stops : (first now new : WorldState) (events : List Event) (i : ℕ) (e : Event)
    (refusal : StepError) → i < length events
    → e ≡ get_or events i e → EventsLead first (take i events) now → Stops now e refusal new
    → LeadsUntil first events i refusal new
run_stops first now new events i e refusal within is led stops =
    record {
      event = e;
      next = slice_get_read events (length events) i e refl within is;
      before = now;
      leads = led;
      stops = stops;
    }
