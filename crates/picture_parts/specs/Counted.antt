-- How many steps the events of a run make.
use Rattle.std.specs.Prelude.{◌≡◌, ℕ, Some, None, List, [], ◌∷◌, ◌++◌, length, slice_get, take}
use Rattle.protocol.specs.declared.events.Event.{Event}
use Rattle.protocol.specs.declared.events.StepError.{StepError}
use Rattle.proof_runs.specs.worlds.Refusals.{Refusal}
use Rattle.tree_state.specs.Worlds.{Applies, Stops, WorldState}
use Rattle.tree_engine.specs.Runs.{IsOwn}

-- These events led a tree from the first state to the next one, and the numbers say how many steps were made
-- after each.
pub data Counts (start : WorldState) : List Event → WorldState → List ℕ → Type 0 where
  nothing : Counts start [] start []
  one_more : (es : List Event) (mid : WorldState) (counts : List ℕ) (e : Event) (now : WorldState)
      → Counts start es mid counts → Applies mid e now
      → Counts start (es ++ e ∷ []) now (counts ++ length now.entries ∷ [])

-- so they do up to the event after N, which is refused for this reason: what it did before that is counted,
-- too
pub record CountsUntil (start : WorldState) (events : List Event) (made : ℕ) (why : StepError)
    (end : WorldState)
    (counts : List ℕ) : Type 0 where
  pub mid : WorldState
  pub front : List ℕ
  pub counted : Counts start (take made events) mid front
  pub event : Event
  pub next : slice_get events made ≡ Some event
  pub stops : Stops mid event why end
  pub own : IsOwn why
  pub is : counts ≡ front ++ length end.entries ∷ []

-- so they do, up to the refused one, if one is
abbrev pub CountsTo : WorldState → List Event → Refusal → WorldState → List ℕ → Type 0
CountsTo start events None end counts = Counts start events end counts
CountsTo start events (Some r) end counts = CountsUntil start events r.0 r.1 end counts
