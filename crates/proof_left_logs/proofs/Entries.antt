-- A tree enters only steps in which no device failed.
use Rattle.std.proofs.Common.{◌≡◌, ℕ, zero, suc, Option, Some, None, List, [], ◌∷◌, ◌++◌, refl, sym, subst}
use Rattle.protocol.specs.declared.events.JournalEntry.{JournalEntry}
use Rattle.protocol.specs.declared.events.Event.{Event}
use Rattle.protocol.specs.declared.events.Event.TheVariants.{Act, Deliver, Settle, Restart, Trim}
use Rattle.protocol.specs.declared.events.Happening.{Happening}
use Rattle.protocol.specs.declared.events.Reaction.{Reaction}
use Rattle.protocol.specs.declared.names.ProcessId.{ProcessId}
use Rattle.protocol.specs.declared.trees.TreeProcess.{TreeProcess}
use Rattle.protocol.specs.World.{Made, journal_of}
use Rattle.tree_state.specs.Runs.{IsOpenedTree, EventsLead}
use Rattle.tree_state.specs.Worlds.{Applies, Settles, WorldState, least_open, settles_by, step_entry}
use Rattle.proof_left_logs.proofs.Unfailed.{NoneFailed}

-- in no step of these entries a device failed
unfoldable pub WholeSteps : List JournalEntry → Type 0
WholeSteps [] = Unit {0}
WholeSteps (x ∷ xs) = (x.step.fault ≡ None) × WholeSteps xs

more_steps : (xs ys : List JournalEntry) → WholeSteps xs → WholeSteps ys → WholeSteps (xs ++ ys)
unfolding WholeSteps
more_steps [] ys h k = k
more_steps (x ∷ xs) ys h k = (h.0, more_steps xs ys h.1 k)

first_steps : (xs ys : List JournalEntry) → WholeSteps (xs ++ ys) → WholeSteps xs × WholeSteps ys
unfolding WholeSteps
first_steps [] ys h = (tt, h)
first_steps (x ∷ xs) ys h = let rest = first_steps xs ys h.1 in ((h.0, rest.0), rest.1)

one_more : (old new : List JournalEntry) (q : ProcessId) (happening : Happening)
    (reaction : Reaction) → WholeSteps old
    → new ≡ old ++ step_entry q happening reaction ∷ [] → WholeSteps new
unfolding WholeSteps
one_more old new q happening reaction h is =
    subst WholeSteps (sym is) (more_steps old (step_entry q happening reaction ∷ []) h (refl, tt))

-- the steps of a state
abbrev pub IsWhole : WorldState → Type 0
IsWhole w = WholeSteps w.entries

settled_by : (old new : WorldState) (again : WorldState → Type 0) (o : Option ℕ)
    → ((mid : WorldState) → IsWhole mid → again mid → IsWhole new) → IsWhole old
    → settles_by old new again o → IsWhole new
settled_by old new again None rest h is = subst IsWhole (sym is) h
settled_by old new again (Some k) rest h made =
    let e = made.1.steps.enters in
    rest made.0 (one_more old.entries made.0.entries _ _ _ h e.entries) made.2

settled : (n : ℕ) (old new : WorldState) → IsWhole old → Settles n old new → IsWhole new
settled zero old new h is = subst IsWhole (sym is) h
settled (suc n) old new h made =
    settled_by old new (λ mid. Settles n mid new) (least_open 1 old.delivered)
    (λ mid g rest. settled n mid new g rest) h made

pub applied : (old new : WorldState) (e : Event) → IsWhole old → Applies old e new → IsWhole new
applied old new (Act a) h made = one_more old.entries new.entries _ _ _ h made.enters.entries
applied old new (Deliver k) h made = one_more old.entries new.entries _ _ _ h made.steps.enters.entries
applied old new Settle h made = settled 10000 old new h made
applied old new (Restart q bytes) h made = one_more old.entries new.entries _ _ _ h made.enters.entries
applied old new (Trim q) h made = one_more old.entries new.entries _ _ _ h made.enters.entries

led : (old new : WorldState) (events : List Event) → IsWhole old → EventsLead old events new → IsWhole new
led old new [] h is = subst IsWhole (sym is) h
led old new (e ∷ events) h made = led made.0 new events (applied old made.0 e h made.1) made.2

pub opened : (tree : List TreeProcess) (start : WorldState) → IsOpenedTree start tree → IsWhole start
unfolding WholeSteps
opened tree start opens = subst WholeSteps (sym opens.entries) tt

pub moves_whole : (es : List Made) → WholeSteps (journal_of es) → NoneFailed es
unfolding WholeSteps NoneFailed journal_of
moves_whole [] h = tt
moves_whole (e ∷ es) h =
    let both = first_steps (journal_of es) _ h in (both.1.0, moves_whole es both.0)

-- in no move of a run of events that were all made a device failed
pub none_failed : (tree : List TreeProcess) (start end : WorldState) (events : List Event) (es : List Made)
    → IsOpenedTree start tree → EventsLead start events end → journal_of es ≡ end.entries → NoneFailed es
none_failed tree start end events es opens leads shown =
    moves_whole es (subst WholeSteps (sym shown) (led start end events (opened tree start opens) leads))
