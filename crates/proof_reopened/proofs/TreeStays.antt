-- The processes of a tree are the same after each event, made or not.
use Rattle.std.proofs.Common.{◌≡◌, ◌∙◌, ap, ℕ, zero, suc, Option, Some, None, List, [], ◌∷◌, take}
use Rattle.protocol.specs.declared.names.ProcessId.{ProcessId}
use Rattle.protocol.specs.declared.messages.Envelope.{Envelope}
use Rattle.protocol.specs.declared.events.Act.{Act}
use Rattle.protocol.specs.declared.events.Event.{Event}
use Rattle.protocol.specs.declared.events.Event.TheVariants.{Deliver, Settle, Restart, Trim}
use Rattle.protocol_words.specs.Variants.{ActOf}
use Rattle.protocol.specs.declared.events.StepError.{StepError}
use Rattle.protocol_words.specs.step_error
use Rattle.protocol.specs.Plays.{process_of_act, sent_as}
use Rattle.protocol.specs.Trees.{root_of}
use Rattle.tree_state.specs.Worlds.{Applies, DeviceFailsUnder, NoneDelivered, NotActed, NotDelivered, NotRestartedAt, NotTrimmedAt, Settles, Stops, WorldState, least_open, settles_by}
use Rattle.tree_state.specs.Runs.{EventsLead, LeadsUntil}

settle_by : (n : ℕ) (s t : WorldState) (o : Option ℕ)
    → ((mid : WorldState) → Settles n mid t → t.tree ≡ mid.tree)
    → settles_by s t (λ mid. Settles n mid t) o → t.tree ≡ s.tree
settle_by n s t None rest h = ap (λ (w : WorldState). w.tree) h
settle_by n s t (Some k) rest h = rest h.0 h.2 ∙ h.1.steps.moves.tree

settles_stay : (n : ℕ) (s t : WorldState) → Settles n s t → t.tree ≡ s.tree
settles_stay zero s t h = ap (λ (w : WorldState). w.tree) h
settles_stay (suc n) s t h = settle_by n s t (least_open 1 s.delivered) (λ mid k. settles_stay n mid t k) h

pub applied_stays : (s t : WorldState) (event : Event) → Applies s event t → t.tree ≡ s.tree
applied_stays s t (ActOf a) h = h.moves.tree
applied_stays s t (Deliver k) h = h.steps.moves.tree
applied_stays s t Settle h = settles_stay 10000 s t h
applied_stays s t (Restart q bytes) h = h.moves.tree
applied_stays s t (Trim q) h = h.moves.tree

under_stays : (s t : WorldState) (k : ℕ) (o : Option Envelope) → DeviceFailsUnder s t k o → t.tree ≡ s.tree
under_stays s t k None h = absurd h
under_stays s t k (Some l) h = h.moves.tree

undelivered_stays : (s t : WorldState) (k : ℕ) (e : StepError) → NotDelivered s t k e → t.tree ≡ s.tree
undelivered_stays s t k step_error.Memory h = h.tree
undelivered_stays s t k step_error.Device h = under_stays s t k (sent_as s.net k) h
undelivered_stays s t k step_error.UnknownTxn h = h.0.tree
undelivered_stays s t k step_error.NotAChild h = h.0.tree
undelivered_stays s t k step_error.Closed h = h.0.tree
undelivered_stays s t k step_error.NotInDoubt h = h.0.tree
undelivered_stays s t k step_error.NothingToForget h = h.0.tree
undelivered_stays s t k step_error.Failed h = h.0.tree
undelivered_stays s t k step_error.NoSuch h = h.0.tree
undelivered_stays s t k step_error.Exhausted h = h.0.tree

unacted_stays : (s t : WorldState) (q : ProcessId) (a : Act) (e : StepError) → NotActed s t q a e
    → t.tree ≡ s.tree
unacted_stays s t q a step_error.Memory h = h.tree
unacted_stays s t q a step_error.Device h = h.moves.tree
unacted_stays s t q a step_error.UnknownTxn h = h.0.tree
unacted_stays s t q a step_error.NotAChild h = h.0.tree
unacted_stays s t q a step_error.Closed h = h.0.tree
unacted_stays s t q a step_error.NotInDoubt h = h.0.tree
unacted_stays s t q a step_error.NothingToForget h = h.0.tree
unacted_stays s t q a step_error.Failed h = h.0.tree
unacted_stays s t q a step_error.NoSuch h = h.0.tree
unacted_stays s t q a step_error.Exhausted h = h.0.tree

unrestarted_stays : (s t : WorldState) (q : ProcessId) (bytes : Option ℕ) (e : StepError)
    → NotRestartedAt s t q bytes e → t.tree ≡ s.tree
unrestarted_stays s t q bytes step_error.Memory h = h.tree
unrestarted_stays s t q bytes step_error.Device h = h.moves.tree
unrestarted_stays s t q bytes step_error.UnknownTxn h = absurd h
unrestarted_stays s t q bytes step_error.NotAChild h = absurd h
unrestarted_stays s t q bytes step_error.Closed h = absurd h
unrestarted_stays s t q bytes step_error.NotInDoubt h = absurd h
unrestarted_stays s t q bytes step_error.NothingToForget h = absurd h
unrestarted_stays s t q bytes step_error.Failed h = absurd h
unrestarted_stays s t q bytes step_error.NoSuch h = h.0.tree
unrestarted_stays s t q bytes step_error.Exhausted h = h.0.tree

untrimmed_stays : (s t : WorldState) (q : ProcessId) (e : StepError) → NotTrimmedAt s t q e → t.tree ≡ s.tree
untrimmed_stays s t q step_error.Memory h = h.tree
untrimmed_stays s t q step_error.Device h = h.moves.tree
untrimmed_stays s t q step_error.UnknownTxn h = absurd h
untrimmed_stays s t q step_error.NotAChild h = absurd h
untrimmed_stays s t q step_error.Closed h = absurd h
untrimmed_stays s t q step_error.NotInDoubt h = absurd h
untrimmed_stays s t q step_error.NothingToForget h = absurd h
untrimmed_stays s t q step_error.Failed h = h.0.tree
untrimmed_stays s t q step_error.NoSuch h = h.0.tree
untrimmed_stays s t q step_error.Exhausted h = absurd h

none_stays : (s t : WorldState) (e : StepError) (o : Option ℕ) → NoneDelivered s t e o → t.tree ≡ s.tree
none_stays s t e None h = h.1.tree
none_stays s t e (Some k) h = undelivered_stays s t k e h

pub stopped_stays : (s t : WorldState) (event : Event) (e : StepError) → Stops s event e t → t.tree ≡ s.tree
stopped_stays s t (ActOf a) e h = unacted_stays s t (process_of_act (root_of s.tree) a) a e h
stopped_stays s t (Deliver k) e h = undelivered_stays s t k e h
stopped_stays s t Settle e h = none_stays h.before t e (least_open 1 h.before.delivered) h.stops
    ∙ settles_stay h.count s h.before h.settles
stopped_stays s t (Restart q bytes) e h = unrestarted_stays s t q bytes e h
stopped_stays s t (Trim q) e h = untrimmed_stays s t q e h

pub led_stays : (s t : WorldState) (events : List Event) → EventsLead s events t → t.tree ≡ s.tree
led_stays s t [] h = ap (λ (w : WorldState). w.tree) h
led_stays s t (e ∷ events) h = led_stays h.0 t events h.2 ∙ applied_stays s h.0 e h.1

pub led_until_stays : (s t : WorldState) (events : List Event) (n : ℕ) (e : StepError)
    → LeadsUntil s events n e t
    → t.tree ≡ s.tree
led_until_stays s t events n e h =
    stopped_stays h.before t h.event e h.stops ∙ led_stays s h.before (take n events) h.leads
