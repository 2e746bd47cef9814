-- What an event adds to the trace.
use Rattle.std.proofs.Common.{◌≡◌, ◌≢◌, ◌∙◌, ◌⊎◌, ◌+◌, sym, ap, subst, refl, ℕ, Some, None, List, [], ◌∷◌, ◌++◌, length, Result, Ok, Err, OnOk, IfErr, inl, inr, append-nil, append_assoc, arith, length-append, take}
use Rattle.std.specs.Prelude.{slice_get}
use Rattle.protocol.specs.declared.events.JournalEntry.{JournalEntry}
use Rattle.protocol.specs.declared.events.Event.{Event}
use Rattle.protocol.specs.declared.events.StepError.{StepError}
use Rattle.protocol.specs.declared.events.StepError.TheVariants.{Memory, Device, UnknownTxn, NotAChild, Closed, Failed, NotInDoubt, NothingToForget, NoSuch, Exhausted}
use Rattle.tree_state.specs.Worlds.{Applies, Stops, WorldState}
use Rattle.tree_state.specs.Runs.{EventsLead}
use Rattle.tree_faults.specs.declared.faults.FailedStep.{FailedStep}
use Rattle.tree_faults.specs.Faults.{AreInOrder, FaultsSight, failed_entries, last_step, placed_in, woven}
use Rattle.tree_faults.proofs.Weaving.{order_more, order_on, woven_more, woven_on}
use Rattle.tree_faults.specs.Traces.{AddsAfter, AddsToTrace, AddsUntil, AreInPlace, NotedUntil, last_in, trace_by}
use Rattle.tree_faults.proofs.Grown.{Grows, applied_grows, stopped_grows}

-- Weaving from the start.

order_at : (fs : List FailedStep) (es : List JournalEntry) → AreInOrder 0 fs (length es)
    → AreInOrder 0 fs (0 + length es)
order_at fs es order = subst (AreInOrder 0 fs) (omega arith) order

place_at : (es : List JournalEntry) → length es ≡ 0 + length es
place_at es = omega arith

-- The last fault is counted.

module _ (s : WorldState) (f g : FaultsSight) (places : AreInPlace s f) (none : g.last ≡ None)
    (counted : g.counted ≡ f.counted ++ placed_in (length s.entries) (last_step s.net s.node_at f.last)) where
  -- the trace stays
  pub counted_trace : trace_by s g ≡ trace_by s f
  counted_trace =
      let step = last_step s.net s.node_at f.last in
      (λ i. woven 0 s.entries (counted i) ++ failed_entries (last_step s.net s.node_at (none i)))
      ∙ append-nil (woven 0 s.entries (f.counted ++ placed_in (length s.entries) step))
      ∙ ap (λ n. woven 0 s.entries (f.counted ++ placed_in n step)) (place_at s.entries)
      ∙ woven_more 0 s.entries f.counted step (order_at f.counted s.entries places)

  pub counted_places : AreInPlace s g
  counted_places = subst (λ fs. AreInOrder 0 fs (length s.entries)) (sym counted)
      (order_more 0 f.counted (length s.entries) (last_step s.net s.node_at f.last) places)

-- What was entered, where the last faults are these.

module _ (s t : WorldState) (f g : FaultsSight) (places : AreInPlace s f) (grows : Grows s t)
    (counted : g.counted ≡ f.counted) where
  pub places_on : AreInPlace t g
  places_on = subst (λ fs. AreInOrder 0 fs (length t.entries)) (sym counted)
      (order_on 0 f.counted (length s.entries) (length t.entries)
      (omega (
        arith,
        ap (λ (xs : List JournalEntry). length xs) grows.grown,
        length-append s.entries grows.entered,
      )) places)

  pub adds_more : (more : List JournalEntry) → f.last ≡ None → last_in t g ≡ more → AddsToTrace s f t g more
  adds_more more none last = record {
    entered = grows.entered;
    grown = grows.grown;
    trace = (λ i. woven 0 (grows.grown i) (counted i) ++ last i)
        ∙ ap (λ xs. xs ++ more) (woven_on 0 s.entries grows.entered f.counted
        (order_at f.counted s.entries places))
        ∙ ap (λ xs. (xs ++ grows.entered) ++ more)
        (sym (append-nil (woven 0 s.entries f.counted))
        ∙ ap (λ o. woven 0 s.entries f.counted ++ failed_entries (last_step s.net s.node_at o)) (sym none));
  }

-- nothing is added
pub adds_nothing : (s : WorldState) (f g : FaultsSight) → g ≡ f → AddsToTrace s f s g []
adds_nothing s f g same = record {
  entered = [];
  grown = sym (append-nil s.entries);
  trace = ap (trace_by s) same ∙ sym (append-nil (trace_by s f ++ []) ∙ append-nil (trace_by s f));
}

-- the same, from another state of the faults by which the trace is the same
pub adds_from : (s t : WorldState) (f e g : FaultsSight) (more : List JournalEntry)
    → trace_by s e ≡ trace_by s f
    → AddsToTrace s e t g more → AddsToTrace s f t g more
adds_from s t f e g more same adds = record {
  entered = adds.entered;
  grown = adds.grown;
  trace = adds.trace ∙ ap (λ xs. (xs ++ adds.entered) ++ more) same;
}

-- one after the other
pub adds_then : (s t u : WorldState) (f g h : FaultsSight) (more : List JournalEntry) → AddsToTrace s f t g []
    → AddsToTrace t g u h more → AddsToTrace s f u h more
adds_then s t u f g h more one two = record {
  entered = one.entered ++ two.entered;
  grown = two.grown ∙ ap (λ xs. xs ++ two.entered) one.grown ∙ append_assoc s.entries one.entered two.entered;
  trace = two.trace
      ∙ ap (λ xs. (xs ++ two.entered) ++ more) (one.trace ∙ append-nil (trace_by s f ++ one.entered))
      ∙ ap (λ xs. xs ++ more) (append_assoc (trace_by s f) one.entered two.entered);
}

-- An event, once the last fault is counted.

-- the faults stay, unless the device failed
not_noted : (s t : WorldState) (f g : FaultsSight) (event : Event) (e : StepError) → e ≢ Device
    → NotedUntil s f event t g e → g ≡ f
not_noted s t f g event Memory works h = h
not_noted s t f g event Device works h = absurd (works refl)
not_noted s t f g event UnknownTxn works h = h
not_noted s t f g event NotAChild works h = h
not_noted s t f g event Closed works h = h
not_noted s t f g event Failed works h = h
not_noted s t f g event NotInDoubt works h = h
not_noted s t f g event NothingToForget works h = h
not_noted s t f g event NoSuch works h = h
not_noted s t f g event Exhausted works h = h

pub noted_not : (s t : WorldState) (f g : FaultsSight) (event : Event) (e : StepError) → e ≢ Device → g ≡ f
    → NotedUntil s f event t g e
noted_not s t f g event Memory works h = h
noted_not s t f g event Device works h = absurd (works refl)
noted_not s t f g event UnknownTxn works h = h
noted_not s t f g event NotAChild works h = h
noted_not s t f g event Closed works h = h
noted_not s t f g event Failed works h = h
noted_not s t f g event NotInDoubt works h = h
noted_not s t f g event NothingToForget works h = h
noted_not s t f g event NoSuch works h = h
noted_not s t f g event Exhausted works h = h

adds_until : (s t : WorldState) (f g : FaultsSight) (event : Event) (e : StepError) → e ≢ Device
    → AddsToTrace s f t g [] → AddsUntil s f event t g e
adds_until s t f g event Memory works h = h
adds_until s t f g event Device works h = absurd (works refl)
adds_until s t f g event UnknownTxn works h = h
adds_until s t f g event NotAChild works h = h
adds_until s t f g event Closed works h = h
adds_until s t f g event Failed works h = h
adds_until s t f g event NotInDoubt works h = h
adds_until s t f g event NothingToForget works h = h
adds_until s t f g event NoSuch works h = h
adds_until s t f g event Exhausted works h = h

-- an error is the device's, or it is not
pub device_or : (e : StepError) → (e ≡ Device) ⊎ (e ≢ Device)
device_or Memory = inr (λ is. absurd cc)
device_or Device = inl refl
device_or UnknownTxn = inr (λ is. absurd cc)
device_or NotAChild = inr (λ is. absurd cc)
device_or Closed = inr (λ is. absurd cc)
device_or Failed = inr (λ is. absurd cc)
device_or NotInDoubt = inr (λ is. absurd cc)
device_or NothingToForget = inr (λ is. absurd cc)
device_or NoSuch = inr (λ is. absurd cc)
device_or Exhausted = inr (λ is. absurd cc)

-- where all faults are counted the last one is none
none_last : (t : WorldState) (e g : FaultsSight) → e.last ≡ None → g ≡ e → last_in t g ≡ []
none_last t e g none same =
    ap (λ (h : FaultsSight). last_in t h) same
    ∙ ap (λ o. failed_entries (last_step t.net t.node_at o)) none

module _ (s t : WorldState) (f e g : FaultsSight) (event : Event) (made : Result (Unit {0}) StepError)
    (places : AreInPlace s e) (none : e.last ≡ None) (same : trace_by s e ≡ trace_by s f)
    (ok : OnOk made (Applies s event t)) (err : IfErr made (λ x. Stops s event x t))
    (stay : OnOk made (g ≡ e)) (noted : IfErr made (NotedUntil s e event t g)) where
  -- what is added by an event that ended so
  added : (r : Result (Unit {0}) StepError) → OnOk r (Applies s event t) → OnOk r (g ≡ e)
      → OnOk r (AddsToTrace s f t g [])
  added (Err x) ok stay = tt
  added (Ok u) ok stay =
      adds_from s t f e g [] same
      (adds_more s t e g places (applied_grows s t event ok)
      (ap (λ (h : FaultsSight). h.counted) stay) [] none
      (none_last t e g none stay))

  shown : (x : StepError) → Stops s event x t → NotedUntil s e event t g x → (x ≡ Device) ⊎ (x ≢ Device)
      → AddsUntil s f event t g x
  shown x stops noted (inl is) =
      let n = subst (NotedUntil s e event t g) is noted in
      subst (AddsUntil s f event t g) (sym is) (record {
        entry = n.entry;
        fails = n.fails;
        adds = adds_from s t f e g (n.entry ∷ []) same
            (adds_more s t e g places (stopped_grows s t event x stops) n.counted (n.entry ∷ []) none n.last);
      })
  shown x stops noted (inr works) =
      let stay = not_noted s t e g event x works noted in
      adds_until s t f g event x works
      (adds_from s t f e g [] same
      (adds_more s t e g places (stopped_grows s t event x stops)
      (ap (λ (h : FaultsSight). h.counted) stay) [] none
      (none_last t e g none stay)))

  until : (r : Result (Unit {0}) StepError) → IfErr r (λ x. Stops s event x t)
      → IfErr r (NotedUntil s e event t g)
      → IfErr r (AddsUntil s f event t g)
  until (Ok u) err noted = tt
  until (Err x) err noted = shown x err noted (device_or x)

  in_place : (r : Result (Unit {0}) StepError) → OnOk r (Applies s event t) → IfErr r (λ x. Stops s event x t)
      → OnOk r (g ≡ e) → IfErr r (NotedUntil s e event t g) → AreInPlace t g
  in_place (Ok u) ok err stay noted =
      places_on s t e g places (applied_grows s t event ok) (ap (λ (h : FaultsSight). h.counted) stay)
  in_place (Err x) ok err stay noted = by_error (device_or x)
    where
      by_error : (x ≡ Device) ⊎ (x ≢ Device) → AreInPlace t g
      by_error (inl is) =
          let n = subst (NotedUntil s e event t g) is noted in
          places_on s t e g places (stopped_grows s t event x err) n.counted
      by_error (inr works) =
          places_on s t e g places (stopped_grows s t event x err)
          (ap (λ (h : FaultsSight). h.counted) (not_noted s t e g event x works noted))

  pub made_adds : OnOk made (AddsToTrace s f t g [])
  made_adds = added made ok stay

  pub made_until : IfErr made (AddsUntil s f event t g)
  made_until = until made err noted

  pub made_places : AreInPlace t g
  made_places = in_place made ok err stay noted

-- Lists of events.

-- the next event of a list, after N that were made
pub until_after : (s mid t : WorldState) (f g h : FaultsSight) (events : List Event) (n : ℕ)
    (event : Event) (x : StepError)
    → slice_get events n ≡ Some event → EventsLead s (take n events) mid → AddsToTrace s f mid g []
    → AddsUntil mid g event t h x → AddsAfter s f events t h n x
until_after s mid t f g h events n event x next leads first ends = by_error (device_or x)
  where
    plain : (y : StepError) → y ≢ Device → AddsUntil mid g event t h y → AddsToTrace mid g t h []
    plain Memory works a = a
    plain Device works a = absurd (works refl)
    plain UnknownTxn works a = a
    plain NotAChild works a = a
    plain Closed works a = a
    plain Failed works a = a
    plain NotInDoubt works a = a
    plain NothingToForget works a = a
    plain NoSuch works a = a
    plain Exhausted works a = a

    whole : (y : StepError) → y ≢ Device → AddsToTrace s f t h [] → AddsAfter s f events t h n y
    whole Memory works a = a
    whole Device works a = absurd (works refl)
    whole UnknownTxn works a = a
    whole NotAChild works a = a
    whole Closed works a = a
    whole Failed works a = a
    whole NotInDoubt works a = a
    whole NothingToForget works a = a
    whole NoSuch works a = a
    whole Exhausted works a = a

    by_error : (x ≡ Device) ⊎ (x ≢ Device) → AddsAfter s f events t h n x
    by_error (inl is) =
        let a = subst (AddsUntil mid g event t h) is ends in
        subst (AddsAfter s f events t h n) (sym is) (record {
          entry = a.entry;
          fails = record { event = event; next = next; before = mid; leads = leads; fails = a.fails };
          adds = adds_then s mid t f g h (a.entry ∷ []) first a.adds;
        })
    by_error (inr works) = whole x works (adds_then s mid t f g h [] first (plain x works ends))
