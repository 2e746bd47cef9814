-- Events and deliveries, gone through.
use Rattle.std.proofs.lemmas.List.{take_more}
use Rattle.std.proofs.lemmas.Option.{slice_get-get_or}
use Rattle.std.proofs.Common.{◌≡◌, ◌≢◌, ◌∙◌, inl, inr, ap, sym, subst, ℕ, zero, suc, pred, ◌+◌, ◌<◌, is_some, true, false, true≢false, Result, Ok, Err, IfOk, Some, None, List, [], ◌∷◌, ◌++◌, length, drop, get_or, take, arith, refl}
use Rattle.protocol.specs.declared.events.Event.{Event}
use Rattle.protocol.specs.declared.events.Event.TheVariants.{Act, Deliver, Restart, Settle, Trim}
use Rattle.proof_runs.specs.worlds.Refusals.{Refusal}
use Rattle.crash_engine.specs.declared.origin.Origin.{Origin}
use Rattle.crash_engine.specs.declared.points.CrashPlace.{CrashPlace}
use Rattle.crash_engine.specs.declared.trials.Trial.{Trial}
use Rattle.tree_world.specs.Worlds.{state}
use Rattle.tree_engine.specs.declared.run.Run.{Run}
use Rattle.tree_engine.specs.Runs.{HasCome}
use Rattle.report_io.specs.declared.streams.Failure.{Failure}
use Rattle.tree_engine.specs.Failures.{CannotMake}
use Rattle.tree_engine.proofs.Going.{cannot_longer, none_more}
use Rattle.crash_engine.proofs.Failing.{run_breaks}
use Rattle.crash_engine.specs.Failures.{CannotGoDown, CannotGoOn}
use Rattle.crash_engine.proofs.Trying.{comes_to}
use Rattle.crash_engine.specs.Origins.{Opens, PlaysFrom}
use Rattle.crash_engine.specs.Settles.{SettlesBy, deliveries_in}
use Rattle.crash_engine.specs.Trials.{Adds, GoesDown, GoesOn, GoesWithin, Known, after_event, within_event}

-- one delivery more
pub one_delivery_more : (o : Origin) (known : Known) (number : ℕ) (events deliveries : List Event) (d : ℕ)
    (at : CrashPlace)
    (front : List Event) (refusal : Refusal) (old middle new : List Trial)
    → at ≡ within_event number (suc d) → front ≡ events ++ take (suc d) deliveries
    → Adds o known at front refusal middle new
    → GoesDown o known number events deliveries d old middle
    → GoesDown o known number events deliveries (suc d) old new
one_delivery_more o known number events deliveries d at front refusal old middle new there is adds goes = (
  middle,
  refusal,
  goes,
  subst (λ a. Adds o known a (events ++ take (suc d) deliveries) refusal middle new) there
      (subst (λ es. Adds o known at es refusal middle new) is adds),
)

-- one event more, at its place
one_more_taken : (events : List Event) (n : ℕ) (event at : Event) → n < length events → event ≡ at
    → at ≡ get_or events n at
    → take n events ++ event ∷ [] ≡ take (suc n) events
one_more_taken events n event at within same is =
    let more : n + 1 ≡ suc n = omega arith in
    ap (λ e. take n events ++ e ∷ []) (same ∙ is) ∙ sym (take_more events n at within)
    ∙ ap (λ k. take k events) more

-- the same, counted otherwise
pub one_taken : (events : List Event) (n : ℕ) (event at : Event) → n < length events → event ≡ at
    → at ≡ get_or events n at
    → take n events ++ event ∷ [] ≡ take (n + 1) events
one_taken events n event at within same is =
    ap (λ e. take n events ++ e ∷ []) (same ∙ is) ∙ sym (take_more events n at within)

-- the first n events, and the next
pub taken_on : (events : List Event) (n : ℕ) → take n events ++ take 1 (drop n events) ≡ take (suc n) events
taken_on [] zero = refl
taken_on [] (suc n) = refl
taken_on (e ∷ events) zero = refl
taken_on (e ∷ events) (suc n) = ap (λ es. e ∷ es) (taken_on events n)

-- one of the first events was refused
pub front_refused : (o : Origin) (known : Known) (events : List Event) (n : ℕ) (first run : Run)
    (old : List Trial)
    → Opens o first → HasCome (state first.world) (take n events) run → is_some run.refusal ≡ true
    → GoesOn o known events n run.refusal old old
front_refused o known events n first run old opens come is =
    refused_by run.refusal is (subst (λ es. PlaysFrom o es run.refusal (state run.world)) (taken_on events n)
    (comes_to o first run (take n events ++ take 1 (drop n events)) opens
    (none_more (state first.world) (state run.world) (take n events) (take 1 (drop n events)) run.refusal
    run.made is come)))
  where
    refused_by : (refusal : Refusal) → is_some refusal ≡ true
        → PlaysFrom o (take (suc n) events) refusal (state run.world)
        → GoesOn o known events n refusal old old
    refused_by None is ran = absurd (cc)
    refused_by (Some r) is ran = (refl, (state run.world, ran))

-- an event was refused
pub event_refused : (o : Origin) (known : Known) (events : List Event) (n : ℕ) (event at : Event)
    (first run : Run)
    (old : List Trial) → n < length events → event ≡ at → at ≡ get_or events n at → Opens o first
    → HasCome (state first.world) (take n events ++ event ∷ []) run → is_some run.refusal ≡ true
    → GoesOn o known events n run.refusal old old
event_refused o known events n event at first run old within same is opens come some =
    refused_by run.refusal some (subst (λ es. PlaysFrom o es run.refusal (state run.world))
    (one_more_taken events n event at within same is)
    (comes_to o first run (take n events ++ event ∷ []) opens come))
  where
    refused_by : (refusal : Refusal) → is_some refusal ≡ true
        → PlaysFrom o (take (suc n) events) refusal (state run.world)
        → GoesOn o known events n refusal old old
    refused_by None some ran = absurd (cc)
    refused_by (Some r) some ran = (refl, (state run.world, ran))

none_by : (refusal : Refusal) → is_some refusal ≡ false → refusal ≡ None
none_by None is = refl
none_by (Some refused) is = absurd (cc)

-- a settle was made after the first events, and these are its deliveries
pub settle_made : (o : Origin) (events deliveries : List Event) (event : Event) (first before after : Run)
    → Opens o first → HasCome (state first.world) events before → is_some before.refusal ≡ false
    → HasCome (state first.world) (events ++ event ∷ []) after → is_some after.refusal ≡ false
    → event ≡ Settle
    → deliveries ≡ deliveries_in (drop (length (state before.world).entries) (state after.world).entries)
    → SettlesBy o events deliveries
settle_made o events deliveries event first before after opens come none came none_then is are = record {
  before = state before.world;
  after = state after.world;
  ran = subst (λ r. PlaysFrom o events r (state before.world)) (none_by before.refusal none)
      (comes_to o first before events opens come);
  settled = subst (λ r. PlaysFrom o (events ++ Settle ∷ []) r (state after.world))
      (none_by after.refusal none_then)
      (subst (λ e. PlaysFrom o (events ++ e ∷ []) after.refusal (state after.world)) is
      (comes_to o first after (events ++ event ∷ []) opens came));
  are = are;
}

-- what is known of the deliveries of an event that was made after the first events: those of a settle are
-- read off its steps, and others have none
pub record HasDelivered (o : Origin) (events deliveries : List Event) (at : Event) : Type 0 where
  pub settle : at ≡ Settle → SettlesBy o events deliveries
  pub other : at ≢ Settle → deliveries ≡ []

pub has_delivered : (o : Origin) (events deliveries : List Event) (event at : Event)
    (first before after : Run)
    → Opens o first → HasCome (state first.world) events before → is_some before.refusal ≡ false
    → HasCome (state first.world) (events ++ event ∷ []) after → is_some after.refusal ≡ false → event ≡ at
    → (at ≡ Settle → deliveries ≡ deliveries_in
    (drop (length (state before.world).entries) (state after.world).entries))
    → (at ≢ Settle → deliveries ≡ []) → HasDelivered o events deliveries at
has_delivered o events deliveries event at first before after opens come none came none_then same settle
    other = record {
      settle = λ is. settle_made o events deliveries event first before after opens come none came none_then
          (same ∙ is) (settle is);
      other = other;
    }

-- it was gone through, within
goes_within : (o : Origin) (known : Known) (number : ℕ) (events deliveries : List Event) (at : Event)
    (old new : List Trial)
    → HasDelivered o events deliveries at → GoesDown o known number events deliveries
    (pred (length deliveries)) old new
    → GoesWithin o known number events (Some at) old new
goes_within o known number events deliveries Settle old new has goes = (deliveries, has.settle refl, goes)
goes_within o known number events deliveries (Act a) old new has goes =
    subst (λ ds. GoesDown o known number events ds (pred (length ds)) old new)
    (has.other (λ is. absurd (cc))) goes
goes_within o known number events deliveries (Deliver k) old new has goes =
    subst (λ ds. GoesDown o known number events ds (pred (length ds)) old new)
    (has.other (λ is. absurd (cc))) goes
goes_within o known number events deliveries (Restart q bytes) old new has goes =
    subst (λ ds. GoesDown o known number events ds (pred (length ds)) old new)
    (has.other (λ is. absurd (cc))) goes
goes_within o known number events deliveries (Trim q) old new has goes =
    subst (λ ds. GoesDown o known number events ds (pred (length ds)) old new)
    (has.other (λ is. absurd (cc))) goes

-- an event was gone through, within and after it
pub gone_on : (o : Origin) (known : Known) (events deliveries : List Event) (n number : ℕ) (at : Event)
    (place : CrashPlace)
    (front : List Event) (run : Run) (r : Result Refusal Failure) (old middle new : List Trial)
    → n < length events
    → at ≡ get_or events n at → number ≡ suc n → place ≡ after_event (suc n) → front ≡ take (suc n) events
    → HasDelivered o (take n events) deliveries at
    → GoesDown o known number (take n events) deliveries (pred (length deliveries)) old middle
    → is_some run.refusal ≡ false → IfOk r (λ refusal. Adds o known place front refusal middle new)
    → IfOk r (λ refusal. refusal ≡ run.refusal)
    → IfOk r (λ refusal. GoesOn o known events n refusal old new)
gone_on o known events deliveries n number at place front run (Err e) old middle new within is numbered there
    taken has goes none adds
    same = tt
gone_on o known events deliveries n number at place front run (Ok (Some refused)) old middle new within is
    numbered there taken has goes
    none adds same = absurd (true≢false (ap (λ (x : Refusal). is_some x) same ∙ none))
gone_on o known events deliveries n number at place front run (Ok None) old middle new within is numbered
    there taken has goes none adds
    same = (
      middle,
      subst (λ e. GoesWithin o known (suc n) (take n events) e old middle)
          (sym (slice_get-get_or events n at within ∙ ap Some (sym is)))
          (subst (λ k. GoesWithin o known k (take n events) (Some at) old middle) numbered
          (goes_within o known number (take n events) deliveries at old middle has goes)),
      subst (λ a. Adds o known a (take (suc n) events) None middle new) there
          (subst (λ es. Adds o known place es None middle new) taken adds),
    )

-- Events that cannot be made.

-- the first events cannot
pub front_breaks : (o : Origin) (events : List Event) (n : ℕ) (first : Run) (why : Failure) → Opens o first
    → CannotMake (state first.world) (take n events) why → CannotGoOn o events n why
front_breaks o events n first why opens cannot =
    inl (inl (run_breaks o (take (suc n) events) first why opens
    (subst (λ es. CannotMake (state first.world) es why) (taken_on events n)
    (cannot_longer (state first.world) (take n events) (take 1 (drop n events)) why cannot))))

-- an event cannot
pub event_breaks : (o : Origin) (events : List Event) (n : ℕ) (event at : Event) (first : Run) (why : Failure)
    → n < length events → event ≡ at → at ≡ get_or events n at → Opens o first
    → CannotMake (state first.world) (take n events ++ event ∷ []) why → CannotGoOn o events n why
event_breaks o events n event at first why within same is opens cannot =
    inl (inl (run_breaks o (take (suc n) events) first why opens
    (subst (λ es. CannotMake (state first.world) es why)
    (one_more_taken events n event at within same is) cannot)))

no_deliveries : (o : Origin) (events deliveries : List Event) (why : Failure) → deliveries ≡ []
    → CannotGoDown o events deliveries why → ⊥
no_deliveries o events [] why is down = absurd (omega (arith, down.within))
no_deliveries o events (d ∷ deliveries) why is down = absurd (cc)

-- not each crash within it is tried
pub within_breaks : (o : Origin) (events deliveries : List Event) (n : ℕ) (at : Event) (why : Failure)
    → HasDelivered o (take n events) deliveries at → CannotGoDown o (take n events) deliveries why
    → CannotGoOn o events n why
within_breaks o events deliveries n Settle why has down = inr (deliveries, has.settle refl, down)
within_breaks o events deliveries n (Act a) why has down =
    absurd (no_deliveries o (take n events) deliveries why (has.other (λ is. absurd (cc))) down)
within_breaks o events deliveries n (Deliver k) why has down =
    absurd (no_deliveries o (take n events) deliveries why (has.other (λ is. absurd (cc))) down)
within_breaks o events deliveries n (Restart q bytes) why has down =
    absurd (no_deliveries o (take n events) deliveries why (has.other (λ is. absurd (cc))) down)
within_breaks o events deliveries n (Trim q) why has down =
    absurd (no_deliveries o (take n events) deliveries why (has.other (λ is. absurd (cc))) down)
