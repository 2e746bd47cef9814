-- Events after events.
use Rattle.std.proofs.Common.{◌≡◌, ◌≢◌, ◌∙◌, ap, sym, subst, ℕ, zero, suc, ◌+◌, ◌<◌, ◌^◌, true, false, is_some, Some, None, List, [], ◌∷◌, ◌++◌, length, take, drop, inl, inr, ◌≤◌, refl, arith, length-append, append_assoc}
use Rattle.std.specs.Prelude.{slice_get}
use Rattle.std.proofs.Math.Seq.{take-append-add}
use Rattle.std.proofs.lemmas.List.{take-append-drop}
use Rattle.protocol.specs.declared.events.Event.{Event}
use Rattle.protocol.specs.declared.events.StepError.{StepError}
use Rattle.protocol.specs.declared.events.StepError.TheVariants.{Memory, Device, Exhausted}
use Rattle.protocol.specs.declared.trees.TreeProcess.{TreeProcess}
use Rattle.protocol.specs.Trees.{IsTree}
use Rattle.proof_runs.specs.worlds.Refusals.{Refusal}
use Rattle.tree_state.specs.Runs.{IsOpenedTree, EventsLead, LeadsUntil}
use Rattle.tree_state.specs.Worlds.{Applies, Stops, WorldState}
use Rattle.proof_runs.proofs.worlds.Whole.{run_of}
use Rattle.report_io.specs.declared.streams.Failure.{Failure}
use Rattle.report_io.specs.declared.streams.Failure.TheVariants as failure
use Rattle.tree_engine.specs.Failures.{BreaksOff, CannotMake}
use Rattle.tree_engine.specs.Runs.{ComesTo, IsFailure}
use Rattle.tree_engine.specs.Trees.{Plays}

leads_on : (s m e : WorldState) (xs ys : List Event) → EventsLead s xs m → EventsLead m ys e
    → EventsLead s (xs ++ ys) e
leads_on s m e [] ys same led = subst (λ w. EventsLead w ys e) same led
leads_on s m e (x ∷ xs) ys first led = (first.0, first.1, leads_on first.0 m e xs ys first.2 led)

got_longer : (xs ys : List Event) (n : ℕ) (x : Event) → slice_get xs n ≡ Some x
    → slice_get (xs ++ ys) n ≡ Some x
got_longer [] ys n x is = absurd (cc)
got_longer (y ∷ xs) ys zero x is = is
got_longer (y ∷ xs) ys (suc n) x is = got_longer xs ys n x is

taken_longer : (xs ys : List Event) (n : ℕ) (x : Event) → slice_get xs n ≡ Some x
    → take n (xs ++ ys) ≡ take n xs
taken_longer [] ys n x is = absurd (cc)
taken_longer (y ∷ xs) ys zero x is = refl
taken_longer (y ∷ xs) ys (suc n) x is = ap (λ zs. y ∷ zs) (taken_longer xs ys n x is)

got_behind : (xs ys : List Event) (n : ℕ) → slice_get (xs ++ ys) (length xs + n) ≡ slice_get ys n
got_behind [] ys n = let at : 0 + n ≡ n = omega arith in rw at refl
got_behind (x ∷ xs) ys n =
    let at : length (x ∷ xs) + n ≡ suc (length xs + n) = omega arith in
    rw at (got_behind xs ys n)

-- the events after a refused one change nothing
until_stays : (s e : WorldState) (xs ys : List Event) (n : ℕ) (r : StepError) → LeadsUntil s xs n r e
    → LeadsUntil s (xs ++ ys) n r e
until_stays s e xs ys n r h = record {
  event = h.event;
  next = got_longer xs ys n h.event h.next;
  before = h.before;
  leads = subst (λ zs. EventsLead s zs h.before) (sym (taken_longer xs ys n h.event h.next)) h.leads;
  stops = h.stops;
}

until_on : (s m e : WorldState) (xs ys : List Event) (n : ℕ) (r : StepError)
    → EventsLead s xs m → LeadsUntil m ys n r e
    → LeadsUntil s (xs ++ ys) (length xs + n) r e
until_on s m e xs ys n r led h = record {
  event = h.event;
  next = got_behind xs ys n ∙ h.next;
  before = h.before;
  leads = subst (λ zs. EventsLead s zs h.before) (sym (take-append-add xs ys n))
      (leads_on s m h.before xs (take n ys) led h.leads);
  stops = h.stops;
}

-- one event was made
pub one_led : (now new : WorldState) (e : Event) → Applies now e new → EventsLead now (e ∷ []) new
one_led now new e made = (new, made, refl)

-- it was refused
pub one_stopped : (now new : WorldState) (e : Event) (r : StepError) → Stops now e r new
    → LeadsUntil now (e ∷ []) 0 r new
one_stopped now new e r stops =
    record { event = e; next = refl; before = now; leads = refl; stops = stops }

-- a run of no event
pub begins : (s : WorldState) → ComesTo s [] None 0 s
begins s = record { leads = refl; number = λ none. refl; itself = tt; numbered = tt }

-- where an event was refused, none after it is made
pub none_more : (s now : WorldState) (given events : List Event) (refusal : Refusal)
    (n : ℕ) → is_some refusal ≡ true
    → ComesTo s given refusal n now → ComesTo s (given ++ events) refusal n now
none_more s now given events None n is h = absurd (cc)
none_more s now given events (Some r) n is h = record {
  leads = until_stays s now given events r.0 r.1 h.leads;
  number = λ none. absurd (cc);
  itself = h.itself;
  numbered = h.numbered;
}

-- all were made
pub all_more : (s now new : WorldState) (given events : List Event) (refusal : Refusal)
    (n m : ℕ) → is_some refusal ≡ false
    → ComesTo s given refusal n now → EventsLead now events new → m ≡ n + length events
    → ComesTo s (given ++ events) refusal m new
all_more s now new given events (Some r) n m is h led sum = absurd (cc)
all_more s now new given events None n m is h led sum = record {
  leads = leads_on s now new given events h.leads led;
  number = λ none. sum ∙ ap (λ k. k + length events) (h.number refl) ∙ sym (length-append given events);
  itself = tt;
  numbered = tt;
}

-- one was refused
pub one_refused : (s now new : WorldState) (given events : List Event)
    (refusal : Refusal) (n k m : ℕ) (e : StepError)
    → is_some refusal ≡ false → ComesTo s given refusal n now
    → LeadsUntil now events k e new → m ≡ n + k → m + 1 < 2 ^ 64 → e ≢ Memory
    → e ≢ Device → e ≢ Exhausted → ComesTo s (given ++ events) (Some (m, e)) n new
one_refused s now new given events (Some r) n k m e is h until sum few memory device numbers = absurd (cc)
one_refused s now new given events None n k m e is h until sum few memory device numbers = record {
  leads = subst (λ j. LeadsUntil s (given ++ events) j e new) (sym (sum ∙ ap (λ j. j + k) (h.number refl)))
      (until_on s now new given events k e h.leads until);
  number = λ none. absurd (cc);
  itself = (memory, device, numbers);
  numbered = few;
}

-- one could not be made
pub one_fails : (s now new : WorldState) (given : List Event) (refusal : Refusal) (n : ℕ) (event : Event)
    (e : StepError) (why : Failure) → is_some refusal ≡ false → ComesTo s given refusal n now
    → Stops now event e new → IsFailure e why → CannotMake s (given ++ event ∷ []) why
one_fails s now new given (Some r) n event e why is h stops fails = absurd (cc)
one_fails s now new given None n event e why is h stops fails = inl (record {
  made = length given + 0;
  refusal = e;
  end = new;
  until = until_on s now new given (event ∷ []) 0 e h.leads (one_stopped now new event e stops);
  fails = fails;
})

-- one has no number
pub one_unnumbered : (s now : WorldState) (given : List Event) (refusal : Refusal) (n : ℕ) (event : Event)
    → is_some refusal ≡ false → ComesTo s given refusal n now → 2 ^ 64 ≤ n + 1
    → CannotMake s (given ++ event ∷ []) failure.Exhausted
one_unnumbered s now given (Some r) n event is h past = absurd (cc)
one_unnumbered s now given None n event is h past =
    let same = h.number refl in
    let size : length (given ++ event ∷ []) ≡ length given + 1 = length-append given (event ∷ []) in
    inr (refl, omega (arith, same, size, past))

-- what cannot be made cannot be made with events after it
pub cannot_longer : (s : WorldState) (xs ys : List Event) (why : Failure) → CannotMake s xs why
    → CannotMake s (xs ++ ys) why
cannot_longer s xs ys why (inl h) = inl (record {
  made = h.made;
  refusal = h.refusal;
  end = h.end;
  until = until_stays s h.end xs ys h.made h.refusal h.until;
  fails = h.fails;
})
cannot_longer s xs ys why (inr h) =
    let size = length-append xs ys in
    inr (h.0, let past = h.1 in omega (arith, size, past))

-- the next of these cannot be made
pub cannot_all : (s : WorldState) (given events : List Event) (k : ℕ) (event : Event) (rest : List Event)
    (why : Failure) → drop k events ≡ event ∷ rest
    → CannotMake s ((given ++ take k events) ++ event ∷ []) why → CannotMake s (given ++ events) why
cannot_all s given events k event rest why next h =
    subst (λ (xs : List Event). CannotMake s xs why)
    (append_assoc (given ++ take k events) (event ∷ []) rest
    ∙ append_assoc given (take k events) (event ∷ rest)
    ∙ ap (λ (xs : List Event). given ++ (take k events ++ xs)) (sym next)
    ∙ ap (λ (xs : List Event). given ++ xs) (take-append-drop k events))
    (cannot_longer s ((given ++ take k events) ++ event ∷ []) rest why h)

-- fewer than 2^64 events cannot be made only if one is not
pub breaks_off : (s : WorldState) (events : List Event) (why : Failure) → length events < 2 ^ 64
    → CannotMake s events why → BreaksOff s events why
breaks_off s events why few (inl h) = h
breaks_off s events why few (inr h) = let past = h.1 in absurd (omega (arith, few, past))

-- what a run comes to is a run of the model
unfoldable pub ran : (tree : List TreeProcess) (s now : WorldState) (given : List Event)
    (refusal : Refusal) (n : ℕ) → IsTree tree
    → IsOpenedTree s tree → ComesTo s given refusal n now → Plays tree given refusal now
ran tree s now given refusal n is opens h = record {
  start = s;
  opens = opens;
  leads = h.leads;
  itself = h.itself;
  run = run_of tree s now given refusal is opens h.leads h.itself;
}
