-- Traces are runs of the model.
use Rattle.std.proofs.Common.{◌≡◌, ◌≢◌, ◌∙◌, ap, sym, subst, refl, ℕ, Option, Some, None, List, [], ◌∷◌, ◌++◌, append-nil, append_assoc, take}
use Rattle.protocol.specs.declared.names.ProcessId.{ProcessId}
use Rattle.protocol.specs.declared.messages.Envelope.{Envelope}
use Rattle.protocol.specs.declared.events.Act.{Act}
use Rattle.protocol.specs.declared.events.JournalEntry.{JournalEntry}
use Rattle.protocol.specs.declared.events.Event.{Event}
use Rattle.protocol.specs.declared.events.Event.TheVariants.{Deliver, Settle, Restart, Trim}
use Rattle.protocol_words.specs.Variants.{ActInput, ActOf, MessageInput}
use Rattle.protocol.specs.declared.events.StepError.{StepError}
use Rattle.protocol_words.specs.step_error
use Rattle.protocol.specs.declared.trees.TreeProcess.{TreeProcess}
use Rattle.protocol.specs.Outcomes.{Headline}
use Rattle.protocol.specs.Plays.{process_of_act, sent_as}
use Rattle.protocol.specs.Trees.{IsTree, root_of}
use Rattle.protocol.specs.World.{Continues, Made, World, goes_on, journal_of, opened_world, stays}
use Rattle.tree_state.specs.Runs.{IsOpenedTree, EventsLead, LeadsUntil}
use Rattle.proof_runs.specs.worlds.Follows.{Follows, GoesOn}
use Rattle.tree_state.specs.Worlds.{Applies, DeviceFailsUnder, NoneDelivered, NotActed, NotDelivered, NotRestartedAt, NotTrimmedAt, SameTree, Settles, Stops, WorldState, least_open}
use Rattle.proof_runs.proofs.worlds.Events.{applied_on, settles_on}
use Rattle.proof_runs.proofs.worlds.Journals.{by_whole, whole_goes_on, whole_shows}
use Rattle.proof_runs.proofs.worlds.Openings.{opened_follows}
use Rattle.proof_runs.proofs.worlds.Processes.{as_the_model}
use Rattle.proof_runs.proofs.worlds.Steps.{sent_stands}
use Rattle.proof_runs.proofs.worlds.Unchanged.{same_follows}
use Rattle.proof_headline.proofs.runs.Headline as runs
use Rattle.proof_failures.specs.Fails.{FailsAfter, FailsAt, MessageFails}
use Rattle.proof_failures.specs.Traces.{TraceGoesOn, with_trace}
use Rattle.proof_failures.proofs.Again.{applies_again, settles_again}
use Rattle.proof_failures.proofs.Inputs.{input_on}
use Rattle.proof_failures.proofs.Restarts.{restart_on, trim_on}

-- A trace goes on, and the tree stays.
record Goes (es : List Made) (w : World) (s : WorldState) (trace : List JournalEntry) (t : WorldState)
    (more : List JournalEntry) : Type 0 where
  trace_goes : TraceGoesOn es w s trace t more
  tree_stays : t.tree ≡ s.tree

-- One after another.

continues_on : (tree : List TreeProcess) (w0 w1 : World) (first : List Made) → Continues tree w0 first w1
    → (second : List Made) (w2 : World) → Continues tree w1 second w2 → Continues tree w0 (second ++ first) w2
continues_on tree w0 w1 first before _ _ stays = before
continues_on tree w0 w1 first before _ _ (goes_on es w m e w' later stands step) =
    goes_on (es ++ first) w m e w' (continues_on tree w0 w1 first before es w later) stands step

-- a state that was come to goes on
then_goes : (es : List Made) (w : World) (s mid t : WorldState) (trace more : List JournalEntry)
    → (first : Goes es w s trace mid [])
    → ((es' : List Made) (w' : World) (xs : List JournalEntry) → Follows es' w' (with_trace mid xs)
    → Goes es' w' mid xs t more)
    → Goes es w s trace t more
then_goes es w s mid t trace more first next =
    let made = first.trace_goes.entered in
    let one : GoesOn es w (with_trace mid (trace ++ made)) =
    subst (λ xs. GoesOn es w (with_trace mid xs)) (append-nil (trace ++ made)) first.trace_goes.goes_on in
    let two = next (one.later ++ es) one.world (trace ++ made) one.follows in
    let since = two.trace_goes.entered in
    let last : GoesOn (one.later ++ es) one.world (with_trace t ((trace ++ (made ++ since)) ++ more)) =
    subst (λ xs. GoesOn (one.later ++ es) one.world (with_trace t (xs ++ more)))
    (append_assoc trace made since)
    two.trace_goes.goes_on in
    record {
      trace_goes = record {
        entered = made ++ since;
        grown = two.trace_goes.grown ∙ ap (λ xs. xs ++ since) first.trace_goes.grown
            ∙ append_assoc s.entries made since;
        goes_on = record {
          later = last.later ++ one.later;
          world = last.world;
          leads = continues_on t.tree w one.world one.later (subst (λ z. Continues z w one.later one.world)
              (sym two.tree_stays) one.leads)
              last.later last.world last.leads;
          follows = subst (λ xs. Follows xs last.world (with_trace t ((trace ++ (made ++ since)) ++ more)))
              (sym (append_assoc last.later one.later es)) last.follows;
        };
      };
      tree_stays = two.tree_stays ∙ first.tree_stays;
    }

-- if nothing is entered, and the state stands for the same run
waits : (es : List Made) (w : World) (s t : WorldState) (trace : List JournalEntry) → t.entries ≡ s.entries
    → Follows es w (with_trace t trace) → TraceGoesOn es w s trace t []
waits es w s t trace same f =
    record {
      entered = [];
      grown = same ∙ sym (append-nil s.entries);
      goes_on = subst (λ xs. GoesOn es w (with_trace t xs))
          (sym (append-nil (trace ++ []) ∙ append-nil trace))
          (record { later = []; world = w; leads = stays; follows = f });
    }

-- what was made of the state with its trace
made_goes : (es : List Made) (w : World) (s t : WorldState) (trace entered : List JournalEntry)
    → t.entries ≡ s.entries ++ entered → GoesOn es w (with_trace t (trace ++ entered))
    → TraceGoesOn es w s trace t []
made_goes es w s t trace entered grown g =
    record {
      entered = entered;
      grown = grown;
      goes_on = subst (λ xs. GoesOn es w (with_trace t xs)) (sym (append-nil (trace ++ entered))) g;
    }

-- Events that were made.

applied_goes : (s t : WorldState) (event : Event) (es : List Made) (w : World) (trace : List JournalEntry)
    → IsTree s.tree
    → Follows es w (with_trace s trace) → Applies s event t → Goes es w s trace t []
applied_goes s t event es w trace is_tree f made =
    let a = applies_again s t trace event made in
    let S = with_trace s trace in
    let T = with_trace t (trace ++ a.entered) in
    let g = applied_on journal_of whole_shows as_the_model s.tree is_tree S T event es w refl
    (by_whole es w S f)
    a.again in
    record {
      trace_goes = made_goes es w s t trace a.entered a.grown (whole_goes_on es w T g.goes_on_so);
      tree_stays = g.tree_stays;
    }

settled_goes : (n : ℕ) (s t : WorldState) (es : List Made) (w : World) (trace : List JournalEntry)
    → IsTree s.tree
    → Follows es w (with_trace s trace) → Settles n s t → Goes es w s trace t []
settled_goes n s t es w trace is_tree f made =
    let a = settles_again n s t trace made in
    let S = with_trace s trace in
    let T = with_trace t (trace ++ a.entered) in
    let g = settles_on journal_of whole_shows as_the_model s.tree is_tree n S T es w refl (by_whole es w S f)
    a.again in
    record {
      trace_goes = made_goes es w s t trace a.entered a.grown (whole_goes_on es w T g.goes_on_so);
      tree_stays = g.tree_stays;
    }

-- Events that were refused, if no device failed.

same_goes : (s t : WorldState) (es : List Made) (w : World) (trace : List JournalEntry)
    → Follows es w (with_trace s trace) → SameTree s t → Goes es w s trace t []
same_goes s t es w trace f same =
    record {
      trace_goes = waits es w s t trace same.entries
          (same_follows es w (with_trace s trace) (with_trace t trace) f
          (record {
            tree = same.tree;
            nodes = same.nodes;
            holdings = same.holdings;
            net = same.net;
            delivered = same.delivered;
            entries = refl;
          }));
      tree_stays = same.tree;
    }

unacted : (s t : WorldState) (q : ProcessId) (a : Act) (e : StepError) → e ≢ step_error.Device
    → NotActed s t q a e
    → SameTree s t
unacted s t q a step_error.Memory works h = h
unacted s t q a step_error.Device works h = absurd (works refl)
unacted s t q a step_error.UnknownTxn works h = h.0
unacted s t q a step_error.NotAChild works h = h.0
unacted s t q a step_error.Closed works h = h.0
unacted s t q a step_error.NotInDoubt works h = h.0
unacted s t q a step_error.NothingToForget works h = h.0
unacted s t q a step_error.Failed works h = h.0
unacted s t q a step_error.NoSuch works h = h.0
unacted s t q a step_error.Exhausted works h = h.0

undelivered : (s t : WorldState) (k : ℕ) (e : StepError) → e ≢ step_error.Device → NotDelivered s t k e
    → SameTree s t
undelivered s t k step_error.Memory works h = h
undelivered s t k step_error.Device works h = absurd (works refl)
undelivered s t k step_error.UnknownTxn works h = h.0
undelivered s t k step_error.NotAChild works h = h.0
undelivered s t k step_error.Closed works h = h.0
undelivered s t k step_error.NotInDoubt works h = h.0
undelivered s t k step_error.NothingToForget works h = h.0
undelivered s t k step_error.Failed works h = h.0
undelivered s t k step_error.NoSuch works h = h.0
undelivered s t k step_error.Exhausted works h = h.0

unrestarted : (s t : WorldState) (q : ProcessId) (bytes : Option ℕ) (e : StepError) → e ≢ step_error.Device
    → NotRestartedAt s t q bytes e → SameTree s t
unrestarted s t q bytes step_error.Memory works h = h
unrestarted s t q bytes step_error.Device works h = absurd (works refl)
unrestarted s t q bytes step_error.UnknownTxn works h = absurd h
unrestarted s t q bytes step_error.NotAChild works h = absurd h
unrestarted s t q bytes step_error.Closed works h = absurd h
unrestarted s t q bytes step_error.NotInDoubt works h = absurd h
unrestarted s t q bytes step_error.NothingToForget works h = absurd h
unrestarted s t q bytes step_error.Failed works h = absurd h
unrestarted s t q bytes step_error.NoSuch works h = h.0
unrestarted s t q bytes step_error.Exhausted works h = h.0

untrimmed : (s t : WorldState) (q : ProcessId) (e : StepError) → e ≢ step_error.Device → NotTrimmedAt s t q e
    → SameTree s t
untrimmed s t q step_error.Memory works h = h
untrimmed s t q step_error.Device works h = absurd (works refl)
untrimmed s t q step_error.UnknownTxn works h = absurd h
untrimmed s t q step_error.NotAChild works h = absurd h
untrimmed s t q step_error.Closed works h = absurd h
untrimmed s t q step_error.NotInDoubt works h = absurd h
untrimmed s t q step_error.NothingToForget works h = absurd h
untrimmed s t q step_error.Failed works h = h.0
untrimmed s t q step_error.NoSuch works h = h.0
untrimmed s t q step_error.Exhausted works h = absurd h

none_delivered : (s t : WorldState) (e : StepError) (o : Option ℕ) → e ≢ step_error.Device
    → NoneDelivered s t e o
    → SameTree s t
none_delivered s t e None works h = h.1
none_delivered s t e (Some k) works h = undelivered s t k e works h

stopped_goes : (s t : WorldState) (event : Event) (e : StepError) (es : List Made) (w : World)
    (trace : List JournalEntry)
    → IsTree s.tree → e ≢ step_error.Device → Follows es w (with_trace s trace) → Stops s event e t
    → Goes es w s trace t []
stopped_goes s t (ActOf a) e es w trace is_tree works f h =
    same_goes s t es w trace f (unacted s t (process_of_act (root_of s.tree) a) a e works h)
stopped_goes s t (Deliver k) e es w trace is_tree works f h =
    same_goes s t es w trace f (undelivered s t k e works h)
stopped_goes s t Settle e es w trace is_tree works f h =
    then_goes es w s h.before t trace [] (settled_goes h.count s h.before es w trace is_tree f h.settles)
    (λ es' w' xs g. same_goes h.before t es' w' xs g
    (none_delivered h.before t e (least_open 1 h.before.delivered) works h.stops))
stopped_goes s t (Restart q bytes) e es w trace is_tree works f h =
    same_goes s t es w trace f (unrestarted s t q bytes e works h)
stopped_goes s t (Trim q) e es w trace is_tree works f h =
    same_goes s t es w trace f (untrimmed s t q e works h)

-- Events in which a device failed.

message_goes : (s t : WorldState) (k : ℕ) (o : Option Envelope) (x : JournalEntry)
    (es : List Made) (w : World)
    (trace : List JournalEntry) → Follows es w (with_trace s trace) → sent_as s.net k ≡ o
    → MessageFails s t k o x
    → Goes es w s trace t (x ∷ [])
message_goes s t k None x es w trace f sent h = absurd h
message_goes s t k (Some l) x es w trace f sent h =
    record {
      trace_goes = input_on es w s t l.to trace f (MessageInput k l.message)
          (sent_stands w.net k l (ap (λ xs. sent_as xs k) (sym f.net) ∙ sent)) x h;
      tree_stays = h.fails.moves.tree;
    }

failed_goes : (s t : WorldState) (event : Event) (x : JournalEntry) (es : List Made) (w : World)
    (trace : List JournalEntry)
    → IsTree s.tree → Follows es w (with_trace s trace) → FailsAt s event t x → Goes es w s trace t (x ∷ [])
failed_goes s t (ActOf a) x es w trace is_tree f h =
    record {
      trace_goes = input_on es w s t (process_of_act (root_of s.tree) a) trace f (ActInput a) tt x h;
      tree_stays = h.fails.moves.tree;
    }
failed_goes s t (Deliver k) x es w trace is_tree f h =
    message_goes s t k (sent_as s.net k) x es w trace f refl h
failed_goes s t Settle x es w trace is_tree f h =
    then_goes es w s h.before t trace (x ∷ [])
    (settled_goes h.count s h.before es w trace is_tree f h.settles)
    (λ es' w' xs g. message_goes h.before t h.number (sent_as h.before.net h.number) x es' w'
    xs g refl h.fails)
failed_goes s t (Restart q bytes) x es w trace is_tree f h =
    record { trace_goes = restart_on es w s t q trace f is_tree x bytes h; tree_stays = h.fails.moves.tree }
failed_goes s t (Trim q) x es w trace is_tree f h =
    record { trace_goes = trim_on es w s t q trace f is_tree x h; tree_stays = h.fails.moves.tree }

-- Lists of events.

led_goes : (s t : WorldState) (events : List Event) (es : List Made) (w : World) (trace : List JournalEntry)
    → IsTree s.tree → Follows es w (with_trace s trace) → EventsLead s events t → Goes es w s trace t []
led_goes s t [] es w trace is_tree f same =
    record {
      trace_goes = waits es w s t trace (ap (λ (y : WorldState). y.entries) same)
          (subst (λ y. Follows es w (with_trace y trace)) (sym same) f);
      tree_stays = ap (λ (y : WorldState). y.tree) same;
    }
led_goes s t (e ∷ events) es w trace is_tree f made =
    let first = applied_goes s made.0 e es w trace is_tree f made.1 in
    then_goes es w s made.0 t trace [] first
    (λ es' w' xs g. led_goes made.0 t events es' w' xs (subst IsTree (sym first.tree_stays) is_tree) g made.2)

-- The laws.

pub opened : (tree : List TreeProcess) (s : WorldState) → IsOpenedTree s tree
    → Follows [] opened_world (with_trace s [])
unfolding journal_of
opened tree s is =
    let f = opened_follows tree s is in
    record {
      is_run = f.is_run;
      by_this = f.by_this;
      shown = refl;
      net = f.net;
      nodes = λ q c there.
          let here = f.nodes q c there in
          record { place = here.place; stands = here.stands };
      listed = f.listed;
    }

pub applied : (s t : WorldState) (event : Event) (es : List Made) (w : World) (trace : List JournalEntry)
    → IsTree s.tree
    → Follows es w (with_trace s trace) → Applies s event t → TraceGoesOn es w s trace t []
applied s t event es w trace is_tree f made = (applied_goes s t event es w trace is_tree f made).trace_goes

pub stopped : (s t : WorldState) (event : Event) (e : StepError) (es : List Made) (w : World)
    (trace : List JournalEntry)
    → IsTree s.tree → e ≢ step_error.Device → Follows es w (with_trace s trace) → Stops s event e t
    → TraceGoesOn es w s trace t []
stopped s t event e es w trace is_tree works f h =
    (stopped_goes s t event e es w trace is_tree works f h).trace_goes

pub failed : (s t : WorldState) (event : Event) (x : JournalEntry) (es : List Made) (w : World)
    (trace : List JournalEntry)
    → IsTree s.tree → Follows es w (with_trace s trace) → FailsAt s event t x
    → TraceGoesOn es w s trace t (x ∷ [])
failed s t event x es w trace is_tree f h = (failed_goes s t event x es w trace is_tree f h).trace_goes

pub led : (s t : WorldState) (events : List Event) (es : List Made) (w : World) (trace : List JournalEntry)
    → IsTree s.tree → Follows es w (with_trace s trace) → EventsLead s events t
    → TraceGoesOn es w s trace t []
led s t events es w trace is_tree f made = (led_goes s t events es w trace is_tree f made).trace_goes

pub led_until : (s t : WorldState) (events : List Event) (n : ℕ) (e : StepError) (es : List Made) (w : World)
    (trace : List JournalEntry) → IsTree s.tree → e ≢ step_error.Device → Follows es w (with_trace s trace)
    → LeadsUntil s events n e t → TraceGoesOn es w s trace t []
led_until s t events n e es w trace is_tree works f h =
    let first = led_goes s h.before (take n events) es w trace is_tree f h.leads in
    (then_goes es w s h.before t trace [] first
    (λ es' w' xs g. stopped_goes h.before t h.event e es' w' xs
    (subst IsTree (sym first.tree_stays) is_tree) works g
    h.stops)).trace_goes

pub led_failed : (s t : WorldState) (events : List Event) (n : ℕ) (x : JournalEntry)
    (es : List Made) (w : World)
    (trace : List JournalEntry) → IsTree s.tree → Follows es w (with_trace s trace)
    → FailsAfter s events n t x
    → TraceGoesOn es w s trace t (x ∷ [])
led_failed s t events n x es w trace is_tree f h =
    let first = led_goes s h.before (take n events) es w trace is_tree f h.leads in
    (then_goes es w s h.before t trace (x ∷ []) first
    (λ es' w' xs g. failed_goes h.before t h.event x es' w' xs (subst IsTree (sym first.tree_stays) is_tree) g
    h.fails)).trace_goes

under : (s t : WorldState) (k : ℕ) (o : Option Envelope) (x : JournalEntry) → MessageFails s t k o x
    → DeviceFailsUnder s t k o
under s t k None x h = absurd h
under s t k (Some l) x h = h.fails

pub refused : (s t : WorldState) (event : Event) (x : JournalEntry) → FailsAt s event t x
    → Stops s event step_error.Device t
refused s t (ActOf a) x h = h.fails
refused s t (Deliver k) x h = under s t k (sent_as s.net k) x h
refused s t Settle x h =
    record {
      count = h.count;
      within = h.within;
      before = h.before;
      settles = h.settles;
      stops = subst (λ o. NoneDelivered h.before t step_error.Device o) (sym h.next)
          (under h.before t h.number (sent_as h.before.net h.number) x h.fails);
    }
refused s t (Restart q bytes) x h = h.fails
refused s t (Trim q) x h = h.fails

pub headline : (s : WorldState) (es : List Made) (w : World) (trace : List JournalEntry) → IsTree s.tree
    → Follows es w (with_trace s trace) → Headline s.tree es w
headline s es w trace is_tree f = runs.headline s.tree is_tree es w f.is_run
