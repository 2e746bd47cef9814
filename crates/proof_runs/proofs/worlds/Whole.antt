-- What events lead an opened tree to is a run of the model, of which the headline holds.
use Rattle.std.proofs.Common.{◌≡◌, ◌≢◌, ◌∙◌, sym, subst, refl, ℕ, Option, Some, None, List, [], ◌++◌, take, ap}
use Rattle.protocol.specs.declared.names.ProcessId.{ProcessId}
use Rattle.protocol.specs.declared.messages.Envelope.{Envelope}
use Rattle.protocol.specs.declared.events.Act.{Act}
use Rattle.protocol.specs.declared.events.Event.{Event}
use Rattle.protocol.specs.declared.events.Event.TheVariants.{Deliver, Settle, Restart, Trim}
use Rattle.protocol_words.specs.Variants.{ActInput, ActOf, MessageInput}
use Rattle.protocol.specs.declared.events.StepError.{StepError}
use Rattle.protocol_words.specs.step_error
use Rattle.protocol.specs.declared.trees.TreeProcess.{TreeProcess}
use Rattle.protocol.specs.Outcomes.{Headline}
use Rattle.protocol.specs.Plays.{process_of_act, sent_as}
use Rattle.protocol.specs.Trees.{IsTree, root_of}
use Rattle.protocol.specs.World.{IsRun, Made, World, journal_of, opened_world}
use Rattle.proof_headline.proofs.runs.Headline as runs
use Rattle.proof_reports.specs.SecondRuns.{EndsReported}
use Rattle.proof_reports.proofs.SecondRuns.{second_runs_report}
use Rattle.proof_runs.specs.worlds.Modelled.{ModelledTreesKeepHeadline}
use Rattle.tree_state.specs.Worlds.{NoneDelivered, NotActed, NotDelivered, NotRestartedAt, NotTrimmedAt, RefusesAt, RefusesMessage, SameTree, Stops, WorldState, least_open}
use Rattle.tree_state.specs.Runs.{IsOpenedTree}
use Rattle.proof_runs.specs.worlds.Follows.{Follows, FollowsBehindFaults, IsModelled}
use Rattle.proof_runs.specs.worlds.Refusals.{IsForItself, IsRunOf, LeadsTo, Refusal, RefusesDelivery, RefusesEvent, RefusesNextDelivery}
use Rattle.proof_runs.proofs.worlds.Openings.{opened_follows}
use Rattle.proof_runs.proofs.worlds.Unchanged.{same_follows}
use Rattle.proof_runs.proofs.worlds.Events.{leads_on, settles_on}
use Rattle.proof_runs.proofs.worlds.Journals.{by_whole, whole_follows, whole_shows}
use Rattle.proof_runs.proofs.worlds.Processes.{as_the_model, refused_so}
use Rattle.proof_runs.proofs.worlds.Restarts.{restart_refused, trim_failed, trim_unknown}

-- a refusal that is neither for memory or for numbers that are used up nor because of a device
pub record ForItself (e : StepError) : Type 0 where
  pub memory : e ≢ step_error.Memory
  pub device : e ≢ step_error.Device
  pub numbers : e ≢ step_error.Exhausted

pub not_acted : (s t : WorldState) (q : ProcessId) (a : Act) (e : StepError) → ForItself e
    → NotActed s t q a e
    → SameTree s t × RefusesAt (s.node_at q) (ActInput a) e
not_acted s t q a step_error.Memory itself h = absurd (itself.memory refl)
not_acted s t q a step_error.Device itself h = absurd (itself.device refl)
not_acted s t q a step_error.UnknownTxn itself h = h
not_acted s t q a step_error.NotAChild itself h = h
not_acted s t q a step_error.Closed itself h = h
not_acted s t q a step_error.NotInDoubt itself h = h
not_acted s t q a step_error.NothingToForget itself h = h
not_acted s t q a step_error.Failed itself h = h
not_acted s t q a step_error.NoSuch itself h = h
not_acted s t q a step_error.Exhausted itself h = absurd (itself.numbers refl)

pub not_delivered : (s t : WorldState) (k : ℕ) (e : StepError) → ForItself e → NotDelivered s t k e
    → SameTree s t
    × RefusesMessage s k (sent_as s.net k) e
not_delivered s t k step_error.Memory itself h = absurd (itself.memory refl)
not_delivered s t k step_error.Device itself h = absurd (itself.device refl)
not_delivered s t k step_error.UnknownTxn itself h = h
not_delivered s t k step_error.NotAChild itself h = h
not_delivered s t k step_error.Closed itself h = h
not_delivered s t k step_error.NotInDoubt itself h = h
not_delivered s t k step_error.NothingToForget itself h = h
not_delivered s t k step_error.Failed itself h = h
not_delivered s t k step_error.NoSuch itself h = h
not_delivered s t k step_error.Exhausted itself h = absurd (itself.numbers refl)

pub refused_message : (es : List Made) (w : World) (s : WorldState) (k : ℕ)
    (o : Option Envelope) (e : StepError)
    → Follows es w s → RefusesMessage s k o e
    → RefusesDelivery s.tree w k o e
refused_message es w s k None e f h = h
refused_message es w s k (Some l) e f h = refused_so es w s l.to (MessageInput k l.message) e f h

refused_delivery : (es : List Made) (w : World) (s : WorldState) (k : ℕ) (e : StepError) → Follows es w s
    → RefusesMessage s k (sent_as s.net k) e
    → RefusesDelivery s.tree w k (sent_as w.net k) e
refused_delivery es w s k e f h =
    subst (λ net. RefusesDelivery s.tree w k (sent_as net k) e) f.net
    (refused_message es w s k (sent_as s.net k) e f h)

-- a restart that was refused for itself is of no process of the tree
pub not_restarted : (s t : WorldState) (q : ProcessId) (bytes : Option ℕ) (e : StepError) → ForItself e
    → NotRestartedAt s t q bytes e
    → SameTree s t × (s.node_at q ≡ None) × (e ≡ step_error.NoSuch)
not_restarted s t q bytes step_error.Memory itself h = absurd (itself.memory refl)
not_restarted s t q bytes step_error.Device itself h = absurd (itself.device refl)
not_restarted s t q bytes step_error.UnknownTxn itself h = absurd h
not_restarted s t q bytes step_error.NotAChild itself h = absurd h
not_restarted s t q bytes step_error.Closed itself h = absurd h
not_restarted s t q bytes step_error.NotInDoubt itself h = absurd h
not_restarted s t q bytes step_error.NothingToForget itself h = absurd h
not_restarted s t q bytes step_error.Failed itself h = absurd h
not_restarted s t q bytes step_error.NoSuch itself h = (h.0, h.1, refl)
not_restarted s t q bytes step_error.Exhausted itself h = absurd (itself.numbers refl)

-- of a trim that was refused for itself there is no process, or it has failed
pub not_trimmed : (es : List Made) (w : World) (s t : WorldState) (q : ProcessId) (e : StepError)
    → Follows es w s
    → ForItself e → NotTrimmedAt s t q e
    → SameTree s t × RefusesEvent s.tree w t.delivered (Trim q) e
not_trimmed es w s t q step_error.Memory f itself h = absurd (itself.memory refl)
not_trimmed es w s t q step_error.Device f itself h = absurd (itself.device refl)
not_trimmed es w s t q step_error.UnknownTxn f itself h = absurd h
not_trimmed es w s t q step_error.NotAChild f itself h = absurd h
not_trimmed es w s t q step_error.Closed f itself h = absurd h
not_trimmed es w s t q step_error.NotInDoubt f itself h = absurd h
not_trimmed es w s t q step_error.NothingToForget f itself h = absurd h
not_trimmed es w s t q step_error.Failed f itself h = (h.0, trim_failed es w s f q h.1)
not_trimmed es w s t q step_error.NoSuch f itself h = (h.0, trim_unknown es w s f q h.1)
not_trimmed es w s t q step_error.Exhausted f itself h = absurd h

-- an event that was refused for itself left a state that stands for a run, which refuses it so
record StoppedSo (tree : List TreeProcess) (t : WorldState) (event : Event) (e : StepError) : Type 0 where
  moves : List Made
  world : World
  tree_is : t.tree ≡ tree
  follows : Follows moves world t
  refuses : RefusesEvent tree world t.delivered event e

module _ (tree : List TreeProcess) (is_tree : IsTree tree) where
  settle_refused : (before t : WorldState) (e : StepError) (o : Option ℕ) (es : List Made) (w : World)
      → before.tree ≡ tree → ForItself e → Follows es w before
      → least_open 1 before.delivered ≡ o → NoneDelivered before t e o → StoppedSo tree t Settle e
  settle_refused before t e None es w is itself f least h = absurd (itself.memory h.0)
  settle_refused before t e (Some k) es w is itself f least h =
      let why = not_delivered before t k e itself h in
      record {
        moves = es;
        world = w;
        tree_is = why.0.tree ∙ is;
        follows = same_follows es w before t f why.0;
        refuses = subst (λ o. RefusesNextDelivery tree w o e)
            (sym (ap (least_open 1) why.0.delivered ∙ least))
            (subst (λ z. RefusesDelivery z w k (sent_as w.net k) e) is
            (refused_delivery es w before k e f why.1));
      }

  stopped_so : (s t : WorldState) (event : Event) (e : StepError) (es : List Made) (w : World) → s.tree ≡ tree
      → ForItself e → Follows es w s
      → Stops s event e t → StoppedSo tree t event e
  stopped_so s t (ActOf a) e es w is itself f h =
      let why = not_acted s t (process_of_act (root_of s.tree) a) a e itself h in
      record {
        moves = es;
        world = w;
        tree_is = why.0.tree ∙ is;
        follows = same_follows es w s t f why.0;
        refuses = subst (λ z. RefusesEvent z w t.delivered (ActOf a) e) is
            (refused_so es w s (process_of_act (root_of s.tree) a) (ActInput a) e f why.1);
      }
  stopped_so s t (Deliver k) e es w is itself f h =
      let why = not_delivered s t k e itself h in
      record {
        moves = es;
        world = w;
        tree_is = why.0.tree ∙ is;
        follows = same_follows es w s t f why.0;
        refuses = subst (λ z. RefusesDelivery z w k (sent_as w.net k) e) is
            (refused_delivery es w s k e f why.1);
      }
  stopped_so s t Settle e es w is itself f h =
      let g = settles_on journal_of whole_shows as_the_model tree is_tree h.count s h.before es w is
      (by_whole es w s f) h.settles in
      settle_refused h.before t e (least_open 1 h.before.delivered)
      (g.goes_on_so.later ++ es) g.goes_on_so.world g.tree_stays itself
      (whole_follows (g.goes_on_so.later ++ es) g.goes_on_so.world h.before g.goes_on_so.follows) refl h.stops
  stopped_so s t (Restart q bytes) e es w is itself f h =
      let why = not_restarted s t q bytes e itself h in
      record {
        moves = es;
        world = w;
        tree_is = why.0.tree ∙ is;
        follows = same_follows es w s t f why.0;
        refuses = subst (λ z. RefusesEvent z w t.delivered (Restart q bytes) e) is
            (subst (λ x. RefusesEvent s.tree w t.delivered (Restart q bytes) x) (sym why.2)
            (restart_refused es w s f q why.1));
      }
  stopped_so s t (Trim q) e es w is itself f h =
      let why = not_trimmed es w s t q e f itself h in
      record {
        moves = es;
        world = w;
        tree_is = why.0.tree ∙ is;
        follows = same_follows es w s t f why.0;
        refuses = subst (λ z. RefusesEvent z w t.delivered (Trim q) e) is why.1;
      }

  reported_of : (s : WorldState) (es : List Made) (w : World) → s.tree ≡ tree → (f : Follows es w s)
      → EndsReported s.tree es w f.is_run
  reported_of s es w is f = second_runs_report s.tree (subst IsTree (sym is) is_tree) es w f.is_run f.by_this

  headline_of : (s : WorldState) (es : List Made) (w : World) → s.tree ≡ tree
      → Follows es w s → Headline tree es w
  headline_of s es w is f = runs.headline tree is_tree es w (subst (λ z. IsRun z es w) is f.is_run)

  pub run_so : (start end : WorldState) (events : List Event) (refusal : Refusal) → IsOpenedTree start tree
      → LeadsTo start events refusal end → IsForItself refusal
      → IsRunOf tree events refusal end
  run_so start end events None opened leads itself =
      let g = leads_on journal_of whole_shows as_the_model tree is_tree start end events
      [] opened_world opened.tree_is
      (by_whole [] opened_world start (opened_follows tree start opened)) leads in
      let follows = whole_follows (g.goes_on_so.later ++ []) g.goes_on_so.world end g.goes_on_so.follows in
      record {
        moves = g.goes_on_so.later ++ [];
        world = g.goes_on_so.world;
        tree_is = g.tree_stays;
        follows = follows;
        headline = headline_of end (g.goes_on_so.later ++ []) g.goes_on_so.world g.tree_stays follows;
        mismatches_are_reported =
            reported_of end (g.goes_on_so.later ++ []) g.goes_on_so.world g.tree_stays follows;
        refuses = tt;
      }
  run_so start end events (Some refused) opened leads itself =
      let g = leads_on journal_of whole_shows as_the_model tree is_tree start leads.before
      (take refused.0 events) [] opened_world opened.tree_is
      (by_whole [] opened_world start (opened_follows tree start opened)) leads.leads in
      let last = stopped_so leads.before end leads.event refused.1 (g.goes_on_so.later ++ [])
      g.goes_on_so.world g.tree_stays
      (record { memory = itself.0; device = itself.1; numbers = itself.2 })
      (whole_follows (g.goes_on_so.later ++ []) g.goes_on_so.world leads.before
      g.goes_on_so.follows) leads.stops in
      record {
        moves = last.moves;
        world = last.world;
        tree_is = last.tree_is;
        follows = last.follows;
        headline = headline_of end last.moves last.world last.tree_is last.follows;
        mismatches_are_reported = reported_of end last.moves last.world last.tree_is last.follows;
        refuses = record { event = leads.event; next = leads.next; refused = last.refuses };
      }

pub run_of : (tree : List TreeProcess) (start end : WorldState) (events : List Event) (refusal : Refusal)
    → IsTree tree → IsOpenedTree start tree
    → LeadsTo start events refusal end → IsForItself refusal → IsRunOf tree events refusal end
run_of tree start end events refusal is_tree opened leads itself =
    run_so tree is_tree start end events refusal opened leads itself

pub modelled : (s : WorldState) (es : List Made) (w : World) → IsTree s.tree → Follows es w s → IsModelled s
modelled s es w is_tree f = record {
  moves = es;
  world = w;
  follows = f;
  headline = headline_of s.tree is_tree s es w refl f;
  mismatches_are_reported = reported_of s.tree is_tree s es w refl f;
}

pub modelled_behind_faults : (s : WorldState) (es : List Made) (w : World) → IsTree s.tree
    → FollowsBehindFaults es w s → Headline s.tree es w
modelled_behind_faults s es w is_tree f = runs.headline s.tree is_tree es w f.follows.is_run

-- a state that stands for a run in which devices may have failed keeps the headline
pub keeps_headline : ModelledTreesKeepHeadline
keeps_headline s m = record {
  run = m.run;
  headline = modelled_behind_faults s m.run.moves m.run.world m.is_tree m.run.follows;
  mismatches_are_reported = second_runs_report s.tree m.is_tree m.run.moves m.run.world
      m.run.follows.follows.is_run m.run.follows.follows.by_this;
}
