-- What a tree that was opened over logs refuses, the model refuses so.
use Rattle.std.proofs.Common.{◌≡◌, ◌∙◌, ap, sym, subst, refl, ℕ, Bool, true, false, List, [], ◌++◌, append_assoc, Option, Some, None, is_some, take}
use Rattle.std.specs.Prelude.{if◌then◌else◌}
use Rattle.protocol.specs.declared.names.ProcessId.{ProcessId}
use Rattle.protocol.specs.declared.messages.Envelope.{Envelope}
use Rattle.protocol.specs.declared.events.Event.{Event}
use Rattle.protocol.specs.declared.events.Event.TheVariants.{Deliver, Settle, Restart, Trim}
use Rattle.protocol_words.specs.Variants.{ActInput, ActOf, MessageInput, Restarting, Trimming}
use Rattle.protocol.specs.declared.events.Input.{Input}
use Rattle.protocol.specs.declared.events.StepError.{StepError}
use Rattle.protocol_words.specs.step_error
use Rattle.protocol.specs.declared.trees.TreeProcess.{TreeProcess}
use Rattle.protocol.specs.Nodes.{DataAnswer, Effect, Node, Place, is_listed, place_of}
use Rattle.protocol.specs.Plays.{process_of_act, sent_as}
use Rattle.protocol.specs.Reactions.{Does, Reacts, Refused, hears, is_passed_over, reacts}
use Rattle.protocol.specs.Trees.{IsTree, root_of}
use Rattle.protocol.specs.World.{Continues, Made, Move, World, goes_on, input_makes, node_makes, passes_over, stays}
use Rattle.protocol.specs.World.{Refuses}
use Rattle.process_state.specs.States.{CoreState, SameCore}
use Rattle.process_state.specs.Turns.{heard_now, this_version}
use Rattle.process_state.proofs.Alike.{same_view}
use Rattle.tree_state.specs.Steps.{input_move, quiet_move}
use Rattle.proof_runs.specs.worlds.Refusals.{RefusesDelivery, RefusesEvent, RefusesSo, model_refusal, refusal_in}
use Rattle.tree_state.specs.Runs.{LeadsUntil}
use Rattle.tree_state.specs.Worlds.{HasFailed, NoneDelivered, NotTrimmedAt, RefusesAt, RefusesMessage, SameTree, Stops, WorldState, least_open}
use Rattle.proof_runs.proofs.Steps.{refusals_so}
use Rattle.proof_runs.proofs.Trimming.{trim_done}
use Rattle.proof_runs.proofs.worlds.Fitting.{runs_fit}
use Rattle.proof_runs.proofs.worlds.Whole.{ForItself, not_acted, not_delivered, not_restarted}
use Rattle.tree_state.specs.Fits.{NodeFits}
use Rattle.proof_reopened.specs.Earlier.{Earlier}
use Rattle.proof_reopened.specs.Since.{FollowsSince}
use Rattle.proof_reopened.proofs.Events.{GoesIn, leads_on, settles_on}
use Rattle.proof_reopened.proofs.Moves.{listed_since, run_of}
use Rattle.proof_reopened.proofs.Steps.{same_since}
use Rattle.tree_engine.specs.Reopened.{RefusesNextSince, RefusesSince}

-- One process.

-- a process refuses an input whatever its manager's data answer
refuses_any : (place : Place) (n : Node) (q : ProcessId) (i : Input) (a d : DataAnswer) (e : StepError)
    → node_makes place n (input_move q i None a) ≡ Refuses e
    → node_makes place n (input_move q i None d) ≡ Refuses e
unfolding node_makes reacts
refuses_any place n q (ActInput x) a d e h = by_test (is_passed_over place n (ActInput x))
    (reacts place n (heard_now a (ActInput x))) h
  where
    by_test : (b : Bool) (r : Reacts)
        → (if b then passes_over n None else input_makes n
        (heard_now a (ActInput x)) None r) ≡ Refuses e
        → (if b then passes_over n None else input_makes n
        (heard_now d (ActInput x)) None r) ≡ Refuses e
    by_test true r h = h
    by_test false (Refused f) h = h
    by_test false (Does f) h = absurd (cc)
refuses_any place n q (MessageInput k m) a d e h = by_test (is_passed_over place n (MessageInput k m))
    n.failed (hears place.role this_version place n a m) (hears place.role this_version place n d m) h
  where
    by_test : (b f : Bool) (x y : Effect)
        → (if b then passes_over n None
        else input_makes n (heard_now a (MessageInput k m)) None
        (if f then Refused step_error.Failed else Does x)) ≡ Refuses e
        → (if b then passes_over n None
        else input_makes n (heard_now d (MessageInput k m)) None
        (if f then Refused step_error.Failed else Does y)) ≡ Refuses e
    by_test true f x y h = h
    by_test false true x y h = h
    by_test false false x y h = absurd (cc)

same_core : (s : CoreState) → SameCore s s
same_core s = record {
  log = refl;
  rest = record {
    place = refl;
    boot = refl;
    begun = refl;
    given = refl;
    tickets = λ d. refl;
    views = λ c. same_view (s.view_of c);
    branches = λ c. refl;
    decided = λ c. refl;
    spent = refl;
  };
}

module _ (past : Earlier) (es : List Made) (w : World) (s : WorldState) (f : FollowsSince past es w s) where
  fits_at : (q : ProcessId) (place : Place) → place ≡ place_of s.tree q → (w.at q).failed ≡ false
      → NodeFits place.role place (w.at q)
  fits_at q place is works = subst (λ p. NodeFits p.role p (w.at q)) (sym is)
      (runs_fit s.tree (es ++ past.moves) w (run_of past es w s f) q works)

  refused_by : (q : ProcessId) (o : Option CoreState) (i : Input) (e : StepError) → s.node_at q ≡ o
      → RefusesAt o i e → RefusesSo s.tree w q i e
  refused_by q None i e there why d =
      let unlisted : is_listed s.tree q ≡ false = sym (f.listed q) ∙ ap is_some there in
      rw unlisted (ap Some (sym why))
  refused_by q (Some c) i e there why d =
      let here = f.nodes q c there in
      let listed : is_listed s.tree q ≡ true = sym (f.listed q) ∙ ap is_some there in
      let is = refusals_so (w.at q) c c why.0 i here.stands (fits_at q c.place here.place) e
      (record { same = same_core c; found = why.1; finds = why.2; refuses = why.3 }) in
      let made : node_makes (place_of s.tree q) (w.at q) (input_move q i None why.0) ≡ Refuses e =
      subst (λ p. node_makes p (w.at q) (input_move p.me i None why.0) ≡ Refuses e) here.place is.0 in
      rw listed (ap refusal_in (refuses_any (place_of s.tree q) (w.at q) q i why.0 d e made))

  -- what a process refuses, the model refuses so
  refused_so : (q : ProcessId) (i : Input) (e : StepError) → RefusesAt (s.node_at q) i e
      → RefusesSo s.tree w q i e
  refused_so q i e why = refused_by q (s.node_at q) i e refl why

  refused_message : (k : ℕ) (o : Option Envelope) (e : StepError) → RefusesMessage s k o e
      → RefusesDelivery s.tree w k o e
  refused_message k None e h = h
  refused_message k (Some l) e h = refused_so l.to (MessageInput k l.message) e h

  -- no move is made at a process that is not there
  nobody : (m : Move) → s.node_at m.step.process ≡ None → model_refusal s.tree w m ≡ Some step_error.NoSuch
  nobody m none =
      let unlisted : is_listed s.tree m.step.process ≡ false =
      sym (f.listed m.step.process) ∙ ap is_some none in
      rw unlisted refl

  trim_failed : (q : ProcessId) (o : Option CoreState) → s.node_at q ≡ o → HasFailed o
      → model_refusal s.tree w (quiet_move q Trimming None) ≡ Some step_error.Failed
  trim_failed q None stood failed = absurd failed
  trim_failed q (Some c) stood failed =
      let here = f.nodes q c stood in
      let listed = listed_since past es w s q c f stood in
      rw listed
      (ap refusal_in (trim_done (place_of s.tree q) (w.at q) None true (sym here.stands.failed ∙ failed)))

  -- a trim that was refused for itself
  not_trimmed : (t : WorldState) (q : ProcessId) (e : StepError) → ForItself e → NotTrimmedAt s t q e
      → SameTree s t × (model_refusal s.tree w (quiet_move q Trimming None) ≡ Some e)
  not_trimmed t q step_error.Memory itself h = absurd (itself.memory refl)
  not_trimmed t q step_error.Device itself h = absurd (itself.device refl)
  not_trimmed t q step_error.UnknownTxn itself h = absurd h
  not_trimmed t q step_error.NotAChild itself h = absurd h
  not_trimmed t q step_error.Closed itself h = absurd h
  not_trimmed t q step_error.NotInDoubt itself h = absurd h
  not_trimmed t q step_error.NothingToForget itself h = absurd h
  not_trimmed t q step_error.Failed itself h = (h.0, trim_failed q (s.node_at q) refl h.1)
  not_trimmed t q step_error.NoSuch itself h = (h.0, nobody (quiet_move q Trimming None) h.1)
  not_trimmed t q step_error.Exhausted itself h = absurd (itself.numbers refl)

-- An event that was refused for itself left a state that stands for both parts, of which the model refuses it
-- so.
pub record StoppedSince (past : Earlier) (tree : List TreeProcess) (es : List Made) (w : World)
    (t : WorldState)
    (event : Event) (e : StepError) : Type 0 where
  pub goes : GoesIn past tree es w t
  pub refuses : RefusesSince tree goes.goes_on_so.world t.net t.delivered event e

-- later moves after later moves
continues_on : (tree : List TreeProcess) (w0 w1 : World) (first : List Made) → Continues tree w0 first w1
    → (second : List Made) (w2 : World) → Continues tree w1 second w2 → Continues tree w0 (second ++ first) w2
continues_on tree w0 w1 first before _ _ stays = before
continues_on tree w0 w1 first before _ _ (goes_on es w m e w' later stands step) =
    goes_on (es ++ first) w m e w' (continues_on tree w0 w1 first before es w later) stands step

module _ (past : Earlier) (tree : List TreeProcess) (is_tree : IsTree tree) where
  -- nothing is otherwise
  stays_so : (s t : WorldState) (event : Event) (e : StepError) (es : List Made) (w : World) → s.tree ≡ tree
      → FollowsSince past es w s → SameTree s t → RefusesSince s.tree w t.net t.delivered event e
      → StoppedSince past tree es w t event e
  stays_so s t event e es w is f same refuses = record {
    goes = record {
      goes_on_so = record { later = []; world = w; leads = stays; follows = same_since past es w s t f same };
      tree_stays = same.tree ∙ is;
    };
    refuses = subst (λ z. RefusesSince z w t.net t.delivered event e) is refuses;
  }

  settle_refused : (start before t : WorldState) (e : StepError) (o : Option ℕ) (es : List Made) (w : World)
      → (g : GoesIn past tree es w before) → ForItself e → least_open 1 before.delivered ≡ o
      → NoneDelivered before t e o → StoppedSince past tree es w t Settle e
  settle_refused start before t e None es w g itself least h = absurd (itself.memory h.0)
  settle_refused start before t e (Some k) es w g itself least h =
      let why = not_delivered before t k e itself h in
      let so = g.goes_on_so in
      record {
        goes = record {
          goes_on_so = record {
            later = so.later;
            world = so.world;
            leads = subst (λ z. Continues z w so.later so.world) (sym why.0.tree) so.leads;
            follows = same_since past (so.later ++ es) so.world before t so.follows why.0;
          };
          tree_stays = why.0.tree ∙ g.tree_stays;
        };
        refuses = subst (λ o. RefusesNextSince tree so.world t.net o e)
            (sym (ap (least_open 1) why.0.delivered ∙ least))
            (subst (λ net. RefusesDelivery tree so.world k (sent_as net k) e) (sym why.0.net)
            (subst (λ z. RefusesDelivery z so.world k (sent_as before.net k) e) g.tree_stays
            (refused_message past (so.later ++ es) so.world before so.follows k
            (sent_as before.net k) e why.1)));
      }

  stopped_since : (s t : WorldState) (event : Event) (e : StepError) (es : List Made) (w : World)
      → s.tree ≡ tree
      → ForItself e → FollowsSince past es w s → Stops s event e t → StoppedSince past tree es w t event e
  stopped_since s t (ActOf a) e es w is itself f h =
      let why = not_acted s t (process_of_act (root_of s.tree) a) a e itself h in
      stays_so s t (ActOf a) e es w is f why.0
      (refused_so past es w s f (process_of_act (root_of s.tree) a) (ActInput a) e why.1)
  stopped_since s t (Deliver k) e es w is itself f h =
      let why = not_delivered s t k e itself h in
      stays_so s t (Deliver k) e es w is f why.0
      (subst (λ net. RefusesDelivery s.tree w k (sent_as net k) e) (sym why.0.net)
      (refused_message past es w s f k (sent_as s.net k) e why.1))
  stopped_since s t Settle e es w is itself f h =
      settle_refused s h.before t e (least_open 1 h.before.delivered) es w
      (settles_on past tree is_tree h.count s h.before es w is f h.settles) itself refl h.stops
  stopped_since s t (Restart q bytes) e es w is itself f h =
      let why = not_restarted s t q bytes e itself h in
      stays_so s t (Restart q bytes) e es w is f why.0
      (subst (λ x. RefusesEvent s.tree w t.delivered (Restart q bytes) x) (sym why.2)
      (λ k. nobody past es w s f (quiet_move q (Restarting k) None) why.1))
  stopped_since s t (Trim q) e es w is itself f h =
      let why = not_trimmed past es w s f t q e itself h in
      stays_so s t (Trim q) e es w is f why.0 why.1

  -- the same after other events
  pub until_since : (s t : WorldState) (events : List Event) (n : ℕ) (e : StepError)
      (es : List Made) (w : World)
      → s.tree ≡ tree → ForItself e → FollowsSince past es w s → (h : LeadsUntil s events n e t)
      → StoppedSince past tree es w t h.event e
  until_since s t events n e es w is itself f h =
      let first = leads_on past tree is_tree s h.before (take n events) es w is f h.leads in
      let one = first.goes_on_so in
      let last = stopped_since h.before t h.event e (one.later ++ es) one.world first.tree_stays
      itself one.follows
      h.stops in
      let so = last.goes.goes_on_so in
      record {
        goes = record {
          goes_on_so = record {
            later = so.later ++ one.later;
            world = so.world;
            leads = continues_on t.tree w one.world one.later (subst (λ z. Continues z w one.later one.world)
                (first.tree_stays ∙ sym last.goes.tree_stays) one.leads) so.later so.world so.leads;
            follows = subst (λ xs. FollowsSince past xs so.world t)
                (sym (append_assoc so.later one.later es)) so.follows;
          };
          tree_stays = last.goes.tree_stays;
        };
        refuses = last.refuses;
      }
