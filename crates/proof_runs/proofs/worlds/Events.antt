-- What a tree that runs comes to by events stands for a run that goes on.
use Rattle.std.proofs.Common.{◌≡◌, ◌∙◌, ap, sym, subst, refl, ℕ, zero, suc, Option, Some, None, List, [], ◌∷◌, ◌++◌, append_assoc, take}
use Rattle.protocol.specs.declared.names.ProcessId.{ProcessId}
use Rattle.protocol.specs.declared.messages.Envelope.{Envelope}
use Rattle.protocol.specs.declared.events.JournalEntry.{JournalEntry}
use Rattle.protocol.specs.declared.events.Act.{Act}
use Rattle.protocol.specs.declared.events.Event.{Event}
use Rattle.protocol.specs.declared.events.Event.TheVariants.{Deliver, Settle, Restart, Trim}
use Rattle.protocol_words.specs.Variants.{ActInput, ActOf, MessageInput}
use Rattle.protocol.specs.declared.events.StepError.{StepError}
use Rattle.protocol_words.specs.step_error
use Rattle.protocol.specs.declared.trees.TreeProcess.{TreeProcess}
use Rattle.protocol.specs.Plays.{process_of_act, sent_as}
use Rattle.protocol.specs.Trees.{IsTree, root_of}
use Rattle.protocol.specs.World.{Continues, Made, World, goes_on, stays}
use Rattle.tree_state.specs.Worlds.{Applies, Delivers, DeviceFailsUnder, NoneDelivered, NotActed, NotDelivered, NotRestartedAt, NotTrimmedAt, SameTree, Settles, SettleStops, Stops, WorldState, least_open, marks, settles_by}
use Rattle.tree_state.specs.Runs.{EventsLead, LeadsUntil}
use Rattle.proof_runs.specs.worlds.Follows.{FollowsBy, GoesOnBy}
use Rattle.proof_runs.proofs.worlds.Faults.{input_fails_on, restart_fails_on, trim_fails_on}
use Rattle.proof_runs.proofs.worlds.Restarts.{restart_goes_on, trim_goes_on}
use Rattle.proof_runs.proofs.worlds.Steps.{HidesFaults, InputsAsTheModel, ShowsMoves, sent_stands, step_goes_on}
use Rattle.proof_runs.proofs.worlds.Unchanged.{same_by}

-- Later moves after later moves.

continues_on : (tree : List TreeProcess) (w0 w1 : World) (first : List Made) → Continues tree w0 first w1
    → (second : List Made) (w2 : World) → Continues tree w1 second w2 → Continues tree w0 (second ++ first) w2
continues_on tree w0 w1 first before _ _ stays = before
continues_on tree w0 w1 first before _ _ (goes_on es w m e w' later stands step) =
    goes_on (es ++ first) w m e w' (continues_on tree w0 w1 first before es w later) stands step

module _ (journal : List Made → List JournalEntry) where
  -- a state that goes on, of the same tree
  pub record GoesOnIn (tree : List TreeProcess) (es : List Made) (w : World) (s : WorldState) : Type 0 where
    pub goes_on_so : GoesOnBy journal es w s
    pub tree_stays : s.tree ≡ tree

  pub waits : (tree : List TreeProcess) (es : List Made) (w : World) (s : WorldState)
      → FollowsBy journal es w s
      → s.tree ≡ tree → GoesOnIn tree es w s
  waits tree es w s f is = record {
    goes_on_so = record { later = []; world = w; leads = stays; follows = f };
    tree_stays = is;
  }

  pub then_on : (tree : List TreeProcess) (es : List Made) (w : World) (s t : WorldState)
      → GoesOnIn tree es w s
      → ((es' : List Made) (w' : World) → FollowsBy journal es' w' s
      → GoesOnIn tree es' w' t) → GoesOnIn tree es w t
  then_on tree es w s t first next =
      let one = first.goes_on_so in
      let two = next (one.later ++ es) one.world one.follows in
      let last = two.goes_on_so in
      record {
        goes_on_so = record {
          later = last.later ++ one.later;
          world = last.world;
          leads = continues_on t.tree w one.world one.later (subst (λ z. Continues z w one.later one.world)
              (first.tree_stays ∙ sym two.tree_stays) one.leads)
              last.later last.world last.leads;
          follows = subst (λ xs. FollowsBy journal xs last.world t)
              (sym (append_assoc last.later one.later es)) last.follows;
        };
        tree_stays = two.tree_stays;
      }

module _ (journal : List Made → List JournalEntry) (shows : ShowsMoves journal)
    (law : (tree : List TreeProcess) → IsTree tree → InputsAsTheModel tree) (tree : List TreeProcess)
    (is_tree : IsTree tree) where
  -- one delivery
  delivered_on : (s t : WorldState) (k : ℕ) (es : List Made) (w : World) → s.tree ≡ tree
      → FollowsBy journal es w s → Delivers s t k → GoesOnIn journal tree es w t
  delivered_on s t k es w is f made =
      let envelope = made.envelope in
      record {
        goes_on_so = step_goes_on journal shows law es w s t envelope.to (MessageInput k envelope.message)
            (marks s.delivered k) (subst IsTree (sym is) is_tree) f
            (sent_stands w.net k envelope (ap (λ xs. sent_as xs k) (sym f.follows.net) ∙ made.sent))
            made.steps;
        tree_stays = made.steps.moves.tree ∙ is;
      }

  settle_step : (n : ℕ) (s t : WorldState) (o : Option ℕ) (es : List Made) (w : World)
      → ((mid : WorldState) (es' : List Made) (w' : World) → mid.tree ≡ tree → FollowsBy journal es' w' mid
      → Settles n mid t → GoesOnIn journal tree es' w' t)
      → s.tree ≡ tree → FollowsBy journal es w s → settles_by s t (λ mid. Settles n mid t) o
      → GoesOnIn journal tree es w t
  settle_step n s t None es w again is f made =
      subst (λ z. GoesOnIn journal tree es w z) (sym made) (waits journal tree es w s f is)
  settle_step n s t (Some k) es w again is f made =
      then_on journal tree es w made.0 t (delivered_on s made.0 k es w is f made.1)
      (λ es' w' g. again made.0 es' w' (made.1.steps.moves.tree ∙ is) g made.2)

  pub settles_on : (n : ℕ) (s t : WorldState) (es : List Made) (w : World) → s.tree ≡ tree
      → FollowsBy journal es w s → Settles n s t → GoesOnIn journal tree es w t
  settles_on zero s t es w is f made = subst (λ z. GoesOnIn journal tree es w z) (sym made)
      (waits journal tree es w s f is)
  settles_on (suc n) s t es w is f made =
      settle_step n s t (least_open 1 s.delivered) es w
      (λ mid es' w' still g. settles_on n mid t es' w' still g) is f made

  -- an event that was made
  pub applied_on : (s t : WorldState) (event : Event) (es : List Made) (w : World) → s.tree ≡ tree
      → FollowsBy journal es w s → Applies s event t → GoesOnIn journal tree es w t
  applied_on s t (ActOf a) es w is f made = record {
    goes_on_so = step_goes_on journal shows law es w s t (process_of_act (root_of s.tree) a) (ActInput a)
        s.delivered (subst IsTree (sym is) is_tree) f tt made;
    tree_stays = made.moves.tree ∙ is;
  }
  applied_on s t (Deliver k) es w is f made = delivered_on s t k es w is f made
  applied_on s t Settle es w is f made = settles_on 10000 s t es w is f made
  applied_on s t (Restart q bytes) es w is f made = record {
    goes_on_so = restart_goes_on journal shows es w s t f q (subst IsTree (sym is) is_tree) bytes made;
    tree_stays = made.moves.tree ∙ is;
  }
  applied_on s t (Trim q) es w is f made = record {
    goes_on_so = trim_goes_on journal shows es w s t f q (subst IsTree (sym is) is_tree) made;
    tree_stays = made.moves.tree ∙ is;
  }

  -- one that was not made; where a device failed in it, of a journal that does not show such moves

  same_on : (s t : WorldState) (es : List Made) (w : World) → s.tree ≡ tree → FollowsBy journal es w s
      → SameTree s t → GoesOnIn journal tree es w t
  same_on s t es w is f same = waits journal tree es w t (same_by journal es w s t f same) (same.tree ∙ is)

  undelivered_on : (s t : WorldState) (k : ℕ) (e : StepError) (es : List Made) (w : World)
      → (e ≡ step_error.Device → HidesFaults journal) → s.tree ≡ tree → FollowsBy journal es w s
      → NotDelivered s t k e → GoesOnIn journal tree es w t
  undelivered_on s t k step_error.Memory es w faults is f h = same_on s t es w is f h
  undelivered_on s t k step_error.Device es w faults is f h =
      by_message (sent_as s.net k) refl h
    where
      by_message : (o : Option Envelope) → sent_as s.net k ≡ o → DeviceFailsUnder s t k o
          → GoesOnIn journal tree es w t
      by_message None sent failed = absurd failed
      by_message (Some l) sent failed = record {
        goes_on_so = input_fails_on journal (faults refl) es w s t f l.to (MessageInput k l.message)
            (sent_stands w.net k l (ap (λ xs. sent_as xs k) (sym f.follows.net) ∙ sent)) failed;
        tree_stays = failed.moves.tree ∙ is;
      }
  undelivered_on s t k step_error.UnknownTxn es w faults is f h = same_on s t es w is f h.0
  undelivered_on s t k step_error.NotAChild es w faults is f h = same_on s t es w is f h.0
  undelivered_on s t k step_error.Closed es w faults is f h = same_on s t es w is f h.0
  undelivered_on s t k step_error.NotInDoubt es w faults is f h = same_on s t es w is f h.0
  undelivered_on s t k step_error.NothingToForget es w faults is f h = same_on s t es w is f h.0
  undelivered_on s t k step_error.Failed es w faults is f h = same_on s t es w is f h.0
  undelivered_on s t k step_error.NoSuch es w faults is f h = same_on s t es w is f h.0
  undelivered_on s t k step_error.Exhausted es w faults is f h = same_on s t es w is f h.0

  unacted_on : (s t : WorldState) (q : ProcessId) (a : Act) (e : StepError) (es : List Made) (w : World)
      → (e ≡ step_error.Device → HidesFaults journal) → s.tree ≡ tree → FollowsBy journal es w s
      → NotActed s t q a e → GoesOnIn journal tree es w t
  unacted_on s t q a step_error.Memory es w faults is f h = same_on s t es w is f h
  unacted_on s t q a step_error.Device es w faults is f h = record {
    goes_on_so = input_fails_on journal (faults refl) es w s t f q (ActInput a) tt h;
    tree_stays = h.moves.tree ∙ is;
  }
  unacted_on s t q a step_error.UnknownTxn es w faults is f h = same_on s t es w is f h.0
  unacted_on s t q a step_error.NotAChild es w faults is f h = same_on s t es w is f h.0
  unacted_on s t q a step_error.Closed es w faults is f h = same_on s t es w is f h.0
  unacted_on s t q a step_error.NotInDoubt es w faults is f h = same_on s t es w is f h.0
  unacted_on s t q a step_error.NothingToForget es w faults is f h = same_on s t es w is f h.0
  unacted_on s t q a step_error.Failed es w faults is f h = same_on s t es w is f h.0
  unacted_on s t q a step_error.NoSuch es w faults is f h = same_on s t es w is f h.0
  unacted_on s t q a step_error.Exhausted es w faults is f h = same_on s t es w is f h.0

  unrestarted_on : (s t : WorldState) (q : ProcessId) (bytes : Option ℕ) (e : StepError) (es : List Made)
      (w : World) → (e ≡ step_error.Device → HidesFaults journal)
      → s.tree ≡ tree → FollowsBy journal es w s → NotRestartedAt s t q bytes e → GoesOnIn journal tree es w t
  unrestarted_on s t q bytes step_error.Memory es w faults is f h = same_on s t es w is f h
  unrestarted_on s t q bytes step_error.Device es w faults is f h = record {
    goes_on_so = restart_fails_on journal (faults refl) es w s t f q (subst IsTree (sym is) is_tree) bytes h;
    tree_stays = h.moves.tree ∙ is;
  }
  unrestarted_on s t q bytes step_error.UnknownTxn es w faults is f h = absurd h
  unrestarted_on s t q bytes step_error.NotAChild es w faults is f h = absurd h
  unrestarted_on s t q bytes step_error.Closed es w faults is f h = absurd h
  unrestarted_on s t q bytes step_error.NotInDoubt es w faults is f h = absurd h
  unrestarted_on s t q bytes step_error.NothingToForget es w faults is f h = absurd h
  unrestarted_on s t q bytes step_error.Failed es w faults is f h = absurd h
  unrestarted_on s t q bytes step_error.NoSuch es w faults is f h = same_on s t es w is f h.0
  unrestarted_on s t q bytes step_error.Exhausted es w faults is f h = same_on s t es w is f h.0

  untrimmed_on : (s t : WorldState) (q : ProcessId) (e : StepError) (es : List Made) (w : World)
      → (e ≡ step_error.Device → HidesFaults journal) → s.tree ≡ tree → FollowsBy journal es w s
      → NotTrimmedAt s t q e → GoesOnIn journal tree es w t
  untrimmed_on s t q step_error.Memory es w faults is f h = same_on s t es w is f h
  untrimmed_on s t q step_error.Device es w faults is f h = record {
    goes_on_so = trim_fails_on journal (faults refl) es w s t f q (subst IsTree (sym is) is_tree) h;
    tree_stays = h.moves.tree ∙ is;
  }
  untrimmed_on s t q step_error.UnknownTxn es w faults is f h = absurd h
  untrimmed_on s t q step_error.NotAChild es w faults is f h = absurd h
  untrimmed_on s t q step_error.Closed es w faults is f h = absurd h
  untrimmed_on s t q step_error.NotInDoubt es w faults is f h = absurd h
  untrimmed_on s t q step_error.NothingToForget es w faults is f h = absurd h
  untrimmed_on s t q step_error.Failed es w faults is f h = same_on s t es w is f h.0
  untrimmed_on s t q step_error.NoSuch es w faults is f h = same_on s t es w is f h.0
  untrimmed_on s t q step_error.Exhausted es w faults is f h = absurd h

  none_on : (s t : WorldState) (e : StepError) (o : Option ℕ) (es : List Made) (w : World)
      → (e ≡ step_error.Device → HidesFaults journal) → s.tree ≡ tree → FollowsBy journal es w s
      → NoneDelivered s t e o → GoesOnIn journal tree es w t
  none_on s t e None es w faults is f h = same_on s t es w is f h.1
  none_on s t e (Some k) es w faults is f h = undelivered_on s t k e es w faults is f h

  settle_stops_on : (limit : ℕ) (s t : WorldState) (e : StepError) (es : List Made) (w : World)
      → (e ≡ step_error.Device → HidesFaults journal) → s.tree ≡ tree → FollowsBy journal es w s
      → SettleStops limit s t e → GoesOnIn journal tree es w t
  settle_stops_on limit s t e es w faults is f h =
      let first = settles_on h.count s h.before es w is f h.settles in
      then_on journal tree es w h.before t first
      (λ es' w' g. none_on h.before t e (least_open 1 h.before.delivered) es' w'
      faults first.tree_stays g h.stops)

  pub stopped_on : (s t : WorldState) (event : Event) (e : StepError) (es : List Made) (w : World)
      → (e ≡ step_error.Device → HidesFaults journal) → s.tree ≡ tree → FollowsBy journal es w s
      → Stops s event e t → GoesOnIn journal tree es w t
  stopped_on s t (ActOf a) e es w faults is f h =
      unacted_on s t (process_of_act (root_of s.tree) a) a e es w faults is f h
  stopped_on s t (Deliver k) e es w faults is f h = undelivered_on s t k e es w faults is f h
  stopped_on s t Settle e es w faults is f h = settle_stops_on 10000 s t e es w faults is f h
  stopped_on s t (Restart q bytes) e es w faults is f h = unrestarted_on s t q bytes e es w faults is f h
  stopped_on s t (Trim q) e es w faults is f h = untrimmed_on s t q e es w faults is f h

  -- Lists of events.

  pub leads_on : (s t : WorldState) (events : List Event) (es : List Made) (w : World) → s.tree ≡ tree
      → FollowsBy journal es w s → EventsLead s events t → GoesOnIn journal tree es w t
  leads_on s t [] es w is f made = subst (λ z. GoesOnIn journal tree es w z) (sym made)
      (waits journal tree es w s f is)
  leads_on s t (e ∷ events) es w is f made =
      let first = applied_on s made.0 e es w is f made.1 in
      then_on journal tree es w made.0 t first
      (λ es' w' g. leads_on made.0 t events es' w' first.tree_stays g made.2)

  pub leads_until_on : (s t : WorldState) (events : List Event) (n : ℕ) (e : StepError) (es : List Made)
      (w : World) → (e ≡ step_error.Device → HidesFaults journal) → s.tree ≡ tree
      → FollowsBy journal es w s → LeadsUntil s events n e t → GoesOnIn journal tree es w t
  leads_until_on s t events n e es w faults is f made =
      let first = leads_on s made.before (take n events) es w is f made.leads in
      then_on journal tree es w made.before t first
      (λ es' w' g. stopped_on made.before t made.event e es' w' faults first.tree_stays g made.stops)
