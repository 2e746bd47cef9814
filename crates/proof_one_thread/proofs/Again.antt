-- A journal made again.
use Rattle.std.proofs.Common.{◌≡◌, ◌⊎◌, ◌∙◌, ap, refl, sym, subst, inl, inr, Bool, true, false, is_some, Option, Some, None, List, [], ◌∷◌, ◌++◌, append_assoc}
use Rattle.protocol.specs.declared.names.ProcessId.{ProcessId}
use Rattle.protocol.specs.declared.events.JournalEntry.{JournalEntry}
use Rattle.protocol.specs.declared.events.Step.{Step}
use Rattle.protocol.specs.declared.events.Event.{Event}
use Rattle.protocol.specs.declared.events.Event.TheVariants.{Deliver, Settle, Restart, Trim}
use Rattle.protocol_words.specs.Variants.{ActInput, ActOf, Handles, MessageInput, Restarting, Trimming}
use Rattle.protocol.specs.declared.events.Happening.{Happening}
use Rattle.protocol.specs.declared.events.StepError.{StepError}
use Rattle.protocol.specs.declared.records.LogRecord.{LogRecord}
use Rattle.protocol.specs.declared.trees.TreeProcess.{TreeProcess}
use Rattle.protocol.specs.Nodes.{AtLeaf, AtRoot, Below, Role, is_listed, place_of}
use Rattle.protocol.specs.Plays.{process_of_act}
use Rattle.protocol.specs.Trees.{IsTree, root_of}
use Rattle.protocol.specs.World.{journal_of}
use Rattle.log_records.specs.Sights.{LogSight, records_of}
use Rattle.process_state.specs.States.{CoreState, SameCore}
use Rattle.resource_manager.specs.Data.{ManagerData, DataRests}
use Rattle.tree_state.specs.Steps.{records_kept, restart_of, trim_reaction}
use Rattle.tree_state.specs.Runs.{IsOpenedTree}
use Rattle.tree_state.specs.Worlds.{Applies, SameTree, SameNode, Stops, WorldState, step_entry}
use Rattle.proof_runs.proofs.worlds.AlikeSteps.{logs_alike}
use Rattle.proof_runs.proofs.worlds.AlikeTrees.{AlikeAt, AlikeTrees, event_alike, one_place, opened_alike}
use Rattle.proof_runs.proofs.worlds.Unchanged.{same_by}
use Rattle.proof_runs.proofs.worlds.Whole.{ForItself}
use Rattle.proof_cuts.specs.Alone.{AskForAll, AsksFor, EventsLeadOn}
use Rattle.proof_one_thread.specs.Again.{Again, AsksAgain, ComesTo, HaveSame, IsExcused, JournalsAreMadeAgain, bytes_of_first, none_again, one_again, unforced_in}
use Rattle.proof_one_thread.proofs.Events.{IsLevel, act_made, delivery_made, event_level, excused_or, restart_again, restart_made, trim_made}

-- Where nothing is otherwise.

rests_back : (a b c : ManagerData) → DataRests a b → DataRests a c → DataRests b c
rests_back a b c h k = record {
  keeps = record {
    writes = λ y. k.keeps.writes y ∙ sym (h.keeps.writes y);
    holders = λ y. k.keeps.holders y ∙ sym (h.keeps.holders y);
  };
  known = λ y. k.known y ∙ sym (h.known y);
}

alike_back : (r : Role) (a b c : ManagerData) → DataRests a b → AlikeAt r a c → AlikeAt r b c
alike_back (AtLeaf p) a b c h k = rests_back a b c h k
alike_back AtRoot a b c h k = tt
alike_back (Below p) a b c h k = tt

log_back : (o p : Option CoreState) (d : CoreState) → SameNode o p → p ≡ Some d
    → (c : CoreState) × (o ≡ Some c) × (d.log ≡ c.log)
log_back None None d same is = absurd (cc)
log_back None (Some t) d same is = absurd same
log_back (Some s) None d same is = absurd same
log_back (Some s) (Some t) d same is =
    let one : t ≡ d = cc in
    (s, refl, ap (λ (x : CoreState). x.log) (sym one) ∙ same.log)

same_alike : (s s' t : WorldState) → AlikeTrees s t → SameTree s s' → AlikeTrees s' t
same_alike s s' t alike same = record {
  is_tree = subst IsTree (sym same.tree) alike.is_tree;
  tree = alike.tree ∙ sym same.tree;
  moves = alike.moves;
  world = alike.world;
  here = same_by journal_of alike.moves alike.world s s' alike.here same;
  there = alike.there;
  delivered = alike.delivered ∙ sym same.delivered;
  holdings = λ q. subst (λ (z : List TreeProcess). AlikeAt (place_of z q).role (s'.data_at q) (t.data_at q))
      (sym same.tree)
      (alike_back (place_of s.tree q).role (s.data_at q) (s'.data_at q) (t.data_at q) (same.holdings q)
      (alike.holdings q));
  behind = λ q c d at at_there.
      let was = log_back (s.node_at q) (s'.node_at q) c (same.nodes q) at in
      alike.behind q was.0 d was.1 at_there ∙ ap (λ (l : LogSight). l.behind) (sym was.2);
}

same_level : (s s' : WorldState) → IsLevel s → SameTree s s' → IsLevel s'
same_level s s' level same q c at =
    let was = log_back (s.node_at q) (s'.node_at q) c (same.nodes q) at in
    ap (λ (l : LogSight). l.behind) was.2 ∙ level q was.0 was.1

-- The entry of an event.

-- where the step of an event stands, and what happens in it
abbrev IsIts : Event → Step → Type 0
IsIts (Restart q bytes) x = x.process ≡ q
IsIts (Trim q) x = x.process ≡ q
IsIts e x = Unit {0}

-- a restart shows how many records it kept
abbrev Shows : (old new : WorldState) (e : Event) → Applies old e new → Happening → Type 0
Shows old new (Restart q bytes) made h = h ≡ restart_of made.before made.keep
Shows old new e made h = Unit {0}

record Entered (old new : WorldState) (e : Event) (made : Applies old e new) : Type 0 where
  entry : JournalEntry
  enters : new.entries ≡ old.entries ++ entry ∷ []
  its : IsIts e entry.step
  shows : Shows old new e made entry.step.happening

enters : (old new : WorldState) (e : Event) (h : Happening) (made : Applies old e new) → AsksFor e h
    → Entered old new e made
enters old new (ActOf a) h made asks = record {
  entry = step_entry (process_of_act (root_of old.tree) a) (Handles (ActInput a)) made.reaction;
  enters = made.enters.entries;
  its = tt;
  shows = tt;
}
enters old new (Deliver k) h made asks = record {
  entry = step_entry made.envelope.to (Handles (MessageInput k made.envelope.message)) made.steps.reaction;
  enters = made.steps.enters.entries;
  its = tt;
  shows = tt;
}
enters old new Settle h made asks = absurd asks
enters old new (Restart q bytes) h made asks = record {
  entry = step_entry q (restart_of made.before made.keep) made.reaction;
  enters = made.enters.entries;
  its = refl;
  shows = refl;
}
enters old new (Trim q) h made asks = record {
  entry = step_entry q Trimming (trim_reaction made.remain);
  enters = made.enters.entries;
  its = refl;
  shows = tt;
}

-- events that are made lengthen the journal
longer : (xs : List JournalEntry) (old new : WorldState) (es : List Event) → AskForAll xs es
    → EventsLeadOn old es new
    → (more : List JournalEntry) × (new.entries ≡ old.entries ++ more)
longer [] old new [] asks leads = ([], leads.entries ∙ nothing old.entries)
  where
    nothing : (xs : List JournalEntry) → xs ≡ xs ++ []
    nothing [] = refl
    nothing (x ∷ xs) = ap (λ ys. x ∷ ys) (nothing xs)
longer [] old new (e ∷ es) asks leads = absurd asks
longer (x ∷ xs) old new [] asks leads = absurd asks
longer (x ∷ xs) old new (e ∷ es) asks leads =
    let one = enters leads.0 leads.1 e x.step.happening leads.3 asks.0 in
    let rest = longer xs leads.1 new es asks.1 leads.4 in (
      one.entry ∷ rest.0,
      rest.1 ∙ ap (λ ys. ys ++ rest.0) (one.enters ∙ ap (λ ys. ys ++ one.entry ∷ []) leads.2.entries)
          ∙ append_assoc old.entries (one.entry ∷ []) rest.0,
    )

-- the entry is the one that is there
same_front : (xs ys zs : List JournalEntry) → xs ++ ys ≡ xs ++ zs → ys ≡ zs
same_front [] ys zs h = h
same_front (x ∷ xs) ys zs h =
    let rest : xs ++ ys ≡ xs ++ zs = cc in same_front xs ys zs rest

same_first : (x y : JournalEntry) (xs ys : List JournalEntry) → x ∷ xs ≡ y ∷ ys → x ≡ y
same_first x y xs ys h = cc

-- What was made, and its like.

module _ (s s' t t' : WorldState) (q : ProcessId) (level : IsLevel s) (alike : AlikeTrees s t) where
  -- the same of what was asked
  event_again : (e f : Event) (h : Happening) (made : Applies s e s') → AsksFor e h
      → IsIts e (record { process = q; happening = h; fault = None })
      → Shows s s' e made h → AsksAgain t q h f → Applies t f t' → AlikeTrees s' t'
  event_again (ActOf a) f h made asks its shows again k =
      let is = subst (λ (x : Happening). AsksAgain t q x f) asks again in
      event_alike s s' t t' (ActOf a) alike made (subst (λ (x : Event). Applies t x t') is k)
  event_again (Deliver n) f h made asks its shows again k =
      let is = subst (λ (x : Happening). AsksAgain t q x f) asks.1 again in
      event_alike s s' t t' (Deliver n) alike made (subst (λ (x : Event). Applies t x t') is k)
  event_again Settle f h made asks its shows again k = absurd asks
  event_again (Restart p bytes) f h made asks its shows again k =
      let is = subst (λ (x : Happening). AsksAgain t q x f) shows again in
      let here = subst (λ (x : Event). Applies t x t') is k in
      restart_again s s' t t' p bytes level alike made
      (subst (λ (r : ProcessId). Applies t (Restart r
      (Some (bytes_of_first (records_kept made.before made.keep)
      (unforced_in (t.node_at r))))) t') its here)
  event_again (Trim p) f h made asks its shows again k =
      let is = subst (λ (x : Happening). AsksAgain t q x f) asks again in
      event_alike s s' t t' (Trim p) alike made
      (subst (λ (r : ProcessId). Applies t (Trim r) t') its (subst (λ (x : Event). Applies t x t') is k))

  -- and is not refused for itself
  not_refused : (e f : Event) (h : Happening) (why : StepError) (made : Applies s e s') → ForItself why
      → AsksFor e h
      → IsIts e (record { process = q; happening = h; fault = None }) → AsksAgain t q h f → Stops t f why t'
      → ⊥
  not_refused (ActOf a) f h why made itself asks its again stops =
      let is = subst (λ (z : Happening). AsksAgain t q z f) asks again in
      act_made s t alike s' t' a why itself made (subst (λ (z : Event). Stops t z why t') is stops)
  not_refused (Deliver n) f h why made itself asks its again stops =
      let is = subst (λ (z : Happening). AsksAgain t q z f) asks.1 again in
      delivery_made s t alike s' t' n why itself made (subst (λ (z : Event). Stops t z why t') is stops)
  not_refused Settle f h why made itself asks its again stops = absurd asks
  not_refused (Restart p bytes) f h why made itself asks its again stops =
      let is = subst (λ (z : Happening). AsksAgain t q z f) asks.1 again in
      let here = subst (λ (z : Event). Stops t z why t') is stops in
      restart_made s t alike s' t' p bytes _ why itself made
      (subst (λ (r : ProcessId). Stops t (Restart r
      (Some (bytes_of_first asks.0 (unforced_in (t.node_at r))))) why t')
      its here)
  not_refused (Trim p) f h why made itself asks its again stops =
      let is = subst (λ (z : Happening). AsksAgain t q z f) asks again in
      trim_made s t alike s' t' p why itself made
      (subst (λ (r : ProcessId). Stops t (Trim r) why t') its
      (subst (λ (z : Event). Stops t z why t') is stops))

-- On the way.

-- One tree made these entries and has these to make; the other, which made the first again, shows the same.
record Walk (end : WorldState) (done rest : List JournalEntry) (w : WorldState) : Type 0 where
  here : WorldState
  events : List Event
  alike : AlikeTrees here w
  level : IsLevel here
  done_is : here.entries ≡ done
  ask : AskForAll rest events
  leads : EventsLeadOn here events end

-- what comes next of the first
record Next (end : WorldState) (done : List JournalEntry) (x : JournalEntry) (rest : List JournalEntry)
    (w : WorldState) : Type 0 where
  before : WorldState
  behind : WorldState
  event : Event
  events : List Event
  alike : AlikeTrees before w
  level : IsLevel before
  made : Applies before event behind
  asks : AsksFor event x.step.happening
  its : IsIts event (record { process = x.step.process; happening = x.step.happening; fault = None })
  shows : Shows before behind event made x.step.happening
  done_is : behind.entries ≡ done ++ x ∷ []
  ask : AskForAll rest events
  leads : EventsLeadOn behind events end

its_alone : (e : Event) (x : Step) → IsIts e x
    → IsIts e (record { process = x.process; happening = x.happening; fault = None })
its_alone (ActOf a) x h = tt
its_alone (Deliver n) x h = tt
its_alone Settle x h = tt
its_alone (Restart p bytes) x h = h
its_alone (Trim p) x h = h

next : (end : WorldState) (done : List JournalEntry) (x : JournalEntry) (rest : List JournalEntry)
    (w : WorldState)
    → end.entries ≡ done ++ x ∷ rest → (walk : Walk end done (x ∷ rest) w) → Next end done x rest w
next end done x rest w all walk = by_events walk.events walk.ask walk.leads
  where
    by_events : (es : List Event) → AskForAll (x ∷ rest) es → EventsLeadOn walk.here es end
        → Next end done x rest w
    by_events [] asks leads = absurd asks
    by_events (e ∷ es) asks leads =
        let before = leads.0 in
        let behind = leads.1 in
        let one = enters before behind e x.step.happening leads.3 asks.0 in
        let more = longer rest behind end es asks.1 leads.4 in
        let entered : behind.entries ≡ done ++ one.entry ∷ [] =
        one.enters ∙ ap (λ ys. ys ++ one.entry ∷ []) (leads.2.entries ∙ walk.done_is) in
        let whole : done ++ one.entry ∷ more.0 ≡ done ++ x ∷ rest =
        sym (append_assoc done (one.entry ∷ []) more.0) ∙ ap (λ ys. ys ++ more.0) (sym entered) ∙ sym more.1
        ∙ all in
        let is : one.entry ≡ x =
        same_first one.entry x more.0 rest (same_front done (one.entry ∷ more.0) (x ∷ rest) whole) in
        record {
          before = before;
          behind = behind;
          event = e;
          events = es;
          alike = same_alike walk.here before w walk.alike leads.2;
          level = same_level walk.here before walk.level leads.2;
          made = leads.3;
          asks = asks.0;
          its = its_alone e x.step (subst (λ (y : JournalEntry). IsIts e y.step) is one.its);
          shows = subst (λ (y : JournalEntry). Shows before behind e leads.3 y.step.happening) is one.shows;
          done_is = entered ∙ ap (λ y. done ++ y ∷ []) is;
          ask = asks.1;
          leads = leads.4;
        }

walked : (tree : List TreeProcess) (start end again w : WorldState) (events : List Event)
    (done rest : List JournalEntry)
    → IsTree tree → IsOpenedTree start tree → AskForAll (done ++ rest) events → EventsLeadOn start events end
    → end.entries ≡ done ++ rest → IsOpenedTree again tree → Again again done w → Walk end done rest w
walked tree start end again _ events _ rest is_tree opens ask leads all opens_again none_again = record {
  here = start;
  events = events;
  alike = opened_alike tree start again is_tree opens opens_again;
  level = λ q c at. ap (λ (l : LogSight). l.behind) (opens.nodes q c at).opened.log;
  done_is = opens.entries;
  ask = ask;
  leads = leads;
}
walked tree start end again w events _ rest is_tree opens ask leads all opens_again
    (one_again xs x e mid _ before asks applies) =
    let same : (xs ++ x ∷ []) ++ rest ≡ xs ++ x ∷ rest = append_assoc xs (x ∷ []) rest in
    let was = walked tree start end again mid events xs (x ∷ rest) is_tree opens
    (subst (λ ys. AskForAll ys events) same ask) leads (all ∙ same) opens_again before in
    let n = next end xs x rest mid (all ∙ same) was in
    record {
      here = n.behind;
      events = n.events;
      alike = event_again n.before n.behind mid w x.step.process n.level n.alike n.event e
          x.step.happening n.made
          n.asks n.its n.shows asks applies;
      level = event_level n.before n.behind n.event x.step.happening n.asks n.level n.made;
      done_is = n.done_is;
      ask = n.ask;
      leads = n.leads;
    }

-- The law.

have_same : (s t : WorldState) (alike : AlikeTrees s t) (q : ProcessId) (o p : Option CoreState)
    → s.node_at q ≡ o
    → t.node_at q ≡ p → is_some p ≡ is_some o → HaveSame o p
have_same s t alike q None None at there is = tt
have_same s t alike q None (Some d) at there is = absurd (cc)
have_same s t alike q (Some c) None at there is = absurd (cc)
have_same s t alike q (Some c) (Some d) at there is =
    let both = logs_alike (alike.world.at q) c d (one_place s t alike q c d at there)
    (alike.here.follows.nodes q c at).stands (alike.there.follows.nodes q d there).stands in
    ap (λ (ls : List LogRecord). ls ++ d.log.kept.unforced) both.0
    ∙ ap (λ (ls : List LogRecord). c.log.kept.forced ++ ls) both.1

both_there : (s t : WorldState) (alike : AlikeTrees s t) (q : ProcessId)
    → is_some (t.node_at q) ≡ is_some (s.node_at q)
both_there s t alike q =
    alike.there.follows.listed q ∙ ap (λ (z : List TreeProcess). is_listed z q) alike.tree
    ∙ sym (alike.here.follows.listed q)

comes_to : (rest done : List JournalEntry) (end w : WorldState) → end.entries ≡ done ++ rest
    → Walk end done rest w
    → ComesTo rest end w
comes_to [] done end w all walk = λ q.
    let alike = same_alike walk.here end w walk.alike (at_the_end walk.events walk.ask walk.leads) in
    have_same end w alike q (end.node_at q) (w.node_at q) refl refl (both_there end w alike q)
  where
    at_the_end : (es : List Event) → AskForAll [] es → EventsLeadOn walk.here es end → SameTree walk.here end
    at_the_end [] ask leads = leads
    at_the_end (e ∷ es) ask leads = absurd ask
comes_to (x ∷ rest) done end w all walk = λ e why left asks stops.
    let n = next end done x rest w all walk in
    elim (excused_or why) [
      | inl excused ↦ excused
      | inr itself ↦ absurd (not_refused n.before n.behind w left x.step.process n.level n.alike n.event e
          x.step.happening why n.made itself n.asks n.its asks stops)
    ]

pub made_again : JournalsAreMadeAgain
made_again tree front rest start end again w events is_tree opens ask leads all opens_again before =
    comes_to rest front end w all
    (walked tree start end again w events front rest is_tree opens ask leads all opens_again before)
