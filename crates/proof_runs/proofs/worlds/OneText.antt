-- One input, one text: what one of two trees that show the same makes the other does not refuse, and both
-- refuse it by the same error.
use Rattle.std.proofs.Common.{◌≡◌, ◌≢◌, ◌∙◌, ◌<◌, ℕ, zero, suc, Bool, true, false, List, [], ◌∷◌, Option, Some, None, refl, sym, ap, subst, arith, take, if◌then◌else◌}
use Rattle.std.specs.Prelude.{slice_get}
use Rattle.protocol.specs.declared.names.ProcessId.{ProcessId}
use Rattle.protocol.specs.declared.messages.Envelope.{Envelope}
use Rattle.protocol.specs.declared.events.Event.{Event}
use Rattle.protocol.specs.declared.events.Event.TheVariants.{Deliver, Settle, Restart, Trim}
use Rattle.protocol_words.specs.Variants.{ActInput, ActOf, MessageInput, Restarting, Trimming}
use Rattle.protocol.specs.declared.events.Input.{Input}
use Rattle.protocol.specs.declared.events.StepError.{StepError}
use Rattle.protocol_words.specs.step_error
use Rattle.protocol.specs.declared.trees.TreeProcess.{TreeProcess}
use Rattle.protocol.specs.Nodes.{AtLeaf, AtRoot, Below, Effect, Role, is_listed, place_of}
use Rattle.protocol.specs.Plays.{process_of_act, sent_as}
use Rattle.protocol.specs.Trees.{IsTree, root_of}
use Rattle.protocol.specs.World.{InputStands, Makes, Move, Refuses, Stepped, World, journal_of, node_makes, world_makes, world_stepped}
use Rattle.process_state.specs.Turns.{no_answer}
use Rattle.resource_manager.specs.Data.{ManagerData}
use Rattle.tree_state.specs.Steps.{input_move, quiet_move, records_kept}
use Rattle.proof_runs.specs.worlds.Determined.{OneInputOneText, ShowTheSame}
use Rattle.proof_runs.specs.worlds.Refusals.{model_refusal, refusal_in}
use Rattle.tree_state.specs.Runs.{EventsLead, LeadsUntil}
use Rattle.proof_runs.specs.worlds.Follows.{Follows}
use Rattle.tree_state.specs.Worlds.{Applies, Delivers, NoneDelivered, NotDelivered, RefusesAt, RefusesMessage, SameTree, Settles, TreeSteps, Stops, WorldState, least_open, settles_by}
use Rattle.proof_runs.proofs.worlds.AlikeTrees.{AlikeAt, AlikeTrees, delivery_alike, event_alike, leads_alike, opened_alike}
use Rattle.proof_runs.proofs.worlds.Journals.{whole_follows, whole_shows}
use Rattle.proof_runs.proofs.worlds.Processes.{as_the_model, refused_so}
use Rattle.proof_runs.proofs.worlds.Restarts.{restart_follows, restart_refused, trim_follows}
use Rattle.proof_runs.proofs.worlds.Steps.{sent_stands, step_follows}
use Rattle.proof_runs.proofs.worlds.Whole.{ForItself, not_acted, not_delivered, not_restarted, not_trimmed}

-- The model makes a move or refuses it.

made_or_refused : (b : Bool) (w : World) (q : ProcessId) (x : Stepped) (p : Effect × World) (e : StepError)
    → (if b then world_stepped w q x else None) ≡ Some p
    → (if b then refusal_in x else Some step_error.NoSuch) ≡ Some e → ⊥
made_or_refused true w q (Refuses f) p e h k = absurd (cc)
made_or_refused true w q (Makes f n) p e h k = absurd (cc)
made_or_refused false w q x p e h k = absurd (cc)

not_both : (tree : List TreeProcess) (w : World) (m : Move) (p : Effect × World) (e : StepError)
    → world_makes tree w m ≡ Some p → model_refusal tree w m ≡ Some e → ⊥
unfolding world_makes
not_both tree w m p e h k = made_or_refused (is_listed tree m.step.process) w m.step.process
    (node_makes (place_of tree m.step.process) (w.at m.step.process) m) p e h k

some_error : (e f : StepError) → Some e ≡ Some f → e ≡ f
some_error e f h = cc

-- Two trees that show the same.

flipped_at : (r : Role) (d e : ManagerData) → AlikeAt r d e → AlikeAt r e d
flipped_at (AtLeaf p) d e h = record {
  keeps = record { writes = λ y. sym (h.keeps.writes y); holders = λ k. sym (h.keeps.holders k) };
  known = λ y. sym (h.known y);
}
flipped_at AtRoot d e h = tt
flipped_at (Below p) d e h = tt

flipped : (s t : WorldState) → AlikeTrees s t → AlikeTrees t s
flipped s t h = record {
  is_tree = subst IsTree (sym h.tree) h.is_tree;
  tree = sym h.tree;
  moves = h.moves;
  world = h.world;
  here = h.there;
  there = h.here;
  delivered = sym h.delivered;
  holdings = λ q. flipped_at (place_of t.tree q).role (s.data_at q) (t.data_at q)
      (subst (λ (z : List TreeProcess). AlikeAt (place_of z q).role (s.data_at q) (t.data_at q)) (sym h.tree)
      (h.holdings q));
  behind = λ q c d at at_there. sym (h.behind q d c at_there at);
}

shows_same : (s t : WorldState) → AlikeTrees s t → ShowTheSame s t
shows_same s t h = record {
  entries = sym h.there.shown ∙ h.here.shown;
  net = h.there.follows.net ∙ sym h.here.follows.net;
  delivered = h.delivered;
}

unchanged_show : (s t c d : WorldState) → AlikeTrees s t → SameTree s c → SameTree t d → ShowTheSame c d
unchanged_show s t c d h p q =
    let same = shows_same s t h in
    record {
      entries = q.entries ∙ same.entries ∙ sym p.entries;
      net = q.net ∙ same.net ∙ sym p.net;
      delivered = q.delivered ∙ same.delivered ∙ sym p.delivered;
    }

module _ (s t : WorldState) (alike : AlikeTrees s t) where
  abbrev w : World
  w = alike.world

  follows_here : Follows alike.moves alike.world s
  follows_here = whole_follows alike.moves alike.world s alike.here

  follows_there : Follows alike.moves alike.world t
  follows_there = whole_follows alike.moves alike.world t alike.there

  one_net : t.net ≡ s.net
  one_net = alike.there.follows.net ∙ sym alike.here.follows.net

  in_tree : (m : Move) (o : Option StepError) → model_refusal t.tree w m ≡ o → model_refusal s.tree w m ≡ o
  in_tree m o = subst (λ (z : List TreeProcess). model_refusal z alike.world m ≡ o) alike.tree

  -- an input

  input_made : (s' : WorldState) (q : ProcessId) (i : Input) (marked : List Bool) (e : StepError)
      → InputStands w.net q i → TreeSteps s s' q i marked → RefusesAt (t.node_at q) i e → ⊥
  input_made s' q i marked e stands h why =
      let step = step_follows journal_of whole_shows as_the_model alike.moves alike.world s s' q i marked
      alike.is_tree alike.here stands h in
      not_both s.tree alike.world (input_move q i None h.handles.answer)
      (step.moved.effect, step.moved.world) e
      step.moved.makes
      (in_tree (input_move q i None h.handles.answer) (Some e)
      (refused_so alike.moves alike.world t q i e follows_there why h.handles.answer))

  input_refused : (q : ProcessId) (i : Input) (e f : StepError) → RefusesAt (s.node_at q) i e
      → RefusesAt (t.node_at q) i f → f ≡ e
  input_refused q i e f h k =
      some_error f e
      (sym (in_tree (input_move q i None no_answer) (Some f)
      (refused_so alike.moves alike.world t q i f follows_there k no_answer))
      ∙ refused_so alike.moves alike.world s q i e follows_here h no_answer)

  -- a delivery

  delivery_made : (s' t' : WorldState) (k : ℕ) (e : StepError) → ForItself e → Delivers s s' k
      → NotDelivered t t' k e → ⊥
  delivery_made s' t' k e itself h refused =
      let why = not_delivered t t' k e itself refused in
      input_made s' h.envelope.to (MessageInput k h.envelope.message) _ e
      (sent_stands alike.world.net k h.envelope
      (ap (λ (ls : List Envelope). sent_as ls k) (sym alike.here.follows.net) ∙ h.sent)) h.steps
      (subst (λ (o : Option Envelope). RefusesMessage t k o e)
      (ap (λ (ls : List Envelope). sent_as ls k) one_net ∙ h.sent) why.1)

  messages_refused : (k : ℕ) (o : Option Envelope) (e f : StepError) → RefusesMessage s k o e
      → RefusesMessage t k o f → f ≡ e
  messages_refused k None e f h g = g ∙ sym h
  messages_refused k (Some l) e f h g = input_refused l.to (MessageInput k l.message) e f h g

  delivery_refused : (c d : WorldState) (k : ℕ) (e f : StepError) → ForItself e → ForItself f
      → NotDelivered s c k e → NotDelivered t d k f → (f ≡ e) × ShowTheSame c d
  delivery_refused c d k e f one two h g =
      let why = not_delivered s c k e one h in
      let why_there = not_delivered t d k f two g in (
        messages_refused k (sent_as s.net k) e f why.1
            (subst (λ (ls : List Envelope). RefusesMessage t k (sent_as ls k) f) one_net why_there.1),
        unchanged_show s t c d alike why.0 why_there.0,
      )

-- A settle.

none_made : (s t s' t' : WorldState) (o : Option ℕ) (e : StepError) → AlikeTrees s t → ForItself e
    → (again : WorldState → Type 0) → settles_by s s' again o → NoneDelivered t t' e o → ⊥
none_made s t s' t' None e alike itself again h k = absurd (itself.memory k.0)
none_made s t s' t' (Some n) e alike itself again h k = delivery_made s t alike h.0 t' n e itself h.1 k

none_refused : (s t c d : WorldState) (o : Option ℕ) (e f : StepError) → AlikeTrees s t → ForItself e
    → ForItself f → NoneDelivered s c e o → NoneDelivered t d f o → (f ≡ e) × ShowTheSame c d
none_refused s t c d None e f alike one two h k = absurd (one.memory h.0)
none_refused s t c d (Some n) e f alike one two h k = delivery_refused s t alike c d n e f one two h k

open_alike : (s t : WorldState) → AlikeTrees s t → least_open 1 t.delivered ≡ least_open 1 s.delivered
open_alike s t alike = ap (least_open 1) alike.delivered

-- N deliveries were made, and the next was not
abbrev StopsIn : ℕ → WorldState → WorldState → StepError → Type 0
StopsIn n t t' e = (before : WorldState) × Settles n t before
    × NoneDelivered before t' e (least_open 1 before.delivered)

-- no more deliveries are made if there is no open message
nothing_open : (n : ℕ) (t before t' : WorldState) (e : StepError) → ForItself e
    → least_open 1 t.delivered ≡ None
    → before ≡ t → NoneDelivered before t' e (least_open 1 before.delivered) → ⊥
nothing_open n t before t' e itself none is h =
    let at = subst (λ (o : Option ℕ). NoneDelivered before t' e o)
    (ap (λ (x : WorldState). least_open 1 x.delivered) is ∙ none) h in
    itself.memory at.0

stops_first : (t t' : WorldState) (e : StepError) → StopsIn zero t t' e
    → NoneDelivered t t' e (least_open 1 t.delivered)
stops_first t t' e h = subst (λ (x : WorldState). NoneDelivered x t' e (least_open 1 x.delivered)) h.1 h.2

stops_later : (n : ℕ) (t t' : WorldState) (e : StepError) (o : Option ℕ) → ForItself e
    → least_open 1 t.delivered ≡ o → (before : WorldState)
    → settles_by t before (λ mid. Settles n mid before) o
    → NoneDelivered before t' e (least_open 1 before.delivered)
    → (k : ℕ) × (o ≡ Some k) × (mid : WorldState) × Delivers t mid k × StopsIn n mid t' e
stops_later n t t' e None itself least before h k = absurd (nothing_open n t before t' e itself least h k)
stops_later n t t' e (Some i) itself least before h k = (i, refl, h.0, h.1, (before, h.2, k))

settle_made : (n limit : ℕ) (s t s' t' : WorldState) (e : StepError) → n < limit → AlikeTrees s t
    → ForItself e
    → Settles limit s s' → StopsIn n t t' e → ⊥
settle_made n zero s t s' t' e within alike itself h k = absurd (omega arith)
settle_made zero (suc l) s t s' t' e within alike itself h k =
    none_made s t s' t' (least_open 1 s.delivered) e alike itself (λ mid. Settles l mid s') h
    (subst (λ (o : Option ℕ). NoneDelivered t t' e o) (open_alike s t alike) (stops_first t t' e k))
settle_made (suc n) (suc l) s t s' t' e within alike itself h k =
    let later = stops_later n t t' e (least_open 1 t.delivered) itself refl k.0 k.1 k.2 in
    let made = subst (λ (o : Option ℕ). settles_by s s' (λ mid. Settles l mid s') o)
    (sym (open_alike s t alike) ∙ later.1) h in
    settle_made n l made.0 later.2 s' t' e (omega arith)
    (delivery_alike s made.0 t later.2 later.0 alike made.1 later.3) itself made.2 later.4

settle_refused : (n m : ℕ) (s t c d : WorldState) (e f : StepError) → AlikeTrees s t → ForItself e
    → ForItself f
    → StopsIn n s c e → StopsIn m t d f → (f ≡ e) × ShowTheSame c d
settle_refused zero zero s t c d e f alike one two h k =
    none_refused s t c d (least_open 1 s.delivered) e f alike one two (stops_first s c e h)
    (subst (λ (o : Option ℕ). NoneDelivered t d f o) (open_alike s t alike) (stops_first t d f k))
settle_refused zero (suc m) s t c d e f alike one two h k =
    let later = stops_later m t d f (least_open 1 t.delivered) two refl k.0 k.1 k.2 in
    absurd (delivery_made t s (flipped s t alike) later.2 c later.0 e one later.3
    (subst (λ (o : Option ℕ). NoneDelivered s c e o) (sym (open_alike s t alike) ∙ later.1)
    (stops_first s c e h)))
settle_refused (suc n) zero s t c d e f alike one two h k =
    let later = stops_later n s c e (least_open 1 s.delivered) one refl h.0 h.1 h.2 in
    absurd (delivery_made s t alike later.2 d later.0 f two later.3
    (subst (λ (o : Option ℕ). NoneDelivered t d f o) (open_alike s t alike ∙ later.1) (stops_first t d f k)))
settle_refused (suc n) (suc m) s t c d e f alike one two h k =
    let here = stops_later n s c e (least_open 1 s.delivered) one refl h.0 h.1 h.2 in
    let there = stops_later m t d f (least_open 1 t.delivered) two refl k.0 k.1 k.2 in
    let number : there.0 ≡ here.0 = some_number there.0 here.0 (sym there.1 ∙ open_alike s t alike ∙ here.1)
    in
    settle_refused n m here.2 there.2 c d e f
    (delivery_alike s here.2 t there.2 here.0 alike here.3
    (subst (λ (i : ℕ). Delivers t there.2 i) number there.3)) one two here.4 there.4
  where
    some_number : (a b : ℕ) → Some a ≡ Some b → a ≡ b
    some_number a b h = cc

-- An event.

event_made : (s t s' t' : WorldState) (x : Event) (e : StepError) → AlikeTrees s t → ForItself e
    → Applies s x s'
    → Stops t x e t' → ⊥
event_made s t s' t' (ActOf a) e alike itself h k =
    let q = process_of_act (root_of s.tree) a in
    let why = not_acted t t' (process_of_act (root_of t.tree) a) a e itself k in
    input_made s t alike s' q (ActInput a) s.delivered e tt h
    (subst (λ (z : List TreeProcess). RefusesAt (t.node_at (process_of_act (root_of z) a)) (ActInput a) e)
    alike.tree
    why.1)
event_made s t s' t' (Deliver n) e alike itself h k = delivery_made s t alike s' t' n e itself h k
event_made s t s' t' Settle e alike itself h k =
    settle_made k.count 10000 s t s' t' e k.within alike itself h (k.before, k.settles, k.stops)
event_made s t s' t' (Restart q bytes) e alike itself h k =
    let why = not_restarted t t' q bytes e itself k in
    let step = restart_follows journal_of whole_shows alike.moves alike.world s s' alike.here q alike.is_tree
    bytes h in
    let kept = records_kept h.before h.keep in
    not_both s.tree alike.world (quiet_move q (Restarting kept) None) (step.moved.effect, step.moved.world)
    step_error.NoSuch step.moved.makes
    (in_tree s t alike (quiet_move q (Restarting kept) None) (Some step_error.NoSuch)
    (restart_refused alike.moves alike.world t (follows_there s t alike) q why.1 kept))
event_made s t s' t' (Trim q) e alike itself h k =
    let why = not_trimmed alike.moves alike.world t t' q e (follows_there s t alike) itself k in
    let step = trim_follows journal_of whole_shows alike.moves alike.world s s' alike.here q alike.is_tree h
    in
    not_both s.tree alike.world (quiet_move q Trimming None) (step.moved.effect, step.moved.world) e
    step.moved.makes (in_tree s t alike (quiet_move q Trimming None) (Some e) why.1)

event_refused : (s t c d : WorldState) (x : Event) (e f : StepError) → AlikeTrees s t → ForItself e
    → ForItself f
    → Stops s x e c → Stops t x f d → (f ≡ e) × ShowTheSame c d
event_refused s t c d (ActOf a) e f alike one two h k =
    let why = not_acted s c (process_of_act (root_of s.tree) a) a e one h in
    let why_there = not_acted t d (process_of_act (root_of t.tree) a) a f two k in (
      input_refused s t alike (process_of_act (root_of s.tree) a) (ActInput a) e f why.1
          (subst (λ (z : List TreeProcess). RefusesAt
          (t.node_at (process_of_act (root_of z) a)) (ActInput a) f)
          alike.tree why_there.1),
      unchanged_show s t c d alike why.0 why_there.0,
    )
event_refused s t c d (Deliver n) e f alike one two h k = delivery_refused s t alike c d n e f one two h k
event_refused s t c d Settle e f alike one two h k =
    settle_refused h.count k.count s t c d e f alike one two (h.before, h.settles, h.stops)
    (k.before, k.settles, k.stops)
event_refused s t c d (Restart q bytes) e f alike one two h k =
    let why = not_restarted s c q bytes e one h in
    let why_there = not_restarted t d q bytes f two k in
    (why_there.2 ∙ sym why.2, unchanged_show s t c d alike why.0 why_there.0)
event_refused s t c d (Trim q) e f alike one two h k =
    let why = not_trimmed alike.moves alike.world s c q e (follows_here s t alike) one h in
    let why_there = not_trimmed alike.moves alike.world t d q f (follows_there s t alike) two k in (
      some_error f e (sym (in_tree s t alike (quiet_move q Trimming None) (Some f) why_there.1) ∙ why.1),
      unchanged_show s t c d alike why.0 why_there.0,
    )

-- Lists of events.

-- N events were made, one after another, and the next was not
abbrev Until : WorldState → List Event → ℕ → StepError → WorldState → Type 0
Until s [] n e t = ⊥
Until s (x ∷ xs) zero e t = Stops s x e t
Until s (x ∷ xs) (suc n) e t = (mid : WorldState) × Applies s x mid × Until mid xs n e t

some_event : (a b : Event) → Some a ≡ Some b → a ≡ b
some_event a b h = cc

until_by : (s t before : WorldState) (events : List Event) (n : ℕ) (e : StepError) (event : Event)
    → slice_get events n ≡ Some event → EventsLead s (take n events) before → Stops before event e t
    → Until s events n e t
until_by s t before [] n e event next leads stops = absurd (cc)
until_by s t before (x ∷ xs) zero e event next leads stops =
    subst (λ (z : WorldState). Stops z x e t) leads
    (subst (λ (y : Event). Stops before y e t) (sym (some_event x event next)) stops)
until_by s t before (x ∷ xs) (suc n) e event next leads stops =
    (leads.0, leads.1, until_by leads.0 t before xs n e event next leads.2 stops)

until : (s t : WorldState) (events : List Event) (n : ℕ) (e : StepError) → LeadsUntil s events n e t
    → Until s events n e t
until s t events n e h = until_by s t h.before events n e h.event h.next h.leads h.stops

all_made : (s t c d : WorldState) (events : List Event) (n : ℕ) (e : StepError) → AlikeTrees s t → ForItself e
    → EventsLead s events c → Until t events n e d → ⊥
all_made s t c d [] n e alike itself h k = k
all_made s t c d (x ∷ xs) zero e alike itself h k = event_made s t h.0 d x e alike itself h.1 k
all_made s t c d (x ∷ xs) (suc n) e alike itself h k =
    all_made h.0 k.0 c d xs n e (event_alike s h.0 t k.0 x alike h.1 k.1) itself h.2 k.2

both_refuse : (s t c d : WorldState) (events : List Event) (n m : ℕ) (e f : StepError) → AlikeTrees s t
    → ForItself e → ForItself f → Until s events n e c → Until t events m f d
    → (m ≡ n) × (f ≡ e) × ShowTheSame c d
both_refuse s t c d [] n m e f alike one two h k = absurd h
both_refuse s t c d (x ∷ xs) zero zero e f alike one two h k =
    let same = event_refused s t c d x e f alike one two h k in (refl, same.0, same.1)
both_refuse s t c d (x ∷ xs) zero (suc m) e f alike one two h k =
    absurd (event_made t s k.0 c x e (flipped s t alike) one k.1 h)
both_refuse s t c d (x ∷ xs) (suc n) zero e f alike one two h k =
    absurd (event_made s t h.0 d x f alike two h.1 k)
both_refuse s t c d (x ∷ xs) (suc n) (suc m) e f alike one two h k =
    let rest = both_refuse h.0 k.0 c d xs n m e f (event_alike s h.0 t k.0 x alike h.1 k.1) one two h.2 k.2 in
    (ap suc rest.0, rest.1, rest.2)

so : (e : StepError) → (e ≢ step_error.Memory) × (e ≢ step_error.Device) × (e ≢ step_error.Exhausted)
    → ForItself e
so e h = record { memory = h.0; device = h.1; numbers = h.2 }

pub one_text : OneInputOneText
one_text tree s t c d events None None is_tree a b h k one two =
    (refl, shows_same c d (leads_alike s c t d events (opened_alike tree s t is_tree a b) h k))
one_text tree s t c d events None (Some m) is_tree a b h k one two =
    absurd (all_made s t c d events m.0 m.1 (opened_alike tree s t is_tree a b) (so m.1 two) h
    (until t d events m.0 m.1 k))
one_text tree s t c d events (Some n) None is_tree a b h k one two =
    absurd (all_made t s d c events n.0 n.1 (opened_alike tree t s is_tree b a) (so n.1 one) k
    (until s c events n.0 n.1 h))
one_text tree s t c d events (Some n) (Some m) is_tree a b h k one two =
    let same = both_refuse s t c d events n.0 m.0 n.1 m.1 (opened_alike tree s t is_tree a b) (so n.1 one)
    (so m.1 two) (until s c events n.0 n.1 h) (until t d events m.0 m.1 k) in (
      ap (λ (i : ℕ). Some (i, m.1)) same.0 ∙ ap (λ (x : StepError). Some (n.0, x)) same.1,
      same.2,
    )
