-- A step of a tree that runs is a step of the model's world, where each process steps as the model's does.
use Rattle.std.proofs.Common.{◌≡◌, ◌∙◌, ap, sym, subst, refl, ◌-◌, ℕ, zero, suc, Bool, true, false, inl, inr, Option, Some, None, is_some, List, [], ◌∷◌, ◌++◌, arith}
use Rattle.std.specs.Prelude.{slice_get}
use Rattle.protocol.specs.declared.names.ProcessId.{ProcessId}
use Rattle.protocol.specs.declared.messages.Envelope.{Envelope}
use Rattle.protocol.specs.declared.events.Input.{Input}
use Rattle.protocol.specs.declared.events.JournalEntry.{JournalEntry}
use Rattle.protocol.specs.declared.events.Fault.{Fault}
use Rattle.protocol.specs.declared.events.Happening.{Happening}
use Rattle.protocol_words.specs.Variants.{Handles}
use Rattle.protocol.specs.declared.events.Reaction.{Reaction}
use Rattle.protocol.specs.declared.trees.TreeProcess.{TreeProcess}
use Rattle.protocol.specs.Names.{same_process}
use Rattle.protocol.specs.NameLaws.{same_process_tells}
use Rattle.protocol.specs.Nodes.{DataAnswer, Effect, Node, is_listed, place_of, reaction_of}
use Rattle.protocol.specs.Plays.{sent_as}
use Rattle.protocol.specs.Trees.{IsTree}
use Rattle.protocol.specs.World.{Continues, InputStands, IsRun, IsSent, Made, Move, World, goes_on, journal_of, makes, node_makes, put_at, stays, world_makes, world_stepped}
use Rattle.protocol.specs.World.{MayHappen}
use Rattle.protocol.specs.World.{Makes}
use Rattle.process_state.specs.States.{CoreState}
use Rattle.process_state.specs.Makes.{ProcessMakes}
use Rattle.tree_state.specs.StandsFor.{StandsFor}
use Rattle.tree_state.specs.Worlds.{Enters, MovesNode, TreeSteps, WorldState, step_entry}
use Rattle.proof_runs.specs.worlds.Follows.{Follows, FollowsBy, GoesOnBy, StandsAt}
use Rattle.process_state.specs.Turns.{this_version}
use Rattle.tree_state.specs.Steps.{input_move}

-- the model's process makes the input too and shows the same, and what is kept stands for what that leaves
pub record MadeSo (tree : List TreeProcess) (w : World) (q : ProcessId) (a : DataAnswer) (i : Input)
    (new : CoreState) (reaction : Reaction) : Type 0 where
  pub effect : Effect
  pub node : Node
  pub makes : node_makes (place_of tree q) (w.at q) (input_move q i None a) ≡ Makes effect node
  pub shown : reaction ≡ reaction_of effect
  pub place : new.place ≡ place_of tree q
  pub stands : StandsFor node new

-- in every run each process makes of an input what the model's process makes of it
abbrev pub InputsAsTheModel : List TreeProcess → Type 0
InputsAsTheModel tree = (es : List Made) (w : World) (q : ProcessId) (old new : CoreState) (a : DataAnswer)
    (i : Input) (reaction : Reaction)
    → IsRun tree es w → is_listed tree q ≡ true → InputStands w.net q i
    → old.place ≡ place_of tree q → StandsFor (w.at q) old
    → ProcessMakes old new a i reaction → MadeSo tree w q a i new reaction

-- The world after a move.

-- a move in which a device fails so, or none does
abbrev pub move_with : ProcessId → Happening → Option Fault → DataAnswer → Move
move_with q h fault a =
    record {
      step = record { process = q; happening = h; fault = fault };
      data_answer = a;
      version = this_version;
    }

abbrev pub made_with : ProcessId → Happening → Option Fault → DataAnswer → Effect → Made
made_with q h fault a e = record { move = move_with q h fault a; effect = e }

abbrev pub world_after : World → ProcessId → Node → Effect → World
world_after w q n e = record { at = put_at q n w.at; net = w.net ++ e.messages }

pub made_at : (tree : List TreeProcess) (w : World) (m : Move) (e : Effect) (n : Node)
    → is_listed tree m.step.process ≡ true
    → node_makes (place_of tree m.step.process) (w.at m.step.process) m ≡ Makes e n
    → world_makes tree w m ≡ Some (e, world_after w m.step.process n e)
unfolding world_makes
made_at tree w m e n listed done = rw listed (ap (λ s. world_stepped w m.step.process s) done)

same_self : (q : ProcessId) → same_process q q ≡ true
same_self q = elim (same_process_tells q q) [ inl t ↦ t.0 | inr z ↦ absurd (z.1 refl) ]

put_here : (q : ProcessId) (n : Node) (at : ProcessId → Node) → put_at q n at q ≡ n
put_here q n at = rw (same_self q) refl

put_there : (q p : ProcessId) (n : Node) (at : ProcessId → Node)
    → same_process q p ≡ false → put_at q n at p ≡ at p
put_there q p n at h = rw h refl

-- A journal of a run's moves.

-- a move in which no device fails is shown after those before it
abbrev pub ShowsMoves : (List Made → List JournalEntry) → Type 0
ShowsMoves journal = (es : List Made) (q : ProcessId) (h : Happening) (a : DataAnswer) (e : Effect)
    → journal (made_with q h None a e ∷ es) ≡ journal es ++ step_entry q h (reaction_of e) ∷ []

-- one in which a device fails is not shown
abbrev pub HidesFaults : (List Made → List JournalEntry) → Type 0
HidesFaults journal = (es : List Made) (q : ProcessId) (h : Happening) (f : Fault)
    (a : DataAnswer) (e : Effect)
    → journal (made_with q h (Some f) a e ∷ es) ≡ journal es

-- The net grows by the step.

sent_by : (w : World) (s s' : WorldState) (e : Effect) (reaction : Reaction)
    → s.net ≡ w.net → reaction ≡ reaction_of e
    → s'.net ≡ s.net ++ reaction.messages → s'.net ≡ w.net ++ e.messages
sent_by w s s' e reaction before shown grown =
    grown ∙ (ap (λ xs. xs ++ reaction.messages) before ∙ ap (λ (y : Reaction). w.net ++ y.messages) shown)

some_one : (a b : CoreState) → Some a ≡ Some b → a ≡ b
some_one a b h = cc

module _ (es : List Made) (w : World) (s s' : WorldState) (q : ProcessId) (n : Node) (e : Effect)
    (tree : s'.tree ≡ s.tree) where
  -- a process that did not move stands as before
  stays_at : (p : ProcessId) (c : CoreState) → same_process q p ≡ false → StandsAt w s p c
      → StandsAt (world_after w q n e) s' p c
  stays_at p c away h = record {
    place = h.place ∙ ap (λ t. place_of t p) (sym tree);
    stands = subst (λ m. StandsFor m c) (sym (put_there q p n w.at away)) h.stands;
  }

  -- and the one that moved as it was left
  moved_at : (p : ProcessId) (b c : CoreState) → q ≡ p → b.place ≡ place_of s.tree q → StandsFor n b → b ≡ c
      → StandsAt (world_after w q n e) s' p c
  moved_at p b c here place stands is =
      subst (λ r. StandsAt (world_after w q n e) s' r c) here
      (subst (λ k. StandsAt (world_after w q n e) s' q k) is
      (record {
        place = place ∙ ap (λ t. place_of t q) (sym tree);
        stands = subst (λ m. StandsFor m b) (sym (put_here q n w.at)) stands;
      }))

  -- so each process of the new state stands for the model's
  nodes_after : (before behind : CoreState) → s'.node_at q ≡ Some behind
      → ((p : ProcessId) → same_process q p ≡ false → s'.node_at p ≡ s.node_at p)
      → ((p : ProcessId) (c : CoreState) → s.node_at p ≡ Some c → StandsAt w s p c)
      → behind.place ≡ place_of s.tree q → StandsFor n behind
      → (p : ProcessId) (c : CoreState) → s'.node_at p ≡ Some c → StandsAt (world_after w q n e) s' p c
  nodes_after before behind left others nodes place stands p c there = elim (same_process_tells q p) [
    | inl t ↦ moved_at p behind c t.1 place stands
        (some_one behind c (sym left ∙ (ap s'.node_at t.1 ∙ there)))
    | inr z ↦ stays_at p c z.0 (nodes p c (sym (others p z.0) ∙ there))
  ]

-- the processes are still those of the tree
listed_after : (s s' : WorldState) (q : ProcessId) (before behind : CoreState) → s'.tree ≡ s.tree
    → s.node_at q ≡ Some before → s'.node_at q ≡ Some behind
    → ((p : ProcessId) → same_process q p ≡ false → s'.node_at p ≡ s.node_at p)
    → ((p : ProcessId) → is_some (s.node_at p) ≡ is_listed s.tree p)
    → (p : ProcessId) → is_some (s'.node_at p) ≡ is_listed s'.tree p
listed_after s s' q before behind tree stood left others listed p = elim (same_process_tells q p) [
  | inl t ↦ ap (λ r. is_some (s'.node_at r)) (sym t.1) ∙ (ap is_some left ∙ (ap is_some (sym stood)
      ∙ (listed q ∙ (ap (λ r. is_listed s.tree r) t.1 ∙ ap (λ z. is_listed z p) (sym tree)))))
  | inr z ↦ ap is_some (others p z.0) ∙ (listed p ∙ ap (λ t. is_listed t p) (sym tree))
]

-- a process of a tree that stands for a run is one that the tree lists
pub listed_at : (es : List Made) (w : World) (s : WorldState) (q : ProcessId) (c : CoreState) → Follows es w s
    → s.node_at q ≡ Some c → is_listed s.tree q ≡ true
listed_at es w s q c f stood = sym (f.listed q) ∙ ap is_some stood

-- the state with every step of these moves in its journal
abbrev pub in_full : WorldState → List Made → WorldState
in_full s es = record s { entries = journal_of es }

-- After a move of the model's world the run goes on by it, and the state came to one that stands for that.
pub record MovesBy (journal : List Made → List JournalEntry) (es : List Made) (w : World) (s s' : WorldState)
    (m : Move) : Type 0 where
  pub effect : Effect
  pub world : World
  pub happens : MayHappen w.net m.step.process m.step.happening
  pub by_this : m.version ≡ this_version
  pub tree : s'.tree ≡ s.tree
  pub makes : world_makes s.tree w m ≡ Some (effect, world)
  pub follows : FollowsBy journal (record { move = m; effect = effect } ∷ es) world s'

-- and what it shows was shown
pub record EntersBy (journal : List Made → List JournalEntry) (es : List Made) (w : World) (s s' : WorldState)
    (m : Move) (reaction : Reaction) : Type 0 where
  pub moved : MovesBy journal es w s s' m
  pub shown : reaction ≡ reaction_of moved.effect

pub moved_goes_on : (journal : List Made → List JournalEntry) (es : List Made) (w : World)
    (s s' : WorldState) (m : Move)
    → MovesBy journal es w s s' m → GoesOnBy journal es w s'
moved_goes_on journal es w s s' m h =
    record {
      later = record { move = m; effect = h.effect } ∷ [];
      world = h.world;
      leads = subst (λ t. Continues t w (record { move = m; effect = h.effect } ∷ []) h.world) (sym h.tree)
          (goes_on [] w m h.effect h.world stays h.happens h.makes);
      follows = h.follows;
    }

module _ (journal : List Made → List JournalEntry) (es : List Made) (w : World) (s s' : WorldState)
    (f : FollowsBy journal es w s)
    (q : ProcessId) (h : Happening) (a : DataAnswer) (before behind : CoreState)
    (happens : MayHappen w.net q h)
    (moves : MovesNode s s' q before behind) where
  -- a move of the model's world after which the process stands as it was left: the run goes on by it
  pub move_follows : (fault : Option Fault) (e : Effect) (n : Node)
      → world_makes s.tree w (move_with q h fault a) ≡ Some (e, world_after w q n e)
      → s'.net ≡ w.net ++ e.messages → journal (made_with q h fault a e ∷ es) ≡ s'.entries
      → behind.place ≡ place_of s.tree q → StandsFor n behind
      → MovesBy journal es w s s' (move_with q h fault a)
  move_follows fault e n step net shown place stands =
      let m = made_with q h fault a e in
      let w' = world_after w q n e in
      let old = in_full s es in
      let new = in_full s' (m ∷ es) in
      record {
        effect = e;
        world = w';
        happens = happens;
        by_this = refl;
        tree = moves.tree;
        makes = step;
        follows = record {
          follows = record {
            is_run = subst (λ t. IsRun t (m ∷ es) w') (sym moves.tree)
                (makes es w m.move e w' f.follows.is_run happens step);
            by_this = (refl, f.follows.by_this);
            shown = refl;
            net = net;
            nodes = nodes_after es w old new q n e moves.tree before behind moves.stands moves.others
                f.follows.nodes place stands;
            listed = listed_after old new q before behind moves.tree moves.stood moves.stands
                moves.others f.follows.listed;
          };
          shown = shown;
        };
      }

  pub move_goes_on : (fault : Option Fault) (e : Effect) (n : Node)
      → world_makes s.tree w (move_with q h fault a) ≡ Some (e, world_after w q n e)
      → s'.net ≡ w.net ++ e.messages → journal (made_with q h fault a e ∷ es) ≡ s'.entries
      → behind.place ≡ place_of s.tree q → StandsFor n behind → GoesOnBy journal es w s'
  move_goes_on fault e n step net shown place stands =
      moved_goes_on journal es w s s' (move_with q h fault a)
      (move_follows fault e n step net shown place stands)

  -- one in which no device failed, and which is entered
  pub entered_follows : ShowsMoves journal → (reaction : Reaction) (marked : List Bool)
      → Enters s s' q h reaction marked
      → (e : Effect) (n : Node) → world_makes s.tree w (move_with q h None a) ≡ Some (e, world_after w q n e)
      → reaction ≡ reaction_of e → behind.place ≡ place_of s.tree q
      → StandsFor n behind → EntersBy journal es w s s' (move_with q h None a) reaction
  unfolding move_follows
  entered_follows shows reaction marked enters e n step shown place stands = record {
    moved = move_follows None e n step (sent_by w s s' e reaction f.follows.net shown enters.net)
        (shows es q h a e ∙ (ap (λ xs. xs ++ step_entry q h (reaction_of e) ∷ []) f.shown
        ∙ (ap (λ y. s.entries ++ step_entry q h y ∷ []) (sym shown) ∙ sym enters.entries))) place stands;
    shown = shown;
  }

module _ (journal : List Made → List JournalEntry) (shows : ShowsMoves journal)
    (law : (tree : List TreeProcess) → IsTree tree → InputsAsTheModel tree) (es : List Made)
    (w : World) (s s' : WorldState)
    (q : ProcessId) (i : Input) (marked : List Bool) (is_tree : IsTree s.tree)
    (f : FollowsBy journal es w s) (stands : InputStands w.net q i)
    (h : TreeSteps s s' q i marked) where
  pub step_follows : EntersBy journal es w s s' (input_move q i None h.handles.answer) h.reaction
  step_follows =
      let here = f.follows.nodes q h.before h.moves.stood in
      let listed = listed_at es w (in_full s es) q h.before f.follows h.moves.stood in
      let made : MadeSo s.tree w q h.handles.answer i h.behind h.reaction =
      law s.tree is_tree es w q h.before h.behind h.handles.answer i h.reaction f.follows.is_run listed stands
      here.place here.stands h.handles.makes in
      entered_follows journal es w s s' f q (Handles i) h.handles.answer h.before h.behind stands h.moves
      shows h.reaction marked h.enters made.effect made.node
      (made_at s.tree w (input_move q i None h.handles.answer) made.effect made.node listed made.makes)
      made.shown made.place made.stands

  pub step_goes_on : GoesOnBy journal es w s'
  step_goes_on = moved_goes_on journal es w s s' (input_move q i None h.handles.answer) step_follows.moved

-- a message with a number is in the net
pub sent_stands : (net : List Envelope) (k : ℕ) (envelope : Envelope) → sent_as net k ≡ Some envelope
    → IsSent net envelope.to k envelope.message
sent_stands net zero envelope h = absurd (cc)
sent_stands net (suc j) envelope h =
    let e : suc j - 1 ≡ j = omega arith in
    record { sender = envelope.from; place = suc j - 1; stands = ap (λ i. slice_get net i) e ∙ h }
