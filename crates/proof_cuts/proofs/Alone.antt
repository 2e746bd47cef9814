-- What each process made by itself, made on one thread.
use Rattle.std.proofs.Common.{◌≡◌, ◌∙◌, ◌+◌, ◌-◌, arith, ap, sym, subst, refl, ℕ, zero, suc, inl, inr, Bool, true, false, if◌then◌else◌, Option, None, Some, is_some, List, [], ◌∷◌, ◌++◌}
use Rattle.std.specs.Prelude.{slice_get}
use Rattle.protocol.specs.declared.names.ProcessId.{ProcessId}
use Rattle.protocol.specs.declared.messages.Envelope.{Envelope}
use Rattle.protocol.specs.declared.messages.Message.{Message}
use Rattle.protocol.specs.declared.events.JournalEntry.{JournalEntry}
use Rattle.protocol.specs.declared.events.Event.{Event}
use Rattle.protocol_words.specs.event
use Rattle.protocol.specs.declared.events.Happening.{Happening}
use Rattle.protocol.specs.declared.events.Happening.TheVariants.{Restart, Trim}
use Rattle.protocol_words.specs.Variants.{ActInput, Handles, MessageInput}
use Rattle.protocol.specs.declared.events.Input.{Input}
use Rattle.protocol.specs.declared.events.Reaction.{Reaction}
use Rattle.protocol.specs.declared.trees.TreeProcess.{TreeProcess}
use Rattle.protocol.specs.Names.{same_process}
use Rattle.protocol.specs.NameLaws.{same_process_tells}
use Rattle.protocol.specs.Nodes.{is_listed}
use Rattle.protocol.specs.Plays.{process_of_act, sent_as}
use Rattle.protocol.specs.SameViews.{SameView}
use Rattle.protocol.specs.Standings.{CoordinatorView}
use Rattle.protocol.specs.Trees.{root_of}
use Rattle.protocol.specs.World.{IsNumberedMessage, entries_of}
use Rattle.log_records.specs.Sights.{left_by}
use Rattle.process_state.specs.States.{CoreState, SameCore}
use Rattle.resource_manager.specs.Data.{ManagerData, DataRests, no_data}
use Rattle.tree_state.specs.Steps.{restart_of, trim_reaction}
use Rattle.tree_state.specs.Runs.{IsOpenedTree, NodeOpened}
use Rattle.tree_state.specs.Worlds.{Applies, Enters, HandlesInput, MovesNode, RestartsData, SameTree, SameNode, TreeSteps, TrimsData, WorldState, marks, step_entry, undelivered}
use Rattle.tree_state.specs.Cuts.{FindsMessage, IsGivenEntry, net_of, none_given, one_more}
use Rattle.proof_cuts.specs.Alone.{AloneIsTogether, AskForAll, AsksFor, IsMine, EventsLeadOn, MadeTogether, MakesAlone, RestartsAlone, RunsAlone, StepAlone, TrimsAlone, opens_alone, stays_alone, steps_alone}
use Rattle.proof_cuts.proofs.Cuts.{at_one, here_one, net_more, nil_snoc, none_more, own_more, self, snoc_same, there_one}

-- Where nothing is otherwise.

same_view : (v : CoordinatorView) → SameView v v
same_view v = record {
  standing = refl;
  accepted = refl;
  voted = λ o t. refl;
  worked = λ t. refl;
  promised = refl;
  named = λ t. refl;
  owed = λ t. refl;
  found = refl;
}

views_on : (u v w : CoordinatorView) → SameView u v → SameView v w → SameView u w
views_on u v w a b = record {
  standing = a.standing ∙ b.standing;
  accepted = a.accepted ∙ b.accepted;
  voted = λ o t. a.voted o t ∙ b.voted o t;
  worked = λ t. a.worked t ∙ b.worked t;
  promised = a.promised ∙ b.promised;
  named = λ t. a.named t ∙ b.named t;
  owed = λ t. a.owed t ∙ b.owed t;
  found = a.found ∙ b.found;
}

pub same_core : (s : CoreState) → SameCore s s
same_core s = record {
  log = refl;
  rest = record {
    place = refl;
    boot = refl;
    begun = refl;
    given = refl;
    tickets = λ d. refl;
    views = λ c. same_view (s.view_of c);
    branches = λ c. refl;
    decided = λ c. refl;
    spent = refl;
  };
}

pub cores_on : (s t u : CoreState) → SameCore s t → SameCore t u → SameCore s u
cores_on s t u a b = record {
  log = b.log ∙ a.log;
  rest = record {
    place = b.rest.place ∙ a.rest.place;
    boot = b.rest.boot ∙ a.rest.boot;
    begun = b.rest.begun ∙ a.rest.begun;
    given = b.rest.given ∙ a.rest.given;
    tickets = λ d. b.rest.tickets d ∙ a.rest.tickets d;
    views = λ c. views_on (u.view_of c) (t.view_of c) (s.view_of c) (b.rest.views c) (a.rest.views c);
    branches = λ c. b.rest.branches c ∙ a.rest.branches c;
    decided = λ c. b.rest.decided c ∙ a.rest.decided c;
    spent = b.rest.spent ∙ a.rest.spent;
  };
}

pub same_data : (d : ManagerData) → DataRests d d
same_data d = record {
  keeps = record { writes = λ y. refl; holders = λ k. refl };
  known = λ y. refl;
}

pub data_on : (d e f : ManagerData) → DataRests d e → DataRests e f → DataRests d f
data_on d e f a b = record {
  keeps = record {
    writes = λ y. b.keeps.writes y ∙ a.keeps.writes y;
    holders = λ k. b.keeps.holders k ∙ a.keeps.holders k;
  };
  known = λ y. b.known y ∙ a.known y;
}

same_node : (o : Option CoreState) → SameNode o o
same_node None = tt
same_node (Some s) = same_core s

-- Lists of events.

asks_more : (xs : List JournalEntry) (es : List Event) (x : JournalEntry) (e : Event) → AskForAll xs es
    → AsksFor e x.step.happening → AskForAll (xs ++ x ∷ []) (es ++ e ∷ [])
asks_more [] [] x e are is = (is, tt)
asks_more [] (f ∷ es) x e are is = absurd are
asks_more (y ∷ xs) [] x e are is = absurd are
asks_more (y ∷ xs) (f ∷ es) x e are is = (are.0, asks_more xs es x e are.1 is)

leads_more : (start mid behind end : WorldState) (es : List Event) (e : Event) → EventsLeadOn start es mid
    → Applies mid e behind → SameTree behind end → EventsLeadOn start (es ++ e ∷ []) end
leads_more start mid behind end [] e same made still = (mid, behind, same, made, still)
leads_more start mid behind end (f ∷ es) e led made still =
    (led.0, led.1, led.2, led.3, leads_more led.1 mid behind end es e led.4 made still)

-- A message that was found has its number.

found_sent : (net : List Envelope) (q : ProcessId) (k : ℕ) (m : Message) → (f : IsNumberedMessage net 0 q k m)
    → sent_as net k ≡ Some (record { from = f.sender; to = q; message = m })
found_sent net q zero m f = let c = f.counted in absurd (omega arith)
found_sent net q (suc k) m f =
    ap (λ i. slice_get net i) (let e : k ≡ 0 + (suc k - 1) = omega arith in e) ∙ f.stands

-- A process alone.

-- what it was before it had made anything
pub record OpenedAlone (tree : List TreeProcess) (q : ProcessId) (t : CoreState)
    (e : ManagerData) : Type 0 where
  pub core : CoreState
  pub held : ManagerData
  pub node : NodeOpened tree q core
  pub empty : DataRests no_data held
  pub stays : SameCore core t
  pub holds : DataRests held e

opened_alone : (tree : List TreeProcess) (q : ProcessId) (xs : List JournalEntry) (s : CoreState)
    (d : ManagerData)
    → RunsAlone tree q xs s d → xs ≡ [] → OpenedAlone tree q s d
opened_alone tree q _ s d (opens_alone _ _ node empty) none = record {
  core = s;
  held = d;
  node = node;
  empty = empty;
  stays = same_core s;
  holds = same_data d;
}
opened_alone tree q _ t e (stays_alone xs s _ d _ run stays holds) none =
    let o = opened_alone tree q xs s d run none in
    record {
      core = o.core;
      held = o.held;
      node = o.node;
      empty = o.empty;
      stays = cores_on o.core s t o.stays stays;
      holds = data_on o.held d e o.holds holds;
    }
opened_alone tree q _ t e (steps_alone xs x _ _ _ _ run step) none = absurd (nil_snoc xs x none)

-- what it was before its last step, and after it
pub record LastAlone (tree : List TreeProcess) (q : ProcessId) (xs : List JournalEntry)
    (x : JournalEntry) (u : CoreState)
    (f : ManagerData) : Type 0 where
  pub core : CoreState
  pub left : CoreState
  pub held : ManagerData
  pub kept : ManagerData
  pub run : RunsAlone tree q xs core held
  pub step : StepAlone tree q core left held kept x
  pub stays : SameCore left u
  pub holds : DataRests kept f

last_alone : (tree : List TreeProcess) (q : ProcessId) (ys xs : List JournalEntry)
    (x : JournalEntry) (t : CoreState)
    (e : ManagerData) → RunsAlone tree q ys t e → ys ≡ xs ++ x ∷ [] → LastAlone tree q xs x t e
last_alone tree q _ xs x t e (opens_alone _ _ node empty) same = absurd (nil_snoc xs x (sym same))
last_alone tree q _ xs x t e (stays_alone ys s _ d _ run stays holds) same =
    let l = last_alone tree q ys xs x s d run same in
    record {
      core = l.core;
      left = l.left;
      held = l.held;
      kept = l.kept;
      run = l.run;
      step = l.step;
      stays = cores_on l.left s t l.stays stays;
      holds = data_on l.kept d e l.holds holds;
    }
last_alone tree q _ xs x t e (steps_alone zs z s _ d _ run step) same =
    let ends = snoc_same zs xs z x same in
    record {
      core = s;
      left = t;
      held = d;
      kept = e;
      run = subst (λ l. RunsAlone tree q l s d) ends.fronts run;
      step = subst (λ y. StepAlone tree q s t d e y) ends.ends step;
      stays = same_core t;
      holds = same_data e;
    }

-- The tree that opens.

node_if : (b : Bool) (s t : CoreState) → SameCore s t
    → SameNode (if b then Some s else None) (if b then Some t else None)
node_if true s t same = same
node_if false s t same = tt

data_if : (b : Bool) (d e : ManagerData) → DataRests d e
    → DataRests (if b then d else no_data) (if b then e else no_data)
data_if true d e rests = rests
data_if false d e rests = same_data no_data

module _ (tree : List TreeProcess) (core : ProcessId → CoreState) (held : ProcessId → ManagerData)
    (opened : (q : ProcessId) → is_listed tree q ≡ true → OpenedAlone tree q (core q) (held q)) where
  -- what each listed process was as it opened
  core_by : (q : ProcessId) (b : Bool) → is_listed tree q ≡ b → CoreState
  core_by q true is = (opened q is).core
  core_by q false is = core q

  held_by : (q : ProcessId) (b : Bool) → is_listed tree q ≡ b → ManagerData
  held_by q true is = (opened q is).held
  held_by q false is = held q

  abbrev first_core : ProcessId → CoreState
  first_core q = core_by q (is_listed tree q) refl

  abbrev first_held : ProcessId → ManagerData
  first_held q = held_by q (is_listed tree q) refl

  abbrev tree_with : (ProcessId → CoreState) → (ProcessId → ManagerData) → WorldState
  tree_with c h = record {
    tree = tree;
    node_at = λ q. if is_listed tree q then Some (c q) else None;
    data_at = λ q. if is_listed tree q then h q else no_data;
    net = [];
    delivered = [];
    entries = [];
  }

  node_by : (q : ProcessId) (b : Bool) (is : is_listed tree q ≡ b) → (s : CoreState)
      → (if b then Some (core_by q b is) else None) ≡ Some s → NodeOpened tree q s
  unfolding core_by
  node_by q true is s there = subst (NodeOpened tree q) (some_core (core_by q true is) s there)
      (opened q is).node
    where
      some_core : (a b : CoreState) → Some a ≡ Some b → a ≡ b
      some_core a b h = cc
  node_by q false is s there = absurd (cc)

  empty_by : (q : ProcessId) (b : Bool) (is : is_listed tree q ≡ b)
      → DataRests no_data (if b then held_by q b is else no_data)
  unfolding held_by
  empty_by q true is = (opened q is).empty
  empty_by q false is = same_data no_data

  stays_by : (q : ProcessId) (b : Bool) (is : is_listed tree q ≡ b)
      → SameNode (if b then Some (core_by q b is) else None) (if b then Some (core q) else None)
  unfolding core_by
  stays_by q true is = (opened q is).stays
  stays_by q false is = tt

  holds_by : (q : ProcessId) (b : Bool) (is : is_listed tree q ≡ b)
      → DataRests (if b then held_by q b is else no_data) (if b then held q else no_data)
  unfolding held_by
  holds_by q true is = (opened q is).holds
  holds_by q false is = same_data no_data

  some_by : (b : Bool) (s : CoreState) → is_some (if b then Some s else None) ≡ b
  some_by true s = refl
  some_by false s = refl

  is_opened : IsOpenedTree (tree_with first_core first_held) tree
  is_opened = record {
    tree_is = refl;
    nodes = λ q s there. node_by q (is_listed tree q) refl s there;
    listed = λ q. some_by (is_listed tree q) (first_core q);
    holdings = λ q. empty_by q (is_listed tree q) refl;
    net = refl;
    delivered = refl;
    entries = refl;
  }

  pub nothing_together : MadeTogether tree [] core held
  nothing_together = record {
    start = tree_with first_core first_held;
    end = tree_with core held;
    events = [];
    opens = is_opened;
    ask = tt;
    leads = record {
      tree = refl;
      nodes = λ q. stays_by q (is_listed tree q) refl;
      holdings = λ q. holds_by q (is_listed tree q) refl;
      net = refl;
      delivered = refl;
      entries = refl;
    };
    tree_is = refl;
    net = refl;
    entries = refl;
    listed = λ q is. rw is refl;
    nodes = λ q is. rw is refl;
    holdings = λ q is. rw is refl;
  }

-- One entry more.

module _ (tree : List TreeProcess) (xs : List JournalEntry) (x : JournalEntry) (core : ProcessId → CoreState)
    (held : ProcessId → ManagerData) (s t : CoreState) (d e : ManagerData)
    (again : MadeTogether tree xs (at_one x.step.process s core) (at_one x.step.process d held))
    (given : IsGivenEntry tree (net_of xs) x) (stays : SameCore t (core x.step.process))
    (holds : DataRests e (held x.step.process)) where
  abbrev here : ProcessId
  here = x.step.process

  abbrev mid : WorldState
  mid = again.end

  -- the tree after the step, where the process keeps this
  abbrev with_node : CoreState → ManagerData → List Bool → Happening → Reaction → WorldState
  with_node c h marked what r = record {
    tree = mid.tree;
    node_at = at_one here (Some c) mid.node_at;
    data_at = at_one here h mid.data_at;
    net = mid.net ++ r.messages;
    delivered = marked ++ undelivered r.messages;
    entries = mid.entries ++ step_entry here what r ∷ [];
  }

  stood : mid.node_at here ≡ Some s
  stood = again.nodes here given.listed ∙ ap Some (here_one here s core)

  had : mid.data_at here ≡ d
  had = again.holdings here given.listed ∙ here_one here d held

  moves : (marked : List Bool) (h : Happening) (r : Reaction)
      → MovesNode mid (with_node t e marked h r) here s t
  moves marked h r = record {
    tree = refl;
    stood = stood;
    stands = here_one here (Some t) mid.node_at;
    others = λ p away. there_one here p (Some t) mid.node_at away;
    others_data = λ p away. there_one here p e mid.data_at away;
  }

  enters : (marked : List Bool) (h : Happening) (r : Reaction)
      → Enters mid (with_node t e marked h r) here h r marked
  enters marked h r = record { net = refl; delivered = refl; entries = refl }

  handled : (marked : List Bool) (h : Happening) (r : Reaction) (i : Input)
      → HandlesInput s t d e i r
      → HandlesInput s t (mid.data_at here) ((with_node t e marked h r).data_at here) i r
  handled marked h r i made =
      subst (λ f. HandlesInput s t (mid.data_at here) f i r)
      (sym (here_one here e mid.data_at))
      (subst (λ f. HandlesInput s t f e i r) (sym had) made)

  steps_by : (marked : List Bool) (i : Input) (r : Reaction) → HandlesInput s t d e i r
      → TreeSteps mid (with_node t e marked (Handles i) r) here i marked
  steps_by marked i r made = record {
    before = s;
    behind = t;
    reaction = r;
    moves = moves marked (Handles i) r;
    handles = handled marked (Handles i) r i made;
    enters = enters marked (Handles i) r;
  }

  still_node : (b : Bool) (o : Option CoreState)
      → SameNode (if b then Some t else o) (if b then Some (core here) else o)
  still_node true o = stays
  still_node false o = same_node o

  still_data : (b : Bool) (f : ManagerData)
      → DataRests (if b then e else f) (if b then held here else f)
  still_data true f = holds
  still_data false f = same_data f

  still : (marked : List Bool) (h : Happening) (r : Reaction)
      → SameTree (with_node t e marked h r) (with_node (core here) (held here) marked h r)
  still marked h r = record {
    tree = refl;
    nodes = λ q. still_node (same_process here q) (mid.node_at q);
    holdings = λ q. still_data (same_process here q) (mid.data_at q);
    net = refl;
    delivered = refl;
    entries = refl;
  }

  apart : (q : ProcessId) → is_listed tree q ≡ false → same_process here q ≡ false
  apart q is = elim (same_process_tells here q) [
    | inl t ↦ absurd (never (sym given.listed ∙ ap (is_listed tree) t.1 ∙ is))
    | inr z ↦ z.0
  ]
    where
      never : true ≡ false → ⊥
      never h = cc

  -- an event more leads there
  grows : (marked : List Bool) (h : Happening) (r : Reaction) (f : Event) → AsksFor f x.step.happening
      → Applies mid f (with_node t e marked h r) → step_entry here h r ≡ x
      → MadeTogether tree (xs ++ x ∷ []) core held
  grows marked h r f asks applies is = record {
    start = again.start;
    end = with_node (core here) (held here) marked h r;
    events = again.events ++ f ∷ [];
    opens = again.opens;
    ask = asks_more xs again.events x f again.ask asks;
    leads = leads_more again.start mid (with_node t e marked h r)
        (with_node (core here) (held here) marked h r)
        again.events f again.leads applies (still marked h r);
    tree_is = again.tree_is;
    net = ap (λ (y : JournalEntry). mid.net ++ y.reaction.messages) is
        ∙ (ap (λ l. l ++ x.reaction.messages) again.net ∙ sym (net_more xs x));
    entries = ap (λ y. mid.entries ++ y ∷ []) is ∙ ap (λ l. l ++ x ∷ []) again.entries;
    listed = λ q is. there_one here q (Some (core here)) mid.node_at (apart q is) ∙ again.listed q is;
    nodes = λ q is. elim (same_process_tells here q) [
      | inl t ↦ rw t.0 (ap (λ p. Some (core p)) t.1)
      | inr z ↦ rw z.0 (again.nodes q is ∙ ap Some (there_one here q s core z.0))
    ];
    holdings = λ q is. elim (same_process_tells here q) [
      | inl t ↦ rw t.0 (ap held t.1)
      | inr z ↦ rw z.0 (again.holdings q is ∙ there_one here q d held z.0)
    ];
  }

  -- what the entry shows
  shown_as : (h : Happening) (r : Reaction) → x.step.fault ≡ None → x.step.happening ≡ h → x.reaction ≡ r
      → step_entry here h r ≡ x
  shown_as h r unfailed is shows = λ k. record {
    step = record { process = here; happening = sym is k; fault = sym unfailed k };
    reaction = sym shows k;
  }

  more_input : (i : Input) → x.step.fault ≡ None → x.step.happening ≡ Handles i
      → IsMine (root_of tree) here (Handles i)
      → HandlesInput s t d e i x.reaction → MadeTogether tree (xs ++ x ∷ []) core held
  more_input (ActInput a) unfailed is mine made =
      let mine' : process_of_act (root_of mid.tree) a ≡ here =
      ap (λ l. process_of_act (root_of l) a) again.tree_is ∙ mine in
      grows mid.delivered (Handles (ActInput a)) x.reaction (event.Act a) is
      (subst (λ q. TreeSteps mid (with_node t e mid.delivered (Handles (ActInput a)) x.reaction) q
      (ActInput a) mid.delivered)
      (sym mine') (steps_by mid.delivered (ActInput a) x.reaction made))
      (shown_as (Handles (ActInput a)) x.reaction unfailed is refl)
  more_input (MessageInput k m) unfailed is mine made =
      let finds : IsNumberedMessage (net_of xs) 0 here k m =
      subst (λ h. FindsMessage (net_of xs) here h) is given.finds in
      let marked = marks mid.delivered k in
      grows marked (Handles (MessageInput k m)) x.reaction (event.Deliver k) (m, is)
      (record {
        envelope = record { from = finds.sender; to = here; message = m };
        sent = ap (λ l. sent_as l k) again.net ∙ found_sent (net_of xs) here k m finds;
        steps = steps_by marked (MessageInput k m) x.reaction made;
      })
      (shown_as (Handles (MessageInput k m)) x.reaction unfailed is refl)

  more_restart : (k keep : ℕ) → x.step.fault ≡ None → x.step.happening ≡ Restart k
      → RestartsAlone s t e keep k x.reaction → MadeTogether tree (xs ++ x ∷ []) core held
  more_restart k keep unfailed is made =
      let h = restart_of s keep in
      grows mid.delivered h x.reaction (event.Restart here (Some keep)) (k, is)
      (record {
        before = s;
        behind = t;
        keep = keep;
        reaction = x.reaction;
        moves = moves mid.delivered h x.reaction;
        keeps = refl;
        restarts = made.restarts;
        holdings = subst (λ f. RestartsData s.place.role (left_by s.log keep) f)
            (sym (here_one here e mid.data_at)) made.holdings;
        enters = enters mid.delivered h x.reaction;
      })
      (shown_as h x.reaction unfailed (is ∙ ap Restart made.kept) refl)

  more_trim : (remain : ℕ) → x.step.fault ≡ None → x.step.happening ≡ Trim → x.reaction ≡ trim_reaction remain
      → TrimsAlone s t d e remain → MadeTogether tree (xs ++ x ∷ []) core held
  more_trim remain unfailed is shows made =
      let r = trim_reaction remain in
      grows mid.delivered Trim r (event.Trim here) is
      (record {
        before = s;
        behind = t;
        remain = remain;
        moves = moves mid.delivered Trim r;
        works = made.works;
        sound = made.sound;
        trims = made.trims;
        holdings = subst (λ f. TrimsData s.place.role (mid.data_at here) f)
            (sym (here_one here e mid.data_at))
            (subst (λ f. TrimsData s.place.role f e) (sym had) made.holdings);
        enters = enters mid.delivered Trim r;
      })
      (shown_as Trim r unfailed is shows)

  more_by : (h : Happening) (keep : ℕ) → x.step.fault ≡ None → x.step.happening ≡ h
      → IsMine (root_of tree) here h → MakesAlone s t d e keep h x.reaction
      → MadeTogether tree (xs ++ x ∷ []) core held
  more_by (Handles i) keep unfailed is mine made = more_input i unfailed is mine made
  more_by (Restart k) keep unfailed is mine made = more_restart k keep unfailed is made
  more_by Trim keep unfailed is mine made = more_trim made.0 unfailed is made.2 made.1

  pub more_together : StepAlone tree here s t d e x → MadeTogether tree (xs ++ x ∷ []) core held
  more_together step = more_by x.step.happening step.keep step.unfailed refl step.mine step.makes

-- All of them.

pub alone_is_together : AloneIsTogether
unfolding entries_of
alone_is_together tree _ core held none_given alone =
    nothing_together tree core held
    (λ q is. opened_alone tree q (entries_of q []) (core q) (held q) (alone q is) refl)
alone_is_together tree _ core held (one_more xs x given is) alone =
    let q = x.step.process in
    let last = last_alone tree q (entries_of q (xs ++ x ∷ [])) (entries_of q xs) x (core q) (held q)
    (alone q is.listed) (own_more q xs x (self q)) in
    let before : (r : ProcessId) → is_listed tree r ≡ true
    → RunsAlone tree r (entries_of r xs) (at_one q last.core core r) (at_one q last.held held r) =
    λ r listed. elim (same_process_tells q r) [
      | inl t ↦ rw t.0 (subst (λ p. RunsAlone tree p (entries_of p xs) last.core last.held) t.1 last.run)
      | inr z ↦ rw z.0 (subst (λ l. RunsAlone tree r l (core r) (held r)) (none_more r xs x z.0)
          (alone r listed))
    ] in
    more_together tree xs x core held last.core last.left last.held last.kept
    (alone_is_together tree xs (at_one q last.core core) (at_one q last.held held) given before)
    is last.stays last.holds last.step
