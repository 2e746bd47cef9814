-- A step of one process, in the tree: it was entered, or it was not.
use Rattle.std.proofs.Common.{◌≡◌, ◌∙◌, sym, ap, subst, refl, ℕ, Option, Some, List, [], ◌∷◌, ◌++◌, Result, Ok, Err, IfErr, IfOk, IfSome, OnOk}
use Rattle.protocol.specs.declared.names.ProcessId.{ProcessId}
use Rattle.protocol.specs.declared.messages.Envelope.{Envelope}
use Rattle.protocol.specs.declared.events.Act.{Act}
use Rattle.protocol.specs.declared.events.Input.{Input}
use Rattle.protocol_words.specs.Variants.{ActInput, MessageInput}
use Rattle.protocol.specs.declared.events.Reaction.{Reaction}
use Rattle.protocol.specs.declared.events.StepError.{StepError}
use Rattle.protocol.specs.declared.events.StepError.TheVariants.{Memory, Device, UnknownTxn, NotAChild, Closed, Failed, NotInDoubt, NothingToForget, NoSuch, Exhausted}
use Rattle.protocol.specs.declared.trees.TreeProcess.{TreeProcess}
use Rattle.protocol.specs.Plays.{sent_as}
use Rattle.tree_state.specs.Worlds.{Delivers, DeviceFails, NotActed, NotDelivered, SameTree, TreeSteps, entry_at, undelivered}
use Rattle.tree_world.specs.Nodes.{NoStepAt, NodesSight, SameNodes, StepsAt}
use Rattle.tree_journal.specs.Journals.{EntersJournal, JournalState, SameJournal, marked_by}
use Rattle.tree_world.proofs.Handling.{world}

-- a journal keeps all that it has
pub kept : (j : JournalState) → SameJournal j j
kept j = record { net = refl; delivered = refl; entries = refl }

-- it was entered, in a journal that kept all
pub world_steps : (tree : List TreeProcess) (nodes after : NodesSight) (j k l : JournalState)
    (q : ProcessId) (i : Input) (r : Reaction) → SameJournal j k → StepsAt nodes after q i r
    → EntersJournal k l q i r
    → TreeSteps (world tree nodes j) (world tree after l) q i (marked_by i j.delivered)
world_steps tree nodes after j k l q i r keeps steps enters = record {
  before = steps.before;
  behind = steps.behind;
  reaction = r;
  moves = record {
    tree = refl;
    stood = steps.moves.stood;
    stands = steps.moves.stands;
    others = steps.moves.others;
    others_data = steps.moves.others_data;
  };
  handles = steps.handles;
  enters = record {
    net = enters.net ∙ ap (λ ls. ls ++ r.messages) keeps.net;
    delivered = enters.delivered ∙ ap (λ bs. marked_by i bs ++ undelivered r.messages) keeps.delivered;
    entries = enters.entries ∙ ap (λ es. es ++ entry_at q i r ∷ []) keeps.entries;
  };
}

same : (tree : List TreeProcess) (nodes after : NodesSight) (j k : JournalState) → SameJournal j k
    → SameNodes nodes after → SameTree (world tree nodes j) (world tree after k)
same tree nodes after j k keeps alike = record {
  tree = refl;
  nodes = alike.nodes;
  holdings = alike.holdings;
  net = keeps.net;
  delivered = keeps.delivered;
  entries = keeps.entries;
}

pub breaks : (tree : List TreeProcess) (nodes after : NodesSight) (j k : JournalState)
    (q : ProcessId) (i : Input) → SameJournal j k → NoStepAt nodes after q i Device
    → DeviceFails (world tree nodes j) (world tree after k) q i
breaks tree nodes after j k q i keeps stops = record {
  before = stops.before;
  behind = stops.behind;
  moves = record {
    tree = refl;
    stood = stops.moves.stood;
    stands = stops.moves.stands;
    others = stops.moves.others;
    others_data = stops.moves.others_data;
  };
  answer = stops.answer;
  answers = stops.answers;
  broken = stops.broken;
  net = keeps.net;
  delivered = keeps.delivered;
  entries = keeps.entries;
}

-- an act was not made
pub not_acted : (tree : List TreeProcess) (nodes after : NodesSight) (j k : JournalState)
    (q : ProcessId) (a : Act) (e : StepError) → SameJournal j k → NoStepAt nodes after q (ActInput a) e
    → NotActed (world tree nodes j) (world tree after k) q a e
not_acted tree nodes after j k q a Memory keeps stops = same tree nodes after j k keeps stops
not_acted tree nodes after j k q a Device keeps stops = breaks tree nodes after j k q (ActInput a) keeps stops
not_acted tree nodes after j k q a UnknownTxn keeps stops = (same tree nodes after j k keeps stops.0, stops.1)
not_acted tree nodes after j k q a NotAChild keeps stops = (same tree nodes after j k keeps stops.0, stops.1)
not_acted tree nodes after j k q a Closed keeps stops = (same tree nodes after j k keeps stops.0, stops.1)
not_acted tree nodes after j k q a Failed keeps stops = (same tree nodes after j k keeps stops.0, stops.1)
not_acted tree nodes after j k q a NotInDoubt keeps stops = (same tree nodes after j k keeps stops.0, stops.1)
not_acted tree nodes after j k q a NothingToForget keeps stops =
    (same tree nodes after j k keeps stops.0, stops.1)
not_acted tree nodes after j k q a NoSuch keeps stops = (same tree nodes after j k keeps stops.0, stops.1)
not_acted tree nodes after j k q a Exhausted keeps stops = (same tree nodes after j k keeps stops.0, stops.1)

-- a message was not delivered
pub not_delivered : (tree : List TreeProcess) (nodes after : NodesSight) (j k : JournalState)
    (n : ℕ) (l : Envelope) (e : StepError) → SameJournal j k → sent_as j.net n ≡ Some l
    → NoStepAt nodes after l.to (MessageInput n l.message) e
    → NotDelivered (world tree nodes j) (world tree after k) n e
not_delivered tree nodes after j k n l Memory keeps is stops = same tree nodes after j k keeps stops
not_delivered tree nodes after j k n l Device keeps is stops =
    rw is (breaks tree nodes after j k l.to (MessageInput n l.message) keeps stops)
not_delivered tree nodes after j k n l UnknownTxn keeps is stops =
    rw is (same tree nodes after j k keeps stops.0, stops.1)
not_delivered tree nodes after j k n l NotAChild keeps is stops =
    rw is (same tree nodes after j k keeps stops.0, stops.1)
not_delivered tree nodes after j k n l Closed keeps is stops =
    rw is (same tree nodes after j k keeps stops.0, stops.1)
not_delivered tree nodes after j k n l Failed keeps is stops =
    rw is (same tree nodes after j k keeps stops.0, stops.1)
not_delivered tree nodes after j k n l NotInDoubt keeps is stops =
    rw is (same tree nodes after j k keeps stops.0, stops.1)
not_delivered tree nodes after j k n l NothingToForget keeps is stops =
    rw is (same tree nodes after j k keeps stops.0, stops.1)
not_delivered tree nodes after j k n l NoSuch keeps is stops =
    rw is (same tree nodes after j k keeps stops.0, stops.1)
not_delivered tree nodes after j k n l Exhausted keeps is stops =
    rw is (same tree nodes after j k keeps stops.0, stops.1)

-- What a call leaves, by how the process's step ended and what the journal made of it.

-- the process's reaction to the input
made_so : (nodes after : NodesSight) (q : ProcessId) (i : Input)
    (made : Result Reaction StepError) (r : Reaction) → made ≡ Ok r → IfOk made (StepsAt nodes after q i)
    → StepsAt nodes after q i r
made_so nodes after q i made r is steps = subst (λ (m : Result Reaction StepError). IfOk m
    (StepsAt nodes after q i)) is steps

-- likewise its refusal
pub refused_so : (nodes after : NodesSight) (q : ProcessId) (i : Input)
    (made : Result Reaction StepError) (e : StepError) → made ≡ Err e → IfErr made (NoStepAt nodes after q i)
    → NoStepAt nodes after q i e
refused_so nodes after q i made e is stops = subst (λ (m : Result Reaction StepError). IfErr m
    (NoStepAt nodes after q i)) is stops

pub acted : (tree : List TreeProcess) (nodes after : NodesSight) (j k l : JournalState)
    (q p : ProcessId) (a : Act) (made : Result Reaction StepError) (closed : Result (Unit {0}) StepError)
    → p ≡ q → SameJournal j k → IfOk made (StepsAt nodes after p (ActInput a))
    → OnOk closed ((r : Reaction) × (made ≡ Ok r) × EntersJournal k l p (ActInput a) r)
    → OnOk closed (TreeSteps (world tree nodes j) (world tree after l) q (ActInput a) j.delivered)
acted tree nodes after j k l q p a made (Err e) at keeps steps ends = tt
acted tree nodes after j k l q p a made (Ok u) at keeps steps ends =
    subst (λ (x : ProcessId). TreeSteps (world tree nodes j) (world tree after l) x (ActInput a) j.delivered)
    at
    (world_steps tree nodes after j k l p (ActInput a) ends.0 keeps
    (made_so nodes after p (ActInput a) made ends.0 ends.1 steps) ends.2)

pub act_stopped : (tree : List TreeProcess) (nodes after : NodesSight)
    (j k l : JournalState) (q p : ProcessId) (a : Act) (made : Result Reaction StepError)
    (closed : Result (Unit {0}) StepError)
    → p ≡ q → SameJournal j k → IfErr made (NoStepAt nodes after p (ActInput a))
    → IfErr closed (λ e. (made ≡ Err e) × (l ≡ k))
    → IfErr closed (NotActed (world tree nodes j) (world tree after l) q a)
act_stopped tree nodes after j k l q p a made (Ok u) at keeps stops ends = tt
act_stopped tree nodes after j k l q p a made (Err e) at keeps stops ends =
    subst (λ (x : ProcessId). NotActed (world tree nodes j) (world tree after l) x a e) at
    (subst (λ (m : JournalState). NotActed (world tree nodes j) (world tree after m) p a e) (sym ends.1)
    (not_acted tree nodes after j k p a e keeps (refused_so nodes after p (ActInput a) made e ends.0 stops)))

pub delivered : (tree : List TreeProcess) (nodes after : NodesSight) (j k l : JournalState)
    (n : ℕ) (m : Envelope) (made : Result Reaction StepError) (closed : Result (Unit {0}) StepError)
    → SameJournal j k → sent_as k.net n ≡ Some m
    → IfOk made (StepsAt nodes after m.to (MessageInput n m.message))
    → OnOk closed (IfSome (sent_as k.net n) (λ m2. (r : Reaction) × (made ≡ Ok r)
    × EntersJournal k l m.to (MessageInput n m2.message) r))
    → OnOk closed (Delivers (world tree nodes j) (world tree after l) n)
delivered tree nodes after j k l n m made (Err e) keeps is steps ends = tt
delivered tree nodes after j k l n m made (Ok u) keeps is steps ends =
    let entered = subst (λ (o : Option Envelope). IfSome o (λ m2. (r : Reaction) × (made ≡ Ok r)
    × EntersJournal k l m.to (MessageInput n m2.message) r)) is ends in
    record {
      envelope = m;
      sent = ap (λ ls. sent_as ls n) (sym keeps.net) ∙ is;
      steps = world_steps tree nodes after j k l m.to (MessageInput n m.message) entered.0 keeps
          (made_so nodes after m.to (MessageInput n m.message) made entered.0 entered.1 steps) entered.2;
    }

pub delivery_stopped : (tree : List TreeProcess) (nodes after : NodesSight)
    (j k l : JournalState) (n : ℕ) (m : Envelope) (made : Result Reaction StepError)
    (closed : Result (Unit {0}) StepError)
    → SameJournal j k → sent_as k.net n ≡ Some m
    → IfErr made (NoStepAt nodes after m.to (MessageInput n m.message))
    → IfErr closed (λ e. (made ≡ Err e) × (l ≡ k))
    → IfErr closed (NotDelivered (world tree nodes j) (world tree after l) n)
delivery_stopped tree nodes after j k l n m made (Ok u) keeps is stops ends = tt
delivery_stopped tree nodes after j k l n m made (Err e) keeps is stops ends =
    subst (λ (x : JournalState). NotDelivered (world tree nodes j) (world tree after x) n e) (sym ends.1)
    (not_delivered tree nodes after j k n m e keeps (ap (λ ls. sent_as ls n) (sym keeps.net) ∙ is)
    (refused_so nodes after m.to (MessageInput n m.message) made e ends.0 stops))
