-- A line that a node answered, or did not answer, is a step of one of the tree's programs.
use Rattle.std.proofs.Common.{◌≡◌, ◌∙◌, ap, sym, subst, refl, inl, inr, ℕ, Bool, true, false, ◌&&◌, Option, Some, None, List, Result, Ok, Err}
use Rattle.protocol.specs.declared.names.ProcessId.{ProcessId}
use Rattle.protocol.specs.declared.messages.Envelope.{Envelope}
use Rattle.protocol_words.specs.Variants.{ActInput, Handles, MessageInput}
use Rattle.protocol.specs.declared.events.Input.{Input}
use Rattle.protocol.specs.declared.events.Reaction.{Reaction}
use Rattle.protocol.specs.declared.events.StepError.{StepError}
use Rattle.protocol.specs.declared.events.StepError.TheVariants.{Memory, Device, UnknownTxn, NotAChild, Closed, Failed, NotInDoubt, NothingToForget, NoSuch, Exhausted}
use Rattle.protocol.specs.Names.{same_process}
use Rattle.protocol.specs.NameLaws.{same_process_tells}
use Rattle.protocol.specs.Plays.{process_of_act}
use Rattle.protocol.specs.Trees.{root_of}
use Rattle.protocol.specs.declared.names.Txn.{Txn}
use Rattle.protocol.specs.World.{InputStands, IsSent}
use Rattle.process_state.specs.States.{CoreState, SameCore}
use Rattle.tree_state.specs.Worlds.{AnswersData, Enters, HandlesInput, MovesNode, SameNode, TrimsData, WorldState}
use Rattle.resource_manager.specs.Data.{ManagerData, DataRests}
use Rattle.tree_process.specs.Nodes.{NotHandled}
use Rattle.tree_process.specs.Restarts.{NoTrim}
use Rattle.tree_process.proofs.Same.{rests, same_core}
use Rattle.node_lines.specs.declared.asked.NodeLine.{NodeLine}
use Rattle.node_lines.specs.declared.asked.NodeLine.TheVariants as asked
use Rattle.node_engine.specs.declared.failure.NodeFailure.{NodeFailure}
use Rattle.node_engine.specs.Answers.{AnswersAsked, AnswersAgain, AnswersIf, NodeState, NodeTakes, TakesAgain, TakesIf, TellsOutcome, Took, NodeTrimmed, hears, is_root, leaves_it, owed_at, takes_it}
use Rattle.proof_lives.specs.Lives.{LifeStep}
use Rattle.proof_lives.specs.Lives
use Rattle.proof_nodes.specs.Nodes.{Answered, EntersAnswer, EntersAnswered, EntersEnd, EntersTake, EntersTaken, EntersTrim, MovesAlone, Silent, Sits, Unanswered, WasSent}

-- each process is the same as it is
pub same_as_it_is : (o : Option CoreState) → SameNode o o
same_as_it_is None = tt
same_as_it_is (Some s) = same_core s

first_of : (a b : Bool) → (a && b) ≡ true → a ≡ true
first_of true b h = refl
first_of false b h = absurd (cc)

pub same_here : (q p : ProcessId) → same_process q p ≡ true → q ≡ p
same_here q p e = elim (same_process_tells q p)
    [ inl t ↦ t.1 | inr z ↦ absurd (let clash : true ≡ false = sym e ∙ z.0 in cc) ]

module _ (s t : WorldState) (old new : NodeState) (was : Sits s old) (same : new.me ≡ old.me)
    (is : Sits t new)
    (alone : MovesAlone s t old.me) where
  is_here : t.node_at old.me ≡ Some new.core
  is_here = ap (λ p. t.node_at p) (sym same) ∙ is.core

  data_here : t.data_at old.me ≡ new.holdings
  data_here = ap (λ p. t.data_at p) (sym same) ∙ is.holdings

  moves : MovesNode s t old.me old.core new.core
  moves = record {
    tree = alone.tree;
    stood = was.core;
    stands = is_here;
    others = alone.others;
    others_data = alone.others_data;
  }

  -- nothing is otherwise at the node: nothing is in the tree
  node_rests : SameCore old.core new.core → (p : ProcessId) → SameNode (s.node_at p) (t.node_at p)
  node_rests h p = elim (same_process_tells old.me p) [
    | inl y ↦ subst (λ r. SameNode (s.node_at r) (t.node_at r)) y.1
        (subst (λ o. SameNode o (t.node_at old.me)) (sym was.core)
        (subst (λ o. SameNode (Some old.core) o) (sym is_here) h))
    | inr z ↦ subst (λ o. SameNode (s.node_at p) o) (sym (alone.others p z.0)) (same_as_it_is (s.node_at p))
  ]

  data_rest : DataRests old.holdings new.holdings → (p : ProcessId) → DataRests (s.data_at p) (t.data_at p)
  data_rest h p = elim (same_process_tells old.me p) [
    | inl y ↦ subst (λ r. DataRests (s.data_at r) (t.data_at r)) y.1
        (subst (λ d. DataRests d (t.data_at old.me)) (sym was.holdings)
        (subst (λ d. DataRests old.holdings d) (sym data_here) h))
    | inr z ↦ subst (λ d. DataRests (s.data_at p) d) (sym (alone.others_data p z.0)) (rests (s.data_at p))
  ]

  unmoved : Silent s t → SameCore old.core new.core → DataRests old.holdings new.holdings → LifeStep s t
  unmoved quiet h d = Lives.rests (record {
    tree = alone.tree;
    nodes = node_rests h;
    holdings = data_rest d;
    net = quiet.net;
    delivered = quiet.delivered;
    entries = quiet.entries;
  })

  still : Silent s t → new ≡ old → LifeStep s t
  still quiet e = unmoved quiet
      (subst (λ (n : NodeState). SameCore old.core n.core) (sym e) (same_core old.core))
      (subst (λ (n : NodeState). DataRests old.holdings n.holdings) (sym e) (rests old.holdings))

  -- Inputs.

  module _ (i : Input) (sent : InputStands s.net old.me i) where
    made : (reaction : Reaction) → HandlesInput old.core new.core old.holdings new.holdings i reaction
        → Enters s t old.me (Handles i) reaction s.delivered → LifeStep s t
    made reaction handles enters = Lives.makes old.me i s.delivered sent (record {
      before = old.core;
      behind = new.core;
      reaction = reaction;
      moves = moves;
      handles = subst (λ d. HandlesInput old.core new.core d (t.data_at old.me) i reaction) (sym was.holdings)
          (subst (λ d. HandlesInput old.core new.core old.holdings d i reaction) (sym data_here) handles);
      enters = enters;
    })

    -- an input that was not made: nothing is otherwise, or the device failed
    not_made : (e : StepError) → NotHandled old.core new.core old.holdings new.holdings i e → Silent s t
        → LifeStep s t
    not_made Memory h quiet = unmoved quiet h.not_made (h.keeps (λ e. absurd (cc)))
    not_made Device h quiet = Lives.breaks old.me i sent (record {
      before = old.core;
      behind = new.core;
      moves = moves;
      answer = h.answer;
      answers = subst (λ d. AnswersData old.core.place.role d old.core h.answer i)
          (sym was.holdings) h.answers;
      broken = h.not_made;
      net = quiet.net;
      delivered = quiet.delivered;
      entries = quiet.entries;
    })
    not_made UnknownTxn h quiet = unmoved quiet h.not_made.same (h.keeps (λ e. absurd (cc)))
    not_made NotAChild h quiet = unmoved quiet h.not_made.same (h.keeps (λ e. absurd (cc)))
    not_made Closed h quiet = unmoved quiet h.not_made.same (h.keeps (λ e. absurd (cc)))
    not_made NotInDoubt h quiet = unmoved quiet h.not_made.same (h.keeps (λ e. absurd (cc)))
    not_made NothingToForget h quiet = unmoved quiet h.not_made.same (h.keeps (λ e. absurd (cc)))
    not_made Failed h quiet = unmoved quiet h.not_made.same (h.keeps (λ e. absurd (cc)))
    not_made NoSuch h quiet = unmoved quiet h.not_made.same (h.keeps (λ e. absurd (cc)))
    not_made Exhausted h quiet = unmoved quiet h.not_made.same (h.keeps (λ e. absurd (cc)))

    took : (r : Result Reaction StepError) → Took old new i r → EntersEnd s t old.me (Handles i) r
        → LifeStep s t
    took (Ok reaction) h enters = made reaction h enters
    took (Err e) h enters = not_made e h enters

  -- Trims.

  not_trimmed : (e : StepError) → NoTrim old.core new.core old.holdings new.holdings e → Silent s t
      → LifeStep s t
  not_trimmed Memory h quiet = unmoved quiet h.0 h.1
  not_trimmed Device h quiet = Lives.trim_breaks old.me (record {
    before = old.core;
    behind = new.core;
    moves = moves;
    works = h.works;
    sound = h.sound;
    broken = h.broken;
    net = quiet.net;
    delivered = quiet.delivered;
    entries = quiet.entries;
  })
  not_trimmed Failed h quiet = unmoved quiet h.0 h.1
  not_trimmed e h quiet = absurd h

  trimmed : (r : Result ℕ StepError) → NodeTrimmed old new r → EntersTrim s t old.me r → LifeStep s t
  trimmed (Ok remain) h enters = Lives.trims old.me (record {
    before = old.core;
    behind = new.core;
    remain = remain;
    moves = moves;
    works = h.works;
    sound = h.sound;
    trims = h.trims;
    holdings = subst (λ d. TrimsData old.core.place.role d (t.data_at old.me)) (sym was.holdings)
        (subst (λ d. TrimsData old.core.place.role old.holdings d) (sym data_here) h.holdings);
    enters = enters;
  })
  trimmed (Err e) h enters = not_trimmed e h enters

  -- Lines.

  answered_input : (mine : Bool) (i : Input) (text : List ℕ)
      → (mine ≡ true → InputStands s.net old.me i)
      → (h : AnswersIf mine old new i text) → EntersAnswer s t old new mine i text h → LifeStep s t
  answered_input true i text sent h enters = took i (sent refl) h.end h.took enters
  answered_input false i text sent h enters = still enters h.0

  taken_input : (mine : Bool) (i : Input) (why : NodeFailure) → (mine ≡ true → InputStands s.net old.me i)
      → (h : TakesIf mine old new i why) → EntersTake s t old new mine i why h → LifeStep s t
  taken_input true i why sent (takes_it h) enters = took i (sent refl) h.end h.took enters
  taken_input true i why sent (leaves_it h) enters = still enters h.0
  taken_input false i why sent h enters = still enters h.0

  -- whoever is asked for an outcome, nothing is otherwise
  untouched : (b : Bool) (x : Txn) (text : List ℕ) → TellsOutcome b x old new text → new ≡ old
  untouched true x text h = h.0
  untouched false x text h = h.0

  -- whatever is told once more, nothing is recorded
  unrecorded : (o : Option (List Envelope)) (text : List ℕ) → AnswersAgain o old new text
      → (new.core ≡ old.core) × (new.holdings ≡ old.holdings)
  unrecorded None text h = (ap (λ (n : NodeState). n.core) h.0, ap (λ (n : NodeState). n.holdings) h.0)
  unrecorded (Some es) text h =
      (ap (λ (n : NodeState). n.core) h.after, ap (λ (n : NodeState). n.holdings) h.after)

  repeated : Silent s t → (new.core ≡ old.core) × (new.holdings ≡ old.holdings) → LifeStep s t
  repeated quiet e = unmoved quiet
      (subst (λ (c : CoreState). SameCore old.core c) (sym e.0) (same_core old.core))
      (subst (λ (d : ManagerData). DataRests old.holdings d) (sym e.1) (rests old.holdings))

  unsaid : (o : Option (List Envelope)) (why : NodeFailure) → TakesAgain o old new why → new ≡ old
  unsaid None why h = h.0
  unsaid (Some es) why h = h.0

  -- a message for this node is in the net
  stands_there : (n : ℕ) (e : Envelope) → WasSent s.net (asked.Message n e) → hears old e ≡ true
      → InputStands s.net old.me (MessageInput n e.message)
  stands_there n e sent mine =
      subst (λ q. IsSent s.net q n e.message) (same_here e.to old.me (first_of _ _ mine))
      (record { sender = e.from; place = sent.0; stands = sent.1 })

  answered_so : (a : NodeLine) (text : List ℕ) (h : AnswersAsked a old new text) → WasSent s.net a
      → EntersAnswered s t old new a text h → LifeStep s t
  answered_so asked.Nothing text h sent enters = still enters h.0
  answered_so (asked.Act a) text h sent enters =
      answered_input (same_process (process_of_act (root_of old.tree) a) old.me) (ActInput a) text
      (λ mine. tt) h enters
  answered_so (asked.Message n e) text h sent enters =
      answered_input (hears old e) (MessageInput n e.message) text
      (stands_there n e sent) h enters
  answered_so asked.Trim text h sent enters = trimmed h.end h.took enters
  answered_so asked.Doubt text h sent enters = still enters h.0
  answered_so (asked.Outcome x) text h sent enters = still enters (untouched (is_root old) x text h)
  answered_so (asked.Again c) text h sent enters = repeated enters (unrecorded (owed_at old c) text h)
  answered_so asked.Status text h sent enters = still enters h.0
  answered_so asked.Log text h sent enters = still enters h.0
  answered_so asked.Data text h sent enters = still enters h.0
  answered_so asked.Help text h sent enters = still enters h.0
  answered_so asked.End text h sent enters = still enters h.0
  answered_so (asked.Resolve name) text h sent enters = still enters h.0
  answered_so asked.Unknown text h sent enters = still enters h.0
  answered_so asked.NoText text h sent enters = still enters h.0

  taken_so : (a : NodeLine) (why : NodeFailure) (h : NodeTakes a old new why) → WasSent s.net a
      → EntersTaken s t old new a why h → LifeStep s t
  taken_so asked.Nothing why h sent enters = still enters h.0
  taken_so (asked.Act a) why h sent enters =
      taken_input (same_process (process_of_act (root_of old.tree) a) old.me) (ActInput a) why
      (λ mine. tt) h enters
  taken_so (asked.Message n e) why h sent enters =
      taken_input (hears old e) (MessageInput n e.message) why (stands_there n e sent) h enters
  taken_so asked.Trim why h sent enters = trimmed h.end h.took enters
  taken_so asked.Doubt why h sent enters = still enters h.0
  taken_so (asked.Outcome x) why h sent enters = still enters h.0
  taken_so (asked.Again c) why h sent enters = still enters (unsaid (owed_at old c) why h)
  taken_so asked.Status why h sent enters = still enters h.0
  taken_so asked.Log why h sent enters = still enters h.0
  taken_so asked.Data why h sent enters = still enters h.0
  taken_so asked.Help why h sent enters = still enters h.0
  taken_so asked.End why h sent enters = still enters h.0
  taken_so (asked.Resolve name) why h sent enters = still enters h.0
  taken_so asked.Unknown why h sent enters = still enters h.0
  taken_so asked.NoText why h sent enters = still enters h.0

pub answered : (s t : WorldState) → Answered s t → LifeStep s t
answered s t h = answered_so s t h.old h.new h.was h.same h.is h.alone h.answers.asked h.text
    h.answers.answers
    h.sent h.entered

pub unanswered : (s t : WorldState) → Unanswered s t → LifeStep s t
unanswered s t h = taken_so s t h.old h.new h.was h.same h.is h.alone h.takes.asked h.why h.takes.takes
    h.sent h.entered
