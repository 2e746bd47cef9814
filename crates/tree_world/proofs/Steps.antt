-- A step of one process, among all.
use Rattle.std.proofs.Common.{◌≡◌, ◌≢◌, ◌⊎◌, sym, ap, subst, inl, inr, true, false, Option, Some, None, option_map, List, Result, Ok, Err, IfOk, IfErr}
use Rattle.protocol.specs.declared.names.ProcessId.{ProcessId}
use Rattle.protocol.specs.declared.events.Input.{Input}
use Rattle.protocol.specs.declared.events.Reaction.{Reaction}
use Rattle.protocol.specs.declared.events.StepError.{StepError}
use Rattle.protocol.specs.declared.events.StepError.TheVariants.{Memory, Device, UnknownTxn, NotAChild, Closed, Failed, NotInDoubt, NothingToForget, NoSuch, Exhausted}
use Rattle.protocol.specs.Names.{same_process}
use Rattle.protocol.specs.NameLaws.{same_process_tells}
use Rattle.protocol.specs.Nodes.{DataAnswer}
use Rattle.process_state.specs.States.{CoreState, SameCore}
use Rattle.process_state.specs.Makes.{IsRefusedInput}
use Rattle.tree_state.specs.Worlds.{HandlesInput, RefusesAt, SameNode, WantsNumbersAt}
use Rattle.tree_process.specs.declared.node.Process.{Process}
use Rattle.tree_process.specs.Nodes.{FailsUnder, NotHandled, core_of, data_of}
use Rattle.tree_process.proofs.Same.{rests, same_core}
use Rattle.tree_world.specs.Nodes.{BreaksUnder, MovesAt, NoStepAt, NodesSight, SameNodes, StepsAt, data_in, kept_at, node_in}
use Rattle.resource_manager.specs.Data.{DataRests}

-- each process is the same as it is
pub same_as_it_is : (o : Option CoreState) → SameNode o o
same_as_it_is None = tt
same_as_it_is (Some s) = same_core s

pub moves_at : {L : Type 0} (es fs : List (ProcessId × Process L)) (q : ProcessId) (before behind : Process L)
    → node_in es q ≡ Some before → node_in fs q ≡ Some behind
    → ((p : ProcessId) → same_process q p ≡ false → node_in fs p ≡ node_in es p)
    → MovesAt (kept_at es) (kept_at fs) q (core_of before) (core_of behind)
moves_at es fs q before behind stood stands others =
    record {
      stood = ap (λ o. option_map core_of o) stood;
      stands = ap (λ o. option_map core_of o) stands;
      others = λ p apart. ap (λ o. option_map core_of o) (others p apart);
      others_data = λ p apart. ap data_in (others p apart);
    }

-- the data of a process that stood, and that stands
pub data_stood : {L : Type 0} (es : List (ProcessId × Process L)) (q : ProcessId) (n : Process L)
    → node_in es q ≡ Some n → (kept_at es).data_at q ≡ data_of n
data_stood es q n stood = ap data_in stood

-- data that were kept, among all
pub kept_data : {L : Type 0} (es fs : List (ProcessId × Process L)) (q : ProcessId)
    (before behind : Process L)
    → node_in es q ≡ Some before → node_in fs q ≡ Some behind → DataRests (data_of before) (data_of behind)
    → DataRests ((kept_at es).data_at q) ((kept_at fs).data_at q)
kept_data es fs q before behind stood stands keeps =
    subst (λ d. DataRests d ((kept_at fs).data_at q)) (sym (data_stood es q before stood))
    (subst (λ d. DataRests (data_of before) d) (sym (data_stood fs q behind stands)) keeps)

-- where one process is the same, and each other as it was, nothing is otherwise
pub same_nodes : (old new : NodesSight) (q : ProcessId) (s t : CoreState)
    → MovesAt old new q s t → SameCore s t → DataRests (old.data_at q) (new.data_at q)
    → SameNodes old new
same_nodes old new q s t moves same keeps = record {
  nodes = λ p. at p (same_process_tells q p);
  holdings = λ p. data_at p (same_process_tells q p);
}
  where
    at : (p : ProcessId) → ((same_process q p ≡ true) × (q ≡ p)) ⊎
        ((same_process q p ≡ false) × (q ≢ p)) → SameNode (old.node_at p) (new.node_at p)
    at p (inl here) =
        subst (λ r. SameNode (old.node_at r) (new.node_at r)) here.1
        (subst (λ o. SameNode o (new.node_at q)) (sym moves.stood)
        (subst (λ o. SameNode (Some s) o) (sym moves.stands) same))
    at p (inr there) =
        subst (λ o. SameNode (old.node_at p) o) (sym (moves.others p there.0)) (same_as_it_is (old.node_at p))

    data_at : (p : ProcessId) → ((same_process q p ≡ true) × (q ≡ p)) ⊎
        ((same_process q p ≡ false) × (q ≢ p)) → DataRests (old.data_at p) (new.data_at p)
    data_at p (inl here) = subst (λ r. DataRests (old.data_at r) (new.data_at r)) here.1 keeps
    data_at p (inr there) =
        subst (λ d. DataRests (old.data_at p) d) (sym (moves.others_data p there.0)) (rests (old.data_at p))

-- where one process is as it was, and so is each other, nothing is otherwise
pub unmoved : {L : Type 0} (es fs : List (ProcessId × Process L)) (q : ProcessId) (before behind : Process L)
    → node_in es q ≡ Some before → node_in fs q ≡ Some behind
    → ((p : ProcessId) → same_process q p ≡ false → node_in fs p ≡ node_in es p)
    → behind ≡ before → SameNodes (kept_at es) (kept_at fs)
unmoved es fs q before behind stood stands others is =
    same_nodes (kept_at es) (kept_at fs) q (core_of before) (core_of behind)
    (moves_at es fs q before behind stood stands others)
    (subst (λ (n : Process _). SameCore (core_of before) (core_of n)) (sym is) (same_core (core_of before)))
    (kept_data es fs q before behind stood stands
    (subst (λ (n : Process _). DataRests (data_of before) (data_of n)) (sym is) (rests (data_of before))))

-- a process handled an input
pub stepped : {L E : Type 0} (es fs : List (ProcessId × Process L)) (q : ProcessId) (i : Input)
    (before behind : Process L) (made : Result Reaction E)
    → node_in es q ≡ Some before → node_in fs q ≡ Some behind
    → ((p : ProcessId) → same_process q p ≡ false → node_in fs p ≡ node_in es p)
    → IfOk made (HandlesInput (core_of before) (core_of behind) (data_of before) (data_of behind) i)
    → IfOk made (StepsAt (kept_at es) (kept_at fs) q i)
stepped es fs q i before behind (Ok r) stood stands others handles =
    record {
      before = core_of before;
      behind = core_of behind;
      moves = moves_at es fs q before behind stood stands others;
      handles = subst (λ d. HandlesInput (core_of before) (core_of behind) d ((kept_at fs).data_at q) i r)
          (sym (data_stood es q before stood))
          (subst (λ d. HandlesInput (core_of before) (core_of behind) (data_of before) d i r)
          (sym (data_stood fs q behind stands)) handles);
    }
stepped es fs q i before behind (Err e) stood stands others handles = tt

-- the process refused it
refused_at : (old new : NodesSight) (q : ProcessId) (i : Input) (e : StepError)
    (s t : CoreState) (a : DataAnswer)
    → MovesAt old new q s t → DataRests (old.data_at q) (new.data_at q) → IsRefusedInput s t a i e
    → SameNodes old new × RefusesAt (old.node_at q) i e
refused_at old new q i e s t a moves keeps refused = (
  same_nodes old new q s t moves refused.same keeps,
  subst (λ o. RefusesAt o i e) (sym moves.stood) (a, refused.found, refused.finds, refused.refuses),
)

-- why it handled none
stopped_by : (old new : NodesSight) (q : ProcessId) (i : Input)
    (e : StepError) (s t : CoreState)
    → MovesAt old new q s t → NotHandled s t (old.data_at q) (new.data_at q) i e → NoStepAt old new q i e
stopped_by old new q i Memory s t moves h = same_nodes old new q s t moves h.not_made
    (h.keeps (λ is. absurd cc))
stopped_by old new q i Device s t moves h = record {
  before = s;
  behind = t;
  moves = moves;
  answer = h.answer;
  answers = h.answers;
  broken = h.not_made;
}
stopped_by old new q i UnknownTxn s t moves h =
    refused_at old new q i UnknownTxn s t h.answer moves (h.keeps (λ is. absurd cc)) h.not_made
stopped_by old new q i NotAChild s t moves h =
    refused_at old new q i NotAChild s t h.answer moves (h.keeps (λ is. absurd cc)) h.not_made
stopped_by old new q i Closed s t moves h =
    refused_at old new q i Closed s t h.answer moves (h.keeps (λ is. absurd cc)) h.not_made
stopped_by old new q i Failed s t moves h =
    refused_at old new q i Failed s t h.answer moves (h.keeps (λ is. absurd cc)) h.not_made
stopped_by old new q i NotInDoubt s t moves h =
    refused_at old new q i NotInDoubt s t h.answer moves (h.keeps (λ is. absurd cc)) h.not_made
stopped_by old new q i NothingToForget s t moves h =
    refused_at old new q i NothingToForget s t h.answer moves (h.keeps (λ is. absurd cc)) h.not_made
stopped_by old new q i NoSuch s t moves h =
    refused_at old new q i NoSuch s t h.answer moves (h.keeps (λ is. absurd cc)) h.not_made
stopped_by old new q i Exhausted s t moves h = (
  same_nodes old new q s t moves h.not_made.same (h.keeps (λ is. absurd cc)),
  subst (λ o. WantsNumbersAt o (old.data_at q) i) (sym moves.stood) (h.answer, h.answers, h.not_made.why),
)

pub stopped : {L A : Type 0} (es fs : List (ProcessId × Process L)) (q : ProcessId) (i : Input)
    (before behind : Process L) (made : Result A StepError)
    → node_in es q ≡ Some before → node_in fs q ≡ Some behind
    → ((p : ProcessId) → same_process q p ≡ false → node_in fs p ≡ node_in es p)
    → IfErr made (NotHandled (core_of before) (core_of behind) (data_of before) (data_of behind) i)
    → IfErr made (NoStepAt (kept_at es) (kept_at fs) q i)
stopped es fs q i before behind (Ok r) stood stands others h = tt
stopped es fs q i before behind (Err e) stood stands others h =
    stopped_by (kept_at es) (kept_at fs) q i e (core_of before) (core_of behind)
    (moves_at es fs q before behind stood stands others)
    (subst (λ d. NotHandled (core_of before) (core_of behind) d ((kept_at fs).data_at q) i e)
    (sym (data_stood es q before stood))
    (subst (λ d. NotHandled (core_of before) (core_of behind) (data_of before) d i e)
    (sym (data_stood fs q behind stands)) h))

-- the device failed under it
pub broken_under : {L A : Type 0} (es fs : List (ProcessId × Process L)) (q : ProcessId) (i : Input)
    (before behind : Process L) (made : Result A StepError)
    → node_in es q ≡ Some before → node_in fs q ≡ Some behind
    → ((p : ProcessId) → same_process q p ≡ false → node_in fs p ≡ node_in es p)
    → IfErr made (λ e. e ≡ Device → FailsUnder (core_of before) (core_of behind) (data_of before) i)
    → IfErr made (λ e. e ≡ Device → BreaksUnder (kept_at es) (kept_at fs) q i)
broken_under es fs q i before behind (Ok r) stood stands others h = tt
broken_under es fs q i before behind (Err e) stood stands others h = λ is. record {
  before = core_of before;
  behind = core_of behind;
  moves = moves_at es fs q before behind stood stands others;
  fails = subst (λ d. FailsUnder (core_of before) (core_of behind) d i)
      (sym (data_stood es q before stood)) (h is);
}
