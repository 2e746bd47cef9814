-- What comes of a line.
use Rattle.std.proofs.Common.{◌≡◌, ◌∙◌, ◌++◌, ◌⊎◌, ℕ, Bool, true, false, length, Option, Some, None, Result, Ok, Err, List, inl, inr, refl, ap, sym, subst}
use Rattle.std.specs.Prelude.{IfErr, IfOk, OnErr, OnOk}
use Rattle.std.specs.Result.{IsErrAnd}
use Rattle.std.specs.Str.{IsUtf8}
use Rattle.protocol.specs.declared.messages.Envelope.{Envelope}
use Rattle.protocol.specs.declared.names.ProcessId.{ProcessId}
use Rattle.protocol.specs.declared.events.Input.{Input}
use Rattle.protocol_words.specs.Variants.{ActInput, MessageInput}
use Rattle.protocol.specs.declared.events.Reaction.{Reaction}
use Rattle.protocol.specs.declared.events.StepError.{StepError}
use Rattle.protocol.specs.declared.events.StepError.TheVariants.{Memory, Device, NoSuch}
use Rattle.protocol.specs.Names.{same_process}
use Rattle.protocol.specs.Plays.{process_of_act}
use Rattle.protocol.specs.Trees.{root_of}
use Rattle.process_state.specs.States.{CoreState}
use Rattle.tree_state.specs.Worlds.{HandlesInput}
use Rattle.resource_manager.specs.Data.{ManagerData}
use Rattle.tree_process.specs.Nodes.{NotHandled, SpellsLog}
use Rattle.tree_process.specs.Restarts.{NoTrim}
use Rattle.tree_process.proofs.Same.{rests, same_core}
use Rattle.node_lines.specs.declared.asked.NodeLine.{NodeLine}
use Rattle.node_lines.specs.declared.asked.NodeLine.TheVariants as asked
use Rattle.node_lines.specs.Asked.{asked_at}
use Rattle.node_engine.specs.declared.failure.NodeFailure.{NodeFailure}
use Rattle.node_engine.specs.declared.failure.NodeFailure.TheVariants as failure
use Rattle.node_engine.specs.Answers.{AnswersAsked, AnswersIf, AnswersInput, AnswersLine, AnswersTrim, IsRefusal, IsUnrefused, IsUnshown, NodeState, Shows, NodeTakes, TakesAgain, TakesIf, TakesInput, TakesLine, TakesTrim, TellsOutcome, TellsStatus, hears, leaves_it, owed_at, records_at, status_by, takes_it}
use Rattle.node_answers.specs.declared.status.NodeStatus.{NodeStatus}
use Rattle.node_answers.specs.Texts.{news_text, ok_text, refused_text, status_text}
use Rattle.log_outcomes.specs.News.{news_in}
use Rattle.protocol.specs.declared.names.Txn.{Txn}

-- the same node, whose process keeps this
abbrev pub moved : NodeState → CoreState → ManagerData → NodeState
moved s core d = record s { core = core; holdings = d }

-- Inputs.

module _ {A E : Type 0} (items : A → List ℕ) (old : NodeState) (core : CoreState) (d : ManagerData)
    (input : Input) where
  pub shown_ok : (reaction : Reaction) (new : NodeState) (r : Result A E)
      → HandlesInput old.core core old.holdings d input reaction
      → IfOk r (λ text. Shows (moved old core d) new reaction (items text))
      → IfOk r (λ text. AnswersInput old new input (items text))
  shown_ok reaction new (Ok text) handles h = record {
    seat = record {
      tree = ap (λ (n : NodeState). n.tree) h.after;
      me = ap (λ (n : NodeState). n.me) h.after;
      manner = ap (λ (n : NodeState). n.manner) h.after;
      name = ap (λ (n : NodeState). n.name) h.after;
    };
    end = Ok reaction;
    took = subst (λ (n : NodeState). HandlesInput old.core n.core old.holdings n.holdings input reaction)
        (sym h.after) handles;
    told = (h.told, ap (λ (n : NodeState). n.sent) h.after);
  }
  shown_ok reaction new (Err e) handles h = tt

  pub refused_ok : (e : StepError) (r : Result A E)
      → NotHandled old.core core old.holdings d input e
      → IfOk r (λ text. items text ≡ refused_text old.manner e) → OnOk r (IsRefusal e)
      → IfOk r (λ text. AnswersInput old (moved old core d) input (items text))
  refused_ok e (Ok text) refuses told refusal = record {
    seat = record { tree = refl; me = refl; manner = refl; name = refl };
    end = Err e;
    took = refuses;
    told = (told, refl, refusal);
  }
  refused_ok e (Err f) refuses told refusal = tt

module _ {A : Type 0} (old : NodeState) (core : CoreState) (d : ManagerData) (input : Input) where
  pub shown_err : (reaction : Reaction) (new : NodeState) (r : Result A NodeFailure)
      → HandlesInput old.core core old.holdings d input reaction
      → OnErr r (new ≡ moved old core d) → IfErr r (IsUnshown old.sent reaction)
      → IfErr r (TakesInput old new input)
  shown_err reaction new (Ok text) handles h why = tt
  shown_err reaction new (Err e) handles h why = record {
    seat = record {
      tree = ap (λ (n : NodeState). n.tree) h;
      me = ap (λ (n : NodeState). n.me) h;
      manner = ap (λ (n : NodeState). n.manner) h;
      name = ap (λ (n : NodeState). n.name) h;
    };
    end = Ok reaction;
    took = subst (λ (n : NodeState). HandlesInput old.core n.core old.holdings n.holdings input reaction)
        (sym h) handles;
    untold = why;
  }

  pub refused_err : (e : StepError) (r : Result A NodeFailure)
      → NotHandled old.core core old.holdings d input e → IfErr r (IsUnrefused e)
      → IfErr r (TakesInput old (moved old core d) input)
  refused_err e (Ok text) refuses why = tt
  refused_err e (Err f) refuses why =
      record {
        seat = record { tree = refl; me = refl; manner = refl; name = refl };
        end = Err e;
        took = refuses;
        untold = why;
      }

-- Trims.

module _ {A E : Type 0} (items : A → List ℕ) (old : NodeState) (core : CoreState) (d : ManagerData) where
  pub trim_refused_ok : (e : StepError) (r : Result A E) → NoTrim old.core core old.holdings d e
      → IfOk r (λ text. items text ≡ refused_text old.manner e) → OnOk r (IsRefusal e)
      → IfOk r (λ text. AnswersTrim old (moved old core d) (items text))
  trim_refused_ok e (Ok text) refuses told refusal = record {
    seat = record { tree = refl; me = refl; manner = refl; name = refl };
    sent = refl;
    end = Err e;
    took = refuses;
    told = (told, refusal);
  }
  trim_refused_ok e (Err f) refuses told refusal = tt

module _ {A : Type 0} (old : NodeState) (core : CoreState) (d : ManagerData) where
  pub trim_refused_err : (e : StepError) (r : Result A NodeFailure) → NoTrim old.core core old.holdings d e
      → IfErr r (IsUnrefused e) → IfErr r (TakesTrim old (moved old core d))
  trim_refused_err e (Ok text) refuses why = tt
  trim_refused_err e (Err f) refuses why =
      record {
        seat = record { tree = refl; me = refl; manner = refl; name = refl };
        end = Err e;
        took = refuses;
        untold = why;
      }

-- Whose they are.

-- a process that was found is tested
pub process_tested : (p q me : ProcessId) (b d : Bool) → p ≡ q → b ≡ same_process p me → b ≡ d
    → same_process q me ≡ d
process_tested p q me b d is test so = ap (λ (x : ProcessId). same_process x me) (sym is) ∙ (sym test ∙ so)

module _ {A E : Type 0} (items : A → List ℕ) (mine : Bool) (old new : NodeState) (input : Input) where
  pub mine_ok : (r : Result A E) → mine ≡ true
      → IfOk r (λ text. AnswersInput old new input (items text))
      → IfOk r (λ text. AnswersIf mine old new input (items text))
  mine_ok r is h = rw is h

  pub others_ok : (r : Result A E) → mine ≡ false → new ≡ old
      → IfOk r (λ text. items text ≡ refused_text old.manner NoSuch)
      → IfOk r (λ text. AnswersIf mine old new input (items text))
  others_ok (Ok text) is same told = rw is (same, told)
  others_ok (Err e) is same told = tt

module _ {A : Type 0} (mine : Bool) (old new : NodeState) (input : Input) where
  pub mine_err : (r : Result A NodeFailure) → mine ≡ true
      → IfErr r (TakesInput old new input) → IfErr r (TakesIf mine old new input)
  mine_err (Ok text) is h = tt
  mine_err (Err e) is h = rw is (takes_it h)

  pub others_err : (r : Result A NodeFailure) → mine ≡ false → new ≡ old
      → IfErr r (IsUnrefused NoSuch) → IfErr r (TakesIf mine old new input)
  others_err (Ok text) is same why = tt
  others_err (Err failure.Memory) is same why = rw is (same, refl)
  others_err (Err failure.Read) is same why = absurd why
  others_err (Err failure.Write) is same why = absurd why
  others_err (Err failure.Device) is same why = absurd (let clash : NoSuch ≡ Device = why in cc)
  others_err (Err failure.Exhausted) is same why = absurd why

-- Outcomes.

module _ {A E : Type 0} (items : A → List ℕ) (x : Txn) (s : NodeState) where
  pub outcome_told : (b : Bool) (r : Result A E) → b ≡ true
      → IfOk r (λ text. items text ≡ news_text x (news_in (records_at s) x) ++ ok_text)
      → IfOk r (λ text. TellsOutcome b x s s (items text))
  outcome_told b (Ok text) is h = rw is (refl, h)
  outcome_told b (Err e) is h = tt

  pub outcome_refused : (b : Bool) (r : Result A E) → b ≡ false
      → IfOk r (λ text. items text ≡ refused_text s.manner NoSuch)
      → IfOk r (λ text. TellsOutcome b x s s (items text))
  outcome_refused b (Ok text) is h = rw is (refl, h)
  outcome_refused b (Err e) is h = tt

-- How the log stands.

module _ {A E : Type 0} (items : A → List ℕ) (s : NodeState) (log : List ℕ)
    (spells : SpellsLog s.core log) where
  pub status_told : (t : NodeStatus) (r : Result A E) → t ≡ status_by s (length log)
      → IfOk r (λ text. items text ≡ status_text t) → IfOk r (λ text. TellsStatus s (items text))
  status_told t (Ok text) is h = record { log = log; spells = spells; told = h ∙ ap status_text is }
  status_told t (Err e) is h = tt

-- Lines.

-- a failure that is passed on
pub passed_on : {A E : Type 0} (r : Result A E) (e : E) (P : E → Type 0) → IsErrAnd r (λ x. x ≡ e) → P e
    → IfErr r P
passed_on (Ok a) e P is h = tt
passed_on (Err x) e P is h = subst P (sym is) h

-- nothing is made where memory is refused before
if_nothing : (b : Bool) (s : NodeState) (i : Input) → TakesIf b s s i failure.Memory
if_nothing true s i = leaves_it (refl, refl)
if_nothing false s i = (refl, refl)

again_nothing : (o : Option (List Envelope)) (s : NodeState) → TakesAgain o s s failure.Memory
again_nothing None s = (refl, refl)
again_nothing (Some es) s = (refl, tt)

pub takes_nothing : (a : NodeLine) (s : NodeState) → NodeTakes a s s failure.Memory
takes_nothing asked.Nothing s = (refl, refl)
takes_nothing (asked.Act a) s = if_nothing
    (same_process (process_of_act (root_of s.tree) a) s.me) s (ActInput a)
takes_nothing (asked.Message n e) s = if_nothing (hears s e) s (MessageInput n e.message)
takes_nothing asked.Trim s = record {
  seat = record { tree = refl; me = refl; manner = refl; name = refl };
  end = Err Memory;
  took = (same_core s.core, rests s.holdings);
  untold = λ e. absurd (cc);
}
takes_nothing asked.Doubt s = (refl, refl)
takes_nothing (asked.Outcome x) s = (refl, refl)
takes_nothing (asked.Again c) s = again_nothing (owed_at s c) s
takes_nothing asked.Status s = (refl, refl)
takes_nothing asked.Log s = (refl, refl)
takes_nothing asked.Data s = (refl, refl)
takes_nothing asked.Help s = (refl, refl)
takes_nothing asked.End s = (refl, refl)
takes_nothing (asked.Resolve name) s = (refl, refl)
takes_nothing asked.Unknown s = (refl, refl)
takes_nothing asked.NoText s = (refl, refl)

module _ {A E : Type 0} (items : A → List ℕ) (line : List ℕ) (a : NodeLine) (old new : NodeState)
    (r : Result A E) (text : IsUtf8 line) (is : a ≡ asked_at (root_of old.tree) line) where
  pub line_answered : IfOk r (λ t. AnswersAsked a old new (items t))
      → IfOk r (λ t. AnswersLine line old new (items t))
  line_answered h = by_result r h
    where
      by_result : (q : Result A E) → IfOk q (λ t. AnswersAsked a old new (items t))
          → IfOk q (λ t. AnswersLine line old new (items t))
      by_result (Ok t) g = record { asked = a; asks = inl (text, is); answers = g }
      by_result (Err e) g = tt

module _ {A : Type 0} (line : List ℕ) (a : NodeLine) (old new : NodeState) (text : IsUtf8 line)
    (is : a ≡ asked_at (root_of old.tree) line) where
  pub line_taken : (r : Result A NodeFailure) → IfErr r (NodeTakes a old new)
      → IfErr r (TakesLine line old new)
  line_taken (Ok t) h = tt
  line_taken (Err e) h = record { asked = a; asks = inl (text, is); takes = h }
