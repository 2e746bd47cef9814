-- What a node answers to `resolve` is how the transaction ends.
use Rattle.std.specs.Prelude.{◌≡◌, ◌⊎◌, ℕ, Some, List}
use Rattle.protocol.specs.declared.events.StepError.TheVariants.{NoSuch}
use Rattle.protocol.specs.declared.names.Case.{Case}
use Rattle.protocol.specs.declared.names.Outcome.{Outcome}
use Rattle.protocol.specs.Outcomes.{outcome_of}
use Rattle.protocol.specs.Trees.{IsTree}
use Rattle.protocol.specs.World.{Made, World}
use Rattle.protocol.specs.Audits.{AllUp}
use Rattle.tree_state.specs.Worlds.{WorldState}
use Rattle.proof_runs.specs.worlds.Follows.{FollowsBehindFaults}
use Rattle.branch_names.specs.declared.cases.Naming.{Naming}
use Rattle.branch_names.specs.declared.cases.Naming.TheVariants as naming
use Rattle.branch_names.specs.Cases.{IsNaming}
use Rattle.resolve_engine.specs.declared.answer.BranchAnswer.{BranchAnswer}
use Rattle.resolve_engine.specs.Answers.{word_by}
use Rattle.resolve_engine.specs.Truths.{IsCaseLeft}
use Rattle.node_answers.specs.declared.refusing.Nothing.TheVariants.{NoText}
use Rattle.node_answers.specs.Texts.{error_text, refused_text}
use Rattle.node_lines.specs.declared.asked.NodeLine.TheVariants as asked
use Rattle.node_engine.specs.Answers.{AnswersLine, NodeState}
use Rattle.node_engine.specs.Branches.{name_text, own_logs}
use Rattle.proof_nodes.specs.Nodes.{Sits}

-- The answer says commit or rollback as the transaction ends of the case that the name is of; of a case of
-- which an audit of this world tells, and that is in doubt there, if it is not the node's own.
abbrev pub EndsSo : NodeState → World → List ℕ → Naming → BranchAnswer → Type 0
EndsSo n w log of a = (c : Case) → of ≡ naming.Case c → IsCaseLeft n.tree (own_logs n.me log) w c
    → (o : Outcome)
    → a.word ≡ word_by o → outcome_of w c.txn ≡ o

-- the text tells an answer to the name, and that is so
pub record TellsTruly (n : NodeState) (w : World) (name text : List ℕ) : Type 0 where
  pub of : Naming
  pub named : IsNaming n.tree n.name name of
  pub log : List ℕ
  pub answer : BranchAnswer
  pub told : text ≡ name_text n.manner name (Some answer)
  pub so : EndsSo n w log of answer

-- it does so, or refuses to tell: the log does not read, or the name is no text
abbrev pub TellsBranch : NodeState → World → List ℕ → List ℕ → Type 0
TellsBranch n w name text =
    TellsTruly n w name text ⊎ ((text ≡ refused_text n.manner NoSuch) ⊎ (text ≡ error_text n.manner NoText))

-- Where the state of a tree stands for a run in which no process is failed now, what a node answers to
-- `resolve` is how the transaction ends.
abbrev pub BranchesAreTold : Type 0
BranchesAreTold = (s : WorldState) (es : List Made) (w : World) → IsTree s.tree → FollowsBehindFaults es w s
    → AllUp s.tree w → (old new : NodeState) → Sits s old
    → (line text name : List ℕ) (h : AnswersLine line old new text)
    → h.asked ≡ asked.Resolve name → TellsBranch old w name text
