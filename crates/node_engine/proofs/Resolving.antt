-- What is told of a branch.
use Rattle.std.proofs.Common.{◌≡◌, ◌∙◌, ◌⊎◌, ℕ, Bool, true, false, Option, Some, None, Result, Ok, Err, List, inl, inr, refl, sym, ap, subst}
use Rattle.std.specs.Prelude.{IfOk}
use Rattle.std.specs.Str.{IsUtf8}
use Rattle.protocol.specs.declared.names.ProcessId.{ProcessId}
use Rattle.protocol.specs.declared.trees.TreeProcess.{TreeProcess}
use Rattle.protocol.specs.declared.trees.TreeError.{TreeError}
use Rattle.protocol.specs.declared.trees.TreeError.TheVariants.{Empty, TooMany, TooDeep, TwoParents, Cycle, ManagerWithChildren, Unknown, Roots}
use Rattle.protocol.specs.Trees.{IsFirstFault, IsTree, has_fault}
use Rattle.tree_process.specs.Nodes.{SpellsLog}
use Rattle.log_script.specs.declared.line.ProcessLog.{ProcessLog}
use Rattle.log_script.specs.Faults.{first_damage}
use Rattle.branch_names.specs.declared.cases.Naming.{Naming}
use Rattle.branch_names.specs.Cases.{IsNaming}
use Rattle.resolve_engine.specs.declared.answer.BranchAnswer.{BranchAnswer}
use Rattle.resolve_engine.specs.declared.asked.Trust.{Trust}
use Rattle.node_answers.specs.declared.refusing.Nothing.TheVariants.{NoText}
use Rattle.node_answers.specs.Texts.{error_text}
use Rattle.node_engine.specs.Answers.{FindsInLog, NodeState, Resolves, TellsName, is_root}
use Rattle.node_engine.specs.Branches.{IsBranchAnswer, name_text, own_logs, trust_of}

clash : {A : Type 0} (b : Bool) → b ≡ true → b ≡ false → A
clash true h k = absurd (cc)
clash false h k = absurd (cc)

-- a tree has none of the faults
no_tree : {A : Type 0} (es : List TreeProcess) (error : TreeError) → IsFirstFault es error → IsTree es → A
no_tree es Empty h t = clash (has_fault es Empty) h.is_there t.not_empty
no_tree es TooMany h t = clash (has_fault es TooMany) h.is_there t.not_too_many
no_tree es TwoParents h t = clash (has_fault es TwoParents) h.is_there t.listed_once
no_tree es Unknown h t = clash (has_fault es Unknown) h.is_there t.parents_listed
no_tree es Cycle h t = clash (has_fault es Cycle) h.is_there t.climbs_end
no_tree es Roots h t = clash (has_fault es Roots) h.is_there t.one_coordinator_on_top
no_tree es ManagerWithChildren h t = clash (has_fault es ManagerWithChildren) h.is_there t.managers_are_leaves
no_tree es TooDeep h t = clash (has_fault es TooDeep) h.is_there t.not_too_deep

module _ (tree : List TreeProcess) (logs : List ProcessLog) (trust : Trust) (of : Naming) where
  pub none_of_a_fault : (error : TreeError) → IsFirstFault tree error → IsBranchAnswer tree logs trust of None
  none_of_a_fault error h = λ t. no_tree tree error h t

  pub none_of_a_damage : (q : ProcessId) (place : ℕ) → first_damage tree logs ≡ Some (q, place)
      → IsBranchAnswer tree logs trust of None
  none_of_a_damage q place h = λ t. (q, place, h)

-- what was found by the log is what the node finds
pub found_at : (s : NodeState) (of : Naming) (log : List ℕ) (t : Trust) (a : Option BranchAnswer)
    → SpellsLog s.core log
    → t ≡ trust_of (is_root s) s.core of → IsBranchAnswer s.tree (own_logs s.me log) t of a
    → FindsInLog s of a
found_at s of log t a spells is h = record {
  log = log;
  spells = spells;
  is_answer = subst (λ (x : Trust). IsBranchAnswer s.tree (own_logs s.me log) x of a) is h;
}

module _ (s : NodeState) (name text : List ℕ) where
  pub resolved_at : (of : Naming) (answer : Option BranchAnswer) → IsNaming s.tree s.name name of
      → FindsInLog s of answer
      → text ≡ name_text s.manner name answer → Resolves s name text
  resolved_at of answer named finds told =
      record { of = of; named = named; answer = answer; finds = finds; told = told }

  pub no_text_at : (IsUtf8 name → ⊥) → text ≡ error_text s.manner NoText → TellsName s name text
  no_text_at is told = inr (is, told)

-- a name that is a text
pub text_so : {A E : Type 0} (items : A → List ℕ) (s : NodeState) (name : List ℕ) (r : Result A E)
    → IsUtf8 name
    → IfOk r (λ text. Resolves s name (items text)) → IfOk r (λ text. TellsName s name (items text))
text_so items s name (Ok text) is h = inl (is, h)
text_so items s name (Err e) is h = tt
