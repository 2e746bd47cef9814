-- What is to be done with a prepared branch, by the log of one process that runs.
use Rattle.std.specs.Prelude.{◌≡◌, ◌&&◌, ℕ, Bool, true, is_some, Option, Some, None, List, [], ◌∷◌, ◌++◌, codes}
use Rattle.protocol.specs.declared.events.StepError.TheVariants.{NoSuch}
use Rattle.protocol.specs.declared.names.ProcessId.{ProcessId}
use Rattle.protocol.specs.declared.standings.Standing.{Standing}
use Rattle.protocol.specs.declared.standings.Standing.TheVariants.{Unknown}
use Rattle.protocol.specs.declared.trees.TreeProcess.{TreeProcess}
use Rattle.protocol.specs.Names.{root_case}
use Rattle.protocol.specs.Trees.{IsTree}
use Rattle.process_state.specs.States.{CoreState}
use Rattle.log_script.specs.declared.line.ProcessLog.{ProcessLog}
use Rattle.log_script.specs.Faults.{first_damage}
use Rattle.audit_tree.specs.Reports.{kept_lists}
use Rattle.branch_names.specs.declared.cases.Naming.{Naming}
use Rattle.branch_names.specs.declared.cases.Naming.TheVariants as naming
use Rattle.resolve_engine.specs.declared.answer.BranchAnswer.{BranchAnswer}
use Rattle.resolve_engine.specs.declared.asked.Trust.{Trust}
use Rattle.resolve_engine.specs.declared.asked.Trust.TheVariants.{Complete, Parts}
use Rattle.resolve_engine.specs.Answers.{answer_of}
use Rattle.resolve_engine.specs.Reports.{naming_answer}
use Rattle.resolve_engine.specs.Texts.{line_text}
use Rattle.node_answers.specs.declared.refusing.Manner.{Manner}
use Rattle.node_answers.specs.Texts.{ok_text, refused_text}

-- the log of the process alone
abbrev pub own_logs : ProcessId → List ℕ → List ProcessLog
own_logs me log = record { process = me; bytes = log } ∷ []

-- What is not in the log counts at the root alone, of branches below it, and only if their transaction is not
-- under way: nothing but the log says anything of it then. Of all others just what is in the log counts.
abbrev pub trust_by : Bool → Standing → Trust
trust_by true Unknown = Complete
trust_by root standing = Parts

-- how far the log of this process counts of what a name is of
abbrev pub trust_of : Bool → CoreState → Naming → Trust
trust_of root s (naming.Case c) = trust_by (root && is_some c.ticket) (s.view_of (root_case c.txn)).standing
trust_of root s n = Parts

-- this is answered of what a name is of, by these logs; nothing, if one of them does not read
abbrev pub IsBranchAnswer : List TreeProcess → List ProcessLog → Trust → Naming → Option BranchAnswer → Type 0
IsBranchAnswer tree logs t n (Some a) =
    (first_damage tree logs ≡ None) × (a ≡ naming_answer (answer_of t tree logs (kept_lists tree logs)) n)
IsBranchAnswer tree logs t n None =
    IsTree tree → (q : ProcessId) × (place : ℕ) × (first_damage tree logs ≡ Some (q, place))

-- what is told of a name, and `ok`; without an answer there is a refusal
abbrev pub name_text : Manner → List ℕ → Option BranchAnswer → List ℕ
name_text m name (Some a) = codes "resolve " ++ line_text name a ++ ok_text
name_text m name None = refused_text m NoSuch
