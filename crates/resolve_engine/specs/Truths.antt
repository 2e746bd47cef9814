-- What is answered of a name is true of the run that left the logs.
use Rattle.std.specs.Prelude.{◌≡◌, true, false, None, List}
use Rattle.protocol.specs.declared.names.Case.{Case}
use Rattle.protocol.specs.declared.names.Outcome.{Outcome}
use Rattle.protocol.specs.declared.names.ProcessId.{ProcessId}
use Rattle.protocol.specs.declared.trees.TreeProcess.{TreeProcess}
use Rattle.protocol.specs.Names.{process_of}
use Rattle.protocol.specs.Nodes.{is_listed, kept}
use Rattle.protocol.specs.Outcomes.{outcome_of}
use Rattle.protocol.specs.Trees.{IsTree}
use Rattle.protocol.specs.World.{IsRun, Made, World}
use Rattle.log_script.specs.declared.line.ProcessLog.{ProcessLog}
use Rattle.log_script.specs.Logs.{has_log}
use Rattle.protocol.specs.Audits.{AllUp, has_line, logs_of_world, own_decision}
use Rattle.audit_tree.specs.Reports.{kept_lists}
use Rattle.resolve_engine.specs.declared.asked.Trust.{Trust}
use Rattle.resolve_engine.specs.Answers.{answer_of, word_by}

-- these moves are a run of the model to this world, in which no process of the tree is failed, and each log
-- that is here reads as the list that its process keeps there
pub record AreLogsKept (tree : List TreeProcess) (logs : List ProcessLog) (es : List Made)
    (w : World) : Type 0 where
  pub is_run : IsRun tree es w
  pub all_up : AllUp tree w
  pub kept_there : (q : ProcessId) → is_listed tree q ≡ true → has_log logs q ≡ true
      → kept_lists tree logs q ≡ kept (w.at q)

-- an audit of that world tells of the case; and if the log of its own process is not here, the case is in
-- doubt there
pub record IsCaseLeft (tree : List TreeProcess) (logs : List ProcessLog) (w : World) (c : Case) : Type 0 where
  pub line : has_line tree (logs_of_world w) c ≡ true
  pub in_doubt : has_log logs (process_of c) ≡ false → own_decision c (logs_of_world w (process_of c)) ≡ None

-- whichever run left the logs, an answer that says commit or rollback is how the case's transaction ends
abbrev pub AnswersAreTrue : Type 0
AnswersAreTrue = (tree : List TreeProcess) (logs : List ProcessLog) (es : List Made) (w : World) → IsTree tree
    → AreLogsKept tree logs es w → (c : Case) → IsCaseLeft tree logs w c → (t : Trust) (o : Outcome)
    → (answer_of t tree logs (kept_lists tree logs) c).word ≡ word_by o → outcome_of w c.txn ≡ o
