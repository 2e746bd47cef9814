-- What is answered of a name stays true, however the run that left the logs goes on.
use Rattle.std.specs.Prelude.{◌≡◌, Bool, true, false, List, [], ◌∷◌}
use Rattle.protocol.specs.declared.events.Happening.{Happening}
use Rattle.protocol.specs.declared.events.Happening.TheVariants.{Restart}
use Rattle.protocol.specs.declared.names.Case.{Case}
use Rattle.protocol.specs.declared.names.Outcome.{Outcome}
use Rattle.protocol.specs.declared.names.Outcome.TheVariants.{Committed, Aborted}
use Rattle.protocol.specs.declared.names.Txn.{Txn}
use Rattle.protocol.specs.declared.trees.TreeProcess.{TreeProcess}
use Rattle.protocol.specs.Outcomes.{outcome_of}
use Rattle.protocol.specs.Trees.{IsTree}
use Rattle.protocol.specs.World.{Continues, Made, World, made_by}
use Rattle.log_script.specs.declared.line.ProcessLog.{ProcessLog}
use Rattle.audit_tree.specs.Reports.{kept_lists}
use Rattle.resolve_engine.specs.declared.asked.Trust.{Trust}
use Rattle.resolve_engine.specs.declared.asked.Trust.TheVariants.{Complete, Parts}
use Rattle.resolve_engine.specs.Answers.{answer_of, word_by}
use Rattle.resolve_engine.specs.Truths.{AreLogsKept, IsCaseLeft}

-- A process that did not run goes on by a restart.

-- what happens is a restart
abbrev pub is_restart : Happening → Bool
is_restart (Restart k) = true
is_restart _ = false

-- by the moves before this one, of which this is said: said of them, or that the first move is a restart
abbrev pub restarts_by : Made → List Made → Bool → Bool
restarts_by e [] said = is_restart e.move.step.happening
restarts_by e (f ∷ fs) said = said

-- the first of these moves, the newest first, is a restart, if there is one
unfoldable pub restarts_first : List Made → Bool
restarts_first [] = true
restarts_first (e ∷ es) = restarts_by e es (restarts_first es)

-- What stays.

-- however the run goes on, this is the outcome
abbrev pub Stays : List TreeProcess → World → Txn → Outcome → Type 0
Stays tree w x o = (es : List Made) (later : World) → Continues tree w es later → outcome_of later x ≡ o

-- so it is where the root of the transaction makes no move before its restart
abbrev pub StaysAfterRestart : List TreeProcess → World → Txn → Outcome → Type 0
StaysAfterRestart tree w x o = (es : List Made) (later : World) → Continues tree w es later
    → restarts_first (made_by x.root es) ≡ true → outcome_of later x ≡ o

-- A commit stays, and so does an abort that the logs say; an abort that is found since the logs are complete
-- rests on what is not in them: it stays, as no process ran when they were read.
abbrev pub StaysBy : Trust → Outcome → List TreeProcess → World → Txn → Type 0
StaysBy Complete Aborted tree w x = StaysAfterRestart tree w x Aborted
StaysBy Complete Committed tree w x = Stays tree w x Committed
StaysBy Parts o tree w x = Stays tree w x o

-- whichever run left the logs, an answer that says commit or rollback is how the case's transaction ends,
-- then and ever after
abbrev pub AnswersLast : Type 0
AnswersLast = (tree : List TreeProcess) (logs : List ProcessLog) (es : List Made) (w : World) → IsTree tree
    → AreLogsKept tree logs es w → (c : Case) → IsCaseLeft tree logs w c → (t : Trust) (o : Outcome)
    → (answer_of t tree logs (kept_lists tree logs) c).word ≡ word_by o → StaysBy t o tree w c.txn
