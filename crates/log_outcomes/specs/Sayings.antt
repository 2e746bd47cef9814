-- What a record of a log says of its case.
use Rattle.std.specs.Prelude.{Option, Some, None}
use Rattle.protocol.specs.declared.names.Case.{Case}
use Rattle.protocol_words.specs.outcome
use Rattle.protocol.specs.declared.records.BranchName.{BranchName}
use Rattle.protocol.specs.declared.records.Record.{Record}
use Rattle.protocol_words.specs.record_of
use Rattle.protocol.specs.Records.{branch_case}
use Rattle.log_outcomes.specs.declared.saying.SayingStage.{SayingStage}
use Rattle.log_outcomes.specs.declared.saying.SayingStage.TheVariants.{Open, Doubt, Decided, Ended, Over}

-- a case, and how far a record says that it has come
abbrev pub Saying : Type 0
Saying = Option (Case × SayingStage)

-- what a record of a branch says that has come so far, by the branch's case; nothing, if it is no case
abbrev pub of_case : Option Case → SayingStage → Saying
of_case None stage = None
of_case (Some c) stage = Some (c, stage)

-- what a record of a branch says that has come so far
abbrev pub saying_of_branch : BranchName → SayingStage → Saying
saying_of_branch b stage = of_case (branch_case b) stage

-- what a record says: a case collects votes; it is in doubt, having promised; an operator decided it, and it
-- waits to be told; it ended by its own decision, or was told how; or it is forgotten
abbrev pub saying_of : Record → Saying
saying_of (record_of.Opened n) = None
saying_of (record_of.Collecting c ts) = Some (c, Open)
saying_of (record_of.Prepare c ts) = Some (c, Doubt)
saying_of (record_of.Commit c ts) = Some (c, Ended outcome.Committed)
saying_of (record_of.Abort c ts) = Some (c, Ended outcome.Aborted)
saying_of (record_of.End c r) = Some (c, Over)
saying_of (record_of.Cleared c) = Some (c, Over)
saying_of (record_of.Prepared b ws) = saying_of_branch b Doubt
saying_of (record_of.Committed b) = saying_of_branch b (Ended outcome.Committed)
saying_of (record_of.RolledBack b) = saying_of_branch b (Ended outcome.Aborted)
saying_of (record_of.Direct b ws) = saying_of_branch b (Ended outcome.Committed)
saying_of (record_of.HeurCommit b) = saying_of_branch b (Decided outcome.Committed)
saying_of (record_of.HeurRollback b) = saying_of_branch b (Decided outcome.Aborted)
saying_of (record_of.Told b o) = saying_of_branch b (Ended o)
saying_of (record_of.Forgot b) = saying_of_branch b Over
saying_of (record_of.Base n) = None
saying_of (record_of.Pair k v) = None
