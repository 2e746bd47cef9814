-- What operators decided of branches, and what these were told since (C193, heuristic branch completion).
use Rattle.std.specs.Prelude.{if◌then◌else◌, Option, Some, None, List, fold, map}
use Rattle.xa_codes.specs.declared.code.Code.{Code}
use Rattle.xa_codes.specs.declared.code.Code.TheVariants.{HeurCom, HeurRb}
use Rattle.xa_tables.specs.declared.states.BranchState.{BranchState}
use Rattle.xa_tables.specs.declared.states.BranchState.TheVariants.{S5}
use Rattle.protocol.specs.declared.names.Outcome.{Outcome}
use Rattle.protocol.specs.declared.names.Outcome.TheVariants.{Committed, Aborted}
use Rattle.protocol.specs.declared.records.BranchName.{BranchName}
use Rattle.protocol.specs.declared.records.Record.{Record}
use Rattle.protocol.specs.declared.records.Record.TheVariants.{Prepared, HeurCommit, HeurRollback, Told, Forgot}
use Rattle.protocol.specs.Records.{same_branch}
use Rattle.protocol.specs.declared.records.BranchName.TheVariants.{Foreign}
use Rattle.protocol.specs.declared.records.LogRecord.{LogRecord}
use Rattle.protocol.specs.LogNames.{by_xid}
use Rattle.xa_branch.specs.declared.decision.Decision.{Decision}
use Rattle.xa_xid.specs.declared.xid.Xid.{Xid}

-- the answer to an outcome after a decision
abbrev pub heur_code : Outcome → Code
heur_code Committed = HeurCom
heur_code Aborted = HeurRb

-- a decision by which the branch was told nothing yet
abbrev pub decided_as : Outcome → Decision
decided_as o = record { outcome = o; told = None }

-- the first outcome of which it was told: that one stays
abbrev pub first_told : Outcome → Option Outcome → Option Outcome
first_told o None = Some o
first_told o (Some told) = Some told

-- a decision after an outcome that comes
abbrev pub told_behind : Outcome → Decision → Decision
told_behind o d = record { outcome = d.outcome; told = first_told o d.told }

-- what is known of a branch after one more record, of which this was known: nothing after its promise and
-- once it is forgotten; records of others leave it
abbrev pub decision_after : BranchName → Decision → Record → Decision
decision_after b d (Prepared a ws) = if same_branch a b then decided_as Aborted else d
decision_after b d (Forgot a) = if same_branch a b then decided_as Aborted else d
decision_after b d (HeurCommit a) = if same_branch a b then decided_as Committed else d
decision_after b d (HeurRollback a) = if same_branch a b then decided_as Aborted else d
decision_after b d (Told a o) = if same_branch a b then record { outcome = d.outcome; told = Some o } else d
decision_after b d _ = d

-- what an operator decided of a branch by these records, and what it was told since; if none did, this
-- says nothing
unfoldable pub decision_of : BranchName → List Record → Decision
decision_of b rs = fold (decision_after b) (decided_as Aborted) rs

-- what an operator decided of a branch by the records of a log, and what it was told since
abbrev pub decided_in : List LogRecord → Xid → Decision
decided_in ls x = decision_of (Foreign x) (map by_xid ls)

-- the decision of a branch in a state: there is one in S5 alone
abbrev pub decision_at : BranchState → Decision → Option Decision
decision_at S5 d = Some d
decision_at _ d = None
