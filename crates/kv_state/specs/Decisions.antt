-- What the records of a log say of operators' decisions.
use Rattle.std.specs.Prelude.{◌≡◌, Bool, true, false, if◌then◌else◌, is_some, Option, Some, None, List, map}
use Rattle.xa_xid.specs.declared.xid.Xid.{Xid}
use Rattle.xa_branch.specs.declared.decision.Decision.{Decision}
use Rattle.xa_branch.specs.Decisions.{decided_as, decided_in}
use Rattle.xa_branch.specs.Cases.{DecisionTable, decision_in, decision_or}
use Rattle.protocol_words.specs.Variants.{AbortedOutcome, CommittedOutcome}
use Rattle.protocol.specs.declared.records.BranchName.{BranchName}
use Rattle.protocol.specs.declared.records.BranchName.TheVariants.{Foreign}
use Rattle.protocol.specs.declared.records.LogRecord.{LogRecord}
use Rattle.protocol.specs.declared.records.Record.{Record}
use Rattle.protocol.specs.declared.records.Record.TheVariants.{Prepared, HeurCommit, HeurRollback, Told, Forgot}
use Rattle.protocol.specs.Records.{same_branch}
use Rattle.protocol.specs.Standings.{Decided, Mark, ToldOf, mark_of}
use Rattle.protocol.specs.LogNames.{by_xid}

-- what is known of an operator's decision of a branch after one more record, of which this was known
abbrev pub known_after : BranchName → Option Decision → Record → Option Decision
known_after b known (Prepared a ws) = if same_branch a b then None else known
known_after b known (HeurCommit a) = if same_branch a b then Some (decided_as CommittedOutcome) else known
known_after b known (HeurRollback a) = if same_branch a b then Some (decided_as AbortedOutcome) else known
known_after b known (Told a o) =
    if same_branch a b then Some (record { outcome = (decision_or known).outcome; told = Some o }) else known
known_after b known (Forgot a) = if same_branch a b then None else known
known_after b known _ = known

-- a record of a log was noted
abbrev pub NotesRecord : DecisionTable → DecisionTable → LogRecord → Type 0
NotesRecord old new l = (x : Xid) → decision_in new x ≡ known_after (Foreign x) (decision_in old x) (by_xid l)

-- the last record of a branch says that an operator decided it
abbrev pub says_decided : Mark → Bool
says_decided Decided = true
says_decided (ToldOf o) = true
says_decided _ = false

-- what operators decided by the records of a log, each branch by its XID; of one whose last record says that
-- an operator decided it, it is known how
pub record KnowDecided (ls : List LogRecord) (t : DecisionTable) : Type 0 where
  pub each : (x : Xid) → decision_or (decision_in t x) ≡ decided_in ls x
  pub known : (x : Xid) → says_decided (mark_of (Foreign x) (map by_xid ls)) ≡ true
      → is_some (decision_in t x) ≡ true
