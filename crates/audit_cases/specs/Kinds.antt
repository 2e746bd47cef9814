-- What the records of a case say to an audit: which kinds of them there are, and what follows.
use Rattle.std.specs.Prelude.{Bool, true, false, not, ◌&&◌, ◌||◌, Option, List}
use Rattle.protocol.specs.declared.names.Case.{Case}
use Rattle.protocol.specs.declared.names.Outcome.{Outcome}
use Rattle.protocol_words.specs.Variants.{AbortedOutcome, CommittedOutcome}
use Rattle.protocol.specs.declared.records.Record.{Record}
use Rattle.protocol.specs.declared.records.Record.TheVariants.{Opened, Collecting, Prepare, Commit, Abort, End, Prepared, Committed, RolledBack, Direct, HeurCommit, HeurRollback, Told, Forgot, Base, Pair, Cleared}
use Rattle.protocol.specs.Records.{has, is_abort, is_collecting, is_commit, is_committed, is_decided, is_end, is_forgot, is_prepare, is_prepared, is_rolled_back}
use Rattle.protocol.specs.Nodes.{Role, AtRoot, Below, AtLeaf}
use Rattle.protocol.specs.Audits.{is_committing, is_promise, is_told_of}
use Rattle.protocol.specs.Audits.{decision_by}
use Rattle.audit_cases.specs.declared.kinds.Kinds.{Kinds}
use Rattle.audit_cases.specs.declared.kinds.Own.{Own}
use Rattle.audit_cases.specs.declared.kinds.Own.TheVariants as own

-- Own words.

-- an operator's decision; else the case's own; else that it is in doubt, where it promised; else that it
-- collects votes
abbrev pub own_by : Bool → Bool → Bool → Bool → Bool → Own
own_by true _ _ _ _ = own.HeurCommit
own_by false true _ _ _ = own.HeurRollback
own_by false false true _ _ = own.Commit
own_by false false false true _ = own.Abort
own_by false false false false true = own.InDoubt
own_by false false false false false = own.Collecting

-- the case ended by an abort: RolledBack or Abort
abbrev pub is_aborting : Case → Record → Bool
is_aborting c r = is_rolled_back c r || is_abort c r

-- how a case stands by these records of its own
abbrev pub own_of : Case → List Record → Own
own_of c rs =
    own_by (has (is_decided c CommittedOutcome) rs) (has (is_decided c AbortedOutcome) rs)
    (has (is_committing c) rs) (has (is_aborting c) rs) (has (is_promise c) rs)

-- Kinds.

-- no record
abbrev pub no_kinds : Kinds
no_kinds = record {
  collecting = false;
  prepare = false;
  commit = false;
  abort = false;
  ended = false;
  prepared = false;
  committed = false;
  rolled_back = false;
  heur_commit = false;
  heur_rollback = false;
  told_commit = false;
  told_abort = false;
  forgot = false;
}

-- which records there are of the case among these
abbrev pub kinds_of : Case → List Record → Kinds
kinds_of c rs = record {
  collecting = has (is_collecting c) rs;
  prepare = has (is_prepare c) rs;
  commit = has (is_commit c) rs;
  abort = has (is_abort c) rs;
  ended = has (is_end c) rs;
  prepared = has (is_prepared c) rs;
  committed = has (is_committed c) rs;
  rolled_back = has (is_rolled_back c) rs;
  heur_commit = has (is_decided c CommittedOutcome) rs;
  heur_rollback = has (is_decided c AbortedOutcome) rs;
  told_commit = has (is_told_of c CommittedOutcome) rs;
  told_abort = has (is_told_of c AbortedOutcome) rs;
  forgot = has (is_forgot c) rs;
}

-- which there are after one more record of the case; a Prepared begins again
abbrev pub kinds_after : Kinds → Record → Kinds
kinds_after k (Collecting c ts) = record k { collecting = true }
kinds_after k (Prepare c ts) = record k { prepare = true }
kinds_after k (Commit c ts) = record k { commit = true }
kinds_after k (Abort c ts) = record k { abort = true }
kinds_after k (End c rep) = record k { ended = true }
kinds_after k (Cleared c) = k
kinds_after k (Prepared b ws) = record no_kinds { prepared = true }
kinds_after k (Committed b) = record k { committed = true }
kinds_after k (RolledBack b) = record k { rolled_back = true }
kinds_after k (HeurCommit b) = record k { heur_commit = true }
kinds_after k (HeurRollback b) = record k { heur_rollback = true }
kinds_after k (Told b CommittedOutcome) = record k { told_commit = true }
kinds_after k (Told b AbortedOutcome) = record k { told_abort = true }
kinds_after k (Forgot b) = record k { forgot = true }
kinds_after k (Direct b ws) = k
kinds_after k (Opened n) = k
kinds_after k (Base n) = k
kinds_after k (Pair key value) = k

-- What follows from them.

-- the case's own decision, or what it was told; none where it is in doubt, or ended with no decision
abbrev pub decision_in : Kinds → Option Outcome
decision_in k = decision_by ((k.committed || k.commit) || k.told_commit)
    ((k.rolled_back || k.told_abort) || k.abort) ((k.prepared || k.prepare) || k.ended)

-- how the case stands
abbrev pub own_in : Kinds → Own
own_in k = own_by k.heur_commit k.heur_rollback (k.committed || k.commit) (k.rolled_back || k.abort)
    (k.prepared || k.prepare)

-- an operator decided it so
abbrev pub decided_in : Kinds → Outcome → Bool
decided_in k CommittedOutcome = k.heur_commit
decided_in k AbortedOutcome = k.heur_rollback

-- the case of a process with this role has a line
abbrev pub line_in : Role → Kinds → Bool
line_in AtRoot k = (k.commit || k.abort) || (k.collecting && not k.ended)
line_in (Below p) k = k.prepare
line_in (AtLeaf p) k = k.prepared && not k.forgot
