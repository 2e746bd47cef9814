-- The reaction table of resource managers: for each standing and input of a branch what is written and sent,
-- and the new view. What the manager's data answer comes with the input.
use Rattle.std.specs.Prelude.{◌+◌, ℕ, Bool, true, false, ◌==◌, ◌&&◌, not, if◌then◌else◌, Option, Some, None, List, [], ◌∷◌}
use Rattle.protocol.specs.declared.names.Case.{Case}
use Rattle.protocol.specs.declared.names.ProcessId.{ProcessId}
use Rattle.protocol.specs.declared.names.Outcome.{Outcome}
use Rattle.protocol.specs.declared.names.Outcome.TheVariants.{Committed as CommittedOutcome, Aborted as AbortedOutcome}
use Rattle.protocol.specs.declared.names.Presumption.{Presumption}
use Rattle.protocol.specs.declared.names.Presumption.TheVariants.{PresumeAbort, PresumeCommit}
use Rattle.protocol.specs.declared.messages.Finding.{Finding}
use Rattle.protocol.specs.declared.messages.Message.{Message}
use Rattle.protocol.specs.declared.messages.Message.TheVariants.{Yes, No, Read, Ack, Inquire}
use Rattle.protocol.specs.declared.messages.Envelope.{Envelope}
use Rattle.protocol.specs.declared.records.BranchName.{BranchName}
use Rattle.protocol.specs.declared.records.BranchName.TheVariants.{Case as CaseBranch, Foreign}
use Rattle.protocol.specs.declared.records.Record.{Record}
use Rattle.protocol.specs.declared.records.Record.TheVariants.{Prepared as PreparedRecord, Committed, RolledBack, HeurCommit, HeurRollback, Told, Forgot}
use Rattle.protocol.specs.declared.standings.Standing.{Standing}
use Rattle.protocol.specs.declared.standings.Standing.TheVariants.{Unknown, Active, Prepared, Heuristic}
use Rattle.protocol.specs.Names.{same_outcome}
use Rattle.protocol.specs.Nodes.{Version, Written, Holding, ReadsOnly, Holds}
use Rattle.protocol.specs.Standings.{ManagerView, unknown_branch, standing_branch, unknown_findings, decided_findings}
use Rattle.protocol.specs.CoordinatorRows.{forced, post}

-- a manager in one of its branches
pub record Leaf : Type 0 where
  pub me : ProcessId
  pub parent : ProcessId
  pub own : Case

-- what a row does
pub record LeafRow : Type 0 where
  pub written : List Written
  pub messages : List Envelope
  pub view : ManagerView

-- a row that does nothing, and leaves this view
abbrev pub unmoved : ManagerView → LeafRow
unmoved v = record { written = []; messages = []; view = v }

-- a row that sends this message to the parent and does nothing else, and leaves this view
abbrev pub replies : Leaf → Message → ManagerView → LeafRow
replies l m v = record { written = []; messages = post l.me l.parent m ∷ []; view = v }

-- the record of the branch
abbrev pub own_branch : Leaf → BranchName
own_branch l = CaseBranch l.own

-- an outcome that the presumption does not cover is forced and acknowledged; one that it covers is neither
abbrev pub is_acknowledged : Presumption → Outcome → Bool
is_acknowledged PresumeAbort CommittedOutcome = true
is_acknowledged PresumeCommit AbortedOutcome = true
is_acknowledged _ _ = false

-- the presumption of a branch: that of its case; one that is no case's is under Presumed Abort
abbrev pub presumption_of : BranchName → Presumption
presumption_of (CaseBranch c) = c.txn.presumption
presumption_of (Foreign x) = PresumeAbort

-- whether the record of what a decided branch is told is forced: as its outcome would be; of a branch that is
-- no case's always
abbrev pub is_told_forced : BranchName → Outcome → Bool
is_told_forced (CaseBranch c) o = is_acknowledged c.txn.presumption o
is_told_forced (Foreign x) o = true

-- ACK of the outcome to the parent, with what was found, unless the presumption covers the outcome
abbrev pub acknowledgement : Leaf → Outcome → List Finding → List Envelope
acknowledgement l o fs =
    if is_acknowledged l.own.txn.presumption o then post l.me l.parent (Ack l.own o fs) ∷ [] else []

-- the record, forced unless the presumption covers the outcome
abbrev pub written_as : Leaf → Outcome → Record → List Written
written_as l o r = record { entry = r; is_forced = is_acknowledged l.own.txn.presumption o } ∷ []

-- Active.

-- WORK i: done in order, and nothing after a refusal
abbrev pub active_work : ℕ → Bool → ManagerView → LeafRow
active_work i does v =
    if (i == v.done + 1) && not v.spoiled
    then unmoved (if does then record v { done = i } else record v { spoiled = true })
    else unmoved v

-- READ where the branch wrote nothing; else a forced Prepared record with its writes, and YES
abbrev pub active_prepare_holding : Leaf → Holding → LeafRow
active_prepare_holding l ReadsOnly = replies l (Read l.own) unknown_branch
active_prepare_holding l (Holds ws) =
    record {
      written = forced (PreparedRecord (own_branch l) ws);
      messages = post l.me l.parent (Yes l.own) ∷ [];
      view = standing_branch Prepared None;
    }

-- PREPARE n: only where all n works are done
abbrev pub active_prepare : Leaf → ℕ → Holding → ManagerView → LeafRow
active_prepare l n holding v =
    if (v.done == n) && not v.spoiled then active_prepare_holding l holding
    else replies l (No l.own) unknown_branch

-- ABORT: the branch is forgotten without a record; under Presumed Commit it is acknowledged
abbrev pub active_abort : Leaf → LeafRow
active_abort l = record {
  written = [];
  messages = acknowledgement l AbortedOutcome [];
  view = unknown_branch;
}

-- Prepared.

-- the record by which an outcome ends the branch
abbrev pub ends_record : Leaf → Outcome → Record
ends_record l CommittedOutcome = Committed (own_branch l)
ends_record l AbortedOutcome = RolledBack (own_branch l)

-- COMMIT or ABORT
abbrev pub prepared_outcome : Leaf → Outcome → LeafRow
prepared_outcome l o = record {
  written = written_as l o (ends_record l o);
  messages = acknowledgement l o [];
  view = unknown_branch;
}

-- Prepared and Heuristic

-- PREPARE again: YES again
abbrev pub promised_prepare : Leaf → ManagerView → LeafRow
promised_prepare l v = replies l (Yes l.own) v

-- a branch that was not told the outcome asks its parent
abbrev pub untold_ask : Leaf → ManagerView → LeafRow
untold_ask l v = replies l (Inquire l.own) v

-- the record of an operator's decision
abbrev pub decides_record : Leaf → Outcome → Record
decides_record l CommittedOutcome = HeurCommit (own_branch l)
decides_record l AbortedOutcome = HeurRollback (own_branch l)

-- an operator decides
abbrev pub prepared_decide : Leaf → Outcome → LeafRow
prepared_decide l o = record {
  written = forced (decides_record l o);
  messages = [];
  view = standing_branch Heuristic None;
}

-- Heuristic.

-- the outcome comes: the first one is noted, the same again is acknowledged again, each time with what was
-- found
abbrev pub heuristic_outcome : Leaf → Outcome → List Finding → ManagerView → Option Outcome → LeafRow
heuristic_outcome l o fs v None =
    record {
      written = written_as l o (Told (own_branch l) o);
      messages = acknowledgement l o fs;
      view = standing_branch Heuristic (Some o);
    }
heuristic_outcome l o fs v (Some told) =
    if same_outcome told o then record { written = []; messages = acknowledgement l o fs; view = v }
    else unmoved v

-- an operator forgets the branch, forced
abbrev pub heuristic_forget : Leaf → LeafRow
heuristic_forget l = record { written = forced (Forgot (own_branch l)); messages = []; view = unknown_branch }

-- Unknown.

-- PREPARE of a branch of which nothing is known: NO
abbrev pub unknown_prepare : Leaf → ManagerView → LeafRow
unknown_prepare l v = replies l (No l.own) v

-- an outcome of a branch of which nothing is known: acknowledged, unless the presumption covers it
abbrev pub unknown_outcome : Version → Leaf → Outcome → ManagerView → LeafRow
unknown_outcome ver l o v =
    record { written = []; messages = acknowledgement l o (unknown_findings ver l.own); view = v }

-- The table by messages.

-- WORK of the parent
abbrev pub on_work : ℕ → Bool → ManagerView → Standing → LeafRow
on_work i does v Active = active_work i does v
on_work i does v _ = unmoved v

-- PREPARE of the parent
abbrev pub on_prepare : Leaf → ℕ → Holding → ManagerView → Standing → LeafRow
on_prepare l n holding v Active = active_prepare l n holding v
on_prepare l n holding v Prepared = promised_prepare l v
on_prepare l n holding v Heuristic = promised_prepare l v
on_prepare l n holding v Unknown = unknown_prepare l v
on_prepare l n holding v _ = unmoved v

-- COMMIT of the parent; the kept records tell what an operator decided
abbrev pub on_commit : Version → Leaf → List Record → ManagerView → Standing → LeafRow
on_commit ver l rs v Prepared = prepared_outcome l CommittedOutcome
on_commit ver l rs v Heuristic =
    heuristic_outcome l CommittedOutcome (decided_findings ver rs l.own CommittedOutcome) v v.told
on_commit ver l rs v Unknown = unknown_outcome ver l CommittedOutcome v
on_commit ver l rs v _ = unmoved v

-- ABORT of the parent; likewise
abbrev pub on_abort : Version → Leaf → List Record → ManagerView → Standing → LeafRow
on_abort ver l rs v Active = active_abort l
on_abort ver l rs v Prepared = prepared_outcome l AbortedOutcome
on_abort ver l rs v Heuristic =
    heuristic_outcome l AbortedOutcome (decided_findings ver rs l.own AbortedOutcome) v v.told
on_abort ver l rs v Unknown = unknown_outcome ver l AbortedOutcome v
on_abort ver l rs v _ = unmoved v
