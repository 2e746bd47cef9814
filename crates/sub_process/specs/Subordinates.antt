-- A subordinate: a process below a parent, with a resource manager.
use Rattle.std.specs.Prelude.{◌≡◌, ◌≢◌, ◌≤◌, ◌⊎◌, ℕ, Bool, true, false, is_none, if◌then◌else◌, Option, Some, None, List, [], ◌∷◌}
use Rattle.xa_tables.specs.declared.states.BranchState.{BranchState}
use Rattle.xa_tables.specs.declared.states.BranchState.TheVariants.{S2, S3, S4, S5}
use Rattle.xa_xid.specs.declared.xid.Xid.{Xid}
use Rattle.xa_xid.specs.Xids.{XidParts, null_xid}
use Rattle.xa_assoc.specs.Answers.{state_at}
use Rattle.xa_branch.specs.declared.decision.Decision.{Decision}
use Rattle.protocol.specs.declared.names.Case.{Case}
use Rattle.protocol.specs.declared.names.ProcessId.{ProcessId}
use Rattle.protocol.specs.declared.names.Ticket.{Ticket}
use Rattle.protocol.specs.declared.messages.Envelope.{Envelope}
use Rattle.protocol.specs.declared.messages.Finding.{Finding}
use Rattle.protocol.specs.declared.messages.Finding.TheVariants.{Mixed}
use Rattle.protocol.specs.declared.messages.Message.{Message}
use Rattle.protocol.specs.declared.messages.Message.TheVariants.{Join, Work, Prepare, Ack}
use Rattle.protocol_words.specs.Variants.{CaseBranch, MessageInput, OfCase}
use Rattle.protocol.specs.declared.trees.TreeProcess.{TreeProcess}
use Rattle.protocol.specs.declared.events.Input.{Input}
use Rattle.protocol.specs.declared.events.Reaction.{Reaction}
use Rattle.protocol.specs.declared.events.StepError.{StepError}
use Rattle.protocol.specs.declared.events.StepError.TheVariants.{Device, Exhausted, Memory}
use Rattle.protocol.specs.declared.records.ShownRecord.{ShownRecord}
use Rattle.protocol.specs.declared.records.RecordKind.{RecordKind}
use Rattle.protocol.specs.declared.records.RecordKind.TheVariants.{HeurCommit, HeurRollback}
use Rattle.protocol.specs.declared.names.Outcome.{Outcome}
use Rattle.protocol.specs.declared.names.Outcome.TheVariants.{Committed, Aborted}
use Rattle.protocol.specs.ManagerRows.{is_acknowledged}
use Rattle.protocol.specs.CoordinatorRows.{post}
use Rattle.protocol.specs.Nodes.{AtLeaf, DataAnswer, Effect, Place, ReadsOnly, reaction_of}
use Rattle.protocol.specs.LogNames.{name_xid}
use Rattle.protocol.specs.declared.records.LogRecord.{LogRecord}
use Rattle.protocol.specs.Records.{boot_after}
use Rattle.std.specs.List.{AllByRecursion}
use Rattle.log_records.specs.Sights.{records_of}
use Rattle.sub_branches.specs.Rebuilt.{IsReached}
use Rattle.sub_process.specs.declared.subordinate.Front.{Front}
use Rattle.sub_process.specs.Fronts.{IsFrontOf}
use Rattle.protocol.specs.Plays.{held_writes}
use Rattle.protocol.specs.Reactions.{Does}
use Rattle.protocol.specs.Standings.{decided_against, decided_findings, own_finding, unknown_view}
use Rattle.log_text.specs.Parts.{name_in}
use Rattle.process_state.specs.States.{CoreState, SameCore}
use Rattle.process_state.specs.Turns.{Refuses, Turn, decision_records, manager_turn, next_ticket, reacted, this_version}
use Rattle.process_state.specs.Makes.{BreaksIn, IssuesTicket, ProcessMoves}
use Rattle.log_text.specs.Forms.{log_form}
use Rattle.protocol.specs.declared.names.Kind.TheVariants.{Manager}
use Rattle.resource_manager.specs.Sights.{ManagerSight, manager_data, obstacle}
use Rattle.sub_work.specs.Deeds.{IsIdle, KeepsManager, starts}
use Rattle.resource_manager.specs.Data.{DataBegins, DataRests}
use Rattle.resource_manager.specs.Turns.{MovesData, message_data, next_case as next_of}
use Rattle.sub_branches.specs.declared.branch.LiveBranch.{LiveBranch}
use Rattle.sub_branches.specs.declared.branch.BranchStage.{BranchStage}
use Rattle.sub_branches.specs.declared.branch.BranchStage.TheVariants.{Active, Heuristic, Prepared}
use Rattle.case_table.specs.Tables.{entry_at}
use Rattle.sub_branches.specs.Tables.{BranchTable, branch_in, ticket_in, view_in}

-- what a subordinate is: where it sits, how many tickets it gave in this boot, its live branches, and its
-- manager
pub record SubValue (M : Type 0) : Type 0 where
  pub me : ProcessId
  pub parent : ProcessId
  pub tree : List TreeProcess
  pub given : ℕ
  pub table : BranchTable
  pub manager : M

-- what a contract sees: the same, but of the manager its sight
pub record SubState : Type 0 where
  pub me : ProcessId
  pub parent : ProcessId
  pub tree : List TreeProcess
  pub given : ℕ
  pub table : BranchTable
  pub manager : ManagerSight

-- a subordinate with the sight of its manager
abbrev pub seen : {M : Type 0} → (M → ManagerSight) → SubValue M → SubState
seen sight s =
    record {
      me = s.me;
      parent = s.parent;
      tree = s.tree;
      given = s.given;
      table = s.table;
      manager = sight s.manager;
    }

-- where it sits
abbrev pub place_of : SubState → Place
place_of s = record { me = s.me; role = AtLeaf s.parent; tree = s.tree }

-- what an operator decided of a branch, as its manager has it; of one that no operator decided it says
-- nothing
abbrev pub decided_at : ManagerSight → Option LiveBranch → Option Outcome
decided_at m None = None
decided_at m (Some b) = Some (m.decided b.xid).outcome

-- a manager's process, as any process is seen: its log and its boot are its manager's
abbrev pub core_of : SubState → CoreState
core_of s =
    record {
      place = place_of s;
      log = s.manager.log;
      boot = s.manager.boot;
      begun = 0;
      given = s.given;
      ticket_for = λ d. ticket_in s.table d;
      view_of = λ c. unknown_view;
      branch_of = λ c. view_in s.table c;
      decided_of = λ c. decided_at s.manager (branch_in s.table c);
      spent = s.manager.spent;
    }

-- the XID by which the manager knows a case
abbrev pub xid_of : SubState → Case → XidParts
xid_of s c = name_xid (Some s.parent) (CaseBranch c)

-- the case that a JOIN of the parent's case would open
abbrev pub next_case : SubState → Case → Case
next_case s d = next_of (core_of s) d

-- what the manager's data answer to a message
abbrev pub answer_for : SubState → Message → DataAnswer
answer_for s (Join d) =
    record { starts = starts s.manager (xid_of s (next_case s d)); does = true; holding = ReadsOnly }
answer_for s (Work c i op) =
    record { starts = true; does = is_none (obstacle s.manager (xid_of s c) op); holding = ReadsOnly }
answer_for s (Prepare c n) =
    record { starts = true; does = true; holding = held_writes (s.manager.writes (xid_of s c)) }
answer_for s _ = record { starts = true; does = true; holding = ReadsOnly }

-- The tie of the live branches with the manager's.

-- the state of a branch at the manager by its stage
abbrev pub stage_state : BranchStage → BranchState
stage_state (Active d done false) = S2
stage_state (Active d done true) = S4
stage_state Prepared = S3
stage_state (Heuristic told) = S5

-- the manager's decision of a branch was told what the stage says
abbrev pub AgreesWith : BranchStage → Decision → Type 0
AgreesWith (Heuristic told) d = d.told ≡ told
AgreesWith _ d = Unit {0}

-- an XID is that of a case below this parent, and reads as its name
pub record IsNamed (p : ProcessId) (c : Case) (x : Xid) : Type 0 where
  pub is : x ≡ name_xid (Some p) (CaseBranch c)
  pub reads : name_in x ≡ (Some p, CaseBranch c)
  pub real : x ≢ null_xid

-- a case has a ticket of a boot that was reached, and one of this boot was given already
pub record IsGiven (s : SubState) (c : Case) : Type 0 where
  pub ticket : Ticket
  pub has : c.ticket ≡ Some ticket
  pub within : ticket.boot ≤ s.manager.boot
  pub before : ticket.boot ≡ s.manager.boot → ticket.number ≤ s.given

-- one of these records is that of a boot which is at least this
abbrev pub Reaches : ℕ → List LogRecord → Type 0
Reaches n [] = n ≤ 0
Reaches n (l ∷ ls) = (n ≤ boot_after 0 l.entry) ⊎ Reaches n ls

-- the forced records of a manager's log have reached its boot, the cases of the process's own that promise in
-- it do so by tickets of boots that were reached, and what is remembered of its front is what that says
pub record HasReached (f : Front) (place : Place) (m : ManagerSight) : Type 0 where
  pub boot : Reaches m.boot m.log.kept.forced
  pub promises : AllByRecursion (IsReached place m.boot) (records_of m.log.kept)
  pub front : IsFrontOf place m.log f

-- the manager's log is this process's, it is idle, and each live branch is there as the subordinate keeps it,
-- under its case's XID, with what it was told after an operator's decision; and the log has reached the boots
-- of the tickets by which cases of its own promise, and begins with the front that is remembered
pub record IsTied (f : Front) (s : SubState) : Type 0 where
  pub own : s.manager.log.form ≡ log_form s.me Manager
  pub idle : IsIdle s.manager
  pub named : (c : Case) (b : LiveBranch) → branch_in s.table c ≡ Some b → IsNamed s.parent c b.xid
  pub stands : (c : Case) (b : LiveBranch) → branch_in s.table c ≡ Some b
      → state_at s.manager.tables b.xid ≡ stage_state b.stage
  pub told : (c : Case) (b : LiveBranch) → branch_in s.table c ≡ Some b
      → AgreesWith b.stage (s.manager.decided b.xid)
  pub given_before : (c : Case) (b : LiveBranch) → branch_in s.table c ≡ Some b → IsGiven s c
  pub reached : HasReached f (place_of s) s.manager

-- Turns.

-- a turn was made, and this is the reaction to show
pub record Turns (old new : SubState) (i : Input) (turn : Turn) (reaction : Reaction) : Type 0 where
  pub moves : ProcessMoves (core_of old) (core_of new) i turn
  pub effect : Effect
  pub does : reacted turn ≡ Does effect
  pub shown : reaction ≡ reaction_of effect

-- nothing changed: the process is as it was, as any process is seen, and so is its manager
pub record KeepsProcess (old new : SubState) : Type 0 where
  pub core : SameCore (core_of old) (core_of new)
  pub manager : KeepsManager old.manager new.manager

-- why a turn was not made, and what that leaves: numbers are used up where the manager has met a limit of its
-- own
abbrev pub NotTurned : SubState → SubState → Turn → StepError → Type 0
NotTurned old new turn Memory = KeepsProcess old new
NotTurned old new turn Device = BreaksIn (core_of old) (core_of new) turn
NotTurned old new turn Exhausted = KeepsProcess old new × (old.manager.spent ≡ true)
NotTurned old new turn e = KeepsProcess old new × (turn ≡ Refuses e)

-- what a message meets
abbrev pub turn_for : SubState → Message → Turn
turn_for s m = manager_turn (core_of s) s.parent (answer_for s m) m

-- What is left of the manager's data.

-- what a message leaves of the writes and of the keys that are held
abbrev pub MovesWrites : SubState → SubState → Message → Type 0
MovesWrites old new m =
    MovesData (manager_data old.manager) (manager_data new.manager) (λ c. xid_of old c)
    (message_data (core_of old) (answer_for old m) m)

-- a message was heard, with what it leaves of the writes, and this is the reaction to show
pub record Hears (old new : SubState) (m : Message) (reaction : Reaction) : Type 0 where
  pub turns : (k : ℕ) → Turns old new (MessageInput k m) (turn_for old m) reaction
  pub writes : MovesWrites old new m

-- whether a JOIN opened the case of a fresh ticket; where the manager refused its start, nothing changed
abbrev pub Joins : SubState → SubState → Case → Bool → Type 0
Joins old new d true =
    (starts old.manager (xid_of old (next_case old d)) ≡ true)
    × IssuesTicket (core_of old) (core_of new) d (next_ticket (core_of old))
    × DataBegins (manager_data old.manager) (manager_data new.manager) (xid_of old (next_case old d))
Joins old new d false =
    (starts old.manager (xid_of old (next_case old d)) ≡ false) × SameCore (core_of old) (core_of new)
    × DataRests (manager_data old.manager) (manager_data new.manager)

-- why a message was not heard, and what that leaves
abbrev pub NotHeard : SubState → SubState → Message → StepError → Type 0
NotHeard old new m e = NotTurned old new (turn_for old m) e

-- the reaction that shows these records and one message
abbrev pub says : List ShownRecord → Envelope → Reaction
says written message =
    record { begun = None; written = written; told = None; messages = message ∷ []; kept = None }

-- the reaction that shows one forced record of a case, and no message
abbrev pub logged_alone : RecordKind → Case → Reaction
logged_alone kind c =
    record {
      begun = None;
      written = record { kind = kind; subject = OfCase c; forced = true } ∷ [];
      told = None;
      messages = [];
      kept = None;
    }

-- the kind of the record of an operator's decision
abbrev pub decision_kind : Outcome → RecordKind
decision_kind Committed = HeurCommit
decision_kind Aborted = HeurRollback

-- what is found of a case that an operator decided so, as an outcome comes: its ticket, where he decided
-- against it
abbrev pub found_against : Case → Option Outcome → Outcome → List Finding
found_against c decision o = if decided_against decision o then own_finding Mixed c.ticket else []

-- what is found of a case that an operator decided, as an outcome comes
abbrev pub decided_found : SubState → Case → Outcome → List Finding
decided_found s c o = decided_findings this_version (decision_records c ((core_of s).decided_of c)) c o

-- the acknowledgement of an outcome, with what was found, unless the presumption covers it
abbrev pub acknowledged : ProcessId → ProcessId → Case → Outcome → List Finding → List Envelope
acknowledged from to c o fs =
    if is_acknowledged c.txn.presumption o then post from to (Ack c o fs) ∷ [] else []

-- the reaction that shows the record of an outcome, and its acknowledgement
abbrev pub outcome_reply : RecordKind → Case → Outcome → List Finding → ProcessId → ProcessId → Reaction
outcome_reply kind c o fs from to =
    record {
      begun = None;
      written = record { kind = kind; subject = OfCase c; forced = is_acknowledged c.txn.presumption o } ∷ [];
      told = None;
      messages = acknowledged from to c o fs;
      kept = None;
    }

-- a case is live under its key, and this is kept of it
pub record IsAt (t : BranchTable) (key : ℕ) (c : Case) (b : LiveBranch) : Type 0 where
  pub entry : entry_at t.branches key ≡ Some (c, b)
  pub live : branch_in t c ≡ Some b

-- what is kept of a case under its key, or there is nothing
abbrev pub FindsBranch : BranchTable → Case → Option (ℕ × LiveBranch) → Type 0
FindsBranch t c None = branch_in t c ≡ None
FindsBranch t c (Some f) = IsAt t f.0 c f.1

-- a branch that takes work
abbrev pub active : Xid → Case → ℕ → Bool → LiveBranch
active x g done spoiled = record { xid = x; stage = Active g done spoiled }

-- a branch that promised
abbrev pub prepared : Xid → LiveBranch
prepared x = record { xid = x; stage = Prepared }

-- a branch that an operator decided, and that was told this since
abbrev pub decided : Xid → Option Outcome → LiveBranch
decided x told = record { xid = x; stage = Heuristic told }
