-- What a process keeps while it runs, of whatever kind it is: in place of the lists from which the model
-- reads it off.
use Rattle.std.specs.Prelude.{◌≡◌, ◌<◌, ◌+◌, ◌^◌, ℕ, Bool, false, if◌then◌else◌, Option, List, [], ◌++◌, map}
use Rattle.protocol.specs.declared.names.Case.{Case}
use Rattle.protocol.specs.declared.names.Outcome.{Outcome}
use Rattle.protocol.specs.declared.names.ProcessId.{ProcessId}
use Rattle.protocol.specs.declared.names.Ticket.{Ticket}
use Rattle.protocol.specs.declared.records.LogRecord.{LogRecord}
use Rattle.protocol.specs.declared.records.Record.{Record}
use Rattle.protocol.specs.LogNames.{in_log, parent_of}
use Rattle.protocol.specs.declared.names.Kind.{Kind}
use Rattle.protocol.specs.declared.names.Kind.TheVariants.{Coordinator, Manager}
use Rattle.protocol.specs.Nodes.{AtLeaf, Place, Role, Written, entries_written, is_any_forced}
use Rattle.protocol.specs.Standings.{CoordinatorView, ManagerView}
use Rattle.protocol.specs.SameViews.{SameView}
use Rattle.log_text.specs.declared.form.LogForm.{LogForm}
use Rattle.log_text.specs.Forms.{log_form}
use Rattle.log_records.specs.Sights.{LogSight, records_of}

-- Where it sits; its log; its boot; how many transactions it began and how many tickets it gave in this boot;
-- the active ticket that was given to a parent's case; and how each case stands, which is Unknown if it is
-- not live; what an operator decided of a branch that he decided (of any other this says nothing); and
-- whether a manager has met a limit of its own. A coordinator has no branches and no such limit, and a
-- manager no coordinator's views.
pub record CoreState : Type 0 where
  pub place : Place
  pub log : LogSight
  pub boot : ℕ
  pub begun : ℕ
  pub given : ℕ
  pub ticket_for : Case → Option Ticket
  pub view_of : Case → CoordinatorView
  pub branch_of : Case → ManagerView
  pub decided_of : Case → Option Outcome
  pub spent : Bool

-- the parent of the process; the root has none
abbrev pub parent : CoreState → Option ProcessId
parent s = parent_of s.place.role

-- but for its log nothing is otherwise
pub record SameButLog (old new : CoreState) : Type 0 where
  pub place : new.place ≡ old.place
  pub boot : new.boot ≡ old.boot
  pub begun : new.begun ≡ old.begun
  pub given : new.given ≡ old.given
  pub tickets : (d : Case) → new.ticket_for d ≡ old.ticket_for d
  pub views : (c : Case) → SameView (new.view_of c) (old.view_of c)
  pub branches : (c : Case) → new.branch_of c ≡ old.branch_of c
  pub decided : (c : Case) → new.decided_of c ≡ old.decided_of c
  pub spent : new.spent ≡ old.spent

-- nothing is otherwise
pub record SameCore (old new : CoreState) : Type 0 where
  pub log : new.log ≡ old.log
  pub rest : SameButLog old new

-- there are numbers left for a transaction and a ticket more
pub record HasNumbers (s : CoreState) : Type 0 where
  pub begun : s.begun + 1 < 2 ^ 63
  pub given : s.given + 1 < 2 ^ 63

-- The log.

-- the records as the process's log holds them
abbrev pub logged : CoreState → List Record → List LogRecord
logged s rs = map (in_log (parent s)) rs

-- a log with these records after its own; where one of them is forced, all records are
abbrev pub wrote : LogSight → List Written → List LogRecord → LogSight
wrote l ws ls =
    if is_any_forced ws
    then record l { kept = record { forced = records_of l.kept ++ ls; unforced = [] }; behind = 0 }
    else record l { kept = record { forced = l.kept.forced; unforced = l.kept.unforced ++ ls } }

-- the process's log once a row has written these
abbrev pub log_behind : CoreState → List Written → LogSight
log_behind s ws = wrote s.log ws (logged s (entries_written ws))

-- which kind of process has this role
abbrev pub kind_of_role : Role → Kind
kind_of_role (AtLeaf p) = Manager
kind_of_role _ = Coordinator

-- the form of the log of the process that sits here
abbrev pub form_of : Place → LogForm
form_of p = log_form p.me (kind_of_role p.role)

-- a log of this form all of whose records are forced, over a device that did not fail since
abbrev pub forced_sight : LogForm → List LogRecord → ℕ → LogSight
forced_sight form ls failures = record {
  form = form;
  kept = record { forced = ls; unforced = [] };
  behind = 0;
  failed = false;
  failures = failures;
}
