-- What an input makes of the data of a manager: which branch begins, does an operation, lets go what it has
-- written and holds, or is ended.
use Rattle.std.specs.Prelude.{◌≡◌, ◌+◌, ◌==◌, ◌&&◌, ⊤, ℕ, Bool, true, false, not, is_none, if◌then◌else◌, Option, Some, None}
use Rattle.xa_xid.specs.declared.xid.Xid.{Xid}
use Rattle.protocol.specs.declared.names.Case.{Case}
use Rattle.protocol.specs.declared.names.Outcome.{Outcome}
use Rattle.protocol.specs.declared.names.ProcessId.{ProcessId}
use Rattle.protocol.specs.declared.names.Ticket.{Ticket}
use Rattle.protocol_words.specs.Variants.{ActInput, CaseBranch, MessageInput}
use Rattle.protocol.specs.LogNames.{name_xid}
use Rattle.protocol.specs.Names.{child_case}
use Rattle.protocol.specs.Plays.{held_writes}
use Rattle.protocol.specs.declared.messages.Op.{Op}
use Rattle.protocol.specs.declared.messages.Message.{Message}
use Rattle.protocol.specs.declared.messages.Message.TheVariants.{Join, Work, Prepare, Commit, Abort}
use Rattle.protocol.specs.declared.standings.Standing.{Standing}
use Rattle.protocol.specs.declared.standings.Standing.TheVariants.{Active, Prepared, Heuristic}
use Rattle.protocol.specs.declared.events.Input.{Input}
use Rattle.protocol.specs.declared.events.Act.{Act}
use Rattle.protocol.specs.declared.events.Act.TheVariants.{Decide, Forget}
use Rattle.protocol.specs.Nodes.{DataAnswer, Holding, ReadsOnly, Holds}
use Rattle.protocol.specs.Standings.{ManagerView}
use Rattle.process_state.specs.States.{CoreState}
use Rattle.process_state.specs.Turns.{next_ticket, no_answer}
use Rattle.resource_manager.specs.Data.{CanBegin, ManagerData, obstacle_in}
use Rattle.resource_manager.specs.Data

-- nothing; or the branch of a case begins; or it does an operation; or it lets its writes and its keys go,
-- and is known still, or is ended
pub data DataTurn : Type 0 where
  Rests : DataTurn
  Begins : Case → DataTurn
  Operates : Case → Op → DataTurn
  Releases : Case → DataTurn
  Ends : Case → DataTurn

-- the case that a JOIN of the parent's case opens, where no ticket of that is active
abbrev pub next_case : CoreState → Case → Case
next_case s d = child_case d.txn (next_ticket s)

-- JOIN of the parent's case, where this ticket of it is active, or none: a branch begins whose start the data
-- let in
abbrev pub join_data : CoreState → Case → Bool → Option Ticket → DataTurn
join_data s d starts (Some t) = Rests
join_data s d true None = Begins (next_case s d)
join_data s d false None = Rests

-- WORK i at a branch: the next work of an Active branch that was refused none, where the data are not in its
-- way
abbrev pub work_data : Case → ℕ → Op → Bool → ManagerView → Standing → DataTurn
work_data c i op does v Active =
    if (i == v.done + 1) && not v.spoiled then (if does then Operates c op else Rests) else Rests
work_data c i op does v _ = Rests

-- a branch that wrote nothing is ended by its vote, and another keeps what it holds
abbrev pub vote_data : Case → Holding → DataTurn
vote_data c ReadsOnly = Ends c
vote_data c (Holds ws) = Rests

-- PREPARE n at a branch: one that does not vote is rolled back
abbrev pub prepare_data : Case → ℕ → Holding → ManagerView → Standing → DataTurn
prepare_data c n holding v Active =
    if (v.done == n) && not v.spoiled then vote_data c holding else Ends c
prepare_data c n holding v _ = Rests

-- an outcome after an operator's decision: the first one ends the branch's data again, of which there are
-- none
abbrev pub told_data : Case → Option Outcome → DataTurn
told_data c None = Releases c
told_data c (Some o) = Rests

-- COMMIT at a branch
abbrev pub commit_data : Case → ManagerView → Standing → DataTurn
commit_data c v Prepared = Ends c
commit_data c v Heuristic = told_data c v.told
commit_data c v _ = Rests

-- ABORT at a branch
abbrev pub abort_data : Case → ManagerView → Standing → DataTurn
abort_data c v Active = Ends c
abort_data c v Prepared = Ends c
abort_data c v Heuristic = told_data c v.told
abort_data c v _ = Rests

-- what a message makes of the data, which answer so; any other than these makes nothing
abbrev pub message_data : CoreState → DataAnswer → Message → DataTurn
message_data s a (Join d) = join_data s d a.starts (s.ticket_for d)
message_data s a (Work c i op) = let v = s.branch_of c in work_data c i op a.does v v.standing
message_data s a (Prepare c n) = let v = s.branch_of c in prepare_data c n a.holding v v.standing
message_data s a (Commit c) = let v = s.branch_of c in commit_data c v v.standing
message_data s a (Abort c) = let v = s.branch_of c in abort_data c v v.standing
message_data s a _ = Rests

-- an operator's decision at a branch
abbrev pub decide_data : Case → Standing → DataTurn
decide_data c Prepared = Releases c
decide_data c _ = Rests

-- its end
abbrev pub forget_data : Case → Standing → DataTurn
forget_data c Heuristic = Ends c
forget_data c _ = Rests

-- what an act makes of the data
abbrev pub act_data : CoreState → Act → DataTurn
act_data s (Decide c o) = decide_data c (s.branch_of c).standing
act_data s (Forget c) = forget_data c (s.branch_of c).standing
act_data s _ = Rests

-- what an input makes of the data, which answer so
abbrev pub data_turn : CoreState → DataAnswer → Input → DataTurn
data_turn s a (ActInput x) = act_data s x
data_turn s a (MessageInput k m) = message_data s a m

-- what is left of the data, by the names that the manager has for cases
abbrev pub MovesData : ManagerData → ManagerData → (Case → Xid) → DataTurn → Type 0
MovesData old new x Rests = Data.DataRests old new
MovesData old new x (Begins c) = Data.DataBegins old new (x c)
MovesData old new x (Operates c op) = Data.Operates old new (x c) op
MovesData old new x (Releases c) = Data.ReleasesHolds old new (x c)
MovesData old new x (Ends c) = Data.Ends old new (x c)

-- what the data answer to a message: whether they let the branch of a JOIN begin, whether they are in the way
-- of the operation of a WORK, and what the branch of a PREPARE has written
abbrev pub answer_of : ManagerData → (Case → Xid) → Bool → Message → DataAnswer
answer_of d x begins (Join c) = record { starts = begins; does = true; holding = ReadsOnly }
answer_of d x begins (Work c i op) =
    record { starts = true; does = is_none (obstacle_in d (x c) op); holding = ReadsOnly }
answer_of d x begins (Prepare c n) =
    record { starts = true; does = true; holding = held_writes (d.writes (x c)) }
answer_of d x begins _ = record { starts = true; does = true; holding = ReadsOnly }

-- whether the data let the branch of a JOIN begin; any other message begins none
abbrev pub LetsBegin : CoreState → ManagerData → (Case → Xid) → Message → Bool → Type 0
LetsBegin s d x (Join c) begins = CanBegin d (x (next_case s c)) begins
LetsBegin s d x _ begins = ⊤

-- an answer to a message is the one that the data give
pub record AnswersMessage (s : CoreState) (d : ManagerData) (x : Case → Xid) (m : Message) (a : DataAnswer)
    : Type 0 where
  pub begins : Bool
  pub lets : LetsBegin s d x m begins
  pub is : a ≡ answer_of d x begins m

-- an answer to an input is the one that the data give; to an act they answer nothing
abbrev pub AnswersInput : CoreState → ManagerData → (Case → Xid) → Input → DataAnswer → Type 0
AnswersInput s d x (ActInput e) a = a ≡ no_answer
AnswersInput s d x (MessageInput k m) a = AnswersMessage s d x m a

-- the name that a manager below this parent has for a case
abbrev pub case_xid : ProcessId → Case → Xid
case_xid p c = name_xid (Some p) (CaseBranch c)
