-- What a process does with an input: an effect, or a refusal after which nothing has changed. The refusals
-- come in this order: no such process (9), the process has failed (6), no such case here (3), the case is not
-- in doubt (7) or has nothing to forget (8), it is closed (5), the child cannot take it (4).
use Rattle.std.specs.Prelude.{Bool, true, false, not, ◌&&◌, if◌then◌else◌, Option, Some, None, is_none, List, [], ◌∷◌, map}
use Rattle.protocol.specs.declared.names.Case.{Case}
use Rattle.protocol.specs.declared.names.ProcessId.{ProcessId}
use Rattle.protocol.specs.declared.names.Ticket.{Ticket}
use Rattle.protocol.specs.declared.names.Txn.{Txn}
use Rattle.protocol.specs.declared.names.Outcome.{Outcome}
use Rattle.protocol.specs.declared.names.Presumption.{Presumption}
use Rattle.protocol.specs.declared.messages.Op.{Op}
use Rattle.protocol.specs.declared.messages.Finding.{Finding}
use Rattle.protocol.specs.declared.messages.Message.{Message}
use Rattle.protocol.specs.declared.messages.Message.TheVariants.{Join, Joined, Work, Prepare, Yes, No, Read, Commit, Abort, Ack, Inquire}
use Rattle.protocol.specs.declared.messages.Envelope.{Envelope}
use Rattle.protocol.specs.declared.standings.Standing.{Standing}
use Rattle.protocol.specs.declared.standings.Standing.TheVariants.{Unknown, Active, Collecting, Prepared, Heuristic}
use Rattle.protocol.specs.declared.standings.Vote.{Vote}
use Rattle.protocol.specs.declared.standings.Vote.TheVariants.{Yes as VoteYes, No as VoteNo, Read as VoteRead}
use Rattle.protocol.specs.declared.events.Act.{Act}
use Rattle.protocol.specs.declared.events.Act.TheVariants.{Begin, Join as JoinAct, Work as WorkAct, Commit as CommitAct, Abort as AbortAct, Ask, Decide, Forget}
use Rattle.protocol.specs.declared.events.Input.{Input}
use Rattle.protocol.specs.declared.events.Input.TheVariants.{Act as ActInput, Message as MessageInput}
use Rattle.protocol.specs.declared.events.Conclusion.{Conclusion}
use Rattle.protocol.specs.declared.events.StepError.{StepError}
use Rattle.protocol.specs.declared.events.StepError.TheVariants.{UnknownTxn, NotAChild, Closed, Failed, NotInDoubt, NothingToForget, NoSuch}
use Rattle.protocol.specs.declared.events.Told.{Told}
use Rattle.protocol.specs.declared.trees.TreeProcess.{TreeProcess}
use Rattle.protocol.specs.Names.{child_case, root_case, presumed}
use Rattle.protocol.specs.Records.{boot_of, is_reported}
use Rattle.protocol.specs.Nodes.{Version, Role, AtRoot, Below, AtLeaf, Place, is_listed, is_child, is_leaf, role_of, DataAnswer, Heard, Node, kept, Effect, no_effect}
use Rattle.protocol.specs.Memory.{Memory, memory_of, next_txn, next_ticket, active_ticket, ticket_of_child, of_ticket}
use Rattle.protocol.specs.Standings.{CoordinatorView, ManagerView, coordinator_view, manager_view, some_case, case_of_child, found_below}
use Rattle.protocol.specs.CoordinatorRows.{Seat, Row, post, active_join, active_work, active_commit, active_abort, collecting_abort, ByAct, prepared_ask, tells_outcome, on_vote, on_ack, on_inquiry, on_joined, on_prepare, on_commit, on_abort, unknown_forget}
use Rattle.protocol.specs.ManagerRows.{Leaf, LeafRow, prepared_decide, heuristic_forget, untold_ask}
use Rattle.protocol.specs.ManagerRows

-- what an input leads to
pub data Reacts : Type 0 where
  Refused : StepError → Reacts
  Does : Effect → Reacts

-- Effects of rows.

-- what is told of the transaction, if anything is
abbrev pub told_of : Txn → Option Conclusion → Option Told
told_of x None = None
told_of x (Some a) = Some (record { txn = x; conclusion = a })

-- the effect of a coordinator's row of this case
abbrev pub row_effect : Case → Row → Effect
row_effect c r =
    record {
      begun = None;
      written = r.written;
      told = told_of c.txn r.told;
      messages = r.messages;
      accepts = map (λ t. (c, t)) r.accepts;
      counts = map (λ v. (c, v)) r.counts;
      remains = None;
    }

-- the effect of a manager's row
abbrev pub leaf_effect : LeafRow → Effect
leaf_effect r = record {
  begun = None;
  written = r.written;
  told = None;
  messages = r.messages;
  accepts = [];
  counts = [];
  remains = None;
}

-- these messages, and nothing else
abbrev pub sends_only : List Envelope → Effect
sends_only ls = record {
  begun = None;
  written = [];
  told = None;
  messages = ls;
  accepts = [];
  counts = [];
  remains = None;
}

-- A coordinator.

-- the standing is Prepared
abbrev pub is_prepared_standing : Standing → Bool
is_prepared_standing Prepared = true
is_prepared_standing _ = false

-- the coordinator in this case, below this parent
abbrev pub seat_of : Place → Option ProcessId → Case → Seat
seat_of place parent c = record { me = place.me; parent = parent; own = c }

-- Acts of a coordinator.

-- begin: the root's next transaction; nothing is written or sent
abbrev pub acts_begin : Place → Node → Presumption → Reacts
acts_begin place n p =
    let c = root_case (next_txn place.me (boot_of (kept n)) (memory_of place n (some_case place)) p) in
    Does (record {
      begun = Some c.txn;
      written = [];
      told = None;
      messages = [];
      accepts = [];
      counts = [];
      remains = None;
    })

-- transactions are begun at the root alone
abbrev pub begins_at : Option ProcessId → Place → Node → Presumption → Reacts
begins_at None place n p = acts_begin place n p
begins_at (Some q) place n p = Refused NoSuch

-- join: the case is Active, and the process is a child of this one
abbrev pub join_by : Seat → List TreeProcess → ProcessId → CoordinatorView → Standing → Reacts
join_by s tree q v Unknown = Refused UnknownTxn
join_by s tree q v Active =
    if is_child tree q s.me then Does (row_effect s.own (active_join s q v)) else Refused NotAChild
join_by s tree q v _ = Refused Closed

-- an accepted child that is a manager takes work
abbrev pub work_for : Seat → List TreeProcess → Op → CoordinatorView → Option Ticket → Reacts
work_for s tree op v None = Refused NotAChild
work_for s tree op v (Some t) =
    if is_leaf (role_of tree t.child) then Does (row_effect s.own (active_work s t op v))
    else Refused NotAChild

-- work: the case is Active, and the process is an accepted child of it, and a manager
abbrev pub work_by : Seat → List TreeProcess → ProcessId → Op → CoordinatorView → Standing → Reacts
work_by s tree q op v Unknown = Refused UnknownTxn
work_by s tree q op v Active = work_for s tree op v (ticket_of_child v.accepted q)
work_by s tree q op v _ = Refused Closed

-- commit: the case is Active
abbrev pub commit_by : Seat → CoordinatorView → Standing → Reacts
commit_by s v Unknown = Refused UnknownTxn
commit_by s v Active = Does (row_effect s.own (active_commit s v))
commit_by s v _ = Refused Closed

-- abort: the case is Active, or collects votes
abbrev pub abort_by : Seat → CoordinatorView → Standing → Reacts
abort_by s v Unknown = Refused UnknownTxn
abort_by s v Active = Does (row_effect s.own (active_abort s v))
abort_by s v Collecting = Does (row_effect s.own (collecting_abort s ByAct v))
abort_by s v _ = Refused Closed

-- ask: the case is in doubt
abbrev pub ask_by : Seat → CoordinatorView → Standing → Reacts
ask_by s v Unknown = Refused UnknownTxn
ask_by s v Prepared = Does (row_effect s.own (prepared_ask s v))
ask_by s v _ = Refused NotInDoubt

-- a live case gets this refusal
abbrev pub live_by : StepError → Standing → Reacts
live_by e Unknown = Refused UnknownTxn
live_by e _ = Refused e

-- forget: nothing is known of the case, and the root's log reports what was found of it
abbrev pub clear_by : Seat → Bool → CoordinatorView → Standing → Reacts
clear_by s reported v Unknown =
    if reported then Does (row_effect s.own (unknown_forget s v)) else Refused UnknownTxn
clear_by s reported v _ = Refused NothingToForget

-- the acts at a coordinator; it has nothing for an operator to decide
abbrev pub coordinator_acts : Place → Option ProcessId → Node → Act → Reacts
coordinator_acts place parent n (Begin p) = begins_at parent place n p
coordinator_acts place parent n (JoinAct c q) =
    let v = coordinator_view place n c in join_by (seat_of place parent c) place.tree q v v.standing
coordinator_acts place parent n (WorkAct c q op) =
    let v = coordinator_view place n c in work_by (seat_of place parent c) place.tree q op v v.standing
coordinator_acts place parent n (CommitAct x) =
    let v = coordinator_view place n (root_case x) in
    commit_by (seat_of place parent (root_case x)) v v.standing
coordinator_acts place parent n (AbortAct x) =
    let v = coordinator_view place n (root_case x) in
    abort_by (seat_of place parent (root_case x)) v v.standing
coordinator_acts place parent n (Ask c) =
    let v = coordinator_view place n c in ask_by (seat_of place parent c) v v.standing
coordinator_acts place parent n (Decide c o) = live_by NotInDoubt (coordinator_view place n c).standing
coordinator_acts place parent n (Forget c) =
    let v = coordinator_view place n c in
    clear_by (seat_of place parent c) (is_none parent && is_reported (kept n) c) v v.standing

-- Messages of children.

-- a ticket's vote in the case to which it belongs; if there is none, nothing is done
abbrev pub vote_for : Place → Option ProcessId → Node → Ticket → Vote → Option Case → Effect
vote_for place parent n t w None = no_effect
vote_for place parent n t w (Some c) =
    let v = coordinator_view place n c in row_effect c (on_vote (seat_of place parent c) t w v v.standing)

-- a ticket's acknowledgement in the case to which it belongs; if there is none, nothing is done
abbrev pub ack_for : Version → Place → Option ProcessId → Node → Ticket → Outcome → List Finding → Option Case
    → Effect
ack_for ver place parent n t o fs None = no_effect
ack_for ver place parent n t o fs (Some c) =
    let v = coordinator_view place n c in
    row_effect c (on_ack ver (seat_of place parent c) t o (found_below place n c o fs) v v.standing)

-- where the child belongs to no case, it gets what is presumed
abbrev pub inquiry_for : Place → Option ProcessId → Node → Txn → Ticket → Option Case → Effect
inquiry_for place parent n x t None =
    sends_only (post place.me t.child (tells_outcome (presumed x.presumption) (child_case x t)) ∷ [])
inquiry_for place parent n x t (Some c) =
    let v = coordinator_view place n c in row_effect c (on_inquiry (seat_of place parent c) t v v.standing)

-- the case of a vote, an acknowledgement or an inquiry: one to which the child's ticket belongs
abbrev pub child_says : Case → (Ticket → Effect) → Effect
child_says d f = of_ticket d.ticket no_effect f

-- the messages of children; any other does nothing
abbrev pub hears_from_child : Version → Place → Option ProcessId → Node → Message → Effect
hears_from_child ver place parent n (Joined d t) =
    let v = coordinator_view place n d in row_effect d (on_joined t v v.standing)
hears_from_child ver place parent n (Yes d) = child_says d
    (λ t. vote_for place parent n t VoteYes (case_of_child place n d.txn t))
hears_from_child ver place parent n (No d) = child_says d
    (λ t. vote_for place parent n t VoteNo (case_of_child place n d.txn t))
hears_from_child ver place parent n (Read d) = child_says d
    (λ t. vote_for place parent n t VoteRead (case_of_child place n d.txn t))
hears_from_child ver place parent n (Ack d o fs) = child_says d
    (λ t. ack_for ver place parent n t o fs (case_of_child place n d.txn t))
hears_from_child ver place parent n (Inquire d) =
    child_says d (λ t. inquiry_for place parent n d.txn t (case_of_child place n d.txn t))
hears_from_child ver place parent n _ = no_effect

-- Messages of the parent.

-- JOIN is answered by the active ticket of that case of the parent, else by a fresh one
abbrev pub joins_with : Place → ProcessId → Node → Case → Memory → Option Ticket → Effect
joins_with place p n d m (Some t) = sends_only (post place.me p (Joined d t) ∷ [])
joins_with place p n d m None = sends_only (post place.me p
    (Joined d (next_ticket place.me (boot_of (kept n)) m)) ∷ [])

-- the messages at a coordinator below the root: its parent's, then its children's
abbrev pub cascaded_hears : Version → Place → ProcessId → Node → Message → Effect
cascaded_hears ver place p n (Join d) =
    let m = memory_of place n d in joins_with place p n d m (active_ticket m.active d)
cascaded_hears ver place p n (Prepare d k) =
    let v = coordinator_view place n d in row_effect d (on_prepare (seat_of place (Some p) d) v v.standing)
cascaded_hears ver place p n (Commit d) =
    let v = coordinator_view place n d in row_effect d (on_commit ver (seat_of place (Some p) d) v v.standing)
cascaded_hears ver place p n (Abort d) =
    let v = coordinator_view place n d in row_effect d (on_abort ver (seat_of place (Some p) d) v v.standing)
cascaded_hears ver place p n message = hears_from_child ver place (Some p) n message

-- A manager.

-- the manager in this case, below this parent
abbrev pub leaf_of : Place → ProcessId → Case → Leaf
leaf_of place p c = record { me = place.me; parent = p; own = c }

-- an act for children: a manager has none
abbrev pub childless_by : Standing → Reacts
childless_by Unknown = Refused UnknownTxn
childless_by Active = Refused NotAChild
childless_by _ = Refused Closed

-- an operator has decided: ask only where the outcome was not told yet
abbrev pub asks_untold : Leaf → ManagerView → Option Outcome → Reacts
asks_untold l v None = Does (leaf_effect (untold_ask l v))
asks_untold l v (Some o) = Refused NotInDoubt

-- ask: the branch is Prepared, or an operator decided it and the outcome was not told yet
abbrev pub leaf_ask_by : Leaf → ManagerView → Standing → Reacts
leaf_ask_by l v Unknown = Refused UnknownTxn
leaf_ask_by l v Prepared = Does (leaf_effect (untold_ask l v))
leaf_ask_by l v Heuristic = asks_untold l v v.told
leaf_ask_by l v _ = Refused NotInDoubt

-- an operator decides: the branch is Prepared
abbrev pub decide_by : Leaf → Outcome → Standing → Reacts
decide_by l o Unknown = Refused UnknownTxn
decide_by l o Prepared = Does (leaf_effect (prepared_decide l o))
decide_by l o _ = Refused NotInDoubt

-- an operator forgets: the branch was decided by an operator
abbrev pub forget_by : Leaf → Standing → Reacts
forget_by l Unknown = Refused UnknownTxn
forget_by l Heuristic = Does (leaf_effect (heuristic_forget l))
forget_by l _ = Refused NothingToForget

-- transactions are committed and aborted at the root alone: elsewhere none is known
abbrev pub manager_acts : Place → ProcessId → Node → Act → Reacts
manager_acts place p n (Begin q) = Refused NoSuch
manager_acts place p n (JoinAct c q) = childless_by (manager_view place n c).standing
manager_acts place p n (WorkAct c q op) = childless_by (manager_view place n c).standing
manager_acts place p n (CommitAct x) = Refused UnknownTxn
manager_acts place p n (AbortAct x) = Refused UnknownTxn
manager_acts place p n (Ask c) = let v = manager_view place n c in
    leaf_ask_by (leaf_of place p c) v v.standing
manager_acts place p n (Decide c o) = decide_by (leaf_of place p c) o (manager_view place n c).standing
manager_acts place p n (Forget c) = forget_by (leaf_of place p c) (manager_view place n c).standing

-- a fresh ticket is given only where xa_start answered XA_OK
abbrev pub leaf_joins : Place → ProcessId → Node → Case → Memory → Bool → Option Ticket → Effect
leaf_joins place p n d m starts (Some t) = joins_with place p n d m (Some t)
leaf_joins place p n d m true None = joins_with place p n d m None
leaf_joins place p n d m false None = no_effect

-- the messages at a manager, with what its data answer; any other does nothing
abbrev pub manager_hears : Version → Place → ProcessId → Node → DataAnswer → Message → Effect
manager_hears ver place p n a (Join d) =
    let m = memory_of place n d in leaf_joins place p n d m a.starts (active_ticket m.active d)
manager_hears ver place p n a (Work d i op) =
    let v = manager_view place n d in leaf_effect (ManagerRows.on_work i a.does v v.standing)
manager_hears ver place p n a (Prepare d k) =
    let v = manager_view place n d in leaf_effect
    (ManagerRows.on_prepare (leaf_of place p d) k a.holding v v.standing)
manager_hears ver place p n a (Commit d) =
    let v = manager_view place n d in
    leaf_effect (ManagerRows.on_commit ver (leaf_of place p d) (kept n) v v.standing)
manager_hears ver place p n a (Abort d) =
    let v = manager_view place n d in
    leaf_effect (ManagerRows.on_abort ver (leaf_of place p d) (kept n) v v.standing)
manager_hears ver place p n a _ = no_effect

-- Any process.

-- what a process of this role does with an act
abbrev pub acts : Role → Place → Node → Act → Reacts
acts AtRoot place n a = coordinator_acts place None n a
acts (Below p) place n a = coordinator_acts place (Some p) n a
acts (AtLeaf p) place n a = manager_acts place p n a

-- what a process of this role does with a message
abbrev pub hears : Role → Version → Place → Node → DataAnswer → Message → Effect
hears AtRoot ver place n a m = hears_from_child ver place None n m
hears (Below p) ver place n a m = cascaded_hears ver place p n m
hears (AtLeaf p) ver place n a m = manager_hears ver place p n a m

-- the child that an act names is listed; an act without one names none
abbrev pub names_listed : List TreeProcess → Act → Bool
names_listed tree (JoinAct c q) = is_listed tree q
names_listed tree (WorkAct c q op) = is_listed tree q
names_listed tree _ = true

-- the case waits for its parent's decision: nobody can owe it an acknowledgement yet
abbrev pub is_prepared_case : Place → Node → Option Case → Bool
is_prepared_case place n None = false
is_prepared_case place n (Some c) = is_prepared_standing (coordinator_view place n c).standing

-- an acknowledgement that comes while its case is Prepared
abbrev pub is_early_ack : Place → Node → Message → Bool
is_early_ack place n (Ack d o fs) = of_ticket d.ticket false
    (λ t. is_prepared_case place n (case_of_child place n d.txn t))
is_early_ack place n _ = false

-- such an acknowledgement does nothing, at a coordinator with a parent: a root is never Prepared
abbrev pub passes_at : Role → Place → Node → Input → Bool
passes_at (Below p) place n (MessageInput k m) = is_early_ack place n m && not n.failed
passes_at _ place n i = false

-- the input is passed over, and counts as not heard
abbrev pub is_passed_over : Place → Node → Input → Bool
is_passed_over place n i = passes_at place.role place n i

-- a failed process refuses each input; else acts may be refused, and messages never are
abbrev pub handles : Place → Node → Heard → Input → Reacts
handles place n h (ActInput a) = if n.failed then Refused Failed else acts place.role place n a
handles place n h (MessageInput k m) =
    if n.failed then Refused Failed else Does (hears place.role h.version place n h.data_answer m)

-- the child that an act names is listed; a message names none
abbrev pub act_is_listed : List TreeProcess → Input → Bool
act_is_listed tree (ActInput a) = names_listed tree a
act_is_listed tree (MessageInput k m) = true

-- what a process does with an input
unfoldable pub reacts : Place → Node → Heard → Reacts
reacts place n h = if act_is_listed place.tree h.input then handles place n h h.input else Refused NoSuch
