-- What an input meets at a process: a row of the reaction table, a refusal, or nothing. One dispatch for the
-- root, a coordinator below it, and a manager. It differs from tree_model's Reactions in two look-ups: whose
-- case a child's ticket is of (Finds), and which ticket answers JOIN and which numbers come next (ticket_for,
-- given, begun); docs/PROOF.md.
use Rattle.std.specs.Prelude.{◌≡◌, ◌+◌, Bool, true, false, ◌&&◌, ◌||◌, if◌then◌else◌, Option, Some, None, is_none, List, [], ◌∷◌, ◌++◌, map}
use Rattle.protocol.specs.declared.names.Case.{Case}
use Rattle.protocol.specs.declared.names.ProcessId.{ProcessId}
use Rattle.protocol.specs.declared.names.Ticket.{Ticket}
use Rattle.protocol.specs.declared.names.Txn.{Txn}
use Rattle.protocol.specs.declared.names.Outcome.{Outcome}
use Rattle.protocol.specs.declared.names.Outcome.TheVariants.{Committed, Aborted}
use Rattle.protocol.specs.declared.names.Presumption.{Presumption}
use Rattle.protocol.specs.declared.messages.Finding.{Finding}
use Rattle.protocol.specs.declared.messages.Op.{Op}
use Rattle.protocol.specs.declared.messages.Message.{Message}
use Rattle.protocol.specs.declared.messages.Message.TheVariants.{Join, Joined, Work, Prepare, Yes, No, Read, Commit, Abort, Ack, Inquire}
use Rattle.protocol.specs.declared.messages.Envelope.{Envelope}
use Rattle.protocol_words.specs.Variants.{AbortAct, ActInput, CaseBranch, CommitAct, JoinAct, MessageInput, VoteNo, VoteRead, VoteYes, WorkAct}
use Rattle.protocol.specs.declared.records.Record.{Record}
use Rattle.protocol.specs.declared.records.Record.TheVariants.{HeurCommit, HeurRollback}
use Rattle.protocol.specs.declared.standings.Standing.{Standing}
use Rattle.protocol.specs.declared.standings.Standing.TheVariants.{Unknown, Active, Collecting, Prepared, Heuristic}
use Rattle.protocol.specs.declared.standings.Vote.{Vote}
use Rattle.protocol.specs.declared.events.Act.{Act}
use Rattle.protocol.specs.declared.events.Act.TheVariants.{Begin, Ask, Decide, Forget}
use Rattle.protocol.specs.declared.events.Input.{Input}
use Rattle.protocol.specs.declared.events.StepError.{StepError}
use Rattle.protocol.specs.declared.events.StepError.TheVariants.{UnknownTxn, NotAChild, Closed, Failed, NotInDoubt, NothingToForget, NoSuch, Device, Exhausted}
use Rattle.protocol.specs.declared.trees.TreeProcess.{TreeProcess}
use Rattle.protocol.specs.Names.{same_txn, child_case, root_case, presumed}
use Rattle.protocol.specs.Records.{in_list, is_reported}
use Rattle.protocol.specs.Nodes.{Role, AtRoot, Below, AtLeaf, DataAnswer, Heard, Version, Second, is_child, is_leaf, role_of, ReadsOnly}
use Rattle.protocol.specs.Memory.{of_ticket, ticket_of_child}
use Rattle.protocol.specs.Standings.{CoordinatorView, ManagerView}
use Rattle.protocol.specs.CoordinatorRows.{Seat, Row, ByAct, active_join, active_work, active_commit, active_abort, collecting_abort, prepared_ask, on_vote, on_ack, on_inquiry, on_joined, on_prepare, on_commit, on_abort, post, tells_outcome, unknown_forget}
use Rattle.protocol.specs.ManagerRows.{Leaf, LeafRow, prepared_decide, heuristic_forget, untold_ask}
use Rattle.protocol.specs.ManagerRows
use Rattle.protocol.specs.Reactions.{Reacts, Refused, Does, row_effect, leaf_effect, sends_only, seat_of, leaf_of, act_is_listed}
use Rattle.protocol.specs.Restarts.{is_known}
use Rattle.protocol.specs.Views.{begin_effect}
use Rattle.log_records.specs.Sights.{records_of}
use Rattle.process_state.specs.States.{CoreState, parent}

-- the version of the reaction table by which a process handles its inputs
abbrev pub this_version : Version
this_version = Second

-- an input as a process hears it, with what a manager's data answer to it
abbrev pub heard_now : DataAnswer → Input → Heard
heard_now a i = record { input = i; data_answer = a; version = this_version }

-- what a process does with an input that it meets
pub data Turn : Type 0 where
  Refuses : StepError → Turn
  -- a transaction begins at the root
  Begins : Txn → Turn
  -- a fresh ticket is given for the parent's case, and this message tells it
  Issues : Case → Ticket → Envelope → Turn
  -- a coordinator's row of this case
  Takes : Case → Row → Turn
  -- a manager's row of this case
  Handles : Case → LeafRow → Turn
  -- these messages, and nothing moves
  Says : List Envelope → Turn

-- what the reaction table's model makes of a turn
abbrev pub reacted : Turn → Reacts
reacted (Refuses e) = Refused e
reacted (Begins x) = Does (begin_effect x)
reacted (Issues d t l) = Does (sends_only (l ∷ []))
reacted (Takes c row) = Does (row_effect c row)
reacted (Handles c row) = Does (leaf_effect row)
reacted (Says ls) = Does (sends_only ls)

-- an error by which the reaction table refuses; the device's is none, nor is that of numbers that are used up
abbrev pub is_refusal : StepError → Bool
is_refusal Device = false
is_refusal Exhausted = false
is_refusal _ = true

-- the answer of data that are asked nothing; a coordinator has none that answer anything
abbrev pub no_answer : DataAnswer
no_answer = record { starts = false; does = false; holding = ReadsOnly }

-- Whose case a child is of.

-- the case is live, of this transaction, and has accepted the child's ticket, or a kept record of it names
-- the ticket
abbrev pub is_case_of : CoreState → Txn → Ticket → Case → Bool
is_case_of s x t c =
    same_txn c.txn x && (is_known (s.view_of c).standing
    && (in_list (s.view_of c).accepted t || in_list (s.view_of c).named t))

-- the transaction with the child's ticket, if the case has one
abbrev pub asked_of : Case → Option (Txn × Ticket)
asked_of d = of_ticket d.ticket None (λ t. Some (d.txn, t))

-- the child's ticket that is looked for: a vote's, an acknowledgement's, an inquiry's
abbrev pub asked_in : Message → Option (Txn × Ticket)
asked_in (Yes d) = asked_of d
asked_in (No d) = asked_of d
asked_in (Read d) = asked_of d
asked_in (Ack d o fs) = asked_of d
asked_in (Inquire d) = asked_of d
asked_in _ = None

-- the child's ticket that an input looks for, with its transaction; an act looks for none
abbrev pub asked_by : Input → Option (Txn × Ticket)
asked_by (ActInput a) = None
asked_by (MessageInput k m) = asked_in m

-- what was found is the child's case; or the child has none
abbrev pub FindsChildCase : CoreState → Option (Txn × Ticket) → Option Case → Type 0
FindsChildCase s None found = found ≡ None
FindsChildCase s (Some p) (Some c) = is_case_of s p.0 p.1 c ≡ true
FindsChildCase s (Some p) None = (c : Case) → is_case_of s p.0 p.1 c ≡ false

-- A coordinator.

-- the coordinator in this case
abbrev pub seat_in : CoreState → Case → Seat
seat_in s c = seat_of s.place (parent s) c

-- the transaction that begins next
abbrev pub next_begun : CoreState → Presumption → Txn
next_begun s p = record { root = s.place.me; boot = s.boot; sequence = s.begun + 1; presumption = p }

-- begin: transactions are begun at the root alone
abbrev pub begin_turn : CoreState → Presumption → Option ProcessId → Turn
begin_turn s p None = Begins (next_begun s p)
begin_turn s p (Some q) = Refuses NoSuch

-- join: the case is Active, and the process is a child of this one
abbrev pub join_turn : Seat → List TreeProcess → ProcessId → CoordinatorView → Standing → Turn
join_turn s tree q v Unknown = Refuses UnknownTxn
join_turn s tree q v Active =
    if is_child tree q s.me then Takes s.own (active_join s q v) else Refuses NotAChild
join_turn s tree q v _ = Refuses Closed

-- an accepted child that is a manager takes work
abbrev pub work_for_turn : Seat → List TreeProcess → Op → CoordinatorView → Option Ticket → Turn
work_for_turn s tree op v None = Refuses NotAChild
work_for_turn s tree op v (Some t) =
    if is_leaf (role_of tree t.child) then Takes s.own (active_work s t op v) else Refuses NotAChild

-- work: the case is Active, and the process is an accepted child of it, and a manager
abbrev pub work_turn : Seat → List TreeProcess → ProcessId → Op → CoordinatorView → Standing → Turn
work_turn s tree q op v Unknown = Refuses UnknownTxn
work_turn s tree q op v Active = work_for_turn s tree op v (ticket_of_child v.accepted q)
work_turn s tree q op v _ = Refuses Closed

-- commit: the case is Active
abbrev pub commit_turn : Seat → CoordinatorView → Standing → Turn
commit_turn s v Unknown = Refuses UnknownTxn
commit_turn s v Active = Takes s.own (active_commit s v)
commit_turn s v _ = Refuses Closed

-- abort: the case is Active, or collects votes
abbrev pub abort_turn : Seat → CoordinatorView → Standing → Turn
abort_turn s v Unknown = Refuses UnknownTxn
abort_turn s v Active = Takes s.own (active_abort s v)
abort_turn s v Collecting = Takes s.own (collecting_abort s ByAct v)
abort_turn s v _ = Refuses Closed

-- ask: the case is in doubt
abbrev pub ask_turn : Seat → CoordinatorView → Standing → Turn
ask_turn s v Unknown = Refuses UnknownTxn
ask_turn s v Prepared = Takes s.own (prepared_ask s v)
ask_turn s v _ = Refuses NotInDoubt

-- a live case gets this refusal
abbrev pub live_turn : StepError → Standing → Turn
live_turn e Unknown = Refuses UnknownTxn
live_turn e _ = Refuses e

-- forget: nothing is known of the case, and the root's log reports what was found of it
abbrev pub clear_turn : Seat → Bool → CoordinatorView → Standing → Turn
clear_turn s reported v Unknown = if reported then Takes s.own (unknown_forget s v) else Refuses UnknownTxn
clear_turn s reported v _ = Refuses NothingToForget

-- the records that the process keeps, each with the whole name that its log has
abbrev pub kept_records : CoreState → List Record
kept_records s = map (λ l. l.entry) (records_of s.log.kept)

-- the acts at a coordinator; it has nothing for an operator to decide
abbrev pub coordinator_act : CoreState → Act → Turn
coordinator_act s (Begin p) = begin_turn s p (parent s)
coordinator_act s (JoinAct c q) = let v = s.view_of c in join_turn (seat_in s c) s.place.tree q v v.standing
coordinator_act s (WorkAct c q op) =
    let v = s.view_of c in work_turn (seat_in s c) s.place.tree q op v v.standing
coordinator_act s (CommitAct x) =
    let v = s.view_of (root_case x) in commit_turn (seat_in s (root_case x)) v v.standing
coordinator_act s (AbortAct x) =
    let v = s.view_of (root_case x) in abort_turn (seat_in s (root_case x)) v v.standing
coordinator_act s (Ask c) = let v = s.view_of c in ask_turn (seat_in s c) v v.standing
coordinator_act s (Decide c o) = live_turn NotInDoubt (s.view_of c).standing
coordinator_act s (Forget c) =
    let v = s.view_of c in
    clear_turn (seat_in s c) (is_none (parent s) && is_reported (kept_records s) c) v v.standing

-- a vote, in the case that was found for the child
abbrev pub vote_turn : CoreState → Vote → Ticket → Option Case → Turn
vote_turn s w t None = Says []
vote_turn s w t (Some c) = let v = s.view_of c in Takes c (on_vote (seat_in s c) t w v v.standing)

-- an acknowledgement with these findings, in the case that was found for the child: they come after those
-- that were found before
abbrev pub ack_turn : CoreState → Outcome → List Finding → Ticket → Option Case → Turn
ack_turn s o fs t None = Says []
ack_turn s o fs t (Some c) =
    let v = s.view_of c in Takes c (on_ack this_version (seat_in s c) t o (v.found ++ fs) v v.standing)

-- an inquiry, in the case that was found for the child; if there is none, the child gets what is presumed
abbrev pub inquiry_turn : CoreState → Txn → Ticket → Option Case → Turn
inquiry_turn s x t None =
    Says (post s.place.me t.child (tells_outcome (presumed x.presumption) (child_case x t)) ∷ [])
inquiry_turn s x t (Some c) = let v = s.view_of c in Takes c (on_inquiry (seat_in s c) t v v.standing)

-- a message of a child names the child's ticket
abbrev pub child_turn : Case → (Ticket → Turn) → Turn
child_turn d turn = of_ticket d.ticket (Says []) turn

-- the messages of children, each in the case that was found for it; any other does nothing
abbrev pub child_says : CoreState → Option Case → Message → Turn
child_says s found (Joined d t) = let v = s.view_of d in Takes d (on_joined t v v.standing)
child_says s found (Yes d) = child_turn d (λ t. vote_turn s VoteYes t found)
child_says s found (No d) = child_turn d (λ t. vote_turn s VoteNo t found)
child_says s found (Read d) = child_turn d (λ t. vote_turn s VoteRead t found)
child_says s found (Ack d o fs) = child_turn d (λ t. ack_turn s o fs t found)
child_says s found (Inquire d) = child_turn d (λ t. inquiry_turn s d.txn t found)
child_says s found _ = Says []

-- Tickets.

-- the ticket that is given next
abbrev pub next_ticket : CoreState → Ticket
next_ticket s = record { child = s.place.me; boot = s.boot; number = s.given + 1 }

-- JOIN is answered by the active ticket of that case of the parent, else by a fresh one
abbrev pub joined_turn : CoreState → ProcessId → Case → Option Ticket → Turn
joined_turn s p d (Some t) = Says (post s.place.me p (Joined d t) ∷ [])
joined_turn s p d None = Issues d (next_ticket s) (post s.place.me p (Joined d (next_ticket s)))

-- the messages at a coordinator below the root: its parent's, then its children's
abbrev pub cascaded_turn : CoreState → ProcessId → Option Case → Message → Turn
cascaded_turn s p found (Join d) = joined_turn s p d (s.ticket_for d)
cascaded_turn s p found (Prepare d k) = let v = s.view_of d in Takes d (on_prepare (seat_in s d) v v.standing)
cascaded_turn s p found (Commit d) =
    let v = s.view_of d in Takes d (on_commit this_version (seat_in s d) v v.standing)
cascaded_turn s p found (Abort d) =
    let v = s.view_of d in Takes d (on_abort this_version (seat_in s d) v v.standing)
cascaded_turn s p found message = child_says s found message

-- A manager.

-- the manager in this case, below this parent
abbrev pub leaf_in : CoreState → ProcessId → Case → Leaf
leaf_in s p c = leaf_of s.place p c

-- an act for children: a manager has none
abbrev pub childless_turn : Standing → Turn
childless_turn Unknown = Refuses UnknownTxn
childless_turn Active = Refuses NotAChild
childless_turn _ = Refuses Closed

-- an operator has decided: ask only where the outcome was not told yet
abbrev pub untold_turn : Leaf → ManagerView → Option Outcome → Turn
untold_turn l v None = Handles l.own (untold_ask l v)
untold_turn l v (Some o) = Refuses NotInDoubt

-- ask: the branch is Prepared, or an operator decided it and the outcome was not told yet
abbrev pub leaf_ask_turn : Leaf → ManagerView → Standing → Turn
leaf_ask_turn l v Unknown = Refuses UnknownTxn
leaf_ask_turn l v Prepared = Handles l.own (untold_ask l v)
leaf_ask_turn l v Heuristic = untold_turn l v v.told
leaf_ask_turn l v _ = Refuses NotInDoubt

-- an operator decides: the branch is Prepared
abbrev pub decide_turn : Leaf → Outcome → Standing → Turn
decide_turn l o Unknown = Refuses UnknownTxn
decide_turn l o Prepared = Handles l.own (prepared_decide l o)
decide_turn l o _ = Refuses NotInDoubt

-- an operator forgets: the branch was decided by an operator
abbrev pub forget_turn : Leaf → Standing → Turn
forget_turn l Unknown = Refuses UnknownTxn
forget_turn l Heuristic = Handles l.own (heuristic_forget l)
forget_turn l _ = Refuses NothingToForget

-- the acts at a manager: transactions are committed and aborted at the root alone
abbrev pub manager_act : CoreState → ProcessId → Act → Turn
manager_act s p (Begin q) = Refuses NoSuch
manager_act s p (JoinAct c q) = childless_turn (s.branch_of c).standing
manager_act s p (WorkAct c q op) = childless_turn (s.branch_of c).standing
manager_act s p (CommitAct x) = Refuses UnknownTxn
manager_act s p (AbortAct x) = Refuses UnknownTxn
manager_act s p (Ask c) = let v = s.branch_of c in leaf_ask_turn (leaf_in s p c) v v.standing
manager_act s p (Decide c o) = decide_turn (leaf_in s p c) o (s.branch_of c).standing
manager_act s p (Forget c) = forget_turn (leaf_in s p c) (s.branch_of c).standing

-- a fresh ticket is given only where xa_start answered XA_OK
abbrev pub leaf_joined_turn : CoreState → ProcessId → Case → Bool → Option Ticket → Turn
leaf_joined_turn s p d starts (Some t) = joined_turn s p d (Some t)
leaf_joined_turn s p d true None = joined_turn s p d None
leaf_joined_turn s p d false None = Says []

-- the record of an operator's decision of the case, if there is one
abbrev pub decision_records : Case → Option Outcome → List Record
decision_records c None = []
decision_records c (Some Committed) = HeurCommit (CaseBranch c) ∷ []
decision_records c (Some Aborted) = HeurRollback (CaseBranch c) ∷ []

-- the messages at a manager, with what its data answer; any other does nothing
abbrev pub manager_turn : CoreState → ProcessId → DataAnswer → Message → Turn
manager_turn s p a (Join d) = leaf_joined_turn s p d a.starts (s.ticket_for d)
manager_turn s p a (Work d i op) =
    let v = s.branch_of d in Handles d (ManagerRows.on_work i a.does v v.standing)
manager_turn s p a (Prepare d k) =
    let v = s.branch_of d in Handles d (ManagerRows.on_prepare (leaf_in s p d) k a.holding v v.standing)
manager_turn s p a (Commit d) =
    let v = s.branch_of d in
    Handles d (ManagerRows.on_commit this_version (leaf_in s p d)
    (decision_records d (s.decided_of d)) v v.standing)
manager_turn s p a (Abort d) =
    let v = s.branch_of d in
    Handles d (ManagerRows.on_abort this_version (leaf_in s p d)
    (decision_records d (s.decided_of d)) v v.standing)
manager_turn s p a _ = Says []

-- Any process.

-- an act at a process of this role
abbrev pub act_turn : Role → CoreState → Act → Turn
act_turn AtRoot s x = coordinator_act s x
act_turn (Below p) s x = coordinator_act s x
act_turn (AtLeaf p) s x = manager_act s p x

-- a message at a process of this role
abbrev pub message_turn : Role → CoreState → DataAnswer → Option Case → Message → Turn
message_turn AtRoot s a found m = child_says s found m
message_turn (Below p) s a found m = cascaded_turn s p found m
message_turn (AtLeaf p) s a found m = manager_turn s p a m

-- an input at a process that is up
abbrev pub up_turn : CoreState → DataAnswer → Option Case → Input → Turn
up_turn s a found (ActInput x) = act_turn s.place.role s x
up_turn s a found (MessageInput k m) = message_turn s.place.role s a found m

-- what an input meets, with what a manager's data answer to it, and the case that was found for the child
-- that it is of
unfoldable pub turn_of : CoreState → DataAnswer → Option Case → Input → Turn
turn_of s a found i =
    if act_is_listed s.place.tree i
    then (if s.log.failed then Refuses Failed else up_turn s a found i)
    else Refuses NoSuch
