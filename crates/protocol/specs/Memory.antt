-- What a process remembers of a case: read off the inputs that it has handled since its last restart.
use Rattle.std.specs.Prelude.{◌+◌, ℕ, Bool, true, false, not, ◌==◌, ◌&&◌, if◌then◌else◌, Option, Some, None, List, [], ◌∷◌, ◌++◌, filter, find, fold, count_by}
use Rattle.std.specs.List.{list_any, list_all, flat_map}
use Rattle.protocol.specs.declared.names.Case.{Case}
use Rattle.protocol.specs.declared.names.ProcessId.{ProcessId}
use Rattle.protocol.specs.declared.names.Ticket.{Ticket}
use Rattle.protocol.specs.declared.names.Txn.{Txn}
use Rattle.protocol.specs.declared.names.Outcome.{Outcome}
use Rattle.protocol.specs.declared.names.Presumption.{Presumption}
use Rattle.protocol.specs.declared.messages.Finding.{Finding}
use Rattle.protocol.specs.declared.messages.Message.{Message}
use Rattle.protocol.specs.declared.messages.Message.TheVariants.{Join, Joined, Work, Prepare, Yes, No, Read, Abort, Ack}
use Rattle.protocol.specs.declared.standings.Vote.{Vote}
use Rattle.protocol.specs.declared.standings.Vote.TheVariants.{Yes as VoteYes, No as VoteNo, Read as VoteRead}
use Rattle.protocol.specs.declared.events.Act.TheVariants.{Begin, Work as WorkAct, Commit as CommitAct, Abort as AbortAct}
use Rattle.protocol.specs.declared.events.Input.{Input}
use Rattle.protocol.specs.declared.events.Input.TheVariants.{Act as ActInput, Message as MessageInput}
use Rattle.protocol.specs.Names.{same_process, same_outcome, same_txn, same_ticket, same_case, child_case, root_case}
use Rattle.protocol.specs.Records.{boot_of, in_list, none_of}
use Rattle.protocol.specs.Nodes.{Place, Role, AtRoot, Below, AtLeaf, Node, kept, Heard, DataAnswer}

-- Lists of tickets and votes.

-- a ticket of the same child is in the list
unfoldable pub has_child : List Ticket → ProcessId → Bool
has_child ts q = list_any (λ u. same_process u.child q) ts

-- the first ticket of the child
unfoldable pub ticket_of_child : List Ticket → ProcessId → Option Ticket
ticket_of_child ts q = find (λ u. same_process u.child q) ts

-- two votes are one
abbrev pub same_vote : Vote → Vote → Bool
same_vote VoteYes VoteYes = true
same_vote VoteNo VoteNo = true
same_vote VoteRead VoteRead = true
same_vote _ _ = false

-- the ticket has voted so
unfoldable pub voted_so : Vote → List (Ticket × Vote) → Ticket → Bool
voted_so w vs t = list_any (λ v. same_vote w v.1 && same_ticket v.0 t) vs

-- the ticket has voted
unfoldable pub has_voted : List (Ticket × Vote) → Ticket → Bool
has_voted vs t = list_any (λ v. same_ticket v.0 t) vs

-- each of the tickets has voted
unfoldable pub all_voted : List Ticket → List (Ticket × Vote) → Bool
all_voted ts vs = list_all (has_voted vs) ts

-- the tickets that voted yes
unfoldable pub yes_of : List Ticket → List (Ticket × Vote) → List Ticket
yes_of ts vs = filter (voted_so VoteYes vs) ts

-- the tickets that voted neither no nor read
unfoldable pub undecided_of : List Ticket → List (Ticket × Vote) → List Ticket
undecided_of ts vs = filter (λ t. not (voted_so VoteNo vs t) && not (voted_so VoteRead vs t)) ts

-- how many works were sent to the ticket
unfoldable pub works_of : List Ticket → Ticket → ℕ
works_of ws t = count_by (λ u. same_ticket u t) ws

-- the ticket has acknowledged the outcome
unfoldable pub has_acked : List (Ticket × Outcome) → Outcome → Ticket → Bool
has_acked acks o t = list_any (λ a. same_outcome a.1 o && same_ticket a.0 t) acks

-- what the acknowledgements of this outcome by these tickets found, in the order in which they came
unfoldable pub found_of : List (Ticket × (Outcome × List Finding)) → Outcome → List Ticket → List Finding
found_of found o ts = flat_map (λ a. if same_outcome a.1.0 o && in_list ts a.0 then a.1.1 else []) found

-- Memory.

-- how far a case has come since it was begun or joined
pub data Phase : Type 0 where
  -- not begun or joined since the last restart
  Idle : Phase
  -- it takes children and work
  Open : Phase
  -- its votes are being collected
  Asked : Phase
  -- votes are no longer taken
  Over : Phase

-- Of the process: how many transactions it began and how many tickets it gave in this boot, the cases of
-- those tickets, and each parent's case with the active ticket given to it. Of the case: its phase, the
-- accepted tickets, their first votes, a ticket for each work sent, the acknowledgements, and what the first
-- of each ticket and outcome found; at a manager how many works are done, and whether one was refused.
pub record Memory : Type 0 where
  pub begun : ℕ
  pub given : ℕ
  pub issued : List Case
  pub active : List (Case × Ticket)
  pub phase : Phase
  pub accepted : List Ticket
  pub votes : List (Ticket × Vote)
  pub works : List Ticket
  pub acks : List (Ticket × Outcome)
  pub found : List (Ticket × (Outcome × List Finding))
  pub done : ℕ
  pub spoiled : Bool

-- what is remembered at a restart: nothing
abbrev pub fresh_memory : Memory
fresh_memory = record {
  begun = 0;
  given = 0;
  issued = [];
  active = [];
  phase = Idle;
  accepted = [];
  votes = [];
  works = [];
  acks = [];
  found = [];
  done = 0;
  spoiled = false;
}

-- a case that begins, or is joined
abbrev pub opens_case : Memory → Memory
opens_case m = record m {
  phase = Open;
  accepted = [];
  votes = [];
  works = [];
  acks = [];
  found = [];
  done = 0;
  spoiled = false;
}

-- Tickets.

-- the ticket that is given next
abbrev pub next_ticket : ProcessId → ℕ → Memory → Ticket
next_ticket me boot m = record { child = me; boot = boot; number = m.given + 1 }

-- the active ticket that was given to this case of the parent
unfoldable pub active_ticket : List (Case × Ticket) → Case → Option Ticket
active_ticket [] d = None
active_ticket (a ∷ as') d = if same_case a.0 d then Some a.1 else active_ticket as' d

-- the case has the ticket
abbrev pub has_ticket : Case → Ticket → Bool
has_ticket c t = same_case c (child_case c.txn t)

-- the ticket of the case is active no longer
unfoldable pub without_ticket : List (Case × Ticket) → Case → List (Case × Ticket)
without_ticket active c = filter (λ a. not (same_case (child_case a.0.txn a.1) c)) active

-- a ticket is given for the parent's case d: it is counted, issued and active
abbrev pub gives : Memory → Case → Ticket → Memory
gives m d t = record m {
  given = m.given + 1;
  issued = m.issued ++ child_case d.txn t ∷ [];
  active = m.active ++ (d, t) ∷ [];
}

-- a parent's case d is joined: an active ticket is given again, else a fresh one, which opens its case
abbrev pub joins : ProcessId → ℕ → Case → Case → Memory → Option Ticket → Memory
joins me boot c d m (Some t) = m
joins me boot c d m None =
    let t = next_ticket me boot m in
    if same_case c (child_case d.txn t) then opens_case (gives m d t) else gives m d t

-- Phases.

-- the commit act, or PREPARE
abbrev pub asks_votes : Memory → Phase → Memory
asks_votes m Open = record m { phase = if none_of m.accepted then Over else Asked }
asks_votes m _ = m

-- an abort
abbrev pub closes : Memory → Phase → Memory
closes m Idle = m
closes m _ = record m { phase = Over }

-- JOINED: the first ticket of a child is accepted
abbrev pub accepts_ticket : Memory → Ticket → Phase → Memory
accepts_ticket m t Open =
    if has_child m.accepted t.child then m else record m { accepted = m.accepted ++ t ∷ [] }
accepts_ticket m t _ = m

-- the work act: while the case takes work, one more is sent to the ticket
abbrev pub sends_work : Memory → Option Ticket → Phase → Memory
sends_work m (Some t) Open = record m { works = m.works ++ t ∷ [] }
sends_work m _ _ = m

-- Votes.

-- a vote counts if it is the first of an accepted ticket
abbrev pub is_counted : List Ticket → List (Ticket × Vote) → Ticket → Bool
is_counted accepted votes t = in_list accepted t && not (has_voted votes t)

-- the phase after a vote that counts, by whether all have voted: NO, or the last one, ends the votes
abbrev pub phase_after : Vote → Bool → Phase
phase_after VoteNo all = Over
phase_after _ all = if all then Over else Asked

-- the memory with a vote that counts
abbrev pub with_vote : Memory → Ticket → Vote → Memory
with_vote m t w =
    let votes = m.votes ++ (t, w) ∷ [] in
    record m { votes = votes; phase = phase_after w (all_voted m.accepted votes) }

-- a vote comes: while votes are collected it is noted, if it counts
abbrev pub takes_vote : Memory → Ticket → Vote → Phase → Memory
takes_vote m t w Asked = if is_counted m.accepted m.votes t then with_vote m t w else m
takes_vote m t w _ = m

-- what is noted of an acknowledgement: of each ticket and outcome the first counts
abbrev pub first_found : Memory → Ticket → Outcome → List Finding → List (Ticket × (Outcome × List Finding))
first_found m t o fs = if has_acked m.acks o t then [] else (t, (o, fs)) ∷ []

-- Acknowledgements: those that come while votes can still come are none.
abbrev pub takes_ack : Memory → Ticket → Outcome → List Finding → Phase → Memory
takes_ack m t o fs Open = m
takes_ack m t o fs Asked = m
takes_ack m t o fs _ = record m { acks = m.acks ++ (t, o) ∷ []; found = m.found ++ first_found m t o fs }

-- The inputs.

-- what the function gives for the ticket; without a ticket the other value
abbrev pub of_ticket : {A : Type 0} → Option Ticket → A → (Ticket → A) → A
of_ticket None a f = a
of_ticket (Some t) a f = f t

-- a vote or an acknowledgement of a child of the case's transaction
abbrev pub of_child : Case → Case → Memory → (Ticket → Memory) → Memory
of_child c d m f = if same_txn d.txn c.txn then of_ticket d.ticket m f else m

-- the second memory where the two cases are one, else the first
abbrev pub if_same : Case → Case → Memory → Memory → Memory
if_same d c m m' = if same_case d c then m' else m

-- the transaction that the root begins next
abbrev pub next_txn : ProcessId → ℕ → Memory → Presumption → Txn
next_txn me boot m p = record { root = me; boot = boot; sequence = m.begun + 1; presumption = p }

-- the begin act: it is counted, and opens the case where that is the new transaction's
abbrev pub begins : ProcessId → ℕ → Case → Memory → Presumption → Memory
begins me boot c m p =
    let counted = record m { begun = m.begun + 1 } in
    if same_case (root_case (next_txn me boot m p)) c then opens_case counted else counted

-- what a coordinator's children say
abbrev pub hears_child : Case → Memory → Message → Memory
hears_child c m (Joined d t) = if_same d c m (accepts_ticket m t m.phase)
hears_child c m (Yes d) = of_child c d m (λ t. takes_vote m t VoteYes m.phase)
hears_child c m (No d) = of_child c d m (λ t. takes_vote m t VoteNo m.phase)
hears_child c m (Read d) = of_child c d m (λ t. takes_vote m t VoteRead m.phase)
hears_child c m (Ack d o fs) = of_child c d m (λ t. takes_ack m t o fs m.phase)
hears_child c m _ = m

-- an input at the root
abbrev pub root_remembers : ProcessId → ℕ → Case → Memory → Input → Memory
root_remembers me boot c m (ActInput (Begin p)) = begins me boot c m p
root_remembers me boot c m (ActInput (WorkAct d q op)) =
    if_same d c m (sends_work m (ticket_of_child m.accepted q) m.phase)
root_remembers me boot c m (ActInput (CommitAct x)) = if_same (root_case x) c m (asks_votes m m.phase)
root_remembers me boot c m (ActInput (AbortAct x)) = if_same (root_case x) c m (closes m m.phase)
root_remembers me boot c m (ActInput _) = m
root_remembers me boot c m (MessageInput k message) = hears_child c m message

-- a ticket leaves its active ones as its votes are asked for, or it is aborted
abbrev pub retires : Memory → Case → Memory
retires m d = record m { active = without_ticket m.active d }

-- a message at a coordinator below the root
abbrev pub cascaded_hears : ProcessId → ℕ → Case → Memory → Message → Memory
cascaded_hears me boot c m (Join d) = joins me boot c d m (active_ticket m.active d)
cascaded_hears me boot c m (Prepare d n) = if_same d c (retires m d) (asks_votes (retires m d) m.phase)
cascaded_hears me boot c m (Abort d) = if_same d c (retires m d) (closes (retires m d) m.phase)
cascaded_hears me boot c m message = hears_child c m message

-- an input at a coordinator below the root
abbrev pub cascaded_remembers : ProcessId → ℕ → Case → Memory → Input → Memory
cascaded_remembers me boot c m (ActInput (WorkAct d q op)) =
    if_same d c m (sends_work m (ticket_of_child m.accepted q) m.phase)
cascaded_remembers me boot c m (ActInput _) = m
cascaded_remembers me boot c m (MessageInput k message) = cascaded_hears me boot c m message

-- a work that comes in order is done, or refused
abbrev pub works : Memory → ℕ → Bool → Phase → Memory
works m i does Open =
    if (i == m.done + 1) && not m.spoiled
    then (if does then record m { done = i } else record m { spoiled = true })
    else m
works m i does _ = m

-- a message at a manager, with what its data answer
abbrev pub manager_hears : ProcessId → ℕ → Case → Memory → DataAnswer → Message → Memory
manager_hears me boot c m data_answer (Join d) =
    if data_answer.starts then joins me boot c d m (active_ticket m.active d) else m
manager_hears me boot c m data_answer (Work d i op) = if_same d c m (works m i data_answer.does m.phase)
manager_hears me boot c m data_answer (Prepare d n) = if_same d c (retires m d) (closes (retires m d) m.phase)
manager_hears me boot c m data_answer (Abort d) = if_same d c (retires m d) (closes (retires m d) m.phase)
manager_hears me boot c m data_answer _ = m

-- an input at a manager, with what its data answer
abbrev pub manager_remembers : ProcessId → ℕ → Case → Memory → DataAnswer → Input → Memory
manager_remembers me boot c m data_answer (ActInput _) = m
manager_remembers me boot c m data_answer (MessageInput k message) =
    manager_hears me boot c m data_answer message

-- an input at a process of this role
abbrev pub remembers : ProcessId → Role → ℕ → Case → Memory → Heard → Memory
remembers me AtRoot boot c m h = root_remembers me boot c m h.input
remembers me (Below p) boot c m h = cascaded_remembers me boot c m h.input
remembers me (AtLeaf p) boot c m h = manager_remembers me boot c m h.data_answer h.input

-- what the process remembers of the case
unfoldable pub memory_of : Place → Node → Case → Memory
memory_of place n c = fold (remembers place.me place.role (boot_of (kept n)) c) fresh_memory n.heard
