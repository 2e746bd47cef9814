-- The new view that the reaction table gives is what the extended lists read as.
use Rattle.std.specs.Prelude.{◌≡◌, ℕ, Bool, true, false, Some, None, List, [], ◌++◌}
use Rattle.protocol.specs.declared.names.Case.{Case}
use Rattle.protocol.specs.declared.names.ProcessId.{ProcessId}
use Rattle.protocol.specs.declared.names.Ticket.{Ticket}
use Rattle.protocol.specs.declared.names.Txn.{Txn}
use Rattle.protocol.specs.declared.names.Outcome.{Outcome}
use Rattle.protocol.specs.declared.names.Presumption.{Presumption}
use Rattle.protocol.specs.declared.names.Presumption.TheVariants.{PresumeAbort}
use Rattle.protocol.specs.declared.records.Record.{Record}
use Rattle.protocol.specs.declared.messages.Op.{Op}
use Rattle.protocol.specs.declared.messages.Finding.{Finding}
use Rattle.protocol.specs.declared.messages.Message.{Message}
use Rattle.protocol.specs.declared.messages.Message.TheVariants.{Join, Joined, Work, Prepare, Yes, No, Read, Commit, Abort, Ack, Inquire}
use Rattle.protocol.specs.declared.records.BranchName.TheVariants.{Case as CaseBranch}
use Rattle.protocol.specs.declared.standings.Standing.TheVariants.{Active, Collecting}
use Rattle.protocol.specs.declared.standings.Vote.{Vote}
use Rattle.protocol.specs.declared.standings.Vote.TheVariants.{Yes as VoteYes, No as VoteNo, Read as VoteRead}
use Rattle.protocol.specs.declared.events.Act.{Act}
use Rattle.protocol.specs.declared.events.Act.TheVariants.{Begin, Join as JoinAct, Work as WorkAct, Commit as CommitAct, Abort as AbortAct, Ask, Decide, Forget}
use Rattle.protocol.specs.declared.events.Input.TheVariants.{Act as ActInput, Message as MessageInput}
use Rattle.protocol.specs.declared.trees.TreeProcess.{TreeProcess}
use Rattle.protocol.specs.Names.{same_txn, same_case, root_case, child_case}
use Rattle.protocol.specs.Records.{boot_of, has, is_end, is_commit, is_abort, is_prepare, is_collecting, promised_by, named_by, owing_by}
use Rattle.protocol.specs.Nodes.{Version, Place, AtRoot, AtLeaf, DataAnswer, Heard, Node, kept, Effect, after}
use Rattle.protocol.specs.Memory.{Open, Asked, memory_of, next_txn, next_ticket, active_ticket, ticket_of_child}
use Rattle.protocol.specs.Standings.{some_case, coordinator_view, manager_view, mark_of, Unmarked}
use Rattle.protocol.specs.CoordinatorRows.{Seat, Row, ByAct, active_commit, active_abort, active_join, active_work, collecting_abort, on_joined, on_vote, on_ack, on_inquiry}
use Rattle.protocol.specs.ManagerRows.{Leaf, LeafRow, prepared_decide, heuristic_forget, untold_ask}
use Rattle.protocol.specs.ManagerRows
use Rattle.protocol.specs.Reactions.{row_effect, leaf_effect, leaf_of, leaf_joins}

-- A manager.

-- a manager with this parent in a tree
abbrev pub leaf_place : ProcessId → ProcessId → List TreeProcess → Place
leaf_place me p tree = record { me = me; role = AtLeaf p; tree = tree }

-- the message with this number, with what a manager's data answer to it, by this version
abbrev pub hears_message : Version → ℕ → Message → DataAnswer → Heard
hears_message ver k m a = record { input = MessageInput k m; data_answer = a; version = ver }

-- the view of a case after a message about the case d, and of d itself the row's
pub record MovesBranch (place : Place) (n : Node) (h : Heard) (d : Case) (row : LeafRow) : Type 0 where
  pub moved : manager_view place (after n h (leaf_effect row)) d ≡ row.view
  pub others : (c : Case) → same_case d c ≡ false
      → manager_view place (after n h (leaf_effect row)) c ≡ manager_view place n c

-- an act, with what a manager's data answer to it, by this version
abbrev pub hears_act : Version → Act → DataAnswer → Heard
hears_act ver x a = record { input = ActInput x; data_answer = a; version = ver }

-- the fresh ticket's case
abbrev pub fresh_case : Place → Node → Case → Case
fresh_case place n d = child_case d.txn (next_ticket place.me (boot_of (kept n)) (memory_of place n d))

-- JOIN: an active ticket is given again, or xa_start was refused, and nothing moves; else the fresh ticket's
-- case, of which there is no record, is Active, and no other moves
pub record JoinsBranch (place : Place) (p : ProcessId) (n : Node) (h : Heard) (d : Case)
    (starts : Bool) : Type 0 where
  pub given_again : (t : Ticket) → active_ticket (memory_of place n d).active d ≡ Some t
      → (c : Case) → manager_view place (after n h
      (leaf_joins place p n d (memory_of place n d) starts (Some t))) c ≡ manager_view place n c
  pub not_started : active_ticket (memory_of place n d).active d ≡ None → starts ≡ false
      → (c : Case) → manager_view place (after n h (leaf_joins place p n d (memory_of place n d) starts None))
      c ≡ manager_view place n c
  pub fresh : active_ticket (memory_of place n d).active d ≡ None → starts ≡ true
      → mark_of (CaseBranch (fresh_case place n d)) (kept n) ≡ Unmarked
      → manager_view place (after n h (leaf_joins place p n d (memory_of place n d) starts None))
      (fresh_case place n d)
      ≡ record { standing = Active; done = 0; spoiled = false; told = None }
  pub others : active_ticket (memory_of place n d).active d ≡ None → starts ≡ true
      → (c : Case) → same_case c (fresh_case place n d) ≡ false
      → manager_view place (after n h (leaf_joins place p n d (memory_of place n d) starts None)) c
      ≡ manager_view place n c

-- the rows of a manager, by this version
pub record ManagerViews (ver : Version) (me p : ProcessId) (tree : List TreeProcess) (n : Node)
    (d : Case) : Type 0 where
  pub work : (k i : ℕ) (op : Op) (a : DataAnswer) → let place = leaf_place me p tree in let v =
      manager_view place n d in
      MovesBranch place n (hears_message ver k (Work d i op) a) d (ManagerRows.on_work i a.does v v.standing)
  pub prepare : (k i : ℕ) (a : DataAnswer) → let place = leaf_place me p tree in let v =
      manager_view place n d in
      MovesBranch place n (hears_message ver k (Prepare d i) a) d
      (ManagerRows.on_prepare (leaf_of place p d) i a.holding v v.standing)
  pub commit : (k : ℕ) (a : DataAnswer) (rs : List Record) → let place = leaf_place me p tree in let v =
      manager_view place n d in
      MovesBranch place n (hears_message ver k (Commit d) a) d
      (ManagerRows.on_commit ver (leaf_of place p d) rs v v.standing)
  pub abort : (k : ℕ) (a : DataAnswer) (rs : List Record) → let place = leaf_place me p tree in let v =
      manager_view place n d in
      MovesBranch place n (hears_message ver k (Abort d) a) d
      (ManagerRows.on_abort ver (leaf_of place p d) rs v v.standing)
  pub join : (k : ℕ) (a : DataAnswer) → JoinsBranch (leaf_place me p tree) p n
      (hears_message ver k (Join d) a) d a.starts
  pub ask : (a : DataAnswer) → let place = leaf_place me p tree in let v = manager_view place n d in
      MovesBranch place n (hears_act ver (Ask d) a) d (untold_ask (leaf_of place p d) v)
  pub decide : (o : Outcome) (a : DataAnswer) → let place = leaf_place me p tree in
      MovesBranch place n (hears_act ver (Decide d o) a) d (prepared_decide (leaf_of place p d) o)
  pub forget : (a : DataAnswer) → let place = leaf_place me p tree in
      MovesBranch place n (hears_act ver (Forget d) a) d (heuristic_forget (leaf_of place p d))

-- The root.

-- the root of a tree
abbrev pub root_place : ProcessId → List TreeProcess → Place
root_place me tree = record { me = me; role = AtRoot; tree = tree }

-- the root in this case
abbrev pub root_seat : ProcessId → Case → Seat
root_seat me c = record { me = me; parent = None; own = c }

-- What a case that is open has on its lists: while it takes children no record says that it went on, votes
-- are taken exactly while it is at Collecting, and Presumed Abort collects them after no record.
pub record IsOpenAlike (place : Place) (n : Node) (c : Case) : Type 0 where
  pub open_is_active : (memory_of place n c).phase ≡ Open → (coordinator_view place n c).standing ≡ Active
  pub asked_is_collecting : (memory_of place n c).phase ≡ Asked
      → (coordinator_view place n c).standing ≡ Collecting
  pub collecting_is_asked : (coordinator_view place n c).standing ≡ Collecting
      → (memory_of place n c).phase ≡ Asked
  pub no_record_collects : c.txn.presumption ≡ PresumeAbort → has (is_collecting c) (kept n) ≡ false

-- the view of the transaction after an input is the row's, and no other transaction's moves
pub record MovesTxn (place : Place) (n : Node) (h : Heard) (x : Txn) (row : Row) : Type 0 where
  pub moved : coordinator_view place (after n h (row_effect (root_case x) row)) (root_case x) ≡ row.view
  pub others : (y : Txn) → same_txn x y ≡ false
      → coordinator_view place (after n h (row_effect (root_case x) row)) (root_case y)
      ≡ coordinator_view place n (root_case y)

-- the message that brings a vote
abbrev pub vote_message : Vote → Case → Message
vote_message VoteYes = Yes
vote_message VoteNo = No
vote_message VoteRead = Read

-- no record is of the case, or names a child of it
pub record IsUnrecorded (rs : List Record) (c : Case) : Type 0 where
  pub no_end : has (is_end c) rs ≡ false
  pub no_commit : has (is_commit c) rs ≡ false
  pub no_abort : has (is_abort c) rs ≡ false
  pub no_prepare : has (is_prepare c) rs ≡ false
  pub no_collecting : has (is_collecting c) rs ≡ false
  pub promised : promised_by c rs ≡ []
  pub named : named_by c rs ≡ []
  pub owing : owing_by c rs ≡ []

-- the transaction that the root begins next
abbrev pub next_begun : Place → Node → Presumption → Txn
next_begun place n p = next_txn place.me (boot_of (kept n)) (memory_of place n (some_case place)) p

-- a transaction that is begun, and of which there was no record, is Active, and no other moves
pub record BeginsTxn (place : Place) (n : Node) (h : Heard) (e : Effect) (x : Txn) : Type 0 where
  pub begun : IsUnrecorded (kept n) (root_case x)
      → coordinator_view place (after n h e) (root_case x)
      ≡ record {
        standing = Active;
        accepted = [];
        votes = [];
        works = [];
        promised = [];
        named = [];
        owed = [];
        found = [];
      }
  pub others : (y : Txn) → same_txn x y ≡ false
      → coordinator_view place (after n h e) (root_case y) ≡ coordinator_view place n (root_case y)

-- what a begin does beside naming its transaction
abbrev pub begin_effect : Txn → Effect
begin_effect x = record {
  begun = Some x;
  written = [];
  told = None;
  messages = [];
  accepts = [];
  counts = [];
  remains = None;
}

-- a transaction that begins
abbrev pub RootBegins : Version → ProcessId → List TreeProcess → Node → Presumption → DataAnswer → Type 0
RootBegins ver me tree n p a =
    let place = root_place me tree in
    let x = next_begun place n p in
    BeginsTxn place n (hears_act ver (Begin p) a) (begin_effect x) x

-- the rows of the root, by this version
pub record RootViews (ver : Version) (me : ProcessId) (tree : List TreeProcess) (n : Node)
    (x : Txn) : Type 0 where
  pub commit : (a : DataAnswer) → let place = root_place me tree in let c = root_case x in let v =
      coordinator_view place n c in
      v.standing ≡ Active → MovesTxn place n (hears_act ver (CommitAct x) a) x
      (active_commit (root_seat me c) v)
  pub abort_active : (a : DataAnswer) → let place = root_place me tree in let c = root_case x in let v =
      coordinator_view place n c in
      v.standing ≡ Active → MovesTxn place n (hears_act ver (AbortAct x) a) x
      (active_abort (root_seat me c) v)
  pub abort_collecting : (a : DataAnswer) → let place = root_place me tree in let c = root_case x in let v =
      coordinator_view place n c in
      IsOpenAlike place n c → v.standing ≡ Collecting
      → MovesTxn place n (hears_act ver (AbortAct x) a) x (collecting_abort (root_seat me c) ByAct v)
  pub join : (a : DataAnswer) (q : ProcessId) → let place = root_place me tree in let c = root_case x in
      let v = coordinator_view place n c in
      MovesTxn place n (hears_act ver (JoinAct c q) a) x (active_join (root_seat me c) q v)
  pub work : (a : DataAnswer) (q : ProcessId) (t : Ticket) (op : Op) → let place = root_place me tree in
      let c = root_case x in let v = coordinator_view place n c in
      v.standing ≡ Active → ticket_of_child v.accepted q ≡ Some t
      → MovesTxn place n (hears_act ver (WorkAct c q op) a) x (active_work (root_seat me c) t op v)
  pub joined : (k : ℕ) (a : DataAnswer) (t : Ticket) → let place = root_place me tree in let c =
      root_case x in let v = coordinator_view place n c in
      IsOpenAlike place n c → MovesTxn place n (hears_message ver k (Joined c t) a) x
      (on_joined t v v.standing)
  pub vote : (k : ℕ) (a : DataAnswer) (t : Ticket) (w : Vote) → let place = root_place me tree in let c =
      root_case x in let v = coordinator_view place n c in
      IsOpenAlike place n c → MovesTxn place n (hears_message ver k (vote_message w (child_case x t)) a) x
      (on_vote (root_seat me c) t w v v.standing)
  pub acknowledgement : (k : ℕ) (a : DataAnswer) (t : Ticket) (o : Outcome) (fs : List Finding) → let place =
      root_place me tree in let c = root_case x in let v = coordinator_view place n c in
      IsOpenAlike place n c → MovesTxn place n (hears_message ver k (Ack (child_case x t) o fs) a) x
      (on_ack ver (root_seat me c) t o (v.found ++ fs) v v.standing)
  pub inquiry : (k : ℕ) (a : DataAnswer) (t : Ticket) → let place = root_place me tree in let c =
      root_case x in let v = coordinator_view place n c in
      MovesTxn place n (hears_message ver k (Inquire (child_case x t)) a) x
      (on_inquiry (root_seat me c) t v v.standing)
