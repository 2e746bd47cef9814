-- The world's steps are moves of the pairs: one law for a row of each kind.
use Rattle.std.specs.Prelude.{◌≡◌, ◌==◌, ◌&&◌, not, ℕ, zero, suc, Bool, true, false, Option, Some, List, [], ◌∷◌, ◌++◌}
use Rattle.protocol.specs.declared.names.Case.{Case}
use Rattle.protocol.specs.declared.names.ProcessId.{ProcessId}
use Rattle.protocol.specs.declared.names.Ticket.{Ticket}
use Rattle.protocol.specs.declared.names.Presumption.TheVariants.{PresumeAbort}
use Rattle.protocol.specs.declared.names.Txn.{Txn}
use Rattle.protocol_words.specs.Variants.{CaseBranch, VoteYes}
use Rattle.protocol.specs.Memory.{is_counted, all_voted, memory_of}
use Rattle.protocol.specs.declared.messages.Message.TheVariants.{Prepare, Abort, Yes}
use Rattle.protocol.specs.declared.records.Write.{Write}
use Rattle.protocol.specs.declared.standings.Standing.TheVariants.{Active, Collecting, Prepared}
use Rattle.protocol.specs.declared.trees.TreeProcess.{TreeProcess}
use Rattle.protocol.specs.Names.{child_case, root_case, process_of, same_case}
use Rattle.protocol.specs.Records.{has, is_prepare}
use Rattle.protocol.specs.Nodes.{place_of, kept, DataAnswer, Holds, Effect}
use Rattle.protocol.specs.Standings.{CoordinatorView, ManagerView, manager_view, coordinator_view, case_of_child, phase_standing, mark_of}
use Rattle.protocol.specs.declared.records.Record.{Record}
use Rattle.protocol.specs.Restarts.{left_of, case_stays}
use Rattle.protocol.specs.World.{World, world_makes, Move}
use Rattle.proof_pairs.specs.ChildMoves.{votes_yes, hardens_child}
use Rattle.protocol.specs.declared.events.Fault.{Fault}
use Rattle.proof_pairs.specs.Reading.{Reading}
use Rattle.proof_pairs.specs.ChildCrash.{ChildFront, IsChildFront, child_fails, fails_to_promise, hardens_failed_child, child_restarts}
use Rattle.proof_pairs.specs.Invariant.{Common, PresumedAbort}
use Rattle.proof_pairs.specs.readings.Halves.{child_front, is_in_doubt}
use Rattle.proof_pairs.specs.ParentMoves.{hears_yes, hardens_parent, trims_parent}
use Rattle.proof_pairs.specs.RootMoves.{decides_naming}
use Rattle.proof_pairs.specs.CascadedMoves.{passes_abort}
use Rattle.proof_pairs.specs.readings.ReadingOf.{reading_of}
use Rattle.proof_pairs.specs.readings.Steps.{IsRootPair, IsLeafPair, IsCascadedPair, delivers, fails_at, restarts_at, trims_at, asks_by, IsElsewhere, IsQuiet}

-- The branch is Active, all its works are done, and its data hold these writes.
pub record IsReady (v : ManagerView) (n : ℕ) (a : DataAnswer) (ws : List Write) : Type 0 where
  pub active : v.standing ≡ Active
  pub done : ((v.done == n) && not v.spoiled) ≡ true
  pub holds : a.holding ≡ Holds ws

-- PREPARE at a ready branch is the move of the vote YES, after the force of what stood before.
abbrev pub ManagerVotesYes : Type 0
ManagerVotesYes = (tree : List TreeProcess) (w w' : World) (above : Bool) (c : Case) (t : Ticket)
    (p : ProcessId) (i n : ℕ)
    (a : DataAnswer) (ws : List Write) (e : Effect)
    → IsLeafPair tree c t p
    → IsReady (manager_view (place_of tree t.child) (w.at t.child) (child_case c.txn t)) n a ws
    → world_makes tree w (delivers t.child i (Prepare (child_case c.txn t) n) a) ≡ Some (e, w')
    → reading_of tree w' above c t ≡ votes_yes (hardens_child (reading_of tree w above c t))

-- ABORT at a Prepared coordinator, under Presumed Abort, is the move of passing it on, for each of its
-- children. (What is kept was once appended.)
abbrev pub CascadedPassesAbort : Type 0
CascadedPassesAbort = (tree : List TreeProcess) (w w' : World) (above : Bool) (c : Case) (t : Ticket)
    (p : ProcessId) (i : ℕ)
    (a : DataAnswer) (e : Effect)
    → IsCascadedPair tree c t p
    → c.txn.presumption ≡ PresumeAbort
    → (coordinator_view (place_of tree (process_of c)) (w.at (process_of c)) c).standing ≡ Prepared
    → has (is_prepare c) (w.at (process_of c)).life ≡ true
    → world_makes tree w (delivers (process_of c) i (Abort c) a) ≡ Some (e, w')
    → reading_of tree w' above c t ≡ passes_abort (reading_of tree w above c t)

-- The vote YES of this ticket is the last one that the root waits for: the root's case collects votes,
-- the ticket is its own, has not voted before, and with its vote all have voted.
pub record IsLastVote (v : CoordinatorView) (found : Option Case) (x : Txn) (t : Ticket) : Type 0 where
  pub collecting : v.standing ≡ Collecting
  pub belongs : found ≡ Some (root_case x)
  pub first : is_counted v.accepted v.votes t ≡ true
  pub last : all_voted v.accepted (v.votes ++ (t, VoteYes) ∷ []) ≡ true

-- The last vote, under Presumed Abort, is the moves of hearing it and of the root's decision, after the
-- force of what stood before, for the pair of the ticket whose vote it is.
abbrev pub RootDecides : Type 0
RootDecides = (tree : List TreeProcess) (w w' : World) (above : Bool) (x : Txn) (t : Ticket) (i : ℕ)
    (a : DataAnswer) (e : Effect)
    → IsRootPair tree x t
    → x.presumption ≡ PresumeAbort
    → PresumedAbort (reading_of tree w above (root_case x) t)
    → IsLastVote (coordinator_view (place_of tree x.root) (w.at x.root) (root_case x))
    (case_of_child (place_of tree x.root) (w.at x.root) x t) x t
    → world_makes tree w (delivers x.root i (Yes (child_case x t)) a) ≡ Some (e, w')
    → reading_of tree w' above (root_case x) t ≡ decides_naming
    (hears_yes (hardens_parent (reading_of tree w above (root_case x) t)))

-- What a fault makes of the reading, by how many records were appended.
abbrev pub promise_fault : ℕ → Reading → Reading
promise_fault zero r = child_fails r
promise_fault (suc k) r = fails_to_promise r

-- A fault at PREPARE of a ready branch is the move of failing, before its promise or after it, and then
-- the forced front has moved on to where it is.
abbrev pub ManagerFails : Type 0
ManagerFails = (tree : List TreeProcess) (w w' : World) (above : Bool) (c : Case) (t : Ticket)
    (p : ProcessId) (i n : ℕ)
    (a : DataAnswer) (ws : List Write) (f : Fault) (e : Effect)
    → IsLeafPair tree c t p
    → Common (reading_of tree w above c t)
    → IsReady (manager_view (place_of tree t.child) (w.at t.child) (child_case c.txn t)) n a ws
    → world_makes tree w (fails_at t.child i (Prepare (child_case c.txn t) n) a f) ≡ Some (e, w')
    → reading_of tree w' above c t
    ≡ hardens_failed_child (child_front (child_case c.txn t) (w'.at t.child).forced (w.at t.child).durable)
    (promise_fault f.appended (reading_of tree w above c t))

-- The last record of the branch asks exactly where its records leave it in doubt: its log is in order.
abbrev pub LastRecordTells : Case → List Record → ChildFront → Type 0
LastRecordTells d rs front = asks_by (mark_of (CaseBranch d) rs) ≡ is_in_doubt front

-- A manager's restart is the move of a restart, with what it left of its log.
abbrev pub ManagerRestarts : Type 0
ManagerRestarts = (tree : List TreeProcess) (w w' : World) (above : Bool) (c : Case) (t : Ticket)
    (p : ProcessId) (k : ℕ)
    (a : DataAnswer) (e : Effect)
    → IsLeafPair tree c t p
    → Common (reading_of tree w above c t)
    → (let d = child_case c.txn t in let left = left_of (w.at t.child) k in
    let front = child_front d left (w.at t.child).durable in
    IsChildFront front (reading_of tree w above c t) × LastRecordTells d left front)
    → world_makes tree w (restarts_at t.child k a) ≡ Some (e, w')
    → reading_of tree w' above c t
    ≡ child_restarts (child_front (child_case c.txn t) (left_of (w.at t.child) k) (w.at t.child).durable)
    (reading_of tree w above c t)

-- A trim of the root's log takes a case that its records leave Unknown and do not report: the move of
-- trimming it. (With its records gone the case stands where it stood: memory says the same of it.)
abbrev pub RootTrims : Type 0
RootTrims = (tree : List TreeProcess) (w w' : World) (above : Bool) (x : Txn) (t : Ticket) (a : DataAnswer)
    (e : Effect)
    → IsRootPair tree x t
    → Common (reading_of tree w above (root_case x) t)
    → case_stays (kept (w.at x.root)) (Some (root_case x)) ≡ false
    → (coordinator_view (place_of tree x.root) (w.at x.root) (root_case x)).standing
    ≡ phase_standing x.presumption (memory_of (place_of tree x.root) (w.at x.root) (root_case x)).phase
    → world_makes tree w (trims_at x.root a) ≡ Some (e, w')
    → reading_of tree w' above (root_case x) t ≡ trims_parent (reading_of tree w above (root_case x) t)

-- A step of another process, that sends nothing of the pair, leaves its reading.
abbrev pub OthersLeave : Type 0
OthersLeave = (tree : List TreeProcess) (w w' : World) (above : Bool) (c : Case) (t : Ticket) (m : Move)
    (e : Effect)
    → IsElsewhere m.step.process c t
    → IsQuiet c t e.messages
    → world_makes tree w m ≡ Some (e, w')
    → reading_of tree w' above c t ≡ reading_of tree w above c t

-- PREPARE at a ready branch of another case forces what stands of this one.
abbrev pub ManagerVotesElsewhere : Type 0
ManagerVotesElsewhere = (tree : List TreeProcess) (w w' : World) (above : Bool) (c : Case) (t : Ticket)
    (p : ProcessId) (other : Case)
    (i n : ℕ) (a : DataAnswer) (ws : List Write) (e : Effect)
    → IsLeafPair tree c t p
    → same_case other (child_case c.txn t) ≡ false
    → IsReady (manager_view (place_of tree t.child) (w.at t.child) other) n a ws
    → world_makes tree w (delivers t.child i (Prepare other n) a) ≡ Some (e, w')
    → reading_of tree w' above c t ≡ hardens_child (reading_of tree w above c t)
