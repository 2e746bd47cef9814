-- The world's invariant: which pairs there are, and what holds of each process, of the net and of each pair.
-- (Stated here; the README says which parts are proved.)
use Rattle.std.specs.Prelude.{◌≡◌, ◌≤◌, ◌<◌, ◌⊎◌, ⊤, ℕ, zero, suc, Bool, true, false, not, ◌&&◌, ◌||◌, ◌≢◌, Option, Some, None, List, [], ◌∷◌, length}
use Rattle.std.specs.List.{list_any}
use Rattle.protocol.specs.declared.names.Case.{Case}
use Rattle.protocol.specs.declared.names.ProcessId.{ProcessId}
use Rattle.protocol.specs.declared.names.Ticket.{Ticket}
use Rattle.protocol.specs.declared.names.Txn.{Txn}
use Rattle.protocol.specs.declared.names.Presumption.{Presumption}
use Rattle.protocol.specs.declared.names.Presumption.TheVariants.{PresumeAbort, PresumeCommit}
use Rattle.protocol.specs.declared.messages.Message.{Message}
use Rattle.protocol.specs.declared.messages.Message.TheVariants.{Join, Joined, Work, Prepare, Yes, No, Read, Commit, Abort, Ack, Inquire}
use Rattle.protocol.specs.declared.messages.Envelope.{Envelope}
use Rattle.protocol.specs.declared.records.Record.{Record}
use Rattle.protocol.specs.declared.standings.Vote.{Vote}
use Rattle.protocol.specs.declared.trees.TreeProcess.{TreeProcess}
use Rattle.protocol.specs.Names.{same_txn, same_case, same_ticket, root_case, child_case, process_of}
use Rattle.protocol.specs.Records.{has, is_commit, is_abort, boot_of, none_of, in_list, owing_by, promised_by, has_case, record_case}
use Rattle.protocol.specs.Nodes.{Role, AtRoot, Below, AtLeaf, Place, place_of, role_of, is_listed, Node, opened_node, kept}
use Rattle.protocol.specs.Memory.{Memory, Idle, Open, Asked, memory_of, voted_so, active_ticket, same_vote}
use Rattle.protocol.specs.Standings.{coordinator_view, some_case, mark_of}
use Rattle.protocol.specs.World.{World}
use Rattle.protocol.specs.Views.{IsOpenAlike}
use Rattle.proof_pairs.specs.Reading.{Reading}
use Rattle.proof_pairs.specs.Invariant.{PresumedAbort, PresumedCommit}
use Rattle.proof_pairs.specs.Keeps.{Later}
use Rattle.proof_pairs.specs.readings.ReadingOf.{reading_of, is_root_ticket, gives_case, is_prepare_message}
use Rattle.protocol.specs.Audits.{is_promise, is_collecting_naming, is_prepare_naming, is_decision_naming}
use Rattle.protocol_words.specs.Variants.{CaseBranch}
use Rattle.protocol.specs.Outcomes.{is_told_aborted}
use Rattle.proof_pairs.specs.Reading.{is_live}
use Rattle.proof_pairs.specs.readings.ReadingOf.{is_begun, is_told_of_txn, phase_by}
use Rattle.protocol.specs.Records.{is_collecting, is_prepare, is_end}
use Rattle.protocol.specs.Standings.{Unmarked}
use Rattle.protocol.specs.Outcomes.{sent, has_accepted, has_heard_vote, TakesPart, is_joined_message}
use Rattle.proof_processes.specs.Lasts.{logs_of, Lasts}
use Rattle.protocol.specs.Audits.{parent_in, is_naming}

-- Who takes part, as a test.

-- the process accepted the ticket into a case of the transaction that passes the test
abbrev pub accepted_by : (Case → Bool) → Node → Txn → Ticket → Bool
accepted_by up n x u = list_any (λ a. (same_txn a.0.txn x && same_ticket a.1 u) && up a.0) n.accepted

-- the root's case takes part; another one where a case that takes part accepted its ticket
abbrev pub part_by : (Case → Bool) → List TreeProcess → World → Txn → Option Ticket → Bool
part_by up tree w x None = true
part_by up tree w x (Some u) = accepted_by up (w.at (parent_in (role_of tree u.child) u.child)) x u

-- the case takes part, by a climb of N levels
abbrev pub part_within : ℕ → List TreeProcess → World → Case → Bool
part_within zero tree w c = is_root_ticket c.ticket
part_within (suc k) tree w c = part_by (part_within k tree w) tree w c.txn c.ticket

-- the case takes part: as many levels as the tree lists processes are enough
unfoldable pub takes_part : List TreeProcess → World → Case → Bool
takes_part tree w c = part_within (length tree) tree w c

-- it is what the headline says
pub record TellsPart (tree : List TreeProcess) (w : World) (x : Txn) (t : Ticket) : Type 0 where
  pub told : takes_part tree w (child_case x t) ≡ true → TakesPart w x t
  pub tells : TakesPart w x t → takes_part tree w (child_case x t) ≡ true

-- Pairs.

-- a case with this ticket, or none, is that of a coordinator of this role
abbrev pub IsParentRole : Role → Option Ticket → Type 0
IsParentRole AtRoot None = ⊤
IsParentRole (Below p) (Some u) = ⊤
IsParentRole _ _ = ⊥

-- a process of this role is a child of that process
abbrev pub IsChildRole : Role → ProcessId → Type 0
IsChildRole (Below p) q = p ≡ q
IsChildRole (AtLeaf p) q = p ≡ q
IsChildRole AtRoot q = ⊥

-- a case of a coordinator of the tree
pub record IsParent (tree : List TreeProcess) (c : Case) : Type 0 where
  pub listed : is_listed tree (process_of c) ≡ true
  pub role : IsParentRole (role_of tree (process_of c)) c.ticket
  pub top_listed : is_listed tree c.txn.root ≡ true
  pub top : role_of tree c.txn.root ≡ AtRoot

-- and a ticket of one of its children
pub record IsPair (tree : List TreeProcess) (c : Case) (t : Ticket) : Type 0 where
  pub parent : IsParent tree c
  pub listed : is_listed tree t.child ≡ true
  pub child : IsChildRole (role_of tree t.child) (process_of c)

-- JOINED gave the ticket to another case
abbrev pub gives_other : Case → Ticket → Message → Bool
gives_other c t (Joined d u) = same_ticket u t && not (same_case d c)
gives_other c t _ = false

-- the ticket was given to no other case
abbrev pub IsFree : List Envelope → Case → Ticket → Type 0
IsFree net c t = sent (gives_other c t) net ≡ false

-- a pair's invariant, by the transaction's presumption
abbrev pub InvariantOf : Presumption → Reading → Type 0
InvariantOf PresumeAbort = PresumedAbort
InvariantOf PresumeCommit = PresumedCommit

-- the pair of a case and a ticket, as the world has it
abbrev pub pair_reading : List TreeProcess → World → Case → Ticket → Reading
pair_reading tree w c t = reading_of tree w (takes_part tree w c) c t

-- the pair keeps the invariant of its presumption
abbrev pub PairHolds : List TreeProcess → World → Case → Ticket → Type 0
PairHolds tree w c t = InvariantOf c.txn.presumption (pair_reading tree w c t)

-- One process.

-- there is a case, and it is this one
abbrev pub is_of : Case → Option Case → Bool
is_of c None = false
is_of c (Some d) = same_case d c

-- a record of the case
abbrev pub is_record_of : Case → Record → Bool
is_record_of c r = is_of c (record_case r)

-- the boot of all that a process keeps, its last Opened's, is no less than that of its forced front, and the
-- same where the process is up
pub record Boots (n : Node) : Type 0 where
  pub boot_is_forced : n.failed ≡ false → boot_of (kept n) ≡ boot_of n.forced
  pub boot_only_rises : boot_of n.forced ≤ boot_of (kept n)

-- the number was given out already
abbrev pub IsGivenOut : ℕ → ℕ → ℕ → ℕ → Type 0
IsGivenOut boot number now count = (boot < now) ⊎ ((boot ≡ now) × (number ≤ count))

-- what the net knows of a process that issues tickets
pub record Issues (place : Place) (net : List Envelope) (n : Node) : Type 0 where
  pub given_once : n.failed ≡ false → (d : Case) (t : Ticket) → t.child ≡ place.me
      → sent (is_joined_message d t) net ≡ true
      → IsGivenOut t.boot t.number (boot_of (kept n)) (memory_of place n (some_case place)).given
  pub given_before : (d : Case) (t : Ticket) → t.child ≡ place.me
      → sent (is_joined_message d t) net ≡ true → t.boot ≤ boot_of n.forced
  pub recorded_is_given : (d : Case) → has (is_record_of d) n.life ≡ true
      → (process_of d ≡ place.me) × (sent (gives_case d) net ≡ true)
  pub remembered_is_given : n.failed ≡ false → (d : Case) → (memory_of place n d).phase ≢ Idle
      → (process_of d ≡ place.me) × (sent (gives_case d) net ≡ true)
  pub active_was_joined : n.failed ≡ false → (d e : Case) (t : Ticket)
      → active_ticket (memory_of place n e).active d ≡ Some t
      → (t.child ≡ place.me) × (sent (is_joined_message d t) net ≡ true)
  pub promised_was_asked : (d : Case) → has (is_promise d) n.life ≡ true
      → sent (is_prepare_message d) net ≡ true

-- A coordinator.

-- a record that passes the first test is after one that passes the second; the list has the oldest
-- first
abbrev pub stands_behind : (Record → Bool) → (Record → Bool) → List Record → Bool
stands_behind q r [] = false
stands_behind q r (x ∷ xs) = (r x && has q xs) || stands_behind q r xs

-- the records of a case are in the order in which they are written
pub record InOrder (c : Case) (rs : List Record) : Type 0 where
  pub promise_commit : stands_behind (is_prepare c) (is_commit c) rs ≡ false
  pub promise_abort : stands_behind (is_prepare c) (is_abort c) rs ≡ false
  pub collecting_promise : stands_behind (is_collecting c) (is_prepare c) rs ≡ false
  pub collecting_commit : stands_behind (is_collecting c) (is_commit c) rs ≡ false
  pub collecting_abort : stands_behind (is_collecting c) (is_abort c) rs ≡ false
  pub collecting_end : stands_behind (is_collecting c) (is_end c) rs ≡ false
  pub commit_end : stands_behind (is_commit c) (is_end c) rs ≡ false
  pub abort_end : stands_behind (is_abort c) (is_end c) rs ≡ false

-- whom decisions name
abbrev pub NamesBy : Presumption → Case → List Record → Type 0
NamesBy PresumeAbort c rs = (has (is_commit c) rs ≡ true → none_of (owing_by c rs) ≡ false) ×
    (has (is_abort c) rs ≡ true → none_of (owing_by c rs) ≡ true)
NamesBy PresumeCommit c rs = has (is_commit c) rs ≡ true → none_of (owing_by c rs) ≡ true

-- what a process remembers of itself is the same in each of its cases
pub record SameSelf (m m' : Memory) : Type 0 where
  pub begun : m'.begun ≡ m.begun
  pub given : m'.given ≡ m.given
  pub issued : m'.issued ≡ m.issued
  pub active : m'.active ≡ m.active

-- What a coordinator keeps.
pub record Coordinates (place : Place) (net : List Envelope) (n : Node) : Type 0 where
  pub alike : n.failed ≡ false → (c : Case) → IsOpenAlike place n c
  pub votes : n.failed ≡ false → (c : Case) (t : Ticket) (v : Vote)
      → ((memory_of place n c).phase ≡ Open) ⊎ ((memory_of place n c).phase ≡ Asked)
      → has_heard_vote n c t (same_vote v) ≡ voted_so v (memory_of place n c).votes t
  pub remembered_accepted : (c : Case) (t : Ticket) → in_list (memory_of place n c).accepted t ≡ true
      → has_accepted n c t ≡ true
  pub named_accepted : (c : Case) (t : Ticket) → has (is_naming c t) n.life ≡ true
      → has_accepted n c t ≡ true
  pub voted_accepted : (c : Case) (t : Ticket) (v : Vote) → has_heard_vote n c t (same_vote v) ≡ true
      → has_accepted n c t ≡ true
  pub accepted_was_joined : (c : Case) (t : Ticket) → has_accepted n c t ≡ true
      → (process_of c ≡ place.me) × (sent (is_joined_message c t) net ≡ true)
  pub in_order : (c : Case) → InOrder c (kept n)
  pub names : (c : Case) → NamesBy c.txn.presumption c (kept n)
  pub promise_names : (c : Case) → has (is_prepare c) (kept n) ≡ true
      → none_of (promised_by c (kept n)) ≡ false
  pub open_has_no_commit : n.failed ≡ false → (c : Case)
      → ((memory_of place n c).phase ≡ Open) ⊎ ((memory_of place n c).phase ≡ Asked)
      → has (is_commit c) n.life ≡ false

-- A cascaded coordinator keeps besides:
pub record Cascades (place : Place) (net : List Envelope) (n : Node) : Type 0 where
  pub accepted_is_given : (c : Case) (t : Ticket) → has_accepted n c t ≡ true
      → sent (gives_case c) net ≡ true
  pub issued : (c : Case) → (memory_of place n c).phase ≢ Idle
      → has_case (memory_of place n (some_case place)).issued c ≡ true
  pub idle_accepts_none : (c : Case) (t : Ticket) → (memory_of place n c).phase ≡ Idle
      → in_list (memory_of place n c).accepted t ≡ false
  pub asked_was_prepared : n.failed ≡ false → (c : Case) → (memory_of place n c).phase ≡ Asked
      → sent (is_prepare_message c) net ≡ true

-- the root has begun the transaction, by all that is left of it
abbrev pub has_begun : Place → Node → Txn → Bool
has_begun place n x = is_begun (memory_of place n (root_case x)).phase || list_any (is_told_of_txn x) n.told
    || list_any (λ y. same_txn y x) n.found_undecided || has (is_commit (root_case x)) n.life

-- it never commits
pub record NeverCommits (place : Place) (n : Node) (x : Txn) : Type 0 where
  pub begun : has_begun place n x ≡ true
  pub closed : is_live (phase_by n.failed (coordinator_view place n (root_case x)).standing) ≡ false
  pub none_kept : has (is_commit (root_case x)) (kept n) ≡ false
  pub none_ever : has (is_commit (root_case x)) n.durable ≡ false

-- The root keeps besides:
pub record RootHolds (place : Place) (n : Node) : Type 0 where
  pub begun_once : n.failed ≡ false → (x : Txn) → has_begun place n x ≡ true
      → (x.root ≡ place.me) × IsGivenOut x.boot x.sequence (boot_of (kept n))
      (memory_of place n (some_case place)).begun
  pub begun_before : (x : Txn) → has_begun place n x ≡ true → x.boot ≤ boot_of n.forced
  pub own_records : (d : Case) → has (is_record_of d) n.life ≡ true
      → (d.ticket ≡ None) × ((process_of d ≡ place.me) × (has_begun place n d.txn ≡ true))
  pub accepted_is_begun : (d : Case) (t : Ticket) → has_accepted n d t ≡ true
      → (d.ticket ≡ None) × (has_begun place n d.txn ≡ true)
  pub own_memory : (d : Case) → (memory_of place n d).phase ≢ Idle
      → (d.ticket ≡ None) × (process_of d ≡ place.me)
  pub told_never_commits : (x : Txn) → list_any (is_told_aborted x) n.told ≡ true → NeverCommits place n x
  pub aborted_never_commits : (x : Txn) → has (is_abort (root_case x)) n.life ≡ true
      → NeverCommits place n x
  pub found_undecided_never_commits : (x : Txn) → list_any (λ y. same_txn y x) n.found_undecided ≡ true
      → NeverCommits place n x

-- A manager.

-- A manager keeps besides what lasts there:
pub record Branches (place : Place) (n : Node) : Type 0 where
  pub open_is_unmarked : n.failed ≡ false → (d : Case) → (memory_of place n d).phase ≡ Open
      → mark_of (CaseBranch d) (kept n) ≡ Unmarked
  pub accepts_none : n.accepted ≡ []

-- Any process.

-- What a process of this role keeps, by what it is.
abbrev pub RoleHolds : Role → Place → List Envelope → Node → Type 0
RoleHolds AtRoot place net n = Coordinates place net n × RootHolds place n
RoleHolds (Below p) place net n = Coordinates place net n × (Cascades place net n × Issues place net n)
RoleHolds (AtLeaf p) place net n = Branches place n × Issues place net n

-- What a process of the tree keeps.
pub record NodeHolds (place : Place) (net : List Envelope) (n : Node) : Type 0 where
  pub lasts : Lasts place.role (logs_of n)
  pub boots : Boots n
  pub self : (c d : Case) → SameSelf (memory_of place n c) (memory_of place n d)
  pub role : RoleHolds place.role place net n

-- The net.

-- where a message stands: who sent it, and to whom
abbrev pub GoesUp : List TreeProcess → Envelope → Case → Type 0
GoesUp tree l d = (process_of d ≡ l.from) × IsChildRole (role_of tree l.from) l.to

-- a parent's message about a case goes to that case's process, which is a child of the sender
abbrev pub GoesDown : List TreeProcess → Envelope → Case → Type 0
GoesDown tree l d = (process_of d ≡ l.to) × IsChildRole (role_of tree l.to) l.from

-- a message goes between a parent and a child, from the process that may send it to the one whose case it
-- is about
abbrev pub GoesBy : List TreeProcess → Envelope → Message → Type 0
GoesBy tree l (Join d) = (process_of d ≡ l.from) ×
    (IsParent tree d × IsChildRole (role_of tree l.to) l.from)
GoesBy tree l (Joined d t) = (t.child ≡ l.from) × ((process_of d ≡ l.to) × IsPair tree d t)
GoesBy tree l (Work d i op) = GoesDown tree l d
GoesBy tree l (Prepare d k) = GoesDown tree l d
GoesBy tree l (Commit d) = GoesDown tree l d
GoesBy tree l (Abort d) = GoesDown tree l d
GoesBy tree l (Yes d) = GoesUp tree l d
GoesBy tree l (No d) = GoesUp tree l d
GoesBy tree l (Read d) = GoesUp tree l d
GoesBy tree l (Ack d o fs) = GoesUp tree l d
GoesBy tree l (Inquire d) = GoesUp tree l d

-- each message of the net goes so
abbrev pub AllGo : List TreeProcess → List Envelope → Type 0
AllGo tree [] = Unit {0}
AllGo tree (l ∷ ls) = GoesBy tree l l.message × AllGo tree ls

-- a message about the case, but for JOIN and JOINED
abbrev pub is_about : Case → Message → Bool
is_about d (Join e) = false
is_about d (Joined e t) = false
is_about d (Work e i op) = same_case e d
is_about d (Prepare e k) = same_case e d
is_about d (Yes e) = same_case e d
is_about d (No e) = same_case e d
is_about d (Read e) = same_case e d
is_about d (Commit e) = same_case e d
is_about d (Abort e) = same_case e d
is_about d (Ack e o fs) = same_case e d
is_about d (Inquire e) = same_case e d

-- a ticket is given to one case
abbrev pub JoinedOnce : List Envelope → Type 0
JoinedOnce net = (c d : Case) (t : Ticket) → sent (is_joined_message c t) net ≡ true
    → sent (is_joined_message d t) net ≡ true → same_case c d ≡ true

-- such a message names a case that was given
abbrev pub AboutGiven : List Envelope → Type 0
AboutGiven net = (d : Case) → sent (is_about d) net ≡ true → sent (gives_case d) net ≡ true

-- The world.

-- The invariant of the world: what each process keeps, how messages go, and the invariant of each pair.
pub record WorldHolds (tree : List TreeProcess) (w : World) : Type 0 where
  pub nodes : (q : ProcessId) → is_listed tree q ≡ true → NodeHolds (place_of tree q) w.net (w.at q)
  pub unlisted : (q : ProcessId) → is_listed tree q ≡ false → w.at q ≡ opened_node
  pub net : AllGo tree w.net
  pub joined_once : JoinedOnce w.net
  pub about_given : AboutGiven w.net
  pub pairs : (c : Case) (t : Ticket) → IsPair tree c t → IsFree w.net c t → PairHolds tree w c t

-- what was true for ever of each pair
abbrev pub AllLater : List TreeProcess → World → World → Type 0
AllLater tree w w' = (c : Case) (t : Ticket) → IsPair tree c t → IsFree w'.net c t
    → Later (pair_reading tree w c t) (pair_reading tree w' c t)
