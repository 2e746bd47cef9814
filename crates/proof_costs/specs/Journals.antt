-- What a committed update costs in the journal of a run: the entries of one transaction at its root, and
-- those of one case at a manager, with any others between them.
use Rattle.std.specs.Prelude.{◌≡◌, ◌||◌, ◌&&◌, ℕ, Bool, true, false, Option, Some, None, is_none, List, [], ◌∷◌, ◌++◌, count_by, filter, fold, length, map}
use Rattle.std.specs.List.{list_all, list_any}
use Rattle.protocol.specs.declared.names.Case.{Case}
use Rattle.protocol.specs.declared.names.Outcome.TheVariants.{Committed}
use Rattle.protocol.specs.declared.names.ProcessId.{ProcessId}
use Rattle.protocol.specs.declared.names.Ticket.{Ticket}
use Rattle.protocol.specs.declared.names.Txn.{Txn}
use Rattle.protocol.specs.declared.messages.Message.{Message}
use Rattle.protocol.specs.declared.messages.Message.TheVariants.{Join, Joined, Work, Prepare, Yes, No, Read, Commit, Abort, Ack, Inquire}
use Rattle.protocol.specs.declared.records.Subject.{Subject}
use Rattle.protocol.specs.declared.records.Subject.TheVariants.{Boot, Other}
use Rattle.protocol_words.specs.Variants.{AbortAct, ActInput, CommitAct, Handles, JoinAct, MessageInput, OfCase, WorkAct}
use Rattle.protocol.specs.declared.standings.Standing.TheVariants.{Active}
use Rattle.protocol.specs.declared.events.Act.{Act}
use Rattle.protocol.specs.declared.events.Act.TheVariants.{Begin, Ask, Decide, Forget}
use Rattle.protocol.specs.declared.events.JournalEntry.{JournalEntry}
use Rattle.protocol.specs.declared.events.Happening.{Happening}
use Rattle.protocol.specs.declared.events.Happening.TheVariants.{Restart, Trim}
use Rattle.protocol.specs.declared.trees.TreeProcess.{TreeProcess}
use Rattle.protocol.specs.Counts.{Cost, IsOrderOf, acknowledging, manager_price, root_price, together}
use Rattle.protocol.specs.Names.{child_case, root_case, same_case, same_txn}
use Rattle.protocol.specs.Nodes.{AtLeaf, AtRoot, place_of, role_of}
use Rattle.protocol.specs.Outcomes.{is_yes_message}
use Rattle.protocol.specs.Records.{none_of}
use Rattle.protocol.specs.Standings.{CoordinatorView, ManagerView, coordinator_view, manager_view, unknown_branch, unknown_view}
use Rattle.protocol.specs.World.{World, entries_of}

-- What entries cost.

-- nothing was paid
abbrev pub no_cost : Cost
no_cost = record { records = 0; forced = 0; messages = 0 }

-- the cost that an entry shows: its records, the forced ones among them, and its messages
abbrev pub entry_cost : JournalEntry → Cost
entry_cost e = record {
  records = length e.reaction.written;
  forced = count_by (λ l. l.forced) e.reaction.written;
  messages = length e.reaction.messages;
}

-- the cost that entries show, in sum
unfoldable pub entries_cost : List JournalEntry → Cost
entries_cost es = fold (λ c e. together c (entry_cost e)) no_cost es

-- Which entries are of a case.

-- an act names a case that passes the test
abbrev pub act_is_of : (Case → Bool) → Act → Bool
act_is_of q (Begin p) = false
act_is_of q (JoinAct c r) = q c
act_is_of q (WorkAct c r op) = q c
act_is_of q (CommitAct x) = q (root_case x)
act_is_of q (AbortAct x) = q (root_case x)
act_is_of q (Ask c) = q c
act_is_of q (Decide c o) = q c
act_is_of q (Forget c) = q c

-- a message names such a case; JOINED also brings the ticket of one
abbrev pub message_is_of : (Case → Bool) → Message → Bool
message_is_of q (Join c) = q c
message_is_of q (Joined c t) = q c || q (child_case c.txn t)
message_is_of q (Work c i op) = q c
message_is_of q (Prepare c n) = q c
message_is_of q (Yes c) = q c
message_is_of q (No c) = q c
message_is_of q (Read c) = q c
message_is_of q (Commit c) = q c
message_is_of q (Abort c) = q c
message_is_of q (Ack c o fs) = q c
message_is_of q (Inquire c) = q c

-- what is handled names such a case
abbrev pub happening_is_of : (Case → Bool) → Happening → Bool
happening_is_of q (Handles (ActInput a)) = act_is_of q a
happening_is_of q (Handles (MessageInput k m)) = message_is_of q m
happening_is_of q (Restart k) = false
happening_is_of q Trim = false

-- such a case began
abbrev pub begun_is_of : (Case → Bool) → Option Txn → Bool
begun_is_of q None = false
begun_is_of q (Some x) = q (root_case x)

-- a record is of such a case
abbrev pub record_is_of : (Case → Bool) → Subject → Bool
record_is_of q (OfCase c) = q c
record_is_of q (Boot n) = false
record_is_of q Other = false

-- an entry is of a case that passes the test: what it handles names the case, or it shows that the case
-- began, a record of it, or a message of it
unfoldable pub is_of : (Case → Bool) → JournalEntry → Bool
is_of q e =
    (happening_is_of q e.step.happening || begun_is_of q e.reaction.begun)
    || (list_any (λ l. record_is_of q l.subject) e.reaction.written
    || list_any (λ l. message_is_of q l.message) e.reaction.messages)

-- the entries of a process that are of such a case, in order
abbrev pub entries_of_case : (Case → Bool) → ProcessId → List JournalEntry → List JournalEntry
entries_of_case q p es = filter (is_of q) (entries_of p es)

-- the case is the transaction's, at any process
abbrev pub of_txn : Txn → Case → Bool
of_txn x c = same_txn c.txn x

-- the case is this one
abbrev pub of_case : Case → Case → Bool
of_case d c = same_case c d

-- What entries handle.

-- what made a process move: an act, or a message, whatever its number; or neither, in a restart or a trim
pub data Cause : Type 0 where
  Acts : Act → Cause
  Brings : Message → Cause
  Neither : Cause

-- the cause of what happens
abbrev pub cause_of : Happening → Cause
cause_of (Handles (ActInput a)) = Acts a
cause_of (Handles (MessageInput k m)) = Brings m
cause_of (Restart k) = Neither
cause_of Trim = Neither

-- the causes of entries, in order
abbrev pub causes : List JournalEntry → List Cause
causes es = map (λ e. cause_of e.step.happening) es

-- what happens is an input
abbrev pub is_input : Happening → Bool
is_input (Handles i) = true
is_input (Restart k) = false
is_input Trim = false

-- the entry is of an input, and no device failed in it
abbrev pub is_plain : JournalEntry → Bool
is_plain e = is_input e.step.happening && is_none e.step.fault

-- The root.

-- how a root sees a transaction
abbrev pub seen_at_root : List TreeProcess → World → ProcessId → Txn → CoordinatorView
seen_at_root tree w p x = coordinator_view (place_of tree p) (w.at p) (root_case x)

-- the commit act, YES of these tickets, and an acknowledgement of these, each of which finds nothing
abbrev pub update_causes : Txn → List Ticket → List Ticket → List Cause
update_causes x votes acks =
    Acts (CommitAct x)
    ∷ (map (λ t. Brings (Yes (child_case x t))) votes
    ++ map (λ t. Brings (Ack (child_case x t) Committed [])) acks)

-- The journal's entries after a world have a committed update of a transaction at its root. In the world the
-- transaction is Active there, and has accepted tickets. After it the root neither restarts nor trims its log
-- nor fails. The entries of the transaction are its commit act, YES of each accepted ticket, in one order,
-- and then, under Presumed Abort, an acknowledgement of each that finds nothing, in another.
pub record RootCommits (tree : List TreeProcess) (w : World) (entries : List JournalEntry)
    (p : ProcessId) (x : Txn)
    (votes acks : List Ticket) : Type 0 where
  pub root : role_of tree p ≡ AtRoot
  pub is_active : (seen_at_root tree w p x).standing ≡ Active
  pub has_accepted : none_of (seen_at_root tree w p x).accepted ≡ false
  pub undisturbed : list_all is_plain (entries_of p entries) ≡ true
  pub each_votes : IsOrderOf votes (seen_at_root tree w p x).accepted
  pub each_acknowledges : IsOrderOf acks (seen_at_root tree w p x).accepted
  pub are : causes (entries_of_case (of_txn x) p entries)
      ≡ update_causes x votes (acknowledging x.presumption acks)

-- these entries cost the root what R* says of N children, and in the world after them it knows of no such
-- transaction
pub record RootPays (tree : List TreeProcess) (w w' : World) (entries : List JournalEntry)
    (p : ProcessId) (x : Txn)
    : Type 0 where
  pub cost : entries_cost (entries_of_case (of_txn x) p entries)
      ≡ root_price x.presumption (length (seen_at_root tree w p x).accepted)
  pub is_forgotten : seen_at_root tree w' p x ≡ unknown_view

-- A manager.

-- how a manager sees a case
abbrev pub seen_at_manager : List TreeProcess → World → ProcessId → Case → ManagerView
seen_at_manager tree w p d = manager_view (place_of tree p) (w.at p) d

-- an entry shows that YES of the case is sent
abbrev pub shows_yes : Case → JournalEntry → Bool
shows_yes d e = list_any (λ l. is_yes_message d l.message) e.reaction.messages

-- The journal's entries after a world have a committed update of a case at a manager. In the world the case
-- is Active there. After it the manager neither restarts nor trims its log nor fails. The entries of the case
-- are PREPARE and COMMIT, and it answers YES; so its works were done, and it wrote.
pub record ManagerCommits (tree : List TreeProcess) (w : World) (entries : List JournalEntry)
    (p parent : ProcessId) (d : Case)
    (n : ℕ) : Type 0 where
  pub manager : role_of tree p ≡ AtLeaf parent
  pub is_active : (seen_at_manager tree w p d).standing ≡ Active
  pub undisturbed : list_all is_plain (entries_of p entries) ≡ true
  pub are : causes (entries_of_case (of_case d) p entries) ≡ Brings (Prepare d n) ∷ Brings (Commit d) ∷ []
  pub votes_yes : list_any (shows_yes d) (entries_of_case (of_case d) p entries) ≡ true

-- these entries cost the manager what R* says, and in the world after them it knows of no such case
pub record ManagerPays (tree : List TreeProcess) (w' : World) (entries : List JournalEntry)
    (p : ProcessId) (d : Case)
    : Type 0 where
  pub cost : entries_cost (entries_of_case (of_case d) p entries) ≡ manager_price d.txn.presumption
  pub is_forgotten : seen_at_manager tree w' p d ≡ unknown_branch
