-- What a coordinator writes and sends: at most one record, of one case.
use Rattle.std.specs.Prelude.{◌≡◌, ℕ, Bool, true, false, None, Some, List, [], ◌∷◌, ◌≢◌, Option}
use Rattle.protocol.specs.declared.names.Case.{Case}
use Rattle.protocol.specs.declared.names.Outcome.{Outcome}
use Rattle.protocol.specs.declared.names.ProcessId.{ProcessId}
use Rattle.protocol.specs.declared.names.Ticket.{Ticket}
use Rattle.protocol.specs.declared.names.Txn.{Txn}
use Rattle.protocol.specs.declared.messages.Message.{Message}
use Rattle.protocol.specs.declared.messages.Message.TheVariants.{Join, Joined, Work, Prepare, Yes, No, Read, Commit, Abort, Ack, Inquire}
use Rattle.protocol.specs.declared.messages.Envelope.{Envelope}
use Rattle.protocol.specs.declared.records.Record.{Record}
use Rattle.protocol.specs.declared.records.Record.TheVariants.{Collecting, End, Cleared}
use Rattle.protocol_words.specs.Variants.{AbortRecord, ActInput, CommitRecord, MessageInput, PrepareRecord}
use Rattle.protocol.specs.declared.standings.Standing.TheVariants.{Unknown}
use Rattle.protocol.specs.declared.events.Act.{Act}
use Rattle.protocol.specs.declared.events.Act.TheVariants.{Forget}
use Rattle.protocol.specs.declared.events.Input.{Input}
use Rattle.protocol.specs.Names.{child_case}
use Rattle.protocol.specs.Records.{record_case, boot_of, is_reported}
use Rattle.protocol.specs.Nodes.{Place, Node, kept, Written}
use Rattle.protocol.specs.Memory.{memory_of, active_ticket, next_ticket}
use Rattle.protocol.specs.Standings.{case_of_child, coordinator_view}
use Rattle.protocol.specs.CoordinatorRows.{Seat, post, tells_outcome}
use Rattle.protocol.specs.Reactions.{seat_of}

-- a coordinator's record
abbrev pub is_coordinators : Record → Bool
is_coordinators (Collecting c ts) = true
is_coordinators (PrepareRecord c ts) = true
is_coordinators (CommitRecord c ts) = true
is_coordinators (AbortRecord c ts) = true
is_coordinators (End c r) = true
is_coordinators (Cleared c) = true
is_coordinators _ = false

-- at most one record, of the case
pub data AtMostOne (c : Case) : List Written → Type 0 where
  wrote_none : AtMostOne c []
  wrote_one : (r : Record) (b : Bool) → record_case r ≡ Some c → is_coordinators r ≡ true
      → AtMostOne c (record { entry = r; is_forced = b } ∷ [])

-- a message that the case's parent sends
abbrev pub IsForCase : Case → Message → Type 0
IsForCase c (Work d k op) = d ≡ c
IsForCase c (Prepare d k) = d ≡ c
IsForCase c (Commit d) = d ≡ c
IsForCase c (Abort d) = d ≡ c
IsForCase c _ = ⊥

-- a message that the case sends to its parent
abbrev pub IsFromCase : Case → Message → Type 0
IsFromCase c (Yes d) = d ≡ c
IsFromCase c (No d) = d ≡ c
IsFromCase c (Read d) = d ≡ c
IsFromCase c (Ack d o fs) = d ≡ c
IsFromCase c (Inquire d) = d ≡ c
IsFromCase c _ = ⊥

-- What a coordinator's case sends: to a child about the child's case, to the parent about its own, and
-- JOIN.
pub data Sends (s : Seat) : Envelope → Type 0 where
  down : (t : Ticket) (m : Message) → IsForCase (child_case s.own.txn t) m → Sends s (post s.me t.child m)
  upward : (p : ProcessId) (m : Message) → s.parent ≡ Some p → IsFromCase s.own m → Sends s (post s.me p m)
  invites : (q : ProcessId) → Sends s (post s.me q (Join s.own))

-- each of these is what a coordinator's case sends
abbrev pub AllSent : Seat → List Envelope → Type 0
AllSent s [] = Unit {0}
AllSent s (l ∷ ls) = Sends s l × AllSent s ls

-- the ticket that answers JOIN: the active one of that case of the parent, else the next
pub data IsJoinAnswer (place : Place) (n : Node) (d : Case) : Ticket → Type 0 where
  is_active : (t : Ticket) → active_ticket (memory_of place n d).active d ≡ Some t → IsJoinAnswer place n d t
  is_next : active_ticket (memory_of place n d).active d ≡ None
      → IsJoinAnswer place n d (next_ticket place.me (boot_of (kept n)) (memory_of place n d))

-- What an input lets a coordinator write and send: a row of the act's case, which is known, of the child's
-- case, or of the parent's message's; at the root that a report was seen to; an answer to a stranger's
-- inquiry; or a ticket.
pub data MayWrite (place : Place) (parent : Option ProcessId) (n : Node) (i : Input) (ws : List Written)
    (ls : List Envelope) : Type 0 where
  writes_nothing : ws ≡ [] → ls ≡ [] → MayWrite place parent n i ws ls
  for_act : (a : Act) (c : Case) → i ≡ ActInput a → (coordinator_view place n c).standing ≢ Unknown
      → AtMostOne c ws
      → AllSent (seat_of place parent c) ls → MayWrite place parent n i ws ls
  for_report : (c : Case) → i ≡ ActInput (Forget c) → parent ≡ None → is_reported (kept n) c ≡ true
      → AtMostOne c ws → ls ≡ [] → MayWrite place parent n i ws ls
  for_child : (c : Case) (x : Txn) (t : Ticket) → case_of_child place n x t ≡ Some c → AtMostOne c ws
      → AllSent (seat_of place parent c) ls → MayWrite place parent n i ws ls
  for_parent : (c : Case) (k : ℕ) (m : Message) → i ≡ MessageInput k m → IsForCase c m → AtMostOne c ws
      → AllSent (seat_of place parent c) ls → MayWrite place parent n i ws ls
  presumes : (x : Txn) (t : Ticket) (o : Outcome) → ws ≡ []
      → ls ≡ post place.me t.child (tells_outcome o (child_case x t)) ∷ []
      → MayWrite place parent n i ws ls
  gives : (p : ProcessId) (d : Case) (t : Ticket) → ws ≡ [] → ls ≡ post place.me p (Joined d t) ∷ []
      → (k : ℕ) → i ≡ MessageInput k (Join d) → IsJoinAnswer place n d t → MayWrite place parent n i ws ls
