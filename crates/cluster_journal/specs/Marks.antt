-- What became of each message.
use Rattle.std.specs.Prelude.{◌≡◌, ◌⊎◌, ◌+◌, ◌<◌, ◌≤◌, ◌==◌, ℕ, zero, suc, nat_lt, not, All, HoldsAt, count_by, Bool, true, false, ◌&&◌, if◌then◌else◌, Option, Some, None, List, [], ◌∷◌, length, map, get_or, slice_get, slice_set}
use Rattle.std.specs.Global.{Vec}
use Rattle.std.specs.Vec.{vec_capacity, vec_len}
use Rattle.protocol.specs.declared.names.ProcessId.{ProcessId}
use Rattle.protocol.specs.declared.messages.Envelope.{Envelope}
use Rattle.protocol.specs.Names.{same_process}
use Rattle.cluster_journal.specs.declared.marks.Delivery.{Delivery}
use Rattle.cluster_journal.specs.declared.marks.Delivery.TheVariants.{Open, Claimed, Delivered}
use Rattle.cluster_journal.specs.declared.marks.MarkedMessage.{MarkedMessage}
use Rattle.cluster_journal.specs.declared.queues.Link.{Link}
use Rattle.cluster_journal.specs.declared.queues.Queues.{Queues}
use Rattle.cluster_journal.specs.declared.queues.Receiver.{Receiver}

-- a message that was just sent
abbrev pub sent_to : Envelope → MarkedMessage
sent_to l = record { to = l.to; mark = Open }

-- whether a mark says that nobody delivers the message
abbrev pub is_open : Delivery → Bool
is_open Open = true
is_open _ = false

-- whether a message is open, and sent to this process
abbrev pub is_open_to : ProcessId → MarkedMessage → Bool
is_open_to q m = is_open m.mark && same_process q m.to

-- the number of the first open message to this process, the marks being those from this number on
abbrev pub first_open : ProcessId → ℕ → List MarkedMessage → Option ℕ
first_open q k [] = None
first_open q k (m ∷ ms) = if is_open_to q m then Some k else first_open q (k + 1) ms

-- whether this is an open message to this process
abbrev pub is_open_by : ProcessId → Option MarkedMessage → Bool
is_open_by q None = false
is_open_by q (Some m) = is_open_to q m

-- whether the message with this number is open, and sent to this process
abbrev pub is_open_at : ProcessId → List MarkedMessage → ℕ → Bool
is_open_at q ms zero = false
is_open_at q ms (suc k) = is_open_by q (slice_get ms k)

-- after the message with the first number the one with the second is the next to this process that is open
pub record IsNextOpen (q : ProcessId) (after next : ℕ) (ms : List MarkedMessage) : Type 0 where
  pub later : after < next
  pub stands : is_open_at q ms next ≡ true
  pub none_between : (k : ℕ) → after < k → k < next → is_open_at q ms k ≡ false

-- the message at this place, if there is one, marked so
abbrev pub marked_at : List MarkedMessage → ℕ → Option MarkedMessage → Delivery → List MarkedMessage
marked_at ms k None m = ms
marked_at ms k (Some old) m = slice_set ms k (record { to = old.to; mark = m })

-- the message with this number, from 1, is marked so, if there is one
abbrev pub marked : List MarkedMessage → ℕ → Delivery → List MarkedMessage
marked ms zero m = ms
marked ms (suc k) m = marked_at ms k (slice_get ms k) m

-- the message at this place, which is marked so, is open if it was claimed
abbrev pub reopened_from : List MarkedMessage → ℕ → ProcessId → Delivery → List MarkedMessage
reopened_from ms k to Claimed = slice_set ms k (record { to = to; mark = Open })
reopened_from ms k to _ = ms

-- the message at this place, if there is one, is open if it was claimed
abbrev pub reopened : List MarkedMessage → ℕ → Option MarkedMessage → List MarkedMessage
reopened ms k None = ms
reopened ms k (Some m) = reopened_from ms k m.to m.mark

-- the claim of the message with this number, from 1, is given back, if there is one
abbrev pub given_back : List MarkedMessage → ℕ → List MarkedMessage
given_back ms zero = ms
given_back ms (suc k) = reopened ms k (slice_get ms k)

-- whether a mark says that somebody delivers the message now
abbrev pub is_claimed : Delivery → Bool
is_claimed Claimed = true
is_claimed _ = false

-- whether somebody delivers the message now, which is sent to this process
abbrev pub is_claimed_to : ProcessId → MarkedMessage → Bool
is_claimed_to q m = is_claimed m.mark && same_process q m.to

-- how many messages to this process are open
abbrev pub open_to : ProcessId → List MarkedMessage → ℕ
open_to q ms = count_by (is_open_to q) ms

-- how many messages to this process somebody delivers now
abbrev pub claimed_to : ProcessId → List MarkedMessage → ℕ
claimed_to q ms = count_by (is_claimed_to q) ms

-- Nothing is to be claimed: where a message to a process is open, somebody delivers another to it.
abbrev pub NoneToClaim : List MarkedMessage → Type 0
NoneToClaim ms = (q : ProcessId) → (first_open q 1 ms ≡ None) ⊎ (0 < claimed_to q ms)

-- each message is delivered
abbrev pub AreAllDelivered : List MarkedMessage → Type 0
AreAllDelivered ms = All (λ m. m.mark ≡ Delivered) ms

-- whether a mark says that the message was delivered
abbrev pub is_delivered : Delivery → Bool
is_delivered Delivered = true
is_delivered _ = false

-- whether a message was not delivered
abbrev pub is_undelivered : MarkedMessage → Bool
is_undelivered m = not (is_delivered m.mark)

-- a count of 1, if so
abbrev pub one_if : Bool → ℕ
one_if true = 1
one_if false = 0

-- Queues. A place is counted from 0.

-- whether this is a message to this process
abbrev pub is_to : ProcessId → Option MarkedMessage → Bool
is_to q None = false
is_to q (Some m) = same_process q m.to

-- from the low place on, and before the high one, no message to this process stands
abbrev pub NoneTo : ProcessId → List MarkedMessage → ℕ → ℕ → Type 0
NoneTo q ms low high = (k : ℕ) → low ≤ k → k < high → is_to q (slice_get ms k) ≡ false

-- likewise, none that is open
abbrev pub NoneOpen : ProcessId → List MarkedMessage → ℕ → ℕ → Type 0
NoneOpen q ms low high = (k : ℕ) → low ≤ k → k < high → is_open_by q (slice_get ms k) ≡ false

-- after this place the next message to this process is there; or there is none
abbrev pub IsNextTo : ProcessId → List MarkedMessage → ℕ → Option ℕ → Type 0
IsNextTo q ms k None = NoneTo q ms (suc k) (length ms)
IsNextTo q ms k (Some next) = (k < next) × (is_to q (slice_get ms next) ≡ true) × NoneTo q ms (suc k) next

-- The link of the message at this place, which is sent to this process: its receiver is there, and so is the
-- next message to it.
pub record IsLinked (q : ProcessId) (ms : List MarkedMessage) (k : ℕ) (rs : List Receiver)
    (l : Link) : Type 0 where
  pub within : l.receiver < length rs
  pub named : HoldsAt (λ r. r.process ≡ q) rs l.receiver
  pub next : IsNextTo q ms k l.next

-- it is so of the link of each message
abbrev pub AreLinked : List MarkedMessage → List Receiver → List Link → Type 0
AreLinked ms rs ls = (k : ℕ) (d : MarkedMessage) (e : Link) → k < length ms
    → IsLinked (get_or ms k d).to ms k rs (get_or ls k e)

-- Of these messages: one to this receiver stands where it says that its queue begins, and none to it is open
-- before that place; its last one stands where it says; and N to it are open, and claimed, as it says.
pub record IsTold (ms : List MarkedMessage) (r : Receiver) : Type 0 where
  pub begins : is_to r.process (slice_get ms r.first) ≡ true
  pub none : NoneOpen r.process ms 0 r.first
  pub ends : is_to r.process (slice_get ms r.last) ≡ true
  pub last : NoneTo r.process ms (suc r.last) (length ms)
  pub waiting : r.waiting ≡ open_to r.process ms
  pub claimed : r.claimed ≡ claimed_to r.process ms

-- a worker may be sent to this receiver
abbrev pub IsFree : Receiver → Type 0
IsFree r = (r.claimed ≡ 0) × (0 < r.waiting)

-- whether it may
abbrev pub is_free : Receiver → Bool
is_free r = (r.claimed == 0) && nat_lt 0 r.waiting

-- no worker may
abbrev pub IsNotFree : Receiver → Type 0
IsNotFree r = (r.waiting ≡ 0) ⊎ (0 < r.claimed)

-- the processes of these receivers
abbrev pub processes_of : List Receiver → List ProcessId
processes_of rs = map (λ r. r.process) rs

-- no two of these receivers are one process
abbrev pub AreApart : List Receiver → Type 0
AreApart rs = (i j : ℕ) (d e : Receiver) → i < length rs → j < length rs
    → (get_or rs i d).process ≡ (get_or rs j e).process → i ≡ j

-- These are the queues of the messages: each message is linked to its receiver and to the next one to it;
-- what the receivers tell is so, each is told of once, and the counts are right.
pub record AreQueued (ms : List MarkedMessage) (q : Queues) : Type 0 where
  pub long : length q.links.items ≡ length ms
  pub linked : AreLinked ms q.receivers.items q.links.items
  pub told : All (IsTold ms) q.receivers.items
  pub apart : AreApart q.receivers.items
  pub free : q.free ≡ count_by is_free q.receivers.items
  pub undelivered : q.undelivered ≡ count_by is_undelivered ms

-- there is room for N messages more, for their links and for as many receivers
abbrev pub HasRoom : Vec MarkedMessage → Queues → ℕ → Type 0
HasRoom ms q n = (vec_len ms + n ≤ vec_capacity ms) × (vec_len q.links + n ≤ vec_capacity q.links)
    × (vec_len q.receivers + n ≤ vec_capacity q.receivers)

-- one message more has taken room for one
abbrev pub TakesRoom : Vec MarkedMessage → Queues → Vec MarkedMessage → Queues → Type 0
TakesRoom ms q ns p = (n : ℕ) → HasRoom ms q (n + 1) → HasRoom ns p n
