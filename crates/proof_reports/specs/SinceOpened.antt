-- The invariant of reports: what holds of the acknowledgements that were sent since a tree was opened last.
use Rattle.std.specs.Prelude.{◌≡◌, ◌⊎◌, ◌||◌, true, false, Bool, Some, List, [], ◌∷◌, ◌++◌}
use Rattle.protocol.specs.declared.names.Case.{Case}
use Rattle.protocol.specs.declared.names.Outcome.{Outcome}
use Rattle.protocol.specs.declared.names.ProcessId.{ProcessId}
use Rattle.protocol.specs.declared.names.Ticket.{Ticket}
use Rattle.protocol.specs.declared.names.Txn.{Txn}
use Rattle.protocol.specs.declared.messages.Envelope.{Envelope}
use Rattle.protocol.specs.declared.messages.Finding.{Finding}
use Rattle.protocol.specs.declared.messages.Message.{Message}
use Rattle.protocol.specs.declared.messages.Message.TheVariants.{Ack}
use Rattle.protocol.specs.declared.records.Record.{Record}
use Rattle.protocol.specs.declared.events.Input.{Input}
use Rattle.protocol_words.specs.Variants.{ActInput, MessageInput}
use Rattle.protocol.specs.declared.trees.TreeProcess.{TreeProcess}
use Rattle.protocol.specs.Names.{child_case}
use Rattle.protocol.specs.Records.{has, in_list, is_abort, is_collecting, is_commit, is_decided, mixed_of, unreported_of}
use Rattle.protocol.specs.Nodes.{AtLeaf, Below, Heard, Node, kept, role_of}
use Rattle.protocol.specs.Standings.{other_outcome}
use Rattle.protocol.specs.World.{World}
use Rattle.protocol.specs.Audits.{is_decision_naming}

-- Messages.

-- the message is one of these
abbrev pub IsAmong : Message → List Envelope → Type 0
IsAmong m [] = ⊥
IsAmong m (l ∷ ls) = (l.message ≡ m) ⊎ IsAmong m ls

-- a message that is heard is one of these; an act may always come
abbrev pub InputAmong : List Envelope → Input → Type 0
InputAmong ls (MessageInput k m) = IsAmong m ls
InputAmong ls (ActInput a) = Unit {0}

-- each message that was heard is
abbrev pub AllHeardAmong : List Envelope → List Heard → Type 0
AllHeardAmong ls [] = Unit {0}
AllHeardAmong ls (h ∷ hs) = InputAmong ls h.input × AllHeardAmong ls hs

-- Findings.

-- whom the first findings report, the second report so too
pub record Within (fs gs : List Finding) : Type 0 where
  pub mixed : (t : Ticket) → in_list (mixed_of fs) t ≡ true → in_list (mixed_of gs) t ≡ true
  pub unreported : (t : Ticket) → in_list (unreported_of fs) t ≡ true → in_list (unreported_of gs) t ≡ true

-- the ticket's case acknowledged the outcome among these messages, and what it found is within these findings
pub record Acked (ls : List Envelope) (x : Txn) (o : Outcome) (fs : List Finding) (t : Ticket) : Type 0 where
  pub found : List Finding
  pub is_sent : IsAmong (Ack (child_case x t) o found) ls
  pub within : Within found fs

-- the findings do not report the case's own ticket
abbrev pub IsClean : Case → List Finding → Type 0
IsClean d fs = (t : Ticket) → d.ticket ≡ Some t
    → (in_list (unreported_of fs) t ≡ false) × (in_list (mixed_of fs) t ≡ false)

-- Processes.

-- all that the log keeps, or ever had in its forced front
abbrev pub ever : Node → List Record
ever n = kept n ++ n.durable

-- no operator's decision of the case against the outcome is kept, or was ever forced
abbrev pub NoneAgainst : Node → Case → Outcome → Type 0
NoneAgainst n d o = has (is_decided d (other_outcome o)) (ever n) ≡ false

-- a decision of the case
abbrev pub is_decision : Case → Record → Bool
is_decision c r = is_commit c r || is_abort c r

-- each ticket that a decision of the case ever named has acknowledged, and what it found is within these
-- findings; and a Collecting that is kept has its decision in the forced front
pub record Covers (ls : List Envelope) (n : Node) (x : Txn) (t : Ticket) (o : Outcome)
    (fs : List Finding) : Type 0 where
  pub named : (u : Ticket) → has (is_decision_naming (child_case x t) u) n.life ≡ true → Acked ls x o fs u
  pub collecting_is_decided : has (is_collecting (child_case x t)) (kept n) ≡ true
      → has (is_decision (child_case x t)) n.forced ≡ true

-- Each process that is up has heard these messages alone. After an acknowledgement that does not report its
-- own ticket, a manager has no decision against the outcome, and a coordinator has acknowledgements of all
-- that it ever named.
pub record SinceOpened (tree : List TreeProcess) (ls : List Envelope) (w : World) : Type 0 where
  pub heard : (q : ProcessId) → (w.at q).failed ≡ false → AllHeardAmong ls (w.at q).heard
  pub managers : (x : Txn) (t : Ticket) (p : ProcessId) → role_of tree t.child ≡ AtLeaf p → (o : Outcome)
      (fs : List Finding) → IsAmong (Ack (child_case x t) o fs) ls → IsClean (child_case x t) fs
      → NoneAgainst (w.at t.child) (child_case x t) o
  pub coordinators : (x : Txn) (t : Ticket) (p : ProcessId) → role_of tree t.child ≡ Below p → (o : Outcome)
      (fs : List Finding) → IsAmong (Ack (child_case x t) o fs) ls → in_list (unreported_of fs) t ≡ false
      → Covers ls (w.at t.child) x t o fs
