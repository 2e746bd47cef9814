-- While a coordinator below the root takes children or votes, it has heard no acknowledgement.
use Rattle.std.proofs.Common.{ℕ, Bool, true, false, if◌then◌else◌, Option, None, Some, List, [], ◌∷◌, refl}
use Rattle.std.specs.Prelude.{fold}
use Rattle.protocol.specs.declared.names.Case.{Case}
use Rattle.protocol.specs.declared.names.ProcessId.{ProcessId}
use Rattle.protocol.specs.declared.names.Ticket.{Ticket}
use Rattle.protocol.specs.declared.messages.Message.{Message}
use Rattle.protocol.specs.declared.messages.Message.TheVariants.{Join, Joined, Work, Prepare, Yes, No, Read, Commit, Abort, Ack, Inquire}
use Rattle.protocol.specs.declared.events.Act.TheVariants.{Begin, Ask, Decide, Forget}
use Rattle.protocol_words.specs.Variants.{AbortAct, ActInput, CommitAct, JoinAct, MessageInput, WorkAct}
use Rattle.protocol.specs.declared.events.Input.{Input}
use Rattle.protocol.specs.declared.trees.TreeProcess.{TreeProcess}
use Rattle.protocol.specs.Names.{child_case, same_case}
use Rattle.protocol.specs.Records.{boot_of}
use Rattle.protocol.specs.Nodes.{Below, Heard, Node, Place, kept}
use Rattle.protocol.specs.Memory.{Memory, active_ticket, cascaded_hears, cascaded_remembers, fresh_memory, gives, joins, memory_of, next_ticket, opens_case, remembers, retires, sends_work, ticket_of_child}
use Rattle.proof_model.proofs.PhaseLaws.{Quiet, quiet_asks, quiet_closes, quiet_hears, quiet_work}

-- a coordinator with this parent in a tree
abbrev pub cascaded_place : ProcessId → ProcessId → List TreeProcess → Place
cascaded_place me p tree = record { me = me; role = Below p; tree = tree }

module _ (me : ProcessId) (boot : ℕ) (c : Case) where
  either_quiet : (b : Bool) (m k : Memory) → Quiet m → Quiet k → Quiet (if b then k else m)
  either_quiet true m k q r = r
  either_quiet false m k q r = q

  quiet_joins : (m : Memory) (d : Case) (o : Option Ticket) → Quiet m → Quiet (joins me boot c d m o)
  quiet_joins m d (Some t) q = q
  quiet_joins m d None q =
      either_quiet (same_case c (child_case d.txn (next_ticket me boot m)))
      (gives m d (next_ticket me boot m))
      (opens_case (gives m d (next_ticket me boot m))) q refl

  quiet_message : (m : Memory) (x : Message) → Quiet m → Quiet (cascaded_hears me boot c m x)
  quiet_message m (Join d) q = quiet_joins m d (active_ticket m.active d) q
  quiet_message m (Prepare d k) q =
      either_quiet (same_case d c) (retires m d) _ q (quiet_asks (retires m d) m.phase q refl)
  quiet_message m (Abort d) q = either_quiet (same_case d c) (retires m d) _ q
      (quiet_closes (retires m d) m.phase refl)
  quiet_message m (Joined d t) q = quiet_hears c m (Joined d t) q
  quiet_message m (Yes d) q = quiet_hears c m (Yes d) q
  quiet_message m (No d) q = quiet_hears c m (No d) q
  quiet_message m (Read d) q = quiet_hears c m (Read d) q
  quiet_message m (Ack d o fs) q = quiet_hears c m (Ack d o fs) q
  quiet_message m (Work d k op) q = q
  quiet_message m (Commit d) q = q
  quiet_message m (Inquire d) q = q

  quiet_input : (m : Memory) (i : Input) → Quiet m → Quiet (cascaded_remembers me boot c m i)
  quiet_input m (MessageInput k x) q = quiet_message m x q
  quiet_input m (ActInput (WorkAct d r op)) q =
      either_quiet (same_case d c) m (sends_work m (ticket_of_child m.accepted r) m.phase) q
      (quiet_work m (ticket_of_child m.accepted r) m.phase q)
  quiet_input m (ActInput (Begin p)) q = q
  quiet_input m (ActInput (CommitAct x)) q = q
  quiet_input m (ActInput (AbortAct x)) q = q
  quiet_input m (ActInput (JoinAct d r)) q = q
  quiet_input m (ActInput (Ask d)) q = q
  quiet_input m (ActInput (Decide d o)) q = q
  quiet_input m (ActInput (Forget d)) q = q

  quiet_inputs : (p : ProcessId) (m : Memory) (hs : List Heard) → Quiet m
      → Quiet (fold (remembers me (Below p) boot c) m hs)
  quiet_inputs p m [] q = q
  quiet_inputs p m (h ∷ hs) q = quiet_inputs p (cascaded_remembers me boot c m h.input)
      hs (quiet_input m h.input q)

pub cascaded_quiet : (me p : ProcessId) (tree : List TreeProcess) (n : Node) (c : Case)
    → Quiet (memory_of (cascaded_place me p tree) n c)
unfolding memory_of
cascaded_quiet me p tree n c = quiet_inputs me (boot_of (kept n)) c p fresh_memory n.heard tt
