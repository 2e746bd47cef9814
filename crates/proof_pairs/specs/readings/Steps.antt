-- How an input of one process moves the readings of the world.
use Rattle.std.specs.Prelude.{◌≡◌, ℕ, Bool, true, false, Some, None, List, ◌++◌}
use Rattle.protocol.specs.declared.names.Case.{Case}
use Rattle.protocol.specs.declared.names.ProcessId.{ProcessId}
use Rattle.protocol.specs.declared.names.Ticket.{Ticket}
use Rattle.protocol.specs.declared.names.Txn.{Txn}
use Rattle.protocol.specs.declared.messages.Message.{Message}
use Rattle.protocol_words.specs.Variants.{Handles, MessageInput}
use Rattle.protocol.specs.declared.events.Happening.TheVariants.{Restart, Trim}
use Rattle.protocol.specs.declared.events.Fault.{Fault}
use Rattle.protocol.specs.declared.trees.TreeProcess.{TreeProcess}
use Rattle.protocol.specs.Names.{same_process, process_of}
use Rattle.protocol.specs.Nodes.{First, Node, AtRoot, AtLeaf, Below, role_of, Heard, DataAnswer, Effect, after}
use Rattle.protocol.specs.World.{World, Move, put_at}
use Rattle.protocol.specs.Standings.{Mark, Unmarked, Promised, Decided, ToldOf, Finished}
use Rattle.proof_pairs.specs.readings.ReadingOf.{is_root_ticket, wire, no_wire}
use Rattle.protocol.specs.declared.messages.Envelope.{Envelope}

-- a world after a step of one process that left this node and sent the messages of this effect
abbrev pub made_at : World → ProcessId → Node → Effect → World
made_at w q n e = record { at = put_at q n w.at; net = w.net ++ e.messages }

-- a world after an input that a process handled
abbrev pub handled : World → ProcessId → Heard → Effect → World
handled w q h e = made_at w q (after (w.at q) h e) e

-- The child of the pair is a manager below this parent, and neither the parent's process nor the root.
pub record IsLeafPair (tree : List TreeProcess) (c : Case) (t : Ticket) (p : ProcessId) : Type 0 where
  pub leaf : role_of tree t.child ≡ AtLeaf p
  pub parent_elsewhere : same_process t.child (process_of c) ≡ false
  pub root_elsewhere : same_process t.child c.txn.root ≡ false

-- The parent of the pair is a cascaded coordinator below this process, and neither the child's process
-- nor the root.
pub record IsCascadedPair (tree : List TreeProcess) (c : Case) (t : Ticket) (p : ProcessId) : Type 0 where
  pub cascaded : is_root_ticket c.ticket ≡ false
  pub below : role_of tree (process_of c) ≡ Below p
  pub child_elsewhere : same_process (process_of c) t.child ≡ false
  pub root_elsewhere : same_process (process_of c) c.txn.root ≡ false

-- a message is delivered to a process, and its device does not fail
abbrev pub delivers : ProcessId → ℕ → Message → DataAnswer → Move
delivers q i message a = record {
  step = record { process = q; happening = Handles (MessageInput i message); fault = None };
  data_answer = a;
  version = First;
}

-- The parent of the pair is the root's case of this transaction, and the child is another process.
pub record IsRootPair (tree : List TreeProcess) (x : Txn) (t : Ticket) : Type 0 where
  pub root : role_of tree x.root ≡ AtRoot
  pub child_elsewhere : same_process x.root t.child ≡ false

-- A message is delivered to a process, and its device fails in that step.
abbrev pub fails_at : ProcessId → ℕ → Message → DataAnswer → Fault → Move
fails_at q i message a f = record {
  step = record { process = q; happening = Handles (MessageInput i message); fault = Some f };
  data_answer = a;
  version = First;
}

-- A branch whose last record says this asks its parent at a restart.
abbrev pub asks_by : Mark → Bool
asks_by Promised = true
asks_by Decided = true
asks_by Unmarked = false
asks_by (ToldOf o) = false
asks_by Finished = false

-- A process restarts; N records after the forced front are kept, and its device does not fail.
abbrev pub restarts_at : ProcessId → ℕ → DataAnswer → Move
restarts_at q k a = record {
  step = record { process = q; happening = Restart k; fault = None };
  data_answer = a;
  version = First;
}

-- A process trims its log, and its device does not fail.
abbrev pub trims_at : ProcessId → DataAnswer → Move
trims_at q a = record {
  step = record { process = q; happening = Trim; fault = None };
  data_answer = a;
  version = First;
}

-- A process is neither the parent's nor the child's, nor the root.
pub record IsElsewhere (q : ProcessId) (c : Case) (t : Ticket) : Type 0 where
  pub not_parent : same_process q (process_of c) ≡ false
  pub not_child : same_process q t.child ≡ false
  pub not_root : same_process q c.txn.root ≡ false

-- No message of the list is of the pair.
abbrev pub IsQuiet : Case → Ticket → List Envelope → Type 0
IsQuiet c t ls = wire c t ls ≡ no_wire
