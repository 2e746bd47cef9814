-- An input that a manager handles, as one of its pairs sees it.
use Rattle.protocol.specs.ManagerRows.{is_acknowledged}
use Rattle.std.proofs.Common.{◌≡◌, ℕ, Bool, true, false, List, [], ◌∷◌, ◌++◌, if◌then◌else◌}
use Rattle.protocol.specs.declared.names.Case.{Case}
use Rattle.protocol.specs.declared.names.ProcessId.{ProcessId}
use Rattle.protocol.specs.declared.names.Ticket.{Ticket}
use Rattle.protocol.specs.declared.names.Outcome.{Outcome}
use Rattle.protocol.specs.declared.names.Presumption.{Presumption}
use Rattle.protocol.specs.declared.messages.Message.TheVariants.{Prepare, Ack}
use Rattle.protocol.specs.declared.messages.Envelope.{Envelope}
use Rattle.protocol.specs.declared.records.Record.{Record}
use Rattle.protocol_words.specs.Variants.{MessageInput}
use Rattle.protocol.specs.declared.trees.TreeProcess.{TreeProcess}
use Rattle.protocol.specs.Names.{child_case, same_case}
use Rattle.protocol.specs.Nodes.{Place, AtLeaf, Node, Heard, Effect, after, Written}
use Rattle.protocol.specs.CoordinatorRows.{post}
use Rattle.protocol.specs.Standings.{manager_view}
use Rattle.protocol.specs.World.{InputStands}
use Rattle.proof_pairs.specs.Reading.{Reading}
use Rattle.proof_pairs.specs.readings.ReadingOf.{reading_from, ParentHalf, ChildHalf, Wire, child_half, wire}
use Rattle.proof_pairs.specs.turns.LeafTurns.{writes_and_sends}
use Rattle.proof_processes.specs.Lasts.{logs_of, Nested, Manages}
use Rattle.proof_processes.specs.WorldHolds.{InvariantOf}
use Rattle.proof_steps.proofs.children.Moves.{Fits}
use Rattle.proof_steps.proofs.children.Opens.{IsRow, opens}
use Rattle.protocol.specs.declared.messages.Finding.{Finding}

-- The pair's case and ticket, with the parent's half; the manager below its parent, what it was and heard,
-- and the net
-- after it; and what is known of them.
pub record Turn : Type 0 where
  pub c : Case
  pub t : Ticket
  pub p : ProcessId
  pub tree : List TreeProcess
  pub n : Node
  pub h : Heard
  pub net : List Envelope
  pub up : n.failed ≡ false
  pub nested : Nested (logs_of n)
  pub m : Manages (logs_of n)
  pub stands : InputStands net t.child h.input
  pub row : IsRow h.input
  pub own : (x : Case) (j half_in : ℕ) → h.input ≡ MessageInput j (Prepare x half_in) → same_case x c ≡ false
  pub pr : Presumption
  pub of : c.txn.presumption ≡ pr
  pub root : Bool
  pub outcome : Bool
  pub above : Bool
  pub half : ParentHalf
  pub inv : InvariantOf pr (reading_from root true outcome above half
      (child_half (record { me = t.child; role = AtLeaf p; tree = tree }) n (child_case c.txn t))
      (wire c t net))

module _ (turn : Turn) where
  open turn use {c, t, p, tree, n, h, net, root, outcome, above, half, pr}

  -- the ticket's case
  abbrev pub branch : Case
  branch = child_case c.txn t

  abbrev pub place_in : Place
  place_in = record { me = t.child; role = AtLeaf p; tree = tree }

  -- the manager's half, and the net's part
  abbrev pub half_in : ChildHalf
  half_in = child_half place_in n branch

  abbrev pub wire_in : Wire
  wire_in = wire c t net

  abbrev pub R : ChildHalf → Wire → Reading
  R x w = reading_from root true outcome above half x w

  abbrev pub r0 : Reading
  r0 = R half_in wire_in

  -- whether the branch is open after an effect
  abbrev pub O : Effect → Bool
  O e = opens n.failed (manager_view place_in (after n h e) branch)

  -- what is written and sent keeps the invariant
  abbrev pub Fine : List Written → List Envelope → Type 0
  Fine ws ls =
      let e = writes_and_sends ws ls in Fits pr r0
      (R (child_half place_in (after n h e) branch) (wire c t (net ++ ls)))

  -- what an outcome writes and sends, by the presumption
  abbrev pub ack : Outcome → List Finding → List Envelope
  ack o fs = post t.child p (Ack branch o fs) ∷ []

  abbrev pub Written_as : Outcome → Record → List Written
  Written_as o r = record { entry = r; is_forced = is_acknowledged pr o } ∷ []

  abbrev pub Acked : Outcome → List Finding → List Envelope
  Acked o fs = if is_acknowledged pr o then ack o fs else []
