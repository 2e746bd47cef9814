-- What a step of one process does to the pairs of which it has a half, whatever is at the other end.
use Rattle.std.specs.Prelude.{◌≡◌, Bool, true, false, List, ◌++◌}
use Rattle.protocol.specs.declared.names.Case.{Case}
use Rattle.protocol.specs.declared.names.Ticket.{Ticket}
use Rattle.protocol_words.specs.Variants.{AbortedOutcome, CommittedOutcome}
use Rattle.protocol.specs.declared.messages.Envelope.{Envelope}
use Rattle.protocol.specs.declared.standings.Standing.{Standing}
use Rattle.protocol.specs.declared.standings.Standing.TheVariants.{Prepared}
use Rattle.protocol.specs.Names.{child_case, process_of}
use Rattle.protocol.specs.Records.{has, is_commit}
use Rattle.protocol.specs.Nodes.{Role, AtRoot, Below, Place, is_leaf, Node}
use Rattle.protocol.specs.Standings.{coordinator_view}
use Rattle.protocol.specs.Outcomes.{sent, is_outcome_message}
use Rattle.proof_pairs.specs.Keeps.{FollowsReading}
use Rattle.proof_pairs.specs.Reading.{Reading}
use Rattle.proof_pairs.specs.readings.ReadingOf.{reading_from, is_root_ticket, parent_half, child_half, ParentHalf, ChildHalf, wire, no_wire, is_prepare_message}
use Rattle.proof_processes.specs.WorldHolds.{IsPair, IsFree, InvariantOf}

-- what the pair above a case says of it: PREPARE came only if it takes part, and what it was told in doubt
-- is true
pub record FromAbove (net : List Envelope) (c : Case) (s : Standing) (outcome above : Bool) : Type 0 where
  pub asked_takes_part : sent (is_prepare_message c) net ≡ true → above ≡ true
  pub commit_is_true : sent (is_outcome_message CommittedOutcome c) net ≡ true → s ≡ Prepared
      → outcome ≡ true
  pub abort_is_true : sent (is_outcome_message AbortedOutcome c) net ≡ true → s ≡ Prepared → outcome ≡ false

-- what the pair above a case says of it, at a cascaded coordinator
abbrev pub Above : Role → List Envelope → Case → Standing → Bool → Bool → Type 0
Above (Below p) net c s outcome above = FromAbove net c s outcome above
Above _ net c s outcome above = Unit {0}

-- the root's log says what the outcome is
abbrev pub outcome_in : Role → Node → Case → Bool → Bool
outcome_in AtRoot n c o = has (is_commit c) n.durable
outcome_in _ n c o = o

-- a pair below the process: its own half, and any half of the child's
abbrev pub seen_below : Place → List Envelope → Node → Case → Ticket → Bool → Bool → Bool → ChildHalf
    → Reading
seen_below place net n c t manager outcome above k =
    reading_from (is_root_ticket c.ticket) manager (outcome_in place.role n c outcome) above
    (parent_half place n c t) k (wire c t net)

-- a pair above the process: its own half, and any half of the parent's
abbrev pub seen_above : Place → List Envelope → Node → Case → Ticket → Bool → Bool → ParentHalf → Reading
seen_above place net n c t outcome above p =
    reading_from (is_root_ticket c.ticket) (is_leaf place.role) outcome above p
    (child_half place n (child_case c.txn t)) (wire c t net)

-- the pairs below the process: each move of its half keeps the invariant
pub record ParentStep (place : Place) (net ls : List Envelope) (n n' : Node) : Type 0 where
  pub follows : (c : Case) (t : Ticket) → IsPair place.tree c t → process_of c ≡ place.me
      → IsFree (net ++ ls) c t
      → (manager outcome above : Bool) (k : ChildHalf)
      → Above place.role net c (coordinator_view place n c).standing outcome above
      → InvariantOf c.txn.presumption (seen_below place net n c t manager outcome above k)
      → FollowsReading (InvariantOf c.txn.presumption) (seen_below place net n c t manager outcome above k)
      (seen_below place (net ++ ls) n' c t manager outcome above k)

-- the pairs above it
pub record ChildStep (place : Place) (net ls : List Envelope) (n n' : Node) : Type 0 where
  pub follows : (c : Case) (t : Ticket) → IsPair place.tree c t → t.child ≡ place.me
      → IsFree (net ++ ls) c t
      → (outcome above : Bool) (p : ParentHalf)
      → InvariantOf c.txn.presumption (seen_above place net n c t outcome above p)
      → FollowsReading (InvariantOf c.txn.presumption) (seen_above place net n c t outcome above p)
      (seen_above place (net ++ ls) n' c t outcome above p)

-- what it sends is of its own pairs alone
pub record Elsewhere (place : Place) (ls : List Envelope) : Type 0 where
  pub quiet : (c : Case) (t : Ticket) → IsPair place.tree c t → (process_of c ≡ place.me → ⊥)
      → (t.child ≡ place.me → ⊥) → wire c t ls ≡ no_wire
