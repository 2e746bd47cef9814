-- What the histories of a process are, told by its own moves.
use Rattle.std.specs.Prelude.{◌≡◌, ◌⊎◌, Bool, true, false, ◌&&◌, ◌||◌, List, [], ◌∷◌}
use Rattle.std.specs.List.{list_any}
use Rattle.protocol.specs.declared.names.Case.{Case}
use Rattle.protocol.specs.declared.names.Ticket.{Ticket}
use Rattle.protocol.specs.declared.names.Txn.{Txn}
use Rattle.protocol.specs.declared.messages.Message.TheVariants.{Joined}
use Rattle.protocol.specs.declared.records.Record.{Record}
use Rattle.protocol.specs.declared.standings.Standing.TheVariants.{Active, Collecting}
use Rattle.protocol.specs.declared.standings.Vote.{Vote}
use Rattle.protocol.specs.declared.events.Input.{Input}
use Rattle.protocol.specs.declared.events.Happening.{Happening}
use Rattle.protocol.specs.declared.events.Happening.TheVariants.{Restart}
use Rattle.protocol_words.specs.Variants.{Handles}
use Rattle.protocol.specs.Names.{same_txn}
use Rattle.protocol.specs.Records.{has, in_list}
use Rattle.protocol.specs.Nodes.{Role, AtRoot, Place, Node, opened_node}
use Rattle.protocol.specs.Memory.{has_child}
use Rattle.protocol.specs.Standings.{coordinator_view}
use Rattle.protocol.specs.Views.{vote_message}
use Rattle.protocol.specs.Restarts.{left_of, is_undecided}
use Rattle.protocol.specs.World.{Made, Move, node_by}
use Rattle.proof_pairs.specs.turns.LeafTurns.{Hears}
use Rattle.proof_pairs.specs.turns.CoordinatorTurns.{HearsChild}
use Rattle.proof_pairs.specs.turns.Steps.{heard_in}

-- a record that passes the test stood in the forced front of the process, as it opened or after one of its
-- moves, the newest first
unfoldable pub was_forced : Place → (Record → Bool) → List Made → Bool
was_forced place q [] = has q opened_node.forced
was_forced place q (e ∷ es) = has q (node_by place (e ∷ es)).forced || was_forced place q es

-- Votes.

-- The case hears this vote of the ticket in a move while it collects votes: the process is up, and handles
-- the message of the ticket's child; the case, to which the ticket belongs, is at Collecting, and has
-- accepted the ticket.
pub record HearsVote (place : Place) (n : Node) (m : Move) (c : Case) (t : Ticket) (v : Vote) : Type 0 where
  pub up : n.failed ≡ false
  pub input : Input
  pub handles : m.step.happening ≡ Handles input
  pub comes : HearsChild place n (heard_in m input) c t (vote_message v)
  pub collects : (coordinator_view place n c).standing ≡ Collecting
  pub accepted : in_list (coordinator_view place n c).accepted t ≡ true

-- the case heard this vote of the ticket so in one of the moves, the newest first
abbrev pub HeardVote : Place → Case → Ticket → Vote → List Made → Type 0
HeardVote place c t v [] = ⊥
HeardVote place c t v (e ∷ es) = HeardVote place c t v es ⊎ HearsVote place (node_by place es) e.move c t v

-- the case heard this vote of the ticket first: so in one of the moves, and in none before that any vote of
-- the ticket
abbrev pub HeardFirst : Place → Case → Ticket → Vote → List Made → Type 0
HeardFirst place c t v [] = ⊥
HeardFirst place c t v (e ∷ es) = HeardFirst place c t v es
    ⊎ (HearsVote place (node_by place es) e.move c t v × ((u : Vote) → HeardVote place c t u es → ⊥))

-- Tickets.

-- The case accepts the ticket in a move: the process is up, and hears JOINED of the case with this ticket;
-- the case is Active, and has accepted no ticket of the same child.
pub record AcceptsTicket (place : Place) (n : Node) (m : Move) (c : Case) (t : Ticket) : Type 0 where
  pub up : n.failed ≡ false
  pub input : Input
  pub handles : m.step.happening ≡ Handles input
  pub comes : Hears (heard_in m input) (Joined c t)
  pub is_active : (coordinator_view place n c).standing ≡ Active
  pub is_first : has_child (coordinator_view place n c).accepted t.child ≡ false

-- the case accepted the ticket so in one of the moves, the newest first
abbrev pub AcceptedTicket : Place → Case → Ticket → List Made → Type 0
AcceptedTicket place c t [] = ⊥
AcceptedTicket place c t (e ∷ es) = AcceptedTicket place c t es
    ⊎ AcceptsTicket place (node_by place es) e.move c t

-- Transactions that a restart found undecided.

-- the transaction is in the list
abbrev pub has_txn : Txn → List Txn → Bool
has_txn x xs = list_any (λ y. same_txn y x) xs

-- what happens is a restart of the root that finds the transaction undecided: the root had begun it, had
-- concluded nothing of it for the application, and no Commit of it was ever in the forced front, nor is one
-- left
abbrev pub finds_undecided : Role → Node → Happening → Txn → Bool
finds_undecided AtRoot n (Restart k) x = has_txn x n.begun && is_undecided n (left_of n k) x
finds_undecided _ n _ x = false

-- one of the moves, the newest first, was such a restart
unfoldable pub was_found_undecided : Place → Txn → List Made → Bool
was_found_undecided place x [] = false
was_found_undecided place x (e ∷ es) =
    finds_undecided place.role (node_by place es) e.move.step.happening x || was_found_undecided place x es
