-- A list of events as moves, where each manager is a plain leaf: it locks nothing, does all work that comes
-- in order, and votes YES if one of its works was a put or a del. Restarts name the number of records that
-- stay.
use Rattle.std.specs.Prelude.{◌+◌, ◌==◌, ℕ, zero, suc, Bool, true, ◌&&◌, if◌then◌else◌, Option, Some, None, List, [], ◌∷◌, ◌++◌, fold, length, slice_get}
use Rattle.std.specs.List.{list_any}
use Rattle.protocol.specs.declared.names.Case.{Case}
use Rattle.protocol.specs.declared.names.ProcessId.{ProcessId}
use Rattle.protocol.specs.declared.messages.Op.{Op}
use Rattle.protocol.specs.declared.messages.Op.TheVariants.{Put, Get, Delete}
use Rattle.protocol.specs.declared.messages.Message.{Message}
use Rattle.protocol.specs.declared.messages.Message.TheVariants.{Work, Prepare}
use Rattle.protocol.specs.declared.messages.Envelope.{Envelope}
use Rattle.protocol.specs.declared.records.Write.{Write}
use Rattle.protocol.specs.declared.events.Act.{Act}
use Rattle.protocol.specs.declared.events.Act.TheVariants.{Begin, Join as JoinAct, Work as WorkAct, Commit as CommitAct, Abort as AbortAct, Ask, Decide, Forget}
use Rattle.protocol.specs.declared.events.Input.{Input}
use Rattle.protocol.specs.declared.events.Input.TheVariants.{Act as ActInput, Message as MessageInput}
use Rattle.protocol.specs.declared.events.Happening.{Happening}
use Rattle.protocol.specs.declared.events.Happening.TheVariants.{Input as Handles, Restart, Trim}
use Rattle.protocol.specs.declared.events.StepError.{StepError}
use Rattle.protocol.specs.declared.events.StepError.TheVariants.{NoSuch}
use Rattle.protocol.specs.declared.trees.TreeProcess.{TreeProcess}
use Rattle.protocol.specs.Names.{same_case, process_of}
use Rattle.protocol.specs.Records.{same_bytes}
use Rattle.protocol.specs.Texts.{reaction_lines}
use Rattle.protocol.specs.Nodes.{First, place_of, is_listed, Node, Heard, DataAnswer, Holding, ReadsOnly, Holds, reaction_of}
use Rattle.protocol.specs.World.{World, opened_world, Move, Stepped, Refuses, Makes, node_makes, put_at, Made}

-- Plain leaves.

-- the works done of a branch, and its writes: each key once, in order of its first write, with its last value
pub record Worked : Type 0 where
  pub done : ℕ
  pub writes : List Write

-- the writes with one more: it takes the place of its key's write, or comes last
abbrev pub with_write : List Write → List ℕ → Option (List ℕ) → List Write
with_write [] k v = record { key = k; value = v } ∷ []
with_write (w ∷ ws) k v =
    if same_bytes w.key k then record { key = k; value = v } ∷ ws else w ∷ with_write ws k v

-- the writes after an operation; a get writes nothing
abbrev pub op_writes : List Write → Op → List Write
op_writes ws (Put k v) = with_write ws k (Some v)
op_writes ws (Delete k) = with_write ws k None
op_writes ws (Get k) = ws

-- the works of the case after an input: its WORK counts where it comes in order
abbrev pub worked_by : Case → Worked → Input → Worked
worked_by c w (MessageInput n (Work d i op)) =
    if same_case d c && (i == w.done + 1) then record { done = i; writes = op_writes w.writes op } else w
worked_by c w _ = w

-- what a plain leaf holds with these writes; without any it has only read
abbrev pub held_writes : List Write → Holding
held_writes [] = ReadsOnly
held_writes (w ∷ ws) = Holds (w ∷ ws)

-- the writes of the case in the inputs heard
unfoldable pub writes_heard : List Heard → Case → List Write
writes_heard hs c = (fold (λ w h. worked_by c w h.input) (record { done = 0; writes = [] }) hs).writes

-- what a plain leaf's data answer to PREPARE: the writes heard of its case
abbrev pub plain_holding : List Heard → Message → Holding
plain_holding hs (Prepare c n) = held_writes (writes_heard hs c)
plain_holding hs _ = ReadsOnly

-- what a plain leaf's data answer to a message
abbrev pub plain_answer : Node → Input → DataAnswer
plain_answer n (MessageInput k m) = record { starts = true; does = true; holding = plain_holding n.heard m }
plain_answer n (ActInput a) = record { starts = true; does = true; holding = ReadsOnly }

-- Events.

-- an event
pub data Play : Type 0 where
  Acts : Act → Play
  Delivers : ℕ → Play
  -- delivers the least numbered message not delivered yet, again and again, at most 10,000 times
  Settles : Play
  Restarts : ProcessId → ℕ → Play
  Trims : ProcessId → Play

-- the world, the moves made (the newest first), and the numbers of the messages delivered
pub record Player : Type 0 where
  pub world : World
  pub moves : List Made
  pub delivered : List ℕ

-- nothing was played yet
abbrev pub first_player : Player
first_player = record { world = opened_world; moves = []; delivered = [] }

-- the run goes on, or has stopped at a refusal
pub data Played : Type 0 where
  Goes : Player → Played
  Stops : StepError → Player → Played

-- the process of an act: the root for a transaction of its own, else the process of the case
abbrev pub process_of_act : ProcessId → Act → ProcessId
process_of_act root (Begin p) = root
process_of_act root (JoinAct c q) = process_of c
process_of_act root (WorkAct c q op) = process_of c
process_of_act root (CommitAct x) = x.root
process_of_act root (AbortAct x) = x.root
process_of_act root (Ask c) = process_of c
process_of_act root (Decide c o) = process_of c
process_of_act root (Forget c) = process_of c

-- a move in which no device fails
abbrev pub move_of : ProcessId → Happening → DataAnswer → Move
move_of q happening a = record {
  step = record { process = q; happening = happening; fault = None };
  data_answer = a;
  version = First;
}

-- the player after a move, with what is delivered now; a refusal stops the run
abbrev pub played : Player → Move → List ℕ → Stepped → Played
played p m delivered (Refuses e) = Stops e p
played p m delivered (Makes e n) =
    Goes (record {
      world = record { at = put_at m.step.process n p.world.at; net = p.world.net ++ e.messages };
      moves = record { move = m; effect = e } ∷ p.moves;
      delivered = delivered;
    })

-- a move at its process; one that is not listed stops the run
abbrev pub plays_move : List TreeProcess → Player → Move → List ℕ → Played
plays_move tree p m delivered =
    let q = m.step.process in
    if is_listed tree q then played p m delivered (node_makes (place_of tree q) (p.world.at q) m)
    else Stops NoSuch p

-- an input at this process, where each manager is a plain leaf
abbrev pub plays_input : List TreeProcess → Player → ProcessId → Input → List ℕ → Played
plays_input tree p q i delivered = plays_move tree p
    (move_of q (Handles i) (plain_answer (p.world.at q) i)) delivered

-- the message with this number comes to its receiver; if there is none, the run stops
abbrev pub delivers : List TreeProcess → Player → ℕ → Option Envelope → Played
delivers tree p k None = Stops NoSuch p
delivers tree p k (Some e) = plays_input tree p e.to (MessageInput k e.message) (k ∷ p.delivered)

-- the message with this number, from 1
abbrev pub sent_as : List Envelope → ℕ → Option Envelope
sent_as net zero = None
sent_as net (suc k) = slice_get net k

-- the number is in the list
abbrev pub is_in : List ℕ → ℕ → Bool
is_in ks k = list_any (λ j. j == k) ks

-- the least number from k on, among N, that was not delivered
abbrev pub least_open : List ℕ → ℕ → ℕ → Option ℕ
least_open delivered k zero = None
least_open delivered k (suc more) = if is_in delivered k then least_open delivered (k + 1) more else Some k

-- delivers the message with this number, and goes on unless the run stops; without a number it is done
abbrev pub settle_next : (Player → Played) → List TreeProcess → Player → Option ℕ → Played
settle_next again tree p None = Goes p
settle_next again tree p (Some k) = then_again (delivers tree p k (sent_as p.world.net k))
  where
    then_again : Played → Played
    then_again (Goes q) = again q
    then_again (Stops e q) = Stops e q

-- delivers the least numbered message not delivered yet, at most N times
abbrev pub settles : ℕ → List TreeProcess → Player → Played
settles zero tree p = Goes p
settles (suc fuel) tree p = settle_next (settles fuel tree) tree p
    (least_open p.delivered 1 (length p.world.net))

-- one event
abbrev pub plays : List TreeProcess → ProcessId → Player → Play → Played
plays tree root p (Acts a) = plays_input tree p (process_of_act root a) (ActInput a) p.delivered
plays tree root p (Delivers k) = delivers tree p k (sent_as p.world.net k)
plays tree root p Settles = settles 10000 tree p
plays tree root p (Restarts q k) = plays_move tree p
    (move_of q (Restart k) (record { starts = true; does = true; holding = ReadsOnly })) p.delivered
plays tree root p (Trims q) = plays_move tree p
    (move_of q Trim (record { starts = true; does = true; holding = ReadsOnly })) p.delivered

-- one event more, unless the run has stopped
abbrev pub plays_on : List TreeProcess → ProcessId → Played → Play → Played
plays_on tree root (Goes p) e = plays tree root p e
plays_on tree root (Stops e p) _ = Stops e p

-- all the events, in order, up to the first that is refused
abbrev pub plays_all : List TreeProcess → ProcessId → List Play → Played
plays_all tree root es = fold (plays_on tree root) (Goes first_player) es

-- The lines of a run.

-- how many messages were sent, and the lines
pub record Lines : Type 0 where
  pub sent : ℕ
  pub lines : List (List ℕ)

-- the lines of moves, where the list has the newest first
abbrev pub lines_of : List Made → Lines
lines_of [] = record { sent = 0; lines = [] }
lines_of (e ∷ es) =
    let before = lines_of es in
    record {
      sent = before.sent + length e.effect.messages;
      lines = before.lines ++ reaction_lines e.move.step.process.0 before.sent (reaction_of e.effect);
    }

-- the lines of a run, up to where it stopped
abbrev pub played_lines : Played → List (List ℕ)
played_lines (Goes p) = (lines_of p.moves).lines
played_lines (Stops e p) = (lines_of p.moves).lines
