-- Worked runs by the second version.
use Rattle.std.specs.Prelude.{◌≡◌, ℕ, zero, suc, true, Option, Some, None, List, [], ◌∷◌, fold, length}
use Rattle.protocol.specs.declared.names.ProcessId.{ProcessId}
use Rattle.protocol.specs.declared.messages.Envelope.{Envelope}
use Rattle.protocol.specs.declared.events.Input.{Input}
use Rattle.protocol_words.specs.Variants.{ActInput, Handles, MessageInput}
use Rattle.protocol.specs.declared.events.Happening.{Happening}
use Rattle.protocol.specs.declared.events.Happening.TheVariants.{Restart, Trim}
use Rattle.protocol.specs.declared.events.StepError.TheVariants.{NoSuch}
use Rattle.protocol.specs.declared.trees.TreeProcess.{TreeProcess}
use Rattle.protocol.specs.Nodes.{DataAnswer, ReadsOnly, Second}
use Rattle.protocol.specs.Plays.{Acts, Delivers, Goes, Play, Played, Player, Restarts, Settles, Stops, Trims, first_player, least_open, move_of, plain_answer, played_lines, plays_move, process_of_act, sent_as}
use Rattle.protocol.specs.Rows.{WorkedRun, process}
use Rattle.protocol.specs.World.{Move}

-- a move by the second version, in which no device fails
abbrev pub second_move_of : ProcessId → Happening → DataAnswer → Move
second_move_of q happening a = record (move_of q happening a) { version = Second }

-- a data answer if nothing is asked
abbrev pub no_answer : DataAnswer
no_answer = record { starts = true; does = true; holding = ReadsOnly }

-- an input at this process, where each manager is a plain leaf
abbrev pub second_input : List TreeProcess → Player → ProcessId → Input → List ℕ → Played
second_input tree p q i delivered = plays_move tree p
    (second_move_of q (Handles i) (plain_answer (p.world.at q) i)) delivered

-- the message with this number comes to its receiver; if there is none, the run stops
abbrev pub second_delivers : List TreeProcess → Player → ℕ → Option Envelope → Played
second_delivers tree p k None = Stops NoSuch p
second_delivers tree p k (Some e) = second_input tree p e.to (MessageInput k e.message) (k ∷ p.delivered)

-- goes on with what comes again, unless the run has stopped
abbrev pub then_again : (Player → Played) → Played → Played
then_again again (Goes q) = again q
then_again again (Stops e q) = Stops e q

-- delivers the message with this number, and goes on; without a number it is done
abbrev pub second_settle_next : (Player → Played) → List TreeProcess → Player → Option ℕ → Played
second_settle_next again tree p None = Goes p
second_settle_next again tree p (Some k) = then_again again (second_delivers tree p k (sent_as p.world.net k))

-- delivers the least numbered message not delivered yet, at most N times
abbrev pub second_settles : ℕ → List TreeProcess → Player → Played
second_settles zero tree p = Goes p
second_settles (suc fuel) tree p = second_settle_next (second_settles fuel tree) tree p
    (least_open p.delivered 1 (length p.world.net))

-- one event
abbrev pub second_plays : List TreeProcess → ProcessId → Player → Play → Played
second_plays tree root p (Acts a) = second_input tree p (process_of_act root a) (ActInput a) p.delivered
second_plays tree root p (Delivers k) = second_delivers tree p k (sent_as p.world.net k)
second_plays tree root p Settles = second_settles 10000 tree p
second_plays tree root p (Restarts q k) = plays_move tree p
    (second_move_of q (Restart k) no_answer) p.delivered
second_plays tree root p (Trims q) = plays_move tree p (second_move_of q Trim no_answer) p.delivered

-- one event more, unless the run has stopped
abbrev pub second_plays_on : List TreeProcess → ProcessId → Played → Play → Played
second_plays_on tree root (Goes p) e = second_plays tree root p e
second_plays_on tree root (Stops e p) _ = Stops e p

-- all the events, in order, up to the first that is refused
abbrev pub second_plays_all : List TreeProcess → ProcessId → List Play → Played
second_plays_all tree root es = fold (second_plays_on tree root) (Goes first_player) es

-- the events, by the second version, lead to the lines
abbrev pub RunsBySecond : WorkedRun → Type 0
RunsBySecond w = played_lines (second_plays_all w.tree (process 1) w.events) ≡ w.lines
