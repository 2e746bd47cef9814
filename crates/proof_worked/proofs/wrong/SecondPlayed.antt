-- What is played by the second version, by acts, deliveries, restarts and trims, is a run by it.
use Rattle.std.proofs.Common.{◌≡◌, ◌∙◌, ap, ℕ, zero, suc, ◌-◌, ◌+◌, Bool, true, false, ◌&&◌, Option, Some, None, List, [], ◌∷◌, refl, if◌then◌else◌, arith, fold, slice_get}
use Rattle.protocol.specs.Nodes.{Effect, Second, is_listed, place_of}
use Rattle.protocol.specs.Plays.{Play, Acts, Delivers, Settles, Restarts, Trims, Player, Played, Goes, Stops, played, plays_move, sent_as, plain_answer, process_of_act}
use Rattle.protocol.specs.World.{World, Made, opened_world, node_makes, world_makes, IsNewInNet, IsNumberedMessage, IsRunBy, Move, Stepped, Refuses, Makes, first_opens, next, Continues, stays, goes_on}
use Rattle.protocol_words.specs.Variants.{ActInput, Handles, MessageInput}
use Rattle.protocol.specs.declared.events.Happening.TheVariants.{Restart, Trim}
use Rattle.protocol.specs.declared.events.StepError.TheVariants.{NoSuch}
use Rattle.protocol.specs.declared.messages.Envelope.{Envelope}
use Rattle.protocol.specs.declared.names.ProcessId.{ProcessId}
use Rattle.protocol.specs.declared.trees.TreeProcess.{TreeProcess}
use Rattle.proof_reports.proofs.SinceRuns.{stands_new}
use Rattle.proof_worked.specs.SecondPlays.{no_answer, second_delivers, second_move_of, second_plays, second_plays_all, second_plays_on}
use Rattle.proof_worked.proofs.wrong.PlayedRuns.{are_single, is_single, player_of}

-- moves by the second version, from a world, each of whose messages has its number
data GoesBy (tree : List TreeProcess) (start : World) : List Made → World → Type 0 where
  stays_by : GoesBy tree start [] start
  goes_by : (es : List Made) (w : World) (m : Move) (e : Effect) (w' : World) → GoesBy tree start es w
      → m.version ≡ Second → IsNewInNet w.net 0 m.step.process m.step.happening
      → world_makes tree w m ≡ Some (e, w')
      → GoesBy tree start (record { move = m; effect = e } ∷ es) w'

abbrev IsPlayedBy : List TreeProcess → World → Player → Type 0
IsPlayedBy tree start p = GoesBy tree start p.moves p.world

sent_new : (net : List Envelope) (k : ℕ) (l : Envelope) → sent_as net k ≡ Some l
    → IsNumberedMessage net 0 l.to k l.message
sent_new net zero l f = absurd (cc)
sent_new net (suc j) l f =
    let less : 0 + (suc j - 1) ≡ j = omega arith in
    record { sender = l.from; counted = omega arith; stands = ap (slice_get net) less ∙ f }

makes_by : (tree : List TreeProcess) (start : World) (p : Player) (m : Move) (delivered : List ℕ) (b : Bool)
    (s : Stepped) → is_listed tree m.step.process ≡ b
    → node_makes (place_of tree m.step.process) (p.world.at m.step.process) m ≡ s → m.version ≡ Second
    → IsNewInNet p.world.net 0 m.step.process m.step.happening → IsPlayedBy tree start p
    → IsPlayedBy tree start (player_of (if b then played p m delivered s else Stops NoSuch p))
unfolding world_makes
makes_by tree start p m delivered true (Makes e n) l made second new run =
    goes_by p.moves p.world m e _ run second new (rw (l, made) refl)
makes_by tree start p m delivered true (Refuses x) l made second new run = run
makes_by tree start p m delivered false s l made second new run = run

plays_one : (tree : List TreeProcess) (start : World) (p : Player) (m : Move) (delivered : List ℕ)
    → m.version ≡ Second → IsNewInNet p.world.net 0 m.step.process m.step.happening → IsPlayedBy tree start p
    → IsPlayedBy tree start (player_of (plays_move tree p m delivered))
plays_one tree start p m delivered second new run =
    makes_by tree start p m delivered (is_listed tree m.step.process)
    (node_makes (place_of tree m.step.process) (p.world.at m.step.process) m) refl refl second new run

delivers_one : (tree : List TreeProcess) (start : World) (p : Player) (k : ℕ) (o : Option Envelope)
    → sent_as p.world.net k ≡ o → IsPlayedBy tree start p
    → IsPlayedBy tree start (player_of (second_delivers tree p k o))
delivers_one tree start p k None e run = run
delivers_one tree start p k (Some l) e run =
    plays_one tree start p
    (second_move_of l.to (Handles (MessageInput k l.message))
    (plain_answer (p.world.at l.to) (MessageInput k l.message)))
    (k ∷ p.delivered) refl (sent_new p.world.net k l e) run

both : (a b : Bool) → (a && b) ≡ true → (a ≡ true) × (b ≡ true)
both true true e = (refl, refl)
both true false e = absurd (cc)
both false b e = absurd (cc)

event_runs : (tree : List TreeProcess) (start : World) (root : ProcessId) (p : Player) (e : Play)
    → is_single e ≡ true → IsPlayedBy tree start p → IsPlayedBy tree start
    (player_of (second_plays tree root p e))
event_runs tree start root p (Acts a) f run =
    let q = process_of_act root a in
    plays_one tree start p (second_move_of q (Handles (ActInput a))
    (plain_answer (p.world.at q) (ActInput a)))
    p.delivered refl tt run
event_runs tree start root p (Delivers k) f run = delivers_one tree start p k (sent_as p.world.net k) refl run
event_runs tree start root p Settles f run = absurd (cc)
event_runs tree start root p (Restarts q k) f run =
    plays_one tree start p (second_move_of q (Restart k) no_answer) p.delivered refl tt run
event_runs tree start root p (Trims q) f run =
    plays_one tree start p (second_move_of q Trim no_answer) p.delivered refl tt run

on_runs : (tree : List TreeProcess) (start : World) (root : ProcessId) (d : Played) (e : Play)
    → is_single e ≡ true → IsPlayedBy tree start (player_of d)
    → IsPlayedBy tree start (player_of (second_plays_on tree root d e))
on_runs tree start root (Goes p) e f run = event_runs tree start root p e f run
on_runs tree start root (Stops x p) e f run = run

all_run : (tree : List TreeProcess) (start : World) (root : ProcessId) (d : Played) (es : List Play)
    → are_single es ≡ true → IsPlayedBy tree start (player_of d)
    → IsPlayedBy tree start (player_of (fold (second_plays_on tree root) d es))
all_run tree start root d [] f run = run
all_run tree start root d (e ∷ es) f run =
    let f2 = both (is_single e) (are_single es) f in
    all_run tree start root (second_plays_on tree root d e) es f2.1 (on_runs tree start root d e f2.0 run)

-- such moves lead on from their world
leads_on : (tree : List TreeProcess) (start : World) (es : List Made) (w : World) → GoesBy tree start es w
    → Continues tree start es w
leads_on tree start _ _ stays_by = stays
leads_on tree start _ _ (goes_by es w m e w' run second new made) =
    goes_on es w m e w' (leads_on tree start es w run)
    (stands_new w.net 0 m.step.process m.step.happening new) made

-- and from the opened world they are a run by the second version
from_opened : (tree : List TreeProcess) (es : List Made) (w : World) → GoesBy tree opened_world es w
    → IsRunBy tree Second 0 es w
from_opened tree _ _ stays_by = first_opens Second
from_opened tree _ _ (goes_by es w m e w' run second new made) =
    next Second 0 es w m e w' (from_opened tree es w run) second new made

pub continues_by : (tree : List TreeProcess) (start : World) (root : ProcessId) (ks : List ℕ) (es : List Play)
    → are_single es ≡ true
    → let p = player_of (fold (second_plays_on tree root)
    (Goes (record { world = start; moves = []; delivered = ks })) es) in
    Continues tree start p.moves p.world
continues_by tree start root ks es f =
    leads_on tree start _ _
    (all_run tree start root (Goes (record { world = start; moves = []; delivered = ks })) es f stays_by)

pub is_run_by : (tree : List TreeProcess) (root : ProcessId) (es : List Play) → are_single es ≡ true
    → IsRunBy tree Second 0 (player_of (second_plays_all tree root es)).moves
    (player_of (second_plays_all tree root es)).world
is_run_by tree root es f =
    from_opened tree _ _
    (all_run tree opened_world root (Goes (record { world = opened_world; moves = []; delivered = [] })) es f
    stays_by)
