-- What is played by acts, deliveries, restarts and trims is a run.
use Rattle.std.proofs.Common.{◌≡◌, ◌∙◌, ap, ℕ, zero, suc, ◌-◌, Bool, true, false, ◌&&◌, Option, Some, None, List, [], ◌∷◌, refl, if◌then◌else◌, arith, fold, slice_get}
use Rattle.protocol.specs.Nodes.{is_listed, place_of}
use Rattle.protocol.specs.Plays.{Play, Acts, Delivers, Settles, Restarts, Trims, Player, Played, Goes, Stops, played, plays_move, plays, plays_on, plays_all, delivers, sent_as, move_of, plain_answer, process_of_act}
use Rattle.protocol.specs.World.{World, Made, opened_world, node_makes, world_makes, IsSent, MayHappen, Move, Stepped, Refuses, Makes, IsRun, opens, makes, Continues, stays, goes_on as steps_on}
use Rattle.protocol_words.specs.Variants.{ActInput, Handles, MessageInput}
use Rattle.protocol.specs.declared.events.StepError.TheVariants.{NoSuch}
use Rattle.protocol.specs.declared.messages.Envelope.{Envelope}
use Rattle.protocol.specs.declared.names.ProcessId.{ProcessId}
use Rattle.protocol.specs.declared.trees.TreeProcess.{TreeProcess}

-- where a played run has come
abbrev pub player_of : Played → Player
player_of (Goes p) = p
player_of (Stops e p) = p

-- no event was refused
abbrev pub goes_on : Played → Bool
goes_on (Goes p) = true
goes_on (Stops e p) = false

pub goes : (d : Played) → goes_on d ≡ true → d ≡ Goes (player_of d)
goes (Goes p) e = refl
goes (Stops x p) e = absurd (cc)

-- its moves lead from the world to its own
abbrev pub IsPlayed : List TreeProcess → World → Player → Type 0
IsPlayed tree start p = Continues tree start p.moves p.world

sent_stands : (net : List Envelope) (k : ℕ) (e : Envelope) → sent_as net k ≡ Some e
    → IsSent net e.to k e.message
sent_stands net zero e f = absurd (cc)
sent_stands net (suc j) e f =
    let less : suc j - 1 ≡ j = omega arith in
    record { sender = e.from; place = suc j - 1; stands = ap (slice_get net) less ∙ f }

makes_by : (tree : List TreeProcess) (start : World) (p : Player) (m : Move) (delivered : List ℕ) (b : Bool)
    (s : Stepped)
    → is_listed tree m.step.process ≡ b
    → node_makes (place_of tree m.step.process) (p.world.at m.step.process) m ≡ s
    → MayHappen p.world.net m.step.process m.step.happening → IsPlayed tree start p
    → IsPlayed tree start (player_of (if b then played p m delivered s else Stops NoSuch p))
unfolding world_makes
makes_by tree start p m delivered true (Makes e n) l made stands run =
    steps_on p.moves p.world m e _ run stands (rw (l, made) refl)
makes_by tree start p m delivered true (Refuses x) l made stands run = run
makes_by tree start p m delivered false s l made stands run = run

plays_one : (tree : List TreeProcess) (start : World) (p : Player) (m : Move) (delivered : List ℕ)
    → MayHappen p.world.net m.step.process m.step.happening → IsPlayed tree start p
    → IsPlayed tree start (player_of (plays_move tree p m delivered))
plays_one tree start p m delivered stands run =
    makes_by tree start p m delivered (is_listed tree m.step.process)
    (node_makes (place_of tree m.step.process) (p.world.at m.step.process) m) refl refl stands run

delivers_one : (tree : List TreeProcess) (start : World) (p : Player) (k : ℕ) (o : Option Envelope)
    → sent_as p.world.net k ≡ o
    → IsPlayed tree start p → IsPlayed tree start (player_of (delivers tree p k o))
delivers_one tree start p k None e run = run
delivers_one tree start p k (Some l) e run =
    plays_one tree start p
    (move_of l.to (Handles (MessageInput k l.message))
    (plain_answer (p.world.at l.to) (MessageInput k l.message)))
    (k ∷ p.delivered) (sent_stands p.world.net k l e) run

-- not the event that settles all
abbrev pub is_single : Play → Bool
is_single (Acts a) = true
is_single (Delivers k) = true
is_single (Restarts q k) = true
is_single (Trims q) = true
is_single Settles = false

abbrev pub are_single : List Play → Bool
are_single [] = true
are_single (e ∷ es) = is_single e && are_single es

both : (a b : Bool) → (a && b) ≡ true → (a ≡ true) × (b ≡ true)
both true true e = (refl, refl)
both true false e = absurd (cc)
both false b e = absurd (cc)

event_runs : (tree : List TreeProcess) (start : World) (root : ProcessId) (p : Player) (e : Play)
    → is_single e ≡ true
    → IsPlayed tree start p → IsPlayed tree start (player_of (plays tree root p e))
event_runs tree start root p (Acts a) f run =
    let q = process_of_act root a in
    plays_one tree start p (move_of q (Handles (ActInput a)) (plain_answer (p.world.at q) (ActInput a)))
    p.delivered tt run
event_runs tree start root p (Delivers k) f run = delivers_one tree start p k (sent_as p.world.net k) refl run
event_runs tree start root p Settles f run = absurd (cc)
event_runs tree start root p (Restarts q k) f run = plays_one tree start p _ p.delivered tt run
event_runs tree start root p (Trims q) f run = plays_one tree start p _ p.delivered tt run

on_runs : (tree : List TreeProcess) (start : World) (root : ProcessId) (d : Played) (e : Play)
    → is_single e ≡ true
    → IsPlayed tree start (player_of d) → IsPlayed tree start (player_of (plays_on tree root d e))
on_runs tree start root (Goes p) e f run = event_runs tree start root p e f run
on_runs tree start root (Stops x p) e f run = run

all_run : (tree : List TreeProcess) (start : World) (root : ProcessId) (d : Played) (es : List Play)
    → are_single es ≡ true
    → IsPlayed tree start (player_of d) → IsPlayed tree start (player_of (fold (plays_on tree root) d es))
all_run tree start root d [] f run = run
all_run tree start root d (e ∷ es) f run =
    let f2 = both (is_single e) (are_single es) f in
    all_run tree start root (plays_on tree root d e) es f2.1 (on_runs tree start root d e f2.0 run)

-- such events lead on from a world
pub continues : (tree : List TreeProcess) (start : World) (root : ProcessId) (ks : List ℕ) (es : List Play)
    → are_single es ≡ true
    → IsPlayed tree start (player_of (fold (plays_on tree root)
    (Goes (record { world = start; moves = []; delivered = ks })) es))
continues tree start root ks es f =
    all_run tree start root (Goes (record { world = start; moves = []; delivered = ks })) es f stays

-- what leads on from the opened world is a run
from_opened : (tree : List TreeProcess) (es : List Made) (w : World) → Continues tree opened_world es w
    → IsRun tree es w
from_opened tree _ _ stays = opens
from_opened tree _ _ (steps_on es w m e w' run stands made) =
    makes es w m e w' (from_opened tree es w run) stands made

-- such events are a run
pub is_run : (tree : List TreeProcess) (root : ProcessId) (es : List Play) → are_single es ≡ true
    → IsRun tree (player_of (plays_all tree root es)).moves (player_of (plays_all tree root es)).world
is_run tree root es f =
    from_opened tree (player_of (plays_all tree root es)).moves (player_of (plays_all tree root es)).world
    (continues tree opened_world root [] es f)
