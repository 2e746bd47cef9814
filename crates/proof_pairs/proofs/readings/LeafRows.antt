-- A manager's rows move the reading of its ticket.
use Rattle.std.proofs.Common.{◌≡◌, ◌∙◌, Bool, true, false, ◌&&◌, List, [], ◌∷◌, ◌++◌, refl, ap, arith}
use Rattle.protocol.specs.declared.names.Case.{Case}
use Rattle.protocol.specs.declared.names.ProcessId.{ProcessId}
use Rattle.protocol.specs.declared.names.Ticket.{Ticket}
use Rattle.protocol.specs.declared.messages.Envelope.{Envelope}
use Rattle.protocol.specs.declared.messages.Message.TheVariants.{Yes}
use Rattle.protocol_words.specs.Variants.{ActiveStanding, CaseBranch, PreparedRecord}
use Rattle.protocol.specs.declared.records.Write.{Write}
use Rattle.protocol.specs.declared.standings.Standing.{Standing}
use Rattle.protocol.specs.declared.trees.TreeProcess.{TreeProcess}
use Rattle.protocol.specs.Names.{child_case, process_of}
use Rattle.protocol.specs.NameLaws.{same_case-refl}
use Rattle.protocol.specs.Nodes.{AtLeaf, Place, place_of, Heard, Effect, after}
use Rattle.protocol.specs.CoordinatorRows.{forced, post}
use Rattle.protocol.specs.Standings.{manager_view}
use Rattle.protocol.specs.Outcomes.{is_commit_outcome}
use Rattle.protocol.specs.World.{World}
use Rattle.proof_pairs.specs.Reading.{is_live}
use Rattle.proof_pairs.specs.ChildMoves
use Rattle.proof_pairs.specs.readings.ReadingOf.{reading_of, reading_from, is_root_ticket, parent_half, child_half, wire, ParentHalf, ChildHalf, Wire, is_dead, phase_by}
use Rattle.proof_pairs.specs.readings.Halves.{promised}
use Rattle.proof_pairs.specs.readings.Steps.{handled, IsLeafPair}
use Rattle.proof_pairs.proofs.readings.Lists.{sent-push}
use Rattle.proof_pairs.proofs.readings.LeafHalves.{leaf_promised}
use Rattle.proof_pairs.proofs.readings.ReadingSteps.{at_child, before}

pub and-false : (a : Bool) → (a && false) ≡ false
and-false a = grind arith

pub dead-live : (a b c : Bool) → is_dead a true b c ≡ false
unfolding is_dead
dead-live true b c = refl
dead-live false b c = refl

pub dead-promised : (a b c : Bool) → is_dead true a b c ≡ false
unfolding is_dead
dead-promised a b c = refl

pub open_by : (f : Bool) (s : Standing) → f ≡ false → s ≡ ActiveStanding → is_live (phase_by f s) ≡ true
open_by f s e1 e2 = rw (e1, e2)

-- The net.

wire-yes : (c : Case) (t : Ticket) (q p : ProcessId) (net : List Envelope)
    → wire c t (net ++ post q p (Yes (child_case c.txn t)) ∷ []) ≡ record (wire c t net) { yes = true }
wire-yes c t q p net = simp (sent-push, same_case-refl)

-- The reading.

reading-promised : (root outcome above : Bool) (p : ParentHalf) (k : ChildHalf) (v : Wire) → k.is_open ≡ true
    → reading_from root true outcome above p (promised k) (record v { yes = true }) ≡ ChildMoves.votes_yes
    (ChildMoves.hardens_child (reading_from root true outcome above p k v))
reading-promised root outcome above p k v e = rw e (simp (and-false, dead-live, dead-promised))

-- the child's half and the net were moved
pub moved : (root outcome above : Bool) (p : ParentHalf) (k k' : ChildHalf) (v v' : Wire) → k ≡ k' → v ≡ v'
    → reading_from root true outcome above p k v ≡ reading_from root true outcome above p k' v'
moved root outcome above p k k' v v' e f =
    ap (λ a. reading_from root true outcome above p a v) e
    ∙ ap (λ a. reading_from root true outcome above p k' a) f

pub row_yes : (tree : List TreeProcess) (w : World) (above : Bool) (c : Case) (t : Ticket) (p : ProcessId)
    → IsLeafPair tree c t p → (h : Heard) (e : Effect) (ws : List Write)
    → e.written ≡ forced (PreparedRecord (CaseBranch (child_case c.txn t)) ws)
    → e.messages ≡ post t.child p (Yes (child_case c.txn t)) ∷ []
    → (w.at t.child).failed ≡ false
    → (manager_view (record { me = t.child; role = AtLeaf p; tree = tree }) (w.at t.child)
    (child_case c.txn t)).standing ≡ ActiveStanding
    → reading_of tree (handled w t.child h e) above c t ≡ ChildMoves.votes_yes
    (ChildMoves.hardens_child (reading_of tree w above c t))
row_yes tree w above c t p pair h e ws one two up stands =
    let place : Place = record { me = t.child; role = AtLeaf p; tree = tree } in
    let d = child_case c.txn t in
    at_child tree w above c t p pair (after (w.at t.child) h e) e
    ∙ (moved (is_root_ticket c.ticket) (is_commit_outcome w c.txn) above
    (parent_half (place_of tree (process_of c)) (w.at (process_of c)) c t) _ _ _ _
    (leaf_promised t.child p tree (w.at t.child) h e d ws one up) (ap (λ ls. wire c t (w.net
    ++ ls)) two ∙ wire-yes c t t.child p w.net)
    ∙ (reading-promised (is_root_ticket c.ticket) (is_commit_outcome w c.txn) above
    (parent_half (place_of tree (process_of c)) (w.at (process_of c)) c t)
    (child_half place (w.at t.child) d) (wire c t w.net) (open_by _ _ up stands)
    ∙ ap (λ r. ChildMoves.votes_yes (ChildMoves.hardens_child r)) (before tree w above c t p pair)))
