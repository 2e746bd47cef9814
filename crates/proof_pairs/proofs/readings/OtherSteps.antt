-- Steps that leave a reading, or only force what stands of its ticket.
use Rattle.std.proofs.Common.{◌≡◌, ◌∙◌, ℕ, if◌then◌else◌, ap, sym, subst, Bool, true, false, Some, None, List, [], ◌∷◌, ◌++◌, refl, ◌||◌, arith}
use Rattle.protocol.specs.declared.names.Case.{Case}
use Rattle.protocol.specs.declared.names.ProcessId.{ProcessId}
use Rattle.protocol.specs.declared.names.Ticket.{Ticket}
use Rattle.protocol.specs.declared.messages.Envelope.{Envelope}
use Rattle.protocol.specs.declared.messages.Message.TheVariants.{Prepare, Yes}
use Rattle.protocol_words.specs.Variants.{CaseBranch, MessageInput, PreparedRecord}
use Rattle.protocol.specs.declared.records.Write.{Write}
use Rattle.protocol.specs.declared.standings.Standing.{Standing}
use Rattle.protocol.specs.declared.trees.TreeProcess.{TreeProcess}
use Rattle.protocol.specs.Names.{same_case, child_case, process_of}
use Rattle.protocol.specs.Records.{same_branch}
use Rattle.protocol.specs.Nodes.{First, Place, Role, AtLeaf, Node, kept, Heard, Holds, Effect, after, is_listed, is_leaf, role_of, place_of}
use Rattle.protocol.specs.Memory.{Memory, Phase, Idle, Open, Asked, Over, memory_of}
use Rattle.protocol.specs.CoordinatorRows.{forced, post}
use Rattle.protocol.specs.ManagerRows.{active_prepare_holding}
use Rattle.protocol.specs.Reactions.{manager_hears, leaf_effect, leaf_of}
use Rattle.protocol.specs.Standings.{Mark, Unmarked, Promised, Decided, ToldOf, Finished, manager_view, mark_of, marked_branch, heard_branch}
use Rattle.protocol.specs.Outcomes.{is_commit_outcome}
use Rattle.protocol.specs.World.{World, Move, Stepped, Makes, Refuses, world_makes, world_stepped, node_makes}
use Rattle.proof_pairs.specs.ChildMoves
use Rattle.proof_pairs.specs.readings.ReadingOf.{reading_of, reading_from, is_root_ticket, parent_half, child_half, child_half_at, wire, no_wire, ParentHalf, ChildHalf, Wire}
use Rattle.proof_pairs.specs.readings.Halves.{hardened}
use Rattle.proof_pairs.specs.readings.Steps.{made_at, IsElsewhere}
use Rattle.proof_pairs.specs.readings.StepLaws.{IsReady, OthersLeave, ManagerVotesElsewhere}
use Rattle.proof_pairs.proofs.readings.Lists.{has-push, has-nil, has-cons, has-history, mark_of-push, sent-push, sent-append}
use Rattle.proof_pairs.proofs.readings.Memories.{memory_of-forced}
use Rattle.proof_pairs.proofs.readings.Delivered.{delivered_as}
use Rattle.proof_pairs.proofs.readings.LeafRows.{moved}
use Rattle.proof_pairs.proofs.readings.ReadingSteps.{at_child, before, outcome_elsewhere}
use Rattle.proof_pairs.proofs.readings.StepLaws.{effect_yes}

-- A step of another process.

pair_same : {A B : Type 0} (d p q : A × B) → Some p ≡ Some q → p ≡ q
pair_same d p q h = cc

stepped_at : (b : Bool) (w : World) (q : ProcessId) (s : Stepped) (e : Effect) (w' : World)
    → (if b then world_stepped w q s else None) ≡ Some (e, w')
    → (n : Node) × (w' ≡ made_at w q n e)
stepped_at true w q (Refuses r) e w' h = absurd (cc)
stepped_at true w q (Makes f n) e w' h =
    let both : (f, made_at w q n f) ≡ (e, w') = pair_same (e, w') (f, made_at w q n f) (e, w') h in (
      n,
      sym (ap (λ (x : Effect × World). x.1) both)
          ∙ ap (λ (x : Effect). made_at w q n x) (ap (λ (x : Effect × World). x.0) both),
    )
stepped_at false w q s e w' h = absurd (cc)

made_somehow : (tree : List TreeProcess) (w : World) (m : Move) (e : Effect) (w' : World)
    → world_makes tree w m ≡ Some (e, w')
    → (n : Node) × (w' ≡ made_at w m.step.process n e)
unfolding world_makes
made_somehow tree w m e w' h = stepped_at (is_listed tree m.step.process) w m.step.process
    (node_makes (place_of tree m.step.process) (w.at m.step.process) m) e w' h

-- a list with no message of the pair leaves the wire
pub or_none : (v : Wire) (ls : List Envelope) (c : Case) (t : Ticket) (net : List Envelope)
    → wire c t ls ≡ no_wire → wire c t (net ++ ls) ≡ wire c t net
or_none v ls c t net e =
    simp (
      sent-append,
      ap (λ (x : Wire). x.issued) e,
      ap (λ (x : Wire). x.given) e,
      ap
          (λ (x : Wire). x.read_up) e,
      ap (λ (x : Wire). x.prepare) e,
      ap (λ (x : Wire). x.yes) e,
      ap (λ (x : Wire). x.no) e,
      ap (λ (x : Wire). x.read) e,
      ap (λ (x : Wire). x.commit) e,
      ap
          (λ (x : Wire). x.abort) e,
      ap (λ (x : Wire). x.ack) e,
      ap (λ (x : Wire). x.inquire) e,
    )

elsewhere : (tree : List TreeProcess) (w : World) (above : Bool) (c : Case) (t : Ticket) (q : ProcessId)
    (n : Node) (e : Effect) → IsElsewhere q c t → wire c t e.messages ≡ no_wire
    → reading_of tree (made_at w q n e) above c t ≡ reading_of tree w above c t
elsewhere tree w above c t q n e out quiet =
    rw (outcome_elsewhere w q n e c.txn out.not_root, out.not_parent, out.not_child)
    (ap (λ (v : Wire). reading_from (is_root_ticket c.ticket) (is_leaf (role_of tree t.child))
    (is_commit_outcome w c.txn) above
    (parent_half (place_of tree (process_of c)) (w.at (process_of c)) c t)
    (child_half (place_of tree t.child) (w.at t.child) (child_case c.txn t)) v)
    (or_none (wire c t w.net) e.messages c t w.net quiet))

pub others_leave : OthersLeave
others_leave tree w w' above c t m e out quiet made =
    let left = made_somehow tree w m e w' made in
    ap (λ (x : World). reading_of tree x above c t) left.1
    ∙ elsewhere tree w above c t m.step.process left.0 e out quiet

-- Another case of the same manager.

or_twice : (a b : Bool) → (a || (a || b)) ≡ (a || b)
or_twice a b = grind arith

half_hardened : (s : Standing) (k : Node) (h : Heard) (e : Effect) (d o : Case) (ws : List Write)
    → same_case o d ≡ false → e.written ≡ forced (PreparedRecord (CaseBranch o) ws)
    → child_half_at s (after k h e) d ≡ hardened (child_half_at s k d)
half_hardened s k h e d o ws other one = rw one
    (simp (has-push, has-nil, has-cons, has-history, other, or_twice))

branch_other : (o d : Case) → same_case o d ≡ false → same_branch (CaseBranch o) (CaseBranch d) ≡ false
unfolding same_branch
branch_other o d e = e

mark_other : (k : Node) (h : Heard) (e : Effect) (d o : Case) (ws : List Write) → same_case o d ≡ false
    → e.written ≡ forced (PreparedRecord (CaseBranch o) ws)
    → mark_of (CaseBranch d) (kept (after k h e)) ≡ mark_of (CaseBranch d) (kept k)
mark_other k h e d o ws other one = rw one (simp (mark_of-push, branch_other o d other))

memory_other : (me p : ProcessId) (tree : List TreeProcess) (k : Node) (h : Heard) (e : Effect) (d o : Case)
    (i n : ℕ) (ws : List Write) → same_case o d ≡ false → h.input ≡ MessageInput i (Prepare o n)
    → e.written ≡ forced (PreparedRecord (CaseBranch o) ws)
    → (memory_of (record { me = me; role = AtLeaf p; tree = tree }) (after k h e) d).phase ≡
    (memory_of (record { me = me; role = AtLeaf p; tree = tree }) k d).phase
memory_other me p tree k h e d o i n ws other input one =
    ap (λ (m : Memory). m.phase) (memory_of-forced (record { me = me; role = AtLeaf p; tree = tree }) k h e
    d (PreparedRecord (CaseBranch o) ws) one (λ b. refl))
    ∙ rw (input, other)

heard_standing : (m m' : Memory) (f : Phase) → (heard_branch m' f).standing ≡ (heard_branch m f).standing
heard_standing m m' Idle = refl
heard_standing m m' Open = refl
heard_standing m m' Asked = refl
heard_standing m m' Over = refl

marked_standing : (m m' : Memory) (k : Mark) → m'.phase ≡ m.phase
    → (marked_branch m' k).standing ≡ (marked_branch m k).standing
marked_standing m m' Unmarked e = ap (λ (f : Phase). (heard_branch m' f).standing) e
    ∙ heard_standing m m' m.phase
marked_standing m m' Promised e = refl
marked_standing m m' Decided e = refl
marked_standing m m' (ToldOf o) e = refl
marked_standing m m' Finished e = refl

view_other : (place : Place) (k k' : Node) (d : Case)
    → (memory_of place k' d).phase ≡ (memory_of place k d).phase
    → mark_of (CaseBranch d) (kept k') ≡ mark_of (CaseBranch d) (kept k)
    → (manager_view place k' d).standing ≡ (manager_view place k d).standing
unfolding manager_view
view_other place k k' d e f =
    ap (λ (x : Mark). (marked_branch (memory_of place k' d) x).standing) f
    ∙ marked_standing (memory_of place k d) (memory_of place k' d) (mark_of (CaseBranch d) (kept k)) e

leaf_hardened : (me p : ProcessId) (tree : List TreeProcess) (k : Node) (h : Heard) (e : Effect) (d o : Case)
    (i n : ℕ) (ws : List Write) → same_case o d ≡ false → h.input ≡ MessageInput i (Prepare o n)
    → e.written ≡ forced (PreparedRecord (CaseBranch o) ws)
    → child_half (record { me = me; role = AtLeaf p; tree = tree }) (after k h e) d ≡ hardened
    (child_half (record { me = me; role = AtLeaf p; tree = tree }) k d)
leaf_hardened me p tree k h e d o i n ws other input one =
    let place : Place = record { me = me; role = AtLeaf p; tree = tree } in
    ap (λ (s : Standing). child_half_at s (after k h e) d)
    (view_other place k (after k h e) d (memory_other me p tree k h e d o i n ws other input one)
    (mark_other k h e d o ws other one))
    ∙ half_hardened (manager_view place k d).standing k h e d o ws other one

wire-other_yes : (c o : Case) (t : Ticket) (q p : ProcessId) (net : List Envelope)
    → same_case o (child_case c.txn t) ≡ false
    → wire c t (net ++ post q p (Yes o) ∷ []) ≡ wire c t net
wire-other_yes c o t q p net e = simp (sent-push, e)

reading-hardened : (root outcome above : Bool) (p : ParentHalf) (k : ChildHalf) (v : Wire)
    → reading_from root true outcome above p (hardened k) v ≡ ChildMoves.hardens_child
    (reading_from root true outcome above p k v)
reading-hardened root outcome above p k v = simp (or_twice)

pub manager_votes_elsewhere : ManagerVotesElsewhere
manager_votes_elsewhere tree w w' above c t p o i n a ws e pair other ready made =
    let place : Place = record { me = t.child; role = AtLeaf p; tree = tree } in
    let k = w.at t.child in
    let d = child_case c.txn t in
    let h : Heard = record { input = MessageInput i (Prepare o n); data_answer = a; version = First } in
    let both = delivered_as tree w t.child (AtLeaf p) i (Prepare o n) a e w' pair.leaf made refl in
    let ready' : IsReady (manager_view place k o) n a ws = subst
    (λ (r : Role). IsReady (manager_view (record { me = t.child; role = r; tree = tree }) k o) n a ws)
    pair.leaf ready in
    let done = manager_hears First place p k a (Prepare o n) in
    let same : done ≡ leaf_effect (active_prepare_holding (leaf_of place p o) (Holds ws)) = effect_yes
    place p k a o n ws ready' in
    ap (λ (x : World). reading_of tree x above c t) both.1
    ∙ (at_child tree w above c t p pair (after k h done) done
    ∙ (moved (is_root_ticket c.ticket) (is_commit_outcome w c.txn) above
    (parent_half (place_of tree (process_of c)) (w.at (process_of c)) c t) _ _ _ _
    (leaf_hardened t.child p tree k h done d o i n ws other refl (ap (λ (x : Effect). x.written) same))
    (ap (λ ls. wire c t (w.net ++ ls)) (ap (λ (x : Effect). x.messages) same)
    ∙ wire-other_yes c o t t.child p w.net other)
    ∙ (reading-hardened (is_root_ticket c.ticket) (is_commit_outcome w c.txn) above
    (parent_half (place_of tree (process_of c)) (w.at (process_of c)) c t) (child_half place k d)
    (wire c t w.net)
    ∙ ap ChildMoves.hardens_child (before tree w above c t p pair))))
