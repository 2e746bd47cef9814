-- A step as its process's half of each pair: the outcome above the pair and who takes part stay as they were.
use Rattle.std.proofs.Common.{◌≡◌, ◌∙◌, inl, inr, Bool, Option, Some, None, List, ◌++◌, refl, sym, ap, subst}
use Rattle.protocol.specs.declared.names.Case.{Case}
use Rattle.protocol.specs.declared.names.ProcessId.{ProcessId}
use Rattle.protocol.specs.declared.names.Ticket.{Ticket}
use Rattle.protocol.specs.declared.names.Txn.{Txn}
use Rattle.protocol.specs.declared.messages.Envelope.{Envelope}
use Rattle.protocol.specs.declared.trees.TreeProcess.{TreeProcess}
use Rattle.protocol.specs.Names.{child_case, process_of}
use Rattle.protocol.specs.NameLaws.{same_process_tells}
use Rattle.protocol.specs.Records.{has, is_commit}
use Rattle.protocol.specs.Nodes.{Role, AtRoot, Below, AtLeaf, Node, is_leaf, place_of, role_of}
use Rattle.protocol.specs.Outcomes.{is_commit_outcome}
use Rattle.protocol.specs.Trees.{IsTree}
use Rattle.protocol.specs.World.{World}
use Rattle.proof_pairs.specs.Keeps.{FollowsReading}
use Rattle.proof_pairs.specs.Reading.{Reading}
use Rattle.proof_pairs.proofs.Later.{later-now}
use Rattle.proof_pairs.specs.readings.ReadingOf.{ChildHalf, ParentHalf, Wire, child_half, is_root_ticket, parent_half, reading_from, wire}
use Rattle.proof_pairs.proofs.readings.OtherSteps.{or_none}
use Rattle.proof_processes.specs.ProcessSteps.{outcome_in, seen_above, seen_below}
use Rattle.proof_processes.specs.WorldHolds.{InvariantOf, IsChildRole, IsFree, IsPair, IsParentRole, WorldHolds, pair_reading, takes_part}
use Rattle.proof_headline.specs.ProcessLaws.{StepKeeps}
use Rattle.proof_headline.proofs.Above.{above}
use Rattle.proof_headline.proofs.Grows.{free_before}
use Rattle.proof_processes.proofs.Levels.{parent_elsewhere}
use Rattle.proof_headline.proofs.Parts.{case_parts}

-- the reading of a pair, with this outcome, where this is who takes part above it
abbrev pub reading_so : List TreeProcess → World → Bool → Bool → Case → Ticket → Reading
reading_so tree w o part c t =
    reading_from (is_root_ticket c.ticket) (is_leaf (role_of tree t.child)) o part
    (parent_half (place_of tree (process_of c)) (w.at (process_of c)) c t)
    (child_half (place_of tree t.child) (w.at t.child) (child_case c.txn t))
    (wire c t w.net)

-- of the root's case the outcome after the step, of another the one before it
abbrev pub outcome_by : Option Ticket → Bool → Bool → Bool
outcome_by None new old = new
outcome_by (Some u) new old = old

outcome_same : (o : Option Ticket) (b : Bool) → outcome_by o b b ≡ b
outcome_same None b = refl
outcome_same (Some u) b = refl

root_outcome : (role : Role) (v : World) (x : Txn) (o : Bool) → IsParentRole role None
    → outcome_in role (v.at x.root) (record { txn = x; ticket = None }) o ≡ is_commit_outcome v x
unfolding is_commit_outcome
root_outcome AtRoot v x o r = refl
root_outcome (Below p) v x o r = absurd (r)
root_outcome (AtLeaf p) v x o r = absurd (r)

cascaded_outcome : (role : Role) (n : Node) (c : Case) (u : Ticket) (o : Bool) → IsParentRole role (Some u)
    → outcome_in role n c o ≡ o
cascaded_outcome (Below p) n c u o r = refl
cascaded_outcome AtRoot n c u o r = absurd (r)
cascaded_outcome (AtLeaf p) n c u o r = absurd (r)

module _ (tree : List TreeProcess) where
  -- what a pair's parent says of the outcome
  outcome_seen : (v : World) (c : Case) (old : Bool) → IsParentRole (role_of tree (process_of c)) c.ticket
      → outcome_in (role_of tree (process_of c)) (v.at (process_of c)) c old
      ≡ outcome_by c.ticket (is_commit_outcome v c.txn) old
  outcome_seen v c old r = by_ticket c.ticket refl r
    where
      by_ticket : (o : Option Ticket) → c.ticket ≡ o → IsParentRole (role_of tree (process_of c)) c.ticket
          → outcome_in (role_of tree (process_of c)) (v.at (process_of c)) c old
          ≡ outcome_by c.ticket (is_commit_outcome v c.txn) old
      by_ticket None f r =
          subst (λ (d : Case). IsParentRole (role_of tree (process_of d)) d.ticket
          → outcome_in (role_of tree (process_of d)) (v.at (process_of d)) d old
          ≡ outcome_by d.ticket (is_commit_outcome v d.txn) old) (sym (case_parts c c.txn None refl f))
          (root_outcome (role_of tree c.txn.root) v c.txn old) r
      by_ticket (Some u) f r =
          cascaded_outcome (role_of tree (process_of c)) (v.at (process_of c)) c u old
          (subst (λ (o : Option Ticket). IsParentRole (role_of tree (process_of c)) o) f r)
          ∙ sym (ap (λ (o : Option Ticket). outcome_by o (is_commit_outcome v c.txn) old) f)

  child_not_root : {A : Type 0} (q r p : ProcessId) → role_of tree r ≡ AtRoot
      → IsChildRole (role_of tree q) p → q ≡ r → A
  child_not_root q r p top child same =
      absurd (subst (λ (x : Role). IsChildRole x p) (ap (role_of tree) same ∙ top) child)

-- the step of one process: the others stay
module _ (tree : List TreeProcess) (is_tree : IsTree tree) (w : World) (h : WorldHolds tree w)
    (q : ProcessId) (at : ProcessId → Node) (ls : List Envelope)
    (others : (p : ProcessId) → (p ≡ q → ⊥) → at p ≡ w.at p)
    (keeps : StepKeeps (place_of tree q) w.net ls (w.at q) (at q)) where
  abbrev pub stepped : World
  stepped = record { at = at; net = w.net ++ ls }

  -- the reading after the process's own half of the step
  abbrev pub half_reading : Case → Ticket → Reading
  half_reading c t =
      reading_so tree stepped (outcome_by c.ticket (is_commit_outcome stepped c.txn)
      (is_commit_outcome w c.txn))
      (takes_part tree w c) c t

  abbrev Moves : Case → Ticket → Reading → Reading → Type 0
  Moves c t = FollowsReading (InvariantOf c.txn.presumption)

  moves_so : (c : Case) (t : Ticket) (a b a' b' : Reading) → a ≡ a' → b ≡ b' → Moves c t a b → Moves c t a' b'
  moves_so c t a b a' b' e f m =
      subst (λ (x : Reading). Moves c t x b') e (subst (λ (x : Reading). Moves c t a x) f m)

  keeps_at : (p : ProcessId) → p ≡ q → StepKeeps (place_of tree p) w.net ls (w.at p) (at p)
  keeps_at p same = subst (λ (x : ProcessId). StepKeeps (place_of tree x) w.net ls (w.at x) (at x))
      (sym same) keeps

  outcome_elsewhere : (x : Txn) → (x.root ≡ q → ⊥) → is_commit_outcome stepped x ≡ is_commit_outcome w x
  unfolding is_commit_outcome
  outcome_elsewhere x other = ap (λ (n : Node). has (is_commit (record { txn = x; ticket = None }))
      n.durable) (others x.root other)

  module _ (c : Case) (t : Ticket) (pair : IsPair tree c t) (free : IsFree (w.net ++ ls) c t) where
    abbrev x : Txn
    x = c.txn

    abbrev part : Bool
    part = takes_part tree w c

    abbrev leaf : Bool
    leaf = is_leaf (role_of tree t.child)

    abbrev root : Bool
    root = is_root_ticket c.ticket

    abbrev old_outcome : Bool
    old_outcome = is_commit_outcome w x

    abbrev new_outcome : Bool
    new_outcome = outcome_by c.ticket (is_commit_outcome stepped x) old_outcome

    abbrev up : Node → ParentHalf
    up n = parent_half (place_of tree (process_of c)) n c t

    abbrev down : Node → ChildHalf
    down n = child_half (place_of tree t.child) n (child_case x t)

    abbrev up_node : Node
    up_node = w.at (process_of c)

    abbrev down_node : Node
    down_node = w.at t.child

    before : InvariantOf x.presumption (pair_reading tree w c t)
    before = h.pairs c t pair (free_before w.net ls c t free)

    apart : {A : Type 0} → t.child ≡ process_of c → A
    apart same = parent_elsewhere tree is_tree t.child (process_of c) pair.listed pair.child same

    -- the parent's process makes the step
    at_parent : process_of c ≡ q → Moves c t (pair_reading tree w c t) (half_reading c t)
    at_parent same =
        let role = role_of tree (process_of c) in
        let seen : outcome_in role up_node c old_outcome
        ≡ old_outcome = outcome_seen tree w c old_outcome pair.parent.role
        ∙ outcome_same c.ticket old_outcome in
        let seen' : outcome_in role (at (process_of c)) c old_outcome ≡ new_outcome =
        outcome_seen tree stepped c old_outcome pair.parent.role in
        let child : at t.child ≡ down_node = others t.child (λ e. apart (e ∙ sym same)) in
        let old : seen_below (place_of tree (process_of c)) w.net up_node c t leaf old_outcome part
        (down down_node)
        ≡ pair_reading tree w c t = ap
        (λ (o : Bool). reading_from root leaf o part (up up_node) (down down_node)
        (wire c t w.net)) seen in
        let new : seen_below (place_of tree (process_of c)) (w.net ++ ls) (at (process_of c)) c t leaf
        old_outcome part
        (down down_node) ≡ half_reading c t =
        ap (λ (o : Bool). reading_from root leaf o part (up (at (process_of c))) (down down_node) (wire c t
        (w.net ++ ls)))
        seen' ∙ ap (λ (n : Node). reading_from root leaf new_outcome part (up (at (process_of c))) (down n)
        (wire c t (w.net ++ ls))) (sym child) in
        moves_so c t _ _ _ _ old new ((keeps_at (process_of c) same).pairs_below.follows c t pair refl free
        leaf old_outcome
        part (down down_node) (above tree is_tree w h c t pair)
        (subst (InvariantOf x.presumption) (sym old) before))

    outcome_stays : (process_of c ≡ q → ⊥) → new_outcome ≡ old_outcome
    outcome_stays other = by_ticket c.ticket refl
      where
        by_ticket : (o : Option Ticket) → c.ticket ≡ o → new_outcome ≡ old_outcome
        by_ticket None f =
            ap (λ (o : Option Ticket). outcome_by o (is_commit_outcome stepped x) old_outcome) f
            ∙ outcome_elsewhere x (λ e. other (ap process_of (case_parts c x None refl f) ∙ e))
        by_ticket (Some u) f = ap (λ (o : Option Ticket). outcome_by o (is_commit_outcome stepped x)
            old_outcome) f

    -- the child's process makes it
    at_child : t.child ≡ q → Moves c t (pair_reading tree w c t) (half_reading c t)
    at_child same =
        let other : process_of c ≡ q → ⊥ = λ e. apart (same ∙ sym e) in
        let new : seen_above (place_of tree t.child) (w.net ++ ls) (at t.child) c t old_outcome part
        (up up_node)
        ≡ half_reading c t =
        ap (λ (o : Bool). reading_from root leaf o part (up up_node) (down (at t.child))
        (wire c t (w.net ++ ls)))
        (sym (outcome_stays other))
        ∙ ap (λ (n : Node). reading_from root leaf new_outcome part (up n) (down (at t.child)) (wire c t
        (w.net ++ ls)))
        (sym (others (process_of c) other)) in
        moves_so c t _ _ _ _ refl new
        ((keeps_at t.child same).pairs_above.follows c t pair refl free old_outcome part (up up_node) before)

    -- another process makes it
    at_neither : (process_of c ≡ q → ⊥) → (t.child ≡ q → ⊥)
        → Moves c t (pair_reading tree w c t) (half_reading c t)
    at_neither parent child =
        let quiet : wire c t (w.net ++ ls) ≡ wire c t w.net = or_none (wire c t w.net) ls c t w.net
        (keeps.pairs_elsewhere.quiet c t pair parent child) in
        let same : pair_reading tree w c t ≡ half_reading c t =
        ap (λ (o : Bool). reading_from root leaf o part (up up_node) (down down_node) (wire c t w.net))
        (sym (outcome_stays parent))
        ∙ (ap (λ (v : Wire). reading_from root leaf new_outcome part (up up_node) (down down_node) v)
        (sym quiet)
        ∙ (ap (λ (n : Node). reading_from root leaf new_outcome part (up n) (down down_node)
        (wire c t (w.net ++ ls)))
        (sym (others (process_of c) parent))
        ∙ ap (λ (n : Node). reading_from root leaf new_outcome part (up (at (process_of c))) (down n)
        (wire c t (w.net ++ ls))) (sym (others t.child child)))) in
        subst (λ (y : Reading). Moves c t (pair_reading tree w c t) y) same
        (record { invariant = before; later = later-now (pair_reading tree w c t) })

    pub half_moves : Moves c t (pair_reading tree w c t) (half_reading c t)
    half_moves = elim (same_process_tells (process_of c) q) [
      | inl same ↦ at_parent same.1
      | inr other ↦ elim (same_process_tells t.child q) [
        | inl same ↦ at_child same.1
        | inr apart ↦ at_neither other.1 apart.1
      ]
    ]
