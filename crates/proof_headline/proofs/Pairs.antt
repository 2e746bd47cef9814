-- The pairs of one world: the pair above a cascaded case, and the pairs below it.
use Rattle.std.proofs.Common.{◌≡◌, ◌∙◌, ◌&&◌, Bool, true, false, Option, Some, None, List, refl, sym, subst, arith}
use Rattle.protocol.specs.declared.names.Case.{Case}
use Rattle.protocol.specs.declared.names.Ticket.{Ticket}
use Rattle.protocol.specs.declared.names.Txn.{Txn}
use Rattle.protocol.specs.declared.messages.Envelope.{Envelope}
use Rattle.protocol.specs.declared.trees.TreeProcess.{TreeProcess}
use Rattle.protocol.specs.Names.{root_case, child_case, process_of}
use Rattle.protocol.specs.Records.{has, is_abort, is_commit}
use Rattle.protocol.specs.Nodes.{Role, AtRoot, Below, AtLeaf, Place, Node, place_of, role_of, is_leaf}
use Rattle.protocol.specs.Memory.{memory_of}
use Rattle.protocol.specs.Standings.{standing_of}
use Rattle.protocol.specs.Outcomes.{sent, is_joined_message, has_accepted, is_commit_outcome}
use Rattle.protocol.specs.Trees.{IsTree}
use Rattle.protocol.specs.World.{World}
use Rattle.proof_pairs.specs.Chain.{IsBelow}
use Rattle.proof_pairs.specs.Reading.{Reading}
use Rattle.proof_pairs.specs.readings.ReadingOf.{ChildHalf, ParentHalf, child_half, gives_case, is_born, is_participant, is_root_ticket, parent_half, reading_from, wire}
use Rattle.proof_processes.specs.Lasts.{Coordinates, RoleLasts, logs_of}
use Rattle.proof_processes.specs.WorldHolds.{IsPair, IsParentRole, PairHolds, RoleHolds, WorldHolds, has_begun, pair_reading, takes_part}
use Rattle.proof_processes.proofs.GivenCases.{joined_gives, sent_other}
use Rattle.proof_processes.proofs.PairOf.{is_free, is_pair}
use Rattle.proof_headline.proofs.Below.{is_below}
use Rattle.proof_processes.proofs.ChildOf.{half_as_child, no_branch}
use Rattle.proof_headline.proofs.Parts.{Standing, at_top, case_parts, part_of, standing_world}

-- the reading of a pair, with this outcome
abbrev pub reading_with : List TreeProcess → World → Bool → Case → Ticket → Reading
reading_with tree w o c t =
    reading_from (is_root_ticket c.ticket) (is_leaf (role_of tree t.child)) o (takes_part tree w c)
    (parent_half (place_of tree (process_of c)) (w.at (process_of c)) c t)
    (child_half (place_of tree t.child) (w.at t.child) (child_case c.txn t))
    (wire c t w.net)

-- a ticket that was given has a pair, with the invariant
pub joined_pair : (tree : List TreeProcess) (w : World) → WorldHolds tree w → (c : Case) (t : Ticket)
    → sent (is_joined_message c t) w.net ≡ true → IsPair tree c t × PairHolds tree w c t
joined_pair tree w h c t e =
    let pair = is_pair tree w.net c t h.net e in
    (pair, h.pairs c t pair (is_free w.net w.net c t (λ d f. f) h.joined_once e))

pub gives : (net : List Envelope) (c : Case) (t : Ticket) → sent (is_joined_message c t) net ≡ true
    → sent (gives_case (child_case c.txn t)) net ≡ true
gives net c t e = sent_other (is_joined_message c t) (gives_case (child_case c.txn t)) net
    (joined_gives c t) e

-- A cascaded coordinator.

cascaded_leaf : (role : Role) (u : Ticket) → IsParentRole role (Some u) → is_leaf role ≡ false
cascaded_leaf (Below p) u h = refl
cascaded_leaf AtRoot u h = absurd (h)
cascaded_leaf (AtLeaf p) u h = absurd (h)

cascaded_lasts : (role : Role) (n : Node) (u : Ticket) → IsParentRole role (Some u)
    → RoleLasts role (logs_of n)
    → Coordinates (logs_of n)
cascaded_lasts (Below p) n u h l = l
cascaded_lasts AtRoot n u h l = absurd (h)
cascaded_lasts (AtLeaf p) n u h l = absurd (h)

-- The root.

begun_at : (role : Role) (place : Place) (net : List Envelope) (n : Node) → IsParentRole role None
    → RoleHolds role place net n → (x : Txn) (t : Ticket) → has_accepted n (root_case x) t ≡ true
    → has_begun place n x ≡ true
begun_at AtRoot place net n r h x t e = (h.1.accepted_is_begun (root_case x) t e).1
begun_at (Below p) place net n r h x t e = absurd (r)
begun_at (AtLeaf p) place net n r h x t e = absurd (r)

module _ (tree : List TreeProcess) (is_tree : IsTree tree) (w : World) (h : Standing tree w) where
  pub begun : (x : Txn) (t : Ticket) → IsPair tree (root_case x) t
      → has_accepted (w.at x.root) (root_case x) t ≡ true
      → has_begun (place_of tree x.root) (w.at x.root) x ≡ true
  begun x t pair e = begun_at (role_of tree x.root) (place_of tree x.root) w.net (w.at x.root)
      pair.parent.role
      (h.nodes x.root pair.parent.listed).role x t e

  abbrev up_half : Case → Ticket → ParentHalf
  up_half c u = parent_half (place_of tree (process_of c)) (w.at (process_of c)) c u

  -- a ticket that was given takes part, where its case accepted it and takes part
  pub takes : (c : Case) (u : Ticket) → IsPair tree c u → sent (is_joined_message c u) w.net ≡ true
      → takes_part tree w (child_case c.txn u) ≡ (has_accepted (w.at (process_of c)) c u
      && is_participant (is_root_ticket c.ticket)
      (is_born (is_root_ticket c.ticket) (up_half c u).begun (sent (gives_case c) w.net))
      (takes_part tree w c))
  takes c u pair e = by_ticket c.ticket c refl pair e
    where
      only_begun : (a b p : Bool) → p ≡ true → (a ≡ true → b ≡ true) → (a && p) ≡ (a && b)
      only_begun a b p e f = grind arith

      by_ticket : (o : Option Ticket) (c : Case) → c.ticket ≡ o → IsPair tree c u
          → sent (is_joined_message c u) w.net ≡ true
          → takes_part tree w (child_case c.txn u) ≡ (has_accepted (w.at (process_of c)) c u
          && is_participant (is_root_ticket c.ticket)
          (is_born (is_root_ticket c.ticket) (up_half c u).begun (sent (gives_case c) w.net))
          (takes_part tree w c))
      by_ticket None c f pair e =
          subst (λ (d : Case). IsPair tree d u → sent (is_joined_message d u) w.net ≡ true
          → takes_part tree w (child_case d.txn u) ≡ (has_accepted (w.at (process_of d)) d u
          && is_participant (is_root_ticket d.ticket)
          (is_born (is_root_ticket d.ticket) (up_half d u).begun (sent (gives_case d) w.net))
          (takes_part tree w d)))
          (sym (case_parts c c.txn None refl f))
          (λ pair' e'. part_of tree w h is_tree (root_case c.txn) u e'
          ∙ only_begun (has_accepted (w.at c.txn.root) (root_case c.txn) u) _
          (takes_part tree w (root_case c.txn))
          (at_top tree w h is_tree c.txn) (begun c.txn u pair'))
          pair e
      by_ticket (Some v) c f pair e = part_of tree w h is_tree c u e ∙ rw f refl

  -- the two pairs speak of one case
  pub below_with : (o : Bool) (c : Case) (u t : Ticket) → IsPair tree c u
      → sent (is_joined_message c u) w.net ≡ true
      → IsPair tree (child_case c.txn u) t
      → IsBelow (reading_with tree w o c u) (reading_with tree w o (child_case c.txn u) t)
  below_with o c u t pair e next =
      let d = child_case c.txn u in
      let n = w.at u.child in
      let place = place_of tree u.child in
      let holds = h.nodes u.child next.parent.listed in
      let none = no_branch d n holds.lasts.nested
      (cascaded_lasts (role_of tree u.child) n u next.parent.role holds.lasts.by_role) in
      let k = child_half (place_of tree t.child) (w.at t.child) (child_case c.txn t) in
      let v0 = wire c u w.net in
      let v = wire d t w.net in
      let lower = reading_with tree w o d t in
      subst (λ (b : Bool). IsBelow (reading_from (is_root_ticket c.ticket) b o (takes_part tree w c)
      (up_half c u)
      (child_half place n d) v0) lower) (sym (cascaded_leaf (role_of tree u.child) u next.parent.role))
      (subst (λ (x : ChildHalf). IsBelow (reading_from (is_root_ticket c.ticket) false o (takes_part tree w
      c) (up_half c u)
      x v0) lower) (sym (half_as_child (standing_of place n d) (memory_of place n d) n d t none))
      (is_below (is_root_ticket c.ticket) (is_leaf (role_of tree t.child)) o (takes_part tree w c)
      (takes_part tree w d)
      (has (is_commit d) n.life) (has (is_abort d) n.forced) (up_half c u) (parent_half place n d t) k v0 v
      e (gives w.net c u e) refl (takes c u pair e)))

pub below : (tree : List TreeProcess) (w : World) → IsTree tree → WorldHolds tree w
    → (c : Case) (u t : Ticket)
    → IsPair tree c u → sent (is_joined_message c u) w.net ≡ true → IsPair tree (child_case c.txn u) t
    → IsBelow (pair_reading tree w c u) (pair_reading tree w (child_case c.txn u) t)
below tree w is_tree h c u t = below_with tree is_tree w (standing_world tree w h)
    (is_commit_outcome w c.txn) c u t
