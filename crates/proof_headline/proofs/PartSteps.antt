-- Who takes part after a step.
use Rattle.std.proofs.Common.{◌≡◌, ◌∙◌, inl, inr, Bool, true, false, Option, Some, None, List, ◌++◌, refl, sym, ap, subst}
use Rattle.protocol.specs.declared.names.Case.{Case}
use Rattle.protocol.specs.declared.names.ProcessId.{ProcessId}
use Rattle.protocol.specs.declared.names.Ticket.{Ticket}
use Rattle.protocol.specs.declared.names.Txn.{Txn}
use Rattle.protocol.specs.declared.messages.Envelope.{Envelope}
use Rattle.protocol.specs.declared.messages.Message.{Message}
use Rattle.protocol.specs.declared.trees.TreeProcess.{TreeProcess}
use Rattle.protocol.specs.Names.{child_case, process_of, root_case}
use Rattle.protocol.specs.NameLaws.{same_process_tells}
use Rattle.protocol.specs.Nodes.{Node, is_leaf, is_listed, opened_node, place_of, role_of}
use Rattle.protocol.specs.Outcomes.{TakesPart, at_root, below, has_accepted, is_commit_outcome, is_joined_message, is_read_message, is_yes_message, sent}
use Rattle.protocol.specs.Trees.{IsTree}
use Rattle.protocol.specs.World.{World}
use Rattle.proof_pairs.specs.Keeps.{FollowsReading}
use Rattle.proof_pairs.specs.Reading.{Reading}
use Rattle.proof_pairs.specs.readings.ReadingOf.{child_half, gives_case, is_root_ticket, parent_half, wire}
use Rattle.proof_processes.specs.WorldHolds.{InvariantOf, IsFree, IsPair, JoinedOnce, NodeHolds, WorldHolds, pair_reading, takes_part}
use Rattle.proof_processes.proofs.PairOf.{common_of, is_free, is_pair}
use Rattle.proof_headline.specs.ProcessLaws.{StepKeeps}
use Rattle.proof_headline.proofs.Grows.{free_before, go_on, joined_here, node_elsewhere, read_here, sent_then, yes_here}
use Rattle.proof_headline.proofs.Halves.{half_moves, half_reading, outcome_by, reading_so}
use Rattle.proof_processes.proofs.Levels.{parent_elsewhere}
use Rattle.proof_headline.proofs.Pairs.{begun, gives}
use Rattle.proof_headline.proofs.Parts.{Standing, accepts, at_top, case_parts, part_joined, standing_world, tells, told}
use Rattle.proof_headline.proofs.Stages.{accepting_is_undecided, not_accepted_is_silent, part_stage}

-- A step of one process, as the world sees it.
pub record OneStep (tree : List TreeProcess) (w : World) (q : ProcessId) (at : ProcessId
    → Node) (ls : List Envelope) : Type 0 where
  pub others : (p : ProcessId) → (p ≡ q → ⊥) → at p ≡ w.at p
  pub keeps : StepKeeps (place_of tree q) w.net ls (w.at q) (at q)
  pub unlisted : (p : ProcessId) → is_listed tree p ≡ false → at p ≡ opened_node
  pub joined_once : JoinedOnce (w.net ++ ls)
  pub accepts_still : (p : ProcessId) (c : Case) (t : Ticket) → has_accepted (w.at p) c t ≡ true
      → has_accepted (at p) c t ≡ true
  pub commits_still : (x : Txn) → is_commit_outcome w x ≡ true
      → is_commit_outcome (record { at = at; net = w.net ++ ls }) x ≡ true

pub not_true : (b : Bool) → (b ≡ true → ⊥) → b ≡ false
not_true true f = absurd (f refl)
not_true false f = refl

module _ (tree : List TreeProcess) (is_tree : IsTree tree) (w : World) (h : WorldHolds tree w)
    (q : ProcessId) (at : ProcessId → Node) (ls : List Envelope) (s : OneStep tree w q at ls) where
  abbrev later_world : World
  later_world = record { at = at; net = w.net ++ ls }

  abbrev now : Standing tree w
  now = standing_world tree w h

  node_then : (p : ProcessId) → is_listed tree p ≡ true → NodeHolds (place_of tree p) (w.net ++ ls) (at p)
  node_then p listed = elim (same_process_tells p q) [
    | inl same ↦ subst (λ (x : ProcessId). NodeHolds (place_of tree x) (w.net ++ ls) (at x)) (sym same.1)
        s.keeps.holds
    | inr other ↦ subst (λ (n : Node). NodeHolds (place_of tree p) (w.net ++ ls) n) (sym (s.others p other.1))
        (node_elsewhere (place_of tree p) w.net ls (w.at p)
        (λ d t e own. other.1 (sym own ∙ joined_here tree q ls s.keeps.sent_here s.keeps.go d t e)) (h.nodes
        p listed))
  ]

  pub then : Standing tree later_world
  then = record {
    nodes = node_then;
    unlisted = s.unlisted;
    net = go_on tree w.net ls h.net s.keeps.go;
    joined_once = s.joined_once;
  }

  -- Who took part still does.
  part_still : (x : Txn) (t : Ticket) → TakesPart w x t → TakesPart later_world x t
  part_still x _ (at_root t a) = at_root t (s.accepts_still x.root (root_case x) t a)
  part_still x _ (below u t up a) = below u t (part_still x u up)
      (s.accepts_still u.child (child_case x u) t a)

  takes_part_still : (c : Case) → takes_part tree w c ≡ true → takes_part tree later_world c ≡ true
  takes_part_still c e = by_ticket c.ticket refl
    where
      by_ticket : (o : Option Ticket) → c.ticket ≡ o → takes_part tree later_world c ≡ true
      by_ticket None f = ap (takes_part tree later_world) (case_parts c c.txn None refl f)
          ∙ at_top tree later_world then is_tree c.txn
      by_ticket (Some u) f =
          let same = case_parts c c.txn (Some u) refl f in
          ap (takes_part tree later_world) same ∙ tells tree later_world then is_tree c.txn u
          (part_still c.txn u (told tree w now is_tree c.txn u (sym (ap (takes_part tree w) same) ∙ e)))

  pub joined_then : (c : Case) (t : Ticket) → sent (is_joined_message c t) (w.net ++ ls) ≡ true
      → IsPair tree c t × IsFree (w.net ++ ls) c t
  joined_then c t e = (
    is_pair tree (w.net ++ ls) c t then.net e,
    is_free (w.net ++ ls) (w.net ++ ls) c t (λ d f. f)
        s.joined_once e,
  )

  abbrev pub halfway : Case → Ticket → Reading
  halfway c t = half_reading tree is_tree w h q at ls s.others s.keeps c t

  halves : (c : Case) (t : Ticket) → IsPair tree c t → IsFree (w.net ++ ls) c t
      → FollowsReading (InvariantOf c.txn.presumption) (pair_reading tree w c t) (halfway c t)
  halves c t pair free = half_moves tree is_tree w h q at ls s.others s.keeps c t pair free

  -- A case that takes part and accepts a ticket again: its transaction was undecided.
  module _ (c : Case) (t : Ticket) (accepted : has_accepted (at (process_of c)) c t ≡ true)
      (fresh : has_accepted (w.at (process_of c)) c t ≡ false) (part : takes_part tree w c ≡ true) where
    d : Case
    d = child_case c.txn t

    joined : sent (is_joined_message c t) (w.net ++ ls) ≡ true
    joined = (accepts tree later_world then (process_of c) c t accepted).1

    pair : IsPair tree c t
    pair = (joined_then c t joined).0

    -- the case is of the process that made the step
    here : process_of c ≡ q
    here = elim (same_process_tells (process_of c) q) [
      | inl same ↦ same.1
      | inr other ↦ absurd (let e = sym fresh ∙ (ap (λ (n : Node). has_accepted n c t) (sym (s.others
          (process_of c) other.1))
          ∙ accepted) in cc)
    ]

    silent_before : (sent (is_yes_message (child_case c.txn t)) w.net ≡ false)
        × (sent (is_read_message (child_case c.txn t)) w.net ≡ false)
    silent_before = not_accepted_is_silent (pair_reading tree w c t)
        (common_of c.txn.presumption (pair_reading tree w c t)
        (h.pairs c t pair (free_before w.net ls c t (joined_then c t joined).1))) fresh

    silent : (test : Message → Bool) → sent test w.net ≡ false → (sent test ls ≡ true → t.child ≡ q)
        → sent test (w.net ++ ls) ≡ false
    silent test e own = not_true (sent test (w.net ++ ls)) (λ f. elim (sent_then test w.net ls f) [
      | inl new ↦ parent_elsewhere tree is_tree t.child (process_of c) pair.listed pair.child
          (own new ∙ sym here)
      | inr old ↦ let y = sym e ∙ old in cc
    ])

    part_up : (halfway c t).took_part_up ≡ true
    part_up = by_ticket c.ticket refl
      where
        by_ticket : (o : Option Ticket) → c.ticket ≡ o → (halfway c t).took_part_up ≡ true
        by_ticket None f =
            let same = case_parts c c.txn None refl f in
            subst (λ (e : Case). IsPair tree e t → has_accepted (at (process_of e)) e t ≡ true
            → (halfway e t).took_part_up ≡ true) (sym same)
            (λ p a. begun tree is_tree later_world then c.txn t p a) pair accepted
        by_ticket (Some u) f =
            subst (λ (e : Case). takes_part tree w e ≡ true → (halfway e t).took_part_up ≡ true)
            (sym (case_parts c c.txn (Some u) refl f)) (λ e. e) part

    undecided_halfway : (halfway c t).outcome ≡ false
    undecided_halfway = accepting_is_undecided (halfway c t)
        (common_of c.txn.presumption (halfway c t) (halves c t pair (joined_then c t joined).1).invariant)
        accepted part_up
        (silent (is_yes_message (child_case c.txn t)) silent_before.0
        (yes_here tree q ls s.keeps.sent_here s.keeps.go (child_case c.txn t)))
        (silent (is_read_message (child_case c.txn t)) silent_before.1
        (read_here tree q ls s.keeps.sent_here s.keeps.go (child_case c.txn t)))

    pub was_undecided : is_commit_outcome w c.txn ≡ false
    was_undecided = by_ticket c.ticket undecided_halfway
      where
        by_ticket : (o : Option Ticket) → outcome_by o (is_commit_outcome later_world c.txn)
            (is_commit_outcome w c.txn) ≡ false
            → is_commit_outcome w c.txn ≡ false
        by_ticket None e = not_true (is_commit_outcome w c.txn)
            (λ f. let y = sym e ∙ s.commits_still c.txn f in cc)
        by_ticket (Some u) e = e

  -- So is the transaction of each case that takes part again.
  new_part : (x : Txn) (t : Ticket) → TakesPart later_world x t → takes_part tree w (child_case x t) ≡ false
      → is_commit_outcome w x ≡ false
  new_part x _ (at_root t a) e =
      was_undecided (root_case x) t a
      (not_true (has_accepted (w.at x.root) (root_case x) t)
      (λ f. let y = sym e ∙ tells tree w now is_tree x t (at_root t f) in cc))
      (at_top tree w now is_tree x)
  new_part x _ (below u t up a) e = by_part (takes_part tree w (child_case x u)) refl (new_part x u up)
    where
      by_part : (b : Bool) → takes_part tree w (child_case x u) ≡ b
          → (takes_part tree w (child_case x u) ≡ false → is_commit_outcome w x ≡ false)
          → is_commit_outcome w x ≡ false
      by_part false f g = g f
      by_part true f g = was_undecided (child_case x u) t a
          (not_true (has_accepted (w.at u.child) (child_case x u) t)
          (λ k. let y = sym e ∙ tells tree w now is_tree x t (below u t (told tree w now is_tree x u f) k)
          in cc)) f

  -- the reading after both stages
  abbrev pub parted : Case → Ticket → Reading
  parted c t = reading_so tree later_world
      (outcome_by c.ticket (is_commit_outcome later_world c.txn) (is_commit_outcome w c.txn))
      (takes_part tree later_world c) c t

  pub part_moves : (c : Case) (t : Ticket) → IsPair tree c t → IsFree (w.net ++ ls) c t
      → FollowsReading (InvariantOf c.txn.presumption) (halfway c t) (parted c t)
  part_moves c t pair free =
      part_stage c.txn.presumption (is_root_ticket c.ticket) (is_leaf (role_of tree t.child))
      (outcome_by c.ticket (is_commit_outcome later_world c.txn) (is_commit_outcome w c.txn))
      (takes_part tree w c) (takes_part tree later_world c)
      (parent_half (place_of tree (process_of c)) (at (process_of c)) c t)
      (child_half (place_of tree t.child) (at t.child) (child_case c.txn t)) (wire c t (w.net ++ ls))
      (halves c t pair free).invariant (takes_part_still c) (by_ticket c.ticket refl)
    where
      by_ticket : (o : Option Ticket) → c.ticket ≡ o → is_root_ticket c.ticket ≡ false
          → takes_part tree w c ≡ false
          → takes_part tree later_world c ≡ true
          → (outcome_by c.ticket (is_commit_outcome later_world c.txn) (is_commit_outcome w c.txn) ≡ false)
          × (sent (gives_case c) (w.net ++ ls) ≡ true)
      by_ticket None f root old new = absurd (let y = sym (ap is_root_ticket f) ∙ root in cc)
      by_ticket (Some u) f root old new =
          let same = case_parts c c.txn (Some u) refl f in
          let part = told tree later_world then is_tree c.txn u
          (sym (ap (takes_part tree later_world) same) ∙ new) in
          let j = part_joined tree later_world then c.txn u part in (
            ap (λ (o : Option Ticket). outcome_by o (is_commit_outcome later_world c.txn) (is_commit_outcome
                w c.txn)) f
                ∙ new_part c.txn u part (sym (ap (takes_part tree w) same) ∙ old),
            subst (λ (e : Case). sent (gives_case e) (w.net ++ ls) ≡ true)
                (ap (λ (x : Txn). child_case x u) j.1.0 ∙ sym same) (gives (w.net ++ ls) j.0 u j.1.1),
          )
