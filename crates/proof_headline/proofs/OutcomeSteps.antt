-- The outcome after a step: where the root commits, each case that takes part has consented.
use Rattle.std.proofs.Common.{◌≡◌, ◌∙◌, ◌⊎◌, inl, inr, true, false, Option, Some, None, List, ◌++◌, refl, sym, subst}
use Rattle.protocol.specs.declared.names.Case.{Case}
use Rattle.protocol.specs.declared.names.ProcessId.{ProcessId}
use Rattle.protocol.specs.declared.names.Ticket.{Ticket}
use Rattle.protocol.specs.declared.names.Txn.{Txn}
use Rattle.protocol.specs.declared.messages.Envelope.{Envelope}
use Rattle.protocol.specs.declared.trees.TreeProcess.{TreeProcess}
use Rattle.protocol.specs.Names.{child_case, process_of, root_case}
use Rattle.protocol.specs.Nodes.{Node, is_leaf, place_of, role_of}
use Rattle.protocol.specs.Outcomes.{TakesPart, at_root, below, has_accepted, is_commit_outcome, is_joined_message, sent}
use Rattle.protocol.specs.Trees.{IsTree}
use Rattle.protocol.specs.World.{World}
use Rattle.proof_pairs.specs.Invariant.{Common}
use Rattle.proof_pairs.specs.Keeps.{FollowsReading}
use Rattle.proof_pairs.specs.Reading.{Reading}
use Rattle.proof_pairs.specs.Standing.{Consents}
use Rattle.proof_pairs.proofs.Chain.{consented, down}
use Rattle.proof_pairs.specs.readings.ReadingOf.{child_half, parent_half, wire}
use Rattle.proof_processes.specs.WorldHolds.{InvariantOf, IsFree, IsPair, WorldHolds, pair_reading, takes_part}
use Rattle.proof_processes.proofs.PairOf.{common_of}
use Rattle.proof_headline.proofs.Halves.{half_moves}
use Rattle.proof_headline.proofs.Pairs.{begun, below_with}
use Rattle.proof_headline.proofs.Parts.{accepts, case_parts, tells, told}
use Rattle.proof_headline.proofs.PartSteps.{OneStep, halfway, joined_then, part_moves, parted, then}
use Rattle.proof_headline.proofs.Stages.{onward, outcome_stage, stays}

module _ (tree : List TreeProcess) (is_tree : IsTree tree) (w : World) (h : WorldHolds tree w)
    (q : ProcessId) (at : ProcessId → Node) (ls : List Envelope) (s : OneStep tree w q at ls) where
  abbrev later_world : World
  later_world = record { at = at; net = w.net ++ ls }

  abbrev behind_parts : Case → Ticket → Reading
  behind_parts c t = parted tree is_tree w h q at ls s c t

  abbrev halfway_there : Case → Ticket → Reading
  halfway_there c t = halfway tree is_tree w h q at ls s c t

  two_stages : (c : Case) (t : Ticket) → IsPair tree c t → IsFree (w.net ++ ls) c t
      → FollowsReading (InvariantOf c.txn.presumption) (pair_reading tree w c t) (behind_parts c t)
  two_stages c t pair free =
      onward c.txn.presumption (pair_reading tree w c t) (halfway_there c t) (behind_parts c t)
      (half_moves tree is_tree w h q at ls s.others s.keeps c t pair free)
      (part_moves tree is_tree w h q at ls s c t pair free)

  common_then : (c : Case) (t : Ticket) → sent (is_joined_message c t) (w.net ++ ls) ≡ true
      → Common (behind_parts c t)
  common_then c t e =
      let j = joined_then tree is_tree w h q at ls s c t e in
      common_of c.txn.presumption (behind_parts c t) (two_stages c t j.0 j.1).invariant

  -- the ticket has consented and has not refused
  abbrev Agrees : Case → Ticket → Type 0
  Agrees c t = ((behind_parts c t).child_refused ≡ false)
      × (((behind_parts c t).prepared_ever ≡ true) ⊎ ((behind_parts c t).sent_read ≡ true))

  joined_by : (c : Case) (t : Ticket) → has_accepted (at (process_of c)) c t ≡ true
      → sent (is_joined_message c t) (w.net ++ ls) ≡ true
  joined_by c t a = (accepts tree later_world (then tree is_tree w h q at ls s) (process_of c) c t a).1

  -- a ticket that the root's committed case accepted
  root_agrees : (x : Txn) (t : Ticket) → is_commit_outcome later_world x ≡ true
      → has_accepted (at x.root) (root_case x) t ≡ true → Agrees (root_case x) t
  root_agrees x t committed a =
      let c = root_case x in
      let joined = joined_by c t a in
      let r = behind_parts c t in
      let k = common_then c t joined in
      let up = begun tree is_tree later_world (then tree is_tree w h q at ls s) x t
      (joined_then tree is_tree w h q at ls s c t joined).0 a in
      let f = consented r k committed up in
      down r k f.0 f.1 (λ e. committed) up a

  never_root : (r : Reading) → r.parent_is_root ≡ false → r.parent_is_root ≡ true → r.outcome ≡ true
  never_root r e f = absurd (let y = sym e ∙ f in cc)

  -- the case of a ticket that consented has consented
  case_consents : (c : Case) (u t : Ticket) → sent (is_joined_message c u) (w.net ++ ls) ≡ true
      → IsPair tree (child_case c.txn u) t → Agrees c u
      → ((behind_parts (child_case c.txn u) t).refused ≡ false)
      × Consents (behind_parts (child_case c.txn u) t)
  case_consents c u t joined next f =
      let b = below_with tree is_tree later_world (then tree is_tree w h q at ls s) false c u t
      (joined_then tree is_tree w h q at ls s c u joined).0 joined next in (
        b.refused ∙ f.0,
        elim f.1 [
          | inl promised ↦ inr (inl (b.promise_ever ∙ promised))
          | inr read ↦ inr (inr (b.read ∙ read))
        ],
      )

  -- and so has a ticket that it accepted
  next_agrees : (c : Case) (u t : Ticket) → sent (is_joined_message c u) (w.net ++ ls) ≡ true → Agrees c u
      → has_accepted (at u.child) (child_case c.txn u) t ≡ true
      → takes_part tree later_world (child_case c.txn u) ≡ true → Agrees (child_case c.txn u) t
  next_agrees c u t joined f a up =
      let d = child_case c.txn u in
      let j = joined_by d t a in
      let r = behind_parts d t in
      let g = case_consents c u t joined (joined_then tree is_tree w h q at ls s d t j).0 f in
      down r (common_then d t j) g.0 g.1 (never_root r refl) up a

  -- Each ticket that takes part in a committed transaction has consented.
  record Agreed (x : Txn) (t : Ticket) : Type 0 where
    of : Case
    same : of.txn ≡ x
    joined : sent (is_joined_message of t) (w.net ++ ls) ≡ true
    agrees : Agrees of t

  all_agree : (x : Txn) → is_commit_outcome later_world x ≡ true → (t : Ticket) → TakesPart later_world x t
      → Agreed x t
  all_agree x committed _ (at_root t a) = record {
    of = root_case x;
    same = refl;
    joined = joined_by (root_case x) t a;
    agrees = root_agrees x t committed a;
  }
  all_agree x committed _ (below u t up a) =
      let f = all_agree x committed u up in
      record {
        of = child_case x u;
        same = refl;
        joined = joined_by (child_case x u) t a;
        agrees = subst (λ (y : Txn). has_accepted (at u.child) (child_case y u) t ≡ true
            → takes_part tree later_world (child_case y u) ≡ true → Agrees (child_case y u) t) f.same
            (next_agrees f.of u t f.joined f.agrees) a
            (tells tree later_world (then tree is_tree w h q at ls s) is_tree x u up);
      }

  participant_consents : (x : Txn) (u t : Ticket) → IsPair tree (child_case x u) t
      → is_commit_outcome later_world x ≡ true → takes_part tree later_world (child_case x u) ≡ true
      → ((behind_parts (child_case x u) t).refused ≡ false) × Consents (behind_parts (child_case x u) t)
  participant_consents x u t pair committed part =
      let f = all_agree x committed u
      (told tree later_world (then tree is_tree w h q at ls s) is_tree x u part) in
      subst (λ (y : Txn). IsPair tree (child_case y u) t
      → ((behind_parts (child_case y u) t).refused ≡ false) × Consents (behind_parts (child_case y u) t))
      f.same
      (λ next. case_consents f.of u t f.joined next f.agrees) pair

  outcome_moves : (c : Case) (t : Ticket) → IsPair tree c t → IsFree (w.net ++ ls) c t
      → FollowsReading (InvariantOf c.txn.presumption) (behind_parts c t) (pair_reading tree later_world c t)
  outcome_moves c t pair free = by_ticket c.ticket c refl pair (two_stages c t pair free).invariant
    where
      by_ticket : (o : Option Ticket) (c : Case) → c.ticket ≡ o → IsPair tree c t
          → InvariantOf c.txn.presumption (behind_parts c t)
          → FollowsReading (InvariantOf c.txn.presumption) (behind_parts c t)
          (pair_reading tree later_world c t)
      by_ticket None c f pair =
          subst (λ (d : Case). InvariantOf d.txn.presumption (behind_parts d t)
          → FollowsReading (InvariantOf d.txn.presumption) (behind_parts d t)
          (pair_reading tree later_world d t))
          (sym (case_parts c c.txn None refl f))
          (λ inv. stays c.txn.presumption (behind_parts (root_case c.txn) t) inv)
      by_ticket (Some u) c f pair =
          let d = child_case c.txn u in
          let x = c.txn in
          subst (λ (d : Case). IsPair tree d t → InvariantOf d.txn.presumption (behind_parts d t)
          → FollowsReading (InvariantOf d.txn.presumption) (behind_parts d t)
          (pair_reading tree later_world d t))
          (sym (case_parts c c.txn (Some u) refl f))
          (λ pair inv. outcome_stage x.presumption (is_leaf (role_of tree t.child)) (is_commit_outcome w x)
          (is_commit_outcome later_world x) (takes_part tree later_world d)
          (parent_half (place_of tree u.child) (at u.child) d t)
          (child_half (place_of tree t.child) (at t.child) (child_case x t)) (wire d t (w.net ++ ls))
          inv (s.commits_still x) (participant_consents x u t pair)) pair

  pub pair_follows : (c : Case) (t : Ticket) → IsPair tree c t → IsFree (w.net ++ ls) c t
      → FollowsReading (InvariantOf c.txn.presumption) (pair_reading tree w c t)
      (pair_reading tree later_world c t)
  pair_follows c t pair free =
      onward c.txn.presumption (pair_reading tree w c t) (behind_parts c t)
      (pair_reading tree later_world c t)
      (two_stages c t pair free) (outcome_moves c t pair free)

  -- After the step the world's invariant holds, and what was true of a pair for ever still is.
  pub world_holds : WorldHolds tree later_world
  world_holds =
      let t = then tree is_tree w h q at ls s in
      record {
        nodes = t.nodes;
        unlisted = t.unlisted;
        net = t.net;
        joined_once = s.joined_once;
        about_given = s.keeps.about_given;
        pairs = λ c u pair free. (pair_follows c u pair free).invariant;
      }
