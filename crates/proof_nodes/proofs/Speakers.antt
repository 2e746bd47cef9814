-- A message that was sent comes from one who may send it.
use Rattle.std.proofs.Common.{◌≡◌, Bool, true, false, cond, if◌then◌else◌, ◌&&◌, ℕ, Option, Some, None, List, [], ◌∷◌, slice_get, find, is_none, refl, subst}
use Rattle.protocol.specs.declared.messages.Envelope.{Envelope}
use Rattle.protocol.specs.declared.messages.Message.{Message}
use Rattle.protocol.specs.declared.messages.Message.TheVariants.{Join, Joined, Work, Prepare, Yes, No, Read, Commit, Abort, Ack, Inquire}
use Rattle.protocol.specs.declared.names.Case.{Case}
use Rattle.protocol.specs.declared.names.Kind.{Kind}
use Rattle.protocol.specs.declared.names.Kind.TheVariants.{Coordinator, Manager}
use Rattle.protocol.specs.declared.names.ProcessId.{ProcessId}
use Rattle.protocol.specs.declared.trees.TreeProcess.{TreeProcess}
use Rattle.protocol.specs.Names.{process_of, same_process}
use Rattle.protocol.specs.Nodes.{AtRoot, is_parent, role_by, role_of}
use Rattle.protocol.specs.Trees.{IsTree, entry_parent, parent_of}
use Rattle.protocol.specs.World.{Made, World}
use Rattle.proof_pairs.proofs.readings.ReadingSteps.{same_process-refl}
use Rattle.proof_processes.specs.WorldHolds.{GoesBy, GoesDown, GoesUp, IsChildRole}
use Rattle.proof_headline.proofs.ManagerMessages.{goes_at}
use Rattle.proof_headline.proofs.runs.Headline.{the_world_holds}
use Rattle.tree_state.specs.Worlds.{WorldState}
use Rattle.proof_runs.specs.worlds.Follows.{FollowsBehindFaults}
use Rattle.node_lines.specs.Speakers.{goes_down, goes_up, may_speak, speaks_so}
use Rattle.proof_nodes.specs.Nodes.{SentMaySpeak}

here : (p q : ProcessId) → p ≡ q → same_process p q ≡ true
here p q e = subst (λ (r : ProcessId). same_process p r ≡ true) e (same_process-refl p)

both : (a b : Bool) → a ≡ true → b ≡ true → (a && b) ≡ true
both a b h k = rw (h, k) refl

by_role : (k : Kind) (o : Option ProcessId) (p : ProcessId) → IsChildRole (role_by k o) p
    → is_parent p o ≡ true
by_role Coordinator None p h = absurd h
by_role Coordinator (Some q) p h = here q p h
by_role Manager None p h = absurd h
by_role Manager (Some q) p h = here q p h

-- whose role is a child's has that parent in the tree
pub has_parent : (tree : List TreeProcess) (q p : ProcessId) → IsChildRole (role_of tree q) p
    → is_parent p (parent_of tree q) ≡ true
unfolding role_of parent_of
has_parent [] q p h = absurd h
has_parent (x ∷ xs) q p h = by_test (same_process x.id q) (has_parent xs q p) h
  where
    by_test : (b : Bool)
        → (IsChildRole (role_of xs q) p → is_parent p
        (entry_parent (find (λ y. same_process y.id q) xs)) ≡ true)
        → IsChildRole (if b then role_by x.kind x.parent else role_of xs q) p
        → is_parent p (entry_parent (cond b (Some x) (find (λ y. same_process y.id q) xs))) ≡ true
    by_test true behind g = by_role x.kind x.parent p g
    by_test false behind g = behind g

module _ (tree : List TreeProcess) (l : Envelope) where
  up_so : (d : Case) → GoesUp tree l d → goes_up tree l d ≡ true
  up_so d h = both _ _ (here (process_of d) l.from h.0) (has_parent tree l.from l.to h.1)

  down_so : (d : Case) → GoesDown tree l d → goes_down tree l d ≡ true
  down_so d h = both _ _ (here (process_of d) l.to h.0) (has_parent tree l.to l.from h.1)

  so : (m : Message) → GoesBy tree l m → speaks_so tree l m ≡ true
  so (Join d) h = both _ _ (here (process_of d) l.from h.0) (has_parent tree l.to l.from h.1.1)
  so (Joined d t) h = both _ _ (here (process_of d) l.to h.1.0) (both _ _ (here t.child l.from h.0)
      (has_parent tree l.from l.to
      (subst (λ (q : ProcessId). IsChildRole (role_of tree q) l.to) h.0
      (subst (λ (p : ProcessId). IsChildRole (role_of tree t.child) p) h.1.0 h.1.1.child))))
  so (Work d k op) h = down_so d h
  so (Prepare d k) h = down_so d h
  so (Commit d) h = down_so d h
  so (Abort d) h = down_so d h
  so (Yes d) h = up_so d h
  so (No d) h = up_so d h
  so (Read d) h = up_so d h
  so (Ack d o fs) h = up_so d h
  so (Inquire d) h = up_so d h

pub sent_may_speak : SentMaySpeak
unfolding may_speak
sent_may_speak s es w is_tree f n e sent =
    so s.tree e e.message (goes_at s.tree w.net sent.0 e
    (the_world_holds s.tree is_tree es w f.follows.is_run).net
    (subst (λ (ls : List Envelope). slice_get ls sent.0 ≡ Some e) f.follows.net sent.1))

-- Roots.

top_by : (k : Kind) (o : Option ProcessId) → is_none o ≡ true → role_by k o ≡ AtRoot
top_by Coordinator None h = refl
top_by Coordinator (Some q) h = absurd (cc)
top_by Manager None h = refl
top_by Manager (Some q) h = absurd (cc)

-- a process without a parent sits at the root
pub sits_at_root : (tree : List TreeProcess) (q : ProcessId) → is_none (parent_of tree q) ≡ true
    → role_of tree q ≡ AtRoot
unfolding role_of parent_of
sits_at_root [] q h = refl
sits_at_root (x ∷ xs) q h = by_test (same_process x.id q) (sits_at_root xs q) h
  where
    by_test : (b : Bool)
        → (is_none (entry_parent (find (λ y. same_process y.id q) xs)) ≡ true → role_of xs q ≡ AtRoot)
        → is_none (entry_parent (cond b (Some x) (find (λ y. same_process y.id q) xs))) ≡ true
        → (if b then role_by x.kind x.parent else role_of xs q) ≡ AtRoot
    by_test true behind g = top_by x.kind x.parent g
    by_test false behind g = behind g
