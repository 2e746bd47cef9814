-- In every run, each step of a manager keeps the pairs above it, has none below it, and is of no pair of
-- others.
use Rattle.std.proofs.Common.{◌≡◌, ◌∙◌, inl, inr, ℕ, Bool, true, false, List, ◌++◌, take, refl, sym, ap, subst}
use Rattle.protocol.specs.declared.names.Case.{Case}
use Rattle.protocol.specs.declared.names.ProcessId.{ProcessId}
use Rattle.protocol.specs.declared.names.Ticket.{Ticket}
use Rattle.protocol.specs.declared.messages.Envelope.{Envelope}
use Rattle.protocol_words.specs.Variants.{CaseBranch}
use Rattle.protocol.specs.declared.records.Record.{Record}
use Rattle.protocol.specs.declared.events.Happening.{Happening}
use Rattle.protocol.specs.declared.trees.TreeProcess.{TreeProcess}
use Rattle.protocol.specs.Names.{process_of, same_process}
use Rattle.protocol.specs.NameLaws.{same_process_tells}
use Rattle.protocol.specs.Records.{has}
use Rattle.protocol.specs.Nodes.{Place, Role, AtLeaf, Node, Effect, kept, place_of, role_of}
use Rattle.protocol.specs.Restarts.{is_open, left_of, reopens}
use Rattle.protocol.specs.Standings.{mark_of}
use Rattle.protocol.specs.World.{World, Move, MayHappen, put_at}
use Rattle.protocol.proofs.RunLaws.{makes_at}
use Rattle.proof_pairs.specs.readings.ReadingOf.{is_root_ticket}
use Rattle.proof_pairs.proofs.readings.ReadingSteps.{same_process-refl}
use Rattle.proof_pairs.specs.turns.LeafTurns.{mark_at}
use Rattle.proof_pairs.specs.turns.Steps.{StepOf, heard_in, handled, failed_in, passed, failed_passing, reopened, failed_reopening, trims_log, failed_trimming}
use Rattle.proof_pairs.proofs.turns.Steps.{step_of, turn_of}
use Rattle.proof_processes.specs.Lasts.{logs_of, Lasts}
use Rattle.proof_processes.specs.Marks.{is_branch_record}
use Rattle.proof_processes.specs.Owns.{AllGoToOwners}
use Rattle.proof_processes.specs.Numbers.{IsIssuer}
use Rattle.proof_processes.specs.ProcessSteps.{ChildStep, Elsewhere, ParentStep, seen_above}
use Rattle.proof_processes.specs.WorldHolds.{InvariantOf, IsPair, IsParentRole, is_record_of}
use Rattle.proof_processes.proofs.GivenCases.{Remembered, branch_record, unmarked_so}
use Rattle.proof_processes.proofs.Issuing.{Issued}
use Rattle.proof_processes.proofs.ManagersHold.{all_issued, all_remembered}
use Rattle.proof_processes.proofs.Tests.{in_either, in_first, in_second, in_front}
use Rattle.proof_processes.proofs.Worlds.{all_last, has_other}
use Rattle.proof_processes.proofs.Yesses.{nets_go}
use Rattle.proof_steps.specs.children.ManagerProcess.{ManagerProcess}
use Rattle.proof_steps.proofs.children.ManagerSteps.{step_fits}
use Rattle.proof_steps.proofs.children.Moves.{Fits}
use Rattle.proof_steps.proofs.children.OwnMessages.{AllOwnMessages, quiet_messages, resumes_messages, turn_messages}

-- a manager has no case of a parent
no_parent : {A : Type 0} (tree : List TreeProcess) (c : Case) (q p : ProcessId) → role_of tree q ≡ AtLeaf p
    → IsParentRole (role_of tree (process_of c)) c.ticket → process_of c ≡ q → A
no_parent tree c q p leaf role same =
    absurd (subst (λ (r : Role). IsParentRole r c.ticket) (ap (role_of tree) same ∙ leaf) role)

module _ (q p : ProcessId) (tree : List TreeProcess) (n : Node) (net : List Envelope)
    (leaf : role_of tree q ≡ AtLeaf p) (last : Lasts (AtLeaf p) (logs_of n)) (goes : AllGoToOwners net)
    (issued : Issued (record { me = q; role = AtLeaf p; tree = tree }) net n)
    (known : Remembered (record { me = q; role = AtLeaf p; tree = tree }) net n)
    (m : Move) (stands : MayHappen net q m.step.happening) where
  abbrev place : Place
  place = record { me = q; role = AtLeaf p; tree = tree }

  abbrev at : ProcessId → Place
  at x = record { me = x; role = AtLeaf p; tree = tree }

  apart : (c : Case) (t : Ticket) → IsPair tree c t → role_of tree t.child ≡ AtLeaf p
      → same_process t.child (process_of c) ≡ false
  apart c t pair leaf' = elim (same_process_tells t.child (process_of c)) [
    | inl same ↦ no_parent tree c t.child p leaf' pair.parent.role (sym same.1)
    | inr other ↦ other.0
  ]

  -- The pairs above it.

  child_step : (e : Effect) (k : Node) → StepOf place n m e k → ChildStep place net e.messages n k
  child_step e k s = record {
    follows = λ c t pair same free outcome above half inv.
        subst (λ (x : ProcessId). role_of tree x ≡ AtLeaf p → Issued (at x) net n → Remembered (at x) net n
        → MayHappen net x m.step.happening → StepOf (at x) n m e k
        → InvariantOf c.txn.presumption (seen_above (at x) net n c t outcome above half)
        → Fits c.txn.presumption (seen_above (at x) net n c t outcome above half)
        (seen_above (at x) (net ++ e.messages) k c t outcome above half)) same
        (λ leaf' i kn st s' inv'. step_fits c t p tree n net last goes i kn (apart c t pair leaf')
        (is_root_ticket c.ticket) outcome above half inv' m st e k s')
        leaf issued known stands s inv;
  }

  -- The pairs of others.

  recorded_own : (d : Case) → has (is_branch_record d) (kept n) ≡ true → process_of d ≡ q
  recorded_own d e = (known.recorded_is_given d
      (last.nested.kept_was_written (is_record_of d) (λ x. refl)
      (has_other (is_branch_record d) (is_record_of d) (kept n) (branch_record d) e))).0

  -- an open branch has a record
  open_record : (d : Case) (rs : List Record) → is_open (mark_of (CaseBranch d) rs) ≡ true
      → has (is_branch_record d) rs ≡ true
  open_record d rs e = by_test (has (is_branch_record d) rs) refl
    where
      by_test : (b : Bool) → has (is_branch_record d) rs ≡ b → has (is_branch_record d) rs ≡ true
      by_test true f = f
      by_test false f = absurd (let x = sym (ap is_open (unmarked_so d rs f)) ∙ e in cc)

  open_own : (d : Case) → is_open (mark_at n d) ≡ true → process_of d ≡ q
  open_own d e = recorded_own d (open_record d (kept n) e)

  opened_none : {A : Type 0} (d : Case) (j : ℕ)
      → has (is_branch_record d) (reopens (AtLeaf p) (left_of n j)) ≡ true → A
  unfolding has
  opened_none d j e = absurd (cc)

  left_own : (j : ℕ) (d : Case)
      → is_open (mark_of (CaseBranch d) (left_of n j ++ reopens (AtLeaf p) (left_of n j))) ≡ true
      → process_of d ≡ q
  left_own j d e =
      elim (in_either (is_branch_record d) (left_of n j) (reopens (AtLeaf p) (left_of n j))
      (open_record d _ e)) [
        | inl left ↦ elim (in_either (is_branch_record d) n.forced (take j n.unforced) left) [
          | inl front ↦ recorded_own d (in_first (is_branch_record d) n.forced n.unforced front)
          | inr rest ↦ recorded_own d
              (in_second (is_branch_record d) n.forced n.unforced
              (in_front (is_branch_record d) j n.unforced rest))
        ]
        | inr new ↦ opened_none d j new
      ]

  own_messages : (e : Effect) (k : Node) → StepOf place n m e k → AllOwnMessages q e.messages
  own_messages _ _ (handled i g hp np r) =
      turn_messages q p tree n open_own (heard_in m i) net goes
      (subst (λ (x : Happening). MayHappen net q x) hp stands) g
      (turn_of place n (heard_in m i) g r).turn
  own_messages _ _ (failed_in i f g fl hp np r) = tt
  own_messages _ _ (passed i hp r) = tt
  own_messages _ _ (failed_passing i f fl hp r) = tt
  own_messages _ _ (reopened j hp) = resumes_messages q p (left_of n j ++ reopens (AtLeaf p) (left_of n j))
      (left_own j)
  own_messages _ _ (failed_reopening j f fl hp) = tt
  own_messages _ _ (trims_log hp up) = tt
  own_messages _ _ (failed_trimming f fl hp up) = tt

  pub process_step : (e : Effect) (k : Node) → StepOf place n m e k
      → ChildStep place net e.messages n k
      × (ParentStep place net e.messages n k × Elsewhere place e.messages)
  process_step e k s = (
    child_step e k s,
    (
      record { follows = λ c t pair same. no_parent tree c q p leaf pair.parent.role same },
      record {
        quiet = λ c t pair parent child. quiet_messages q c t parent child e.messages
            (own_messages e k s);
      },
    ),
  )

put_self : (q : ProcessId) (k : Node) (at : ProcessId → Node) → put_at q k at q ≡ k
put_self q k at = rw (same_process-refl q) refl

pub manager_process : ManagerProcess
manager_process tree es w run m e w' p leaf stands made =
    let q = m.step.process in
    let here = makes_at tree w m e w' made in
    let there : w'.at q ≡ here.node = ap (λ (x : World). x.at q) here.world ∙ put_self q here.node w.at in
    let at : (r : Role) → Place = λ r. record { me = q; role = r; tree = tree } in
    let s = subst (λ (r : Role). StepOf (at r) (w.at q) m e here.node) leaf
    (step_of (place_of tree q) (w.at q) m e here.node here.made) in
    let done = process_step q p tree (w.at q) w.net leaf
    (subst (λ (r : Role). Lasts r (logs_of (w.at q))) leaf (all_last tree es w run q)) (nets_go tree es w run)
    (subst (λ (r : Role). Issued (at r) w.net (w.at q)) leaf
    (all_issued tree es w run q (subst IsIssuer (sym leaf) tt)))
    (all_remembered tree es w run q p leaf) m stands e here.node s in
    subst (λ (k : Node). ChildStep (place_of tree q) w.net e.messages (w.at q) k
    × (ParentStep (place_of tree q) w.net e.messages (w.at q) k × Elsewhere (place_of tree q) e.messages))
    (sym there)
    (subst (λ (r : Role). ChildStep (at r) w.net e.messages (w.at q) here.node
    × (ParentStep (at r) w.net e.messages (w.at q) here.node × Elsewhere (at r) e.messages)) (sym leaf) done)
