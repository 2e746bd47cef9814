-- What lasts at each process lasts over every run.
use Rattle.std.proofs.Common.{◌≡◌, ◌⊎◌, inl, inr, ℕ, ◌||◌, Bool, true, false, List, [], ◌∷◌, refl, sym, subst, arith}
use Rattle.protocol.specs.declared.names.Case.{Case}
use Rattle.protocol.specs.declared.names.Outcome.{Outcome}
use Rattle.protocol_words.specs.Variants.{AbortedOutcome, CommittedOutcome}
use Rattle.protocol.specs.declared.names.ProcessId.{ProcessId}
use Rattle.protocol.specs.declared.records.Record.{Record}
use Rattle.protocol.specs.declared.records.Record.TheVariants.{Opened}
use Rattle.protocol.specs.declared.trees.TreeProcess.{TreeProcess}
use Rattle.protocol.specs.Names.{process_of}
use Rattle.protocol.specs.NameLaws.{same_process_tells}
use Rattle.protocol.specs.Records.{has, is_decided, is_forgot}
use Rattle.protocol.specs.Nodes.{Role, AtRoot, Below, AtLeaf, place_of, role_of, Node, kept}
use Rattle.protocol.specs.Outcomes.{StandingMismatches, DecisionStands}
use Rattle.protocol.specs.World.{World, Made, IsRun, opens, makes, put_at}
use Rattle.protocol.proofs.RunLaws.{makes_at}
use Rattle.proof_pairs.proofs.turns.Steps.{step_of}
use Rattle.proof_processes.specs.Marks.{is_managers}
use Rattle.proof_processes.specs.Lasts.{logs_of, Nested, Coordinates, Lasts}
use Rattle.proof_processes.proofs.Tests.{either, left, right, in_first, last_or, not_both}
use Rattle.proof_processes.proofs.Lasting.{lasts, opened_lasts}

-- a process is put in its place
pub put : (P : ProcessId → Node → Type 0) (q p : ProcessId) (k : Node) (at : ProcessId → Node) → P q k
    → P p (at p)
    → P p (put_at q k at p)
put P q p k at now old = elim (same_process_tells q p) [
  | inl t ↦ rw t.0 (subst (λ (x : ProcessId). P x k) t.1 now)
  | inr f ↦ rw f.0 old
]

pub all_last : (tree : List TreeProcess) (es : List Made) (w : World) → IsRun tree es w → (p : ProcessId)
    → Lasts (role_of tree p) (logs_of (w.at p))
all_last tree _ _ opens p = opened_lasts (role_of tree p)
all_last tree _ _ (makes es w m e w' run stands step) p =
    let at = makes_at tree w m e w' step in
    let q = m.step.process in
    let before = all_last tree es w run in
    let s = step_of (place_of tree q) (w.at q) m e at.node at.made in
    let P : ProcessId → Node → Type 0 = λ x k. Lasts (role_of tree x) (logs_of k) in
    subst (λ (x : World). P p (x.at p)) (sym at.world)
    (put P q p at.node w.at (lasts (place_of tree q) (w.at q) (before q) m e at.node s) (before p))

-- Decisions of operators.

of_a_manager : (d : Case) (o : Outcome) (r : Record) → is_decided d o r ≡ true → is_managers r ≡ true
of_a_manager d CommittedOutcome r e = grind arith
of_a_manager d AbortedOutcome r e = grind arith

more : (a b c d : Bool) → (a ≡ true → b ≡ true) → (c ≡ true → d ≡ true) → (a || c) ≡ true → (b || d) ≡ true
more a b c d f g e = elim (either a c e) [ inl now ↦ left b d (f now) | inr rest ↦ right b d (g rest) ]

pub has_other : (q r : Record → Bool) (xs : List Record) → ((x : Record) → q x ≡ true → r x ≡ true)
    → has q xs ≡ true → has r xs ≡ true
unfolding has
has_other q r [] f e = absurd (cc)
has_other q r (x ∷ xs) f e = more (q x) (r x) (has q xs) (has r xs) (f x) (has_other q r xs f) e

no_opened : (d : Case) (o : Outcome) (k : ℕ) → is_decided d o (Opened k) ≡ false
no_opened d CommittedOutcome k = refl
no_opened d AbortedOutcome k = refl

no_coordinator : {A : Type 0} (n : Node) → Nested (logs_of n) → Coordinates (logs_of n)
    → (c : Case) (o : Outcome)
    → has (is_decided c o) n.durable ≡ true → A
no_coordinator n h k c o e =
    not_both (is_decided c o) (has is_managers n.life)
    (has_other (is_decided c o) is_managers n.life (of_a_manager c o)
    (h.old_was_written (is_decided c o) (no_opened c o) e))
    k.no_managers_record

decided_stands : (role : Role) (n : Node) → Lasts role (logs_of n) → (c : Case) (o : Outcome)
    → has (is_decided c o) n.durable ≡ true
    → (has (is_decided c o) n.forced ≡ true) ⊎ (has (is_forgot c) n.life ≡ true)
decided_stands (AtLeaf p) n h c o e = h.by_role.decision_stands c o e
decided_stands AtRoot n h c o e = no_coordinator n h.nested h.by_role c o e
decided_stands (Below p) n h c o e = no_coordinator n h.nested h.by_role c o e

stand : (role : Role) (n : Node) → Lasts role (logs_of n) → (c : Case) (o : Outcome)
    → has (is_decided c o) n.durable ≡ true
    → DecisionStands n c o ⊎ (has (is_forgot c) n.life ≡ true)
stand role n h c o e = elim (decided_stands role n h c o e) [
  | inl forced ↦ elim (last_or (is_decided c o) (is_forgot c) (kept n)
      (in_first (is_decided c o) n.forced n.unforced forced)) [
        | inl last ↦ inl (record { is_forced = forced; not_forgotten = last })
        | inr forgot ↦ inr (h.nested.kept_was_written (is_forgot c) (λ k. refl) forgot)
      ]
  | inr forgot ↦ inr forgot
]

pub mismatches_stand : (tree : List TreeProcess) (es : List Made) (w : World) → IsRun tree es w
    → StandingMismatches tree w
mismatches_stand tree es w run =
    let decisions = λ (c : Case) (o : Outcome). stand (role_of tree (process_of c)) (w.at (process_of c))
    (all_last tree es w run (process_of c)) c o in
    record { decisions_stand = decisions; mismatches_stand = λ c o m. decisions c o m.decided }
