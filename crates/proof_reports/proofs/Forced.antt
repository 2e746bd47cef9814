-- A decision that children acknowledge is forced, while its coordinator is up.
use Rattle.std.proofs.Common.{◌≡◌, ◌∙◌, ◌||◌, ◌⊎◌, inl, inr, ℕ, zero, suc, Bool, true, false, Option, List, [], ◌∷◌, refl, sym, ap, subst, arith}
use Rattle.protocol.specs.declared.names.Case.{Case}
use Rattle.protocol.specs.declared.names.Outcome.{Outcome}
use Rattle.protocol_words.specs.Variants.{AbortedOutcome, ClearedRecord, CollectingRecord, CommittedOutcome, EndRecord, PrepareRecord}
use Rattle.protocol.specs.declared.names.ProcessId.{ProcessId}
use Rattle.protocol.specs.declared.names.Ticket.{Ticket}
use Rattle.protocol.specs.declared.records.Record.{Record}
use Rattle.protocol.specs.declared.trees.TreeProcess.{TreeProcess}
use Rattle.protocol.specs.Names.{same_case}
use Rattle.protocol.specs.Records.{has, is_abort, is_commit}
use Rattle.protocol.specs.Nodes.{Effect, Node, Place, Written, appends, entries_written, is_any_forced}
use Rattle.protocol.specs.Restarts.{trim_fails}
use Rattle.protocol.specs.Standings.{coordinator_view}
use Rattle.protocol.specs.World.{Move}
use Rattle.proof_pairs.specs.readings.ReadingOf.{acknowledged}
use Rattle.proof_pairs.specs.turns.Steps.{StepOf, heard_in, handled, failed_in, passed, failed_passing, reopened, failed_reopening, trims_log, failed_trimming}
use Rattle.proof_pairs.proofs.turns.Steps.{turn_of}
use Rattle.proof_processes.proofs.CoordinatorAccepts.{turn_here}
use Rattle.proof_processes.proofs.Remembering.{coordinator_place}
use Rattle.proof_processes.proofs.Tests.{case_is, has-cons, has-nil, in_none, neither}
use Rattle.proof_reports.proofs.Rows.{OneCase, Writes, cleared, collected, decided, decision, ended, nothing, promised, turn_writes}

-- a decision of the case by this outcome
abbrev pub is_decision_by : Outcome → Case → Record → Bool
is_decision_by CommittedOutcome c = is_commit c
is_decision_by AbortedOutcome c = is_abort c

-- by the outcome that is acknowledged
abbrev pub is_owed_decision : Case → Record → Bool
is_owed_decision c r = is_decision_by (acknowledged c.txn.presumption) c r

abbrev pub NoOwedUnforced : Node → Type 0
NoOwedUnforced n = (c : Case) → has (is_owed_decision c) n.unforced ≡ false

-- while the process is up
abbrev pub OwedForced : Node → Type 0
OwedForced n = n.failed ≡ false → NoOwedUnforced n

-- what an input that forces nothing appends is no such decision
abbrev Plain : List Written → Type 0
Plain ws = is_any_forced ws ≡ false → (c : Case) → has (is_owed_decision c) (entries_written ws) ≡ false

appended : (n : Node) (ws : List Written) → NoOwedUnforced n → Plain ws → NoOwedUnforced (appends n ws)
appended n ws old none c = by_force (is_any_forced ws) refl
  where
    by_force : (b : Bool) → is_any_forced ws ≡ b → has (is_owed_decision c) (appends n ws).unforced ≡ false
    by_force true f = rw f (has-nil (is_owed_decision c))
    by_force false f =
        rw f (in_none (is_owed_decision c) n.unforced (entries_written ws) (old c) (none f c))

one_other : (q : Record → Bool) (r : Record) → q r ≡ false → has q (r ∷ []) ≡ false
one_other q r e = has-cons q r [] ∙ neither (q r) (has q []) e (has-nil q)

by_outcome : (f : Outcome → Bool) → f CommittedOutcome ≡ false → f AbortedOutcome ≡ false → (o : Outcome)
    → f o ≡ false
by_outcome f a b CommittedOutcome = a
by_outcome f a b AbortedOutcome = b

-- a decision by another outcome, or of another case, is none
other_decision : (p o : Outcome) (c d : Case) (ts : List Ticket) → (same_case d c ≡ true → p ≡ o → ⊥)
    → is_decision_by p c (decision o d ts) ≡ false
other_decision CommittedOutcome AbortedOutcome c d ts f = refl
other_decision AbortedOutcome CommittedOutcome c d ts f = refl
other_decision CommittedOutcome CommittedOutcome c d ts f = by_test (same_case d c) refl
  where
    by_test : (b : Bool) → same_case d c ≡ b → same_case d c ≡ false
    by_test true e = absurd (f e refl)
    by_test false e = e
other_decision AbortedOutcome AbortedOutcome c d ts f = by_test (same_case d c) refl
  where
    by_test : (b : Bool) → same_case d c ≡ b → same_case d c ≡ false
    by_test true e = absurd (f e refl)
    by_test false e = e

unforced_so : (b : Bool) → (b || false) ≡ false → b ≡ true → ⊥
unforced_so true e f = cc
unforced_so false e f = cc

module _ (place : Place) (n : Node) where
  writes_plain : (d : Case) (ws : List Written) → Writes place n d ws → Plain ws
  writes_plain d _ nothing e c = has-nil (is_owed_decision c)
  writes_plain d _ (ended r b) e c =
      one_other (is_owed_decision c) (EndRecord d r)
      (by_outcome (λ o. is_decision_by o c (EndRecord d r)) refl refl (acknowledged c.txn.presumption))
  writes_plain d _ (cleared b) e c =
      one_other (is_owed_decision c) (ClearedRecord d)
      (by_outcome (λ o. is_decision_by o c (ClearedRecord d)) refl refl (acknowledged c.txn.presumption))
  writes_plain d _ (collected b s) e c =
      one_other (is_owed_decision c) (CollectingRecord d (coordinator_view place n d).accepted)
      (by_outcome (λ o. is_decision_by o c (CollectingRecord d (coordinator_view place n d).accepted)) refl
      refl (acknowledged c.txn.presumption))
  writes_plain d _ (promised ys b s) e c =
      one_other (is_owed_decision c) (PrepareRecord d ys)
      (by_outcome (λ o. is_decision_by o c (PrepareRecord d ys)) refl refl (acknowledged c.txn.presumption))
  writes_plain d _ (decided o ts b s f) e c =
      one_other (is_owed_decision c) (decision o d ts)
      (other_decision (acknowledged c.txn.presumption) o c d ts
      (λ same is_owed. unforced_so b e
      (f (sym is_owed ∙ ap (λ (x : Case). acknowledged x.txn.presumption) (sym (case_is d c same))))))

  either_plain : (e : Effect) → (e.written ≡ []) ⊎ OneCase place n e.written → Plain e.written
  either_plain e (inl none) = subst Plain (sym none) (λ f c. has-nil (is_owed_decision c))
  either_plain e (inr one) = writes_plain one.of e.written one.writes

module _ (me : ProcessId) (parent : Option ProcessId) (tree : List TreeProcess) (m : Move) where
  abbrev here : Place
  here = coordinator_place me parent tree

  pub owed_forced : (n : Node) (e : Effect) (k : Node) → StepOf (coordinator_place me parent tree) n m e k
      → OwedForced n → OwedForced k
  owed_forced n _ _ (handled i g hp np r) old up =
      appended n g.written (old (turn_of here n (heard_in m i) g r).up)
      (either_plain here n g
      (turn_writes here parent n (heard_in m i) g (turn_here me parent tree n (heard_in m i) g r)))
  owed_forced n _ _ (failed_in i f g fl hp np r) old up = absurd (cc)
  owed_forced n _ _ (passed i hp r) old up = old up
  owed_forced n _ _ (failed_passing i f fl hp r) old up = absurd (cc)
  owed_forced n _ _ (reopened j hp) old up = λ c. has-nil (is_owed_decision c)
  owed_forced n _ _ (failed_reopening j f fl hp) old up = absurd (cc)
  owed_forced n _ _ (trims_log hp ok) old up = λ c. has-nil (is_owed_decision c)
  owed_forced n _ _ (failed_trimming f fl hp ok) old up = by_front f.appended up
    where
      by_front : (j : ℕ) → (trim_fails here n j).failed ≡ false → NoOwedUnforced (trim_fails here n j)
      by_front zero e = absurd (cc)
      by_front (suc j) e = absurd (cc)
