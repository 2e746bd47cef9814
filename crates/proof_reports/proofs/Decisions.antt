-- The operators' decisions that a manager keeps are forced, while it is up.
use Rattle.std.proofs.Common.{◌≡◌, inl, inr, ℕ, zero, suc, Bool, true, false, List, [], ◌∷◌, refl, subst}
use Rattle.protocol.specs.declared.names.Case.{Case}
use Rattle.protocol.specs.declared.names.Outcome.{Outcome}
use Rattle.protocol_words.specs.Variants.{AbortedOutcome, CommittedOutcome}
use Rattle.protocol.specs.declared.names.ProcessId.{ProcessId}
use Rattle.protocol.specs.declared.records.Record.{Record}
use Rattle.protocol.specs.Records.{has, is_decided}
use Rattle.protocol.specs.Nodes.{AtLeaf, Effect, Heard, Node, Place, Written, appends, entries_written, is_any_forced, kept}
use Rattle.protocol.specs.Restarts.{trim_fails}
use Rattle.protocol.specs.World.{Move}
use Rattle.proof_pairs.specs.turns.LeafTurns.{LeafTurn, does_nothing, gives_again, gives_fresh, votes_yes, votes_read, votes_no, repeats_yes, refuses, obeys, notes, acknowledges_told, acknowledges, drops, asks, decides, forgets}
use Rattle.proof_pairs.specs.turns.Steps.{StepOf, TurnAt, heard_in, handled, failed_in, passed, failed_passing, reopened, failed_reopening, trims_log, failed_trimming}
use Rattle.proof_pairs.proofs.turns.Steps.{turn_of}
use Rattle.proof_processes.specs.Lasts.{Nested, logs_of}
use Rattle.proof_processes.proofs.Tests.{has-nil, in_either, in_none}

-- no decision is unforced
abbrev pub NoneUnforced : Node → Type 0
NoneUnforced n = (d : Case) (o : Outcome) → has (is_decided d o) n.unforced ≡ false

-- while the process is up
abbrev pub DecisionsForced : Node → Type 0
DecisionsForced n = n.failed ≡ false → NoneUnforced n

one_other : (q : Record → Bool) (r : Record) → q r ≡ false → has q (r ∷ []) ≡ false
unfolding has
one_other q r e = rw e refl

-- what an input that forces nothing appends is no decision
abbrev Undecided : List Written → Type 0
Undecided ws = is_any_forced ws ≡ false → (d : Case) (o : Outcome) → has (is_decided d o) (entries_written ws)
    ≡ false

appended : (n : Node) (ws : List Written) → NoneUnforced n → Undecided ws → NoneUnforced (appends n ws)
appended n ws old none d o = by_force (is_any_forced ws) refl
  where
    by_force : (b : Bool) → is_any_forced ws ≡ b → has (is_decided d o) (appends n ws).unforced ≡ false
    by_force true f = rw f (has-nil (is_decided d o))
    by_force false f = rw f (in_none (is_decided d o) n.unforced (entries_written ws) (old d o) (none f d o))

none_written : Undecided []
none_written e d o = has-nil (is_decided d o)

one_written : (r : Record) (b : Bool) → ((d : Case) (o : Outcome) → is_decided d o r ≡ false)
    → Undecided (record { entry = r; is_forced = b } ∷ [])
one_written r b none e d o = one_other (is_decided d o) r (none d o)

forced_written : (r : Record) → Undecided (record { entry = r; is_forced = true } ∷ [])
forced_written r e d o = absurd (cc)

no_decision : (f : Outcome → Bool) → f CommittedOutcome ≡ false → f AbortedOutcome ≡ false → (o : Outcome)
    → f o ≡ false
no_decision f a b CommittedOutcome = a
no_decision f a b AbortedOutcome = b

module _ (place : Place) (p : ProcessId) (n : Node) (h : Heard) where
  leaf_undecided : (e : Effect) → LeafTurn place p n h e → Undecided e.written
  leaf_undecided _ (votes_yes d k ws i a) = forced_written _
  leaf_undecided _ (obeys d CommittedOutcome i e) =
      one_written _ _ (λ c u. no_decision (λ x. is_decided c x _) refl refl u)
  leaf_undecided _ (obeys d AbortedOutcome i e) =
      one_written _ _ (λ c u. no_decision (λ x. is_decided c x _) refl refl u)
  leaf_undecided _ (notes d o i e) =
      one_written _ _ (λ c u. no_decision (λ x. is_decided c x _) refl refl u)
  leaf_undecided _ (decides d o i e) = forced_written _
  leaf_undecided _ (forgets d i e) = forced_written _
  leaf_undecided _ does_nothing = none_written
  leaf_undecided _ (gives_again d t i a) = none_written
  leaf_undecided _ (gives_fresh d i a s) = none_written
  leaf_undecided _ (votes_read d k i a) = none_written
  leaf_undecided _ (votes_no d k i a) = none_written
  leaf_undecided _ (repeats_yes d k i a) = none_written
  leaf_undecided _ (refuses d k i a) = none_written
  leaf_undecided _ (acknowledges_told d u i k) = none_written
  leaf_undecided _ (acknowledges d u i k) = none_written
  leaf_undecided _ (drops d i a) = none_written
  leaf_undecided _ (asks d i k) = none_written

module _ (me p : ProcessId) (place : Place) (leaf : place.role ≡ AtLeaf p) (m : Move) where
  leaf_turn : (n : Node) (h : Heard) (e : Effect) → TurnAt place.role place n h e → LeafTurn place p n h e
  leaf_turn n h e t = subst (λ r. TurnAt r place n h e) leaf t

  pub decisions_forced : (n : Node) (e : Effect) (k : Node) → StepOf place n m e k → DecisionsForced n
      → DecisionsForced k
  decisions_forced n _ _ (handled i g hp np r) old up =
      let t = turn_of place n (heard_in m i) g r in
      appended n g.written (old t.up)
      (leaf_undecided place p n (heard_in m i) g (leaf_turn n (heard_in m i) g t.turn))
  decisions_forced n _ _ (failed_in i f g fl hp np r) old up = absurd (cc)
  decisions_forced n _ _ (passed i hp r) old up = old up
  decisions_forced n _ _ (failed_passing i f fl hp r) old up = absurd (cc)
  decisions_forced n _ _ (reopened j hp) old up = λ d o. has-nil (is_decided d o)
  decisions_forced n _ _ (failed_reopening j f fl hp) old up = absurd (cc)
  decisions_forced n _ _ (trims_log hp ok) old up = λ d o. has-nil (is_decided d o)
  decisions_forced n _ _ (failed_trimming f fl hp ok) old up = by_front f.appended up
    where
      by_front : (j : ℕ) → (trim_fails place n j).failed ≡ false → NoneUnforced (trim_fails place n j)
      by_front zero e = absurd (cc)
      by_front (suc j) e = absurd (cc)

-- a decision that stands was once in the forced front
pub kept_is_old : (n : Node) → NoneUnforced n → Nested (logs_of n) → (d : Case) (o : Outcome)
    → has (is_decided d o) (kept n) ≡ true → has (is_decided d o) n.durable ≡ true
kept_is_old n none nested d o e = elim (in_either (is_decided d o) n.forced n.unforced e) [
  | inl front ↦ nested.forced_is_old (is_decided d o) front
  | inr behind ↦ absurd (let f = none d o in cc)
]
