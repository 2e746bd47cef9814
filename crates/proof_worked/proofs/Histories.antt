-- Every record that was ever in the forced front is in the history of such records, and no other.
use Rattle.std.proofs.Common.{◌≡◌, ◌∙◌, ◌||◌, ℕ, zero, suc, Bool, true, false, List, [], ◌∷◌, ◌++◌, take, refl, sym, ap, subst, arith}
use Rattle.protocol.specs.declared.records.Record.{Record}
use Rattle.protocol.specs.declared.events.StepError.{StepError}
use Rattle.protocol.specs.Records.{has}
use Rattle.protocol.specs.Nodes.{Effect, Node, Place, Written, appends, entries_written, fails_with, is_any_forced, kept}
use Rattle.protocol.specs.Restarts.{crashed, reopens, trim_fails, trims, trimmed}
use Rattle.protocol.specs.World.{Made, Makes, Move, Refuses, Stepped, node_by, node_left, node_makes}
use Rattle.proof_pairs.specs.turns.Steps.{StepOf, handled, failed_in, passed, failed_passing, reopened, failed_reopening, trims_log, failed_trimming}
use Rattle.proof_pairs.proofs.turns.Steps.{step_of}
use Rattle.proof_processes.proofs.Tests.{has-append}
use Rattle.proof_worked.specs.Histories.{was_forced}

-- it passes after the step just where it passes in the forced front after it, or passed before
abbrev Adds : (Record → Bool) → Node → Node → Type 0
Adds q n k = has q k.durable ≡ (has q k.forced || has q n.durable)

module _ (q : Record → Bool) (n : Node) (within : has q n.forced ≡ true → has q n.durable ≡ true) where
  stays : Adds q n n
  stays = by_test (has q n.forced) (has q n.durable) within
    where
      by_test : (a b : Bool) → (a ≡ true → b ≡ true) → b ≡ (a || b)
      by_test true b f = f refl
      by_test false b f = refl

  -- the whole log is forced, with these after it
  all_forced : (old new durable : List Record)
      → has q (new ++ (old ++ durable)) ≡ (has q (old ++ new) || has q durable)
  all_forced old new durable =
      has-append q new (old ++ durable) ∙ (ap (λ b. has q new || b) (has-append q old durable)
      ∙ (turned (has q new) (has q old) (has q durable)
      ∙ ap (λ b. b || has q durable) (sym (has-append q old new))))
    where
      turned : (a b c : Bool) → (a || (b || c)) ≡ ((b || a) || c)
      turned true true c = refl
      turned true false c = refl
      turned false true c = refl
      turned false false c = refl

  appended : (ws : List Written) → Adds q n (appends n ws)
  appended ws = by_force (is_any_forced ws) refl
    where
      by_force : (b : Bool) → is_any_forced ws ≡ b → Adds q n (appends n ws)
      by_force true f = rw f (all_forced (kept n) (entries_written ws) n.durable)
      by_force false f = rw f stays

  -- the forced front grew by these
  front_grew : (front : List Record) → has q (front ++ n.durable)
      ≡ (has q (n.forced ++ front) || has q n.durable)
  front_grew front =
      has-append q front n.durable ∙ (by_test (has q n.forced) (has q front) (has q n.durable) within
      ∙ ap (λ b. b || has q n.durable) (sym (has-append q n.forced front)))
    where
      by_test : (a b c : Bool) → (a ≡ true → c ≡ true) → (b || c) ≡ ((a || b) || c)
      by_test true true c f = refl
      by_test true false c f = f refl
      by_test false true c f = refl
      by_test false false c f = refl

  trimmed_so : (place : Place) → Adds q n (trims place n)
  trimmed_so place = has-append q (trimmed place.role (kept n)) n.durable

  step_adds : (place : Place) (m : Move) (e : Effect) (k : Node) → StepOf place n m e k → Adds q n k
  step_adds place m _ _ (handled i g hp np r) = appended g.written
  step_adds place m _ _ (failed_in i f g fl hp np r) =
      front_grew (take f.forced (n.unforced ++ take f.appended (entries_written g.written)))
  step_adds place m _ _ (passed i hp r) = stays
  step_adds place m _ _ (failed_passing i f fl hp r) = stays
  step_adds place m _ _ (reopened j hp) =
      all_forced (kept (crashed place n j)) (reopens place.role (kept (crashed place n j))) n.durable
  step_adds place m _ _ (failed_reopening j f fl hp) =
      front_grew (take f.forced (take j n.unforced ++ take f.appended
      (reopens place.role (kept (crashed place n j)))))
  step_adds place m _ _ (trims_log hp up) = trimmed_so place
  step_adds place m _ _ (failed_trimming f fl hp up) = by_front f.appended
    where
      by_front : (j : ℕ) → Adds q n (trim_fails place n j)
      by_front zero = stays
      by_front (suc j) = trimmed_so place

  move_adds : (place : Place) (m : Move) → Adds q n (node_left n (node_makes place n m))
  move_adds place m = by_step (node_makes place n m) refl
    where
      by_step : (x : Stepped) → node_makes place n m ≡ x → Adds q n (node_left n x)
      by_step (Refuses e) f = stays
      by_step (Makes e k) f = step_adds place m e k (step_of place n m e k f)

module _ (place : Place) (q : Record → Bool) where
  first_so : (a b : Bool) → a ≡ true → (a || b) ≡ true
  first_so a b e = grind arith

  within : (es : List Made) → has q (node_by place es).durable ≡ was_forced place q es
      → has q (node_by place es).forced ≡ true → has q (node_by place es).durable ≡ true
  unfolding node_by was_forced
  within [] e f = e ∙ f
  within (m ∷ es) e f = e ∙ first_so _ _ f

  pub durable_by : (es : List Made) → has q (node_by place es).durable ≡ was_forced place q es
  unfolding node_by was_forced
  durable_by [] = refl
  durable_by (e ∷ es) =
      move_adds q (node_by place es) (within es (durable_by es)) place e.move
      ∙ ap (λ b. has q (node_by place (e ∷ es)).forced || b) (durable_by es)
