-- A history has one verdict.
use Rattle.std.proofs.Common.{◌≡◌, ℕ, ◌+◌, ◌<◌, Option, Some, None, List, take, refl, ap, subst, inl, inr, arith}
use Rattle.std.proofs.lemmas.Bool.{cases_lt}
use Rattle.judge_rules.specs.declared.calls.HistoryEvent.{HistoryEvent}
use Rattle.judge_rules.specs.declared.words.Rules.{Rules}
use Rattle.judge_rules.specs.Histories.{IsLegal}
use Rattle.judge_set.specs.Sets.{IsFirstIllegal, IsVerdict}
use Rattle.judge_set.proofs.Members.{legal_front, take_take}

-- no event after a first fault is a first fault
apart : (r : Rules) (es : List HistoryEvent) (i j : ℕ) → IsFirstIllegal r es i → IsFirstIllegal r es j → i < j
    → ⊥
apart r es i j a b lt = a.fault (
    subst (λ (q : List HistoryEvent). IsLegal r q) (take_take (i + 1) j es (omega (arith, lt)))
    (legal_front r (take j es) (i + 1) b.before)
    )

pub one_verdict : (r : Rules) (es : List HistoryEvent) (a b : Option ℕ) → IsVerdict r es a → IsVerdict r es b
    → a ≡ b
one_verdict r es None None v w = refl
one_verdict r es None (Some j) v w = absurd (w.illegal v)
one_verdict r es (Some i) None v w = absurd (v.illegal w)
one_verdict r es (Some i) (Some j) v w = elim (cases_lt i j) [
  | inl lt ↦ absurd (apart r es i j v w lt)
  | inr ge ↦ (elim (cases_lt j i) [
    | inl lt ↦ absurd (apart r es j i w v lt)
    | inr le ↦ ap (λ (k : ℕ). Some k) (let e : i ≡ j = omega arith in e)
  ])
]
