-- One step more, and rows that are left out.
use Rattle.std.proofs.Common.{◌≡◌, ℕ, ◌≤◌, List, [], ◌∷◌, ◌++◌, arith}
use Rattle.picture_layout.specs.declared.rows.StepRows.{StepRows}
use Rattle.picture_layout.specs.Rising.{HasRows, RiseTo}

-- the rows up to a later one
pub rise_further : (from : ℕ) (rs : List StepRows) (end later : ℕ) → end ≤ later → RiseTo from rs end
    → RiseTo from rs later
rise_further from [] end later h rise = omega arith
rise_further from (r ∷ rs) end later h rise = (rise.0, rise_further r.next rs end later h rise.1)

has_later : (from later : ℕ) (r : StepRows) → from ≤ later → HasRows later r → HasRows from r
has_later from later r h has =
    let first = has.first in record { first = omega arith; last = has.last; next = has.next }

-- a step after the others
pub rise_more : (from : ℕ) (rs : List StepRows) (end : ℕ) (r : StepRows) → RiseTo from rs end
    → HasRows end r → RiseTo from (rs ++ r ∷ []) r.next
rise_more from [] end r rise has =
    let rest : r.next ≤ r.next = omega arith in (has_later from end r rise has, rest)
rise_more from (s ∷ rs) end r rise has = (rise.0, rise_more s.next rs end r rise.1 has)

-- the rows after a step
pub step_on : (rs more : List StepRows) (from end : ℕ) (r : StepRows) → more ≡ rs ++ r ∷ [] → HasRows from r
    → end ≡ r.next → RiseTo 1 rs from → RiseTo 1 more end
step_on rs more from end r is has at rise = rw is (rw at (rise_more 1 rs from r rise has))

-- the rows after those in which no step begins
pub rise_on : (rs more : List StepRows) (from end : ℕ) → more ≡ rs → from ≤ end → RiseTo 1 rs from
    → RiseTo 1 more end
rise_on rs more from end is later rise = rw is (rise_further 1 rs from end later rise)
