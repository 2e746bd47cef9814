-- Lists of states as sets.
use Rattle.std.specs.Prelude.{◌<◌, ◌↔◌, ◌⊎◌, List, [], ◌∷◌, length, Contains}
use Rattle.judge_state.specs.Sights.{Sight}
use Rattle.judge_rules.specs.declared.errors.TheConstants.{MOST_STATES}

-- two lists have the same states
abbrev pub AreAlike : List Sight → List Sight → Type 0
AreAlike us vs = (t : Sight) → Contains us t ↔ Contains vs t

-- no state is in a list twice
abbrev pub AreApartStates : List Sight → Type 0
AreApartStates [] = Unit {0}
AreApartStates (u ∷ us) = (Contains us u → ⊥) × AreApartStates us

-- a list has what it had, and these states; and none twice, unless it had one twice
pub record Adds (old new more : List Sight) : Type 0 where
  pub all : (t : Sight) → Contains new t ↔ (Contains old t ⊎ Contains more t)
  pub apart : AreApartStates old → AreApartStates new

-- a list has the states of another, each once
pub record IsSetOf (us set : List Sight) : Type 0 where
  pub all : AreAlike set us
  pub apart : AreApartStates set

-- there are more different states of this kind than are gone through
abbrev pub AreMany : (Sight → Type 0) → Type 0
AreMany P = (ts : List Sight) × AreApartStates ts × ((t : Sight) → Contains ts t → P t)
    × (MOST_STATES < length ts)

-- a list has more different states than are gone through
abbrev pub AreTooManyStates : List Sight → Type 0
AreTooManyStates us = AreMany (Contains us)
