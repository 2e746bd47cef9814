-- How many cases a process knows.
use Rattle.std.specs.Prelude.{◌≡◌, ℕ, List, length}
use Rattle.std.specs.List.{IsDistinct}
use Rattle.protocol.specs.declared.names.Case.{Case}
use Rattle.protocol.specs.declared.standings.Standing.{Standing}
use Rattle.protocol.specs.Names.{same_case}
use Rattle.protocol.specs.Records.{has_case}
use Rattle.protocol.specs.Restarts.{is_known}

-- of N cases something is known: a list has N cases, each of them once, and it has just those whose standing
-- is not Unknown
pub record KnowsCases (standing_of : Case → Standing) (n : ℕ) : Type 0 where
  pub cases : List Case
  pub counted : n ≡ length cases
  pub once : IsDistinct same_case cases
  pub known : (c : Case) → has_case cases c ≡ is_known (standing_of c)
