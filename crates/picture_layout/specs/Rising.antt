-- The rows of a run rise with its steps.
use Rattle.std.specs.Prelude.{◌≡◌, ℕ, ◌+◌, ◌<◌, ◌≤◌, nat_lt, Bool, if◌then◌else◌, Option, None, Some, List, [], ◌∷◌, length}
use Rattle.picture_layout.specs.declared.rows.StepRows.{StepRows}
use Rattle.picture_layout.specs.declared.rows.Steps.{Steps}

-- a step has rows from this one on: the first, the last of its records, and the first one after it
pub record HasRows (from : ℕ) (r : StepRows) : Type 0 where
  pub first : from ≤ r.first
  pub last : r.first ≤ r.last
  pub next : r.last < r.next

-- the rows of each step are below those of the step before it: all of them lie from one row up to another
abbrev pub RiseTo : ℕ → List StepRows → ℕ → Type 0
RiseTo from [] end = from ≤ end
RiseTo from (r ∷ rs) end = HasRows from r × RiseTo r.next rs end

-- the rows of the next step lie between these two rows, if there is a next step; else nothing was counted
abbrev pub IsNext : ℕ → ℕ → Option StepRows → Type 0
IsNext from end None = end ≡ from
IsNext from end (Some r) = HasRows from r × (end ≡ r.next)

-- the next step was gone over, if there is one
pub record GoesOver (old new : Steps) (found : Bool) : Type 0 where
  pub entries : new.entries ≡ old.entries
  pub there : found ≡ nat_lt old.made (length old.entries.now)
  pub made : new.made ≡ (if found then old.made + 1 else old.made)

-- there are rows for each step that was gone over
pub record ForEach (steps : Steps) (rows : List StepRows) : Type 0 where
  pub all : length rows ≡ steps.made
  pub within : steps.made ≤ length steps.entries.now

-- the next step was gone over, if there is one, and has its rows
pub record OneMore (old new : Steps) (before after : List StepRows) : Type 0 where
  pub entries : new.entries ≡ old.entries
  pub goes_on : old.made < length old.entries.now → new.made ≡ old.made + 1
  pub each : ForEach old before → ForEach new after
