-- What a restart makes of a coordinator's log.
use Rattle.std.specs.Prelude.{◌≡◌, ◌≤◌, ◌+◌, ◌^◌, ⊤, ℕ, List, ◌++◌}
use Rattle.protocol.specs.declared.events.StepError.{StepError}
use Rattle.protocol.specs.declared.events.StepError.TheVariants.{Exhausted, Memory}
use Rattle.protocol.specs.declared.records.Record.{Record}
use Rattle.protocol.specs.Restarts.{coordinator_reopens}
use Rattle.coord_records.specs.Remembered.{RemembersCases}
use Rattle.coord_records.specs.declared.planning.RestartPlan.{RestartPlan}

-- what a restart with these records appends, and that it is remembered what all of them then say
pub record IsPlan (rs : List Record) (p : RestartPlan) : Type 0 where
  pub appended : p.appended.items ≡ coordinator_reopens rs
  pub remembered : RemembersCases (rs ++ coordinator_reopens rs) p.remembered

-- why no restart was planned after this boot: memory was refused, or there is no next boot
abbrev pub NotPlanned : ℕ → StepError → Type 0
NotPlanned boot Memory = ⊤
NotPlanned boot Exhausted = 2 ^ 63 ≤ boot + 1
NotPlanned boot e = ⊥
