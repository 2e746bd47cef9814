-- What a branch does at each stage.
use Rattle.std.specs.Prelude.{◌≡◌, ◌+◌, ◌==◌, ◌&&◌, not, ℕ, Bool, true, false, is_none, Option, Some, None}
use Rattle.protocol.specs.declared.names.Case.{Case}
use Rattle.sub_branches.specs.declared.branch.BranchStage.{BranchStage}
use Rattle.sub_branches.specs.declared.branch.BranchStage.TheVariants.{Active, Heuristic, Prepared}

-- a branch at this stage asks its parent for the outcome: it is in doubt, or an operator decided it and it
-- was not told
abbrev pub awaits : BranchStage → Bool
awaits (Active d done spoiled) = false
awaits Prepared = true
awaits (Heuristic told) = is_none told

-- a branch at this stage takes the work with this number: it is Active, no work was refused, and this is the
-- next
abbrev pub takes : BranchStage → ℕ → Bool
takes (Active d done spoiled) i = (i == done + 1) && not spoiled
takes _ i = false

-- what a branch has that takes the work with this number: the parent's case of its ticket, and how many
-- works are done; nothing, where it takes no such work
abbrev pub TakesBy : BranchStage → ℕ → Option (Case × ℕ) → Type 0
TakesBy stage i None = takes stage i ≡ false
TakesBy stage i (Some f) = (stage ≡ Active f.0 f.1 false) × (i ≡ f.1 + 1)
