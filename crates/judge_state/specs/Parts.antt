-- The parts of a state.
use Rattle.std.specs.Prelude.{ℕ, Bool, true, false, ◌==◌}
use Rattle.judge_state.specs.declared.parts.JudgedBranch.{JudgedBranch}
use Rattle.judge_state.specs.declared.parts.Stand.{Stand}
use Rattle.judge_state.specs.declared.parts.Stand.TheVariants.{Active, Prepared, RollbackOnly, Heuristic}

-- a branch neither prepared nor decided may stand so
abbrev pub works_on : Stand → Bool
works_on Active = true
works_on RollbackOnly = true
works_on Prepared = false
works_on (Heuristic d) = false

-- a branch that a recover lists stands so
abbrev pub waits : Stand → Bool
waits Active = false
waits RollbackOnly = false
waits Prepared = true
waits (Heuristic d) = true

-- a branch is neither prepared nor decided
abbrev pub is_at_work : JudgedBranch → Bool
is_at_work b = works_on b.stand

-- a branch is prepared, or decided heuristically
abbrev pub is_in_doubt : JudgedBranch → Bool
is_in_doubt b = waits b.stand

-- a branch has this name
abbrev pub is_named : ℕ → JudgedBranch → Bool
is_named x b = b.name == x
