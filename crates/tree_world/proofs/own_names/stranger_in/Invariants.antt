use Rattle.std.proofs.Common.{◌≡◌, ◌≤◌, ◌+◌, ◌-◌, length}
use Rattle.log_script.specs.Places.{placed_in}
use Rattle.tree_world.specs.OwnNames.{first_stranger, is_at_home}
use Rattle.tree_world.proofs.own_names.stranger_in.Given as goal

abbrev pub invariant-loop-kind : goal.invariant-loop-kind
invariant-loop-kind l =
    (first_stranger (is_at_home l.tree l.entry) l.boot
    (placed_in l.form (5 + (length l.frames - length l.rest)) 0 l.rest)
    ≡ first_stranger (is_at_home l.tree l.entry) 0 (placed_in l.form 5 0 l.frames))
    × (length l.rest ≤ length l.frames)

abbrev pub decreases-loop-kind : goal.decreases-loop-kind
decreases-loop-kind l = length l.rest
