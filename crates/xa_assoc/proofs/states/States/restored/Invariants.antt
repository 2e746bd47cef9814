use Rattle.std.proofs.Common.{◌≡◌, false, [], take}
use Rattle.xa_assoc.specs.Restored.{has_twice, states_left}
use Rattle.xa_assoc.proofs.states.States.restored.Given as goal

abbrev pub invariant-loop-xid : goal.invariant-loop-xid
invariant-loop-xid l = (l.branches.branches ≡ states_left (take l.xid-index l.left))
    × (l.branches.scans ≡ []) × (has_twice (take l.xid-index l.left) ≡ false)
