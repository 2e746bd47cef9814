use Rattle.std.proofs.Common.{[]}
use Rattle.std.specs.Prelude.{Contains}
use Rattle.judge_state.specs.Sights.{Sight}
use Rattle.judge_rules.specs.Sets.{Adds}
use Rattle.judge_rules.proofs.sets.each_once.Given as goal

abbrev pub invariant-loop-state : goal.invariant-loop-state
invariant-loop-state l = record {
  adds : Adds [] l.set.items l.yielded;
  among : (t : Sight) → Contains l.set.items t → Contains l.fn.states.items t;
}
