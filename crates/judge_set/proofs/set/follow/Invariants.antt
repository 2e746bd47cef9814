use Rattle.std.proofs.Common.{◌≤◌, take}
use Rattle.std.specs.Prelude.{vec_len}
use Rattle.judge_rules.specs.declared.errors.TheConstants.{MOST_STATES}
use Rattle.judge_rules.specs.Sets.{AreApartStates}
use Rattle.judge_set.specs.Sets.{Follows}
use Rattle.judge_set.proofs.set.follow.Given as goal

abbrev pub invariant-loop-state : goal.invariant-loop-state
invariant-loop-state l = record {
  follows : Follows l.rules (take l.state-index l.states) l.event l.after.items;
  apart : AreApartStates l.after.items;
  few : vec_len l.after ≤ MOST_STATES;
}
