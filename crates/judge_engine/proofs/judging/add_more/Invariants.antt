use Rattle.std.proofs.Common.{◌≡◌, ◌<◌, ◌≤◌, length}
use Rattle.judge_engine.specs.Faults.{IsAt, indices}
use Rattle.judge_engine.specs.Reports.{first_index}
use Rattle.judge_engine.proofs.judging.add_more.Given as goal

abbrev pub invariant-loop-turn : goal.invariant-loop-turn
invariant-loop-turn l = record {
  some : 0 < length l.found.items;
  first : first_index l.found.items ≡ first_index l.initial.found.items;
  here : IsAt l.transcript.rules l.transcript.events.items (indices l.found.items) l.at l.before.items;
  past : l._turn ≤ l.at;
}
