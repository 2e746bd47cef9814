use Rattle.std.proofs.Common.{◌≡◌}
use Rattle.protocol_words.specs.Types.{AnyReaction}
use Rattle.node_engine.specs.Answers.{state_of}
use Rattle.node_engine.specs.Runs.{Stand, stand}
use Rattle.desk_engine.specs.Weaves.{Woven}
use Rattle.desk_engine.proofs.run.take_turns.Given as goal

-- the desk may do what it might, and what was woven before is still woven
abbrev pub invariant-loop : goal.invariant-loop
invariant-loop g l = record {
  ways : l.watch.ways ≡ l.fn.watch.ways;
  woven : (start : Stand) → (opening : AnyReaction)
      → Woven l.fn.watch.ways start opening
      (stand (g.R.Read.remaining l.fn.reader) (g.W.Write.contents l.fn.writer) (state_of l.fn.serving))
      → Woven l.fn.watch.ways start opening
      (stand (g.R.Read.remaining l.reader) (g.W.Write.contents l.writer) (state_of l.serving));
}
