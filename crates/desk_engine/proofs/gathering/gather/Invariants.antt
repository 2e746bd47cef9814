use Rattle.node_engine.specs.Answers.{state_of}
use Rattle.desk_engine.specs.Groups.{Gathers}
use Rattle.desk_engine.proofs.gathering.gather.Given as goal

-- the lines so far were gathered
abbrev pub invariant-loop : goal.invariant-loop
invariant-loop g l = record {
  gathered : Gathers l.fn.ways (state_of l.fn.serving) (state_of l.serving) (g.R.Read.remaining l.fn.reader)
      (g.R.Read.remaining l.reader) l.group.told.items;
}
