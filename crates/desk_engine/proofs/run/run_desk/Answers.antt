use Rattle.std.proofs.Common.{inl}
use Rattle.node_engine.specs.Answers.{state_of}
use Rattle.desk_engine.proofs.run.run_desk.Goals as goal

pub returns-in-Err-clause-breaks : goal.returns-in-Err-clause-breaks
returns-in-Err-clause-breaks g c = inl (state_of c.serve.new.serving, c.in-Err.ensures.breaks)
