use Rattle.tree_process.specs.Nodes.{core_of, data_of}
use Rattle.process_state.specs.Inputs.{input_of}
use Rattle.node_engine.specs.Answers.{state_of}
use Rattle.node_engine.proofs.Answering.{refused_err, refused_ok, shown_err, shown_ok}
use Rattle.node_engine.proofs.serving.Serving.make.Goals as goal

pub returns-in-Ok-clause-ok : goal.returns-in-Ok-clause-ok
returns-in-Ok-clause-ok g c =
    shown_ok (λ text. text.items) (state_of c.args.self.now) (core_of c.handle.new.self)
    (data_of c.handle.new.self)
    (input_of c.args.input) c.in-Ok.reaction (state_of c.show.new.self) c.show.result
    c.in-Ok.ensures.ok c.show.ensures.ok

pub returns-in-Ok-clause-err : goal.returns-in-Ok-clause-err
returns-in-Ok-clause-err g c =
    shown_err (state_of c.args.self.now) (core_of c.handle.new.self) (data_of c.handle.new.self)
    (input_of c.args.input) c.in-Ok.reaction (state_of c.show.new.self) c.show.result
    c.in-Ok.ensures.ok c.show.ensures.err c.show.ensures.why

pub returns-in-Err-clause-ok : goal.returns-in-Err-clause-ok
returns-in-Err-clause-ok g c =
    refused_ok (λ text. text.items) (state_of c.args.self.now) (core_of c.handle.new.self)
    (data_of c.handle.new.self) (input_of c.args.input) c.in-Err.error c.refusal.result
    c.in-Err.ensures.err c.refusal.ensures.text c.refusal.ensures.refusal

pub returns-in-Err-clause-err : goal.returns-in-Err-clause-err
returns-in-Err-clause-err g c =
    refused_err (state_of c.args.self.now) (core_of c.handle.new.self)
    (data_of c.handle.new.self) (input_of c.args.input) c.in-Err.error c.refusal.result
    c.in-Err.ensures.err c.refusal.ensures.err
