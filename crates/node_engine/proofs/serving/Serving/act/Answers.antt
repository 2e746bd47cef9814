use Rattle.std.proofs.Common.{◌∙◌, ap, true, false, refl}
use Rattle.protocol.specs.declared.names.ProcessId.{ProcessId}
use Rattle.protocol_words.specs.Variants.{ActInput}
use Rattle.protocol.specs.Names.{same_process}
use Rattle.protocol.specs.Plays.{process_of_act}
use Rattle.protocol.specs.Trees.{root_of}
use Rattle.node_engine.specs.Answers.{state_of}
use Rattle.node_engine.proofs.Answering.{mine_err, mine_ok, others_err, others_ok, process_tested}
use Rattle.node_engine.proofs.serving.Serving.act.Goals as goal

pub returns-then-is-clause-ok : goal.returns-then-is-clause-ok
returns-then-is-clause-ok g c =
    mine_ok (λ text. text.items) (same_process (process_of_act (root_of c.args.self.now.tree) c.args.act.now)
    c.args.self.now.me) (state_of c.args.self.now)
    (state_of c.make.new.self) (ActInput c.args.act.now) c.make.result
    (process_tested c.process.result (process_of_act (root_of c.args.self.now.tree) c.args.act.now)
    c.args.self.now.me
    c.is.result true (c.process.ensures ∙ ap
    (λ (r : ProcessId). process_of_act r c.args.act.now) c.root.ensures)
    c.is.ensures c.if-is.true) c.make.ensures.ok

pub returns-then-is-clause-err : goal.returns-then-is-clause-err
returns-then-is-clause-err g c =
    mine_err (same_process (process_of_act (root_of c.args.self.now.tree) c.args.act.now)
    c.args.self.now.me) (state_of c.args.self.now)
    (state_of c.make.new.self) (ActInput c.args.act.now) c.make.result
    (process_tested c.process.result (process_of_act (root_of c.args.self.now.tree) c.args.act.now)
    c.args.self.now.me
    c.is.result true (c.process.ensures ∙ ap
    (λ (r : ProcessId). process_of_act r c.args.act.now) c.root.ensures)
    c.is.ensures c.if-is.true) c.make.ensures.err

pub returns-else-is-clause-ok : goal.returns-else-is-clause-ok
returns-else-is-clause-ok g c =
    others_ok (λ text. text.items) (same_process
    (process_of_act (root_of c.args.self.now.tree) c.args.act.now)
    c.args.self.now.me) (state_of c.args.self.now)
    (state_of c.args.self.now) (ActInput c.args.act.now) c.refusal.result
    (process_tested c.process.result (process_of_act (root_of c.args.self.now.tree) c.args.act.now)
    c.args.self.now.me
    c.is.result false (c.process.ensures ∙ ap (λ (r : ProcessId). process_of_act r c.args.act.now)
    c.root.ensures)
    c.is.ensures c.if-is.false) refl c.refusal.ensures.text

pub returns-else-is-clause-err : goal.returns-else-is-clause-err
returns-else-is-clause-err g c =
    others_err (same_process (process_of_act (root_of c.args.self.now.tree) c.args.act.now)
    c.args.self.now.me) (state_of c.args.self.now)
    (state_of c.args.self.now) (ActInput c.args.act.now) c.refusal.result
    (process_tested c.process.result (process_of_act (root_of c.args.self.now.tree) c.args.act.now)
    c.args.self.now.me
    c.is.result false (c.process.ensures ∙ ap (λ (r : ProcessId). process_of_act r c.args.act.now)
    c.root.ensures)
    c.is.ensures c.if-is.false) refl c.refusal.ensures.err
