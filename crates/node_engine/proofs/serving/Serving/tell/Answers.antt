use Rattle.std.proofs.Common.{◌∙◌, sym}
use Rattle.node_engine.specs.Answers.{is_root, state_of}
use Rattle.node_engine.proofs.Answering.{outcome_refused, outcome_told}
use Rattle.node_engine.proofs.serving.Serving.tell.Goals as goal

pub returns-then-is_root-clause-ok : goal.returns-then-is_root-clause-ok
returns-then-is_root-clause-ok g c =
    outcome_told (λ text. text.items) c.args.txn.now (state_of c.args.self.now)
    (is_root (state_of c.args.self.now))
    c.tell_own.result (sym c.is_root.ensures ∙ c.if-is_root.true) c.tell_own.ensures.ok

pub returns-else-is_root-clause-ok : goal.returns-else-is_root-clause-ok
returns-else-is_root-clause-ok g c =
    outcome_refused (λ text. text.items) c.args.txn.now (state_of c.args.self.now)
    (is_root (state_of c.args.self.now)) c.refuse.result (sym c.is_root.ensures ∙ c.if-is_root.false)
    c.refuse.ensures.ok
