use Rattle.std.proofs.Common.{◌∙◌, sym, refl}
use Rattle.protocol_words.specs.Variants.{MessageInput}
use Rattle.node_engine.specs.Answers.{hears, state_of}
use Rattle.node_engine.proofs.Answering.{mine_err, mine_ok, others_err, others_ok}
use Rattle.node_engine.proofs.serving.Serving.hear.Goals as goal

pub returns-then-hears-clause-ok : goal.returns-then-hears-clause-ok
returns-then-hears-clause-ok g c =
    mine_ok (λ text. text.items) (hears (state_of c.args.self.now) c.args.envelope.now)
    (state_of c.args.self.now) (state_of c.make.new.self)
    (MessageInput c.args.number c.args.envelope.now.message) c.make.result
    (sym c.hears.ensures ∙ c.if-hears.true) c.make.ensures.ok

pub returns-then-hears-clause-err : goal.returns-then-hears-clause-err
returns-then-hears-clause-err g c =
    mine_err (hears (state_of c.args.self.now) c.args.envelope.now) (state_of c.args.self.now)
    (state_of c.make.new.self)
    (MessageInput c.args.number c.args.envelope.now.message) c.make.result
    (sym c.hears.ensures ∙ c.if-hears.true) c.make.ensures.err

pub returns-else-hears-clause-ok : goal.returns-else-hears-clause-ok
returns-else-hears-clause-ok g c =
    others_ok (λ text. text.items) (hears (state_of c.args.self.now) c.args.envelope.now)
    (state_of c.args.self.now) (state_of c.args.self.now)
    (MessageInput c.args.number c.args.envelope.now.message) c.refusal.result
    (sym c.hears.ensures ∙ c.if-hears.false) refl c.refusal.ensures.text

pub returns-else-hears-clause-err : goal.returns-else-hears-clause-err
returns-else-hears-clause-err g c =
    others_err (hears (state_of c.args.self.now) c.args.envelope.now) (state_of c.args.self.now)
    (state_of c.args.self.now)
    (MessageInput c.args.number c.args.envelope.now.message) c.refusal.result
    (sym c.hears.ensures ∙ c.if-hears.false) refl c.refusal.ensures.err
