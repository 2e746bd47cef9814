use Rattle.std.proofs.Common.{◌≡◌}
use Rattle.std.proofs.lemmas.Result.{IfOk-weaker}
use Rattle.xa_words.specs.code
use Rattle.xa_tables.specs.declared.call.Verb.TheVariants.{End}
use Rattle.xa_assoc.specs.Answers.{AnswersCall, Wanted}
use Rattle.resource_manager.specs.Sights.{ManagerCalls}
use Rattle.test_manager.specs.Sights.{limited}
use Rattle.test_manager.proofs.Limited.{calls_limited}
use Rattle.test_manager.proofs.calls.RefusingManagerResourceManager.end.Goals as goal

pub returns-clause-answer : goal.returns-clause-answer
returns-clause-answer g c =
    let before = g.M.ResourceManager.sight c.args.self.now.manager in
    let later = g.M.ResourceManager.sight c.end.new.self in
    IfOk-weaker c.end.result (λ answer. (wanted : Wanted) → ManagerCalls before later (answer ≡ code.RmFail)
    (λ old new. AnswersCall wanted old new End c.args.thread c.args.xid.now c.args.flags.0 answer))
    (λ answer. (wanted : Wanted) → ManagerCalls (limited before) (limited later) (answer ≡ code.RmFail)
    (λ old new. AnswersCall wanted old new End c.args.thread c.args.xid.now c.args.flags.0 answer))
    (λ answer made wanted. calls_limited before later (answer ≡ code.RmFail)
    (λ old new. AnswersCall wanted old new End c.args.thread c.args.xid.now c.args.flags.0 answer)
    (made wanted))
    c.end.ensures.answer
