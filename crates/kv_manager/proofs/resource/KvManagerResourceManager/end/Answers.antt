use Rattle.std.proofs.Common.{◌≡◌}
use Rattle.xa_words.specs.code
use Rattle.xa_tables.specs.declared.call.Verb.TheVariants.{End}
use Rattle.xa_assoc.specs.Answers.{AnswersCall, Wanted}
use Rattle.kv_state.specs.Stores.{MovesTables}
use Rattle.resource_manager.specs.Sights.{ManagerCalls}
use Rattle.kv_manager.specs.Resources.{sight_of}
use Rattle.kv_manager.specs.Turns.{KvCalls}
use Rattle.kv_manager.proofs.Keeping.{map_ok}
use Rattle.kv_manager.proofs.Resources.{called}
use Rattle.kv_manager.proofs.resource.KvManagerResourceManager.end.Goals as goal

pub returns-clause-answer : goal.returns-clause-answer
returns-clause-answer g c =
    map_ok (λ answer. (wanted : Wanted) → KvCalls c.args.self.now c.end.new.self (answer ≡ code.RmFail)
    (λ before behind. MovesTables before behind
    (λ old new. AnswersCall wanted old new End c.args.thread c.args.xid.now c.args.flags.0 answer)))
    (λ answer. (wanted : Wanted) → ManagerCalls (sight_of c.args.self.now)
    (sight_of c.end.new.self) (answer ≡ code.RmFail)
    (λ old new. AnswersCall wanted old new End c.args.thread c.args.xid.now c.args.flags.0 answer))
    c.end.result c.end.ensures.answer
    (λ answer made wanted. called c.args.self.now c.end.new.self (answer ≡ code.RmFail)
    (λ old new. AnswersCall wanted old new End c.args.thread c.args.xid.now c.args.flags.0 answer)
    (made wanted))
