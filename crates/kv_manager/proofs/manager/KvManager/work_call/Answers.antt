use Rattle.std.proofs.Common.{rules, ◌≡◌, refl, true, false, sym, ◌∙◌, subst, IfOk}
use Rattle.xa_words.specs.code
use Rattle.xa_tables.specs.declared.states.BranchState.TheVariants.{S0}
use Rattle.xa_tables.specs.Calls.{legal}
use Rattle.xa_assoc.specs.Answers.{AnswersCall, Wanted}
use Rattle.xa_assoc.specs.Ready.{leaves}
use Rattle.kv_state.specs.Stores.{MovesTables, SameKeyStore, is_decided}
use Rattle.kv_state.proofs.Moves.{works_keep}
use Rattle.kv_manager.specs.Sights.{KvSight}
use Rattle.kv_manager.specs.Turns.{KvCalls}
use Rattle.kv_manager.proofs.Keeping.{KeepsPromises, either_way, is_prepared, kept_by, map_ok, moved_promises, same_promises}
use Rattle.kv_manager.proofs.Staying.{works_doubts}
use Rattle.kv_manager.proofs.manager.KvManager.work_call.Goals as goal

pub invariant_of-self : goal.invariant_of-self
invariant_of-self g c =
    let s : KvSight = record {
      store = c.self.inside.store;
      log = c.self.inside.log;
      boot = c.self.inside.boot;
    } in
    kept_by s c.work_call.new.self c.self.invariant
    (either_way (λ answer. (wanted : Wanted) → MovesTables c.self.inside.store c.work_call.new.self
    (λ old new. AnswersCall wanted old new c.args.verb c.args.thread c.args.xid.now c.args.flags.0 answer))
    (λ e. (leaves (legal c.args.verb c.args.flags.0) ≡ false)
    × SameKeyStore c.self.inside.store c.work_call.new.self)
    (KeepsPromises c.self.inside.store c.work_call.new.self) c.work_call.result
    c.work_call.ensures.answer c.work_call.ensures.err
    (λ answer made. moved_promises c.self.inside.store c.work_call.new.self
    (works_doubts (λ k. (code.Proto, S0)) _ _ c.args.verb c.args.thread c.args.xid.now c.args.flags.0 answer
    c.requires (made (λ k. (code.Proto, S0))).tables)
    (works_keep is_prepared (λ k. (code.Proto, S0)) _ _ c.args.verb c.args.thread
    c.args.xid.now c.args.flags.0 answer (record { one = refl; two = refl; four = refl }) c.requires
    (made (λ k. (code.Proto, S0))).tables)
    (works_keep is_decided (λ k. (code.Proto, S0)) _ _ c.args.verb c.args.thread
    c.args.xid.now c.args.flags.0 answer (record { one = refl; two = refl; four = refl }) c.requires
    (made (λ k. (code.Proto, S0))).tables)
    (made (λ k. (code.Proto, S0))).writes (made (λ k. (code.Proto, S0))).versions
    (made (λ k. (code.Proto, S0))).decisions)
    (λ e stays. same_promises c.self.inside.store c.work_call.new.self stays.1))

pub returns-clause-answer : goal.returns-clause-answer
returns-clause-answer g c =
    let s : KvSight = record {
      store = c.self.inside.store;
      log = c.self.inside.log;
      boot = c.self.inside.boot;
    } in
    let after : KvSight = record {
      store = c.work_call.new.self;
      log = c.self.inside.log;
      boot = c.self.inside.boot;
    } in
    let works : s.log.sight.failed ≡ false = search rules in
    subst (λ v. IfOk c.work_call.result (λ answer. (wanted : Wanted) → KvCalls v after (answer ≡ code.RmFail)
    (λ before behind. MovesTables before behind
    (λ old new. AnswersCall wanted old new c.args.verb c.args.thread
    c.args.xid.now c.args.flags.0 answer)))) c.self.view_is
    (map_ok (λ answer. (wanted : Wanted) → MovesTables s.store after.store
    (λ old new. AnswersCall wanted old new c.args.verb c.args.thread c.args.xid.now c.args.flags.0 answer))
    (λ answer. (wanted : Wanted) → KvCalls s after
    (answer ≡ code.RmFail) (λ before behind. MovesTables before behind
    (λ old new. AnswersCall wanted old new c.args.verb c.args.thread c.args.xid.now c.args.flags.0 answer)))
    c.work_call.result c.work_call.ensures.answer
    (λ answer made wanted. record {
      failed = λ no_more. absurd (let never : true ≡ false = sym no_more ∙ works in cc);
      works = λ stands. made wanted;
      log = refl;
      boot = refl;
    }))
