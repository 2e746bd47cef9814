use Rattle.std.proofs.Common.{◌≢◌, refl, rules}
use Rattle.xa_words.specs.code
use Rattle.xa_assoc.specs.Associations.{suspend_plan, has_active}
use Rattle.xa_assoc.specs.Answers.{state_at}
use Rattle.xa_assoc.specs.Reacting.{left_by, suspend_call}
use Rattle.xa_assoc.proofs.Reactions.{made_step, suspend_is_plan, suspend_listed}
use Rattle.xa_assoc.proofs.states.States.suspend_work.Goals as goal

pub returns-clause-answer : goal.returns-clause-answer
returns-clause-answer c =
    let old = c.args.self.now in
    let t = c.args.thread in
    let x = c.args.xid.now in
    let lost = c.args.lost in
    let not_proto : c.in_ok-code.code ≢ code.Proto = search rules in
    let not_limit : c.in_ok-code.code ≢ code.RmErr = search rules in
    made_step old (record { init = old.init; branches = c.place.new.self; associations = c.suspend.new.self })
    t x (suspend_call c.args.migrate) (suspend_plan old.associations t x lost c.args.migrate)
    (left_by lost (has_active c.suspend.new.self x)) c.left-to.result c.in_ok-code.code
    (suspend_is_plan old.associations t x lost c.args.migrate) c.in_ok-code.ensures.answer not_proto not_limit
    (suspend_listed lost c.args.migrate (has_active c.suspend.new.self x)
    (state_at old x) old.associations t x c.requires.at) c.left-to.ensures
    (c.place.ensures.moved x c.requires.place.stands) refl
