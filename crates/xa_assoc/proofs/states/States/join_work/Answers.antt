use Rattle.std.proofs.Common.{◌≢◌, refl, rules}
use Rattle.xa_words.specs.code
use Rattle.xa_words.specs.call
use Rattle.xa_tables.specs.declared.states.BranchState.TheVariants.{S1}
use Rattle.xa_assoc.specs.Associations.{start_plan}
use Rattle.xa_assoc.specs.Answers.{state_at}
use Rattle.xa_assoc.proofs.Reactions.{made_step, start_is_plan, start_listed}
use Rattle.xa_assoc.proofs.states.States.join_work.Goals as goal

pub returns-clause-answer : goal.returns-clause-answer
returns-clause-answer c =
    let old = c.args.self.now in
    let t = c.args.thread in
    let x = c.args.xid.now in
    let not_proto : c.in_ok-code.code ≢ code.Proto = search rules in
    let not_limit : c.in_ok-code.code ≢ code.RmErr = search rules in
    made_step old (record { init = old.init; branches = c.place.new.self; associations = c.start.new.self })
    t x call.StartJoin (start_plan old.associations t x) S1 S1 c.in_ok-code.code
    (start_is_plan old.associations t x) c.in_ok-code.ensures.answer not_proto not_limit
    (start_listed (state_at old x) old.associations t x c.requires.at) refl
    (c.place.ensures.moved x c.requires.place.stands) refl
