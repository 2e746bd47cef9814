use Rattle.std.proofs.Common.{◌≢◌, refl, rules}
use Rattle.xa_words.specs.code
use Rattle.xa_words.specs.call
use Rattle.xa_assoc.specs.Associations.{resume_plan}
use Rattle.xa_assoc.specs.Answers.{state_at}
use Rattle.xa_assoc.specs.Reacting.{resumed}
use Rattle.xa_assoc.proofs.Reactions.{made_step, resume_is_plan, resume_listed}
use Rattle.xa_assoc.proofs.states.States.resume_work.Goals as goal

pub returns-clause-answer : goal.returns-clause-answer
returns-clause-answer c =
    let old = c.args.self.now in
    let t = c.args.thread in
    let x = c.args.xid.now in
    let lost = c.args.lost in
    let not_proto : c.in_ok-code.code ≢ code.Proto = search rules in
    let not_limit : c.in_ok-code.code ≢ code.RmErr = search rules in
    made_step old (record { init = old.init; branches = c.place.new.self; associations = c.resume.new.self })
    t x call.StartResume (resume_plan old.associations t x lost) (resumed lost) c.resumed.result
    c.in_ok-code.code (resume_is_plan old.associations t x lost) c.in_ok-code.ensures.answer not_proto
    not_limit
    (resume_listed lost (state_at old x) old.associations t x c.requires.at) c.resumed.ensures
    (c.place.ensures.moved x c.requires.place.stands) refl
