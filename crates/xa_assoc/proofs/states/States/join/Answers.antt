use Rattle.std.proofs.Common.{◌≡◌, rules, subst, sym}
use Rattle.std.specs.Prelude.{IfOk}
use Rattle.xa_words.specs.call
use Rattle.xa_tables.specs.declared.states.BranchState.TheVariants.{S1}
use Rattle.xa_assoc.specs.Answers.{ReactsByRows, state_at}
use Rattle.xa_assoc.proofs.Reactions.{joins_by}
use Rattle.xa_assoc.proofs.states.States.join.Goals as goal

pub returns-in-S1-clause-answer : goal.returns-in-S1-clause-answer
returns-in-S1-clause-answer c =
    let old = c.args.self.now in
    let state : state_at old c.args.xid.now ≡ c.in-Some.state = search rules in
    subst (λ plan. IfOk c.join_work.result (ReactsByRows old c.join_work.new.self c.args.thread c.args.xid.now
    call.StartJoin plan S1))
    (sym (joins_by old c.args.thread c.args.xid.now c.in-Some.state state c.in-S1.is))
    c.join_work.ensures.answer
