use Rattle.std.proofs.Common.{◌≢◌, ◌∙◌, ap, refl, rules}
use Rattle.std.specs.Prelude.{◌||◌, not}
use Rattle.xa_words.specs.code
use Rattle.xa_assoc.specs.Associations.{end_plan, has_active}
use Rattle.xa_assoc.specs.Answers.{state_at}
use Rattle.xa_assoc.specs.Reacting.{left_by, end_call}
use Rattle.xa_assoc.proofs.Reactions.{made_step, end_is_plan, end_listed}
use Rattle.xa_assoc.proofs.states.States.end_work.Goals as goal

pub returns : goal.returns
returns c =
    let old = c.args.self.now in
    let t = c.args.thread in
    let x = c.args.xid.now in
    let lost = c.args.lost in
    let not_proto : c.end-code.result ≢ code.Proto = search rules in
    let not_limit : c.end-code.result ≢ code.RmErr = search rules in
    made_step old
    (record { init = old.init; branches = c.place.new.self; associations = c.end-code.new.self }) t x
    (end_call c.args.succeeds) (end_plan old.associations t x lost c.args.succeeds)
    (left_by (lost || not c.args.succeeds) (has_active c.end-code.new.self x)) c.left-to.result
    c.end-code.result (end_is_plan old.associations t x lost c.args.succeeds)
    c.end-code.ensures not_proto not_limit
    (end_listed lost c.args.succeeds (has_active c.end-code.new.self x)
    (state_at old x) old.associations t x c.requires.at)
    (c.left-to.ensures ∙ ap (λ b. left_by b (has_active c.end-code.new.self x)) c.is_failed.ensures)
    (c.place.ensures.moved x c.requires.place.stands) refl
