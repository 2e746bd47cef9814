use Rattle.std.proofs.Common.{rules, ◌≡◌, ap, true, false, subst, sym}
use Rattle.protocol.specs.declared.events.Input.{Input}
use Rattle.protocol.specs.declared.events.Input.TheVariants.{Act, Message}
use Rattle.protocol.specs.Reactions.{act_is_listed}
use Rattle.process_state.specs.Inputs.{input_of}
use Rattle.coord_process.specs.Meets.{Meets}
use Rattle.coord_process.proofs.Heard.{meets_act, meets_failed, meets_message, meets_unlisted}
use Rattle.coord_process.proofs.coordinator.Coordinator.meet.Goals as goal

pub returns-then-not-is_listed : goal.returns-then-not-is_listed
returns-then-not-is_listed g c =
    let unlisted : act_is_listed c.args.self.now.tree (input_of c.args.input) ≡ false = search rules in
    meets_unlisted c.args.self.now (input_of c.args.input) unlisted

pub returns-then-failed : goal.returns-then-failed
returns-then-failed g c =
    let listed : act_is_listed c.args.self.now.tree (input_of c.args.input) ≡ true = search rules in
    let failed : c.args.self.now.log.sight.failed ≡ true = search rules in
    meets_failed c.args.self.now (input_of c.args.input) listed failed

pub returns-in-Act : goal.returns-in-Act
returns-in-Act g c =
    let is : input_of c.args.input ≡ Act c.in-Act.act.now = ap input_of c.in-Act.is in
    let listed : act_is_listed c.args.self.now.tree (Act c.in-Act.act.now) ≡ true = search rules in
    let up : c.args.self.now.log.sight.failed ≡ false = search rules in
    subst (λ (i : Input). Meets c.args.self.now i c.meet_act.result) (sym is)
    (meets_act c.args.self.now c.in-Act.act.now c.meet_act.result listed up c.meet_act.ensures)

pub returns-in-Message : goal.returns-in-Message
returns-in-Message g c =
    let is : input_of c.args.input ≡ Message c.in-Message.number c.in-Message.message.now =
    ap input_of c.in-Message.is in
    let up : c.args.self.now.log.sight.failed ≡ false = search rules in
    subst (λ (i : Input). Meets c.args.self.now i c.hear.result) (sym is) (meets_message c.args.self.now
    c.in-Message.number c.in-Message.message.now c.hear.result up c.hear.ensures)
