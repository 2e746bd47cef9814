use Rattle.std.proofs.Common.{rules, ◌≡◌, subst, sym}
use Rattle.protocol.specs.declared.messages.Message.{Message}
use Rattle.protocol.specs.declared.messages.Message.TheVariants.{Prepare, Commit, Abort}
use Rattle.protocol_words.specs.Variants.{MessageInput}
use Rattle.process_state.specs.Turns.{cascaded_turn}
use Rattle.coord_process.specs.States.{state}
use Rattle.coord_process.specs.Meets.{Hears}
use Rattle.coord_process.proofs.Heard.{hears_abort, hears_commit, hears_prepare}
use Rattle.coord_process.proofs.coordinator.Coordinator.hear_parent.Goals as goal

pub returns-in-Prepare : goal.returns-in-Prepare
returns-in-Prepare g c =
    let is : c.args.message.now ≡ Prepare c.in-Prepare.case c.in-Prepare.field-1 = search rules in
    subst (λ (m : Message). Hears c.args.self.now (MessageInput c.args.number m)
    (λ found. cascaded_turn (state c.args.self.now) c.args.parent found m) c.hear_case.result) (sym is)
    (hears_prepare c.args.self.now c.args.number c.args.parent c.in-Prepare.case c.hear_case.result
    c.in-Prepare.field-1 c.hear_case.ensures.is c.hear_case.ensures.may)

pub returns-in-Commit : goal.returns-in-Commit
returns-in-Commit g c =
    let is : c.args.message.now ≡ Commit c.in-Commit.case = search rules in
    subst (λ (m : Message). Hears c.args.self.now (MessageInput c.args.number m) (λ found. cascaded_turn
    (state c.args.self.now) c.args.parent found m) c.hear_case-in-Commit.result) (sym is)
    (hears_commit c.args.self.now c.args.number c.args.parent c.in-Commit.case c.hear_case-in-Commit.result
    c.hear_case-in-Commit.ensures.is c.hear_case-in-Commit.ensures.may)

pub returns-in-Abort : goal.returns-in-Abort
returns-in-Abort g c =
    let is : c.args.message.now ≡ Abort c.in-Abort.case = search rules in
    subst (λ (m : Message). Hears c.args.self.now (MessageInput c.args.number m) (λ found. cascaded_turn
    (state c.args.self.now) c.args.parent found m) c.hear_case-in-Abort.result) (sym is)
    (hears_abort c.args.self.now c.args.number c.args.parent c.in-Abort.case c.hear_case-in-Abort.result
    c.hear_case-in-Abort.ensures.is c.hear_case-in-Abort.ensures.may)
