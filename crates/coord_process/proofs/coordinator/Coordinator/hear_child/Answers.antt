use Rattle.std.proofs.Common.{rules, ◌≡◌, subst, sym, refl}
use Rattle.protocol.specs.declared.messages.Message.{Message}
use Rattle.protocol.specs.declared.messages.Message.TheVariants.{Joined, Yes, No, Read, Ack, Inquire}
use Rattle.protocol_words.specs.Variants.{MessageInput, VoteNo, VoteRead, VoteYes}
use Rattle.process_state.specs.Turns.{ack_turn, child_says, child_turn, inquiry_turn, vote_turn}
use Rattle.coord_process.specs.States.{state}
use Rattle.coord_process.specs.Meets.{Hears, HearsFrom}
use Rattle.coord_process.proofs.Heard.{heard_from, hears_joined}
use Rattle.coord_process.proofs.coordinator.Coordinator.hear_child.Goals as goal

pub returns-in-Joined : goal.returns-in-Joined
returns-in-Joined g c =
    let is : c.args.message.now ≡ Joined c.in-Joined.case c.in-Joined.ticket = search rules in
    subst (λ (m : Message). Hears c.args.self.now (MessageInput c.args.number m)
    (λ found. child_says (state c.args.self.now) found m) c.hear_case.result) (sym is)
    (hears_joined c.args.self.now c.args.number c.in-Joined.case c.in-Joined.ticket c.hear_case.result
    c.hear_case.ensures.is c.hear_case.ensures.may)

pub returns-in-Yes : goal.returns-in-Yes
returns-in-Yes g c =
    let is : c.args.message.now ≡ Yes c.in-Yes.case = search rules in
    let hears : HearsFrom c.args.self.now c.in-Yes.case (λ found. child_turn c.in-Yes.case
    (λ t. vote_turn (state c.args.self.now) VoteYes t found)) c.hear_vote.result = search rules in
    subst (λ (m : Message). Hears c.args.self.now (MessageInput c.args.number m)
    (λ found. child_says (state c.args.self.now) found m) c.hear_vote.result) (sym is)
    (heard_from c.args.self.now (MessageInput c.args.number (Yes c.in-Yes.case)) c.in-Yes.case
    (λ found. child_says (state c.args.self.now) found (Yes c.in-Yes.case)) c.hear_vote.result
    refl (λ d u. refl) hears)

pub returns-in-No : goal.returns-in-No
returns-in-No g c =
    let is : c.args.message.now ≡ No c.in-No.case = search rules in
    let hears : HearsFrom c.args.self.now c.in-No.case (λ found. child_turn c.in-No.case
    (λ t. vote_turn (state c.args.self.now) VoteNo t found)) c.hear_vote-in-No.result = search rules in
    subst (λ (m : Message). Hears c.args.self.now (MessageInput c.args.number m)
    (λ found. child_says (state c.args.self.now) found m) c.hear_vote-in-No.result) (sym is)
    (heard_from c.args.self.now (MessageInput c.args.number (No c.in-No.case)) c.in-No.case
    (λ found. child_says (state c.args.self.now) found (No c.in-No.case)) c.hear_vote-in-No.result
    refl (λ d u. refl) hears)

pub returns-in-Read : goal.returns-in-Read
returns-in-Read g c =
    let is : c.args.message.now ≡ Read c.in-Read.case = search rules in
    let hears : HearsFrom c.args.self.now c.in-Read.case (λ found. child_turn c.in-Read.case
    (λ t. vote_turn (state c.args.self.now) VoteRead t found)) c.hear_vote-in-Read.result = search rules in
    subst (λ (m : Message). Hears c.args.self.now (MessageInput c.args.number m)
    (λ found. child_says (state c.args.self.now) found m) c.hear_vote-in-Read.result) (sym is)
    (heard_from c.args.self.now (MessageInput c.args.number (Read c.in-Read.case)) c.in-Read.case
    (λ found. child_says (state c.args.self.now) found (Read c.in-Read.case)) c.hear_vote-in-Read.result
    refl (λ d u. refl) hears)

pub returns-in-Ack : goal.returns-in-Ack
returns-in-Ack g c =
    let is : c.args.message.now ≡ Ack c.in-Ack.case c.in-Ack.outcome c.in-Ack.findings = search rules in
    let hears : HearsFrom c.args.self.now c.in-Ack.case (λ found. child_turn c.in-Ack.case
    (λ t. ack_turn (state c.args.self.now) c.in-Ack.outcome c.in-Ack.findings t found))
    c.hear_ack.result = search rules in
    subst (λ (m : Message). Hears c.args.self.now (MessageInput c.args.number m)
    (λ found. child_says (state c.args.self.now) found m) c.hear_ack.result) (sym is)
    (heard_from c.args.self.now (MessageInput c.args.number
    (Ack c.in-Ack.case c.in-Ack.outcome c.in-Ack.findings))
    c.in-Ack.case
    (λ found. child_says (state c.args.self.now) found (Ack c.in-Ack.case c.in-Ack.outcome c.in-Ack.findings))
    c.hear_ack.result
    refl (λ d u. refl) hears)

pub returns-in-Inquire : goal.returns-in-Inquire
returns-in-Inquire g c =
    let is : c.args.message.now ≡ Inquire c.in-Inquire.case = search rules in
    let hears : HearsFrom c.args.self.now c.in-Inquire.case (λ found. child_turn c.in-Inquire.case
    (λ t. inquiry_turn (state c.args.self.now) c.in-Inquire.case.txn t found)) c.hear_inquiry.result =
    search rules in
    subst (λ (m : Message). Hears c.args.self.now (MessageInput c.args.number m)
    (λ found. child_says (state c.args.self.now) found m) c.hear_inquiry.result) (sym is)
    (heard_from c.args.self.now (MessageInput c.args.number (Inquire c.in-Inquire.case)) c.in-Inquire.case
    (λ found. child_says (state c.args.self.now) found (Inquire c.in-Inquire.case)) c.hear_inquiry.result
    refl (λ d u. refl) hears)
